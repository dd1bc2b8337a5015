-- What the calls promise, on every input: the whole answer, and the output afterwards.
use Rattle.std.specs.Prelude.{◌≡◌, ℕ, [], ◌∷◌, ◌++◌, length, drop, Result, Ok, Err}
use Rattle.spec.specs.Refusal.{done}
use Rattle.spec.specs.Bytes.{Bytes}
use Rattle.intel_hex.specs.Answer as Spec
use Rattle.intel_hex.specs.Answer.{write_answer, read_answer}
use Rattle.intel_hex.specs.Refusal.{number_of}
use Rattle.intel_hex.specs.declared.answer.Answer.{Answer}
use Rattle.intel_hex.specs.declared.refusal.HexFault.{HexFault}

-- the call's answer is this one, and the output afterwards is the written text, then the rest of the output as it was
pub record Answered (a : Spec.Answer) (before after : Bytes) (r : Answer) : Type 0 where
  pub number : r.number ≡ a.number
  pub place : r.place ≡ a.place
  pub written : r.length ≡ length a.written
  pub output : after ≡ a.written ++ drop (length a.written) before

abbrev pub WriteIs : Bytes → Bytes → Bytes → Answer → Type 0
WriteIs text before after r = Answered (write_answer text (length before)) before after r

abbrev pub ReadIs : Bytes → Bytes → Bytes → Answer → Type 0
ReadIs s before after r = Answered (read_answer s (length before)) before after r

-- The same for C: the fields of the answer that all calls share, in the order number, text, op, place, pointer, length; and its number.
pub record ExportIs (a : Spec.Answer) (before after fields : Bytes) (number : ℕ) : Type 0 where
  pub answer : Answer
  pub answers : Answered a before after answer
  pub fields_are : fields ≡ answer.number ∷ 0 ∷ 0 ∷ answer.place ∷ 0 ∷ answer.length ∷ []
  pub number_is : number ≡ answer.number

abbrev pub WritesC : Bytes → Bytes → Bytes → Bytes → ℕ → Type 0
WritesC text before after fields number = ExportIs (write_answer text (length before)) before after fields number

abbrev pub ReadsC : Bytes → Bytes → Bytes → Bytes → ℕ → Type 0
ReadsC s before after fields number = ExportIs (read_answer s (length before)) before after fields number

-- ---- what a result is laid down as

abbrev pub answer_of : Result ℕ HexFault → Answer
answer_of (Ok n) = record { number = done; place = 0; length = n }
answer_of (Err e) = record { number = number_of e.refusal; place = e.line; length = 0 }
