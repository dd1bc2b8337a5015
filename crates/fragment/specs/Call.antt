-- What the calls promise, on every input: the whole answer, and the output afterwards.
use Rattle.std.specs.Prelude.{ℕ, ◌≡◌, [], ◌∷◌, ◌++◌, length, drop, Result, Ok, Err}
use Rattle.spec.specs.Refusal.{done}
use Rattle.spec.specs.Bytes.{Bytes}
use Rattle.fragment.specs.Answer as Spec
use Rattle.fragment.specs.Answer.{write_answer, read_answer}
use Rattle.fragment.specs.Refusal.{number_of}
use Rattle.fragment.specs.declared.answer.Answer.{Answer}
use Rattle.fragment.specs.declared.refusal.LinkRefusal.{LinkRefusal}

-- the call's answer is this one, and the output afterwards is the written text, then the rest of the output as it was
pub record Answered (a : Spec.Answer) (before after : Bytes) (r : Answer) : Type 0 where
  pub number : r.number ≡ a.number
  pub written : r.length ≡ length a.written
  pub output : after ≡ a.written ++ drop (length a.written) before

abbrev pub WriteIs : Bytes → Bytes → Bytes → Answer → Type 0
WriteIs pointer before after r = Answered (write_answer pointer (length before)) before after r

abbrev pub ReadIs : Bytes → Bytes → Bytes → Answer → Type 0
ReadIs text before after r = Answered (read_answer text (length before)) before after r

-- The same for C: the fields of the answer that all calls share, in the order number, text, op, place, pointer, length; and its number.
pub record ExportIs (a : Spec.Answer) (before after fields : Bytes) (number : ℕ) : Type 0 where
  pub answer : Answer
  pub answers : Answered a before after answer
  pub fields_are : fields ≡ answer.number ∷ 0 ∷ 0 ∷ 0 ∷ 0 ∷ answer.length ∷ []
  pub number_is : number ≡ answer.number

abbrev pub WriteExportIs : Bytes → Bytes → Bytes → Bytes → ℕ → Type 0
WriteExportIs pointer before after fields number = ExportIs (write_answer pointer (length before)) before after fields number

abbrev pub ReadExportIs : Bytes → Bytes → Bytes → Bytes → ℕ → Type 0
ReadExportIs text before after fields number = ExportIs (read_answer text (length before)) before after fields number

-- ---- what the code answers on the way

-- the two kinds of answers
abbrev pub SuccessIs : ℕ → Answer → Type 0
SuccessIs written r = (r.number ≡ 0) × (r.length ≡ written)

abbrev pub RefusalIs : ℕ → Answer → Type 0
RefusalIs number r = (r.number ≡ number) × (r.length ≡ 0)

-- ---- what a result is laid down as

abbrev pub answer_of : Result ℕ LinkRefusal → Answer
answer_of (Ok n) = record { number = done; length = n }
answer_of (Err refusal) = record { number = number_of refusal; length = 0 }
