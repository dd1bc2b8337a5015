-- Patches in a row, said of the calls themselves: SPECIFICATION 11, T-13. Crate `sequence` speaks of the definition `answer`; this speaks of
-- whatever two calls answer, and of the outputs that they leave. Every call promises `Answered` of that definition (`ApplyIs`).
use Rattle.std.specs.Prelude.{◌≡◌, ℕ, ◌≤◌, List, ◌++◌, length, drop}
use Rattle.spec.specs.Bytes.{Bytes}
use Rattle.spec.specs.Patch.{Stop}
use Rattle.spec.specs.Answer as Spec
use Rattle.spec.specs.Answer.{Lent, answer}
use Rattle.sequence.specs.Sequence.{later, InARow, AllInARow}
use Rattle.json_patch.specs.Call.{SuccessIs, FailureIs, Answered}
use Rattle.json_patch.specs.declared.answer.Answer.{Answer}

-- an answer, with the output as it was before the call and as it is after
pub record Called : Type 0 where
  pub answer : Answer
  pub before : Bytes
  pub after : Bytes

abbrev pub Promises : Spec.Answer → Called → Type 0
Promises a call = Answered a call.before call.after call.answer

-- the call answers 0 and writes this text: the output begins with it, and is otherwise unchanged
pub record Writes (text : Bytes) (call : Called) : Type 0 where
  pub answers : SuccessIs (length text) call.answer
  pub laid : call.after ≡ text ++ drop (length text) call.before

-- the call answers this refusal, and the output is unchanged
pub record Refuses (s : Stop) (call : Called) : Type 0 where
  pub answers : FailureIs s.number s.op s.place s.pointer call.answer
  pub unchanged : call.after ≡ call.before

-- `Agree n c d`: both calls write one text, or both are refused alike, c with op less by n.
pub data Agree (n : ℕ) (c d : Called) : Type 0 where
  same_text : (t : Bytes) → Writes t c → Writes t d → Agree n c d
  same_refusal : (s : Stop) → 1 ≤ s.op → Refuses s c → Refuses (later n s) d → Agree n c d

pub record CallsStatement : Type 0 where
  pub two : (document first text second joined : Bytes) (lent-first lent-second lent-joined : Lent) →
      (c : InARow document first text second joined lent-first lent-second lent-joined) → (on-text on-document : Called) →
      Promises (answer text second lent-second) on-text → Promises (answer document joined lent-joined) on-document →
      Agree (length c.join.firsts) on-text on-document
  pub any-number : (document : Bytes) (patches : List Bytes) (joined : Bytes) (n : ℕ) (a : Spec.Answer) (lent : Lent) →
      AllInARow document patches joined n a lent → (last on-document : Called) → Promises a last → Promises (answer document joined lent) on-document →
      Agree n last on-document
