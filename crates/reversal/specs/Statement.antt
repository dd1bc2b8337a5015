-- What an undo does: SPECIFICATION 16.6, T-09, over whole texts, with the two laws that it rests on. proofs/UndoTheorem proves it.
use Rattle.std.specs.Prelude.{◌≡◌, ◌≤◌, true, List, [], length}
use Rattle.spec.specs.Outcome.{ok}
use Rattle.spec.specs.Limits.{max_bytes}
use Rattle.spec.specs.Bytes.{Bytes}
use Rattle.spec.specs.Value as Value
use Rattle.spec.specs.Equality.{equal}
use Rattle.spec.specs.Read.{read}
use Rattle.spec.specs.Write.{write}
use Rattle.spec.specs.Operation.{Operation, limited}
use Rattle.spec.specs.Patch.{operation, finished, run}
use Rattle.spec.specs.Answer.{Lent, answer, success}
use Rattle.spec.specs.Region.{WellFormed, Enough}
use Rattle.spec.specs.Proper.{Proper, Readable}
use Rattle.claims.specs.Equality.{Reordered}
use Rattle.claims.specs.Operations.{Same}
use Rattle.reversal.specs.Undo.{undo_of}
use Rattle.reversal.specs.UndoValue.{undo_value}
use Rattle.reversal.specs.UndoText.{undo_text}
use Rattle.reversal.specs.UndoAnswer.{UndoLent, undo_answer, undo_success, undo_operations}

pub record Situation (document patch text undo : Bytes) (lent : UndoLent) (again : Lent) : Type 0 where
  -- "If the patch succeeds, [..] and the undo is written"
  pub written : undo_answer document patch lent ≡ undo_success text undo
  -- "its written text is at most 32,768 bytes"
  pub fits : length text ≤ max_bytes
  -- "with buffers enough": neither 1 nor 16 applies
  pub enough : Enough text undo again

-- "applying the undo to that text [..] succeeds and gives a document equal [..] to the original", by SPECIFICATION 7
pub record TakenBack (document text undo : Bytes) (again : Lent) : Type 0 where
  pub original : Value.Value
  pub restored : Value.Value
  pub reads : read document ≡ ok original
  pub succeeds : answer text undo again ≡ success (write restored)
  pub reads_back : read (write restored) ≡ ok restored
  pub equals : equal restored original ≡ true
  -- more than equal: the two differ in the order of members alone
  pub reordered : Reordered original restored

pub record UndoStatement : Type 0 where
  -- the sentence of T-09
  pub takes_back : (document patch text undo : Bytes) (lent : UndoLent) (again : Lent) → Situation document patch text undo lent again →
      TakenBack document text undo again
  -- an operation followed by its undo gives an equal document, within the limits at every step
  pub operation_undone : (o : Operation) (v w : Value.Value) → Readable v → limited o v ≡ ok w →
      (restored : Value.Value) × (run limited 1 (undo_of o v) w ≡ finished restored) × (equal restored v ≡ true) × Reordered v restored
  -- equal documents answer every operation of a patch alike: with the same refusal, or with equal results
  pub equal-answers : (p v w : Value.Value) (o : Operation) → Proper p → operation p ≡ ok o → Proper v → Proper w → equal v w ≡ true →
      Same (λ x y. equal x y ≡ true) (limited o v) (limited o w)
  -- the undo that is written is a well-formed patch: the one that `undo_operations` says
  pub well_formed_lem : (document patch text undo : Bytes) (lent : UndoLent) → undo_answer document patch lent ≡ undo_success text undo →
      WellFormed undo (undo_operations document patch)
  -- the undo's text is its value written, to the byte
  pub text : (os : List Operation) → write (undo_value os) ≡ undo_text os
  -- the document is that of the plain call
  pub same_text : (document patch text undo : Bytes) (lent : UndoLent) → undo_answer document patch lent ≡ undo_success text undo →
      answer document patch lent.patch ≡ success text
  -- whatever is refused, neither text is written
  pub nothing_written : (document patch : Bytes) (lent : UndoLent) → ((undo_answer document patch lent).answer.number ≡ 0 → ⊥) →
      ((undo_answer document patch lent).answer.written ≡ []) × ((undo_answer document patch lent).undo ≡ [])
