-- With origins forgotten, each definition of this crate is the plain one, results and refusals alike. So what is proved of the plain calls stands as it is:
-- T-11: "Demand 3 speaks of texts and not of origins."
use Rattle.std.specs.Prelude.{◌≡◌, ℕ, ◌≤◌, List, length, leb, eqb, if◌then◌else◌}
use Rattle.spec.specs.Outcome.{Outcome, ok, refused}
use Rattle.spec.specs.Refusal.{done, output_too_short}
use Rattle.spec.specs.Limits.{max_nodes}
use Rattle.spec.specs.Bytes.{Bytes}
use Rattle.spec.specs.Value as Plain
use Rattle.spec.specs.Pointer as PlainPointer
use Rattle.spec.specs.Pointer.{Tokens}
use Rattle.spec.specs.Operation as PlainOperation
use Rattle.spec.specs.Operation.{Operation}
use Rattle.spec.specs.Patch as PlainPatch
use Rattle.spec.specs.Patch.{Run, finished, stopped}
use Rattle.spec.specs.Answer as PlainAnswer
use Rattle.spec.specs.Answer.{Answer, Lent, refusal}
use Rattle.merging.specs.MergePatch as PlainMerge
use Rattle.reversal.specs.UndoAnswer as PlainUndo
use Rattle.reversal.specs.UndoAnswer.{UndoLent}
use Rattle.origin.specs.Value as Value
use Rattle.origin.specs.Value.{forget, painted}
use Rattle.origin.specs.Pointer.{walk}
use Rattle.origin.specs.Operation.{perform, limited}
use Rattle.origin.specs.Patch.{run}
use Rattle.origin.specs.MergePatch.{merge_patch}
use Rattle.origin.specs.Answer.{Listed, listed, unlisted, Lending, answer, merge_answer, undo_answer}

unfoldable pub forgotten : Outcome Value.Value → Outcome Plain.Value
forgotten (ok v) = ok (forget v)
forgotten (refused number place) = refused number place

unfoldable pub forgotten_run : Run Value.Value → Run Plain.Value
forgotten_run (finished v) = finished (forget v)
forgotten_run (stopped s) = stopped s

-- the plain call's answer with these origins beside it, or 16 where it is a success and they do not fit
unfoldable pub listing : ℕ → List ℕ → Answer → Listed Answer
listing list os a =
    if eqb a.number done then (if leb (length os) list then listed a os else unlisted (refusal output_too_short 0 0 0)) else unlisted a

pub record Lists (list : ℕ) (a : Answer) (r : Listed Answer) : Type 0 where
  pub origins : List ℕ
  pub is : r ≡ listing list origins a
  -- no document has more values
  pub few : a.number ≡ done → length origins ≤ max_nodes

pub record ForgettingStatement : Type 0 where
  pub paints : (k : ℕ) (v : Plain.Value) → forget (painted k v) ≡ v
  pub walks : (ts : Tokens) (v : Value.Value) → forgotten (walk ts v) ≡ PlainPointer.walk ts (forget v)
  pub performs : (k : ℕ) (o : Operation) (v : Value.Value) → forgotten (perform k o v) ≡ PlainOperation.perform o (forget v)
  pub limits : (k : ℕ) (o : Operation) (v : Value.Value) → forgotten (limited k o v) ≡ PlainOperation.limited o (forget v)
  pub runs : (op : ℕ) (os : List Operation) (v : Value.Value) →
      forgotten_run (run limited op os v) ≡ PlainPatch.run PlainOperation.limited op os (forget v)
  pub merges : (target : Value.Value) (patch : Plain.Value) → forget (merge_patch target patch) ≡ PlainMerge.merge_patch (forget target) patch
  -- the calls
  pub answers : (document patch : Bytes) (lent : Lending Lent) →
      Lists lent.list (PlainAnswer.answer document patch lent.call) (answer document patch lent)
  pub merge_answers : (document patch : Bytes) (lent : Lending Lent) →
      Lists lent.list (PlainMerge.merge_answer document patch lent.call) (merge_answer document patch lent)
  -- so with a list of at least as many entries as a document may have values, each is the plain call's answer
  pub same_answer : (document patch : Bytes) (lent : Lending Lent) → max_nodes ≤ lent.list →
      (answer document patch lent).answer ≡ PlainAnswer.answer document patch lent.call
  pub same_merge : (document patch : Bytes) (lent : Lending Lent) → max_nodes ≤ lent.list →
      (merge_answer document patch lent).answer ≡ PlainMerge.merge_answer document patch lent.call
  pub same_undo : (document patch : Bytes) (lent : Lending UndoLent) → max_nodes ≤ lent.list →
      (undo_answer document patch lent).answer ≡ PlainUndo.undo_answer document patch lent.call
