-- The calls' answers beside those of the plain calls.
use Rattle.std.specs.Prelude.{if◌then◌else◌}
use mathlib.Core.Path.{◌≡◌, refl, ap, subst, ◌∙◌}
use mathlib.Core.Bool.{Bool, true, false, not}
use mathlib.Core.List.{List, []}
use Prim.Native.Nat.{ℕ, ◌≤◌}
use native.Mathlib.Omega.{arith}
use lib.ListN.{length}
use lib.Dec.{leb, ltb, eqb}
use borrow.Author.Tests.{eqb-true, leb-true, le-leb}
use Rattle.spec.specs.Outcome.{Outcome, ok, refused}
use Rattle.spec.specs.Refusal.{done, too_many_nodes, output_too_short}
use Rattle.spec.specs.Limits.{max_bytes, max_nodes}
use Rattle.spec.specs.Bytes.{Bytes}
use Rattle.spec.specs.Value as Plain
use Rattle.spec.specs.Read.{read}
use Rattle.spec.specs.Write.{write}
use Rattle.spec.specs.Operation as PlainOperation
use Rattle.spec.specs.Operation.{Operation}
use Rattle.spec.specs.Patch as PlainPatch
use Rattle.spec.specs.Patch.{Run, finished, stopped, shape, on_finish}
use Rattle.spec.specs.Answer as PlainAnswer
use Rattle.spec.specs.Answer.{Answer, Lent, success, refusal, failure, work_suffices}
use Rattle.claims.proofs.ReadProper.{read_proper}
use Rattle.merging.specs.MergePatch as PlainMerge
use Rattle.reversal.specs.UndoValue.{undo_value}
use Rattle.reversal.specs.UndoAnswer as PlainUndo
use Rattle.reversal.specs.UndoAnswer.{UndoAnswer, UndoLent, undo_refusal, undo_operations}
use Rattle.origin.specs.Value as Value
use Rattle.origin.specs.Value.{forget, painted, origins, nodes}
use Rattle.origin.specs.Operation.{limited}
use Rattle.origin.specs.Patch.{run}
use Rattle.origin.specs.MergePatch.{merge_patch}
use Rattle.origin.specs.Answer.{Listed, listed, unlisted, Lending, fitting, answer_of, applied, on_patch, on_document, answer}
use Rattle.origin.specs.Answer.{merged_in, on_merge_patch, on_merge_document, merge_answer, after_patch, beside, undo_answer}
use Rattle.origin.specs.Forgetting.{forgotten_run, listing, Lists}
use Rattle.origin.proofs.ForgetLaws.{forget-painted}
use Rattle.origin.proofs.ForgetMerge.{forget-merge_patch}
use Rattle.origin.proofs.ListedLaws.{length-origins}
use Rattle.origin.proofs.RunLaws.{run_few, forget-run}

-- a refusal, of whatever call
pub refusal_lists : (list : ℕ) (a : Answer) → Lists list a (unlisted a)
unfolding listing
refusal_lists list a = record { origins = []; is = go (eqb a.number done); few = λ _. omega arith }
  where
    go : (b : Bool) → unlisted a ≡ (if b then (if leb 0 list then listed a [] else unlisted (refusal output_too_short 0 0 0)) else unlisted a)
    go true = rw (le-leb 0 list (omega arith))
    go false = refl

pub if_lists : (b : Bool) {list : ℕ} {x y : Answer} {x' y' : Listed Answer} → Lists list x x' → Lists list y y' →
    Lists list (if b then x else y) (if b then x' else y')
if_lists true p q = p
if_lists false p q = q

-- the origins of a value that is written
pub fitting_lists : (room list : ℕ) (v : Value.Value) → nodes v ≤ max_nodes →
    Lists list (PlainAnswer.fitting room (write (forget v))) (fitting room list v)
unfolding fitting PlainAnswer.fitting listing
fitting_lists room list v few = go (leb (length (write (forget v))) room)
  where
    go : (b : Bool) →
        Lists list (if b then success (write (forget v)) else refusal output_too_short 0 0 0)
        (if b then
        (if leb (length (origins v)) list then listed (success (write (forget v))) (origins v) else unlisted (refusal output_too_short 0 0 0))
        else unlisted (refusal output_too_short 0 0 0))
    go true = record { origins = origins v; is = refl; few = λ _. rw (length-origins v) few }
    go false = refusal_lists list (refusal output_too_short 0 0 0)

-- the operations on a value within the limit on nodes
run_lists : (room list : ℕ) (os : List Operation) (v : Value.Value) → nodes v ≤ max_nodes →
    Lists list (PlainAnswer.answer_of room (PlainPatch.run PlainOperation.limited 1 os (forget v))) (answer_of room list (run limited 1 os v))
unfolding answer_of PlainAnswer.answer_of forgotten_run
run_lists room list os v few = rw (← forget-run 1 os v) (go (run limited 1 os v) refl)
  where
    go : (r : Run Value.Value) → run limited 1 os v ≡ r → Lists list (PlainAnswer.answer_of room (forgotten_run r)) (answer_of room list r)
    go (finished w) h = fitting_lists room list w (run_few 1 os v w few h)
    go (stopped s) h = refusal_lists list (failure s)

-- the operations that a shape gives, on a document that was read
pub applied_lists : (room list : ℕ) (document : Plain.Value) (shaped : Run (List Operation)) → Plain.nodes document ≤ max_nodes →
    Lists list (PlainAnswer.answer_of room (on_finish shaped λ operations. PlainPatch.run PlainOperation.limited 1 operations document))
    (applied room list document shaped)
unfolding applied answer_of PlainAnswer.answer_of on_finish
applied_lists room list document (stopped s) few = refusal_lists list (failure s)
applied_lists room list document (finished os) few =
    subst
    (λ d. Lists list (PlainAnswer.answer_of room (PlainPatch.run PlainOperation.limited 1 os d)) (answer_of room list (run limited 1 os (painted 0 document))))
    (forget-painted 0 document) (run_lists room list os (painted 0 document) (rw (forget-painted 0 document) few))

patch_lists : (room list : ℕ) (document : Plain.Value) (patch : Outcome Plain.Value) → Plain.nodes document ≤ max_nodes →
    Lists list (PlainAnswer.on_patch room document patch) (on_patch room list document patch)
unfolding on_patch PlainAnswer.on_patch PlainAnswer.patched
patch_lists room list document (ok patch) few = applied_lists room list document (shape patch) few
patch_lists room list document (refused number place) few = refusal_lists list (refusal number 2 0 place)

-- the whole document read
document_lists : (room list : ℕ) (document patch : Bytes) →
    Lists list (PlainAnswer.on_document room (read document) patch) (on_document room list (read document) patch)
unfolding on_document PlainAnswer.on_document
document_lists room list document patch = go (read document) refl
  where
    go : (d : Outcome Plain.Value) → read document ≡ d → Lists list (PlainAnswer.on_document room d patch) (on_document room list d patch)
    go (ok d) h = patch_lists room list d (read patch) (read_proper document d h).1
    go (refused number place) h = refusal_lists list (refusal number 1 0 place)

pub answer_lists : (document patch : Bytes) (lent : Lending Lent) →
    Lists lent.list (PlainAnswer.answer document patch lent.call) (answer document patch lent)
unfolding answer PlainAnswer.answer PlainAnswer.answer_in
answer_lists document patch lent =
    if_lists (not (work_suffices lent.call)) (refusal_lists _ _)
    (if_lists (ltb max_bytes (length document)) (refusal_lists _ _)
    (if_lists (ltb max_bytes (length patch)) (refusal_lists _ _) (document_lists lent.call.output lent.list document patch)))

-- ---- the merge
limit_lists : (room list : ℕ) (v : Value.Value) → Lists list (PlainMerge.merged_in room (forget v)) (merged_in room list v)
unfolding merged_in PlainMerge.merged_in
limit_lists room list v = go (leb (nodes v) max_nodes) refl
  where
    go : (b : Bool) → leb (nodes v) max_nodes ≡ b →
        Lists list (if b then PlainAnswer.fitting room (write (forget v)) else refusal too_many_nodes 0 0 0)
        (if b then fitting room list v else unlisted (refusal too_many_nodes 0 0 0))
    go true h = fitting_lists room list v (leb-true _ _ h)
    go false h = refusal_lists list (refusal too_many_nodes 0 0 0)

merged_lists : (room list : ℕ) (document patch : Plain.Value) →
    Lists list (PlainMerge.merged_in room (PlainMerge.merge_patch document patch)) (merged_in room list (merge_patch (painted 0 document) patch))
merged_lists room list document patch =
    subst (λ d. Lists list (PlainMerge.merged_in room d) (merged_in room list (merge_patch (painted 0 document) patch)))
    (forget-merge_patch (painted 0 document) patch ∙ ap (λ d. PlainMerge.merge_patch d patch) (forget-painted 0 document))
    (limit_lists room list (merge_patch (painted 0 document) patch))

on_merge_lists : (room list : ℕ) (document : Plain.Value) (patch : Outcome Plain.Value) →
    Lists list (PlainMerge.on_merge_patch room document patch) (on_merge_patch room list document patch)
unfolding on_merge_patch PlainMerge.on_merge_patch
on_merge_lists room list document (ok patch) = merged_lists room list document patch
on_merge_lists room list document (refused number place) = refusal_lists list (refusal number 2 0 place)

merge_document_lists : (room list : ℕ) (document : Outcome Plain.Value) (patch : Bytes) →
    Lists list (PlainMerge.on_merge_document room document patch) (on_merge_document room list document patch)
unfolding on_merge_document PlainMerge.on_merge_document
merge_document_lists room list (ok document) patch = on_merge_lists room list document (read patch)
merge_document_lists room list (refused number place) patch = refusal_lists list (refusal number 1 0 place)

pub merge_lists : (document patch : Bytes) (lent : Lending Lent) →
    Lists lent.list (PlainMerge.merge_answer document patch lent.call) (merge_answer document patch lent)
unfolding merge_answer PlainMerge.merge_answer
merge_lists document patch lent =
    if_lists (not (work_suffices lent.call)) (refusal_lists _ _)
    (if_lists (ltb max_bytes (length document)) (refusal_lists _ _)
    (if_lists (ltb max_bytes (length patch)) (refusal_lists _ _) (merge_document_lists lent.call.output lent.list (read document) patch)))

-- ---- with a list that is long enough
pub lists_same : {list : ℕ} {a : Answer} {r : Listed Answer} → Lists list a r → max_nodes ≤ list → r.answer ≡ a
unfolding listing
lists_same {list} {a} {r} l long = ap (λ x. x.answer) l.is ∙ go (eqb a.number done) refl
  where
    go : (b : Bool) → eqb a.number done ≡ b →
        (if b then (if leb (length l.origins) list then listed a l.origins else unlisted (refusal output_too_short 0 0 0)) else unlisted a).answer ≡ a
    go true h = let few = l.few (eqb-true _ _ h) in rw (le-leb (length l.origins) list (omega arith))
    go false h = refl

-- ---- on a refusal
pub lists_nothing : {list : ℕ} {a : Answer} {r : Listed Answer} → Lists list a r → (r.answer.number ≡ done → ⊥) → r.origins ≡ []
unfolding listing
lists_nothing {list} {a} {r} l fails =
    ap (λ x. x.origins) l.is ∙ go (eqb a.number done) (leb (length l.origins) list) refl (λ e. fails (ap (λ x. x.answer.number) l.is ∙ e))
  where
    result : Bool → Bool → Listed Answer
    result b c = (if b then (if c then listed a l.origins else unlisted (refusal output_too_short 0 0 0)) else unlisted a)

    go : (b c : Bool) → eqb a.number done ≡ b → ((result b c).answer.number ≡ done → ⊥) → (result b c).origins ≡ []
    go true true h fails = absurd (fails (eqb-true _ _ h))
    go true false h fails = refl
    go false c h fails = refl

pub undo_nothing : (document patch : Bytes) (lent : Lending UndoLent) → ((undo_answer document patch lent).answer.answer.number ≡ done → ⊥) →
    (undo_answer document patch lent).origins ≡ []
unfolding undo_answer after_patch beside
undo_nothing document patch lent fails = go (leb max_bytes lent.call.work) fails
  where
    plain : Lending Lent
    plain = record { call = lent.call.patch; list = lent.list }

    result : Listed UndoAnswer
    result = after_patch lent.call.undo (answer document patch plain) (undo_value (undo_operations document patch))

    either : (c : Bool) → eqb result.answer.answer.number done ≡ c → (result.answer.answer.number ≡ done → ⊥) →
        (if c then (answer document patch plain).origins else []) ≡ []
    either true h fails = absurd (fails (eqb-true _ _ h))
    either false h fails = refl

    go : (b : Bool) → ((if b then result else unlisted (undo_refusal (refusal 1 0 0 0))).answer.answer.number ≡ done → ⊥) →
        (if b then result else unlisted (undo_refusal (refusal 1 0 0 0))).origins ≡ []
    go true fails = either (eqb result.answer.answer.number done) refl fails
    go false fails = refl

pub undo_same : (document patch : Bytes) (lent : Lending UndoLent) → max_nodes ≤ lent.list →
    (undo_answer document patch lent).answer ≡ PlainUndo.undo_answer document patch lent.call
unfolding undo_answer after_patch beside PlainUndo.undo_answer
undo_same document patch lent long = go (leb max_bytes lent.call.work)
  where
    plain : Lending Lent
    plain = record { call = lent.call.patch; list = lent.list }

    u : Plain.Value
    u = undo_value (undo_operations document patch)

    go : (b : Bool) →
        (if b then after_patch lent.call.undo (answer document patch plain) u else unlisted (undo_refusal (refusal 1 0 0 0))).answer ≡
        (if b then PlainUndo.after_patch lent.call.undo (PlainAnswer.answer document patch lent.call.patch) u else undo_refusal (refusal 1 0 0 0))
    go true = ap (λ a. PlainUndo.after_patch lent.call.undo a u) (lists_same (answer_lists document patch plain) long)
    go false = refl
