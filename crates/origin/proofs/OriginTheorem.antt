-- What SPECIFICATION 19 says of origins: specs/Claims.
use Rattle.std.specs.Prelude.{if◌then◌else◌}
use mathlib.Core.Path.{◌≡◌, refl, ap, sym, subst, ◌∙◌}
use mathlib.Core.Bool.{Bool, true, false, not}
use mathlib.Core.List.{List, [], ◌∷◌}
use Prim.Native.Nat.{ℕ, ◌≤◌, ◌+◌}
use native.Mathlib.Omega.{arith}
use lib.ListN.{length}
use lib.Dec.{leb, ltb, eqb}
use borrow.Author.Tests.{leb-true}
use Rattle.spec.specs.Outcome.{Outcome, ok, refused}
use Rattle.spec.specs.Refusal.{done}
use Rattle.spec.specs.Limits.{max_bytes, max_nodes, max_operations}
use Rattle.spec.specs.Bytes.{Bytes, Text}
use Rattle.spec.specs.Forest.{none, tree, count, insert_at, remove_at}
use Rattle.spec.specs.Value as Plain
use Rattle.spec.specs.Value.{Label, Members, tag, is_array, is_object}
use Rattle.spec.specs.Read.{read}
use Rattle.spec.specs.Write.{write}
use Rattle.spec.specs.Operation.{Operation}
use Rattle.spec.specs.Patch.{stop, Run, finished, stopped, operation, at_op, no_pointer, shape, operations, on_finish}
use Rattle.spec.specs.Answer.{Answer, Lent, success, refusal, work_suffices}
use Rattle.claims.proofs.ProperPatch.{stopped≢finished}
use Rattle.merging.specs.MergePatch as PlainMerge
use Rattle.merging.specs.MergePatch.{is_null}
use Rattle.reversal.specs.UndoValue.{undo_value}
use Rattle.reversal.specs.UndoAnswer as PlainUndo
use Rattle.reversal.specs.UndoAnswer.{UndoLent, undo_refusal, undo_operations}
use Rattle.origin.specs.Value as Value
use Rattle.origin.specs.Value.{leaf, named, forget, painted, nodes, origins, origins_of, has, find}
use Rattle.origin.specs.Operation.{with_kids, limited, insert_member, put}
use Rattle.origin.specs.Patch.{run}
use Rattle.origin.specs.MergePatch.{merge_origin, as_object, without, member_of, merge_members, merge_patch}
use Rattle.origin.specs.Answer.{Listed, listed, unlisted, Lending, fitting, answer_of, applied, on_patch, on_document, answer}
use Rattle.origin.specs.Answer.{merged_in, on_merge_patch, on_merge_document, merge_answer, after_patch, beside, undo_answer}
use Rattle.origin.specs.Claims as Claims
use Rattle.origin.specs.Claims.{Each, AllTests, no_more, test, OriginStatement}
use Rattle.origin.proofs.ForgetMerge.{forget-merge_patch}
use Rattle.origin.proofs.RunLaws.{run-first, limited_made}
use Rattle.origin.proofs.AnswerLaws.{answer_lists, merge_lists, lists_nothing, undo_nothing}
use Rattle.origin.proofs.ListedLaws.{length-origins}
use Rattle.origin.proofs.ExchangeLaws.{origins-painted}
use Rattle.origin.proofs.OperationLaws.{one-operation}
use Rattle.origin.proofs.FoundLaws.{found_again}
use Rattle.origin.proofs.MergeLaws.{merge_unnamed, merge_named}
use Rattle.origin.proofs.EachLaws.{each_replicate, each_weaken, run_each, merge_bears, each_painted}

-- ---- runs
painted_each : (P : ℕ → Type 0) (k : ℕ) (d : Plain.Value) → P k → Each P (origins (painted k d))
painted_each P k d p = subst (Each P) (sym (origins-painted k d)) (each_replicate (Plain.nodes d) k p)

bounded : (os : List Operation) (d : Plain.Value) (w : Value.Value) → run limited 1 os (painted 0 d) ≡ finished w →
    Each (λ k. k ≤ length os) (origins w)
bounded os d w h =
    run_each (λ k. k ≤ length os) 1 os (painted 0 d) w (λ k low high. omega arith) (painted_each (λ k. k ≤ length os) 0 d (omega arith)) h

tests_same : (op : ℕ) (os : List Operation) (v w : Value.Value) → AllTests os → run limited op os v ≡ finished w → w ≡ v
unfolding run
tests_same op [] v w no_more h = cc
tests_same op (o ∷ os) v w (test q all) h =
    let (u, made, rest) = run-first op o os v w h in
    tests_same (op + 1) os u w all rest ∙ (one-operation op o v u (limited_made op o v u made).0).test q

-- ---- the merge
if_origin : (b : Bool) (x y : Value.Value) {k : ℕ} → x.origin ≡ k → y.origin ≡ k → (if b then x else y).origin ≡ k
if_origin true x y p q = p
if_origin false x y p q = q

without-kept : (n : Text) (t : Value.Value) → (without n t).origin ≡ t.origin
unfolding without
without-kept n t = if_origin (has n t.kids) (with_kids t (remove_at (find n t.kids) t.kids)) t refl refl

insert_kept : (x : Value.Value) (n : Text) (t : Value.Value) → (insert_member x n t).origin ≡ t.origin
unfolding insert_member put
insert_kept x n t =
    if_origin (has n t.kids) (put (find n t.kids) x t) (with_kids t (insert_at (count t.kids) (named n x) t.kids)) refl refl

members_kept : (p : Members) (t : Value.Value) → (merge_members p t).origin ≡ t.origin
unfolding merge_members
members_kept none t = refl
members_kept (tree e kids rest) t =
    members_kept rest (if is_null e.label then without e.name t else insert_member x e.name t) ∙
    if_origin (is_null e.label) (without e.name t) (insert_member x e.name t) (without-kept e.name t) (insert_kept x e.name t)
  where
    x : Value.Value
    x =
        (if is_object e.label then merge_members kids (as_object (member_of e.name t))
        else painted merge_origin (record { label = e.label; kids = kids }))

merge_kept : (t : Value.Value) (p : Plain.Value) → is_object t.label ≡ true → is_object p.label ≡ true → (merge_patch t p).origin ≡ t.origin
unfolding merge_patch as_object
merge_kept t p h i = rw (i, h) (members_kept p.kids t)

merge_whole : (t : Value.Value) (p : Plain.Value) → is_object p.label ≡ false → merge_patch t p ≡ painted merge_origin p
unfolding merge_patch
merge_whole t p h = rw h

-- a target that is no object
from_nothing : (t : Value.Value) (p : Plain.Value) → is_object t.label ≡ false → merge_patch t p ≡ merge_patch (leaf merge_origin Label.object) p
unfolding merge_patch as_object is_object tag
from_nothing t p h = rw h

merge_made : (t : Value.Value) (p : Plain.Value) → is_object t.label ≡ false → merge_patch t p ≡ painted merge_origin (PlainMerge.merge_patch (forget t) p)
unfolding origins origins_of
merge_made t p h =
    let all : Each (λ k. k ≡ merge_origin) (origins (merge_patch t p)) =
    subst (λ v. Each (λ k. k ≡ merge_origin) (origins v)) (sym (from_nothing t p h))
    (merge_bears (λ k. k ≡ merge_origin) refl (leaf merge_origin Label.object) p (Claims.another refl Claims.nothing)) in
    each_painted merge_origin (merge_patch t p) all ∙ ap (painted merge_origin) (forget-merge_patch t p)

merge_bounded : (d p : Plain.Value) → Each (λ k. k ≤ merge_origin) (origins (merge_patch (painted 0 d) p))
merge_bounded d p =
    merge_bears (λ k. k ≤ merge_origin) (omega arith) (painted 0 d) p (painted_each (λ k. k ≤ merge_origin) 0 d (omega arith))

-- ---- the calls
pub record Right (P : ℕ → Type 0) (list : ℕ) (os : List ℕ) : Type 0 where
  pub fits : length os ≤ list
  pub each : Each P os

module _ {P : ℕ → Type 0} where
  pub no_list : (list : ℕ) → Right P list []
  no_list list = record { fits = omega arith; each = Claims.nothing }

  pub if_right : (b : Bool) {list : ℕ} (x y : Listed Answer) → Right P list x.origins → Right P list y.origins →
      Right P list (if b then x else y).origins
  if_right true x y p q = p
  if_right false x y p q = q

  fitting_right : (room list : ℕ) (v : Value.Value) → Each P (origins v) → Right P list (fitting room list v).origins
  unfolding fitting
  fitting_right room list v each = go (leb (length (write (forget v))) room) (leb (length (origins v)) list) refl
    where
      short : Listed Answer
      short = unlisted (refusal 16 0 0 0)

      go : (b c : Bool) → leb (length (origins v)) list ≡ c →
          Right P list (if b then (if c then listed (success (write (forget v))) (origins v) else short) else short).origins
      go true true h = record { fits = leb-true _ _ h; each = each }
      go true false h = no_list list
      go false c h = no_list list

-- a patch has as many operations as elements
operations-count : (op : ℕ) (f : Members) (os : List Operation) → operations op f ≡ finished os → length os ≡ count f
unfolding operations count on_finish
operations-count op none os e = let same : [] ≡ os = cc in rw (sym same)
operations-count op (tree e kids rest) os h =
    go (at_op op no_pointer (operation (record { label = e.label; kids = kids }))) (operations (op + 1) rest) refl (operations-count (op + 1) rest) h
  where
    go : (a : Run Operation) (b : Run (List Operation)) → operations (op + 1) rest ≡ b →
        ((qs : List Operation) → operations (op + 1) rest ≡ finished qs → length qs ≡ count rest) →
        on_finish a (λ o. on_finish b λ qs. finished (o ∷ qs)) ≡ finished os → length os ≡ count (tree e kids rest)
    go (finished o) (finished qs) is ih h = let same : (o ∷ qs) ≡ os = cc in rw (sym same) (omega (arith, ih qs is))
    go (finished o) (stopped s) is ih h = absurd (stopped≢finished h)
    go (stopped s) b is ih h = absurd (stopped≢finished h)

pub shape_few : (v : Plain.Value) (os : List Operation) → shape v ≡ finished os → length os ≤ max_operations
unfolding shape
shape_few v os e = go (is_array v.label) (leb (count v.kids) max_operations) refl e
  where
    go : (array few : Bool) → leb (count v.kids) max_operations ≡ few →
        (if array then (if few then operations 1 v.kids else stopped (stop 9 0 0 0)) else stopped (stop 8 0 0 0)) ≡ finished os →
        length os ≤ max_operations
    go true true few h = omega (arith, operations-count 1 v.kids os h, leb-true (count v.kids) max_operations few)
    go true false few h = absurd (stopped≢finished h)
    go false b few h = absurd (stopped≢finished h)

pub applied_right : (room list : ℕ) (d : Plain.Value) (shaped : Run (List Operation)) →
    ((os : List Operation) → shaped ≡ finished os → length os ≤ max_operations) →
    Right (λ k. k ≤ max_operations) list (applied room list d shaped).origins
unfolding applied answer_of on_finish
applied_right room list d (stopped s) few = no_list list
applied_right room list d (finished os) few = go (run limited 1 os (painted 0 d)) refl
  where
    go : (r : Run Value.Value) → run limited 1 os (painted 0 d) ≡ r → Right (λ k. k ≤ max_operations) list (answer_of room list r).origins
    go (finished w) h = let long = few os refl in fitting_right room list w (each_weaken (λ k low. omega arith) (bounded os d w h))
    go (stopped s) h = no_list list

patch_right : (room list : ℕ) (d : Plain.Value) (p : Outcome Plain.Value) → Right (λ k. k ≤ max_operations) list (on_patch room list d p).origins
unfolding on_patch
patch_right room list d (ok p) = applied_right room list d (shape p) (shape_few p)
patch_right room list d (refused number place) = no_list list

document_right : (room list : ℕ) (d : Outcome Plain.Value) (patch : Bytes) → Right (λ k. k ≤ max_operations) list (on_document room list d patch).origins
unfolding on_document
document_right room list (ok d) patch = patch_right room list d (read patch)
document_right room list (refused number place) patch = no_list list

answer_right : (document patch : Bytes) (lent : Lending Lent) → Right (λ k. k ≤ max_operations) lent.list (answer document patch lent).origins
unfolding answer
answer_right document patch lent =
    if_right (not (work_suffices lent.call)) (unlisted (refusal 1 0 0 0)) _ (no_list lent.list)
    (if_right (ltb max_bytes (length document)) (unlisted (refusal 2 1 0 0)) _ (no_list lent.list)
    (if_right (ltb max_bytes (length patch)) (unlisted (refusal 2 2 0 0)) _ (no_list lent.list)
    (document_right lent.call.output lent.list (read document) patch)))

merged_right : (room list : ℕ) (d : Plain.Value) (p : Outcome Plain.Value) → Right (λ k. k ≤ merge_origin) list (on_merge_patch room list d p).origins
unfolding on_merge_patch merged_in
merged_right room list d (ok p) =
    if_right (leb (nodes (merge_patch (painted 0 d) p)) max_nodes) (fitting room list (merge_patch (painted 0 d) p)) (unlisted (refusal 6 0 0 0))
    (fitting_right room list (merge_patch (painted 0 d) p) (merge_bounded d p)) (no_list list)
merged_right room list d (refused number place) = no_list list

merge_document_right : (room list : ℕ) (d : Outcome Plain.Value) (patch : Bytes) →
    Right (λ k. k ≤ merge_origin) list (on_merge_document room list d patch).origins
unfolding on_merge_document
merge_document_right room list (ok d) patch = merged_right room list d (read patch)
merge_document_right room list (refused number place) patch = no_list list

merge_right : (document patch : Bytes) (lent : Lending Lent) → Right (λ k. k ≤ merge_origin) lent.list (merge_answer document patch lent).origins
unfolding merge_answer
merge_right document patch lent =
    if_right (not (work_suffices lent.call)) (unlisted (refusal 1 0 0 0)) _ (no_list lent.list)
    (if_right (ltb max_bytes (length document)) (unlisted (refusal 2 1 0 0)) _ (no_list lent.list)
    (if_right (ltb max_bytes (length patch)) (unlisted (refusal 2 2 0 0)) _ (no_list lent.list)
    (merge_document_right lent.call.output lent.list (read document) patch)))

undo_right : (document patch : Bytes) (lent : Lending UndoLent) → Right (λ k. k ≤ max_operations) lent.list (undo_answer document patch lent).origins
unfolding undo_answer after_patch beside
undo_right document patch lent = go (leb max_bytes lent.call.work)
  where
    plain : Lending Lent
    plain = record { call = lent.call.patch; list = lent.list }

    either : (c : Bool) → Right (λ k. k ≤ max_operations) lent.list (if c then (answer document patch plain).origins else [])
    either true = answer_right document patch plain
    either false = no_list lent.list

    u : Plain.Value
    u = undo_value (undo_operations document patch)

    go : (b : Bool) →
        Right (λ k. k ≤ max_operations) lent.list
        (if b then after_patch lent.call.undo (answer document patch plain) u else unlisted (undo_refusal (refusal 1 0 0 0))).origins
    go true = either (eqb (PlainUndo.after_patch lent.call.undo (answer document patch plain).answer u).answer.number done)
    go false = no_list lent.list

pub origin : OriginStatement
origin =
    record {
      one_each = length-origins;
      all_nodes = origins-painted;
      operation = one-operation;
      found = found_again;
      bounded = bounded;
      tests = tests_same;
      merge_kept = merge_kept;
      merge_whole = merge_whole;
      merge_made = merge_made;
      merge_unnamed = merge_unnamed;
      merge_named = merge_named;
      merge_bounded = merge_bounded;
      nothing_listed = λ document patch lent fails. lists_nothing (answer_lists document patch lent) fails;
      merge_nothing_listed = λ document patch lent fails. lists_nothing (merge_lists document patch lent) fails;
      undo_nothing_listed = undo_nothing;
      fits = λ document patch lent. (answer_right document patch lent).fits;
      small = λ document patch lent. (answer_right document patch lent).each;
      merge_fits = λ document patch lent. (merge_right document patch lent).fits;
      merge_small = λ document patch lent. (merge_right document patch lent).each;
      undo_fits = λ document patch lent. (undo_right document patch lent).fits;
      undo_small = λ document patch lent. (undo_right document patch lent).each;
    }
