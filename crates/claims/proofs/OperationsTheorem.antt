-- RFC 6902's own claims on its operations.
use Rattle.std.specs.Prelude.{if◌then◌else◌}
use mathlib.Core.Path.{◌≡◌, refl, ap, sym, ◌∙◌}
use mathlib.Core.Bool.{Bool, true, false, not}
use mathlib.Core.List.{List, [], ◌∷◌, ◌++◌}
use Prim.Native.Nat.{ℕ, zero, suc, ◌+◌, ◌<◌}
use native.Mathlib.Omega.{arith}
use lib.Dec.{leb, ltb}
use lib.ListN.{length}
use borrow.Author.Tests.{le-ltb}
use Rattle.spec.specs.Outcome.{Outcome, ok, refused, ◌>>=◌}
use Rattle.spec.specs.Bytes.{Bytes, Text}
use Rattle.spec.specs.Limits.{max_bytes}
use Rattle.spec.specs.Forest.{none, tree, Tree, count, before, from, replace_at, nth, ◌⧺◌}
use Rattle.spec.specs.Value as Value
use Rattle.spec.specs.Value.{Entry, Members, is_array, named, value_of}
use Rattle.spec.specs.Equality.{equal}
use Rattle.spec.specs.Read.{read}
use Rattle.spec.specs.Write.{write}
use Rattle.spec.specs.Pointer.{Tokens, child_at, child, walk}
use Rattle.spec.specs.Operation.{Operation, put, perform, limited, at_parent, add_at, remove_at_path, replace_at_path, move_to, copy_to, test_at}
use Rattle.spec.specs.Patch.{stop, Run, finished, stopped, which_pointer, run, at_op, on_finish}
use Rattle.spec.specs.Answer.{Answer, Lent, answer, success, refusal, work_suffices, fitting, answer_of, patched, on_patch, on_document, answer_in}
use Rattle.spec.proofs.OutcomeLaws.{refused≢ok, both_ok}
use Rattle.spec.proofs.ChildLaws.{child_there}
use Rattle.spec.proofs.FartherLaws.{farther_ok}
use Rattle.spec.proofs.PlaceLaws.{walk_on}
use Rattle.spec.specs.Proper.{Proper, ProperItems, element, member}
use Rattle.claims.specs.Equality.{Reordered, Permuted, same}
use Rattle.claims.specs.Operations.{Same, both, neither, adding, removing, replacing, testing, OperationsStatement}
use Rattle.claims.proofs.RemoveAddLaws.{permuted_refl}
use Rattle.claims.proofs.ReplaceLaws.{AtParent, end, step, at_parent_lem, child_reordered, element_same}

-- Replace

pub proper_nth : (z : Tree Entry) (object : Bool) (k : ℕ) (f : Members) → ProperItems object f → k < count f → Proper (value_of (nth z k f))
unfolding nth count
proper_nth z object k none p h = absurd (omega arith)
proper_nth z false zero (tree e kids rest) (element n l i p) h = record { allows = l; items = i }
proper_nth z true zero (tree e kids rest) (member n a l i p) h = record { allows = l; items = i }
proper_nth z false (suc k) (tree e kids rest) (element n l i p) h = proper_nth z false k rest p (omega arith)
proper_nth z true (suc k) (tree e kids rest) (member n a l i p) h = proper_nth z true k rest p (omega arith)

pub proper_child : (t : Text) (k : ℕ) (v : Value.Value) → child_at t v ≡ ok k → Proper v → Proper (value_of (child k v))
unfolding child
proper_child t k v h p = proper_nth _ _ k v.kids p.items (child_there t v k h)

proper_parent : {t last : Text} {ts : Tokens} {v parent : Value.Value} → AtParent t ts v last parent → Proper v → Proper parent
proper_parent end p = p
proper_parent (step q a) p = proper_parent a (proper_child _ _ _ q p)

permuted_put : (object : Bool) (n : Text) (k : ℕ) (w w' : Value.Value) (f : Members) → k < count f → Reordered w w' →
    Permuted object (replace_at k (named n w) f) (replace_at k (named n w') f)
unfolding replace_at before from ◌⧺◌ count
permuted_put object n k w w' none h r = absurd (omega arith)
permuted_put object n zero w w' (tree e kids rest) h r = rw (← r.label) (same r.kids (permuted_refl object rest))
permuted_put object n (suc k) w w' (tree e kids rest) h r = same (permuted_refl _ kids) (permuted_put object n k w w' rest (omega arith) r)

reordered_put : (k : ℕ) (w w' v : Value.Value) → k < count v.kids → Reordered w w' → Reordered (put k w v) (put k w' v)
unfolding put
reordered_put k w w' v h r = record { label = refl; kids = permuted_put _ _ k w w' v.kids h r }

replace_reordered : (t : Text) (ts : Tokens) (x v : Value.Value) → Proper v →
    Same Reordered (perform (replacing (t ∷ ts) x) v) (perform (removing (t ∷ ts)) v >>= perform (adding (t ∷ ts) x))
unfolding perform replace_at_path remove_at_path add_at
replace_reordered t ts x v p = at_parent_lem Reordered reordered_put x t ts v (λ last parent a. child_reordered x last parent (proper_parent a p))

same_equal : {o o' : Outcome Value.Value} → Same (λ v w. v ≡ w) o o' → o ≡ o'
same_equal (both h) = ap ok h
same_equal neither = refl

equal_same : {o o' : Outcome Value.Value} → o ≡ o' → Same (λ v w. v ≡ w) o o'
equal_same {o} h = rw (← h) (go o)
  where
    go : (o : Outcome Value.Value) → Same (λ v w. v ≡ w) o o
    go (ok v) = both refl
    go (refused number place) = neither

at_end : {t last : Text} {v parent : Value.Value} → AtParent t [] v last parent → parent ≡ v
at_end end = refl

-- the parent at the end of a path is what the tokens before the last lead to
parent_walked : (t u : Text) (ts : Tokens) (last : Text) (v w parent : Value.Value)
    → AtParent u (ts ++ (t ∷ [])) v last parent → walk (u ∷ ts) v ≡ ok w → parent ≡ w
unfolding walk ◌>>=◌
parent_walked t u [] last v w parent (step {k = k} q a) h =
    let e : ok (value_of (child k v)) ≡ ok w = farther_ok _ (sym (walk_on u [] v k q) ∙ h) in
    let same = at_end a in
    cc
parent_walked t u (s ∷ ts) last v w parent (step {k = k} q a) h =
    parent_walked t s ts last (value_of (child k v)) w parent a (farther_ok _ (sym (walk_on u (s ∷ ts) v k q) ∙ h))

replace_element : (t : Text) (ts : Tokens) (x v parent : Value.Value) → Proper v → walk ts v ≡ ok parent → is_array parent.label ≡ true →
    perform (replacing (ts ++ (t ∷ [])) x) v ≡ perform (removing (ts ++ (t ∷ []))) v >>= perform (adding (ts ++ (t ∷ [])) x)
unfolding perform replace_at_path remove_at_path add_at walk at_parent
replace_element t [] x v parent p h i = let same : v ≡ parent = cc in element_same x t v p (rw same i)
replace_element t (u ∷ ts) x v parent p h i =
    same_equal (at_parent_lem (λ v w. v ≡ w) (λ k w w' v c e. ap (λ y. put k y v) e) x u (ts ++ (t ∷ [])) v
    (λ last q a. equal_same (element_same x last q (proper_parent a p) (rw (parent_walked t u ts last v parent q a h) i))))

-- Test

test_found : (path : Tokens) (x v w : Value.Value) → perform (testing path x) v ≡ ok w →
    (found : Value.Value) × (walk path v ≡ ok found) × (equal found x ≡ true) × (w ≡ v)
unfolding perform test_at
test_found path x v w h =
    let (found, e, i) = both_ok (walk path v) _ w h in
    let r = go found (equal found x) refl i in
    (found, e, r.0, r.1)
  where
    go : (found : Value.Value) (b : Bool) → equal found x ≡ b → (if b then ok v else refused 15 0) ≡ ok w → (equal found x ≡ true) × (w ≡ v)
    go found true q h = (q, cc)
    go found false q h = absurd (refused≢ok h)

-- A patch that fails

run_stops : (earlier later : List Operation) (o : Operation) (op : ℕ) (v w : Value.Value) (number place : ℕ) →
    run limited op earlier v ≡ finished w → limited o w ≡ refused number place →
    run limited op (earlier ++ (o ∷ later)) v ≡ stopped (stop number (length earlier + op) place (which_pointer o w number))
unfolding run on_finish at_op
run_stops [] later o op v w number place h i =
    let same : v ≡ w = cc in
    let here : 0 + op ≡ op = omega arith in
    rw (same, i, here)
run_stops (e ∷ earlier) later o op v w number place h i = go (limited e v) h (λ u. run_stops earlier later o (op + 1) u w number place)
  where
    go : (r : Outcome Value.Value) → on_finish (at_op op (which_pointer e v) r) (λ u. run limited (op + 1) earlier u) ≡ finished w →
        ((u : Value.Value) → run limited (op + 1) earlier u ≡ finished w → limited o w ≡ refused number place →
        run limited (op + 1) (earlier ++ (o ∷ later)) u ≡ stopped (stop number (length earlier + (op + 1)) place (which_pointer o w number))) →
        on_finish (at_op op (which_pointer e v) r) (λ u. run limited (op + 1) (earlier ++ (o ∷ later)) u)
        ≡ stopped (stop number (suc (length earlier) + op) place (which_pointer o w number))
    go (ok u) h ih = let count : length earlier + (op + 1) ≡ suc (length earlier) + op = omega arith in
        ih u h i ∙ ap (λ k. stopped (stop number k place (which_pointer o w number))) count
    go (refused n p) h ih = cc

-- a refusal has no text; shown for each step that makes an answer
record Silent (a : Answer) : Type 0 where
  silent : (a.number ≡ 0 → ⊥) → a.written ≡ []

success_silent : (t : Bytes) → Silent (success t)
success_silent t = record { silent = λ h. absurd (h refl) }

refusal_silent : (number text op place : ℕ) → Silent (refusal number text op place)
refusal_silent number text op place = record { silent = λ h. refl }

either_silent : (test : Bool) {a b : Answer} → Silent a → Silent b → Silent (if test then a else b)
either_silent true p q = p
either_silent false p q = q

run_silent : (room : ℕ) (r : Run Value.Value) → Silent (answer_of room r)
unfolding answer_of fitting
run_silent room (finished v) = either_silent (leb (length (write v)) room) (success_silent _) (refusal_silent _ _ _ _)
run_silent room (stopped s) = record { silent = λ h. refl }

patch_silent : (room : ℕ) (document : Value.Value) (o : Outcome Value.Value) → Silent (on_patch room document o)
unfolding on_patch patched
patch_silent room document (ok patch) = run_silent room _
patch_silent room document (refused number place) = refusal_silent _ _ _ _

document_silent : (room : ℕ) (o : Outcome Value.Value) (patch : Bytes) → Silent (on_document room o patch)
unfolding on_document
document_silent room (ok document) patch = patch_silent room document (read patch)
document_silent room (refused number place) patch = refusal_silent _ _ _ _

answer_silent : (document patch : Bytes) (lent : Lent) → Silent (answer document patch lent)
unfolding answer answer_in
answer_silent document patch lent =
    either_silent (not (work_suffices lent)) (refusal_silent _ _ _ _)
    (either_silent (ltb max_bytes (length document)) (refusal_silent _ _ _ _)
    (either_silent (ltb max_bytes (length patch)) (refusal_silent _ _ _ _) (document_silent lent.output (read document) patch)))

pub operations : OperationsStatement
unfolding perform replace_at_path add_at remove_at_path move_to copy_to answer answer_in on_document on_patch patched answer_of on_finish
operations =
    record {
      replace = replace_reordered;
      replace_element = replace_element;
      replace_root = λ x v. refl;
      move = λ t ts path v. refl;
      copy = λ from path v. refl;
      test = test_found;
      failure = λ document patch lent d w earlier later o number place accepted formed work h i.
          rw (
            work,
            le-ltb max_bytes _ accepted.fits,
            le-ltb max_bytes _ formed.fits,
            accepted.reads,
            formed.reads,
            formed.shaped,
            run_stops earlier later o 1 d w number place h i,
          );
      nothing_written = λ document patch lent. (answer_silent document patch lent).silent;
    }
