-- Every operation leaves a proper document proper.
use Rattle.std.specs.Prelude.{if◌then◌else◌}
use mathlib.Core.Path.{◌≡◌, refl, ap₂, subst, ◌∙◌}
use mathlib.Core.Bool.{Bool, true, false, true≢false}
use mathlib.Core.List.{[], ◌∷◌}
use Prim.Native.Nat.{ℕ, zero, suc, ◌<◌}
use native.Mathlib.Omega.{arith}
use lib.Dec.{ltb}
use borrow.Author.Tests.{ltb-true}
use Rattle.spec.specs.Outcome.{Outcome, ok}
use Rattle.spec.specs.Bytes.{Text}
use Rattle.spec.specs.Forest.{none, tree, Tree, count, before, from, insert_at, remove_at, replace_at, nth, ◌⧺◌}
use Rattle.spec.specs.Value as Value
use Rattle.spec.specs.Value.{Label, Entry, Members, tag, is_array, is_object, named, value_of, has, find}
use Rattle.spec.specs.Equality.{equal}
use Rattle.spec.specs.Pointer.{Tokens, child_at, child, farther, walk}
use Rattle.spec.specs.Operation.{Kind, Operation, with_kids, put, at_parent, insert_element, insert_member, insert_child, remove_child, replace_child, add_at}
use Rattle.spec.specs.Operation.{remove_at_path, replace_at_path, move_to, copy_to, test_at, perform}
use Rattle.spec.proofs.OutcomeLaws.{refused≢ok, both_ok}
use Rattle.spec.proofs.FartherLaws.{farther_ok}
use Rattle.spec.proofs.ForestLaws.{count-replace_at, find-replace_at}
use Rattle.spec.proofs.ChildLaws.{child_there}
use Rattle.spec.specs.Proper as Proper
use Rattle.spec.specs.Proper.{Proper, Allows, ScalarValues, ProperItems, element, member}
use Rattle.spec.proofs.NameLaws.{absent_parts, absent_cons}
use Rattle.claims.proofs.CharacterScalar.{if_ok}
use Rattle.claims.proofs.ReadProper.{proper_snoc}
use Rattle.claims.proofs.RemoveAddLaws.{insert_last}
use Rattle.claims.proofs.OperationsTheorem.{proper_child}

-- A value in the place of another

has-replace_at : (z : Tree Entry) (n : Text) (x : Value.Value) (k : ℕ) (f : Members)
    → k < count f → has n (replace_at k (named (nth z k f).root.name x) f) ≡ has n f
has-replace_at z n x k f h = ap₂ ltb (find-replace_at z n x k f h) (count-replace_at k _ f h)

proper_replace_at : (z : Tree Entry) (object : Bool) (k : ℕ) (f : Members) (x : Value.Value) → Proper x → ProperItems object f → k < count f →
    ProperItems object (replace_at k (named (nth z k f).root.name x) f)
unfolding replace_at before from ◌⧺◌ nth count
proper_replace_at z object k none x p q h = absurd (omega arith)
proper_replace_at z false zero (tree e kids rest) x p (element n a i q) h = element n p.allows p.items q
proper_replace_at z true zero (tree e kids rest) x p (member n m a i q) h = member n m p.allows p.items q
proper_replace_at z false (suc k) (tree e kids rest) x p (element n a i q) h = element n a i (proper_replace_at z false k rest x p q (omega arith))
proper_replace_at z true (suc k) (tree e kids rest) x p (member n m a i q) h =
    member n (has-replace_at z e.name x k rest (omega arith) ∙ m) a i (proper_replace_at z true k rest x p q (omega arith))

-- only a container has values in it, and it allows any
allows_any : {l : Label} {kids : Members} (f : Members) → Allows l kids → 0 < count kids → Allows l f
unfolding count
allows_any f Proper.null_literal h = absurd (omega arith)
allows_any f Proper.true_literal h = absurd (omega arith)
allows_any f Proper.false_literal h = absurd (omega arith)
allows_any f (Proper.number n) h = absurd (omega arith)
allows_any f (Proper.string c) h = absurd (omega arith)
allows_any f Proper.array h = Proper.array
allows_any f Proper.object h = Proper.object

proper_put : (k : ℕ) (x v : Value.Value) → Proper x → Proper v → k < count v.kids → Proper (put k x v)
unfolding put child
proper_put k x v p q h =
    record { allows = allows_any _ q.allows (omega arith); items = proper_replace_at _ _ k v.kids x p q.items h }

-- A value put in, and one taken out

proper_insert_at : (k : ℕ) (f : Members) (x : Value.Value) → Proper x → ProperItems false f → ProperItems false (insert_at k (named [] x) f)
unfolding insert_at before from ◌⧺◌
proper_insert_at zero f x p q = element refl p.allows p.items q
proper_insert_at (suc k) none x p q = element refl p.allows p.items q
proper_insert_at (suc k) (tree e kids rest) x p (element n a i q) = element n a i (proper_insert_at k rest x p q)

absent_remove_at : (n : Text) (k : ℕ) (f : Members) → has n f ≡ false → has n (remove_at k f) ≡ false
unfolding remove_at before from ◌⧺◌
absent_remove_at n zero none h = h
absent_remove_at n (suc k) none h = h
absent_remove_at n zero (tree e kids rest) h = (absent_parts n e kids rest h).1
absent_remove_at n (suc k) (tree e kids rest) h =
    let p = absent_parts n e kids rest h in
    absent_cons n e kids (remove_at k rest) p.0 (absent_remove_at n k rest p.1)

proper_remove_at : {object : Bool} {f : Members} (k : ℕ) → ProperItems object f → ProperItems object (remove_at k f)
unfolding remove_at before from ◌⧺◌
proper_remove_at zero Proper.empty = Proper.empty
proper_remove_at (suc k) Proper.empty = Proper.empty
proper_remove_at zero (element n a i q) = q
proper_remove_at zero (member n m a i q) = q
proper_remove_at (suc k) (element n a i q) = element n a i (proper_remove_at k q)
proper_remove_at (suc k) (member {e} {kids} {rest} n m a i q) = member n (absent_remove_at e.name k rest m) a i (proper_remove_at k q)

-- Changes at a parent

-- a change that keeps what is proper, at tokens of characters
abbrev Keeps : (Text → Value.Value → Outcome Value.Value) → Type 0
Keeps change = (t : Text) (v w : Value.Value) → ScalarValues t → Proper v → change t v ≡ ok w → Proper w

remove_keeps : Keeps remove_child
unfolding remove_child
remove_keeps t v w s p h =
    let (k, e, i) = both_ok (child_at t v) _ w h in
    let there = child_there t v k e in
    let same : with_kids v (remove_at k v.kids) ≡ w = cc in
    subst Proper same (record { allows = allows_any _ p.allows (omega arith); items = proper_remove_at k p.items })

replace_keeps : (x : Value.Value) → Proper x → Keeps (replace_child x)
unfolding replace_child
replace_keeps x q t v w s p h =
    let (k, e, i) = both_ok (child_at t v) _ w h in
    let same : put k x v ≡ w = cc in
    subst Proper same (proper_put k x v q p (child_there t v k e))

-- a label by its test
array-label : (l : Label) → is_array l ≡ true → l ≡ Label.array
unfolding is_array tag
array-label Label.null_literal h = cc
array-label Label.true_literal h = cc
array-label Label.false_literal h = cc
array-label (Label.number t) h = cc
array-label (Label.string t) h = cc
array-label Label.array h = refl
array-label Label.object h = cc

object-label : (l : Label) → is_object l ≡ true → l ≡ Label.object
unfolding is_object tag
object-label Label.null_literal h = cc
object-label Label.true_literal h = cc
object-label Label.false_literal h = cc
object-label (Label.number t) h = cc
object-label (Label.string t) h = cc
object-label Label.array h = cc
object-label Label.object h = refl

container_again : (v : Value.Value) (l : Label) (object : Bool) (f : Members) → v.label ≡ l
    → is_object l ≡ object → ((g : Members) → Allows l g) → ProperItems object f →
    Proper (with_kids v f)
container_again v l object f e o a p = record { allows = rw e (a f); items = rw (e, o) p }

element_keeps : (x : Value.Value) → Proper x → (t : Text) (v w : Value.Value) → Proper v → v.label ≡ Label.array → insert_element x t v ≡ ok w → Proper w
unfolding insert_element is_object tag
element_keeps x q t v w p l h =
    let (k, e, i) = both_ok _ _ w h in
    let same : with_kids v (insert_at k (named [] x) v.kids) ≡ w = cc in
    let items : ProperItems false v.kids = rw l at p.items in
    subst Proper same
    (container_again v Label.array false (insert_at k (named [] x) v.kids) l refl (λ g. Proper.array) (proper_insert_at k v.kids x q items))

member-keeps : (x : Value.Value) → Proper x → (t : Text) (v : Value.Value) → ScalarValues t → Proper v → v.label ≡ Label.object → Proper (insert_member x t v)
unfolding insert_member is_object tag
member-keeps x q t v s p l = go (has t v.kids) refl
  where
    items : ProperItems true v.kids
    items = rw l at p.items

    go : (there : Bool) → has t v.kids ≡ there →
        Proper (if there then put (find t v.kids) x v else with_kids v (insert_at (count v.kids) (named t x) v.kids))
    go true h = proper_put (find t v.kids) x v q p (ltb-true (find t v.kids) (count v.kids) h)
    go false h =
        container_again v Label.object true (insert_at (count v.kids) (named t x) v.kids) l refl (λ g. Proper.object)
        (rw (insert_last (named t x) v.kids)
        (proper_snoc true v.kids (record { name = t; label = x.label }) x.kids items
        (record { unnamed = λ e. absurd (true≢false e); fresh_name = λ _. (s, h); allows = q.allows; inside = q.items })))

add_keeps : (x : Value.Value) → Proper x → Keeps (insert_child x)
unfolding insert_child
add_keeps x q t v w s p h =
    if_ok (is_array v.label) h (λ a i. element_keeps x q t v w p (array-label v.label a) i) λ _ i.
    if_ok (is_object v.label) i
    (λ o j. let same : insert_member x t v ≡ w = cc in subst Proper same (member-keeps x q t v s p (object-label v.label o)))
    (λ _ j. absurd (refused≢ok j))

-- tokens of characters
pub data AllCharacters : Tokens → Type 0 where
  no_tokens : AllCharacters []
  token : {t : Text} {ts : Tokens} → ScalarValues t → AllCharacters ts → AllCharacters (t ∷ ts)

parent_keeps : (change : Text → Value.Value → Outcome Value.Value) → Keeps change
    → (t : Text) (ts : Tokens) (v w : Value.Value) → ScalarValues t → AllCharacters ts →
    Proper v → at_parent change t ts v ≡ ok w → Proper w
unfolding at_parent
parent_keeps change keeps t [] v w s a p h = keeps t v w s p h
parent_keeps change keeps t (u ∷ ts) v w s (token s' a) p h =
    let (k, e, i) = both_ok (child_at t v) _ w h in
    let (x, f, j) = both_ok (farther (at_parent change u ts (value_of (child k v)))) _ w i in
    let same : put k x v ≡ w = cc in
    let inside = parent_keeps change keeps u ts (value_of (child k v)) x s' a (proper_child t k v e p) (farther_ok _ f) in
    subst Proper same (proper_put k x v inside p (child_there t v k e))

-- The six operations

pub walk_proper : (ts : Tokens) (v w : Value.Value) → Proper v → walk ts v ≡ ok w → Proper w
unfolding walk
walk_proper [] v w p h = let same : v ≡ w = cc in subst Proper same p
walk_proper (t ∷ ts) v w p h =
    let (k, e, i) = both_ok (child_at t v) _ w h in
    walk_proper ts (value_of (child k v)) w (proper_child t k v e p) (farther_ok _ i)

add_proper : (path : Tokens) (x v w : Value.Value) → AllCharacters path → Proper x → Proper v → add_at path x v ≡ ok w → Proper w
unfolding add_at
add_proper [] x v w a q p h = let same : x ≡ w = cc in subst Proper same q
add_proper (t ∷ ts) x v w (token s a) q p h = parent_keeps (insert_child x) (add_keeps x q) t ts v w s a p h

remove_proper : (path : Tokens) (v w : Value.Value) → AllCharacters path → Proper v → remove_at_path path v ≡ ok w → Proper w
unfolding remove_at_path
remove_proper [] v w a p h = absurd (refused≢ok h)
remove_proper (t ∷ ts) v w (token s a) p h = parent_keeps remove_child remove_keeps t ts v w s a p h

replace_proper : (path : Tokens) (x v w : Value.Value) → AllCharacters path → Proper x → Proper v → replace_at_path path x v ≡ ok w → Proper w
unfolding replace_at_path
replace_proper [] x v w a q p h = let same : x ≡ w = cc in subst Proper same q
replace_proper (t ∷ ts) x v w (token s a) q p h = parent_keeps (replace_child x) (replace_keeps x q) t ts v w s a p h

move_proper : (from path : Tokens) (v w : Value.Value) → AllCharacters from → AllCharacters path → Proper v → move_to from path v ≡ ok w → Proper w
unfolding move_to
move_proper [] path v w a b p h = let same : v ≡ w = cc in subst Proper same p
move_proper (t ∷ ts) path v w a b p h =
    let (x, e, i) = both_ok (walk (t ∷ ts) v) _ w h in
    let (left, f, j) = both_ok (remove_at_path (t ∷ ts) v) _ w i in
    add_proper path x left w b (walk_proper (t ∷ ts) v x p e) (remove_proper (t ∷ ts) v left a p f) j

copy_proper : (from path : Tokens) (v w : Value.Value) → AllCharacters path → Proper v → copy_to from path v ≡ ok w → Proper w
unfolding copy_to
copy_proper from path v w b p h =
    let (x, e, i) = both_ok (walk from v) _ w h in
    add_proper path x v w b (walk_proper from v x p e) p i

test_proper : (path : Tokens) (x v w : Value.Value) → Proper v → test_at path x v ≡ ok w → Proper w
unfolding test_at
test_proper path x v w p h =
    let (found, e, i) = both_ok (walk path v) _ w h in
    if_ok (equal found x) i (λ _ j. let same : v ≡ w = cc in subst Proper same p) (λ _ j. absurd (refused≢ok j))

-- an operation as the shape of a patch gives it
pub record ProperOperation (o : Operation) : Type 0 where
  pub path_characters : AllCharacters o.path
  pub from-characters : AllCharacters o.from
  pub value-proper : Proper o.value

pub perform_proper : (o : Operation) (v w : Value.Value) → ProperOperation o → Proper v → perform o v ≡ ok w → Proper w
unfolding perform
perform_proper o v w q p h = go o.kind h
  where
    go : (k : Kind) → perform (record { kind = k; path = o.path; from = o.from; value = o.value }) v ≡ ok w → Proper w
    go Kind.add h = add_proper o.path o.value v w q.path_characters q.value-proper p h
    go Kind.remove h = remove_proper o.path v w q.path_characters p h
    go Kind.replace h = replace_proper o.path o.value v w q.path_characters q.value-proper p h
    go Kind.move h = move_proper o.from o.path v w q.from-characters q.path_characters p h
    go Kind.copy h = copy_proper o.from o.path v w q.path_characters p h
    go Kind.test h = test_proper o.path o.value v w p h
