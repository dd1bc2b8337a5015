-- What each operation does to the list of origins: one stretch is exchanged, that of the value at its place.
use Rattle.std.specs.Prelude.{if◌then◌else◌}
use mathlib.Core.Path.{◌≡◌, refl, sym, subst, ◌∙◌}
use mathlib.Core.Bool.{Bool, true, false}
use mathlib.Core.List.{List, [], ◌∷◌}
use Prim.Native.Nat.{ℕ, suc, ◌<◌}
use lib.ListN.{replicate}
use Rattle.spec.specs.Outcome.{Outcome, ok, ◌>>=◌}
use Rattle.spec.specs.Bytes.{Text}
use Rattle.spec.specs.Forest.{count, insert_at, remove_at}
use Rattle.spec.specs.Value as Plain
use Rattle.spec.specs.Value.{is_array, is_object}
use Rattle.spec.specs.Equality.{equal}
use Rattle.spec.specs.Pointer as PlainPointer
use Rattle.spec.specs.Pointer.{Tokens, farther, is_dash, element_below}
use Rattle.spec.specs.Operation.{Kind, Operation}
use Rattle.spec.proofs.OutcomeLaws.{refused≢ok, both_ok}
use Rattle.spec.proofs.FartherLaws.{farther_ok}
use Rattle.spec.proofs.ChildLaws.{child_there}
use Rattle.claims.proofs.CharacterScalar.{if_ok}
use Rattle.tape.proofs.Map.{count_map}
use Rattle.origin.specs.Value as Value
use Rattle.origin.specs.Value.{forget_entry, forget, painted, named, value_of, origins, nodes, find, has}
use Rattle.origin.specs.Pointer.{child_at, child, walk}
use Rattle.origin.specs.Operation.{with_kids, put, at_parent, insert_element, insert_member, insert_child, remove_child, replace_child}
use Rattle.origin.specs.Operation.{add_at, remove_at_path, replace_at_path, move_to, copy_to, test_at, perform}
use Rattle.origin.specs.Claims as Claims
use Rattle.origin.specs.Claims.{Stands, Replaced, PutIn, PutFor, OneOperation}
use Rattle.origin.proofs.ExchangeLaws.{exchanged_whole, exchanged_insert, exchanged_remove, exchanged_put, origins-painted}

-- ---- steps
pub walk_on : (t : Text) (ts : Tokens) (v : Value.Value) (k : ℕ) → child_at t v ≡ ok k → walk (t ∷ ts) v ≡ farther (walk ts (value_of (child k v)))
unfolding walk ◌>>=◌
walk_on t ts v k h = rw h

pub child_is : (t : Text) (v : Value.Value) (k : ℕ) → child_at t v ≡ ok k → walk (t ∷ []) v ≡ ok (value_of (child k v))
unfolding walk farther
child_is t v k h = walk_on t [] v k h

pub there : (t : Text) (v : Value.Value) (k : ℕ) → child_at t v ≡ ok k → k < count v.kids
there t v k h = subst (λ n. k < n) (count_map forget_entry v.kids) (child_there t (forget v) k h)

-- a change at the parent that succeeds: what holds of it there holds of the whole
module _ (Q : Tokens → Value.Value → Value.Value → Type 0)
    (step : (t u : Text) (ts : Tokens) (v y : Value.Value) (k : ℕ) → child_at t v ≡ ok k → Q (u ∷ ts) (value_of (child k v)) y → Q (t ∷ u ∷ ts) v (put k y v))
    (change : Text → Value.Value → Outcome Value.Value) (here : (t : Text) (v w : Value.Value) → change t v ≡ ok w → Q (t ∷ []) v w) where
  pub parent_done : (t : Text) (ts : Tokens) (v w : Value.Value) → at_parent change t ts v ≡ ok w → Q (t ∷ ts) v w
  unfolding at_parent
  parent_done t [] v w h = here t v w h
  parent_done t (u ∷ ts) v w h =
      let (k, e, i) = both_ok (child_at t v) _ w h in
      let (y, f, j) = both_ok (farther (at_parent change u ts (value_of (child k v)))) _ w i in
      let same : put k y v ≡ w = cc in
      subst (Q (t ∷ u ∷ ts) v) same (step t u ts v y k e (parent_done u ts (value_of (child k v)) y (farther_ok _ f)))

-- ---- what stood there
farther_is : {A : Type 0} {o : Outcome A} {a : A} → o ≡ ok a → farther o ≡ ok a
unfolding farther
farther_is h = rw h

stands_in : (t u : Text) (ts : Tokens) (v : Value.Value) (k : ℕ) {old : List ℕ} → child_at t v ≡ ok k → Stands (u ∷ ts) (value_of (child k v)) old →
    Stands (t ∷ u ∷ ts) v old
stands_in t u ts v k h (Claims.value e) = Claims.value (walk_on t (u ∷ ts) v k h ∙ farther_is e)

replaced_in : (t u : Text) (ts : Tokens) (v : Value.Value) (k : ℕ) {old : List ℕ} → child_at t v ≡ ok k →
    Replaced (u ∷ ts) (value_of (child k v)) old → Replaced (t ∷ u ∷ ts) v old
replaced_in t u ts v k h Claims.nothing = Claims.nothing
replaced_in t u ts v k h (Claims.value e) = Claims.value (walk_on t (u ∷ ts) v k h ∙ farther_is e)

put_for_step : (new : List ℕ) (t u : Text) (ts : Tokens) (v y : Value.Value) (k : ℕ) → child_at t v ≡ ok k → PutFor (u ∷ ts) (value_of (child k v)) y new →
    PutFor (t ∷ u ∷ ts) v (put k y v) new
put_for_step new t u ts v y k h p =
    record { old = p.old; stood = stands_in t u ts v k h p.stood; exchanged = exchanged_put k v (there t v k h) y p.exchanged }

put_in_step : (new : List ℕ) (t u : Text) (ts : Tokens) (v y : Value.Value) (k : ℕ) → child_at t v ≡ ok k → PutIn (u ∷ ts) (value_of (child k v)) y new →
    PutIn (t ∷ u ∷ ts) v (put k y v) new
put_in_step new t u ts v y k h p =
    record { old = p.old; replaced = replaced_in t u ts v k h p.replaced; exchanged = exchanged_put k v (there t v k h) y p.exchanged }

-- ---- the changes of a value's children
put_there : (x : Value.Value) (t : Text) (v : Value.Value) (k : ℕ) → child_at t v ≡ ok k → PutFor (t ∷ []) v (put k x v) (origins x)
put_there x t v k h =
    record {
      old = origins (value_of (child k v));
      stood = Claims.value (child_is t v k h);
      exchanged = exchanged_put k v (there t v k h) x (exchanged_whole (origins (value_of (child k v))) (origins x));
    }

replace_here : (x : Value.Value) (t : Text) (v w : Value.Value) → replace_child x t v ≡ ok w → PutFor (t ∷ []) v w (origins x)
unfolding replace_child
replace_here x t v w h =
    let (k, e, i) = both_ok (child_at t v) _ w h in
    let same : put k x v ≡ w = cc in
    subst (λ w. PutFor (t ∷ []) v w (origins x)) same (put_there x t v k e)

remove_here : (t : Text) (v w : Value.Value) → remove_child t v ≡ ok w → PutFor (t ∷ []) v w []
unfolding remove_child
remove_here t v w h =
    let (k, e, i) = both_ok (child_at t v) _ w h in
    let same : with_kids v (remove_at k v.kids) ≡ w = cc in
    subst (λ w. PutFor (t ∷ []) v w []) same
    (record { old = origins (value_of (child k v)); stood = Claims.value (child_is t v k e); exchanged = exchanged_remove k v (there t v k e) })

-- what is put in for another is put in
put_in : {path : Tokens} {v w : Value.Value} {new : List ℕ} → PutFor path v w new → PutIn path v w new
put_in {path} {v} {w} {new} p = record { old = p.old; replaced = go p.stood; exchanged = p.exchanged }
  where
    go : {old : List ℕ} → Stands path v old → Replaced path v old
    go (Claims.value e) = Claims.value e

inserted : (x : Value.Value) (n : Text) (path : Tokens) (v : Value.Value) (k : ℕ) →
    PutIn path v (with_kids v (insert_at k (named n x) v.kids)) (origins x)
inserted x n path v k = record { old = []; replaced = Claims.nothing; exchanged = exchanged_insert k v n x }

-- a member, of an object
insert_member_lem : (x : Value.Value) (t : Text) (v : Value.Value) → is_array v.label ≡ false → is_object v.label ≡ true →
    PutIn (t ∷ []) v (insert_member x t v) (origins x)
unfolding insert_member PlainPointer.child_at PlainPointer.member_named
insert_member_lem x t v a o = go (has t v.kids) refl
  where
    go : (b : Bool) → has t v.kids ≡ b →
        PutIn (t ∷ []) v (if b then put (find t v.kids) x v else with_kids v (insert_at (count v.kids) (named t x) v.kids)) (origins x)
    go true h = put_in (put_there x t v (find t v.kids) (rw (a, o, h)))
    go false h = inserted x t (t ∷ []) v (count v.kids)

insert_element_lem : (x : Value.Value) (t : Text) (v w : Value.Value) → insert_element x t v ≡ ok w → PutIn (t ∷ []) v w (origins x)
unfolding insert_element
insert_element_lem x t v w h =
    let (k, e, i) = both_ok (if is_dash t then ok (count v.kids) else element_below (suc (count v.kids)) t) _ w h in
    let same : with_kids v (insert_at k (named [] x) v.kids) ≡ w = cc in
    subst (λ w. PutIn (t ∷ []) v w (origins x)) same (inserted x [] (t ∷ []) v k)

insert_here : (x : Value.Value) (t : Text) (v w : Value.Value) → insert_child x t v ≡ ok w → PutIn (t ∷ []) v w (origins x)
unfolding insert_child
insert_here x t v w h =
    if_ok (is_array v.label) h (λ _ e. insert_element_lem x t v w e)
    (λ a e.
    if_ok (is_object v.label) e
    (λ o i. let same : insert_member x t v ≡ w = cc in subst (λ w. PutIn (t ∷ []) v w (origins x)) same (insert_member_lem x t v a o))
    (λ _ i. absurd (refused≢ok i)))

-- ---- the operations
stands_root : (v : Value.Value) → Stands [] v (origins v)
unfolding walk
stands_root v = Claims.value refl

pub add_put : (path : Tokens) (x v w : Value.Value) → add_at path x v ≡ ok w → PutIn path v w (origins x)
unfolding add_at
add_put [] x v w h =
    let same : x ≡ w = cc in
    subst (λ w. PutIn [] v w (origins x)) same
    (put_in (record { old = origins v; stood = stands_root v; exchanged = exchanged_whole (origins v) (origins x) }))
add_put (t ∷ ts) x v w h =
    parent_done (λ path v w. PutIn path v w (origins x)) (put_in_step (origins x)) (insert_child x) (insert_here x) t ts v w h

pub replace_put : (path : Tokens) (x v w : Value.Value) → replace_at_path path x v ≡ ok w → PutFor path v w (origins x)
unfolding replace_at_path
replace_put [] x v w h =
    let same : x ≡ w = cc in
    subst (λ w. PutFor [] v w (origins x)) same (record { old = origins v; stood = stands_root v; exchanged = exchanged_whole (origins v) (origins x) })
replace_put (t ∷ ts) x v w h =
    parent_done (λ path v w. PutFor path v w (origins x)) (put_for_step (origins x)) (replace_child x) (replace_here x) t ts v w h

pub remove_put : (path : Tokens) (v w : Value.Value) → remove_at_path path v ≡ ok w → PutFor path v w []
unfolding remove_at_path
remove_put [] v w h = absurd (refused≢ok h)
remove_put (t ∷ ts) v w h = parent_done (λ path v w. PutFor path v w []) (put_for_step []) remove_child remove_here t ts v w h

move_put : (t : Text) (ts path : Tokens) (v w : Value.Value) → move_to (t ∷ ts) path v ≡ ok w →
    (x left : Value.Value) × (walk (t ∷ ts) v ≡ ok x) × (remove_at_path (t ∷ ts) v ≡ ok left) × PutFor (t ∷ ts) v left [] × PutIn path left w (origins x)
unfolding move_to
move_put t ts path v w h =
    let (x, e, i) = both_ok (walk (t ∷ ts) v) _ w h in
    let (left, f, j) = both_ok (remove_at_path (t ∷ ts) v) _ w i in
    (x, left, e, f, remove_put (t ∷ ts) v left f, add_put path x left w j)

root_same : (path : Tokens) (v w : Value.Value) → move_to [] path v ≡ ok w → w ≡ v
unfolding move_to
root_same path v w h = cc

copy_put : (k : ℕ) (from path : Tokens) (v w : Value.Value) → copy_to k from path v ≡ ok w →
    (x : Value.Value) × (walk from v ≡ ok x) × PutIn path v w (replicate (nodes x) k)
unfolding copy_to
copy_put k from path v w h =
    let (x, e, i) = both_ok (walk from v) _ w h in
    (x, e, subst (PutIn path v w) (origins-painted k (forget x)) (add_put path (painted k (forget x)) v w i))

test_same : (path : Tokens) (x : Plain.Value) (v w : Value.Value) → test_at path x v ≡ ok w → w ≡ v
unfolding test_at
test_same path x v w h =
    let (found, e, i) = both_ok (walk path v) _ w h in
    if_ok (equal (forget found) x) i (λ _ j. cc) (λ _ j. absurd (refused≢ok j))

pub one-operation : (k : ℕ) (o : Operation) (v w : Value.Value) → perform k o v ≡ ok w → OneOperation k o v w
unfolding perform
one-operation k o v w h =
    record {
      add = λ q. subst (PutIn o.path v w) (origins-painted k o.value) (add_put o.path (painted k o.value) v w (is q));
      remove = λ q. remove_put o.path v w (is q);
      replace = λ q. subst (PutFor o.path v w) (origins-painted k o.value) (replace_put o.path (painted k o.value) v w (is q));
      copy = λ q. copy_put k o.from o.path v w (is q);
      move = λ t ts q r. subst Moved (sym r) (move_put t ts o.path v w (subst (λ from. move_to from o.path v ≡ ok w) r (is q)));
      move_root = λ q r. root_same o.path v w (subst (λ from. move_to from o.path v ≡ ok w) r (is q));
      test = λ q. test_same o.path o.value v w (is q);
    }
  where
    by : Kind → Operation
    by kind = record { kind = kind; path = o.path; from = o.from; value = o.value }

    is : {kind : Kind} → o.kind ≡ kind → perform k (by kind) v ≡ ok w
    is q = subst (λ kind. perform k (by kind) v ≡ ok w) q h

    Moved : Tokens → Type 0
    Moved from =
        (x left : Value.Value) × (walk from v ≡ ok x) × (remove_at_path from v ≡ ok left) × PutFor from v left [] × PutIn o.path left w (origins x)
