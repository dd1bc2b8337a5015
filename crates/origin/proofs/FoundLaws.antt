-- What an operation puts in is found where it put it, with its origins.
use Rattle.std.specs.Prelude.{if◌then◌else◌}
use mathlib.Core.Path.{◌≡◌, refl, ap, ap₂, sym, subst, ◌∙◌}
use mathlib.Core.Bool.{Bool, true, false}
use mathlib.Core.List.{[], ◌∷◌}
use Prim.Native.Nat.{ℕ, suc, ◌<◌, ◌≤◌}
use Prim.Native.Char.{code}
use native.Mathlib.Omega.{arith}
use Rattle.spec.specs.Outcome.{ok, ◌>>=◌}
use Rattle.spec.specs.Bytes.{Text, ascii}
use Rattle.spec.specs.Forest.{none, single, count, before, from, nth, insert_at, ◌⧺◌}
use Rattle.spec.specs.Value as Plain
use Rattle.spec.specs.Value.{Label, is_array, is_object, tag, same_text}
use Rattle.spec.specs.Pointer as PlainPointer
use Rattle.spec.specs.Pointer.{Tokens, farther, is_dash, element_below}
use Rattle.spec.specs.Operation.{Kind, Operation}
use Rattle.spec.specs.Effects as Effects
use Rattle.spec.specs.Effects.{ArrayIndex, Child, FoundAt}
use Rattle.spec.proofs.OutcomeLaws.{both_ok}
use Rattle.spec.proofs.ForestLaws.{nth-replace_at}
use Rattle.spec.proofs.ChildLaws.{element_names, child_there, child_at-put}
use Rattle.spec.proofs.SplitLaws.{count-before, nth_split, insert_last}
use Rattle.spec.proofs.EffectsLaws.{is_index_lem, without-has, child_at_lem, child_is}
use Rattle.tape.proofs.Map.{count_map, map-insert_at}
use Rattle.origin.specs.Value as Value
use Rattle.origin.specs.Value.{leaf, named, value_of, forget_entry, forget_members, forget, painted, find, has}
use Rattle.origin.specs.Pointer.{child_at, child, walk}
use Rattle.origin.specs.Operation.{with_kids, put, insert_element, insert_member, insert_child, replace_child}
use Rattle.origin.specs.Operation.{add_at, remove_at_path, replace_at_path, move_to, copy_to, perform}
use Rattle.origin.specs.Claims.{FoundAgain}
use Rattle.origin.proofs.ForgetLaws.{forget-put, forget-value_of}
use Rattle.origin.proofs.OperationLaws.{walk_on, there, parent_done}

-- ---- a child that was replaced
child-put : (x v : Value.Value) (k : ℕ) → k < count v.kids → child k (put k x v) ≡ named (child k v).root.name x
unfolding child put
child-put x v k there = nth-replace_at (named [] (leaf 0 Label.null_literal)) (named (child k v).root.name x) k v.kids there

walk_put : (t : Text) (ts : Tokens) (x v : Value.Value) (k : ℕ) → child_at t v ≡ ok k → walk (t ∷ ts) (put k x v) ≡ farther (walk ts x)
walk_put t ts x v k h =
    walk_on t ts (put k x v) k (ap (PlainPointer.child_at t) (forget-put k x v) ∙ child_at-put k (forget x) (forget v) (child_there t (forget v) k h) t ∙ h) ∙
    ap (λ c. farther (walk ts (value_of c))) (child-put x v k (there t v k h))

-- ---- a child that was put in
child_inserted : (n : Text) (x v : Value.Value) (k : ℕ) → k ≤ count v.kids → child k (with_kids v (insert_at k (named n x) v.kids)) ≡ named n x
unfolding child insert_at ◌⧺◌
child_inserted n x v k low =
    let split = nth_split (named [] (leaf 0 Label.null_literal)) (before k v.kids) (named n x).root x.kids (from k v.kids) in
    ap (λ j. nth (named [] (leaf 0 Label.null_literal)) j (before k v.kids ⧺ single (named n x) ⧺ from k v.kids)) (sym (count-before k v.kids low)) ∙
    split

walk_inserted : (u n : Text) (x v : Value.Value) (k : ℕ) → k ≤ count v.kids →
    child_at u (with_kids v (insert_at k (named n x) v.kids)) ≡ ok k → walk (u ∷ []) (with_kids v (insert_at k (named n x) v.kids)) ≡ ok x
unfolding walk farther
walk_inserted u n x v k low h =
    walk_on u [] (with_kids v (insert_at k (named n x) v.kids)) k h ∙ ap (λ c. ok (value_of c)) (child_inserted n x v k low)

-- the children with a value put in, without origins
kids_inserted : (n : Text) (x v : Value.Value) (k : ℕ) →
    forget_members (insert_at k (named n x) v.kids) ≡ before k (forget_members v.kids) ⧺ Effects.node n (forget x) (from k (forget_members v.kids))
unfolding insert_at ◌⧺◌
kids_inserted n x v k = map-insert_at forget_entry k (named n x) v.kids

element_found : (x : Value.Value) (u : Text) (v : Value.Value) (k : ℕ) → v.label ≡ Label.array → k ≤ count v.kids → ArrayIndex u k →
    walk (u ∷ []) (with_kids v (insert_at k (named [] x) v.kids)) ≡ ok x
element_found x u v k l low i =
    let f = forget_members v.kids in
    let cut : count (before k f) ≡ k = count-before k f (subst (λ n. k ≤ n) (sym (count_map forget_entry v.kids)) low) in
    let c : Child u (forget (with_kids v (insert_at k (named [] x) v.kids))) [] (forget x) (before k f) (from k f) =
    Effects.element l (kids_inserted [] x v k) (subst (ArrayIndex u) (sym cut) i) in
    walk_inserted u [] x v k low (child_at_lem c ∙ ap ok cut)

new-member-found : (x : Value.Value) (t : Text) (v : Value.Value) → v.label ≡ Label.object → has t v.kids ≡ false →
    walk (t ∷ []) (with_kids v (insert_at (count v.kids) (named t x) v.kids)) ≡ ok x
new-member-found x t v l h =
    let f = forget_members v.kids in
    let all : count v.kids ≡ count f = sym (count_map forget_entry v.kids) in
    let kids : forget_members (insert_at (count v.kids) (named t x) v.kids) ≡ f ⧺ Effects.node t (forget x) none =
    map-insert_at forget_entry (count v.kids) (named t x) v.kids ∙ ap (λ k. insert_at k (Plain.named t (forget x)) f) all ∙
    insert_last (Plain.named t (forget x)) f in
    let c : Child t (forget (with_kids v (insert_at (count v.kids) (named t x) v.kids))) t (forget x) f none =
    Effects.member l kids (without-has t f h) in
    walk_inserted t t x v (count v.kids) (omega arith) (child_at_lem c ∙ ap ok (sym all))

member-found : (x : Value.Value) (t : Text) (v : Value.Value) → v.label ≡ Label.object → walk (t ∷ []) (insert_member x t v) ≡ ok x
unfolding insert_member PlainPointer.child_at PlainPointer.member_named is_array is_object tag walk farther
member-found x t v l = go (has t v.kids) refl
  where
    go : (b : Bool) → has t v.kids ≡ b →
        walk (t ∷ []) (if b then put (find t v.kids) x v else with_kids v (insert_at (count v.kids) (named t x) v.kids)) ≡ ok x
    go true h = walk_put t [] x v (find t v.kids) (rw (l, h))
    go false h = new-member-found x t v l h

-- ---- the changes
found_below : (x : Value.Value) (t u : Text) (ts : Tokens) (v y : Value.Value) (k : ℕ) → child_at t v ≡ ok k → walk (u ∷ ts) y ≡ ok x →
    walk (t ∷ u ∷ ts) (put k y v) ≡ ok x
unfolding farther
found_below x t u ts v y k h e = walk_put t (u ∷ ts) y v k h ∙ ap farther e

replace_here : (x : Value.Value) (t : Text) (v w : Value.Value) → replace_child x t v ≡ ok w → walk (t ∷ []) w ≡ ok x
unfolding replace_child walk farther
replace_here x t v w h =
    let (k, e, i) = both_ok (child_at t v) _ w h in
    let same : put k x v ≡ w = cc in
    subst (λ w. walk (t ∷ []) w ≡ ok x) same (walk_put t [] x v k e)

pub replaced-found : (path : Tokens) (x v w : Value.Value) → replace_at_path path x v ≡ ok w → walk path w ≡ ok x
unfolding replace_at_path walk
replaced-found [] x v w h = ap ok (let same : w ≡ x = cc in same)
replaced-found (t ∷ ts) x v w h =
    parent_done (λ path v w. walk path w ≡ ok x) (found_below x) (replace_child x) (replace_here x) t ts v w h

-- ---- what was added, where it is found
insert-object : (x : Value.Value) (t : Text) (v : Value.Value) → v.label ≡ Label.object → insert_child x t v ≡ ok (insert_member x t v)
unfolding insert_child is_array is_object tag
insert-object x t v l = rw l

insert-array : (x : Value.Value) (t : Text) (v : Value.Value) → v.label ≡ Label.array → insert_child x t v ≡ insert_element x t v
unfolding insert_child is_array is_object tag
insert-array x t v l = rw l

insert_index : (x : Value.Value) (t : Text) (v : Value.Value) → is_dash t ≡ false →
    insert_element x t v ≡ element_below (suc (count v.kids)) t >>= λ k. ok (with_kids v (insert_at k (named [] x) v.kids))
unfolding insert_element
insert_index x t v h = rw h

index_place : (x : Value.Value) (t : Text) (v w : Value.Value) (k : ℕ) → ArrayIndex t k → insert_element x t v ≡ ok w →
    (k ≤ count v.kids) × (with_kids v (insert_at k (named [] x) v.kids) ≡ w)
index_place x t v w k i h =
    let (index, value, no_dash) = is_index_lem i in
    let (j, e, f) = both_ok (element_below (suc (count v.kids)) t) _ w (sym (insert_index x t v no_dash) ∙ h) in
    let (_, place, less) = element_names (suc (count v.kids)) t j e in
    let same : j ≡ k = place ∙ value in
    let made : with_kids v (insert_at j (named [] x) v.kids) ≡ w = cc in
    (omega arith, ap (λ j. with_kids v (insert_at j (named [] x) v.kids)) (sym same) ∙ made)

dash_place : (x v w : Value.Value) → insert_element x (code "-" ∷ []) v ≡ ok w → with_kids v (insert_at (count v.kids) (named [] x) v.kids) ≡ w
unfolding insert_element is_dash same_text ascii ◌>>=◌
dash_place x v w h = cc

insert_found : (x : Value.Value) (t : Text) (us : Tokens) (v w : Value.Value) (p : Plain.Value) → p ≡ forget v → FoundAt (t ∷ []) p us →
    insert_child x t v ≡ ok w → walk us w ≡ ok x
insert_found x t us v w p same (Effects.member l) h =
    let label = ap (λ p. p.label) (sym same) ∙ l in
    let e : ok (insert_member x t v) ≡ ok w = sym (insert-object x t v label) ∙ h in
    let made : insert_member x t v ≡ w = cc in
    subst (λ w. walk (t ∷ []) w ≡ ok x) made (member-found x t v label)
insert_found x t us v w p same (Effects.index k l i) h =
    let label = ap (λ p. p.label) (sym same) ∙ l in
    let (low, made) = index_place x t v w k i (sym (insert-array x t v label) ∙ h) in
    subst (λ w. walk (t ∷ []) w ≡ ok x) made (element_found x t v k label low i)
insert_found x t us v w p same (Effects.end {u} l i) h =
    let label = ap (λ p. p.label) (sym same) ∙ l in
    let made = dash_place x v w (sym (insert-array x t v label) ∙ h) in
    subst (λ w. walk (u ∷ []) w ≡ ok x) made
    (element_found x u v (count v.kids) label (omega arith)
    (subst (ArrayIndex u) (ap (λ p. count p.kids) same ∙ count_map forget_entry v.kids) i))

-- what an operation adds at a path is found at these tokens
abbrev Finds : Value.Value → Tokens → Value.Value → Value.Value → Type 0
Finds x path v w = (us : Tokens) (p : Plain.Value) → p ≡ forget v → FoundAt path p us → walk us w ≡ ok x

added_below : (x : Value.Value) (t u : Text) (ts : Tokens) (v y : Value.Value) (k : ℕ) → child_at t v ≡ ok k → Finds x (u ∷ ts) (value_of (child k v)) y →
    Finds x (t ∷ u ∷ ts) v (put k y v)
unfolding farther
added_below x t u ts v y k h inner us p same (Effects.below {us = us'} {x = x'} {before = earlier} c f) =
    let e : ok (count earlier) ≡ ok k = sym (child_at_lem c) ∙ ap (PlainPointer.child_at t) same ∙ h in
    let place : count earlier ≡ k = cc in
    let value : x' ≡ forget (value_of (child k v)) =
    sym (ap (λ c. Plain.value_of c) (child_is c)) ∙ ap₂ (λ k p. Plain.value_of (PlainPointer.child k p)) place same ∙ sym (forget-value_of k v) in
    walk_put t us' y v k h ∙ ap farther (inner us' x' value f)

root_found : {p : Plain.Value} {us : Tokens} → FoundAt [] p us → us ≡ []
root_found Effects.root = refl

pub added_found : (path us : Tokens) (x v w : Value.Value) → add_at path x v ≡ ok w → FoundAt path (forget v) us → walk us w ≡ ok x
unfolding add_at walk
added_found [] us x v w h f =
    let same : w ≡ x = cc in
    ap (λ us. walk us w) (root_found f) ∙ ap ok same
added_found (t ∷ ts) us x v w h f =
    parent_done (Finds x) (added_below x) (insert_child x) (λ t v w h us p same f. insert_found x t us v w p same f h) t ts v w h us (forget v) refl f

-- ---- of each operation
moved-found : (t : Text) (ts path us : Tokens) (v w x left : Value.Value) → move_to (t ∷ ts) path v ≡ ok w → walk (t ∷ ts) v ≡ ok x →
    remove_at_path (t ∷ ts) v ≡ ok left → FoundAt path (forget left) us → walk us w ≡ ok x
unfolding move_to ◌>>=◌
moved-found t ts path us v w x left h e f found = added_found path us x left w (rw (e, f) at h) found

copied-found : (k : ℕ) (from path us : Tokens) (v w x : Value.Value) → copy_to k from path v ≡ ok w → walk from v ≡ ok x → FoundAt path (forget v) us →
    walk us w ≡ ok (painted k (forget x))
unfolding copy_to ◌>>=◌
copied-found k from path us v w x h e found = added_found path us (painted k (forget x)) v w (rw e at h) found

pub found_again : (k : ℕ) (o : Operation) (v w : Value.Value) → perform k o v ≡ ok w → FoundAgain k o v w
unfolding perform
found_again k o v w h =
    record {
      added = λ us q f. added_found o.path us (painted k o.value) v w (is q) f;
      replaced = λ q. replaced-found o.path (painted k o.value) v w (is q);
      copied = λ us x q e f. copied-found k o.from o.path us v w x (is q) e f;
      moved = λ t ts us x left q r e f found.
          moved-found t ts o.path us v w x left (subst (λ from. move_to from o.path v ≡ ok w) r (is q))
          (subst (λ from. walk from v ≡ ok x) r e) (subst (λ from. remove_at_path from v ≡ ok left) r f) found;
    }
  where
    by : Kind → Operation
    by kind = record { kind = kind; path = o.path; from = o.from; value = o.value }

    is : {kind : Kind} → o.kind ≡ kind → perform k (by kind) v ≡ ok w
    is q = subst (λ kind. perform k (by kind) v ≡ ok w) q h
