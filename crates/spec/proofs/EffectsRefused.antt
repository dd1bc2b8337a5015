-- Refusals: `walk` and `perform` are refused exactly as SPECIFICATION 6 says, specs/Effects.
use Rattle.std.specs.Prelude.{if◌then◌else◌}
use mathlib.Core.Path.{◌≡◌, refl, ap, sym, subst, ◌∙◌}
use mathlib.Core.Logic.{◌↔◌}
use mathlib.Core.Bool.{Bool, true, false, ◌&&◌, true≢false}
use mathlib.Core.List.{[], ◌∷◌}
use Prim.Native.Nat.{ℕ, suc, ◌<◌, ◌≤◌}
use Prim.Native.Char.{code}
use native.Mathlib.Omega.{arith}
use lib.Dec.{ltb}
use borrow.Author.Tests.{ltb-false, le-ltb, ne_eqb}
use Rattle.spec.specs.Outcome.{Outcome, ok, refused, is_refused, ◌>>=◌}
use Rattle.spec.specs.Bytes.{Text, ascii}
use Rattle.spec.specs.Worth.{decimal}
use Rattle.spec.specs.Forest.{count}
use Rattle.spec.specs.Value as Value
use Rattle.spec.specs.Value.{Label, tag, is_array, is_object, same_text, find, has, value_of}
use Rattle.spec.specs.Equality.{equal}
use Rattle.spec.specs.Pointer.{Tokens, is_index, is_dash, element_below, member_named, child_at, child, farther, walk}
use Rattle.spec.specs.Operation.{Kind, Operation, at_parent, insert_element, insert_child, remove_child, replace_child}
use Rattle.spec.specs.Operation.{add_at, remove_at_path, replace_at_path, move_to, copy_to, test_at, perform}
use Rattle.spec.specs.Patch.{uses_from, which_pointer}
use Rattle.spec.specs.Effects as Effects
use Rattle.spec.specs.Effects.{ArrayIndex, Child, Evaluates, step, Below, Removes, removed}
use Rattle.spec.specs.Effects.{NoChild, LeadsNowhere, here, later, Fails, there, no_parent, deeper, NotAdded, Refuses}
use Rattle.spec.proofs.OutcomeLaws.{refused≢ok}
use Rattle.spec.proofs.TextLaws.{same_text_true, same_text_false}
use Rattle.spec.proofs.EffectsLaws.{index_of, is_index_lem, without-has, find-without, Standing, standing, child_is, child_at_lem, value_there}
use Rattle.spec.proofs.EffectsDone.{at_last, walk_to, to_walk, to_remove, insert-array, insert-object, object-child}

-- an outcome that is a result, or a refusal of this kind
pub data Out {A : Type 0} (No : ℕ → ℕ → Type 0) : Outcome A → Type 0 where
  fine : (a : A) → Out No (ok a)
  bad : {n k : ℕ} → No n k → Out No (refused n k)

-- a refusal of a kind that has no place
pub data Flat (No : ℕ → Type 0) : ℕ → ℕ → Type 0 where
  flat : {n : ℕ} → No n → Flat No n 0

pub out_then : {A B : Type 0} {No No' : ℕ → ℕ → Type 0} (o : Outcome A) (next : A → Outcome B) → Out No o → ((n k : ℕ) → No n k → No' n k) →
    ((a : A) → o ≡ ok a → Out No' (next a)) → Out No' (o >>= next)
unfolding ◌>>=◌
out_then o next (fine a) h g = g a refl
out_then o next (bad {n} {k} q) h g = bad (h n k q)

pub out_refused : {A : Type 0} {No : ℕ → ℕ → Type 0} {n k : ℕ} (o : Outcome A) → Out No o → o ≡ refused n k → No n k
out_refused o (fine a) e = absurd (refused≢ok (sym e))
out_refused {No = No} {n} {k} o (bad {n = m} {k = l} q) e =
    let number : m ≡ n = cc in
    let place : l ≡ k = cc in
    subst (No n) place (subst (λ m. No m l) number q)

pub out_map : {A : Type 0} {No No' : ℕ → ℕ → Type 0} {o : Outcome A} → ((n k : ℕ) → No n k → No' n k) → Out No o → Out No' o
out_map h (fine a) = fine a
out_map h (bad {n} {k} q) = bad (h n k q)

-- behind one token more
out_farther : {A : Type 0} {No No' : ℕ → ℕ → Type 0} (o : Outcome A) → Out No o → ((n k : ℕ) → No n k → No' n (suc k)) → Out No' (farther o)
unfolding farther
out_farther o (fine a) h = fine a
out_farther o (bad {n} {k} q) h = bad (h n k q)

-- Labels

data LabelKind (l : Label) : Type 0 where
  array : l ≡ Label.array → LabelKind l
  object : l ≡ Label.object → LabelKind l
  scalar : tag l < 5 → LabelKind l

label_kind : (l : Label) → LabelKind l
unfolding tag
label_kind Label.null_literal = scalar (omega arith)
label_kind Label.true_literal = scalar (omega arith)
label_kind Label.false_literal = scalar (omega arith)
label_kind Label.array = array refl
label_kind Label.object = object refl
label_kind (Label.number s) = scalar (omega arith)
label_kind (Label.string s) = scalar (omega arith)

no-array : {l : Label} → tag l < 5 → l ≡ Label.array → ⊥
unfolding tag
no-array h e = omega (arith, ap tag e)

no-object : {l : Label} → tag l < 5 → l ≡ Label.object → ⊥
unfolding tag
no-object h e = omega (arith, ap tag e)

-- a scalar, where it is neither an array nor an object
is_scalar : (l : Label) → (l ≡ Label.array → ⊥) → (l ≡ Label.object → ⊥) → tag l < 5
is_scalar l a b = go (label_kind l)
  where
    go : LabelKind l → tag l < 5
    go (array e) = absurd (a e)
    go (object e) = absurd (b e)
    go (scalar h) = h

-- Tokens

dashed : (t : Text) → is_dash t ≡ true → t ≡ code "-" ∷ []
unfolding is_dash ascii
dashed t h = same_text_true t (ascii "-") h

not_dashed : (t : Text) → is_dash t ≡ false → t ≡ code "-" ∷ [] → ⊥
unfolding is_dash ascii
not_dashed t h = same_text_false t (ascii "-") h

no_dash : (t : Text) → (t ≡ code "-" ∷ [] → ⊥) → is_dash t ≡ false
no_dash t n = go (is_dash t) refl
  where
    go : (b : Bool) → is_dash t ≡ b → is_dash t ≡ false
    go true h = absurd (n (dashed t h))
    go false h = h

no-array-index : (t : Text) → is_index t ≡ false → (k : ℕ) → ArrayIndex t k → ⊥
no-array-index t h k i = true≢false (sym (is_index_lem i).0 ∙ h)

no_index_test : (t : Text) → ((k : ℕ) → ArrayIndex t k → ⊥) → is_index t ≡ false
no_index_test t n = go (is_index t) refl
  where
    go : (b : Bool) → is_index t ≡ b → is_index t ≡ false
    go true h = absurd (n (decimal 0 t) (index_of t h))
    go false h = h

element_out : (limit : ℕ) (t : Text) {No : ℕ → Type 0} → (is_dash t ≡ true → No 11) → (is_dash t ≡ false → is_index t ≡ false → No 12) →
    (is_index t ≡ true → limit ≤ decimal 0 t → No 11) → Out (Flat No) (element_below limit t)
unfolding element_below
element_out limit t {No} dash other large = go (is_dash t) refl (is_index t) refl (ltb (decimal 0 t) limit) refl
  where
    go : (a : Bool) → is_dash t ≡ a → (b : Bool) → is_index t ≡ b → (c : Bool) → ltb (decimal 0 t) limit ≡ c →
        Out (Flat No) (if a then refused 11 0 else if b then (if c then ok (decimal 0 t) else refused 11 0) else refused 12 0)
    go true p b q c r = bad (flat (dash p))
    go false p true q true r = fine (decimal 0 t)
    go false p true q false r = bad (flat (large q (ltb-false (decimal 0 t) limit r)))
    go false p false q c r = bad (flat (other p q))

element_not_index : (limit : ℕ) (t : Text) → (t ≡ code "-" ∷ [] → ⊥) → ((k : ℕ) → ArrayIndex t k → ⊥) → element_below limit t ≡ refused 12 0
unfolding element_below
element_not_index limit t n i = rw (no_dash t n, no_index_test t i)

element_too_large : (limit : ℕ) (t : Text) (k : ℕ) → ArrayIndex t k → limit ≤ k → element_below limit t ≡ refused 11 0
unfolding element_below
element_too_large limit t k i h =
    let (index, value, dash) = is_index_lem i in
    rw (dash, index, value, le-ltb k limit h)

-- The child that a token names

child-array : (t : Text) (v : Value.Value) → v.label ≡ Label.array → child_at t v ≡ element_below (count v.kids) t
unfolding child_at is_array tag
child-array t v l = rw l

child-scalar : (t : Text) (v : Value.Value) → tag v.label < 5 → child_at t v ≡ refused 11 0
unfolding child_at is_array is_object
child-scalar t v h = rw (ne_eqb (tag v.label) 5 (λ e. omega arith), ne_eqb (tag v.label) 6 (λ e. omega arith))

child_out : (t : Text) (v : Value.Value) → Out (Flat (NoChild t v)) (child_at t v)
unfolding member_named
child_out t v = go (label_kind v.label)
  where
    member : v.label ≡ Label.object → (b : Bool) → has t v.kids ≡ b → Out (Flat (NoChild t v)) (if b then ok (find t v.kids) else refused 11 0)
    member l true h = fine (find t v.kids)
    member l false h = bad (flat (Effects.no_member l (without-has t v.kids h)))

    go : LabelKind v.label → Out (Flat (NoChild t v)) (child_at t v)
    go (array l) =
        rw (child-array t v l)
        (element_out (count v.kids) t (λ d. Effects.after_last l (dashed t d)) (λ d i. Effects.not_index l (not_dashed t d) (no-array-index t i))
        (λ i h. Effects.too_large (decimal 0 t) l (index_of t i) h))
    go (object l) = rw (object-child t v l) (member l (has t v.kids) refl)
    go (scalar h) = rw (child-scalar t v h) (bad (flat (Effects.scalar (no-array h) (no-object h))))

no_child : {t : Text} {v : Value.Value} {n : ℕ} → NoChild t v n → child_at t v ≡ refused n 0
unfolding member_named element_below is_dash same_text ascii
no_child {t} {v} (Effects.scalar a b) = child-scalar t v (is_scalar v.label a b)
no_child {t} {v} (Effects.no_member l w) = object-child t v l ∙ rw (find-without w, le-ltb (count v.kids) (count v.kids) (omega arith))
no_child {t} {v} (Effects.after_last l e) = child-array t v l ∙ rw e
no_child {t} {v} (Effects.not_index l d i) = child-array t v l ∙ element_not_index (count v.kids) t d i
no_child {t} {v} (Effects.too_large k l i h) = child-array t v l ∙ element_too_large (count v.kids) t k i h

-- the child at the place that a token names
there_stands : {t : Text} {v : Value.Value} {k : ℕ} (s : Standing t v k) → Child t v s.name (value_of (child k v)) s.earlier s.later
there_stands {t} {v} s = subst (λ x. Child t v s.name x s.earlier s.later) (sym (value_there s)) s.stands

-- The walk

from_flat : {No : ℕ → Type 0} (No' : ℕ → ℕ → Type 0) → ((n : ℕ) → No n → No' n 0) → (n k : ℕ) → Flat No n k → No' n k
from_flat _ h n _ (flat q) = h n q

walk_out : (ts : Tokens) (v : Value.Value) → Out (LeadsNowhere ts v) (walk ts v)
unfolding walk
walk_out [] v = fine v
walk_out (t ∷ ts) v =
    out_then (child_at t v) _ (child_out t v) (from_flat (LeadsNowhere (t ∷ ts) v) (λ n q. here q)) λ k e.
    let c = there_stands (standing t v k e) in
    out_farther (walk ts (value_of (child k v))) (walk_out ts (value_of (child k v))) (λ n k q. later c q)

pub walk_nowhere : {ts : Tokens} {v : Value.Value} {n k : ℕ} → LeadsNowhere ts v n k → walk ts v ≡ refused n k
unfolding walk farther ◌>>=◌
walk_nowhere (here q) = rw (no_child q)
walk_nowhere (later c q) = rw (child_at_lem c, child_is c, walk_nowhere q)

-- A change at the parent

module _ (change : Text → Value.Value → Outcome Value.Value) (Refused : Text → Value.Value → ℕ → Type 0) where
  parent_out : ((t : Text) (v : Value.Value) → Out (Flat (Refused t v)) (change t v)) → (t : Text) (ts : Tokens) (v : Value.Value) →
      Out (Fails Refused (t ∷ ts) v) (at_parent change t ts v)
  unfolding at_parent
  parent_out out t [] v = out_map (from_flat (Fails Refused (t ∷ []) v) (λ n q. there q)) (out t v)
  parent_out out t (u ∷ ts) v =
      out_then (child_at t v) _ (child_out t v) (from_flat (Fails Refused (t ∷ u ∷ ts) v) (λ n q. no_parent q)) λ k e.
      let c = there_stands (standing t v k e) in
      out_then (farther (at_parent change u ts (value_of (child k v)))) _
      (out_farther _ (parent_out out u ts (value_of (child k v))) (λ n k q. deeper c q)) (λ n k q. q) λ w f.
      fine _

  parent_fails : ((t : Text) (v : Value.Value) (n : ℕ) → Refused t v n → change t v ≡ refused n 0) → {ts : Tokens} {v : Value.Value} {n k : ℕ} →
      Fails Refused ts v n k → at_last (ok v) change ts v ≡ refused n k
  unfolding at_last at_parent farther ◌>>=◌
  parent_fails back (there {t} {v} {n} q) = back t v n q
  parent_fails back (no_parent q) = rw (no_child q)
  parent_fails back (deeper c q) = rw (child_at_lem c, child_is c, parent_fails back q)

-- What is added

insert_scalar : (x : Value.Value) (t : Text) (v : Value.Value) → tag v.label < 5 → insert_child x t v ≡ refused 11 0
unfolding insert_child is_array is_object
insert_scalar x t v h = rw (ne_eqb (tag v.label) 5 (λ e. omega arith), ne_eqb (tag v.label) 6 (λ e. omega arith))

add_out : (x : Value.Value) (t : Text) (v : Value.Value) → Out (Flat (NotAdded t v)) (insert_child x t v)
unfolding insert_element
add_out x t v = go (label_kind v.label)
  where
    at : v.label ≡ Label.array → (b : Bool) → is_dash t ≡ b →
        Out (Flat (NotAdded t v)) (if b then ok (count v.kids) else element_below (suc (count v.kids)) t)
    at l true d = fine (count v.kids)
    at l false d =
        element_out (suc (count v.kids)) t (λ e. absurd (true≢false (sym e ∙ d))) (λ d i. Effects.not_index l (not_dashed t d) (no-array-index t i))
        (λ i h. Effects.too_large (decimal 0 t) l (index_of t i) (omega arith))

    go : LabelKind v.label → Out (Flat (NotAdded t v)) (insert_child x t v)
    go (array l) = rw (insert-array x t v l) (out_then _ _ (at l (is_dash t) refl) (λ n k q. q) λ k e. fine _)
    go (object l) = rw (insert-object x t v l) (fine _)
    go (scalar h) = rw (insert_scalar x t v h) (bad (flat (Effects.scalar (no-array h) (no-object h))))

not_added : (x : Value.Value) (t : Text) (v : Value.Value) (n : ℕ) → NotAdded t v n → insert_child x t v ≡ refused n 0
unfolding insert_element ◌>>=◌
not_added x t v n (Effects.scalar a b) = insert_scalar x t v (is_scalar v.label a b)
not_added x t v n (Effects.not_index l d i) = insert-array x t v l ∙ rw (no_dash t d, element_not_index (suc (count v.kids)) t d i)
not_added x t v n (Effects.too_large k l i h) =
    insert-array x t v l ∙ rw ((is_index_lem i).2, element_too_large (suc (count v.kids)) t k i (omega arith))

-- What is removed, and what is replaced

remove_out : (t : Text) (v : Value.Value) → Out (Flat (NoChild t v)) (remove_child t v)
unfolding remove_child
remove_out t v = out_then (child_at t v) _ (child_out t v) (λ n k q. q) λ k e. fine _

not_removed : (t : Text) (v : Value.Value) (n : ℕ) → NoChild t v n → remove_child t v ≡ refused n 0
unfolding remove_child ◌>>=◌
not_removed t v n q = rw (no_child q)

replace_out : (x : Value.Value) (t : Text) (v : Value.Value) → Out (Flat (NoChild t v)) (replace_child x t v)
unfolding replace_child
replace_out x t v = out_then (child_at t v) _ (child_out t v) (λ n k q. q) λ k e. fine _

not_replaced : (x : Value.Value) (t : Text) (v : Value.Value) (n : ℕ) → NoChild t v n → replace_child x t v ≡ refused n 0
unfolding replace_child ◌>>=◌
not_replaced x t v n q = rw (no_child q)

-- At a path

add_path_out : (ts : Tokens) (x v : Value.Value) → Out (Fails NotAdded ts v) (add_at ts x v)
unfolding add_at
add_path_out [] x v = fine x
add_path_out (t ∷ ts) x v = parent_out (insert_child x) NotAdded (add_out x) t ts v

add_fails : (ts : Tokens) (x v : Value.Value) {n k : ℕ} → Fails NotAdded ts v n k → add_at ts x v ≡ refused n k
unfolding add_at at_last
add_fails [] x v q = absurd (refused≢ok (sym (parent_fails (insert_child x) NotAdded (not_added x) q)))
add_fails (t ∷ ts) x v q = parent_fails (insert_child x) NotAdded (not_added x) q

remove_fails : (ts : Tokens) (v : Value.Value) {n k : ℕ} → Fails NoChild ts v n k → remove_at_path ts v ≡ refused n k
unfolding remove_at_path at_last
remove_fails [] v q = absurd (refused≢ok (sym (parent_fails remove_child NoChild not_removed q)))
remove_fails (t ∷ ts) v q = parent_fails remove_child NoChild not_removed q

replace_fails : (ts : Tokens) (x v : Value.Value) {n k : ℕ} → Fails NoChild ts v n k → replace_at_path ts x v ≡ refused n k
unfolding replace_at_path at_last
replace_fails [] x v q = absurd (refused≢ok (sym (parent_fails (replace_child x) NoChild (not_replaced x) q)))
replace_fails (t ∷ ts) x v q = parent_fails (replace_child x) NoChild (not_replaced x) q

-- what a walk leads to, but for the root, can be removed
removable : (ts : Tokens) {t : Text} {v x : Value.Value} → Evaluates (t ∷ ts) v x → (left : Value.Value) × Below Removes (t ∷ ts) v left
removable [] (step c r) = (_, Effects.there (removed c))
removable (u ∷ ts) (step c r) = let (left, b) = removable ts r in (_, Effects.deeper c b)

-- Which pointer it is: the numbers of a location are 11 and 12, and no others are

data Located : ℕ → Type 0 where
  missing : Located 11
  no_index : Located 12

no_child_located : {t : Text} {v : Value.Value} {n : ℕ} → NoChild t v n → Located n
no_child_located (Effects.scalar a b) = missing
no_child_located (Effects.no_member l w) = missing
no_child_located (Effects.after_last l e) = missing
no_child_located (Effects.not_index l d i) = no_index
no_child_located (Effects.too_large k l i h) = missing

not_added_located : {t : Text} {v : Value.Value} {n : ℕ} → NotAdded t v n → Located n
not_added_located (Effects.scalar a b) = missing
not_added_located (Effects.not_index l d i) = no_index
not_added_located (Effects.too_large k l i h) = missing

nowhere_located : {ts : Tokens} {v : Value.Value} {n k : ℕ} → LeadsNowhere ts v n k → Located n
nowhere_located (here q) = no_child_located q
nowhere_located (later c q) = nowhere_located q

not_there : {ts : Tokens} {v : Value.Value} {n k : ℕ} → Fails NoChild ts v n k → Located n
not_there (there q) = no_child_located q
not_there (no_parent q) = no_child_located q
not_there (deeper c q) = not_there q

nowhere_to_add : {ts : Tokens} {v : Value.Value} {n k : ℕ} → Fails NotAdded ts v n k → Located n
nowhere_to_add (there q) = not_added_located q
nowhere_to_add (no_parent q) = no_child_located q
nowhere_to_add (deeper c q) = nowhere_to_add q

module _ (o : Operation) (v : Value.Value) where
  -- 11 and 12 come with the pointer that failed
  located : {n : ℕ} → Located n → which_pointer o v n ≡ (if uses_from o.kind && is_refused (walk o.from v) then 2 else 1)
  unfolding which_pointer
  located missing = refl
  located no_index = refl

  -- an operation without `from`
  only_path : {n : ℕ} → Located n → uses_from o.kind ≡ false → which_pointer o v n ≡ 1
  only_path l f = located l ∙ rw f

  -- `from` leads somewhere
  then_path : {n : ℕ} {x : Value.Value} → Located n → walk o.from v ≡ ok x → which_pointer o v n ≡ 1
  unfolding is_refused
  then_path l w = located l ∙ rw w (go (uses_from o.kind))
    where
      go : (b : Bool) → ◌≡◌ {A = ℕ} (if b && false then 2 else 1) 1
      go true = refl
      go false = refl

  -- it leads nowhere
  first-from : {n m k : ℕ} → Located n → uses_from o.kind ≡ true → walk o.from v ≡ refused m k → which_pointer o v n ≡ 2
  unfolding is_refused
  first-from l f w = located l ∙ rw (f, w)

-- The six operations

module _ (o : Operation) (v : Value.Value) where
  -- a refusal with the pointer that belongs to its number
  abbrev Told : ℕ → ℕ → Type 0
  Told n k = Refuses o v n k (which_pointer o v n)

  told : {n k p : ℕ} → which_pointer o v n ≡ p → Refuses o v n k p → Told n k
  told {n} {k} e q = subst (Refuses o v n k) (sym e) q

  path_only : (k : Kind) → o.kind ≡ k → uses_from k ≡ false → uses_from o.kind ≡ false
  path_only k q h = ap uses_from q ∙ h

  removed_out : o.kind ≡ Kind.remove → (ts : Tokens) → o.path ≡ ts → Out Told (remove_at_path ts v)
  unfolding remove_at_path which_pointer uses_from
  removed_out q [] e = bad (Effects.remove_root q e)
  removed_out q (t ∷ ts) e =
      out_map
      (λ n k f. told (only_path o v (not_there f) (path_only Kind.remove q refl))
      (Effects.remove q (subst (λ ts. Fails NoChild ts v n k) (sym e) f)))
      (parent_out remove_child NoChild remove_out t ts v)

  replaced_out : o.kind ≡ Kind.replace → (ts : Tokens) → o.path ≡ ts → Out Told (replace_at_path ts o.value v)
  unfolding replace_at_path uses_from
  replaced_out q [] e = fine o.value
  replaced_out q (t ∷ ts) e =
      out_map
      (λ n k f. told (only_path o v (not_there f) (path_only Kind.replace q refl))
      (Effects.replace q (subst (λ ts. Fails NoChild ts v n k) (sym e) f)))
      (parent_out (replace_child o.value) NoChild (replace_out o.value) t ts v)

  -- `from`, which leads nowhere
  from_told : {n k : ℕ} → uses_from o.kind ≡ true → LeadsNowhere o.from v n k → Refuses o v n k 2 → Told n k
  from_told f q h = told (first-from o v (nowhere_located q) f (walk_nowhere q)) h

  moved_out : o.kind ≡ Kind.move → (ts : Tokens) → o.from ≡ ts → Out Told (move_to ts o.path v)
  unfolding move_to ◌>>=◌ uses_from
  moved_out q [] e = fine v
  moved_out q (t ∷ ts) e =
      out_then (walk (t ∷ ts) v) _ (walk_out (t ∷ ts) v)
      (λ n k f. let there = subst (λ ts. LeadsNowhere ts v n k) (sym e) f in from_told (ap uses_from q) there (Effects.move q there)) λ x leads.
      let found = walk_to (t ∷ ts) v x leads in
      let (left, gone) = removable ts found in
      let from = subst (λ ts. Evaluates ts v x) (sym e) found in
      let out_of_lem = subst (λ ts. Below Removes ts v left) (sym e) gone in
      rw (to_remove (t ∷ ts) v left gone)
      (out_map (λ n k f. told (then_path o v (nowhere_to_add f) (to_walk from)) (Effects.move_add q from out_of_lem f))
      (add_path_out o.path x left))

  copied_out : o.kind ≡ Kind.copy → Out Told (copy_to o.from o.path v)
  unfolding copy_to uses_from
  copied_out q =
      out_then (walk o.from v) _ (walk_out o.from v) (λ n k f. from_told (ap uses_from q) f (Effects.copy q f)) λ x e.
      out_map (λ n k f. told (then_path o v (nowhere_to_add f) e) (Effects.copy_add q (walk_to o.from v x e) f))
      (add_path_out o.path x v)

  tested_out : o.kind ≡ Kind.test → Out Told (test_at o.path o.value v)
  unfolding test_at which_pointer uses_from
  tested_out q =
      out_then (walk o.path v) _ (walk_out o.path v)
      (λ n k f. told (only_path o v (nowhere_located f) (path_only Kind.test q refl)) (Effects.test q f)) λ found e.
      go found e (equal found o.value) refl
    where
      go : (found : Value.Value) → walk o.path v ≡ ok found → (b : Bool) → equal found o.value ≡ b → Out Told (if b then ok v else refused 15 0)
      go found e true same = fine v
      go found e false same = bad (Effects.differs q (walk_to o.path v found e) same)

  perform_out : Out Told (perform o v)
  unfolding perform uses_from
  perform_out = go o.kind refl
    where
      go : (k : Kind) → o.kind ≡ k → Out Told (perform (record { kind = k; path = o.path; from = o.from; value = o.value }) v)
      go Kind.add q =
          out_map (λ n k f. told (only_path o v (nowhere_to_add f) (path_only Kind.add q refl)) (Effects.add q f))
          (add_path_out o.path o.value v)
      go Kind.remove q = removed_out q o.path refl
      go Kind.replace q = replaced_out q o.path refl
      go Kind.move q = moved_out q o.from refl
      go Kind.copy q = copied_out q
      go Kind.test q = tested_out q

root_refused : (ts : Tokens) (v : Value.Value) → ts ≡ [] → remove_at_path ts v ≡ refused 13 0
unfolding remove_at_path
root_refused ts v e = rw e

move_refused : (ts path : Tokens) (v : Value.Value) {n k : ℕ} → LeadsNowhere ts v n k → move_to ts path v ≡ refused n k
unfolding move_to ◌>>=◌ walk
move_refused [] path v q = absurd (refused≢ok (sym (walk_nowhere q)))
move_refused (t ∷ ts) path v q = rw (walk_nowhere q)

move_add_refused : (ts path : Tokens) {v x left : Value.Value} {n k : ℕ} → Evaluates ts v x → Below Removes ts v left → Fails NotAdded path left n k →
    move_to ts path v ≡ refused n k
unfolding move_to ◌>>=◌ remove_at_path
move_add_refused [] path {v} {x} {left} e b f = absurd (refused≢ok (to_remove [] v left b))
move_add_refused (t ∷ ts) path {v} {x} {left} e b f = rw (to_walk e, to_remove (t ∷ ts) v left b) (add_fails path x left f)

to_refuses : (o : Operation) (v : Value.Value) (n k p : ℕ) → Refuses o v n k p → perform o v ≡ refused n k
unfolding perform copy_to test_at ◌>>=◌
to_refuses o v n k p (Effects.add q f) = rw q (add_fails o.path o.value v f)
to_refuses o v n k p (Effects.remove q f) = rw q (remove_fails o.path v f)
to_refuses o v n k p (Effects.remove_root q e) = rw q (root_refused o.path v e)
to_refuses o v n k p (Effects.replace q f) = rw q (replace_fails o.path o.value v f)
to_refuses o v n k p (Effects.move q f) = rw q (move_refused o.from o.path v f)
to_refuses o v n k p (Effects.move_add q e b f) = rw q (move_add_refused o.from o.path e b f)
to_refuses o v n k p (Effects.copy q f) = rw (q, walk_nowhere f)
to_refuses o v n k p (Effects.copy_add {x} q e f) = rw (q, to_walk e) (add_fails o.path x v f)
to_refuses o v n k p (Effects.test q f) = rw (q, walk_nowhere f)
to_refuses o v n k p (Effects.differs q e d) = rw (q, to_walk e, d)

to_pointer : (o : Operation) (v : Value.Value) (n k p : ℕ) → Refuses o v n k p → which_pointer o v n ≡ p
unfolding which_pointer uses_from
to_pointer o v n k p (Effects.add q f) = only_path o v (nowhere_to_add f) (ap uses_from q)
to_pointer o v n k p (Effects.remove q f) = only_path o v (not_there f) (ap uses_from q)
to_pointer o v n k p (Effects.remove_root q e) = refl
to_pointer o v n k p (Effects.replace q f) = only_path o v (not_there f) (ap uses_from q)
to_pointer o v n k p (Effects.move q f) = first-from o v (nowhere_located f) (ap uses_from q) (walk_nowhere f)
to_pointer o v n k p (Effects.move_add q e b f) = then_path o v (nowhere_to_add f) (to_walk e)
to_pointer o v n k p (Effects.copy q f) = first-from o v (nowhere_located f) (ap uses_from q) (walk_nowhere f)
to_pointer o v n k p (Effects.copy_add q e f) = then_path o v (nowhere_to_add f) (to_walk e)
to_pointer o v n k p (Effects.test q f) = only_path o v (nowhere_located f) (ap uses_from q)
to_pointer o v n k p (Effects.differs q e d) = refl

pub walk_refused : (ts : Tokens) (v : Value.Value) (n k : ℕ) → walk ts v ≡ refused n k ↔ LeadsNowhere ts v n k
walk_refused ts v n k = (out_refused (walk ts v) (walk_out ts v), walk_nowhere)

pub perform_refused : (o : Operation) (v : Value.Value) (n k p : ℕ) →
    ((perform o v ≡ refused n k) × (which_pointer o v n ≡ p)) ↔ Refuses o v n k p
perform_refused o v n k p =
    (λ h. subst (Refuses o v n k) h.1 (out_refused (perform o v) (perform_out o v) h.0), λ q. (to_refuses o v n k p q, to_pointer o v n k p q))
