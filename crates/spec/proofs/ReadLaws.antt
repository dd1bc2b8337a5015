-- What is read has at most as many levels as there were to spend.
use Rattle.std.specs.Prelude.{if◌then◌else◌}
use mathlib.Core.Path.{◌≡◌, refl, subst}
use mathlib.Core.Bool.{Bool, true, false, ◌||◌}
use Prim.Native.Nat.{ℕ, zero, suc, ◌+◌, ◌≤◌}
use Prim.Native.Char.{code}
use native.Mathlib.Omega.{arith}
use lib.ListN.{length}
use lib.Dec.{eqb}
use Rattle.spec.specs.Outcome.{Outcome, ok, ◌>>=◌}
use Rattle.spec.specs.Limits.{max_depth}
use Rattle.spec.specs.Bytes.{Bytes, Text, byte}
use Rattle.spec.specs.Numbers.{is_digit}
use Rattle.spec.specs.Forest.{none, tree, single, size, ◌⧺◌}
use Rattle.spec.specs.Value as Value
use Rattle.spec.specs.Value.{Label, Members, leaf, named, tag, depths, depth, levels, is_container}
use Rattle.spec.specs.Read.{blanks, room_for, literal_value, number_value, string_value, scalar, closing_bracket, container_label, items, contents, container}
use Rattle.spec.specs.Read.{value, read}
use Rattle.spec.proofs.OutcomeLaws.{refused≢ok, both_ok, either_ok, first_ok}

depths-append : (f g : Members) (n : ℕ) → depths f ≤ n → depths g ≤ n → depths (f ⧺ g) ≤ n
unfolding depths ◌⧺◌
depths-append none g n h i = i
depths-append (tree e kids rest) g n h i = omega (arith, depths-append rest g n (omega arith) i)

-- a scalar has no levels: whatever reads it, with what label and to what place
abbrev leaf_at : Label → ℕ → Outcome (Value.Value × ℕ)
leaf_at l next = ok (leaf l, next)

leaf-depth : {X : Type 0} (o : Outcome X) (label : X → Label) (place : X → ℕ) → ((x : X) → is_container (label x) ≡ false) →
    (v : Value.Value) (next : ℕ) → (o >>= λ x. leaf_at (label x) (place x)) ≡ ok (v, next) → depth v ≡ 0
unfolding depth levels
leaf-depth o label place no-container v next h =
    let (x, _, i) = both_ok o _ (v, next) h in
    rw (← first_ok i, no-container x, levels)

-- a value that there was room for
after-room : (nodes at : ℕ) (o : Outcome (Value.Value × ℕ)) {v : Value.Value} {next : ℕ} →
    (room_for nodes at >>= λ _. o) ≡ ok (v, next) → o ≡ ok (v, next)
after-room nodes at o h = let (_, _, i) = both_ok (room_for nodes at) _ _ h in i

pub scalar-depth : (s : Bytes) (at nodes : ℕ) (v : Value.Value) (next : ℕ) → scalar s at nodes ≡ ok (v, next) → depth v ≡ 0
unfolding scalar literal_value number_value string_value is_container tag
scalar-depth s at nodes v next h =
    either_ok (eqb (byte s at) (code "\"")) h (λ h. leaf-depth _ _ _ (λ x. refl) v next (after-room nodes at _ h)) λ h.
    either_ok (is_digit (byte s at) || eqb (byte s at) (code "-")) h (λ h. leaf-depth _ _ _ (λ x. refl) v next (after-room nodes at _ h)) λ h.
    either_ok (eqb (byte s at) (code "n")) h (λ h. leaf-depth _ _ _ (λ x. refl) v next (after-room nodes at _ h)) λ h.
    either_ok (eqb (byte s at) (code "t")) h (λ h. leaf-depth _ _ _ (λ x. refl) v next (after-room nodes at _ h)) λ h.
    either_ok (eqb (byte s at) (code "f")) h (λ h. leaf-depth _ _ _ (λ x. refl) v next (after-room nodes at _ h)) λ h. absurd (refused≢ok h)

-- a reader of values with at most n levels
abbrev Shallow : ℕ → (ℕ → ℕ → Outcome (Value.Value × ℕ)) → Type 0
Shallow n value = (at nodes : ℕ) (v : Value.Value) (next : ℕ) → value at nodes ≡ ok (v, next) → depth v ≤ n

module _ (n : ℕ) (value : ℕ → ℕ → Outcome (Value.Value × ℕ)) (shallow : Shallow n value) (object : Bool) (s : Bytes) where
  item_depth : (name : Text) (v : Value.Value) → depth v ≤ n → depths (single (named name v)) ≤ n
  unfolding depths depth
  item_depth name v h = omega arith

  items-depth : (fuel nodes : ℕ) (so_far : Members) (at : ℕ) → depths so_far ≤ n → (kids : Members) (next : ℕ) →
      items fuel value object s nodes so_far at ≡ ok (kids, next) → depths kids ≤ n
  unfolding items
  items-depth zero nodes so_far at d kids next h = absurd (refused≢ok h)
  items-depth (suc fuel) nodes so_far at d kids next h =
      let (name-place, _, i) = both_ok _ _ _ h in
      let (v_next, e, j) = both_ok _ _ _ i in
      let v = v_next.0 in
      let item = single (named name-place.0 v) in
      let grown : depths (so_far ⧺ item) ≤ n = depths-append so_far item n d
      (item_depth name-place.0 v (shallow name-place.1 (nodes + size so_far) v v_next.1 e)) in
      either_ok (eqb (byte s (blanks s v_next.1)) (closing_bracket object)) j (λ k. subst (λ f. depths f ≤ n) (first_ok k) grown) λ k.
      let (_, _, l) = both_ok _ _ _ k in
      items-depth fuel nodes (so_far ⧺ item) (blanks s (blanks s v_next.1 + 1)) grown kids next l

  contents-depth : (nodes at : ℕ) (kids : Members) (next : ℕ) → contents value object s nodes at ≡ ok (kids, next) → depths kids ≤ n
  unfolding contents depths
  contents-depth nodes at kids next h =
      let empty : depths none ≤ n = omega arith in
      either_ok (eqb (byte s (blanks s at)) (closing_bracket object)) h (λ i. subst (λ f. depths f ≤ n) (first_ok i) empty) λ i.
      items-depth (length s) nodes none _ empty kids next i

  container-depth : (at nodes : ℕ) (v : Value.Value) (next : ℕ) → container value object s at nodes ≡ ok (v, next) → depth v ≤ suc n
  unfolding container depth levels
  container-depth at nodes v next h =
      let (kids-next, e, i) = both_ok _ _ _ (after-room nodes at _ h) in
      subst (λ w. depth w ≤ suc n) (first_ok i)
      (one_more (is_container (container_label object)) (contents-depth (nodes + 1) (at + 1) kids-next.0 kids-next.1 e))
    where
      one_more : (b : Bool) {below : ℕ} → below ≤ n → (if b then suc below else 0) ≤ suc n
      one_more true h = omega arith
      one_more false h = omega arith

pub value-depth : (left : ℕ) (s : Bytes) → Shallow left (value left s)
unfolding value
value-depth zero s at nodes v next h =
    either_ok (eqb (byte s at) (code "[")) h (λ i. absurd (refused≢ok i)) λ i.
    either_ok (eqb (byte s at) (code "{")) i (λ j. absurd (refused≢ok j)) λ j.
    let flat = scalar-depth s at nodes v next j in
    omega arith
value-depth (suc left) s at nodes v next h =
    either_ok (eqb (byte s at) (code "[")) h (container-depth left (value left s) (value-depth left s) false s at nodes v next) λ i.
    either_ok (eqb (byte s at) (code "{")) i (container-depth left (value left s) (value-depth left s) true s at nodes v next) λ j.
    let flat = scalar-depth s at nodes v next j in
    omega arith

pub read-depth : (s : Bytes) (v : Value.Value) → read s ≡ ok v → depth v ≤ max_depth
unfolding read
read-depth s v h =
    let (v_next, e, i) = both_ok _ _ _ h in
    let bound = value-depth max_depth s _ _ v_next.0 _ e in
    either_ok (eqb (blanks s v_next.1) (length s)) i (λ j. let same : v_next.0 ≡ v = cc in rw (← same) bound) (λ j. absurd (refused≢ok j))
