-- Laws of the limits on a part of the document.
use Rattle.std.specs.Prelude.{if◌then◌else◌}
use Prim.Native.Nat.{ℕ, suc, ◌+◌, ◌≤◌, ◌<◌}
use native.Mathlib.Omega.{arith}
use mathlib.Core.Path.{◌≡◌, refl, ap, sym, ◌∙◌}
use mathlib.Core.Bool.{Bool, true, false}
use mathlib.Core.List.{[]}
use lib.Dec.{leb}
use borrow.Author.Tests.{le-leb, lt-leb, leb-true, leb-false}
use Rattle.spec.specs.Outcome.{Outcome, ok, refused, ◌>>=◌}
use Rattle.spec.specs.Refusal.{too_deep, too_many_nodes}
use Rattle.spec.specs.Limits.{max_depth, max_nodes}
use Rattle.spec.specs.Bytes.{Text}
use Rattle.spec.specs.Value as Plain
use Rattle.spec.specs.Value.{Label}
use Rattle.spec.specs.Pointer as PlainPointer
use Rattle.spec.specs.Operation as PlainOperation
use Rattle.spec.proofs.ChildLaws.{depth-put, child_there}
use Rattle.origin.specs.Value as Value
use Rattle.origin.specs.Value.{depth, nodes, value_of, forget}
use Rattle.origin.specs.Pointer.{child_at, child}
use Rattle.origin.specs.Operation.{put, not_too_deep, not_too_large}
use Rattle.origin.proofs.ForgetLaws.{forget-put, forget-value_of}
use Rattle.tape.proofs.Forests.{size-replace_at}
use Rattle.changes.specs.Limited.{within_levels, within_room, limited_to}
use Rattle.changes.specs.Document.{judged, judged_bearing}

module _ (levels room : ℕ) where
  pub limited_refused : (number place : ℕ) → limited_to levels room (refused number place) ≡ refused number place
  unfolding limited_to ◌>>=◌
  limited_refused number place = refl

  module _ (v : Value.Value) where
    pub limited-deep : levels < depth v → limited_to levels room (ok v) ≡ refused too_deep 0
    unfolding limited_to within_levels ◌>>=◌
    limited-deep h = rw (lt-leb (depth v) levels h)

    module _ (h : depth v ≤ levels) where
      pub limited_large : room < nodes v → limited_to levels room (ok v) ≡ refused too_many_nodes 0
      unfolding limited_to within_levels within_room ◌>>=◌
      limited_large l = rw (le-leb (depth v) levels h, lt-leb (nodes v) room l)

      pub limited_fits : nodes v ≤ room → limited_to levels room (ok v) ≡ ok v
      unfolding limited_to within_levels within_room ◌>>=◌
      limited_fits l = rw (le-leb (depth v) levels h, le-leb (nodes v) room l)

  -- what passes is the value that was given
  pub limited_same : (o : Outcome Value.Value) (w : Value.Value) → limited_to levels room o ≡ ok w
      → (o ≡ ok w) × (depth w ≤ levels) × (nodes w ≤ room)
  unfolding limited_to within_levels within_room ◌>>=◌
  limited_same (refused n p) w e = absurd (let z : ◌≡◌ {A = ℕ} 0 1 = cc in omega arith)
  limited_same (ok v) w e = go (leb (depth v) levels) (leb (nodes v) room) refl refl e
    where
      go : (a b : Bool) → leb (depth v) levels ≡ a → leb (nodes v) room ≡ b
          → (if a then ok v else refused too_deep 0) >>= (λ u. if leb (nodes u) room then ok u else refused too_many_nodes 0) ≡ ok w
          → (ok v ≡ ok w) × (depth w ≤ levels) × (nodes w ≤ room)
      go true true p q f =
          let passed = rw (q, ◌>>=◌) at f in
          let same : v ≡ w = cc in
          (ap ok same, rw same at (leb-true (depth v) levels p), rw same at (leb-true (nodes v) room q))
      go true false p q f = absurd (let g = rw (q, ◌>>=◌) at f in let z : ◌≡◌ {A = ℕ} 0 1 = cc in omega arith)
      go false b p q f = absurd (let z : ◌≡◌ {A = ℕ} 0 1 = cc in omega arith)

-- ---- the whole document's limits
pub limited_whole : (o : Outcome Value.Value) → limited_to max_depth max_nodes o ≡ judged_bearing o
unfolding limited_to within_levels within_room not_too_deep not_too_large
limited_whole o = refl

module _ (v : Value.Value) where
  pub bearing-deep : max_depth < depth v → judged_bearing (ok v) ≡ refused too_deep 0
  bearing-deep h = sym (limited_whole (ok v)) ∙ limited-deep max_depth max_nodes v h

  module _ (h : depth v ≤ max_depth) where
    pub bearing_large : max_nodes < nodes v → judged_bearing (ok v) ≡ refused too_many_nodes 0
    bearing_large l = sym (limited_whole (ok v)) ∙ limited_large max_depth max_nodes v h l

    pub bearing_fits : nodes v ≤ max_nodes → judged_bearing (ok v) ≡ ok v
    bearing_fits l = sym (limited_whole (ok v)) ∙ limited_fits max_depth max_nodes v h l

-- and without origins
pub judged_refused : (number place : ℕ) → judged (refused number place) ≡ refused number place
unfolding ◌>>=◌
judged_refused number place = refl

pub judged_fits : (v : Plain.Value) → Plain.depth v ≤ max_depth → Plain.nodes v ≤ max_nodes → judged (ok v) ≡ ok v
unfolding PlainOperation.not_too_deep PlainOperation.not_too_large ◌>>=◌
judged_fits v h l = rw (le-leb (Plain.depth v) max_depth h, le-leb (Plain.nodes v) max_nodes l)

-- ---- a child's limits are its parent's
leb_same : (a b m n : ℕ) → (a ≤ b → m ≤ n) → (m ≤ n → a ≤ b) → leb a b ≡ leb m n
leb_same a b m n f g = go (leb a b) (leb m n) refl refl
  where
    go : (s t : Bool) → leb a b ≡ s → leb m n ≡ t → leb a b ≡ leb m n
    go true true p q = p ∙ sym q
    go false false p q = p ∙ sym q
    go true false p q = absurd (omega (arith, f (leb-true a b p), leb-false m n q))
    go false true p q = absurd (omega (arith, g (leb-true m n q), leb-false a b p))

module _ (t : Text) (v : Plain.Value) (k : ℕ) (there : PlainPointer.child_at t v ≡ ok k) where
  pub nodes-put : (w : Plain.Value)
      → Plain.nodes (PlainOperation.put k w v) + Plain.nodes (Plain.value_of (PlainPointer.child k v)) ≡ Plain.nodes v + Plain.nodes w
  unfolding Plain.nodes PlainOperation.put PlainPointer.child
  nodes-put w =
      let s = size-replace_at (Plain.named [] (Plain.leaf Label.null_literal)) k v.kids (child_there t v k there)
      (Plain.named (PlainPointer.child k v).root.name w) in
      omega (arith, s)

module _ (t : Text) (v : Value.Value) (k : ℕ) (there : child_at t v ≡ ok k) where
  bearing-nodes : (w : Value.Value) → nodes (put k w v) + nodes (value_of (child k v)) ≡ nodes v + nodes w
  bearing-nodes w =
      omega (arith, nodes-put t (forget v) k there (forget w), ap Plain.nodes (forget-put k w v), ap Plain.nodes (forget-value_of k v))

  module _ (levels below room inner used : ℕ) (shallow : depth v ≤ levels) (one_less : levels ≡ suc below)
      (outer-is : used + room ≡ max_nodes + nodes v)
      (inner-is : used + inner ≡ max_nodes + nodes (value_of (child k v))) where
    module _ (w : Value.Value) where
      same_deep : leb (depth (put k w v)) levels ≡ leb (depth w) below
      same_deep =
          let d = depth-put t (forget w) (forget v) k there in
          let same = ap Plain.depth (forget-put k w v) in
          leb_same (depth (put k w v)) levels (depth w) below (λ h. omega (arith, d.0)) (λ h. omega (arith, d.1))

      same_large : leb (nodes (put k w v)) room ≡ leb (nodes w) inner
      same_large =
          let n = bearing-nodes w in
          leb_same (nodes (put k w v)) room (nodes w) inner (λ h. omega (arith, n)) (λ h. omega (arith, n))

    -- a value put in the place of a child passes the parent's limits where it passes the child's
    pub limited-put : (o : Outcome Value.Value) → limited_to levels room (o >>= λ w. ok (put k w v)) ≡ limited_to below inner o >>= λ w. ok (put k w v)
    unfolding limited_to within_levels within_room ◌>>=◌
    limited-put (refused n p) = refl
    limited-put (ok w) = go (leb (depth w) below) (leb (nodes w) inner) (same_deep w) (same_large w) refl refl
      where
        go : (a b : Bool) → leb (depth (put k w v)) levels ≡ leb (depth w) below → leb (nodes (put k w v)) room ≡ leb (nodes w) inner
            → leb (depth w) below ≡ a → leb (nodes w) inner ≡ b
            → limited_to levels room (ok (put k w v)) ≡ limited_to below inner (ok w) >>= λ u. ok (put k u v)
        go true true d n e f = rw (d, e, n, f)
        go true false d n e f = rw (d, e, n, f)
        go false b d n e f = rw (d, e)
