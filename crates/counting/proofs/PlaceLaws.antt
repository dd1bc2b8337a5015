-- Laws of places, and of a table whose scratch rows change.
use Rattle.std.proofs.Common.{◌≡◌, ℕ, zero, suc, ◌+◌, ◌-◌, ◌<◌, ◌≤◌, List, [], length, get_or, take, drop}
use Rattle.std.proofs.Common.{set, sym, refl, ap, ◌∙◌, subst, arith, length-set, get_or-set_other, get_or-take, get_or-set_same, take-take, drop-set-lt}
use lib.Seq.{take-set-le}
use Rattle.spec.specs.Forest.{Forest, none, tree, size, before, from}
use Rattle.spec.proofs.ListLaws.{drop-take}
use Rattle.tape.specs.Layout.{scratch_row, rows}
use Rattle.tape.specs.Columns.{Scratched}
use Rattle.tape.specs.Fields.{Row, span_of}
use Rattle.tape.specs.declared.fields.Cell.{Cell}
use Rattle.tape.specs.Cell.{Held, Node}
use Rattle.tape.specs.Rows.{end_of}
use Rattle.tape.specs.Lent.{Table}
use Rattle.tape.proofs.Forests.{size-cut}
use Rattle.table.specs.Sound.{NodeHeld}
use Rattle.changes.specs.Site.{table}
use Rattle.changes.proofs.KeptLaws.{SameRows, held_alone, held_same}
use Rattle.equality.proofs.SiblingLaws.{Siblings}
use Rattle.counting.specs.Places.{apart, place_row, place_at, HavePlaces, placed_none, placed_tree}

-- ---- places by other notes, which are the same in these rows
pub placed_same : {p q : ℕ → ℕ} {row k : ℕ} {f : Forest Cell} → HavePlaces p row k f → ((r : ℕ) → row ≤ r → r < row + size f → q r ≡ p r)
    → HavePlaces q row k f
unfolding size
placed_same placed_none same = placed_none
placed_same {row = row} (placed_tree is below rest) same =
    placed_tree (same row (omega arith) (omega arith) ∙ is) (placed_same below (λ r h l. same r (omega arith) (omega arith)))
    (placed_same rest (λ r h l. same r (omega arith) (omega arith)))

-- ---- the k-th tree has the k-th place, and those below it have theirs
module _ {p : ℕ → ℕ} {c : Cell} {ks after : Forest Cell} where
  placed-from : {row n : ℕ} {f : Forest Cell} → HavePlaces p row n f → (k at : ℕ) → from k f ≡ tree c ks after → at ≡ row + size (before k f)
      → (p at ≡ n + k) × HavePlaces p (at + 1) 1 ks
  unfolding from before size
  placed-from placed_none zero at e place = absurd (let z : ◌≡◌ {A = ℕ} 0 1 = cc in omega arith)
  placed-from placed_none (suc k) at e place = absurd (let z : ◌≡◌ {A = ℕ} 0 1 = cc in omega arith)
  placed-from {row} {n} (placed_tree {kids = kids} is below rest) zero at e place =
      let same : kids ≡ ks = cc in
      let here : at ≡ row = omega arith in
      (omega (arith, ap p here), subst (HavePlaces p (at + 1) 1) same (subst (λ r. HavePlaces p (r + 1) 1 kids) (sym here) below))
  placed-from (placed_tree is below rest) (suc k) at e place =
      let (there, inside) = placed-from rest k at e (omega arith) in
      (omega arith, inside)

  pub siblings_place : {w : Table} {start row end n : ℕ} {f : Forest Cell} (k : ℕ) → HavePlaces p start n f → Siblings w start end f
      → Siblings w row end (tree c ks after) → from k f ≡ tree c ks after → (p row ≡ n + k) × HavePlaces p (row + 1) 1 ks
  siblings_place {row = row} {f = f} k placed s t e = placed-from placed k row e (omega (arith, size-cut k f, ap size e, s.left.ends, t.left.ends))

-- ---- only scratch rows change
pub scratched_none : {xs : List Row} → Scratched xs xs
scratched_none = record { before = refl; behind = refl; same_length = refl }

pub scratched_then : {xs ys zs : List Row} → Scratched xs ys → Scratched ys zs → Scratched xs zs
scratched_then a b =
    record { before = b.before ∙ a.before; behind = b.behind ∙ a.behind; same_length = b.same_length ∙ a.same_length }

pub scratched_set : (xs : List Row) (i : ℕ) (x : Row) → scratch_row ≤ i → i < rows → Scratched xs (set xs i x)
scratched_set xs i x h l =
    record { before = take-set-le scratch_row xs i x h; behind = drop-set-lt rows xs i x l; same_length = length-set xs i x }

module _ {xs ys : List Row} (s : Scratched xs ys) where
  row_same : (r : ℕ) → r < scratch_row → get_or ys r [] ≡ get_or xs r []
  row_same r h = sym (get_or-take scratch_row ys r [] h) ∙ ap (λ l. get_or l r []) s.before ∙ get_or-take scratch_row xs r [] h

  pub end_same : (r : ℕ) → r < scratch_row → end_of ys r ≡ end_of xs r
  end_same r h = rw (row_same r h, s.same_length)

  same_rows : (row n : ℕ) → row + n ≤ scratch_row → SameRows xs ys row n
  same_rows row n h =
      let part : (l : List Row) → take n (drop row (take scratch_row l)) ≡ take n (drop row l) =
      λ l. rw (drop-take row scratch_row l) (take-take n (scratch_row - row) (drop row l) (omega arith)) in
      record { is = sym (part ys) ∙ ap (λ l. take n (drop row l)) s.before ∙ part xs }

  held_still : {row : ℕ} {c : Cell} {kids rest : Forest Cell} → Held xs row (tree c kids rest) → row + 1 + size kids ≤ scratch_row
      → Held ys row (tree c kids none)
  unfolding size
  held_still {row} {c} {kids} h low = held_same (same_rows row (size (tree c kids none)) (omega arith)) (held_alone h)

  -- a tree before the scratch rows still stands there
  pub node_still : {row : ℕ} {c : Cell} {kids : Forest Cell} → Node xs row c kids → row + 1 + size kids ≤ scratch_row → Node ys row c kids
  node_still n low = record { rest = none; held = held_still n.held low }

pub value-still : {w : Table} {ys : List Row} {row : ℕ} {c : Cell} {kids : Forest Cell} → Scratched w.nodes ys → NodeHeld w row c kids
    → row + 1 + size kids ≤ scratch_row → NodeHeld (table w.texts ys) row c kids
value-still s x low = record { rest = none; held = held_still s x.held low; label = x.label; sound = x.sound }

-- ---- a place noted
module _ (xs : List Row) (row k : ℕ) where
  pub noted_here : row + apart < length xs → place_at (set xs (row + apart) (place_row k)) row ≡ k
  noted_here h = ap span_of (get_or-set_same xs (row + apart) (place_row k) [] h)

  pub noted_other : (r : ℕ) → (r ≡ row → ⊥) → place_at (set xs (row + apart) (place_row k)) r ≡ place_at xs r
  noted_other r d = ap span_of (get_or-set_other xs (row + apart) (r + apart) (place_row k) [] (λ e. d (omega arith)))
