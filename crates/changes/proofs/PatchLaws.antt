-- Laws of the rows of the patch, which every change of the document keeps.
use Rattle.std.specs.Prelude.{Result}
use Prim.Native.Nat.{ℕ, ◌+◌, ◌-◌, ◌≤◌}
use native.Mathlib.Omega.{arith}
use mathlib.Core.Path.{◌≡◌, refl, ap, sym, ◌∙◌}
use mathlib.Core.Bool.{Bool, true, false, ◌&&◌}
use mathlib.Core.List.{List}
use lib.ListN.{length, take, drop}
use lib.Seq.{take-take, drop-drop}
use borrow.Author.Tests.{leb-true}
use Rattle.spec.specs.Limits.{max_nodes}
use Rattle.spec.specs.declared.refusal.Fault.{Fault}
use Rattle.spec.specs.Forest.{Forest}
use Rattle.spec.proofs.ListLaws.{drop-take}
use Rattle.spec.proofs.TextLaws.{both_true}
use Rattle.tape.specs.Layout.{patch_row, scratch_row}
use Rattle.tape.specs.Fields.{Row}
use Rattle.tape.specs.Columns.{inside, copied, moved}
use Rattle.tape.specs.declared.fields.Cell.{Cell}
use Rattle.tape.specs.Lent.{Table}
use Rattle.tape.proofs.Columns.{take-replaced}
use Rattle.table.specs.Sound.{RowsHeld}
use Rattle.changes.specs.Site.{table}
use Rattle.changes.specs.Rows.{SameBehind, SamePatch, Frame}
use Rattle.changes.proofs.KeptLaws.{SameRows, held_same, frame_behind}

-- ---- rows copied to the scratch rows, wherever they are from, leave those before as they were
take_aside : (xs : List Row) (start n : ℕ) → take scratch_row (moved xs scratch_row start n) ≡ take scratch_row xs
unfolding moved copied inside
take_aside xs start n = go (inside xs scratch_row n && inside xs start n) refl
  where
    go : (b : Bool) → (inside xs scratch_row n && inside xs start n) ≡ b → take scratch_row (moved xs scratch_row start n) ≡ take scratch_row xs
    go true e =
        let there : scratch_row + n ≤ length xs = leb-true (scratch_row + n) (length xs) (both_true (inside xs scratch_row n) (inside xs start n) e).0 in
        rw e (take-replaced xs scratch_row n (take n (drop start xs)) (omega arith) scratch_row (omega arith))
    go false e = rw e

module _ {xs : List Row} where
  pub patch_same : SamePatch xs xs
  patch_same = record { is = refl }

  pub patch_then : {ys zs : List Row} → SamePatch xs ys → SamePatch ys zs → SamePatch xs zs
  patch_then a b = record { is = b.is ∙ a.is }

  -- they are behind the document's
  pub patch_behind : {ys : List Row} → SameBehind xs ys → SamePatch xs ys
  patch_behind b = record { is = ap (take max_nodes) b.is }

  pub patch_framed : {ys : List Row} {r : Result ℕ Fault} → Frame xs ys r → SamePatch xs ys
  patch_framed f = patch_behind (frame_behind f)

  -- and before those of scratch
  pub patch-before : {ys : List Row} → take scratch_row ys ≡ take scratch_row xs → SamePatch xs ys
  patch-before {ys} e = record { is = sym (drop-take patch_row scratch_row ys) ∙ ap (drop patch_row) e ∙ drop-take patch_row scratch_row xs }

  pub patch_scratch : (start n : ℕ) → SamePatch xs (moved xs scratch_row start n)
  patch_scratch start n = patch-before (take_aside xs start n)

  same_patch : {ys : List Row} {row n : ℕ} → patch_row ≤ row → row + n ≤ scratch_row → SamePatch xs ys → SameRows xs ys row n
  same_patch {ys} {row} {n} behind before same =
      let place : patch_row + (row - patch_row) ≡ row = omega arith in
      let part : (l : List Row) → take n (drop (row - patch_row) (take max_nodes (drop patch_row l))) ≡ take n (drop row l) =
      λ l. rw (drop-take, take-take n (max_nodes - (row - patch_row)) _ (omega arith), drop-drop, place) in
      record { is = sym (part ys) ∙ ap (λ l. take n (drop (row - patch_row) l)) same.is ∙ part xs }

-- its trees stand there still
pub rows-kept : {w : Table} {nodes' : List Row} {row end : ℕ} {f : Forest Cell} → SamePatch w.nodes nodes' → patch_row ≤ row → end ≤ scratch_row
    → RowsHeld w row end f → RowsHeld (table w.texts nodes') row end f
rows-kept same behind before h =
    record { held = held_same (same_patch behind (omega (arith, h.ends)) same) h.held; ends = h.ends; sound = h.sound }
