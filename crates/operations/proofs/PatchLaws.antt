-- Laws of the rows of the patch, which every operation keeps.
use Prim.Native.Nat.{ℕ, ◌+◌}
use mathlib.Core.Path.{◌≡◌, ap, sym, ◌∙◌, subst}
use mathlib.Core.List.{List, []}
use lib.ListN.{take, get_or}
use Rattle.tape.specs.Layout.{scratch_row}
use Rattle.tape.specs.Fields.{Row, span_of}
use Rattle.changes.proofs.PatchLaws.{patch-before, patch_scratch}
use Rattle.operations.specs.Stamp.{stamped}
use Rattle.operations.specs.Perform.{SamePatch, SetAsideIs}
use Rattle.operations.proofs.StampLaws.{stamped-before}
pub use Rattle.changes.proofs.PatchLaws.{patch_same, patch_then, patch_framed, rows-kept}

module _ {xs ys : List Row} where
  pub patch_aside : (row : ℕ) → SetAsideIs xs ys row → SamePatch xs ys
  patch_aside row is = subst (SamePatch xs) (sym is) (patch_scratch row (span_of (get_or xs row []) + 1))

  pub patch-stamped : (n k : ℕ) → ys ≡ stamped xs scratch_row n k → SamePatch xs ys
  patch-stamped n k is = patch-before (ap (take scratch_row) is ∙ stamped-before xs scratch_row n k)
