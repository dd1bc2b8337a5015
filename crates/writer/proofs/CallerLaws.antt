-- What a caller may rely on, said of a node and the value that it is.
use Prim.Native.Nat.{ℕ, ◌≤◌}
use mathlib.Core.Path.{◌≡◌, subst}
use mathlib.Core.Bool.{Bool}
use mathlib.Core.List.{◌++◌}
use lib.Dec.{leb}
use lib.ListN.{length, drop}
use Rattle.spec.specs.Bytes.{Bytes}
use Rattle.spec.specs.Forest.{Forest}
use Rattle.spec.specs.Value.{depth}
use Rattle.spec.specs.Write.{write}
use Rattle.tape.specs.declared.fields.Cell.{Cell}
use Rattle.tape.proofs.Cells.{formed_fit, formed_kids}
use Rattle.table.specs.Meaning.{meant}
use Rattle.table.specs.Sound.{NodeHeld}
use Rattle.table.proofs.MeaningLaws.{depth-meant}
use Rattle.writer.specs.Writing.{Writable, FitsIs, WriteIs}
use Rattle.writer.proofs.PlacedLaws.{placed_whole}
use Rattle.tape.specs.Lent.{Table}

module _ {W : Table} {at levels : ℕ} {c : Cell} {kids : Forest Cell} (n : NodeHeld W at c kids)
    (low : depth (meant W.texts c kids) ≤ levels) where
  pub writable : Writable W at levels c kids
  writable =
      let o = n.held.formed in
      record { node = n; nested = subst (λ d. d ≤ levels) (depth-meant W.texts c kids (formed_fit o).kind (formed_kids o)) low }

  -- `fits` answers whether there is room for the value's text
  pub fits_is : (room : ℕ) {told : Bool} → FitsIs W at levels room told → told ≡ leb (length (write (meant W.texts c kids))) room
  fits_is room is = is c kids writable

  -- `write` lays that text down where there is room for it, and behind it the output is as it was
  pub written_whole : {before after : Bytes} {r : ℕ} → WriteIs W at levels before after r → length (write (meant W.texts c kids)) ≤ length before
      → (r ≡ length (write (meant W.texts c kids))) × (after ≡ write (meant W.texts c kids) ++ drop (length (write (meant W.texts c kids))) before)
  written_whole is room = placed_whole (is.held c kids writable) room
