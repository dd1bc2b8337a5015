-- A node's tags are read back; and rows behind the table.
use Prim.Native.Nat.{ℕ, zero, suc, ◌%◌, ◌<◌, ◌≤◌}
use native.Mathlib.Omega.{arith}
use mathlib.Core.Path.{◌≡◌, refl, ap}
use mathlib.Core.List.{List, [], ◌∷◌}
use lib.ListN.{length, get_or, get_or-eq_default}
use Rattle.tape.specs.Layout.{kinds, forms, sources}
use Rattle.tape.specs.Fields.{Row, tagged, kind_in, form_in, source_in, name_form_in, name_source_in}

module _ (kind form source nameForm nameSource : ℕ) where
  abbrev tags : ℕ
  tags = tagged (kind % kinds) (form % forms) (source % sources) (nameForm % forms) (nameSource % sources)

  pub kind_tagged : kind < kinds → kind_in tags ≡ kind
  kind_tagged h = omega arith

  pub form_tagged : form < forms → form_in tags ≡ form
  form_tagged h = omega arith

  pub source_tagged : source < sources → source_in tags ≡ source
  source_tagged h = omega arith

  pub name_form_tagged : nameForm < forms → name_form_in tags ≡ nameForm
  name_form_tagged h = omega arith

  pub name_source_tagged : nameSource < sources → name_source_in tags ≡ nameSource
  name_source_tagged h = omega arith

-- a field behind the table is 0
pub field_out : (nodes : List Row) (row k : ℕ) → length nodes ≤ row → get_or (get_or nodes row []) k 0 ≡ 0
field_out nodes row k h = ap (λ (r : Row). get_or r k 0) (get_or-eq_default nodes [] h)

-- in the table it makes no difference what stands behind it
pub row_in : {W : Type 0} (xs : List W) (i : ℕ) (y z : W) → i < length xs → get_or xs i y ≡ get_or xs i z
row_in [] i y z h = absurd (omega arith)
row_in (x ∷ xs) zero y z h = refl
row_in (x ∷ xs) (suc i) y z h = row_in xs i y z (omega arith)
