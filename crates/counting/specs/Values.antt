-- What the comparison of two values in the table answers, with the count of names compared.
use Rattle.std.specs.Prelude.{◌≡◌, ℕ, ◌+◌, ◌%◌, ◌^◌, ◌<◌, ◌≤◌, Bool, true, ◌&&◌, List, length, ◌==◌, if◌then◌else◌}
use Rattle.spec.specs.Forest.{Forest, count}
use Rattle.spec.specs.Value.{depth}
use Rattle.spec.specs.Equality.{same_label}
use Rattle.spec.specs.Distinct.{Distinct}
use Rattle.comparison.specs.Comparison.{Compared, compared}
use Rattle.tape.specs.Fields.{Row}
use Rattle.tape.specs.declared.fields.Cell.{Cell}
use Rattle.tape.specs.Lent.{Table}
use Rattle.table.specs.Meaning.{label_of, meant}
use Rattle.table.specs.Sound.{NodeHeld}
use Rattle.counting.specs.Places.{place_at, HavePlaces}
use Rattle.counting.specs.declared.values.Comparison.{Comparison}

-- for a member that is found in a row, the names up to its own are compared; for an element, none
unfoldable pub names_for : Bool → List Row → ℕ → ℕ
names_for object nodes row = if object then place_at nodes row else 0

-- whether two values have the same label and equally many children, where the table holds them; only rows of the table are alike
pub record AlikeIs (w : Table) (at other : ℕ) (r : Bool) : Type 0 where
  pub inside : r ≡ true → (at < length w.nodes) × (other < length w.nodes)
  pub held : (c : Cell) (kids : Forest Cell) (e : Cell) (below : Forest Cell) → NodeHeld w at c kids → NodeHeld w other e below
      → r ≡ same_label (label_of w.texts c.kind c.value) (label_of w.texts e.kind e.value) && count kids == count below

-- the verdict, and the count modulo 2^64; the count is bounded, so for values read from texts it is exact
pub record Tells (a : Compared) (r : Comparison) : Type 0 where
  pub verdict : r.same ≡ a.same
  pub counts : r.names ≡ a.names % 2 ^ 64

-- what is told of the values that the table holds in two rows, if the first nests at most `levels` containers, no object of the second has two members
-- of one name, and the places below the second are noted; otherwise the answer is free
abbrev pub CountedIs : Table → ℕ → ℕ → ℕ → Comparison → Type 0
CountedIs w at other levels r =
    (c : Cell) (kids : Forest Cell) (e : Cell) (below : Forest Cell)
    → NodeHeld w at c kids → NodeHeld w other e below
    → depth (meant w.texts c kids) ≤ levels → Distinct (meant w.texts e below) → HavePlaces (place_at w.nodes) (other + 1) 1 below
    → Tells (compared (meant w.texts c kids) (meant w.texts e below)) r
