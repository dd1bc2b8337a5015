-- The origins that nodes bear before the run: SPECIFICATION 19.1. T-11: "0 from the document, k for a value put in by operation k [..], all nodes of it".
-- The k-th element of the patch bears k, so a value that operation k takes from the patch does.
use Rattle.std.specs.Prelude.{ℕ, ◌+◌, ◌≤◌, ◌≡◌, List, ◌++◌, length, take}
use Rattle.spec.specs.Forest.{Forest, none, tree, size}
use Rattle.spec.specs.Value as Plain
use Rattle.spec.specs.Operation.{Operation}
use Rattle.spec.specs.Patch.{finished, shape}
use Rattle.tape.specs.Layout.{scratch_row}
use Rattle.tape.specs.Fields.{Row}
use Rattle.tape.specs.Tape.{tape, Holds}
use Rattle.tape.specs.Map.{map_forest}
use Rattle.tape.specs.declared.fields.Cell.{Cell}
use Rattle.tape.specs.Cell.{row_of, Formed}
use Rattle.tape.specs.Lent.{Texts, Table}
use Rattle.origin.specs.Value.{painted}
use Rattle.walk.specs.Bearing.{borne_members}
use Rattle.changes.specs.Site.{table}
use Rattle.changes.specs.Document.{Document, Bearing}
use Rattle.operations.specs.Bearing.{valued, Numbered}
use Rattle.json_patch.specs.Stages.{PatchHeld}

-- a cell with another origin
abbrev pub numbered_cell : ℕ → Cell → Cell
numbered_cell k c = record { kind = c.kind; value = c.value; name = c.name; origin = k }

-- trees that bear k, k + 1 and so on, all nodes of each
unfoldable pub numbered : ℕ → Forest Cell → Forest Cell
numbered k none = none
numbered k (tree c kids rest) = tree (numbered_cell k c) (map_forest (numbered_cell k) kids) (numbered (k + 1) rest)

-- For whatever forest the table holds from a row up to another: its trees bear 1, 2 and so on, and all other rows are as they were.
abbrev pub StampElementsIs : List Row → List Row → ℕ → ℕ → Type 0
StampElementsIs nodes nodes' start end =
    (f : Forest Cell) (after : List Row) → Holds row_of nodes start f after → Formed f → start + size f ≡ end → start ≤ length nodes → end ≤ scratch_row
    → nodes' ≡ take start nodes ++ (tape row_of (numbered 1 f) ++ after)

-- a patch in which every value that an operation uses bears its number
pub record PatchNumbered (w : Table) (p : Plain.Value) : Type 0 where
  pub patch : PatchHeld w p
  pub numbers : (os : List Operation) → shape p ≡ finished os → Numbered 1 (valued (borne_members w.texts patch.kids) os) os

-- For whatever document and patch the table holds: they are still held, with these origins.
pub record TextsStamped (w : Table) (used : ℕ) (v p : Plain.Value) : Type 0 where
  pub document : Bearing w used (painted 0 v)
  pub patch : PatchNumbered w p

abbrev pub StampTextsIs : List Row → List Row → ℕ → Type 0
StampTextsIs nodes nodes' used =
    (T : Texts) (v p : Plain.Value) → Document (table T nodes) used v → PatchHeld (table T nodes) p → TextsStamped (table T nodes') used v p
