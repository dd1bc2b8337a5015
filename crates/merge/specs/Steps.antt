-- What becomes of one member.
use Rattle.std.specs.Prelude.{ℕ, ◌+◌, ◌≤◌, ◌<◌, max, ◌≡◌, Bool, true, List, [], eqb, leb, length, get_or, if◌then◌else◌}
use Rattle.std.proofs.Math.Option as Option
use Rattle.spec.specs.Bytes.{Text}
use Rattle.spec.specs.Forest.{Forest, tree, size, before, from}
use Rattle.spec.specs.Value.{same_text}
use Rattle.merging.specs.Parts.{get}
use Rattle.tape.specs.Layout.{patch_row, scratch_row}
use Rattle.tape.specs.Fields.{Row, kind_of}
use Rattle.tape.specs.declared.fields.Cell.{Cell}
use Rattle.tape.specs.Rows.{end_of}
use Rattle.tape.specs.Lent.{Table}
use Rattle.table.specs.Meaning.{name_text, members}
use Rattle.table.specs.Sound.{NodeHeld, NameFits}
use Rattle.merge.specs.Marks.{note_of, Changed, Marks}
use Rattle.merge.specs.Partner.{PatchObject}
use Rattle.merge.specs.declared.steps.Step.{Step}
use Rattle.merge.specs.declared.steps.Step.TheVariants.{Nothing, Copy, Merge}

-- by the kind of the patch's value in a row: null removes, an object is merged, and anything else replaces
unfoldable pub step_for : ℕ → ℕ → Step
step_for kind row = if eqb kind 0 then Nothing else if eqb kind 6 then Merge row else Copy row

-- the patch's member in a row, where it has its note
unfoldable pub append_step : List Row → ℕ → List ℕ → Step
append_step nodes row xs =
    if leb scratch_row row then Nothing else
    if eqb (note_of xs row) 0 then Nothing else step_for (kind_of (get_or nodes row [])) row

-- which rows a step names
abbrev pub Reaches : ℕ → Step → Type 0
Reaches row Nothing = Unit {0}
Reaches row (Copy from) = from < max (row + 1) scratch_row
Reaches row (Merge from) = (patch_row ≤ from) × (from < scratch_row)

-- the target's member of a name: it stays where the patch has no such member; otherwise the patch's member decides, and is then met
pub data Keeps (w : Table) (patch row : ℕ) (kids : Forest Cell) (text : Text) (met : Text → Bool) (ys : List ℕ) : Step → Type 0 where
  keeps_own : get text (members w.texts kids) ≡ Option.none → Marks w.texts ys met (patch + 1) kids
      → Keeps w patch row kids text met ys (Copy row)
  keeps_other : (k : ℕ) (c : Cell) (below after : Forest Cell) (found : ℕ) → from k kids ≡ tree c below after → found ≡ patch + 1 + size (before k kids)
      → name_text w.texts c.name ≡ text → Marks w.texts ys (λ n. if same_text text n then true else met n) (patch + 1) kids
      → Keeps w patch row kids text met ys (step_for c.kind found)

-- what `keep` promises for the target's member in a row
pub record KeepIs (w : Table) (patch row : ℕ) (xs ys : List ℕ) (r : Step) : Type 0 where
  pub reaches : Reaches row r
  pub same_length : length ys ≡ length xs
  pub held : (c : Cell) (kids : Forest Cell) → PatchObject w patch c kids xs → (d : Cell) (below : Forest Cell) → NodeHeld w row d below
      → NameFits w.texts d.name → (met : Text → Bool) → Marks w.texts xs met (patch + 1) kids
      → Changed w.nodes patch (end_of w.nodes patch) xs ys × Keeps w patch row kids (name_text w.texts d.name) met ys r
