-- The search paths of all members of the patch's objects.
use Rattle.std.specs.Prelude.{ℕ, ◌+◌, ◌-◌, ◌<◌, ◌≡◌, true, List, length, drop}
use Rattle.spec.specs.Forest.{Forest, none, tree, size}
use Rattle.spec.specs.Value.{Entry, Members, is_object, depths}
use Rattle.tape.specs.Layout.{patch_row, scratch_row, object_kind}
use Rattle.tape.specs.declared.fields.Cell.{Cell}
use Rattle.tape.specs.Lent.{Table}
use Rattle.table.specs.Meaning.{members}
use Rattle.table.specs.Sound.{NodeHeld}
use Rattle.index.specs.Slots.{parents}
use Rattle.index.specs.Ways.{Kept}
use Rattle.reader.specs.Filled.{Reached}

-- the index leads to each member of an object, by its name and its object's row; and so for the members of the objects among them
pub data Ways (xs : List ℕ) : ℕ → ℕ → Members → Type 0 where
  ways_none : {object at : ℕ} → Ways xs object at none
  ways_tree : {object at : ℕ} {e : Entry} {kids rest : Members} → Reached xs patch_row object at e.name
      → (is_object e.label ≡ true → Ways xs at (at + 1) kids) → Ways xs object (at + 1 + size kids) rest → Ways xs object at (tree e kids rest)

-- The members of an object are entered. Paths to rows before them stay, and so do the notes.
pub record EnteredIs (w : Table) (object levels : ℕ) (xs ys : List ℕ) : Type 0 where
  pub kept : Kept (object + 1 - patch_row) xs ys
  pub behind : drop parents ys ≡ drop parents xs
  pub same_length : length ys ≡ length xs
  pub held : (c : Cell) (kids : Forest Cell) → NodeHeld w object c kids → c.kind ≡ object_kind → object + size kids < scratch_row
      → depths (members w.texts kids) < levels → Ways ys object (object + 1) (members w.texts kids)
