-- Notes of the patch's members in the index. There is none for a member that the target has.
use Rattle.std.specs.Prelude.{ℕ, ◌+◌, ◌-◌, ◌≤◌, ◌<◌, ◌≡◌, Bool, false, List, eqb, length}
use Rattle.spec.specs.Bytes.{Text}
use Rattle.spec.specs.Forest.{Forest, none, tree, size}
use Rattle.tape.specs.Layout.{patch_row, scratch_row}
use Rattle.tape.specs.Fields.{Row}
use Rattle.tape.specs.declared.fields.Cell.{Cell}
use Rattle.tape.specs.Cell.{Node}
use Rattle.tape.specs.Rows.{end_of}
use Rattle.tape.specs.Lent.{Texts}
use Rattle.table.specs.Meaning.{name_text}
use Rattle.index.specs.Slots.{room, parents, parent_slot, slot_at}
use Rattle.index.specs.Bits.{Stream}
use Rattle.index.specs.Ways.{Meets}
use Rattle.index.specs.Members.{Parents}

-- the note of a row
abbrev pub note_of : List ℕ → ℕ → ℕ
note_of xs row = slot_at xs (parent_slot (row - patch_row))

-- search paths stay: they lead through the slots before the notes
abbrev pub PathsKept : List ℕ → List ℕ → Type 0
PathsKept xs ys = (slot : ℕ) (q : Stream) (t : ℕ) → slot < parents → t < room → Meets xs t slot q → Meets ys t slot q

-- of the notes, only those of the rows behind `start` and before `end` change
pub record Changed (nodes : List Row) (start end : ℕ) (xs ys : List ℕ) : Type 0 where
  pub paths : PathsKept xs ys
  pub notes : (r : ℕ) → patch_row ≤ r → (r ≤ start → note_of ys r ≡ note_of xs r) × (end ≤ r → note_of ys r ≡ note_of xs r)
  pub right : Parents patch_row nodes xs → Parents patch_row nodes ys
  pub same_length : length ys ≡ length xs

-- of the members from a row on, exactly those that are met have no note
pub data Marks (T : Texts) (xs : List ℕ) (met : Text → Bool) : ℕ → Forest Cell → Type 0 where
  marks_none : {row : ℕ} → Marks T xs met row none
  marks_tree : {row : ℕ} {c : Cell} {kids rest : Forest Cell} → eqb (note_of xs row) 0 ≡ met (name_text T c.name)
      → Marks T xs met (row + 1 + size kids) rest → Marks T xs met row (tree c kids rest)

-- the members of a node are noted
pub record NotedIs (nodes : List Row) (patch : ℕ) (xs ys : List ℕ) : Type 0 where
  pub changed : Changed nodes patch (end_of nodes patch) xs ys
  pub held : (T : Texts) (c : Cell) (kids : Forest Cell) → Node nodes patch c kids → patch + size kids < scratch_row
      → Marks T ys (λ n. false) (patch + 1) kids
