-- The member of an object of the patch that has a name.
use Rattle.std.specs.Prelude.{ℕ, ◌+◌, ◌≤◌, ◌<◌, ◌≡◌, true, Option, Some, None, List, length, drop}
use Rattle.std.proofs.Math.Option.{none}
use Rattle.spec.specs.Bytes.{Text}
use Rattle.spec.specs.Forest.{Forest, tree, size, before, from}
use Rattle.spec.specs.Distinct.{NoRepeats}
use Rattle.merging.specs.Parts.{get}
use Rattle.tape.specs.Layout.{patch_row, scratch_row, object_kind}
use Rattle.tape.specs.declared.fields.Name.{Name}
use Rattle.tape.specs.declared.fields.Cell.{Cell}
use Rattle.tape.specs.Lent.{Texts, Table}
use Rattle.table.specs.Meaning.{name_text, members, Hashed}
use Rattle.table.specs.Sound.{NodeHeld}
use Rattle.index.specs.Slots.{parents}
use Rattle.index.specs.Members.{Parents}
use Rattle.merge.specs.Marks.{PathsKept}
use Rattle.merge.specs.Paths.{Ways}

-- an object in the patch's rows: it repeats no name, the index leads to its members, and each parent that is noted is the right one
pub record PatchObject (w : Table) (patch : ℕ) (c : Cell) (kids : Forest Cell) (xs : List ℕ) : Type 0 where
  pub held : NodeHeld w patch c kids
  pub object : c.kind ≡ object_kind
  pub behind : patch_row ≤ patch
  pub inside : patch + size kids < scratch_row
  pub distinct : NoRepeats true (members w.texts kids)
  pub ways : Ways xs patch (patch + 1) (members w.texts kids)
  pub hints : Parents patch_row w.nodes xs

-- the member in a row is the one so named, or there is none
pub data Named (T : Texts) (patch : ℕ) (kids : Forest Cell) (text : Text) : Option ℕ → Type 0 where
  named_at : (k : ℕ) (c : Cell) (below after : Forest Cell) (row : ℕ) → from k kids ≡ tree c below after → row ≡ patch + 1 + size (before k kids)
      → name_text T c.name ≡ text → Named T patch kids text (Some row)
  named_none : get text (members T kids) ≡ none → Named T patch kids text None

-- What is found, and what becomes of the index: search paths and notes stay.
pub record PartnerIs (w : Table) (patch : ℕ) (name : Name) (xs ys : List ℕ) (r : Option ℕ) : Type 0 where
  pub paths : PathsKept xs ys
  pub behind : drop parents ys ≡ drop parents xs
  pub same_length : length ys ≡ length xs
  pub held : (c : Cell) (kids : Forest Cell) → PatchObject w patch c kids xs → Hashed w.texts name
      → Named w.texts patch kids (name_text w.texts name) r
