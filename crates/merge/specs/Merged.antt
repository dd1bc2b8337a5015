-- What merging two objects of the table comes to.
use Rattle.std.specs.Prelude.{ℕ, ◌+◌, ◌≤◌, ◌<◌, min, ◌≡◌, true, List, [], eqb, get_or, if◌then◌else◌}
use Rattle.spec.specs.Forest.{Forest, none, tree, size}
use Rattle.spec.specs.Value.{depths}
use Rattle.spec.specs.Distinct.{NoRepeats}
use Rattle.tape.specs.Layout.{scratch_row, object_kind, rows}
use Rattle.tape.specs.Fields.{Row, kind_of}
use Rattle.tape.specs.declared.fields.Cell.{Cell}
use Rattle.tape.specs.Rows.{end_of}
use Rattle.tape.specs.Lent.{Table}
use Rattle.table.specs.Meaning.{members}
use Rattle.table.specs.Sound.{NodeHeld}
use Rattle.origin.specs.Value.{Members}
use Rattle.origin.specs.MergePatch.{merge_origin}
use Rattle.merge.specs.Bearing.{View, members_by, BearsMerge}
use Rattle.merge.specs.Parts.{merged_members}
use Rattle.merge.specs.Building.{full, Framed, BuiltNode}
use Rattle.merge.specs.Marks.{Changed}
use Rattle.merge.specs.Partner.{PatchObject}

-- the row behind the members of the value in a row: only an object has any
unfoldable pub members_end : List Row → ℕ → ℕ
members_end nodes target = if eqb (kind_of (get_or nodes target [])) object_kind then end_of nodes target else target + 1

-- the members of the value in a row, and the origin of the object that they are members of. T-02: "a target that is no object is taken as an empty
-- one". It is no object, whatever is laid down in the scratch rows.
pub data Target (o : View) (w : Table) (target : ℕ) : ℕ → Forest Cell → Type 0 where
  target-object : {c : Cell} {kids : Forest Cell} → NodeHeld w target c kids → c.kind ≡ object_kind → target + size kids < scratch_row
      → NoRepeats true (members w.texts kids) → Target o w target (o c.origin) kids
  target_other : ((nodes' : List Row) → Framed scratch_row w.nodes nodes' → kind_of (get_or nodes' target []) ≡ object_kind → ⊥)
      → Target o w target merge_origin none

-- what becomes of the table and the index, where both objects are held
pub record Merges (o : View) (w : Table) (patch to : ℕ) (c : Cell) (kids : Forest Cell)
    (origin : ℕ) (all : Members) (xs : List ℕ) (nodes' : List Row) (ys : List ℕ) (r : ℕ) : Type 0 where
  pub changed : Changed w.nodes patch (end_of w.nodes patch) xs ys
  pub counted : r ≡ min (to + 1 + size all) full
  pub built : r ≤ rows → BuiltNode o w.texts nodes' to r c origin all

pub record MergeObjectIs (w : Table) (target patch to levels : ℕ) (xs : List ℕ) (nodes' : List Row) (ys : List ℕ) (r : ℕ) : Type 0 where
  pub framed : Framed to w.nodes nodes'
  pub onward : (to ≤ r) × (r ≤ full)
  pub held : (o : View) (c : Cell) (kids : Forest Cell) → PatchObject w patch c kids xs → BearsMerge o (tree c kids none)
      → (origin : ℕ) (ts : Forest Cell) → Target o w target origin ts → depths (members w.texts kids) < levels
      → Merges o w patch to c kids origin (merged_members (members_by o w.texts ts) (members w.texts kids)) xs nodes' ys r
