-- The trees of the two texts merged.
use Rattle.std.specs.Prelude.{ℕ, ◌+◌, ◌≤◌, min, ◌≡◌, List, length}
use Rattle.spec.specs.Forest.{Forest, none, tree}
use Rattle.spec.specs.Value as Value
use Rattle.spec.specs.Value.{nodes}
use Rattle.spec.specs.Limits.{max_depth}
use Rattle.spec.specs.Proper.{Proper}
use Rattle.merging.specs.MergePatch.{merge_patch}
use Rattle.tape.specs.Layout.{scratch_row, object_kind, rows}
use Rattle.tape.specs.Fields.{Row}
use Rattle.tape.specs.declared.fields.Cell.{Cell}
use Rattle.tape.specs.Lent.{Table}
use Rattle.table.specs.Meaning.{meant}
use Rattle.table.specs.Sound.{NodeHeld}
use Rattle.origin.specs.Value as Origin
use Rattle.origin.specs.Value.{forget}
use Rattle.origin.specs.MergePatch as Origins
use Rattle.walk.specs.Bearing.{borne}
use Rattle.changes.specs.Document.{Document}
use Rattle.json_patch.specs.Stages.{PatchHeld}
use Rattle.index.specs.Slots.{slots}
use Rattle.merge.specs.Bearing.{as_they_are, BearsMerge}
use Rattle.merge.specs.Building.{full}

-- the document and the patch, as texts are read
pub record Both (w : Table) (v p : Value.Value) : Type 0 where
  pub used : ℕ
  pub document : Document w used v
  pub document_proper : Proper v
  pub patch : PatchHeld w p
  pub shallow : Value.depth p ≤ max_depth

-- a value in a row of the table
pub record ValueAt (w : Table) (at : ℕ) (v : Value.Value) : Type 0 where
  pub c : Cell
  pub kids : Forest Cell
  pub held : NodeHeld w at c kids
  pub means : meant w.texts c kids ≡ v

-- ---- the same with origins: SPECIFICATION 19.2, T-11
-- the document bears those of a value, and every node of the patch the merge's
pub record BothBearing (w : Table) (v : Origin.Value) (p : Value.Value) : Type 0 where
  pub both : Both w (forget v) p
  pub document : borne w.texts both.document.c both.document.kids ≡ v
  pub patch : BearsMerge as_they_are (tree both.patch.c both.patch.kids none)

pub record BearingAt (w : Table) (at : ℕ) (v : Origin.Value) : Type 0 where
  pub c : Cell
  pub kids : Forest Cell
  pub held : NodeHeld w at c kids
  pub bears : borne w.texts c kids ≡ v

-- where the patch is an object: the count of rows, and the value in the scratch rows, if they suffice
pub record MergeTreesIs (w : Table) (nodes' : List Row) (r : ℕ) : Type 0 where
  pub onward : (scratch_row ≤ r) × (r ≤ full)
  pub held : (v p : Value.Value) (both : Both w v p) → both.patch.c.kind ≡ object_kind
      → (r ≡ min (scratch_row + nodes (merge_patch v p)) full) × (r ≤ rows → ValueAt (record { texts = w.texts; nodes = nodes' }) scratch_row (merge_patch v p))
  pub bearing : (v : Origin.Value) (p : Value.Value) (b : BothBearing w v p) → b.both.patch.c.kind ≡ object_kind
      → r ≤ rows → BearingAt (record { texts = w.texts; nodes = nodes' }) scratch_row (Origins.merge_patch v p)

-- For any work area: where its lengths are not the stated ones, nothing changes, and the answer is 0. Where the table does not hold two texts, the
-- answer is free but for its bounds, and so are the work area's rows and entries.
pub record MergeReadIs (w : Table) (xs : List ℕ) (nodes' : List Row) (ys : List ℕ) (r : ℕ) : Type 0 where
  pub merged : length w.nodes ≡ rows → slots ≤ length xs → MergeTreesIs w nodes' r
  pub other : (length w.nodes ≡ rows → slots ≤ length xs → ⊥) → (r ≡ 0) × (nodes' ≡ w.nodes) × (ys ≡ xs)
