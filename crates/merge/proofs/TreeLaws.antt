-- The tree of the patch merged with that of the document.
use Prim.Native.Nat.{ℕ, ◌+◌, ◌≤◌, ◌<◌, min}
use native.Mathlib.Omega.{arith}
use mathlib.Core.Path.{◌≡◌, refl, sym, ap, ap₂, ◌∙◌, subst}
use mathlib.Core.List.{List}
use lib.ListN.{length}
use Rattle.spec.specs.Forest.{Forest, none, tree}
use Rattle.spec.specs.Value as Value
use Rattle.spec.specs.Value.{is_object, depth, depths, nodes}
use Rattle.spec.specs.Limits.{max_depth}
use Rattle.spec.specs.Distinct.{NoRepeats}
use Rattle.spec.specs.Proper.{Proper}
use Rattle.spec.proofs.NameLaws.{proper_repeats}
use Rattle.merging.specs.MergePatch.{merge_patch}
use Rattle.tape.specs.Layout.{patch_row, scratch_row, object_kind, rows}
use Rattle.tape.specs.Fields.{Row}
use Rattle.tape.specs.declared.fields.Cell.{Cell}
use Rattle.tape.specs.Lent.{Texts, Table}
use Rattle.table.specs.Meaning.{entry_of, members, meant}
use Rattle.table.specs.Sound.{NodeHeld}
use Rattle.index.specs.Slots.{slots, parents, parent_slot, slot_at, emptied}
use Rattle.index.specs.Members.{Parents}
use Rattle.index.proofs.SlotLaws.{empty_slot, slot_dropped}
use Rattle.table.specs.All.{all_none, all_tree}
use Rattle.tape.proofs.Map.{size-map}
use Rattle.origin.specs.Value as Origin
use Rattle.origin.specs.Value.{forget, forget_entry}
use Rattle.origin.specs.MergePatch as Origins
use Rattle.origin.proofs.ForgetMerge.{forget-merge_patch}
use Rattle.merge.specs.Bearing.{View, all_merged, as_they_are, members_by, value_by, BearsMerge, cell_with}
use Rattle.merge.specs.Parts.{merged_members}
use Rattle.merge.specs.Building.{full, BuiltNode}
use Rattle.merge.specs.Paths.{EnteredIs}
use Rattle.merge.specs.Partner.{PatchObject}
use Rattle.merge.specs.Merged.{Merges, MergeObjectIs}
use Rattle.merge.specs.Trees.{Both, ValueAt, BothBearing, BearingAt, MergeTreesIs}
use Rattle.merge.proofs.BuildLaws.{built_held}
use Rattle.merge.proofs.LaidLaws.{is_object_lem, forget_view, AsTarget, as_target, merged_value}
use Rattle.merge.proofs.KeepLaws.{object-levels}

-- a value that a text is read as repeats no name
distinct_held : (T : Texts) (c : Cell) (kids : Forest Cell) {v : Value.Value} → meant T c kids ≡ v → Proper v
    → NoRepeats (is_object (entry_of T c).label) (members T kids)
distinct_held T c kids means proper = proper_repeats (subst Proper (sym means) proper).items

-- where nobody asks, every node bears the merge's origin
all_merged_lem : (f : Forest Cell) → BearsMerge all_merged f
all_merged_lem none = all_none
all_merged_lem (tree c kids rest) = all_tree refl (all_merged_lem kids) (all_merged_lem rest)

forget-value : (o : View) (T : Texts) (c : Cell) (kids : Forest Cell) → forget (value_by o T c kids) ≡ meant T c kids
forget-value o T c kids = ap (λ f. record { label = (entry_of T c).label; kids = f }) (forget_view o T kids)

module _ {w : Table} (xs : List ℕ) {ys zs us : List ℕ} {nodes' : List Row} {next : ℕ}
    (long : slots ≤ length xs) (rows_long : length w.nodes ≡ rows) (empty : ys ≡ emptied xs)
    (entered : EnteredIs w patch_row max_depth ys zs) (merges : MergeObjectIs w 0 patch_row scratch_row max_depth zs nodes' us next) where
  -- no parent is noted yet
  hints : Parents patch_row w.nodes zs
  hints =
      record {
        child = λ r o few is.
            absurd (omega (
              arith,
              slot_dropped ys zs parents r entered.behind,
              ap (λ vs. slot_at vs (parent_slot r)) empty,
              empty_slot xs (parent_slot r) long (omega arith),
              is,
            ));
      }

  module _ {v p : Value.Value} (both : Both w v p) (kind : both.patch.c.kind ≡ object_kind) where
    shallow : depths (members w.texts both.patch.kids) < max_depth
    unfolding depth
    shallow =
        omega (
          arith,
          both.shallow,
          ap depth both.patch.means,
          object-levels (entry_of w.texts both.patch.c).label
              (depths (members w.texts both.patch.kids)) (is_object_lem w.texts both.patch.c kind),
        )

    object : PatchObject w patch_row both.patch.c both.patch.kids zs
    object =
        record {
          held = both.patch.held;
          object = kind;
          behind = omega arith;
          inside = both.patch.inside;
          distinct =
              subst (λ b. NoRepeats b (members w.texts both.patch.kids)) (is_object_lem w.texts both.patch.c kind)
              (distinct_held w.texts both.patch.c both.patch.kids both.patch.means both.patch.proper);
          ways = entered.held both.patch.c both.patch.kids both.patch.held kind both.patch.inside shallow;
          hints = hints;
        }

    module _ (o : View) (bears : BearsMerge o (tree both.patch.c both.patch.kids none)) where
      abbrev document : Origin.Value
      document = value_by o w.texts both.document.c both.document.kids

      target : AsTarget o w 0 document
      target =
          as_target both.document.held (omega (arith, both.document.ends, both.document.few))
          (distinct_held w.texts both.document.c both.document.kids both.document.means both.document_proper)

      merged : Merges o w patch_row scratch_row both.patch.c both.patch.kids target.origin
          (merged_members (members_by o w.texts target.cells) (members w.texts both.patch.kids)) zs nodes' us next
      merged = merges.held o both.patch.c both.patch.kids object bears target.origin target.cells target.target shallow

      value-is : Origins.merge_patch document p ≡ record {
        label = (entry_of w.texts both.patch.c).label;
        origin = target.origin;
        kids = merged_members (members_by o w.texts target.cells) (members w.texts both.patch.kids);
      }
      value-is =
          ap (Origins.merge_patch document) (sym both.patch.means) ∙ merged_value target both.patch.c both.patch.kids kind object.distinct

      plain_is : forget (Origins.merge_patch document p) ≡ merge_patch v p
      plain_is =
          forget-merge_patch document p
          ∙ ap (λ u. merge_patch u p) (forget-value o w.texts both.document.c both.document.kids ∙ both.document.means)

      count_is : next ≡ min (scratch_row + nodes (merge_patch v p)) full
      unfolding nodes
      count_is =
          let count = ap nodes (sym plain_is ∙ ap forget value-is) in
          let same = size-map forget_entry (merged_members (members_by o w.texts target.cells) (members w.texts both.patch.kids)) in
          merged.counted ∙ ap (λ n. min n full) (omega (arith, count, same))

      module _ (room : next ≤ rows) where
        made : BuiltNode o w.texts nodes' scratch_row next both.patch.c target.origin
            (merged_members (members_by o w.texts target.cells) (members w.texts both.patch.kids))
        made = merged.built room

        abbrev made_cell : Cell
        made_cell = cell_with made.bears both.patch.c

        held_now : NodeHeld (record { texts = w.texts; nodes = nodes' }) scratch_row made_cell made.cells
        held_now = built_held (omega (arith, merges.framed.same_length)) both.patch.held.label made

        value-now : value_by o w.texts made_cell made.cells ≡ Origins.merge_patch document p
        value-now =
            ap₂ (λ k f. record { label = (entry_of w.texts both.patch.c).label; origin = k; kids = f }) made.told made.means ∙ sym value-is

    laid : next ≤ rows → ValueAt (record { texts = w.texts; nodes = nodes' }) scratch_row (merge_patch v p)
    laid room =
        let bears = all_merged_lem (tree both.patch.c both.patch.kids none) in
        record {
          c = made_cell all_merged bears room;
          kids = (made all_merged bears room).cells;
          held = held_now all_merged bears room;
          means =
              sym (forget-value all_merged w.texts (made_cell all_merged bears room) (made all_merged bears room).cells)
              ∙ ap forget (value-now all_merged bears room) ∙ plain_is all_merged bears;
        }

  bearing_laid : (v : Origin.Value) (p : Value.Value) (b : BothBearing w v p) → b.both.patch.c.kind ≡ object_kind → next ≤ rows
      → BearingAt (record { texts = w.texts; nodes = nodes' }) scratch_row (Origins.merge_patch v p)
  bearing_laid v p b kind room =
      record {
        c = made_cell b.both kind as_they_are b.patch room;
        kids = (made b.both kind as_they_are b.patch room).cells;
        held = held_now b.both kind as_they_are b.patch room;
        bears = value-now b.both kind as_they_are b.patch room ∙ ap (λ u. Origins.merge_patch u p) b.document;
      }

  pub trees_merged : MergeTreesIs w nodes' next
  trees_merged =
      record {
        onward = merges.onward;
        held = λ v p both kind. (count_is both kind all_merged (all_merged_lem (tree both.patch.c both.patch.kids none)), laid both kind);
        bearing = bearing_laid;
      }
