-- Laws of two objects merged: what holds of the rows on every input, and each way out of `merge_object`.
use Rattle.std.specs.Prelude.{if◌then◌else◌}
use Prim.Native.Nat.{ℕ, ◌+◌, ◌≤◌, ◌<◌, max}
use native.Mathlib.Omega.{arith}
use mathlib.Core.Path.{◌≡◌, refl, sym, ◌∙◌, subst}
use mathlib.Core.Bool.{Bool, true, false}
use mathlib.Core.List.{List, []}
use lib.Dec.{eqb, leb}
use lib.ListN.{length, get_or}
use borrow.Author.Tests.{leb-false}
use Rattle.tape.specs.Layout.{patch_row, scratch_row, object_kind, rows}
use Rattle.tape.specs.Fields.{Row, kind_of}
use Rattle.tape.specs.Rows.{end_of}
use Rattle.tape.specs.Lent.{Table}
use Rattle.merge.specs.Building.{full, tree_rows, CopyIs, Framed}
use Rattle.merge.specs.Marks.{note_of}
use Rattle.merge.specs.Steps.{step_for, append_step, Reaches}
use Rattle.merge.specs.Merged.{members_end, MergeObjectIs}
use Rattle.merge.specs.declared.steps.Step.{Step}
use Rattle.merge.specs.declared.steps.Step.TheVariants.{Nothing, Copy, Merge}
use Rattle.merge.proofs.BuildLaws.{framed_self, framed_then, framed_before, framed_moved}
use Rattle.merge.proofs.StepLaws.{reaches_for}

-- ---- on every input: the rows before `to` stay, and the count goes on
pub record Onward (to : ℕ) (nodes₀ nodes : List Row) (index₀ index : List ℕ) (next : ℕ) : Type 0 where
  pub framed : Framed to nodes₀ nodes
  pub same_index : length index ≡ length index₀
  pub from_to : to ≤ next
  pub few : next ≤ full

pub onward_self : {to : ℕ} {nodes : List Row} {index : List ℕ} {next : ℕ} → to ≤ next → next ≤ full → Onward to nodes nodes index index next
onward_self l f = record { framed = framed_self; same_index = refl; from_to = l; few = f }

module _ {to : ℕ} {nodes₀ nodes : List Row} {index₀ index : List ℕ} {next : ℕ} (o : Onward to nodes₀ nodes index₀ index next) where
  pub onward_index : {index' : List ℕ} → length index' ≡ length index → Onward to nodes₀ nodes index₀ index' next
  onward_index e = record { framed = o.framed; same_index = e ∙ o.same_index; from_to = o.from_to; few = o.few }

  pub onward_copy : {nodes' : List Row} {from next' : ℕ} → CopyIs nodes from next nodes' next'
      → from < length nodes → Onward to nodes₀ nodes' index₀ index next'
  onward_copy {nodes'} {from} copy there =
      record {
        framed = framed_then o.framed (framed_before to o.from_to
            (subst (Framed next nodes) (sym copy.nodes_are) (framed_moved next nodes from (tree_rows nodes from) (omega arith))));
        same_index = o.same_index;
        from_to = omega (arith, o.from_to, o.few, copy.next_is);
        few = omega (arith, copy.next_is);
      }

  pub onward_merge : {w : Table} {target patch levels : ℕ} {xs : List ℕ} {nodes' : List Row} {index' : List ℕ} {next' : ℕ} → w.nodes ≡ nodes
      → MergeObjectIs w target patch next levels xs nodes' index' next' → length index' ≡ length index → Onward to nodes₀ nodes' index₀ index' next'
  onward_merge {nodes' = nodes'} is m e =
      record {
        framed = framed_then o.framed (framed_before to o.from_to (subst (λ xs. Framed next xs nodes') is m.framed));
        same_index = e ∙ o.same_index;
        from_to = omega (arith, o.from_to, m.onward);
        few = m.onward.1;
      }

-- ---- the rows that the loops name
pub members_end_low : (nodes : List Row) (target : ℕ) → members_end nodes target ≤ max (target + 1) (length nodes)
unfolding members_end
members_end_low nodes target = go (eqb (kind_of (get_or nodes target [])) object_kind)
  where
    go : (b : Bool) → (if b then end_of nodes target else target + 1) ≤ max (target + 1) (length nodes)
    go true = omega arith
    go false = omega arith

pub append_reaches : (nodes : List Row) (row : ℕ) (ys : List ℕ) → patch_row ≤ row → Reaches row (append_step nodes row ys)
unfolding append_step
append_reaches nodes row ys low = go (leb scratch_row row) refl (eqb (note_of ys row) 0)
  where
    go : (a : Bool) → leb scratch_row row ≡ a → (b : Bool)
        → Reaches row (if a then Nothing else if b then Nothing else step_for (kind_of (get_or nodes row [])) row)
    go true e b = tt
    go false e true = tt
    go false e false = reaches_for row (kind_of (get_or nodes row [])) row low (leb-false scratch_row row e)

module _ (row : ℕ) {step : Step} (reaches : Reaches row step) (from : ℕ) where
  pub reaches_copy : step ≡ Copy from → from < max (row + 1) scratch_row
  reaches_copy e = subst (Reaches row) e reaches

  pub reaches_merge : step ≡ Merge from → (patch_row ≤ from) × (from < scratch_row)
  reaches_merge e = subst (Reaches row) e reaches

-- ---- no level is left
pub merge_flat : {w : Table} {target patch to levels : ℕ} {xs : List ℕ} → levels ≡ 0 → to ≤ full → MergeObjectIs w target patch to levels xs w.nodes xs to
merge_flat z f = record { framed = framed_self; onward = (omega arith, f); held = λ view c kids o merged k ts t d. absurd (omega arith) }

-- ---- the rows of the two loops
-- in the first, the target's members stand in the table
pub row_inside : (target row end : ℕ) → target < row → row < end → end ≤ max (target + 1) rows → row < rows
row_inside target row end above more low = omega arith

pub row_goes : (nodes : List Row) (row next : ℕ) → next ≡ end_of nodes row → row < rows → length nodes ≡ rows → row < next
row_goes nodes row next is inside long = omega arith

pub copy_inside : (row from : ℕ) (nodes : List Row) → from < max (row + 1) scratch_row → row < rows → length nodes ≡ rows → from < length nodes
copy_inside row from nodes reaches inside long = omega arith

pub above_next : {low row next : ℕ} → low < row → row < next → low < next
above_next above goes = omega arith
