use Prim.Native.Nat.{ℕ, ◌+◌, ◌≤◌, ◌<◌, ◌-◌, max}
use mathlib.Core.Path.{◌≡◌}
use mathlib.Core.List.{List}
use lib.ListN.{length}
use Rattle.spec.specs.Forest.{Forest}
use Rattle.tape.specs.Layout.{rows}
use Rattle.tape.specs.Fields.{Row}
use Rattle.tape.specs.declared.fields.Cell.{Cell}
use Rattle.tape.specs.Lent.{table_of}
use Rattle.index.specs.Slots.{slots}
use Rattle.merge.specs.Bearing.{View}
use Rattle.merge.proofs.KeepLaws.{Keeping}
use Rattle.merge.proofs.AppendLaws.{Appending}
use Rattle.merge.proofs.ObjectLaws.{Onward}
use Rattle.merge.proofs.objects.+merge_object.Given as goal

-- the levels fall
abbrev pub decreases-merge_object : goal.decreases-merge_object
decreases-merge_object l = l.levels

-- what held where a loop began holds now, whatever the table was before
abbrev pub invariant-loop-row : goal.invariant-loop-row
invariant-loop-row l =
    Onward l.to l.initial.nodes l.nodes l.initial.index l.index l.next × (l.target < l.row)
    × (length l.initial.nodes ≡ rows) × (l.end ≤ max (l.target + 1) rows) × (slots ≤ length l.initial.index)
    × ((o : View) (first : List Row) (xs : List ℕ) (c : Cell) (kids ts : Forest Cell)
    → Keeping o (table_of l.texts first) xs l.patch l.to l.levels l.end c kids ts l.initial.nodes l.initial.index l.initial.next l.initial.row
    → Keeping o (table_of l.texts first) xs l.patch l.to l.levels l.end c kids ts l.nodes l.index l.next l.row)

abbrev pub decreases-loop-row : goal.decreases-loop-row
decreases-loop-row l = l.end - l.row

abbrev pub invariant-loop-row-2 : goal.invariant-loop-row-2
invariant-loop-row-2 l =
    Onward l.to l.initial.nodes l.nodes l.initial.index l.index l.next × (l.patch < l.row)
    × (length l.initial.nodes ≡ rows) × (l.last ≤ rows) × (slots ≤ length l.initial.index)
    × ((o : View) (first : List Row) (xs : List ℕ) (c : Cell) (kids ts : Forest Cell)
    → Appending o (table_of l.texts first) xs l.patch l.to l.levels l.last c kids ts l.initial.nodes l.initial.index l.initial.next l.initial.row
    → Appending o (table_of l.texts first) xs l.patch l.to l.levels l.last c kids ts l.nodes l.index l.next l.row)

abbrev pub decreases-loop-row-2 : goal.decreases-loop-row-2
decreases-loop-row-2 l = l.last - l.row
