-- `compare` meets its contract, by the work area's lengths, and then by what the checked call answers.
use mathlib.Core.Path.{sym, ◌∙◌}
use lib.Seq.{length-take-le}
use Rattle.spec.specs.Fault.{number_of}
use Rattle.spec.specs.Limits.{work_nodes, work_entries}
use Rattle.compare.proofs.StageLaws.{work_short, work_done}
use Rattle.compare.proofs.call.compare.Goals as goal

pub returns-then-not-suffices : goal.returns-then-not-suffices
unfolding number_of
returns-then-not-suffices c = work_short (sym c.suffices.ensures.verdict ∙ c.if-not-suffices.true) c.refused.ensures

pub slice_bounds-checked-end-2 : goal.slice_bounds-checked-end-2
slice_bounds-checked-end-2 c = sym (length-take-le work_nodes c.args.nodes.now c.if-not-suffices.ensures.nodes_long)

pub slice_bounds-checked-end-4 : goal.slice_bounds-checked-end-4
slice_bounds-checked-end-4 c = sym (length-take-le work_entries c.args.index.now c.if-not-suffices.ensures.index_long)

pub returns : goal.returns
returns c =
    work_done _ c.if-not-suffices.ensures.nodes_long c.if-not-suffices.ensures.index_long c.checked-done.ensures c.from.ensures
    c.checked-done.new.nodes c.checked-done.auto.nodes c.clear.ensures.nodes_wiped
    c.checked-done.new.index c.checked-done.auto.index c.clear.ensures.index_emptied
