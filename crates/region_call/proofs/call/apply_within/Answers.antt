-- `apply_within` meets its contract, by the work area's lengths, and then by what the checked call answers.
use mathlib.Core.Path.{sym, ◌∙◌}
use lib.Seq.{length-take-le}
use Rattle.spec.specs.Fault.{number_of}
use Rattle.spec.specs.Limits.{work_nodes, work_entries}
use Rattle.json_patch.proofs.CallLaws.{any_room}
use Rattle.region_call.proofs.CallLaws.{work_short, work_done}
use Rattle.region_call.proofs.call.apply_within.Goals as goal

pub returns-then-not-suffices : goal.returns-then-not-suffices
unfolding number_of
returns-then-not-suffices c = work_short (sym (any_room _ _ _ c.suffices.ensures.verdict) ∙ c.if-not-suffices.true) c.refusal_answer.ensures

pub slice_bounds-checked_within-end-2 : goal.slice_bounds-checked_within-end-2
slice_bounds-checked_within-end-2 c = sym (length-take-le work_nodes c.args.nodes.now c.if-not-suffices.ensures.nodes_long)

pub slice_bounds-checked_within-end-4 : goal.slice_bounds-checked_within-end-4
slice_bounds-checked_within-end-4 c = sym (length-take-le work_entries c.args.index.now c.if-not-suffices.ensures.index_long)

pub returns : goal.returns
returns c =
    work_done _ c.if-not-suffices.ensures.nodes_long c.if-not-suffices.ensures.index_long c.checked_within-done.ensures c.from.ensures
    c.checked_within-done.new.nodes c.checked_within-done.auto.nodes c.clear.ensures.nodes_wiped
    c.checked_within-done.new.index c.checked_within-done.auto.index c.clear.ensures.index_emptied
