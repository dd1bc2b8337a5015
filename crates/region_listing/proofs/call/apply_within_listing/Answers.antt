-- `apply_within_listing` meets its contract, by the work area's lengths, and then by what the checked call answers.
use mathlib.Core.Path.{refl, sym, ◌∙◌}
use lib.Seq.{length-take-le}
use Rattle.spec.specs.Fault.{number_of}
use Rattle.spec.specs.Limits.{work_nodes, work_entries}
use Rattle.json_patch.proofs.CallLaws.{any_room}
use Rattle.region_listing.proofs.StageLaws.{within_work_short, within_same}
use Rattle.listing.proofs.CallLaws.{call_short, call_done}
use Rattle.region_listing.proofs.call.apply_within_listing.Goals as goal

pub returns-then-not-suffices : goal.returns-then-not-suffices
unfolding number_of
returns-then-not-suffices c =
    let e = sym (any_room _ _ _ c.suffices.ensures.verdict) ∙ c.if-not-suffices.true in
    call_short e (within_work_short _ _ _ _ e) c.refusal_answer.ensures

pub slice_bounds-checked_within-end-2 : goal.slice_bounds-checked_within-end-2
slice_bounds-checked_within-end-2 c = sym (length-take-le work_nodes c.args.nodes.now c.if-not-suffices.ensures.nodes_long)

pub slice_bounds-checked_within-end-4 : goal.slice_bounds-checked_within-end-4
slice_bounds-checked_within-end-4 c = sym (length-take-le work_entries c.args.index.now c.if-not-suffices.ensures.index_long)

pub returns : goal.returns
returns c =
    call_done c.if-not-suffices.ensures.nodes_long c.if-not-suffices.ensures.index_long (λ e. within_same _ _ _ _ _ e refl refl)
    (λ h i. rw c.from.ensures (c.checked_within-done.ensures h i))
    c.checked_within-done.new.nodes c.checked_within-done.auto.nodes c.clear.ensures.nodes_wiped
    c.checked_within-done.new.index c.checked_within-done.auto.index c.clear.ensures.index_emptied
