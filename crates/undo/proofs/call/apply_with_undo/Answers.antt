-- `apply_with_undo` meets its contract, by the lengths that are lent, and then by what the checked call answers.
use native.Mathlib.Omega.{arith}
use mathlib.Core.Path.{sym, ◌∙◌}
use lib.Seq.{length-take-le, length_front}
use Rattle.spec.specs.Fault.{number_of}
use Rattle.spec.specs.Limits.{max_bytes, work_nodes, work_entries}
use Rattle.json_patch.proofs.CallLaws.{any_room}
use Rattle.undo.proofs.CallLaws.{area_missing, buffer_missing, undo_done}
use Rattle.undo.proofs.call.apply_with_undo.Goals as goal
use Rattle.undo.proofs.call.apply_with_undo.Goals.{then-not-suffices-via-then-not-suffices}
use Rattle.undo.proofs.call.apply_with_undo.Goals.{then-not-suffices-via-else-not-suffices+then-work-lt-MAX_BYTES}

pub returns-then-not-suffices : goal.returns-then-not-suffices
unfolding number_of
returns-then-not-suffices c =
    let area = sym (any_room _ _ _ c.suffices.ensures.verdict) in
    elim c.then-not-suffices.branch [
      | then-not-suffices-via-then-not-suffices w ↦ area_missing c.refusal_answer.ensures c.from.ensures (area ∙ w.if-not-suffices.true)
      | then-not-suffices-via-else-not-suffices+then-work-lt-MAX_BYTES w ↦
          buffer_missing c.refusal_answer.ensures c.from.ensures (area ∙ w.if-not-suffices.false) (omega (arith, w.if-work-lt-MAX_BYTES.true))
    ]

pub slice_bounds-checked-end-2 : goal.slice_bounds-checked-end-2
slice_bounds-checked-end-2 c = sym (length-take-le work_nodes c.args.nodes.now c.if-not-suffices.ensures.nodes_long)

pub slice_bounds-checked-end-4 : goal.slice_bounds-checked-end-4
slice_bounds-checked-end-4 c = sym (length-take-le work_entries c.args.index.now c.if-not-suffices.ensures.index_long)

pub slice_bounds-checked-end-6 : goal.slice_bounds-checked-end-6
slice_bounds-checked-end-6 c = sym (length-take-le max_bytes c.args.work.now c.if-work-lt-MAX_BYTES.false)

pub shape_of-nodes : goal.shape_of-nodes
shape_of-nodes c =
    c.clear.auto.nodes ∙ length_front c.args.nodes.now c.checked-done.new.nodes work_nodes c.checked-done.auto.nodes

pub shape_of-index : goal.shape_of-index
shape_of-index c =
    c.clear.auto.index ∙ length_front c.args.index.now c.checked-done.new.index work_entries c.checked-done.auto.index

pub shape_of-work : goal.shape_of-work
shape_of-work c =
    c.clear-2.auto.work ∙ length_front c.args.work.now c.checked-done.new.work max_bytes c.checked-done.auto.work

pub returns : goal.returns
returns c =
    undo_done _ c.if-not-suffices.ensures.nodes_long c.if-not-suffices.ensures.index_long c.if-work-lt-MAX_BYTES.false
    c.checked-done.ensures c.from-2.ensures
    c.checked-done.new.nodes c.checked-done.auto.nodes c.clear.ensures.nodes_wiped
    c.checked-done.new.index c.checked-done.auto.index c.clear.ensures.index_emptied
    c.checked-done.new.work c.checked-done.auto.work c.clear-2.ensures
