-- `note` meets its contract: each count goes on, and the text stands before the others'. Assumes nothing.
use Rattle.std.proofs.Common.{◌≡◌, suc, ◌+◌, min, arith}
use Rattle.spec.specs.Limits.{max_operations}
use Rattle.tape.specs.Lent.{both}
use Rattle.undo_log.proofs.OperationLaws.{undoes_carries}
use Rattle.undo_log.proofs.NoteLaws.{noted_more}
use Rattle.undo_log.proofs.note.note.Goals as goal

pub returns : goal.returns
returns c os o n u = let T = both c.args.texts in
    let k = undoes_carries u in
    let bytes = c.more_bytes-bytes.ensures _ n.bytes_is o k in
    let shallow = c.still_shallow.ensures _ n.shallow_is T o k in
    let many = c.more_nodes.ensures _ n.nodes_is T o k in
    let count : c.min.result ≡ min (c.args.log.count + 1) (suc max_operations) = omega (arith, c.saturating_add.ensures, c.min.ensures) in
    noted_more _ n u c.lay_down.auto.work count shallow many bytes c.lay_down.ensures
