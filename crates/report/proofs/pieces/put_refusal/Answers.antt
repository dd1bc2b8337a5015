-- `put_refusal` meets its contract: its pieces are laid down one behind another.
use Rattle.writer.proofs.PlacedLaws.{placed_as, placed_then}
use Rattle.spec.specs.Bytes.{ascii}
use Rattle.report.proofs.LineLaws.{refusal_pieces}
use Rattle.report.proofs.pieces.put_refusal.Goals as goal

pub returns : goal.returns
unfolding ascii
returns c =
    placed_as (refusal_pieces c.args.answer.number c.args.answer.text c.args.answer.op c.args.answer.place c.args.answer.pointer)
    (placed_then (placed_then c.put_two_fields-put.ensures c.put_two_fields-n.ensures)
    c.put_last_field-last.ensures)
