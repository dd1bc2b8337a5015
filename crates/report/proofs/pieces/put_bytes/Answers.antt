-- `put_bytes` meets its contract: a text of form 1 is laid down as it stands.
use Rattle.report.proofs.LineLaws.{laid_plain}
use Rattle.report.proofs.pieces.put_bytes.Goals as goal

pub returns : goal.returns
returns c = laid_plain c.long.ensures c.write_text-count.ensures c.min.ensures
