-- `read` meets its contract.
use native.Mathlib.Omega.{arith}
use mathlib.Core.Path.{refl}
use Rattle.spec.proofs.FaultLaws.{handed}
use Rattle.reader.proofs.TextLaws.{text_whole, text_more, text_unread}
use Rattle.reader.proofs.texts.read.Goals as goal

pub read_value-requires : goal.read_value-requires
read_value-requires c = record {
  lent = c.requires;
  base_le_row = omega arith;
}

pub returns-in_err-value : goal.returns-in_err-value
returns-in_err-value c =
    rw (handed _ c.from_residual.ensures.1)
    (text_unread c.args.source _ c.blanks-first.ensures c.no_name.ensures c.read_value.ensures _ c.in_err-value.was)

pub returns-then-next-s : goal.returns-then-next-s
returns-then-next-s c =
    text_whole c.args.source _ c.blanks-first.ensures c.no_name.ensures c.read_value.ensures _ _ c.in_ok-value.was c.blanks-next.ensures _ refl
    c.if-next-s.true (omega (arith, c.requires.nodes_long, c.read_value.auto.nodes))

pub returns : goal.returns
returns c =
    rw c.at.ensures
    (text_more c.args.source _ c.blanks-first.ensures c.no_name.ensures c.read_value.ensures _ _ c.in_ok-value.was c.blanks-next.ensures
    c.if-next-s.false)
