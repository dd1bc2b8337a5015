-- `read_value` meets its contract: a scalar, or a container.
use Rattle.spec.proofs.FaultLaws.{handed}
use Rattle.reader.proofs.ReadingLaws.{kind_told, value-way_none}
use Rattle.reader.proofs.values.read_value.Goals as goal

pub returns-in_err-kind : goal.returns-in_err-kind
returns-in_err-kind c = rw (handed _ c.from_residual.ensures.1) (value-way_none c.args.source _ _ c.kind_at.ensures c.in_err-kind.was)

pub scalar_value-requires : goal.scalar_value-requires
scalar_value-requires c =
    let kind_is = kind_told _ _ _ c.kind_at.ensures c.in_ok-kind.was in
    record {
      kind_value = (kind_is, c.if-kind-lt-ARRAY.true, c.requires.base_le_row);
      lent = (c.requires.lent.short, c.requires.lent.nodes_long);
    }

pub returns-then-kind-lt-ARRAY : goal.returns-then-kind-lt-ARRAY
returns-then-kind-lt-ARRAY c = c.scalar_value.ensures _ _

pub container-requires : goal.container-requires
container-requires c =
    let kind_is = kind_told _ _ _ c.kind_at.ensures c.in_ok-kind.was in
    record { lent = c.requires.lent; kind_value = (kind_is, c.if-kind-lt-ARRAY.false, c.requires.base_le_row) }

pub returns : goal.returns
returns c = c.container.ensures
