-- `scalar_value` meets its contract.
use native.Mathlib.Omega.{arith}
use Rattle.spec.proofs.FaultLaws.{handed}
use Rattle.reader.proofs.ValueLaws.{value-inside}
use Rattle.reader.proofs.ReadingLaws.{scalar_no_room, scalar_fits, scalar_taken, scalar-refusal}
use Rattle.reader.proofs.values.scalar_value.Goals as goal

pub returns-in_err-room_for : goal.returns-in_err-room_for
returns-in_err-room_for c =
    rw (handed _ c.from_residual.ensures.1)
    (scalar_no_room c.args.source _ _ _ _ c.requires.kind_value.0 c.requires.kind_value.1 c.room_for.ensures _ c.in_err-room_for.was)

pub scalar-requires : goal.scalar-requires
scalar-requires c =
    (c.args.source.known, c.requires.lent.0, value-inside _ _ _ c.requires.kind_value.0, c.requires.kind_value.1)

pub returns-in_err-read : goal.returns-in_err-read
returns-in_err-read c =
    rw (handed _ c.from_residual-in_err-read.ensures.1)
    (scalar-refusal c.args.source _ _ _ _ c.requires.kind_value.0 c.requires.kind_value.1 c.room_for.ensures c.requires.kind_value.2 c.in_ok-room_for.was
    c.scalar.ensures _ c.in_err-read.was)

pub overflow_add-result : goal.overflow_add-result
overflow_add-result c =
    let fits = scalar_fits _ _ _ c.room_for.ensures c.requires.kind_value.2 c.in_ok-room_for.was in
    omega (arith, fits, c.args.source.low)

pub returns : goal.returns
returns c =
    scalar_taken c.args.source _ _ _ _ c.requires.kind_value.0 c.requires.kind_value.1 c.room_for.ensures c.requires.kind_value.2 c.in_ok-room_for.was
    c.scalar.ensures _ c.in_ok-read.was c.requires.lent.1 c.put.ensures
