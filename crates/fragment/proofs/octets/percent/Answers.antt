use Rattle.std.proofs.Common.{arith}
use Rattle.fragment.proofs.OctetLaws.{bad_first, bad_second, two_digits}
use Rattle.fragment.proofs.octets.percent.Goals as goal

pub returns-in_err-hex_value : goal.returns-in_err-hex_value
returns-in_err-hex_value c =
    rw c.from_residual.ensures (bad_first c.args.s.now c.args.at (rw c.peek.ensures at c.in_err-hex_value.ensures))

pub returns-in_err-hex_value-2 : goal.returns-in_err-hex_value-2
returns-in_err-hex_value-2 c =
    rw c.from_residual-in_err-hex_value-2.ensures
    (bad_second c.args.s.now c.args.at (rw c.peek.ensures at c.in_ok-hex_value.ensures).0
    (rw c.peek-2.ensures at c.in_err-hex_value-2.ensures))

pub returns : goal.returns
returns c =
    let high = rw c.peek.ensures at c.in_ok-hex_value.ensures in
    let low = rw c.peek-2.ensures at c.in_ok-hex_value-2.ensures in
    two_digits c.args.s.now c.args.at high.0 low.0 (omega (arith, high.1, low.1))
