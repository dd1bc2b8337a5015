use Rattle.std.proofs.Common.{arith}
use Rattle.spec.specs.Bytes.{byte}
use Rattle.intel_hex.specs.Reading.{hex_byte}
use Rattle.intel_hex.proofs.LineLaws.{hex_both, both_hex}
use Rattle.intel_hex.proofs.digits.hex_byte.Goals as goal

pub returns-in_err-hex_value : goal.returns-in_err-hex_value
unfolding byte
returns-in_err-hex_value c = rw c.from_residual.ensures (λ e. c.in_err-hex_value.ensures (hex_both c.args.t.now c.args.k e).0)

pub returns-in_err-hex_value-2 : goal.returns-in_err-hex_value-2
unfolding byte
returns-in_err-hex_value-2 c =
    rw c.from_residual-in_err-hex_value-2.ensures (λ e. c.in_err-hex_value-2.ensures (hex_both c.args.t.now c.args.k e).1)

pub returns : goal.returns
unfolding hex_byte byte
returns c =
    let high = c.in_ok-hex_value.ensures in
    let low = c.in_ok-hex_value-2.ensures in
    (both_hex c.args.t.now c.args.k high.0 low.0, omega (arith, high.1, low.1))
