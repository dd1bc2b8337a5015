use Rattle.std.proofs.Common.{arith}
use Rattle.intel_hex.proofs.RecordLaws.{hex_length}
use Rattle.intel_hex.proofs.writing.hex_length.Goals as goal

pub returns : goal.returns
returns c = omega (arith, hex_length c.args.text.now)
