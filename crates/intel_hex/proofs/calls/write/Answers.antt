use Rattle.std.proofs.Common.{◌∙◌, arith}
use Rattle.intel_hex.proofs.CallLaws.{refuses, succeeds, write_long, write_fits, fitting_short}
use Rattle.intel_hex.proofs.calls.write.Goals as goal

pub returns-then-text-gt-MAX_TEXT : goal.returns-then-text-gt-MAX_TEXT
returns-then-text-gt-MAX_TEXT c = refuses _ (rw c.at.ensures (write_long _ _ c.if-text-gt-MAX_TEXT.true))

pub returns-then-output-hex_length : goal.returns-then-output-hex_length
returns-then-output-hex_length c =
    refuses _ (rw c.at-then-output-hex_length.ensures
    (write_fits _ _ c.if-text-gt-MAX_TEXT.false ∙ fitting_short _ _ (omega (arith, c.hex_length.ensures))))

pub returns : goal.returns
returns c =
    succeeds (write_fits _ _ c.if-text-gt-MAX_TEXT.false) (omega (arith, c.hex_length.ensures)) c.put_hex.ensures
