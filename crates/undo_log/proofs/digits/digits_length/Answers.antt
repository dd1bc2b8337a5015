-- `digits_length` meets its contract: the logarithm counts the digits behind the first. Assumes nothing.
use Rattle.std.proofs.Common.{sym, arith}
use Rattle.undo_log.proofs.DigitLaws.{small_length, length_by_power}
use Rattle.undo_log.proofs.digits.digits_length.Goals as goal

pub returns-in-Some : goal.returns-in-Some
returns-in-Some c = sym (length_by_power c.in-Some.tens c.args.n c.in-Some.ensures.power_le c.in-Some.ensures.next_power_gt)

pub returns-in-None : goal.returns-in-None
returns-in-None c = sym (small_length c.args.n (omega (arith, c.in-None.ensures.none)))
