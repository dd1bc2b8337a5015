use Rattle.std.proofs.Common.{refl, arith, length-set}
use Rattle.intel_hex.proofs.WritingLaws.{digits_stored}
use Rattle.intel_hex.proofs.writing.put_digits.Goals as goal

pub bounds-out-at-2 : goal.bounds-out-at-2
bounds-out-at-2 c = simp length-set (omega arith)

pub shape_of-out : goal.shape_of-out
shape_of-out c = simp length-set

pub returns : goal.returns
returns c = digits_stored _ _ c.hex_digit.ensures c.hex_digit-2.ensures refl refl
