-- The last example of SPECIFICATION 10.2: `refused 15 text 0 op 1 place 0 pointer 0`; and numbers around a change of the number of digits.
use mathlib.Core.Path.{◌≡◌, refl}
use mathlib.Core.List.{◌++◌}
use Rattle.spec.specs.Bytes.{ascii}
use Rattle.spec.specs.Patch.{stop}
use Rattle.spec.specs.Answer.{success, failure}
use Rattle.report.specs.Line.{digit, in_decimal_from, in_decimal, newline, last_field, refusal_line, line_of}

refused : line_of (failure (stop 15 1 0 0)) ≡ ascii "refused 15 text 0 op 1 place 0 pointer 0" ++ newline
unfolding line_of refusal_line last_field in_decimal in_decimal_from digit ascii
refused = refl

lost : line_of (failure (stop 11 2 1 1)) ≡ ascii "refused 11 text 0 op 2 place 1 pointer 1" ++ newline
unfolding line_of refusal_line last_field in_decimal in_decimal_from digit ascii
lost = refl

patched : line_of (success (ascii "{\"mAh\":3000,\"cut\":[4.2,3.0,2.8]}")) ≡ ascii "{\"mAh\":3000,\"cut\":[4.2,3.0,2.8]}" ++ newline
unfolding line_of
patched = refl

record Spelled : Type 0 where
  zero : in_decimal 0 ≡ ascii "0"
  nine : in_decimal 9 ≡ ascii "9"
  ten : in_decimal 10 ≡ ascii "10"
  longest_input : in_decimal 32_768 ≡ ascii "32768"

spelled : Spelled
unfolding in_decimal in_decimal_from digit ascii
spelled = record { zero = refl; nine = refl; ten = refl; longest_input = refl }
