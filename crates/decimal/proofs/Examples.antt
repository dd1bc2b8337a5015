-- Numbers that are equal and numbers that are not, by computation: those of SPECIFICATION 7.2 and 7.3, one for each rule, and the zeros of
-- SPECIFICATION 7.4, T-04.
use mathlib.Core.Path.{◌≡◌, refl}
use mathlib.Core.List.{List, [], ◌∷◌}
use mathlib.Core.Bool.{true, false}
use Prim.Native.String.{String}
use Rattle.spec.specs.Bytes.{ascii}
use Rattle.spec.proofs.Computing.{compute, ◌and◌}
use Rattle.decimal.specs.Normal.{within_limits, same_number}

pub data Example : Type 0 where
  equal differ : String → String → Example

abbrev pub Holds : Example → Type 0
Holds (equal a b) = same_number (ascii a) (ascii b) ≡ true
Holds (differ a b) = same_number (ascii a) (ascii b) ≡ false

abbrev pub All : List Example → Type 0
All [] = Unit {0}
All (e ∷ rest) = Holds e × All rest

pub examples :
    All
    (equal "4400" "4.4e3" ∷
    differ "9007199254740993" "9007199254740992" ∷
    equal "0.10" "1e-1" ∷
    equal "1E+2" "100" ∷
    equal "0e5" "0.000" ∷
    equal "-0" "0" ∷
    equal "0.0" "-0e5" ∷
    equal "0E-9999" "-0" ∷
    differ "0" "1e-9999" ∷
    differ "-0" "-1e-9999" ∷
    differ "-1" "1" ∷
    differ "1" "10" ∷
    differ "0.5" "5" ∷
    equal "12.50e-0001" "1.25" ∷
    -- the exponent is over its limit
    differ "1e10000" "1e10000" ∷ [])
unfolding compute within_limits same_number
examples = refl and refl and refl and refl and refl and refl and refl and refl and refl and refl and refl and refl and refl and refl and refl and tt
