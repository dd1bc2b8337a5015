-- A law of lists that the program logic does not have.
use Prim.Native.Nat.{ℕ, zero, suc, ◌-◌}
use native.Mathlib.Nat.{sub-zero}
use native.Mathlib.Omega.{arith}
use mathlib.Core.Path.{◌≡◌, sym}
use mathlib.Core.List.{List, [], ◌∷◌}
use lib.ListN.{take, drop}
use lib.Seq.{take-nil}

-- a part that begins later is cut out of the rest
pub drop-take : {A : Type 0} (m n : ℕ) (xs : List A) → drop m (take n xs) ≡ take (n - m) (drop m xs)
drop-take zero n xs = rw sub-zero
drop-take (suc m) zero xs = let none : 0 - suc m ≡ 0 = omega arith in rw none
drop-take (suc m) (suc n) [] = sym (take-nil (suc n - suc m))
drop-take (suc m) (suc n) (x ∷ xs) = let one_less : suc n - suc m ≡ n - m = omega arith in rw one_less (drop-take m n xs)
