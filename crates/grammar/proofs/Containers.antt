-- The brackets of arrays (false) and objects (true).
use Prim.Native.Nat.{ℕ, ◌<◌}
use Prim.Native.Char.{code}
use mathlib.Core.Path.{◌≡◌}
use mathlib.Core.Bool.{Bool, true, false}
use native.Mathlib.Omega.{arith}
use Rattle.spec.specs.Value as Value
use Rattle.spec.specs.Value.{Members}
use Rattle.spec.specs.Read.{container_label, closing_bracket}

abbrev pub opening_bracket : Bool → ℕ
opening_bracket false = code "["
opening_bracket true = code "{"

abbrev pub container_of : Bool → Members → Value.Value
container_of is_object f = record { label = container_label is_object; kids = f }

pub opening_positive : (is_object : Bool) → 0 < opening_bracket is_object
opening_positive false = omega arith
opening_positive true = omega arith

pub closing_positive : (is_object : Bool) → 0 < closing_bracket is_object
unfolding closing_bracket
closing_positive false = omega arith
closing_positive true = omega arith

pub comma_no_closing : (is_object : Bool) → code "," ≡ closing_bracket is_object → ⊥
unfolding closing_bracket
comma_no_closing false e = omega arith
comma_no_closing true e = omega arith
