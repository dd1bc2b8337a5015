-- Hexadecimal digits in upper case: RFC 3986, section 2.1, "should use uppercase hexadecimal digits for all percent-encodings"; T-07: "upper-case
-- hex".
use Rattle.std.specs.Prelude.{ℕ, ◌+◌, ◌-◌, ltb, if◌then◌else◌}
use Prim.Native.Char.{code}

unfoldable pub upper_hex : ℕ → ℕ
upper_hex n = if ltb n 10 then code "0" + n else code "A" + (n - 10)
