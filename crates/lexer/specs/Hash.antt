-- The hash of a text, by which most texts that differ are told apart without being compared.
use Rattle.std.specs.Prelude.{ℕ, ◌+◌, ◌*◌, ◌%◌, [], ◌∷◌}
use Rattle.spec.specs.Bytes.{Text}

-- the hash of a text and one more character
unfoldable pub mix : ℕ → ℕ → ℕ
mix h c = (h * 165_904_091 + c) % 0x1000_0000

unfoldable pub hash_from : ℕ → Text → ℕ
hash_from h [] = h
hash_from h (c ∷ cs) = hash_from (mix h c) cs

-- The code points are the digits of a number in base 165,904,091, near 2 ^ 28 over the golden ratio. The hash is that number modulo 2 ^ 28.
unfoldable pub hash : Text → ℕ
hash cs = hash_from 0 cs
