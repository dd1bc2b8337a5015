-- A run of characters that are written byte for byte as they are read.
use Rattle.std.specs.Prelude.{ℕ, ◌≡◌}
use Rattle.spec.specs.Outcome.{ok}
use Rattle.spec.specs.Bytes.{Bytes}
use Rattle.spec.specs.Write.{write_character}
use Rattle.lexer.specs.Names.{part}
use Rattle.text.specs.Decode.{character_in}

-- from a place to another
pub data Run (s : Bytes) (start : ℕ) : ℕ → Type 0 where
  none : Run s start start
  more : {at c next : ℕ} → Run s start at → character_in s at ≡ ok (c, next) → write_character c ≡ part s at next → Run s start next
