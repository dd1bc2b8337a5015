-- Whether one text and a slash behind it begin another, character by character. Of two pointers this says whether the tokens of the first are a
-- proper prefix of those of the second, although no character is unescaped: each token is written in one way only (proofs/SpellLaws).
use Rattle.std.specs.Prelude.{ℕ, ◌≤◌, ◌<◌, ◌≡◌, [], ◌∷◌, Bool, true, false, ◌&&◌, length, eqb}
use Prim.Native.Char.{code}
use Rattle.spec.specs.Bytes.{Bytes, Text, byte}
use Rattle.lexer.specs.Names.{stands_for_itself}

unfoldable pub begins : Text → Text → Bool
begins [] [] = false
begins [] (d ∷ ds) = eqb d (code "/")
begins (c ∷ cs) [] = false
begins (c ∷ cs) (d ∷ ds) = eqb c d && begins cs ds

-- Of the first n bytes, every one of ASCII stands for itself in a JSON string.
pub record RawTo (region : Bytes) (n : ℕ) : Type 0 where
  pub each : (i : ℕ) → i < n → byte region i < 0x80 → stands_for_itself (byte region i) ≡ true

-- So a region in UTF-8 can stand there as it is.
abbrev pub Raw : Bytes → Type 0
Raw region = RawTo region (length region)

-- the first n bytes are the same in both
pub record SameTo (region part : Bytes) (n : ℕ) : Type 0 where
  pub each : (i : ℕ) → i < n → byte part i ≡ byte region i

-- a part begins with such a region
pub record BeginsRaw (region part : Bytes) : Type 0 where
  pub raw : Raw region
  pub long : length region ≤ length part
  pub same : SameTo region part (length region)

-- the same byte at a place of each, a character by itself
pub record SameByte (region : Bytes) (i : ℕ) (part : Bytes) (j : ℕ) : Type 0 where
  pub inside : j < length part
  pub same : byte region i ≡ byte part j
  pub plain : stands_for_itself (byte region i) ≡ true
