-- Names in the bytes of standard input, one a line.
use Rattle.std.specs.Prelude.{ℕ, ◌≤◌, ◌<◌, ◌≡◌, length, get_or, Option, Some, None}
use Rattle.spec.specs.Bytes.{Bytes}

-- the line from a place on ends here: at its line feed, or where the bytes end
pub record LineEnd (s : Bytes) (start r : ℕ) : Type 0 where
  pub behind : start ≤ r
  pub inside : r ≤ length s
  pub none_before : (i : ℕ) → start ≤ i → i < r → get_or s i 0 ≡ 0x0A → ⊥
  pub line_feed : r < length s → get_or s r 0 ≡ 0x0A

-- the line with which some bytes begin ends at the line feed in this place; with none, it ends where the bytes end
abbrev pub LineEndIs : Bytes → Option ℕ → Type 0
LineEndIs s (Some r) = (r < length s) × LineEnd s 0 r
LineEndIs s None = LineEnd s 0 (length s)
