-- What verbatim characters are.
use Rattle.std.specs.Prelude.{if◌then◌else◌}
use Prim.Native.Nat.{ℕ, ◌+◌, ◌≤◌}
use Prim.Native.Char.{code}
use mathlib.Core.Path.{◌≡◌, refl, sym, subst}
use mathlib.Core.Bool.{Bool, true, false, true≢false}
use native.Mathlib.Omega.{arith}
use borrow.Author.Tests.{eqb-true, eq-eqb}
use lib.Dec.{eqb}
use Rattle.spec.specs.Outcome.{ok}
use Rattle.spec.specs.Bytes.{Bytes, byte}
use Rattle.spec.specs.Strings as Strings
use Rattle.spec.specs.Strings.{short_escape, character}
use Rattle.lexer.specs.Names.{stands_for_itself}
use Rattle.lexer.specs.Verbatim.{kept_escape, Verbatim, none, raw, short, Ends, quote, escape, unread}
use Rattle.lexer.proofs.StringLaws.{character_ok_past}
use Rattle.lexer.proofs.StringLoop.{self_no_quote, self_no_backslash, self_character}

-- what holds of each letter whose escape is kept
module _ (P : ℕ → Type 0) (b : ℕ) where
  holds : (t : Bool) {rest : Bool} → (t ≡ true → P b) → (rest ≡ true → P b) → (if t then true else rest) ≡ true → P b
  holds true f g e = f refl
  holds false f g e = g e

  same : (n : ℕ) → P n → eqb b n ≡ true → P b
  same n p e = subst P (sym (eqb-true b n e)) p

  pub kept_cases : P (code "\"") → P (code "\\") → P (code "b") → P (code "f") → P (code "n") → P (code "r") → P (code "t") → kept_escape b ≡ true → P b
  unfolding kept_escape
  kept_cases mark slash bs ff lf cr tab =
      holds (eqb b (code "\"")) (same _ mark)
      (holds (eqb b (code "\\")) (same _ slash)
      (holds (eqb b (code "b")) (same _ bs)
      (holds (eqb b (code "f")) (same _ ff)
      (holds (eqb b (code "n")) (same _ lf)
      (holds (eqb b (code "r")) (same _ cr)
      (holds (eqb b (code "t")) (same _ tab) (λ e. absurd (true≢false (sym e)))))))))

-- such an escape is read as one character
abbrev Short : ℕ → Type 0
Short b = (eqb b (code "u") ≡ false) × (eqb (short_escape b) 0 ≡ false)

kept_short : (b : ℕ) → kept_escape b ≡ true → Short b
unfolding short_escape
kept_short b = kept_cases Short b (refl, refl) (refl, refl) (refl, refl) (refl, refl) (refl, refl) (refl, refl) (refl, refl)

pub short_read : (s : Bytes) (at : ℕ) → byte s at ≡ code "\\"
    → kept_escape (byte s (at + 1)) ≡ true → character s at ≡ ok (short_escape (byte s (at + 1)), at + 2)
unfolding character Strings.escape
short_read s at b k =
    let o = kept_short (byte s (at + 1)) k in
    let two : at + 1 + 1 ≡ at + 2 = omega arith in
    rw (eq-eqb (byte s at) (code "\\") b, Strings.escape, o.0, o.1, two)

-- a byte that stands for itself
pub verbatim_self : {escapes : Bool} {s : Bytes} {start at : ℕ} → Verbatim escapes s start at
    → stands_for_itself (byte s at) ≡ true → Verbatim escapes s start (at + 1)
verbatim_self {s = s} {at = at} p t = raw p (self_no_quote s at t) (self_no_backslash s at t) (self_character s at t)

pub verbatim_past : {escapes : Bool} {s : Bytes} {start at : ℕ} → Verbatim escapes s start at → start ≤ at
verbatim_past none = omega arith
verbatim_past {s = s} (raw {at} {c} {next} p n m e) = omega (arith, verbatim_past p, character_ok_past s at (c, next) e)
verbatim_past (short p t b k) = omega (arith, verbatim_past p)

-- what is read where they end, and is no quotation mark, begins with a backslash
pub ends_backslash : {escapes : Bool} {s : Bytes} {at : ℕ} {v : ℕ × ℕ} → Ends escapes s at
    → (byte s at ≡ code "\"" → ⊥) → character s at ≡ ok v → byte s at ≡ code "\\"
ends_backslash (quote b) n e = absurd (n b)
ends_backslash (escape b k) n e = b
ends_backslash (unread place r) n e = let z : ◌≡◌ {A = ℕ} 0 1 = cc in absurd (omega arith)
