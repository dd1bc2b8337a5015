-- Laws of a line's end.
use Rattle.std.specs.Prelude.{ℕ, ◌≤◌, ◌<◌, ◌==◌, position, Option, Some, None, IfSome}
use Rattle.std.specs.List.{position_or_len}
use Rattle.std.proofs.lemmas.Bool.{eq-eqb, eqb-true}
use Rattle.std.proofs.lemmas.List.Quantifiers.{position-Some}
use Rattle.std.proofs.lemmas.List.Sums.{fails_before_first}
use native.Mathlib.Omega.{arith}
use mathlib.Core.Path.{◌≡◌, sym, ◌∙◌}
use mathlib.Core.Bool.{Bool, false, true≢false}
use lib.ListN.{length, get_or}
use Rattle.spec.specs.Bytes.{Bytes}
use Rattle.decimal.proofs.MantissaLaws.{place_missing}
use Rattle.patch_count.specs.Names.{LineEndIs}

-- whether a byte is a line feed
abbrev is_feed : ℕ → Bool
is_feed b = b == 0x0A

no_feed : (b : ℕ) → is_feed b ≡ false → b ≡ 0x0A → ⊥
no_feed b other e = absurd (true≢false (sym (eq-eqb b 0x0A e) ∙ other))

-- the first line feed ends the first line
pub line_end_is : (s : Bytes) (r : Option ℕ) → r ≡ position is_feed s → LineEndIs s r
line_end_is s (Some r) e =
    let found = position-Some is_feed s r 0 (sym e) in (
      found.0,
      record {
        behind = omega arith;
        inside = omega (arith, found.0);
        none_before = λ i a b. no_feed (get_or s i 0) (found.2 i b);
        line_feed = λ h. eqb-true (get_or s r 0) 0x0A found.1;
      },
    )
line_end_is s None e =
    let none : length s ≤ position_or_len is_feed s = place_missing is_feed s (sym e) in
    record {
      behind = omega arith;
      inside = omega arith;
      none_before = λ i a b. no_feed (get_or s i 0) (fails_before_first is_feed s i 0 (omega (arith, none)));
      line_feed = λ h. absurd (omega arith);
    }

-- and it stands in the bytes
pub line_end_inside : (s : Bytes) (r : Option ℕ) → r ≡ position is_feed s → IfSome r (λ i. i < length s)
line_end_inside s (Some r) e = (position-Some is_feed s r 0 (sym e)).0
line_end_inside s None e = tt
