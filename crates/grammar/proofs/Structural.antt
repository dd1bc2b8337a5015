-- Blanks, and the structural characters with the blanks around them.
use Prim.Native.Nat.{ℕ, zero, suc, ◌+◌, ◌<◌, ◌≤◌}
use Prim.Native.Char.{code}
use mathlib.Core.Path.{◌≡◌, refl, ◌∙◌}
use mathlib.Core.Bool.{Bool, true, false}
use mathlib.Core.List.{◌∷◌}
use native.Mathlib.Omega.{arith}
use lib.ListN.{length}
use Rattle.spec.specs.Bytes.{Bytes, byte, within}
use Rattle.spec.specs.Numbers.{is_digit, is_e}
use Rattle.spec.specs.Read.{is_blank, blanks_from, blanks, closing_bracket}
use Rattle.grammar.specs.Grammar.{ws, structural, name_separator, value_separator}
use Rattle.grammar.proofs.Containers.{opening_bracket}
use Rattle.grammar.proofs.Places.{From, past_end, first, split}
use Rattle.grammar.proofs.Tests.{by_cases}
use Rattle.grammar.proofs.NumbersComplete.{in_number, Stops}

pub nothing_blank : (s : Bytes) {at : ℕ} → length s ≤ at → is_blank (byte s at) ≡ false
unfolding is_blank
nothing_blank s l = rw (past_end s l)

blanks_fuel : (fuel more : ℕ) (s : Bytes) (at : ℕ) → length s ≤ fuel + at → length s ≤ more + at → blanks_from fuel s at ≡ blanks_from more s at
unfolding blanks_from
blanks_fuel zero zero s at l m = refl
blanks_fuel zero (suc more) s at l m = rw (nothing_blank s {at = at} (omega arith))
blanks_fuel (suc fuel) zero s at l m = rw (nothing_blank s {at = at} (omega arith))
blanks_fuel (suc fuel) (suc more) s at l m =
    by_cases (is_blank (byte s at)) (λ e. rw e (blanks_fuel fuel more s (at + 1) (omega arith) (omega arith))) (λ e. rw e)

-- at a byte that is no blank, the place stays
pub blanks_stay : (s : Bytes) (at : ℕ) → is_blank (byte s at) ≡ false → blanks s at ≡ at
unfolding blanks blanks_from
blanks_stay s at e = go (length s)
  where
    go : (fuel : ℕ) → blanks_from fuel s at ≡ at
    go zero = refl
    go (suc fuel) = rw e

blank_step : (fuel : ℕ) (s : Bytes) (at : ℕ) {o : ℕ} → is_blank (byte s at) ≡ true → at < length s → length s ≤ fuel + at →
    ((less : ℕ) → length s ≤ less + (at + 1) → blanks_from less s (at + 1) ≡ o) → blanks_from fuel s at ≡ o
unfolding blanks_from
blank_step zero s at e i l rest = absurd (omega arith)
blank_step (suc fuel) s at e i l rest = rw e (rest fuel (omega arith))

blanks_from_skip : (fuel more : ℕ) {s w : Bytes} {at next : ℕ} → ws w → From s at w next → length s ≤ fuel + at → length s ≤ more + next →
    blanks_from fuel s at ≡ blanks_from more s next
unfolding is_blank
blanks_from_skip fuel more {s} {at = at} {next = next} ws.none f l m =
    let far = f.far in
    let same : at ≡ next = omega arith in
    rw same (blanks_fuel fuel more s next (omega arith) m)
blanks_from_skip fuel more {s} {at = at} (ws.space d) f l m =
    let (e, g, i) = first f in blank_step fuel s at (rw e) i l (λ less enough. blanks_from_skip less more d g enough m)
blanks_from_skip fuel more {s} {at = at} (ws.tab d) f l m =
    let (e, g, i) = first f in blank_step fuel s at (rw e) i l (λ less enough. blanks_from_skip less more d g enough m)
blanks_from_skip fuel more {s} {at = at} (ws.line_feed d) f l m =
    let (e, g, i) = first f in blank_step fuel s at (rw e) i l (λ less enough. blanks_from_skip less more d g enough m)
blanks_from_skip fuel more {s} {at = at} (ws.carriage_return d) f l m =
    let (e, g, i) = first f in blank_step fuel s at (rw e) i l (λ less enough. blanks_from_skip less more d g enough m)

-- blanks are skipped
pub blanks_skip : {s w : Bytes} {at next : ℕ} → ws w → From s at w next → blanks s at ≡ blanks s next
unfolding blanks
blanks_skip {s} d f = blanks_from_skip (length s) (length s) d f (omega arith) (omega arith)

-- no number goes on past the end, or with a blank
pub nothing_stops : (s : Bytes) {at : ℕ} → length s ≤ at → Stops (byte s at)
unfolding in_number is_digit is_e within
nothing_stops s l = rw (past_end s l) (record { outside = refl })

pub ws-stops : {s w : Bytes} {at next : ℕ} → ws w → From s at w next → Stops (byte s next) → Stops (byte s at)
unfolding in_number is_digit is_e within
ws-stops {at = at} {next = next} ws.none f h = let far = f.far in let same : at ≡ next = omega arith in rw same h
ws-stops (ws.space d) f h = rw (first f).0 (record { outside = refl })
ws-stops (ws.tab d) f h = rw (first f).0 (record { outside = refl })
ws-stops (ws.line_feed d) f h = rw (first f).0 (record { outside = refl })
ws-stops (ws.carriage_return d) f h = rw (first f).0 (record { outside = refl })

-- a structural character with the blanks around it
pub record Marked (s : Bytes) (at c next : ℕ) : Type 0 where
  pub mark : byte s (blanks s at) ≡ c
  pub after : blanks s (blanks s at + 1) ≡ blanks s next
  pub grows : at < next
  pub stops : Stops (byte s at)

structural-reads : {c : ℕ} {s w : Bytes} {at next : ℕ} → structural c w → is_blank c ≡ false → Stops c → From s at w next → Marked s at c next
structural-reads {c} {s} {at = at} (structural.around {before} {after} d d') no_blank stop f =
    let (g, h) = split before (c ∷ after) f in
    let (e, i, _) = first h in
    let far = i.far in
    let there : blanks s at ≡ at + length before = blanks_skip d g ∙ blanks_stay s (at + length before) (rw e no_blank) in
    record {
      mark = rw (there, e);
      after = rw there (blanks_skip d' i);
      grows = omega arith;
      stops = ws-stops d g (rw e stop);
    }

-- the six structural characters
module _ {s w : Bytes} {at next : ℕ} where
  marked : (c : ℕ) → is_blank c ≡ false → in_number c ≡ false → structural c w → From s at w next → Marked s at c next
  marked c b o h f = structural-reads h b (record { outside = o }) f

  pub opening_marked : (is_object : Bool) → structural (opening_bracket is_object) w → From s at w next → Marked s at (opening_bracket is_object) next
  unfolding is_blank in_number is_digit is_e within
  opening_marked false h f = marked (code "[") refl refl h f
  opening_marked true h f = marked (code "{") refl refl h f

  pub closing_marked : (is_object : Bool) → structural (closing_bracket is_object) w → From s at w next → Marked s at (closing_bracket is_object) next
  unfolding is_blank in_number is_digit is_e within closing_bracket
  closing_marked false h f = marked (code "]") refl refl h f
  closing_marked true h f = marked (code "}") refl refl h f

  pub comma_marked : value_separator w → From s at w next → Marked s at (code ",") next
  unfolding is_blank in_number is_digit is_e within
  comma_marked h f = marked (code ",") refl refl h f

  pub colon_marked : name_separator w → From s at w next → Marked s at (code ":") next
  unfolding is_blank in_number is_digit is_e within
  colon_marked h f = marked (code ":") refl refl h f
