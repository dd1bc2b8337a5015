-- The turns of the definition's loop over the characters of a string, for whatever K is asked of the outcome.
use Prim.Native.Nat.{ℕ, zero, suc, ◌+◌, ◌≤◌, ◌<◌}
use Prim.Native.Char.{code}
use mathlib.Core.List.{[], ◌∷◌}
use mathlib.Core.Path.{◌≡◌, refl, ◌∙◌, ap}
use mathlib.Core.Bool.{true, false}
use native.Mathlib.Omega.{arith}
use borrow.Author.Tests.{eq-eqb, ne_eqb, eqb-false, not-true}
use lib.ListN.{length}
use lib.Dec.{eqb}
use Rattle.spec.specs.Outcome.{Outcome, ok, refused, ◌>>=◌}
use Rattle.spec.specs.Bytes.{Bytes, Text, byte, within}
use Rattle.spec.specs.Strings.{character, characters}
use Rattle.lexer.specs.Names.{stands_for_itself}
use Rattle.lexer.proofs.Tests.{and_both}
use Rattle.lexer.proofs.Fuel.{Runs, goes_on, ends}
use Rattle.lexer.proofs.ByteLaws.{inside, here}
use Rattle.lexer.proofs.StringLaws.{Past, character_past_end, character_ok_past}

-- a character before those of an outcome
abbrev pub cons : ℕ → Outcome (Text × ℕ) → Outcome (Text × ℕ)
cons c o = o >>= λ (cs, end). ok (c ∷ cs, end)

-- a byte that stands for itself is no quotation mark, and is read as a character
module _ (s : Bytes) (at : ℕ) (t : stands_for_itself (byte s at) ≡ true) where
  tests : (within 0x20 0x7F (byte s at) ≡ true) × (eqb (byte s at) (code "\"") ≡ false) × (eqb (byte s at) (code "\\") ≡ false)
  unfolding stands_for_itself
  tests =
      let p = and_both _ _ t in
      let q = and_both _ _ p.1 in
      (p.0, not-true _ q.0, not-true _ q.1)

  pub self_no_quote : byte s at ≡ code "\"" → ⊥
  self_no_quote = eqb-false _ _ tests.1

  pub self_no_backslash : byte s at ≡ code "\\" → ⊥
  self_no_backslash = eqb-false _ _ tests.2

  pub self_character : character s at ≡ ok (byte s at, at + 1)
  unfolding character
  self_character = rw (tests.2, tests.0)

  pub self_inside : at < length s
  unfolding stands_for_itself within
  self_inside = inside stands_for_itself refl s at t

-- the definition, one turn
module _ (s : Bytes) (at : ℕ) where
  closes : byte s at ≡ code "\"" → (fuel : ℕ) → characters (suc fuel) s at ≡ ok ([], at + 1)
  unfolding characters
  closes q fuel = rw (eq-eqb (byte s at) (code "\"") q)

  more : (v : ℕ × ℕ) → (byte s at ≡ code "\"" → ⊥) → character s at ≡ ok v → (fuel : ℕ) →
      characters (suc fuel) s at ≡ cons v.0 (characters fuel s v.1)
  unfolding characters ◌>>=◌
  more v n e fuel = rw (ne_eqb (byte s at) (code "\"") n, e)

  stops : (number place : ℕ) → (byte s at ≡ code "\"" → ⊥) → character s at ≡ refused number place → (fuel : ℕ) →
      characters (suc fuel) s at ≡ refused number place
  unfolding characters ◌>>=◌
  stops number place n e fuel = rw (ne_eqb (byte s at) (code "\"") n, e)

  none : (number place : ℕ) → character s at ≡ refused number place → length s ≤ at → characters zero s at ≡ refused number place
  unfolding characters
  none number place e l = cc (character_past_end s at l)

module _ {B : Type 0} (K : Outcome (Text × ℕ) → B) (s : Bytes) (at : ℕ) where
  -- a character is read
  pub turn_character : (K' : Outcome (Text × ℕ) → B) (v : ℕ × ℕ) {b : B} → ((o : Outcome (Text × ℕ)) → K (cons v.0 o) ≡ K' o) →
      (byte s at ≡ code "\"" → ⊥) → character s at ≡ ok v →
      Runs (λ fuel k. K (characters fuel s k)) s at b → Runs (λ fuel k. K' (characters fuel s k)) s v.1 b
  turn_character K' v k n e r =
      let l : Past s at v = character_ok_past s at v e in
      goes_on _ _ (omega arith) l.0 (λ fuel. ap K (more s at v n e fuel) ∙ k (characters fuel s v.1)) r

  -- the closing quotation mark
  pub turn_quote : {b : B} → byte s at ≡ code "\"" → Runs (λ fuel k. K (characters fuel s k)) s at b → K (ok ([], at + 1)) ≡ b
  turn_quote q r =
      ends (λ l. absurd (omega (arith, here s at _ q (omega arith)))) (λ fuel. ap K (closes s at q fuel)) r

  -- no character
  pub turn_refused : (number place : ℕ) {b : B} → (byte s at ≡ code "\"" → ⊥) → character s at ≡ refused number place →
      Runs (λ fuel k. K (characters fuel s k)) s at b → K (refused number place) ≡ b
  turn_refused number place n e r = ends (λ l. ap K (none s at number place e l)) (λ fuel. ap K (stops s at number place n e fuel)) r
