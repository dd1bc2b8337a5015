-- What holds of a refusal, with a rule for each way of putting readers together; and the readers that refuse by 3 alone.
use Rattle.std.specs.Prelude.{if◌then◌else◌}
use Prim.Native.Nat.{ℕ, zero, suc, ◌+◌, ◌≤◌}
use mathlib.Core.Path.{◌≡◌, refl}
use mathlib.Core.Bool.{Bool, true, false}
use mathlib.Core.List.{[], ◌∷◌}
use native.Mathlib.Omega.{arith}
use lib.ListN.{length}
use lib.Dec.{eqb}
use Rattle.spec.specs.Outcome.{Outcome, ok, refused, ◌>>=◌}
use Rattle.spec.specs.Refusal.{not_json}
use Rattle.spec.specs.Bytes.{Bytes, byte, within, byte_in}
use Rattle.spec.specs.Strings as Strings
use Rattle.spec.specs.Strings.{hex_value, hex_in, low_surrogate, after_high, unicode_escape, short_escape, escape, tail, multibyte, character, characters}
use Rattle.spec.specs.Read.{word_at}
use Rattle.grammar.proofs.Tests.{within_true}

-- an outcome whose number and place, where it is a refusal, have the property
pub data Refusing {X : Type 0} (Q : ℕ → ℕ → Type 0) : Outcome X → Type 0 where
  result : {x : X} → Refusing Q (ok x)
  refusal : {number p : ℕ} → Q number p → Refusing Q (refused number p)

module _ {X : Type 0} {Q : ℕ → ℕ → Type 0} where
  pub refused_so : {number p : ℕ} → Refusing {X = X} Q (refused number p) → Q number p
  refused_so (refusal q) = q

  pub choose : (c : Bool) {a b : Outcome X} → (c ≡ true → Refusing Q a) → (c ≡ false → Refusing Q b) → Refusing Q (if c then a else b)
  choose true f g = f refl
  choose false f g = g refl

  pub weaken : {R : ℕ → ℕ → Type 0} {o : Outcome X} → ((number p : ℕ) → Q number p → R number p) → Refusing Q o → Refusing R o
  weaken h result = result
  weaken h (refusal {number} {p} q) = refusal (h number p q)

  -- one reader after another
  pub and_then : {Y : Type 0} {o : Outcome Y} (g : Y → Outcome X) → Refusing Q o → ((y : Y) → o ≡ ok y → Refusing Q (g y)) → Refusing Q (o >>= g)
  unfolding ◌>>=◌
  and_then g (result {x = y}) rest = rest y refl
  and_then g (refusal q) rest = refusal q

  -- the byte that must stand there, or 3
  pub expect_then : {o : Outcome X} (s : Bytes) (at b : ℕ) → Q not_json at → (byte s at ≡ b → Refusing Q o) →
      Refusing Q (byte_in s at b b >>= λ _. o)
  unfolding byte_in ◌>>=◌
  expect_then {o} s at b q rest = go (within b b (byte s at)) refl
    where
      go : (c : Bool) → within b b (byte s at) ≡ c → Refusing Q ((if c then ok (byte s at) else refused not_json at) >>= λ _. o)
      go true e = let range = within_true b b (byte s at) e in rest (omega arith)
      go false e = refusal q

  -- a byte between two bounds, or 3
  pub check_then : {o : Outcome X} (s : Bytes) (at low high : ℕ) → Q not_json at → (low ≤ byte s at → byte s at ≤ high → Refusing Q o) →
      Refusing Q (byte_in s at low high >>= λ _. o)
  unfolding byte_in ◌>>=◌
  check_then {o} s at low high q rest = go (within low high (byte s at)) refl
    where
      go : (c : Bool) → within low high (byte s at) ≡ c → Refusing Q ((if c then ok (byte s at) else refused not_json at) >>= λ _. o)
      go true e = let range = within_true low high (byte s at) e in rest range.0 range.1
      go false e = refusal q

-- Readers that refuse by 3 alone

abbrev pub By3 : ℕ → ℕ → Type 0
By3 number p = number ≡ not_json

-- what comes next whatever was read
next : {X Y : Type 0} {o : Outcome Y} (g : Y → Outcome X) → Refusing By3 o → ((y : Y) → Refusing By3 (g y)) → Refusing By3 (o >>= g)
next g r rest = and_then g r (λ y _. rest y)

byte_in_by_3 : (s : Bytes) (at low high : ℕ) → Refusing By3 (byte_in s at low high)
unfolding byte_in
byte_in_by_3 s at low high = choose (within low high (byte s at)) (λ _. result) (λ _. refusal refl)

hex_in_by_3 : (s : Bytes) (at low high : ℕ) → Refusing By3 (hex_in s at low high)
unfolding hex_in
hex_in_by_3 s at low high = choose (within low high (hex_value (byte s at))) (λ _. result) (λ _. refusal refl)

low_surrogate_by_3 : (s : Bytes) (high at : ℕ) → Refusing By3 (low_surrogate s high at)
unfolding low_surrogate
low_surrogate_by_3 s high at =
    next _ (hex_in_by_3 s at _ _) λ _. next _ (hex_in_by_3 s (at + 1) _ _) λ _. next _
    (hex_in_by_3 s (at + 2) _ _) λ _. next _ (hex_in_by_3 s (at + 3) _ _) λ _. result

after_high_by_3 : (s : Bytes) (high at : ℕ) → Refusing By3 (after_high s high at)
unfolding after_high
after_high_by_3 s high at = next _ (byte_in_by_3 s at _ _) λ _. next _ (byte_in_by_3 s (at + 1) _ _) λ _. low_surrogate_by_3 s high (at + 2)

unicode_escape_by_3 : (s : Bytes) (at : ℕ) → Refusing By3 (unicode_escape s at)
unfolding unicode_escape
unicode_escape_by_3 s at =
    next _ (hex_in_by_3 s at _ _) λ a. next _ (hex_in_by_3 s (at + 1) _ _) λ b.
    next _ (hex_in_by_3 s (at + 2) _ _) λ c. next _ (hex_in_by_3 s (at + 3) _ _) λ d.
    choose (within _ _ _) (λ _. after_high_by_3 s _ (at + 4)) (λ _. result)

escape_by_3 : (s : Bytes) (at : ℕ) → Refusing By3 (escape s at)
unfolding escape
escape_by_3 s at =
    choose (eqb (byte s at) _) (λ _. unicode_escape_by_3 s (at + 1)) λ _.
    choose (eqb (short_escape (byte s at)) 0) (λ _. refusal refl) (λ _. result)

tail_by_3 : (n : ℕ) (s : Bytes) (at low high bits : ℕ) → Refusing By3 (tail n s at low high bits)
unfolding tail
tail_by_3 zero s at low high bits = result
tail_by_3 (suc n) s at low high bits = next _ (byte_in_by_3 s at low high) λ b. tail_by_3 n s (at + 1) 0x80 0xBF _

multibyte_by_3 : (s : Bytes) (at b : ℕ) → Refusing By3 (multibyte s at b)
unfolding multibyte
multibyte_by_3 s at b =
    choose (within _ _ b) (λ _. tail_by_3 1 s _ _ _ _) λ _.
    choose (within _ _ b) (λ _. tail_by_3 2 s _ _ _ _) λ _.
    choose (within _ _ b) (λ _. tail_by_3 2 s _ _ _ _) λ _.
    choose (within _ _ b) (λ _. tail_by_3 2 s _ _ _ _) λ _.
    choose (within _ _ b) (λ _. tail_by_3 2 s _ _ _ _) λ _.
    choose (within _ _ b) (λ _. tail_by_3 3 s _ _ _ _) λ _.
    choose (within _ _ b) (λ _. tail_by_3 3 s _ _ _ _) λ _.
    choose (within _ _ b) (λ _. tail_by_3 3 s _ _ _ _) (λ _. refusal refl)

character_by_3 : (s : Bytes) (at : ℕ) → Refusing By3 (character s at)
unfolding character
character_by_3 s at =
    choose (eqb (byte s at) _) (λ _. escape_by_3 s (at + 1)) λ _.
    choose (within _ _ (byte s at)) (λ _. result) (λ _. multibyte_by_3 s at (byte s at))

characters_by_3 : (fuel : ℕ) (s : Bytes) (at : ℕ) → Refusing By3 (characters fuel s at)
unfolding characters
characters_by_3 zero s at = refusal refl
characters_by_3 (suc fuel) s at =
    choose (eqb (byte s at) _) (λ _. result) λ _. next _ (character_by_3 s at) λ x. next _ (characters_by_3 fuel s x.1) λ y. result

pub string-by_3 : (s : Bytes) (at : ℕ) → Refusing By3 (Strings.string s at)
unfolding Strings.string
string-by_3 s at = next _ (byte_in_by_3 s at _ _) λ _. characters_by_3 (length s) s (at + 1)

pub word_at_by_3 : (word s : Bytes) (at : ℕ) → Refusing By3 (word_at word s at)
unfolding word_at
word_at_by_3 [] s at = result
word_at_by_3 (b ∷ word) s at = next _ (byte_in_by_3 s at b b) λ _. word_at_by_3 word s (at + 1)
