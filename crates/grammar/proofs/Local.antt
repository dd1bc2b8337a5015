-- A reader looks at no byte past the place of its outcome: on two texts that begin alike, an outcome whose place is among those bytes is the same.
-- Each way of putting readers together has a rule, as in Sound.
use Rattle.std.specs.Prelude.{if◌then◌else◌}
use Prim.Native.Nat.{ℕ, ◌-◌, ◌<◌, ◌≤◌}
use mathlib.Core.Path.{◌≡◌, refl, ap, sym, ◌∙◌}
use mathlib.Core.Bool.{Bool, true, false}
use mathlib.Core.List.{◌++◌}
use native.Mathlib.Omega.{arith}
use lib.ListN.{length, take, drop, length-append, length-drop, get_or-append}
use lib.Seq.{take-append-le, drop-append-le}
use Rattle.spec.specs.Outcome.{Outcome, ok, refused, ◌>>=◌}
use Rattle.spec.specs.Refusal.{not_json}
use Rattle.spec.specs.Bytes.{Bytes, byte, within, byte_in}
use Rattle.spec.specs.Strings.{hex_value, hex_in}

-- s and t have the same first m bytes
pub record Agree (s t : Bytes) (m : ℕ) : Type 0 where
  pub bytes : (p : ℕ) → p < m → byte t p ≡ byte s p
  pub part : (p q : ℕ) → p ≤ q → q ≤ m → take (q - p) (drop p t) ≡ take (q - p) (drop p s)
  pub long : (m ≤ length s) × (m ≤ length t)

pub agree : (c a b : Bytes) → Agree (c ++ a) (c ++ b) (length c)
unfolding byte
agree c a b =
    record {
      bytes = λ p l. get_or-append c b 0 p l ∙ sym (get_or-append c a 0 p l);
      part = λ p q l h. within_c b p q l h ∙ sym (within_c a p q l h);
      long = (omega (arith, length-append c a), omega (arith, length-append c b));
    }
  where
    within_c : (d : Bytes) (p q : ℕ) → p ≤ q → q ≤ length c → take (q - p) (drop p (c ++ d)) ≡ take (q - p) (drop p c)
    within_c d p q l h = ap (take (q - p)) (drop-append-le p c d (omega arith)) ∙ take-append-le (q - p) (drop p c) d (omega (arith, length-drop p c))

-- An outcome on s and one on t. A result ends at its place, and a refusal has one, no earlier than low; where that is before m, t has the same
-- outcome.
pub data Local (m : ℕ) {X : Type 0} (place : X → ℕ) (low : ℕ) : Outcome X → Outcome X → Type 0 where
  finds : {x : X} {o' : Outcome X} → low ≤ place x → (place x < m → o' ≡ ok x) → Local m place low (ok x) o'
  stops : {number p : ℕ} {o' : Outcome X} → low ≤ p → (p < m → o' ≡ refused number p) → Local m place low (refused number p) o'

module _ {m : ℕ} {X : Type 0} {place : X → ℕ} where
  pub same_stop : {low number p : ℕ} {o' : Outcome X} → Local m place low (refused number p) o' → p < m → o' ≡ refused number p
  same_stop (stops l e) h = e h

  pub gives : {low : ℕ} (x : X) {x' : X} → low ≤ place x → (place x < m → x' ≡ x) → Local m place low (ok x) (ok x')
  gives x l e = finds l (λ h. ap ok (e h))

  pub refuses : {low number : ℕ} (p : ℕ) → low ≤ p → Local m place low (refused number p) (refused number p)
  refuses p l = stops l (λ h. refl)

  -- what t has counts only where the place is before m
  pub under : {low : ℕ} (low' : ℕ) {o o' : Outcome X} (o'' : Outcome X) → low ≤ low' → (low' < m → o' ≡ o'') → Local m place low' o o'' →
      Local m place low o o'
  under low' o'' l e (finds {x} h f) = finds {x = x} (omega arith) (λ i. e (omega arith) ∙ f i)
  under low' o'' l e (stops {p = p} h f) = stops {p = p} (omega arith) (λ i. e (omega arith) ∙ f i)

  pub later : {low : ℕ} (low' : ℕ) {o o' : Outcome X} → low ≤ low' → Local m place low' o o' → Local m place low o o'
  later low' {o' = o'} l r = under low' o' l (λ h. refl) r

  pub choose : {low : ℕ} {c c' : Bool} {a a' b b' : Outcome X} → (low < m → c' ≡ c) → (c ≡ true → Local m place low a a') →
      (c ≡ false → Local m place low b b') →
      Local m place low (if c then a else b) (if c' then a' else b')
  choose {low} {c} {c'} {a} {a'} {b} {b'} e f g = under low _ (omega arith) (λ l. ap (λ d. if d then a' else b') (e l)) (go c refl)
    where
      go : (d : Bool) → c ≡ d → Local m place low (if d then a else b) (if d then a' else b')
      go true h = f h
      go false h = g h

  -- one test for both
  pub both : {low : ℕ} (c : Bool) {a a' b b' : Outcome X} → Local m place low a a' → Local m place low b b' →
      Local m place low (if c then a else b) (if c then a' else b')
  both true f g = f
  both false f g = g

-- one reader after another
pub and_then : {m : ℕ} {X Y : Type 0} {place : X → ℕ} {place' : Y → ℕ} {low : ℕ} {o o' : Outcome X} (g g' : X → Outcome Y) → Local m place low o o' →
    ((x : X) → o ≡ ok x → low ≤ place x → Local m place' (place x) (g x) (g' x)) → Local m place' low (o >>= g) (o' >>= g')
unfolding ◌>>=◌
and_then {place = place} g g' (finds {x} l e) rest = under (place x) (g' x) l (λ h. ap (λ o. o >>= g') (e h)) (rest x refl l)
and_then g g' (stops l e) rest = stops l (λ h. ap (λ o. o >>= g') (e h))

module _ {m : ℕ} {X : Type 0} {place : X → ℕ} where
  -- what is read at a place, between two bounds, and what comes after it
  between_then : {at : ℕ} (a a' low high next : ℕ) (g g' : ℕ → Outcome X) → (at < m → a' ≡ a) → at ≤ next →
      ((b : ℕ) → Local m place next (g b) (g' b)) →
      Local m place at ((if within low high a then ok a else refused not_json at) >>= g) ((if within low high a' then ok a' else refused not_json at) >>= g')
  unfolding ◌>>=◌
  between_then {at} a a' low high next g g' e l rest =
      under at ((if within low high a then ok a else refused not_json at) >>= g') (omega arith)
      (λ h. ap (λ a. (if within low high a then ok a else refused not_json at) >>= g') (e h)) (go (within low high a))
    where
      go : (c : Bool) → Local m place at ((if c then ok a else refused not_json at) >>= g) ((if c then ok a else refused not_json at) >>= g')
      go true = later next l (rest a)
      go false = refuses at (omega arith)

  pub byte_in_then : {s t : Bytes} → Agree s t m → (at low high next : ℕ) (g g' : ℕ → Outcome X) → at ≤ next →
      ((b : ℕ) → Local m place next (g b) (g' b)) →
      Local m place at (byte_in s at low high >>= g) (byte_in t at low high >>= g')
  unfolding byte_in
  byte_in_then {s} {t} agree at low high next g g' l rest = between_then (byte s at) (byte t at) low high next g g' (agree.bytes at) l rest

  pub hex_in_then : {s t : Bytes} → Agree s t m → (at low high next : ℕ) (g g' : ℕ → Outcome X) → at ≤ next →
      ((b : ℕ) → Local m place next (g b) (g' b)) →
      Local m place at (hex_in s at low high >>= g) (hex_in t at low high >>= g')
  unfolding hex_in
  hex_in_then {s} {t} agree at low high next g g' l rest =
      between_then (hex_value (byte s at)) (hex_value (byte t at)) low high next g g' (λ h. ap hex_value (agree.bytes at h)) l rest
