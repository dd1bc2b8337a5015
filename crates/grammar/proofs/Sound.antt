-- What a reader finds is derived, and what it refuses by 3 is the beginning of what is derived. `Sound` says both of an outcome, and each way of
-- putting readers together has a rule, so that what is said of a reader mirrors its definition.
use Rattle.std.specs.Prelude.{if◌then◌else◌}
use Prim.Native.Nat.{ℕ, ◌+◌, ◌<◌, ◌≤◌}
use mathlib.Core.Path.{◌≡◌, refl, subst, sym}
use mathlib.Core.Bool.{Bool, true, false}
use mathlib.Core.List.{[], ◌∷◌, ◌++◌, append_assoc}
use native.Mathlib.Omega.{arith}
use Rattle.spec.specs.Outcome.{Outcome, ok, refused, ◌>>=◌}
use Rattle.spec.specs.Refusal.{not_json}
use Rattle.spec.specs.Bytes.{Bytes, byte, within, byte_in}
use Rattle.grammar.proofs.Places.{From, here, one, join, in_text}
use Rattle.grammar.proofs.Tests.{within_true}

-- a relation that derives something
pub record Some {X : Type 0} (P : Bytes → X → Type 0) : Type 0 where
  pub text : Bytes
  pub meaning : X
  pub derived : P text meaning

pub some : {X : Type 0} {P : Bytes → X → Type 0} (w : Bytes) (x : X) → P w x → Some P
some w x d = record { text = w; meaning = x; derived = d }

pub some_cons : {X : Type 0} {P : Bytes → X → Type 0} (b : ℕ) → Some (λ w x. P (b ∷ w) x) → Some P
some_cons b r = some (b ∷ r.text) r.meaning r.derived

-- An outcome of reading from the place `at` on, where `place` is where a result ends. A result is derived from the bytes up to there. Where the
-- text is refused by 3, the bytes up to that place are the beginning of some that are derived.
pub data Sound {X : Type 0} (s : Bytes) (place : X → ℕ) (at : ℕ) (P : Bytes → X → Type 0) : Outcome X → Type 0 where
  finds : {w : Bytes} {x : X} → From s at w (place x) → P w x → Sound s place at P (ok x)
  stops : {w : Bytes} {p : ℕ} → From s at w p → Some (λ more x. P (w ++ more) x) → Sound s place at P (refused not_json p)
  other : {number p : ℕ} → (number ≡ not_json → ⊥) → Sound s place at P (refused number p)

pub record Found {X : Type 0} (s : Bytes) (place : X → ℕ) (at : ℕ) (P : Bytes → X → Type 0) (x : X) : Type 0 where
  pub text : Bytes
  pub from : From s at text (place x)
  pub derived : P text x

pub record Stopped {X : Type 0} (s : Bytes) (at : ℕ) (P : Bytes → X → Type 0) (p : ℕ) : Type 0 where
  pub text : Bytes
  pub from : From s at text p
  pub some : Some (λ more x. P (text ++ more) x)

module _ {X : Type 0} {s : Bytes} {place : X → ℕ} {at : ℕ} where
  pub found : {P : Bytes → X → Type 0} {x : X} → Sound s place at P (ok x) → Found s place at P x
  found (finds f d) = record { text = _; from = f; derived = d }

  pub stopped : {P : Bytes → X → Type 0} {p : ℕ} → Sound s place at P (refused not_json p) → Stopped s at P p
  stopped (stops f d) = record { text = _; from = f; some = d }
  stopped (other h) = absurd (h refl)

  -- nothing fits at this place
  pub refuses : {P : Bytes → X → Type 0} → Some P → Sound s place at P (refused not_json at)
  refuses d = stops (here at) d

  -- a refusal by a limit or a repeated name
  pub exceeds : {P : Bytes → X → Type 0} {p : ℕ} (number : ℕ) → not_json < number → Sound s place at P (refused number p)
  exceeds number l = other {number = number} (λ e. omega arith)

  -- a result that takes no byte
  pub gives : {P : Bytes → X → Type 0} (x : X) → place x ≡ at → P [] x → Sound s place at P (ok x)
  gives x e d = finds {w = []} {x = x} (rw e (here at)) d

  pub weaken : {P Q : Bytes → X → Type 0} {o : Outcome X} → ((w : Bytes) (x : X) → P w x → Q w x) → Sound s place at P o → Sound s place at Q o
  weaken h (finds {w} {x} f d) = finds f (h w x d)
  weaken h (stops {w} f d) = stops f (record { text = d.text; meaning = d.meaning; derived = h (w ++ d.text) d.meaning d.derived })
  weaken h (other n) = other n

  pub choose : {P : Bytes → X → Type 0} (c : Bool) {a b : Outcome X} → (c ≡ true → Sound s place at P a) → (c ≡ false → Sound s place at P b) →
      Sound s place at P (if c then a else b)
  choose true f g = f refl
  choose false f g = g refl

-- bytes that are read already, and a reader from there on
pub after : {X : Type 0} {s : Bytes} {place : X → ℕ} {at mid : ℕ} {w : Bytes} (P : Bytes → X → Type 0) {o : Outcome X} →
    From s at w mid → Sound s place mid (λ w' x. P (w ++ w') x) o → Sound s place at P o
after P f (finds g d) = finds (join f g) d
after {w = w} P f (stops {w = w'} g d) =
    stops (join f g) (record { text = d.text; meaning = d.meaning; derived = rw append_assoc d.derived })
after P f (other h) = other h

-- one reader after another, where what the first derives can be continued
pub and_then : {X Y : Type 0} {s : Bytes} {place : X → ℕ} {place' : Y → ℕ} {at : ℕ} {P : Bytes → X → Type 0} {R : Bytes → Y → Type 0} {o : Outcome X}
    (g : X → Outcome Y) → Sound s place at P o → ((w : Bytes) (x : X) → P w x → Some (λ w' y. R (w ++ w') y)) →
    ((w : Bytes) (x : X) → P w x → Sound s place' (place x) (λ w' y. R (w ++ w') y) (g x)) → Sound s place' at R (o >>= g)
unfolding ◌>>=◌
and_then {R = R} g (finds {w} {x} f d) go_on rest = after R f (rest w x d)
and_then {R = R} g (stops {w} f d) go_on rest =
    let more = go_on (w ++ d.text) d.meaning d.derived in
    stops f (record { text = d.text ++ more.text; meaning = more.meaning; derived = rw (← append_assoc) more.derived })
and_then g (other h) go_on rest = other h

-- a reader, and its result made into another that ends at the same place
pub finish : {X Y : Type 0} {s : Bytes} {place : X → ℕ} {place' : Y → ℕ} {at : ℕ} {P : Bytes → X → Type 0} {Q : Bytes → Y → Type 0} {o : Outcome X}
    (f : X → Y) → ((x : X) → place' (f x) ≡ place x) → ((w : Bytes) (x : X) → P w x → Q w (f x)) → Sound s place at P o →
    Sound s place' at Q (o >>= λ x. ok (f x))
unfolding ◌>>=◌
finish {s = s} {at = at} f same derive (finds {w} {x} from d) = finds {x = f x} (subst (From s at w) (sym (same x)) from) (derive w x d)
finish f same derive (stops {w} from r) = stops from (some r.text (f r.meaning) (derive (w ++ r.text) r.meaning r.derived))
finish f same derive (other h) = other h

-- a byte that is known, and a reader after it
pub past : {X : Type 0} {s : Bytes} {place : X → ℕ} {at : ℕ} (P : Bytes → X → Type 0) {o : Outcome X} (b next : ℕ) → 0 < b → byte s at ≡ b →
    next ≡ at + 1 →
    Sound s place next (λ w x. P (b ∷ w) x) o → Sound s place at P o
past {s = s} {at = at} P b next h e n r =
    let from : From s at (b ∷ []) next = rw (n, ← e) (one at (in_text s at (omega arith))) in
    after P from r

-- a byte between two bounds, and a reader after it
pub byte_in_then : {X : Type 0} {s : Bytes} {place : X → ℕ} {at : ℕ} (P : Bytes → X → Type 0) (g : ℕ → Outcome X) (low high next : ℕ) → 0 < low →
    next ≡ at + 1 → Some P →
    ((b : ℕ) → low ≤ b → b ≤ high → Sound s place next (λ w x. P (b ∷ w) x) (g b)) → Sound s place at P (byte_in s at low high >>= g)
unfolding byte_in ◌>>=◌
byte_in_then {s = s} {place = place} {at = at} P g low high next h n some rest = go (within low high (byte s at)) refl
  where
    go : (c : Bool) → within low high (byte s at) ≡ c → Sound s place at P ((if c then ok (byte s at) else refused not_json at) >>= g)
    go true e =
        let (l, m) = within_true low high (byte s at) e in
        past P (byte s at) next (omega arith) refl n (rest (byte s at) l m)
    go false e = refuses some

-- the byte that must stand there, and a reader after it
pub expect_then : {X : Type 0} {s : Bytes} {place : X → ℕ} {at : ℕ} (P : Bytes → X → Type 0) {o : Outcome X} (b next : ℕ) → 0 < b → next ≡ at + 1 →
    Some P →
    Sound s place next (λ w x. P (b ∷ w) x) o → Sound s place at P (byte_in s at b b >>= λ _. o)
expect_then {s = s} {place = place} P {o = o} b next h n some rest =
    byte_in_then P (λ _. o) b b next h n some λ c l m.
    let same : b ≡ c = omega arith in
    subst (λ c. Sound s place next (λ w x. P (c ∷ w) x) o) same rest

-- a byte between two bounds, which is not passed
pub check_then : {X : Type 0} {s : Bytes} {place : X → ℕ} {at : ℕ} {P : Bytes → X → Type 0} {o : Outcome X} (low high : ℕ) → Some P →
    (low ≤ byte s at → byte s at ≤ high → Sound s place at P o) → Sound s place at P (byte_in s at low high >>= λ _. o)
unfolding byte_in ◌>>=◌
check_then {s = s} {place = place} {at = at} {P = P} {o = o} low high some rest = go (within low high (byte s at)) refl
  where
    go : (c : Bool) → within low high (byte s at) ≡ c → Sound s place at P ((if c then ok (byte s at) else refused not_json at) >>= λ _. o)
    go true e = let (l, m) = within_true low high (byte s at) e in rest l m
    go false e = refuses some
