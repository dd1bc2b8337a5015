-- A reading that stays inside a part of a text does the same on the part alone. What is said of a reader is put together from what is said of
-- the readers that it calls, by the rules below, one for each way of putting readers together. It is said in two ways. Strictly, of a text and a part of
-- it: the part has the result if the text has it. Otherwise of a text and one that goes on after it: the longer one may be refused by a limit, and has no
-- other result.
use Rattle.std.specs.Prelude.{if◌then◌else◌}
use mathlib.Core.Path.{◌≡◌, refl, ap, sym, ◌∙◌}
use mathlib.Core.Bool.{Bool, true, false, ◌||◌}
use Prim.Native.Nat.{ℕ, suc, ◌+◌, ◌-◌, ◌<◌, ◌≤◌}
use Prim.Native.Char.{code}
use native.Mathlib.Omega.{arith}
use native.Mathlib.Decide.{dec_lt}
use lib.ListN.{length, take, drop, get_or-eq_default}
use lib.Dec.{eqb}
use Rattle.spec.specs.Outcome.{Outcome, ok, refused, ◌>>=◌}
use Rattle.spec.specs.Bytes.{Bytes, byte, within}
use Rattle.spec.specs.Numbers.{is_digit, is_e}
use Rattle.spec.proofs.OutcomeLaws.{refused≢ok, both_ok}

-- a byte that continues no number
pub record Ends (b : ℕ) : Type 0 where
  pub no_digit : is_digit b ≡ false
  pub no_exponent : is_e b ≡ false
  pub no_point : eqb b (code ".") ≡ false
  pub no_sign : (eqb b (code "+") || eqb b (code "-")) ≡ false

pub nothing_ends : Ends 0
unfolding is_digit is_e within
nothing_ends = record { no_digit = refl; no_exponent = refl; no_point = refl; no_sign = refl }

-- t begins with n bytes of s from k on, and no number goes on after them
pub record Cut (s t : Bytes) (k n : ℕ) : Type 0 where
  pub inside : (p : ℕ) → p < n → byte t p ≡ byte s (k + p)
  pub ends : Ends (byte t n)
  pub whole : n ≤ length t
  pub part : (p q : ℕ) → q ≤ n → take (q - p) (drop p t) ≡ take (q - p) (drop (k + p) s)

-- the place p of t is the place at of s
pub record At (k p at : ℕ) : Type 0 where
  pub is : at ≡ k + p

pub on : {k p at : ℕ} → At k p at → (d : ℕ) → At k (p + d) (at + d)
on e d = let h = e.is in record { is = omega arith }

-- an outcome is this result; or, where it need not be strict, it is this one if it is a result
abbrev pub Gives : {X : Type 0} → Bool → Outcome X → X → Type 0
Gives true o x = o ≡ ok x
Gives {X} false o x = (y : X) → o ≡ ok y → y ≡ x

pub gives_same : {X : Type 0} (strict : Bool) {x y : X} → y ≡ x → Gives strict (ok y) x
gives_same true e = ap ok e
gives_same false e = λ z h. cc

pub gives_equal : {X : Type 0} (strict : Bool) (o o' : Outcome X) (x : X) → o ≡ o' → Gives strict o' x → Gives strict o x
gives_equal true o o' x e h = e ∙ h
gives_equal false o o' x e h = λ y i. h y (sym e ∙ i)

gives_refused : {X : Type 0} (strict : Bool) (number at : ℕ) (x : X) → (strict ≡ true → ⊥) → Gives strict (refused number at) x
gives_refused true number at x f = absurd (f refl)
gives_refused false number at x f = λ y h. absurd (refused≢ok h)

gives_then : {X Y : Type 0} (strict : Bool) (o : Outcome X) (g : X → Outcome Y) (x : X) (y : Y)
    → Gives strict o x → Gives strict (g x) y → Gives strict (o >>= g) y
unfolding ◌>>=◌
gives_then true o g x y h i = rw h i
gives_then false o g x y h i = λ z j. let (x', e, k) = both_ok o g z j in i z (ap g (sym (h x' e)) ∙ k)

gives_check : {X Y : Type 0} (strict : Bool) (o : Outcome X) (g : Outcome Y) (y : Y)
    → (strict ≡ true → (x : X) × (o ≡ ok x)) → Gives strict g y → Gives strict (o >>= λ _. g) y
unfolding ◌>>=◌
gives_check true o g y f i = let (x, e) = f refl in rw e i
gives_check false o g y f i = λ z j. let (x, e, k) = both_ok o (λ _. g) z j in i z k

-- A result x that a reader has of s comes from data and a place, no earlier than low. Where the place is before m, the reader has the same
-- data of t, at that place.
pub record Tracked {A X : Type 0} (strict : Bool) (k m : ℕ) (put : A → ℕ → X) (low : ℕ) (x : X) (o' : Outcome X) : Type 0 where
  pub data_read : A
  pub q : ℕ
  pub is : x ≡ put data_read (k + q)
  pub from : low ≤ q
  pub gives : q < m → Gives strict o' (put data_read q)

-- an outcome of s and one of t
pub record Tracks {A X : Type 0} (strict : Bool) (k m : ℕ) (put : A → ℕ → X) (low : ℕ) (o o' : Outcome X) : Type 0 where
  pub track : (x : X) → o ≡ ok x → Tracked strict k m put low x o'

-- results that are a place, and results that are data and a place
abbrev pub place : Unit {0} → ℕ → ℕ
place a p = p

abbrev pub pair : {A : Type 0} → A → ℕ → A × ℕ
pair a p = (a, p)

-- where a reader of data has come to
pub landed : {A : Type 0} {strict : Bool} {k m low next : ℕ} {a : A} {o' : Outcome (A × ℕ)} (r : Tracked strict k m pair low (a, next) o') → next ≡ k + r.q
landed r = ap (λ x. x.1) r.is

pub got : {A : Type 0} {strict : Bool} {k m low next : ℕ} {a : A} {o' : Outcome (A × ℕ)} (r : Tracked strict k m pair low (a, next) o') → a ≡ r.data_read
got r = ap (λ x. x.0) r.is

module _ {strict : Bool} {k m : ℕ} {A X : Type 0} {put : A → ℕ → X} where
  pub none : {low number at : ℕ} {o' : Outcome X} → Tracks strict k m put low (refused number at) o'
  none = record { track = λ x h. absurd (refused≢ok h) }

  -- a result with its place
  pub ended_at : {low at p : ℕ} (a : A) {o' : Outcome X} → At k p at → low ≤ p
      → (p < m → Gives strict o' (put a p)) → Tracks strict k m put low (ok (put a at)) o'
  ended_at {at = at} {p = p} a e l f =
      record { track = λ x h. record { data_read = a; q = p; is = (let same : put a at ≡ x = cc in sym same ∙ ap (put a) e.is); from = l; gives = f } }

  pub result : {low at p : ℕ} (a : A) {y : X} → At k p at → low ≤ p → (p < m → y ≡ put a p) → Tracks strict k m put low (ok (put a at)) (ok y)
  result a e l f = ended_at a e l (λ m. gives_same strict (f m))

  pub later : {low : ℕ} (low' : ℕ) {o o' : Outcome X} → low ≤ low' → Tracks strict k m put low' o o' → Tracks strict k m put low o o'
  later low' l f =
      record {
        track = λ x h. let r = f.track x h in
            record { data_read = r.data_read; q = r.q; is = r.is; from = (let m = r.from in omega arith); gives = r.gives };
      }

  pub before : {low m' : ℕ} {o o' : Outcome X} → m' ≤ m → Tracks strict k m put low o o' → Tracks strict k m' put low o o'
  before l f =
      record {
        track = λ x h. let r = f.track x h in
            record { data_read = r.data_read; q = r.q; is = r.is; from = r.from; gives = λ i. r.gives (omega arith) };
      }

  -- what t has counts only where the place is before m
  pub under : {low : ℕ} {o o' : Outcome X} (o'' : Outcome X) → (low < m → o' ≡ o'') → Tracks strict k m put low o o'' → Tracks strict k m put low o o'
  under o'' same f =
      record {
        track = λ x h.
            let r = f.track x h in
            let l = r.from in
            record {
              data_read = r.data_read;
              q = r.q;
              is = r.is;
              from = r.from;
              gives = λ i. gives_equal strict _ o'' _ (same (omega arith)) (r.gives i);
            };
      }

  -- t may refuse where it need not be strict
  pub refuses : {low number at : ℕ} {o : Outcome X} (o'' : Outcome X) → (strict ≡ true → ⊥)
      → Tracks strict k m put low o o'' → Tracks strict k m put low o (refused number at)
  refuses {number = number} {at = at} o'' weak f =
      record {
        track = λ x h. let r = f.track x h in
            record { data_read = r.data_read; q = r.q; is = r.is; from = r.from; gives = λ l. gives_refused strict number at _ weak };
      }

  pub split : {low : ℕ} (c : Bool) {a a' b b' : Outcome X} → Tracks strict k m put low a a'
      → Tracks strict k m put low b b' → Tracks strict k m put low (if c then a else b) (if c then a' else b')
  split true f g = f
  split false f g = g

  -- a test that comes out the same where the place is before m
  pub choose : {low : ℕ} {c c' : Bool} {a a' b b' : Outcome X} → (low < m → c' ≡ c) →
      (c ≡ true → Tracks strict k m put low a a') → (c ≡ false → Tracks strict k m put low b b')
      → Tracks strict k m put low (if c then a else b) (if c' then a' else b')
  choose {low} {c} {c'} {a} {a'} {b} {b'} same f g = under _ (λ l. ap (λ d. if d then a' else b') (same l)) (go c refl f g)
    where
      go : (d : Bool) → c ≡ d → (c ≡ true → Tracks strict k m put low a a')
          → (c ≡ false → Tracks strict k m put low b b') → Tracks strict k m put low (if d then a else b) (if d then a' else b')
      go true e f g = f e
      go false e f g = g e

  -- a test of the byte at p that fails at the last place before m, and that is followed by more only where it holds
  pub stop : {low p : ℕ} {c c' : Bool} {a a' b b' : Outcome X} → (suc p < m → c' ≡ c) → (suc p ≡ m → c' ≡ false) → low ≤ suc p → p ≤ low →
      (c ≡ true → Tracks strict k m put (suc p) a a') → (c ≡ false → Tracks strict k m put low b b')
      → Tracks strict k m put low (if c then a else b) (if c' then a' else b')
  stop {low} {p} {c} {c'} {a} {a'} {b} {b'} same past l l' f g = go c refl (dec_lt (suc p) m)
    where
      go : (d : Bool) → c ≡ d → Dec (suc p < m) → Tracks strict k m put low (if d then a else b) (if c' then a' else b')
      go true e i = later (suc p) l (under _ (λ i. ap (λ d. if d then a' else b') (same i ∙ e)) (f e))
      go false e (yes i) = under _ (λ j. ap (λ d. if d then a' else b') (same i ∙ e)) (g e)
      go false e (no i) = under _ (λ j. ap (λ d. if d then a' else b') (past (omega arith))) (g e)

  -- one reader after another
  after_it : {B Y : Type 0} {put' : B → ℕ → Y} {low low' : ℕ} (m' : ℕ) (up : ℕ → ℕ) {o o' : Outcome X} (g g' : X → Outcome Y)
      → ((p : ℕ) → low ≤ p → (p ≤ up p) × (low' ≤ up p)) →
      ((p q : ℕ) → up p ≤ q → q < m' → p < m) → Tracks strict k m put low o o' →
      ((a : A) (at p : ℕ) → At k p at → low ≤ p → Tracks strict k m' put' (up p) (g (put a at)) (g' (put a p)))
      → Tracks strict k m' put' low' (o >>= g) (o' >>= g')
  unfolding ◌>>=◌
  after_it {put' = put'} m' up {o = o} {o' = o'} g g' bounds inside f rest =
      record {
        track = λ y h.
            let (x, e, i) = both_ok o g y h in
            let first = f.track x e in
            let (l, l') = bounds first.q first.from in
            let second = (rest first.data_read (k + first.q) first.q (record { is = refl }) first.from).track y (rw (← first.is) i) in
            let second_from = second.from in
            record {
              data_read = second.data_read;
              q = second.q;
              is = second.is;
              from = omega arith;
              gives = λ l. gives_then strict o' g' (put first.data_read first.q)
                  (put' second.data_read second.q) (first.gives (inside first.q second.q second.from l)) (second.gives l);
            };
      }

  pub and_then : {B Y : Type 0} {put' : B → ℕ → Y} {low : ℕ} {o o' : Outcome X} (g g' : X → Outcome Y) → Tracks strict k m put low o o' →
      ((a : A) (at p : ℕ) → At k p at → low ≤ p → Tracks strict k m put' p (g (put a at)) (g' (put a p))) → Tracks strict k m put' low (o >>= g) (o' >>= g')
  and_then g g' f rest = after_it m (λ p. p) g g' (λ p l. omega arith) (λ p q l i. omega arith) f rest

  -- the same, where the second takes at least one byte
  pub and_more : {B Y : Type 0} {put' : B → ℕ → Y} {low : ℕ} {o o' : Outcome X} (g g' : X → Outcome Y) → Tracks strict k m put low o o' →
      ((a : A) (at p : ℕ) → At k p at → low ≤ p → Tracks strict k (suc m) put' (suc p) (g (put a at)) (g' (put a p)))
      → Tracks strict k (suc m) put' (suc low) (o >>= g) (o' >>= g')
  and_more g g' f rest = after_it (suc m) suc g g' (λ p l. omega arith) (λ p q l i. omega arith) f rest

  -- a step that has no place of its own, and needs what stands before low
  pub step : {B : Type 0} {low : ℕ} {o o' : Outcome B} {g g' : B → Outcome X} → ((b : B) → o ≡ ok b → low < m → o' ≡ ok b) →
      ((b : B) → o ≡ ok b → Tracks strict k m put low (g b) (g' b)) → Tracks strict k m put low (o >>= g) (o' >>= g')
  unfolding ◌>>=◌
  step {o = o} {g = g} {g' = g'} same f =
      record {
        track = λ x h.
            let (b, e, i) = both_ok o g x h in
            let r = (f b e).track x i in
            let r-from = r.from in
            record {
              data_read = r.data_read;
              q = r.q;
              is = r.is;
              from = r.from;
              gives = λ l. gives_equal strict _ (g' b) _ (ap (λ o. o >>= g') (same b e (omega arith))) (r.gives l);
            };
      }

  -- a check whose result is not used
  pub check : {B : Type 0} {low : ℕ} {o o' : Outcome B} {g g' : Outcome X}
      → (strict ≡ true → (b : B) → o ≡ ok b → (b' : B) × (o' ≡ ok b')) → Tracks strict k m put low g g' →
      Tracks strict k m put low (o >>= λ _. g) (o' >>= λ _. g')
  check {o = o} {o' = o'} {g = g} {g' = g'} passes f =
      record {
        track = λ x h.
            let (b, e, i) = both_ok o (λ _. g) x h in
            let r = f.track x i in
            record { data_read = r.data_read; q = r.q; is = r.is; from = r.from; gives = λ l. gives_check strict o' g' _ (λ s. passes s b e) (r.gives l) };
      }

  -- a test inside an argument
  pub chosen : {Z : Type 0} {low : ℕ} (g g' : Z → Outcome X) (c c' : Bool) (x y x' y' : Z) →
      Tracks strict k m put low (if c then g x else g y) (if c' then g' x' else g' y')
      → Tracks strict k m put low (g (if c then x else y)) (g' (if c' then x' else y'))
  chosen g g' true true x y x' y' f = f
  chosen g g' true false x y x' y' f = f
  chosen g g' false true x y x' y' f = f
  chosen g g' false false x y x' y' f = f

module _ {strict : Bool} {k m : ℕ} {A X : Type 0} {put : A → ℕ → X} where
  -- a place that is computed, and a reader from there on
  pub from_place : {low x y : ℕ} (g g' : ℕ → Outcome X) → Tracks strict k m place low (ok x) (ok y) →
      ((at p : ℕ) → At k p at → low ≤ p → Tracks strict k m put p (g at) (g' p)) → Tracks strict k m put low (g x) (g' y)
  unfolding ◌>>=◌
  from_place g g' f rest = and_then g g' f λ a. rest

  pub past_place : {low x y : ℕ} (g g' : ℕ → Outcome X) → Tracks strict k m place low (ok x) (ok y) →
      ((at p : ℕ) → At k p at → low ≤ p → Tracks strict k (suc m) put (suc p) (g at) (g' p)) → Tracks strict k (suc m) put (suc low) (g x) (g' y)
  unfolding ◌>>=◌
  past_place g g' f rest = and_more g g' f λ a. rest

pub past_end : (s : Bytes) {at : ℕ} → length s ≤ at → byte s at ≡ 0
unfolding byte
past_end s l = get_or-eq_default s 0 l

module _ {s t : Bytes} {k n : ℕ} (cut : Cut s t k n) where
  pub same_byte : {at p : ℕ} → At k p at → p < n → byte t p ≡ byte s at
  same_byte {at} {p} e l = cut.inside p l ∙ ap (byte s) (sym e.is)

  pub same : {low m at p : ℕ} (test : ℕ → Bool) → At k p at → (low < m → p < n) → low < m → test (byte t p) ≡ test (byte s at)
  same test e f l = ap test (same_byte e (f l))

  pub fails : {p : ℕ} (test : ℕ → Bool) → test (byte t n) ≡ false → suc p ≡ suc n → test (byte t p) ≡ false
  fails {p} test e l = let at_end : p ≡ n = omega arith in ap (λ p. test (byte t p)) at_end ∙ e
