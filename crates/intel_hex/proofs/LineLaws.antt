-- Laws of a line: digits, its ending, and where it lies in the text.
use Rattle.std.specs.Prelude.{if◌then◌else◌, Option, Some, None, SomeIff, IsSome}
use Rattle.std.proofs.Common.{◌≡◌, ℕ, zero, suc, ◌+◌, ◌-◌, ◌*◌, ◌%◌, ◌<◌, ◌≤◌, Bool, true, false, ◌&&◌, eqb, ltb, leb, length, sym, refl, ap, ◌∙◌, arith}
use Rattle.std.proofs.Common.{ltb-true, le-ltb, lt-ltb, eq-eqb, eqb-true, le-leb, leb-false, ne_eqb, subst, get_or, take, drop, take_all, length-drop, get_or-drop}
use Rattle.std.proofs.Math.ListN.{get_or-eq_default}
use Prim.Native.Char.{code}
use mathlib.Core.Bool.{and-false}
use borrow.Author.Tests.{lt-leb}
use native.Mathlib.Nat.{mod-add-mod}
use Rattle.spec.specs.Bytes.{Bytes, byte, within}
use Rattle.spec.specs.Strings.{hex_value}
use Rattle.lexer.proofs.ByteLaws.{inside, here}
use Rattle.lexer.proofs.Tests.{and_both}
use Rattle.intel_hex.specs.Record.{total, line_feed, carriage_return}
use Rattle.intel_hex.specs.Reading.{hex_byte, is_hex_byte, bytes_at, all_hex, count, address_of, type_of, bytes_of, record_end, ending, line_length}
use Rattle.intel_hex.specs.Reading.{is_line}
use Rattle.intel_hex.specs.Steps.{FieldsAre, RecordIs, EndingIs}
use Rattle.intel_hex.specs.declared.lines.Record.{Record}

pub not_so : (b : Bool) → (b ≡ true → ⊥) → b ≡ false
not_so true h = absurd (h refl)
not_so false h = refl

-- ---- digits stand within the text

pub hex_inside : (t : Bytes) (k : ℕ) → hex_value (byte t k) < 16 → k < length t
unfolding hex_value within
hex_inside t k h = inside (λ b. ltb (hex_value b) 16) refl t k (lt-ltb (hex_value (byte t k)) 16 h)

pub hex_both : (t : Bytes) (k : ℕ) → is_hex_byte t k ≡ true → (hex_value (byte t k) < 16) × (hex_value (byte t (k + 1)) < 16)
unfolding is_hex_byte
hex_both t k e = let b = and_both _ _ e in (ltb-true _ _ b.0, ltb-true _ _ b.1)

pub both_hex : (t : Bytes) (k : ℕ) → hex_value (byte t k) < 16 → hex_value (byte t (k + 1)) < 16 → is_hex_byte t k ≡ true
unfolding is_hex_byte
both_hex t k h l = rw (lt-ltb (hex_value (byte t k)) 16 h, lt-ltb (hex_value (byte t (k + 1))) 16 l)

pub bad_high : (t : Bytes) (k : ℕ) → 15 < hex_value (byte t k) → is_hex_byte t k ≡ false
unfolding is_hex_byte
bad_high t k h = rw (le-ltb (hex_value (byte t k)) 16 h)

pub bad_low : (t : Bytes) (k : ℕ) → 15 < hex_value (byte t (k + 1)) → is_hex_byte t k ≡ false
unfolding is_hex_byte
bad_low t k h = rw (le-ltb (hex_value (byte t (k + 1))) 16 h, and-false)

-- the first byte, and the others
pub all_first : (n : ℕ) (t : Bytes) (k : ℕ) → all_hex (suc n) t k ≡ true → (is_hex_byte t k ≡ true) × (all_hex n t (k + 2) ≡ true)
unfolding all_hex
all_first n t k e = and_both (is_hex_byte t k) (all_hex n t (k + 2)) e

pub all_room : (n : ℕ) (t : Bytes) (k : ℕ) → all_hex (suc n) t k ≡ true → k + 2 * suc n ≤ length t
all_room zero t k e = let h = hex_both t k (all_first zero t k e).0 in omega (arith, hex_inside t (k + 1) h.1)
all_room (suc n) t k e = omega (arith, all_room n t (k + 2) (all_first (suc n) t k e).1)

-- ---- a line that is a record of some type

pub record Parts (t : Bytes) : Type 0 where
  pub colon : byte t 0 ≡ code ":"
  pub hex : all_hex (count t + 5) t 1 ≡ true
  pub ended : ending t (record_end t) < 3

pub parts : (t : Bytes) → is_line t ≡ true → Parts t
unfolding is_line
parts t e =
    let a = and_both _ _ e in
    let b = and_both _ _ a.1 in
    record { colon = eqb-true _ _ a.0; hex = b.0; ended = ltb-true _ _ b.1 }

pub line_is : (t : Bytes) → byte t 0 ≡ code ":" → all_hex (count t + 5) t 1 ≡ true → ending t (record_end t) < 3 → is_line t ≡ true
unfolding is_line
line_is t c h e = rw (eq-eqb _ _ c, h, lt-ltb _ _ e)

pub line-room : (t : Bytes) → is_line t ≡ true → 2 * count t + 11 ≤ length t
line-room t e =
    let five : count t + 5 ≡ suc (count t + 4) = omega arith in
    omega (arith, all_room (count t + 4) t 1 (rw five at (parts t e).hex))

-- ---- the ending

pub ending-room : (t : Bytes) (k : ℕ) → k ≤ length t → ending t k < 3 → k + ending t k ≤ length t
unfolding ending
ending-room t k h l =
    go (leb (length t) k) (eqb (byte t k) line_feed) (eqb (byte t k) carriage_return && eqb (byte t (k + 1)) line_feed) refl refl refl l
  where
    go : (a b c : Bool) → leb (length t) k ≡ a → eqb (byte t k) line_feed ≡ b → (eqb (byte t k) carriage_return && eqb (byte t (k + 1)) line_feed) ≡ c →
        (if a then 0 else if b then 1 else if c then 2 else 3) < 3 → k + (if a then 0 else if b then 1 else if c then 2 else 3) ≤ length t
    go true b c p q r l = omega arith
    go false true c p q r l = omega (arith, leb-false (length t) k p)
    go false false true p q r l = omega (
      arith,
      here t (k + 1) line_feed (eqb-true (byte t (k + 1)) line_feed (and_both (eqb (byte t k) carriage_return)
          (eqb (byte t (k + 1)) line_feed) r).1) (omega arith),
    )
    go false false false p q r l = absurd (omega arith)

pub line-within : (t : Bytes) → is_line t ≡ true → (11 ≤ line_length t) × (line_length t ≤ length t)
unfolding line_length record_end
line-within t e =
    let room = line-room t e in
    let p : ending t (2 * count t + 11) < 3 = (parts t e).ended in
    (omega arith, ending-room t (2 * count t + 11) room p)

-- no byte stands behind the end
pub past_end : (t : Bytes) (k : ℕ) → length t ≤ k → byte t k ≡ 0
unfolding byte
past_end t k h = get_or-eq_default t 0 h

-- ---- the same, seen in what is left of the text

module _ (t : Bytes) (k : ℕ) where
  pub lent_length : length (take (length t - k) (drop k t)) ≡ length t - k
  lent_length = ap length (take_all (length t - k) (drop k t) (omega (arith, length-drop k t))) ∙ omega (arith, length-drop k t)

  pub lent_at : (i : ℕ) → k + i < length t → get_or (take (length t - k) (drop k t)) i 0 ≡ byte t (k + i)
  unfolding byte
  lent_at i h = rw (take_all (length t - k) (drop k t) (omega (arith, length-drop k t))) (get_or-drop k t i 0)

  pub lent_first : k < length t → get_or (take (length t - k) (drop k t)) 0 0 ≡ byte t k
  lent_first h = let same : k + 0 ≡ k = omega arith in lent_at 0 (omega arith) ∙ ap (byte t) same

  pub no_bytes_left : length t ≤ k → EndingIs t k (Some 0)
  unfolding ending
  no_bytes_left h = let e : ending t k ≡ 0 = rw (le-leb (length t) k h) in (omega arith, sym e)

  module _ (h : k < length t) where
    pub feed_ends : byte t k ≡ line_feed → EndingIs t k (Some 1)
    unfolding ending
    feed_ends b =
        let e : ending t k ≡ 1 = rw (lt-leb (length t) k h, eq-eqb (byte t k) line_feed b) in (omega arith, sym e)

    pub return_ends : byte t k ≡ carriage_return → byte t (k + 1) ≡ line_feed → EndingIs t k (Some 2)
    unfolding ending
    return_ends b d =
        let n : byte t k ≡ line_feed → ⊥ = λ e. omega arith in
        let e : ending t k ≡ 2 = rw (
          lt-leb (length t) k h,
          ne_eqb (byte t k) line_feed n,
          eq-eqb (byte t k) carriage_return b,
          eq-eqb (byte t (k + 1)) line_feed d,
        ) in
        (omega arith, sym e)

    pub nothing_ends : (byte t k ≡ line_feed → ⊥) → (byte t k ≡ carriage_return → byte t (k + 1) ≡ line_feed → ⊥) → EndingIs t k None
    unfolding ending
    nothing_ends n m =
        let no : (eqb (byte t k) carriage_return && eqb (byte t (k + 1)) line_feed) ≡ false =
        not_so (eqb (byte t k) carriage_return && eqb (byte t (k + 1)) line_feed) (λ e. let b = and_both (eqb (byte t k) carriage_return) (eqb (byte t
        (k + 1)) line_feed) e in m (eqb-true (byte t k) carriage_return b.0) (eqb-true (byte t (k + 1)) line_feed b.1)) in
        let e : ending t k ≡ 3 = rw (lt-leb (length t) k h, ne_eqb (byte t k) line_feed n, no) in λ l. omega arith

-- ---- lines that are no records

no_line : (t : Bytes) → (is_line t ≡ true → ⊥) → RecordIs t None
unfolding RecordIs
no_line t h = not_so (is_line t) h

-- one of the first digits
pub all_at : (n : ℕ) (t : Bytes) (k i : ℕ) → all_hex n t k ≡ true → i < n → is_hex_byte t (k + 2 * i) ≡ true
all_at zero t k i e h = absurd (omega arith)
all_at (suc n) t k zero e h = let z : k + 2 * 0 ≡ k = omega arith in rw z (all_first n t k e).0
all_at (suc n) t k (suc i) e h =
    let z : k + 2 * suc i ≡ k + 2 + 2 * i = omega arith in
    rw z (all_at n t (k + 2) i (all_first n t k e).1 (omega arith))

pub too_short : (t : Bytes) → length t < 2 * count t + 11 → RecordIs t None
too_short t h = no_line t (λ e. omega (arith, line-room t e))

pub no_colon : (t : Bytes) → (byte t 0 ≡ code ":" → ⊥) → RecordIs t None
no_colon t n = no_line t (λ e. n (parts t e).colon)

pub width_is : (t : Bytes) {n end : ℕ} → n ≡ count t → end ≡ ending t (2 * n + 11) → 2 * n + 11 + end ≡ line_length t
unfolding record_end line_length
width_is t {n} {end} c e = ap (λ e. 2 * n + 11 + e) e ∙ ap (λ n. 2 * n + 11 + ending t (2 * n + 11)) c

module _ (t : Bytes) {n : ℕ} (c : n ≡ hex_byte t 1) where
  pub no_ending : (ending t (2 * n + 11) < 3 → ⊥) → RecordIs t None
  unfolding count record_end
  no_ending h = no_line t (λ e. h (subst (λ n. ending t (2 * n + 11) < 3) (sym c) (parts t e).ended))

  pub no_scan : (all_hex (n + 5) t 1 ≡ true → ⊥) → RecordIs t None
  unfolding count
  no_scan h = no_line t (λ e. h (subst (λ n. all_hex (n + 5) t 1 ≡ true) (sym c) (parts t e).hex))

  pub fields_are : {r : Record} {end : ℕ} → r.count ≡ n → byte t 0 ≡ code ":" → ending t (2 * n + 11) < 3 → end ≡ ending t (2 * n + 11) →
      all_hex (n + 5) t 1 ≡ true → r.sum ≡ total (bytes_at (n + 5) t 1) % 256 → r.address ≡ address_of t → r.kind ≡ type_of t →
      r.width ≡ 2 * n + 11 + end → FieldsAre t r
  unfolding count record_end bytes_of
  fields_are {r} k colon short e hex sum address kind width = record {
    line = line_is t colon (rw (← c) hex) (rw (← c) short);
    count_is = k ∙ c;
    address_is = address;
    kind_is = kind;
    sum_is = sum ∙ ap (λ n. total (bytes_at (n + 5) t 1) % 256) c;
    width_is = width ∙ width_is t c e;
  }

pub no_hex : (t : Bytes) (i : ℕ) → i < 5 → (is_hex_byte t (1 + 2 * i) ≡ true → ⊥) → RecordIs t None
no_hex t i h n = no_line t (λ e. n (all_at (count t + 5) t 1 i (parts t e).hex (omega arith)))

-- ---- bytes in digits, one after another: those so far are digits, and the sum is theirs

pub record Scanning (n : ℕ) (t : Bytes) (k sum i : ℕ) : Type 0 where
  pub left : ℕ
  pub count_is : n ≡ i + left
  pub small : sum < 256
  pub hex : all_hex n t k ≡ all_hex left t (k + 2 * i)
  pub sums : total (bytes_at n t k) % 256 ≡ (sum + total (bytes_at left t (k + 2 * i))) % 256

pub scanning_starts : (n : ℕ) (t : Bytes) (k : ℕ) → Scanning n t k 0 0
scanning_starts n t k =
    let here : k + 2 * 0 ≡ k = omega arith in
    record { left = n; count_is = omega arith; small = omega arith; hex = rw here refl; sums = rw here (omega arith) }

module _ {n : ℕ} {t : Bytes} {k sum i : ℕ} (s : Scanning n t k sum i) where
  pub scanning_bad : i < n → (is_hex_byte t (k + 2 * i) ≡ true → ⊥) → all_hex n t k ≡ true → ⊥
  scanning_bad h e all = e (all_at n t k i all h)

  pub scanning_on : {b new : ℕ} → i < n → is_hex_byte t (k + 2 * i) ≡ true → b ≡ hex_byte t (k + 2 * i) → new ≡ (sum + b) % 256 →
      Scanning n t k new (i + 1)
  unfolding all_hex bytes_at total
  scanning_on {b} {new} h e x w = go s.left s.count_is s.hex s.sums
    where
      go : (left : ℕ) → n ≡ i + left → all_hex n t k ≡ all_hex left t (k + 2 * i) →
          total (bytes_at n t k) % 256 ≡ (sum + total (bytes_at left t (k + 2 * i))) % 256 → Scanning n t k new (i + 1)
      go zero c p q = absurd (omega arith)
      go (suc m) c p q =
          let next : k + 2 * i + 2 ≡ k + 2 * (i + 1) = omega arith in
          let behind = total (bytes_at m t (k + 2 * i + 2)) in
          let here : sum + (hex_byte t (k + 2 * i) + behind) ≡ sum + b + behind = omega arith in
          let sums : total (bytes_at n t k) % 256 ≡ (new + behind) % 256 =
          q ∙ ap (λ x. x % 256) here ∙ sym (mod-add-mod (sum + b) 256 behind) ∙ ap (λ x. (x + behind) % 256) (sym w) in
          record {
            left = m;
            count_is = omega arith;
            small = omega arith;
            hex = p ∙ rw e (ap (all_hex m t) next);
            sums = sums ∙ ap (λ j. (new + total (bytes_at m t j)) % 256) next;
          }

  pub scanning_ends : n ≤ i → (all_hex n t k ≡ true) × (sum ≡ total (bytes_at n t k) % 256)
  unfolding all_hex bytes_at total
  scanning_ends h = go s.left s.count_is s.hex s.sums s.small
    where
      go : (left : ℕ) → n ≡ i + left → all_hex n t k ≡ all_hex left t (k + 2 * i) →
          total (bytes_at n t k) % 256 ≡ (sum + total (bytes_at left t (k + 2 * i))) % 256 → sum < 256 →
          (all_hex n t k ≡ true) × (sum ≡ total (bytes_at n t k) % 256)
      go zero c p q small = (p, omega arith)
      go (suc m) c p q small = absurd (omega arith)

-- ---- an answer that is there exactly when a fact holds

pub told_some : {P : Type 0} (v : ℕ) (r : Option ℕ) → SomeIff r P v → P → IsSome r
told_some v None h p = absurd (h p)
told_some v (Some x) h p = refl
