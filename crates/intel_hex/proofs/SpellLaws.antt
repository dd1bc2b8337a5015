-- Digits that spell bytes, without a place: what the reader finds in a line, and what a line is by what the reader found.
use Rattle.std.specs.Prelude.{if◌then◌else◌}
use Rattle.std.proofs.Common.{◌≡◌, ℕ, zero, suc, ◌+◌, ◌-◌, ◌*◌, ◌/◌, ◌%◌, ◌<◌, ◌≤◌, Bool, true, false, ◌&&◌, eqb, leb, [], ◌∷◌, ◌++◌, length, get_or, take}
use Rattle.std.proofs.Common.{drop, refl, ap, ◌∙◌, subst, arith, length-append, drop_of_length-le, get_or-append-add, le-ltb, lt-ltb, eq-eqb, eqb-true}
use Rattle.std.proofs.Common.{le-leb, leb-false, leb-true}
use Prim.Native.Char.{code}
use native.Mathlib.Decide.{dec_lt}
use borrow.Author.Tests.{lt-leb}
use lib.Seq.{drop-append-add, get_or-append_seam}
use Rattle.spec.specs.Bytes.{Bytes, byte}
use Rattle.spec.specs.Strings.{hex_value}
use Rattle.lexer.proofs.Tests.{between-within, above_within, and_both}
use Rattle.lexer.proofs.ByteLaws.{here}
use Rattle.text.specs.UpperHex.{upper_hex}
use Rattle.intel_hex.specs.Record.{line_feed, carriage_return, digits, digits_of}
use Rattle.intel_hex.specs.Reading.{hex_byte, is_hex_byte, bytes_at, all_hex, ending}
use Rattle.intel_hex.specs.Claims.{Octets, Spells, Ending, lf, crlf, missing}
use Rattle.intel_hex.specs.Claims as Claims
use Rattle.intel_hex.proofs.RecordLaws.{from_here}
use Rattle.intel_hex.proofs.LineLaws.{hex_both, hex_inside, all_first}

-- ---- a byte in front moves every place by one

suc_two : (k : ℕ) → suc k + 2 ≡ suc (k + 2)
suc_two k = omega arith

suc_one : (k : ℕ) → suc k + 1 ≡ suc (k + 1)
suc_one k = omega arith

byte_shift : (x : ℕ) (t : Bytes) (k : ℕ) → (hex_byte (x ∷ t) (suc k) ≡ hex_byte t k) × (is_hex_byte (x ∷ t) (suc k) ≡ is_hex_byte t k)
unfolding hex_byte is_hex_byte byte
byte_shift x t k = (rw (suc_one k), rw (suc_one k))

bytes_shift : (n x : ℕ) (t : Bytes) (k : ℕ) → bytes_at n (x ∷ t) (suc k) ≡ bytes_at n t k
unfolding bytes_at
bytes_shift zero x t k = refl
bytes_shift (suc n) x t k = rw ((byte_shift x t k).0, suc_two k, bytes_shift n x t (k + 2))

all_shift : (n x : ℕ) (t : Bytes) (k : ℕ) → all_hex n (x ∷ t) (suc k) ≡ all_hex n t k
unfolding all_hex
all_shift zero x t k = refl
all_shift (suc n) x t k = rw ((byte_shift x t k).1, suc_two k, all_shift n x t (k + 2))

-- ---- digits that spell bytes are read as those bytes

pub spells_length : {ds r : Bytes} → Spells ds r → length ds ≡ 2 * length r
spells_length Claims.none = refl
spells_length (Claims.more h l s) = omega (arith, spells_length s)

spells_bytes : {ds r : Bytes} → Spells ds r → (post : Bytes) → bytes_at (length r) (ds ++ post) 0 ≡ r
unfolding bytes_at hex_byte byte
spells_bytes Claims.none post = refl
spells_bytes (Claims.more {h} {l} {ds} {r} p q s) post =
    ap (λ u. (hex_value h * 16 + hex_value l) ∷ u)
    (bytes_shift (length r) h (l ∷ (ds ++ post)) 1 ∙ bytes_shift (length r) l (ds ++ post) 0 ∙ spells_bytes s post)

spells_hex : {ds r : Bytes} → Spells ds r → (post : Bytes) → all_hex (length r) (ds ++ post) 0 ≡ true
unfolding all_hex is_hex_byte byte
spells_hex Claims.none post = refl
spells_hex (Claims.more {h} {l} {ds} {r} p q s) post =
    rw (lt-ltb (hex_value h) 16 p, lt-ltb (hex_value l) 16 q)
    (all_shift (length r) h (l ∷ (ds ++ post)) 1 ∙ all_shift (length r) l (ds ++ post) 0 ∙ spells_hex s post)

module _ {ds r : Bytes} (s : Spells ds r) (x : ℕ) (post : Bytes) where
  pub read_bytes : bytes_at (length r) (x ∷ (ds ++ post)) 1 ≡ r
  read_bytes = bytes_shift (length r) x (ds ++ post) 0 ∙ spells_bytes s post

  pub read_hex : all_hex (length r) (x ∷ (ds ++ post)) 1 ≡ true
  read_hex = all_shift (length r) x (ds ++ post) 0 ∙ spells_hex s post

-- the first of them
pub bytes_prefix : (d : Bytes) (c : ℕ) (t : Bytes) (k : ℕ) → bytes_at (length (d ++ c ∷ [])) t k ≡ d ++ c ∷ [] → bytes_at (length d) t k ≡ d
unfolding bytes_at
bytes_prefix [] c t k e = refl
bytes_prefix (x ∷ d) c t k e =
    let first : hex_byte t k ≡ x = cc in
    let others : bytes_at (length (d ++ c ∷ [])) t (k + 2) ≡ d ++ c ∷ [] = cc in
    rw (first, bytes_prefix d c t (k + 2) others)

-- and the last
pub bytes_last : (n : ℕ) (t : Bytes) (k : ℕ) → bytes_at (suc n) t k ≡ bytes_at n t k ++ hex_byte t (k + 2 * n) ∷ []
unfolding bytes_at
bytes_last zero t k = let e : k + 2 * 0 ≡ k = omega arith in rw e
bytes_last (suc n) t k = let e : k + 2 * suc n ≡ k + 2 + 2 * n = omega arith in rw e (ap (λ u. hex_byte t k ∷ u) (bytes_last n t (k + 2)))

-- ---- what is read is spelled by the digits

pub two_here : (t : Bytes) (k : ℕ) → k + 1 < length t → drop k t ≡ byte t k ∷ byte t (k + 1) ∷ drop (k + 2) t
two_here t k h =
    let two : k + 1 + 1 ≡ k + 2 = omega arith in
    from_here t k (omega arith) ∙ ap (λ u. byte t k ∷ u) (from_here t (k + 1) h ∙ ap (λ n. byte t (k + 1) ∷ drop n t) two)

pub spells_read : (n : ℕ) (t : Bytes) (k : ℕ) → all_hex n t k ≡ true → Spells (take (2 * n) (drop k t)) (bytes_at n t k)
unfolding bytes_at hex_byte
spells_read zero t k e = Claims.none
spells_read (suc n) t k e =
    let b = all_first n t k e in
    let d = hex_both t k b.0 in
    let two : 2 * suc n ≡ suc (suc (2 * n)) = omega arith in
    rw (two, two_here t k (hex_inside t (k + 1) d.1)) (Claims.more d.0 d.1 (spells_read n t (k + 2) b.1))

-- a byte that is read is below 256
pub hex_small : (t : Bytes) (k : ℕ) → is_hex_byte t k ≡ true → hex_byte t k < 256
unfolding hex_byte
hex_small t k e = omega (arith, hex_both t k e)

-- ---- upper-case digits

upper-value : (n : ℕ) → n < 16 → hex_value (upper_hex n) ≡ n
unfolding hex_value upper_hex
upper-value n h = go (dec_lt n 10)
  where
    go : Dec (n < 10) → hex_value (upper_hex n) ≡ n
    go (yes l) = rw (lt-ltb n 10 l, between-within (code "0") (code "9") (code "0" + n) (omega arith) (omega arith)) (omega arith)
    go (no l) =
        rw (
          le-ltb n 10 (omega arith),
          above_within (code "0") (code "9") (code "A" + (n - 10)) (omega arith),
          between-within (code "A") (code "F")
              (code "A" + (n - 10)) (omega arith) (omega arith),
        )
        (omega arith)

pub spells_upper : {r : Bytes} → Octets r → Spells (digits_of r) r
unfolding digits_of digits
spells_upper Claims.none = Claims.none
spells_upper (Claims.more {b} {s} h o) =
    let high = upper-value (b / 16) (omega arith) in
    let low = upper-value (b % 16) (omega arith) in
    let whole : hex_value (upper_hex (b / 16)) * 16 + hex_value (upper_hex (b % 16)) ≡ b = omega arith in
    subst (λ x. Spells (upper_hex (b / 16) ∷ upper_hex (b % 16) ∷ digits_of s) (x ∷ s)) whole
    (Claims.more (omega arith) (omega arith) (spells_upper o))

pub octets-append : {s t : Bytes} → Octets s → Octets t → Octets (s ++ t)
octets-append Claims.none q = q
octets-append (Claims.more h p) q = Claims.more h (octets-append p q)

pub octets-take : (n : ℕ) {s : Bytes} → Octets s → Octets (take n s)
octets-take zero o = Claims.none
octets-take (suc n) Claims.none = Claims.none
octets-take (suc n) (Claims.more h o) = Claims.more h (octets-take n o)

pub octets-drop : (n : ℕ) {s : Bytes} → Octets s → Octets (drop n s)
octets-drop zero o = o
octets-drop (suc n) Claims.none = Claims.none
octets-drop (suc n) (Claims.more h o) = octets-drop n o

-- ---- endings

pub record EndingIs (t : Bytes) (k : ℕ) (behind : Bytes) : Type 0 where
  pub there : ending t k < 3
  pub behind_is : drop (k + ending t k) t ≡ behind

pub ending-read : {ended behind : Bytes} → Ending ended behind → (pre : Bytes) → EndingIs (pre ++ ended) (length pre) behind
unfolding ending byte
ending-read {behind = behind} lf pre =
    let long : length pre < length (pre ++ line_feed ∷ behind) = omega (arith, length-append pre (line_feed ∷ behind)) in
    let is : ending (pre ++ line_feed ∷ behind) (length pre) ≡ 1 = rw (lt-leb _ _ long, eq-eqb _ _ (get_or-append_seam pre line_feed behind 0)) in
    record { there = omega arith; behind_is = rw is (drop-append-add pre (line_feed ∷ behind) 1) }
ending-read {behind = behind} crlf pre =
    let t = pre ++ carriage_return ∷ line_feed ∷ behind in
    let long : length pre < length t = omega (arith, length-append pre (carriage_return ∷ line_feed ∷ behind)) in
    let one : get_or t (length pre) 0 ≡ carriage_return = get_or-append_seam pre carriage_return (line_feed ∷ behind) 0 in
    let two : get_or t (length pre + 1) 0 ≡ line_feed = get_or-append-add pre (carriage_return ∷ line_feed ∷ behind) 1 0 in
    let is : ending t (length pre) ≡ 2 = rw (lt-leb _ _ long, one, two) in
    record { there = omega arith; behind_is = rw is (drop-append-add pre (carriage_return ∷ line_feed ∷ behind) 2) }
ending-read missing pre =
    let is : ending (pre ++ []) (length pre) ≡ 0 = rw (le-leb (length (pre ++ [])) (length pre) (omega (arith, length-append pre []))) in
    record { there = omega arith; behind_is = rw is (drop-append-add pre [] 0) }

pub ending_is : (t : Bytes) (k : ℕ) → k ≤ length t → ending t k < 3 → Ending (drop k t) (drop (k + ending t k) t)
unfolding ending
ending_is t k h l =
    go (leb (length t) k) (eqb (byte t k) line_feed) (eqb (byte t k) carriage_return && eqb (byte t (k + 1)) line_feed) refl refl refl l
  where
    go : (a b c : Bool) → leb (length t) k ≡ a → eqb (byte t k) line_feed ≡ b → (eqb (byte t k) carriage_return && eqb (byte t (k + 1)) line_feed) ≡ c →
        (if a then 0 else if b then 1 else if c then 2 else 3) < 3 → Ending (drop k t) (drop (k + (if a then 0 else if b then 1 else if c then 2 else 3)) t)
    go true b c p q r l =
        let z : k + 0 ≡ k = omega arith in
        let none : drop k t ≡ [] = drop_of_length-le t (leb-true (length t) k p) in
        rw (z, none) missing
    go false true c p q r l = rw (from_here t k (leb-false (length t) k p), eqb-true (byte t k) line_feed q) lf
    go false false true p q r l =
        let both = and_both (eqb (byte t k) carriage_return) (eqb (byte t (k + 1)) line_feed) r in
        let two = eqb-true (byte t (k + 1)) line_feed both.1 in
        rw (two_here t k (here t (k + 1) line_feed two (omega arith)), eqb-true (byte t k) carriage_return both.0, two) crlf
    go false false false p q r l = absurd (omega arith)
