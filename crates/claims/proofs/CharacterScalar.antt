-- A string is read as Unicode scalar values.
use Rattle.std.specs.Prelude.{if◌then◌else◌}
use mathlib.Core.Path.{◌≡◌, refl, sym, subst}
use mathlib.Core.Bool.{Bool, true, false}
use Prim.Native.Nat.{ℕ, zero, suc, ◌+◌, ◌-◌, ◌*◌, ◌≤◌, ◌<◌}
use native.Mathlib.Omega.{arith}
use native.Mathlib.Decide.{dec_lt}
use lib.Dec.{eqb, leb}
use lib.ListN.{length}
use borrow.Author.Tests.{leb-true, leb-false, le-leb}
use Rattle.spec.specs.Outcome.{Outcome, ok}
use Rattle.spec.specs.Bytes.{Bytes, Text, byte, byte_in, within}
use Rattle.spec.specs.Strings.{hex_value, hex_in, low_surrogate, after_high, second_limit, unicode_escape, short_escape, escape, tail, multibyte, character}
use Rattle.spec.specs.Strings.{characters, string}
use Rattle.spec.proofs.OutcomeLaws.{refused≢ok, both_ok, first_ok}
use Rattle.spec.proofs.TextLaws.{both_true}
use Rattle.spec.specs.Proper.{ScalarValue, below_surrogates, above_surrogates, ScalarValues, nothing, another}

-- a result by a test, with what the test said
pub if_ok : {A C : Type 0} (test : Bool) {x y : Outcome A} {a : A} → (if test then x else y) ≡ ok a
    → (test ≡ true → x ≡ ok a → C) → (test ≡ false → y ≡ ok a → C) → C
if_ok true h f g = f refl h
if_ok false h f g = g refl h

within_bounds : (low high n : ℕ) → within low high n ≡ true → (low ≤ n) × (n ≤ high)
unfolding within
within_bounds low high n h = let q = both_true (leb low n) (leb n high) h in (leb-true low n q.0, leb-true n high q.1)

outside : (low high n : ℕ) → within low high n ≡ false → low ≤ n → high < n
unfolding within
outside low high n h l = leb-false n high (rw (le-leb low n l) at h)

byte_in_bounds : (s : Bytes) (at low high b : ℕ) → byte_in s at low high ≡ ok b → (low ≤ b) × (b ≤ high)
unfolding byte_in
byte_in_bounds s at low high b h =
    if_ok (within low high (byte s at)) h
    (λ t i. let same : byte s at ≡ b = cc in within_bounds low high b (rw same at t))
    (λ t i. absurd (refused≢ok i))

hex_in_bounds : (s : Bytes) (at low high b : ℕ) → hex_in s at low high ≡ ok b → (low ≤ b) × (b ≤ high)
unfolding hex_in
hex_in_bounds s at low high b h =
    if_ok (within low high (hex_value (byte s at))) h
    (λ t i. let same : hex_value (byte s at) ≡ b = cc in within_bounds low high b (rw same at t))
    (λ t i. absurd (refused≢ok i))

-- Escapes

short_small : (b : ℕ) → short_escape b ≤ 0x7F
unfolding short_escape
short_small b = go (eqb b 34) (eqb b 92) (eqb b 47) (eqb b 98) (eqb b 102) (eqb b 110) (eqb b 114) (eqb b 116)
  where
    go : (a b c d e f g h : Bool) →
        (if a then 34 else if b then 92 else if c then 47 else if d then 8 else if e then 12 else if f then 10 else if g then 13 else if h then 9 else 0) ≤ 0x7F
    go true b c d e f g h = omega arith
    go false true c d e f g h = omega arith
    go false false true d e f g h = omega arith
    go false false false true e f g h = omega arith
    go false false false false true f g h = omega arith
    go false false false false false true g h = omega arith
    go false false false false false false true h = omega arith
    go false false false false false false false true = omega arith
    go false false false false false false false false = omega arith

low_scalar : (s : Bytes) (high at c next : ℕ) → 0xD800 ≤ high → high ≤ 0xDBFF → low_surrogate s high at ≡ ok (c, next) → ScalarValue c
unfolding low_surrogate
low_scalar s high at c next l h e =
    let (a, ea, e1) = both_ok (hex_in s at 0xD 0xD) _ _ e in
    let (b, eb, e2) = both_ok (hex_in s (at + 1) 0xC 0xF) _ _ e1 in
    let (d, ed, e3) = both_ok (hex_in s (at + 2) 0x0 0xF) _ _ e2 in
    let (f, ef, e4) = both_ok (hex_in s (at + 3) 0x0 0xF) _ _ e3 in
    let bb = hex_in_bounds s (at + 1) 0xC 0xF b eb in
    let bd = hex_in_bounds s (at + 2) 0x0 0xF d ed in
    let bf = hex_in_bounds s (at + 3) 0x0 0xF f ef in
    let is = first_ok e4 in
    above_surrogates (omega arith) (omega arith)

after-scalar : (s : Bytes) (high at c next : ℕ) → 0xD800 ≤ high → high ≤ 0xDBFF → after_high s high at ≡ ok (c, next) → ScalarValue c
unfolding after_high
after-scalar s high at c next l h e =
    let (a, ea, e1) = both_ok (byte_in s at 92 92) _ _ e in
    let (b, eb, e2) = both_ok (byte_in s (at + 1) 117 117) _ _ e1 in
    low_scalar s high (at + 2) c next l h e2

-- four digits: the second is at most B after a D
four-scalar : (a b c d : ℕ) → a ≤ 15 → b ≤ second_limit a → b ≤ 15 → c ≤ 15 → d ≤ 15 → within 0xD800 0xDBFF (a * 0x1000 + b * 0x100 + c * 0x10 + d) ≡ false →
    ScalarValue (a * 0x1000 + b * 0x100 + c * 0x10 + d)
unfolding second_limit
four-scalar a b c d la lb lb' lc ld w = go (dec_lt u 0xD800) (dec_lt u 0xE000)
  where
    u : ℕ
    u = a * 0x1000 + b * 0x100 + c * 0x10 + d

    go : Dec (u < 0xD800) → Dec (u < 0xE000) → ScalarValue u
    go (yes l) e = below_surrogates (omega arith)
    go (no l) (yes h) =
        let above = outside 0xD800 0xDBFF u w (omega arith) in
        let first : a ≡ 13 = omega arith in
        let second : b ≤ 11 = rw first at lb in
        absurd (omega arith)
    go (no l) (no h) = above_surrogates (omega arith) (omega arith)

second_small : (a : ℕ) → second_limit a ≤ 15
unfolding second_limit
second_small a = go (eqb a 0xD)
  where
    go : (b : Bool) → (if b then 0xB else 0xF) ≤ 15
    go true = omega arith
    go false = omega arith

unicode_scalar : (s : Bytes) (at c next : ℕ) → unicode_escape s at ≡ ok (c, next) → ScalarValue c
unfolding unicode_escape
unicode_scalar s at c next e =
    let (a, ea, e1) = both_ok (hex_in s at 0x0 0xF) _ _ e in
    let (b, eb, e2) = both_ok (hex_in s (at + 1) 0x0 (second_limit a)) _ _ e1 in
    let (d, ed, e3) = both_ok (hex_in s (at + 2) 0x0 0xF) _ _ e2 in
    let (f, ef, e4) = both_ok (hex_in s (at + 3) 0x0 0xF) _ _ e3 in
    let ba = hex_in_bounds s at 0x0 0xF a ea in
    let bb = hex_in_bounds s (at + 1) 0x0 (second_limit a) b eb in
    let bd = hex_in_bounds s (at + 2) 0x0 0xF d ed in
    let bf = hex_in_bounds s (at + 3) 0x0 0xF f ef in
    let small = second_small a in
    if_ok (within 0xD800 0xDBFF (a * 0x1000 + b * 0x100 + d * 0x10 + f)) e4
    (λ t i. let first = within_bounds 0xD800 0xDBFF (a * 0x1000 + b * 0x100 + d * 0x10 + f) t in after-scalar s _ (at + 4) c next first.0 first.1 i)
    (λ t i. rw (← first_ok i) (four-scalar a b d f ba.1 bb.1 (omega arith) bd.1 bf.1 t))

escape-scalar : (s : Bytes) (at c next : ℕ) → escape s at ≡ ok (c, next) → ScalarValue c
unfolding escape
escape-scalar s at c next h =
    if_ok (eqb (byte s at) 117) h (λ t i. unicode_scalar s (at + 1) c next i) λ t i.
    if_ok (eqb (short_escape (byte s at)) 0) i (λ _ j. absurd (refused≢ok j)) λ _ j.
    rw (← first_ok j) (below_surrogates (omega (arith, short_small (byte s at))))

-- UTF-8: what the bytes after the first come to

record LastByte (low high bits c : ℕ) : Type 0 where
  d : ℕ
  d_low : low ≤ d
  d_high : d ≤ high
  is : c ≡ bits * 64 + (d - 0x80)

tail-one : (s : Bytes) (at low high bits c next : ℕ) → tail 1 s at low high bits ≡ ok (c, next) → LastByte low high bits c
unfolding tail
tail-one s at low high bits c next h =
    let (d, e, i) = both_ok (byte_in s at low high) _ _ h in
    let b = byte_in_bounds s at low high d e in
    record { d = d; d_low = b.0; d_high = b.1; is = sym (first_ok i) }

record ByteThen (more : ℕ → ℕ → Type 0) (low high bits c : ℕ) : Type 0 where
  d : ℕ
  d_low : low ≤ d
  d_high : d ≤ high
  others : more (bits * 64 + (d - 0x80)) c

tail-two : (s : Bytes) (at low high bits c next : ℕ) → tail 2 s at low high bits ≡ ok (c, next) → ByteThen (LastByte 0x80 0xBF) low high bits c
unfolding tail
tail-two s at low high bits c next h =
    let (d, e, i) = both_ok (byte_in s at low high) _ _ h in
    let b = byte_in_bounds s at low high d e in
    record { d = d; d_low = b.0; d_high = b.1; others = tail-one s (at + 1) 0x80 0xBF _ c next i }

tail-three : (s : Bytes) (at low high bits c next : ℕ) → tail 3 s at low high bits ≡ ok (c, next)
    → ByteThen (ByteThen (LastByte 0x80 0xBF) 0x80 0xBF) low high bits c
unfolding tail
tail-three s at low high bits c next h =
    let (d, e, i) = both_ok (byte_in s at low high) _ _ h in
    let b = byte_in_bounds s at low high d e in
    record { d = d; d_low = b.0; d_high = b.1; others = tail-two s (at + 1) 0x80 0xBF _ c next i }

multibyte-scalar : (s : Bytes) (at b c next : ℕ) → multibyte s at b ≡ ok (c, next) → ScalarValue c
unfolding multibyte
multibyte-scalar s at b c next h =
    if_ok (within 0xC2 0xDF b) h (λ t i. let first = within_bounds 0xC2 0xDF b t in
    let rest = tail-one s (at + 1) 0x80 0xBF (b - 0xC0) c next i in below_surrogates (omega arith)) λ _ h.
    if_ok (within 0xE0 0xE0 b) h (λ t i. let first = within_bounds 0xE0 0xE0 b t in
    let rest = tail-two s (at + 1) 0xA0 0xBF (b - 0xE0) c next i in below_surrogates (omega arith)) λ _ h.
    if_ok (within 0xE1 0xEC b) h (λ t i. let first = within_bounds 0xE1 0xEC b t in
    let rest = tail-two s (at + 1) 0x80 0xBF (b - 0xE0) c next i in below_surrogates (omega arith)) λ _ h.
    if_ok (within 0xED 0xED b) h (λ t i. let first = within_bounds 0xED 0xED b t in
    let rest = tail-two s (at + 1) 0x80 0x9F (b - 0xE0) c next i in below_surrogates (omega arith)) λ _ h.
    if_ok (within 0xEE 0xEF b) h (λ t i. let first = within_bounds 0xEE 0xEF b t in
    let rest = tail-two s (at + 1) 0x80 0xBF (b - 0xE0) c next i in above_surrogates (omega arith) (omega arith)) λ _ h.
    if_ok (within 0xF0 0xF0 b) h (λ t i. let first = within_bounds 0xF0 0xF0 b t in
    let rest = tail-three s (at + 1) 0x90 0xBF (b - 0xF0) c next i in above_surrogates (omega arith) (omega arith)) λ _ h.
    if_ok (within 0xF1 0xF3 b) h (λ t i. let first = within_bounds 0xF1 0xF3 b t in
    let rest = tail-three s (at + 1) 0x80 0xBF (b - 0xF0) c next i in above_surrogates (omega arith) (omega arith)) λ _ h.
    if_ok (within 0xF4 0xF4 b) h (λ t i. let first = within_bounds 0xF4 0xF4 b t in
    let rest = tail-three s (at + 1) 0x80 0x8F (b - 0xF0) c next i in above_surrogates (omega arith) (omega arith)) λ _ h.
    absurd (refused≢ok h)

pub character-scalar : (s : Bytes) (at c next : ℕ) → character s at ≡ ok (c, next) → ScalarValue c
unfolding character
character-scalar s at c next h =
    if_ok (eqb (byte s at) 92) h (λ t i. escape-scalar s (at + 1) c next i) λ t i.
    if_ok (within 0x20 0x7F (byte s at)) i
    (λ u j. let first = within_bounds 0x20 0x7F (byte s at) u in rw (← first_ok j) (below_surrogates (omega arith)))
    (λ u j. multibyte-scalar s at (byte s at) c next j)

characters-scalar : (fuel : ℕ) (s : Bytes) (at : ℕ) (cs : Text) (next : ℕ) → characters fuel s at ≡ ok (cs, next) → ScalarValues cs
unfolding characters
characters-scalar zero s at cs end h = absurd (refused≢ok h)
characters-scalar (suc fuel) s at cs end h =
    if_ok (eqb (byte s at) 34) h (λ t i. subst ScalarValues (first_ok i) nothing) λ t i.
    let (c-next, e, j) = both_ok (character s at) _ _ i in
    let (cs-next, f, k) = both_ok (characters fuel s c-next.1) _ _ j in
    subst ScalarValues (first_ok k)
    (another (character-scalar s at c-next.0 c-next.1 e) (characters-scalar fuel s c-next.1 cs-next.0 cs-next.1 f))

pub string-scalar : (s : Bytes) (at : ℕ) (cs : Text) (next : ℕ) → string s at ≡ ok (cs, next) → ScalarValues cs
unfolding string
string-scalar s at cs next h =
    let (b, e, i) = both_ok (byte_in s at 34 34) _ _ h in
    characters-scalar (length s) s (at + 1) cs next i
