-- The claims of specs/Claims, proved.
use Rattle.std.specs.Prelude.{if◌then◌else◌}
use Prim.Native.Nat.{ℕ, suc, ◌+◌, ◌-◌, ◌*◌, ◌/◌, ◌%◌, ◌≤◌, ◌<◌}
use Prim.Native.Char.{code}
use mathlib.Core.Path.{◌≡◌, refl, sym, ap, subst, ◌∙◌}
use mathlib.Core.Bool.{Bool, true, false, true≢false, or_assoc}
use mathlib.Core.List.{[], ◌∷◌, ◌++◌}
use native.Mathlib.Omega.{arith}
use native.Mathlib.Decide.{dec_lt, ℕ_discrete}
use borrow.Author.Tests.{ne_eqb, eqb-true, lt-ltb, le-ltb}
use lib.ListN.{length}
use lib.Dec.{leb, ltb, eqb}
use Rattle.spec.specs.Outcome.{Outcome, ok, refused, ◌>>=◌}
use Rattle.spec.specs.Limits.{max_bytes}
use Rattle.spec.specs.Bytes.{Bytes, ascii, within}
use Rattle.spec.specs.Numbers.{is_digit}
use Rattle.spec.specs.Strings.{hex_value}
use Rattle.lexer.proofs.Tests.{between-within, above_within}
use Rattle.fragment.specs.Kept.{is_kept, is_pchar, is_sub_delim, is_unreserved, is_alpha, one_of}
use Rattle.text.specs.UpperHex.{upper_hex}
use Rattle.fragment.specs.Link.{bad_link, encoded, encode_all, link, Pending, nothing, percent, digit, is_hex, precede, octets, octets_of}
use Rattle.fragment.specs.Link.{is_utf8, is_pointer}
use Rattle.fragment.specs.Answer as Spec
use Rattle.fragment.specs.Answer.{fitting, write_answer, octets_answer, read_answer}
use Rattle.fragment.specs.Claims as Claims
use Rattle.fragment.specs.Claims.{KeptSet, RoundTrip, Written, raw, percents, Spells, OnlyPercents, LinkOf, NamesPointer, AllAccepted, DifferInPercents}
use Rattle.fragment.specs.Scan.{awaiting, between, broken, lowest, highest, first_byte, next_byte, awaited, syntax, may_end, judge, verdict}
use Rattle.fragment.specs.declared.scan.Awaited.{Awaited}
use Rattle.fragment.specs.declared.scan.Syntax.{Syntax}
use Rattle.std.specs.Prelude.{Result, Ok, Err}
use Rattle.fragment.specs.declared.scan.NotPointer.{NotPointer}
use Rattle.fragment.proofs.ByteLaws.{first_above, next_first, next_outside}
use Rattle.fragment.proofs.ScanLaws.{broken_stays, judged}
use Rattle.fragment.proofs.CallLaws.{no_text-no_pointer, fitting_whole, not_too_long}

-- ---- the kept set

pub kept_set : KeptSet
unfolding is_kept is_pchar is_sub_delim is_unreserved one_of ascii
kept_set b = simp or_assoc

-- a percent sign is not in it
no_percent : (b : ℕ) → is_kept b ≡ true → b ≡ code "%" → ⊥
unfolding is_kept is_pchar is_sub_delim is_unreserved is_alpha is_digit within one_of ascii
no_percent b k e = true≢false (sym k ∙ ap is_kept e)

-- ---- a fragment that spells octets is read as them

precede_is : (b : ℕ) {o : Outcome Bytes} {t : Bytes} → o ≡ ok t → precede b o ≡ ok (b ∷ t)
unfolding precede ◌>>=◌
precede_is b e = rw e

read-written : {b : ℕ} {x : Bytes} → Written b x → (s : Bytes) → octets nothing (x ++ s) ≡ precede b (octets nothing s)
unfolding octets
read-written (raw {b} k) s = rw (ne_eqb b (code "%") (no_percent b k), k)
read-written (percents {h} {l} p q) s = rw (p, q)

read-spelled : {s t : Bytes} → Spells s t → octets nothing s ≡ ok t
unfolding octets
read-spelled Claims.none = refl
read-spelled (Claims.more {b} {x} {s} {t} w r) = read-written w s ∙ precede_is b (read-spelled r)

-- ---- and what is read as octets spells them

data Rest : Pending → Bytes → Bytes → Type 0 where
  whole : {s t : Bytes} → Spells s t → Rest nothing s t
  first : {h : ℕ} {s t : Bytes} → is_hex h ≡ true → Rest (digit (hex_value h)) s t → Rest percent (h ∷ s) t
  second : {n l : ℕ} {s t : Bytes} → is_hex l ≡ true → Spells s t → Rest (digit n) (l ∷ s) ((n * 16 + hex_value l) ∷ t)

spells_of : {s t : Bytes} → Rest nothing s t → Spells s t
spells_of (whole r) = r

with_percent : {s t : Bytes} → Rest percent s t → Spells (code "%" ∷ s) t
with_percent (first p r) = go p r
  where
    go : {h : ℕ} {s t : Bytes} → is_hex h ≡ true → Rest (digit (hex_value h)) s t → Spells (code "%" ∷ h ∷ s) t
    go p (second q r) = Claims.more (percents p q) r

refused_ok : {A : Type 0} {number place : ℕ} {a : A} → refused number place ≡ ok a → ⊥
refused_ok e = let z : ◌≡◌ {A = ℕ} 0 1 = cc in omega arith

preceded : (b : ℕ) (o : Outcome Bytes) (t : Bytes) → precede b o ≡ ok t → (r : Bytes) × (o ≡ ok r) × (b ∷ r ≡ t)
unfolding precede ◌>>=◌
preceded b (ok r) t e = (r, refl, cc)
preceded b (refused number place) t e = absurd (refused_ok e)

rest_read : (q : Pending) (s t : Bytes) → octets q s ≡ ok t → Rest q s t
unfolding octets
rest_read nothing [] t e = let n : [] ≡ t = cc in subst (λ t. Rest nothing [] t) n (whole Claims.none)
rest_read percent [] t e = absurd (refused_ok e)
rest_read (digit h) [] t e = absurd (refused_ok e)
rest_read nothing (b ∷ s) t e = go (eqb b (code "%")) (is_kept b) refl refl e (rest_read percent s t) (rest_read nothing s)
  where
    go : (p k : Bool) → eqb b (code "%") ≡ p → is_kept b ≡ k →
        (if p then octets percent s else if k then precede b (octets nothing s) else refused bad_link 0) ≡ ok t →
        (octets percent s ≡ ok t → Rest percent s t) → ((r : Bytes) → octets nothing s ≡ ok r → Rest nothing s r) → Rest nothing (b ∷ s) t
    go true k p q e f g = subst (λ b. Rest nothing (b ∷ s) t) (sym (eqb-true b (code "%") p)) (whole (with_percent (f e)))
    go false true p q e f g =
        let r = preceded b (octets nothing s) t e in
        subst (λ t. Rest nothing (b ∷ s) t) r.2 (whole (Claims.more (raw q) (spells_of (g r.0 r.1))))
    go false false p q e f g = absurd (refused_ok e)
rest_read percent (b ∷ s) t e = go (is_hex b) refl e (rest_read (digit (hex_value b)) s t)
  where
    go : (k : Bool) → is_hex b ≡ k → (if k then octets (digit (hex_value b)) s else refused bad_link 0) ≡ ok t →
        (octets (digit (hex_value b)) s ≡ ok t → Rest (digit (hex_value b)) s t) →
        Rest percent (b ∷ s) t
    go true k e f = first k (f e)
    go false k e f = absurd (refused_ok e)
rest_read (digit h) (b ∷ s) t e = go (is_hex b) refl e (rest_read nothing s)
  where
    go : (k : Bool) → is_hex b ≡ k → (if k then precede (h * 16 + hex_value b) (octets nothing s) else refused bad_link 0) ≡ ok t →
        ((r : Bytes) → octets nothing s ≡ ok r → Rest nothing s r) → Rest (digit h) (b ∷ s) t
    go true k e f =
        let r = preceded (h * 16 + hex_value b) (octets nothing s) t e in
        subst (λ t. Rest (digit h) (b ∷ s) t) r.2 (second k (spells_of (f r.0 r.1)))
    go false k e f = absurd (refused_ok e)

-- ---- links

link-read : (text pointer : Bytes) → LinkOf text pointer → octets_of text ≡ ok pointer
unfolding octets_of
link-read text pointer l = ap octets_of l.begins ∙ read-spelled l.spells

read-link : (text pointer : Bytes) → octets_of text ≡ ok pointer → LinkOf text pointer
unfolding octets_of
read-link [] pointer e = absurd (refused_ok e)
read-link (b ∷ s) pointer e = go (eqb b (code "#")) refl e
  where
    go : (k : Bool) → eqb b (code "#") ≡ k → (if k then octets nothing s else refused bad_link 0) ≡ ok pointer → LinkOf (b ∷ s) pointer
    go true k e = record { fragment = s; begins = ap (λ b. b ∷ s) (eqb-true b (code "#") k); spells = spells_of (rest_read nothing s pointer e) }
    go false k e = absurd (refused_ok e)

-- ---- accepted links

pointer_utf8 : (s : Bytes) → is_pointer s ≡ true → is_utf8 s ≡ true
pointer_utf8 s p = go (is_utf8 s) refl
  where
    go : (u : Bool) → is_utf8 s ≡ u → is_utf8 s ≡ true
    go true e = e
    go false e = absurd (true≢false (sym p ∙ no_text-no_pointer s e))

pub all_accepted : AllAccepted
unfolding octets_answer
all_accepted text pointer room p l short fits =
    not_too_long text room short ∙ ap (λ o. octets_answer o room) (link-read text pointer l) ∙ rw (pointer_utf8 pointer p, p) (fitting_whole room pointer fits)

-- no refusal is a success
success-number : {n : ℕ} {t : Bytes} → Spec.refusal (suc n) ≡ Spec.success t → ⊥
success-number e = let z : _ = ap (λ a. a.number) e in omega arith

fitted : (room : ℕ) (t p : Bytes) → fitting room t ≡ Spec.success p → t ≡ p
unfolding fitting
fitted room t p e = go (leb (length t) room) e
  where
    go : (k : Bool) → (if k then Spec.success t else Spec.refusal 16) ≡ Spec.success p → t ≡ p
    go true e = ap (λ a. a.written) e
    go false e = absurd (success-number e)

answered : (o : Outcome Bytes) (room : ℕ) (p : Bytes) → octets_answer o room ≡ Spec.success p → (o ≡ ok p) × (is_pointer p ≡ true)
unfolding octets_answer
answered (refused number place) room p e = absurd (success-number e)
answered (ok t) room p e = go (is_utf8 t) (is_pointer t) refl e
  where
    go : (u k : Bool) → is_pointer t ≡ k → (if u then (if k then fitting room t else Spec.refusal 10) else Spec.refusal bad_link) ≡ Spec.success p →
        (ok t ≡ ok p) × (is_pointer p ≡ true)
    go true true q e = let f = fitted room t p e in (ap ok f, rw f at q)
    go true false q e = absurd (success-number e)
    go false k q e = absurd (success-number e)

read-answered : (text p : Bytes) (room : ℕ) → read_answer text room ≡ Spec.success p → (octets_of text ≡ ok p) × (is_pointer p ≡ true)
unfolding read_answer
read-answered text p room e = go (leb (length text) max_bytes) e
  where
    go : (k : Bool) → (if k then octets_answer (octets_of text) room else Spec.refusal 2) ≡ Spec.success p → (octets_of text ≡ ok p) × (is_pointer p ≡ true)
    go true e = answered (octets_of text) room p e
    go false e = absurd (success-number e)

pub names_pointer : NamesPointer
names_pointer text pointer room e = let r = read-answered text pointer room e in (r.1, read-link text pointer r.0)

-- ---- two links of one pointer

alike : {s t p : Bytes} → Spells s p → Spells t p → OnlyPercents s t
alike Claims.none Claims.none = OnlyPercents.none
alike (Claims.more w r) (Claims.more v q) = OnlyPercents.more w v (alike r q)

pub differ_in_percents : DifferInPercents
unfolding octets_of
differ_in_percents s t pointer room room' e f =
    let p = read-answered (code "#" ∷ s) pointer room e in
    let q = read-answered (code "#" ∷ t) pointer room' f in
    alike (spells_of (rest_read nothing s pointer p.0)) (spells_of (rest_read nothing t pointer q.0))

-- ---- what is written is read back

-- bytes
data Small : Bytes → Type 0 where
  none : Small []
  more : {b : ℕ} {s : Bytes} → b < 256 → Small s → Small (b ∷ s)

-- a pointer has no others, since it is UTF-8
record High (a : Awaited) : Type 0 where
  most : a.high ≤ 0xFF

either : (t : Bool) {x y : Awaited} → High x → High y → High (if t then x else y)
either true h i = h
either false h i = i

high_is : (n low top : ℕ) → top ≤ 0xFF → High (awaiting n low top)
high_is n low top h = record { most = h }

highest_small : (b : ℕ) → highest b ≤ 0xFF
unfolding highest
highest_small b = go (eqb b 0xED) (eqb b 0xF4)
  where
    go : (t u : Bool) → (if t then 0x9F else if u then 0x8F else 0xBF) ≤ 0xFF
    go true u = omega arith
    go false true = omega arith
    go false false = omega arith

first_high : (b : ℕ) → High (first_byte b)
unfolding first_byte
first_high b =
    either (ltb b 0x80) (high_is 0 0x80 0xBF (omega arith))
    (either (ltb b 0xC2) (high_is 1 1 0 (omega arith))
    (either (ltb b 0xE0) (high_is 1 0x80 0xBF (omega arith))
    (either (ltb b 0xF0) (high_is 2 (lowest b) (highest b) (highest_small b))
    (either (ltb b 0xF5) (high_is 3 (lowest b) (highest b) (highest_small b)) (high_is 1 1 0 (omega arith))))))

next_high : (a : Awaited) (b : ℕ) → High (next_byte a b)
unfolding next_byte
next_high a b =
    either (eqb a.more 0) (first_high b)
    (either (within a.low a.high b) (high_is (a.more - 1) 0x80 0xBF (omega arith)) (high_is 1 1 0 (omega arith)))

no_byte : (a : Awaited) (b : ℕ) → High a → 256 ≤ b → next_byte a b ≡ broken
no_byte a b h l = go (ℕ_discrete a.more 0)
  where
    go : Dec (a.more ≡ 0) → next_byte a b ≡ broken
    go (yes e) = next_first a b e ∙ first_above b (omega arith)
    go (no n) = next_outside a b n (above_within a.low a.high b (omega (arith, h.most)))

small_from : (s : Bytes) (a : Awaited) → High a → (awaited a s).more ≡ 0 → Small s
unfolding awaited
small_from [] a h e = none
small_from (b ∷ s) a h e = go (dec_lt b 256) (small_from s (next_byte a b) (next_high a b) e)
  where
    go : Dec (b < 256) → Small s → Small (b ∷ s)
    go (yes l) r = more l r
    go (no l) r =
        let f : awaited (next_byte a b) s ≡ broken = ap (λ a. awaited a s) (no_byte a b h (omega arith)) ∙ broken_stays s in
        let z : ◌≡◌ {A = ℕ} 1 0 = sym (ap (λ a. a.more) f) ∙ e in absurd (omega arith)

judge_pointer : (a : Awaited) (y : Syntax) → judge a y ≡ Ok tt → a.more ≡ 0
unfolding judge
judge_pointer a y e = go (eqb a.more 0) refl e
  where
    go : (t : Bool) → eqb a.more 0 ≡ t → ◌≡◌ {A = Result (Unit {0}) NotPointer} (if t then (if may_end y then Ok tt else Err NotPointer.Malformed) else Err NotPointer.NotUtf8) (Ok tt) →
        a.more ≡ 0
    go true t e = eqb-true a.more 0 t
    go false t e = let z : ◌≡◌ {A = ℕ} 0 1 = cc in absurd (omega arith)

small : (p : Bytes) → is_pointer p ≡ true → Small p
unfolding verdict
small p h =
    let right : verdict p ≡ Ok tt = rw (pointer_utf8 p h, h) in
    small_from p between (high_is 0 0x80 0xBF (omega arith)) (judge_pointer (awaited between p) (syntax Syntax.Start p) (judged p ∙ right))

-- the digits that are written are read
digit-read : (n : ℕ) → n < 16 → hex_value (upper_hex n) ≡ n
unfolding hex_value upper_hex
digit-read n h = go (dec_lt n 10)
  where
    go : Dec (n < 10) → hex_value (upper_hex n) ≡ n
    go (yes l) =
        let e : 48 + n - 48 ≡ n = omega arith in
        rw (lt-ltb n 10 l, between-within 48 57 (48 + n) (omega arith) (omega arith), e)
    go (no l) =
        let e : 65 + (n - 10) - 65 + 10 ≡ n = omega arith in
        rw (le-ltb n 10 (omega arith), above_within 48 57 (65 + (n - 10)) (omega arith), between-within 65 70 (65 + (n - 10)) (omega arith) (omega arith), e)

digit_is : (n : ℕ) → n < 16 → is_hex (upper_hex n) ≡ true
unfolding is_hex
digit_is n h = let e = digit-read n h in lt-ltb (hex_value (upper_hex n)) 16 (omega arith)

encoded-written : (b : ℕ) → b < 256 → Written b (encoded b)
unfolding encoded
encoded-written b h = go (is_kept b) refl
  where
    go : (k : Bool) → is_kept b ≡ k → Written b (if k then b ∷ [] else code "%" ∷ upper_hex (b / 16) ∷ upper_hex (b % 16) ∷ [])
    go true k = raw k
    go false k =
        let high = digit-read (b / 16) (omega arith) in
        let low = digit-read (b % 16) (omega arith) in
        let e : hex_value (upper_hex (b / 16)) * 16 + hex_value (upper_hex (b % 16)) ≡ b = omega arith in
        subst (λ n. Written n (code "%" ∷ upper_hex (b / 16) ∷ upper_hex (b % 16) ∷ [])) e
        (percents (digit_is (b / 16) (omega arith)) (digit_is (b % 16) (omega arith)))

spelled : {p : Bytes} → Small p → Spells (encode_all p) p
unfolding encode_all
spelled none = Claims.none
spelled (more {b} {s} h r) = Claims.more (encoded-written b h) (spelled r)

written : (pointer text : Bytes) (room : ℕ) → write_answer pointer room ≡ Spec.success text → (is_pointer pointer ≡ true) × (link pointer ≡ text)
unfolding write_answer
written pointer text room e = go (is_pointer pointer) refl e
  where
    go : (k : Bool) → is_pointer pointer ≡ k → (if k then fitting room (link pointer) else Spec.refusal 10) ≡ Spec.success text →
        (is_pointer pointer ≡ true) × (link pointer ≡ text)
    go true k e = (k, fitted room (link pointer) text e)
    go false k e = absurd (success-number e)

pub round_trip : RoundTrip
unfolding link
round_trip pointer text room room' e short fits =
    let w = written pointer text room e in
    all_accepted text pointer room' w.0 (record { fragment = encode_all pointer; begins = sym w.1; spells = spelled (small pointer w.0) }) short fits
