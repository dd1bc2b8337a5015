-- Laws of answers, and what the verdicts say of them.
use Rattle.std.specs.Prelude.{if◌then◌else◌, Option, Some, None, Result, Ok, Err, slice_get}
use Rattle.std.specs.Option.{option_copied, option_eq}
use Rattle.std.specs.Result.{is_err}
use denote.Bor.{Bor}
use Prim.Native.Nat.{ℕ, ◌≤◌, ◌<◌}
use Prim.Native.Char.{code}
use mathlib.Core.Path.{◌≡◌, refl, sym, ap, subst, ◌∙◌}
use mathlib.Core.Bool.{Bool, true, false, not, true≢false}
use mathlib.Core.List.{[], ◌∷◌}
use native.Mathlib.Omega.{arith}
use borrow.Author.Tests.{eqb-true, eq-eqb, ne_eqb, le-leb, lt-leb}
use lib.ListN.{length, drop}
use lib.Dec.{eqb}
use Rattle.spec.specs.Outcome.{Outcome, ok, refused, ◌>>=◌}
use Rattle.spec.specs.Refusal.{input_too_long, malformed_pointer, output_too_short}
use Rattle.spec.specs.Limits.{max_bytes}
use Rattle.spec.specs.Bytes.{Bytes}
use Rattle.spec.specs.Pointer.{tokens}
use Rattle.pointer.specs.Tokens.{accepted}
use Rattle.text.specs.Written.{LaidDown}
use Rattle.text.proofs.StoreLaws.{laid_down}
use Rattle.fragment.specs.Link.{bad_link, link, nothing, octets, octets_of, characters, is_utf8, is_pointer}
use Rattle.fragment.specs.Answer as Spec
use Rattle.fragment.specs.Answer.{fitting, write_answer, octets_answer, read_answer}
use Rattle.fragment.specs.Scan.{verdict, counted, fragment_of}
use Rattle.fragment.specs.Call.{Answered, answer_of}
use Rattle.fragment.specs.Refusal.{number_of}
use Rattle.fragment.specs.declared.scan.NotPointer.{NotPointer}
use Rattle.fragment.specs.declared.refusal.LinkRefusal.{LinkRefusal}

-- ---- a refusal leaves the output as it was; a success has the text in front

pub refuses : {a : Spec.Answer} {out : Bytes} (e : LinkRefusal) → a ≡ Spec.refusal (number_of e) → Answered a out out (answer_of (Err e))
refuses {a} {out} e h = subst (λ a. Answered a out out (answer_of (Err e))) (sym h) (record { number = refl; written = refl; output = refl })

module _ (room : ℕ) (t : Bytes) where
  pub fitting_short : room < length t → fitting room t ≡ Spec.refusal output_too_short
  unfolding fitting
  fitting_short h = rw (lt-leb (length t) room h)

  pub fitting_whole : length t ≤ room → fitting room t ≡ Spec.success t
  unfolding fitting
  fitting_whole h = rw (le-leb (length t) room h)

pub succeeds : {a : Spec.Answer} {t before after : Bytes} {n : ℕ} → a ≡ fitting (length before) t → length t ≤ length before →
    LaidDown t before after n → Answered a before after (answer_of (Ok n))
succeeds {t = t} {before} {after} {n} e h d =
    subst (λ a. Answered a before after (answer_of (Ok n))) (sym (e ∙ fitting_whole (length before) t h))
    (record { number = refl; written = d.count_is; output = d.after_is ∙ laid_down t before h })

-- ---- what a verdict says

-- what is not UTF-8 is no pointer
refused_on : {A B : Type 0} (o : Outcome A) (f : A → Outcome B) → accepted o ≡ false → accepted (o >>= f) ≡ false
unfolding accepted ◌>>=◌
refused_on (ok a) f e = absurd (true≢false e)
refused_on (refused number place) f e = refl

pub no_text-no_pointer : (s : Bytes) → is_utf8 s ≡ false → is_pointer s ≡ false
unfolding is_utf8 is_pointer
no_text-no_pointer s e = refused_on (characters s) tokens e

data Says (s : Bytes) : Result (Unit {0}) NotPointer → Type 0 where
  pointer : is_utf8 s ≡ true → is_pointer s ≡ true → Says s (Ok tt)
  not_utf8 : is_utf8 s ≡ false → is_pointer s ≡ false → Says s (Err NotPointer.NotUtf8)
  malformed : is_utf8 s ≡ true → is_pointer s ≡ false → Says s (Err NotPointer.Malformed)

says : (s : Bytes) → Says s (verdict s)
unfolding verdict
says s = go (is_utf8 s) (is_pointer s) refl refl
  where
    go : (u p : Bool) → is_utf8 s ≡ u → is_pointer s ≡ p → Says s (if u then (if p then Ok tt else Err NotPointer.Malformed) else Err NotPointer.NotUtf8)
    go true true e f = pointer e f
    go true false e f = malformed e f
    go false p e f = not_utf8 e (no_text-no_pointer s e)

-- a test of the first byte, told
module _ {E : Bor ℕ → Bor ℕ → Bool} (fair : (x y : Bor ℕ) → E x y ≡ eqb x.now y.now) (p : Bor ℕ) (s : Bytes) where
  pub first_is : (o : Option (Bor ℕ)) → option_copied o ≡ slice_get s 0 → false ≡ not (option_eq E o (Some p)) → slice_get s 0 ≡ Some p.now
  first_is None v e = absurd (true≢false (sym e))
  first_is (Some x) v e = sym v ∙ ap Some (eqb-true x.now p.now (go (E x p) (fair x p) e))
    where
      go : (b : Bool) → b ≡ eqb x.now p.now → false ≡ not b → eqb x.now p.now ≡ true
      go true f e = sym f
      go false f e = absurd (true≢false (sym e))

  pub first_is_not : (o : Option (Bor ℕ)) → option_copied o ≡ slice_get s 0 → true ≡ not (option_eq E o (Some p)) → slice_get s 0 ≡ Some p.now → ⊥
  first_is_not None v e f = let z : ◌≡◌ {A = Option ℕ} None (Some p.now) = v ∙ f in let n : ◌≡◌ {A = ℕ} 0 1 = cc in omega arith
  first_is_not (Some x) v e f =
      let same : ◌≡◌ {A = Option ℕ} (Some x.now) (Some p.now) = v ∙ f in
      let now : x.now ≡ p.now = cc in
      true≢false (e ∙ ap not (fair x p ∙ eq-eqb x.now p.now now))

-- ---- writing

abbrev WritesBy : Bytes → ℕ → Bool → Type 0
WritesBy s room false = write_answer s room ≡ fitting room (link s)
WritesBy s room true = write_answer s room ≡ Spec.refusal malformed_pointer

-- by whether the verdict is an error
pub writes_by : (s : Bytes) (room : ℕ) {v : Result (Unit {0}) NotPointer} {b : Bool} → v ≡ verdict s → b ≡ is_err v → WritesBy s room b
unfolding write_answer
writes_by s room {v} {b} e f = go (rw (sym e) at (says s)) b f
  where
    go : {v : Result (Unit {0}) NotPointer} → Says s v → (b : Bool) → b ≡ is_err v → WritesBy s room b
    go (pointer u p) false f = rw p
    go (pointer u p) true f = absurd (true≢false f)
    go (not_utf8 u p) false f = absurd (true≢false (sym f))
    go (not_utf8 u p) true f = rw p
    go (malformed u p) false f = absurd (true≢false (sym f))
    go (malformed u p) true f = rw p

-- ---- reading

abbrev ReadsBy : Outcome Bytes → ℕ → Result ℕ LinkRefusal → Type 0
ReadsBy o room (Ok n) = (t : Bytes) × (o ≡ ok t) × (n ≡ length t) × (octets_answer o room ≡ fitting room t)
ReadsBy o room (Err e) = octets_answer o room ≡ Spec.refusal (number_of e)

reads_octets : (o : Outcome Bytes) (room : ℕ) → ReadsBy o room (fragment_of o)
unfolding fragment_of octets_answer
reads_octets (refused number place) room = refl
reads_octets (ok t) room = go (says t)
  where
    go : {v : Result (Unit {0}) NotPointer} → Says t v → ReadsBy (ok t) room (counted (length t) v)
    go (pointer u p) = (t, refl, refl, rw (u, p))
    go (not_utf8 u p) = rw u
    go (malformed u p) = rw (u, p)

-- the `#` in front
pub no_hash : (s : Bytes) (room : ℕ) → (slice_get s 0 ≡ Some (code "#") → ⊥) → octets_answer (octets_of s) room ≡ Spec.refusal bad_link
unfolding octets_of octets_answer
no_hash [] room n = refl
no_hash (b ∷ s) room n = rw (ne_eqb b (code "#") (λ f. n (ap Some f)))

pub hash : (s : Bytes) → slice_get s 0 ≡ Some (code "#") → (octets_of s ≡ octets nothing (drop 1 s)) × (1 ≤ length s)
unfolding octets_of
hash [] e = let none : ◌≡◌ {A = Option ℕ} None (Some (code "#")) = e in cc
hash (b ∷ s) e = let f : b ≡ code "#" = cc in (rw (eq-eqb b (code "#") f), omega arith)

module _ (s : Bytes) (room : ℕ) where
  pub too_long : max_bytes < length s → read_answer s room ≡ Spec.refusal input_too_long
  unfolding read_answer
  too_long h = rw (lt-leb (length s) max_bytes h)

  pub not_too_long : length s ≤ max_bytes → read_answer s room ≡ octets_answer (octets_of s) room
  unfolding read_answer
  not_too_long h = rw (le-leb (length s) max_bytes h)

-- a link that begins with `#`, by what its fragment is
module _ (s : Bytes) (room : ℕ) (short : length s ≤ max_bytes) (h : slice_get s 0 ≡ Some (code "#")) where
  begins : read_answer s room ≡ octets_answer (octets nothing (drop 1 s)) room
  begins = not_too_long s room short ∙ ap (λ o. octets_answer o room) (hash s h).0

  pub read_by : {r : Result ℕ LinkRefusal} → r ≡ fragment_of (octets nothing (drop 1 s)) → ReadsBy (octets nothing (drop 1 s)) room r
  read_by e = rw e (reads_octets (octets nothing (drop 1 s)) room)

  pub read_refused : (e : LinkRefusal) → Err e ≡ fragment_of (octets nothing (drop 1 s)) → read_answer s room ≡ Spec.refusal (number_of e)
  read_refused e f = begins ∙ read_by f

  pub read_fits : {n : ℕ} → Ok n ≡ fragment_of (octets nothing (drop 1 s)) →
      (t : Bytes) × (octets nothing (drop 1 s) ≡ ok t) × (n ≡ length t) × (read_answer s room ≡ fitting room t)
  read_fits f = let by = read_by f in (by.0, by.1, by.2, begins ∙ by.3)
