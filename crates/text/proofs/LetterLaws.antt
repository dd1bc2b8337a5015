-- A letter is the first character of the text that is left, and the text after it begins at the next place.
use Rattle.std.specs.Prelude.{if◌then◌else◌}
use mathlib.Core.Path.{◌≡◌, refl, sym, ap, ap₂, subst, ◌∙◌}
use mathlib.Core.Bool.{Bool, true, false, true≢false}
use mathlib.Core.List.{[], ◌∷◌}
use Prim.Native.Nat.{ℕ, ◌+◌, ◌-◌, ◌≤◌, ◌<◌}
use Prim.Native.Char.{code}
use native.Mathlib.Omega.{arith}
use lib.ListN.{length}
use lib.Dec.{eqb, ltb}
use borrow.Author.Tests.{eqb-true, eqb-false, ne_eqb, ltb-true}
use Rattle.spec.specs.Outcome.{Outcome, ok, refused, ◌>>=◌}
use Rattle.spec.specs.Refusal.{not_json}
use Rattle.spec.specs.Bytes.{Bytes, Text, byte, within}
use Rattle.spec.proofs.OutcomeLaws.{refused≢ok, both_ok}
use Rattle.std.specs.Prelude.{Result, Ok, Err}
use Rattle.spec.specs.Fault.{number_of}
use Rattle.spec.specs.declared.refusal.Fault.{Fault}
use Rattle.lexer.specs.declared.characters.Character.{Character}
use Rattle.lexer.specs.Names.{stands_for_itself}
use Rattle.lexer.specs.Answers.{character_outcome}
use Rattle.lexer.proofs.Tests.{within_bounds, and_both}
use Rattle.lexer.proofs.AnswerLaws.{scalar_ok, character_refused}
use Rattle.lexer.proofs.StringLoop.{self_no_quote, self_character}
use Rattle.text.specs.Decode.{character_in, decode_from, unescape_token, text_from}
use Rattle.text.specs.Letters.{after_tilde, token_step, token_letter, letter_at, is_letter, plain_at}
use Rattle.text.proofs.DecodeLaws.{none_past, in_past, decode_more, decode_ends}

-- ---- a token's letter

-- a character that is no `~`
token_plain : (c : ℕ) (t : Text) → eqb c (code "~") ≡ false → unescape_token (c ∷ t) ≡ c ∷ unescape_token t
unfolding unescape_token
token_plain c [] e = refl
token_plain c (d ∷ t) e = rw e

-- a `~` before `0`, before `1`, and before anything else
token_zero : (c d : ℕ) (t : Text) → eqb c (code "~") ≡ true → eqb d (code "0") ≡ true → unescape_token (c ∷ d ∷ t) ≡ code "~" ∷ unescape_token t
unfolding unescape_token
token_zero c d t e f = rw (e, f)

token-one : (c d : ℕ) (t : Text) → eqb c (code "~") ≡ true → eqb d (code "0") ≡ false
    → eqb d (code "1") ≡ true → unescape_token (c ∷ d ∷ t) ≡ code "/" ∷ unescape_token t
unfolding unescape_token
token-one c d t e f g = rw (e, f, g)

token-other : (c d : ℕ) (t : Text) → eqb c (code "~") ≡ true → eqb d (code "0") ≡ false
    → eqb d (code "1") ≡ false → unescape_token (c ∷ d ∷ t) ≡ c ∷ unescape_token (d ∷ t)
unfolding unescape_token
token-other c d t e f g = rw (e, f, g)

token_last : (t : Text) → t ≡ [] → unescape_token (code "~" ∷ []) ≡ code "~" ∷ unescape_token t
unfolding unescape_token
token_last t e = rw e

-- what a letter is to the text from its place on: the first character; it takes at least one byte, and none past the end
pub record Begins (s : Bytes) (at : ℕ) (left : ℕ → Text) (letter : ℕ × ℕ) : Type 0 where
  pub text : left at ≡ letter.0 ∷ left letter.1
  pub past : (at < letter.1) × (letter.1 ≤ length s)

-- a token's text from a place on
abbrev pub token_from : Bytes → ℕ → Text
token_from s at = unescape_token (decode_from s at)

module _ (s : Bytes) (at c next : ℕ) (e : character_in s at ≡ ok (c, next)) where
  tilde-begins : eqb c (code "~") ≡ true → (o : Outcome (ℕ × ℕ)) → character_in s next ≡ o → Begins s at (token_from s) (after_tilde o next)
  unfolding after_tilde
  tilde-begins t (ok (d, after)) f = go (eqb d (code "0")) (eqb d (code "1")) refl refl
    where
      n : (at < next) × (next ≤ length s)
      n = in_past s at e

      m : (next < after) × (after ≤ length s)
      m = in_past s next f

      two : decode_from s at ≡ c ∷ d ∷ decode_from s after
      two = decode_more s at c next e ∙ ap (◌∷◌ c) (decode_more s next d after f)

      go : (zero one : Bool) → eqb d (code "0") ≡ zero → eqb d (code "1") ≡ one →
          Begins s at (token_from s) (if◌then◌else◌ {A = ℕ × ℕ} zero (code "~", after) (if◌then◌else◌ {A = ℕ × ℕ} one (code "/", after) (code "~", next)))
      go true one p q = record { text = ap unescape_token two ∙ token_zero c d _ t p; past = omega (arith, n, m) }
      go false true p q = record { text = ap unescape_token two ∙ token-one c d _ t p q; past = omega (arith, n, m) }
      go false false p q =
          record {
            text = ap unescape_token two ∙ token-other c d _ t p q ∙ ap (λ x. x ∷ unescape_token (d ∷ decode_from s after)) (eqb-true c (code "~") t)
                ∙ ap (λ x. code "~" ∷ unescape_token x) (sym (decode_more s next d after f));
            past = n;
          }
  tilde-begins t (refused number place) f =
      let last : decode_from s next ≡ [] = decode_ends s next f in
      let alone : decode_from s at ≡ code "~" ∷ [] = decode_more s at c next e ∙ ap₂ ◌∷◌ (eqb-true c (code "~") t) last in
      record { text = ap unescape_token alone ∙ token_last (decode_from s next) last; past = in_past s at e }

  pub step_begins : Begins s at (token_from s) (token_step s c next)
  unfolding token_step
  step_begins = go (eqb c (code "~")) refl
    where
      go : (escaped : Bool) → eqb c (code "~") ≡ escaped
          → Begins s at (token_from s) (if◌then◌else◌ {A = ℕ × ℕ} escaped (after_tilde (character_in s next) next) (c, next))
      go true t = tilde-begins t (character_in s next) refl
      go false t = record { text = ap unescape_token (decode_more s at c next e) ∙ token_plain c _ t; past = in_past s at e }

-- ---- a letter in any form

module _ (s : Bytes) (at : ℕ) where
  string-begins : (letter : ℕ × ℕ) → character_in s at ≡ ok letter → Begins s at (decode_from s) letter
  string-begins (c, next) e = record { text = decode_more s at c next e; past = in_past s at e }

  token_begins : (letter : ℕ × ℕ) → token_letter s at ≡ ok letter → Begins s at (token_from s) letter
  unfolding token_letter
  token_begins letter h =
      let ((c, next), e, i) = both_ok (character_in s at) _ letter h in
      let same : token_step s c next ≡ letter = cc in
      subst (Begins s at (token_from s)) same (step_begins s at c next e)

  token_ends : (number place : ℕ) → token_letter s at ≡ refused number place → token_from s at ≡ []
  unfolding token_letter ◌>>=◌ unescape_token
  token_ends number place h = go (character_in s at) refl h
    where
      go : (o : Outcome (ℕ × ℕ)) → character_in s at ≡ o → (o >>= λ (c, next). ok (token_step s c next)) ≡ refused number place → token_from s at ≡ []
      go (ok read) e h = absurd (refused≢ok (sym h))
      go (refused n p) e h = ap unescape_token (decode_ends s at e)

-- what holds of the text and of the letter in each form holds in the form that is given
pub by_form : (form : ℕ) (s : Bytes) (at : ℕ) (P : (ℕ → Text) → Outcome (ℕ × ℕ) → Type 0)
    → P (decode_from s) (character_in s at) → P (token_from s) (token_letter s at) →
    P (λ at. []) (refused not_json at) → P (text_from form s) (letter_at form s at)
unfolding text_from letter_at
by_form form s at P string token other = go (eqb form 1) (eqb form 2) (eqb form 3)
  where
    go : (one two three : Bool) →
        P (λ at. if one then decode_from s at else if two then decode_from s at else if three then token_from s at else [])
        (if one then character_in s at else if two then character_in s at else if three then token_letter s at else refused not_json at)
    go true two three = string
    go false true three = string
    go false false true = token
    go false false false = other

pub letter_begins : (form : ℕ) (s : Bytes) (at : ℕ) (letter : ℕ × ℕ) → letter_at form s at ≡ ok letter → Begins s at (text_from form s) letter
letter_begins form s at letter =
    by_form form s at (λ left o. o ≡ ok letter → Begins s at left letter) (string-begins s at letter) (token_begins s at letter) (λ h. absurd (refused≢ok h))

pub letter_ends : (form : ℕ) (s : Bytes) (at number place : ℕ) → letter_at form s at ≡ refused number place → text_from form s at ≡ []
letter_ends form s at number place =
    by_form form s at (λ left o. o ≡ refused number place → left at ≡ []) (decode_ends s at) (token_ends s at number place) (λ h. refl)

-- past the end of a part there is no letter
module _ (form : ℕ) (s : Bytes) (at : ℕ) (h : length s ≤ at) where
  past_token : token_letter s at ≡ refused not_json at
  unfolding token_letter ◌>>=◌
  past_token = rw (none_past s at h)

  pub past_letter : letter_at form s at ≡ refused not_json at
  past_letter = by_form form s at (λ left o. o ≡ refused not_json at) (none_past s at h) past_token refl

  pub past_text : text_from form s at ≡ []
  past_text = letter_ends form s at not_json at past_letter

-- ---- a byte that is a character by itself, in every form

pub self_string : (s : Bytes) (at : ℕ) → stands_for_itself (byte s at) ≡ true → character_in s at ≡ ok (byte s at, at + 1)
unfolding character_in
self_string s at self = rw (ne_eqb (byte s at) (code "\"") (self_no_quote s at self)) (self_character s at self)

module _ (s : Bytes) (at : ℕ) (self : stands_for_itself (byte s at) ≡ true) (no-tilde : byte s at ≡ code "~" → ⊥) where
  self_token : token_letter s at ≡ ok (byte s at, at + 1)
  unfolding token_letter token_step ◌>>=◌
  self_token = rw (self_string s at self, ne_eqb (byte s at) (code "~") no-tilde)

  pub self_letter : (form : ℕ) → 1 ≤ form → form ≤ 3 → letter_at form s at ≡ ok (byte s at, at + 1)
  unfolding letter_at
  self_letter form l m = go (eqb form 1) (eqb form 2) (eqb form 3) refl refl refl
    where
      go : (one two three : Bool) → eqb form 1 ≡ one → eqb form 2 ≡ two → eqb form 3 ≡ three →
          (if one then character_in s at else if two then character_in s at else if three then token_letter s at else refused not_json at) ≡ ok
          (byte s at, at + 1)
      go true two three p q r = self_string s at self
      go false true three p q r = self_string s at self
      go false false true p q r = self_token
      go false false false p q r = absurd (omega (arith, eqb-false form 1 p, eqb-false form 2 q, eqb-false form 3 r))

-- what is known of a byte that is a letter by itself
letter_known : (b : ℕ) → is_letter b ≡ true → (stands_for_itself b ≡ true) × (b ≡ code "~" → ⊥)
unfolding is_letter
letter_known b t =
    let (low, self) = and_both (ltb b (code "~")) (stands_for_itself b) t in
    (self, λ e. omega (arith, ltb-true b (code "~") low))

plain_letter : (form : ℕ) (s : Bytes) (at : ℕ) → (plain_at form s at ≡ 0 → ⊥) → letter_at form s at ≡ ok (plain_at form s at, at + 1)
unfolding plain_at
plain_letter form s at = go (is_letter (byte s at)) (within 1 3 form) refl refl
  where
    go : (self known : Bool) → is_letter (byte s at) ≡ self → within 1 3 form ≡ known →
        let r = if self then (if known then byte s at else 0) else 0 in (r ≡ 0 → ⊥) → letter_at form s at ≡ ok (r, at + 1)
    go true true e f n = let w = within_bounds 1 3 form f in let k = letter_known (byte s at) e in self_letter s at k.0 k.1 form w.0 w.1
    go true false e f n = absurd (n refl)
    go false known e f n = absurd (n refl)

-- ---- what the code answered

module _ (form : ℕ) (s : Bytes) (at : ℕ) {r : Result Character Fault} (e : character_outcome r ≡ letter_at form s at) where
  pub scalar_text : (c : Character) → r ≡ Ok c → text_from form s at ≡ c.code ∷ text_from form s c.next.at
  scalar_text c t = (letter_begins form s at (c.code, c.next.at) (scalar_ok c e t)).text

  -- the letter takes a byte of those that are left
  pub scalar_less : (c : Character) → r ≡ Ok c → length s - c.next.at < length s - at
  scalar_less c t = omega (arith, (letter_begins form s at (c.code, c.next.at) (scalar_ok c e t)).past)

  pub scalar-inside : (c : Character) → r ≡ Ok c → c.next.at ≤ length s
  scalar-inside c t = (letter_begins form s at (c.code, c.next.at) (scalar_ok c e t)).past.1

  pub refused_text : (x : Fault) → r ≡ Err x → text_from form s at ≡ []
  refused_text x t = letter_ends form s at (number_of x.refusal) x.place (character_refused x e t)

module _ (form : ℕ) (s : Bytes) (at : ℕ) {r : ℕ} (e : r ≡ plain_at form s at) (n : r ≡ 0 → ⊥) where
  pub plain_ok : letter_at form s at ≡ ok (r, at + 1)
  plain_ok = plain_letter form s at (λ z. n (e ∙ z)) ∙ ap (λ b. ok (b, at + 1)) (sym e)

  pub plain_text : text_from form s at ≡ r ∷ text_from form s (at + 1)
  plain_text = (letter_begins form s at (r, at + 1) plain_ok).text

  pub plain_inside : at < length s
  plain_inside = omega (arith, (letter_begins form s at (r, at + 1) plain_ok).past)

-- a byte that is a letter by itself is the letter at its place, in each of the three forms, and is not 0
module _ (form : ℕ) (s : Bytes) (at : ℕ) where
  pub plain_byte : is_letter (byte s at) ≡ true → within 1 3 form ≡ true → plain_at form s at ≡ byte s at
  unfolding plain_at
  plain_byte t w = rw (t, w)

  pub plain_is : (plain_at form s at ≡ 0 → ⊥) → plain_at form s at ≡ byte s at
  unfolding plain_at
  plain_is = go (is_letter (byte s at)) (within 1 3 form)
    where
      go : (self known : Bool) → let r = if self then (if known then byte s at else 0) else 0 in (r ≡ 0 → ⊥) → r ≡ byte s at
      go true true n = refl
      go true false n = absurd (n refl)
      go false known n = absurd (n refl)

pub letter_not_zero : (b : ℕ) → is_letter b ≡ true → b ≡ 0 → ⊥
unfolding is_letter stands_for_itself within
letter_not_zero b t e = true≢false (sym t ∙ ap is_letter e)
