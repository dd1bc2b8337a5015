-- A pointer read character by character: its text may end where `tokens` accepts it.
use Prim.Native.Nat.{ℕ, ◌≤◌}
use Prim.Native.Char.{code}
use mathlib.Core.Path.{◌≡◌, refl, sym, ap, ◌∙◌}
use mathlib.Core.Bool.{Bool, false, ◌&&◌}
use mathlib.Core.List.{List, [], ◌∷◌}
use native.Mathlib.Omega.{arith}
use native.Mathlib.Decide.{ℕ_discrete}
use borrow.Author.Tests.{eq-eqb, ne_eqb}
use Rattle.spec.specs.Outcome.{Outcome, ok, refused, ◌>>=◌}
use Rattle.spec.specs.Bytes.{Text}
use Rattle.spec.specs.Pointer.{prepend, segments, tilde, unescape, unescape_all, tokens}
use Rattle.pointer.specs.Tokens.{accepted}
use Rattle.pointer.proofs.ScanLaws.{segments_slash, segments_more}
use Rattle.fragment.specs.Scan.{next_syntax, syntax, may_end}
use Rattle.fragment.specs.declared.scan.Syntax.{Syntax}

-- ---- a character above ASCII is a part of a token, or makes the text malformed

pub data Settled : Syntax → Type 0 where
  token : Settled Syntax.Token
  malformed : Settled Syntax.Malformed

module _ (b : ℕ) (above : 0x80 ≤ b) where
  pub settles : (y : Syntax) → Settled (next_syntax y b)
  unfolding next_syntax
  settles Syntax.Start = rw (ne_eqb b (code "/") (λ e. omega arith)) malformed
  settles Syntax.Token = rw (ne_eqb b (code "~") (λ e. omega arith)) token
  settles Syntax.Tilde = rw (ne_eqb b (code "0") (λ e. omega arith), ne_eqb b (code "1") (λ e. omega arith)) malformed
  settles Syntax.Malformed = malformed

  pub stays : {y : Syntax} → Settled y → next_syntax y b ≡ y
  unfolding next_syntax
  stays token = rw (ne_eqb b (code "~") (λ e. omega arith))
  stays malformed = refl

-- all such characters are alike
above-ascii : Syntax → Syntax
above-ascii Syntax.Start = Syntax.Malformed
above-ascii Syntax.Token = Syntax.Token
above-ascii Syntax.Tilde = Syntax.Malformed
above-ascii Syntax.Malformed = Syntax.Malformed

next_above : (b : ℕ) → 0x80 ≤ b → (y : Syntax) → next_syntax y b ≡ above-ascii y
unfolding next_syntax above-ascii
next_above b h Syntax.Start = rw (ne_eqb b (code "/") (λ e. omega arith))
next_above b h Syntax.Token = rw (ne_eqb b (code "~") (λ e. omega arith))
next_above b h Syntax.Tilde = rw (ne_eqb b (code "0") (λ e. omega arith), ne_eqb b (code "1") (λ e. omega arith))
next_above b h Syntax.Malformed = refl

pub alike : (b c : ℕ) → 0x80 ≤ b → 0x80 ≤ c → (y : Syntax) → next_syntax y b ≡ next_syntax y c
alike b c h i y = next_above b h y ∙ sym (next_above c i y)

-- ---- what `tokens` accepts

malformed_stays : (t : Text) → syntax Syntax.Malformed t ≡ Syntax.Malformed
unfolding syntax next_syntax
malformed_stays [] = refl
malformed_stays (c ∷ t) = malformed_stays t

accepted-map : {A B : Type 0} (o : Outcome A) (f : A → B) → accepted (o >>= λ a. ok (f a)) ≡ accepted o
unfolding accepted ◌>>=◌
accepted-map (ok a) f = refl
accepted-map (refused number place) f = refl

accepted-both : {A B C : Type 0} (o : Outcome A) (p : Outcome B) (f : A → B → C) → accepted (o >>= λ a. p >>= λ b. ok (f a b)) ≡ (accepted o && accepted p)
unfolding accepted ◌>>=◌
accepted-both (ok a) p f = accepted-map p (f a)
accepted-both (refused number place) p f = refl

all_first : (t : Text) (ts : List Text) → accepted (unescape_all (t ∷ ts)) ≡ (accepted (unescape false t) && accepted (unescape_all ts))
unfolding unescape_all
all_first t ts = accepted-both (unescape false t) (unescape_all ts) ◌∷◌

-- after a slash, or within a token; and after a `~`
abbrev plain : List Text → Bool
plain ts = accepted (unescape_all ts)

abbrev tilded : List Text → Bool
tilded ts = plain (prepend (code "~") ts)

token_more : (c : ℕ) (t : Text) → (c ≡ code "~" → ⊥) → accepted (unescape false (c ∷ t)) ≡ accepted (unescape false t)
unfolding unescape
token_more c t n = rw (ne_eqb c (code "~") n) (accepted-map (unescape false t) (◌∷◌ c))

plain_other : (c : ℕ) (ts : List Text) → (c ≡ code "~" → ⊥) → plain (prepend c ts) ≡ plain ts
unfolding prepend unescape_all unescape accepted ◌>>=◌
plain_other c [] n = rw (ne_eqb c (code "~") n)
plain_other c (t ∷ ts) n = all_first (c ∷ t) ts ∙ ap (λ b. b && plain ts) (token_more c t n) ∙ sym (all_first t ts)

plain_slash : (ts : List Text) → plain ([] ∷ ts) ≡ plain ts
unfolding unescape accepted
plain_slash ts = all_first [] ts

tilded_slash : (ts : List Text) → tilded ([] ∷ ts) ≡ false
unfolding prepend unescape_all unescape accepted ◌>>=◌
tilded_slash ts = refl

tilded_other : (c : ℕ) (ts : List Text) → (c ≡ code "0" → ⊥) → (c ≡ code "1" → ⊥) → tilded (prepend c ts) ≡ false
unfolding prepend unescape_all unescape tilde accepted ◌>>=◌
tilded_other c [] n m = rw (ne_eqb c (code "0") n, ne_eqb c (code "1") m)
tilded_other c (t ∷ ts) n m = rw (ne_eqb c (code "0") n, ne_eqb c (code "1") m)

tilded_zero : (ts : List Text) → tilded (prepend (code "0") ts) ≡ plain ts
unfolding prepend unescape_all unescape tilde accepted ◌>>=◌
tilded_zero [] = refl
tilded_zero (t ∷ ts) =
    all_first (code "~" ∷ code "0" ∷ t) ts
    ∙ ap (λ b. b && plain ts) (accepted-map (unescape false t) (◌∷◌ (code "~"))) ∙ sym (all_first t ts)

tilded_one : (ts : List Text) → tilded (prepend (code "1") ts) ≡ plain ts
unfolding prepend unescape_all unescape tilde accepted ◌>>=◌
tilded_one [] = refl
tilded_one (t ∷ ts) =
    all_first (code "~" ∷ code "1" ∷ t) ts
    ∙ ap (λ b. b && plain ts) (accepted-map (unescape false t) (◌∷◌ (code "/"))) ∙ sym (all_first t ts)

-- ---- one character more

from-token : (c : ℕ) → (c ≡ code "~" → ⊥) → next_syntax Syntax.Token c ≡ Syntax.Token
unfolding next_syntax
from-token c n = rw (ne_eqb c (code "~") n)

from-tilde : (c : ℕ) → (c ≡ code "0" → ⊥) → (c ≡ code "1" → ⊥) → next_syntax Syntax.Tilde c ≡ Syntax.Malformed
unfolding next_syntax
from-tilde c n m = rw (ne_eqb c (code "0") n, ne_eqb c (code "1") m)

abbrev ends : Syntax → Text → Bool
ends y t = may_end (syntax y t)

malformed_ends : (t : Text) → ends Syntax.Malformed t ≡ false
unfolding may_end
malformed_ends t = ap may_end (malformed_stays t)

-- within a token, and after a `~`, both at once
record Follows (t : Text) : Type 0 where
  in_token : ends Syntax.Token t ≡ plain (segments t)
  after_tilde_lem : ends Syntax.Tilde t ≡ tilded (segments t)

in_token_more : (c : ℕ) (t : Text) → Follows t → ends (next_syntax Syntax.Token c) t ≡ plain (segments (c ∷ t))
unfolding next_syntax
in_token_more c t f = go (ℕ_discrete c (code "/")) (ℕ_discrete c (code "~"))
  where
    go : Dec (c ≡ code "/") → Dec (c ≡ code "~") → ends (next_syntax Syntax.Token c) t ≡ plain (segments (c ∷ t))
    go (yes s) d = ap (λ y. ends y t) (from-token c (λ e. omega arith)) ∙ f.in_token ∙ sym (plain_slash (segments t)) ∙ sym (ap plain (segments_slash c t s))
    go (no s) (yes e) =
        ap (λ d. ends (next_syntax Syntax.Token d) t) e ∙ f.after_tilde_lem ∙ sym (ap plain (segments_more c t s ∙ ap (λ d. prepend d (segments t)) e))
    go (no s) (no e) =
        ap (λ y. ends y t) (from-token c e) ∙ f.in_token ∙ sym (plain_other c (segments t) e) ∙ sym (ap plain (segments_more c t s))

after_tilde_more : (c : ℕ) (t : Text) → Follows t → ends (next_syntax Syntax.Tilde c) t ≡ tilded (segments (c ∷ t))
unfolding next_syntax
after_tilde_more c t f = go (ℕ_discrete c (code "/")) (ℕ_discrete c (code "0")) (ℕ_discrete c (code "1"))
  where
    not_slash : (c ≡ code "/" → ⊥) → tilded (segments (c ∷ t)) ≡ tilded (prepend c (segments t))
    not_slash n = ap tilded (segments_more c t n)

    go : Dec (c ≡ code "/") → Dec (c ≡ code "0") → Dec (c ≡ code "1") → ends (next_syntax Syntax.Tilde c) t ≡ tilded (segments (c ∷ t))
    go (yes s) d e =
        ap (λ y. ends y t) (from-tilde c (λ q. omega arith) (λ q. omega arith)) ∙ malformed_ends t
        ∙ sym (tilded_slash (segments t))
        ∙ sym (ap tilded (segments_slash c t s))
    go (no s) (yes d) e =
        ap (λ d. ends (next_syntax Syntax.Tilde d) t) d ∙ f.in_token
        ∙ sym (not_slash s ∙ ap (λ d. tilded (prepend d (segments t))) d ∙ tilded_zero (segments t))
    go (no s) (no d) (yes e) =
        ap (λ d. ends (next_syntax Syntax.Tilde d) t) e ∙ f.in_token
        ∙ sym (not_slash s ∙ ap (λ d. tilded (prepend d (segments t))) e ∙ tilded_one (segments t))
    go (no s) (no d) (no e) = ap (λ y. ends y t) (from-tilde c d e) ∙ malformed_ends t ∙ sym (not_slash s ∙ tilded_other c (segments t) d e)

follows_none : Follows []
unfolding syntax may_end segments prepend unescape_all unescape accepted ◌>>=◌
follows_none = record { in_token = refl; after_tilde_lem = refl }

follows : (t : Text) → Follows t
unfolding syntax
follows [] = follows_none
follows (c ∷ t) = record { in_token = in_token_more c t (follows t); after_tilde_lem = after_tilde_more c t (follows t) }

pub ends_accepted : (t : Text) → ends Syntax.Start t ≡ accepted (tokens t)
unfolding syntax may_end tokens accepted next_syntax
ends_accepted [] = refl
ends_accepted (c ∷ t) = go (ℕ_discrete c (code "/"))
  where
    go : Dec (c ≡ code "/") → ends Syntax.Start (c ∷ t) ≡ accepted (tokens (c ∷ t))
    go (yes e) = rw (eq-eqb c (code "/") e) (follows t).in_token
    go (no e) = rw (ne_eqb c (code "/") e) (malformed_ends t)
