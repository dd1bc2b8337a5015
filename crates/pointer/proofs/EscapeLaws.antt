-- A pointer is well formed if each `~` behind its first slash stands before a `0` or a `1`, as is seen character by character.
use mathlib.Core.Path.{◌≡◌, refl, sym, ap, ◌∙◌}
use mathlib.Core.Bool.{Bool, true, false, ◌&&◌}
use mathlib.Core.List.{List, [], ◌∷◌}
use Prim.Native.Nat.{ℕ}
use Prim.Native.Char.{code}
use native.Mathlib.Omega.{arith}
use native.Mathlib.Decide.{ℕ_discrete}
use borrow.Author.Tests.{eq-eqb, ne_eqb}
use Rattle.spec.specs.Outcome.{Outcome, ok, refused, ◌>>=◌}
use Rattle.spec.specs.Refusal.{malformed_pointer}
use Rattle.spec.specs.Bytes.{Bytes, Text}
use Rattle.spec.specs.Pointer.{prepend, segments, tilde, unescape, unescape_all}
use Rattle.text.specs.Decode.{character_in, decode_from}
use Rattle.text.proofs.DecodeLaws.{decode_more, decode_ends}
use Rattle.pointer.specs.Tokens.{tokens_from, accepted}
use Rattle.pointer.proofs.ScanLaws.{segments_slash, segments_more}

-- ---- outcomes

accepted-map : {A B : Type 0} (o : Outcome A) (f : A → B) → accepted (o >>= λ a. ok (f a)) ≡ accepted o
unfolding accepted ◌>>=◌
accepted-map (ok a) f = refl
accepted-map (refused number place) f = refl

accepted-both : {A B C : Type 0} (o : Outcome A) (p : Outcome B) (f : A → B → C) → accepted (o >>= λ a. p >>= λ b. ok (f a b)) ≡ (accepted o && accepted p)
unfolding accepted ◌>>=◌
accepted-both (ok a) p f = accepted-map p (f a)
accepted-both (refused number place) p f = refl

-- ---- one token

token_more : (c : ℕ) (t : Text) → (c ≡ code "~" → ⊥) → accepted (unescape false (c ∷ t)) ≡ accepted (unescape false t)
unfolding unescape
token_more c t h = rw (ne_eqb c (code "~") h) (accepted-map (unescape false t) (◌∷◌ c))

token-tilde : (c : ℕ) (t : Text) → c ≡ code "~" → unescape false (c ∷ t) ≡ unescape true t
unfolding unescape
token-tilde c t h = rw (eq-eqb c (code "~") h)

-- the characters that may follow a `~`
pub data Escaped (d : ℕ) : Type 0 where
  zero : d ≡ code "0" → Escaped d
  one : d ≡ code "1" → Escaped d

token-escaped : (d : ℕ) (t : Text) → Escaped d → accepted (unescape true (d ∷ t)) ≡ accepted (unescape false t)
unfolding unescape tilde ◌>>=◌
token-escaped d t (zero h) = rw (eq-eqb d (code "0") h) (accepted-map (unescape false t) (◌∷◌ (code "~")))
token-escaped d t (one h) = rw h (accepted-map (unescape false t) (◌∷◌ (code "/")))

token_malformed : (d : ℕ) (t : Text) → (d ≡ code "0" → ⊥) → (d ≡ code "1" → ⊥) → unescape true (d ∷ t) ≡ refused malformed_pointer 0
unfolding unescape tilde ◌>>=◌
token_malformed d t g h = rw (ne_eqb d (code "0") g, ne_eqb d (code "1") h)

-- ---- one character before the segments

all_first : (t : Text) (ts : List Text) → accepted (unescape_all (t ∷ ts)) ≡ (accepted (unescape false t) && accepted (unescape_all ts))
unfolding unescape_all
all_first t ts = accepted-both (unescape false t) (unescape_all ts) ◌∷◌

all_more : (c : ℕ) (ts : List Text) → (c ≡ code "~" → ⊥) → accepted (unescape_all (prepend c ts)) ≡ accepted (unescape_all ts)
unfolding prepend unescape_all unescape accepted
all_more c [] h = all_first (c ∷ []) [] ∙ ap (λ b. b && true) (token_more c [] h)
all_more c (t ∷ ts) h = all_first (c ∷ t) ts ∙ ap (λ b. b && accepted (unescape_all ts)) (token_more c t h) ∙ sym (all_first t ts)

all_escaped : (c d : ℕ) (ts : List Text) → c ≡ code "~" → Escaped d → accepted (unescape_all (prepend c (prepend d ts))) ≡ accepted (unescape_all ts)
unfolding prepend unescape_all unescape accepted
all_escaped c d [] h g = all_first (c ∷ d ∷ []) [] ∙ ap (λ b. b && true) (ap accepted (token-tilde c (d ∷ []) h) ∙ token-escaped d [] g)
all_escaped c d (t ∷ ts) h g =
    all_first (c ∷ d ∷ t) ts ∙ ap (λ b. b && accepted (unescape_all ts)) (ap accepted (token-tilde c (d ∷ t) h) ∙ token-escaped d t g) ∙ sym (all_first t ts)

-- a token that is malformed
all_malformed : (t : Text) (ts : List Text) → unescape false t ≡ refused malformed_pointer 0 → accepted (unescape_all (t ∷ ts)) ≡ false
unfolding unescape_all accepted ◌>>=◌
all_malformed t ts h = rw h

tilde_malformed : (c d : ℕ) (ts : List Text) → c ≡ code "~" → (d ≡ code "0" → ⊥)
    → (d ≡ code "1" → ⊥) → accepted (unescape_all (prepend c (prepend d ts))) ≡ false
unfolding prepend
tilde_malformed c d [] h f g = all_malformed (c ∷ d ∷ []) [] (token-tilde c (d ∷ []) h ∙ token_malformed d [] f g)
tilde_malformed c d (t ∷ ts) h f g = all_malformed (c ∷ d ∷ t) ts (token-tilde c (d ∷ t) h ∙ token_malformed d t f g)

tilde_ends : (c : ℕ) (ts : List Text) → c ≡ code "~" → accepted (unescape_all (prepend c ([] ∷ ts))) ≡ false
unfolding prepend unescape
tilde_ends c ts h = all_malformed (c ∷ []) ts (token-tilde c [] h)

-- ---- one character of the text behind the first slash

-- whether the text has well-formed tokens
abbrev well_formed : Text → Bool
well_formed t = accepted (unescape_all (segments t))

text_more : (c : ℕ) (t : Text) → (c ≡ code "~" → ⊥) → well_formed (c ∷ t) ≡ well_formed t
unfolding unescape accepted
text_more c t h = go (ℕ_discrete c (code "/"))
  where
    go : Dec (c ≡ code "/") → well_formed (c ∷ t) ≡ well_formed t
    go (yes e) = ap (λ ts. accepted (unescape_all ts)) (segments_slash c t e) ∙ all_first [] (segments t)
    go (no e) = ap (λ ts. accepted (unescape_all ts)) (segments_more c t e) ∙ all_more c (segments t) h

-- a `~` is no slash
segments-tilde : (c : ℕ) (t : Text) → c ≡ code "~" → segments (c ∷ t) ≡ prepend c (segments t)
segments-tilde c t h = segments_more c t λ e. omega arith

segments-escaped : (d : ℕ) (t : Text) → Escaped d → segments (d ∷ t) ≡ prepend d (segments t)
segments-escaped d t (zero h) = segments_more d t λ e. omega arith
segments-escaped d t (one h) = segments_more d t λ e. omega arith

text_escaped : (c d : ℕ) (t : Text) → c ≡ code "~" → Escaped d → well_formed (c ∷ d ∷ t) ≡ well_formed t
text_escaped c d t h g =
    ap (λ ts. accepted (unescape_all ts)) (segments-tilde c (d ∷ t) h ∙ ap (prepend c) (segments-escaped d t g)) ∙ all_escaped c d (segments t) h g

text_malformed : (c d : ℕ) (t : Text) → c ≡ code "~" → (d ≡ code "0" → ⊥) → (d ≡ code "1" → ⊥) → well_formed (c ∷ d ∷ t) ≡ false
text_malformed c d t h f g = ap (λ ts. accepted (unescape_all ts)) (segments-tilde c (d ∷ t) h) ∙ go (ℕ_discrete d (code "/"))
  where
    go : Dec (d ≡ code "/") → accepted (unescape_all (prepend c (segments (d ∷ t)))) ≡ false
    go (yes e) = ap (λ ts. accepted (unescape_all (prepend c ts))) (segments_slash d t e) ∙ tilde_ends c (segments t) h
    go (no e) = ap (λ ts. accepted (unescape_all (prepend c ts))) (segments_more d t e) ∙ tilde_malformed c d (segments t) h f g

-- ---- the same at the places of a part

module _ (s : Bytes) where
  pub none_malformed : (at : ℕ) {number place : ℕ} → character_in s at ≡ refused number place → accepted (tokens_from s at) ≡ true
  unfolding tokens_from segments unescape_all unescape ◌>>=◌ accepted
  none_malformed at e = ap well_formed (decode_ends s at e)

  module _ (at c next : ℕ) (e : character_in s at ≡ ok (c, next)) where
    pub more_tokens : (c ≡ code "~" → ⊥) → accepted (tokens_from s at) ≡ accepted (tokens_from s next)
    unfolding tokens_from
    more_tokens h = ap well_formed (decode_more s at c next e) ∙ text_more c _ h

    pub tilde_last : c ≡ code "~" → {number place : ℕ} → character_in s next ≡ refused number place → accepted (tokens_from s at) ≡ false
    unfolding tokens_from segments
    tilde_last h f =
        ap well_formed (decode_more s at c next e ∙ ap (◌∷◌ c) (decode_ends s next f))
        ∙ ap (λ ts. accepted (unescape_all ts)) (segments-tilde c [] h) ∙ tilde_ends c [] h

    module _ (d after : ℕ) (f : character_in s next ≡ ok (d, after)) (h : c ≡ code "~") where
      two : decode_from s at ≡ c ∷ d ∷ decode_from s after
      two = decode_more s at c next e ∙ ap (◌∷◌ c) (decode_more s next d after f)

      pub tilde_escapes : Escaped d → accepted (tokens_from s at) ≡ accepted (tokens_from s after)
      unfolding tokens_from
      tilde_escapes g = ap well_formed two ∙ text_escaped c d _ h g

      pub tilde-other : (d ≡ code "0" → ⊥) → (d ≡ code "1" → ⊥) → accepted (tokens_from s at) ≡ false
      unfolding tokens_from
      tilde-other g i = ap well_formed two ∙ text_malformed c d _ h g i
