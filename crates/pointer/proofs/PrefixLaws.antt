-- Proper prefixes, token by token.
use Rattle.std.specs.Prelude.{if◌then◌else◌}
use mathlib.Core.Path.{◌≡◌, refl, sym, ap, ap₂, ◌∙◌}
use mathlib.Core.Bool.{Bool, true, false, ◌&&◌}
use mathlib.Core.List.{List, [], ◌∷◌}
use Prim.Native.Nat.{ℕ}
use Prim.Native.Char.{code}
use lib.Dec.{eqb}
use Rattle.spec.specs.Outcome.{Outcome, ok}
use Rattle.spec.specs.Bytes.{Bytes, Text}
use Rattle.spec.specs.Value.{same_text}
use Rattle.spec.specs.Pointer.{Tokens, tokens, prepend, segments, unescape_all}
use Rattle.spec.specs.Patch.{proper_prefix}
use Rattle.text.specs.Decode.{decode, decode_from, text_of}
use Rattle.pointer.specs.declared.answers.First.{First}
use Rattle.pointer.specs.declared.answers.Token.{Token}
use Rattle.pointer.specs.Tokens.{tokens_from, token_bytes, segments_after, FirstOf, TokenAt}
use Rattle.pointer.specs.Prefix.{is_next, is_at, PrefixOf}
use Rattle.pointer.proofs.WalkLaws.{Unfolds, unescaped, first_root, first_at, first_malformed, tokens_behind, first-token, behind_last, behind_next}

-- ---- lists of tokens

nothing_shorter : (ts : Tokens) → proper_prefix ts [] ≡ false
unfolding proper_prefix
nothing_shorter [] = refl
nothing_shorter (t ∷ ts) = refl

-- there is a token for each segment, and so at least one from any place on
cons_some : (u : Text) (us : List Text) (ts : Tokens) → unescape_all (u ∷ us) ≡ ok ts → true ≡ proper_prefix [] ts
unfolding proper_prefix
cons_some u us ts h = rw (unescaped u us ts h).is

prepend_some : (c : ℕ) (us : List Text) (ts : Tokens) → unescape_all (prepend c us) ≡ ok ts → true ≡ proper_prefix [] ts
unfolding prepend
prepend_some c [] ts h = cons_some (c ∷ []) [] ts h
prepend_some c (u ∷ us) ts h = cons_some (c ∷ u) us ts h

segments_some : (t : Text) (ts : Tokens) → unescape_all (segments t) ≡ ok ts → true ≡ proper_prefix [] ts
unfolding segments
segments_some [] ts h = cons_some [] [] ts h
segments_some (c ∷ t) ts h = go (eqb c (code "/")) h
  where
    go : (slash : Bool) → unescape_all (if slash then [] ∷ segments t else prepend c (segments t)) ≡ ok ts → true ≡ proper_prefix [] ts
    go true h = cons_some [] (segments t) ts h
    go false h = prepend_some c (segments t) ts h

behind_some : (s : Bytes) (t : Token) (ts : Tokens) → tokens_behind s t ≡ ok ts → is_next t ≡ proper_prefix [] ts
unfolding segments_after unescape_all is_next proper_prefix
behind_some s (Token.Last end) ts h = let none : [] ≡ ts = cc in rw (← none)
behind_some s (Token.Next end next) ts h = segments_some (decode_from s next) ts h

first_some : (s : Bytes) (f : First) (ts : Tokens) → FirstOf s f → tokens (decode s) ≡ ok ts → is_at f ≡ proper_prefix [] ts
unfolding is_at proper_prefix tokens_from
first_some s First.Root ts r h = rw (first_root s First.Root r ts refl h)
first_some s (First.At at) ts r h = segments_some (decode_from s at) ts (first_at s (First.At at) r at ts refl h)
first_some s First.Malformed ts r h = absurd (first_malformed s First.Malformed r ts refl h)

-- ---- two tokens

module _ (a : Bytes) (i : ℕ) (s : Token) (b : Bytes) (j : ℕ) (t : Token) (here : TokenAt a i s) (there : TokenAt b j t) (same : Bool)
    (right : same ≡ same_text (text_of 3 (token_bytes a i s)) (text_of 3 (token_bytes b j t))) where
  first-tokens : (ts us : Tokens) (p : Unfolds (text_of 3 (token_bytes a i s)) (tokens_behind a s) ts)
      (q : Unfolds (text_of 3 (token_bytes b j t)) (tokens_behind b t) us) →
      proper_prefix ts us ≡ (same && proper_prefix p.rest q.rest)
  unfolding proper_prefix
  first-tokens ts us p q = ap₂ proper_prefix p.is q.is ∙ ap (λ r. r && proper_prefix p.rest q.rest) (sym right)

  -- tokens that differ end the comparison
  pub prefix_differs : same ≡ false → PrefixOf (tokens_from a i) (tokens_from b j) false
  prefix_differs e =
      record {
        right = λ ts us h g.
            let p = first-token a i s ts here h in
            let q = first-token b j t us there g in
            sym (first-tokens ts us p q ∙ ap (λ r. r && proper_prefix p.rest q.rest) e);
      }

  -- after equal ones, the tokens behind decide
  pub prefix_behind : (r : Bool) → same ≡ true → PrefixOf (tokens_behind a s) (tokens_behind b t) r → PrefixOf (tokens_from a i) (tokens_from b j) r
  prefix_behind r e behind =
      record {
        right = λ ts us h g.
            let p = first-token a i s ts here h in
            let q = first-token b j t us there g in
            behind.right p.rest q.rest p.from q.from ∙ sym (first-tokens ts us p q ∙ ap (λ r. r && proper_prefix p.rest q.rest) e);
      }

-- ---- the tokens behind

pub last_behind : (a : Bytes) (s : Token) (b : Bytes) (t : Token) (end : ℕ) → s ≡ Token.Last end → PrefixOf (tokens_behind a s) (tokens_behind b t) (is_next t)
last_behind a s b t end e =
    record {
      right = λ ts us h g.
          let same : ok [] ≡ ok ts = sym (behind_last a s end e) ∙ h in
          let none : [] ≡ ts = cc in
          behind_some b t us g ∙ ap (λ ts. proper_prefix ts us) none;
    }

pub none_behind : (a : Bytes) (s : Token) (b : Bytes) (t : Token) (end : ℕ) → t ≡ Token.Last end → PrefixOf (tokens_behind a s) (tokens_behind b t) false
none_behind a s b t end e =
    record {
      right = λ ts us h g.
          let same : ok [] ≡ ok us = sym (behind_last b t end e) ∙ g in
          let none : us ≡ [] = cc in
          sym (ap (proper_prefix ts) none ∙ nothing_shorter ts);
    }

pub both_behind : (a : Bytes) (s : Token) (b : Bytes) (t : Token) (m i n j : ℕ) (r : Bool) → s ≡ Token.Next m i → t ≡ Token.Next n j →
    PrefixOf (tokens_from a i) (tokens_from b j) r → PrefixOf (tokens_behind a s) (tokens_behind b t) r
both_behind a s b t m i n j r e f p = rw (behind_next a s m i e, behind_next b t n j f) p

-- ---- where the tokens begin

-- neither a malformed text nor the root has tokens
module _ (s : Bytes) (f : First) (right : FirstOf s f) (others : Outcome Tokens) where
  pub of_root : f ≡ First.Root → PrefixOf others (tokens (decode s)) false
  of_root e = record { right = λ ts us h k. sym (ap (proper_prefix ts) (first_root s f right us e k) ∙ nothing_shorter ts) }

  pub of_malformed : (r : Bool) → f ≡ First.Malformed → PrefixOf others (tokens (decode s)) r
  of_malformed r e = record { right = λ ts us h k. absurd (first_malformed s f right us e k) }

  pub malformed_prefix : (r : Bool) → f ≡ First.Malformed → PrefixOf (tokens (decode s)) others r
  malformed_prefix r e = record { right = λ ts us h k. absurd (first_malformed s f right ts e h) }

module _ (a : Bytes) (f : First) (b : Bytes) (g : First) (here : FirstOf a f) (there : FirstOf b g) where
  pub root_prefix : f ≡ First.Root → PrefixOf (tokens (decode a)) (tokens (decode b)) (is_at g)
  root_prefix e = record { right = λ ts us h k. first_some b g us there k ∙ ap (λ ts. proper_prefix ts us) (sym (first_root a f here ts e h)) }

  pub prefix_at : (i j : ℕ) (r : Bool) → f ≡ First.At i → g ≡ First.At j
      → PrefixOf (tokens_from a i) (tokens_from b j) r → PrefixOf (tokens (decode a)) (tokens (decode b)) r
  prefix_at i j r d e p = record { right = λ ts us h k. p.right ts us (first_at a f here i ts d h) (first_at b g there j us e k) }
