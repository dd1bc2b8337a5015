-- From token to token: how a caller that holds a pointer's tokens as a list goes on with the places that the code answers.
use mathlib.Core.Path.{◌≡◌, refl, sym, ap, ◌∙◌}
use mathlib.Core.Bool.{false}
use mathlib.Core.List.{List, [], ◌∷◌}
use Prim.Native.Nat.{ℕ, ◌<◌, ◌≤◌}
use lib.ListN.{length}
use Rattle.spec.specs.Outcome.{Outcome, ok}
use Rattle.spec.specs.Bytes.{Bytes, Text}
use Rattle.spec.specs.Pointer.{Tokens, tokens, unescape, unescape_all}
use Rattle.spec.proofs.OutcomeLaws.{refused≢ok, both_ok}
use Rattle.lexer.specs.Names.{part}
use Rattle.text.specs.Decode.{decode, unescape_token, text_from, text_of}
use Rattle.text.proofs.TokenLaws.{unescape_token_lem}
use Rattle.pointer.specs.declared.answers.First.{First}
use Rattle.pointer.specs.declared.answers.Token.{Token}
use Rattle.pointer.specs.Tokens.{tokens_from, tokens_after, Inside, FirstOf, token_bytes, segments_after, InOrder, TokenAt}

-- ---- where the tokens begin

module _ (s : Bytes) (f : First) (right : FirstOf s f) where
  pub first_root : (ts : Tokens) → f ≡ First.Root → tokens (decode s) ≡ ok ts → ts ≡ []
  unfolding tokens_after
  first_root ts e h = let same : ok [] ≡ ok ts = sym (right.gives ∙ ap (tokens_after s) e) ∙ h in cc

  pub first_at : (at : ℕ) (ts : Tokens) → f ≡ First.At at → tokens (decode s) ≡ ok ts → tokens_from s at ≡ ok ts
  unfolding tokens_after
  first_at at ts e h = sym (right.gives ∙ ap (tokens_after s) e) ∙ h

  pub first_malformed : (ts : Tokens) → f ≡ First.Malformed → tokens (decode s) ≡ ok ts → ⊥
  unfolding tokens_after
  first_malformed ts e h = refused≢ok (sym (right.gives ∙ ap (tokens_after s) e) ∙ h)

  pub first-inside : (at : ℕ) → f ≡ First.At at → at ≤ length s
  unfolding Inside
  first-inside at e = rw e at right.inside

-- ---- one token off the tokens from a place on

-- the first of the tokens ts is t, and the others are the rest
pub record Unfolds (t : Text) (others : Outcome Tokens) (ts : Tokens) : Type 0 where
  pub rest : Tokens
  pub is : ts ≡ t ∷ rest
  pub from : others ≡ ok rest

pub unescaped : (t : Text) (us : List Text) (ts : Tokens) → unescape_all (t ∷ us) ≡ ok ts → Unfolds (unescape_token t) (unescape_all us) ts
unfolding unescape_all
unescaped t us ts h =
    let (v, e, i) = both_ok (unescape false t) _ ts h in
    let (vs, f, j) = both_ok (unescape_all us) _ ts i in
    let same : v ∷ vs ≡ ts = cc in
    record { rest = vs; is = sym same ∙ ap (λ w. w ∷ vs) (sym (unescape_token_lem t v e)); from = f }

-- what a token's part says
token_text : (part : Bytes) → text_of 3 part ≡ unescape_token (decode part)
unfolding text_of text_from decode
token_text part = refl

-- the tokens behind one that was answered
abbrev pub tokens_behind : Bytes → Token → Outcome Tokens
tokens_behind s t = unescape_all (segments_after s t)

pub first-token : (s : Bytes) (at : ℕ) (t : Token) (ts : Tokens) → TokenAt s at t → tokens_from s at ≡ ok ts →
    Unfolds (text_of 3 (token_bytes s at t)) (tokens_behind s t) ts
unfolding tokens_from
first-token s at t ts right h =
    rw (token_text (token_bytes s at t)) (unescaped (decode (token_bytes s at t)) (segments_after s t) ts (ap unescape_all (sym right.splits) ∙ h))

pub behind_last : (s : Bytes) (t : Token) (end : ℕ) → t ≡ Token.Last end → tokens_behind s t ≡ ok []
unfolding segments_after unescape_all
behind_last s t end e = rw e

pub behind_next : (s : Bytes) (t : Token) (end next : ℕ) → t ≡ Token.Next end next → tokens_behind s t ≡ tokens_from s next
unfolding segments_after tokens_from
behind_next s t end next e = rw e

module _ (s : Bytes) (at : ℕ) (t : Token) (right : TokenAt s at t) where
  pub last_token_lem : (end : ℕ) (ts : Tokens) → t ≡ Token.Last end → tokens_from s at ≡ ok ts → ts ≡ text_of 3 (token_bytes s at t) ∷ []
  last_token_lem end ts e h =
      let f = first-token s at t ts right h in
      let same : ok [] ≡ ok f.rest = sym (behind_last s t end e) ∙ f.from in
      let none : [] ≡ f.rest = cc in
      f.is ∙ ap (◌∷◌ (text_of 3 (token_bytes s at t))) (sym none)

  pub next_token : (end next : ℕ) (ts : Tokens) → t ≡ Token.Next end next → tokens_from s at ≡ ok ts →
      Unfolds (text_of 3 (token_bytes s at t)) (tokens_from s next) ts
  next_token end next ts e h =
      let f = first-token s at t ts right h in
      record { rest = f.rest; is = f.is; from = sym (behind_next s t end next e) ∙ f.from }

  pub next_order : (end next : ℕ) → t ≡ Token.Next end next → (at ≤ end) × (end < next) × (next ≤ length s)
  unfolding InOrder
  next_order end next e = rw e at right.in_order
