-- A pointer's part is cut into those of its tokens where its characters are slashes.
use Rattle.std.specs.Prelude.{if◌then◌else◌}
use mathlib.Core.Path.{◌≡◌, refl, sym, ap, ◌∙◌}
use mathlib.Core.Bool.{Bool, true, false, not, ◌&&◌, true≢false}
use mathlib.Core.List.{List, [], ◌∷◌, ◌++◌, append-nil}
use Prim.Native.Nat.{ℕ, ◌≤◌}
use Prim.Native.Char.{code}
use lib.ListN.{length}
use lib.Dec.{eqb}
use Rattle.spec.specs.Outcome.{refused}
use Rattle.spec.specs.Bytes.{Bytes, Text}
use Rattle.spec.specs.Pointer.{prepend, segments}
use Rattle.lexer.specs.Names.{part}
use Rattle.text.specs.Decode.{character_in, decode_from, decode}
use Rattle.text.proofs.DecodeLaws.{Reads, reads_decode, reads_part, decode_ends}

unfoldable pub no_slash : Text → Bool
no_slash [] = true
no_slash (c ∷ cs) = not (eqb c (code "/")) && no_slash cs

-- the first character of a segment
segment_more : (c : ℕ) (cs t u : Text) (ts : List Text) → no_slash (c ∷ cs) ≡ true → (no_slash cs ≡ true → segments u ≡ t ∷ ts) → segments (c ∷ u) ≡ (c ∷ t)
    ∷ ts
unfolding segments prepend no_slash
segment_more c cs t u ts h ih = go (eqb c (code "/")) h
  where
    go : (slash : Bool) → (not slash && no_slash cs) ≡ true → (if slash then [] ∷ segments u else prepend c (segments u)) ≡ (c ∷ t) ∷ ts
    go true h = absurd (true≢false (sym h))
    go false h = ap (prepend c) (ih h)

-- up to a slash, and up to the end
segments_slash : (cs t : Text) → no_slash cs ≡ true → segments (cs ++ (code "/" ∷ t)) ≡ cs ∷ segments t
unfolding segments
segments_slash [] t h = refl
segments_slash (c ∷ cs) t h = segment_more c cs cs (cs ++ (code "/" ∷ t)) (segments t) h (segments_slash cs t)

segments_last : (cs : Text) → no_slash cs ≡ true → segments cs ≡ cs ∷ []
unfolding segments
segments_last [] h = refl
segments_last (c ∷ cs) h = segment_more c cs cs cs [] h (segments_last cs)

module _ {s : Bytes} {from at : ℕ} {cs : Text} (l : from ≤ length s) (r : Reads s from cs at) (h : no_slash cs ≡ true) where
  pub token_last : (number place : ℕ) → character_in s at ≡ refused number place → segments (decode_from s from) ≡ decode (part s from at) ∷ []
  token_last number place e =
      ap segments (reads_decode r ∙ ap (λ t. cs ++ t) (decode_ends s at e) ∙ append-nil cs) ∙ segments_last cs h ∙ ap (λ t. t ∷ []) (sym (reads_part l r))
