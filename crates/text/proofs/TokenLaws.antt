-- A token that the definition of pointers accepts is unescaped as that definition has it.
use Rattle.std.specs.Prelude.{if◌then◌else◌}
use mathlib.Core.Path.{◌≡◌, ap, ◌∙◌}
use mathlib.Core.Bool.{Bool, true, false, ◌&&◌}
use mathlib.Core.List.{[], ◌∷◌}
use Prim.Native.Nat.{ℕ}
use Prim.Native.Char.{code}
use lib.Dec.{eqb}
use Rattle.spec.specs.Outcome.{Outcome, ok, refused, ◌>>=◌}
use Rattle.spec.specs.Bytes.{Text}
use Rattle.spec.specs.Pointer.{tilde, unescape}
use Rattle.spec.proofs.OutcomeLaws.{refused≢ok, both_ok}
use Rattle.text.specs.Decode.{unescape_token}

-- a character before what was unescaped
unescaped-more : (c : ℕ) (o : Outcome Text) (v u : Text) → ((t : Text) → o ≡ ok t → v ≡ t) → (o >>= λ t. ok (c ∷ t)) ≡ ok u → c ∷ v ≡ u
unescaped-more c o v u ih h =
    let (t, e, i) = both_ok o _ u h in
    let same : c ∷ t ≡ u = cc in
    ap (◌∷◌ c) (ih t e) ∙ same

-- the character after a `~`, and what the others are unescaped to
unescaped-tilde : (d : ℕ) (o : Outcome Text) (v w u : Text) → ((t : Text) → o ≡ ok t → v ≡ t) → (tilde d >>= λ e. o >>= λ t. ok (e ∷ t)) ≡ ok u →
    (if eqb d (code "0") then code "~" ∷ v else if eqb d (code "1") then code "/" ∷ v else w) ≡ u
unfolding tilde ◌>>=◌
unescaped-tilde d o v w u ih h = go (eqb d (code "0")) (eqb d (code "1")) h
  where
    go : (zero one : Bool) → ((if zero then ok (code "~") else if one then ok (code "/") else refused 10 0) >>= λ e. o >>= λ t. ok (e ∷ t)) ≡ ok u →
        (if zero then code "~" ∷ v else if one then code "/" ∷ v else w) ≡ u
    go true one h = unescaped-more (code "~") o v u ih h
    go false true h = unescaped-more (code "/") o v u ih h
    go false false h = absurd (refused≢ok h)

pub unescape_token_lem : (t u : Text) → unescape false t ≡ ok u → unescape_token t ≡ u
unfolding unescape unescape_token
unescape_token_lem [] u h = cc
unescape_token_lem (c ∷ []) u h = go (eqb c (code "~")) h
  where
    go : (escaped : Bool) → (if escaped then refused 10 0 else (ok [] >>= λ t. ok (c ∷ t))) ≡ ok u → c ∷ [] ≡ u
    go true h = absurd (refused≢ok h)
    go false h = unescaped-more c (ok []) [] u (λ t e. cc) h
unescape_token_lem (c ∷ d ∷ s) u h = go (eqb c (code "~")) h (unescape_token_lem s) (unescape_token_lem (d ∷ s))
  where
    go : (escaped : Bool) → (if escaped then (tilde d >>= λ e. unescape false s >>= λ t. ok (e ∷ t)) else (unescape false (d ∷ s) >>= λ t. ok (c ∷ t))) ≡ ok u →
        ((u : Text) → unescape false s ≡ ok u → unescape_token s ≡ u) → ((u : Text) → unescape false (d ∷ s) ≡ ok u → unescape_token (d ∷ s) ≡ u) →
        (if escaped && eqb d (code "0") then code "~" ∷ unescape_token s else if escaped && eqb d (code "1")
        then code "/" ∷ unescape_token s else c ∷ unescape_token (d ∷ s)) ≡ u
    go true h ih it = unescaped-tilde d (unescape false s) (unescape_token s) (c ∷ unescape_token (d ∷ s)) u ih h
    go false h ih it = unescaped-more c (unescape false (d ∷ s)) (unescape_token (d ∷ s)) u it h
