-- Outcomes behind tokens that were walked: a result is the same, and a refusal's place counts those tokens too.
use mathlib.Core.Path.{◌≡◌, refl}
use mathlib.Core.List.{[], ◌∷◌}
use Rattle.spec.specs.Outcome.{Outcome, ok, refused, ◌>>=◌}
use Rattle.spec.specs.Pointer.{Tokens, farther}
use Rattle.spec.proofs.OutcomeLaws.{refused≢ok}

pub farther_ok : {A : Type 0} (o : Outcome A) {a : A} → farther o ≡ ok a → o ≡ ok a
unfolding farther
farther_ok (ok b) h = h
farther_ok (refused n k) h = absurd (refused≢ok h)

pub farther_then : {A B : Type 0} (o : Outcome A) (next : A → Outcome B) → farther (o >>= next) ≡ farther o >>= λ a. farther (next a)
unfolding farther ◌>>=◌
farther_then (ok a) next = refl
farther_then (refused n k) next = refl

-- behind all of these tokens
unfoldable pub behind : {A : Type 0} → Tokens → Outcome A → Outcome A
behind [] o = o
behind (t ∷ ts) o = farther (behind ts o)
