-- T-11: "one for each value in the order of their first written bytes", of the text that is written. SPECIFICATION 19.3.
use Rattle.std.specs.Prelude.{◌≡◌, ℕ, ◌+◌, ◌≤◌, List, [], ◌∷◌, ◌++◌, map, length, drop}
use Rattle.spec.specs.Bytes.{Bytes}
use Rattle.spec.specs.Forest.{none, tree}
use Rattle.spec.specs.Write.{write}
use Rattle.spec.specs.Answer.{Lent, success}
use Rattle.spec.specs.Proper.{Proper}
use Rattle.origin.specs.Value as Value
use Rattle.origin.specs.Value.{Members, forget, origins}
use Rattle.origin.specs.Answer as Answer
use Rattle.origin.specs.Answer.{Lending, answer}

-- a value and all values in it
unfoldable pub values_of : Members → List Value.Value
values_of none = []
values_of (tree e kids rest) = record { label = e.label; origin = e.origin; kids = kids } ∷ (values_of kids ++ values_of rest)

unfoldable pub values : Value.Value → List Value.Value
values v = v ∷ values_of v.kids

-- the text t stands in s at a place
pub record StandsAt (s : Bytes) (at : ℕ) (t : Bytes) : Type 0 where
  pub after : Bytes
  pub is : drop at s ≡ t ++ after

-- The texts of these values stand in s, from a place on and before another, and the first byte of each is behind that of the one before.
pub data InOrder (s : Bytes) : ℕ → List Value.Value → ℕ → Type 0 where
  no_more : {start end : ℕ} → start ≤ end → InOrder s start [] end
  next : {start at end : ℕ} {v : Value.Value} {vs : List Value.Value} → start ≤ at → StandsAt s at (write (forget v)) → InOrder s (at + 1) vs end →
      InOrder s start (v ∷ vs) end

-- a written text and the origins listed beside it: those of one value, in the order in which the values in it begin in the text
pub record Traced (text : Bytes) (os : List ℕ) : Type 0 where
  pub value : Value.Value
  pub written : text ≡ write (forget value)
  pub listed : os ≡ origins value
  pub ordered : InOrder text 0 (values value) (length text + 1)

pub record OrderStatement : Type 0 where
  -- the origins are those of these values
  pub of_values : (v : Value.Value) → origins v ≡ map (λ x. x.origin) (values v)
  -- and the values stand in the text in this order
  pub ordered : (v : Value.Value) → Proper (forget v) → InOrder (write (forget v)) 0 (values v) (length (write (forget v)) + 1)
  -- so in the call
  pub traced : (document patch text : Bytes) (lent : Lending Lent) (os : List ℕ) → answer document patch lent ≡ Answer.listed (success text) os →
      Traced text os
