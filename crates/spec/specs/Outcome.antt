-- What a step of the work gives: a result, or a refusal with its number and its place.
use Rattle.std.specs.Prelude.{ℕ, Bool, true, false}
pub use Rattle.std.specs.Prelude.{if◌then◌else◌}

-- A refusal's number is that of the table in Refusal. Its place is a byte offset in a text that is read, the count of tokens walked along a
-- pointer that leads nowhere, and 0 where the table has no place.
pub data Outcome (A : Type 0) : Type 0 where
  ok : A → Outcome A
  refused : ℕ → ℕ → Outcome A

unfoldable pub is_refused : {A : Type 0} → Outcome A → Bool
is_refused (ok a) = false
is_refused (refused number place) = true

infixl 20 ◌>>=◌
-- the next step on the result; a refusal is handed on
unfoldable pub ◌>>=◌ : {A B : Type 0} → Outcome A → (A → Outcome B) → Outcome B
◌>>=◌ (ok a) next = next a
◌>>=◌ (refused number place) next = refused number place

-- a refusal, with no place, where a test fails
unfoldable pub require : ℕ → Bool → Outcome (Unit {0})
require number test = if test then ok tt else refused number 0
