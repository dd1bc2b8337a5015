-- Whether a pointer's tokens are a proper prefix of another's.
use Rattle.std.specs.Prelude.{◌≡◌, Bool, true, false}
use Rattle.spec.specs.Outcome.{Outcome, ok}
use Rattle.spec.specs.Pointer.{Tokens}
use Rattle.spec.specs.Patch.{proper_prefix}
use Rattle.pointer.specs.declared.answers.First.{First}
use Rattle.pointer.specs.declared.answers.Token.{Token}

-- The answer on the tokens of two pointers. Where there are none, since a text is malformed, it is free.
pub record PrefixOf (of to : Outcome Tokens) (r : Bool) : Type 0 where
  pub right : (ts us : Tokens) → of ≡ ok ts → to ≡ ok us → r ≡ proper_prefix ts us

unfoldable pub is_next : Token → Bool
is_next (Token.Last end) = false
is_next (Token.Next end next) = true

unfoldable pub is_at : First → Bool
is_at First.Root = false
is_at (First.At at) = true
is_at First.Malformed = false
