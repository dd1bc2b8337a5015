-- What the code's kinds of operations stand for.
use Rattle.std.specs.Prelude.{Bool, false, Option, Some, None}
use Rattle.spec.specs.Outcome.{Outcome, ok, refused}
use Rattle.spec.specs.Refusal.{wrong_shape}
use Rattle.spec.specs.Operation as Operation
use Rattle.spec.specs.Patch.{uses_value, uses_from, is_move}
use Rattle.shape.specs.declared.kinds.Kind.{Kind}
use Rattle.shape.specs.declared.kinds.Uses.{Uses}

-- the kind of the definitions
unfoldable pub spec_kind : Kind → Operation.Kind
spec_kind Kind.Add = Operation.add
spec_kind Kind.Remove = Operation.remove
spec_kind Kind.Replace = Operation.replace
spec_kind Kind.Move = Operation.move
spec_kind Kind.Copy = Operation.copy
spec_kind Kind.Test = Operation.test

-- a kind that is known, or none
unfoldable pub kind_outcome : Option Kind → Outcome Operation.Kind
kind_outcome (Some k) = ok (spec_kind k)
kind_outcome None = refused wrong_shape 0

-- a question about a kind; the answer about an unknown one is no
unfoldable pub asks : (Operation.Kind → Bool) → Option Kind → Bool
asks q (Some k) = q (spec_kind k)
asks q None = false

-- what a kind uses, as the definitions say
abbrev pub uses_of : Option Kind → Uses
uses_of k = record { value = asks uses_value k; from = asks uses_from k; moves = asks is_move k }
