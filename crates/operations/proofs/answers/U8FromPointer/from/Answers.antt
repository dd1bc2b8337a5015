-- The number of a pointer's variant is that of an answer.
use Prim.Native.Nat.{◌+◌}
use mathlib.Core.Path.{◌≡◌, refl}
use denote.Enum.Declared.{tag_of}
use Rattle.operations.specs.Answers.{numbered}
use Rattle.operations.specs.declared.answers.Pointer.{Pointer}
use Rattle.operations.specs.contracts.answers.Pointer.{the_type}
use Rattle.operations.proofs.answers.U8FromPointer.from.Goals as goal

tagged : (p : Pointer) → tag_of the_type p + 1 ≡ numbered p
unfolding numbered
tagged Pointer.Path = refl
tagged Pointer.From = refl

pub returns : goal.returns
returns c = tagged c.args.pointer
