-- The number of a refusal's variant is that of the definitions.
use Prim.Native.Nat.{◌+◌}
use mathlib.Core.Path.{◌≡◌, refl}
use denote.Enum.Declared.{tag_of}
use Rattle.spec.specs.Fault.{number_of}
use Rattle.spec.specs.declared.refusal.Refusal.{Refusal}
use Rattle.spec.specs.declared.refusal.Refusal.TheVariants as Refusal
use Rattle.spec.specs.contracts.refusal.Refusal.{the_type}
use Rattle.spec.proofs.refusal.U8FromRefusal.from.Goals as goal

numbered : (r : Refusal) → tag_of the_type r + 1 ≡ number_of r
unfolding number_of
numbered Refusal.WorkTooShort = refl
numbered Refusal.InputTooLong = refl
numbered Refusal.NotJson = refl
numbered Refusal.RepeatedName = refl
numbered Refusal.TooDeep = refl
numbered Refusal.TooManyNodes = refl
numbered Refusal.NumberOverLimit = refl
numbered Refusal.WrongShape = refl
numbered Refusal.TooManyOperations = refl
numbered Refusal.MalformedPointer = refl
numbered Refusal.LocationMissing = refl
numbered Refusal.NoIndex = refl
numbered Refusal.RemoveOfRoot = refl
numbered Refusal.MoveIntoChild = refl
numbered Refusal.TestDiffers = refl
numbered Refusal.OutputTooShort = refl
numbered Refusal.NotPermitted = refl

pub returns : goal.returns
returns c = numbered c.args.refusal
