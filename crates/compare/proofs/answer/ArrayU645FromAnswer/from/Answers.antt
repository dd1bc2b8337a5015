-- The fields are the answer's.
use mathlib.Core.Path.{◌≡◌, refl, ◌∙◌}
use mathlib.Core.Bool.{Bool, true, false}
use Rattle.std.specs.Int.{from_bool}
use Rattle.compare.specs.Call.{bit}
use Rattle.compare.proofs.answer.ArrayU645FromAnswer.from.Goals as goal

bit_is : (b : Bool) → from_bool b ≡ bit b
unfolding bit
bit_is true = refl
bit_is false = refl

pub returns : goal.returns
returns c = rw (c.from.ensures ∙ bit_is c.args.r.equal) refl
