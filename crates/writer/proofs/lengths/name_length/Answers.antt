-- `name_length` meets its contract, by that of `string_length`.
use native.Mathlib.Omega.{arith}
use mathlib.Core.Path.{refl, sym, ap}
use lib.ListN.{length}
use Rattle.writer.proofs.PieceLaws.{name_element}
use Rattle.writer.proofs.LengthLaws.{string-short, name_counted}
use Rattle.tape.specs.Lent.{both}
use Rattle.writer.proofs.lengths.name_length.Goals as goal

pub returns-then-not-object : goal.returns-then-not-object
returns-then-not-object c = sym (ap length (name_element _ _ _ c.if-not-object.true))

pub overflow_add-result : goal.overflow_add-result
overflow_add-result c = omega (arith, string-short (both c.args.texts) c.args.name.text)

pub returns : goal.returns
returns c = name_counted _ _ _ c.if-not-object.false refl c.string_length.ensures
