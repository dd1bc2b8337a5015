use mathlib.Core.Path.{refl}
use Rattle.lexer.specs.Names.{part}
use Rattle.pointer.proofs.PartLaws.{part_backwards, part_outside, part_beyond}
use Rattle.pointer.proofs.tokens.between.Goals as goal

pub returns-then-to-from : goal.returns-then-to-from
unfolding part
returns-then-to-from c = part_backwards _ _ _ c.if-to-from.true

pub returns-then-s-from : goal.returns-then-s-from
unfolding part
returns-then-s-from c = part_outside _ _ _ c.if-s-from.true

pub returns-then-s-to : goal.returns-then-s-to
unfolding part
returns-then-s-to c = part_beyond _ _ _ c.if-s-to.true

pub returns : goal.returns
unfolding part
returns c = refl
