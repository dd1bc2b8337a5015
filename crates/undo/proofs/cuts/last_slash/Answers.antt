-- `last_slash`: the last slash so far, and the measure is what is left of the pointer.
use mathlib.Core.Path.{refl}
use Rattle.lexer.proofs.AnswerLaws.{scalar_ok, character_refused}
use Rattle.text.specs.Letters.{letter_at}
use Rattle.undo.proofs.SlashLaws.{scan_start, scan_slash, scan_other, scan_less, scan_done}
use Rattle.undo.proofs.cuts.last_slash.Goals as goal

pub loop-code-init : goal.loop-code-init
unfolding letter_at
loop-code-init c = scan_start _

pub returns : goal.returns
unfolding letter_at
returns c = scan_done _ refl refl c.loop-code.invariant (character_refused _ c.letter.ensures c.in_default.is)

pub loop-code-smaller-then-code-eq47 : goal.loop-code-smaller-then-code-eq47
unfolding letter_at
loop-code-smaller-then-code-eq47 c = scan_less c.loop-code.invariant (scalar_ok _ c.letter.ensures c.in-Ok.is)

pub loop-code-preserved-then-code-eq47 : goal.loop-code-preserved-then-code-eq47
unfolding letter_at
loop-code-preserved-then-code-eq47 c = scan_slash c.loop-code.invariant (scalar_ok _ c.letter.ensures c.in-Ok.is) c.if-code-eq47.true

pub loop-code-smaller : goal.loop-code-smaller
unfolding letter_at
loop-code-smaller c = scan_less c.loop-code.invariant (scalar_ok _ c.letter.ensures c.in-Ok.is)

pub loop-code-preserved : goal.loop-code-preserved
unfolding letter_at
loop-code-preserved c = scan_other c.loop-code.invariant (scalar_ok _ c.letter.ensures c.in-Ok.is) c.if-code-eq47.false
