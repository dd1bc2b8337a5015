-- `slash_at` meets its contract, by the byte and by the character there.
use mathlib.Core.Path.{sym, ◌∙◌}
use Rattle.lexer.proofs.AnswerLaws.{scalar_ok, character_refused}
use Rattle.region.proofs.BeginsLaws.{slash_here, slash_none, slash_some}
use Rattle.region.proofs.compare.slash_at.Goals as goal

pub returns-then-peek-eq47 : goal.returns-then-peek-eq47
returns-then-peek-eq47 c = slash_here _ _ (sym c.peek.ensures ∙ c.if-peek-eq47.true)

pub returns-in-Ok : goal.returns-in-Ok
returns-in-Ok c = slash_some _ _ (scalar_ok _ c.string_letter.ensures c.in-Ok.is)

pub returns-in-Err : goal.returns-in-Err
returns-in-Err c = slash_none _ _ (character_refused _ c.string_letter.ensures c.in-Err.is)
