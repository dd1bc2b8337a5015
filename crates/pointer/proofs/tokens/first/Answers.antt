use Rattle.lexer.proofs.AnswerLaws.{scalar_ok, character_refused}
use Rattle.pointer.proofs.ScanLaws.{first_none, first_slash, first-other}
use Rattle.pointer.proofs.tokens.first.Goals as goal

pub returns-in_default : goal.returns-in_default
returns-in_default c = first_none _ (character_refused _ c.character_in.ensures c.in_default.is)

pub returns-then-c-eq47 : goal.returns-then-c-eq47
returns-then-c-eq47 c = first_slash _ _ _ (scalar_ok _ c.character_in.ensures c.in-Ok.is) c.if-c-eq47.true

pub returns : goal.returns
returns c = first-other _ _ _ (scalar_ok _ c.character_in.ensures c.in-Ok.is) c.if-c-eq47.false
