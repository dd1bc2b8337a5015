-- `next_name` meets its contract.
use mathlib.Core.Path.{refl}
use Rattle.spec.proofs.FaultLaws.{handed}
use Rattle.lexer.proofs.AnswerLaws.{to_ok, scan_refused}
use Rattle.reader.proofs.MemberLaws.{next_no_comma, next_named}
use Rattle.reader.proofs.items.next_name.Goals as goal

pub returns-in_err-first : goal.returns-in_err-first
returns-in_err-first c =
    rw (handed _ c.from_residual.ensures.1) (next_no_comma _ _ _ _ _ refl _ (scan_refused _ c.comma.ensures c.in_err-first.was))

pub returns : goal.returns
returns c = next_named _ _ _ _ _ refl (to_ok _ c.comma.ensures c.in_ok-first.was) c.item_name.ensures
