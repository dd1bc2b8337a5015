-- `number` meets its contract.
use native.Mathlib.Omega.{arith}
use Rattle.spec.proofs.FaultLaws.{handed}
use Rattle.lexer.proofs.AnswerLaws.{to_ok, scan_refused}
use Rattle.lexer.proofs.NumberLaws.{number-ok_past}
use Rattle.reader.proofs.WordLaws.{number_read, number-refused}
use Rattle.reader.proofs.words.number.Goals as goal

pub returns-in_err-next : goal.returns-in_err-next
returns-in_err-next c = rw (handed _ c.from_residual.ensures.1) (number-refused _ _ _ _ (scan_refused _ c.number.ensures c.in_err-next.was))

pub spell_number-requires : goal.spell_number-requires
spell_number-requires c = let k = number-ok_past _ _ _ (to_ok _ c.number.ensures c.in_ok-next.was) in (omega arith, omega arith)

pub returns : goal.returns
returns c =
    number_read _ _ _ _ _ (omega arith) (to_ok _ c.number.ensures c.in_ok-next.was) c.spell_number.ensures
