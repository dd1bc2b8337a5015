-- `string` meets its contract.
use native.Mathlib.Omega.{arith}
use Rattle.spec.proofs.FaultLaws.{handed}
use Rattle.lexer.proofs.NameLaws.{quoted_read, quoted_refused}
use Rattle.reader.proofs.WordLaws.{quoted_closed, string-read, string-refused}
use Rattle.reader.proofs.words.string.Goals as goal

pub returns-in_err-read : goal.returns-in_err-read
returns-in_err-read c = rw (handed _ c.from_residual.ensures.1) (string-refused _ _ _ _ (quoted_refused _ _ _ c.quoted.ensures c.in_err-read.was))

pub overflow_add-at : goal.overflow_add-at
overflow_add-at c = omega (arith, quoted_closed (quoted_read _ _ _ c.quoted.ensures c.in_ok-read.was))

pub spell_string-requires : goal.spell_string-requires
spell_string-requires c =
    let k = quoted_closed (quoted_read _ _ _ c.quoted.ensures c.in_ok-read.was) in (omega arith, omega arith)

pub returns : goal.returns
returns c =
    string-read _ _ _ _ _ _ (omega arith) (quoted_read _ _ _ c.quoted.ensures c.in_ok-read.was) c.spell_string.ensures
