use mathlib.Core.Path.{sym}
use Rattle.spec.specs.Bytes.{byte}
use Rattle.lexer.proofs.Tests.{told}
use Rattle.text.specs.Letters.{none}
use Rattle.text.proofs.CompareLaws.{common_more}
use Rattle.text.proofs.compare.common.Goals as goal

pub returns-then-not-is_form : goal.returns-then-not-is_form
returns-then-not-is_form c = none

pub loop-i-init : goal.loop-i-init
loop-i-init c = none

pub loop-i-preserved : goal.loop-i-preserved
unfolding byte
loop-i-preserved c =
    let known = told c.is_form.ensures c.if-not-is_form.false in
    let too = told c.is_form-else-not-is_form.ensures c.if-not-is_form-2.false in
    common_more known too c.loop-i.invariant (sym c.if-a-i.false) (told c.is_letter.ensures c.if-not-is_letter.false)
