-- `worth` meets its contract: the number so far and the digits left say what all of them say.
use Rattle.std.proofs.Common.{sym, ◌∙◌, arith}
use Rattle.cases.proofs.NumeralLaws.{worth_none, worth_some, worth_next, worth_not, worth_all}
use Rattle.cases.proofs.numbers.worth.Goals as goal

pub returns-then-is_empty : goal.returns-then-is_empty
returns-then-is_empty c = sym (worth_none c.args.text.now c.is_empty.ensures c.if-is_empty.true)

pub loop-digit-init : goal.loop-digit-init
loop-digit-init c = (worth_some c.args.text.now c.is_empty.ensures c.if-is_empty.false, omega arith)

pub returns-then-not-is_ascii_digit : goal.returns-then-not-is_ascii_digit
returns-then-not-is_ascii_digit c =
    sym (worth_not c.args.text.now _ _ c.loop-digit-test.true c.is_ascii_digit.ensures.value c.then-not-is_ascii_digit.either) ∙ c.loop-digit.invariant.0

pub loop-digit-preserved : goal.loop-digit-preserved
loop-digit-preserved c = (
  sym (worth_next c.args.text.now _ _ c.loop-digit-test.true c.is_ascii_digit.ensures.value c.if-not-is_ascii_digit.false (omega arith))
      ∙ c.loop-digit.invariant.0,
  grind arith,
)

pub returns : goal.returns
returns c = sym (worth_all c.args.text.now c.loop-digit.n c.loop-digit.digit-index (omega arith)) ∙ c.loop-digit.invariant.0
