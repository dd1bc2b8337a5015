-- `kind_permitted` meets its contract: the first operation, or a later one.
use Rattle.region.proofs.WithinLaws.{first-test, first-other, later-makers, later-other}
use Rattle.region.proofs.within.kind_permitted.Goals as goal

pub returns-in-Test : goal.returns-in-Test
returns-in-Test c = first-test _ _ c.if-op-eq1.true c.in-Test.is

pub returns-in_default : goal.returns-in_default
returns-in_default c = first-other _ _ c.if-op-eq1.true c.in_default.not-Test

pub returns-in-Add : goal.returns-in-Add
returns-in-Add c = later-makers _ _ c.if-op-eq1.false c.in-Add.is

pub returns-in_default-matches : goal.returns-in_default-matches
returns-in_default-matches c =
    let n = c.in_default-matches in later-other _ _ c.if-op-eq1.false n.not-Add n.not-Replace n.not-Test
