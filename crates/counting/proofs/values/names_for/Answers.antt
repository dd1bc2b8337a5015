-- `names_for` meets its contract, by its test.
use Rattle.counting.specs.Values.{names_for}
use Rattle.counting.proofs.values.names_for.Goals as goal

pub returns-then-object : goal.returns-then-object
unfolding names_for
returns-then-object c = rw c.if-object.true c.place_of.ensures

pub returns : goal.returns
unfolding names_for
returns c = rw c.if-object.false
