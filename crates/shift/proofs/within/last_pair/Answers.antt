-- `last_pair` meets its contract, by which token it is.
use Rattle.shift.specs.Shift.{pair_apart}
use Rattle.shift.proofs.SiblingLaws.{last_paired}
use Rattle.shift.proofs.within.last_pair.Goals as goal

pub returns-in-Last : goal.returns-in-Last
returns-in-Last c = last_paired _ c.in-Last.is c.token_name-other.ensures

pub returns-in-Next : goal.returns-in-Next
returns-in-Next c = pair_apart
