use Rattle.changes.proofs.alter.+alter.Given as goal

abbrev pub decreases-alter : goal.decreases-alter
decreases-alter l = l.parent.below
