use Rattle.std.proofs.Common.{◌-◌}
use Rattle.counting.proofs.NoteLaws.{Noting}
use Rattle.counting.proofs.places.+note_places.Given as goal

abbrev pub decreases-note_places : goal.decreases-note_places
decreases-note_places l = l.levels

abbrev pub invariant-loop-row : goal.invariant-loop-row
invariant-loop-row l = Noting l.initial.nodes l.nodes l.at l.end l.row l.place l.levels

abbrev pub decreases-loop-row : goal.decreases-loop-row
decreases-loop-row l = l.end - l.row
