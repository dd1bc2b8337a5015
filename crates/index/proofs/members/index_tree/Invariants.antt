use Rattle.index.specs.Members.{Indexed}
use Rattle.index.proofs.members.index_tree.Given as goal

abbrev pub invariant-loop-row : goal.invariant-loop-row
invariant-loop-row l = Indexed l.top l.nodes l.initial.index l.index
