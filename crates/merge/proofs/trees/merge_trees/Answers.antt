-- `merge_trees` meets its contract: the members are entered, and then the two are merged.
use native.Mathlib.Omega.{arith}
use Rattle.merge.proofs.TreeLaws.{trees_merged}
use Rattle.merge.proofs.trees.merge_trees.Goals as goal

pub returns : goal.returns
returns c =
    trees_merged _ (omega (arith, c.requires)) (omega (arith, c.requires)) c.empty.ensures
    c.enter_members.ensures c.merge_object.ensures
