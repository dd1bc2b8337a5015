-- What holds of every node of a forest, at every depth.
use Rattle.spec.specs.Forest.{Forest, none, tree}

pub data All {A : Type 0} (Q : A → Type 0) : Forest A → Type 0 where
  all_none : All Q none
  all_tree : {a : A} {kids rest : Forest A} → Q a → All Q kids → All Q rest → All Q (tree a kids rest)
