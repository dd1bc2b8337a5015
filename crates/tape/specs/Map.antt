-- A forest with what its nodes bear replaced.
use Rattle.std.specs.Prelude.{ℕ, suc, Bool, if◌then◌else◌}
use Rattle.spec.specs.Forest.{Forest, none, tree, Tree}

unfoldable pub map_forest : {A B : Type 0} → (A → B) → Forest A → Forest B
map_forest f none = none
map_forest f (tree a kids rest) = tree (f a) (map_forest f kids) (map_forest f rest)

abbrev pub map_tree : {A B : Type 0} → (A → B) → Tree A → Tree B
map_tree f t = record { root = f t.root; kids = map_forest f t.kids }

-- the position of the first tree whose root passes a test, and the number of trees where none does
unfoldable pub position : {A : Type 0} → (A → Bool) → Forest A → ℕ
position p none = 0
position p (tree a kids rest) = if p a then 0 else suc (position p rest)
