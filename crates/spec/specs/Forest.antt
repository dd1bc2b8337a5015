-- A forest is a list of trees: each has what it bears, the forest of its children, and the trees after it.
-- A value with its children, an array's elements and an object's members are all read off this one type.
use Rattle.std.specs.Prelude.{ℕ, zero, suc, ◌+◌}

pub data Forest (A : Type 0) : Type 0 where
  none : Forest A
  tree : A → Forest A → Forest A → Forest A

-- one tree: what it bears, and its children
pub record Tree (A : Type 0) : Type 0 where
  pub root : A
  pub kids : Forest A

infixr 40 ◌⧺◌
unfoldable pub ◌⧺◌ : {A : Type 0} → Forest A → Forest A → Forest A
◌⧺◌ none g = g
◌⧺◌ (tree a kids rest) g = tree a kids (rest ⧺ g)

abbrev pub single : {A : Type 0} → Tree A → Forest A
single t = tree t.root t.kids none

-- how many trees
unfoldable pub count : {A : Type 0} → Forest A → ℕ
count none = 0
count (tree a kids rest) = suc (count rest)

-- how many nodes, at every depth
unfoldable pub size : {A : Type 0} → Forest A → ℕ
size none = 0
size (tree a kids rest) = suc (size kids + size rest)

-- the trees before the k-th, and from it on
unfoldable pub before : {A : Type 0} → ℕ → Forest A → Forest A
before zero f = none
before (suc k) none = none
before (suc k) (tree a kids rest) = tree a kids (before k rest)

unfoldable pub from : {A : Type 0} → ℕ → Forest A → Forest A
from zero f = f
from (suc k) none = none
from (suc k) (tree a kids rest) = from k rest

-- a tree put in as the k-th; the k-th taken out; the k-th replaced
unfoldable pub insert_at : {A : Type 0} → ℕ → Tree A → Forest A → Forest A
insert_at k t f = before k f ⧺ single t ⧺ from k f

unfoldable pub remove_at : {A : Type 0} → ℕ → Forest A → Forest A
remove_at k f = before k f ⧺ from (suc k) f

unfoldable pub replace_at : {A : Type 0} → ℕ → Tree A → Forest A → Forest A
replace_at k t f = before k f ⧺ single t ⧺ from (suc k) f

-- the k-th tree, and t where there is none
unfoldable pub nth : {A : Type 0} → Tree A → ℕ → Forest A → Tree A
nth t k none = t
nth t zero (tree a kids rest) = record { root = a; kids = kids }
nth t (suc k) (tree a kids rest) = nth t k rest
