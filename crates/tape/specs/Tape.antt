-- The node table: a forest in preorder, one row for each node. What a row tells of a node is left open.
use Rattle.std.specs.Prelude.{ℕ, ◌≡◌, List, [], ◌∷◌, ◌++◌, take, drop}
use Rattle.spec.specs.Forest.{Forest, none, tree, Tree}

module _ {A W : Type 0} (w : A → Forest A → W) where
  unfoldable pub tape : Forest A → List W
  tape none = []
  tape (tree a kids rest) = w a kids ∷ (tape kids ++ tape rest)

  -- one tree's words
  abbrev pub words : Tree A → List W
  words t = w t.root t.kids ∷ tape t.kids

  -- from a row on, a column has the words of a forest, and then others
  pub record Holds (xs : List W) (at : ℕ) (f : Forest A) (after : List W) : Type 0 where
    pub is : drop at xs ≡ tape f ++ after

  -- the first `used` words of a column are some, those of a forest, and others
  pub record Laid (xs : List W) (used : ℕ) (front : List W) (f : Forest A) (back : List W) : Type 0 where
    pub is : take used xs ≡ front ++ (tape f ++ back)
