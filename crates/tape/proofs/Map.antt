-- The functions on forests commute with replacing what the nodes bear.
use Rattle.std.specs.Prelude.{if◌then◌else◌}
use Prim.Native.Nat.{ℕ, zero, suc, ◌+◌, ◌≤◌, ◌<◌, max}
use native.Mathlib.Omega.{arith}
use mathlib.Core.Path.{◌≡◌, refl, ap, ap₂, ◌∙◌}
use mathlib.Core.Bool.{Bool, true, false}
use lib.Dec.{leb}
use Rattle.spec.specs.Bytes.{Text}
use Rattle.spec.specs.Forest.{Forest, none, tree, Tree, single, count, size, before, from, insert_at, remove_at, replace_at, nth, ◌⧺◌}
use Rattle.spec.specs.Value.{Entry, tag, is_container, levels, depths, same_text, find}
use Rattle.tape.specs.Layout.{array_kind, object_kind}
use Rattle.tape.specs.declared.fields.Cell.{Cell}
use Rattle.tape.specs.Cell.{Formed, formed_none, formed_tree, level, deep}
use Rattle.tape.specs.Map.{map_forest, map_tree, position}
use Rattle.tape.proofs.Forests.{from-nth, from_all}

module _ {A B : Type 0} (f : A → B) where
  pub count_map : (g : Forest A) → count (map_forest f g) ≡ count g
  unfolding map_forest count
  count_map none = refl
  count_map (tree a kids rest) = ap suc (count_map rest)

  pub size-map : (g : Forest A) → size (map_forest f g) ≡ size g
  unfolding map_forest size
  size-map none = refl
  size-map (tree a kids rest) = rw (size-map kids, size-map rest)

  pub map_⧺ : (g h : Forest A) → map_forest f (g ⧺ h) ≡ map_forest f g ⧺ map_forest f h
  unfolding map_forest ◌⧺◌
  map_⧺ none h = refl
  map_⧺ (tree a kids rest) h = ap (tree (f a) (map_forest f kids)) (map_⧺ rest h)

  pub map-before : (k : ℕ) (g : Forest A) → map_forest f (before k g) ≡ before k (map_forest f g)
  unfolding map_forest before
  map-before zero g = refl
  map-before (suc k) none = refl
  map-before (suc k) (tree a kids rest) = ap (tree (f a) (map_forest f kids)) (map-before k rest)

  pub map-from : (k : ℕ) (g : Forest A) → map_forest f (from k g) ≡ from k (map_forest f g)
  unfolding map_forest from
  map-from zero g = refl
  map-from (suc k) none = refl
  map-from (suc k) (tree a kids rest) = map-from k rest

  pub map-nth : (t : Tree A) (k : ℕ) (g : Forest A) → map_tree f (nth t k g) ≡ nth (map_tree f t) k (map_forest f g)
  unfolding map_forest nth
  map-nth t k none = refl
  map-nth t zero (tree a kids rest) = refl
  map-nth t (suc k) (tree a kids rest) = map-nth t k rest

  pub map-insert_at : (k : ℕ) (t : Tree A) (g : Forest A) → map_forest f (insert_at k t g) ≡ insert_at k (map_tree f t) (map_forest f g)
  unfolding insert_at map_forest ◌⧺◌
  map-insert_at k t g = rw (map_⧺ (before k g) (single t ⧺ from k g), map-before, map-from)

  pub map-remove_at : (k : ℕ) (g : Forest A) → map_forest f (remove_at k g) ≡ remove_at k (map_forest f g)
  unfolding remove_at
  map-remove_at k g = rw (map_⧺, map-before, map-from)

  pub map-replace_at : (k : ℕ) (t : Tree A) (g : Forest A) → map_forest f (replace_at k t g) ≡ replace_at k (map_tree f t) (map_forest f g)
  unfolding replace_at map_forest ◌⧺◌
  map-replace_at k t g = rw (map_⧺ (before k g) (single t ⧺ from (suc k) g), map-before, map-from)

-- ---- the first tree that passes a test
module _ {A : Type 0} (p : A → Bool) where
  pub position_here : (a : A) (kids rest : Forest A) → p a ≡ true → position p (tree a kids rest) ≡ 0
  unfolding position
  position_here a kids rest e = rw (e, position)

  pub position_later : (a : A) (kids rest : Forest A) → p a ≡ false → position p (tree a kids rest) ≡ suc (position p rest)
  unfolding position
  position_later a kids rest e = rw (e, position)

  -- a search that has passed k trees
  module _ (t : Tree A) (k : ℕ) (g : Forest A) (there : k < count g) where
    first : from k g ≡ tree (nth t k g).root (nth t k g).kids (from (suc k) g)
    unfolding ◌⧺◌
    first = from-nth t k g there

    pub position-found : p (nth t k g).root ≡ true → position p g ≡ k + position p (from k g) → position p g ≡ k
    position-found e s = omega (arith, s, ap (position p) first ∙ position_here (nth t k g).root (nth t k g).kids (from (suc k) g) e)

    pub position_next : p (nth t k g).root ≡ false → position p g ≡ k + position p (from k g) → position p g ≡ suc k + position p (from (suc k) g)
    position_next e s = omega (arith, s, ap (position p) first ∙ position_later (nth t k g).root (nth t k g).kids (from (suc k) g) e)

  pub position_none : (k : ℕ) (g : Forest A) → count g ≤ k → position p g ≡ k + position p (from k g) → position p g ≡ k
  unfolding position
  position_none k g h s = omega (arith, s, ap (position p) (from_all k g h))

-- ---- cells that mean entries
-- the position of a name
pub find-map : {A : Type 0} (f : A → Entry) (n : Text) (g : Forest A) → find n (map_forest f g) ≡ position (λ a. same_text (f a).name n) g
unfolding map_forest find position
find-map f n none = refl
find-map f n (tree a kids rest) = ap (λ m. if same_text (f a).name n then 0 else suc m) (find-map f n rest)

-- how deep containers are nested
module _ (f : Cell → Entry) (same : (c : Cell) → c.kind ≤ object_kind → tag (f c).label ≡ c.kind) where
  pub levels-map : (c : Cell) (below : ℕ) → c.kind ≤ object_kind → levels (f c).label below ≡ level c below
  unfolding levels level is_container
  levels-map c below h = ap (λ n. if leb array_kind n then suc below else 0) (same c h)

  pub depths-map : {g : Forest Cell} → Formed g → depths (map_forest f g) ≡ deep g
  unfolding map_forest depths deep
  depths-map formed_none = refl
  depths-map (formed_tree {c} {kids} {rest} fit o r) =
      ap₂ max (levels-map c (depths (map_forest f kids)) fit.kind ∙ ap (level c) (depths-map o)) (depths-map r)
