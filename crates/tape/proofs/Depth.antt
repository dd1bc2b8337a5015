-- Laws of how deep containers are nested, and of the loop that judges a node's children.
use Prim.Native.Nat.{ℕ, suc, ◌+◌, ◌-◌, ◌≤◌, ◌<◌, max}
use native.Mathlib.Omega.{arith}
use mathlib.Core.Path.{◌≡◌, refl, sym, ap, ◌∙◌, subst}
use mathlib.Core.Bool.{Bool, true, false, ◌&&◌}
use mathlib.Core.List.{List, [], ◌++◌}
use lib.Dec.{leb}
use lib.ListN.{get_or}
use borrow.Author.Tests.{le-leb, lt-leb, leb-true, leb-false}
use Rattle.spec.specs.Forest.{Forest, tree, size}
use Rattle.tape.specs.Layout.{array_kind}
use Rattle.tape.specs.Fields.{Row, kind_of}
use Rattle.tape.specs.Tape.{tape}
use Rattle.tape.specs.declared.fields.Cell.{Cell}
use Rattle.tape.specs.Cell.{row_of, Formed, Node, level, deep}
use Rattle.tape.specs.Rows.{end_of, ForNode, WithinIs}
use Rattle.tape.proofs.Tape.{Left, left_all, left_next, left_none, left_first}
use Rattle.tape.proofs.Cells.{formed_kids, formed_rest}
use Rattle.tape.proofs.Rows.{kind_here, end_here}

-- ---- levels
leb_same : (a b m n : ℕ) → (a ≤ b → m ≤ n) → (m ≤ n → a ≤ b) → leb a b ≡ leb m n
leb_same a b m n f g = go (leb a b) (leb m n) refl refl
  where
    go : (s t : Bool) → leb a b ≡ s → leb m n ≡ t → leb a b ≡ leb m n
    go true true p q = p ∙ sym q
    go false false p q = p ∙ sym q
    go true false p q = absurd (omega (arith, f (leb-true a b p), leb-false m n q))
    go false true p q = absurd (omega (arith, g (leb-true m n q), leb-false a b p))

leb_max : (a b m : ℕ) → leb (max a b) m ≡ leb a m && leb b m
leb_max a b m = go (leb a m) refl
  where
    go : (s : Bool) → leb a m ≡ s → leb (max a b) m ≡ s && leb b m
    go true p = let h : a ≤ m = leb-true a m p in leb_same (max a b) m b m (λ q. omega arith) (λ q. omega arith)
    go false p = let h : m < a = leb-false a m p in lt-leb (max a b) m (omega arith)

pub level-scalar : (c : Cell) (below : ℕ) → c.kind < array_kind → level c below ≡ 0
unfolding level
level-scalar c below h = rw (lt-leb array_kind c.kind h, level)

pub level-container : (c : Cell) (below : ℕ) → array_kind ≤ c.kind → level c below ≡ suc below
unfolding level
level-container c below h = rw (le-leb array_kind c.kind h, level)

module _ (c : Cell) (kids : Forest Cell) (m : ℕ) where
  -- a forest fits where its first tree and the others do
  pub deep_tree : (rest : Forest Cell) → leb (deep (tree c kids rest)) m ≡ leb (level c (deep kids)) m && leb (deep rest) m
  unfolding deep
  deep_tree rest = leb_max (level c (deep kids)) (deep rest) m

  pub level_fits : c.kind < array_kind → leb (level c (deep kids)) m ≡ true
  level_fits h = rw (level-scalar c (deep kids) h) (le-leb 0 m (omega arith))

  pub level_flat : array_kind ≤ c.kind → m ≡ 0 → leb (level c (deep kids)) m ≡ false
  level_flat h e = rw (level-container c (deep kids) h) (lt-leb (suc (deep kids)) m (omega arith))

  pub level_below : array_kind ≤ c.kind → 0 < m → leb (level c (deep kids)) m ≡ leb (deep kids) (m - 1)
  level_below h e = rw (level-container c (deep kids) h) (leb_same (suc (deep kids)) m (deep kids) (m - 1) (λ q. omega arith) (λ q. omega arith))

-- ---- the loop over a node's children: whether all fit is whether those that are left do
pub record Undecided (xs : List Row) (row end m : ℕ) (kids : Forest Cell) : Type 0 where
  pub rest : Forest Cell
  pub after : List Row
  pub left : Left row_of xs row end rest after
  pub formed : Formed rest
  pub same : leb (deep kids) m ≡ leb (deep rest) m

pub undecided_all : {xs : List Row} {at : ℕ} {c : Cell} {kids : Forest Cell} (m : ℕ) → Node xs at c kids
    → Undecided xs (at + 1) (at + 1 + size kids) m kids
undecided_all {kids = kids} m node =
    record {
      rest = kids;
      after = tape row_of node.rest ++ node.held.after;
      left = left_all node.held.rows;
      formed = formed_kids
          node.held.formed;
      same = refl;
    }

module _ {xs : List Row} {row end m : ℕ} {kids : Forest Cell} (u : Undecided xs row end m kids) where
  pub undecided_none : end ≤ row → leb (deep kids) m ≡ true
  unfolding deep
  undecided_none h = u.same ∙ ap (λ f. leb (deep f) m) (left_none u.left h) ∙ le-leb 0 m (omega arith)

  module _ (more : row < end) where
    -- the first that is left
    first : {C : Type 0}
        → ((c : Cell) (ks rest : Forest Cell) → leb (deep kids) m ≡ leb (level c (deep ks)) m && leb (deep rest) m → Node xs row c ks → Left row_of xs row end
        (tree c ks rest) u.after → Formed rest → C)
        → C
    first then-it =
        left_first u.left more λ c ks rest e l.
        let o : Formed (tree c ks rest) = subst Formed e u.formed in
        let fits = u.same ∙ ap (λ f. leb (deep f) m) e ∙ deep_tree c ks m rest in
        then-it c ks rest fits (record { rest = rest; held = record { after = u.after; rows = l.held; formed = o } }) l (formed_rest o)

    pub undecided_deep : (r : Bool) → r ≡ false → WithinIs xs row m r → leb (deep kids) m ≡ false
    undecided_deep r d j = first λ c ks rest e node l o. e ∙ ap (λ b. b && leb (deep rest) m) (sym (j c ks node) ∙ d)

    pub undecided_next : (next : ℕ) → next ≡ end_of xs row → (r : Bool) → r ≡ true → WithinIs xs row m r → Undecided xs next end m kids
    undecided_next next n r d j =
        first λ c ks rest e node l o.
        record {
          rest = rest;
          after = u.after;
          left = rw (n ∙ end_here node) (left_next l);
          formed = o;
          same = e ∙ ap (λ b. b && leb (deep rest) m) (sym (j c ks node) ∙ d);
        }

-- ---- each way out of `within`
-- at the head of the loop, of whatever node the column holds in a row
abbrev pub Judging : List Row → ℕ → ℕ → ℕ → Type 0
Judging xs at row m = ForNode xs at (λ c kids. Undecided xs row (at + 1 + size kids) m kids)

module _ {xs : List Row} {at : ℕ} (levels : ℕ) where
  pub within-scalar : kind_of (get_or xs at []) < array_kind → WithinIs xs at levels true
  within-scalar h c kids node = sym (level_fits c kids levels (omega (arith, kind_here node)))

  module _ (container : array_kind ≤ kind_of (get_or xs at [])) where
    pub within_flat : levels ≡ 0 → WithinIs xs at levels false
    within_flat e c kids node = sym (level_flat c kids levels (omega (arith, kind_here node)) e)

    module _ (some : 0 < levels) (row end : ℕ) (end_is : end ≡ end_of xs at) (judging : Judging xs at row (levels - 1)) where
      pub within_all : end ≤ row → WithinIs xs at levels true
      within_all h c kids node =
          sym (level_below c kids levels (omega (arith, kind_here node)) some ∙ undecided_none (judging c kids node) (omega (arith, end_here node)))

      pub within-deep : row < end → (r : Bool) → r ≡ false → WithinIs xs row (levels - 1) r → WithinIs xs at levels false
      within-deep h r d j c kids node =
          sym (level_below c kids levels (omega (arith, kind_here node)) some ∙ undecided_deep (judging c kids node) (omega (arith, end_here node)) r d j)

pub judging_all : (xs : List Row) (at m : ℕ) → Judging xs at (at + 1) m
judging_all xs at m c kids node = undecided_all m node

pub judging_next : (xs : List Row) (at row m end next : ℕ) → end ≡ end_of xs at → row < end → next ≡ end_of xs row → (r : Bool) → r ≡ true
    → WithinIs xs row m r → Judging xs at row m → Judging xs at next m
judging_next xs at row m end next e h n r d j judging c kids node = undecided_next (judging c kids node) (omega (arith, end_here node)) next n r d j
