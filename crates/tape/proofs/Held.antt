-- Laws of a table that holds a forest from a row on.
use Prim.Native.Nat.{ℕ, suc, ◌+◌, ◌≤◌, ◌<◌}
use native.Mathlib.Omega.{arith}
use mathlib.Core.Path.{◌≡◌, sym, ◌∙◌, subst}
use mathlib.Core.List.{List, ◌++◌}
use lib.ListN.{length, drop}
use Rattle.spec.specs.Forest.{Forest, none, tree, Tree, count, size, before, from, nth, ◌⧺◌}
use Rattle.tape.specs.Tape.{tape, Laid}
use Rattle.tape.specs.Fields.{Row}
use Rattle.tape.specs.declared.fields.Cell.{Cell}
use Rattle.tape.specs.Cell.{row_of, Formed, Node, Held}
use Rattle.tape.specs.Rows.{end_of, child_row}
use Rattle.tape.proofs.Forests.{from-nth, size_none, first_tree}
use Rattle.tape.proofs.Tape.{holds_kids, holds_next, holds_from}
use Rattle.tape.proofs.Cells.{formed_kids, formed_rest, formed_from}
use Rattle.tape.proofs.Rows.{end_here}
use Rattle.tape.proofs.Changes.{laid_holds}

pub held_from : {xs : List Row} {at : ℕ} {f : Forest Cell} (k : ℕ) → Held xs at f → Held xs (at + size (before k f)) (from k f)
held_from k h = record { after = h.after; rows = holds_from k h.rows; formed = formed_from k h.formed }

module _ {xs : List Row} {at : ℕ} {c : Cell} {kids rest : Forest Cell} (h : Held xs at (tree c kids rest)) where
  pub held_node : Node xs at c kids
  held_node = record { rest = rest; held = h }

  -- the children, and the trees behind the first one
  pub held_kids : Held xs (at + 1) kids
  held_kids = record { after = tape row_of rest ++ h.after; rows = holds_kids h.rows; formed = formed_kids h.formed }

  pub held_next : Held xs (at + 1 + size kids) rest
  held_next = record { after = h.after; rows = holds_next h.rows; formed = formed_rest h.formed }

  -- the k-th child, with the trees behind it; t is any tree
  pub held_child : (t : Tree Cell) (k : ℕ) → k < count kids
      → Held xs (child_row at k kids) (tree (nth t k kids).root (nth t k kids).kids (from (suc k) kids))
  unfolding child_row ◌⧺◌
  held_child t k l = subst (Held xs (child_row at k kids)) (from-nth t k kids l) (held_from k held_kids)

-- ---- a loop over a node's children, `while row < end`
-- The trees that are left stand from a row on, up to the row `end`.
pub record Remaining (xs : List Row) (row end : ℕ) (f : Forest Cell) : Type 0 where
  pub held : Held xs row f
  pub ends : row + size f ≡ end

module _ {xs : List Row} where
  -- before the first turn all children are left
  pub remaining_all : {at : ℕ} {c : Cell} {kids rest : Forest Cell} (end : ℕ) → end ≡ end_of xs at → Held xs at (tree c kids rest)
      → Remaining xs (at + 1) end kids
  remaining_all end e h = record { held = held_kids h; ends = sym (e ∙ end_here (held_node h)) }

  -- a turn passes the first of them
  pub remaining_next : {row end : ℕ} {c : Cell} {kids rest : Forest Cell} (next : ℕ) → next ≡ end_of xs row
      → Remaining xs row end (tree c kids rest) → Remaining xs next end rest
  unfolding size
  remaining_next next e r =
      let n = e ∙ end_here (held_node r.held) in
      record { held = rw n (held_next r.held); ends = omega (arith, n, r.ends) }

  -- where the loop ends none is left, and where it goes on there is a first
  pub remaining_none : {row end : ℕ} {f : Forest Cell} → Remaining xs row end f → end ≤ row → f ≡ none
  remaining_none {f = f} r h = size_none f (omega (arith, r.ends))

  pub remaining-first : {C : Type 0} {row end : ℕ} {f : Forest Cell} → Remaining xs row end f → row < end
      → ((c : Cell) (kids rest : Forest Cell) → f ≡ tree c kids rest → Remaining xs row end (tree c kids rest) → C) → C
  remaining-first {row = row} {end} {f} r h then-it =
      first_tree f (omega (arith, r.ends)) (λ c kids rest e. then-it c kids rest e (subst (Remaining xs row end) e r))

-- ---- what is held where words in use are laid
pub held_laid : {xs : List Row} {used : ℕ} {front back : List Row} {f : Forest Cell} (at : ℕ)
    → at ≡ length front → Laid row_of xs used front f back → Formed f → Held xs at f
held_laid {xs} {used} {front} {back} at e l o = record { after = back ++ drop used xs; rows = rw e (laid_holds l); formed = o }
