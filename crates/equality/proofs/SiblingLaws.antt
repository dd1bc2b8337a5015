-- Trees that the table holds in the rows from one to another, ready to be compared.
use Rattle.std.specs.Prelude.{Some, None}
use Prim.Native.Nat.{ℕ, suc, ◌+◌, ◌≤◌, ◌<◌}
use native.Mathlib.Omega.{arith}
use mathlib.Core.Path.{◌≡◌, sym, ap, ◌∙◌, subst}
use mathlib.Core.Bool.{true}
use mathlib.Core.List.{[]}
use lib.ListN.{length, get_or}
use Rattle.spec.specs.Bytes.{Text}
use Rattle.spec.specs.Forest.{Forest, none, tree, Tree, size, before, from, nth, ◌⧺◌}
use Rattle.spec.proofs.MatchLaws.{partner}
use Rattle.tape.specs.declared.fields.Cell.{Cell}
use Rattle.tape.specs.Cell.{Fit, Node}
use Rattle.tape.specs.Rows.{end_of}
use Rattle.tape.specs.Fields.{span_of, name_of}
use Rattle.tape.proofs.Forests.{size-cut, from-nth, from_all}
use Rattle.tape.proofs.Cells.{formed_fit, blank}
use Rattle.tape.proofs.Rows.{kind_here, span_here, cell_here, inside_here, end_here}
use Rattle.tape.proofs.Held.{Remaining, remaining_all, remaining_next, remaining_none, remaining-first, held_node, held_from}
use Rattle.tape.proofs.Map.{map-from, count_map}
use Rattle.table.specs.Meaning.{entry_of, members, Hashed}
use Rattle.table.specs.Sound.{NumberFits, Sound, NodeHeld, RowsHeld}
use Rattle.table.specs.Find.{Found, found, missing}
use Rattle.table.proofs.AllLaws.{all_first, all_kids, all_rest, all_from}
use Rattle.index.specs.Members.{Among, first, later, Child}
use Rattle.equality.specs.Compare.{Labelled}
use Rattle.equality.proofs.MatchLaws.{partner_find}
use Rattle.tape.specs.Lent.{Table}

-- ---- a value in a row
module _ {w : Table} {at : ℕ} {c : Cell} {kids : Forest Cell} (x : NodeHeld w at c kids) where
  pub value-node : Node w.nodes at c kids
  value-node = held_node x.held

  pub value-inside : at < length w.nodes
  value-inside = inside_here value-node

  pub value-fit : Fit c kids
  value-fit = formed_fit x.held.formed

  pub value-labelled : Labelled w.texts (get_or w.nodes at [])
  value-labelled =
      record {
        kind = omega (arith, kind_here value-node, value-fit.kind);
        fits = subst (λ (e : Cell). NumberFits w.texts e.kind e.value) (sym (cell_here value-node [])) x.label.number;
      }

-- ---- trees in the rows from one to another
pub record Siblings (w : Table) (row end : ℕ) (f : Forest Cell) : Type 0 where
  pub left : Remaining w.nodes row end f
  pub sound : Sound w.texts f

-- those of the node in a row
pub record Children (w : Table) (other end : ℕ) (f : Forest Cell) : Type 0 where
  pub siblings : Siblings w (other + 1) end f
  pub ends : other + 1 + span_of (get_or w.nodes other []) ≡ end

module _ {w : Table} where
  -- the children of a value
  pub siblings_all : {at : ℕ} {c : Cell} {kids : Forest Cell} (end : ℕ) → end ≡ end_of w.nodes at → NodeHeld w at c kids
      → Siblings w (at + 1) end kids
  siblings_all end e x = record { left = remaining_all end e x.held; sound = x.sound }

  pub siblings_none : {row end : ℕ} {f : Forest Cell} → Siblings w row end f → end ≤ row → f ≡ none
  siblings_none s h = remaining_none s.left h

  pub siblings_first : {C : Type 0} {row end : ℕ} {f : Forest Cell} → Siblings w row end f → row < end
      → ((c : Cell) (kids rest : Forest Cell) → f ≡ tree c kids rest → Siblings w row end (tree c kids rest) → C) → C
  siblings_first {row = row} {end} s h then-it =
      remaining-first s.left h (λ c kids rest e l. then-it c kids rest e (subst (Siblings w row end) e s))

  -- those from the k-th on
  pub siblings_from : {row end : ℕ} {f : Forest Cell} (k : ℕ) → Siblings w row end f → Siblings w (row + size (before k f)) end (from k f)
  siblings_from {f = f} k s =
      record {
        left = record { held = held_from k s.left.held; ends = omega (arith, s.left.ends, size-cut k f) };
        sound = all_from k s.sound;
      }

  module _ {row end : ℕ} {c : Cell} {kids rest : Forest Cell} (s : Siblings w row end (tree c kids rest)) where
    -- the first one is a value, and its name has its hash
    pub siblings-value : NodeHeld w row c kids
    siblings-value = record { rest = rest; held = s.left.held; label = (all_first s.sound).label; sound = all_kids s.sound }

    pub siblings_name : name_of (get_or w.nodes row []) ≡ c.name
    siblings_name = ap (λ (e : Cell). e.name) (cell_here (held_node s.left.held) [])

    pub siblings_hashed : Hashed w.texts (name_of (get_or w.nodes row []))
    siblings_hashed = rw siblings_name (all_first s.sound).name.hashed

    pub siblings_next : (next : ℕ) → next ≡ end_of w.nodes row → Siblings w next end rest
    siblings_next next e = record { left = remaining_next next e s.left; sound = all_rest s.sound }

    span_next : row + 1 + span_of (get_or w.nodes row []) ≡ end_of w.nodes row
    span_next = let n = held_node s.left.held in omega (arith, span_here n, end_here n)

  -- a row among them is that of a tree
  pub siblings_among : {C : Type 0} {end row start : ℕ} {f : Forest Cell} → Among w.nodes end row start → Siblings w start end f
      → ((k : ℕ) (c : Cell) (kids after : Forest Cell) → from k f ≡ tree c kids after → Siblings w row end (tree c kids after) → C) → C
  unfolding from
  siblings_among (first h) s then-it = siblings_first s h (then-it 0)
  siblings_among (later h a) s then-it =
      siblings_first s h λ c kids rest e x.
      siblings_among a (siblings_next x _ (span_next x)) λ k d ds after is y.
      then-it (suc k) d ds after (ap (from (suc k)) e ∙ is) y

  pub children_all : {other : ℕ} {c : Cell} {kids : Forest Cell} (end : ℕ) → end ≡ end_of w.nodes other → NodeHeld w other c kids
      → Children w other end kids
  children_all end e x =
      let n = value-node x in
      record { siblings = siblings_all end e x; ends = omega (arith, e, span_here n, end_here n) }

  pub children_child : {C : Type 0} {other end row : ℕ} {f : Forest Cell} → Children w other end f → Child w.nodes other row
      → ((k : ℕ) (c : Cell) (kids after : Forest Cell) → from k f ≡ tree c kids after → Siblings w row end (tree c kids after) → C) → C
  children_child {other = other} {row = row} x k then-it = siblings_among (subst (λ e. Among w.nodes e row (other + 1)) x.ends k.among) x.siblings
      then-it

  -- ---- a member found among them by its name
  module _ {start end : ℕ} {f : Forest Cell} (s : Siblings w start end f) where
    pub siblings_asked : RowsHeld w start end f
    siblings_asked = record { held = s.left.held; ends = s.left.ends; sound = s.sound }

    pub member-found : {C : Type 0} {name : Text} {row : ℕ} → Found w.texts start f name (Some row)
        → ((c : Cell) (kids after : Forest Cell) → partner true name (members w.texts f) ≡ members w.texts (tree c kids after)
        → NodeHeld w row c kids → C)
        → C
    unfolding ◌⧺◌
    member-found {name = name} (found k row e few place) then-it =
        let t : Tree Cell = blank in
        let cut : from k f ≡ tree (nth t k f).root (nth t k f).kids (from (suc k) f) = from-nth t k f few in
        let here : Siblings w row end (from k f) = subst (λ n. Siblings w n end (from k f)) (sym place) (siblings_from k s) in
        then-it (nth t k f).root (nth t k f).kids (from (suc k) f)
        (partner_find name (members w.texts f) ∙ ap (λ n. from n (members w.texts f)) e ∙ sym (map-from (entry_of w.texts) k f) ∙ ap
        (members w.texts) cut)
        (siblings-value (subst (Siblings w row end) cut here))

    pub member-missing : {name : Text} → Found w.texts start f name None → partner true name (members w.texts f) ≡ none
    member-missing {name} (missing e) =
        partner_find name (members w.texts f) ∙ from_all _ (members w.texts f) (omega (arith, e, count_map (entry_of w.texts) f))
