-- Each way out of `note_places`, and its loop.
use Rattle.std.proofs.Common.{◌≡◌, ℕ, ◌+◌, ◌-◌, ◌%◌, ◌<◌, ◌≤◌, Bool, true, false}
use Rattle.std.proofs.Common.{leb, List, length, set, sym, refl, ap, ◌∙◌, subst, arith, leb-false, leb-true}
use Rattle.spec.specs.Forest.{Forest, none, tree, size}
use Rattle.tape.specs.Layout.{values, array_kind, patch_row, scratch_row, rows}
use Rattle.tape.specs.Columns.{Scratched}
use Rattle.tape.specs.Fields.{Row}
use Rattle.tape.specs.declared.fields.Cell.{Cell}
use Rattle.tape.specs.Cell.{Node, level, deep}
use Rattle.tape.specs.Rows.{end_of}
use Rattle.tape.proofs.Cells.{formed_fit}
use Rattle.tape.proofs.Depth.{level-container}
use Rattle.tape.proofs.Rows.{end_here}
use Rattle.tape.proofs.Held.{Remaining, remaining_all, remaining_next, remaining_none, remaining-first, held_node}
use Rattle.counting.specs.Places.{apart, place_row, place_at, HavePlaces, placed_none, placed_tree, NotedIs}
use Rattle.counting.proofs.PlaceLaws.{placed_same, scratched_none, scratched_then, scratched_set, end_same, node_still, noted_here, noted_other}

-- ---- how deep containers are nested
module _ {xs : List Row} {at levels : ℕ} {c : Cell} {kids : Forest Cell} (n : Node xs at c kids) (low : level c (deep kids) ≤ levels) where
  -- a node that nests no container has no children
  pub level_none : levels ≡ 0 → kids ≡ none
  level_none z = go (leb array_kind c.kind) refl
    where
      go : (b : Bool) → leb array_kind c.kind ≡ b → kids ≡ none
      go true e = absurd (omega (arith, level-container c (deep kids) (leb-true array_kind c.kind e)))
      go false e = (formed_fit n.held.formed).scalar (leb-false array_kind c.kind e)

  pub level_kids : deep kids ≤ levels - 1
  unfolding deep
  level_kids = go (leb array_kind c.kind) refl
    where
      go : (b : Bool) → leb array_kind c.kind ≡ b → deep kids ≤ levels - 1
      go true e = omega (arith, level-container c (deep kids) (leb-true array_kind c.kind e))
      go false e = rw ((formed_fit n.held.formed).scalar (leb-false array_kind c.kind e)) (omega arith)

-- ---- each way out before the loop
module _ {xs : List Row} {at levels : ℕ} where
  noted_nothing : ((c : Cell) (kids : Forest Cell) → Node xs at c kids → patch_row ≤ at → end_of xs at ≤ scratch_row → level c (deep kids) ≤ levels
      → kids ≡ none) → NotedIs xs xs at levels
  noted_nothing empty =
      record {
        scratched = scratched_none;
        before = λ r h. refl;
        held = λ c kids n second low long shallow. subst (HavePlaces (place_at xs) (at + 1) 1) (sym (empty c kids n second low shallow)) placed_none;
      }

  pub noted_flat : levels ≡ 0 → NotedIs xs xs at levels
  noted_flat z = noted_nothing (λ c kids n second low shallow. level_none n shallow z)

  pub noted-first : at < patch_row → NotedIs xs xs at levels
  noted-first h = noted_nothing (λ c kids n second low shallow. absurd (omega arith))

  pub noted_high : (end : ℕ) → end ≡ end_of xs at → scratch_row < end → NotedIs xs xs at levels
  noted_high end e h = noted_nothing (λ c kids n second low shallow. absurd (omega arith))

  pub noted_outside : (end : ℕ) → end ≡ end_of xs at → end ≤ at → NotedIs xs xs at levels
  noted_outside end e h = noted_nothing (λ c kids n second low shallow. absurd (omega (arith, end_here n)))

-- ---- at the head of the loop
-- the trees that are left, from a row on and from a place on. Whatever is noted from here on, if what is left then has its places, all have.
pub record Left (xs zs : List Row) (at end row place levels : ℕ) (kids : Forest Cell) : Type 0 where
  pub rest : Forest Cell
  pub left : Remaining xs row end rest
  pub shallow : deep rest ≤ levels
  pub so_far : (ys : List Row) → ((r : ℕ) → r < row → place_at ys r ≡ place_at zs r) → HavePlaces (place_at ys) row place rest
      → HavePlaces (place_at ys) (at + 1) 1 kids

pub record Noting (xs zs : List Row) (at end row place levels : ℕ) : Type 0 where
  pub few : place < row
  pub second : patch_row ≤ at
  pub further : at < row
  pub scratched : Scratched xs zs
  pub before : (r : ℕ) → r ≤ at → place_at zs r ≡ place_at xs r
  pub held : (c : Cell) (kids : Forest Cell) → Node xs at c kids → rows ≤ length xs → level c (deep kids) ≤ levels
      → Left xs zs at end row place (levels - 1) kids

module _ {xs : List Row} {at levels end : ℕ} (ends : end ≡ end_of xs at) where
  pub noting_all : patch_row ≤ at → Noting xs xs at end (at + 1) 1 levels
  noting_all h =
      record {
        few = omega arith;
        second = h;
        further = omega arith;
        scratched = scratched_none;
        before = λ r h. refl;
        held = λ c kids n long low.
            record { rest = kids; left = remaining_all end ends n.held; shallow = level_kids n low; so_far = λ ys same placed. placed };
      }

  module _ {zs : List Row} {row place : ℕ} (g : Noting xs zs at end row place levels) where
    pub noting_end : end ≤ row → NotedIs xs zs at levels
    noting_end h =
        record {
          scratched = g.scratched;
          before = g.before;
          held = λ c kids n second low long shallow.
              let l = g.held c kids n long shallow in
              l.so_far zs (λ r k. refl) (subst (HavePlaces (place_at zs) row place) (sym (remaining_none l.left h)) placed_none);
        }

    -- a turn: a place is noted, then those below it
    module _ (more : row < end) (low : end ≤ scratch_row) {ys zs' : List Row} (noted : ys ≡ set zs (row + apart) (place_row (place % values)))
        (below : NotedIs ys zs' row (levels - 1)) (next : ℕ) (nexts : next ≡ end_of zs' row) where
      here : Scratched xs ys
      here =
          scratched_then g.scratched
          (subst (Scratched zs) (sym noted)
          (scratched_set zs (row + apart) (place_row (place % values)) (omega (arith, g.second, g.further)) (omega arith)))

      then_here : Scratched xs zs'
      then_here = scratched_then here below.scratched

      next_is : next ≡ end_of xs row
      next_is = nexts ∙ end_same then_here row (omega arith)

      under : end_of ys row ≡ end_of xs row
      under = end_same here row (omega arith)

      -- a place elsewhere stays
      other : (r : ℕ) → (r ≡ row → ⊥) → place_at ys r ≡ place_at zs r
      other r d = ap (λ l. place_at l r) noted ∙ noted_other zs row (place % values) r d

      lower : (r : ℕ) → r < row → place_at zs' r ≡ place_at zs r
      lower r h = below.before r (omega arith) ∙ other r (λ e. omega arith)

      own : rows ≤ length xs → place_at zs' row ≡ place
      own long =
          let small : place % values ≡ place = omega (arith, g.few) in
          below.before row (omega arith) ∙ ap (λ l. place_at l row) noted
          ∙ noted_here zs row (place % values) (omega (arith, g.scratched.same_length)) ∙ small

      pub noting_next : Noting xs zs' at end next (place + 1) levels
      unfolding deep size
      noting_next =
          record {
            few = omega (arith, g.few, next_is);
            second = g.second;
            further = omega (arith, g.further, next_is);
            scratched = then_here;
            before = λ r h. lower r (omega (arith, g.further)) ∙ g.before r h;
            held = λ c kids n long shallow.
                let l = g.held c kids n long shallow in
                remaining-first l.left more λ d ds rest is y.
                let node = held_node y.held in
                let behind : next ≡ row + 1 + size ds = next_is ∙ end_here node in
                let deep-enough : deep (tree d ds rest) ≤ levels - 1 = subst (λ f. deep f ≤ levels - 1) is l.shallow in
                let Placed-below = below.held d ds (node_still here node (omega (arith, y.ends))) (omega (arith, g.second, g.further))
                (omega (arith, under, end_here node, y.ends)) (omega (arith, here.same_length)) (omega arith) in
                record {
                  rest = rest;
                  left = remaining_next next next_is y;
                  shallow = omega arith;
                  so_far = λ ws same placed.
                      l.so_far ws (λ r h. same r (omega arith) ∙ lower r h)
                      (subst (HavePlaces (place_at ws) row place) (sym is)
                      (placed_tree (same row (omega arith) ∙ own long) (placed_same Placed-below (λ r h k. same r (omega arith)))
                      (subst (λ r. HavePlaces (place_at ws) r (place + 1) rest) behind placed)));
                };
          }
