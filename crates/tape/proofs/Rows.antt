-- Laws of nodes by their rows: what a node's row tells, and where its children stand.
use Rattle.std.specs.Prelude.{Result, Ok, Err, if◌then◌else◌}
use Prim.Native.Nat.{ℕ, zero, suc, ◌+◌, ◌≤◌, ◌<◌}
use native.Mathlib.Nat.{add-zero}
use native.Mathlib.Numerals.{add-one}
use native.Mathlib.Omega.{arith}
use mathlib.Core.Path.{◌≡◌, refl, sym, ap, ◌∙◌, subst}
use mathlib.Core.List.{List, [], ◌++◌}
use mathlib.Core.Bool.{Bool, true, false}
use lib.Dec.{leb, ltb}
use lib.ListN.{length, get_or}
use borrow.Author.Tests.{lt-ltb, le-ltb, ltb-true, ltb-false, leb-true, leb-false}
use Rattle.spec.specs.Forest.{Forest, none, Tree, count, size, before, from, nth}
use Rattle.tape.specs.Fields.{Row, kind_of, span_of, cell_of}
use Rattle.tape.specs.Tape.{tape}
use Rattle.tape.specs.declared.fields.Cell.{Cell}
use Rattle.tape.specs.Cell.{row_of, Node}
use Rattle.tape.specs.Rows.{end_of, child_row, child_of, ForNode, Leaves, Steps, steps_none, steps_next, ChildRows, child_at, child_fewer, ArityRows}
use Rattle.tape.specs.Rows.{Bounded, ChildIs, ArityIs}
use Rattle.tape.proofs.Forests.{size-cut, count-from, before_all, size-before_suc, count_le_size}
use Rattle.tape.proofs.Tape.{holds_front, holds_kids, holds_size, holds_child}
use Rattle.tape.proofs.Cells.{kind_row, span_row, cell_row, formed_fit, formed_kids, formed_child}

-- ---- a node in a row of the table
module _ {xs : List Row} {at : ℕ} {c : Cell} {kids : Forest Cell} (node : Node xs at c kids) where
  pub inside_here : at < length xs
  inside_here = (holds_front node.held.rows []).inside

  -- whatever is said to stand behind the table
  pub row_here : (z : Row) → get_or xs at z ≡ row_of c kids
  row_here z = (holds_front node.held.rows z).here

  pub kind_here : kind_of (get_or xs at []) ≡ c.kind
  kind_here = ap kind_of (row_here []) ∙ kind_row (formed_fit node.held.formed)

  pub span_here : span_of (get_or xs at []) ≡ size kids
  span_here = ap span_of (row_here []) ∙ span_row c kids

  pub cell_here : (z : Row) → cell_of (get_or xs at z) ≡ c
  cell_here z = ap cell_of (row_here z) ∙ cell_row (formed_fit node.held.formed)

  -- with spans, the row behind a tree is found in one step
  pub end_here : end_of xs at ≡ at + 1 + size kids
  end_here = omega (arith, span_here, inside_here, holds_size (holds_kids node.held.rows))

-- ---- rows of children
module _ {A : Type 0} (at : ℕ) (kids : Forest A) where
  pub child_row-first : child_row at 0 kids ≡ at + 1
  unfolding child_row before size
  child_row-first = add-zero (at + 1)

  pub child_row_end : (k : ℕ) → count kids ≤ k → child_row at k kids ≡ at + 1 + size kids
  unfolding child_row
  child_row_end k h = ap (λ f. at + 1 + size f) (before_all k kids h)

  pub child_row_suc : (t : Tree A) (k : ℕ) → k < count kids → child_row at (suc k) kids ≡ child_row at k kids + 1 + size (nth t k kids).kids
  unfolding child_row
  child_row_suc t k h = omega (arith, size-before_suc t k kids h)

  pub child_row-inside : (k : ℕ) → k < count kids → child_row at k kids < at + 1 + size kids
  unfolding child_row
  child_row-inside k h = omega (arith, size-cut k kids, count-from k kids (omega arith), count_le_size (from k kids))

-- what an answer of `child` tells
module _ {A : Type 0} (at k : ℕ) (kids : Forest A) where
  pub child_of_at : (row : ℕ) → Ok row ≡ child_of at k kids → (k < count kids) × (row ≡ child_row at k kids)
  unfolding child_of
  child_of_at row e = go (ltb k (count kids)) refl e
    where
      go : (b : Bool) → ltb k (count kids) ≡ b → Ok row ≡ (if b then Ok (child_row at k kids) else Err (count kids))
          → (k < count kids) × (row ≡ child_row at k kids)
      go true p q = (ltb-true k (count kids) p, (cc))
      go false p q = absurd (let z : ◌≡◌ {A = ℕ} 0 1 = cc in omega arith)

  pub child_of_fewer : (n : ℕ) → Err n ≡ child_of at k kids → (n ≤ k) × (n ≡ count kids)
  unfolding child_of
  child_of_fewer n e = go (ltb k (count kids)) refl e
    where
      go : (b : Bool) → ltb k (count kids) ≡ b → Err n ≡ (if b then Ok (child_row at k kids) else Err (count kids)) → (n ≤ k) × (n ≡ count kids)
      go true p q = absurd (let z : ◌≡◌ {A = ℕ} 0 1 = cc in omega arith)
      go false p q = let same : n ≡ count kids = cc in (omega (arith, ltb-false k (count kids) p), same)

-- the k-th child of a node; t is any tree
pub node-child : {xs : List Row} {at : ℕ} {c : Cell} {kids : Forest Cell} (t : Tree Cell) (k : ℕ) → Node xs at c kids → k < count kids
    → Node xs (child_row at k kids) (nth t k kids).root (nth t k kids).kids
node-child {kids = kids} t k node l =
    record {
      rest = from (suc k) kids;
      held =
          record {
            after = tape row_of node.rest ++ node.held.after;
            rows = holds_child node.held.rows t k l;
            formed = formed_child t k l
                (formed_kids node.held.formed);
          };
    }

-- ---- a loop that counts a node's children: the first k are passed, and the next one, or the end, is in a row
pub record Passed {A : Type 0} (at row k : ℕ) (kids : Forest A) : Type 0 where
  pub place : row ≡ child_row at k kids
  pub few : k ≤ count kids

pub passed_none : {A : Type 0} (at : ℕ) (kids : Forest A) → Passed at (at + 1) 0 kids
passed_none at kids = record { place = sym (child_row-first at kids); few = omega arith }

module _ {A : Type 0} {at row k : ℕ} {kids : Forest A} (p : Passed at row k kids) where
  pub passed_more : row < at + 1 + size kids → k < count kids
  passed_more h = go (leb (count kids) k) refl
    where
      go : (b : Bool) → leb (count kids) k ≡ b → k < count kids
      go true e = absurd (omega (arith, p.place, child_row_end at kids k (leb-true (count kids) k e)))
      go false e = leb-false (count kids) k e

  pub passed_all : at + 1 + size kids ≤ row → k ≡ count kids
  passed_all h = go (leb (count kids) k) refl
    where
      go : (b : Bool) → leb (count kids) k ≡ b → k ≡ count kids
      go true e = omega (arith, p.few, leb-true (count kids) k e)
      go false e = absurd (omega (arith, p.place, child_row-inside at kids k (leb-false (count kids) k e)))

-- a turn of the loop, to the row that `end_of` answers
pub passed_next : {xs : List Row} {at row k : ℕ} {c : Cell} {kids : Forest Cell} (next : ℕ) → next ≡ end_of xs row → Node xs at c kids
    → Passed at row k kids → row < at + 1 + size kids → Passed at next (k + 1) kids
passed_next {xs} {at} {row} {k} {c} {kids} next n node p h =
    let l : k < count kids = passed_more p h in
    let t : Tree Cell = record { root = c; kids = none } in
    let e : end_of xs row ≡ child_row at (suc k) kids = rw p.place (end_here (node-child t k node l) ∙ sym (child_row_suc at kids t k l)) in
    record { place = rw add-one (n ∙ e); few = omega arith }

-- ---- steps from row to row, whatever the table holds
-- leaves follow one another row by row
pub steps_leaves : {xs : List Row} {end start m row : ℕ} (n : ℕ) → row + n ≤ end → end ≤ length xs → Leaves xs row n → Steps xs end start m row
    → Steps xs end start (m + n) (row + n)
steps_leaves {m = m} {row} zero h b l s = rw (add-zero row, add-zero m) s
steps_leaves {xs} {end} {start} {m} {row} (suc n) h b l s =
    let leaf : end_of xs (row + n) ≡ row + suc n = omega (arith, l n (omega arith)) in
    let more : m + n + 1 ≡ m + suc n = omega arith in
    let all = steps_next (steps_leaves n (omega arith) b (λ i k. l i (omega arith)) s) (omega arith) in
    subst (λ r. Steps xs end start (m + suc n) r) leaf (subst (λ k. Steps xs end start k (end_of xs (row + n))) more all)

pub steps_on : {xs : List Row} {end start m row : ℕ} (next : ℕ) → next ≡ end_of xs row → row < end → Steps xs end start m row → Steps xs end start (m + 1) next
steps_on {xs} {end} {start} {m} next e l s = subst (λ r. Steps xs end start (m + 1) r) (sym e) (steps_next s l)

-- where the table holds a node in a row, they pass its children
steps_passed : {xs : List Row} {at : ℕ} {c : Cell} {kids : Forest Cell} {n row : ℕ} → Node xs at c kids → Steps xs (end_of xs at) (at + 1) n row
    → Passed at row n kids
steps_passed {at = at} {kids = kids} node steps_none = passed_none at kids
steps_passed {kids = kids} node (steps_next {row = row} s l) = passed_next _ refl node (steps_passed node s) (omega (arith, end_here node))

-- ---- each way out of `child` and of `arity`
-- a row behind the table holds no node
pub no_node : {C : Type 0} {xs : List Row} {at : ℕ} {c : Cell} {kids : Forest Cell} → Node xs at c kids → length xs ≤ at → C
no_node node h = absurd (omega (arith, inside_here node))

module _ {xs : List Row} {at k : ℕ} where
  child_of-rows : {r : Result ℕ ℕ} → ChildRows xs at k r → ForNode xs at (λ c kids. r ≡ child_of at k kids)
  unfolding child_of
  child_of-rows (child_at s l) c kids node =
      let p = steps_passed node s in
      let more : k < count kids = passed_more p (omega (arith, end_here node)) in
      rw (lt-ltb k (count kids) more) (ap Ok p.place)
  child_of-rows (child_fewer s l few) c kids node =
      let n = passed_all (steps_passed node s) (omega (arith, end_here node)) in
      rw (le-ltb k (count kids) (omega arith)) (ap Err n)

  child_is : {r : Result ℕ ℕ} → ChildRows xs at k r → Bounded xs at k r → ChildIs xs at k r
  child_is rows place = record { rows = rows; place = place; held = child_of-rows rows }

  module _ {end : ℕ} (ends : end ≡ end_of xs at) {m row : ℕ} (s : Steps xs end (at + 1) m row) where
    pub child-found : m ≡ k → row < end → at < row → ChildIs xs at k (Ok row)
    child-found e l b = child_is (child_at (subst (λ n. Steps xs (end_of xs at) (at + 1) n row) e (subst (λ n. Steps xs n (at + 1) m row) ends s))
        (omega arith)) (b, omega arith)

    pub child_none : end ≤ row → m ≤ k → ChildIs xs at k (Err m)
    child_none l few = child_is (child_fewer (subst (λ n. Steps xs n (at + 1) m row) ends s) (omega arith) few) few

  pub child_out : length xs ≤ at → ChildIs xs at k (Err 0)
  child_out out = child_is (child_fewer steps_none (omega arith) (omega arith)) (omega arith)

module _ {xs : List Row} {at : ℕ} where
  arity_is : {m : ℕ} → ArityRows xs at m → m ≤ length xs → ArityIs xs at m
  arity_is rows few = record {
    rows = rows;
    few = few;
    held = λ c kids node. passed_all (steps_passed node rows.steps)
        (omega (arith, end_here node, rows.all));
  }

  pub arity_counted : {end m row : ℕ} → end ≡ end_of xs at → Steps xs end (at + 1) m row → end ≤ row → m ≤ length xs → ArityIs xs at m
  arity_counted {m = m} {row} ends s l few =
      arity_is (record { last = row; steps = subst (λ n. Steps xs n (at + 1) m row) ends s; all = omega arith }) few

  pub arity_out : length xs ≤ at → ArityIs xs at 0
  arity_out out = arity_is (record { last = at + 1; steps = steps_none; all = omega arith }) (omega arith)
