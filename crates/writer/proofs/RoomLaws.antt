-- How many bytes a value's text has at most, by the rows of its nodes: what `surely_fits` counts, and less than the limit of a sum of lengths.
use Prim.Native.Nat.{ℕ, zero, suc, ◌+◌, ◌-◌, ◌*◌, ◌≤◌, ◌<◌, max, min}
use native.Mathlib.Nat.{add-zero, add-suc, add_assoc}
use native.Mathlib.Omega.{arith}
use native.Mathlib.Decide.{dec_lt, dec_le}
use mathlib.Core.Path.{◌≡◌, sym, ap, ◌∙◌}
use mathlib.Core.Bool.{Bool, true, false, true≢false}
use mathlib.Core.List.{List, [], ◌++◌}
use lib.Dec.{eqb, leb}
use borrow.Author.Tests.{leb-true, leb-false, le-leb, lt-leb}
use lib.ListN.{length, get_or, take, drop, length-take, length-append}
use lib.Seq.{get_or-take, get_or-drop}
use Rattle.spec.specs.Forest.{Forest, none, tree, size}
use Rattle.spec.specs.Write.{write_items, write}
use Rattle.tape.specs.Layout.{array_kind, object_kind}
use Rattle.tape.specs.Fields.{Row, span_of}
use Rattle.tape.specs.declared.fields.Cell.{Cell}
use Rattle.tape.specs.Cell.{row_of, Held}
use Rattle.tape.specs.Rows.{end_of}
use Rattle.tape.proofs.Cells.{formed_fit}
use Rattle.tape.proofs.Rows.{row_here, end_here, no_node}
use Rattle.tape.proofs.Held.{held_node, held_kids, held_next}
use Rattle.table.specs.Meaning.{members, meant}
use Rattle.table.specs.All.{all_tree}
use Rattle.table.specs.Sound.{Verbatim, Sound}
use Rattle.writer.specs.Pieces.{prefix_bytes}
use Rattle.writer.specs.Writing.{Writable, ForWritable, row_bytes, length_limit, SurelyFitsIs}
use Rattle.writer.proofs.PieceLaws.{write-scalar, write-container, items_tree, items_none}
use Rattle.writer.proofs.LengthLaws.{scalar_short, prefix_short}
use Rattle.tape.specs.Lent.{Texts, Table}

-- ---- rows
module _ (nodes : List Row) where
  -- the most bytes that n rows take, from a row on
  unfoldable pub rows_bytes : ℕ → ℕ → ℕ
  rows_bytes at zero = 0
  rows_bytes at (suc n) = rows_bytes at n + row_bytes (get_or nodes (at + n) [])

  rows_more : (at n m : ℕ) → rows_bytes at (n + m) ≡ rows_bytes at n + rows_bytes (at + n) m
  unfolding rows_bytes
  rows_more at n zero = rw (add-zero n) (omega arith)
  rows_more at n (suc m) =
      let more : rows_bytes at (n + suc m) ≡ rows_bytes at (n + m) + row_bytes (get_or nodes (at + (n + m)) []) = rw (add-suc n m) in
      let place : at + n + m ≡ at + (n + m) = add_assoc at n m in
      more ∙ rw (rows_more at n m, place) (omega arith)

  -- the first, and those behind it
  rows-first : (at n : ℕ) → rows_bytes at (suc n) ≡ row_bytes (get_or nodes at []) + rows_bytes (at + 1) n
  unfolding rows_bytes
  rows-first at zero = rw (add-zero at) (omega arith)
  rows-first at (suc n) =
      let e : at + suc n ≡ at + 1 + n = omega arith in
      rw (rows-first at n, e) (omega arith)

-- the rows of a node that the table holds
node-rows : {nodes : List Row} {at : ℕ} {c : Cell} {kids rest : Forest Cell} → Held nodes at (tree c kids rest)
    → rows_bytes nodes at (suc (size kids)) ≡ row_bytes (row_of c kids) + rows_bytes nodes (at + 1) (size kids)
node-rows {nodes} {at} {c} {kids} h =
    rows-first nodes at (size kids) ∙ ap (λ r. row_bytes r + rows_bytes nodes (at + 1) (size kids)) (row_here (held_node h) [])

-- ---- a value
module _ (W : Table) where
  -- a value, where those below it are within their rows
  value-short : {at : ℕ} {c : Cell} {kids rest : Forest Cell} → Held W.nodes at (tree c kids rest) → Verbatim W.texts c.value
      → ((object : Bool) → length (write_items object true (members W.texts kids)) ≤ rows_bytes W.nodes (at + 1) (size kids))
      → length (write (meant W.texts c kids)) ≤ c.value.length + 5 + rows_bytes W.nodes (at + 1) (size kids)
  value-short {at} {c} {kids} h v below = go (dec_lt c.kind array_kind)
    where
      go : Dec (c.kind < array_kind) → length (write (meant W.texts c kids)) ≤ c.value.length + 5 + rows_bytes W.nodes (at + 1) (size kids)
      go (yes l) = omega (arith, ap length (write-scalar W.texts c kids (formed_fit h.formed) l v), scalar_short W.texts c.kind c.value)
      go (no l) = omega (
        arith,
        simp length-append at (ap length (write-container W.texts c kids (formed_fit h.formed) (omega arith))),
        below (eqb c.kind object_kind),
      )

  -- the values of a container: each takes its own row for what stands before it
  items_short : (object first : Bool) (f : Forest Cell) {at : ℕ} → Held W.nodes at f → Sound W.texts f
      → length (write_items object first (members W.texts f)) ≤ rows_bytes W.nodes at (size f)
  unfolding size row_of
  items_short object first none h s = omega (arith, ap length (items_none W.texts object first))
  items_short object first (tree c kids rest) {at} h (all_tree fits sk sr) =
      let value = value-short h fits.label.verbatim (λ b. items_short b true kids (held_kids h) sk) in
      let others = items_short object false rest (held_next h) sr in
      let split = ap length (items_tree W.texts object first c kids rest fits.name.verbatim) in
      let long = length-append (prefix_bytes W.texts object first c.name ++ write (meant W.texts c kids))
      (write_items object false (members W.texts rest)) in
      let both = length-append (prefix_bytes W.texts object first c.name) (write (meant W.texts c kids)) in
      let rows = rows_more W.nodes at (suc (size kids)) (size rest) in
      let whole : suc (size kids + size rest) ≡ suc (size kids) + size rest = omega arith in
      let place : at + suc (size kids) ≡ at + 1 + size kids = omega arith in
      omega (
        arith,
        ap (rows_bytes W.nodes at) whole,
        ap (λ n. rows_bytes W.nodes n (size rest)) place,
        node-rows h,
        prefix_short W.texts object first c.name,
      )

  writable_bytes : {at levels : ℕ} (c : Cell) (kids : Forest Cell) → Writable W at levels c kids
      → length (write (meant W.texts c kids)) ≤ c.value.length + 5 + rows_bytes W.nodes (at + 1) (size kids)
  writable_bytes c kids w =
      let h = w.node.held in
      value-short h w.node.label.verbatim (λ b. items_short b true kids (held_kids h) w.node.sound)

-- ---- the rows counted one after another
pub record Summed (nodes : List Row) (at row total : ℕ) : Type 0 where
  pub begun : at ≤ row
  pub is : total ≡ rows_bytes nodes at (row - at)
  pub small : total ≤ 131_079 * (row - at)

module _ {nodes : List Row} {at : ℕ} where
  pub summed_none : Summed nodes at at 0
  unfolding rows_bytes
  summed_none = let none_yet : at - at ≡ 0 = omega arith in record { begun = omega arith; is = rw none_yet; small = omega arith }

  module _ {row total : ℕ} (s : Summed nodes at row total) where
    pub summed_next : {n : ℕ} → n ≡ row_bytes (get_or nodes row []) → n ≤ 131_079 → Summed nodes at (row + 1) (total + n)
    unfolding rows_bytes
    summed_next e few =
        let one_more : row + 1 - at ≡ suc (row - at) = omega (arith, s.begun) in
        let place : at + (row - at) ≡ row = omega (arith, s.begun) in
        record {
          begun = omega (arith, s.begun);
          is = rw (one_more, place) (omega (arith, s.is, e));
          small = omega (arith, s.begun, s.small);
        }

    -- where the loop ends, all rows of the node are counted
    pub summed_all : {end room : ℕ} → end ≡ end_of nodes at → end ≤ row → row ≤ max at end → total ≤ room
        → (T : Texts) (levels : ℕ) → ForWritable (record { texts = T; nodes = nodes }) at levels (λ v. length (write v) ≤ room)
    unfolding row_of
    summed_all e l m h T levels c kids w =
        let held = w.node.held in
        let all : row - at ≡ suc (size kids) = omega (arith, end_here (held_node held)) in
        omega (arith, s.is, ap (rows_bytes nodes at) all, node-rows held, writable_bytes (record { texts = T; nodes = nodes }) c kids w)

-- a row of the part that is counted
pub row_within : (nodes : List Row) (at end k : ℕ) → k < length (take (end - at) (drop at nodes))
    → get_or (take (end - at) (drop at nodes)) k [] ≡ get_or nodes (at + k) []
row_within nodes at end k h =
    get_or-take (end - at) (drop at nodes) k [] (omega (arith, length-take (end - at) (drop at nodes))) ∙ get_or-drop at nodes k []

-- ---- each way out of `surely_fits`
module _ {nodes : List Row} {at room : ℕ} where
  pub sure_out : length nodes ≤ at → SurelyFitsIs nodes at room true
  sure_out h = record { there = λ e T levels c kids w. no_node (held_node w.node.held) h; little = λ e. absurd (true≢false e) }

  pub sure_summed : {row total end span : ℕ} → Summed nodes at row total → end ≡ min (at + 1 + span) (length nodes) → span ≡ span_of (get_or nodes at [])
      → span < 65_536
      → end ≤ row → row ≤ max at end → SurelyFitsIs nodes at room (leb total room)
  sure_summed {row} {total} {end} {span} s e f few l m =
      record {
        there = λ t. summed_all s (omega arith) l m (leb-true total room t);
        little = λ t. omega (arith, leb-false total room t, s.small);
      }

-- below the limit, a length that is cut off there is compared as it is
pub cut-compared : (n : ℕ) {m room : ℕ} → m ≡ min n length_limit → room < length_limit → leb m room ≡ leb n room
cut-compared n {m} {room} e h = go (dec_le n room)
  where
    go : Dec (n ≤ room) → leb m room ≡ leb n room
    go (yes l) = le-leb m room (omega arith) ∙ sym (le-leb n room l)
    go (no l) = lt-leb m room (omega arith) ∙ sym (lt-leb n room (omega arith))
