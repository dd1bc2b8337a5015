-- A value in a row, as `measure` and `write` come to know it: each way out.
use Prim.Native.Nat.{ℕ, ◌+◌, ◌-◌, ◌≤◌, ◌<◌, min}
use native.Mathlib.Omega.{arith}
use mathlib.Core.Path.{◌≡◌, sym, ap, ap₂, ◌∙◌}
use mathlib.Core.Bool.{Bool, true, false}
use mathlib.Core.List.{[], ◌∷◌, ◌++◌}
use lib.Dec.{eqb}
use lib.ListN.{length, get_or, length-append}
use Rattle.spec.specs.Bytes.{Bytes}
use Rattle.spec.specs.Forest.{Forest, size}
use Rattle.spec.specs.Write.{write_items, write}
use Rattle.tape.specs.Layout.{array_kind, object_kind}
use Rattle.tape.specs.Fields.{kind_of, name_of, value_of}
use Rattle.tape.specs.declared.fields.Spelling.{Spelling}
use Rattle.tape.specs.declared.fields.Name.{Name}
use Rattle.tape.specs.declared.fields.Cell.{Cell}
use Rattle.tape.specs.Cell.{Fit, deep}
use Rattle.tape.specs.Rows.{end_of}
use Rattle.tape.proofs.Cells.{formed_fit}
use Rattle.tape.proofs.Depth.{level-container}
use Rattle.tape.proofs.Rows.{inside_here, kind_here, cell_here, end_here}
use Rattle.tape.proofs.Held.{held_node}
use Rattle.table.specs.Meaning.{members, meant}
use Rattle.writer.specs.Pieces.{scalar_bytes, opening_bracket, closing_bracket, prefix_bytes}
use Rattle.writer.specs.Writing.{Placed, PlacedSome, Writable, ForWritable, MeasureIs, WriteIs, length_limit}
use Rattle.writer.proofs.PlacedLaws.{lent_part, back, placed_as, placed_none, placed_on, placed_then, some_none, some_then, some_on}
use Rattle.writer.proofs.PieceLaws.{write-scalar, write-container}
use Rattle.writer.proofs.ProgressLaws.{Progress, progress_all, progress_next, progress_none}
use Rattle.tape.specs.Lent.{Table}

module _ {W : Table} {at levels : ℕ} {c : Cell} {kids : Forest Cell} (w : Writable W at levels c kids) where
  fit : Fit c kids
  fit = formed_fit w.node.held.formed

  kind_is : (tag : ℕ) → tag ≡ kind_of (get_or W.nodes at []) → tag ≡ c.kind
  kind_is tag e = e ∙ kind_here (held_node w.node.held)

  -- no node stands behind the table, and with no levels left there is no container
  pub none_there : {C : Type 0} → length W.nodes ≤ at → C
  none_there h = absurd (omega (arith, inside_here (held_node w.node.held)))

  pub none_nested : {C : Type 0} (tag : ℕ) → tag ≡ kind_of (get_or W.nodes at []) → array_kind ≤ tag → levels ≡ 0 → C
  none_nested tag e h z = absurd (omega (arith, w.nested, level-container c (deep kids) (omega (arith, kind_is tag e))))

  pub scalar_text : (tag : ℕ) (value : Spelling) → tag ≡ kind_of (get_or W.nodes at []) → value ≡ value_of (get_or W.nodes at []) → tag < array_kind
      → write (meant W.texts c kids) ≡ scalar_bytes W.texts tag value
  scalar_text tag value e f h =
      let k = kind_is tag e in
      write-scalar W.texts c kids fit (omega arith) w.node.label.verbatim
      ∙ sym (ap₂ (scalar_bytes W.texts) k (f ∙ ap (λ (d : Cell). d.value) (cell_here (held_node w.node.held) [])))

  -- a scalar takes one row
  pub scalar_end : (tag : ℕ) → tag ≡ kind_of (get_or W.nodes at []) → tag < array_kind → at + 1 ≡ end_of W.nodes at
  unfolding size
  scalar_end tag e h =
      let k = kind_is tag e in
      let none_below : size kids ≡ 0 = ap size (fit.scalar (omega arith)) in
      omega (arith, end_here (held_node w.node.held), none_below)

  module _ (tag : ℕ) (tag_is : tag ≡ kind_of (get_or W.nodes at [])) (container : array_kind ≤ tag) where
    abbrev items : Bytes
    items = write_items (eqb tag object_kind) true (members W.texts kids)

    pub container_text : write (meant W.texts c kids) ≡ (opening_bracket (eqb tag object_kind) ∷ []) ++ items ++ (closing_bracket (eqb tag object_kind) ∷ [])
    container_text =
        let k = kind_is tag tag_is in
        write-container W.texts c kids fit (omega arith)
        ∙ ap (λ n. (opening_bracket (eqb n object_kind) ∷ []) ++ write_items (eqb n object_kind) true (members W.texts kids) ++
        (closing_bracket (eqb n object_kind) ∷ [])) (sym k)

    pub container_long : length (write (meant W.texts c kids)) ≡ 2 + length items
    container_long = ap length container_text ∙ simp length-append (omega arith)

    pub values_all : {R : Bytes → Type 0} (end : ℕ) → end ≡ end_of W.nodes at → R [] → Progress W (eqb tag object_kind) (levels - 1) kids (at + 1) end true R
    values_all end e r = let k = kind_is tag tag_is in progress_all (eqb tag object_kind) end e (omega arith) w r

-- ---- `measure`
-- the length so far, with both brackets
abbrev pub Counted : ℕ → Bytes → Type 0
Counted total text = total ≡ min (2 + length text) length_limit

module _ (W : Table) (at levels : ℕ) where
  -- at the head of the loop, of whatever value there is in a row
  abbrev pub Measuring : Bool → ℕ → ℕ → Bool → ℕ → Type 0
  Measuring object row end first total =
      (c : Cell) (kids : Forest Cell) → Writable W at levels c kids → Progress W object (levels - 1) kids row end first (Counted total)

module _ {W : Table} {at levels : ℕ} where
  -- each way out
  pub measure_out : length W.nodes ≤ at → MeasureIs W at levels 0
  measure_out h = record { few = omega arith; held = λ c kids w. none_there w h }

  pub measure_scalar : (tag : ℕ) (value : Spelling) → tag ≡ kind_of (get_or W.nodes at []) → value ≡ value_of (get_or W.nodes at []) → tag < array_kind
      → (r : ℕ) → r ≡ length (scalar_bytes W.texts tag value) → r ≤ length_limit → MeasureIs W at levels r
  measure_scalar tag value e f h r n few =
      record { few = few; held = λ c kids w. omega (arith, ap length (scalar_text w tag value e f h)) }

  pub measuring_next : {object first : Bool} {row end total : ℕ} → Measuring W at levels object row end first total → row < end
      → (next : ℕ) → next ≡ end_of W.nodes row
      → (name : Name) → name ≡ name_of (get_or W.nodes row [])
      → (before : ℕ) → before ≡ length (prefix_bytes W.texts object first name)
      → (value : ℕ) → MeasureIs W row (levels - 1) value
      → (total' : ℕ) → total' ≡ min (total + before + value) length_limit
      → Measuring W at levels object next end false total'
  measuring_next {object} {first} {row} {end} {total} m more next n name name_is before before-is value value-is total' total-is c kids w =
      progress_next (m c kids w) more next (λ d ks w'. n) λ d ks w' text r.
      let own : Bytes = prefix_bytes W.texts object first (name_of (get_or W.nodes row [])) in
      let here : before ≡ length own = before-is ∙ ap (λ m. length (prefix_bytes W.texts object first m)) name_is in
      let one = length-append text own in
      let both = length-append (text ++ own) (write (meant W.texts d ks)) in
      omega (arith, value-is.held d ks w', total-is)

  module _ (tag : ℕ) (tag_is : tag ≡ kind_of (get_or W.nodes at [])) (container : array_kind ≤ tag) where
    pub measure_nested : levels ≡ 0 → MeasureIs W at levels 0
    measure_nested z = record { few = omega arith; held = λ c kids w. none_nested w tag tag_is container z }

    pub measuring_all : (end : ℕ) → end ≡ end_of W.nodes at → Measuring W at levels (eqb tag object_kind) (at + 1) end true 2
    measuring_all end e c kids w = values_all w tag tag_is container end e (omega arith)

    pub measuring_none : {row end total : ℕ} {first : Bool} → Measuring W at levels (eqb tag object_kind) row end first total → end ≤ row
        → total ≤ length_limit → MeasureIs W at levels total
    measuring_none m h few =
        record { few = few; held = λ c kids w. omega (arith, progress_none (m c kids w) h, container_long w tag tag_is container) }

-- ---- `write`
module _ (W : Table) (at levels : ℕ) where
  -- at the head of the loop; `put₀` and `out₀` are where it begins
  pub record Laying (object : Bool) (row end : ℕ) (first : Bool) (put₀ : ℕ) (out₀ out : Bytes) (put : ℕ) : Type 0 where
    pub some : PlacedSome put₀ out₀ out put
    pub held : (c : Cell) (kids : Forest Cell) → Writable W at levels c kids
        → Progress W object (levels - 1) kids row end first (λ text. Placed text put₀ out₀ out put)

module _ {W : Table} {at levels : ℕ} where
  -- each way out
  pub write_out : {out : Bytes} → length W.nodes ≤ at → WriteIs W at levels out out 0
  write_out {out} h = record { some = some_none 0 out (omega arith); held = λ c kids w. none_there w h }

  pub write-scalar_laid : {before after : Bytes} {r : ℕ} (tag : ℕ) (value : Spelling) → tag ≡ kind_of (get_or W.nodes at [])
      → value ≡ value_of (get_or W.nodes at []) → tag < array_kind → Placed (scalar_bytes W.texts tag value) 0 before after r
      → WriteIs W at levels before after r
  write-scalar_laid tag value e f h p =
      record { some = record { bytes = _; placed = p }; held = λ c kids w. placed_as (scalar_text w tag value e f h) p }

  pub laying_next : {object first : Bool} {row end put₀ put n m : ℕ} {out₀ out part last : Bytes}
      → Laying W at levels object row end first put₀ out₀ out put → row < end
      → (next : ℕ) → ForWritable W row (levels - 1) (λ v. next ≡ end_of W.nodes row)
      → (name : Name) → name ≡ name_of (get_or W.nodes row [])
      → Placed (prefix_bytes W.texts object first name) 0 (lent_part out put) part n
      → WriteIs W row (levels - 1) (lent_part (back out put part) (put + n)) last m
      → Laying W at levels object next end false put₀ out₀ (back (back out put part) (put + n) last) (put + n + m)
  laying_next {object} {first} l more next e name name_is p q =
      record {
        some = some_then (some_then l.some p) q.some.placed;
        held = λ c kids w.
            progress_next (l.held c kids w) more next e λ d ks w' text r.
            placed_then (placed_then r (placed_as (ap (prefix_bytes W.texts object first) (sym name_is)) p)) (q.held d ks w');
      }

  module _ (tag : ℕ) (tag_is : tag ≡ kind_of (get_or W.nodes at [])) (container : array_kind ≤ tag) where
    pub write-nested : {out : Bytes} → levels ≡ 0 → WriteIs W at levels out out 0
    write-nested {out} z = record { some = some_none 0 out (omega arith); held = λ c kids w. none_nested w tag tag_is container z }

    pub laying_all : (end : ℕ) → end ≡ end_of W.nodes at → (put : ℕ) (out : Bytes) → put ≤ length out
        → Laying W at levels (eqb tag object_kind) (at + 1) end true put out out put
    laying_all end e put out h =
        record { some = some_none put out h; held = λ c kids w. values_all w tag tag_is container end e (placed_none put out h) }

    pub laying_none : {row end put₀ put n : ℕ} {first : Bool} {before out₀ out last : Bytes} (opening closing : ℕ)
        → opening ≡ opening_bracket (eqb tag object_kind) → closing ≡ closing_bracket (eqb tag object_kind)
        → Placed (opening ∷ []) 0 before out₀ put₀
        → Laying W at levels (eqb tag object_kind) row end first put₀ out₀ out put → end ≤ row
        → Placed (closing ∷ []) 0 (lent_part out put) last n
        → WriteIs W at levels before (back out put last) (put + n)
    laying_none opening closing o k p l h q =
        record {
          some = some_then (some_on p l.some) q;
          held = λ c kids w.
              placed_as (container_text w tag tag_is container ∙ rw (← o, ← k)) (placed_then (placed_on p (progress_none (l.held c kids w) h)) q);
        }
