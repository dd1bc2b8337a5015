-- Laws of rows that are laid down: another tree behind those so far, and a node's own row before those of its children.
use Rattle.std.specs.Prelude.{if◌then◌else◌}
use Prim.Native.Nat.{ℕ, suc, ◌+◌, ◌-◌, ◌%◌, ◌≤◌, ◌<◌, min}
use native.Mathlib.Omega.{arith}
use native.Mathlib.Nat.{add-zero}
use native.Mathlib.Decide.{dec_lt}
use mathlib.Core.Path.{◌≡◌, refl, sym, ap, ap₂, ◌∙◌, subst}
use mathlib.Core.List.{List, [], ◌∷◌, ◌++◌, append-nil}
use lib.ListN.{length, take, drop, get_or, set, length-set}
use lib.Seq.{take-take, take_at, take-set-le}
use lib.Dec.{eqb}
use mathlib.Core.Bool.{Bool, true, false}
use borrow.Author.Tests.{eq-eqb, ne_eqb}
use Rattle.spec.proofs.ListLaws.{drop-take}
use Rattle.spec.specs.Forest.{Forest, none, tree, single, size, ◌⧺◌}
use Rattle.tape.specs.Layout.{values, array_kind, object_kind}
use Rattle.tape.specs.Fields.{Row, no_node, with_span, kind_of, origin_of}
use Rattle.tape.specs.Columns.{moved, copied}
use Rattle.tape.specs.declared.fields.Cell.{Cell}
use Rattle.tape.specs.Tape.{tape}
use Rattle.tape.specs.Cell.{row_of, Fit, formed_none, formed_tree, Node}
use Rattle.tape.specs.Map.{map_forest}
use Rattle.tape.specs.Lent.{Texts}
use Rattle.tape.proofs.Forests.{size_⧺, size-single}
use Rattle.tape.proofs.Tape.{tape_⧺, length-tape}
use Rattle.tape.proofs.Cells.{formed_⧺, formed_fit, fit_container, with_span_row}
use Rattle.tape.proofs.Columns.{moved_in, moved_no_target, take-replaced, length-replaced, words-replaced, length-words}
use Rattle.tape.proofs.Rows.{row_here, end_here, inside_here}
use Rattle.tape.proofs.Held.{held_node}
use Rattle.tape.proofs.Map.{map_⧺, size-map}
use Rattle.table.specs.Meaning.{name_text}
use Rattle.table.specs.All.{all_none, all_tree}
use Rattle.table.specs.Sound.{LabelFits, NameFits, NodeHeld}
use Rattle.table.proofs.AllLaws.{all_⧺}
use Rattle.reader.proofs.RowLaws.{between, between_none, between_join, between-set, from-between}
use Rattle.changes.proofs.KeptLaws.{held_alone}
use Rattle.origin.specs.Value.{Members, named}
use Rattle.operations.specs.Stamp.{with_origin}
use Rattle.merge.specs.Bearing.{View, entry_by, value_by, cell_with}
use Rattle.merge.specs.Building.{full, tree_rows, object_origin, closed, CopyIs, Framed, Built, BuiltNode}

-- ---- rows before one are the same
pub framed_self : {to : ℕ} {xs : List Row} → Framed to xs xs
framed_self = record { before = refl; same_length = refl }

pub framed_then : {to : ℕ} {xs ys zs : List Row} → Framed to xs ys → Framed to ys zs → Framed to xs zs
framed_then a b = record { before = b.before ∙ a.before; same_length = b.same_length ∙ a.same_length }

pub framed_before : {to : ℕ} {xs ys : List Row} (at : ℕ) → at ≤ to → Framed to xs ys → Framed at xs ys
framed_before {to} {xs} {ys} at h f =
    record { before = sym (take-take at to ys h) ∙ ap (take at) f.before ∙ take-take at to xs h; same_length = f.same_length }

pub framed_set : (to : ℕ) (xs : List Row) (row : ℕ) (y : Row) → to ≤ row → Framed to xs (set xs row y)
framed_set to xs row y h = record { before = take-set-le to xs row y h; same_length = length-set xs row y }

pub framed_moved : (to : ℕ) (xs : List Row) (start n : ℕ) → start + n ≤ length xs → Framed to xs (moved xs to start n)
unfolding copied
framed_moved to xs start n there = go (dec_lt (length xs) (to + n))
  where
    go : Dec (length xs < to + n) → Framed to xs (moved xs to start n)
    go (yes h) = subst (Framed to xs) (sym (moved_no_target xs to start n h)) framed_self
    go (no h) =
        let new : List Row = take n (drop start xs) in
        let many : length new ≡ n = length-words xs to start n (omega arith) there in
        rw (moved_in xs to start n (omega arith) there)
        (record {
          before = take-replaced xs to n new (omega arith) to (omega arith);
          same_length = length-replaced xs to n new (omega arith) ∙ omega arith;
        })

pub framed_closed : (to : ℕ) (xs : List Row) (target patch next : ℕ) → Framed to xs (closed xs target patch to next)
unfolding closed
framed_closed to xs target patch next = go (eqb next to)
  where
    go : (b : Bool) → Framed to xs
        (if b then xs else set xs to (with_origin (with_span (get_or xs patch no_node) ((next - to - 1) % values)) (object_origin xs target patch)))
    go true = framed_self
    go false = framed_set to xs to _ (omega arith)

-- ---- a tree is copied
module _ {T : Texts} where
  module _ {nodes nodes' : List Row} {from to r : ℕ} (copy : CopyIs nodes from to nodes' r) {c : Cell} {kids : Forest Cell}
      (held : NodeHeld (record { texts = T; nodes = nodes }) from c kids) where
    copy_rows : tree_rows nodes from ≡ suc (size kids)
    copy_rows = omega (arith, end_here (held_node held.held))

    pub copy_next : r ≡ min (to + suc (size kids)) full
    copy_next = copy.next_is ∙ ap (λ n. min (to + n) full) copy_rows

    copied-words : to + suc (size kids) ≤ length nodes → take (suc (size kids)) (drop to nodes') ≡ tape row_of (tree c kids none)
    unfolding copied
    copied-words room =
        let n : ℕ = suc (size kids) in
        let there : from + n ≤ length nodes = omega (arith, end_here (held_node held.held), inside_here (held_node held.held)) in
        let new : List Row = take n (drop from nodes) in
        let many : length new ≡ n = length-words nodes to from n room there in
        let made = copy.nodes_are ∙ ap (moved nodes to from) copy_rows ∙ moved_in nodes to from n room there in
        let held_one = held_alone held.held in
        ap (λ ys. take n (drop to ys)) made
        ∙ ap (take n) (words-replaced nodes to n new (omega arith))
        ∙ take_at new (drop (to + n) nodes) n many
        ∙ ap (take n) held_one.rows.is
        ∙ take_at (tape row_of (tree c kids none)) held_one.after n (length-tape row_of (tree c kids none) ∙ alone_size)
      where
        alone_size : size (tree c kids none) ≡ suc (size kids)
        alone_size = size-single (record { root = c; kids = kids })

-- ---- a row with another origin
row_with_lem : (k : ℕ) (c : Cell) (cells : Forest Cell) → with_origin (row_of c cells) k ≡ row_of (cell_with k c) cells
unfolding row_of
row_with_lem k c cells = refl

fit_with : (k : ℕ) {c : Cell} {cells : Forest Cell} → Fit c cells → Fit (cell_with k c) cells
fit_with k fit = record { kind = fit.kind; small = fit.small; scalar = fit.scalar; value = fit.value; name = fit.name }

-- ---- rows that are laid down
module _ {o : View} {T : Texts} where
  pub built_none : (start : ℕ) (nodes : List Row) → Built o T nodes start start none
  unfolding size tape map_forest
  built_none start nodes =
      record { cells = none; ends = add-zero start; rows = between_none start nodes; formed = formed_none; means = refl; sound = all_none }

  -- they stand as long as only rows behind them change
  pub built_kept : {start end : ℕ} {all : Members} {nodes nodes' : List Row}
      → Framed end nodes nodes' → Built o T nodes start end all → Built o T nodes' start end all
  built_kept {start} f b =
      record { cells = b.cells; ends = b.ends; rows = ap (drop start) f.before ∙ b.rows; formed = b.formed; means = b.means; sound = b.sound }

  pub built_join : {start mid end : ℕ} {all more : Members} {nodes : List Row} → Built o T nodes start mid all → Built o T nodes mid end more
      → Built o T nodes start end (all ⧺ more)
  built_join {start} {mid} {end} {all} {more} {nodes} f g =
      let l : start ≤ mid = omega (arith, f.ends) in
      let m : mid ≤ end = omega (arith, g.ends) in
      record {
        cells = f.cells ⧺ g.cells;
        ends = omega (arith, f.ends, g.ends, size_⧺ f.cells g.cells);
        rows = between_join start mid end nodes l m ∙ ap₂ ◌++◌ f.rows g.rows ∙ sym (tape_⧺ row_of f.cells g.cells);
        formed = formed_⧺ f.formed g.formed;
        means = map_⧺ (entry_by o T) f.cells g.cells ∙ ap₂ ◌⧺◌ f.means g.means;
        sound = all_⧺ f.sound g.sound;
      }

  pub built_size : {start end : ℕ} {all : Members} {nodes : List Row} → Built o T nodes start end all → start + size all ≡ end
  built_size b =
      let n = ap size (sym b.means) ∙ size-map (entry_by o T) b.cells in
      omega (arith, b.ends)

  -- one node with what is below it
  pub built_single : {start end : ℕ} {c : Cell} {k : ℕ} {all : Members} {nodes : List Row} → NameFits T c.name → LabelFits T c.kind c.value
      → BuiltNode o T nodes start end c k all
      → Built o T nodes start end (tree (record { name = name_text T c.name; label = (entry_by o T c).label; origin = k }) all none)
  unfolding size map_forest
  built_single {c = c} name label b =
      record {
        cells = tree (cell_with b.bears c) b.cells none;
        ends = omega (arith, b.ends);
        rows = b.rows;
        formed = b.formed;
        means = ap₂ (λ n m. tree (record { name = name_text T c.name; label = (entry_by o T c).label; origin = n }) m none) b.told b.means;
        sound = all_tree (record { name = name; label = label }) b.sound all_none;
      }

  pub built_held : {start end : ℕ} {c : Cell} {k : ℕ} {all : Members} {nodes : List Row} → end ≤ length nodes → LabelFits T c.kind c.value
      → (b : BuiltNode o T nodes start end c k all) → NodeHeld (record { texts = T; nodes = nodes }) start (cell_with b.bears c) b.cells
  built_held {start} {end} {c} {k} {all} {nodes} long label b =
      let l : start ≤ end = omega (arith, b.ends) in
      record {
        rest = none;
        held =
            record {
              after = drop end nodes;
              rows = record { is = from-between start end nodes l long ∙ ap (λ ys. ys ++ drop end nodes) b.rows };
              formed = b.formed;
            };
        label = label;
        sound = b.sound;
      }

  -- a tree is copied
  module _ {nodes nodes' : List Row} {from to r : ℕ} (copy : CopyIs nodes from to nodes' r) {c : Cell} {kids : Forest Cell}
      (held : NodeHeld (record { texts = T; nodes = nodes }) from c kids) where
    pub copy_built : NameFits T c.name → r ≤ length nodes → length nodes < full
        → Built o T nodes' to r (single (named (name_text T c.name) (value_by o T c kids)))
    unfolding map_forest
    copy_built name room short =
        let n : ℕ = suc (size kids) in
        let next : r ≡ to + n = omega (arith, copy_next copy held) in
        let count : r - to ≡ n = omega arith in
        let alone = size-single (record { root = c; kids = kids }) in
        record {
          cells = tree c kids none;
          ends = omega arith;
          rows = drop-take to r nodes' ∙ ap (λ k. take k (drop to nodes')) count ∙ copied-words copy held (omega arith);
          formed = (held_alone held.held).formed;
          means = refl;
          sound = all_tree (record { name = name; label = held.label }) held.sound all_none;
        }

  -- an object is closed
  pub close_built : {nodes : List Row} {patch to next : ℕ} {c : Cell} {kids : Forest Cell} {k : ℕ} {all : Members}
      → Node nodes patch c kids → array_kind ≤ c.kind → (target : ℕ) → o (object_origin nodes target patch) ≡ k
      → to < next → next ≤ length nodes → length nodes < values → Built o T nodes (to + 1) next all
      → BuiltNode o T (closed nodes target patch to next) to next c k all
  unfolding tape size closed
  close_built {nodes} {patch} {to} {next} {c} {kids} node container target told l room short b =
      let span : ℕ = next - to - 1 in
      let own : ℕ = object_origin nodes target patch in
      let many : span ≡ size b.cells = omega (arith, b.ends) in
      let fit : Fit c b.cells = fit_container b.cells (formed_fit node.held.formed) container (omega arith) in
      let made : with_origin (with_span (get_or nodes patch no_node) (span % values)) own ≡ row_of (cell_with own c) b.cells =
      ap (λ (row : Row). with_origin (with_span row (span % values)) own) (row_here node no_node)
      ∙ ap (λ (row : Row). with_origin row own) (with_span_row c kids b.cells span many (omega arith)) ∙ row_with_lem own c b.cells in
      let stored : closed nodes target patch to next ≡ set nodes to (row_of (cell_with own c) b.cells) = rw (ne_eqb next to (λ e. omega arith), made) in
      record {
        cells = b.cells;
        bears = own;
        told = told;
        ends = b.ends;
        rows =
            ap (between to next) stored ∙ between-set to next nodes (row_of (cell_with own c) b.cells) l room
            ∙ ap (λ ys. row_of (cell_with own c) b.cells ∷ ys) (b.rows ∙ sym (append-nil (tape row_of b.cells)));
        formed = formed_tree (fit_with own fit) b.formed formed_none;
        means = b.means;
        sound = b.sound;
      }

-- ---- the origin of an object that is made
module _ (nodes : List Row) (target patch : ℕ) where
  pub origin-object : kind_of (get_or nodes target []) ≡ object_kind → object_origin nodes target patch ≡ origin_of (get_or nodes target no_node)
  unfolding object_origin
  origin-object h = rw (eq-eqb (kind_of (get_or nodes target [])) object_kind h)

  pub origin_other : (kind_of (get_or nodes target []) ≡ object_kind → ⊥) → object_origin nodes target patch ≡ origin_of (get_or nodes patch no_node)
  unfolding object_origin
  origin_other h = rw (ne_eqb (kind_of (get_or nodes target [])) object_kind h)
