-- Laws of what one member comes to in the table, and of what the table holds while rows are laid down behind it.
use Prim.Native.Nat.{ℕ, ◌+◌, ◌-◌, ◌≤◌, ◌<◌, min}
use native.Mathlib.Omega.{arith}
use native.Mathlib.Decide.{dec_lt}
use mathlib.Core.Path.{◌≡◌, refl, sym, ap, ◌∙◌, subst}
use mathlib.Core.Bool.{Bool, true, false}
use mathlib.Core.List.{List, []}
use lib.Dec.{eqb}
use lib.ListN.{length, take, drop, get_or-eq_default}
use borrow.Author.Tests.{eqb-true, eqb-false}
use Rattle.spec.specs.Forest.{Forest, none, tree, single, size}
use Rattle.spec.specs.Value as Value
use Rattle.spec.specs.Value.{Label, is_object}
use Rattle.spec.proofs.ListLaws.{drop-take}
use Rattle.spec.specs.Distinct as Repeats
use Rattle.spec.specs.Distinct.{NoRepeats}
use Rattle.merging.proofs.ObjectLaws.{single_distinct}
use Rattle.merging.proofs.MemberLaws.{Single}
use Rattle.tape.specs.Layout.{scratch_row, object_kind, rows}
use Rattle.tape.specs.Fields.{Row, no_node, kind_of}
use Rattle.tape.specs.declared.fields.Cell.{Cell}
use Rattle.tape.specs.Cell.{Held, formed_none}
use Rattle.tape.specs.Tape.{tape}
use Rattle.tape.specs.Map.{map_forest}
use Rattle.tape.specs.Lent.{Texts, Table}
use Rattle.tape.proofs.Forests.{size_none}
use Rattle.tape.proofs.Map.{size-map}
use Rattle.tape.proofs.Cells.{formed_fit}
use Rattle.tape.proofs.Held.{held_node}
use Rattle.tape.proofs.Rows.{kind_here, end_here, cell_here}
use Rattle.table.specs.Meaning.{name_text, label_of, entry_of, members, meant}
use Rattle.table.specs.All.{all_none, all_tree}
use Rattle.table.specs.Sound.{NodeHeld, NameFits, LabelFits}
use Rattle.table.proofs.MeaningLaws.{is_object_label}
use Rattle.changes.proofs.KeptLaws.{SameRows, held_same, held_alone}
use Rattle.equality.proofs.SiblingLaws.{Siblings}
use Rattle.origin.specs.Value as Origin
use Rattle.origin.specs.Value.{Members, leaf, named, forget_entry, forget_members, painted_entry, painted}
use Rattle.origin.specs.MergePatch.{merge_origin, as_object, merge_patch}
use Rattle.origin.proofs.ForgetLaws.{map-map}
use Rattle.merge.specs.Bearing.{View, entry_by, members_by, value_by, BearsMerge}
use Rattle.merge.specs.Parts.{merged_members}
use Rattle.merge.specs.Building.{full, tree_rows, object_origin, CopyIs, Framed, Built}
use Rattle.merge.specs.Marks.{Changed}
use Rattle.merge.specs.Partner.{PatchObject}
use Rattle.merge.specs.Merged.{Target, target-object, target_other, Merges}
use Rattle.merge.proofs.BuildLaws.{framed_self, framed_before, framed_moved, built_none, built_single, copy_next}
use Rattle.merge.proofs.BuildLaws.{copy_built, origin-object, origin_other}
use Rattle.merge.proofs.PartLaws.{merge-object, as_object_lem, as_empty}
use Rattle.merge.proofs.MarkLaws.{parents-kept}
use Rattle.merge.proofs.PathLaws.{ways_kept}

-- a table with these nodes
abbrev pub with_nodes : Table → List Row → Table
with_nodes w nodes = record { texts = w.texts; nodes = nodes }

-- ---- what the rows before the scratch rows hold stays
pub framed_back : {to : ℕ} {xs ys : List Row} → Framed to xs ys → Framed to ys xs
framed_back f = record { before = sym f.before; same_length = sym f.same_length }

same_rows : {nodes nodes' : List Row} → Framed scratch_row nodes nodes' → (row n : ℕ) → row + n ≤ scratch_row → SameRows nodes nodes' row n
same_rows {nodes} {nodes'} f row n low =
    let count : row + n - row ≡ n = omega arith in
    let part : (xs : List Row)
    → take n (drop row xs) ≡ drop row (take (row + n) xs) = λ xs. sym (drop-take row (row + n) xs ∙ ap (λ k. take k (drop row xs)) count) in
    record { is = part nodes' ∙ ap (drop row) (framed_before (row + n) low f).before ∙ sym (part nodes) }

module _ {T : Texts} {nodes nodes' : List Row} (f : Framed scratch_row nodes nodes') where
  pub siblings_stay : {row end : ℕ} {g : Forest Cell} → (0 < size g → end ≤ scratch_row) → Siblings (record { texts = T; nodes = nodes }) row end g
      → Siblings (record { texts = T; nodes = nodes' }) row end g
  unfolding tape
  siblings_stay {row} {end} {g} low s = record { left = record { held = go (dec_lt 0 (size g)); ends = s.left.ends }; sound = s.sound }
    where
      go : Dec (0 < size g) → Held nodes' row g
      go (yes h) = held_same (same_rows f row (size g) (omega (arith, low h, s.left.ends))) s.left.held
      go (no h) =
          let nothing : g ≡ none = size_none g (omega arith) in
          subst (Held nodes' row) (sym nothing) (record { after = drop row nodes'; rows = record { is = refl }; formed = formed_none })

  pub node_stays : {row : ℕ} {c : Cell} {kids : Forest Cell} → row + size kids < scratch_row → NodeHeld (record { texts = T; nodes = nodes }) row c kids
      → NodeHeld (record { texts = T; nodes = nodes' }) row c kids
  unfolding size
  node_stays {row} {c} {kids} low h =
      record {
        rest = none;
        held = held_same (same_rows f row (size (tree c kids none)) (omega arith)) (held_alone h.held);
        label = h.label;
        sound = h.sound;
      }

  pub object-stays : {patch start end : ℕ} {c : Cell} {kids : Forest Cell} {xs ys : List ℕ} → Changed nodes start end xs ys
      → PatchObject (record { texts = T; nodes = nodes }) patch c kids xs → PatchObject (record { texts = T; nodes = nodes' }) patch c kids ys
  object-stays {kids = kids} changed o =
      record {
        held = node_stays o.inside o.held;
        object = o.object;
        behind = o.behind;
        inside = o.inside;
        distinct = o.distinct;
        ways = ways_kept o.ways changed.paths (omega (arith, o.behind)) (omega (arith, o.inside, size-map (entry_of T) kids));
        hints = parents-kept f (changed.right o.hints);
      }

pub changed_on : {nodes nodes' : List Row} → Framed scratch_row nodes nodes' → {start end : ℕ} {xs ys : List ℕ} → Changed nodes' start end xs ys
    → Changed nodes start end xs ys
changed_on f c =
    record {
      paths = c.paths;
      notes = c.notes;
      right = λ p. parents-kept (framed_back f) (c.right (parents-kept f p));
      same_length = c.same_length;
    }

-- ---- some members are laid down behind the others
pub record Laid (o : View) (T : Texts) (nodes : List Row) (next : ℕ) (one : Members) (nodes' : List Row) (next' : ℕ) : Type 0 where
  pub framed : Framed next nodes nodes'
  pub counted : next' ≡ min (next + size one) full
  pub built : next' ≤ rows → Built o T nodes' next next' one

pub laid_none : {o : View} {T : Texts} {nodes : List Row} {next : ℕ} → next ≤ full → Laid o T nodes next none nodes next
unfolding size
laid_none {o} {T} {nodes} {next} h = record { framed = framed_self; counted = omega arith; built = λ r. built_none next nodes }

-- a tree is copied
pub laid_copy : {o : View} {T : Texts} {nodes nodes' : List Row} {from next next' : ℕ} → CopyIs nodes from next nodes' next' → {c : Cell} {kids : Forest Cell}
    → NodeHeld (record { texts = T; nodes = nodes }) from c kids → NameFits T c.name → length nodes ≡ rows
    → Laid o T nodes next (single (named (name_text T c.name) (value_by o T c kids))) nodes' next'
unfolding size
laid_copy {o} {T} {nodes} {nodes'} {from} {next} copy {c} {kids} held name long =
    let n = end_here (held_node held.held) in
    record {
      framed = subst (Framed next nodes) (sym copy.nodes_are) (framed_moved next nodes from (tree_rows nodes from) (omega arith));
      counted = copy_next copy held ∙ ap (λ k. min (next + k) full) (omega (arith, size-map (entry_by o T) kids));
      built = λ room. copy_built copy held name (omega arith) (omega arith);
    }

-- two objects are merged
pub laid_merge : {o : View} {w : Table} {patch to : ℕ} {c : Cell} {kids : Forest Cell} {k : ℕ} {all : Members} {xs ys : List ℕ} {nodes' : List Row} {r : ℕ}
    → Framed to w.nodes nodes'
    → Merges o w patch to c kids k all xs nodes' ys r → NameFits w.texts c.name → LabelFits w.texts c.kind c.value
    → Laid o w.texts w.nodes to
    (tree (record { name = name_text w.texts c.name; label = (entry_of w.texts c).label; origin = k }) all none) nodes' r
unfolding size
laid_merge f m name label =
    record { framed = f; counted = m.counted ∙ ap (λ k. min k full) (omega arith); built = λ room. built_single name label (m.built room) }

-- ---- the value that two nodes are merged to
object-label : (T : Texts) (e : Cell) → e.kind ≡ object_kind → label_of T e.kind e.value ≡ Label.object
unfolding label_of
object-label T e k = rw k

pub is_object_lem : (T : Texts) (e : Cell) → e.kind ≡ object_kind → is_object (entry_of T e).label ≡ true
unfolding is_object Value.tag
is_object_lem T e k = ap is_object (object-label T e k)

-- ---- what a view tells
-- without origins it is what the nodes mean
pub forget_view : (o : View) (T : Texts) (f : Forest Cell) → forget_members (members_by o T f) ≡ members T f
forget_view o T f = map-map forget_entry (entry_by o T) f

-- nodes that bear the merge's origin
members-merged : (o : View) (T : Texts) {f : Forest Cell} → BearsMerge o f → members_by o T f ≡ map_forest (painted_entry merge_origin) (members T f)
unfolding map_forest
members-merged o T all_none = refl
members-merged o T (all_tree {a = c} is kids rest) =
    let first : entry_by o T c ≡ painted_entry merge_origin (entry_of T c) =
    λ i. record { name = name_text T c.name; label = (entry_of T c).label; origin = is i } in
    let below = members-merged o T kids in
    let after = members-merged o T rest in
    λ i. tree (first i) (below i) (after i)

pub value-merged : (o : View) (T : Texts) {c : Cell} {kids rest : Forest Cell} → BearsMerge o (tree c kids rest)
    → value_by o T c kids ≡ painted merge_origin (meant T c kids)
value-merged o T {c} (all_tree is kids rest) =
    let below = members-merged o T kids in
    λ i. record { label = (entry_of T c).label; origin = is i; kids = below i }

-- a node as the target of a merge
pub record AsTarget (o : View) (w : Table) (at : ℕ) (v : Origin.Value) : Type 0 where
  pub cells : Forest Cell
  pub origin : ℕ
  pub target : Target o w at origin cells
  pub are : as_object v ≡ record { label = Label.object; origin = origin; kids = members_by o w.texts cells }
  pub distinct : NoRepeats true (members w.texts cells)

pub as_target : {o : View} {w : Table} {at : ℕ} {d : Cell} {ds : Forest Cell} → NodeHeld w at d ds → at + size ds < scratch_row
    → NoRepeats (is_object (entry_of w.texts d).label) (members w.texts ds) → AsTarget o w at (value_by o w.texts d ds)
unfolding map_forest
as_target {o} {w} {at} {d} {ds} h low distinct = go (eqb d.kind object_kind) refl
  where
    fit_kind : d.kind ≤ object_kind
    fit_kind = (formed_fit h.held.formed).kind

    go : (b : Bool) → eqb d.kind object_kind ≡ b → AsTarget o w at (value_by o w.texts d ds)
    go true e =
        let kind = eqb-true d.kind object_kind e in
        let object = is_object_lem w.texts d kind in
        let apart = subst (λ o. NoRepeats o (members w.texts ds)) object distinct in
        record {
          cells = ds;
          origin = o d.origin;
          target = target-object h kind low apart;
          are =
              as_object_lem (value_by o w.texts d ds) object
              ∙ ap (λ l. record { label = l; origin = o d.origin; kids = members_by o w.texts ds }) (object-label w.texts d kind);
          distinct = apart;
        }
    go false e =
        let other = eqb-false d.kind object_kind e in
        let no-object : is_object (entry_of w.texts d).label ≡ false = is_object_label w.texts d.kind d.value fit_kind ∙ e in
        record {
          cells = none;
          origin = merge_origin;
          target = target_other (λ nodes' f k. other (sym (kind_here (held_node (node_stays {T = w.texts} f low h).held)) ∙ k));
          are = as_empty (value_by o w.texts d ds) no-object;
          distinct = Repeats.empty;
        }

-- the row behind the table: the target is nothing
pub no_target : {o : View} {w : Table} → length w.nodes ≡ rows → AsTarget o w rows (leaf merge_origin Label.null_literal)
unfolding map_forest as_object is_object Value.tag
no_target {o} {w} long =
    record {
      cells = none;
      origin = merge_origin;
      target = target_other (λ nodes' f k.
          absurd (omega (arith, ap kind_of (get_or-eq_default nodes' [] {n = rows} (omega (arith, f.same_length))), k)));
      are = refl;
      distinct = Repeats.empty;
    }

-- the origin that the object is given, whatever has been laid down behind it
pub target_origin : {o : View} {w : Table} {target patch k : ℕ} {c : Cell} {kids ts : Forest Cell} {nodes : List Row} → Target o w target k ts
    → Framed scratch_row w.nodes nodes → NodeHeld (with_nodes w nodes) patch c kids → o c.origin ≡ merge_origin
    → o (object_origin nodes target patch) ≡ k
target_origin {o} {w} {target} {patch} {c = c} {nodes = nodes} (target-object {c = d} h kind low distinct) f p is =
    let node = held_node (node_stays {T = w.texts} f low h).held in
    ap o (origin-object nodes target patch (kind_here node ∙ kind) ∙ ap (λ (e : Cell). e.origin) (cell_here node no_node))
target_origin {o} {w} {target} {patch} {c = c} {nodes = nodes} (target_other other) f p is =
    let node = held_node p.held in
    ap o (origin_other nodes target patch (other nodes f) ∙ ap (λ (e : Cell). e.origin) (cell_here node no_node)) ∙ is

pub merged_value : {o : View} {w : Table} {at : ℕ} {v : Origin.Value} (t : AsTarget o w at v) (c : Cell) (below : Forest Cell) → c.kind ≡ object_kind
    → NoRepeats true (members w.texts below)
    → merge_patch v (meant w.texts c below) ≡ record {
      label = (entry_of w.texts c).label;
      origin = t.origin;
      kids = merged_members (members_by o w.texts t.cells) (members w.texts below);
    }
merged_value {o} {w} {at} {v} t c below kind distinct =
    let names : forget_members (as_object v).kids ≡ members w.texts t.cells =
    ap (λ (u : Origin.Value). forget_members u.kids) t.are ∙ forget_view o w.texts t.cells in
    merge-object v (meant w.texts c below) (is_object_lem w.texts c kind) (ap (λ (u : Origin.Value). u.label) t.are) (single_distinct distinct)
    (subst Single (sym names) (single_distinct t.distinct))
    ∙ ap (λ (u : Origin.Value). record { label = Label.object; origin = u.origin; kids = merged_members u.kids (members w.texts below) }) t.are
    ∙ ap (λ l. record { label = l; origin = t.origin; kids = merged_members (members_by o w.texts t.cells) (members w.texts below) })
    (sym (object-label w.texts c kind))
