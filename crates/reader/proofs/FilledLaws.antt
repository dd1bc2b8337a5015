-- Laws of rows that are filled: another item behind those so far, and a node's own row before those of its children; and of the index.
use Rattle.std.specs.Prelude.{if◌then◌else◌}
use Prim.Native.Nat.{ℕ, ◌+◌, ◌-◌, ◌≤◌, ◌<◌, ◌%◌}
use native.Mathlib.Omega.{arith}
use native.Mathlib.Nat.{add-zero}
use mathlib.Core.Path.{◌≡◌, refl, sym, ap, ap₂, ◌∙◌}
use mathlib.Core.Bool.{Bool, true, false}
use mathlib.Core.List.{List, ◌∷◌, ◌++◌, append-nil}
use lib.ListN.{length, drop, set}
use lib.Dec.{eqb}
use lib.Seq.{drop-drop}
use Rattle.spec.specs.Bytes.{Bytes, Text}
use Rattle.spec.specs.Forest.{none, tree, single, size, ◌⧺◌}
use Rattle.spec.specs.Value.{Label, Members, named}
use Rattle.tape.specs.Layout.{values, array_kind, object_kind, scratch_row}
use Rattle.tape.specs.Fields.{Row, row_with}
use Rattle.tape.specs.declared.fields.Spelling.{Spelling}
use Rattle.tape.specs.declared.fields.Name.{Name}
use Rattle.tape.specs.declared.fields.Cell.{Cell}
use Rattle.tape.specs.Tape.{tape}
use Rattle.tape.specs.Cell.{row_of, Fit, formed_none, formed_tree, Held}
use Rattle.tape.specs.Map.{map_forest}
use Rattle.tape.specs.Lent.{Texts, Table}
use Rattle.tape.proofs.Forests.{size_⧺, size_none}
use Rattle.tape.proofs.Tape.{tape_⧺}
use Rattle.tape.proofs.Cells.{formed_⧺, made_row}
use Rattle.tape.proofs.Map.{map_⧺, size-map}
use Rattle.table.specs.Meaning.{source_text, entry_of}
use Rattle.table.specs.All.{all_none, all_tree}
use Rattle.table.proofs.AllLaws.{all_⧺}
use Rattle.index.specs.Slots.{room, parents}
use Rattle.index.specs.Ways.{Entered}
use Rattle.reader.specs.Words.{Labels, Titles}
use Rattle.reader.specs.Filled.{Between, SameBeyond, Noted, Filled}
use Rattle.reader.specs.Taken.{scalar_cell}
use Rattle.reader.proofs.RowLaws.{between, between_none, between_join, between-set, from-between, between-kept}

-- ---- the index
pub beyond_none : {xs : List ℕ} → SameBeyond xs xs
beyond_none = record { is = refl }

pub beyond_then : {xs ys zs : List ℕ} → SameBeyond xs ys → SameBeyond ys zs → SameBeyond xs zs
beyond_then a b = record { is = b.is ∙ a.is }

pub noted_none : {base low : ℕ} {xs : List ℕ} → Noted base low xs xs
noted_none = record { kept = λ slot q t l m. m; beyond = beyond_none }

pub noted_then : {base low : ℕ} {xs ys zs : List ℕ} → Noted base low xs ys → Noted base low ys zs → Noted base low xs zs
noted_then a b = record { kept = λ slot q t l m. b.kept slot q t l (a.kept slot q t l m); beyond = beyond_then a.beyond b.beyond }

pub noted_below : {base low : ℕ} {xs ys : List ℕ} (low' : ℕ) → low' ≤ low → Noted base low xs ys → Noted base low' xs ys
noted_below low' h a = record { kept = λ slot q t l m. a.kept slot q t (omega arith) m; beyond = a.beyond }

pub noted_entered : {w : Table} {base object row : ℕ} {name : Name} {xs ys : List ℕ} {r : Bool} → Entered w xs base object row name ys r
    → Noted base row xs ys
noted_entered {xs = xs} {ys} e =
    record {
      kept = e.kept;
      beyond = record { is = sym (drop-drop room parents ys) ∙ ap (drop room) e.behind ∙ drop-drop room parents xs };
    }

-- ---- rows that are filled
-- a text taken for both
abbrev pub twice : Bytes → Texts
twice s = record { document = s; patch = s }

pub one_text : (s : Bytes) (source : ℕ) → source_text (twice s) source ≡ s
unfolding source_text
one_text s source = go (eqb source 0)
  where
    go : (t : Bool) → (if t then s else s) ≡ s
    go true = refl
    go false = refl

module _ {source : ℕ} {s : Bytes} where
  pub filled_none : (start : ℕ) (nodes : List Row) → Filled source s start start none nodes
  unfolding size tape map_forest
  filled_none start nodes =
      record {
        cells = none;
        ends = add-zero start;
        rows = between_none start nodes;
        formed = formed_none;
        meant = λ T e. refl;
        sound = λ T e. all_none;
      }

  -- they stand as long as only rows behind them change
  pub filled-kept : {start end end' : ℕ} {all : Members} {nodes nodes' : List Row} → Between end end' nodes nodes' → Filled source s start end all nodes
      → Filled source s start end all nodes'
  filled-kept {start} {end} c f =
      record {
        cells = f.cells;
        ends = f.ends;
        rows = between-kept start end c ∙ f.rows;
        formed = f.formed;
        meant = f.meant;
        sound = f.sound;
      }

  pub filled_join : {start mid end : ℕ} {all more : Members} {nodes : List Row} → Filled source s start mid all nodes → Filled source s mid end more nodes
      → Filled source s start end (all ⧺ more) nodes
  filled_join {start} {mid} {end} {all} {more} {nodes} f g =
      let l : start ≤ mid = omega (arith, f.ends) in
      let m : mid ≤ end = omega (arith, g.ends) in
      record {
        cells = f.cells ⧺ g.cells;
        ends = omega (arith, f.ends, g.ends, size_⧺ f.cells g.cells);
        rows = between_join start mid end nodes l m ∙ ap₂ ◌++◌ f.rows g.rows ∙ sym (tape_⧺ row_of f.cells g.cells);
        formed = formed_⧺ f.formed g.formed;
        meant = λ T e. map_⧺ (entry_of T) f.cells g.cells ∙ ap₂ ◌⧺◌ (f.meant T e) (g.meant T e);
        sound = λ T e. all_⧺ (f.sound T e) (g.sound T e);
      }

  -- a node's own row is stored
  pub filled_tree : {row end : ℕ} {kids : Members} {nodes nodes' : List Row} (kind : ℕ) (value : Spelling) (name : Name) (span : ℕ) (label : Label)
      (text : Text) → Labels source s kind label value → Titles source s text name → kind ≤ object_kind → (kind < array_kind → end ≡ row + 1)
      → end ≤ scratch_row → scratch_row ≤ length nodes → span ≡ end - row - 1 → nodes' ≡ set nodes row (row_with (scalar_cell kind value name) (span % values))
      → Filled source s (row + 1) end kids nodes → Filled source s row end (single (named text (record { label = label; kids = kids }))) nodes'
  unfolding tape map_forest size
  filled_tree {row} {end} {kids} {nodes} kind value name span label text labels titles k scalar room long is stored f =
      let c : Cell = scalar_cell kind value name in
      let many : span ≡ size f.cells = omega (arith, f.ends) in
      let fit : Fit c f.cells =
      record {
        kind = k;
        small = omega arith;
        scalar = λ h. size_none f.cells (omega (arith, scalar h, f.ends));
        value = labels.told;
        name = titles.told;
      } in
      let made : row_with c (span % values) ≡ row_of c f.cells = made_row fit span many in
      let l : row < end = omega (arith, f.ends) in
      record {
        cells = tree c f.cells none;
        ends = omega (arith, f.ends);
        rows =
            ap (between row end) stored ∙ between-set row end nodes (row_with c (span % values)) l (omega arith)
            ∙ ap₂ ◌∷◌ made (f.rows ∙ sym (append-nil (tape row_of f.cells)));
        formed = formed_tree fit f.formed formed_none;
        meant = λ T t.
            let entry : entry_of T c ≡ record { name = text; label = label } =
            ap₂ (λ n l. record { name = n; label = l }) (titles.says T t) (labels.says T t) in
            ap₂ (λ e m. tree e m none) entry (f.meant T t);
        sound = λ T t. all_tree (record { name = titles.fits T t; label = labels.fits T t }) (f.sound T t) all_none;
      }

  -- the table holds what fills it, whatever stands behind
  pub filled_held : {start end : ℕ} {all : Members} {nodes : List Row} → end ≤ length nodes → (f : Filled source s start end all nodes)
      → Held nodes start f.cells
  filled_held {start} {end} {all} {nodes} long f =
      let l : start ≤ end = omega (arith, f.ends) in
      record {
        after = drop end nodes;
        rows = record { is = from-between start end nodes l long ∙ ap (λ ys. ys ++ drop end nodes) f.rows };
        formed = f.formed;
      }

  -- how many rows are filled
  pub filled-size : {start end : ℕ} {all : Members} {nodes : List Row} → Filled source s start end all nodes → start + size all ≡ end
  filled-size {all = all} f =
      let n : size all ≡ size f.cells = ap size (sym (f.meant (twice s) (one_text s source))) ∙ size-map (entry_of (twice s)) f.cells in
      omega (arith, f.ends)
