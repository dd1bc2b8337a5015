-- Laws of cells: what a node's row tells, and which forests the rows describe in full.
use Prim.Native.Nat.{ℕ, zero, suc, ◌%◌, ◌≤◌, ◌<◌}
use native.Mathlib.Omega.{arith}
use mathlib.Core.Path.{◌≡◌, refl, ap, subst}
use mathlib.Core.Bool.{Bool, true, false}
use lib.Dec.{leb}
use borrow.Author.Tests.{leb-true, leb-false}
use Rattle.spec.specs.Forest.{Forest, none, tree, Tree, single, count, size, before, from, nth, replace_at, ◌⧺◌}
use Rattle.tape.specs.Layout.{array_kind, values}
use Rattle.tape.specs.declared.fields.Spelling.{Spelling}
use Rattle.tape.specs.declared.fields.Name.{Name}
use Rattle.tape.specs.declared.fields.Cell.{Cell}
use Rattle.tape.specs.Fields.{kind_of, span_of, with_span, cell_of, row_with}
use Rattle.tape.specs.Cell.{row_of, Fit, Formed, formed_none, formed_tree}
use Rattle.tape.proofs.Forests.{from-nth}
use Rattle.tape.proofs.FieldLaws.{kind_tagged, form_tagged, source_tagged, name_form_tagged, name_source_tagged}

abbrev pub no_text : Spelling
no_text = record { form = 0; source = 0; start = 0; length = 0 }

abbrev pub no_name : Name
no_name = record { text = no_text; hash = 0 }

-- any tree, where a law asks for one
abbrev pub blank : Tree Cell
blank = record { root = record { kind = 0; value = no_text; name = no_name; origin = 0 }; kids = none }

-- ---- a node's row
pub span_row : (c : Cell) (kids : Forest Cell) → span_of (row_of c kids) ≡ size kids
unfolding row_of
span_row c kids = refl

-- the row of the same node with other children
pub with_span_row : (c : Cell) (kids others : Forest Cell) (span : ℕ) → span ≡ size others → size others < values
    → with_span (row_of c kids) (span % values) ≡ row_of c others
unfolding row_of
with_span_row c kids others span e h = let n : span % values ≡ size others = omega arith in ap (row_with c) n

module _ {c : Cell} {kids : Forest Cell} (fit : Fit c kids) where
  pub kind_row : kind_of (row_of c kids) ≡ c.kind
  unfolding row_of
  kind_row = kind_tagged c.kind c.value.form c.value.source c.name.text.form c.name.text.source (omega (arith, fit.kind))

  -- the row describes the cell in full
  pub cell_row : cell_of (row_of c kids) ≡ c
  unfolding row_of
  cell_row =
      let k = kind_row in
      let f = form_tagged c.kind c.value.form c.value.source c.name.text.form c.name.text.source fit.value.form in
      let s = source_tagged c.kind c.value.form c.value.source c.name.text.form c.name.text.source fit.value.source in
      let nf = name_form_tagged c.kind c.value.form c.value.source c.name.text.form c.name.text.source fit.name.form in
      let ns = name_source_tagged c.kind c.value.form c.value.source c.name.text.form c.name.text.source fit.name.source in
      λ i.
      record {
        kind = k i;
        value = record { form = f i; source = s i; start = c.value.start; length = c.value.length };
        name = record { text = record { form = nf i; source = ns i; start = c.name.text.start; length = c.name.text.length }; hash = c.name.hash };
        origin = c.origin;
      }

  -- the row that `node_of` makes
  pub made_row : (span : ℕ) → span ≡ size kids → row_with c (span % values) ≡ row_of c kids
  unfolding row_of
  made_row span e = let n : span % values ≡ size kids = omega (arith, fit.small) in ap (row_with c) n

-- a node with children is a container, and a container may have any children that its row can tell
pub container_fit : {c : Cell} {kids : Forest Cell} → Fit c kids → 0 < count kids → array_kind ≤ c.kind
unfolding count
container_fit {c} {kids} fit some = go (leb array_kind c.kind) refl
  where
    go : (b : Bool) → leb array_kind c.kind ≡ b → array_kind ≤ c.kind
    go true e = leb-true array_kind c.kind e
    go false e = absurd (omega (arith, ap count (fit.scalar (leb-false array_kind c.kind e))))

pub fit_container : {c : Cell} {kids : Forest Cell} (others : Forest Cell) → Fit c kids → array_kind ≤ c.kind → size others < values → Fit c others
fit_container others fit container small = record { kind = fit.kind; small = small; scalar = λ h. absurd (omega arith); value = fit.value; name = fit.name }

-- ---- well-formed forests
module _ {c : Cell} {kids rest : Forest Cell} where
  pub formed_fit : Formed (tree c kids rest) → Fit c kids
  formed_fit (formed_tree fit k r) = fit

  pub formed_kids : Formed (tree c kids rest) → Formed kids
  formed_kids (formed_tree fit k r) = k

  pub formed_rest : Formed (tree c kids rest) → Formed rest
  formed_rest (formed_tree fit k r) = r

pub formed_⧺ : {f g : Forest Cell} → Formed f → Formed g → Formed (f ⧺ g)
unfolding ◌⧺◌
formed_⧺ formed_none o = o
formed_⧺ (formed_tree fit k r) o = formed_tree fit k (formed_⧺ r o)

pub formed_single : (t : Tree Cell) → Fit t.root t.kids → Formed t.kids → Formed (single t)
formed_single t fit o = formed_tree fit o formed_none

pub formed_before : {f : Forest Cell} (k : ℕ) → Formed f → Formed (before k f)
unfolding before
formed_before zero o = formed_none
formed_before (suc k) formed_none = formed_none
formed_before (suc k) (formed_tree fit o r) = formed_tree fit o (formed_before k r)

pub formed_from : {f : Forest Cell} (k : ℕ) → Formed f → Formed (from k f)
unfolding from
formed_from zero o = o
formed_from (suc k) formed_none = formed_none
formed_from (suc k) (formed_tree fit o r) = formed_from k r

-- the trees from the k-th on, by the k-th; t is any tree
pub formed_child : {f : Forest Cell} (t : Tree Cell) (k : ℕ) → k < count f → Formed f
    → Formed (tree (nth t k f).root (nth t k f).kids (from (suc k) f))
unfolding ◌⧺◌
formed_child {f} t k h o = subst Formed (from-nth t k f h) (formed_from k o)

-- the three changes
module _ {f : Forest Cell} (k : ℕ) (formed : Formed f) where
  module _ (t : Tree Cell) (new : Formed (single t)) where
    pub formed_replace_at : Formed (replace_at k t f)
    unfolding replace_at
    formed_replace_at = formed_⧺ (formed_before k formed) (formed_⧺ new (formed_from (suc k) formed))
