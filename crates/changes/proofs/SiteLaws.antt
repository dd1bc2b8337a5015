-- Laws of a node that stands among the rows in use.
use Prim.Native.Nat.{ℕ, suc, ◌+◌, ◌%◌, ◌≤◌, ◌<◌}
use native.Mathlib.Omega.{arith}
use mathlib.Core.Path.{◌≡◌, ap, sym, ◌∙◌}
use mathlib.Core.List.{List, [], ◌++◌, append_assoc}
use lib.ListN.{length, get_or, length-append}
use Rattle.spec.specs.Forest.{Forest, tree, single, count, size, nth, ◌⧺◌}
use Rattle.tape.specs.Layout.{array_kind, values}
use Rattle.tape.specs.Fields.{Row, no_node, span_of, name_of, row_with}
use Rattle.tape.specs.Rows.{child_row}
use Rattle.tape.specs.Tape.{tape, Laid}
use Rattle.tape.specs.declared.fields.Name.{Name}
use Rattle.tape.specs.declared.fields.Cell.{Cell}
use Rattle.tape.specs.Cell.{row_of, Told, Fit, deep}
use Rattle.tape.specs.Lent.{Table}
use Rattle.tape.proofs.Cells.{blank, formed_fit, formed_kids, span_row, cell_row, made_row}
use Rattle.tape.proofs.Depth.{level-container}
use Rattle.tape.proofs.Tape.{tape_⧺, length-tape}
use Rattle.tape.proofs.Changes.{laid_length, laid_kids, laid_join, laid_store, laid_word}
use Rattle.tape.proofs.Held.{held_laid, held_node}
use Rattle.tape.proofs.Rows.{span_here, cell_here, node-child}
use Rattle.table.proofs.MeaningLaws.{depth-meant}
use Rattle.table.specs.Sound.{NodeHeld}
use Rattle.changes.specs.Cut.{renamed}
use Rattle.changes.specs.Site.{Site}
use Rattle.changes.specs.Rows.{with_name, renamed_at}

module _ {w : Table} {used row levels : ℕ} (z : Site w used row levels) where
  pub site_held : NodeHeld w row z.c z.kids
  site_held =
      let s = z.standing in
      record { rest = z.around.rest; held = held_laid row s.place s.laid s.formed; label = s.label; sound = s.sound }

  pub site_fit : Fit z.c z.kids
  site_fit = formed_fit z.standing.formed

  -- the node's tree is among the rows in use
  pub site_inside : row + suc (size z.kids) ≤ used
  unfolding size
  site_inside = omega (arith, z.standing.place, laid_length z.standing.laid, z.few, z.long)

  -- the children of a container nest one less
  pub site_deep : array_kind ≤ z.c.kind → suc (deep z.kids) ≤ levels
  site_deep container =
      omega (
        arith,
        z.shallow,
        depth-meant w.texts z.c z.kids site_fit.kind (formed_kids z.standing.formed),
        level-container z.c (deep z.kids) container,
      )

  -- the k-th child's rows and its name
  module _ (k : ℕ) (kth : k < count z.kids) {at : ℕ} (place : at ≡ child_row row k z.kids) where
    pub child-rows : {removed : ℕ} → removed ≡ span_of (get_or w.nodes at []) + 1 → removed ≡ suc (size (nth blank k z.kids).kids)
    child-rows e =
        let here : span_of (get_or w.nodes at []) ≡ size (nth blank k z.kids).kids =
        rw place (span_here (node-child blank k (held_node site_held.held) kth)) in
        omega arith

    pub child_name : name_of (get_or w.nodes at no_node) ≡ (nth blank k z.kids).root.name
    child_name = rw place (ap (λ (c : Cell). c.name) (cell_here (node-child blank k (held_node site_held.held) kth) no_node))

    pub child-told : Told (nth blank k z.kids).root.name.text
    child-told = (formed_fit (node-child blank k (held_node site_held.held) kth).held.formed).name

-- ---- a tree under another name
pub renamed_fit : {c : Cell} {kids : Forest Cell} (name : Name) → Fit c kids → Told name.text → Fit (renamed name c kids).root kids
renamed_fit name fit told = record { kind = fit.kind; small = fit.small; scalar = fit.scalar; value = fit.value; name = told }

with_name_row : {c : Cell} {kids : Forest Cell} (name : Name) → Fit c kids → Told name.text
    → with_name (row_of c kids) name ≡ row_of (renamed name c kids).root kids
with_name_row {c} {kids} name fit told =
    ap (λ (d : Cell). row_with (renamed name d kids).root (span_of (row_of c kids) % values)) (cell_row fit)
    ∙ made_row (renamed_fit name fit told) (span_of (row_of c kids)) (span_row c kids)

-- a new name stored for a tree among others
pub laid_rename : {xs : List Row} {used : ℕ} {front back : List Row} (left : Forest Cell) (c : Cell) (kids right : Forest Cell) (name : Name) (at : ℕ)
    → Fit c kids → Told name.text → at ≡ length front + size left
    → Laid row_of xs used front (left ⧺ single (record { root = c; kids = kids }) ⧺ right) back
    → Laid row_of (renamed_at xs at name) used front (left ⧺ single (renamed name c kids) ⧺ right) back
unfolding ◌⧺◌
laid_rename {xs} {used} {front} {back} left c kids right name at fit told e l =
    let there : Laid row_of xs used (front ++ tape row_of left) (tree c kids right) back =
    record { is = l.is ∙ rw (tape_⧺ row_of left (tree c kids right)) (simp append_assoc) } in
    let place : length (front ++ tape row_of left) ≡ length front + size left = simp length-append (ap (◌+◌ (length front)) (length-tape row_of left)) in
    let row : at ≡ length (front ++ tape row_of left) = e ∙ sym place in
    let here : get_or xs at no_node ≡ row_of c kids = rw row (laid_word (front ++ tape row_of left) (row_of c kids) no_node (laid_kids there)) in
    let new : with_name (get_or xs at no_node) name ≡ row_of (renamed name c kids).root kids = rw here (with_name_row name fit told) in
    laid_join left (laid_store (renamed name c kids).root at (row_of c kids) (with_name (get_or xs at no_node) name) row new (laid_kids there))
