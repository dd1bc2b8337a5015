-- Laws of what cells mean: a node's kind is its label's tag, so tests on kinds are tests on labels, and depth and nodes are counted on cells.
use Prim.Native.Nat.{ℕ, zero, suc, ◌≤◌}
use mathlib.Core.Path.{◌≡◌, refl, ap}
use native.Mathlib.Omega.{arith}
use lib.Dec.{eqb, leb}
use Rattle.spec.specs.Forest.{Forest, size}
use Rattle.spec.specs.Value.{tag, is_string, is_array, is_object, is_container, depth, nodes}
use Rattle.tape.specs.declared.fields.Spelling.{Spelling}
use Rattle.tape.specs.declared.fields.Cell.{Cell}
use Rattle.tape.specs.Cell.{Formed, level, deep}
use Rattle.tape.proofs.Map.{size-map, levels-map, depths-map}
use Rattle.table.specs.Meaning.{label_of, entry_of, meant}
use Rattle.tape.specs.Lent.{Texts}

module _ (T : Texts) where
  pub tag_label : (kind : ℕ) (value : Spelling) → kind ≤ 6 → tag (label_of T kind value) ≡ kind
  unfolding label_of tag
  tag_label zero value h = refl
  tag_label (suc zero) value h = refl
  tag_label (suc (suc zero)) value h = refl
  tag_label (suc (suc (suc zero))) value h = refl
  tag_label (suc (suc (suc (suc zero)))) value h = refl
  tag_label (suc (suc (suc (suc (suc zero))))) value h = refl
  tag_label (suc (suc (suc (suc (suc (suc zero)))))) value h = refl
  tag_label (suc (suc (suc (suc (suc (suc (suc k))))))) value h = absurd (omega arith)

  module _ (kind : ℕ) (value : Spelling) (h : kind ≤ 6) where
    pub is_string_label : is_string (label_of T kind value) ≡ eqb kind 4
    unfolding is_string
    is_string_label = ap (λ t. eqb t 4) (tag_label kind value h)

    pub is_array_label : is_array (label_of T kind value) ≡ eqb kind 5
    unfolding is_array
    is_array_label = ap (λ t. eqb t 5) (tag_label kind value h)

    pub is_object_label : is_object (label_of T kind value) ≡ eqb kind 6
    unfolding is_object
    is_object_label = ap (λ t. eqb t 6) (tag_label kind value h)

    pub is_container_label : is_container (label_of T kind value) ≡ leb 5 kind
    unfolding is_container
    is_container_label = ap (leb 5) (tag_label kind value h)

  pub nodes-meant : (c : Cell) (kids : Forest Cell) → nodes (meant T c kids) ≡ suc (size kids)
  unfolding nodes
  nodes-meant c kids = ap suc (size-map (entry_of T) kids)

  pub depth-meant : (c : Cell) (kids : Forest Cell) → c.kind ≤ 6 → Formed kids → depth (meant T c kids) ≡ level c (deep kids)
  unfolding depth
  depth-meant c kids h f =
      let same : (c : Cell) → c.kind ≤ 6 → tag (entry_of T c).label ≡ c.kind = λ c h. tag_label c.kind c.value h in
      rw (depths-map (entry_of T) same f) (levels-map (entry_of T) same c (deep kids) h)
