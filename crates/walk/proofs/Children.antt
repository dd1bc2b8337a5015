-- A node's children, as cells and as what they mean.
use Prim.Native.Nat.{ℕ, suc, ◌+◌, ◌<◌, ◌≤◌}
use native.Mathlib.Omega.{arith}
use mathlib.Core.Path.{◌≡◌, refl, ap, sym, ◌∙◌, subst}
use mathlib.Core.List.{[]}
use Rattle.spec.specs.Outcome.{Outcome}
use Rattle.spec.specs.Bytes.{Text}
use Rattle.spec.specs.Forest.{Forest, tree, count, size, from, nth, ◌⧺◌}
use Rattle.spec.specs.Value.{Label, leaf, named}
use Rattle.spec.specs.Pointer.{child, child_at}
use Rattle.text.specs.Decode.{text_from, text_of}
use Rattle.tape.specs.declared.fields.Cell.{Cell}
use Rattle.tape.specs.Rows.{child_row}
use Rattle.tape.specs.Map.{map_forest, map_tree}
use Rattle.tape.proofs.Cells.{blank}
use Rattle.tape.proofs.Forests.{from-nth, size_kth}
use Rattle.tape.proofs.Held.{held_child}
use Rattle.tape.proofs.Map.{map-nth}
use Rattle.table.specs.Meaning.{label_of, spelled, entry_of, members, meant}
use Rattle.table.specs.Sound.{Sound, NodeHeld}
use Rattle.table.proofs.AllLaws.{all_first, all_from, all_kids}
use Rattle.tape.specs.Lent.{Texts, Table}
use Rattle.origin.specs.Value as Origin
use Rattle.origin.specs.Value.{forget, forget_entry}
use Rattle.origin.specs.Pointer as Origins
use Rattle.origin.proofs.ForgetLaws.{map-map}
use Rattle.walk.specs.Bearing.{bearing, borne_members, borne}

blank_means : (T : Texts) → map_tree (entry_of T) blank ≡ named [] (leaf Label.null_literal)
unfolding label_of spelled text_of text_from map_forest
blank_means T = refl

pub child-meant : (T : Texts) (k : ℕ) (c : Cell) (kids : Forest Cell) → child k (meant T c kids) ≡ map_tree (entry_of T) (nth blank k kids)
unfolding child
child-meant T k c kids = sym (map-nth (entry_of T) blank k kids ∙ ap (λ t. nth t k (members T kids)) (blank_means T))

-- ---- with origins
-- they are forgotten node by node
pub forget-borne : (T : Texts) (c : Cell) (kids : Forest Cell) → forget (borne T c kids) ≡ meant T c kids
forget-borne T c kids = ap (λ f. record { label = label_of T c.kind c.value; kids = f }) (map-map forget_entry (bearing T) kids)

blank_bears : (T : Texts) → map_tree (bearing T) blank ≡ Origin.named [] (Origin.leaf 0 Label.null_literal)
unfolding label_of spelled text_of text_from map_forest
blank_bears T = refl

pub child-borne : (T : Texts) (k : ℕ) (c : Cell) (kids : Forest Cell) → Origins.child k (borne T c kids) ≡ map_tree (bearing T) (nth blank k kids)
unfolding Origins.child
child-borne T k c kids = sym (map-nth (bearing T) blank k kids ∙ ap (λ t. nth t k (borne_members T kids)) (blank_bears T))

-- a token names the child that it names without them
pub child_at-borne : (T : Texts) (t : Text) (c : Cell) (kids : Forest Cell) {o : Outcome ℕ} → child_at t (meant T c kids) ≡ o
    → Origins.child_at t (borne T c kids) ≡ o
child_at-borne T t c kids e = ap (child_at t) (forget-borne T c kids) ∙ e

-- the trees from the k-th on, by the k-th
pub sound_child : {T : Texts} {kids : Forest Cell} (k : ℕ) → k < count kids → Sound T kids
    → Sound T (tree (nth blank k kids).root (nth blank k kids).kids (from (suc k) kids))
unfolding ◌⧺◌
sound_child {T} {kids} k l sound = subst (Sound T) (from-nth blank k kids l) (all_from k sound)

module _ {w : Table} {row : ℕ} {c : Cell} {kids : Forest Cell} (n : NodeHeld w row c kids) (k : ℕ) (l : k < count kids) where
  pub child_held : NodeHeld w (child_row row k kids) (nth blank k kids).root (nth blank k kids).kids
  child_held =
      let there = sound_child k l n.sound in
      record { rest = from (suc k) kids; held = held_child n.held blank k l; label = (all_first there).label; sound = all_kids there }

-- a child lies in its parent's tree
pub child-inside : (row k : ℕ) (kids : Forest Cell) → k < count kids
    → (row ≤ child_row row k kids) × (child_row row k kids + size (nth blank k kids).kids ≤ row + size kids)
unfolding child_row
child-inside row k kids l = (omega arith, omega (arith, size_kth blank k kids l))
