-- Laws of a forest cut in three, with other trees in the middle.
use Prim.Native.Nat.{ℕ, suc, ◌+◌, ◌≤◌, ◌<◌, max}
use native.Mathlib.Omega.{arith}
use mathlib.Core.Path.{◌≡◌, refl, ap, sym, ◌∙◌, subst}
use mathlib.Core.List.{List, [], ◌∷◌, ◌++◌}
use lib.ListN.{length, take, drop, length-append}
use Rattle.spec.specs.Forest.{Forest, none, tree, single, count, size, before, from, nth, ◌⧺◌}
use Rattle.tape.specs.Columns.{used_after, spliced}
use Rattle.tape.specs.Tape.{tape, Laid}
use Rattle.tape.specs.declared.fields.Cell.{Cell}
use Rattle.tape.specs.Cell.{Formed, formed_none, formed_tree, deep}
use Rattle.tape.specs.Lent.{Texts}
use Rattle.tape.specs.Rows.{child_row}
use Rattle.tape.proofs.Columns.{Room}
use Rattle.tape.proofs.Forests.{size_⧺, size-single, before-from, from-nth}
use Rattle.tape.proofs.Cells.{blank, formed_⧺}
use Rattle.tape.proofs.Changes.{tape_exchange, laid_kids, laid_splice}
use Rattle.table.specs.All.{all_none, all_tree}
use Rattle.table.specs.Sound.{Sound}
use Rattle.table.proofs.AllLaws.{all_⧺}
use Rattle.changes.specs.Cut.{Cut}

-- ---- both parts of a joined forest
pub deep_⧺ : (f g : Forest Cell) → deep (f ⧺ g) ≡ max (deep f) (deep g)
unfolding deep ◌⧺◌
deep_⧺ none g = omega arith
deep_⧺ (tree c kids rest) g = let ih = deep_⧺ rest g in omega arith

pub formed_left : (f g : Forest Cell) → Formed (f ⧺ g) → Formed f
unfolding ◌⧺◌
formed_left none g o = formed_none
formed_left (tree c kids rest) g (formed_tree fit k r) = formed_tree fit k (formed_left rest g r)

pub formed_right : (f g : Forest Cell) → Formed (f ⧺ g) → Formed g
unfolding ◌⧺◌
formed_right none g o = o
formed_right (tree c kids rest) g (formed_tree fit k r) = formed_right rest g r

module _ {T : Texts} where
  pub sound_left : (f g : Forest Cell) → Sound T (f ⧺ g) → Sound T f
  unfolding ◌⧺◌
  sound_left none g m = all_none
  sound_left (tree c kids rest) g (all_tree h k r) = all_tree h k (sound_left rest g r)

  pub sound_right : (f g : Forest Cell) → Sound T (f ⧺ g) → Sound T g
  unfolding ◌⧺◌
  sound_right none g m = m
  sound_right (tree c kids rest) g (all_tree h k r) = sound_right rest g r

-- ---- other trees in the middle
module _ {row : ℕ} {kids : Forest Cell} {at removed : ℕ} {left right : Forest Cell} (cut : Cut row kids at removed left right) where
  pub cut_inside : size left + removed ≤ size kids
  cut_inside =
      omega (arith, cut.many, ap size cut.parts, size_⧺ left (cut.middle ⧺ right), size_⧺ cut.middle right)

  pub cut_formed : {new : Forest Cell} → Formed kids → Formed new → Formed (left ⧺ new ⧺ right)
  cut_formed o n =
      let all : Formed (left ⧺ cut.middle ⧺ right) = subst Formed cut.parts o in
      formed_⧺ (formed_left left (cut.middle ⧺ right) all)
      (formed_⧺ n (formed_right cut.middle right (formed_right left (cut.middle ⧺ right) all)))

  pub cut_sound : {T : Texts} {new : Forest Cell} → Sound T kids → Sound T new → Sound T (left ⧺ new ⧺ right)
  cut_sound {T} m n =
      let all : Sound T (left ⧺ cut.middle ⧺ right) = subst (Sound T) cut.parts m in
      all_⧺ (sound_left left (cut.middle ⧺ right) all)
      (all_⧺ n (sound_right cut.middle right (sound_right left (cut.middle ⧺ right) all)))

  module _ (new : Forest Cell) where
    pub cut-size : size (left ⧺ new ⧺ right) + removed ≡ size kids + size new
    cut-size =
        omega (
          arith,
          cut.many,
          ap size cut.parts,
          size_⧺ left (cut.middle ⧺ right),
          size_⧺ cut.middle right,
          size_⧺ left (new ⧺ right),
          size_⧺ new right,
        )

    -- only the new trees can nest more containers than there were
    pub cut-deep : (deep new ≤ deep (left ⧺ new ⧺ right)) × (deep (left ⧺ new ⧺ right) ≤ max (deep kids) (deep new))
    cut-deep =
        let a = deep_⧺ left (new ⧺ right) in
        let b = deep_⧺ new right in
        let c = ap deep cut.parts ∙ deep_⧺ left (cut.middle ⧺ right) in
        let d = deep_⧺ cut.middle right in
        (omega arith, omega arith)

-- the rows behind a node's own word
pub past_front : {W : Type 0} (front : List W) (x : W) (row n : ℕ) → row ≡ length front → row + 1 + n ≡ length (front ++ (x ∷ [])) + n
past_front front x row n e = rw e (simp length-append)

-- the children's rows with the new trees' in place of those in the middle
module _ {W : Type 0} {w : Cell → Forest Cell → W} {xs : List W} {used : ℕ} {front back : List W} {c : Cell} {kids rest : Forest Cell} {row at removed : ℕ}
    {left right : Forest Cell} where
  pub laid_exchange : (new : Forest Cell) (source n : ℕ) → Laid w xs used front (tree c kids rest) back → row ≡ length front
      → Cut row kids at removed left right → Room xs used removed source n → take n (drop source xs) ≡ tape w new
      → Laid w (spliced xs used at removed source n) (used_after used removed n) (front ++ (w c kids ∷ [])) (left ⧺ new ⧺ right) (tape w rest ++ back)
  laid_exchange new source n l e cut room given =
      laid_splice (left ⧺ new ⧺ right) at (size left) removed source n (laid_kids l) (cut.place ∙ past_front front (w c kids) row (size left) e)
      (cut_inside cut) room (tape_exchange w left cut.middle new right kids cut.parts ∙ rw (given, cut.many))

-- ---- before a child, and around it
module _ {row : ℕ} {kids : Forest Cell} {at : ℕ} (k : ℕ) (place : at ≡ child_row row k kids) where
  pub cut-before : Cut row kids at 0 (before k kids) (from k kids)
  unfolding child_row ◌⧺◌ size
  cut-before = record { middle = none; parts = sym (before-from k kids); place = place; many = refl }

  pub cut_around : k < count kids → (removed : ℕ) → removed ≡ suc (size (nth blank k kids).kids)
      → Cut row kids at removed (before k kids) (from (suc k) kids)
  unfolding child_row
  cut_around l removed e =
      record {
        middle = single (nth blank k kids);
        parts = sym (before-from k kids) ∙ ap (λ f. before k kids ⧺ f) (from-nth blank k kids l);
        place = place;
        many = e ∙ sym (size-single (nth blank k kids));
      }
