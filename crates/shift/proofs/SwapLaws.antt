-- Laws of the children of a node, two runs of which change places.
use Prim.Native.Nat.{ℕ, zero, suc, ◌+◌, ◌-◌, ◌≤◌, ◌<◌}
use native.Mathlib.Omega.{arith}
use mathlib.Core.Path.{◌≡◌, refl, ap, sym, ◌∙◌, subst}
use mathlib.Core.List.{List, ◌++◌, append_assoc}
use lib.ListN.{length, drop}
use lib.Seq.{drop_at, drop-drop}
use Rattle.spec.specs.Forest.{Forest, none, Tree, tree, single, count, size, before, from, nth, insert_at, remove_at, ◌⧺◌}
use Rattle.spec.proofs.SplitLaws.{split, count-before, count-append, before_split, insert_split, remove_split}
use Rattle.tape.specs.Tape.{tape, Laid}
use Rattle.tape.specs.Rows.{child_row}
use Rattle.tape.specs.declared.fields.Cell.{Cell}
use Rattle.tape.specs.Cell.{Formed, deep}
use Rattle.tape.specs.Lent.{Texts}
use Rattle.tape.proofs.Cells.{blank, formed_⧺}
use Rattle.tape.proofs.Forests.{⧺_assoc, size_⧺, size-single, before-from, count-from}
use Rattle.tape.proofs.Tape.{tape_⧺, length-tape}
use Rattle.tape.proofs.Changes.{laid_holds}
use Rattle.table.specs.Sound.{Sound}
use Rattle.table.proofs.AllLaws.{all_⧺}
use Rattle.changes.specs.Cut.{Cut}
use Rattle.changes.proofs.CutLaws.{deep_⧺, formed_left, formed_right, sound_left, sound_right}

-- of the node in a row: the children from the row `at` on, in n rows and in m rows behind them, change places
pub record Swap (row : ℕ) (kids changed : Forest Cell) (at n m : ℕ) : Type 0 where
  pub left : Forest Cell
  pub first : Forest Cell
  pub second : Forest Cell
  pub right : Forest Cell
  pub old : kids ≡ left ⧺ (first ⧺ second) ⧺ right
  pub new : changed ≡ left ⧺ (second ⧺ first) ⧺ right
  pub place : at ≡ row + 1 + size left
  pub many : n ≡ size first
  pub more : m ≡ size second

module _ {row : ℕ} {kids changed : Forest Cell} {at n m : ℕ} (s : Swap row kids changed at n m) where
  pub swap_cut : Cut row kids at (n + m) s.left s.right
  swap_cut =
      record {
        middle = s.first ⧺ s.second;
        parts = s.old;
        place = s.place;
        many = omega (arith, size_⧺ s.first s.second, s.many, s.more);
      }

  pub swap_formed : Formed kids → Formed (s.second ⧺ s.first)
  swap_formed o =
      let all : Formed (s.left ⧺ (s.first ⧺ s.second) ⧺ s.right) = subst Formed s.old o in
      let middle = formed_left (s.first ⧺ s.second) s.right (formed_right s.left ((s.first ⧺ s.second) ⧺ s.right) all) in
      formed_⧺ (formed_right s.first s.second middle) (formed_left s.first s.second middle)

  pub swap_sound : {T : Texts} → Sound T kids → Sound T (s.second ⧺ s.first)
  swap_sound {T} o =
      let all : Sound T (s.left ⧺ (s.first ⧺ s.second) ⧺ s.right) = subst (Sound T) s.old o in
      let middle = sound_left (s.first ⧺ s.second) s.right (sound_right s.left ((s.first ⧺ s.second) ⧺ s.right) all) in
      all_⧺ (sound_right s.first s.second middle) (sound_left s.first s.second middle)

  pub swap_size : size (s.second ⧺ s.first) ≡ n + m
  swap_size = omega (arith, size_⧺ s.second s.first, s.many, s.more)

  pub swap_deep : deep (s.second ⧺ s.first) ≤ deep kids
  swap_deep =
      let a = ap deep s.old ∙ deep_⧺ s.left ((s.first ⧺ s.second) ⧺ s.right) in
      let b = deep_⧺ (s.first ⧺ s.second) s.right in
      let c = deep_⧺ s.first s.second in
      let d = deep_⧺ s.second s.first in
      omega arith

  -- the rows of the two runs, where the table has the children's
  pub swap_rows : {W : Type 0} {w : Cell → Forest Cell → W} {xs : List W} {used : ℕ} {front back : List W} → Laid w xs used front kids back
      → row + 1 ≡ length front → (after : List W) × (drop at xs ≡ tape w s.first ++ (tape w s.second ++ after))
  swap_rows {W} {w} {xs} {used} {front} {back} l e =
      let behind : List W = tape w s.right ++ (back ++ drop used xs) in
      let here : at ≡ length front + size s.left = omega (arith, s.place) in
      let words : tape w kids ≡ tape w s.left ++ (tape w s.first ++ (tape w s.second ++ tape w s.right)) =
      rw (s.old, tape_⧺ w s.left ((s.first ⧺ s.second) ⧺ s.right), tape_⧺ w (s.first ⧺ s.second) s.right, tape_⧺ w s.first s.second)
      (simp append_assoc) in
      let all : drop (length front) xs ≡ tape w s.left ++ (tape w s.first ++ (tape w s.second ++ behind)) =
      (laid_holds l).is ∙ rw words (simp append_assoc) in (
        behind,
        rw (here, ← drop-drop (size s.left) (length front) xs, all)
            (drop_at (tape w s.left) (tape w s.first ++ (tape w s.second ++ behind)) (size s.left) (length-tape w s.left)),
      )

-- the trees before a place, of a forest that is joined there
before_joined : {f : Forest Cell} {k : ℕ} (a b : Forest Cell) → f ≡ a ⧺ b → count a ≡ k → before k f ≡ a
before_joined {f} {k} a b e c = ap (λ n. before n f) (sym c) ∙ ap (before (count a)) e ∙ before_split a b

-- fewer trees have fewer nodes
pub before_less : (i j : ℕ) (f : Forest Cell) → i < count f → size (before i f) ≤ size (before j f) → i ≤ j
unfolding count before size
before_less i j none h l = absurd (omega arith)
before_less zero j (tree a kids rest) h l = omega arith
before_less (suc i) zero (tree a kids rest) h l = absurd (omega arith)
before_less (suc i) (suc j) (tree a kids rest) h l = let ih = before_less i j rest (omega arith) (omega arith) in omega arith

-- ---- the i-th child taken out, and put in as the j-th of what is left
module _ (row : ℕ) (kids : Forest Cell) (i j : ℕ) (ith : i < count kids) (jth : j < count kids) where
  abbrev t : Tree Cell
  t = nth blank i kids

  abbrev then_kids : Forest Cell
  then_kids = insert_at j t (remove_at i kids)

  -- to the back: it changes places with those behind it
  pub swap_back : i < j → (n m : ℕ) → n ≡ suc (size t.kids) → row + 1 + size (before i kids) + n + m ≡ row + 1 + size (before (suc j) kids)
      → Swap row kids then_kids (child_row row i kids) n m
  unfolding child_row ◌⧺◌ count size
  swap_back h n m many ends =
      let left = before i kids in
      let behind = from (suc i) kids in
      let second = before (j - i) behind in
      let right = from (j - i) behind in
      let parts : kids ≡ left ⧺ tree t.root t.kids behind = split blank i kids ith in
      let joined : left ⧺ behind ≡ (left ⧺ second) ⧺ right = ap (λ f. left ⧺ f) (sym (before-from (j - i) behind)) ∙ sym (⧺_assoc left second right) in
      let left-count : count left ≡ i = count-before i kids (omega arith) in
      let behind-count : suc i + count behind ≡ count kids = count-from (suc i) kids (omega arith) in
      let second-count : count second ≡ j - i = count-before (j - i) behind (omega arith) in
      let both-count : count (left ⧺ second) ≡ j = count-append left second ∙ omega arith in
      let removed : remove_at i kids ≡ (left ⧺ second) ⧺ right =
      ap (λ f. remove_at i f) parts ∙ ap (λ k. remove_at k (left ⧺ tree t.root t.kids behind)) (sym left-count)
      ∙ remove_split left t.root t.kids behind ∙ joined in
      let inserted : then_kids ≡ (left ⧺ second) ⧺ single t ⧺ right =
      ap (insert_at j t) removed ∙ ap (λ k. insert_at k t ((left ⧺ second) ⧺ right)) (sym both-count) ∙ insert_split (left ⧺ second) right t in
      let old : kids ≡ left ⧺ (single t ⧺ second) ⧺ right = parts ∙ ap (λ f. left ⧺ tree t.root t.kids f) (sym (before-from (j - i) behind)) in
      let upper : before (suc j) kids ≡ left ⧺ single t ⧺ second =
      before_joined (left ⧺ single t ⧺ second) right (old ∙ sym (⧺_assoc left (single t ⧺ second) right))
      (count-append left (single t ⧺ second) ∙ omega arith) in
      let sizes = ap size upper ∙ size_⧺ left (single t ⧺ second) in
      record {
        left = left;
        first = single t;
        second = second;
        right = right;
        old = old;
        new = inserted ∙ ⧺_assoc left second (single t ⧺ right) ∙ ap (λ f. left ⧺ f) (sym (⧺_assoc second (single t) right));
        place = refl;
        many = many ∙ sym (size-single t);
        more = omega arith;
      }

  -- to the front: those before it change places with it
  pub swap_front : j ≤ i → (n m : ℕ) → n ≡ suc (size t.kids) → child_row row i kids ≡ child_row row j kids + m
      → Swap row kids then_kids (child_row row j kids) m n
  unfolding child_row ◌⧺◌ count size
  swap_front h n m many ends =
      let upto = before i kids in
      let left = before j upto in
      let first = from j upto in
      let right = from (suc i) kids in
      let parts : kids ≡ upto ⧺ tree t.root t.kids right = split blank i kids ith in
      let halves : upto ≡ left ⧺ first = sym (before-from j upto) in
      let upto-count : count upto ≡ i = count-before i kids (omega arith) in
      let left-count : count left ≡ j = count-before j upto (omega arith) in
      let joined : upto ⧺ right ≡ left ⧺ first ⧺ right = ap (λ f. f ⧺ right) halves ∙ ⧺_assoc left first right in
      let removed : remove_at i kids ≡ left ⧺ first ⧺ right =
      ap (λ f. remove_at i f) parts ∙ ap (λ k. remove_at k (upto ⧺ tree t.root t.kids right)) (sym upto-count)
      ∙ remove_split upto t.root t.kids right ∙ joined in
      let inserted : then_kids ≡ left ⧺ single t ⧺ first ⧺ right =
      ap (insert_at j t) removed ∙ ap (λ k. insert_at k t (left ⧺ first ⧺ right)) (sym left-count) ∙ insert_split left (first ⧺ right) t in
      let whole : kids ≡ left ⧺ first ⧺ tree t.root t.kids right =
      parts ∙ ap (λ f. f ⧺ tree t.root t.kids right) halves ∙ ⧺_assoc left first (tree t.root t.kids right) in
      let lower : before j kids ≡ left = before_joined left (first ⧺ tree t.root t.kids right) whole left-count in
      let sizes = ap size halves ∙ size_⧺ left first in
      let lower-size = ap size lower in
      record {
        left = left;
        first = first;
        second = single t;
        right = right;
        old = whole ∙ ap (λ f. left ⧺ f) (sym (⧺_assoc first (single t) right));
        new = inserted;
        place = omega arith;
        many = omega arith;
        more = many ∙ sym (size-single t);
      }
