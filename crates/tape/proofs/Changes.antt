-- A change of a node's children in the table. At each level of a walk down, the words in use are `front`, those of a forest, and `back` (Laid): a law
-- goes down to the children or to the k-th child, one replaces words of a forest, and one goes up again with the node's own word brought up to date.
use Prim.Native.Nat.{ℕ, suc, ◌+◌, ◌%◌, ◌≤◌, ◌<◌, min}
use native.Mathlib.Omega.{arith}
use mathlib.Core.Path.{◌≡◌, sym, ap, ◌∙◌}
use mathlib.Core.List.{List, [], ◌∷◌, ◌++◌, append_assoc}
use lib.ListN.{length, take, drop, get_or, set, length-append, length-take, take-append-drop}
use lib.Seq.{take_at, drop_at, drop-append_seam, get_or-append_seam, set-append_seam, take-set-lt, drop-drop}
use Rattle.spec.specs.Forest.{Forest, tree, Tree, count, size, before, from, nth, replace_at, ◌⧺◌}
use Rattle.tape.specs.Columns.{replaced, used_after, spliced}
use Rattle.tape.specs.Tape.{tape, Holds, Laid}
use Rattle.tape.specs.Layout.{values}
use Rattle.tape.specs.Fields.{Row, with_span}
use Rattle.tape.specs.declared.fields.Cell.{Cell}
use Rattle.tape.specs.Cell.{row_of}
use Rattle.tape.specs.Rows.{child_row}
use Rattle.tape.proofs.Columns.{Room, replaced-within, take-spliced}
use Rattle.tape.proofs.Forests.{from-nth}
use Rattle.tape.proofs.Cells.{with_span_row}
use Rattle.tape.proofs.Tape.{length-tape, tape_⧺, tape-cut}

-- ---- the words of a changed forest
module _ {A W : Type 0} (w : A → Forest A → W) where
  -- some trees exchanged for others
  pub tape_exchange : (left old new right f : Forest A) → f ≡ left ⧺ old ⧺ right
      → tape w (left ⧺ new ⧺ right) ≡ replaced (tape w f) (size left) (size old) (tape w new)
  unfolding replaced
  tape_exchange left old new right f e =
      let three : (g : Forest A) → tape w (left ⧺ g ⧺ right) ≡ tape w left ++ (tape w g ++ tape w right) = λ g. rw
      (tape_⧺ w left (g ⧺ right), tape_⧺ w g right) in
      let front : take (size left) (tape w f) ≡ tape w left = rw (e, three old)
      (take_at (tape w left) (tape w old ++ tape w right) (size left) (length-tape w left)) in
      let back : drop (size left + size old) (tape w f) ≡ tape w right =
      rw (← drop-drop, e, three old, drop_at (tape w left) (tape w old ++ tape w right) (size left) (length-tape w left))
      (drop_at (tape w old) (tape w right) (size old) (length-tape w old)) in
      rw (three new, front, back) (sym (append_assoc (tape w left) (tape w new) (tape w right)))

-- ---- the words in use
module _ {A W : Type 0} {w : A → Forest A → W} {xs : List W} {used : ℕ} {front : List W} where
  pub laid_length : {f : Forest A} {back : List W} → Laid w xs used front f back → length front + (size f + length back) ≡ min used (length xs)
  laid_length {f} {back} l = simp (length-append, length-take, length-tape) at (sym (ap length l.is))

  pub laid_holds : {f : Forest A} {back : List W} → Laid w xs used front f back → Holds w xs (length front) f (back ++ drop used xs)
  laid_holds {f} {back} l =
      record {
        is =
            let split : xs ≡ front ++ (tape w f ++ (back ++ drop used xs)) = sym (take-append-drop used xs) ∙ rw l.is (simp append_assoc) in
            ap (drop (length front)) split ∙ drop-append_seam front (tape w f ++ (back ++ drop used xs));
      }

  -- down to the children of the first tree, and to the trees from the k-th on
  pub laid_kids : {a : A} {kids rest : Forest A} {back : List W} → Laid w xs used front (tree a kids rest) back
      → Laid w xs used (front ++ (w a kids ∷ [])) kids (tape w rest ++ back)
  unfolding tape
  laid_kids {a} {kids} {rest} {back} l = record { is = l.is ∙ simp append_assoc }

  pub laid_from : {f : Forest A} {back : List W} (k : ℕ) → Laid w xs used front f back → Laid w xs used (front ++ tape w (before k f)) (from k f) back
  laid_from {f} {back} k l = record { is = l.is ∙ rw (tape-cut w k f) (simp append_assoc) }

  -- and up again
  pub laid_tree : (a : A) {kids rest : Forest A} {back : List W} (x : W) → Laid w xs used (front ++ (x ∷ [])) kids (tape w rest ++ back)
      → x ≡ w a kids → Laid w xs used front (tree a kids rest) back
  unfolding tape
  laid_tree a {kids} {rest} {back} x l e = record { is = l.is ∙ rw e (simp append_assoc) }

  pub laid_join : (f : Forest A) {g : Forest A} {back : List W} → Laid w xs used (front ++ tape w f) g back → Laid w xs used front (f ⧺ g) back
  laid_join f {g} {back} l = record { is = l.is ∙ rw (tape_⧺ w f g) (simp append_assoc) }

  -- up again with the node's own word stored anew
  pub laid_store : (a : A) {kids rest : Forest A} {back : List W} (row : ℕ) (x y : W) → row ≡ length front → y ≡ w a kids
      → Laid w xs used (front ++ (x ∷ [])) kids (tape w rest ++ back)
      → Laid w (set xs row y) used front (tree a kids rest) back
  unfolding tape
  laid_store a {kids} {rest} {back} row x y e new l =
      record {
        is =
            let long = simp (length-append, length-take) at (ap length l.is) in
            let inside : length front < used = omega (arith, long) in
            let behind : List W = tape w kids ++ (tape w rest ++ back) in
            let put : set (front ++ (x ∷ behind)) (length front) y ≡ front ++ (y ∷ behind) = set-append_seam front x behind y in
            rw (e, take-set-lt used xs (length front) y inside, l.is, append_assoc, put, new) (simp append_assoc);
      }

  -- words of a forest replaced
  pub laid_splice : {f : Forest A} {back : List W} (g : Forest A) (row place removed source n : ℕ) → Laid w xs used front f back
      → row ≡ length front + place
      → place + removed ≤ size f → Room xs used removed source n → tape w g ≡ replaced (tape w f) place removed (take n (drop source xs))
      → Laid w (spliced xs used row removed source n) (used_after used removed n) front g back
  laid_splice {f} {back} g row place removed source n l e h room new =
      record {
        is =
            let in_use : row + removed ≤ used = omega (arith, laid_length l) in
            let within : replaced (front ++ (tape w f ++ back)) row removed (take n (drop source xs)) ≡ front ++
            (replaced (tape w f) place removed (take n (drop source xs)) ++ back) =
            replaced-within front (tape w f) back row place removed (take n (drop source xs)) e (omega (arith, length-tape w f)) in
            take-spliced xs used row removed source n in_use room ∙ ap (λ ys. replaced ys row removed (take n (drop source xs))) l.is ∙ within ∙ rw new;
      }

-- ---- down to the k-th child, and up again with another in its place; t is any tree
module _ {A W : Type 0} {w : A → Forest A → W} {xs : List W} {used : ℕ} {front : List W} where
  pub laid_child : {a : A} {kids rest : Forest A} {back : List W} (t : Tree A) (k : ℕ) → k < count kids → Laid w xs used front (tree a kids rest) back
      → Laid w xs used ((front ++ (w a kids ∷ [])) ++ tape w (before k kids)) (tree (nth t k kids).root (nth t k kids).kids (from (suc k) kids))
      (tape w rest ++ back)
  unfolding ◌⧺◌
  laid_child {kids = kids} t k h l = rw (from-nth t k kids h) at (laid_from k (laid_kids l))

  pub laid_put : {back : List W} (b : Tree A) (k : ℕ) (kids : Forest A)
      → Laid w xs used (front ++ tape w (before k kids)) (tree b.root b.kids (from (suc k) kids)) back
      → Laid w xs used front (replace_at k b kids) back
  unfolding replace_at ◌⧺◌
  laid_put b k kids l = laid_join (before k kids) l

-- the k-th child's row
pub child_front : {A W : Type 0} (w : A → Forest A → W) (front : List W) (x : W) (k : ℕ) (kids : Forest A)
    → length ((front ++ (x ∷ [])) ++ tape w (before k kids)) ≡ child_row (length front) k kids
unfolding child_row
child_front w front x k kids = simp length-append (ap (◌+◌ (length front + 1)) (length-tape w (before k kids)))

-- the word before a forest
pub laid_word : {A W : Type 0} {w : A → Forest A → W} {xs : List W} {used : ℕ} {f : Forest A} {back : List W} (front : List W) (x z : W)
    → Laid w xs used (front ++ (x ∷ [])) f back → get_or xs (length front) z ≡ x
laid_word {w = w} {xs} {used} {f} {back} front x z l =
    let split : xs ≡ front ++ (x ∷ (tape w f ++ (back ++ drop used xs))) = sym (take-append-drop used xs) ∙ rw l.is (simp append_assoc) in
    ap (λ ys. get_or ys (length front) z) split ∙ get_or-append_seam front x (tape w f ++ (back ++ drop used xs)) z

-- ---- a node whose children are changed gets its new span
module _ {xs : List Row} {used : ℕ} {front : List Row} {c : Cell} {rest : Forest Cell} {back : List Row} (kids : Forest Cell) where
  pub laid_span : {changed : Forest Cell} (row span : ℕ) → row ≡ length front → span ≡ size changed → span < values
      → Laid row_of xs used (front ++ (row_of c kids ∷ [])) changed (tape row_of rest ++ back)
      → Laid row_of (set xs row (with_span (get_or xs row []) (span % values))) used front (tree c changed rest) back
  laid_span {changed} row span e n h l =
      let here : get_or xs row [] ≡ row_of c kids = rw e (laid_word front (row_of c kids) [] l) in
      let new : with_span (get_or xs row []) (span % values) ≡ row_of c changed = rw here (with_span_row c kids changed span n (omega arith)) in
      laid_store c row (row_of c kids) (with_span (get_or xs row []) (span % values)) e new l

  -- the same where one child was changed, as a walk comes up from it
  pub laid_span_child : (k : ℕ) (b : Tree Cell) (row span : ℕ) → row ≡ length front → span ≡ size (replace_at k b kids) → span < values
      → Laid row_of xs used ((front ++ (row_of c kids ∷ [])) ++ tape row_of (before k kids)) (tree b.root b.kids (from (suc k) kids))
      (tape row_of rest ++ back)
      → Laid row_of (set xs row (with_span (get_or xs row []) (span % values))) used front (tree c (replace_at k b kids) rest) back
  laid_span_child k b row span e n h l = laid_span row span e n h (laid_put b k kids l)
