-- Laws of rows that change places by way of the scratch rows.
use Prim.Native.Nat.{ℕ, ◌+◌, ◌-◌, ◌≤◌}
use native.Mathlib.Omega.{arith}
use mathlib.Core.Path.{◌≡◌, refl, ap, sym, ◌∙◌}
use mathlib.Core.List.{List, ◌++◌, append_assoc}
use lib.ListN.{length, take, drop, length-append, take-append-drop}
use lib.Seq.{take-take, take_at, drop_at, drop-drop}
use Rattle.spec.specs.Limits.{max_nodes}
use Rattle.spec.specs.Forest.{Forest, size}
use Rattle.spec.proofs.ListLaws.{drop-take}
use Rattle.tape.specs.Layout.{scratch_row, rows}
use Rattle.tape.specs.Fields.{Row}
use Rattle.tape.specs.Columns.{replaced, copied, moved, Scratched}
use Rattle.tape.specs.Tape.{tape, Laid}
use Rattle.tape.proofs.Columns.{moved_in, length-replaced, replaced-within, drop-replaced, replaced_further, replaced-before, words-moved, scratched_moved}
use Rattle.tape.proofs.Tape.{length-tape}
use Rattle.tape.proofs.Changes.{laid_length}
use Rattle.shift.specs.Shift.{exchanged_back, exchanged_front}

-- rows before those of scratch are the same where only scratch rows change
rows_before : (xs ys : List Row) (row n : ℕ) → row + n ≤ scratch_row → take scratch_row ys ≡ take scratch_row xs → take n (drop row ys) ≡ take n (drop row xs)
rows_before xs ys row n h e =
    let part : (l : List Row) → take n (drop row (take scratch_row l)) ≡ take n (drop row l) = λ l. rw
    (drop-take row scratch_row l, take-take n (scratch_row - row) (drop row l) (omega arith)) in
    sym (part ys) ∙ ap (λ l. take n (drop row l)) e ∙ part xs

-- two runs of rows, one behind the other, change places
module _ (xs a b after : List Row) (long : rows ≤ length xs) where
  -- the first is set aside
  pub exchanged_back_lem : (at n m : ℕ) → drop at xs ≡ a ++ (b ++ after) → length a ≡ n → length b ≡ m → at + n + m ≤ max_nodes
      → exchanged_back xs at n m ≡ replaced (moved xs scratch_row at n) at (m + n) (b ++ a)
  unfolding copied
  exchanged_back_lem at n m e many-a many-b h =
      let ys = moved xs scratch_row at n in
      let s : Scratched xs ys = scratched_moved at n refl (omega arith) long (omega arith) in
      let second : take m (drop (at + n) ys) ≡ b =
      rows_before xs ys (at + n) m (omega arith) s.before
      ∙ rw (← drop-drop n at xs, e, drop_at a (b ++ after) n many-a) (take_at b after m many-b) in
      let aside : drop scratch_row ys ≡ a ++ drop (scratch_row + n) xs =
      words-moved xs scratch_row at n (omega arith) (omega arith) ∙ rw (e, take_at a (b ++ after) n many-a) in
      let one : moved ys at (at + n) m ≡ replaced ys at m b =
      moved_in ys at (at + n) m (omega (arith, s.same_length)) (omega (arith, s.same_length)) ∙ ap (replaced ys at m) second in
      let there : length (replaced ys at m b) ≡ length xs =
      length-replaced ys at m b (omega (arith, s.same_length)) ∙ omega (arith, s.same_length) in
      let put : take n (drop scratch_row (replaced ys at m b)) ≡ a =
      rw (drop-replaced ys at m b (omega (arith, s.same_length)) many-b scratch_row (omega arith), aside) (take_at a (drop (scratch_row + n) xs) n many-a) in
      ap (λ l. moved l (at + m) scratch_row n) one
      ∙ moved_in (replaced ys at m b) (at + m) scratch_row n (omega (arith, there)) (omega (arith, there))
      ∙ ap (replaced (replaced ys at m b) (at + m) n) put
      ∙ replaced_further ys at m n b a (omega (arith, s.same_length)) many-b

  -- the second is set aside
  pub exchanged_front_lem : (at n to m : ℕ) → drop to xs ≡ a ++ (b ++ after) → length a ≡ m → length b ≡ n → at ≡ to + m → at + n ≤ max_nodes
      → exchanged_front xs at n to ≡ replaced (moved xs scratch_row at n) to (n + m) (b ++ a)
  unfolding copied
  exchanged_front_lem at n to m e many-a many-b is h =
      let ys = moved xs scratch_row at n in
      let between : at - to ≡ m = omega arith in
      let s : Scratched xs ys = scratched_moved at n refl (omega arith) long (omega arith) in
      let first : take m (drop to ys) ≡ a = rows_before xs ys to m (omega arith) s.before ∙ rw e (take_at a (b ++ after) m many-a) in
      let second : take n (drop at xs) ≡ b = rw (is, ← drop-drop m to xs, e, drop_at a (b ++ after) m many-a) (take_at b after n many-b) in
      let aside : drop scratch_row ys ≡ b ++ drop (scratch_row + n) xs =
      words-moved xs scratch_row at n (omega arith) (omega arith) ∙ ap (λ l. l ++ drop (scratch_row + n) xs) second in
      let one : moved ys (to + n) to (at - to) ≡ replaced ys (to + n) m a =
      ap (moved ys (to + n) to) between
      ∙ moved_in ys (to + n) to m (omega (arith, s.same_length)) (omega (arith, s.same_length)) ∙ ap (replaced ys (to + n) m) first in
      let there : length (replaced ys (to + n) m a) ≡ length xs =
      length-replaced ys (to + n) m a (omega (arith, s.same_length)) ∙ omega (arith, s.same_length) in
      let put : take n (drop scratch_row (replaced ys (to + n) m a)) ≡ b =
      rw (drop-replaced ys (to + n) m a (omega (arith, s.same_length)) many-a scratch_row (omega arith), aside)
      (take_at b (drop (scratch_row + n) xs) n many-b) in
      ap (λ l. moved l to scratch_row n) one
      ∙ moved_in (replaced ys (to + n) m a) to scratch_row n (omega (arith, there)) (omega (arith, there))
      ∙ ap (replaced (replaced ys (to + n) m a) to n) put
      ∙ replaced-before ys to n m b a (omega (arith, s.same_length))

-- words of a forest replaced by as many others
pub laid_replaced : {A W : Type 0} {w : A → Forest A → W} {xs : List W} {used : ℕ} {front : List W} {f : Forest A} {back : List W}
    (g : Forest A) (row place removed : ℕ) (new : List W)
    → Laid w xs used front f back → used ≤ length xs → row ≡ length front + place → place + removed ≤ size f → length new ≡ removed
    → tape w g ≡ replaced (tape w f) place removed new → Laid w (replaced xs row removed new) used front g back
laid_replaced {w = w} {xs} {used} {front} {f} {back} g row place removed new l long e h many is =
    let behind = drop used xs in
    let split : xs ≡ front ++ (tape w f ++ (back ++ behind)) = sym (take-append-drop used xs) ∙ rw l.is (simp append_assoc) in
    let within : replaced (front ++ (tape w f ++ (back ++ behind))) row removed new ≡ front ++ (replaced (tape w f) place removed new ++ (back ++ behind)) =
    replaced-within front (tape w f) (back ++ behind) row place removed new e (omega (arith, length-tape w f)) in
    let whole : replaced xs row removed new ≡ (front ++ (tape w g ++ back)) ++ behind =
    ap (λ l. replaced l row removed new) split ∙ within ∙ rw (← is) (simp append_assoc) in
    let as_long : length (tape w g) ≡ size f =
    ap length is ∙ length-replaced (tape w f) place removed new (omega (arith, length-tape w f)) ∙ omega (arith, length-tape w f) in
    let many-rows : length (front ++ (tape w g ++ back)) ≡ used = simp length-append (omega (arith, as_long, laid_length l)) in
    record { is = ap (take used) whole ∙ take_at (front ++ (tape w g ++ back)) behind used many-rows }
