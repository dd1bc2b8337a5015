-- Laws of a move, of the loop that clears words, and of the two moves that make a splice.
use Rattle.std.specs.Prelude.{Bool, true, false, ◌&&◌, if◌then◌else◌}
use Prim.Native.Nat.{ℕ, ◌+◌, ◌-◌, ◌≤◌, ◌<◌}
use native.Mathlib.Omega.{arith}
use native.Mathlib.Numerals.{add-one}
use mathlib.Core.Path.{◌≡◌, refl, sym, ap, ◌∙◌}
use mathlib.Core.List.{List, [], ◌∷◌, ◌++◌, append_assoc, append-nil}
use lib.ListN.{length, take, drop, get_or, set, replicate, replicate-append-replicate, length-replicate, take-append-drop, drop_of_length-le}
use lib.Seq.{paste-zero, drop-cons, take-take, drop-drop, take-add, set-append_seam}
use Rattle.tape.specs.Columns.{replaced, copied, inside, moved, used_after, spliced, filled}
use Rattle.spec.proofs.ListLaws.{drop-take}
use Rattle.tape.proofs.Columns.{Room, moved_in, spliced_in, filled_in, length-replaced, take-replaced, words-replaced, drop-replaced, replaced-one}
use Rattle.tape.proofs.Columns.{replaced_further, length-words}

-- ---- a copy
module _ {W : Type 0} (xs : List W) (to start : ℕ) where
  pub length-copied : (n : ℕ) → to + n ≤ length xs → start + n ≤ length xs → length (copied xs to start n) ≡ length xs
  unfolding copied
  length-copied n h k = length-replaced xs to n (take n (drop start xs)) h ∙ rw (length-words xs to start n h k) (omega arith)

-- words copied to where they stand
pub copied_same : {W : Type 0} (xs : List W) (at n : ℕ) → copied xs at at n ≡ xs
unfolding copied replaced
copied_same xs at n = rw (← take-add, take-append-drop)

-- a move to where they stand
pub moved_same : {W : Type 0} (xs : List W) (to start n : ℕ) → to ≡ start → moved xs to start n ≡ xs
unfolding moved
moved_same xs to start n e = rw e (go (inside xs start n))
  where
    go : (b : Bool) → (if b && b then copied xs start start n else xs) ≡ xs
    go true = copied_same xs start n
    go false = refl

module _ {W : Type 0} (x : W) (xs : List W) (start : ℕ) where
  pub filled_none : replaced xs start 0 (replicate 0 x) ≡ xs
  unfolding replaced
  filled_none = sym (paste-zero xs start [])

  length-filled : (n : ℕ) → start + n ≤ length xs → length (replaced xs start n (replicate n x)) ≡ length xs
  length-filled n h = length-replaced xs start n (replicate n x) h ∙ simp length-replicate (omega arith)

  pub filled_more : (i : ℕ) → start + i < length xs
      → set (replaced xs start i (replicate i x)) (start + i) x ≡ replaced xs start (i + 1) (replicate (i + 1) x)
  filled_more i h =
      let ys : List W = replaced xs start i (replicate i x) in
      let long : length ys ≡ length xs = length-filled i (omega arith) in
      replaced-one ys (start + i) x (omega arith) ∙ replaced_further xs start i 1 (replicate i x) (x ∷ []) (omega arith) (length-replicate i x)
      ∙ ap (replaced xs start (i + 1)) (replicate-append-replicate i 1 x)

-- ---- a part filled from the front, word by word
module _ {W : Type 0} (x : W) (xs : List W) where
  pub front_more : (i : ℕ) → i < length xs → set (replicate i x ++ drop i xs) i x ≡ replicate (i + 1) x ++ drop (i + 1) xs
  front_more i h =
      let here : drop i xs ≡ get_or xs i x ∷ drop (i + 1) xs = rw add-one (drop-cons xs i x h) in
      let stored : set (replicate i x ++ get_or xs i x ∷ drop (i + 1) xs) i x ≡ replicate i x ++ x ∷ drop (i + 1) xs = rw (length-replicate i x) at
      (set-append_seam (replicate i x) (get_or xs i x) (drop (i + 1) xs) x) in
      ap (λ ys. set (replicate i x ++ ys) i x) here ∙ stored ∙ rw (← replicate-append-replicate i 1 x, append_assoc) refl

  pub front_all : (i : ℕ) → length xs ≤ i → replicate i x ++ drop i xs ≡ replicate i x
  front_all i h = rw (drop_of_length-le _ h) (append-nil (replicate i x))

-- where the words of a part are the same, the part is filled
pub part_filled : {W : Type 0} (x : W) (xs : List W) (start n m : ℕ) (ys : List W) → start + n ≤ length xs → m ≡ n → ys ≡ replicate n x
    → take start xs ++ (ys ++ drop m (drop start xs)) ≡ filled x xs start n
unfolding replaced
part_filled x xs start n m ys h e f = rw (e, f, drop-drop, ← append_assoc) (sym (filled_in xs x start n h))

-- ---- a splice by two moves
module _ {W : Type 0} (xs : List W) (used at removed source n : ℕ) (in_use : at + removed ≤ used) (room : Room xs used removed source n) where
  -- what `splice` does by two moves
  pub two_moves : moved (moved xs (at + n) (at + removed) (used - removed - at)) at source n ≡ spliced xs used at removed source n
  unfolding copied replaced
  two_moves =
      let t : ℕ = used - removed - at in
      let tail : List W = take t (drop (at + removed) xs) in
      let m : List W = replaced xs (at + n) t tail in
      let same : length tail ≡ t = length-words xs (at + n) (at + removed) t (omega arith) (omega arith) in
      let front : take at m ≡ take at xs = take-replaced xs (at + n) t tail (omega arith) at (omega arith) in
      let behind : drop source m ≡ drop source xs = drop-replaced xs (at + n) t tail (omega arith) same source (omega arith) in
      let rest : drop (at + n) m ≡ tail ++ drop (at + n + t) xs = words-replaced xs (at + n) t tail (omega arith) in
      let first : moved xs (at + n) (at + removed) t ≡ m = moved_in xs (at + n) (at + removed) t (omega arith) (omega arith) in
      let long : length m ≡ length xs = length-copied xs (at + n) (at + removed) t (omega arith) (omega arith) in
      let second : moved m at source n ≡ take at m ++ take n (drop source m) ++ drop (at + n) m = moved_in m at source n (omega arith) (omega arith) in
      let after : at + n + t ≡ used_after used removed n = omega arith in
      let left : used - (at + removed) ≡ t = omega arith in
      let kept : drop (at + removed) (take used xs) ≡ tail = rw (drop-take (at + removed) used xs, left) in
      rw (first, second, front, behind, rest, spliced_in xs used at removed source n in_use room, kept, take-take at used xs (omega arith), after)
      (simp append_assoc)
