-- Laws of words that are replaced, moved and cleared in a column.
use Prim.Native.Nat.{ℕ, ◌+◌, ◌-◌, ◌≤◌, ◌<◌, max}
use native.Mathlib.Omega.{arith}
use mathlib.Core.Path.{◌≡◌, ◌∙◌}
use mathlib.Core.Bool.{and-false}
use mathlib.Core.List.{List, [], ◌∷◌, ◌++◌, append_assoc}
use lib.ListN.{length, take, drop, set, replicate, length-append, length-take, length-drop, length-replicate}
use lib.Seq.{sets-eq, length-take-le, take_at, drop_at, take-append-le, drop-append-le, take-append-add, drop-append-add, take-take, drop-drop}
use borrow.Author.Tests.{le-leb, lt-leb}
use Rattle.tape.specs.Columns.{replaced, copied, inside, moved, used_after, splice_fits, spliced, filled, Scratched}
use Rattle.tape.specs.Layout.{scratch_row, rows}

-- ---- where the numbers fit the column, and where they do not
module _ {W : Type 0} (xs : List W) where
  module _ (to start n : ℕ) where
    pub moved_in : to + n ≤ length xs → start + n ≤ length xs → moved xs to start n ≡ copied xs to start n
    unfolding moved inside
    moved_in h k = rw (le-leb (to + n) (length xs) h, le-leb (start + n) (length xs) k, moved)

    pub moved_no_target : length xs < to + n → moved xs to start n ≡ xs
    unfolding moved inside
    moved_no_target h = rw (lt-leb (to + n) (length xs) h, moved)

    pub moved_no_source : length xs < start + n → moved xs to start n ≡ xs
    unfolding moved inside
    moved_no_source h = rw (lt-leb (start + n) (length xs) h, and-false, moved)

  module _ (x : W) (start n : ℕ) where
    pub filled_in : start + n ≤ length xs → filled x xs start n ≡ replaced xs start n (replicate n x)
    unfolding filled inside
    filled_in h = rw (le-leb (start + n) (length xs) h, filled)

    pub filled_out : length xs < start + n → filled x xs start n ≡ xs
    unfolding filled inside
    filled_out h = rw (lt-leb (start + n) (length xs) h, filled)

-- ---- words replaced inside others
module _ {W : Type 0} where
  pub length-replaced : (xs : List W) (at removed : ℕ) (new : List W) → at + removed ≤ length xs
      → length (replaced xs at removed new) ≡ length xs - removed + length new
  unfolding replaced
  length-replaced xs at removed new h = simp (length-append, length-take, length-drop) (omega arith)

  pub replaced-within : (front mid back : List W) (row p removed : ℕ) (new : List W) → row ≡ length front + p → p + removed ≤ length mid
      → replaced (front ++ (mid ++ back)) row removed new ≡ front ++ (replaced mid p removed new ++ back)
  unfolding replaced
  replaced-within front mid back row p removed new e h =
      let r : length front + p + removed ≡ length front + (p + removed) = omega arith in
      rw (
        e,
        r,
        take-append-add front (mid ++ back) p,
        drop-append-add front (mid ++ back) (p + removed),
        take-append-le p mid back (omega arith),
        drop-append-le (p + removed) mid back h,
      ) (simp append_assoc)

-- ---- what it leaves alone, and what it makes
module _ {W : Type 0} (xs : List W) (at removed : ℕ) (new : List W) (there : at ≤ length xs) where
  pub take-replaced : (row : ℕ) → row ≤ at → take row (replaced xs at removed new) ≡ take row xs
  unfolding replaced
  take-replaced row h =
      let in-front : row ≤ length (take at xs) = rw (length-take-le at xs there) h in
      rw (append_assoc, take-append-le row (take at xs) (new ++ drop (at + removed) xs) in-front, take-take row at xs h)

  pub words-replaced : drop at (replaced xs at removed new) ≡ new ++ drop (at + removed) xs
  unfolding replaced
  words-replaced = rw append_assoc (drop_at (take at xs) (new ++ drop (at + removed) xs) at (length-take-le at xs there))

  -- by as many words
  module _ (same : length new ≡ removed) where
    front_long : length (take at xs ++ new) ≡ at + removed
    front_long = simp (length-append, length-take) (omega arith)

    pub front_replaced : take (at + removed) (replaced xs at removed new) ≡ take at xs ++ new
    unfolding replaced
    front_replaced = take_at (take at xs ++ new) (drop (at + removed) xs) (at + removed) front_long

    pub drop-replaced : (row : ℕ) → at + removed ≤ row → drop row (replaced xs at removed new) ≡ drop row xs
    unfolding replaced
    drop-replaced row h =
        let e : at + removed + (row - (at + removed)) ≡ row = omega arith in
        rw (← e, ← drop-drop, drop_at (take at xs ++ new) (drop (at + removed) xs) (at + removed) front_long, drop-drop)

-- ---- a word stored, and words replaced in two steps
pub replaced-one : {W : Type 0} (xs : List W) (at : ℕ) (x : W) → at < length xs → set xs at x ≡ replaced xs at 1 (x ∷ [])
unfolding replaced
replaced-one xs at x h = sets-eq (x ∷ []) xs at (omega arith)

module _ {W : Type 0} (xs : List W) (at m n : ℕ) (new more : List W) where
  -- the first ones first
  pub replaced_further : at ≤ length xs → length new ≡ m → replaced (replaced xs at m new) (at + m) n more ≡ replaced xs at (m + n) (new ++ more)
  unfolding replaced
  replaced_further there same =
      let behind : at + (m + n) ≡ at + m + n = omega arith in
      rw (behind, front_replaced xs at m new there same, drop-replaced xs at m new there same (at + m + n) (omega arith)) (simp append_assoc)

  -- the last ones first
  pub replaced-before : at + m ≤ length xs → replaced (replaced xs (at + m) n more) at m new ≡ replaced xs at (m + n) (new ++ more)
  unfolding replaced
  replaced-before there =
      let behind : at + (m + n) ≡ at + m + n = omega arith in
      rw (behind, take-replaced xs (at + m) n more there at (omega arith), words-replaced xs (at + m) n more there) (simp append_assoc)

-- ---- a move
module _ {W : Type 0} (xs : List W) (to start n : ℕ) (target : to + n ≤ length xs) (there : start + n ≤ length xs) where
  pub length-words : length (take n (drop start xs)) ≡ n
  length-words = length-take-le n (drop start xs) (rw length-drop (omega arith))

  pub take-moved : (row : ℕ) → row ≤ to → take row (moved xs to start n) ≡ take row xs
  unfolding copied
  take-moved row h = rw (moved_in xs to start n target there) (take-replaced xs to n (take n (drop start xs)) (omega arith) row h)

  pub words-moved : drop to (moved xs to start n) ≡ take n (drop start xs) ++ drop (to + n) xs
  unfolding copied
  words-moved = rw (moved_in xs to start n target there) (words-replaced xs to n (take n (drop start xs)) (omega arith))

-- ---- words filled
module _ {W : Type 0} (x : W) (xs : List W) (start n : ℕ) (inside : start + n ≤ length xs) where
  pub filled-before : (row : ℕ) → row ≤ start → take row (filled x xs start n) ≡ take row xs
  filled-before row h = rw (filled_in xs x start n inside) (take-replaced xs start n (replicate n x) (omega arith) row h)

  pub filled_behind : (row : ℕ) → start + n ≤ row → drop row (filled x xs start n) ≡ drop row xs
  filled_behind row h = rw (filled_in xs x start n inside) (drop-replaced xs start n (replicate n x) (omega arith) (length-replicate n x) row h)

  pub filled-length : length (filled x xs start n) ≡ length xs
  filled-length = rw (filled_in xs x start n inside, length-replaced xs start n (replicate n x) inside, length-replicate n x) (omega arith)

-- a column's first words filled
pub filled-first : {W : Type 0} (x : W) (xs : List W) (n : ℕ) → n ≤ length xs → filled x xs 0 n ≡ replicate n x ++ drop n xs
unfolding replaced
filled-first x xs n h = let e : 0 + n ≡ n = omega arith in rw (filled_in xs x 0 n (omega arith), e)

-- ---- a splice
-- there are n words at the row `source`, behind all that are in use before and after
pub record Room {W : Type 0} (xs : List W) (used removed source n : ℕ) : Type 0 where
  pub before : used ≤ source
  pub after : used_after used removed n ≤ source
  pub there : source + n ≤ length xs

module _ {W : Type 0} (xs : List W) (used at removed source n : ℕ) where
  pub spliced_not_used : used < at + removed → spliced xs used at removed source n ≡ xs
  unfolding spliced splice_fits inside
  spliced_not_used h = rw (lt-leb (at + removed) used h, spliced)

  pub spliced_no_room : source < max used (used_after used removed n) → spliced xs used at removed source n ≡ xs
  unfolding spliced splice_fits inside
  spliced_no_room h = rw (lt-leb (max used (used_after used removed n)) source h, and-false, spliced)

  pub spliced_no_source : length xs < source + n → spliced xs used at removed source n ≡ xs
  unfolding spliced splice_fits inside
  spliced_no_source h = rw (lt-leb (source + n) (length xs) h, and-false, and-false, spliced)

  module _ (in_use : at + removed ≤ used) (room : Room xs used removed source n) where
    pub spliced_in : spliced xs used at removed source n ≡ replaced (take used xs) at removed (take n (drop source xs)) ++ drop (used_after used removed n) xs
    unfolding spliced splice_fits inside
    spliced_in =
        rw (
          le-leb (at + removed) used in_use,
          le-leb (max used (used_after used removed n)) source (omega (arith, room.before, room.after)),
          le-leb (source + n) (length xs) room.there,
          spliced,
        )

    abbrev kept : List W
    kept = replaced (take used xs) at removed (take n (drop source xs))

    kept-length : length kept ≡ used_after used removed n
    kept-length =
        let l : length (take used xs) ≡ used = length-take-le used xs (omega (arith, room.before, room.there)) in
        let m : length (take n (drop source xs)) ≡ n = length-take-le n (drop source xs) (rw length-drop (omega (arith, room.there))) in
        length-replaced (take used xs) at removed (take n (drop source xs)) (omega arith) ∙ rw (l, m)

    -- the words that are in use after it, and those behind them
    pub take-spliced : take (used_after used removed n) (spliced xs used at removed source n) ≡ replaced (take used xs) at removed (take n (drop source xs))
    take-spliced = rw spliced_in (take_at kept (drop (used_after used removed n) xs) (used_after used removed n) kept-length)

    pub drop-spliced : (row : ℕ) → used_after used removed n ≤ row → drop row (spliced xs used at removed source n) ≡ drop row xs
    drop-spliced row h =
        let e : used_after used removed n + (row - used_after used removed n) ≡ row = omega arith in
        rw (spliced_in, ← e, ← drop-drop, drop_at kept (drop (used_after used removed n) xs) (used_after used removed n) kept-length, drop-drop)

-- ---- only words in the scratch rows change
-- others are copied there
pub scratched_moved : {W : Type 0} {xs ys : List W} (start n : ℕ)
    → ys ≡ moved xs scratch_row start n → scratch_row + n ≤ rows → rows ≤ length xs → start + n ≤ length xs → Scratched xs ys
unfolding copied
scratched_moved {W} {xs} start n is few long there =
    let target : scratch_row + n ≤ length xs = omega arith in
    let new = take n (drop start xs) in
    let many : length new ≡ n = length-words xs scratch_row start n target there in
    rw (is, moved_in xs scratch_row start n target there)
    (record {
      before = take-replaced xs scratch_row n new (omega arith) scratch_row (omega arith);
      behind = drop-replaced xs scratch_row n new (omega arith) many rows few;
      same_length = length-replaced xs scratch_row n new target ∙ omega arith;
    })
