-- A number that is put into a slot stands there, and nothing else changes; and an index that was made empty.
use Prim.Native.Nat.{ℕ, ◌+◌, ◌%◌, ◌<◌, ◌≤◌}
use mathlib.Core.Path.{◌≡◌, ◌∙◌, refl, sym, ap, subst}
use mathlib.Core.List.{List}
use native.Mathlib.Omega.{arith}
use native.Mathlib.Decide.{dec_lt}
use lib.ListN.{length, drop, get_or, replicate, length-replicate, get_or-replicate, get_or-append}
use lib.Seq.{get_or-set_same, get_or-set_other, get_or-drop, drop-set-lt}
use Rattle.tape.specs.Layout.{values}
use Rattle.tape.specs.Columns.{filled}
use Rattle.tape.proofs.Columns.{filled-first, filled_out, filled_behind, filled-length}
use Rattle.index.specs.Slots.{slots, slot_at, slot_set, emptied}

pub slot_put : (xs : List ℕ) (s v : ℕ) → s < length xs → v < values → slot_at (slot_set xs s v) s ≡ v
unfolding slot_at slot_set
slot_put xs s v h b = let same : v % values ≡ v = omega arith in get_or-set_same xs s (v % values) 0 h ∙ same

pub slot_other : (xs : List ℕ) (s t v : ℕ) → (s ≡ t → ⊥) → slot_at (slot_set xs s v) t ≡ slot_at xs t
unfolding slot_at slot_set
slot_other xs s t v n = get_or-set_other xs s t (v % values) 0 (λ e. n (sym e))

-- what stands behind the slot is as it was
pub slot_behind : (xs : List ℕ) (s v n : ℕ) → s < n → drop n (slot_set xs s v) ≡ drop n xs
unfolding slot_set
slot_behind xs s v n h = drop-set-lt n xs s (v % values) h

-- a slot of what stands behind a place
pub slot_dropped : (xs ys : List ℕ) (n i : ℕ) → drop n ys ≡ drop n xs → slot_at ys (n + i) ≡ slot_at xs (n + i)
unfolding slot_at
slot_dropped xs ys n i e = sym (get_or-drop n ys i 0) ∙ ap (λ zs. get_or zs i 0) e ∙ get_or-drop n xs i 0

-- ---- an empty index
first-zeros : (xs : List ℕ) (n i : ℕ) → n ≤ length xs → i < n → get_or (filled 0 xs 0 n) i 0 ≡ 0
first-zeros xs n i h l =
    let zeros : List ℕ = replicate n 0 in
    let long : length zeros ≡ n = length-replicate n 0 in
    let there : i < length zeros = omega arith in
    ap (λ zs. get_or zs i 0) (filled-first 0 xs n h) ∙ get_or-append zeros (drop n xs) 0 i there ∙ get_or-replicate n i 0 0 l

pub empty_slot : (xs : List ℕ) (i : ℕ) → slots ≤ length xs → i < slots → slot_at (emptied xs) i ≡ 0
unfolding slot_at
empty_slot xs i h l = first-zeros xs slots i h l

pub empty_short : (xs : List ℕ) → length xs < slots → emptied xs ≡ xs
empty_short xs h = filled_out xs 0 0 slots h

-- what is lent beyond the index, and how much is lent, stays
pub record SameBeyond (xs ys : List ℕ) : Type 0 where
  pub beyond : drop slots ys ≡ drop slots xs
  pub same_length : length ys ≡ length xs

pub empty_beyond : (xs : List ℕ) → SameBeyond xs (emptied xs)
empty_beyond xs = go (dec_lt (length xs) slots)
  where
    go : Dec (length xs < slots) → SameBeyond xs (emptied xs)
    go (yes h) = subst (SameBeyond xs) (sym (empty_short xs h)) (record { beyond = refl; same_length = refl })
    go (no h) =
        record {
          beyond = filled_behind 0 xs 0 slots (omega arith) slots (omega arith);
          same_length = filled-length 0 xs 0 slots (omega arith);
        }
