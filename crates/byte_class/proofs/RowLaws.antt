-- Rows of sixteen laid down one after another.
use Prim.Native.Nat.{ℕ, ◌+◌, ◌*◌, ◌/◌, ◌%◌, ◌<◌}
use mathlib.Core.Path.{◌≡◌, refl, ◌∙◌, subst, sym}
use mathlib.Core.Bool.{Bool, true, false}
use mathlib.Core.List.{List, []}
use native.Mathlib.Omega.{arith}
use borrow.Author.Tests.{eqb-true, eqb-false}
use lib.Dec.{eqb}
use lib.ListN.{length, get_or, set, length-set}
use lib.Seq.{get_or-set_same, get_or-set_other}
use Rattle.byte_class.specs.Laying.{entry, Filled}

pub none_filled : (rows : List (List ℕ)) (table : List ℕ) → length table ≡ 256 → Filled rows 0 table
none_filled rows table e = record { counted = e; filled = λ b h. absurd (omega arith) }

-- the entry in a row and a column
pub entry_at : (rows : List (List ℕ)) (i j : ℕ) → j < 16 → entry rows (16 * i + j) ≡ get_or (get_or rows i []) j 0
unfolding entry
entry_at rows i j h =
    let row : (16 * i + j) / 16 ≡ i = omega arith in
    let column : (16 * i + j) % 16 ≡ j = omega arith in
    rw (row, column)

-- the same count, written in another way
pub filled_as : {rows : List (List ℕ)} {n m : ℕ} {table : List ℕ} → n ≡ m → Filled rows n table → Filled rows m table
filled_as {rows} {table = table} e f = subst (λ (k : ℕ). Filled rows k table) e f

-- one entry more
pub filled_next : {rows : List (List ℕ)} {table : List ℕ} (i j : ℕ) → Filled rows (16 * i + j) table → i < 16 → j < 16 →
    Filled rows (16 * i + (j + 1)) (set table (16 * i + j) (get_or (get_or rows i []) j 0))
filled_next {rows} {table} i j f few small =
    record { counted = length-set table _ _ ∙ f.counted; filled = λ b l. go b l (eqb b (16 * i + j)) refl }
  where
    go : (b : ℕ) → b < 16 * i + (j + 1) → (t : Bool) → eqb b (16 * i + j) ≡ t →
        get_or (set table (16 * i + j) (get_or (get_or rows i []) j 0)) b 0 ≡ entry rows b
    go b l true t = rw (eqb-true b _ t) (get_or-set_same table (16 * i + j) _ 0 (omega (arith, f.counted)) ∙ sym (entry_at rows i j small))
    go b l false t =
        let d = eqb-false b (16 * i + j) t in
        let m : b < 16 * i + j = omega arith in
        get_or-set_other table (16 * i + j) b _ 0 d ∙ f.filled b m
