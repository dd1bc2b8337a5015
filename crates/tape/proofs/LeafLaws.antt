-- Laws of nodes without children: what the `or` of several spans tells of each.
use Rattle.std.specs.List.{fold}
use Prim.Native.Nat.{ℕ, zero, suc, ◌<◌}
use native.Mathlib.Nat.{zero-add}
use native.Mathlib.Omega.{arith}
use mathlib.Core.Path.{◌≡◌}
use mathlib.Core.List.{List, [], ◌∷◌}
use lib.Bits.{bit_or, and_le_l, and_le_r, or_add_and}
use lib.ListN.{length, get_or}
use Rattle.tape.specs.Fields.{Row, span_of}
use Rattle.tape.specs.Rows.{Leaves}

-- the `or` of the spans of some rows, and of what was found before
abbrev pub ored : ℕ → List Row → ℕ
ored found rows = fold (λ spans row. bit_or spans (span_of row)) found rows

-- it is 0 only if each of its numbers is
none_in : (found : ℕ) (rows : List Row) → ored found rows ≡ 0 → (found ≡ 0) × ((i : ℕ) → i < length rows → span_of (get_or rows i []) ≡ 0)
none_in found [] e = (e, λ i l. absurd (omega arith))
none_in found (row ∷ rows) e =
    let (both, others) = none_in (bit_or found (span_of row)) rows e in
    let before : found ≡ 0 = omega (arith, or_add_and found (span_of row), and_le_l found (span_of row), and_le_r found (span_of row)) in
    let this : span_of row ≡ 0 = omega (arith, or_add_and found (span_of row), and_le_l found (span_of row), and_le_r found (span_of row)) in
    (before, go this others)
  where
    go : span_of row ≡ 0 → ((i : ℕ) → i < length rows → span_of (get_or rows i []) ≡ 0) → (i : ℕ) → i < suc (length rows)
        → span_of (get_or (row ∷ rows) i []) ≡ 0
    go this others zero l = this
    go this others (suc i) l = others i (omega arith)

pub none_ored : (rows : List Row) → ored 0 rows ≡ 0 → Leaves rows 0 (length rows)
none_ored rows e i l = rw zero-add ((none_in 0 rows e).1 i l)
