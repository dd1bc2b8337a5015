-- Laws of rows that change between two places of the table, and of those that stand between two places.
use Prim.Native.Nat.{ℕ, suc, ◌+◌, ◌-◌, ◌≤◌, ◌<◌}
use native.Mathlib.Nat.{sub_self}
use native.Mathlib.Numerals.{add-one}
use native.Mathlib.Omega.{arith}
use mathlib.Core.Path.{◌≡◌, refl, sym, ap, ◌∙◌}
use mathlib.Core.List.{List, [], ◌∷◌, ◌++◌}
use lib.ListN.{length, take, drop, set, take-append-drop}
use lib.Seq.{take-take, drop-drop, take-add, take-set-le, drop-set-lt, take-set-lt, set_split, drop_at, length-take-le, drop-append-le}
use Rattle.spec.proofs.ListLaws.{drop-take}
use Rattle.tape.specs.Fields.{Row}
use Rattle.reader.specs.Filled.{Between}

-- ---- the rows from one up to another
abbrev pub between : ℕ → ℕ → List Row → List Row
between start end xs = drop start (take end xs)

pub between_none : (start : ℕ) (xs : List Row) → between start start xs ≡ []
between_none start xs = drop-take start start xs ∙ ap (λ n. take n (drop start xs)) (sub_self start)

pub between_join : (start mid end : ℕ) (xs : List Row) → start ≤ mid → mid ≤ end
    → between start end xs ≡ between start mid xs ++ between mid end xs
between_join start mid end xs l m =
    let sum : end - start ≡ (mid - start) + (end - mid) = omega arith in
    let place : start + (mid - start) ≡ mid = omega arith in
    drop-take start end xs ∙ ap (λ n. take n (drop start xs)) sum
    ∙ rw (
      take-add (mid - start) (end - mid) (drop start xs),
      drop-drop (mid - start) start xs,
      place,
      drop-take start mid xs,
      drop-take mid end xs,
    )

-- a row stored before the others
pub between-set : (row end : ℕ) (xs : List Row) (y : Row) → row < end → end ≤ length xs
    → between row end (set xs row y) ≡ y ∷ between (row + 1) end xs
between-set row end xs y l m =
    let ys = take end xs in
    let long : length ys ≡ end = length-take-le end xs m in
    rw (take-set-lt end xs row y l, set_split ys row y (omega arith), add-one)
    (drop_at (take row ys) (y ∷ drop (suc row) ys) row (length-take-le row ys (omega arith)))

-- the rows from one on
pub from-between : (start end : ℕ) (xs : List Row) → start ≤ end → end ≤ length xs → drop start xs ≡ between start end xs ++ drop end xs
from-between start end xs l m =
    ap (drop start) (sym (take-append-drop end xs)) ∙ drop-append-le start (take end xs) (drop end xs) (omega (arith, length-take-le end xs m))

-- ---- changes
pub unchanged : (start end : ℕ) (xs : List Row) → Between start end xs xs
unchanged start end xs = record { before = refl; behind = refl }

pub change_then : {start end : ℕ} {xs ys zs : List Row} → Between start end xs ys → Between start end ys zs → Between start end xs zs
change_then b c = record { before = c.before ∙ b.before; behind = c.behind ∙ b.behind }

pub change_wider : {start end : ℕ} {xs ys : List Row} (start' end' : ℕ) → start' ≤ start → end ≤ end'
    → Between start end xs ys → Between start' end' xs ys
change_wider {start} {end} {xs} {ys} start' end' l m b =
    let sum : end + (end' - end) ≡ end' = omega arith in
    record {
      before = sym (take-take start' start ys l) ∙ ap (take start') b.before ∙ take-take start' start xs l;
      behind = rw (← sum) (sym (drop-drop (end' - end) end ys) ∙ ap (drop (end' - end)) b.behind ∙ drop-drop (end' - end) end xs);
    }

pub change_set : (start end : ℕ) (xs : List Row) (row : ℕ) (y : Row) → start ≤ row → row < end → Between start end xs (set xs row y)
change_set start end xs row y l m = record { before = take-set-le start xs row y l; behind = drop-set-lt end xs row y m }

-- rows before the change
pub between-kept : (start mid : ℕ) {end : ℕ} {xs ys : List Row} → Between mid end xs ys → between start mid ys ≡ between start mid xs
between-kept start mid b = ap (drop start) b.before
