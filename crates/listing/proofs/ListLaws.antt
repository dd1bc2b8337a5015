-- Laws of the origins of rows in a list: the loop's, and that they are those of the value that the rows bear.
use Prim.Native.Nat.{ℕ, zero, suc, ◌+◌, ◌≤◌, ◌<◌, min}
use mathlib.Core.Logic.{◌⊎◌, inl, inr}
use Rattle.std.proofs.lemmas.Bool.{cases_lt}
use native.Mathlib.Omega.{arith}
use mathlib.Core.Path.{◌≡◌, refl, ap, ap₂, sym, ◌∙◌}
use mathlib.Core.List.{List, [], ◌∷◌, ◌++◌, map}
use lib.ListN.{length, take, drop, get_or, set, length-take}
use lib.Seq.{get_or-take}
use Rattle.spec.specs.Forest.{Forest, none, tree}
use Rattle.tape.specs.Fields.{Row, origin_of}
use Rattle.tape.specs.Tape.{tape}
use Rattle.tape.specs.Map.{map_forest}
use Rattle.tape.specs.declared.fields.Cell.{Cell}
use Rattle.tape.specs.Cell.{row_of}
use Rattle.tape.specs.Lent.{Texts, Table}
use Rattle.tape.proofs.Tape.{holds_words}
use Rattle.origin.specs.Value as Value
use Rattle.origin.specs.Value.{origins_of, origins}
use Rattle.origin.proofs.ListedLaws.{length-origins}
use Rattle.walk.specs.Bearing.{borne, borne_members}
use Rattle.changes.specs.Document.{Bearing}
use Rattle.changes.proofs.BorneLaws.{nodes-borne}
use Rattle.listing.specs.Lists.{entries}

-- ---- the loop: the first i entries are as they are
unfoldable pub entries_from : ℕ → List Row → List ℕ → List ℕ
entries_from zero rs xs = entries rs xs
entries_from (suc i) [] xs = xs
entries_from (suc i) (r ∷ rs) [] = []
entries_from (suc i) (r ∷ rs) (x ∷ xs) = x ∷ entries_from i rs xs

pub list_all : (rs : List Row) (xs : List ℕ) → entries_from 0 rs xs ≡ entries rs xs
unfolding entries_from
list_all rs xs = refl

-- one more entry
list_suc : (rs : List Row) (xs : List ℕ) (i : ℕ) → i < length rs → i < length xs
    → entries_from (suc i) rs (set xs i (origin_of (get_or rs i []))) ≡ entries_from i rs xs
unfolding entries_from entries
list_suc [] xs i h l = absurd (omega arith)
list_suc (r ∷ rs) [] i h l = absurd (omega arith)
list_suc (r ∷ rs) (x ∷ xs) zero h l = refl
list_suc (r ∷ rs) (x ∷ xs) (suc i) h l = ap (λ (ys : List ℕ). x ∷ ys) (list_suc rs xs i (omega arith) (omega arith))

pub list_next : (nodes : List Row) (used : ℕ) (xs : List ℕ) (i : ℕ) → i < used → i < length nodes → i < length xs
    → entries_from (i + 1) (take used nodes) (set xs i (origin_of (get_or nodes i []))) ≡ entries_from i (take used nodes) xs
list_next nodes used xs i h k l =
    let next : i + 1 ≡ suc i = omega arith in
    let inside : i < length (take used nodes) = omega (arith, length-take used nodes) in
    ap (λ (n : ℕ). entries_from n (take used nodes) (set xs i (origin_of (get_or nodes i [])))) next
    ∙ ap (λ (r : Row). entries_from (suc i) (take used nodes) (set xs i (origin_of r))) (sym (get_or-take used nodes i [] h))
    ∙ list_suc (take used nodes) xs i inside l

-- no entry is left, and no row
list_out : (rs : List Row) (xs : List ℕ) (i : ℕ) → length xs ≤ i → entries_from i rs xs ≡ xs
unfolding entries_from entries
list_out [] [] zero h = refl
list_out (r ∷ rs) [] zero h = refl
list_out rs (x ∷ xs) zero h = absurd (omega arith)
list_out [] xs (suc i) h = refl
list_out (r ∷ rs) [] (suc i) h = refl
list_out (r ∷ rs) (x ∷ xs) (suc i) h = ap (λ (ys : List ℕ). x ∷ ys) (list_out rs xs i (omega arith))

list_none : (rs : List Row) (xs : List ℕ) (i : ℕ) → length rs ≤ i → entries_from i rs xs ≡ xs
unfolding entries_from entries
list_none [] xs zero h = refl
list_none (r ∷ rs) xs zero h = absurd (omega arith)
list_none [] xs (suc i) h = refl
list_none (r ∷ rs) [] (suc i) h = refl
list_none (r ∷ rs) (x ∷ xs) (suc i) h = ap (λ (ys : List ℕ). x ∷ ys) (list_none rs xs i (omega arith))

list_done : (nodes : List Row) (used : ℕ) (xs : List ℕ) (i : ℕ) → used ≤ i → entries_from i (take used nodes) xs ≡ xs
list_done nodes used xs i h = list_none (take used nodes) xs i (omega (arith, length-take used nodes))

list_over : (nodes : List Row) (used : ℕ) (xs : List ℕ) (i : ℕ) → length nodes ≤ i → entries_from i (take used nodes) xs ≡ xs
list_over nodes used xs i h = list_none (take used nodes) xs i (omega (arith, length-take used nodes))

-- all rows that there are and that have room are listed
pub list_whole : (nodes : List Row) (used : ℕ) (xs : List ℕ) (i : ℕ) → min (min used (length nodes)) (length xs) ≤ i
    → entries_from i (take used nodes) xs ≡ xs
list_whole nodes used xs i h = go (cases_lt i used) (cases_lt i (length nodes))
  where
    go : (i < used) ⊎ (used ≤ i) → (i < length nodes) ⊎ (length nodes ≤ i) → entries_from i (take used nodes) xs ≡ xs
    go (inr u) n = list_done nodes used xs i u
    go (inl u) (inr n) = list_over nodes used xs i n
    go (inl u) (inl n) = list_out (take used nodes) xs i (omega arith)

-- ---- where all have room
pub entries_front : (rs : List Row) (xs : List ℕ) → length rs ≤ length xs → entries rs xs ≡ map origin_of rs ++ drop (length rs) xs
unfolding entries
entries_front [] xs h = refl
entries_front (r ∷ rs) [] h = absurd (omega arith)
entries_front (r ∷ rs) (x ∷ xs) h = ap (λ (ys : List ℕ). origin_of r ∷ ys) (entries_front rs xs (omega arith))

map_both : (rs qs : List Row) → map origin_of (rs ++ qs) ≡ map origin_of rs ++ map origin_of qs
map_both [] qs = refl
map_both (r ∷ rs) qs = ap (λ (ys : List ℕ). origin_of r ∷ ys) (map_both rs qs)

pub length-origins_of_lem : (rs : List Row) → length (map origin_of rs) ≡ length rs
length-origins_of_lem [] = refl
length-origins_of_lem (r ∷ rs) = ap suc (length-origins_of_lem rs)

pub tape-origins : (T : Texts) (f : Forest Cell) → map origin_of (tape row_of f) ≡ origins_of (borne_members T f)
unfolding tape map_forest origins_of row_of
tape-origins T none = refl
tape-origins T (tree c kids rest) =
    ap (λ (ys : List ℕ). c.origin ∷ ys)
    (map_both (tape row_of kids) (tape row_of rest) ∙ ap₂ {C = List ℕ} (λ xs ys. xs ++ ys) (tape-origins T kids) (tape-origins T rest))

module _ {w : Table} {used : ℕ} {v : Value.Value} (b : Bearing w used v) where
  -- a row for each value
  pub rows-listed : length (origins v) ≡ used
  rows-listed =
      let same = ap origins (sym b.bears) in
      let few = nodes-borne w.texts b.document.c b.document.kids in
      ap length same ∙ length-origins (borne w.texts b.document.c b.document.kids) ∙ few ∙ sym b.document.ends

  rows_are : map origin_of (take used w.nodes) ≡ origins v
  unfolding origins row_of
  rows_are =
      let d = b.document in
      let words = holds_words used d.ends d.held.held.rows in
      ap (map origin_of) words ∙ ap (λ (ys : List ℕ). d.c.origin ∷ ys) (tape-origins w.texts d.kids) ∙ ap origins b.bears

  -- the list, where it is long enough
  pub listed_all : (list : List ℕ) → used ≤ length list → entries (take used w.nodes) list ≡ origins v ++ drop (length (origins v)) list
  listed_all list room =
      let count : length (take used w.nodes) ≡ length (origins v) = sym (length-origins_of_lem (take used w.nodes)) ∙ ap length rows_are in
      entries_front (take used w.nodes) list (omega (arith, count, rows-listed))
      ∙ ap₂ {C = List ℕ} (λ xs n. xs ++ drop n list) rows_are count
