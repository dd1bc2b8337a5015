-- Laws of the origins of a tree's rows in a list, wherever the tree stands.
use Prim.Native.Nat.{ℕ, suc, ◌-◌, ◌≤◌}
use native.Mathlib.Omega.{arith}
use mathlib.Core.Path.{◌≡◌, ap, ap₂, sym, ◌∙◌}
use mathlib.Core.List.{List, ◌∷◌, ◌++◌, map}
use lib.ListN.{length, take, drop, length-drop}
use lib.Seq.{take_all}
use Rattle.spec.specs.Forest.{size}
use Rattle.tape.specs.Fields.{Row, origin_of}
use Rattle.tape.specs.Cell.{row_of}
use Rattle.tape.specs.Lent.{Table}
use Rattle.tape.proofs.Tape.{holds_words}
use Rattle.origin.specs.Value as Value
use Rattle.origin.specs.Value.{origins, nodes}
use Rattle.origin.proofs.ListedLaws.{length-origins}
use Rattle.changes.proofs.BorneLaws.{nodes-borne}
use Rattle.listing.specs.Lists.{entries}
use Rattle.listing.proofs.ListLaws.{entries_front, length-origins_of_lem, tape-origins}
use Rattle.merge.specs.Trees.{BearingAt}

-- the rows from one on, as they are lent
rest_is : (xs : List Row) (at : ℕ) → take (length xs - at) (drop at xs) ≡ drop at xs
rest_is xs at = take_all (length xs - at) (drop at xs) (omega (arith, length-drop at xs))

module _ {w : Table} {at : ℕ} {v : Value.Value} (b : BearingAt w at v) {count : ℕ} (is : count ≡ nodes v) where
  pub rows-counted : length (origins v) ≡ count
  rows-counted = length-origins v ∙ sym is

  rows_are : map origin_of (take count (drop at w.nodes)) ≡ origins v
  unfolding origins row_of
  rows_are =
      let many : count ≡ suc (size b.kids) = is ∙ ap nodes (sym b.bears) ∙ nodes-borne w.texts b.c b.kids in
      ap (map origin_of) (holds_words count many b.held.held.rows)
      ∙ ap (λ (ys : List ℕ). b.c.origin ∷ ys) (tape-origins w.texts b.kids) ∙ ap origins b.bears

  -- the list, where it is long enough
  pub listed_tree : (list : List ℕ) → count ≤ length list
      → entries (take count (take (length w.nodes - at) (drop at w.nodes))) list ≡ origins v ++ drop (length (origins v)) list
  listed_tree list room =
      let rs : List Row = take count (drop at w.nodes) in
      let many : length rs ≡ length (origins v) = sym (length-origins_of_lem rs) ∙ ap length rows_are in
      ap (λ (l : List Row). entries (take count l) list) (rest_is w.nodes at)
      ∙ entries_front rs list (omega (arith, many, rows-counted))
      ∙ ap₂ {C = List ℕ} (λ xs n. xs ++ drop n list) rows_are many
