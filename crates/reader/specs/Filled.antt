-- Which rows of the node table change, what the stored ones say, and where the index leads.
use Rattle.std.specs.Prelude.{ℕ, ◌+◌, ◌-◌, ◌≡◌, List, take, drop}
use Rattle.spec.specs.Bytes.{Bytes, Text}
use Rattle.spec.specs.Forest.{Forest, none, tree, size}
use Rattle.spec.specs.Value.{Entry, Members}
use Rattle.lexer.specs.Hash.{hash}
use Rattle.tape.specs.Fields.{Row}
use Rattle.tape.specs.Tape.{tape}
use Rattle.tape.specs.declared.fields.Cell.{Cell}
use Rattle.tape.specs.Cell.{row_of, Formed}
use Rattle.table.specs.Meaning.{short_hash, members}
use Rattle.table.specs.Sound.{Sound}
use Rattle.index.specs.Slots.{slots, bucket_slot}
use Rattle.index.specs.Bits.{stream_for}
use Rattle.index.specs.Ways.{Meets, Kept}
use Rattle.reader.specs.Words.{InText}

-- only rows from `start` up to `end` change
pub record Between (start end : ℕ) (nodes nodes' : List Row) : Type 0 where
  pub before : take start nodes' ≡ take start nodes
  pub behind : drop end nodes' ≡ drop end nodes

-- what is lent beyond the index does not change
pub record SameBeyond (xs ys : List ℕ) : Type 0 where
  pub is : drop slots ys ≡ drop slots xs

-- the index leads to rows below `low` as before; it counts rows from the base on
pub record Noted (base low : ℕ) (xs ys : List ℕ) : Type 0 where
  pub kept : Kept (low - base) xs ys
  pub beyond : SameBeyond xs ys

-- the rows from `start` up to `end` are those of a sound forest that means these members, whatever the other text is
pub record Filled (source : ℕ) (s : Bytes) (start end : ℕ) (all : Members) (nodes : List Row) : Type 0 where
  pub cells : Forest Cell
  pub ends : start + size cells ≡ end
  pub rows : drop start (take end nodes) ≡ tape row_of cells
  pub formed : Formed cells
  pub meant : InText source s (λ T. members T cells ≡ all)
  pub sound : InText source s (λ T. Sound T cells)

-- by a name and its object's row the index leads to the row `at`
abbrev pub Reached : List ℕ → ℕ → ℕ → ℕ → Text → Type 0
Reached xs base row at name = Meets xs (at - base) (bucket_slot row (short_hash (hash name))) (stream_for (short_hash (hash name)) name)

-- so it does to each of an object's members, which stand in the rows from `at` on
pub data Marked (xs : List ℕ) (base row : ℕ) : ℕ → Members → Type 0 where
  marked_none : {at : ℕ} → Marked xs base row at none
  marked_tree : {at : ℕ} {e : Entry} {kids rest : Members} → Reached xs base row at e.name → Marked xs base row (at + 1 + size kids) rest
      → Marked xs base row at (tree e kids rest)
