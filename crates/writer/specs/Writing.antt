-- What writing a value comes to: SPECIFICATION 8.4. The text is laid down in the lent output, one value after another.
use Rattle.std.specs.Prelude.{ℕ, ◌+◌, ◌≤◌, ◌<◌, min, ◌≡◌, Bool, true, false, List, leb, length}
use Rattle.std.proofs.lemmas.List.Edits.{sets}
use Rattle.spec.specs.Bytes.{Bytes}
use Rattle.spec.specs.Forest.{Forest}
use Rattle.spec.specs.Value as Value
use Rattle.spec.specs.Write.{write}
use Rattle.tape.specs.Fields.{Row, name_length_of, length_of}
use Rattle.tape.specs.declared.fields.Cell.{Cell}
use Rattle.tape.specs.Cell.{level, deep}
use Rattle.tape.specs.Lent.{Texts, Table}
use Rattle.table.specs.Meaning.{meant}
use Rattle.table.specs.Sound.{NodeHeld}

-- Bytes laid down from a place of an output on, as many as there is room for: the place behind them, and the output afterwards. Where there is
-- room for all they stand there, and the rest of the output is as it was (`placed_whole` in proofs/PlacedLaws).
pub record Placed (bytes : Bytes) (at : ℕ) (before after : Bytes) (next : ℕ) : Type 0 where
  pub next_is : next ≡ min (at + length bytes) (length before)
  pub after_is : after ≡ sets before at bytes

-- some bytes are laid down
pub record PlacedSome (at : ℕ) (before after : Bytes) (next : ℕ) : Type 0 where
  pub bytes : Bytes
  pub placed : Placed bytes at before after next

-- a node that can be written: the table holds it in a row, and it nests at most `levels` containers
pub record Writable (w : Table) (at levels : ℕ) (c : Cell) (kids : Forest Cell) : Type 0 where
  pub node : NodeHeld w at c kids
  pub nested : level c (deep kids) ≤ levels

-- what holds of the value of whatever such node there is in a row
abbrev pub ForWritable : Table → ℕ → ℕ → (Value.Value → Type 0) → Type 0
ForWritable w at levels P = (c : Cell) (kids : Forest Cell) → Writable w at levels c kids → P (meant w.texts c kids)

-- a sum of lengths is cut off here
abbrev pub length_limit : ℕ
length_limit = 0x4_0000_0000

-- the answer of `measure`; where there is no such node, it is free up to the limit
pub record MeasureIs (w : Table) (at levels r : ℕ) : Type 0 where
  pub few : r ≤ length_limit
  pub held : ForWritable w at levels (λ v. r ≡ min (length (write v)) length_limit)

-- The answer of `write`, and the output. Whatever the table holds, some bytes are laid down at the front, the answer is how many, and the rest of
-- the output is as it was; where there is no such node, it is free which bytes.
pub record WriteIs (w : Table) (at levels : ℕ) (before after : Bytes) (r : ℕ) : Type 0 where
  pub some : PlacedSome 0 before after r
  pub held : ForWritable w at levels (λ v. Placed (write v) 0 before after r)

-- The most bytes that a node takes in the text, by its name and its value, which are never written longer than they stand. 9 more are a comma, a
-- name's quotation marks and colon, and `false`, which is longer than a string's quotation marks or a container's brackets.
abbrev pub row_bytes : Row → ℕ
row_bytes node = name_length_of node + length_of node + 9

-- the answer of `fits`; where there is no such node, it is free
abbrev pub FitsIs : Table → ℕ → ℕ → ℕ → Bool → Type 0
FitsIs w at levels room r = ForWritable w at levels (λ v. r ≡ leb (length (write v)) room)

-- the answer of `surely_fits`: where it is true there is room, whatever the two texts are; where it is false there may be room, but less than the limit
pub record SurelyFitsIs (nodes : List Row) (at room : ℕ) (r : Bool) : Type 0 where
  pub there : r ≡ true → (T : Texts) (levels : ℕ) → ForWritable (record { texts = T; nodes = nodes }) at levels (λ v. length (write v) ≤ room)
  pub little : r ≡ false → room < length_limit
