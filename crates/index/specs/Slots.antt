-- The index: numbers of 16 bits in lent memory of their own, in three parts, each of as many slots as a text has nodes, or twice as many.
use Rattle.std.specs.Prelude.{ℕ, ◌+◌, ◌*◌, ◌%◌, List, get_or, set}
use Rattle.tape.specs.Layout.{values}
use Rattle.tape.specs.Columns.{filled}

-- rows are counted from a base, and are below this
abbrev pub room : ℕ
room = 2_048

-- the slots from 0 on begin search paths; those from `branches` on are branches of rows, two of each; those from `parents` on are their parents
abbrev pub branches : ℕ
branches = 2_048

abbrev pub parents : ℕ
parents = 6_144

-- how many slots there are
abbrev pub slots : ℕ
slots = 8_192

-- the slot where the search path of a name begins, by its object's row and its hash; a row's branch by a bit; a row's parent
abbrev pub spreading : ℕ
spreading = 31

abbrev pub bucket_slot : ℕ → ℕ → ℕ
bucket_slot object h = (object % room * spreading + h % room) % room

abbrev pub branch_slot : ℕ → ℕ → ℕ
branch_slot row bit = branches + 2 * row + bit

abbrev pub parent_slot : ℕ → ℕ
parent_slot row = parents + row

-- the number in a slot, and 0 behind the memory
unfoldable pub slot_at : List ℕ → ℕ → ℕ
slot_at xs at = get_or xs at 0

-- the memory with another number there
unfoldable pub slot_set : List ℕ → ℕ → ℕ → List ℕ
slot_set xs at number = set xs at (number % values)

-- the memory with an empty index; where it is too short for one, nothing changes
abbrev pub emptied : List ℕ → List ℕ
emptied xs = filled 0 xs 0 slots
