-- What a reader changes: the node table, and the index of names.
use Rattle.std.specs.Prelude.{ℕ, List}
use Rattle.tape.specs.Fields.{Row}

pub record Work : Type 0 where
  pub nodes : List Row
  pub index : List ℕ

-- ---- of the values of `nodes` and `index`: as they were lent, and as they are given back
abbrev pub work_before : List Row → List ℕ → Work
work_before nodes index = record { nodes = nodes; index = index }

abbrev pub work_after : List Row → List ℕ → Work
work_after nodes index = record { nodes = nodes; index = index }

-- the table is only read
abbrev pub work_indexed : List Row → List ℕ → Work
work_indexed nodes index = record { nodes = nodes; index = index }
