-- `compare` meets its contract, with and without an index.
use native.Mathlib.Omega.{arith}
use Rattle.equality.proofs.EqualLaws.{no_hints}
use Rattle.equality.proofs.compare.Goals as goal

pub returns-then-span-lt-INDEXED : goal.returns-then-span-lt-INDEXED
returns-then-span-lt-INDEXED c = c.equal.ensures no_hints

pub returns-then-index-lt-SLOTS : goal.returns-then-index-lt-SLOTS
returns-then-index-lt-SLOTS c = c.equal-then-index-lt-SLOTS.ensures no_hints

pub returns : goal.returns
returns c = c.equal-2.ensures (record { right = λ _. c.index_tree.ensures.parents (omega arith) })
