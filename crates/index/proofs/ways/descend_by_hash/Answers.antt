-- `descend_by_hash` meets its contract: rows grow along a path, and names whose hashes differ are different.
use mathlib.Core.Path.{refl, ap, ◌∙◌}
use native.Mathlib.Omega.{arith}
use Rattle.tape.specs.Fields.{name_of}
use Rattle.index.proofs.WayLaws.{passing_start, passing_next, passed_end, no_slot}
use Rattle.index.proofs.ways.descend_by_hash.Goals as goal

pub loop-last-init : goal.loop-last-init
loop-last-init c = (omega arith, passing_start c.hash_bits-left.ensures (omega arith) (omega arith))

pub returns-then-row-last : goal.returns-then-row-last
returns-then-row-last c = passed_end c.loop-last.invariant.1 _ c.slot-row.ensures c.then-row-last.either

pub returns-then-other-name : goal.returns-then-other-name
returns-then-other-name c = no_slot

pub branch-at-requires : goal.branch-at-requires
branch-at-requires c = (omega arith, omega arith)

pub loop-last-preserved : goal.loop-last-preserved
loop-last-preserved c = (
  omega arith,
  passing_next c.loop-last.invariant.1 _ c.slot-row.ensures (omega arith) (omega arith) (omega arith) (c.name_of-other.ensures ∙ ap name_of c.load.ensures)
      (λ e. c.if-other-name.false e) (omega arith) c.branch-at.ensures refl,
)
