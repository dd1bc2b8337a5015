-- `descend` meets its contract: rows grow along a path, so it ends.
use mathlib.Core.Path.{refl, ap, ◌∙◌}
use native.Mathlib.Omega.{arith}
use Rattle.tape.specs.Fields.{name_of}
use Rattle.index.proofs.WayLaws.{descending_start, descending_next, descended_end}
use Rattle.index.proofs.ways.descend.Goals as goal

pub loop-last-init : goal.loop-last-init
loop-last-init c = descending_start _ _ _ _ _ _ _ c.hash_bits.ensures refl (omega arith) (omega arith)

pub returns-then-row-last : goal.returns-then-row-last
returns-then-row-last c = descended_end _ _ _ _ _ _ c.loop-last.invariant _ c.slot-row.ensures c.then-row-last.either

pub branch-at-requires : goal.branch-at-requires
branch-at-requires c = (omega arith, omega arith)

pub loop-last-preserved : goal.loop-last-preserved
loop-last-preserved c =
    descending_next _ _ _ _ _ _ c.loop-last.invariant _ c.slot-row.ensures (omega arith) (omega arith) (omega (arith, c.requires)) _ _
    (c.name_of-other.ensures ∙ ap name_of c.load.ensures) c.same_name-same.ensures refl c.refilled-filled.ensures c.branch-at.ensures refl refl
