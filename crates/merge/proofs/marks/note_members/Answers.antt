-- `note_members` meets its contract: its loop passes the members one by one.
use native.Mathlib.Omega.{arith}
use mathlib.Core.Path.{refl}
use Rattle.merge.proofs.MarkLaws.{noting_none, noting_next, noting_done}
use Rattle.merge.proofs.marks.note_members.Goals as goal

pub loop-row-init : goal.loop-row-init
loop-row-init c = (refl, noting_none _ refl)

pub loop-row-preserved : goal.loop-row-preserved
loop-row-preserved c = (
  omega arith,
  noting_next refl c.loop-row.invariant.1 (omega (arith, c.requires))
      (omega (arith, c.loop-row.invariant.0, c.requires)) (omega arith) (omega arith) _ c.put_note.ensures _ c.end_of-row.ensures,
)

pub returns : goal.returns
returns c =
    noting_done refl c.loop-row.invariant.1 (omega (arith, c.requires)) (omega (arith, c.loop-row.invariant.0, c.requires))
    (omega arith)
