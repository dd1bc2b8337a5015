-- `note_places` meets its contract, by the levels, which fall. In its loop the first places are noted, and what is left is as it was.
use Rattle.std.proofs.Common.{arith}
use Rattle.counting.proofs.NoteLaws.{noted_flat, noted-first, noted_high, noted_outside, noting_all, noting_end, noting_next}
use Rattle.counting.proofs.places.+note_places.Goals as goal

-- the levels fall

pub returns-then-levels-eq0 : goal.returns-then-levels-eq0
returns-then-levels-eq0 t c = noted_flat c.if-levels-eq0.true

pub returns-then-at-lt-PATCH : goal.returns-then-at-lt-PATCH
returns-then-at-lt-PATCH t c = noted-first c.if-at-lt-PATCH.true

pub returns-then-end-gt-SCRATCH : goal.returns-then-end-gt-SCRATCH
returns-then-end-gt-SCRATCH t c = noted_high _ c.end_of-end.ensures c.if-end-gt-SCRATCH.true

pub returns-then-end-at : goal.returns-then-end-at
returns-then-end-at t c = noted_outside _ c.end_of-end.ensures c.if-end-at.true

pub loop-row-init : goal.loop-row-init
loop-row-init t c = noting_all c.end_of-end.ensures (omega (arith, c.if-at-lt-PATCH.false))

pub loop-row-preserved : goal.loop-row-preserved
loop-row-preserved t c =
    noting_next c.end_of-end.ensures c.loop-row.invariant (omega arith) (omega (arith, c.if-end-gt-SCRATCH.false))
    c.note.ensures
    c.note_places.ensures _ c.end_of-row.ensures

pub returns : goal.returns
returns t c = noting_end c.end_of-end.ensures c.loop-row.invariant (omega arith)
