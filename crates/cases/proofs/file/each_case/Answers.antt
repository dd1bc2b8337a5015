-- `each_case` ends: each case ends behind its beginning.
use native.Mathlib.Omega.{arith}
use Rattle.cases.proofs.PlaceLaws.{case_behind}
use Rattle.cases.proofs.file.each_case.Goals as goal

pub loop-at-smaller : goal.loop-at-smaller
loop-at-smaller g c = omega (arith, case_behind _ _ _ _ _ c.case_at.ensures c.in-Some.is)
