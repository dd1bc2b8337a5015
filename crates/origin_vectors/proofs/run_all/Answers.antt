-- `run_all` ends: each case ends behind its beginning.
use native.Mathlib.Omega.{arith}
use Rattle.cases.proofs.PlaceLaws.{case_behind}
use Rattle.origin_vectors.proofs.run_all.Goals as goal

pub loop-at-smaller : goal.loop-at-smaller
loop-at-smaller g c = omega (arith, case_behind _ _ _ 3 3 c.case_of.ensures c.in-Some-case_of.is)
