-- `elements` meets its contract: what the run of the operations that are left gives is what the whole run gives, and the measure is the rows that
-- are left.
use Prim.Native.Nat.{◌+◌}
use native.Mathlib.Omega.{arith}
use mathlib.Core.Path.{◌≡◌, refl}
use borrow.Author.Rules.{rules}
use Rattle.spec.proofs.FaultLaws.{handed}
use Rattle.operations.specs.Answers.{stopped_at}
use Rattle.operations.proofs.RunLaws.{going_all, run_ends, run_inside, run_halts, run_next}
use Rattle.operations.proofs.runs.elements.Goals as goal

pub loop-row-init : goal.loop-row-init
loop-row-init c = (omega arith, refl, refl, going_all _ _ _ _)

pub returns-then-nodes-row : goal.returns-then-nodes-row
returns-then-nodes-row c = run_inside c.loop-row.invariant.3 (omega arith) (omega arith)

pub returns-in_err-rows : goal.returns-in_err-rows
unfolding stopped_at
returns-in_err-rows c =
    let told : c.map_err.result ≡ stopped_at (c.loop-row.op + 1) c.perform-performed.result = search rules in
    rw (handed _ c.from_residual.ensures.1)
    (run_halts c.loop-row.invariant.3 (omega arith) c.perform-performed.ensures c.narrow.ensures c.loop-row.invariant.0 told c.in_err-rows.was)

pub loop-row-preserved : goal.loop-row-preserved
unfolding stopped_at
loop-row-preserved c =
    let told : c.map_err.result ≡ stopped_at (c.loop-row.op + 1) c.perform-performed.result = search rules in (
      search rules,
      search rules,
      search rules,
      run_next c.loop-row.invariant.3 (omega arith) c.perform-performed.ensures c.narrow.ensures c.loop-row.invariant.0 told c.in_ok-rows.was _
          c.end_of-row.ensures,
    )

pub returns : goal.returns
returns c = run_ends c.loop-row.invariant.3 (omega arith)
