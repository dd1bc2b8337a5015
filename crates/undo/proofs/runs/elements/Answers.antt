-- `elements` meets its contract: what the run of the operations that are left gives is what the whole run gives, and so for the undo; the measure is the
-- rows that are left.
use Prim.Native.Nat.{◌+◌}
use native.Mathlib.Omega.{arith}
use mathlib.Core.Path.{◌≡◌, refl}
use borrow.Author.Rules.{rules}
use Rattle.spec.proofs.FaultLaws.{handed}
use Rattle.operations.specs.Answers.{stopped_at}
use Rattle.undo.proofs.RunLaws.{logging_all, logged_ends, logged_inside, logged_halts, logged_next}
use Rattle.undo.proofs.runs.elements.Goals as goal

pub loop-row-init : goal.loop-row-init
loop-row-init c = (omega arith, refl, refl, refl, logging_all _ _ _ _ _)

pub returns-then-nodes-row : goal.returns-then-nodes-row
returns-then-nodes-row c = logged_inside c.loop-row.invariant.4 (omega arith) (omega arith)

pub loop-row-preserved : goal.loop-row-preserved
unfolding stopped_at
loop-row-preserved c =
    let told : c.map_err.result ≡ stopped_at (c.loop-row.op + 1) c.step-stepped.result = search rules in (
      search rules,
      search rules,
      search rules,
      search rules,
      logged_next c.loop-row.invariant.4 (omega arith) c.step-stepped.ensures c.narrow.ensures c.loop-row.invariant.0 told c.in_ok-logged.was _
          c.end_of-row.ensures,
    )

pub returns-in_err-logged : goal.returns-in_err-logged
unfolding stopped_at
returns-in_err-logged c =
    let told : c.map_err.result ≡ stopped_at (c.loop-row.op + 1) c.step-stepped.result = search rules in
    rw (handed _ c.from_residual.ensures.1)
    (logged_halts c.loop-row.invariant.4 (omega arith) c.step-stepped.ensures c.narrow.ensures c.loop-row.invariant.0 told c.in_err-logged.was)

pub returns : goal.returns
returns c = logged_ends c.loop-row.invariant.4 (omega arith)
