use Rattle.std.proofs.Common.{arith}
use Rattle.std.proofs.lemmas.Result.{err_from_is_err_and}
use Rattle.intel_hex.proofs.ReadLaws.{some_here, none_here, measuring_starts, measuring_on, onward_more, measured-done, measured_refused, measured_missing}
use Rattle.intel_hex.proofs.reading.measure_text.Goals as goal

pub loop-rest-init : goal.loop-rest-init
loop-rest-init c = measuring_starts _

pub returns-in_err-record : goal.returns-in_err-record
returns-in_err-record c =
    let p = err_from_is_err_and c.from_residual.result c.from_residual.ensures.1 in
    rw (p.1, p.2) (measured_refused c.loop-rest.invariant (some_here _ c.loop-rest-test.ensures) c.in_err-record.ensures)

pub returns-in_default : goal.returns-in_default
returns-in_default c =
    measured-done c.loop-rest.invariant (some_here _ c.loop-rest-test.ensures) (rw c.in_default.is at (rw c.in_ok-record.was at c.step_at.ensures))

pub slice_bounds-rest-count : goal.slice_bounds-rest-count
slice_bounds-rest-count c =
    let o = onward_more c.loop-rest.invariant (some_here _ c.loop-rest-test.ensures) (rw c.in-Some.is at (rw c.in_ok-record.was at c.step_at.ensures)) in
    omega arith

pub slice_bounds-rest-start : goal.slice_bounds-rest-start
slice_bounds-rest-start c =
    let o = onward_more c.loop-rest.invariant (some_here _ c.loop-rest-test.ensures) (rw c.in-Some.is at (rw c.in_ok-record.was at c.step_at.ensures)) in
    omega arith

pub overflow_add-n : goal.overflow_add-n
overflow_add-n c =
    let o = onward_more c.loop-rest.invariant (some_here _ c.loop-rest-test.ensures) (rw c.in-Some.is at (rw c.in_ok-record.was at c.step_at.ensures)) in
    omega arith

pub loop-rest-smaller : goal.loop-rest-smaller
loop-rest-smaller c =
    let o = onward_more c.loop-rest.invariant (some_here _ c.loop-rest-test.ensures) (rw c.in-Some.is at (rw c.in_ok-record.was at c.step_at.ensures)) in
    omega arith

pub loop-rest-preserved : goal.loop-rest-preserved
loop-rest-preserved c =
    measuring_on c.loop-rest.invariant (some_here _ c.loop-rest-test.ensures) (rw c.in-Some.is at (rw c.in_ok-record.was at c.step_at.ensures))

pub returns : goal.returns
returns c = rw c.at.ensures (measured_missing c.loop-rest.invariant (none_here _ c.loop-rest-test.ensures))
