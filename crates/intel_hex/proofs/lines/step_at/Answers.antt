use Rattle.std.proofs.Common.{arith}
use Rattle.std.proofs.lemmas.Result.{err_from_is_err_and}
use Rattle.intel_hex.specs.Steps.{RecordIs}
use Rattle.intel_hex.proofs.LineLaws.{line-room}
use Rattle.intel_hex.proofs.StepLaws.{missing, bad_line, bad_form, bad_sum, end_behind, end_last, other_address, past_end, more}
use Rattle.intel_hex.proofs.lines.step_at.Goals as goal
use Rattle.intel_hex.proofs.lines.step_at.Goals.{then-record-next-via-then-record-next, then-record-next-via-else-record-next+then-next-record-gt-MAX_TEXT}

pub returns-in_err-record : goal.returns-in_err-record
returns-in_err-record c =
    let p = err_from_is_err_and c.from_residual.result c.from_residual.ensures.1 in
    let m = missing c.record_at.result c.in_err-record.ensures.value in
    rw (p.1, p.2, m.0, c.at.ensures) (bad_line _ _ _ (rw m.1 at c.record_at.ensures))

pub returns-in_err-form : goal.returns-in_err-form
unfolding RecordIs
returns-in_err-form c =
    let p = err_from_is_err_and c.from_residual-in_err-form.result c.from_residual-in_err-form.ensures.1 in
    let m = missing c.form.result c.in_err-form.ensures.value in
    let fields = rw c.in_ok-record.ensures.ok_part at c.record_at.ensures in
    rw (p.1, p.2, m.0, c.at-2.ensures) (bad_form _ _ _ fields (rw m.1 at c.form.ensures))

pub returns-then-record-ne0 : goal.returns-then-record-ne0
unfolding RecordIs
returns-then-record-ne0 c =
    let fields = rw c.in_ok-record.ensures.ok_part at c.record_at.ensures in
    let form = rw c.in_ok-form.ensures.ok_part at c.form.ensures in
    rw c.at-then-record-ne0.ensures (bad_sum _ _ _ fields _ form c.if-record-ne0.true)

pub returns-then-record-t : goal.returns-then-record-t
unfolding RecordIs
returns-then-record-t c =
    let fields = rw c.in_ok-record.ensures.ok_part at c.record_at.ensures in
    let form = rw c.in_ok-form.ensures.ok_part at c.form.ensures in
    rw c.at-then-record-t.ensures
    (end_behind _ _ _ fields c.if-record-ne0.false (rw c.in-End.is at form) c.if-record-t.true)

pub overflow_add-next : goal.overflow_add-next
unfolding RecordIs
overflow_add-next c =
    let fields = rw c.in_ok-record.ensures.ok_part at c.record_at.ensures in
    omega (arith, fields.count_is, line-room c.args.t.now fields.line, c.requires)

pub returns-then-record-next : goal.returns-then-record-next
unfolding RecordIs
returns-then-record-next c =
    let fields = rw c.in_ok-record.ensures.ok_part at c.record_at.ensures in
    let form = rw c.in-Data.is at (rw c.in_ok-form.ensures.ok_part at c.form.ensures) in
    rw c.at-then-record-next.ensures
    (elim c.then-record-next.branch [
      | then-record-next-via-then-record-next w ↦ other_address _ _ _ fields c.if-record-ne0.false form w.if-record-next.true
      | then-record-next-via-else-record-next+then-next-record-gt-MAX_TEXT w ↦
          past_end _ _ _ fields c.if-record-ne0.false form w.if-next-record-gt-MAX_TEXT.true
    ])

pub returns-else-record-t : goal.returns-else-record-t
unfolding RecordIs
returns-else-record-t c =
    let fields = rw c.in_ok-record.ensures.ok_part at c.record_at.ensures in
    let form = rw c.in_ok-form.ensures.ok_part at c.form.ensures in
    end_last _ _ _ fields c.if-record-ne0.false (rw c.in-End.is at form) c.if-record-t.false

pub returns-else-next-record-gt-MAX_TEXT : goal.returns-else-next-record-gt-MAX_TEXT
unfolding RecordIs
returns-else-next-record-gt-MAX_TEXT c =
    let fields = rw c.in_ok-record.ensures.ok_part at c.record_at.ensures in
    let form = rw c.in-Data.is at (rw c.in_ok-form.ensures.ok_part at c.form.ensures) in
    more _ _ _ fields c.if-record-ne0.false form c.if-record-next.false c.if-next-record-gt-MAX_TEXT.false
