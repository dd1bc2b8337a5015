use Rattle.std.proofs.Common.{refl, ◌∙◌, arith}
use Rattle.spec.specs.Bytes.{byte}
use Rattle.intel_hex.specs.Reading.{count, address_of, type_of}
use Rattle.intel_hex.specs.Steps.{RecordIs}
use Rattle.intel_hex.proofs.LineLaws.{too_short, no_colon, no_hex, no_ending, no_scan, fields_are}
use Rattle.intel_hex.proofs.lines.record_at.Goals as goal
use Rattle.intel_hex.proofs.lines.record_at.Goals.{then-t-lt11-via-then-t-lt11, then-t-lt11-via-else-t-lt11+then-t-ne58}

pub returns-then-t-lt11 : goal.returns-then-t-lt11
unfolding byte
returns-then-t-lt11 c =
    elim c.then-t-lt11.branch [
      | then-t-lt11-via-then-t-lt11 w ↦ too_short _ (omega arith)
      | then-t-lt11-via-else-t-lt11+then-t-ne58 w ↦ no_colon _ w.if-t-ne58.true
    ]

pub returns-in_err-hex_byte : goal.returns-in_err-hex_byte
returns-in_err-hex_byte c = rw c.from_residual.ensures (no_hex c.args.t.now 0 (omega arith) c.in_err-hex_byte.ensures)

pub returns-then-t-end : goal.returns-then-t-end
unfolding count
returns-then-t-end c = too_short _ (omega (arith, c.in_ok-hex_byte.ensures.1))

pub returns-in_err-width : goal.returns-in_err-width
returns-in_err-width c =
    rw c.from_residual-in_err-width.ensures
    (no_ending c.args.t.now (c.from-count.ensures ∙ c.in_ok-hex_byte.ensures.1) c.in_err-width.ensures)

pub returns-in_err-sum : goal.returns-in_err-sum
returns-in_err-sum c =
    rw c.from_residual-in_err-sum.ensures
    (no_scan c.args.t.now (c.from-count.ensures ∙ c.in_ok-hex_byte.ensures.1) c.in_err-sum.ensures)

pub returns-in_err-high : goal.returns-in_err-high
returns-in_err-high c =
    rw c.from_residual-in_err-high.ensures (no_hex c.args.t.now 1 (omega arith) c.in_err-high.ensures)

pub returns-in_err-low : goal.returns-in_err-low
returns-in_err-low c =
    rw c.from_residual-in_err-low.ensures (no_hex c.args.t.now 2 (omega arith) c.in_err-low.ensures)

pub returns-in_err-kind : goal.returns-in_err-kind
returns-in_err-kind c =
    rw c.from_residual-in_err-kind.ensures (no_hex c.args.t.now 3 (omega arith) c.in_err-kind.ensures)

pub returns : goal.returns
unfolding RecordIs byte address_of type_of
returns c =
    fields_are c.args.t.now (c.from-count.ensures ∙ c.in_ok-hex_byte.ensures.1) refl c.if-t-ne58.false c.in_ok-width.ensures.0
    c.in_ok-width.ensures.1 c.in_ok-sum.ensures.0 c.in_ok-sum.ensures.1
    (omega (arith, c.in_ok-high.ensures.1, c.in_ok-low.ensures.1, c.from.ensures, c.from-2.ensures)) c.in_ok-kind.ensures.1 refl
