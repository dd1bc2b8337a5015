use Rattle.std.proofs.Common.{length, ap, arith, length-set}
use Rattle.text.proofs.LaidLaws.{stored_length}
use Rattle.intel_hex.specs.Record.{digits_of, digits}
use Rattle.intel_hex.proofs.RecordLaws.{digits_of-length}
use Rattle.intel_hex.proofs.WritingLaws.{line_stored}
use Rattle.intel_hex.proofs.writing.put_line.Goals as goal

pub overflow_add-at : goal.overflow_add-at
unfolding digits_of digits
overflow_add-at c = omega (arith, c.requires)

pub put_spelled-behind_head-requires : goal.put_spelled-behind_head-requires
unfolding digits_of digits
put_spelled-behind_head-requires c =
    omega (arith, c.requires, simp length-set at (ap length c.put.ensures))

pub put_spelled-behind_data-requires : goal.put_spelled-behind_data-requires
unfolding digits_of digits
put_spelled-behind_data-requires c =
    omega (
      arith,
      c.requires,
      c.put_spelled-behind_head.ensures.next_is,
      stored_length c.put_spelled-behind_head.ensures,
      simp length-set at (ap length c.put.ensures),
    )

pub put_digits-end-requires : goal.put_digits-end-requires
unfolding digits_of digits
put_digits-end-requires c =
    omega (
      arith,
      c.requires,
      c.put_spelled-behind_head.ensures.next_is,
      c.put_spelled-behind_data.ensures.next_is,
      digits_of-length c.args.bytes.now,
      stored_length c.put_spelled-behind_head.ensures,
      stored_length c.put_spelled-behind_data.ensures,
      simp length-set at (ap length c.put.ensures),
    )

pub overflow_add-result : goal.overflow_add-result
unfolding digits_of digits
overflow_add-result c =
    omega (
      arith,
      c.requires,
      c.put_spelled-behind_head.ensures.next_is,
      c.put_spelled-behind_data.ensures.next_is,
      c.put_digits-end.ensures.next_is,
      digits_of-length c.args.bytes.now,
    )

pub returns : goal.returns
unfolding digits_of digits
returns c =
    line_stored _ _ _ _ c.sum.ensures c.sum-2.ensures c.wrapping_neg-last.ensures (omega arith) c.put.ensures c.put_spelled-behind_head.ensures
    c.put_spelled-behind_data.ensures c.put_digits-end.ensures c.put-2.ensures
