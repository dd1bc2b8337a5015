-- `string_length` meets its contract, by those of `part` and of `written_length`.
use native.Mathlib.Omega.{arith}
use Rattle.writer.proofs.LengthLaws.{string-counted, string-short}
use Rattle.tape.specs.Lent.{both}
use Rattle.writer.proofs.lengths.string_length.Goals as goal

pub overflow_add-result : goal.overflow_add-result
overflow_add-result c =
    omega (
      arith,
      string-short (both c.args.texts) c.args.spelling,
      string-counted
          (both c.args.texts) c.args.spelling c.written_length.ensures c.long.ensures
          c.part-s.ensures,
    )

pub returns : goal.returns
returns c = string-counted _ _ c.written_length.ensures c.long.ensures c.part-s.ensures
