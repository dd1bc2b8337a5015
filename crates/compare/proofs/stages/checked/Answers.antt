-- `checked` meets its contract, by the two lengths and by what is read of both texts.
use native.Mathlib.Omega.{arith}
use Rattle.json_patch.proofs.ReadLaws.{lengths_short}
use Rattle.compare.proofs.StageLaws.{lengths_refused, texts_refused, texts_compared}
use Rattle.compare.proofs.stages.checked.Goals as goal

pub returns-in_err-check_lengths : goal.returns-in_err-check_lengths
returns-in_err-check_lengths c h i = lengths_refused _ c.check_lengths.ensures c.in_err-check_lengths.was c.from_residual.ensures.1

pub returns-in_err-read_texts : goal.returns-in_err-read_texts
returns-in_err-read_texts c h i =
    let short = lengths_short c.check_lengths.ensures c.in_ok-check_lengths.was in
    texts_refused short (c.read_texts.ensures h i short.0 short.1) _ c.in_err-read_texts.was c.from_residual-in_err-read_texts.ensures.1

pub returns : goal.returns
returns c h i =
    let short = lengths_short c.check_lengths.ensures c.in_ok-check_lengths.was in
    texts_compared short (c.read_texts.ensures h i short.0 short.1) _ c.in_ok-read_texts.was (omega (arith, i, c.read_texts.auto.index)) c.compared.ensures
