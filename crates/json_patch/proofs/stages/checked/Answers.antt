-- `checked` meets its contract, by the two lengths and by what is read of both texts.
use mathlib.Core.Path.{refl}
use Rattle.json_patch.proofs.AnswerLaws.{answered-refusal, answered_as, answered-handed, work_suffices_lem}
use Rattle.json_patch.proofs.ReadLaws.{lengths_short}
use Rattle.json_patch.proofs.StageLaws.{lengths_refused, texts_refused, texts_applied}
use Rattle.json_patch.proofs.stages.checked.Goals as goal

pub returns-in_err-check_lengths : goal.returns-in_err-check_lengths
returns-in_err-check_lengths c h i =
    let e = lengths_refused _ (work_suffices_lem _ h i) c.check_lengths.ensures c.in_err-check_lengths.was in
    answered-handed _ c.from_residual.ensures.1 (λ r is. answered_as e (answered-refusal is))

pub returns-in_err-used : goal.returns-in_err-used
returns-in_err-used c h i =
    let short = lengths_short c.check_lengths.ensures c.in_ok-check_lengths.was in
    let e = texts_refused _ (work_suffices_lem _ h i) short (c.read_texts.ensures h i short.0 short.1) c.in_err-used.was in
    answered-handed _ c.from_residual-in_err-used.ensures.1 (λ r is. answered_as e (answered-refusal is))

pub returns : goal.returns
returns c h i =
    let short = lengths_short c.check_lengths.ensures c.in_ok-check_lengths.was in
    texts_applied _ (work_suffices_lem _ h i) short (c.read_texts.ensures h i short.0 short.1) _ c.in_ok-used.was refl c.run_patch.ensures
