-- `checked_merge` meets its contract, by the two lengths and by what is read of both texts.
use mathlib.Core.Path.{refl}
use Rattle.json_patch.proofs.AnswerLaws.{answered-refusal, answered_as, answered-handed, work_suffices_lem}
use Rattle.json_patch.proofs.ReadLaws.{lengths_short}
use Rattle.merge.proofs.StageLaws.{lengths_refused, texts_refused, texts_merged}
use Rattle.merge.proofs.stages.checked_merge.Goals as goal

pub returns-in_err-check_lengths : goal.returns-in_err-check_lengths
returns-in_err-check_lengths c h i =
    let e = lengths_refused _ (work_suffices_lem _ h i) c.check_lengths.ensures c.in_err-check_lengths.was in
    answered-handed _ c.from_residual.ensures.1 (λ r is. answered_as e (answered-refusal is))

pub returns-in_err-read_texts : goal.returns-in_err-read_texts
returns-in_err-read_texts c h i =
    let short = lengths_short c.check_lengths.ensures c.in_ok-check_lengths.was in
    let e = texts_refused _ (work_suffices_lem _ h i) short (c.read_texts.ensures h i short.0 short.1) c.in_err-read_texts.was in
    answered-handed _ c.from_residual-in_err-read_texts.ensures.1 (λ r is. answered_as e (answered-refusal is))

pub returns : goal.returns
returns c h i =
    let short = lengths_short c.check_lengths.ensures c.in_ok-check_lengths.was in
    texts_merged _ (work_suffices_lem _ h i) short (c.read_texts.ensures h i short.0 short.1) _ c.in_ok-read_texts.was refl c.run_merge.ensures
