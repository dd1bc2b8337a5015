-- `checked` meets its contract, by the two lengths and by what is read of both texts.
use Rattle.json_patch.proofs.AnswerLaws.{work_suffices_lem}
use Rattle.json_patch.proofs.ReadLaws.{lengths_short, read_by}
use Rattle.listing.proofs.StageLaws.{listed-refusal, listed_as, listed-handed, lengths_refused, texts_refused, answer-applied}
use Rattle.listing.proofs.stages.checked.Goals as goal

pub returns-in_err-check_lengths : goal.returns-in_err-check_lengths
returns-in_err-check_lengths c h i =
    let e = lengths_refused _ (work_suffices_lem _ h i) c.check_lengths.ensures c.in_err-check_lengths.was in
    listed-handed _ c.from_residual.ensures.1 (λ r is. listed_as e (listed-refusal is))

pub returns-in_err-used : goal.returns-in_err-used
returns-in_err-used c h i =
    let short = lengths_short c.check_lengths.ensures c.in_ok-check_lengths.was in
    let e = texts_refused _ (work_suffices_lem _ h i) short (c.read_texts.ensures h i short.0 short.1) c.in_err-used.was in
    listed-handed _ c.from_residual-in_err-used.ensures.1 (λ r is. listed_as e (listed-refusal is))

pub returns : goal.returns
returns c h i =
    let short = lengths_short c.check_lengths.ensures c.in_ok-check_lengths.was in
    read_by (c.read_texts.ensures h i short.0 short.1) c.in_ok-used.was λ v p document-is patch-is document patch texts-short.
    listed_as (answer-applied _ _ _ (work_suffices_lem _ h i) short.0 short.1 document-is patch-is)
    (c.run_patch.ensures v p document patch texts-short)
