-- `checked_within` meets its contract, by the three lengths and by what is read of both texts.
use native.Mathlib.Omega.{arith}
use Rattle.spec.specs.Fault.{number_of}
use Rattle.json_patch.specs.Stages.{as_answer}
use Rattle.json_patch.proofs.AnswerLaws.{work_suffices_lem}
use Rattle.json_patch.proofs.ReadLaws.{lengths_short, read_by}
use Rattle.listing.proofs.StageLaws.{listed-refusal, listed_as, listed-handed}
use Rattle.region_listing.proofs.StageLaws.{within-region_long, within-applied, lengths_refused, texts_refused}
use Rattle.region_listing.proofs.stages.checked_within.Goals as goal

pub returns-in_err-check_lengths : goal.returns-in_err-check_lengths
returns-in_err-check_lengths c h i =
    let e = lengths_refused _ _ (work_suffices_lem _ h i) c.check_lengths.ensures c.in_err-check_lengths.was in
    listed-handed _ c.from_residual.ensures.1 (λ r is. listed_as e (listed-refusal is))

pub returns-then-region-gt-MAX_BYTES : goal.returns-then-region-gt-MAX_BYTES
unfolding as_answer number_of
returns-then-region-gt-MAX_BYTES c h i =
    let short = lengths_short c.check_lengths.ensures c.in_ok-check_lengths.was in
    listed_as (within-region_long _ _ _ _ (work_suffices_lem _ h i) short.0 short.1 (omega arith)) (listed-refusal c.refusal_answer.ensures)

pub returns-in_err-used : goal.returns-in_err-used
returns-in_err-used c h i =
    let short = lengths_short c.check_lengths.ensures c.in_ok-check_lengths.was in
    let e =
    texts_refused _ _ (work_suffices_lem _ h i) short (omega (arith, c.if-region-gt-MAX_BYTES.false)) (c.read_texts.ensures h i short.0 short.1)
    c.in_err-used.was in
    listed-handed _ c.from_residual-in_err-used.ensures.1 (λ r is. listed_as e (listed-refusal is))

pub returns : goal.returns
returns c h i =
    let short = lengths_short c.check_lengths.ensures c.in_ok-check_lengths.was in
    read_by (c.read_texts.ensures h i short.0 short.1) c.in_ok-used.was λ v p document-is patch-is document patch texts-short.
    listed_as
    (within-applied _ _ _ _ (work_suffices_lem _ h i) short.0 short.1 (omega (arith, c.if-region-gt-MAX_BYTES.false)) document-is patch-is)
    (c.run_within.ensures v p document patch texts-short)
