-- `checked` meets its contract, by the two lengths and by what is read of both texts.
use native.Mathlib.Omega.{arith}
use mathlib.Core.Path.{◌∙◌}
use Rattle.json_patch.proofs.AnswerLaws.{work_suffices_lem}
use Rattle.json_patch.proofs.ReadLaws.{lengths_short, read_by}
use Rattle.listing.proofs.StageLaws.{lengths_refused, texts_refused}
use Rattle.undo_listing.proofs.AnswerLaws.{listed_as, listed-handed, call_refused, call_applied}
use Rattle.undo_listing.proofs.stages.checked.Goals as goal

pub returns-in_err-check_lengths : goal.returns-in_err-check_lengths
returns-in_err-check_lengths c h i j =
    let e = lengths_refused _ (work_suffices_lem _ h i) c.check_lengths.ensures c.in_err-check_lengths.was in
    listed-handed _ c.from_residual.ensures.1 λ a is. call_refused _ _ _ (omega (arith, j)) _ e is

pub returns-in_err-used : goal.returns-in_err-used
returns-in_err-used c h i j =
    let short = lengths_short c.check_lengths.ensures c.in_ok-check_lengths.was in
    let e = texts_refused _ (work_suffices_lem _ h i) short (c.read_texts.ensures h i short.0 short.1) c.in_err-used.was in
    listed-handed _ c.from_residual-in_err-used.ensures.1 λ a is. call_refused _ _ _ (omega (arith, j)) _ e is

pub shape_of-output : goal.shape_of-output
shape_of-output c =
    c.run_patch.auto.output

pub shape_of-undo : goal.shape_of-undo
shape_of-undo c =
    c.run_patch.auto.undo

pub shape_of-origins : goal.shape_of-origins
shape_of-origins c =
    c.run_patch.auto.origins

pub shape_of-nodes : goal.shape_of-nodes
shape_of-nodes c =
    c.run_patch.auto.nodes ∙ c.read_texts.auto.nodes

pub shape_of-index : goal.shape_of-index
shape_of-index c =
    c.run_patch.auto.index ∙ c.read_texts.auto.index

pub shape_of-work : goal.shape_of-work
shape_of-work c =
    c.run_patch.auto.work

pub returns : goal.returns
returns c h i j =
    let short = lengths_short c.check_lengths.ensures c.in_ok-check_lengths.was in
    read_by (c.read_texts.ensures h i short.0 short.1) c.in_ok-used.was λ v p document-is patch-is document patch texts-short.
    listed_as (call_applied _ _ _ (omega (arith, j)) (work_suffices_lem _ h i) short.0 short.1 document-is patch-is)
    (c.run_patch.ensures v p document patch texts-short j)
