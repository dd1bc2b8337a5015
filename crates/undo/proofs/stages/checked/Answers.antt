-- `checked` meets its contract, by the two lengths and by what is read of both texts.
use native.Mathlib.Omega.{arith}
use mathlib.Core.Path.{◌∙◌}
use Rattle.json_patch.proofs.AnswerLaws.{answered-refusal, answered_as, work_suffices_lem}
use Rattle.json_patch.proofs.ReadLaws.{lengths_short}
use Rattle.json_patch.proofs.StageLaws.{lengths_refused, texts_refused}
use Rattle.undo.proofs.AnswerLaws.{undo_as, patch_refused, undo-handed}
use Rattle.undo.proofs.StageLaws.{texts_run}
use Rattle.undo.proofs.CallLaws.{buffer_enough, read_undo}
use Rattle.undo.proofs.stages.checked.Goals as goal

pub returns-in_err-check_lengths : goal.returns-in_err-check_lengths
returns-in_err-check_lengths c h i j =
    let e = lengths_refused _ (work_suffices_lem _ h i) c.check_lengths.ensures c.in_err-check_lengths.was in
    undo-handed _ c.from_residual.ensures.1 λ a is.
    undo_as (buffer_enough _ _ _ (omega (arith, j))) (patch_refused _ _ (answered_as e (answered-refusal is)) _ is.0)

pub returns-in_err-used : goal.returns-in_err-used
returns-in_err-used c h i j =
    let short = lengths_short c.check_lengths.ensures c.in_ok-check_lengths.was in
    let e = texts_refused _ (work_suffices_lem _ h i) short (c.read_texts.ensures h i short.0 short.1) c.in_err-used.was in
    undo-handed _ c.from_residual-in_err-used.ensures.1 λ a is.
    undo_as (buffer_enough _ _ _ (omega (arith, j))) (patch_refused _ _ (answered_as e (answered-refusal is)) _ is.0)

pub shape_of-nodes : goal.shape_of-nodes
shape_of-nodes c = c.run_patch.auto.nodes ∙ c.read_texts.auto.nodes

pub shape_of-index : goal.shape_of-index
shape_of-index c = c.run_patch.auto.index ∙ c.read_texts.auto.index

pub returns : goal.returns
returns c h i j =
    let short = lengths_short c.check_lengths.ensures c.in_ok-check_lengths.was in
    undo_as (read_undo _ _ _ (work_suffices_lem _ h i) (omega (arith, j)) short.0 short.1)
    (texts_run (c.read_texts.ensures h i short.0 short.1) c.in_ok-used.was _ _ c.args.work.now j c.run_patch.ensures)
