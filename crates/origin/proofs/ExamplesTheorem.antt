-- The examples of origins, by computation.
use mathlib.Core.Path.{refl}
use Rattle.claims.specs.Pointers.{escape_character, escape_token, pointer_of}
use Rattle.spec.proofs.Computing.{compute}
use Rattle.merging.specs.MergePatch.{is_null}
use Rattle.reversal.specs.Undo.{result_or, value_at, remaining, digits_before, index_token, element_token, parent_tokens, last_token, mended_in}
use Rattle.reversal.specs.Undo.{mended, is_replace}
use Rattle.reversal.specs.Undo.{undo_moved, undo_move, undo_of, undo_run}
use Rattle.reversal.specs.UndoValue.{op_name, value_member, operation_value, operation_values, undo_value}
use Rattle.reversal.specs.UndoAnswer as PlainUndo
use Rattle.reversal.specs.UndoAnswer.{undo_shaped, undo_read, undo_operations, undo_fitting, undo_written}
use Rattle.tape.specs.Map.{map_forest}
use Rattle.origin.specs.Value.{origins_of, origins}
use Rattle.origin.specs.Pointer.{child, walk}
use Rattle.origin.specs.Operation.{put, at_parent, insert_element, insert_member, insert_child, remove_child, replace_child, add_at, remove_at_path}
use Rattle.origin.specs.Operation.{replace_at_path, move_to, copy_to, test_at, perform, not_too_deep, not_too_large, limited}
use Rattle.origin.specs.Patch.{run}
use Rattle.origin.specs.MergePatch.{as_object, without, member_of, merge_members, merge_patch}
use Rattle.origin.specs.Answer.{fitting, answer_of, applied, on_patch, on_document, answer, merged_in, on_merge_patch, on_merge_document, merge_answer}
use Rattle.origin.specs.Answer.{beside, after_patch, undo_answer}
use Rattle.origin.specs.Examples.{AllPatches, AllMerges, patches, transfers, merges, Edges}

unfoldable pub compute_steps : Unit {0}
unfolding map_forest origins_of origins child walk put at_parent insert_element insert_member insert_child remove_child replace_child add_at remove_at_path
compute_steps = tt

unfoldable pub compute_origins : Unit {0}
unfolding replace_at_path move_to copy_to test_at perform not_too_deep not_too_large limited run fitting answer_of applied on_patch on_document answer
compute_origins = tt

unfoldable compute_merges : Unit {0}
unfolding is_null as_object without member_of merge_members merge_patch merged_in on_merge_patch on_merge_document merge_answer
compute_merges = tt

unfoldable compute_undos : Unit {0}
unfolding escape_character escape_token pointer_of result_or value_at remaining digits_before index_token element_token parent_tokens last_token
compute_undos = tt

unfoldable compute_undo_values : Unit {0}
unfolding mended_in mended is_replace undo_moved undo_move undo_of undo_run op_name value_member operation_value operation_values undo_value
compute_undo_values = tt

unfoldable compute_undo_answers : Unit {0}
unfolding undo_shaped undo_read undo_operations undo_fitting undo_written PlainUndo.after_patch beside after_patch undo_answer
compute_undo_answers = tt

pub patches_hold : AllPatches patches
unfolding compute compute_steps compute_origins
patches_hold = (refl, (refl, (refl, (refl, (refl, (refl, (refl, (refl, (refl, (refl, tt))))))))))

pub transfers_hold : AllPatches transfers
unfolding compute compute_steps compute_origins
transfers_hold = (refl, (refl, (refl, (refl, (refl, (refl, (refl, (refl, tt))))))))

pub merges_hold : AllMerges merges
unfolding compute compute_steps compute_origins compute_merges
merges_hold = (refl, (refl, (refl, (refl, (refl, (refl, tt))))))

pub edges : Edges
unfolding compute compute_steps compute_origins compute_merges compute_undos compute_undo_values compute_undo_answers
edges = record { enough = refl; short = refl; refused = refl; merge_short = refl; undo = refl; undo_short = refl; undo_refused = refl }
