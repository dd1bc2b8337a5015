-- The examples of undos, proved of the definitions by computation.
use mathlib.Core.Path.{◌≡◌, refl}
use Prim.Native.Nat.{ℕ}
use native.Mathlib.Omega.{arith}
use Rattle.spec.proofs.Computing.{compute, ◌and◌}
use Rattle.claims.specs.Pointers.{escape_character, escape_token, pointer_of}
use Rattle.reversal.specs.Undo.{result_or, value_at, remaining, digits_before, index_token, element_token, parent_tokens, last_token, mended_in, mended}
use Rattle.reversal.specs.Undo.{is_replace, undo_moved, undo_move, undo_of, undo_run}
use Rattle.reversal.specs.UndoValue.{op_name, value_member, operation_value, operation_values, undo_value}
use Rattle.reversal.specs.UndoAnswer.{undo_shaped, undo_read, undo_operations, undo_fitting, undo_written, after_patch, undo_answer}
use Rattle.reversal.specs.Examples.{All, undos, Witness, times, nested, letters, Order}

-- the definitions that compute an undo: to unfold one of these names is to unfold all that its line names
unfoldable compute_mended : Unit {0}
unfolding escape_character escape_token pointer_of result_or value_at remaining digits_before index_token element_token
    parent_tokens last_token mended_in mended
compute_mended = tt

unfoldable compute_run : Unit {0}
unfolding is_replace undo_moved undo_move undo_of undo_run op_name value_member operation_value operation_values undo_value
compute_run = tt

unfoldable compute_undos : Unit {0}
unfolding compute compute_mended compute_run undo_shaped undo_read undo_operations undo_fitting undo_written after_patch undo_answer
compute_undos = tt

pub examples : All undos
unfolding compute_undos
examples =
    (refl, refl) and (refl, refl) and (refl, refl) and (refl, refl) and (refl, refl) and (refl, refl) and (refl, refl) and
    (refl, refl) and (refl, refl) and (refl, refl) and (refl, refl) and (refl, refl) and (refl, refl) and (refl, refl) and
    (refl, refl) and (refl, refl) and (refl, refl) and (refl, refl) and (refl, refl) and
    refl and refl and refl and refl and refl and tt

pub witness : Witness
unfolding compute_undos
witness =
    record {
      written = refl;
      fits = omega arith;
      enough = record { work = λ (h : ◌≡◌ {A = ℕ} 0 1). absurd (omega arith); output = λ (h : ◌≡◌ {A = ℕ} 0 16). absurd (omega arith) };
    }

pub order : Order
unfolding compute_undos times nested letters
order = record { operations = refl; levels = refl; values = refl; bytes = refl }
