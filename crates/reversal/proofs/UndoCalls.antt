-- Laws for a call that makes the undo while the patch runs: its ways out, the undo so far, and its sums.
use Rattle.std.specs.Prelude.{if◌then◌else◌}
use mathlib.Core.Path.{◌≡◌, refl, ap}
use mathlib.Core.Bool.{Bool, true, false}
use mathlib.Core.List.{List, [], ◌∷◌, ◌++◌, append_assoc}
use Prim.Native.Nat.{ℕ, suc, ◌+◌, ◌≤◌, max}
use native.Mathlib.Omega.{arith}
use lib.ListN.{length}
use lib.Dec.{eqb}
use borrow.Author.Tests.{le-leb, le-ltb, lt-leb}
use Rattle.spec.specs.Outcome.{ok}
use Rattle.spec.specs.Limits.{max_bytes}
use Rattle.spec.specs.Bytes.{Bytes, ascii}
use Rattle.spec.specs.Forest.{none, tree, count, size}
use Rattle.spec.specs.Value as Value
use Rattle.spec.specs.Value.{tag, is_container, levels, depths, depth, nodes}
use Rattle.spec.specs.Write.{comma, write}
use Rattle.spec.specs.Operation.{Operation, limited}
use Rattle.spec.specs.Patch.{uses_value, finished, on_finish, run}
use Rattle.spec.specs.Answer.{answer, answer_in, refusal, work_suffices, fitting, answer_of, patched, on_patch, on_document}
use Rattle.spec.specs.Region.{Accepted, WellFormed}
use Rattle.reversal.specs.Undo.{result_or, undo_of, undo_run}
use Rattle.reversal.specs.UndoValue.{value_member, operation_value, operation_values, undo_value}
use Rattle.reversal.specs.UndoText.{operation_text, operation_texts}
use Rattle.reversal.specs.UndoAnswer.{UndoLent, undo_refusal, undo_shaped, undo_read, undo_operations, undo_written, after_patch, undo_answer}

-- Ways out

module _ (document patch : Bytes) (lent : UndoLent) where
  pub buffer_short : lent.work ≤ 32_767 → undo_answer document patch lent ≡ undo_refusal (refusal 1 0 0 0)
  unfolding undo_answer
  buffer_short h = rw (lt-leb max_bytes lent.work (omega arith))

  -- the plain call refuses; `Numbered` proves that its number is not 0
  pub patch_refused : max_bytes ≤ lent.work → (n text op place : ℕ) → eqb n 0 ≡ false → answer document patch lent.patch ≡ refusal n text op place →
      undo_answer document patch lent ≡ undo_refusal (refusal n text op place)
  unfolding undo_answer after_patch
  patch_refused w n text op place q h = rw (le-leb max_bytes lent.work w, h, q)

  -- the patch succeeds: what is left is to judge the undo
  pub patch-done : {d v : Value.Value} {os : List Operation} → max_bytes ≤ lent.work
      → work_suffices lent.patch ≡ true → Accepted document d → WellFormed patch os →
      run limited 1 os d ≡ finished v → length (write v) ≤ lent.patch.output →
      undo_answer document patch lent ≡ undo_written lent.undo (write v) (undo_value (undo_run os d))
  unfolding undo_answer after_patch undo_operations undo_read undo_shaped answer answer_in on_document on_patch patched on_finish answer_of fitting
  patch-done {d} {v} {os} w work a f h room =
      rw (
        le-leb max_bytes lent.work w,
        work,
        le-ltb max_bytes (length document) a.fits,
        le-ltb max_bytes (length patch) f.fits,
        a.reads,
        f.reads,
        f.shaped,
        h,
        le-leb (length (write v)) lent.patch.output room,
      )

-- The undo so far: what is still to come goes before it.
pub undo_step : (o : Operation) (os so_far : List Operation) (v w : Value.Value) → limited o v ≡ ok w →
    undo_run (o ∷ os) v ++ so_far ≡ undo_run os w ++ (undo_of o v ++ so_far)
unfolding undo_run result_or
undo_step o os so_far v w h = rw h (append_assoc (undo_run os w) (undo_of o v) so_far)

-- its text: an operation before those so far, with a comma where there are some
pub text_alone : (o : Operation) → operation_texts true (o ∷ []) ≡ operation_text o ++ []
unfolding operation_texts comma
text_alone o = refl

pub text_before : (o p : Operation) (so_far : List Operation) →
    operation_texts true (o ∷ p ∷ so_far) ≡ operation_text o ++ (ascii "," ++ operation_texts true (p ∷ so_far))
unfolding operation_texts comma ascii
text_before o p so_far = refl

-- Sums

-- nodes and levels of the value, where it is used
unfoldable pub value_nodes : Operation → ℕ
value_nodes o = if uses_value o.kind then nodes o.value else 0

unfoldable pub value_depth : Operation → ℕ
value_depth o = if uses_value o.kind then depth o.value else 0

pub undo_count : (os : List Operation) → count (undo_value os).kids ≡ length os
unfolding undo_value operation_values count
undo_count [] = refl
undo_count (o ∷ os) = ap suc (undo_count os)

value-size : (o : Operation) → size (value_member o) ≡ value_nodes o
unfolding value_member value_nodes nodes size
value-size o = go (uses_value o.kind)
  where
    go : (b : Bool)
        → size (if b then tree (record { name = ascii "value"; label = o.value.label }) o.value.kids none else none) ≡ (if b then nodes o.value else 0)
    go true = omega arith
    go false = refl

value-levels : (o : Operation) → depths (value_member o) ≡ value_depth o
unfolding value_member value_depth depth depths
value-levels o = go (uses_value o.kind)
  where
    go : (b : Bool)
        → depths (if b then tree (record { name = ascii "value"; label = o.value.label }) o.value.kids none else none) ≡
        (if b then depth o.value else 0)
    go true = omega arith
    go false = refl

-- 3 for each operation, and those of its value
pub undo_nodes : (o : Operation) (os : List Operation) → nodes (undo_value (o ∷ os)) ≡ 3 + value_nodes o + nodes (undo_value os)
unfolding undo_value operation_values operation_value nodes size
undo_nodes o os = omega (arith, value-size o)

-- two levels more than its value
pub undo_depth : (o : Operation) (os : List Operation) → depth (undo_value (o ∷ os)) ≡ max (2 + value_depth o) (depth (undo_value os))
unfolding undo_value operation_values operation_value depth depths levels is_container tag
undo_depth o os = omega (arith, value-levels o)
