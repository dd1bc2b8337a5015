-- Laws of the call: the work area lent in part, and cleared.
use Rattle.std.specs.Prelude.{Result}
use Prim.Native.Nat.{ℕ, ◌≤◌}
use native.Mathlib.Omega.{arith}
use mathlib.Core.Path.{◌≡◌, refl, sym, ap, subst, ◌∙◌}
use mathlib.Core.Bool.{true, false}
use mathlib.Core.List.{List, ◌++◌}
use lib.ListN.{length, take, drop}
use lib.Seq.{length-take-le}
use Rattle.spec.specs.Refusal.{work_too_short}
use Rattle.spec.specs.Limits.{work_nodes, work_entries}
use Rattle.spec.specs.Bytes.{Bytes}
use Rattle.spec.specs.Answer.{work_suffices}
use Rattle.merging.specs.MergePatch.{merge_answer}
use Rattle.tape.specs.Columns.{filled}
use Rattle.tape.specs.Fields.{Row, no_node}
use Rattle.tape.specs.Lent.{Texts}
use Rattle.json_patch.specs.Call.{Memory, Answered, RefusalIs, wiped, lent_of}
use Rattle.json_patch.specs.Stages.{as_answer}
use Rattle.json_patch.specs.declared.answer.Answer.{Answer}
use Rattle.json_patch.proofs.AnswerLaws.{answered-refusal, answered_as, work_suffices_lem}
use Rattle.json_patch.proofs.CallLaws.{part-wiped}
use Rattle.merge.specs.Call.{MergeIs}
use Rattle.merge.specs.Stages.{CheckedMergeIs}
use Rattle.merge.proofs.StageLaws.{merge_work_short, merge_same}

-- ---- the two ways out
module _ {T : Texts} {r : Answer} where
  -- SPECIFICATION 2.4: after a 1, no buffer has changed.
  pub work_short : {m : Memory} → work_suffices (lent_of m) ≡ false → RefusalIs work_too_short 0 0 0 r → MergeIs T m m r
  unfolding wiped
  work_short e is =
      record {
        answered = answered_as (merge_work_short T.document T.patch _ e) (answered-refusal is);
        nodes-after = rw e;
        index_after = rw e;
      }

  -- SPECIFICATION 2.4: after any other answer the work area is all zero; where a work buffer is longer than stated, the part beyond is unchanged.
  pub work_done : {out out' : Bytes} {ns ns' : List Row} {xs xs' : List ℕ} (done : Result ℕ Answer) → work_nodes ≤ length ns → work_entries ≤ length xs
      → CheckedMergeIs T (record { output = out; nodes = take work_nodes ns; index = take work_entries xs }) out' done → r ≡ as_answer done
      → (rows : List Row) → length rows ≡ length (take work_nodes ns) → ns' ≡ filled no_node (rows ++ drop work_nodes ns) 0 work_nodes
      → (entries : List ℕ) → length entries ≡ length (take work_entries xs) → xs' ≡ filled 0 (entries ++ drop work_entries xs) 0 work_entries
      → MergeIs T (record { output = out; nodes = ns; index = xs }) (record { output = out'; nodes = ns'; index = xs' }) r
  work_done {out = out} {out' = out'} {ns = ns} {xs = xs} done long longer is told rows same nodes_are entries same_entries index_is =
      let all : Memory = record { output = out; nodes = ns; index = xs } in
      let part : Memory = record { output = out; nodes = take work_nodes ns; index = take work_entries xs } in
      let h : work_nodes ≤ length (take work_nodes ns) = omega (arith, length-take-le work_nodes ns long) in
      let i : work_entries ≤ length (take work_entries xs) = omega (arith, length-take-le work_entries xs longer) in
      let enough : work_suffices (lent_of all) ≡ true = work_suffices_lem (lent_of all) long longer in
      let part-enough : work_suffices (lent_of part) ≡ true = work_suffices_lem (lent_of part) h i in
      record {
        answered =
            answered_as (merge_same T.document T.patch _ _ (enough ∙ sym part-enough) refl)
            (subst (λ a. Answered (merge_answer T.document T.patch (lent_of part)) out out' a) (sym told) (is h i));
        nodes-after = nodes_are ∙ part-wiped work_nodes no_node ns rows long same ∙ ap (λ b. wiped b work_nodes no_node ns) (sym enough);
        index_after = index_is ∙ part-wiped work_entries 0 xs entries longer same_entries ∙ ap (λ b. wiped b work_entries 0 xs) (sym enough);
      }
