-- Laws of the call: the work area lent in part, and cleared.
use Rattle.std.specs.Prelude.{Result}
use Prim.Native.Nat.{ℕ, ◌≤◌}
use native.Mathlib.Omega.{arith}
use mathlib.Core.Path.{◌≡◌, refl, sym, ap, subst, ◌∙◌}
use mathlib.Core.Bool.{Bool, true, false}
use mathlib.Core.List.{List, ◌++◌}
use lib.ListN.{length, take, drop, replicate}
use lib.Seq.{length-take-le, length_front, drop_at}
use Rattle.spec.specs.Refusal.{work_too_short}
use Rattle.spec.specs.Limits.{work_nodes, work_entries}
use Rattle.spec.specs.Bytes.{Bytes}
use Rattle.spec.specs.Answer.{answer, work_suffices}
use Rattle.tape.specs.Columns.{filled}
use Rattle.tape.specs.Fields.{Row, no_node}
use Rattle.tape.specs.Lent.{Texts}
use Rattle.tape.proofs.Columns.{filled-first}
use Rattle.json_patch.specs.Call.{Memory, Answered, RefusalIs, wiped, lent_of, ApplyIs}
use Rattle.json_patch.specs.Stages.{as_answer, CheckedIs}
use Rattle.json_patch.specs.declared.answer.Answer.{Answer}
use Rattle.json_patch.proofs.AnswerLaws.{answered-refusal, answered_as, work_suffices_lem, answer_work_short, answer_same}

-- a list whose first n entries were lent, came back as a part of the same length, and were cleared
pub part-wiped : {A : Type 0} (n : ℕ) (zero : A) (xs part : List A) → n ≤ length xs → length part ≡ length (take n xs)
    → filled zero (part ++ drop n xs) 0 n ≡ wiped true n zero xs
unfolding wiped
part-wiped n zero xs part long same =
    let whole : n ≤ length (part ++ drop n xs) = omega (arith, length_front xs part n same) in
    filled-first zero (part ++ drop n xs) n whole ∙ ap (λ r. replicate n zero ++ r) (drop_at part (drop n xs) n (same ∙ length-take-le n xs long))

-- whether the work area suffices does not depend on the room for the text
pub any_room : (room nodes index : ℕ) {b : Bool} → b ≡ work_suffices (record { output = 0; nodes = nodes; index = index })
    → b ≡ work_suffices (record { output = room; nodes = nodes; index = index })
unfolding work_suffices
any_room room nodes index e = e

-- ---- the two ways out
module _ {T : Texts} {r : Answer} where
  -- SPECIFICATION 2.4: after a 1, no buffer has changed.
  pub work_short : {m : Memory} → work_suffices (lent_of m) ≡ false → RefusalIs work_too_short 0 0 0 r → ApplyIs T m m r
  unfolding wiped
  work_short e is =
      record { answered = answered_as (answer_work_short T.document T.patch _ e) (answered-refusal is); nodes-after = rw e; index_after = rw e }

  -- SPECIFICATION 2.4: after any other answer the work area is all zero; where a work buffer is longer than stated, the part beyond is unchanged.
  pub work_done : {out out' : Bytes} {ns ns' : List Row} {xs xs' : List ℕ} (done : Result ℕ Answer) → work_nodes ≤ length ns → work_entries ≤ length xs
      → CheckedIs T (record { output = out; nodes = take work_nodes ns; index = take work_entries xs }) out' done → r ≡ as_answer done
      → (rows : List Row) → length rows ≡ length (take work_nodes ns) → ns' ≡ filled no_node (rows ++ drop work_nodes ns) 0 work_nodes
      → (entries : List ℕ) → length entries ≡ length (take work_entries xs) → xs' ≡ filled 0 (entries ++ drop work_entries xs) 0 work_entries
      → ApplyIs T (record { output = out; nodes = ns; index = xs }) (record { output = out'; nodes = ns'; index = xs' }) r
  work_done {out = out} {out' = out'} {ns = ns} {xs = xs} done long longer is told rows same nodes_are entries same_entries index_is =
      let all : Memory = record { output = out; nodes = ns; index = xs } in
      let part : Memory = record { output = out; nodes = take work_nodes ns; index = take work_entries xs } in
      let h : work_nodes ≤ length (take work_nodes ns) = omega (arith, length-take-le work_nodes ns long) in
      let i : work_entries ≤ length (take work_entries xs) = omega (arith, length-take-le work_entries xs longer) in
      let enough : work_suffices (lent_of all) ≡ true = work_suffices_lem (lent_of all) long longer in
      let part-enough : work_suffices (lent_of part) ≡ true = work_suffices_lem (lent_of part) h i in
      record {
        answered = answered_as (answer_same T.document T.patch _ _ (enough ∙ sym part-enough) refl) (subst (λ a. Answered (answer T.document T.patch (lent_of part)) out out' a) (sym told) (is h i));
        nodes-after = nodes_are ∙ part-wiped work_nodes no_node ns rows long same ∙ ap (λ b. wiped b work_nodes no_node ns) (sym enough);
        index_after = index_is ∙ part-wiped work_entries 0 xs entries longer same_entries ∙ ap (λ b. wiped b work_entries 0 xs) (sym enough);
      }
