-- Laws of a call that lists origins: the work area lent in part, and cleared.
use Prim.Native.Nat.{ℕ, ◌≤◌}
use native.Mathlib.Omega.{arith}
use mathlib.Core.Path.{◌≡◌, sym, ap, ◌∙◌}
use mathlib.Core.Bool.{true, false}
use mathlib.Core.List.{List, ◌++◌}
use lib.ListN.{length, take, drop}
use lib.Seq.{length-take-le}
use Rattle.spec.specs.Refusal.{work_too_short}
use Rattle.spec.specs.Limits.{work_nodes, work_entries}
use Rattle.spec.specs.Bytes.{Bytes}
use Rattle.spec.specs.Answer as Spec
use Rattle.spec.specs.Answer.{work_suffices}
use Rattle.tape.specs.Columns.{filled}
use Rattle.tape.specs.Fields.{Row, no_node}
use Rattle.origin.specs.Answer.{Listed, unlisted}
use Rattle.json_patch.specs.Call.{RefusalIs, wiped, lent_of}
use Rattle.json_patch.specs.declared.answer.Answer.{Answer}
use Rattle.json_patch.proofs.AnswerLaws.{work_suffices_lem}
use Rattle.json_patch.proofs.CallLaws.{part-wiped}
use Rattle.listing.specs.Call.{ListMemory, ListedIs, CalledIs}
use Rattle.listing.proofs.StageLaws.{listed-refusal, listed_as}

-- the memory of a call, and the part of it that the call lends its stages: the stated lengths
abbrev pub memory_of : Bytes → List ℕ → List Row → List ℕ → ListMemory
memory_of out list ns xs = record { call = record { output = out; nodes = ns; index = xs }; list = list }

abbrev pub part_of : Bytes → List ℕ → List Row → List ℕ → ListMemory
part_of out list ns xs = memory_of out list (take work_nodes ns) (take work_entries xs)

-- ---- the two ways out, of any call
module _ {a : Listed Spec.Answer} {r : Answer} where
  -- SPECIFICATION 2.4: after a 1, no buffer has changed.
  pub call_short : {m : ListMemory} → work_suffices (lent_of m.call) ≡ false → a ≡ unlisted (Spec.refusal work_too_short 0 0 0)
      → RefusalIs work_too_short 0 0 0 r → CalledIs a m m r
  unfolding wiped
  call_short e short is = record { listed = listed_as short (listed-refusal is); nodes-after = rw e; index_after = rw e }

  -- SPECIFICATION 2.4: after any other answer the work area is all zero; where a work buffer is longer than stated, the part beyond is unchanged.
  -- The stages answer b, on the part of the work area that they are lent.
  pub call_done : {b : Listed Spec.Answer} {out out' : Bytes} {list list' : List ℕ} {ns ns' : List Row} {xs xs' : List ℕ}
      → work_nodes ≤ length ns → work_entries ≤ length xs
      → (work_suffices (lent_of (memory_of out list ns xs).call) ≡ work_suffices (lent_of (part_of out list ns xs).call) → a ≡ b)
      → (work_nodes ≤ length (take work_nodes ns) → work_entries ≤ length (take work_entries xs)
      → ListedIs b (record { output = out; list = list }) (record { output = out'; list = list' }) r)
      → (rows : List Row) → length rows ≡ length (take work_nodes ns) → ns' ≡ filled no_node (rows ++ drop work_nodes ns) 0 work_nodes
      → (entries : List ℕ) → length entries ≡ length (take work_entries xs) → xs' ≡ filled 0 (entries ++ drop work_entries xs) 0 work_entries
      → CalledIs a (memory_of out list ns xs) (memory_of out' list' ns' xs') r
  call_done {out = out} {list = list} {ns = ns} {xs = xs} long longer same_answer is rows same nodes_are entries same_entries index_is =
      let h : work_nodes ≤ length (take work_nodes ns) = omega (arith, length-take-le work_nodes ns long) in
      let i : work_entries ≤ length (take work_entries xs) = omega (arith, length-take-le work_entries xs longer) in
      let enough : work_suffices (lent_of (memory_of out list ns xs).call) ≡ true = work_suffices_lem (lent_of (memory_of out list ns xs).call) long longer in
      let part-enough : work_suffices (lent_of (part_of out list ns xs).call) ≡ true = work_suffices_lem (lent_of (part_of out list ns xs).call) h i in
      record {
        listed = listed_as (same_answer (enough ∙ sym part-enough)) (is h i);
        nodes-after = nodes_are ∙ part-wiped work_nodes no_node ns rows long same ∙ ap (λ b. wiped b work_nodes no_node ns) (sym enough);
        index_after = index_is ∙ part-wiped work_entries 0 xs entries longer same_entries ∙ ap (λ b. wiped b work_entries 0 xs) (sym enough);
      }
