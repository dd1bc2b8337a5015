-- Laws of the call with an undo that lists origins: the work area and the buffer lent in part, and cleared.
use Rattle.std.specs.Prelude.{if◌then◌else◌, Result, Err}
use Prim.Native.Nat.{ℕ, ◌≤◌, ◌<◌}
use native.Mathlib.Omega.{arith}
use mathlib.Core.Path.{◌≡◌, refl, sym, subst, ap, ◌∙◌}
use mathlib.Core.Bool.{Bool, true, false, ◌&&◌}
use mathlib.Core.List.{List, ◌++◌}
use lib.Dec.{leb}
use lib.ListN.{length, take, drop}
use lib.Seq.{length-take-le}
use borrow.Author.Tests.{le-leb, lt-leb}
use Rattle.spec.specs.Refusal.{work_too_short}
use Rattle.spec.specs.Limits.{max_bytes, work_nodes, work_entries}
use Rattle.spec.specs.Bytes.{Bytes}
use Rattle.spec.specs.Answer as Spec
use Rattle.spec.specs.Answer.{work_suffices}
use Rattle.tape.specs.Columns.{filled}
use Rattle.tape.specs.Fields.{Row, no_node}
use Rattle.tape.specs.Lent.{Texts}
use Rattle.reversal.specs.UndoValue.{undo_value}
use Rattle.reversal.specs.UndoAnswer as PlainUndo
use Rattle.reversal.specs.UndoAnswer.{UndoLent, undo_refusal, undo_operations}
use Rattle.origin.specs.Answer.{Listed, unlisted, Lending, answer, beside, after_patch, undo_answer}
use Rattle.json_patch.specs.Call.{Memory, lent_of, RefusalIs, wiped}
use Rattle.json_patch.specs.declared.answer.Answer.{Answer}
use Rattle.json_patch.proofs.AnswerLaws.{answered-refusal, work_suffices_lem}
use Rattle.json_patch.proofs.CallLaws.{part-wiped}
use Rattle.listing.proofs.StageLaws.{answer_work_short, answer_same}
use Rattle.undo.specs.Call.{undo_lent_of, undo_suffices, as_undo_answer}
use Rattle.undo.specs.declared.answer.UndoAnswer.{UndoAnswer}
use Rattle.undo.specs.declared.answer.Written.{Written}
use Rattle.undo_listing.specs.Call.{UndoListMemory, outputs_of, lending_of, UndoListedIs, UndoListingIs}
use Rattle.undo_listing.specs.Stages.{CheckedIs}
use Rattle.undo_listing.proofs.AnswerLaws.{listed_as, buffer_enough}

-- ---- SPECIFICATION 2.4: after a 1, no buffer has changed.
abbrev short_answer : Listed PlainUndo.UndoAnswer
short_answer = unlisted (undo_refusal (Spec.refusal work_too_short 0 0 0))

module _ (D P : Bytes) (lent : Lending UndoLent) where
  buffer_short : lent.call.work < max_bytes → undo_answer D P lent ≡ short_answer
  unfolding undo_answer
  buffer_short h = rw (lt-leb max_bytes lent.call.work h)

  area_short : work_suffices lent.call.patch ≡ false → undo_answer D P lent ≡ short_answer
  unfolding undo_answer after_patch beside PlainUndo.after_patch
  area_short h = go (leb max_bytes lent.call.work) (answer_work_short D P (record { call = lent.call.patch; list = lent.list }) h)
    where
      go : (b : Bool) → answer D P (record { call = lent.call.patch; list = lent.list }) ≡ unlisted (Spec.refusal work_too_short 0 0 0)
          → (if b then after_patch lent.call.undo (answer D P (record { call = lent.call.patch; list = lent.list })) (undo_value (undo_operations D P))
          else short_answer) ≡ short_answer
      go true e = rw e
      go false e = refl

module _ {T : Texts} {m : UndoListMemory} {a : Answer} {r : UndoAnswer} (is : RefusalIs work_too_short 0 0 0 a) (told : r ≡ as_undo_answer (Err a)) where
  untouched : undo_suffices (undo_lent_of m.call) ≡ false → undo_answer T.document T.patch (lending_of m) ≡ short_answer → UndoListingIs T m m r
  unfolding wiped as_undo_answer
  untouched short e =
      record {
        listed =
            listed_as e
            (subst (UndoListedIs short_answer (outputs_of m) (outputs_of m)) (sym told)
            (record { answered = record { answered = answered-refusal is; undo_length = refl; undo_output = refl }; list = refl }));
        nodes-after = rw short;
        index_after = rw short;
        work_after_lem = rw short;
      }

  pub area_missing : work_suffices (lent_of m.call.patch) ≡ false → UndoListingIs T m m r
  unfolding undo_suffices
  area_missing h = untouched (rw h) (area_short T.document T.patch (lending_of m) h)

  pub buffer_missing : work_suffices (lent_of m.call.patch) ≡ true → length m.call.work < max_bytes → UndoListingIs T m m r
  unfolding undo_suffices
  buffer_missing h j = untouched (rw (h, lt-leb max_bytes (length m.call.work) j)) (buffer_short T.document T.patch (lending_of m) j)

-- ---- SPECIFICATION 2.4: after any other answer the work area is all zero; where a work buffer is longer than stated, the part beyond is unchanged.
undo_same : (D P : Bytes) (l l' : Lending UndoLent) → work_suffices l.call.patch ≡ work_suffices l'.call.patch
    → l.call.patch.output ≡ l'.call.patch.output → l.call.undo ≡ l'.call.undo → l.list ≡ l'.list → max_bytes ≤ l.call.work
    → max_bytes ≤ l'.call.work → undo_answer D P l ≡ undo_answer D P l'
undo_same D P l l' e out o list h i =
    buffer_enough D P l h ∙ ap (λ n. after_patch n (answer D P (record { call = l.call.patch; list = l.list })) (undo_value (undo_operations D P))) o
    ∙ ap (λ a. after_patch l'.call.undo a (undo_value (undo_operations D P)))
    (answer_same D P (record { call = l.call.patch; list = l.list }) (record { call = l'.call.patch; list = l'.list }) e out list)
    ∙ sym (buffer_enough D P l' i)

-- a memory by its parts
abbrev memory_of : Bytes → Bytes → List ℕ → List Row → List ℕ → Bytes → UndoListMemory
memory_of out undo list ns xs ws =
    record { call = record { patch = record { output = out; nodes = ns; index = xs }; undo = undo; work = ws }; list = list }

pub undo_listed : {T : Texts} {r : UndoAnswer} {out out' undo undo' : Bytes} {list list' : List ℕ} {ns ns' : List Row} {xs xs' : List ℕ} {ws ws' : Bytes}
    (done : Result Written Answer) → work_nodes ≤ length ns → work_entries ≤ length xs → max_bytes ≤ length ws
    → CheckedIs T (memory_of out undo list (take work_nodes ns) (take work_entries xs) (take max_bytes ws))
    (record { texts = record { document = out'; undo = undo' }; list = list' }) done → r ≡ as_undo_answer done
    → (rows : List Row) → length rows ≡ length (take work_nodes ns) → ns' ≡ filled no_node (rows ++ drop work_nodes ns) 0 work_nodes
    → (entries : List ℕ) → length entries ≡ length (take work_entries xs) → xs' ≡ filled 0 (entries ++ drop work_entries xs) 0 work_entries
    → (buffer : Bytes) → length buffer ≡ length (take max_bytes ws) → ws' ≡ filled 0 (buffer ++ drop max_bytes ws) 0 max_bytes
    → UndoListingIs T (memory_of out undo list ns xs ws) (memory_of out' undo' list' ns' xs' ws') r
unfolding undo_suffices
undo_listed {T} {out = out} {out'} {undo} {undo'} {list} {list'} {ns = ns} {xs = xs} {ws = ws}
    done long longer longest is told rows same nodes_are entries same_entries index_is buffer same-buffer work-is =
    let all : Memory = record { output = out; nodes = ns; index = xs } in
    let part : Memory = record { output = out; nodes = take work_nodes ns; index = take work_entries xs } in
    let h : work_nodes ≤ length (take work_nodes ns) = omega (arith, length-take-le work_nodes ns long) in
    let i : work_entries ≤ length (take work_entries xs) = omega (arith, length-take-le work_entries xs longer) in
    let j : length (take max_bytes ws) ≡ max_bytes = length-take-le max_bytes ws longest in
    let enough : work_suffices (lent_of all) ≡ true = work_suffices_lem (lent_of all) long longer in
    let part-enough : work_suffices (lent_of part) ≡ true = work_suffices_lem (lent_of part) h i in
    let suffices : (work_suffices (lent_of all) && leb max_bytes (length ws)) ≡ true = rw (enough, le-leb max_bytes (length ws) longest) in
    record {
      listed =
          listed_as (undo_same T.document T.patch _ _ (enough ∙ sym part-enough) refl refl refl longest (omega (arith, j)))
          (subst (UndoListedIs _ (record { texts = record { document = out; undo = undo }; list = list })
          (record { texts = record { document = out'; undo = undo' }; list = list' })) (sym told) (is h i j));
      nodes-after = nodes_are ∙ part-wiped work_nodes no_node ns rows long same ∙ ap (λ b. wiped b work_nodes no_node ns) (sym suffices);
      index_after = index_is ∙ part-wiped work_entries 0 xs entries longer same_entries ∙ ap (λ b. wiped b work_entries 0 xs) (sym suffices);
      work_after_lem = work-is ∙ part-wiped max_bytes 0 ws buffer longest same-buffer ∙ ap (λ b. wiped b max_bytes 0 ws) (sym suffices);
    }
