-- Laws of the call: what is lent in part, and cleared.
use Rattle.std.specs.Prelude.{if◌then◌else◌, Result, Err}
use Prim.Native.Nat.{ℕ, ◌≤◌, ◌<◌}
use native.Mathlib.Omega.{arith}
use mathlib.Core.Path.{◌≡◌, refl, sym, ap, subst, ◌∙◌}
use mathlib.Core.Bool.{Bool, true, false, ◌&&◌}
use mathlib.Core.List.{List, ◌++◌}
use lib.Dec.{leb}
use lib.ListN.{length, take, drop}
use lib.Seq.{length-take-le}
use borrow.Author.Tests.{le-leb, lt-leb}
use Rattle.spec.specs.Refusal.{work_too_short}
use Rattle.spec.specs.Limits.{max_bytes, work_nodes, work_entries}
use Rattle.spec.specs.Bytes.{Bytes}
use Rattle.spec.specs.Read.{read}
use Rattle.spec.specs.Answer as Plain
use Rattle.spec.specs.Answer.{work_suffices, on_document, answer}
use Rattle.tape.specs.Columns.{filled}
use Rattle.tape.specs.Fields.{Row, no_node}
use Rattle.tape.specs.Lent.{Texts}
use Rattle.json_patch.specs.Call.{Memory, RefusalIs, wiped, lent_of}
use Rattle.json_patch.specs.declared.answer.Answer.{Answer}
use Rattle.json_patch.proofs.AnswerLaws.{answered-refusal, work_suffices_lem, answer_work_short, answer-read, answer_same}
use Rattle.json_patch.proofs.CallLaws.{part-wiped}
use Rattle.reversal.specs.UndoValue.{undo_value}
use Rattle.reversal.specs.UndoAnswer.{UndoLent, undo_refusal, undo_read, undo_operations, after_patch, undo_answer}
use Rattle.undo.specs.Call.{UndoMemory, undo_lent_of, undo_suffices, outputs_of, UndoAnswered, as_undo_answer, UndoIs}
use Rattle.undo.specs.Stages.{CheckedIs}
use Rattle.undo.specs.declared.answer.UndoAnswer.{UndoAnswer}
use Rattle.undo.specs.declared.answer.Written.{Written}
use Rattle.undo.proofs.AnswerLaws.{undo_as}

-- ---- the buffer
module _ (D P : Bytes) (lent : UndoLent) where
  pub buffer_enough : max_bytes ≤ lent.work
      → undo_answer D P lent ≡ after_patch lent.undo (answer D P lent.patch) (undo_value (undo_operations D P))
  unfolding undo_answer
  buffer_enough h = rw (le-leb max_bytes lent.work h)

  -- both texts short enough to be read
  pub read_undo : work_suffices lent.patch ≡ true → max_bytes ≤ lent.work → length D ≤ max_bytes → length P ≤ max_bytes
      → undo_answer D P lent ≡ after_patch lent.undo (on_document lent.patch.output (read D) P) (undo_value (undo_read (read D) (read P)))
  unfolding undo_operations
  read_undo enough h i j =
      buffer_enough h ∙ ap (λ a. after_patch lent.undo a (undo_value (undo_operations D P))) (answer-read D P lent.patch enough i j)

  buffer_short : lent.work < max_bytes → undo_answer D P lent ≡ undo_refusal (Plain.refusal work_too_short 0 0 0)
  unfolding undo_answer
  buffer_short h = rw (lt-leb max_bytes lent.work h)

  area_short : work_suffices lent.patch ≡ false → undo_answer D P lent ≡ undo_refusal (Plain.refusal work_too_short 0 0 0)
  unfolding undo_answer after_patch
  area_short h = go (leb max_bytes lent.work) (answer_work_short D P lent.patch h)
    where
      go : (b : Bool) → answer D P lent.patch ≡ Plain.refusal work_too_short 0 0 0
          → (if b then after_patch lent.undo (answer D P lent.patch) (undo_value (undo_operations D P))
          else undo_refusal (Plain.refusal work_too_short 0 0 0))
          ≡ undo_refusal (Plain.refusal work_too_short 0 0 0)
      go true e = rw e
      go false e = refl

-- ---- SPECIFICATION 2.4: after a 1, no buffer has changed.
module _ {T : Texts} {m : UndoMemory} {a : Answer} {r : UndoAnswer} (is : RefusalIs work_too_short 0 0 0 a) (told : r ≡ as_undo_answer (Err a)) where
  untouched : undo_suffices (undo_lent_of m) ≡ false → undo_answer T.document T.patch (undo_lent_of m) ≡ undo_refusal (Plain.refusal work_too_short 0 0 0)
      → UndoIs T m m r
  unfolding wiped as_undo_answer
  untouched short e =
      record {
        answered =
            undo_as e
            (subst (UndoAnswered (undo_refusal (Plain.refusal work_too_short 0 0 0)) (outputs_of m) (outputs_of m)) (sym told)
            (record { answered = answered-refusal is; undo_length = refl; undo_output = refl }));
        nodes-after = rw short;
        index_after = rw short;
        work_after_lem = rw short;
      }

  pub area_missing : work_suffices (lent_of m.patch) ≡ false → UndoIs T m m r
  unfolding undo_suffices
  area_missing h = untouched (rw h) (area_short T.document T.patch (undo_lent_of m) h)

  pub buffer_missing : work_suffices (lent_of m.patch) ≡ true → length m.work < max_bytes → UndoIs T m m r
  unfolding undo_suffices
  buffer_missing h j = untouched (rw (h, lt-leb max_bytes (length m.work) j)) (buffer_short T.document T.patch (undo_lent_of m) j)

-- ---- SPECIFICATION 2.4: after any other answer the work area is all zero; where a work buffer is longer than stated, the part beyond is unchanged.
undo_same : (D P : Bytes) (l l' : UndoLent) → answer D P l.patch ≡ answer D P l'.patch → l.undo ≡ l'.undo → max_bytes ≤ l.work → max_bytes ≤ l'.work
    → undo_answer D P l ≡ undo_answer D P l'
undo_same D P l l' e o h i =
    buffer_enough D P l h ∙ ap (λ n. after_patch n (answer D P l.patch) (undo_value (undo_operations D P))) o
    ∙ ap (λ a. after_patch l'.undo a (undo_value (undo_operations D P))) e ∙ sym (buffer_enough D P l' i)

pub undo_done : {T : Texts} {r : UndoAnswer} {out out' : Bytes} {undo undo' : Bytes} {ns ns' : List Row} {xs xs' : List ℕ} {ws ws' : Bytes}
    (done : Result Written Answer) → work_nodes ≤ length ns → work_entries ≤ length xs → max_bytes ≤ length ws
    → CheckedIs T (record {
      patch = record { output = out; nodes = take work_nodes ns; index = take work_entries xs };
      undo = undo;
      work = take max_bytes ws;
    }) (record { document = out'; undo = undo' }) done → r ≡ as_undo_answer done
    → (rows : List Row) → length rows ≡ length (take work_nodes ns) → ns' ≡ filled no_node (rows ++ drop work_nodes ns) 0 work_nodes
    → (entries : List ℕ) → length entries ≡ length (take work_entries xs) → xs' ≡ filled 0 (entries ++ drop work_entries xs) 0 work_entries
    → (buffer : Bytes) → length buffer ≡ length (take max_bytes ws) → ws' ≡ filled 0 (buffer ++ drop max_bytes ws) 0 max_bytes
    → UndoIs T (record { patch = record { output = out; nodes = ns; index = xs }; undo = undo; work = ws })
    (record { patch = record { output = out'; nodes = ns'; index = xs' }; undo = undo'; work = ws' }) r
unfolding undo_suffices
undo_done {T} {out = out} {out' = out'} {undo = undo} {undo' = undo'} {ns = ns} {xs = xs} {ws = ws}
    done long longer longest is told rows same nodes_are entries same_entries index_is buffer same-buffer work-is =
    let all : Memory = record { output = out; nodes = ns; index = xs } in
    let part : Memory = record { output = out; nodes = take work_nodes ns; index = take work_entries xs } in
    let h : work_nodes ≤ length (take work_nodes ns) = omega (arith, length-take-le work_nodes ns long) in
    let i : work_entries ≤ length (take work_entries xs) = omega (arith, length-take-le work_entries xs longer) in
    let j : length (take max_bytes ws) ≡ max_bytes = length-take-le max_bytes ws longest in
    let enough : work_suffices (lent_of all) ≡ true = work_suffices_lem (lent_of all) long longer in
    let part-enough : work_suffices (lent_of part) ≡ true = work_suffices_lem (lent_of part) h i in
    let plain = answer_same T.document T.patch (lent_of all) (lent_of part) (enough ∙ sym part-enough) refl in
    let suffices : (work_suffices (lent_of all) && leb max_bytes (length ws)) ≡ true = rw (enough, le-leb max_bytes (length ws) longest) in
    record {
      answered =
          undo_as (undo_same T.document T.patch _ _ plain refl longest (omega (arith, j)))
          (subst (UndoAnswered _ (record { document = out; undo = undo }) (record { document = out'; undo = undo' })) (sym told) (is h i j));
      nodes-after = nodes_are ∙ part-wiped work_nodes no_node ns rows long same ∙ ap (λ b. wiped b work_nodes no_node ns) (sym suffices);
      index_after = index_is ∙ part-wiped work_entries 0 xs entries longer same_entries ∙ ap (λ b. wiped b work_entries 0 xs) (sym suffices);
      work_after_lem = work-is ∙ part-wiped max_bytes 0 ws buffer longest same-buffer ∙ ap (λ b. wiped b max_bytes 0 ws) (sym suffices);
    }
