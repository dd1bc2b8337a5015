-- Laws of the stages of the call, each for one way out of a stage.
use Rattle.std.specs.Prelude.{Result, Ok, Err, IsErrAnd}
use Prim.Native.Nat.{ℕ, ◌≤◌, ◌<◌}
use native.Mathlib.Omega.{arith}
use mathlib.Core.Path.{◌≡◌, refl, sym, subst, ap, ◌∙◌}
use mathlib.Core.Bool.{Bool, true, false}
use mathlib.Core.List.{List, [], ◌++◌, append-nil}
use lib.Dec.{leb}
use lib.ListN.{length, drop}
use borrow.Author.Tests.{leb-true}
use Rattle.spec.specs.Refusal.{output_too_short}
use Rattle.spec.specs.Limits.{max_bytes, max_depth}
use Rattle.spec.specs.Fault.{number_of}
use Rattle.spec.specs.declared.refusal.Refusal.{Refusal}
use Rattle.spec.specs.Bytes.{Bytes}
use Rattle.spec.specs.Value as Value
use Rattle.spec.specs.Write.{write}
use Rattle.spec.specs.Read.{read}
use Rattle.spec.specs.Operation.{Operation, limited}
use Rattle.spec.specs.Patch.{Run, finished, on_finish, shape, run}
use Rattle.spec.specs.Answer as Plain
use Rattle.spec.specs.Answer.{fitting, answer_of, patched, on_patch, on_document, answer}
use Rattle.spec.specs.Proper.{Proper}
use Rattle.tape.specs.Layout.{document_row, patch_row}
use Rattle.tape.specs.Fields.{Row}
use Rattle.tape.specs.Lent.{Texts, Table}
use Rattle.walk.specs.Names.{Short}
use Rattle.shape.specs.Patch.{Shape, ShapeIs, right, wrong, PatchIs}
use Rattle.shape.specs.declared.patch.Misshapen.{Misshapen}
use Rattle.writer.specs.Writing.{FitsIs, WriteIs}
use Rattle.writer.proofs.CallerLaws.{fits_is, written_whole}
use Rattle.changes.specs.Site.{table}
use Rattle.changes.specs.Document.{Document}
use Rattle.operations.specs.Run.{RanTo, ran, halted}
use Rattle.operations.specs.declared.answers.Stop.{Stop}
use Rattle.json_patch.specs.Stages.{as_answer, MisshapenIs, StoppedIs, PatchHeld}
use Rattle.json_patch.specs.Reads.{TextsRead}
use Rattle.json_patch.specs.declared.texts.Unread.{Unread}
use Rattle.json_patch.specs.Call.{RefusalIs}
use Rattle.json_patch.specs.declared.answer.Answer.{Answer}
use Rattle.json_patch.proofs.AnswerLaws.{answered-refusal, answered-failure, answered-success, fitting_whole}
use Rattle.json_patch.proofs.StageLaws.{text_refused, shape_right}
use Rattle.json_patch.proofs.ReadLaws.{read_by}
use Rattle.reversal.specs.UndoValue.{undo_value}
use Rattle.reversal.specs.UndoText.{undo_text}
use Rattle.reversal.specs.Undo.{undo_run}
use Rattle.reversal.specs.UndoAnswer.{undo_refusal, undo_fitting, undo_written, undo_shaped, undo_read, after_patch}
use Rattle.reversal.proofs.UndoTextLaws.{undo_text_lem}
use Rattle.undo_log.specs.Log.{Noted, number_for, VerdictIs, LengthIs, CopyOutIs, BeginIs}
use Rattle.undo_log.specs.declared.log.Log.{Log}
use Rattle.undo.specs.Step.{rows_of}
use Rattle.undo.specs.Run.{LoggedTo, LoggedIs}
use Rattle.undo.specs.Call.{Outputs, UndoAnswered, as_undo_answer}
use Rattle.undo.specs.Stages.{WriteBothIs, RunPatchIs}
use Rattle.undo.specs.declared.logged.Logged.{Logged}
use Rattle.undo.specs.declared.answer.Written.{Written}
use Rattle.undo.proofs.AnswerLaws.{undo_as, not_done, patch_refused, undo-handed}
use Rattle.undo.proofs.AnswerLaws.{undo_unreadable, undo_readable, undo_short, undo_fits, after-success}

-- ---- both texts written
module _ {w : Table} (log : Log) (work : Bytes) (out : Outputs) {told : Bool} (fits : FitsIs w document_row max_depth (length out.document) told) where
  -- the document does not fit
  pub both_short : told ≡ false → {a : Answer} → RefusalIs output_too_short 0 0 0 a → WriteBothIs w out out work log (Err a)
  unfolding number_of
  both_short short is used v d os noted =
      patch_refused (length out.undo) (undo_value os) (text_refused d out.document fits short is) Refusal.OutputTooShort is.0

  module _ (yes-fits : told ≡ true) where
    document-room : {used : ℕ} {v : Value.Value} → Document w used v → length (write v) ≤ length out.document
    document-room {v = v} d =
        let is : told ≡ leb (length (write v)) (length out.document) =
        fits_is d.held (rw d.means d.shallow) (length out.document) fits ∙ ap (λ u. leb (length (write u)) (length out.document)) d.means in
        leb-true _ _ (sym is ∙ yes-fits)

    written_as : {used : ℕ} {v : Value.Value} → Document w used v → (u : Value.Value)
        → after_patch (length out.undo) (fitting (length out.document) (write v)) u ≡ undo_written (length out.undo) (write v) u
    written_as {v = v} d u =
        ap (λ a. after_patch (length out.undo) a u) (fitting_whole (length out.document) (write v) (document-room d))
        ∙ after-success (length out.undo) (write v) u

    refused_undo : {a : Answer} {number text : ℕ} → RefusalIs number text 0 0 a
        → UndoAnswered (undo_refusal (Plain.refusal number text 0 0)) out out (as_undo_answer (Err a))
    unfolding as_undo_answer
    refused_undo is = record { answered = answered-refusal is; undo_length = refl; undo_output = refl }

    -- it could not be read back
    pub both_unreadable : {judged : Result (Unit {0}) Refusal} {e : Refusal} → VerdictIs log judged → judged ≡ Err e → {a : Answer}
        → RefusalIs (number_of e) 2 0 0 a → WriteBothIs w out out work log (Err a)
    both_unreadable {e = e} verdict bad is used v d os noted =
        undo_as
        (written_as d (undo_value os)
        ∙ undo_unreadable _ (write v) (undo_value os) (number_of e) (sym (verdict work os noted) ∙ ap number_for bad) (not_done e))
        (refused_undo is)

    module _ {judged : Result (Unit {0}) Refusal} {u : Unit {0}} (verdict : VerdictIs log judged) (good : judged ≡ Ok u) {count : ℕ}
        (length_is : LengthIs log count) where
      readable : {used : ℕ} {v : Value.Value} → Document w used v → (os : List Operation) → Noted log work os
          → (after_patch (length out.undo) (fitting (length out.document) (write v)) (undo_value os)
          ≡ undo_fitting (length out.undo) (write v) (undo_text os)) × (length (undo_text os) ≤ max_bytes) × (count ≡ length (undo_text os))
      readable {v = v} d os noted =
          let (is, few) = undo_readable (length out.undo) (write v) (undo_value os) (sym (verdict work os noted) ∙ ap number_for good) in
          let short : length (undo_text os) ≤ max_bytes = rw (← undo_text_lem os) few in
          (written_as d (undo_value os) ∙ is ∙ ap (undo_fitting (length out.undo) (write v)) (undo_text_lem os), short, length_is work os noted short)

      -- the undo does not fit
      pub both_narrow : length out.undo < count → {a : Answer} → RefusalIs output_too_short 0 0 0 a → WriteBothIs w out out work log (Err a)
      both_narrow narrow is used v d os noted =
          let (whole, short, count_is) = readable d os noted in
          undo_as (whole ∙ undo_short (length out.undo) (write v) (undo_value os) (undo_text os) (omega arith)) (refused_undo is)

      -- both are written
      pub both-written : count ≤ length out.undo → {document : Bytes} {put : ℕ} → WriteIs w document_row max_depth out.document document put
          → {undo : Bytes} → CopyOutIs log work out.undo undo
          → WriteBothIs w out (record { document = document; undo = undo }) work log (Ok (record { document = put; undo = count }))
      unfolding as_undo_answer as_answer
      both-written room {document} {put} writes {undo} copies used v d os noted =
          let (whole, short, count_is) = readable d os noted in
          let (put_is, text_is) = text_laid d writes (document-room d) in
          undo_as (whole ∙ undo_fits (length out.undo) (write v) (undo_value os) (undo_text os) (omega arith))
          (record {
            answered = answered-success (refl, refl, refl, refl, refl, put_is) text_is;
            undo_length = count_is;
            undo_output = copies os noted short (omega arith);
          })
        where
          text_laid : {used : ℕ} {v : Value.Value} → Document w used v → WriteIs w document_row max_depth out.document document put
              → length (write v) ≤ length out.document
              → (put ≡ length (write v)) × (document ≡ write v ++ drop (length (write v)) out.document)
          text_laid d writes =
              subst
              (λ u. length (write u) ≤ length out.document → (put ≡ length (write u)) × (document ≡ write u ++ drop (length (write u)) out.document))
              d.means (λ fits_in. written_whole d.held (rw d.means d.shallow) writes fits_in)

-- ---- the shape of the patch, and its operations
pub shape-told : {w : Table} {s : Shape} → PatchIs w patch_row s → {p : Value.Value} → PatchHeld w p → ShapeIs (shape p) s
shape-told {s = s} shaped held = subst (λ u. ShapeIs (shape u) s) held.means (shaped.held held.c held.kids held.held)

module _ {w : Table} (work : Bytes) {used : ℕ} {begin : Log} {work₁ : Bytes} (begins : BeginIs work work₁ begin) {nodes' : List Row} {work' : Bytes}
    {logged : Result Logged Stop} (runs : LoggedIs w nodes' work₁ work' used begin logged) where
  pub run-told : {v p : Value.Value} → Document w used v → PatchHeld w p → Short w.texts → length work ≡ max_bytes → (os : List Operation)
      → shape p ≡ finished os → LoggedTo w.texts nodes' (run limited 1 os v) (undo_run os v) work' logged
  run-told {v} {p} d held short long os shaped-as =
      subst (λ us. LoggedTo w.texts nodes' (run limited 1 os v) us work' logged) (append-nil (undo_run os v))
      (runs.held v d short held.c held.kids held.held held.inside (subst Proper (sym held.means) held.proper) os
      (ap shape held.means ∙ shaped-as) [] (begins long))

module _ {w : Table} {s : Shape} (shaped : PatchIs w patch_row s) (out : Outputs) (work : Bytes) {used : ℕ} (r : Result Written Answer) where
  pub run_misshapen : {m : Misshapen} → s ≡ Err m → IsErrAnd r (MisshapenIs m) → RunPatchIs w out out work used r
  unfolding patched on_finish answer_of undo_shaped
  run_misshapen {m} e is v p d held short long = go (shape-told shaped held) e
    where
      go : {o : Run (List Operation)} {q : Shape} → ShapeIs o q → q ≡ Err m
          → UndoAnswered (after_patch (length out.undo) (answer_of (length out.document) (on_finish o (λ os. run limited 1 os v)))
          (undo_value (undo_shaped v o))) out out (as_undo_answer r)
      go (right os) f = absurd (let z : ◌≡◌ {A = ℕ} 0 1 = cc in omega arith)
      go (wrong n) f =
          let same : m ≡ n = cc in
          rw (← same) (undo-handed r is λ a h. patch_refused (length out.undo) (undo_value []) (answered-refusal h) m.refusal h.0)

  module _ {u : Unit {0}} (e : s ≡ Ok u) {begin : Log} {work₁ : Bytes} (begins : BeginIs work work₁ begin) {nodes' : List Row} {work' : Bytes}
      {logged : Result Logged Stop} (runs : LoggedIs w nodes' work₁ work' used begin logged) where
    pub run_stopped : {stop : Stop} → logged ≡ Err stop → IsErrAnd r (StoppedIs stop) → RunPatchIs w out out work used r
    unfolding patched on_finish answer_of undo_shaped rows_of
    run_stopped {stop} t is v p d held short long =
        let (os, right_shape) = shape_right (shape-told shaped held) e in
        rw right_shape (go (run-told work begins runs d held short long os right_shape).ran (ap rows_of t) (undo_run os v))
      where
        go : {o : Run Value.Value} {q : Result ℕ Stop} → RanTo w.texts nodes' o q → q ≡ Err stop → (us : List Operation)
            → UndoAnswered (after_patch (length out.undo) (answer_of (length out.document) o) (undo_value us)) out out (as_undo_answer r)
        go (ran f d') h us = absurd (let z : ◌≡◌ {A = ℕ} 0 1 = cc in omega arith)
        go (halted {s = n} f) h us =
            let same : stop ≡ n = cc in
            rw (f, ← same) (undo-handed r is λ a h. patch_refused (length out.undo) (undo_value us) (answered-failure h) stop.refusal h.0)

    pub run-done : {done : Logged} → logged ≡ Ok done → {out' : Outputs} → WriteBothIs (table w.texts nodes') out out' work' done.log r
        → RunPatchIs w out out' work used r
    unfolding patched on_finish answer_of undo_shaped rows_of
    run-done {done} t {out'} writes v p d held short long =
        let (os, right_shape) = shape_right (shape-told shaped held) e in
        let whole = run-told work begins runs d held short long os right_shape in
        rw right_shape (go (run limited 1 os v) whole.ran (ap rows_of t) (undo_run os v) (λ u f. whole.noted u f done t))
      where
        go : (o : Run Value.Value) {q : Result ℕ Stop} → RanTo w.texts nodes' o q → q ≡ Ok done.rows → (us : List Operation)
            → ((u : Value.Value) → o ≡ finished u → Noted done.log work' us)
            → UndoAnswered (after_patch (length out.undo) (answer_of (length out.document) o) (undo_value us)) out out' (as_undo_answer r)
        go o (ran {used = n} {v = u} f d') h us noted = rw f (writes n u d' us (noted u f))
        go o (halted f) h us noted = absurd (let z : ◌≡◌ {A = ℕ} 0 1 = cc in omega arith)

-- ---- the two texts read
pub texts_run : {T : Texts} {nodes : List Row} {s : Result ℕ Unread} {used : ℕ} → TextsRead T nodes s → s ≡ Ok used → (out : Outputs)
    (r : Result Written Answer) {out' : Outputs} (work : Bytes) → length work ≡ max_bytes → RunPatchIs (table T nodes) out out' work used r
    → UndoAnswered (after_patch (length out.undo) (on_document (length out.document) (read T.document) T.patch)
    (undo_value (undo_read (read T.document) (read T.patch)))) out out' (as_undo_answer r)
unfolding on_document on_patch undo_read
texts_run reads t out r work room runs = read_by reads t λ v p h i d held short. rw (h, i) (runs v p d held short room)
