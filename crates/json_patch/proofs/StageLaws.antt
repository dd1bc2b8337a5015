-- Laws of the stages of the call, each for one way out of a stage.
use Rattle.std.specs.Prelude.{Result, Ok, Err, IsErrAnd}
use Prim.Native.Nat.{ℕ, ◌≤◌}
use native.Mathlib.Omega.{arith}
use mathlib.Core.Path.{◌≡◌, refl, sym, subst, ap, ◌∙◌}
use mathlib.Core.Bool.{Bool, true, false}
use mathlib.Core.List.{List, ◌++◌}
use lib.Dec.{leb}
use lib.ListN.{length, drop}
use borrow.Author.Tests.{leb-true, leb-false}
use Rattle.spec.specs.Refusal.{output_too_short}
use Rattle.spec.specs.Limits.{max_depth, max_bytes}
use Rattle.spec.specs.Fault.{number_of}
use Rattle.spec.specs.Bytes.{Bytes}
use Rattle.spec.specs.Value as Value
use Rattle.spec.specs.Operation as Operation
use Rattle.spec.specs.Operation.{limited}
use Rattle.spec.specs.Patch.{Run, finished, on_finish, shape, run}
use Rattle.spec.specs.Write.{write}
use Rattle.spec.specs.Answer as Spec
use Rattle.spec.specs.Answer.{Lent, work_suffices, fitting, answer_of, patched, on_patch, on_document, answer}
use Rattle.spec.specs.Proper.{Proper}
use Rattle.tape.specs.Layout.{document_row, patch_row}
use Rattle.tape.specs.Fields.{Row}
use Rattle.tape.specs.Lent.{Texts, Table}
use Rattle.walk.specs.Names.{Short}
use Rattle.shape.specs.Patch.{ShapeIs, right, wrong, PatchIs}
use Rattle.shape.specs.declared.patch.Misshapen.{Misshapen}
use Rattle.writer.specs.Writing.{FitsIs, WriteIs}
use Rattle.writer.proofs.CallerLaws.{fits_is, written_whole}
use Rattle.changes.specs.Site.{table}
use Rattle.changes.specs.Document.{Document}
use Rattle.operations.specs.Run.{RanTo, ran, halted, RunIs}
use Rattle.operations.specs.declared.answers.Stop.{Stop}
use Rattle.json_patch.specs.Stages.{as_answer, MisshapenIs, StoppedIs, PatchHeld, WriteOutIs, RunPatchIs}
use Rattle.json_patch.specs.Reads.{LengthsAre, TextsRead}
use Rattle.json_patch.specs.Call.{Answered, RefusalIs}
use Rattle.json_patch.specs.declared.texts.Unread.{Unread}
use Rattle.json_patch.specs.declared.answer.Answer.{Answer}
use Rattle.json_patch.proofs.AnswerLaws.{answered-refusal, answered-failure, answered-success, answered_as, answered-handed, fitting_short, fitting_whole}
use Rattle.json_patch.proofs.AnswerLaws.{answer-document_long, answer-patch_long, answer-read}
use Rattle.json_patch.proofs.ReadLaws.{long_by, unread_by, read_by}

-- ---- the document written
module _ {w : Table} {used : ℕ} {v : Value.Value} (d : Document w used v) where
  text_laid : {out out' : Bytes} {put : ℕ} → WriteIs w document_row max_depth out out' put → length (write v) ≤ length out
      → (put ≡ length (write v)) × (out' ≡ write v ++ drop (length (write v)) out)
  text_laid {out} {out'} {put} writes =
      subst (λ u. length (write u) ≤ length out → (put ≡ length (write u)) × (out' ≡ write u ++ drop (length (write u)) out)) d.means
      (λ room. written_whole d.held (rw d.means d.shallow) writes room)

  module _ (out : Bytes) {told : Bool} (fits : FitsIs w document_row max_depth (length out) told) where
    text_fits : told ≡ leb (length (write v)) (length out)
    text_fits = fits_is d.held (rw d.means d.shallow) (length out) fits ∙ ap (λ u. leb (length (write u)) (length out)) d.means

    -- the text does not fit
    pub text_refused : {r : Answer} → told ≡ false → RefusalIs output_too_short 0 0 0 r → Answered (fitting (length out) (write v)) out out r
    text_refused told-no is = answered_as (fitting_short _ _ (leb-false _ _ (sym text_fits ∙ told-no))) (answered-refusal is)

    -- it fits
    pub text_written : {out' : Bytes} {put : ℕ} → told ≡ true → WriteIs w document_row max_depth out out' put
        → Answered (fitting (length out) (write v)) out out' (as_answer (Ok put))
    unfolding as_answer
    text_written told-yes writes =
        let room : length (write v) ≤ length out = leb-true _ _ (sym text_fits ∙ told-yes) in
        let laid = text_laid writes room in
        answered_as (fitting_whole _ _ room) (answered-success (refl, refl, refl, refl, refl, laid.0) laid.1)

-- ---- the shape of the patch
pub shape_right : {o : Run (List Operation.Operation)} {s : Result (Unit {0}) Misshapen} {u : Unit {0}} → ShapeIs o s → s ≡ Ok u
    → ((os : List Operation.Operation) × (o ≡ finished os))
shape_right (right os) e = (os, refl)
shape_right (wrong m) e = absurd (let z : ◌≡◌ {A = ℕ} 0 1 = cc in omega arith)

module _ {w : Table} {s : Result (Unit {0}) Misshapen} (shaped : PatchIs w patch_row s) where
  shape-told : {p : Value.Value} → PatchHeld w p → ShapeIs (shape p) s
  shape-told held = subst (λ u. ShapeIs (shape u) s) held.means (shaped.held held.c held.kids held.held)

  pub patch_misshapen : {used : ℕ} {out : Bytes} {m : Misshapen} (r : Result ℕ Answer) → s ≡ Err m → IsErrAnd r (MisshapenIs m)
      → RunPatchIs w out out used r
  unfolding patched on_finish answer_of
  patch_misshapen {out = out} {m} r e is v p d held short = go (shape-told held) refl
    where
      go : {o : Run (List Operation.Operation)} {q : Result (Unit {0}) Misshapen} → ShapeIs o q → s ≡ q
          → Answered (answer_of (length out) (on_finish o (λ os. run limited 1 os v))) out out (as_answer r)
      go (right os) f = absurd (let z : ◌≡◌ {A = ℕ} 0 1 = cc in omega arith)
      go (wrong n) f = let same : m ≡ n = cc in rw (← same) (answered-handed r is (λ a h. answered-refusal h))

-- ---- the operations run
pub ran_told : {w : Table} {nodes' : List Row} {used : ℕ} {told : Result ℕ Stop} {v p : Value.Value} → RunIs w nodes' used told → Document w used v
    → PatchHeld w p → Short w.texts → (os : List Operation.Operation) → shape p ≡ finished os → RanTo w.texts nodes' (run limited 1 os v) told
ran_told {v = v} runs d held short os shaped =
    runs.held v d short held.c held.kids held.held held.inside (subst Proper (sym held.means) held.proper) os
    (ap shape held.means ∙ shaped)

module _ {w : Table} {s : Result (Unit {0}) Misshapen} {u : Unit {0}} (shaped : PatchIs w patch_row s) (e : s ≡ Ok u) {nodes' : List Row} {used : ℕ}
    {told : Result ℕ Stop} (runs : RunIs w nodes' used told) {out : Bytes} (r : Result ℕ Answer) where
  pub patch_stopped : {stop : Stop} → told ≡ Err stop → IsErrAnd r (StoppedIs stop) → RunPatchIs w out out used r
  unfolding patched on_finish answer_of
  patch_stopped {stop} t is v p d held short =
      let (os, right_shape) = shape_right (shape-told shaped held) e in
      rw right_shape (go (ran_told runs d held short os right_shape) refl)
    where
      go : {o : Run Value.Value} {q : Result ℕ Stop} → RanTo w.texts nodes' o q → told ≡ q → Answered (answer_of (length out) o) out out (as_answer r)
      go (ran is d) f = absurd (let z : ◌≡◌ {A = ℕ} 0 1 = cc in omega arith)
      go (halted {s = n} stops) f = let same : stop ≡ n = cc in rw (stops, ← same) (answered-handed r is (λ a h. answered-failure h))

  pub patch-done : {rows : ℕ} {out' : Bytes} → told ≡ Ok rows → WriteOutIs (table w.texts nodes') out out' r → RunPatchIs w out out' used r
  unfolding patched on_finish answer_of
  patch-done {out' = out'} t writes v p d held short =
      let (os, right_shape) = shape_right (shape-told shaped held) e in
      rw right_shape (go (ran_told runs d held short os right_shape) refl)
    where
      go : {o : Run Value.Value} {q : Result ℕ Stop} → RanTo w.texts nodes' o q → told ≡ q → Answered (answer_of (length out) o) out out' (as_answer r)
      go (ran {used = n} {v = u} is d) f = rw is (writes n u d)
      go (halted {s = n} stops) f = absurd (let z : ◌≡◌ {A = ℕ} 0 1 = cc in omega arith)

-- ---- the two texts read
module _ {T : Texts} (lent : Lent) (enough : work_suffices lent ≡ true) where
  pub lengths_refused : {s : Result (Unit {0}) Unread} {u : Unread} → LengthsAre T s → s ≡ Err u
      → answer T.document T.patch lent ≡ Spec.refusal (number_of u.fault.refusal) u.text 0 u.fault.place
  lengths_refused is t =
      long_by (λ n x place. answer T.document T.patch lent ≡ Spec.refusal n x 0 place) is t (answer-document_long _ _ _ enough)
      (answer-patch_long _ _ _ enough)

  module _ (short : (length T.document ≤ max_bytes) × (length T.patch ≤ max_bytes)) {nodes : List Row} {s : Result ℕ Unread}
      (reads : TextsRead T nodes s) where
    pub texts_refused : {u : Unread} → s ≡ Err u → answer T.document T.patch lent ≡ Spec.refusal (number_of u.fault.refusal) u.text 0 u.fault.place
    unfolding on_document on_patch
    texts_refused t =
        unread_by (λ n x place. answer T.document T.patch lent ≡ Spec.refusal n x 0 place) reads t
        (λ n place h. answer-read _ _ _ enough short.0 short.1 ∙ rw h)
        (λ n place v h i. answer-read _ _ _ enough short.0 short.1 ∙ rw (h, i))

    pub texts_applied : {used : ℕ} {out out' : Bytes} (r : Result ℕ Answer) → s ≡ Ok used → lent.output ≡ length out
        → RunPatchIs (table T nodes) out out' used r → Answered (answer T.document T.patch lent) out out' (as_answer r)
    unfolding on_document on_patch
    texts_applied r t room runs =
        read_by reads t λ v p h i d held short-texts.
        answered_as (answer-read _ _ _ enough short.0 short.1) (rw (room, h, i) (runs v p d held short-texts))
