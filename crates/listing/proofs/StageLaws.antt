-- Laws of the stages of a call that lists origins, each for one way out of a stage.
use Rattle.std.specs.Prelude.{Result, Ok, Err, IsErrAnd}
use Rattle.std.proofs.lemmas.Result.{err_from_is_err_and}
use Prim.Native.Nat.{ℕ, ◌≤◌, ◌<◌}
use native.Mathlib.Omega.{arith}
use mathlib.Core.Path.{◌≡◌, refl, sym, subst, ap, ◌∙◌}
use mathlib.Core.Bool.{Bool, true, false}
use mathlib.Core.List.{List, ◌++◌}
use lib.Dec.{leb}
use lib.ListN.{length, take, drop}
use borrow.Author.Tests.{leb-true, le-leb, lt-leb, le-ltb, lt-ltb}
use Rattle.spec.specs.Refusal.{work_too_short, output_too_short, input_too_long}
use Rattle.spec.specs.Fault.{number_of}
use Rattle.spec.specs.Limits.{max_depth, max_bytes}
use Rattle.spec.specs.Outcome.{ok, refused}
use Rattle.spec.specs.Bytes.{Bytes}
use Rattle.spec.specs.Value as Plain
use Rattle.spec.specs.Operation as Operation
use Rattle.spec.specs.Patch.{Run, finished, on_finish, shape}
use Rattle.spec.specs.Write.{write}
use Rattle.spec.specs.Read.{read}
use Rattle.spec.specs.Answer as Spec
use Rattle.spec.specs.Answer.{Lent, work_suffices}
use Rattle.spec.specs.Proper.{Proper}
use Rattle.tape.specs.Layout.{document_row, patch_row}
use Rattle.tape.specs.Fields.{Row}
use Rattle.tape.specs.Lent.{Texts, Table}
use Rattle.walk.specs.Names.{Short}
use Rattle.shape.specs.Patch.{Shape, ShapeIs, right, wrong, PatchIs}
use Rattle.shape.specs.declared.patch.Misshapen.{Misshapen}
use Rattle.writer.specs.Writing.{FitsIs, WriteIs}
use Rattle.writer.proofs.CallerLaws.{fits_is, written_whole}
use Rattle.origin.specs.Value as Value
use Rattle.origin.specs.Value.{forget, painted, origins}
use Rattle.origin.specs.Operation.{limited}
use Rattle.origin.specs.Patch.{run}
use Rattle.origin.specs.Answer.{Listed, unlisted, Lending, fitting, answer_of, applied, on_patch, on_document, answer}
use Rattle.changes.specs.Site.{table}
use Rattle.changes.specs.Document.{Document, Bearing}
use Rattle.operations.specs.Run.{RanBearing, ran, halted, RunIs}
use Rattle.operations.proofs.BearingLaws.{numbered-run}
use Rattle.operations.specs.declared.answers.Stop.{Stop}
use Rattle.json_patch.specs.Stages.{as_answer, MisshapenIs, StoppedIs, PatchHeld}
use Rattle.json_patch.specs.Reads.{LengthsAre, TextsRead}
use Rattle.json_patch.specs.declared.texts.Unread.{Unread}
use Rattle.json_patch.specs.Call.{RefusalIs}
use Rattle.json_patch.specs.declared.answer.Answer.{Answer}
use Rattle.json_patch.proofs.ReadLaws.{long_by, unread_by}
use Rattle.json_patch.proofs.StageLaws.{shape_right}
use Rattle.json_patch.proofs.AnswerLaws.{answered-refusal, answered-failure, answered-success}
use Rattle.listing.specs.Lists.{entries}
use Rattle.listing.specs.Stamps.{StampTextsIs}
use Rattle.listing.specs.Call.{Outputs, ListedIs}
use Rattle.listing.specs.Stages.{WriteListedIs, RunListedIs, RunPatchIs}
use Rattle.listing.proofs.ListLaws.{rows-listed, listed_all}

-- ---- a refusal lists nothing
pub listed-refusal : {number text op place : ℕ} {o : Outputs} {r : Answer} → RefusalIs number text op place r
    → ListedIs (unlisted (Spec.refusal number text op place)) o o r
listed-refusal is = record { answered = answered-refusal is; list = refl }

-- what the exit of a `?` answers is the refusal that it was given, as the call's
pub listed-handed : {a : Listed Spec.Answer} {o o' : Outputs} {P : Answer → Type 0} (done : Result ℕ Answer) → IsErrAnd done P
    → ((r : Answer) → P r → ListedIs a o o' r) → ListedIs a o o' (as_answer done)
unfolding as_answer
listed-handed {a} {o} {o'} done is h =
    let p = err_from_is_err_and done is in subst (λ q. ListedIs a o o' (as_answer q)) (sym p.1) (h p.0 p.2)

pub listed_as : {a b : Listed Spec.Answer} {o o' : Outputs} {r : Answer} → a ≡ b → ListedIs b o o' r → ListedIs a o o' r
listed_as {o = o} {o'} {r} e h = subst (λ a. ListedIs a o o' r) (sym e) h

-- ---- the document written and listed
module _ {w : Table} {used : ℕ} {v : Value.Value} (b : Bearing w used v) (o : Outputs) {told : Bool}
    (fits : FitsIs w document_row max_depth (length o.output) told) where
  abbrev d : Document w used (forget v)
  d = b.document

  text_fits : told ≡ leb (length (write (forget v))) (length o.output)
  text_fits =
      fits_is d.held (rw d.means d.shallow) (length o.output) fits ∙ ap (λ u. leb (length (write u)) (length o.output)) d.means

  -- the text does not fit
  pub text_short : {r : Answer} → told ≡ false → RefusalIs output_too_short 0 0 0 r
      → ListedIs (fitting (length o.output) (length o.list) v) o o r
  unfolding fitting
  text_short told-no is = rw (sym text_fits ∙ told-no) (listed-refusal is)

  module _ (fit : told ≡ true) where
    -- the list does not
    pub list_short : {r : Answer} → length o.list < used → RefusalIs output_too_short 0 0 0 r
        → ListedIs (fitting (length o.output) (length o.list) v) o o r
    unfolding fitting
    list_short short is =
        let less : length o.list < length (origins v) = omega (arith, rows-listed b) in
        rw (sym text_fits ∙ fit, lt-leb (length (origins v)) (length o.list) less) (listed-refusal is)

    text_laid : {out' : Bytes} {put : ℕ} → WriteIs w document_row max_depth o.output out' put
        → (put ≡ length (write (forget v))) × (out' ≡ write (forget v) ++ drop (length (write (forget v))) o.output)
    text_laid {out'} {put} writes =
        subst (λ u. length (write u) ≤ length o.output → (put ≡ length (write u)) × (out' ≡ write u ++ drop (length (write u)) o.output)) d.means
        (λ room. written_whole d.held (rw d.means d.shallow) writes room) (leb-true _ _ (sym text_fits ∙ fit))

    -- both do
    pub both-written : {o' : Outputs} {put : ℕ} → used ≤ length o.list → WriteIs w document_row max_depth o.output o'.output put
        → o'.list ≡ entries (take used w.nodes) o.list → ListedIs (fitting (length o.output) (length o.list) v) o o' (as_answer (Ok put))
    unfolding fitting as_answer
    both-written room writes lists =
        let laid = text_laid writes in
        let enough : length (origins v) ≤ length o.list = omega (arith, rows-listed b) in
        rw (sym text_fits ∙ fit, le-leb (length (origins v)) (length o.list) enough)
        (record { answered = answered-success (refl, refl, refl, refl, refl, laid.0) laid.1; list = lists ∙ listed_all b o.list room })

-- ---- the operations run, on nodes that bear their origins
module _ {w : Table} {ns nodes' : List Row} {used : ℕ} {told : Result ℕ Stop} (stamps : StampTextsIs w.nodes ns used)
    (runs : RunIs (table w.texts ns) nodes' used told) where
  pub ran_listed : {v p : Plain.Value} → Document w used v → PatchHeld w p → Short w.texts → (os : List Operation.Operation) → shape p ≡ finished os
      → RanBearing w.texts nodes' (run limited 1 os (painted 0 v)) told
  ran_listed {v} {p} document held short os shaped =
      let s = stamps w.texts v p document held in
      let h = s.patch.patch in
      subst (λ q. RanBearing w.texts nodes' q told) (numbered-run (s.patch.numbers os shaped) (painted 0 v))
      (runs.bearing (painted 0 v) s.document short h.c h.kids h.held h.inside (subst Proper (sym h.means) h.proper) os
      (ap shape h.means ∙ shaped))

  module _ {o : Outputs} (r : Result ℕ Answer) where
    pub listed_stopped : {stop : Stop} → told ≡ Err stop → IsErrAnd r (StoppedIs stop) → RunListedIs w o o used r
    unfolding answer_of
    listed_stopped {stop} t is v p document held short os shaped = go (ran_listed document held short os shaped) refl
      where
        go : {q : Run Value.Value} {s : Result ℕ Stop} → RanBearing w.texts nodes' q s → told ≡ s
            → ListedIs (answer_of (length o.output) (length o.list) q) o o (as_answer r)
        go (ran is b) f = absurd (let z : ◌≡◌ {A = ℕ} 0 1 = cc in omega arith)
        go (halted {s = n} stops) f =
            let same : stop ≡ n = cc in rw (stops, ← same) (listed-handed r is (λ a h. record { answered = answered-failure h; list = refl }))

    pub listed-done : {rows : ℕ} {o' : Outputs} → told ≡ Ok rows → WriteListedIs (table w.texts nodes') o o' rows r → RunListedIs w o o' used r
    unfolding answer_of
    listed-done {rows} {o'} t writes v p document held short os shaped = go (ran_listed document held short os shaped) refl
      where
        go : {q : Run Value.Value} {s : Result ℕ Stop} → RanBearing w.texts nodes' q s → told ≡ s
            → ListedIs (answer_of (length o.output) (length o.list) q) o o' (as_answer r)
        go (ran {used = n} {v = u} is b) f =
            let same : n ≡ rows = cc in rw is (writes u (subst (λ m. Bearing (table w.texts nodes') m u) same b))
        go (halted {s = n} stops) f = absurd (let z : ◌≡◌ {A = ℕ} 0 1 = cc in omega arith)

-- ---- the shape of the patch
module _ {w : Table} {s : Shape} (shaped : PatchIs w patch_row s) where
  shape-told : {p : Plain.Value} → PatchHeld w p → ShapeIs (shape p) s
  shape-told held = subst (λ u. ShapeIs (shape u) s) held.means (shaped.held held.c held.kids held.held)

  module _ {used : ℕ} {o : Outputs} (r : Result ℕ Answer) where
    pub listed_misshapen : {m : Misshapen} → s ≡ Err m → IsErrAnd r (MisshapenIs m) → RunPatchIs w o o used r
    unfolding applied on_finish answer_of
    listed_misshapen {m} e is v p document held short = go (shape-told held) refl
      where
        go : {q : Run (List Operation.Operation)} {t : Shape} → ShapeIs q t → s ≡ t
            → ListedIs (applied (length o.output) (length o.list) v q) o o (as_answer r)
        go (right os) f = absurd (let z : ◌≡◌ {A = ℕ} 0 1 = cc in omega arith)
        go (wrong n) f = let same : m ≡ n = cc in rw (← same) (listed-handed r is (λ a h. listed-refusal h))

    pub listed_right : {u : Unit {0}} {o' : Outputs} → s ≡ Ok u → RunListedIs w o o' used r → RunPatchIs w o o' used r
    unfolding applied on_finish
    listed_right e runs v p document held short =
        let (os, right_shape) = shape_right (shape-told held) e in rw right_shape (runs v p document held short os right_shape)

-- ---- the checks before a byte is read
module _ (D P : Bytes) (lent : Lending Lent) where
  pub answer_work_short : work_suffices lent.call ≡ false → answer D P lent ≡ unlisted (Spec.refusal work_too_short 0 0 0)
  unfolding answer
  answer_work_short e = rw e

  module _ (enough : work_suffices lent.call ≡ true) where
    pub answer-document_long : max_bytes < length D → answer D P lent ≡ unlisted (Spec.refusal input_too_long 1 0 0)
    unfolding answer
    answer-document_long h = rw (enough, lt-ltb max_bytes (length D) h)

    pub answer-patch_long : length D ≤ max_bytes → max_bytes < length P → answer D P lent ≡ unlisted (Spec.refusal input_too_long 2 0 0)
    unfolding answer
    answer-patch_long h i = rw (enough, le-ltb max_bytes (length D) h, lt-ltb max_bytes (length P) i)

    pub answer-read : length D ≤ max_bytes → length P ≤ max_bytes → answer D P lent ≡ on_document lent.call.output lent.list (read D) P
    unfolding answer
    answer-read h i = rw (enough, le-ltb max_bytes (length D) h, le-ltb max_bytes (length P) i)

    -- both texts are short enough: what is read of them
    module _ (h : length D ≤ max_bytes) (i : length P ≤ max_bytes) where
      pub answer-document_unread : {number place : ℕ} → read D ≡ refused number place → answer D P lent ≡ unlisted (Spec.refusal number 1 0 place)
      unfolding on_document
      answer-document_unread e = answer-read h i ∙ ap (λ q. on_document lent.call.output lent.list q P) e

      pub answer-patch_unread : {v : Plain.Value} {number place : ℕ} → read D ≡ ok v → read P ≡ refused number place
          → answer D P lent ≡ unlisted (Spec.refusal number 2 0 place)
      unfolding on_document on_patch
      answer-patch_unread {v} e f =
          answer-read h i ∙ ap (λ q. on_document lent.call.output lent.list q P) e ∙ ap (on_patch lent.call.output lent.list v) f

      pub answer-applied : {v p : Plain.Value} → read D ≡ ok v → read P ≡ ok p
          → answer D P lent ≡ applied lent.call.output lent.list v (shape p)
      unfolding on_document on_patch
      answer-applied {v} e f =
          answer-read h i ∙ ap (λ q. on_document lent.call.output lent.list q P) e ∙ ap (on_patch lent.call.output lent.list v) f

-- ---- by what `check_lengths` and `read_texts` of crate json_patch answer
module _ {T : Texts} (lent : Lending Lent) (enough : work_suffices lent.call ≡ true) where
  pub lengths_refused : {s : Result (Unit {0}) Unread} {u : Unread} → LengthsAre T s → s ≡ Err u
      → answer T.document T.patch lent ≡ unlisted (Spec.refusal (number_of u.fault.refusal) u.text 0 u.fault.place)
  lengths_refused is t =
      long_by (λ n x place. answer T.document T.patch lent ≡ unlisted (Spec.refusal n x 0 place)) is t (answer-document_long _ _ _ enough)
      (answer-patch_long _ _ _ enough)

  pub texts_refused : (length T.document ≤ max_bytes) × (length T.patch ≤ max_bytes) → {nodes : List Row} {s : Result ℕ Unread} {u : Unread}
      → TextsRead T nodes s → s ≡ Err u
      → answer T.document T.patch lent ≡ unlisted (Spec.refusal (number_of u.fault.refusal) u.text 0 u.fault.place)
  texts_refused short reads t =
      unread_by (λ n x place. answer T.document T.patch lent ≡ unlisted (Spec.refusal n x 0 place)) reads t
      (λ n place h. answer-document_unread _ _ _ enough short.0 short.1 h)
      (λ n place v h i. answer-patch_unread _ _ _ enough short.0 short.1 h i)

-- the answer depends only on whether the work area suffices, and on the rooms
pub answer_same : (D P : Bytes) (lent lent' : Lending Lent) → work_suffices lent.call ≡ work_suffices lent'.call
    → lent.call.output ≡ lent'.call.output → lent.list ≡ lent'.list → answer D P lent ≡ answer D P lent'
unfolding answer
answer_same D P lent lent' e o l = rw (e, o, l)
