-- Laws of the stages of the call with an undo that lists origins, each for one way out of a stage.
use Rattle.std.specs.Prelude.{Result, Ok, Err, IsErrAnd}
use Prim.Native.Nat.{ℕ, ◌≤◌, ◌<◌}
use native.Mathlib.Omega.{arith}
use mathlib.Core.Path.{◌≡◌, sym, subst, ap, ◌∙◌}
use mathlib.Core.List.{List, []}
use lib.Dec.{eqb}
use lib.ListN.{length, take}
use borrow.Author.Tests.{eq-eqb}
use Rattle.spec.specs.Refusal.{output_too_short}
use Rattle.spec.specs.Limits.{max_bytes}
use Rattle.spec.specs.Fault.{number_of}
use Rattle.spec.specs.declared.refusal.Refusal.{Refusal}
use Rattle.spec.specs.Bytes.{Bytes}
use Rattle.spec.specs.Value as Plain
use Rattle.spec.specs.Write.{write}
use Rattle.spec.specs.Operation as PlainOperation
use Rattle.spec.specs.Operation.{Operation}
use Rattle.spec.specs.Patch as PlainPatch
use Rattle.spec.specs.Patch.{Run, finished, on_finish, shape}
use Rattle.spec.specs.Answer as Spec
use Rattle.tape.specs.Layout.{patch_row}
use Rattle.tape.specs.Fields.{Row}
use Rattle.tape.specs.Lent.{Texts, Table}
use Rattle.walk.specs.Names.{Short}
use Rattle.shape.specs.Patch.{Shape, ShapeIs, right, wrong, PatchIs}
use Rattle.shape.specs.declared.patch.Misshapen.{Misshapen}
use Rattle.reversal.specs.Undo.{undo_run}
use Rattle.reversal.specs.UndoValue.{undo_value}
use Rattle.reversal.specs.UndoAnswer as PlainUndo
use Rattle.reversal.specs.UndoAnswer.{undo_shaped}
use Rattle.origin.specs.Value as Value
use Rattle.origin.specs.Value.{forget, origins}
use Rattle.origin.specs.Answer.{fitting, answer_of, applied, beside, after_patch}
use Rattle.origin.proofs.ForgetLaws.{forget-painted}
use Rattle.changes.specs.Site.{table}
use Rattle.changes.specs.Document.{Document, Bearing}
use Rattle.operations.specs.Run.{RanTo, RanBearing, ran, halted}
use Rattle.operations.specs.declared.answers.Stop.{Stop}
use Rattle.json_patch.specs.Stages.{as_answer, MisshapenIs, StoppedIs, PatchHeld}
use Rattle.json_patch.specs.Call.{RefusalIs}
use Rattle.json_patch.specs.declared.answer.Answer.{Answer}
use Rattle.json_patch.proofs.StageLaws.{shape_right}
use Rattle.json_patch.proofs.AnswerLaws.{answered-refusal, answered-failure}
use Rattle.listing.specs.Lists.{entries}
use Rattle.listing.specs.Stamps.{StampTextsIs}
use Rattle.listing.proofs.ListLaws.{rows-listed, listed_all}
use Rattle.listing.proofs.StageLaws.{ran_listed}
use Rattle.undo_log.specs.Log.{Noted, BeginIs}
use Rattle.undo_log.specs.declared.log.Log.{Log}
use Rattle.undo.specs.Call as Undo
use Rattle.undo.specs.Call.{as_undo_answer}
use Rattle.undo.specs.Step.{rows_of}
use Rattle.undo.specs.Run.{LoggedTo, LoggedIs}
use Rattle.undo.specs.Stages.{WriteBothIs}
use Rattle.undo.specs.declared.answer.Written.{Written}
use Rattle.undo.specs.declared.logged.Logged.{Logged}
use Rattle.undo.proofs.AnswerLaws.{not_done}
use Rattle.undo.proofs.StageLaws.{shape-told, run-told}
use Rattle.undo_listing.specs.Call.{Outputs, UndoListedIs}
use Rattle.undo_listing.specs.Stages.{WriteAllIs, RunPatchIs}
use Rattle.undo_listing.proofs.AnswerLaws.{listed_as, listed-handed, patch_refused, fitting_list_short, after-listed, none_beside, all_beside}

-- ---- all written
-- the list is too short
pub list_short : {w : Table} {o : Outputs} {used : ℕ} {work : Bytes} {log : Log} {a : Answer} → length o.list < used
    → RefusalIs output_too_short 0 0 0 a → WriteAllIs w o o used work log (Err a)
unfolding number_of
list_short {o = o} short is v b os noted =
    listed_as
    (ap (λ q. after_patch (length o.texts.undo) q (undo_value os))
    (fitting_list_short (length o.texts.document) (length o.list) v (omega (arith, rows-listed b))))
    (patch_refused (length o.texts.undo) (undo_value os) (answered-refusal is) Refusal.OutputTooShort is.0)

-- it suffices: the two texts are as in the call without a list
abbrev plain : Outputs → Value.Value → List Operation → PlainUndo.UndoAnswer
plain o v os = PlainUndo.after_patch (length o.texts.undo) (Spec.fitting (length o.texts.document) (write (forget v))) (undo_value os)

beside_plain : (o : Outputs) {w : Table} {used : ℕ} {v : Value.Value} → Bearing w used v → used ≤ length o.list → (os : List Operation)
    → after_patch (length o.texts.undo) (fitting (length o.texts.document) (length o.list) v) (undo_value os) ≡ beside (origins v) (plain o v os)
beside_plain o {v = v} b room os =
    after-listed (length o.texts.undo) (length o.texts.document) (length o.list) v (undo_value os) (omega (arith, rows-listed b))

module _ {w : Table} {o : Outputs} {texts : Undo.Outputs} {used : ℕ} {work : Bytes} {log : Log} (room : used ≤ length o.list) where
  -- a refusal
  pub all_refused : (a : Answer) → WriteBothIs w o.texts texts work log (Err a) → (e : Refusal) → a.number ≡ number_of e
      → WriteAllIs w o (record { texts = texts; list = o.list }) used work log (Err a)
  unfolding beside as_undo_answer
  all_refused a both e is v b os noted =
      let h = both used (forget v) b.document os noted in
      let number_is : (plain o v os).answer.number ≡ number_of e = sym h.answered.number ∙ is in
      listed_as (beside_plain o b room os)
      (record {
        answered = h;
        list = none_beside (eqb (plain o v os).answer.number 0) (origins v) o.list (ap (λ n. eqb n 0) number_is ∙ not_done e);
      })

  -- a success
  pub all_written : (written : Written) → WriteBothIs w o.texts texts work log (Ok written) → {list : List ℕ}
      → list ≡ entries (take used w.nodes) o.list → WriteAllIs w o (record { texts = texts; list = list }) used work log (Ok written)
  unfolding beside as_undo_answer as_answer
  all_written written both {list} lists v b os noted =
      let h = both used (forget v) b.document os noted in
      let number_is : (plain o v os).answer.number ≡ 0 = sym h.answered.number in
      listed_as (beside_plain o b room os)
      (record {
        answered = h;
        list = all_beside (eqb (plain o v os).answer.number 0) (origins v) o.list list (eq-eqb _ 0 number_is) (lists ∙ listed_all b o.list room);
      })

-- ---- the operations run, on nodes that bear their origins
-- one that is done has its undo noted
done-noted : {T : Texts} {nodes' : List Row} {o : Run Plain.Value} {us : List Operation} {work' : Bytes} {logged : Result Logged Stop} {done : Logged}
    → LoggedTo T nodes' o us work' logged → logged ≡ Ok done → Noted done.log work' us
unfolding rows_of
done-noted {T} {nodes'} {o} {us} {work'} {logged} {done} to e = go to.ran (ap rows_of e)
  where
    go : {s : Result ℕ Stop} → RanTo T nodes' o s → s ≡ Ok done.rows → Noted done.log work' us
    go (ran {v = u} f d) h = to.noted u f done e
    go (halted f) h = absurd (let z : ◌≡◌ {A = ℕ} 0 1 = cc in omega arith)

module _ {w : Table} {used : ℕ} {ns : List Row} (stamps : StampTextsIs w.nodes ns used) (work : Bytes) {begin : Log} {work₁ : Bytes}
    (begins : BeginIs work work₁ begin) {nodes' : List Row} {work' : Bytes} {logged : Result Logged Stop}
    (runs : LoggedIs (table w.texts ns) nodes' work₁ work' used begin logged) where
  logged_told : {v p : Plain.Value} → Document w used v → PatchHeld w p → Short w.texts → length work ≡ max_bytes → (os : List Operation)
      → shape p ≡ finished os → LoggedTo w.texts nodes' (PlainPatch.run PlainOperation.limited 1 os v) (undo_run os v) work' logged
  logged_told {v} {p} d held short long os shaped-as =
      let stamped = stamps w.texts v p d held in
      run-told work begins runs (subst (Document (table w.texts ns) used) (forget-painted 0 v) stamped.document.document) stamped.patch.patch short
      long os shaped-as

module _ {w : Table} {s : Shape} (shaped : PatchIs w patch_row s) {o : Outputs} (work : Bytes) {used : ℕ} (r : Result Written Answer) where
  pub run_misshapen : {m : Misshapen} → s ≡ Err m → IsErrAnd r (MisshapenIs m) → RunPatchIs w o o work used r
  unfolding applied on_finish answer_of undo_shaped
  run_misshapen {m} e is v p d held short long = go (shape-told shaped held) e
    where
      go : {q : Run (List Operation)} {t : Shape} → ShapeIs q t → t ≡ Err m
          → UndoListedIs
          (after_patch (length o.texts.undo) (applied (length o.texts.document) (length o.list) v q) (undo_value (undo_shaped v q))) o o (as_undo_answer r)
      go (right os) f = absurd (let z : ◌≡◌ {A = ℕ} 0 1 = cc in omega arith)
      go (wrong n) f =
          let same : m ≡ n = cc in
          rw (← same) (listed-handed r is λ a h. patch_refused (length o.texts.undo) (undo_value []) (answered-refusal h) m.refusal h.0)

  module _ {u : Unit {0}} (e : s ≡ Ok u) {ns : List Row} (stamps : StampTextsIs w.nodes ns used) {begin : Log} {work₁ : Bytes}
      (begins : BeginIs work work₁ begin) {nodes' : List Row} {work' : Bytes} {logged : Result Logged Stop}
      (runs : LoggedIs (table w.texts ns) nodes' work₁ work' used begin logged) where
    pub run_stopped : {stop : Stop} → logged ≡ Err stop → IsErrAnd r (StoppedIs stop) → RunPatchIs w o o work used r
    unfolding applied on_finish answer_of undo_shaped rows_of
    run_stopped {stop} t is v p d held short long =
        let (os, right_shape) = shape_right (shape-told shaped held) e in
        rw right_shape (go (undo_run os v) (ran_listed stamps runs.runs d held short os right_shape) (ap rows_of t))
      where
        go : (us : List Operation) {q : Run Value.Value} {t : Result ℕ Stop} → RanBearing w.texts nodes' q t → t ≡ Err stop
            → UndoListedIs (after_patch (length o.texts.undo) (answer_of (length o.texts.document) (length o.list) q) (undo_value us)) o o
            (as_undo_answer r)
        go us (ran f b) h = absurd (let z : ◌≡◌ {A = ℕ} 0 1 = cc in omega arith)
        go us (halted {s = n} f) h =
            let same : stop ≡ n = cc in
            rw (f, ← same) (listed-handed r is λ a h. patch_refused (length o.texts.undo) (undo_value us) (answered-failure h) stop.refusal h.0)

    -- as many rows are listed as the document has then
    pub run-done : {done : Logged} → logged ≡ Ok done → {o' : Outputs} → WriteAllIs (table w.texts nodes') o o' done.rows work' done.log r
        → RunPatchIs w o o' work used r
    unfolding applied on_finish answer_of undo_shaped rows_of
    run-done {done} t {o'} writes v p d held short long =
        let (os, right_shape) = shape_right (shape-told shaped held) e in
        let told = logged_told stamps work begins runs d held short long os right_shape in
        rw right_shape (go (undo_run os v) (ran_listed stamps runs.runs d held short os right_shape) (ap rows_of t) (done-noted told t))
      where
        go : (us : List Operation) {q : Run Value.Value} {t : Result ℕ Stop} → RanBearing w.texts nodes' q t → t ≡ Ok done.rows
            → Noted done.log work' us
            → UndoListedIs (after_patch (length o.texts.undo) (answer_of (length o.texts.document) (length o.list) q) (undo_value us)) o o'
            (as_undo_answer r)
        go us (ran {used = n} {v = u} f b) h noted =
            let same : n ≡ done.rows = cc in rw f (writes u (subst (λ m. Bearing (table w.texts nodes') m u) same b) us noted)
        go us (halted f) h noted = absurd (let z : ◌≡◌ {A = ℕ} 0 1 = cc in omega arith)
