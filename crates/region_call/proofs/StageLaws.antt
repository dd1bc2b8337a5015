-- Laws of the stages of the call with a region, each for one way out of a stage.
use Rattle.std.specs.Prelude.{Result, Ok, Err, IsErrAnd}
use Prim.Native.Nat.{ℕ, ◌≤◌, ◌<◌}
use native.Mathlib.Omega.{arith}
use mathlib.Core.Path.{◌≡◌, refl, subst, ◌∙◌}
use mathlib.Core.Bool.{true, false, true≢false}
use mathlib.Core.List.{List}
use lib.ListN.{length}
use borrow.Author.Tests.{le-ltb, lt-ltb}
use Rattle.spec.specs.Outcome.{Outcome, ok, refused}
use Rattle.spec.specs.Refusal.{work_too_short, input_too_long, malformed_pointer}
use Rattle.spec.specs.Fault.{number_of}
use Rattle.spec.specs.Limits.{max_bytes}
use Rattle.spec.specs.Bytes.{Bytes}
use Rattle.spec.specs.Value as Value
use Rattle.spec.specs.Pointer.{Tokens}
use Rattle.spec.specs.Operation as Operation
use Rattle.spec.specs.Operation.{limited}
use Rattle.spec.specs.Patch.{Run, finished, on_finish, shape, run}
use Rattle.spec.specs.Read.{read}
use Rattle.spec.specs.Answer as Spec
use Rattle.spec.specs.Answer.{Lent, work_suffices, answer_of}
use Rattle.spec.proofs.ShapeTheorem.{shaped_so}
use Rattle.pointer.specs.Tokens.{accepted}
use Rattle.pointer.proofs.AcceptLaws.{accepted_ok}
use Rattle.tape.specs.Layout.{patch_row}
use Rattle.tape.specs.Fields.{Row}
use Rattle.tape.specs.Lent.{Texts, Table}
use Rattle.walk.specs.Names.{Short}
use Rattle.shape.specs.Patch.{Shape, ShapeIs, right, wrong}
use Rattle.shape.specs.declared.patch.Misshapen.{Misshapen}
use Rattle.changes.specs.Site.{table}
use Rattle.changes.specs.Document.{Document}
use Rattle.operations.specs.Run.{RanTo, ran, halted, RunIs}
use Rattle.operations.specs.declared.answers.Stop.{Stop}
use Rattle.json_patch.specs.Stages.{as_answer, MisshapenIs, StoppedIs, PatchHeld, WriteOutIs}
use Rattle.json_patch.specs.Reads.{LengthsAre, TextsRead}
use Rattle.json_patch.specs.declared.texts.Unread.{Unread}
use Rattle.json_patch.specs.Call.{Answered, RefusalIs}
use Rattle.json_patch.specs.declared.answer.Answer.{Answer}
use Rattle.json_patch.proofs.StageLaws.{shape_right, ran_told}
use Rattle.json_patch.proofs.AnswerLaws.{answered-refusal, answered-failure, answered-handed, answered_as}
use Rattle.json_patch.proofs.ReadLaws.{long_by, unread_by, read_by}
use Rattle.region.specs.Rule.{shape_within}
use Rattle.region.specs.Answer.{region_tokens, patched_within, on_patch_within, on_document_within, answer_within}
use Rattle.region.specs.Within.{PatchWithinIs}
use Rattle.region.proofs.ClaimTheorems.{shaped_within}
use Rattle.region_call.specs.Stages.{RunWithinIs}

-- ---- the region
module _ {w : Table} (region : Bytes) {out : Bytes} {used : ℕ} {r : Answer} where
  pub region_malformed : accepted (region_tokens region) ≡ false → RefusalIs malformed_pointer 0 0 0 r → RunWithinIs w region out out used (Err r)
  unfolding patched_within accepted as_answer
  region_malformed e is v p d held short = go (region_tokens region) e
    where
      go : (o : Outcome Tokens) → accepted o ≡ false → Answered (patched_within (length out) v p o) out out r
      go (ok R) f = absurd (true≢false f)
      go (refused number place) f = answered-refusal is

-- ---- the shape of the patch in it
module _ {w : Table} {region : Bytes} {s : Shape} (shaped : PatchWithinIs w patch_row region s) where
  shape-told : {R : Tokens} {p : Value.Value} → region_tokens region ≡ ok R → PatchHeld w p → ShapeIs (shape_within R p) s
  shape-told {R} q held = subst (λ u. ShapeIs (shape_within R u) s) held.means (shaped.held R q held.c held.kids held.held)

  -- the text given as the region is one
  module _ (one : accepted (region_tokens region) ≡ true) {out : Bytes} {used : ℕ} (r : Result ℕ Answer) where
    within-tokens : {out' : Bytes} → ((R : Tokens) → region_tokens region ≡ ok R → (v p : Value.Value) → Document w used v → PatchHeld w p → Short w.texts
        → Answered (answer_of (length out) (on_finish (shape_within R p) (λ os. run limited 1 os v))) out out' (as_answer r))
        → RunWithinIs w region out out' used r
    unfolding patched_within
    within-tokens f v p d held short = let (R, q) = accepted_ok (region_tokens region) one in rw q (f R q v p d held short)

    pub within_misshapen : {m : Misshapen} → s ≡ Err m → IsErrAnd r (MisshapenIs m) → RunWithinIs w region out out used r
    unfolding on_finish answer_of
    within_misshapen {m} e is = within-tokens λ R q v p d held short. go v (shape-told q held) refl
      where
        go : (v : Value.Value) {o : Run (List Operation.Operation)} {q : Shape} → ShapeIs o q → s ≡ q
            → Answered (answer_of (length out) (on_finish o (λ os. run limited 1 os v))) out out (as_answer r)
        go v (right os) f = absurd (let z : ◌≡◌ {A = ℕ} 0 1 = cc in omega arith)
        go v (wrong n) f = let same : m ≡ n = cc in rw (← same) (answered-handed r is (λ a h. answered-refusal h))

    -- ---- the operations run: what has the shape of a maker's patch has that of a patch
    module _ {u : Unit {0}} (e : s ≡ Ok u) {nodes' : List Row} {told : Result ℕ Stop} (runs : RunIs w nodes' used told) where
      within_ran : {out' : Bytes}
          → ((o : Run Value.Value) (q : Result ℕ Stop) → RanTo w.texts nodes' o q → told ≡ q → Answered (answer_of (length out) o) out out' (as_answer r))
          → RunWithinIs w region out out' used r
      unfolding on_finish
      within_ran go =
          within-tokens λ R q v p d held short.
          let (os, Shape-is) = shape_right (shape-told q held) e in
          let plain : shape p ≡ finished os = (shaped_so.right p os).1 ((shaped_within.right R p os).0 Shape-is).patch in
          rw Shape-is (go (run limited 1 os v) told (ran_told runs d held short os plain) refl)

      pub within_stopped : {stop : Stop} → told ≡ Err stop → IsErrAnd r (StoppedIs stop) → RunWithinIs w region out out used r
      unfolding answer_of
      within_stopped {stop} t is = within_ran λ o q. go
        where
          go : {o : Run Value.Value} {q : Result ℕ Stop} → RanTo w.texts nodes' o q → told ≡ q → Answered (answer_of (length out) o) out out (as_answer r)
          go (ran is d) f = absurd (let z : ◌≡◌ {A = ℕ} 0 1 = cc in omega arith)
          go (halted {s = n} stops) f = let same : stop ≡ n = cc in rw (stops, ← same) (answered-handed r is (λ a h. answered-failure h))

      pub within-done : {rows : ℕ} {out' : Bytes} → told ≡ Ok rows → WriteOutIs (table w.texts nodes') out out' r
          → RunWithinIs w region out out' used r
      unfolding answer_of
      within-done {out' = out'} t writes = within_ran λ o q. go
        where
          go : {o : Run Value.Value} {q : Result ℕ Stop} → RanTo w.texts nodes' o q → told ≡ q → Answered (answer_of (length out) o) out out' (as_answer r)
          go (ran {used = n} {v = u} is d) f = rw is (writes n u d)
          go (halted {s = n} stops) f = absurd (let z : ◌≡◌ {A = ℕ} 0 1 = cc in omega arith)

-- ---- the checks before a byte is read
module _ (D P region : Bytes) (lent : Lent) where
  pub within_work_short : work_suffices lent ≡ false → answer_within D P region lent ≡ Spec.refusal work_too_short 0 0 0
  unfolding answer_within
  within_work_short e = rw e

  module _ (enough : work_suffices lent ≡ true) where
    pub within-document_long : max_bytes < length D → answer_within D P region lent ≡ Spec.refusal input_too_long 1 0 0
    unfolding answer_within
    within-document_long h = rw (enough, lt-ltb max_bytes (length D) h)

    module _ (h : length D ≤ max_bytes) where
      pub within-patch_long : max_bytes < length P → answer_within D P region lent ≡ Spec.refusal input_too_long 2 0 0
      unfolding answer_within
      within-patch_long i = rw (enough, le-ltb max_bytes (length D) h, lt-ltb max_bytes (length P) i)

      module _ (i : length P ≤ max_bytes) where
        pub within-region_long : max_bytes < length region → answer_within D P region lent ≡ Spec.refusal input_too_long 0 0 0
        unfolding answer_within
        within-region_long j = rw (enough, le-ltb max_bytes (length D) h, le-ltb max_bytes (length P) i, lt-ltb max_bytes (length region) j)

        pub within-read : length region ≤ max_bytes → answer_within D P region lent ≡ on_document_within lent.output (read D) P region
        unfolding answer_within
        within-read j = rw (enough, le-ltb max_bytes (length D) h, le-ltb max_bytes (length P) i, le-ltb max_bytes (length region) j)

-- only whether the work area suffices, and the room for the text, make a difference
pub within_same : (D P region : Bytes) (lent lent' : Lent) → work_suffices lent ≡ work_suffices lent' → lent.output ≡ lent'.output
    → answer_within D P region lent ≡ answer_within D P region lent'
unfolding answer_within
within_same D P region lent lent' e o = rw (e, o)

-- ---- the two texts read
module _ {T : Texts} (region : Bytes) (lent : Lent) (enough : work_suffices lent ≡ true) where
  pub lengths_refused : {s : Result (Unit {0}) Unread} {u : Unread} → LengthsAre T s → s ≡ Err u
      → answer_within T.document T.patch region lent ≡ Spec.refusal (number_of u.fault.refusal) u.text 0 u.fault.place
  lengths_refused is t =
      long_by (λ n x place. answer_within T.document T.patch region lent ≡ Spec.refusal n x 0 place) is t
      (within-document_long _ _ _ _ enough) (within-patch_long _ _ _ _ enough)

  module _ (short : (length T.document ≤ max_bytes) × (length T.patch ≤ max_bytes)) (small : length region ≤ max_bytes) {nodes : List Row}
      {s : Result ℕ Unread} (reads : TextsRead T nodes s) where
    pub texts_refused : {u : Unread} → s ≡ Err u
        → answer_within T.document T.patch region lent ≡ Spec.refusal (number_of u.fault.refusal) u.text 0 u.fault.place
    unfolding on_document_within on_patch_within
    texts_refused t =
        unread_by (λ n x place. answer_within T.document T.patch region lent ≡ Spec.refusal n x 0 place) reads t
        (λ n place h. within-read _ _ _ _ enough short.0 short.1 small ∙ rw h)
        (λ n place v h i. within-read _ _ _ _ enough short.0 short.1 small ∙ rw (h, i))

    pub texts_applied : {used : ℕ} {out out' : Bytes} (r : Result ℕ Answer) → s ≡ Ok used → lent.output ≡ length out
        → RunWithinIs (table T nodes) region out out' used r → Answered (answer_within T.document T.patch region lent) out out' (as_answer r)
    unfolding on_document_within on_patch_within
    texts_applied r t room runs =
        read_by reads t λ v p h i d held short-texts.
        answered_as (within-read _ _ _ _ enough short.0 short.1 small) (rw (room, h, i) (runs v p d held short-texts))
