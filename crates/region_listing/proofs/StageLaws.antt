-- Laws of the stages of the call with a region that lists origins, each for one way out of a stage.
use Rattle.std.specs.Prelude.{Result, Ok, Err, IsErrAnd}
use Prim.Native.Nat.{ℕ, ◌≤◌, ◌<◌}
use native.Mathlib.Omega.{arith}
use mathlib.Core.Path.{◌≡◌, refl, subst, ap, ◌∙◌}
use mathlib.Core.Bool.{true, false, true≢false}
use mathlib.Core.List.{List}
use lib.ListN.{length}
use borrow.Author.Tests.{le-ltb, lt-ltb}
use Rattle.spec.specs.Outcome.{Outcome, ok, refused}
use Rattle.spec.specs.Refusal.{work_too_short, input_too_long, malformed_pointer}
use Rattle.spec.specs.Fault.{number_of}
use Rattle.spec.specs.Limits.{max_bytes}
use Rattle.spec.specs.Bytes.{Bytes}
use Rattle.spec.specs.Value as Plain
use Rattle.spec.specs.Pointer.{Tokens}
use Rattle.spec.specs.Operation as Operation
use Rattle.spec.specs.Patch.{Run, finished, on_finish, shape}
use Rattle.spec.specs.Read.{read}
use Rattle.spec.specs.Answer as Spec
use Rattle.spec.specs.Answer.{Lent, work_suffices}
use Rattle.spec.proofs.ShapeTheorem.{shaped_so}
use Rattle.pointer.specs.Tokens.{accepted}
use Rattle.pointer.proofs.AcceptLaws.{accepted_ok}
use Rattle.tape.specs.Layout.{patch_row}
use Rattle.tape.specs.Fields.{Row}
use Rattle.tape.specs.Lent.{Texts, Table}
use Rattle.walk.specs.Names.{Short}
use Rattle.shape.specs.Patch.{Shape, ShapeIs, right, wrong}
use Rattle.shape.specs.declared.patch.Misshapen.{Misshapen}
use Rattle.changes.specs.Document.{Document}
use Rattle.origin.specs.Answer.{unlisted, Lending, answer_of, applied}
use Rattle.origin_within.specs.Answer.{patched_within, on_patch_within, on_document_within, answer_within}
use Rattle.json_patch.specs.Stages.{as_answer, MisshapenIs, PatchHeld}
use Rattle.json_patch.specs.Reads.{LengthsAre, TextsRead}
use Rattle.json_patch.specs.declared.texts.Unread.{Unread}
use Rattle.json_patch.specs.Call.{RefusalIs}
use Rattle.json_patch.specs.declared.answer.Answer.{Answer}
use Rattle.json_patch.proofs.ReadLaws.{long_by, unread_by}
use Rattle.json_patch.proofs.StageLaws.{shape_right}
use Rattle.region.specs.Rule.{shape_within}
use Rattle.region.specs.Answer.{region_tokens}
use Rattle.region.specs.Within.{PatchWithinIs}
use Rattle.region.proofs.ClaimTheorems.{shaped_within}
use Rattle.listing.specs.Call.{Outputs, ListedIs}
use Rattle.listing.specs.Stages.{RunListedIs}
use Rattle.listing.proofs.StageLaws.{listed-refusal, listed-handed}
use Rattle.region_listing.specs.Stages.{RunWithinIs}

-- ---- the region
module _ {w : Table} (region : Bytes) {o : Outputs} {used : ℕ} {r : Answer} where
  pub region_malformed : accepted (region_tokens region) ≡ false → RefusalIs malformed_pointer 0 0 0 r → RunWithinIs w region o o used (Err r)
  unfolding patched_within accepted as_answer
  region_malformed e is v p d held short = go (region_tokens region) e
    where
      go : (q : Outcome Tokens) → accepted q ≡ false → ListedIs (patched_within (length o.output) (length o.list) v p q) o o r
      go (ok R) f = absurd (true≢false f)
      go (refused number place) f = listed-refusal is

-- ---- the shape of the patch in it
module _ {w : Table} {region : Bytes} {s : Shape} (shaped : PatchWithinIs w patch_row region s) where
  shape-told : {R : Tokens} {p : Plain.Value} → region_tokens region ≡ ok R → PatchHeld w p → ShapeIs (shape_within R p) s
  shape-told {R} q held = subst (λ u. ShapeIs (shape_within R u) s) held.means (shaped.held R q held.c held.kids held.held)

  -- the text given as the region is one
  module _ (one : accepted (region_tokens region) ≡ true) {o : Outputs} {used : ℕ} (r : Result ℕ Answer) where
    within-tokens : {o' : Outputs} → ((R : Tokens) → region_tokens region ≡ ok R → (v p : Plain.Value) → Document w used v → PatchHeld w p
        → Short w.texts → ListedIs (applied (length o.output) (length o.list) v (shape_within R p)) o o' (as_answer r)) → RunWithinIs w region o o' used r
    unfolding patched_within
    within-tokens f v p d held short = let (R, q) = accepted_ok (region_tokens region) one in rw q (f R q v p d held short)

    pub within_misshapen : {m : Misshapen} → s ≡ Err m → IsErrAnd r (MisshapenIs m) → RunWithinIs w region o o used r
    unfolding applied on_finish answer_of
    within_misshapen {m} e is = within-tokens λ R q v p d held short. go v (shape-told q held) refl
      where
        go : (v : Plain.Value) {q : Run (List Operation.Operation)} {t : Shape} → ShapeIs q t → s ≡ t
            → ListedIs (applied (length o.output) (length o.list) v q) o o (as_answer r)
        go v (right os) f = absurd (let z : ◌≡◌ {A = ℕ} 0 1 = cc in omega arith)
        go v (wrong n) f = let same : m ≡ n = cc in rw (← same) (listed-handed r is (λ a h. listed-refusal h))

    -- what has the shape of a maker's patch has that of a patch
    pub within_right : {u : Unit {0}} {o' : Outputs} → s ≡ Ok u → RunListedIs w o o' used r → RunWithinIs w region o o' used r
    unfolding applied on_finish
    within_right e runs =
        within-tokens λ R q v p d held short.
        let (os, Shape-is) = shape_right (shape-told q held) e in
        let plain : shape p ≡ finished os = (shaped_so.right p os).1 ((shaped_within.right R p os).0 Shape-is).patch in
        rw Shape-is (runs v p d held short os plain)

-- ---- the checks before a byte is read
module _ (D P region : Bytes) (lent : Lending Lent) where
  pub within_work_short : work_suffices lent.call ≡ false → answer_within D P region lent ≡ unlisted (Spec.refusal work_too_short 0 0 0)
  unfolding answer_within
  within_work_short e = rw e

  module _ (enough : work_suffices lent.call ≡ true) where
    pub within-document_long : max_bytes < length D → answer_within D P region lent ≡ unlisted (Spec.refusal input_too_long 1 0 0)
    unfolding answer_within
    within-document_long h = rw (enough, lt-ltb max_bytes (length D) h)

    module _ (h : length D ≤ max_bytes) where
      pub within-patch_long : max_bytes < length P → answer_within D P region lent ≡ unlisted (Spec.refusal input_too_long 2 0 0)
      unfolding answer_within
      within-patch_long i = rw (enough, le-ltb max_bytes (length D) h, lt-ltb max_bytes (length P) i)

      module _ (i : length P ≤ max_bytes) where
        pub within-region_long : max_bytes < length region → answer_within D P region lent ≡ unlisted (Spec.refusal input_too_long 0 0 0)
        unfolding answer_within
        within-region_long j = rw (enough, le-ltb max_bytes (length D) h, le-ltb max_bytes (length P) i, lt-ltb max_bytes (length region) j)

        -- all three are short enough: what is read
        module _ (j : length region ≤ max_bytes) where
          within-read : answer_within D P region lent ≡ on_document_within lent.call.output lent.list (read D) P region
          unfolding answer_within
          within-read = rw (enough, le-ltb max_bytes (length D) h, le-ltb max_bytes (length P) i, le-ltb max_bytes (length region) j)

          pub within-document_unread : {number place : ℕ} → read D ≡ refused number place
              → answer_within D P region lent ≡ unlisted (Spec.refusal number 1 0 place)
          unfolding on_document_within
          within-document_unread e = within-read ∙ ap (λ q. on_document_within lent.call.output lent.list q P region) e

          pub within-patch_unread : {v : Plain.Value} {number place : ℕ} → read D ≡ ok v → read P ≡ refused number place
              → answer_within D P region lent ≡ unlisted (Spec.refusal number 2 0 place)
          unfolding on_document_within on_patch_within
          within-patch_unread {v} e f =
              within-read ∙ ap (λ q. on_document_within lent.call.output lent.list q P region) e
              ∙ ap (λ q. on_patch_within lent.call.output lent.list v q region) f

          pub within-applied : {v p : Plain.Value} → read D ≡ ok v → read P ≡ ok p
              → answer_within D P region lent ≡ patched_within lent.call.output lent.list v p (region_tokens region)
          unfolding on_document_within on_patch_within
          within-applied {v} e f =
              within-read ∙ ap (λ q. on_document_within lent.call.output lent.list q P region) e
              ∙ ap (λ q. on_patch_within lent.call.output lent.list v q region) f

-- ---- the two texts read
module _ {T : Texts} (region : Bytes) (lent : Lending Lent) (enough : work_suffices lent.call ≡ true) where
  pub lengths_refused : {s : Result (Unit {0}) Unread} {u : Unread} → LengthsAre T s → s ≡ Err u
      → answer_within T.document T.patch region lent ≡ unlisted (Spec.refusal (number_of u.fault.refusal) u.text 0 u.fault.place)
  lengths_refused is t =
      long_by (λ n x place. answer_within T.document T.patch region lent ≡ unlisted (Spec.refusal n x 0 place)) is t
      (within-document_long _ _ _ _ enough) (within-patch_long _ _ _ _ enough)

  pub texts_refused : (length T.document ≤ max_bytes) × (length T.patch ≤ max_bytes) → length region ≤ max_bytes
      → {nodes : List Row} {s : Result ℕ Unread} {u : Unread} → TextsRead T nodes s → s ≡ Err u
      → answer_within T.document T.patch region lent ≡ unlisted (Spec.refusal (number_of u.fault.refusal) u.text 0 u.fault.place)
  texts_refused short small reads t =
      unread_by (λ n x place. answer_within T.document T.patch region lent ≡ unlisted (Spec.refusal n x 0 place)) reads t
      (λ n place h. within-document_unread _ _ _ _ enough short.0 short.1 small h)
      (λ n place v h i. within-patch_unread _ _ _ _ enough short.0 short.1 small h i)

-- only whether the work area suffices, and the rooms, make a difference
pub within_same : (D P region : Bytes) (lent lent' : Lending Lent) → work_suffices lent.call ≡ work_suffices lent'.call
    → lent.call.output ≡ lent'.call.output → lent.list ≡ lent'.list → answer_within D P region lent ≡ answer_within D P region lent'
unfolding answer_within
within_same D P region lent lent' e o l = rw (e, o, l)
