-- Laws of the call's answers with the list beside them: a refusal of the patch, and all written.
use Rattle.std.specs.Prelude.{if◌then◌else◌, Result, Err, IsErrAnd}
use Rattle.std.proofs.lemmas.Result.{err_from_is_err_and}
use Prim.Native.Nat.{ℕ, ◌≤◌, ◌<◌}
use mathlib.Core.Path.{◌≡◌, refl, sym, ap, subst, ◌∙◌}
use mathlib.Core.Bool.{Bool, true, false}
use mathlib.Core.List.{List, [], ◌++◌}
use lib.Dec.{leb, eqb}
use lib.ListN.{length, drop}
use borrow.Author.Tests.{le-leb, lt-leb}
use Rattle.spec.specs.Outcome.{ok}
use Rattle.spec.specs.Refusal.{done, output_too_short}
use Rattle.spec.specs.Limits.{max_bytes}
use Rattle.spec.specs.Fault.{number_of}
use Rattle.spec.specs.declared.refusal.Refusal.{Refusal}
use Rattle.spec.specs.Bytes.{Bytes}
use Rattle.spec.specs.Value as Plain
use Rattle.spec.specs.Patch.{shape}
use Rattle.spec.specs.Read.{read}
use Rattle.spec.specs.Write.{write}
use Rattle.spec.specs.Answer as Spec
use Rattle.spec.specs.Answer.{work_suffices}
use Rattle.reversal.specs.UndoValue.{undo_value}
use Rattle.reversal.specs.UndoAnswer as PlainUndo
use Rattle.reversal.specs.UndoAnswer.{UndoLent, undo_read, undo_shaped, undo_operations}
use Rattle.origin.specs.Value as Value
use Rattle.origin.specs.Value.{forget, origins}
use Rattle.origin.specs.Answer.{Listed, listed, unlisted, Lending, fitting, applied, answer, beside, after_patch, undo_answer}
use Rattle.json_patch.specs.Call.{Answered, RefusalIs}
use Rattle.json_patch.specs.declared.answer.Answer.{Answer}
use Rattle.json_patch.proofs.AnswerLaws.{answered-refusal}
use Rattle.listing.proofs.StageLaws.{answer-applied}
use Rattle.undo.specs.Call.{as_undo_answer}
use Rattle.undo.specs.declared.answer.UndoAnswer.{UndoAnswer}
use Rattle.undo.specs.declared.answer.Written.{Written}
use Rattle.undo.proofs.AnswerLaws as Undo
use Rattle.undo_listing.specs.Call.{Outputs, UndoListedIs}

-- ---- an answer by another name
pub listed_as : {a b : Listed PlainUndo.UndoAnswer} {o o' : Outputs} {r : UndoAnswer} → a ≡ b → UndoListedIs b o o' r → UndoListedIs a o o' r
listed_as {o = o} {o'} {r} e h = subst (λ a. UndoListedIs a o o' r) (sym e) h

-- ---- T-09: "Refusals: those of the patch first": nothing is listed then
after-unlisted : (room : ℕ) (a : Spec.Answer) (u : Plain.Value) → after_patch room (unlisted a) u ≡ unlisted (PlainUndo.after_patch room a u)
unfolding after_patch beside
after-unlisted room a u = go (eqb (PlainUndo.after_patch room a u).answer.number done)
  where
    go : (b : Bool) → listed (PlainUndo.after_patch room a u) (if b then [] else []) ≡ unlisted (PlainUndo.after_patch room a u)
    go true = refl
    go false = refl

pub patch_refused : {s : Spec.Answer} {o : Outputs} {a : Answer} (room : ℕ) (u : Plain.Value)
    → Answered s o.texts.document o.texts.document a → (e : Refusal) → a.number ≡ number_of e
    → UndoListedIs (after_patch room (unlisted s) u) o o (as_undo_answer (Err a))
patch_refused {s} room u h e is =
    listed_as (after-unlisted room s u) (record { answered = Undo.patch_refused room u h e is; list = refl })

-- what the exit of a `?` answers is the refusal that it was given, as the call's
pub listed-handed : {a : Listed PlainUndo.UndoAnswer} {o o' : Outputs} {P : Answer → Type 0} (done : Result Written Answer) → IsErrAnd done P
    → ((r : Answer) → P r → UndoListedIs a o o' (as_undo_answer (Err r))) → UndoListedIs a o o' (as_undo_answer done)
listed-handed {a} {o} {o'} done is h =
    let p = err_from_is_err_and done is in subst (λ q. UndoListedIs a o o' (as_undo_answer q)) (sym p.1) (h p.0 p.2)

-- ---- the list measured
-- it is too short, whether the text fits or not
pub fitting_list_short : (room list : ℕ) (v : Value.Value) → list < length (origins v) → fitting room list v ≡ unlisted (Spec.refusal output_too_short 0 0 0)
unfolding fitting
fitting_list_short room list v h = rw (lt-leb (length (origins v)) list h) (go (leb (length (write (forget v))) room))
  where
    short : Listed Spec.Answer
    short = unlisted (Spec.refusal output_too_short 0 0 0)

    go : (b : Bool) → (if b then short else short) ≡ short
    go true = refl
    go false = refl

-- it suffices: the origins stand beside the answer of the call without a list
pub after-listed : (room out list : ℕ) (v : Value.Value) (u : Plain.Value) → length (origins v) ≤ list
    → after_patch room (fitting out list v) u ≡ beside (origins v) (PlainUndo.after_patch room (Spec.fitting out (write (forget v))) u)
unfolding fitting Spec.fitting after_patch beside PlainUndo.after_patch
after-listed room out list v u h = rw (le-leb (length (origins v)) list h) (go (leb (length (write (forget v))) out))
  where
    go : (b : Bool) → after_patch room (if b then listed (Spec.success (write (forget v))) (origins v) else unlisted (Spec.refusal output_too_short 0 0 0)) u
        ≡ beside (origins v) (PlainUndo.after_patch room (if b then Spec.success (write (forget v)) else Spec.refusal output_too_short 0 0 0) u)
    go true = refl
    go false = refl

-- what stands beside a refusal and beside a success, laid before the list's rest
pub none_beside : (b : Bool) (os xs : List ℕ) → b ≡ false → xs ≡ (if b then os else []) ++ drop (length (if b then os else [])) xs
none_beside b os xs e = rw e

pub all_beside : (b : Bool) (os xs xs' : List ℕ) → b ≡ true → xs' ≡ os ++ drop (length os) xs
    → xs' ≡ (if b then os else []) ++ drop (length (if b then os else [])) xs
all_beside b os xs xs' e h = rw e h

-- ---- the whole call, by what the patch comes to
module _ (D P : Bytes) (lent : Lending UndoLent) (buffer : max_bytes ≤ lent.call.work) where
  abbrev patch : Listed Spec.Answer
  patch = answer D P (record { call = lent.call.patch; list = lent.list })

  pub buffer_enough : undo_answer D P lent ≡ after_patch lent.call.undo patch (undo_value (undo_operations D P))
  unfolding undo_answer
  buffer_enough = rw (le-leb max_bytes lent.call.work buffer)

  pub call_refused : {text place : ℕ} {o : Outputs} {a : Answer} (e : Refusal) → patch ≡ unlisted (Spec.refusal (number_of e) text 0 place)
      → RefusalIs (number_of e) text 0 place a → UndoListedIs (undo_answer D P lent) o o (as_undo_answer (Err a))
  call_refused e is refuses =
      listed_as (buffer_enough ∙ ap (λ a. after_patch lent.call.undo a (undo_value (undo_operations D P))) is)
      (patch_refused lent.call.undo (undo_value (undo_operations D P)) (answered-refusal refuses) e refuses.0)

  undo_read_lem : {v p : Plain.Value} → read D ≡ ok v → read P ≡ ok p → undo_operations D P ≡ undo_shaped v (shape p)
  unfolding undo_operations undo_read
  undo_read_lem e f = rw (e, f)

  pub call_applied : work_suffices lent.call.patch ≡ true → length D ≤ max_bytes → length P ≤ max_bytes → {v p : Plain.Value} → read D ≡ ok v
      → read P ≡ ok p
      → undo_answer D P lent
      ≡ after_patch lent.call.undo (applied lent.call.patch.output lent.list v (shape p)) (undo_value (undo_shaped v (shape p)))
  call_applied enough h i {v} {p} e f =
      buffer_enough ∙ ap (λ a. after_patch lent.call.undo a (undo_value (undo_operations D P))) (answer-applied D P _ enough h i e f)
      ∙ ap (λ os. after_patch lent.call.undo (applied lent.call.patch.output lent.list v (shape p)) (undo_value os)) (undo_read_lem e f)
