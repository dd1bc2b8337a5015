-- Laws of the call's answers: a refusal, and the undo judged.
use Rattle.std.specs.Prelude.{Result, Err, IsErrAnd}
use Rattle.std.proofs.lemmas.Result.{err_from_is_err_and}
use Prim.Native.Nat.{ℕ, ◌≤◌, ◌<◌}
use native.Mathlib.Omega.{arith}
use mathlib.Core.Path.{◌≡◌, refl, sym, ap, subst, ◌∙◌}
use mathlib.Core.Bool.{false, true≢false}
use lib.Dec.{leb, eqb}
use lib.ListN.{length}
use borrow.Author.Tests.{le-leb, lt-leb, leb-true}
use Rattle.spec.specs.Fault.{number_of}
use Rattle.spec.specs.declared.refusal.Refusal.{Refusal}
use Rattle.spec.specs.Refusal.{output_too_short}
use Rattle.spec.specs.Limits.{max_bytes, max_depth, max_nodes, max_operations}
use Rattle.spec.specs.Bytes.{Bytes}
use Rattle.spec.specs.Forest.{count}
use Rattle.spec.specs.Value as Value
use Rattle.spec.specs.Value.{depth, nodes}
use Rattle.spec.specs.Write.{write}
use Rattle.spec.specs.Answer as Plain
use Rattle.json_patch.specs.Call.{Answered}
use Rattle.json_patch.specs.declared.answer.Answer.{Answer}
use Rattle.reversal.specs.UndoAnswer as Spec
use Rattle.reversal.specs.UndoAnswer.{undo_success, undo_refusal, undo_fitting, undo_written, after_patch}
use Rattle.reversal.proofs.IndexToken.{by_test}
use Rattle.undo_log.specs.Log.{undo_number}
use Rattle.undo.specs.Call.{Outputs, UndoAnswered, as_undo_answer}
use Rattle.undo.specs.declared.answer.UndoAnswer.{UndoAnswer}
use Rattle.undo.specs.declared.answer.Written.{Written}

-- ---- an answer by another name
pub undo_as : {a b : Spec.UndoAnswer} {before after : Outputs} {r : UndoAnswer} → a ≡ b → UndoAnswered b before after r → UndoAnswered a before after r
undo_as {before = before} {after} {r} e h = subst (λ a. UndoAnswered a before after r) (sym e) h

-- ---- a refusal's number is never 0
pub not_done : (e : Refusal) → eqb (number_of e) 0 ≡ false
unfolding number_of
not_done Refusal.WorkTooShort = refl
not_done Refusal.InputTooLong = refl
not_done Refusal.NotJson = refl
not_done Refusal.RepeatedName = refl
not_done Refusal.TooDeep = refl
not_done Refusal.TooManyNodes = refl
not_done Refusal.NumberOverLimit = refl
not_done Refusal.WrongShape = refl
not_done Refusal.TooManyOperations = refl
not_done Refusal.MalformedPointer = refl
not_done Refusal.LocationMissing = refl
not_done Refusal.NoIndex = refl
not_done Refusal.RemoveOfRoot = refl
not_done Refusal.MoveIntoChild = refl
not_done Refusal.TestDiffers = refl
not_done Refusal.OutputTooShort = refl
not_done Refusal.NotPermitted = refl

-- ---- a refusal leaves both outputs as they were
-- T-09: "Refusals: those of the patch first"
pub patch_refused : {s : Plain.Answer} {out : Outputs} {a : Answer} (room : ℕ) (u : Value.Value) → Answered s out.document out.document a → (e : Refusal)
    → a.number ≡ number_of e → UndoAnswered (after_patch room s u) out out (as_undo_answer (Err a))
unfolding after_patch as_undo_answer
patch_refused {s} room u h e is =
    let number_is : s.number ≡ number_of e = sym h.number ∙ is in
    let refuses : eqb s.number 0 ≡ false = ap (λ m. eqb m 0) number_is ∙ not_done e in
    rw refuses (record { answered = h; undo_length = refl; undo_output = refl })

-- what the exit of a `?` answers is the refusal that it was given, as the call's
pub undo-handed : {a : Spec.UndoAnswer} {before after : Outputs} {P : Answer → Type 0} (done : Result Written Answer) → IsErrAnd done P
    → ((r : Answer) → P r → UndoAnswered a before after (as_undo_answer (Err r))) → UndoAnswered a before after (as_undo_answer done)
undo-handed {a} {before} {after} done is h =
    let p = err_from_is_err_and done is in subst (λ o. UndoAnswered a before after (as_undo_answer o)) (sym p.1) (h p.0 p.2)

-- ---- "then, for an undo that could not be read back, 9, 5, 6, 2"
module _ (room : ℕ) (t : Bytes) (u : Value.Value) where
  pub undo_unreadable : (n : ℕ) → undo_number u ≡ n → eqb n 0 ≡ false → undo_written room t u ≡ undo_refusal (Plain.refusal n 2 0 0)
  unfolding undo_number undo_written
  undo_unreadable n e bad =
      by_test (leb (count u.kids) max_operations)
      (λ a. by_test (leb (depth u) max_depth)
      (λ b. by_test (leb (nodes u) max_nodes)
      (λ c. by_test (leb (length (write u)) max_bytes)
      (λ d. absurd (true≢false (ap (λ m. eqb m 0) (rw (a, b, c, d) at e) ∙ bad)))
      (λ d. rw (a, b, c, d) (ap (λ m. undo_refusal (Plain.refusal m 2 0 0)) (rw (a, b, c, d) at e))))
      (λ c. rw (a, b, c) (ap (λ m. undo_refusal (Plain.refusal m 2 0 0)) (rw (a, b, c) at e))))
      (λ b. rw (a, b) (ap (λ m. undo_refusal (Plain.refusal m 2 0 0)) (rw (a, b) at e))))
      (λ a. rw a (ap (λ m. undo_refusal (Plain.refusal m 2 0 0)) (rw a at e)))

  pub undo_readable : undo_number u ≡ 0 → (undo_written room t u ≡ undo_fitting room t (write u)) × (length (write u) ≤ max_bytes)
  unfolding undo_number undo_written
  undo_readable e =
      by_test (leb (count u.kids) max_operations)
      (λ a. by_test (leb (depth u) max_depth)
      (λ b. by_test (leb (nodes u) max_nodes)
      (λ c. by_test (leb (length (write u)) max_bytes)
      (λ d. (rw (a, b, c, d), leb-true (length (write u)) max_bytes d))
      (λ d. absurd (let f : ◌≡◌ {A = ℕ} 2 0 = rw (a, b, c, d) at e in omega arith)))
      (λ c. absurd (let f : ◌≡◌ {A = ℕ} 6 0 = rw (a, b, c) at e in omega arith)))
      (λ b. absurd (let f : ◌≡◌ {A = ℕ} 5 0 = rw (a, b) at e in omega arith)))
      (λ a. absurd (let f : ◌≡◌ {A = ℕ} 9 0 = rw a at e in omega arith))

  -- "then 16 for a short undo output"
  pub undo_short : (w : Bytes) → room < length w → undo_fitting room t w ≡ undo_refusal (Plain.refusal output_too_short 0 0 0)
  unfolding undo_fitting
  undo_short w h = rw (lt-leb (length w) room h)

  pub undo_fits : (w : Bytes) → length w ≤ room → undo_fitting room t w ≡ undo_success t w
  unfolding undo_fitting
  undo_fits w h = rw (le-leb (length w) room h)

pub after-success : (room : ℕ) (t : Bytes) (u : Value.Value) → after_patch room (Plain.success t) u ≡ undo_written room t u
unfolding after_patch
after-success room t u = refl
