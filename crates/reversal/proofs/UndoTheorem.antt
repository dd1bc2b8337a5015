-- The undo's theorem, over whole texts.
use Rattle.std.specs.Prelude.{if◌then◌else◌}
use mathlib.Core.Path.{◌≡◌, refl, ap, sym, ◌∙◌}
use mathlib.Core.Bool.{Bool, true, false, true≢false}
use mathlib.Core.List.{[]}
use Prim.Native.Nat.{ℕ, ◌≤◌}
use lib.ListN.{length}
use lib.Dec.{leb, eqb}
use borrow.Author.Tests.{leb-true, eq-eqb}
use Rattle.spec.specs.Outcome.{ok}
use Rattle.spec.specs.Limits.{max_bytes, max_depth, max_nodes, max_operations}
use Rattle.spec.specs.Bytes.{Bytes}
use Rattle.spec.specs.Forest.{count}
use Rattle.spec.specs.Value as Value
use Rattle.spec.specs.Value.{depth, nodes}
use Rattle.spec.specs.Equality.{equal}
use Rattle.spec.specs.Read.{read}
use Rattle.spec.specs.Write.{write}
use Rattle.spec.specs.Operation.{Operation, limited}
use Rattle.spec.specs.Patch.{finished, run}
use Rattle.spec.specs.Answer.{Answer, Lent, answer, success, refusal, answer_of}
use Rattle.spec.specs.Region.{WellFormed, Enough}
use Rattle.spec.proofs.RegionTheorem.{called, work_enough, fits}
use Rattle.spec.specs.Proper.{Proper, Readable}
use Rattle.spec.specs.Distinct.{Distinct}
use Rattle.claims.specs.Equality.{Reordered}
use Rattle.claims.specs.RoundTrip.{Patched}
use Rattle.claims.proofs.Alike.{permuted_alike}
use Rattle.claims.proofs.Matching.{alike_repeats}
use Rattle.spec.proofs.NameLaws.{proper_repeats}
use Rattle.claims.proofs.EqualityTheorem.{equality}
use Rattle.claims.proofs.ProperPatch.{AllProper, shape_proper, run_readable}
use Rattle.claims.proofs.RoundTripTheorem.{round_trip}
use Rattle.reversal.specs.Undo.{undo_of, undo_run}
use Rattle.reversal.specs.UndoValue.{undo_value}
use Rattle.reversal.specs.UndoAnswer.{UndoAnswer, UndoLent, undo_success, undo_refusal, undo_shaped, undo_read, undo_operations, undo_fitting, undo_written}
use Rattle.reversal.specs.UndoAnswer.{after_patch, undo_answer}
use Rattle.reversal.specs.Statement.{TakenBack, UndoStatement}
use Rattle.reversal.proofs.Like.{LikeValues, like_permuted, like_reordered}
use Rattle.reversal.proofs.EqualDocuments.{reordered_equal, limited_performs, equal-answers}
use Rattle.reversal.proofs.UndoOne.{Undoes, undo_one}
use Rattle.reversal.proofs.UndoAll.{runs_finish, undo_all}
use Rattle.reversal.proofs.Plain.{AllPlain, all_plain_proper, run_plain}
use Rattle.reversal.proofs.UndoShape.{undo_proper, undo_shape}
use Rattle.reversal.proofs.UndoTextLaws.{undo_text_lem}
use Rattle.reversal.proofs.Numbered.{NumberedAnswer, done, refuses, answer-numbered}

-- a document that differs in member order alone is equal to the original
equal_back : (v w : Value.Value) → Proper v → LikeValues ◌≡◌ v w → equal w v ≡ true
equal_back v w p r =
    let first : Distinct v = proper_repeats p.items in
    let second : Distinct w = rw r.labels at (alike_repeats (permuted_alike (like_permuted r.kids)) first) in
    equality.symmetric v w first second (reordered_equal v w p r)

-- What is known where both texts are written

if_written : {C : Type 0} (test : Bool) {a b : UndoAnswer} {text undo : Bytes} → (if test then a else b) ≡ undo_success text undo →
    (test ≡ true → a ≡ undo_success text undo → C) → (b ≡ undo_success text undo → C) → C
if_written true h f g = f refl h
if_written false h f g = g h

not_written : {C : Type 0} (a : Answer) {text undo : Bytes} → eqb a.number 0 ≡ false → undo_refusal a ≡ undo_success text undo → C
not_written a n h = absurd (true≢false (sym (eq-eqb a.number 0 (ap (λ a. a.answer.number) h)) ∙ n))

record Fitting (u : Value.Value) (undo : Bytes) : Type 0 where
  few_operations : leb (count u.kids) max_operations ≡ true
  shallow : depth u ≤ max_depth
  few : nodes u ≤ max_nodes
  short : length undo ≤ max_bytes
  is : write u ≡ undo

record BothWritten (a : Answer) (u : Value.Value) (text undo : Bytes) : Type 0 where
  plain : a ≡ success text
  fitting_undo : Fitting u undo

written_fits : (room : ℕ) (t : Bytes) (u : Value.Value) (text undo : Bytes) → undo_written room t u ≡ undo_success text undo →
    BothWritten (success t) u text undo
unfolding undo_written undo_fitting
written_fits room t u text undo h =
    if_written (leb (count u.kids) max_operations) h
    (λ c h1.
    if_written (leb (depth u) max_depth) h1
    (λ d h2.
    if_written (leb (nodes u) max_nodes) h2
    (λ n h3.
    if_written (leb (length (write u)) max_bytes) h3
    (λ l h4.
    if_written (leb (length (write u)) room) h4
    (λ _ h5.
    let same : write u ≡ undo = ap (λ a. a.undo) h5 in
    record {
      plain = ap (λ a. a.answer) h5;
      fitting_undo = record {
        few_operations = c;
        shallow = leb-true _ _ d;
        few = leb-true _ _ n;
        short = rw same at (leb-true (length (write u)) max_bytes l);
        is = same;
      };
    })
    (not_written (refusal 16 0 0 0) refl))
    (not_written (refusal 2 2 0 0) refl))
    (not_written (refusal 6 2 0 0) refl))
    (not_written (refusal 5 2 0 0) refl))
    (not_written (refusal 9 2 0 0) refl)

after_fits : {a : Answer} (room : ℕ) (u : Value.Value) (text undo : Bytes) → NumberedAnswer a → after_patch room a u ≡ undo_success text undo →
    BothWritten a u text undo
unfolding after_patch
after_fits room u text undo (done {t = t}) h = written_fits room t u text undo h
after_fits room u text undo (refuses n _ _ _ _ q) h = not_written _ q (rw q at h)

both-written : (document patch text undo : Bytes) (lent : UndoLent) → undo_answer document patch lent ≡ undo_success text undo →
    BothWritten (answer document patch lent.patch) (undo_value (undo_operations document patch)) text undo
unfolding undo_answer
both-written document patch text undo lent h =
    if_written (leb max_bytes lent.work) h (λ _ i. after_fits lent.undo _ text undo (answer-numbered document patch lent.patch) i)
    (not_written (refusal 1 0 0 0) refl)

-- The undo's text, read back

module _ (document patch text undo : Bytes) (lent : UndoLent) (h : undo_answer document patch lent ≡ undo_success text undo) where
  both_texts : BothWritten (answer document patch lent.patch) (undo_value (undo_operations document patch)) text undo
  both_texts = both-written document patch text undo lent h

  run_is : Patched document patch text
  run_is = round_trip.written document patch text lent.patch both_texts.plain

  undo_is : undo_operations document patch ≡ undo_run run_is.operations run_is.before
  unfolding undo_operations undo_read undo_shaped
  undo_is = rw (run_is.accepted.reads, run_is.formed.reads, run_is.formed.shaped)

  document_readable : Readable run_is.before
  document_readable = round_trip.readable document run_is.before run_is.accepted.reads

  operations_proper : AllProper run_is.operations
  operations_proper =
      let f = run_is.formed in
      shape_proper f.patch run_is.operations (round_trip.readable patch f.patch f.reads).proper f.shaped

  undo_plain : AllPlain (undo_operations document patch)
  undo_plain = rw undo_is (run_plain run_is.operations run_is.before operations_proper document_readable.proper)

  undo_formed : WellFormed undo (undo_operations document patch)
  undo_formed =
      let us = undo_operations document patch in
      let f = both_texts.fitting_undo in
      let readable : Readable (undo_value us) = record { proper = undo_proper us undo_plain; shallow = f.shallow; few = f.few } in
      record {
        fits = f.short;
        patch = undo_value us;
        reads = ap read (sym f.is) ∙ round_trip.read_back (undo_value us) readable;
        shaped = undo_shape us undo_plain f.few_operations;
      }

  -- THE UNDO TAKES BACK the patch
  taken_back : length text ≤ max_bytes → (again : Lent) → Enough text undo again → TakenBack document text undo again
  unfolding answer_of
  taken_back short again enough =
      let e = run_is.after in
      let readable-after = round_trip.readable text e run_is.reads in
      let undone : Undoes (undo_operations document patch) e run_is.before =
      rw undo_is (undo_all 1 run_is.operations run_is.before e operations_proper document_readable readable-after.proper run_is.runs) in
      let last = undone.result in
      let runs = runs_finish 1 undone.runs in
      let readable-last = run_readable 1 (undo_operations document patch) e last (all_plain_proper undo_plain) readable-after runs in
      let call = called again (work_enough enough) (record { fits = short; reads = run_is.reads }) undo_formed ∙ ap (answer_of again.output) runs in
      record {
        original = run_is.before;
        restored = last;
        reads = run_is.accepted.reads;
        succeeds = call ∙ fits again.output (write last) (λ n. enough.output (ap (λ a. a.number) call ∙ n));
        reads_back = round_trip.read_back last readable-last;
        equals = equal_back run_is.before last document_readable.proper undone.like;
        reordered = like_reordered undone.like;
      }

-- one operation
one_undone : (o : Operation) (v w : Value.Value) → Readable v → limited o v ≡ ok w →
    (restored : Value.Value) × (run limited 1 (undo_of o v) w ≡ finished restored) × (equal restored v ≡ true) × Reordered v restored
one_undone o v w r h =
    let u = undo_one o v w r (limited_performs o v w h).0 in
    (u.result, runs_finish 1 u.runs, equal_back v u.result r.proper u.like, like_reordered u.like)

-- no text beside a refusal
record Silent (a : UndoAnswer) : Type 0 where
  silent : (a.answer.number ≡ 0 → ⊥) → (a.answer.written ≡ []) × (a.undo ≡ [])

either_silent : (test : Bool) {a b : UndoAnswer} → Silent a → Silent b → Silent (if test then a else b)
either_silent true p q = p
either_silent false p q = q

refusal_silent : (number text op place : ℕ) → Silent (undo_refusal (refusal number text op place))
refusal_silent number text op place = record { silent = λ _. (refl, refl) }

written_silent : (room : ℕ) (t : Bytes) (u : Value.Value) → Silent (undo_written room t u)
unfolding undo_written undo_fitting
written_silent room t u =
    either_silent (leb (count u.kids) max_operations)
    (either_silent (leb (depth u) max_depth)
    (either_silent (leb (nodes u) max_nodes)
    (either_silent (leb (length (write u)) max_bytes)
    (either_silent (leb (length (write u)) room) (record { silent = λ h. absurd (h refl) }) (refusal_silent _ _ _ _))
    (refusal_silent _ _ _ _))
    (refusal_silent _ _ _ _))
    (refusal_silent _ _ _ _))
    (refusal_silent _ _ _ _)

after_silent : {a : Answer} (room : ℕ) (u : Value.Value) → NumberedAnswer a → Silent (after_patch room a u)
unfolding after_patch
after_silent room u (done {t = t}) = written_silent room t u
after_silent room u (refuses n _ _ _ _ q) = rw q (record { silent = λ _. (refl, refl) })

undo_silent : (document patch : Bytes) (lent : UndoLent) → Silent (undo_answer document patch lent)
unfolding undo_answer
undo_silent document patch lent =
    either_silent (leb max_bytes lent.work) (after_silent lent.undo _ (answer-numbered document patch lent.patch)) (refusal_silent _ _ _ _)

pub undo_theorem : UndoStatement
undo_theorem =
    record {
      takes_back = λ document patch text undo lent again s. taken_back document patch text undo lent s.written s.fits again s.enough;
      operation_undone = one_undone;
      equal-answers = equal-answers;
      well_formed_lem = undo_formed;
      text = undo_text_lem;
      same_text = λ document patch text undo lent h. (both_texts document patch text undo lent h).plain;
      nothing_written = λ document patch lent. (undo_silent document patch lent).silent;
    }
