-- A whole text that is written is read back, and what the call writes is such a text.
use Rattle.std.specs.Prelude.{if◌then◌else◌}
use mathlib.Core.Path.{◌≡◌, refl, ap, sym, ◌∙◌}
use mathlib.Core.List.{List, [], ◌++◌, append-nil}
use mathlib.Core.Bool.{Bool, true, false, not}
use Prim.Native.Nat.{ℕ, ◌+◌, ◌<◌, ◌≤◌}
use native.Mathlib.Nat.{zero-add}
use native.Mathlib.Omega.{arith}
use lib.Dec.{leb, ltb}
use lib.ListN.{length}
use borrow.Author.Tests.{eq-eqb, ltb-false}
use Rattle.spec.specs.Outcome.{Outcome, ok, refused, ◌>>=◌}
use Rattle.spec.specs.Limits.{max_bytes}
use Rattle.spec.specs.Bytes.{Bytes, Text, byte}
use Rattle.spec.specs.Forest.{size}
use Rattle.spec.specs.Value as Value
use Rattle.spec.specs.Value.{Label, leaf, tag, is_container, levels, depth, nodes}
use Rattle.spec.specs.Read.{is_blank, read}
use Rattle.spec.specs.Write.{write}
use Rattle.spec.specs.Operation.{Operation, limited}
use Rattle.spec.specs.Patch.{Run, finished, stopped, on_finish, shape, run}
use Rattle.spec.specs.Answer.{Answer, Lent, answer, success, refusal, work_suffices, fitting, answer_of, patched, on_patch, on_document, answer_in}
use Rattle.spec.specs.Region.{WellFormed}
use Rattle.spec.proofs.Tracking.{nothing_ends, past_end}
use Rattle.spec.proofs.ReadLaws.{read-depth}
use Rattle.spec.specs.Proper as Proper
use Rattle.spec.specs.Proper.{ScalarValues, Readable}
use Rattle.claims.specs.RoundTrip.{Patched, RoundTripStatement}
use Rattle.claims.proofs.Rest.{Rest}
use Rattle.claims.proofs.NumberText.{blanks_none}
use Rattle.claims.proofs.ValueBack.{value-begins, value-back, items_back}
use Rattle.claims.proofs.ReadProper.{read_proper}
use Rattle.claims.proofs.ProperPatch.{shape_proper, run_readable, patch_stops, patch_finishes}

read_back : (v : Value.Value) → Readable v → read (write v) ≡ ok v
unfolding read depth nodes byte is_blank ◌>>=◌
read_back v r =
    let s = write v in
    let p = r.proper in
    let few = r.few in
    let text : Rest (write v) 0 (write v ++ []) = record { is = sym (append-nil (write v)) } in
    let begins = value-begins v [] p.allows text in
    let reads = value-back 32 0 [] (items_back (write v) v.kids) p.allows p.items r.shallow (omega arith) nothing_ends text in
    let end = past_end (write v) {at = length (write v)} (omega arith) in
    rw (blanks_none s 0 begins.no_blank, reads, zero-add (length (write v)), blanks_none s (length s) (ap is_blank end), eq-eqb (length s) (length s) refl)

characters_back : (cs : Text) → ScalarValues cs → read (write (leaf (Label.string cs))) ≡ ok (leaf (Label.string cs))
unfolding depth levels is_container tag nodes size
characters_back cs h =
    read_back (leaf (Label.string cs))
    (record { proper = record { allows = Proper.string h; items = Proper.empty }; shallow = omega arith; few = omega arith })

one_text : (v w : Value.Value) → Readable v → Readable w → write v ≡ write w → v ≡ w
one_text v w p q h =
    let same : ok v ≡ ok w = sym (read_back v p) ∙ ap read h ∙ read_back w q in
    cc

readable : (s : Bytes) (v : Value.Value) → read s ≡ ok v → Readable v
readable s v h = let p = read_proper s v h in record { proper = p.0; shallow = read-depth s v h; few = p.1 }

formed_run : (patch : Bytes) (operations : List Operation) (v w : Value.Value) → WellFormed patch operations → Readable v →
    run limited 1 operations v ≡ finished w → Readable w
formed_run patch operations v w f r h =
    run_readable 1 operations v w (shape_proper f.patch operations (readable patch f.patch f.reads).proper f.shaped) r h

-- The answer: a text is written only where every step went well.

if_success : {C : Type 0} (test : Bool) {a b : Answer} {text : Bytes} → (if test then a else b) ≡ success text
    → (test ≡ true → a ≡ success text → C) → (test ≡ false → b ≡ success text → C) → C
if_success true h f g = f refl h
if_success false h f g = g refl h

no_success : {C : Type 0} (number in_text op place : ℕ) {text : Bytes} → 0 < number + (in_text + op) → refusal number in_text op place ≡ success text → C
no_success number in_text op place l h =
    let n = ap (λ a. a.number) h in
    let t = ap (λ a. a.text) h in
    let o = ap (λ a. a.op) h in
    absurd (omega arith)

module _ (document patch text : Bytes) (room : ℕ) (document_fits : length document ≤ max_bytes) (patch_fits : length patch ≤ max_bytes) where
  run-written : (d p : Value.Value) (r : Run Value.Value) → read document ≡ ok d → read patch ≡ ok p → on_finish (shape p) (λ os. run limited 1 os d) ≡ r →
      answer_of room r ≡ success text → Patched document patch text
  unfolding answer_of fitting
  run-written d p (stopped s) rd rp q h =
      let real = patch_stops p d s q in
      let number = ap (λ a. a.number) h in
      let op = ap (λ a. a.op) h in
      absurd (omega arith)
  run-written d p (finished v) rd rp q h =
      let (os, shaped, runs) = patch_finishes p d v q in
      let formed : WellFormed patch os = record { fits = patch_fits; patch = p; reads = rp; shaped = shaped } in
      let r = formed_run patch os d v formed (readable document d rd) runs in
      if_success (leb (length (write v)) room) h
      (λ _ i.
      let same : write v ≡ text = ap (λ a. a.written) i in
      record {
        before = d;
        after = v;
        operations = os;
        accepted = record { fits = document_fits; reads = rd };
        formed = formed;
        runs = runs;
        writes = sym same;
        reads = ap read (sym same) ∙ read_back v r;
      })
      (λ _ i. no_success 16 0 0 0 (omega arith) i)

  patch-written : (d : Value.Value) (o : Outcome Value.Value) → read document ≡ ok d
      → read patch ≡ o → on_patch room d o ≡ success text → Patched document patch text
  unfolding on_patch patched
  patch-written d (ok p) rd rp h = run-written d p _ rd rp refl h
  patch-written d (refused number place) rd rp h = no_success number 2 0 place (omega arith) h

  document-written : (o : Outcome Value.Value) → read document ≡ o → on_document room o patch ≡ success text → Patched document patch text
  unfolding on_document
  document-written (ok d) rd h = patch-written d (read patch) rd refl h
  document-written (refused number place) rd h = no_success number 1 0 place (omega arith) h

written : (document patch text : Bytes) (lent : Lent) → answer document patch lent ≡ success text → Patched document patch text
unfolding answer answer_in
written document patch text lent h =
    if_success (not (work_suffices lent)) h
    (λ _ i. no_success 1 0 0 0 (omega arith) i)
    λ _ i. if_success (ltb max_bytes (length document)) i
    (λ _ j. no_success 2 1 0 0 (omega arith) j)
    λ d j. if_success (ltb max_bytes (length patch)) j
    (λ _ k. no_success 2 2 0 0 (omega arith) k)
    λ p k. document-written document patch text lent.output (ltb-false _ _ d) (ltb-false _ _ p) (read document) refl k

pub round_trip : RoundTripStatement
round_trip =
    record {
      characters_back = characters_back;
      read_back = read_back;
      one_text = one_text;
      readable = readable;
      read_again = λ s v h. read_back v (readable s v h);
      run_readable = formed_run;
      written = written;
    }
