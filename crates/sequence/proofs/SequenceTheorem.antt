-- Patches in a row are one: specs/Sequence.
use mathlib.Core.Path.{◌≡◌, refl, ap, sym, subst, ◌∙◌}
use mathlib.Core.Bool.{Bool, true, false}
use mathlib.Core.List.{List, [], ◌∷◌, ◌++◌, append-nil}
use Prim.Native.Nat.{ℕ, ◌+◌, ◌≤◌}
use native.Mathlib.Nat.{add-zero}
use native.Mathlib.Omega.{arith}
use lib.ListN.{length}
use lib.Dec.{ltb}
use borrow.Author.Tests.{ltb-false, le-ltb}
use Rattle.spec.specs.Outcome.{Outcome, ok, refused}
use Rattle.spec.specs.Limits.{max_bytes}
use Rattle.spec.specs.Bytes.{Bytes}
use Rattle.spec.specs.Value as Value
use Rattle.spec.specs.Read.{read}
use Rattle.spec.specs.Write.{write}
use Rattle.spec.specs.Operation.{Operation, limited}
use Rattle.spec.specs.Patch.{Stop, stop, Run, finished, stopped, run}
use Rattle.spec.specs.Answer.{Answer, Lent, answer, answer_in, on_document, answer_of, success, failure, work_suffices}
use Rattle.spec.specs.Region.{Accepted, WellFormed, Enough}
use Rattle.spec.proofs.RegionTheorem.{called, work_enough, fits}
use Rattle.claims.proofs.RoundTripTheorem.{round_trip}
use Rattle.sequence.specs.Sequence as Sequence
use Rattle.sequence.specs.Sequence.{OpLess, later, same_text, same_refusal, InARow, FirstRefused, SequenceStatement}
use Rattle.sequence.specs.Sequence.{AllElements, no_patch, patch, Row, last, next, AllInARow}
use Rattle.sequence.proofs.RunLaws.{run_then, run_stays, run_further, stops_from, Further, finishes, stops}
use Rattle.sequence.proofs.MeansLaws.{Means, nothing_means, elements-mean, means_length, means_after}
use Rattle.sequence.proofs.JoinedLaws.{joined_formed}

-- an answer by the run that it comes from, whose operations are counted from n on
data Comes (n : ℕ) : Answer → Run Value.Value → Type 0 where
  written : (w : Value.Value) → Comes n (success (write w)) (finished w)
  ended : (s : Stop) → 1 ≤ s.op → Comes n (failure s) (stopped (later n s))

-- The answer to a well-formed patch, by the run of its operations.
module _ {D P : Bytes} {d : Value.Value} {os : List Operation} (lent : Lent) (a : Accepted D d) (w : WellFormed P os) (e : Enough D P lent) where
  answer-run : (r : Run Value.Value) → run limited 1 os d ≡ r → answer D P lent ≡ answer_of lent.output r
  answer-run r h = called lent (work_enough e) a w ∙ ap (answer_of lent.output) h

  answer_finished : (v : Value.Value) → run limited 1 os d ≡ finished v → answer D P lent ≡ success (write v)
  unfolding answer_of
  answer_finished v h =
      let is = answer-run (finished v) h in
      is ∙ fits lent.output (write v) (λ short. e.output (ap (λ a. a.number) is ∙ short))

  answer_stopped : (s : Stop) → run limited 1 os d ≡ stopped s → answer D P lent ≡ failure s
  unfolding answer_of
  answer_stopped s h = answer-run (stopped s) h

  comes : Comes 0 (answer D P lent) (run limited 1 os d)
  comes = go (run limited 1 os d) refl
    where
      go : (r : Run Value.Value) → run limited 1 os d ≡ r → Comes 0 (answer D P lent) r
      go (finished v) h = rw (answer_finished v h) (written v)
      go (stopped s) h =
          let here : s.op + 0 ≡ s.op = omega arith in
          rw (answer_stopped s h)
          (subst (λ k. Comes 0 (failure s) (stopped (stop s.number k s.place s.pointer))) here (ended s (stops_from os 1 d s h)))

  -- another answer that comes from that run
  op_less : {n : ℕ} {b : Answer} (r : Run Value.Value) → run limited 1 os d ≡ r → Comes n b r → OpLess n b (answer D P lent)
  op_less r h (written v) = rw (answer_finished v h) (same_text (write v))
  op_less {n} r h (ended s l) = rw (answer_stopped (later n s) h) (same_refusal s l)

further : {m k : ℕ} {a : Answer} {r s : Run Value.Value} → Comes m a r → Further k r s → Comes (k + m) a s
further (written w) (finishes u) = written u
further {m} {k} (ended s l) (stops _) =
    let count : s.op + (k + m) ≡ s.op + m + k = omega arith in
    subst (λ i. Comes (k + m) (failure s) (stopped (stop s.number i s.place s.pointer))) count (ended s l)

-- a run that stops, with further operations behind it
stays : {a : Answer} (d : Value.Value) (xs ys : List Operation) → (a.number ≡ 0 → ⊥) → (r : Run Value.Value) → run limited 1 xs d ≡ r →
    Comes 0 a r → Comes 0 a (run limited 1 (xs ++ ys) d)
stays d xs ys no_text r h (written w) = absurd (no_text refl)
stays d xs ys no_text r h (ended s l) = rw (run_stays xs ys 1 d (later 0 s) h) (ended s l)

nothing_left : {ys : List Operation} → Means [] ys → ys ≡ []
nothing_left nothing_means = refl

same_document : {D : Bytes} {d e : Value.Value} → Accepted D d → Accepted D e → d ≡ e
same_document {d = d} {e = e} a b = let same : ok d ≡ ok e = sym a.reads ∙ b.reads in cc

-- What a row of patches comes to is what the operations of all of them come to.
row : {document : Bytes} {patches es : List Bytes} {n : ℕ} {a : Answer} {d : Value.Value} {zs : List Operation} →
    Row document patches n a → AllElements patches es → Accepted document d → Means es zs → Comes n a (run limited 1 zs d)
row {d = d} (last {operations = xs} lent formed enough) (patch e no_patch) accepted m =
    let r = means_after (elements-mean formed e) m in
    let all = r.order ∙ ap (λ ys. xs ++ ys) (nothing_left r.rest) ∙ append-nil xs in
    rw all (comes lent accepted formed enough)
row {d = d} (Sequence.refused {operations = xs} lent others formed enough no_text) (patch e more) accepted m =
    let r = means_after (elements-mean formed e) m in
    rw r.order (stays d xs r.ys no_text (run limited 1 xs d) refl (comes lent accepted formed enough))
row {document} {d = d} (next {text = text} {elements = es} {n = n} lent succeeds fit e' later) (patch {first = first} e more) accepted m =
    let p = round_trip.written document first text lent succeeds in
    let xs = p.operations in
    let w = p.after in
    let r = means_after (elements-mean p.formed e) m in
    let ys = r.ys in
    let runs : run limited 1 xs d ≡ finished w = rw (same_document accepted p.accepted) p.runs in
    let on : Accepted text w = record { fits = omega (arith, fit); reads = p.reads } in
    let rest = further (row later more on r.rest) (run_further (length xs) ys 1 w) in
    rw (r.order, run_then xs ys 1 d w runs, means_length (elements-mean p.formed e')) rest

any-number : (document : Bytes) (patches : List Bytes) (joined : Bytes) (n : ℕ) (a : Answer) (lent : Lent) → AllInARow document patches joined n a lent →
    OpLess n a (answer document joined lent)
any-number document patches joined n a lent c =
    let means = elements-mean c.joined_formed c.joined-elements in
    op_less lent c.accepted c.joined_formed c.joined_enough _ refl (row c.row c.all-elements c.accepted means)

-- two patches in a row are a row
both : {document first text second joined : Bytes} {lent-first lent-second lent-joined : Lent} →
    (c : InARow document first text second joined lent-first lent-second lent-joined) →
    AllInARow document (first ∷ second ∷ []) joined (length c.join.firsts + 0) (answer text second lent-second) lent-joined
both {document} {first} {text} {lent-first = lent-first} {lent-second = lent-second} c =
    let p = round_trip.written document first text lent-first c.succeeds in
    let j = c.join in
    record {
      read_as = p.before;
      accepted = p.accepted;
      row = next lent-first c.succeeds (omega (arith, c.text_fits)) j.first-elements (last lent-second c.second_formed c.second-enough);
      elements = j.firsts ++ (j.seconds ++ []);
      all-elements = patch j.first-elements (patch j.second-elements no_patch);
      joined-elements = rw append-nil j.joined-elements;
      joined_operations = c.joined_operations;
      joined_formed = c.joined_formed;
      joined_enough = c.joined_enough;
    }

two : (document first text second joined : Bytes) (lent-first lent-second lent-joined : Lent) →
    (c : InARow document first text second joined lent-first lent-second lent-joined) →
    OpLess (length c.join.firsts) (answer text second lent-second) (answer document joined lent-joined)
two document first text second joined lent-first lent-second lent-joined c =
    let one = any-number document (first ∷ second ∷ []) joined _ _ lent-joined (both c) in
    rw add-zero at one

-- Where the first is refused: at one of its operations, or because the document is.

none_less : {a b : Answer} → OpLess 0 a b → b ≡ a
none_less (same_text t) = refl
none_less (same_refusal s l) = ap (λ k. failure (stop s.number k s.place s.pointer)) (add-zero s.op)

first_refused : (document first second joined : Bytes) (lent-first lent-joined : Lent) →
    FirstRefused document first second joined lent-first lent-joined → answer document joined lent-joined ≡ answer document first lent-first
unfolding answer answer_in on_document
first_refused document first second joined lent-first lent-joined c = go (ltb max_bytes (length document)) refl (read document) refl
  where
    work : work_suffices lent-first ≡ true
    work = work_enough c.first-enough

    joined_work : work_suffices lent-joined ≡ true
    joined_work = work_enough c.joined_enough

    go : (b : Bool) → ltb max_bytes (length document) ≡ b → (o : Outcome Value.Value) → read document ≡ o →
        answer document joined lent-joined ≡ answer document first lent-first
    go true h o q = rw (work, joined_work, h, answer_in)
    go false h (refused n p) q =
        let first_fits = le-ltb max_bytes (length first) c.first_formed.fits in
        let joined-fits = le-ltb max_bytes (length joined) c.joined_formed.fits in
        rw (work, joined_work, h, first_fits, joined-fits, q, answer_in)
    go false h (ok d) q =
        let accepted : Accepted document d = record { fits = ltb-false max_bytes (length document) h; reads = q } in
        let xs = c.first-operations in
        let r = means_after (elements-mean c.first_formed c.join.first-elements) (elements-mean c.joined_formed c.join.joined-elements) in
        let stops' = stays d xs r.ys c.refused (run limited 1 xs d) refl (comes lent-first accepted c.first_formed c.first-enough) in
        none_less (op_less lent-joined accepted c.joined_formed c.joined_enough (run limited 1 c.joined_operations d) refl (rw r.order stops'))

pub sequence : SequenceStatement
sequence = record { two = two; formed = joined_formed; first_refused = first_refused; any-number = any-number }
