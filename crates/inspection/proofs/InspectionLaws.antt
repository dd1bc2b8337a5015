-- Laws of one patch: its operations are what is counted, and the plain call refuses alike.
use Rattle.std.specs.Prelude.{if◌then◌else◌}
use Prim.Native.Nat.{ℕ, ◌+◌, ◌≤◌, ◌<◌}
use native.Mathlib.Omega.{arith}
use native.Mathlib.Decide.{dec_lt}
use mathlib.Core.Path.{◌≡◌, refl, sym, ap, ap₂, subst, ◌∙◌}
use mathlib.Core.Bool.{Bool, true, false}
use mathlib.Core.List.{List, [], ◌∷◌}
use lib.ListN.{length}
use lib.Dec.{leb}
use borrow.Author.Tests.{lt-ltb, le-ltb, leb-true}
use Rattle.spec.specs.Outcome.{Outcome, ok, refused}
use Rattle.spec.specs.Refusal.{done, input_too_long, wrong_shape, too_many_operations}
use Rattle.spec.specs.Limits.{max_bytes, max_operations}
use Rattle.spec.specs.Bytes.{Bytes}
use Rattle.spec.specs.Forest.{none, tree, count}
use Rattle.spec.specs.Value as Value
use Rattle.spec.specs.Value.{Members, is_array}
use Rattle.spec.specs.Read.{read}
use Rattle.spec.specs.Operation as Operation
use Rattle.spec.specs.Patch.{Stop, stop, Run, finished, stopped, no_pointer, at_op, on_finish, operation, operations, shape}
use Rattle.spec.specs.Answer as Answer
use Rattle.spec.specs.Answer.{Lent, work_suffices, answer_of, patched, on_patch, on_document, answer_in, answer}
use Rattle.spec.specs.Shape.{Wrong, no-members, no_path, no_from, into_child, FirstWrong, here, later, NoPatch, not-array, too_many, wrong_element}
use Rattle.spec.proofs.ShapeTheorem.{shaped_so}
use Rattle.grammar.proofs.Refusing.{Refusing, refused_so}
use Rattle.grammar.proofs.Faults.{Fault, by_3, by_4, by_5, by_6, by_7, read_faults}
use Rattle.inspection.specs.Inspection.{no_counts, one_of, total, counts_of, Inspection, accepted, refusal, of_shape, of_reading, inspection}
use Rattle.inspection.specs.Claims.{RefusedAlike, WellFormed, AcceptedWhole, FewCounted, NoneRefused}
use Rattle.inspection.proofs.TallyLaws.{none_total, total-plus}

-- ---- all six together are the operations
pub total-one : (k : Operation.Kind) → total (one_of k) ≡ 1
unfolding total one_of
total-one Operation.add = refl
total-one Operation.remove = refl
total-one Operation.replace = refl
total-one Operation.move = refl
total-one Operation.copy = refl
total-one Operation.test = refl

pub total_counts : (os : List Operation.Operation) → total (counts_of os) ≡ length os
unfolding total counts_of
total_counts [] = refl
total_counts (o ∷ os) = total-plus (one_of o.kind) (counts_of os) ∙ omega (arith, total-one o.kind, total_counts os)

-- ---- a patch has as many operations as elements
operations-count : (op : ℕ) (f : Members) (os : List Operation.Operation) → operations op f ≡ finished os → length os ≡ count f
unfolding operations count on_finish
operations-count op none os e = let same : [] ≡ os = cc in rw (sym same)
operations-count op (tree e kids rest) os h =
    go (at_op op no_pointer (operation (record { label = e.label; kids = kids }))) (operations (op + 1) rest) refl (operations-count (op + 1) rest) h
  where
    go : (a : Run Operation.Operation) (b : Run (List Operation.Operation)) → operations (op + 1) rest ≡ b
        → ((qs : List Operation.Operation) → operations (op + 1) rest ≡ finished qs → length qs ≡ count rest)
        → on_finish a (λ o. on_finish b λ qs. finished (o ∷ qs)) ≡ finished os → length os ≡ count (tree e kids rest)
    go (finished o) (finished qs) is ih h = let same : (o ∷ qs) ≡ os = cc in rw (sym same) (omega (arith, ih qs is))
    go (finished o) (stopped s) is ih h = absurd (let z : ◌≡◌ {A = ℕ} 0 1 = cc in omega arith)
    go (stopped s) b is ih h = absurd (let z : ◌≡◌ {A = ℕ} 0 1 = cc in omega arith)

none_few : total no_counts ≤ max_operations
none_few = omega (arith, none_total)

shape_few : (v : Value.Value) (os : List Operation.Operation) → shape v ≡ finished os → length os ≤ max_operations
unfolding shape
shape_few v os e = go (is_array v.label) (leb (count v.kids) max_operations) refl e
  where
    go : (array few : Bool) → leb (count v.kids) max_operations ≡ few
        → (if array then (if few then operations 1 v.kids else stopped (stop too_many_operations 0 0 0)) else stopped (stop wrong_shape 0 0 0)) ≡ finished os
        → length os ≤ max_operations
    go true true few h = omega (arith, operations-count 1 v.kids os h, leb-true (count v.kids) max_operations few)
    go true false few h = absurd (let z : ◌≡◌ {A = ℕ} 0 1 = cc in omega arith)
    go false b few h = absurd (let z : ◌≡◌ {A = ℕ} 0 1 = cc in omega arith)

-- ---- no refusal has the number 0
wrong_some : {v : Value.Value} {n : ℕ} → Wrong v n → 0 < n
wrong_some (no-members h) = omega arith
wrong_some (no_path m h k) = omega arith
wrong_some (no_from m h k) = omega arith
wrong_some (into_child m path from h p f k q) = omega arith

first_some : {op n end : ℕ} {f : Members} → FirstWrong op f n end → 0 < n
first_some (here w) = wrong_some w
first_some (later o is w) = first_some w

no_patch_some : {v : Value.Value} {n op : ℕ} → NoPatch v n op → 0 < n
no_patch_some (not-array h) = omega arith
no_patch_some (too_many h k) = omega arith
no_patch_some (wrong_element h k w) = first_some w

shape_some : (v : Value.Value) (s : Stop) → shape v ≡ stopped s → 0 < s.number
shape_some v s e = no_patch_some ((shaped_so.wrong v s).0 e).0

fault_some : {s : Bytes} {n p : ℕ} → Fault s n p → 0 < n
fault_some by_3 = omega arith
fault_some (by_4 h) = omega arith
fault_some (by_5 h) = omega arith
fault_some (by_6 h) = omega arith
fault_some (by_7 h) = omega arith

read_some : (s : Bytes) (n p : ℕ) → read s ≡ refused n p → 0 < n
read_some s n p e = fault_some (refused_so (subst (Refusing (Fault s)) e (read_faults s)))

-- ---- each way through the definition
module _ (P : Bytes) where
  pub inspection_long : max_bytes < length P → inspection P ≡ refusal input_too_long 2 0 0
  unfolding inspection
  inspection_long h = rw (lt-ltb max_bytes (length P) h)

  module _ (short : length P ≤ max_bytes) where
    pub inspection_unread : (n p : ℕ) → read P ≡ refused n p → inspection P ≡ refusal n 2 0 p
    unfolding inspection of_reading
    inspection_unread n p e = rw (le-ltb max_bytes (length P) short, e)

    pub inspection-read : (v : Value.Value) → read P ≡ ok v → inspection P ≡ of_shape (shape v)
    unfolding inspection of_reading
    inspection-read v e = rw (le-ltb max_bytes (length P) short, e)

-- what an inspection is, with the reason for each
pub data Inspected (P : Bytes) : Inspection → Type 0 where
  long : max_bytes < length P → Inspected P (refusal input_too_long 2 0 0)
  unread : (n p : ℕ) → length P ≤ max_bytes → read P ≡ refused n p → Inspected P (refusal n 2 0 p)
  misshapen : (v : Value.Value) (s : Stop) → length P ≤ max_bytes → read P ≡ ok v → shape v ≡ stopped s →
      Inspected P (refusal s.number 0 s.op 0)
  whole : (v : Value.Value) (os : List Operation.Operation) → length P ≤ max_bytes → read P ≡ ok v → shape v ≡ finished os
      → Inspected P (accepted (counts_of os))

pub inspected : (P : Bytes) → Inspected P (inspection P)
unfolding of_shape
inspected P = go (dec_lt max_bytes (length P))
  where
    shaped : (v : Value.Value) → length P ≤ max_bytes → read P ≡ ok v → (r : Run (List Operation.Operation)) → shape v ≡ r → Inspected P (of_shape r)
    shaped v h e (finished os) s = whole v os h e s
    shaped v h e (stopped stops) s = misshapen v stops h e s

    reading : length P ≤ max_bytes → (o : Outcome Value.Value) → read P ≡ o → Inspected P (inspection P)
    reading h (ok v) e = rw (inspection-read P h v e) (shaped v h e (shape v) refl)
    reading h (refused n p) e = rw (inspection_unread P h n p e) (unread n p h e)

    go : Dec (max_bytes < length P) → Inspected P (inspection P)
    go (yes h) = rw (inspection_long P h) (long h)
    go (no h) = reading (omega arith) (read P) refl

-- ---- the claims
pub accepted_whole : AcceptedWhole
accepted_whole P e = go (inspected P) refl e
  where
    go : {i : Inspection} → Inspected P i → inspection P ≡ i → i.number ≡ done → WellFormed P
    go (long h) same z = absurd (omega arith)
    go (unread n p h r) same z = absurd (omega (arith, read_some P n p r))
    go (misshapen v t h r s) same z = absurd (omega (arith, shape_some v t s))
    go (whole v os h r s) same z =
        record {
          short = h;
          patch = v;
          reads = r;
          operations = os;
          shaped = s;
          counts = ap (λ i. i.counts) same;
          all = ap (λ i. total i.counts) same ∙ total_counts os;
        }

pub few_counted : FewCounted
few_counted P = go (inspected P)
  where
    go : {i : Inspection} → Inspected P i → total i.counts ≤ max_operations
    go (long h) = none_few
    go (unread n p h r) = none_few
    go (misshapen v t h r s) = none_few
    go (whole v os h r s) = omega (arith, total_counts os, shape_few v os s)

pub none_refused : NoneRefused
none_refused P some = go (inspected P) refl some
  where
    go : {i : Inspection} → Inspected P i → inspection P ≡ i → (i.number ≡ done → ⊥) → i.counts ≡ no_counts
    go (long h) same some = refl
    go (unread n p h r) same some = refl
    go (misshapen v t h r s) same some = refl
    go (whole v os h r s) same some = absurd (some refl)

-- ---- the plain call, on an accepted document
module _ (D P : Bytes) (lent : Lent) (v : Value.Value) (enough : work_suffices lent ≡ true) (small : length D ≤ max_bytes) (reads : read D ≡ ok v) where
  answer_long : max_bytes < length P → answer D P lent ≡ Answer.refusal input_too_long 2 0 0
  unfolding answer answer_in
  answer_long h = rw (enough, le-ltb max_bytes (length D) small, lt-ltb max_bytes (length P) h)

  module _ (short : length P ≤ max_bytes) where
    answer_unread : (n p : ℕ) → read P ≡ refused n p → answer D P lent ≡ Answer.refusal n 2 0 p
    unfolding answer answer_in on_document on_patch
    answer_unread n p e = rw (enough, le-ltb max_bytes (length D) small, le-ltb max_bytes (length P) short, reads, e)

    answer_stopped : (w : Value.Value) (t : Stop) → read P ≡ ok w → shape w ≡ stopped t → answer D P lent ≡ Answer.failure t
    unfolding answer answer_in on_document on_patch patched on_finish answer_of
    answer_stopped w t e s = rw (enough, le-ltb max_bytes (length D) small, le-ltb max_bytes (length P) short, reads, e, s)

    -- the shape tells no place and no pointer
    answer_misshapen : (w : Value.Value) (t : Stop) → read P ≡ ok w → shape w ≡ stopped t → answer D P lent ≡ Answer.refusal t.number 0 t.op 0
    answer_misshapen w t e s =
        let (_, place, pointer) = (shaped_so.wrong w t).0 s in
        answer_stopped w t e s ∙ ap₂ (λ p q. Answer.failure (stop t.number t.op p q)) place pointer

pub refused_alike : RefusedAlike
refused_alike D P lent v enough small reads some = go (inspected P) some
  where
    go : {i : Inspection} → Inspected P i → (i.number ≡ done → ⊥) → answer D P lent ≡ Answer.refusal i.number i.text i.op i.place
    go (long h) some = answer_long D P lent v enough small reads h
    go (unread n p h r) some = answer_unread D P lent v enough small reads h n p r
    go (misshapen w t h r s) some = answer_misshapen D P lent v enough small reads h w t r s
    go (whole w os h r s) some = absurd (some refl)
