-- The region statement of SPECIFICATION 9.4, proved: specs/Region, `RegionStatement`, for every `Situation`.
-- From texts to operations: a shuffle of elements' bytes is a shuffle of the values that they are, and so of the operations that they mean. The runs of
-- operations are RunTheorem's, the limit on nodes is LimitTheorem's, and here they are put together for the whole call.
use Rattle.std.specs.Prelude.{if◌then◌else◌}
use mathlib.Core.Path.{◌≡◌, refl, ap, sym, ◌∙◌}
use mathlib.Core.Bool.{Bool, true, false}
use mathlib.Core.List.{List, [], ◌∷◌}
use mathlib.Core.Option.{Option, none, some}
use Prim.Native.Nat.{ℕ, ◌+◌}
use lib.ListN.{length}
use lib.Dec.{leb}
use borrow.Author.Tests.{le-ltb}
use Rattle.spec.specs.Outcome.{Outcome, ok, refused}
use Rattle.spec.specs.Refusal.{too_many_operations, wrong_shape, output_too_short}
use Rattle.spec.specs.Limits.{max_bytes, max_operations}
use Rattle.spec.specs.Bytes.{Bytes}
use Rattle.spec.specs.Forest as Forest
use Rattle.spec.specs.Forest.{count}
use Rattle.spec.specs.Value as Value
use Rattle.spec.specs.Value.{Members, is_array}
use Rattle.spec.specs.Write.{write}
use Rattle.spec.specs.Pointer.{Tokens}
use Rattle.spec.specs.Operation.{Operation, limited}
use Rattle.spec.specs.Patch.{stop, Run, finished, stopped, no_pointer, at_op, on_finish, operation, operations, shape, run}
use Rattle.spec.specs.Answer.{Lent, success, work_suffices, fitting, answer, answer_of, patched, on_patch, on_document, answer_in}
use Rattle.spec.specs.Elements.{Alone, Each, nothing, one, ElementsOf}
use Rattle.spec.specs.Region.{Shuffle, done, left, right, Accepted, WellFormed, Enough, SucceedsWith, succeeds, bare_run, of_first, of_second}
use Rattle.spec.specs.Region.{turns, first_end, first_too_large, Situation, RegionStatement}
use Rattle.spec.proofs.OutcomeLaws.{first_ok}
use Rattle.spec.proofs.ReadLaws.{read-depth}
use Rattle.spec.proofs.ElementsThere.{slices, elements, slices_read}
use Rattle.spec.proofs.ElementsUnique.{slices_unique}
use Rattle.spec.proofs.LimitTheorem.{large_at, limited-run}
use Rattle.spec.proofs.RunTheorem.{Separate, all_finish, first_stops, finished≢stopped}

-- Operations of elements: each element means its operation.
pub data Meaning : List Value.Value → List Operation → Type 0 where
  no_element : Meaning [] []
  element : {v : Value.Value} {vs : List Value.Value} {o : Operation} {os : List Operation} → operation v ≡ ok o → Meaning vs os → Meaning (v ∷ vs) (o ∷ os)

operations_meaning : (op : ℕ) (f : Members) (os : List Operation) → operations op f ≡ finished os → Meaning (elements f) os
unfolding operations elements at_op on_finish
operations_meaning op Forest.none os h = let same : [] ≡ os = cc in rw (← same) no_element
operations_meaning op (Forest.tree e kids rest) os h =
    go (operation (record { label = e.label; kids = kids })) (operations (op + 1) rest) refl refl h (operations_meaning (op + 1) rest)
  where
    go : (o : Outcome Operation) (r : Run (List Operation)) → operation (record { label = e.label; kids = kids }) ≡ o → operations (op + 1) rest ≡ r →
        on_finish (at_op op no_pointer o) (λ o. on_finish r λ os. finished (o ∷ os)) ≡ finished os
        → ((os : List Operation) → operations (op + 1) rest ≡ finished os → Meaning (elements rest) os) →
        Meaning (elements (Forest.tree e kids rest)) os
    go (ok o) (finished later) q r h ih = let same : o ∷ later ≡ os = cc in rw (← same) (element q (ih later r))
    go (ok o) (stopped s) q r h ih = absurd (finished≢stopped (sym h))
    go (refused n p) r q t h ih = absurd (finished≢stopped (sym h))

-- what a patch whose shape is right is: an array, and its elements mean its operations
pub record Shaped (patch : Value.Value) (os : List Operation) : Type 0 where
  pub array : is_array patch.label ≡ true
  pub meaning : Meaning (elements patch.kids) os

pub shaped : (patch : Value.Value) (os : List Operation) → shape patch ≡ finished os → Shaped patch os
unfolding shape
shaped patch os h = go (is_array patch.label) (leb (count patch.kids) max_operations) refl h
  where
    go : (a b : Bool) → is_array patch.label ≡ a →
        (if a then (if b then operations 1 patch.kids else stopped (stop too_many_operations 0 0 0)) else stopped (stop wrong_shape 0 0 0)) ≡ finished os
        → Shaped patch os
    go true true e h = record { array = e; meaning = operations_meaning 1 patch.kids os h }
    go true false e h = absurd (finished≢stopped (sym h))
    go false b e h = absurd (finished≢stopped (sym h))

-- The elements of a well-formed patch are there, and no other texts are its elements.
pub elements-there : {P : Bytes} {os : List Operation} → WellFormed P os → ElementsOf P (slices P)
elements-there {os = os} w =
    let l = slices_read w.reads (shaped w.patch os w.shaped).array in
    record { values = elements w.patch.kids; layout = l.layout; alone = l.alone }

pub elements-unique : {P : Bytes} {os : List Operation} {es : List Bytes} → WellFormed P os → ElementsOf P es → slices P ≡ es
elements-unique {os = os} w e =
    slices_unique {vs = e.values} w.reads (shaped w.patch os w.shaped).array record { layout = e.layout; alone = e.alone }

-- texts that are values alone have no other values
same_values : {es : List Bytes} {us vs : List Value.Value} → Each Alone es us → Each Alone es vs → us ≡ vs
same_values nothing nothing = refl
same_values (one {y = u} {ys = us} a m) (one {y = v} {ys = vs} b n) =
    let here : u ≡ v = first_ok (sym a ∙ b) in
    let rest : us ≡ vs = same_values m n in
    cc

-- the elements of a well-formed patch are the values that are read, whichever way they were found
pub elements-read : {P : Bytes} {os : List Operation} {es : List Bytes} (w : WellFormed P os) (e : ElementsOf P es) → e.values ≡ elements w.patch.kids
elements-read {os = os} w e =
    let s = shaped w.patch os w.shaped in
    let there : Each Alone _ (elements w.patch.kids) = rw (elements-unique w e) at (slices_read w.reads s.array).alone in
    same_values e.alone there

-- so each of them means its operation
pub elements-meaning : {P : Bytes} {os : List Operation} {es : List Bytes} → WellFormed P os → (e : ElementsOf P es) → Meaning e.values os
elements-meaning {os = os} w e = rw (elements-read w e) (shaped w.patch os w.shaped).meaning

-- A shuffle of elements' bytes is a shuffle of their operations, in which each patch has the same turns.
record OperationsShuffled {es fs gs : List Bytes} (s : Shuffle es fs gs) (xs ys zs : List Operation) : Type 0 where
  order : Shuffle xs ys zs
  same_turns : (i j : ℕ) → turns order i j ≡ turns s i j

operations_shuffled : {es fs gs : List Bytes} {us vs ws : List Value.Value} {xs ys zs : List Operation} (s : Shuffle es fs gs) →
    Each Alone es us → Each Alone fs vs → Each Alone gs ws → Meaning us xs → Meaning vs ys → Meaning ws zs → OperationsShuffled s xs ys zs
unfolding turns
operations_shuffled done nothing nothing nothing no_element no_element no_element = record { order = done; same_turns = λ i j. refl }
operations_shuffled (left s) (one {y = u} a as') b (one {y = w} c cs) (element {o = o} m ms) n (element {o = o'} k ks) =
    let value : u ≡ w = first_ok (sym a ∙ c) in
    let same : o ≡ o' = cc in
    let rest = operations_shuffled s as' b cs ms n ks in
    rw (← same) record { order = left rest.order; same_turns = λ i j. ap (◌∷◌ (of_first i)) (rest.same_turns (i + 1) j) }
operations_shuffled (right s) a (one {y = v} b bs) (one {y = w} c cs) m (element {o = o} n ns) (element {o = o'} k ks) =
    let value : v ≡ w = first_ok (sym b ∙ c) in
    let same : o ≡ o' = cc in
    let rest = operations_shuffled s a bs cs m ns ks in
    rw (← same) record { order = right rest.order; same_turns = λ i j. ap (◌∷◌ (of_second j)) (rest.same_turns i (j + 1)) }

-- The call on an accepted document and a well-formed patch, where the work area suffices, is the run with limits.
pub called : {D P : Bytes} {d : Value.Value} {os : List Operation} (lent : Lent) → work_suffices lent ≡ true → Accepted D d → WellFormed P os →
    answer D P lent ≡ answer_of lent.output (run limited 1 os d)
unfolding answer answer_in on_document on_patch patched on_finish
called {D} {P} lent work a w = rw (work, le-ltb max_bytes (length D) a.fits, le-ltb max_bytes (length P) w.fits, a.reads, w.reads, w.shaped, answer_in)

-- where 1 does not apply, the work area suffices
pub work_enough : {D P : Bytes} {lent : Lent} → Enough D P lent → work_suffices lent ≡ true
unfolding answer answer_in
work_enough {D} {P} {lent} e = go (work_suffices lent) refl
  where
    go : (b : Bool) → work_suffices lent ≡ b → work_suffices lent ≡ true
    go true h = h
    go false h = absurd (e.work (rw (h, answer_in)))

-- where 16 does not apply, the text is written
pub fits : (room : ℕ) (t : Bytes) → ((fitting room t).number ≡ output_too_short → ⊥) → fitting room t ≡ success t
unfolding fitting
fits room t enough = go (leb (length t) room) refl
  where
    go : (b : Bool) → leb (length t) room ≡ b → fitting room t ≡ success t
    go true h = rw (h, fitting)
    go false h = absurd (enough (rw (h, fitting)))

module _ {D P Q Z : Bytes} {lent : Lent} {R S : Tokens} {d : Value.Value} {xs ys zs : List Operation} (c : Situation D P Q Z lent R S d xs ys zs) where
  ops : OperationsShuffled c.shuffle.order xs ys zs
  ops =
      let s = c.shuffle in
      operations_shuffled s.order s.first-elements.alone s.second-elements.alone s.all-elements.alone
      (elements-meaning c.first s.first-elements) (elements-meaning c.second s.second-elements) (elements-meaning c.both s.all-elements)

  separate : Separate d R S xs ys
  separate = record { shallow = read-depth D d c.accepted.reads; regions = c.regions; first-inside = c.first-inside; second-inside = c.second-inside }

  -- what the call answers, by the bare run
  call : answer D Z lent ≡ answer_of lent.output (large_at (first_too_large 1 zs d) (bare_run zs d))
  call = called lent (work_enough c.enough) c.accepted c.both ∙ ap (answer_of lent.output) (limited-run 1 zs d)

  call_at : (large : Option ℕ) (r : Run Value.Value) → first_too_large 1 zs d ≡ large
      → bare_run zs d ≡ r → answer D Z lent ≡ answer_of lent.output (large_at large r)
  call_at large r e f = call ∙ rw (e, f)

  -- SHUFFLES DON'T MATTER: the third demand, whole.
  pub region_theorem : RegionStatement c
  unfolding large_at answer_of succeeds
  region_theorem =
      record {
        both_succeed = λ t t' p q.
            let (w, shuffled, joined, joined') = all_finish separate ops.order p.finishes q.finishes in
            (write w, succeeds_with shuffled, succeeds_with joined, succeeds_with joined');
        otherwise = λ not_both.
            let (end, first, stops) = first_stops separate ops.order not_both in
            (end, ap (first_end (bare_run xs d) (bare_run ys d) 1) (sym (ops.same_turns 1 1)) ∙ first, stops);
        call_too_large = λ op large. call_at (some op) (bare_run zs d) large refl;
        call_refused = λ s small stops. call_at none (stopped s) small stops;
        call_succeeds = λ text small run.
            let written = call_at none (finished run.last) small run.finishes in
            let room = fits lent.output (write run.last) (λ short. c.enough.output (ap (λ a. a.number) written ∙ short)) in
            written ∙ room ∙ ap success run.writes;
      }
    where
      succeeds_with : {r : Run Value.Value} {w : Value.Value} → r ≡ finished w → SucceedsWith r (write w)
      succeeds_with {w = w} h = record { last = w; finishes = h; writes = refl }
