-- What the definitions come to: specs/Claims.
use Rattle.std.specs.Prelude.{if◌then◌else◌}
use mathlib.Core.Path.{◌≡◌, refl, ap, sym, subst, ◌∙◌}
use mathlib.Core.Bool.{Bool, true, false, ◌&&◌, ◌||◌, not, true≢false}
use mathlib.Core.List.{List}
use Prim.Native.Nat.{ℕ, ◌≤◌, ◌<◌}
use native.Mathlib.Omega.{arith}
use lib.ListN.{length}
use lib.Dec.{leb}
use borrow.Author.Tests.{leb-true, leb-false, le-leb, lt-leb, le-ltb}
use Rattle.spec.specs.Outcome.{Outcome, ok, refused}
use Rattle.spec.specs.Limits.{max_bytes}
use Rattle.spec.specs.Bytes.{Bytes}
use Rattle.spec.specs.Forest.{none, tree, count}
use Rattle.spec.specs.Value as Value
use Rattle.spec.specs.Value.{Label, Members, tag, is_array}
use Rattle.spec.specs.Read.{read}
use Rattle.spec.specs.Pointer.{Tokens}
use Rattle.spec.specs.Operation.{Kind, Operation}
use Rattle.spec.specs.Patch.{proper_prefix, uses_from, Stop, stop, Run, finished, stopped, shape}
use Rattle.spec.specs.Shape.{ProperPrefix, AreOperations, IsPatch, Wrong}
use Rattle.spec.specs.Shape as Shape
use Rattle.spec.specs.Answer.{patched, on_patch, on_document, answer_in, answer}
use Rattle.spec.specs.Region.{strictly_inside, all_inside}
use Rattle.spec.proofs.RunTheorem.{finished≢stopped}
use Rattle.spec.proofs.ShapeTheorem.{shaped_so}
use Rattle.region.specs.Rule.{elements_within, shape_within}
use Rattle.region.specs.Answer.{region_tokens, patched_within, on_patch_within, on_document_within, answer_within}
use Rattle.region.specs.Claims as Claims
use Rattle.region.specs.Claims.{Makers, Permitted, AllPermitted, no_more, one_more, KeepsRule, keeps, IsPatchWithin, FirstFault, NoPatchWithin}
use Rattle.region.specs.Claims.{FirstBreak, BreaksRule, Passes}
use Rattle.region.specs.Claims.{ShapeWithinStatement, RuleStatement, InsideStatement, AllInsideStatement, TextsFirstStatement, PassesStatement}
use Rattle.region.proofs.ShapeLaws.{stopped_same, prefix_to, to_prefix}
use Rattle.region.proofs.RuleLaws.{elements-to, to-elements, fault_to, to_fault}

-- ---- the top value

array-to : (l : Label) → is_array l ≡ true → l ≡ Label.array
unfolding is_array tag
array-to Label.null_literal h = absurd (true≢false (sym h))
array-to Label.true_literal h = absurd (true≢false (sym h))
array-to Label.false_literal h = absurd (true≢false (sym h))
array-to Label.array h = refl
array-to Label.object h = absurd (true≢false (sym h))
array-to (Label.number s) h = absurd (true≢false (sym h))
array-to (Label.string s) h = absurd (true≢false (sym h))

to-array : {l : Label} → l ≡ Label.array → is_array l ≡ true
unfolding is_array tag
to-array e = rw e

no-array : (l : Label) → (l ≡ Label.array → ⊥) → is_array l ≡ false
no-array l n = go (is_array l) refl
  where
    go : (b : Bool) → is_array l ≡ b → is_array l ≡ false
    go true h = absurd (n (array-to l h))
    go false h = h

-- what a patch comes to, by the two tests on the whole of it
data Whole (R : Tokens) (v : Value.Value) (r : Run (List Operation)) : Type 0 where
  other : (v.label ≡ Label.array → ⊥) → r ≡ stopped (stop 8 0 0 0) → Whole R v r
  large : v.label ≡ Label.array → 256 < count v.kids → r ≡ stopped (stop 9 0 0 0) → Whole R v r
  listed : v.label ≡ Label.array → count v.kids ≤ 256 → r ≡ elements_within R v.kids → Whole R v r

whole : (R : Tokens) (v : Value.Value) → Whole R v (shape_within R v)
unfolding shape_within
whole R v = go (is_array v.label) refl (leb (count v.kids) 256) refl
  where
    go : (a : Bool) → is_array v.label ≡ a → (b : Bool) → leb (count v.kids) 256 ≡ b →
        Whole R v (if a then (if b then elements_within R v.kids else stopped (stop 9 0 0 0)) else stopped (stop 8 0 0 0))
    go true p true q = listed (array-to v.label p) (leb-true (count v.kids) 256 q) refl
    go true p false q = large (array-to v.label p) (leb-false (count v.kids) 256 q) refl
    go false p b q = other (λ e. true≢false (sym (to-array e) ∙ p)) refl

module _ (R : Tokens) (v : Value.Value) where
  whole_other : (v.label ≡ Label.array → ⊥) → shape_within R v ≡ stopped (stop 8 0 0 0)
  unfolding shape_within
  whole_other a = rw (no-array v.label a)

  module _ (l : v.label ≡ Label.array) where
    whole_large : 256 < count v.kids → shape_within R v ≡ stopped (stop 9 0 0 0)
    unfolding shape_within
    whole_large c = rw (to-array l, lt-leb (count v.kids) 256 c)

    whole_listed : count v.kids ≤ 256 → shape_within R v ≡ elements_within R v.kids
    unfolding shape_within
    whole_listed c = rw (to-array l, le-leb (count v.kids) 256 c)

-- ---- the elements, of which there is one at least

listed_finished : (R : Tokens) (f : Members) (os : List Operation) → elements_within R f ≡ finished os → AreOperations f os × KeepsRule R os
unfolding elements_within
listed_finished R none os h = absurd (finished≢stopped (sym h))
listed_finished R (tree e kids rest) os h = let (are, all) = elements-to R 1 (tree e kids rest) os h in (are, kept are all)
  where
    kept : {os : List Operation} → AreOperations (tree e kids rest) os → AllPermitted R 1 os → KeepsRule R os
    kept (Shape.element i are) all = keeps all

finished_listed : (R : Tokens) (f : Members) (os : List Operation) → AreOperations f os → KeepsRule R os → elements_within R f ≡ finished os
unfolding elements_within
finished_listed R none os are k = absurd (go are k)
  where
    go : {os : List Operation} → AreOperations none os → KeepsRule R os → ⊥
    go Shape.no_element k = elim k [ ]
finished_listed R (tree e kids rest) os are (keeps all) = to-elements are all

data Stops (R : Tokens) (f : Members) : Stop → Type 0 where
  without : f ≡ none → Stops R f (stop 17 0 0 0)
  at : {s : Stop} → FirstFault R 1 f s.number s.op → s.place ≡ 0 → s.pointer ≡ 0 → Stops R f s

listed_stopped : (R : Tokens) (f : Members) (s : Stop) → elements_within R f ≡ stopped s → Stops R f s
unfolding elements_within
listed_stopped R none s h = subst (Stops R none) (stopped_same h) (without refl)
listed_stopped R (tree e kids rest) s h = let (w, z, y) = fault_to R 1 (tree e kids rest) s h in at w z y

without_stops : (R : Tokens) (f : Members) → f ≡ none → elements_within R f ≡ stopped (stop 17 0 0 0)
unfolding elements_within
without_stops R f e = rw e

fault_stops : {R : Tokens} {n k : ℕ} (f : Members) → FirstFault R 1 f n k → elements_within R f ≡ stopped (stop n k 0 0)
unfolding elements_within
fault_stops none w = elim w [ ]
fault_stops (tree e kids rest) w = to_fault w

-- ---- the shape

right_to : (R : Tokens) (v : Value.Value) (os : List Operation) → shape_within R v ≡ finished os → IsPatchWithin R v os
right_to R v os h = go (whole R v)
  where
    go : Whole R v (shape_within R v) → IsPatchWithin R v os
    go (other n e) = absurd (finished≢stopped (sym h ∙ e))
    go (large l c e) = absurd (finished≢stopped (sym h ∙ e))
    go (listed l c e) =
        let (are, k) = listed_finished R v.kids os (sym e ∙ h) in
        record { patch = record { array = l; few = c; elements = are }; rule = k }

to_right : (R : Tokens) (v : Value.Value) (os : List Operation) → IsPatchWithin R v os → shape_within R v ≡ finished os
to_right R v os p = whole_listed R v p.patch.array p.patch.few ∙ finished_listed R v.kids os p.patch.elements p.rule

-- a refusal, with no place and no pointer
abbrev NoPatchAt : Tokens → Value.Value → Stop → Type 0
NoPatchAt R v s = NoPatchWithin R v s.number s.op × (s.place ≡ 0) × (s.pointer ≡ 0)

wrong_to : (R : Tokens) (v : Value.Value) (s : Stop) → shape_within R v ≡ stopped s → NoPatchAt R v s
wrong_to R v s h = go (whole R v)
  where
    ended : {t : Stop} → NoPatchAt R v t → shape_within R v ≡ stopped t → NoPatchAt R v s
    ended p e = subst (NoPatchAt R v) (stopped_same (sym e ∙ h)) p

    stops : v.label ≡ Label.array → count v.kids ≤ 256 → {t : Stop} → Stops R v.kids t → NoPatchAt R v t
    stops l c (without e) = (Claims.no_operations l e, refl, refl)
    stops l c (at w z y) = (Claims.at_element l c w, z, y)

    go : Whole R v (shape_within R v) → NoPatchAt R v s
    go (other a e) = ended (Claims.not-array a, refl, refl) e
    go (large l c e) = ended (Claims.too_many l c, refl, refl) e
    go (listed l c e) = stops l c (listed_stopped R v.kids s (sym e ∙ h))

to_wrong : (R : Tokens) (v : Value.Value) {n op : ℕ} → NoPatchWithin R v n op → shape_within R v ≡ stopped (stop n op 0 0)
unfolding count
to_wrong R v (Claims.not-array a) = whole_other R v a
to_wrong R v (Claims.too_many l c) = whole_large R v l c
to_wrong R v (Claims.no_operations l e) = whole_listed R v l (rw e (omega arith)) ∙ without_stops R v.kids e
to_wrong R v (Claims.at_element l c w) = whole_listed R v l c ∙ fault_stops v.kids w

no_place : (s : Stop) → s.place ≡ 0 → s.pointer ≡ 0 → stop s.number s.op 0 0 ≡ s
no_place s z y i = record { number = s.number; op = s.op; place = sym z i; pointer = sym y i }

pub shaped_within : ShapeWithinStatement
shaped_within =
    record {
      right = λ R v os. (right_to R v os, to_right R v os);
      wrong = λ R v s. (wrong_to R v s, λ p. to_wrong R v p.0 ∙ ap stopped (no_place s p.1 p.2));
    }

-- ---- 17 is the rule's alone

wrong_not_17 : {v : Value.Value} {n : ℕ} → Wrong v n → n ≡ 17 → ⊥
wrong_not_17 (Shape.no-members a) e = omega arith
wrong_not_17 (Shape.no_path m h a) e = omega arith
wrong_not_17 (Shape.no_from m h a) e = omega arith
wrong_not_17 (Shape.into_child m p f h a b c d) e = omega arith

break_to : {R : Tokens} {op n k : ℕ} {f : Members} → FirstFault R op f n k → n ≡ 17 → FirstBreak R op f k
break_to (Claims.no_operation w) e = absurd (wrong_not_17 w e)
break_to (Claims.breaks_rule o i q) e = Claims.here o i q
break_to (Claims.later o i p w) e = Claims.later o i p (break_to w e)

to_break : {R : Tokens} {op k : ℕ} {f : Members} → FirstBreak R op f k → FirstFault R op f 17 k
to_break (Claims.here o i q) = Claims.breaks_rule o i q
to_break (Claims.later o i p w) = Claims.later o i p (to_break w)

rule_to : {R : Tokens} {v : Value.Value} {n op : ℕ} → NoPatchWithin R v n op → n ≡ 17 → BreaksRule R v op
rule_to (Claims.not-array a) e = absurd (omega arith)
rule_to (Claims.too_many l c) e = absurd (omega arith)
rule_to (Claims.no_operations l k) e = Claims.no_operations l k
rule_to (Claims.at_element l c w) e = Claims.at_operation l c (break_to w e)

to_rule : {R : Tokens} {v : Value.Value} {op : ℕ} → BreaksRule R v op → NoPatchWithin R v 17 op
to_rule (Claims.no_operations l k) = Claims.no_operations l k
to_rule (Claims.at_operation l c w) = Claims.at_element l c (to_break w)

pub rule_broken : RuleStatement
rule_broken R v op = (λ h. rule_to (wrong_to R v (stop 17 op 0 0) h).0 refl, λ b. to_wrong R v (to_rule b))

-- ---- strictly inside

inside_is : (R : Tokens) (o : Operation) → Makers o.kind → strictly_inside R o ≡ proper_prefix R o.path
unfolding strictly_inside uses_from
inside_is R o m = go m refl
  where
    alone : (b : Bool) → (b && true) ≡ b
    alone true = refl
    alone false = refl

    go : {k : Kind} → Makers k → k ≡ o.kind
        → (proper_prefix R o.path && (not (uses_from o.kind) || proper_prefix R o.from)) ≡ proper_prefix R o.path
    go Claims.test e = rw (← e) (alone (proper_prefix R o.path))
    go Claims.replace e = rw (← e) (alone (proper_prefix R o.path))
    go Claims.add e = rw (← e) (alone (proper_prefix R o.path))

pub strictly_inside_lem : InsideStatement
strictly_inside_lem R o m =
    (λ h. prefix_to R o.path (sym (inside_is R o m) ∙ h), λ p. inside_is R o m ∙ to_prefix R o.path p)

all_permitted-inside : {R : Tokens} {op : ℕ} {os : List Operation} → AllPermitted R op os → all_inside R os ≡ true
unfolding all_inside
all_permitted-inside no_more = refl
all_permitted-inside {R} (one_more {o = o} p all) = rw ((strictly_inside_lem R o p.kind).1 p.path, all_permitted-inside all)

pub all_inside_lem : AllInsideStatement
all_inside_lem R v os h = go (right_to R v os h).rule
  where
    go : {os : List Operation} → KeepsRule R os → all_inside R os ≡ true
    go (keeps all) = all_permitted-inside all

-- ---- the texts first

module _ (room : ℕ) (document patch region : Bytes) (unread : (v p : Value.Value) → read document ≡ ok v → read patch ≡ ok p → ⊥) where
  patch_unread : (v : Value.Value) → read document ≡ ok v → (o : Outcome Value.Value) → read patch ≡ o → on_patch_within room v o region ≡ on_patch room v o
  unfolding on_patch_within on_patch
  patch_unread v e (ok p) f = absurd (unread v p e f)
  patch_unread v e (refused number place) f = refl

  document_unread : (o : Outcome Value.Value) → read document ≡ o → on_document_within room o patch region ≡ on_document room o patch
  unfolding on_document_within on_document
  document_unread (ok v) e = patch_unread v e (read patch) refl
  document_unread (refused number place) e = refl

pub texts_first : TextsFirstStatement
unfolding answer_within answer answer_in
texts_first document patch region lent short unread =
    rw (le-ltb max_bytes (length region) short, document_unread lent.output document patch region unread (read document) refl)

-- ---- what passes

same_shape : (R : Tokens) (v : Value.Value) (os : List Operation) → shape v ≡ finished os → KeepsRule R os → shape_within R v ≡ finished os
same_shape R v os h k = to_right R v os (record { patch = (shaped_so.right v os).0 h; rule = k })

module _ (room : ℕ) (region patch : Bytes) (p : Passes region patch) where
  patched_same : (document : Value.Value)
      → patched_within room document p.well_formed_lem.patch (region_tokens region) ≡ patched room document p.well_formed_lem.patch
  unfolding patched_within patched
  patched_same document =
      rw (p.pointer, same_shape p.tokens p.well_formed_lem.patch p.operations p.well_formed_lem.shaped p.rule, p.well_formed_lem.shaped)

  document_same : (o : Outcome Value.Value) → on_document_within room o patch region ≡ on_document room o patch
  unfolding on_document_within on_patch_within on_document on_patch
  document_same (ok document) = rw p.well_formed_lem.reads (patched_same document)
  document_same (refused number place) = refl

pub passes_plain : PassesStatement
unfolding answer_within answer answer_in
passes_plain document patch region lent p = rw (le-ltb max_bytes (length region) p.short, document_same lent.output region patch p (read document))
