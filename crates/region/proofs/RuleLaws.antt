-- The rule by its tests and by its relation, of one operation and of all elements.
use Rattle.std.specs.Prelude.{if◌then◌else◌}
use mathlib.Core.Path.{◌≡◌, refl, ap, sym, subst, ◌∙◌}
use mathlib.Core.Bool.{Bool, true, false, true≢false}
use mathlib.Core.List.{List, ◌∷◌}
use Prim.Native.Nat.{ℕ, ◌+◌}
use lib.Dec.{eqb}
use borrow.Author.Tests.{eqb-true, eqb-false}
use Rattle.spec.specs.Outcome.{Outcome, ok, refused, ◌>>=◌, require}
use Rattle.spec.specs.Refusal.{not_permitted}
use Rattle.spec.specs.Forest.{none, tree}
use Rattle.spec.specs.Value as Value
use Rattle.spec.specs.Value.{Entry, Members}
use Rattle.spec.specs.Pointer.{Tokens}
use Rattle.spec.specs.Operation.{Kind, Operation}
use Rattle.spec.specs.Patch.{proper_prefix, operation, Stop, stop, Run, finished, stopped, at_op, no_pointer, on_finish}
use Rattle.spec.specs.Shape.{IsOperation, Wrong, element_of, AreOperations, element, no_element}
use Rattle.spec.proofs.TextLaws.{both_true}
use Rattle.spec.proofs.RunTheorem.{finished≢stopped}
use Rattle.region.specs.Rule.{is_makers, is_test, kind_permitted, permitted, operation_within, operations_within}
use Rattle.region.specs.Claims as Claims
use Rattle.region.specs.Claims.{Makers, Permitted, AllPermitted, no_more, one_more, FirstFault}
use Rattle.region.proofs.ShapeLaws.{finished_same, stopped_same, operation_to, to_operation, refused_to, to_refused, prefix_to, to_prefix}

-- ---- the kind

test_to : (k : Kind) → is_test k ≡ true → k ≡ Kind.test
unfolding is_test
test_to Kind.add h = absurd (true≢false (sym h))
test_to Kind.remove h = absurd (true≢false (sym h))
test_to Kind.replace h = absurd (true≢false (sym h))
test_to Kind.move h = absurd (true≢false (sym h))
test_to Kind.copy h = absurd (true≢false (sym h))
test_to Kind.test h = refl

makers_to : (k : Kind) → is_makers k ≡ true → Makers k
unfolding is_makers
makers_to Kind.add h = Claims.add
makers_to Kind.remove h = absurd (true≢false (sym h))
makers_to Kind.replace h = Claims.replace
makers_to Kind.move h = absurd (true≢false (sym h))
makers_to Kind.copy h = absurd (true≢false (sym h))
makers_to Kind.test h = Claims.test

to_makers : {k : Kind} → Makers k → is_makers k ≡ true
unfolding is_makers
to_makers Claims.add = refl
to_makers Claims.replace = refl
to_makers Claims.test = refl

kind_to : (op : ℕ) (k : Kind) → kind_permitted op k ≡ true → Makers k × (op ≡ 1 → k ≡ Kind.test)
unfolding kind_permitted
kind_to op k h = go (eqb op 1) refl h
  where
    go : (b : Bool) → eqb op 1 ≡ b → (if b then is_test k else is_makers k) ≡ true → Makers k × (op ≡ 1 → k ≡ Kind.test)
    go true e h = (subst Makers (sym (test_to k h)) Claims.test, λ _. test_to k h)
    go false e h = (makers_to k h, λ one. absurd (eqb-false op 1 e one))

to_kind : (op : ℕ) (k : Kind) → Makers k → (op ≡ 1 → k ≡ Kind.test) → kind_permitted op k ≡ true
unfolding kind_permitted is_test
to_kind op k m first = go (eqb op 1) refl
  where
    go : (b : Bool) → eqb op 1 ≡ b → (if b then is_test k else is_makers k) ≡ true
    go true e = rw (first (eqb-true op 1 e))
    go false e = to_makers m

-- ---- one operation

pub permitted_to : (R : Tokens) (op : ℕ) (o : Operation) → permitted R op o ≡ true → Permitted R op o
unfolding permitted
permitted_to R op o h =
    let (k, p) = both_true (kind_permitted op o.kind) (proper_prefix R o.path) h in
    let (m, first) = kind_to op o.kind k in
    record { kind = m; first = first; path = prefix_to R o.path p }

pub to_permitted : (R : Tokens) (op : ℕ) (o : Operation) → Permitted R op o → permitted R op o ≡ true
unfolding permitted
to_permitted R op o p = rw (to_kind op o.kind p.kind p.first, to_prefix R o.path p.path)

-- ---- one element

module _ (R : Tokens) (op : ℕ) (v : Value.Value) where
  pub within_ok : {o : Operation} → operation v ≡ ok o → permitted R op o ≡ true → operation_within R op v ≡ ok o
  unfolding operation_within require ◌>>=◌
  within_ok e p = rw (e, p)

  pub within-broken : {o : Operation} → operation v ≡ ok o → permitted R op o ≡ false → operation_within R op v ≡ refused not_permitted 0
  unfolding operation_within require ◌>>=◌
  within-broken e p = rw (e, p)

  pub within_refused : {n p : ℕ} → operation v ≡ refused n p → operation_within R op v ≡ refused n p
  unfolding operation_within ◌>>=◌
  within_refused e = rw e

-- what is at fault with it, and its refusal
data Faulty (R : Tokens) (op : ℕ) (v : Value.Value) : ℕ → Type 0 where
  misshapen : {n : ℕ} → Wrong v n → Faulty R op v n
  breaks : (o : Operation) → IsOperation v o → (Permitted R op o → ⊥) → Faulty R op v not_permitted

-- by cases: it is a maker's operation, or at fault
by_element : {C : Type 0} (R : Tokens) (op : ℕ) (v : Value.Value) →
    ((o : Operation) → operation_within R op v ≡ ok o → IsOperation v o → Permitted R op o → C) →
    ((n : ℕ) → operation_within R op v ≡ refused n 0 → Faulty R op v n → C) → C
by_element {C} R op v f g = go (operation v) refl
  where
    judged : (o : Operation) → operation v ≡ ok o → (b : Bool) → permitted R op o ≡ b → C
    judged o e true p = f o (within_ok R op v e p) (operation_to v o e) (permitted_to R op o p)
    judged o e false p =
        g not_permitted (within-broken R op v e p) (breaks o (operation_to v o e) (λ q. true≢false (sym (to_permitted R op o q) ∙ p)))

    go : (r : Outcome Operation) → operation v ≡ r → C
    go (ok o) e = judged o e (permitted R op o) refl
    go (refused n p) e =
        let (w, none_so) = refused_to v n p e in
        g n (within_refused R op v e ∙ ap (refused n) none_so) (misshapen w)

fault_of : {R : Tokens} {op n : ℕ} {v : Value.Value} → Faulty R op v n → operation_within R op v ≡ refused n 0
fault_of {R} {op} {n} {v} (misshapen w) = within_refused R op v (to_refused v n w)
fault_of {R} {op} {v = v} (breaks o i q) = within-broken R op v (to_operation v o i) (go (permitted R op o) refl)
  where
    go : (b : Bool) → permitted R op o ≡ b → permitted R op o ≡ false
    go true p = absurd (q (permitted_to R op o p))
    go false p = p

-- ---- all elements

module _ (R : Tokens) (op : ℕ) (e : Entry) (kids rest : Members) where
  next_element : {o : Operation} → operation_within R op (element_of e kids) ≡ ok o →
      operations_within R op (tree e kids rest) ≡ on_finish (operations_within R (op + 1) rest) λ os. finished (o ∷ os)
  unfolding operations_within at_op on_finish
  next_element h = rw h

  element_refused : {n : ℕ} → operation_within R op (element_of e kids) ≡ refused n 0 →
      operations_within R op (tree e kids rest) ≡ stopped (stop n op 0 0)
  unfolding operations_within at_op no_pointer on_finish
  element_refused h = rw h

-- the elements after the first, by what comes of all
rest_finished : (r : Run (List Operation)) (o : Operation) {os : List Operation} → (on_finish r λ os. finished (o ∷ os)) ≡ finished os →
    (others : List Operation) × (r ≡ finished others) × (o ∷ others ≡ os)
unfolding on_finish
rest_finished (finished others) o h = (others, refl, finished_same h)
rest_finished (stopped s) o h = absurd (finished≢stopped (sym h))

rest_stopped : (r : Run (List Operation)) (o : Operation) {s : Stop} → (on_finish r λ os. finished (o ∷ os)) ≡ stopped s → r ≡ stopped s
unfolding on_finish
rest_stopped (finished others) o h = absurd (finished≢stopped h)
rest_stopped (stopped t) o h = h

pub elements-to : (R : Tokens) (op : ℕ) (f : Members) (os : List Operation) → operations_within R op f ≡ finished os →
    AreOperations f os × AllPermitted R op os
unfolding operations_within
elements-to R op none os h =
    (subst (AreOperations none) (finished_same h) no_element, subst (AllPermitted R op) (finished_same h) no_more)
elements-to R op (tree e kids rest) os h =
    by_element R op (element_of e kids)
    (λ o q i p.
    let (others, r, same) = rest_finished (operations_within R (op + 1) rest) o (sym (next_element R op e kids rest q) ∙ h) in
    let (are, all) = elements-to R (op + 1) rest others r in
    (subst (AreOperations (tree e kids rest)) same (element i are), subst (AllPermitted R op) same (one_more p all)))
    (λ n q w. absurd (finished≢stopped (sym h ∙ element_refused R op e kids rest q)))

pub to-elements : {R : Tokens} {f : Members} {op : ℕ} {os : List Operation} → AreOperations f os → AllPermitted R op os →
    operations_within R op f ≡ finished os
unfolding operations_within on_finish
to-elements no_element no_more = refl
to-elements {R} {op = op} (element {e} {kids} {rest} {o} i are) (one_more p all) =
    next_element R op e kids rest (within_ok R op (element_of e kids) (to_operation (element_of e kids) o i) (to_permitted R op o p))
    ∙ rw (to-elements are all)

fault_here : {R : Tokens} {op n : ℕ} {e : Entry} {kids rest : Members} → Faulty R op (element_of e kids) n → FirstFault R op (tree e kids rest) n op
fault_here (misshapen w) = Claims.no_operation w
fault_here (breaks o i q) = Claims.breaks_rule o i q

-- where it stops: at an element, with no place and no pointer
abbrev StopsAt : Tokens → ℕ → Members → Stop → Type 0
StopsAt R op f s = FirstFault R op f s.number s.op × (s.place ≡ 0) × (s.pointer ≡ 0)

pub fault_to : (R : Tokens) (op : ℕ) (f : Members) (s : Stop) → operations_within R op f ≡ stopped s → StopsAt R op f s
unfolding operations_within
fault_to R op none s h = absurd (finished≢stopped h)
fault_to R op (tree e kids rest) s h =
    by_element R op (element_of e kids)
    (λ o q i p.
    let (w, z, y) = fault_to R (op + 1) rest s (rest_stopped (operations_within R (op + 1) rest) o (sym (next_element R op e kids rest q) ∙ h)) in
    (Claims.later o i p w, z, y))
    (λ n q w.
    subst (StopsAt R op (tree e kids rest)) (stopped_same (sym (element_refused R op e kids rest q) ∙ h)) (fault_here w, refl, refl))

pub to_fault : {R : Tokens} {op n k : ℕ} {f : Members} → FirstFault R op f n k → operations_within R op f ≡ stopped (stop n k 0 0)
unfolding on_finish
to_fault {R} (Claims.no_operation {op} {n} {e} {kids} {rest} w) = element_refused R op e kids rest (fault_of (misshapen w))
to_fault {R} (Claims.breaks_rule {op} {e} {kids} {rest} o i q) = element_refused R op e kids rest (fault_of (breaks o i q))
to_fault {R} (Claims.later {op} {e = e} {kids} {rest} o i p w) =
    next_element R op e kids rest (within_ok R op (element_of e kids) (to_operation (element_of e kids) o i) (to_permitted R op o p)) ∙ rw (to_fault w)
