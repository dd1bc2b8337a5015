-- One operation: by `operation` and by the relations of `Shape` in crate spec. These are what the shape's theorem says of a patch of one element.
use mathlib.Core.Path.{◌≡◌, refl, ap, ap₂, sym, ◌∙◌}
use mathlib.Core.Bool.{true, true≢false}
use mathlib.Core.List.{List, [], ◌∷◌, ◌++◌}
use Prim.Native.Nat.{ℕ}
use native.Mathlib.Omega.{arith}
use Rattle.spec.specs.Outcome.{Outcome, ok, refused}
use Rattle.spec.specs.Bytes.{Text}
use Rattle.spec.specs.Forest.{none, tree, count}
use Rattle.spec.specs.Value as Value
use Rattle.spec.specs.Value.{Label, Entry, Members, tag, is_array, same_text}
use Rattle.spec.specs.Pointer.{Tokens}
use Rattle.spec.specs.Operation.{Operation}
use Rattle.spec.specs.Patch.{proper_prefix, operation, Stop, stop, Run, finished, stopped, at_op, no_pointer, on_finish, operations, shape}
use Rattle.spec.specs.Shape as Shape
use Rattle.spec.specs.Shape.{ProperPrefix, IsOperation, Wrong, element_of, AreOperations, element, no_element, IsPatch, FirstWrong, NoPatch}
use Rattle.spec.proofs.TextLaws.{both_true, same_text_true, same_text_refl}
use Rattle.spec.proofs.RunTheorem.{finished≢stopped}
use Rattle.spec.proofs.ShapeTheorem.{shaped_so}

-- ---- what comes of a run

pub finished_same : {A : Type 0} {a b : A} → finished a ≡ finished b → a ≡ b
finished_same h = cc

pub stopped_same : {A : Type 0} {s t : Stop} → ◌≡◌ {A = Run A} (stopped s) (stopped t) → s ≡ t
stopped_same h = cc

-- ---- a patch of one element

alone : Value.Value → Value.Value
alone v = record { label = Label.array; kids = tree (record { name = []; label = v.label }) v.kids none }

alone_ok : (v : Value.Value) (o : Operation) → operation v ≡ ok o → shape (alone v) ≡ finished (o ∷ [])
unfolding alone shape is_array tag count operations at_op on_finish
alone_ok v o h = rw h

alone_refused : (v : Value.Value) (n p : ℕ) → operation v ≡ refused n p → shape (alone v) ≡ stopped (stop n 1 p 0)
unfolding alone shape is_array tag count operations at_op no_pointer on_finish
alone_refused v n p h = rw h

first_element : {e : Entry} {kids rest : Members} {o : Operation} {os : List Operation} → AreOperations (tree e kids rest) (o ∷ os) → IsOperation
    (element_of e kids) o
first_element (element i a) = i

none_wrong : {op n end : ℕ} → FirstWrong op none n end → ⊥
none_wrong = elim [ ]

first_wrong : {op n end : ℕ} {e : Entry} {kids : Members} → FirstWrong op (tree e kids none) n end → Wrong (element_of e kids) n
first_wrong (Shape.here w) = w
first_wrong (Shape.later o i w) = absurd (none_wrong w)

pub operation_to : (v : Value.Value) (o : Operation) → operation v ≡ ok o → IsOperation v o
unfolding alone
operation_to v o h = first_element ((shaped_so.right (alone v) (o ∷ [])).0 (alone_ok v o h)).elements

pub to_operation : (v : Value.Value) (o : Operation) → IsOperation v o → operation v ≡ ok o
unfolding alone count
to_operation v o i = go (operation v) refl
  where
    whole : shape (alone v) ≡ finished (o ∷ [])
    whole = (shaped_so.right (alone v) (o ∷ [])).1 (record { array = refl; few = omega arith; elements = element i no_element })

    go : (r : Outcome Operation) → operation v ≡ r → r ≡ ok o
    go (ok p) e =
        let same : finished (p ∷ []) ≡ finished (o ∷ []) = sym (alone_ok v p e) ∙ whole in
        let it : p ≡ o = cc in ap ok it
    go (refused n p) e = absurd (finished≢stopped (sym whole ∙ alone_refused v n p e))

-- a refusal has no place
pub refused_to : (v : Value.Value) (n p : ℕ) → operation v ≡ refused n p → Wrong v n × (p ≡ 0)
unfolding alone
refused_to v n p h =
    let (not-one, place, _) = (shaped_so.wrong (alone v) (stop n 1 p 0)).0 (alone_refused v n p h) in
    (go not-one refl, place)
  where
    go : {m k : ℕ} → NoPatch (alone v) m k → k ≡ 1 → Wrong v m
    go (Shape.not-array a) e = absurd (omega arith)
    go (Shape.too_many l c) e = absurd (omega arith)
    go (Shape.wrong_element l c w) e = first_wrong w

pub to_refused : (v : Value.Value) (n : ℕ) → Wrong v n → operation v ≡ refused n 0
unfolding alone count
to_refused v n w = go (operation v) refl
  where
    whole : shape (alone v) ≡ stopped (stop n 1 0 0)
    whole = (shaped_so.wrong (alone v) (stop n 1 0 0)).1 (Shape.wrong_element refl (omega arith) (Shape.here w), refl, refl)

    go : (r : Outcome Operation) → operation v ≡ r → r ≡ refused n 0
    go (ok p) e = absurd (finished≢stopped (sym (alone_ok v p e) ∙ whole))
    go (refused m p) e =
        let same : stop m 1 p 0 ≡ stop n 1 0 0 = stopped_same (sym (alone_refused v m p e) ∙ whole) in
        ap₂ refused (ap (λ (s : Stop). s.number) same) (ap (λ (s : Stop). s.place) same)

-- ---- prefixes

pub prefix_to : (ts us : Tokens) → proper_prefix ts us ≡ true → ProperPrefix ts us
unfolding proper_prefix
prefix_to [] [] h = absurd (true≢false (sym h))
prefix_to [] (u ∷ us) h = record { token = u; others = us; longer = refl }
prefix_to (t ∷ ts) [] h = absurd (true≢false (sym h))
prefix_to (t ∷ ts) (u ∷ us) h =
    let (same, rest) = both_true (same_text t u) (proper_prefix ts us) h in
    let r = prefix_to ts us rest in
    record { token = r.token; others = r.others; longer = ap₂ ◌∷◌ (sym (same_text_true t u same)) r.longer }

prefix_longer : (ts : Tokens) (u : Text) (us : Tokens) → proper_prefix ts (ts ++ (u ∷ us)) ≡ true
unfolding proper_prefix
prefix_longer [] u us = refl
prefix_longer (t ∷ ts) u us = rw (same_text_refl t) (prefix_longer ts u us)

pub to_prefix : (ts us : Tokens) → ProperPrefix ts us → proper_prefix ts us ≡ true
to_prefix ts us p = rw p.longer (prefix_longer ts p.token p.others)
