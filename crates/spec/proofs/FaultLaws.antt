-- What an answer of the code says of the outcome that it stands for.
use Prim.Native.Nat.{ℕ}
use mathlib.Core.Path.{◌≡◌, refl, sym, ◌∙◌, ap}
use Rattle.std.specs.Prelude.{Result, Ok, Err, IsErrAnd}
use Rattle.std.proofs.lemmas.Result.{err_from_is_err_and}
use Rattle.spec.specs.Outcome.{Outcome, ok, refused, ◌>>=◌}
use Rattle.spec.specs.Fault.{number_of, outcome_by}
use Rattle.spec.specs.declared.refusal.Fault.{Fault}

pub answer_ok : {A B : Type 0} (f : A → B) (a : A) {r : Result A Fault} {d : Outcome B} → outcome_by f r ≡ d → r ≡ Ok a → d ≡ ok (f a)
unfolding outcome_by
answer_ok f a e t = sym e ∙ ap (outcome_by f) t

pub answer_refused : {A B : Type 0} (f : A → B) (x : Fault) {r : Result A Fault} {d : Outcome B} → outcome_by f r ≡ d → r ≡ Err x →
    d ≡ refused (number_of x.refusal) x.place
unfolding outcome_by
answer_refused f x e t = sym e ∙ ap (outcome_by f) t

-- what the exit of a `?` answers is the refusal that it was given
pub handed : {T E : Type 0} (out : Result T E) {x : E} → IsErrAnd out (λ y. y ≡ x) → out ≡ Err x
handed out is = let p = err_from_is_err_and out is in p.1 ∙ ap Err p.2

-- A `?` of the code is a step of a definition: at what the code answered, and at a refusal that it hands on.
pub step_ok : {A B C : Type 0} {v : Outcome C} {d : Outcome B} (f : A → B) (next : B → Outcome C) {a : A} {r : Result A Fault} →
    outcome_by f r ≡ d → r ≡ Ok a → v ≡ next (f a) → v ≡ (d >>= next)
unfolding ◌>>=◌
step_ok f next {a} e t h = rw (answer_ok f a e t) h

pub step_err : {A B C D : Type 0} {d : Outcome B} (f : A → B) (g : C → D) (next : B → Outcome D) {x : Fault} {r : Result A Fault}
    (out : Result C Fault) → outcome_by f r ≡ d → r ≡ Err x → IsErrAnd out (λ y. y ≡ x) → outcome_by g out ≡ (d >>= next)
unfolding ◌>>=◌ outcome_by
step_err f g next {x} out e t is = ap (outcome_by g) (handed _ is) ∙ rw (answer_refused f x e t)
