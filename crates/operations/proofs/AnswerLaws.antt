-- Laws of what an operation answers: which pointer a refusal is of.
use Rattle.std.specs.Prelude.{Option, Some, None, Result, Ok, Err}
use Rattle.std.specs.Result.{result_ok}
use Prim.Native.Nat.{ℕ}
use native.Mathlib.Omega.{arith}
use mathlib.Core.Path.{◌≡◌, refl, ap, sym, ◌∙◌, subst}
use mathlib.Core.Bool.{true, false}
use Rattle.spec.specs.Outcome.{Outcome, ok, refused, is_refused}
use Rattle.spec.specs.Fault.{number_of}
use Rattle.spec.specs.declared.refusal.Refusal.{Refusal}
use Rattle.spec.specs.declared.refusal.Fault.{Fault}
use Rattle.spec.specs.Value as Value
use Rattle.spec.specs.Pointer.{Tokens, walk}
use Rattle.spec.specs.Operation as Operation
use Rattle.spec.specs.Patch.{uses_from, which_pointer}
use Rattle.origin.specs.Value as Origin
use Rattle.origin.specs.Value.{forget}
use Rattle.origin.specs.Pointer as Origins
use Rattle.origin.specs.Forgetting.{forgotten}
use Rattle.origin.proofs.ForgetLaws.{forget-walk}
use Rattle.changes.specs.Document.{ResultsBy, results, refusal}
use Rattle.operations.specs.Answers.{pointer_of, from_or_path, numbered, pointed, pointer_for, failure_at, told_at, PerformsBy, performs, fails}
use Rattle.operations.specs.declared.answers.Pointer.{Pointer}
use Rattle.operations.specs.declared.answers.Failure.{Failure}

-- ---- 11 and 12 are of a pointer, other numbers of none
pub pointer_is : (which : Pointer) (e : Refusal) → pointed (pointer_for which e) ≡ pointer_of (numbered which) (number_of e)
unfolding pointed pointer_for pointer_of number_of
pointer_is which Refusal.WorkTooShort = refl
pointer_is which Refusal.InputTooLong = refl
pointer_is which Refusal.NotJson = refl
pointer_is which Refusal.RepeatedName = refl
pointer_is which Refusal.TooDeep = refl
pointer_is which Refusal.TooManyNodes = refl
pointer_is which Refusal.NumberOverLimit = refl
pointer_is which Refusal.WrongShape = refl
pointer_is which Refusal.TooManyOperations = refl
pointer_is which Refusal.MalformedPointer = refl
pointer_is which Refusal.LocationMissing = refl
pointer_is which Refusal.NoIndex = refl
pointer_is which Refusal.RemoveOfRoot = refl
pointer_is which Refusal.MoveIntoChild = refl
pointer_is which Refusal.TestDiffers = refl
pointer_is which Refusal.OutputTooShort = refl
pointer_is which Refusal.NotPermitted = refl

-- ---- what is there, or else refused
module _ {A E : Type 0} {m : Option A} {r : Result A E} (there : m ≡ result_ok r) where
  pub or_there : {a : A} → r ≡ Ok a → m ≡ Some a
  or_there e = there ∙ ap result_ok e

  pub or_missing : {x : E} → r ≡ Err x → m ≡ None
  or_missing e = there ∙ ap result_ok e

-- ---- what was told of a step is what the step answered
module _ {A : Type 0} (which : Pointer) (q : Result A Fault) {r : Result A Failure} (tells : r ≡ told_at which q) where
  pub told_ok : {a : A} → r ≡ Ok a → q ≡ Ok a
  unfolding told_at
  told_ok {a} e = go q (sym tells ∙ e)
    where
      go : (s : Result A Fault) → told_at which s ≡ Ok a → s ≡ Ok a
      go (Ok b) f = cc
      go (Err g) f = absurd (let z : ◌≡◌ {A = ℕ} 0 1 = cc in omega arith)

  pub told_err : {x : Failure} → r ≡ Err x → (f : Fault) × (q ≡ Err f) × (x ≡ failure_at which f)
  unfolding told_at
  told_err {x} e = go q (sym tells ∙ e)
    where
      go : (s : Result A Fault) → told_at which s ≡ Err x → (f : Fault) × (s ≡ Err f) × (x ≡ failure_at which f)
      go (Ok b) f = absurd (let z : ◌≡◌ {A = ℕ} 0 1 = cc in omega arith)
      go (Err g) f = (g, refl, cc)

-- ---- which pointer it is, of each number
-- an operation without `from`
pub which_path : (o : Operation.Operation) (v : Value.Value) → uses_from o.kind ≡ false → (number : ℕ) → which_pointer o v number ≡ pointer_of 1 number
unfolding which_pointer pointer_of
which_path o v none number = rw none

-- an operation with it
pub which_from : (o : Operation.Operation) (v : Value.Value) → uses_from o.kind ≡ true → (number : ℕ)
    → which_pointer o v number ≡ from_or_path o.from v number
unfolding which_pointer from_or_path pointer_of
which_from o v uses number = rw uses

-- `from` leads somewhere, and nowhere
module _ (from : Tokens) (v : Value.Value) (number : ℕ) where
  pub from_there : {w : Value.Value} → walk from v ≡ ok w → from_or_path from v number ≡ pointer_of 1 number
  unfolding from_or_path is_refused
  from_there e = rw e

  pub from_lost : {n k : ℕ} → walk from v ≡ refused n k → from_or_path from v number ≡ pointer_of 2 number
  unfolding from_or_path is_refused
  from_lost e = rw e

-- and where it is walked with origins
module _ (from : Tokens) (v : Origin.Value) (number : ℕ) where
  pub bearing_there : {x : Origin.Value} → Origins.walk from v ≡ ok x → from_or_path from (forget v) number ≡ pointer_of 1 number
  unfolding forgotten
  bearing_there {x} e = from_there from (forget v) number {w = forget x} (sym (forget-walk from v) ∙ ap forgotten e)

  pub bearing_lost : {n k : ℕ} → Origins.walk from v ≡ refused n k → from_or_path from (forget v) number ≡ pointer_of 2 number
  unfolding forgotten
  bearing_lost {n} {k} e = from_lost from (forget v) number {n = n} {k = k} (sym (forget-walk from v) ∙ ap forgotten e)

module _ {A : Type 0} {Is : ℕ → A → Type 0} {o : Outcome A} {pointer : ℕ → ℕ} where
  -- ---- an outcome, and a pointer for each number, that are the same
  pub same_performs : {p : Outcome A} {which : ℕ → ℕ} {r : Result ℕ Failure} → o ≡ p → ((number : ℕ) → pointer number ≡ which number)
      → PerformsBy Is p which r → PerformsBy Is o pointer r
  same_performs e f (performs g d) = performs (e ∙ g) d
  same_performs e f (fails {f = x} g h) = fails (e ∙ g) (h ∙ sym (f (number_of x.refusal)))

  -- ---- what a change at `path` gives
  pub path_performs : ((number : ℕ) → pointer number ≡ pointer_of 1 number) → {q : Result ℕ Fault} {r : Result ℕ Failure} → r ≡ told_at Pointer.Path q
      → ResultsBy Is o q → PerformsBy Is o pointer r
  unfolding told_at numbered
  path_performs f {q} e d = subst (PerformsBy Is o pointer) (sym e) (go d)
    where
      go : {q : Result ℕ Fault} → ResultsBy Is o q → PerformsBy Is o pointer (told_at Pointer.Path q)
      go (results g d) = performs g d
      go (refusal {e} g) = fails g (pointer_is Pointer.Path e.refusal ∙ sym (f (number_of e.refusal)))

  -- ---- and a walk along `from` that is lost
  pub from_performs : (f : Fault) {x : Failure} → x ≡ failure_at Pointer.From f → ((n : ℕ) → pointer n ≡ pointer_of 2 n)
      → o ≡ refused (number_of f.refusal) f.place → PerformsBy Is o pointer (Err x)
  unfolding numbered
  from_performs f is g e =
      rw is (fails {f = failure_at Pointer.From f} e (pointer_is Pointer.From f.refusal ∙ sym (g (number_of f.refusal))))
