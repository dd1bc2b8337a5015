-- What an operation answers: the document's rows then, or the refusal with its place and its pointer.
use Rattle.std.specs.Prelude.{ℕ, ◌≡◌, ◌||◌, List, Option, Some, None, Result, Ok, Err, eqb, if◌then◌else◌}
use Rattle.spec.specs.Outcome.{Outcome, ok, refused, is_refused}
use Rattle.spec.specs.Refusal.{location_missing, no_index}
use Rattle.spec.specs.Fault.{number_of}
use Rattle.spec.specs.declared.refusal.Refusal.{Refusal}
use Rattle.spec.specs.declared.refusal.Fault.{Fault}
use Rattle.spec.specs.Value as Value
use Rattle.spec.specs.Pointer.{Tokens, walk}
use Rattle.origin.specs.Value as Origin
use Rattle.tape.specs.Fields.{Row}
use Rattle.tape.specs.Lent.{Texts}
use Rattle.changes.specs.Site.{table}
use Rattle.changes.specs.Document.{Document, Bearing}
use Rattle.operations.specs.declared.answers.Pointer.{Pointer}
use Rattle.operations.specs.declared.answers.Failure.{Failure}
use Rattle.operations.specs.declared.answers.Stop.{Stop}

-- the pointer that belongs to a refusal's number, given which it is where one leads nowhere
unfoldable pub pointer_of : ℕ → ℕ → ℕ
pointer_of which number = if eqb number location_missing || eqb number no_index then which else 0

-- for an operation with a `from`, which is walked first
unfoldable pub from_or_path : Tokens → Value.Value → ℕ → ℕ
from_or_path from v number = pointer_of (if is_refused (walk from v) then 2 else 1) number

-- ---- the code's pointers
-- the number of one, as an answer has it, and 0 of none
unfoldable pub numbered : Pointer → ℕ
numbered Pointer.Path = 1
numbered Pointer.From = 2

unfoldable pub pointed : Option Pointer → ℕ
pointed (Some p) = numbered p
pointed None = 0

-- the pointer that belongs to a refusal
unfoldable pub pointer_for : Pointer → Refusal → Option Pointer
pointer_for which Refusal.LocationMissing = Some which
pointer_for which Refusal.NoIndex = Some which
pointer_for which _ = None

-- a fault at the location that a pointer names, and the answer of a step there
abbrev pub failure_at : Pointer → Fault → Failure
failure_at which f = record { refusal = f.refusal; place = f.place; pointer = pointer_for which f.refusal }

unfoldable pub told_at : {A : Type 0} → Pointer → Result A Fault → Result A Failure
told_at which (Ok a) = Ok a
told_at which (Err f) = Err (failure_at which f)

-- a failure of an operation of a run, and the answer of one
abbrev pub stop_at : ℕ → Failure → Stop
stop_at op f = record { refusal = f.refusal; op = op; place = f.place; pointer = f.pointer }

unfoldable pub stopped_at : {A : Type 0} → ℕ → Result A Failure → Result A Stop
stopped_at op (Ok a) = Ok a
stopped_at op (Err f) = Err (stop_at op f)

-- The outcome of an operation, given what it is by the definitions and the pointer that belongs to a number: the document is then the result; or
-- the refusal's number, its place and its pointer. What the document is, is told with its origins or without them.
pub data PerformsBy {A : Type 0} (Is : ℕ → A → Type 0) (o : Outcome A) (pointer : ℕ → ℕ) : Result ℕ Failure → Type 0 where
  performs : {used : ℕ} {v : A} → o ≡ ok v → Is used v → PerformsBy Is o pointer (Ok used)
  fails : {f : Failure} → o ≡ refused (number_of f.refusal) f.place → pointed f.pointer ≡ pointer (number_of f.refusal)
      → PerformsBy Is o pointer (Err f)

abbrev pub Performs : Texts → List Row → Outcome Value.Value → (ℕ → ℕ) → Result ℕ Failure → Type 0
Performs T nodes' o pointer r = PerformsBy (Document (table T nodes')) o pointer r

abbrev pub PerformsBearing : Texts → List Row → Outcome Origin.Value → (ℕ → ℕ) → Result ℕ Failure → Type 0
PerformsBearing T nodes' o pointer r = PerformsBy (Bearing (table T nodes')) o pointer r
