-- What the code's refusals stand for: the numbers of Refusal, and the outcomes of the definitions.
use Rattle.std.specs.Prelude.{ℕ, Result, Ok, Err}
use Rattle.spec.specs.Outcome.{Outcome, ok, refused}
use Rattle.spec.specs.Refusal as Number
use Rattle.spec.specs.declared.refusal.Refusal.{Refusal}
use Rattle.spec.specs.declared.refusal.Refusal.TheVariants as Refusal
use Rattle.spec.specs.declared.refusal.Fault.{Fault}

unfoldable pub number_of : Refusal → ℕ
number_of Refusal.WorkTooShort = Number.work_too_short
number_of Refusal.InputTooLong = Number.input_too_long
number_of Refusal.NotJson = Number.not_json
number_of Refusal.RepeatedName = Number.repeated_name
number_of Refusal.TooDeep = Number.too_deep
number_of Refusal.TooManyNodes = Number.too_many_nodes
number_of Refusal.NumberOverLimit = Number.number_over_limit
number_of Refusal.WrongShape = Number.wrong_shape
number_of Refusal.TooManyOperations = Number.too_many_operations
number_of Refusal.MalformedPointer = Number.malformed_pointer
number_of Refusal.LocationMissing = Number.location_missing
number_of Refusal.NoIndex = Number.no_index
number_of Refusal.RemoveOfRoot = Number.remove_of_root
number_of Refusal.MoveIntoChild = Number.move_into_child
number_of Refusal.TestDiffers = Number.test_differs
number_of Refusal.OutputTooShort = Number.output_too_short
number_of Refusal.NotPermitted = Number.not_permitted

-- the outcome that an answer of the code stands for, given what its result is to the definitions
unfoldable pub outcome_by : {A B : Type 0} → (A → B) → Result A Fault → Outcome B
outcome_by f (Ok a) = ok (f a)
outcome_by f (Err e) = refused (number_of e.refusal) e.place

-- the same, where the result is that of the definitions
abbrev pub outcome : {A : Type 0} → Result A Fault → Outcome A
outcome r = outcome_by (λ a. a) r
