-- What a patch comes to without a document: SPECIFICATION 14.1. T-12: "reads and shapes each as 01 does, without a document".
use Rattle.std.specs.Prelude.{ℕ, ◌+◌, List, [], ◌∷◌, Bool, length, ltb, if◌then◌else◌}
use Rattle.spec.specs.Outcome.{Outcome, ok, refused}
use Rattle.spec.specs.Refusal as Refusal
use Rattle.spec.specs.Refusal.{work_too_short, input_too_long}
use Rattle.spec.specs.Limits.{max_bytes}
use Rattle.spec.specs.Bytes.{Bytes}
use Rattle.spec.specs.Value as Value
use Rattle.spec.specs.Read.{read}
use Rattle.spec.specs.Operation as Operation
use Rattle.spec.specs.Patch.{Run, finished, stopped, shape}

-- ---- how many there are of each of the six operations
pub record Counts : Type 0 where
  pub add : ℕ
  pub remove : ℕ
  pub replace : ℕ
  pub move : ℕ
  pub copy : ℕ
  pub test : ℕ

abbrev pub no_counts : Counts
no_counts = record { add = 0; remove = 0; replace = 0; move = 0; copy = 0; test = 0 }

-- one operation
unfoldable pub one_of : Operation.Kind → Counts
one_of Operation.add = record { add = 1; remove = 0; replace = 0; move = 0; copy = 0; test = 0 }
one_of Operation.remove = record { add = 0; remove = 1; replace = 0; move = 0; copy = 0; test = 0 }
one_of Operation.replace = record { add = 0; remove = 0; replace = 1; move = 0; copy = 0; test = 0 }
one_of Operation.move = record { add = 0; remove = 0; replace = 0; move = 1; copy = 0; test = 0 }
one_of Operation.copy = record { add = 0; remove = 0; replace = 0; move = 0; copy = 1; test = 0 }
one_of Operation.test = record { add = 0; remove = 0; replace = 0; move = 0; copy = 0; test = 1 }

-- the sums of two, one by one
unfoldable pub plus : Counts → Counts → Counts
plus c d =
    record {
      add = c.add + d.add;
      remove = c.remove + d.remove;
      replace = c.replace + d.replace;
      move = c.move + d.move;
      copy = c.copy + d.copy;
      test = c.test + d.test;
    }

-- all six together
unfoldable pub total : Counts → ℕ
total c = c.add + c.remove + c.replace + c.move + c.copy + c.test

unfoldable pub counts_of : List Operation.Operation → Counts
counts_of [] = no_counts
counts_of (o ∷ os) = plus (one_of o.kind) (counts_of os)

-- ---- what a patch comes to: the fields of a refusal, SPECIFICATION 2.1, and the counts, which are 0 on refusal
pub record Inspection : Type 0 where
  pub number : ℕ
  pub text : ℕ
  pub op : ℕ
  pub place : ℕ
  pub counts : Counts

abbrev pub accepted : Counts → Inspection
accepted c = record { number = Refusal.done; text = 0; op = 0; place = 0; counts = c }

-- a refusal by its number, text, op and place
abbrev pub refusal : ℕ → ℕ → ℕ → ℕ → Inspection
refusal number text op place = record { number = number; text = text; op = op; place = place; counts = no_counts }

-- the shape of every operation: 8, 9, 10 or 14
unfoldable pub of_shape : Run (List Operation.Operation) → Inspection
of_shape (finished os) = accepted (counts_of os)
of_shape (stopped s) = refusal s.number 0 s.op 0

-- the whole patch read, as text 2: 3 to 7
unfoldable pub of_reading : Outcome Value.Value → Inspection
of_reading (ok patch) = of_shape (shape patch)
of_reading (refused number place) = refusal number 2 0 place

-- the refusals in the order of SPECIFICATION 14.1: 2, the reading, the shape
unfoldable pub inspection : Bytes → Inspection
inspection patch = if ltb max_bytes (length patch) then refusal input_too_long 2 0 0 else of_reading (read patch)

-- ---- the call: 1 before anything else, where the work area does not suffice
unfoldable pub inspection_in : Bool → Bytes → Inspection
inspection_in enough patch = if enough then inspection patch else refusal work_too_short 0 0 0
