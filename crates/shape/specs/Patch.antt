-- What the code answers for a whole patch.
use Rattle.std.specs.Prelude.{ℕ, ◌≡◌, Result, Ok, Err, List, [], get_or}
use Rattle.spec.specs.Fault.{number_of}
use Rattle.spec.specs.declared.refusal.Refusal.{Refusal}
use Rattle.spec.specs.Forest.{Forest}
use Rattle.spec.specs.Operation as Operation
use Rattle.spec.specs.Patch.{stop, Run, finished, stopped, operations, shape}
use Rattle.tape.specs.Layout.{array_kind}
use Rattle.tape.specs.Fields.{kind_of}
use Rattle.tape.specs.declared.fields.Cell.{Cell}
use Rattle.tape.specs.Lent.{Table}
use Rattle.table.specs.Meaning.{members}
use Rattle.table.specs.Sound.{RowsHeld}
use Rattle.shape.specs.Members.{ForMeant}
use Rattle.shape.specs.Operation.{OperationNumber}
use Rattle.shape.specs.declared.patch.Misshapen.{Misshapen}

-- whether a patch has the right shape
abbrev pub Shape : Type 0
Shape = Result (Unit {0}) Misshapen

-- whether there are operations, or the refusal and the op at which it is given
pub data ShapeIs : Run (List Operation.Operation) → Shape → Type 0 where
  right : (os : List Operation.Operation) → ShapeIs (finished os) (Ok tt)
  wrong : (e : Misshapen) → ShapeIs (stopped (stop (number_of e.refusal) e.op 0 0)) (Err e)

-- whatever the table holds, an operation is refused with one of the numbers of an operation
pub data ElementNumber : Shape → Type 0 where
  all_right : ElementNumber (Ok tt)
  one_wrong : {e : Misshapen} → OperationNumber (Err e.refusal) → ElementNumber (Err e)

-- the operations in the rows from one up to another
pub record ElementsAre (w : Table) (start end : ℕ) (r : Shape) : Type 0 where
  pub number : ElementNumber r
  pub held : (f : Forest Cell) → RowsHeld w start end f → ShapeIs (operations 1 (members w.texts f)) r

-- whatever the table holds: by the row's kind. For an array's row whose tree is not held, it is free which of the other answers is given, and for
-- which operation.
pub data PatchNumber (w : Table) (row : ℕ) : Shape → Type 0 where
  no-array : (kind_of (get_or w.nodes row []) ≡ array_kind → ⊥) → PatchNumber w row (Err (record { refusal = Refusal.WrongShape; op = 0 }))
  too_many : PatchNumber w row (Err (record { refusal = Refusal.TooManyOperations; op = 0 }))
  judged : {r : Shape} → kind_of (get_or w.nodes row []) ≡ array_kind → ElementNumber r → PatchNumber w row r

pub record PatchIs (w : Table) (row : ℕ) (r : Shape) : Type 0 where
  pub number : PatchNumber w row r
  pub held : ForMeant w row λ v. ShapeIs (shape v) r
