-- What the code answers for a maker's patch, by the definitions of Rule. As with any patch, it is free which of the numbers is answered for a table that
-- holds no tree; the same holds for a region that is none.
use Rattle.std.specs.Prelude.{ℕ, ◌≡◌, Ok, Err, [], get_or}
use Rattle.spec.specs.Outcome.{ok}
use Rattle.spec.specs.declared.refusal.Refusal.TheVariants as Refusal
use Rattle.spec.specs.Bytes.{Bytes}
use Rattle.spec.specs.Forest.{Forest}
use Rattle.spec.specs.Pointer.{Tokens}
use Rattle.tape.specs.Layout.{array_kind}
use Rattle.tape.specs.Fields.{kind_of}
use Rattle.tape.specs.declared.fields.Cell.{Cell}
use Rattle.tape.specs.Lent.{Table}
use Rattle.table.specs.Meaning.{members}
use Rattle.table.specs.Sound.{RowsHeld}
use Rattle.shape.specs.Members.{ForMeant}
use Rattle.shape.specs.Operation.{Verdict, Answers, OperationNumber}
use Rattle.shape.specs.Patch.{Shape, ShapeIs}
use Rattle.shape.specs.declared.patch.Misshapen.{Misshapen}
use Rattle.region.specs.Rule.{operation_within, operations_within, shape_within}
use Rattle.region.specs.Answer.{region_tokens}

-- whatever the table holds, an element is refused with one of the numbers of an operation, or with 17
pub data ElementNumber : Verdict → Type 0 where
  shape : {r : Verdict} → OperationNumber r → ElementNumber r
  rule : ElementNumber (Err Refusal.NotPermitted)

-- what holds in the region, where it is one
abbrev pub ForRegion : Bytes → (Tokens → Type 0) → Type 0
ForRegion region Q = (R : Tokens) → region_tokens region ≡ ok R → Q R

-- the element in a row, of the operation op
pub record ElementIs (w : Table) (row op : ℕ) (region : Bytes) (r : Verdict) : Type 0 where
  pub number : ElementNumber r
  pub held : ForRegion region λ R. ForMeant w row λ v. Answers (operation_within R op v) r

-- the elements in the rows from one up to another, the first of which is operation 1
pub data ElementsNumber : Shape → Type 0 where
  all_right : ElementsNumber (Ok tt)
  one_wrong : {e : Misshapen} → ElementNumber (Err e.refusal) → ElementsNumber (Err e)

pub record ElementsAre (w : Table) (start end : ℕ) (region : Bytes) (r : Shape) : Type 0 where
  pub number : ElementsNumber r
  pub held : ForRegion region λ R. (f : Forest Cell) → RowsHeld w start end f → ShapeIs (operations_within R 1 (members w.texts f)) r

-- the whole patch: whatever the table holds, by the row's kind
pub data PatchNumber (w : Table) (row : ℕ) : Shape → Type 0 where
  no-array : (kind_of (get_or w.nodes row []) ≡ array_kind → ⊥) → PatchNumber w row (Err (record { refusal = Refusal.WrongShape; op = 0 }))
  too_many : PatchNumber w row (Err (record { refusal = Refusal.TooManyOperations; op = 0 }))
  no_operations : PatchNumber w row (Err (record { refusal = Refusal.NotPermitted; op = 0 }))
  judged : {r : Shape} → kind_of (get_or w.nodes row []) ≡ array_kind → ElementsNumber r → PatchNumber w row r

pub record PatchWithinIs (w : Table) (row : ℕ) (region : Bytes) (r : Shape) : Type 0 where
  pub number : PatchNumber w row r
  pub held : ForRegion region λ R. ForMeant w row λ v. ShapeIs (shape_within R v) r
