-- What becomes of the list of nodes when a child is put or taken out, whatever the list holds.
use Rattle.std.specs.Prelude.{ℕ, ◌+◌, ◌-◌, ◌%◌, ◌≤◌, ◌≡◌, List, [], get_or, set, take, drop, Result, Ok, Err}
use Rattle.spec.specs.Limits.{max_depth, max_nodes}
use Rattle.spec.specs.declared.refusal.Refusal.{Refusal}
use Rattle.spec.specs.declared.refusal.Fault.{Fault}
use Rattle.tape.specs.Layout.{patch_row, values}
use Rattle.tape.specs.Columns.{spliced, used_after}
use Rattle.tape.specs.Fields.{Row, no_node, kind_of, value_of, origin_of, span_of, with_span, row_with}
use Rattle.tape.specs.declared.fields.Name.{Name}
use Rattle.changes.specs.declared.parent.Parent.{Parent}

-- a list, and the same with other rows for the document
pub record SameBehind (xs ys : List Row) : Type 0 where
  pub is : drop patch_row ys ≡ drop patch_row xs

-- the same with other rows for the document and for scratch: those of the patch are kept
pub record SamePatch (xs ys : List Row) : Type 0 where
  pub is : take max_nodes (drop patch_row ys) ≡ take max_nodes (drop patch_row xs)

-- A refusal changes nothing. Otherwise no row from the patch's first on changes, and the document gets no more rows than it may have.
pub data Frame (nodes nodes' : List Row) : Result ℕ Fault → Type 0 where
  framed : {now : ℕ} → now ≤ max_nodes → SameBehind nodes nodes' → Frame nodes nodes' (Ok now)
  unchanged : {e : Fault} → nodes' ≡ nodes → Frame nodes nodes' (Err e)

-- the number of tokens that lead to a parent from the document; with each token, a child may nest one container fewer
abbrev pub walked_to : Parent → ℕ
walked_to p = max_depth - 1 - p.below

-- what is answered of a child, behind some tokens: a refusal's place is their number
unfoldable pub told_at : {A : Type 0} → ℕ → Result A Refusal → Result A Fault
told_at walked (Ok a) = Ok a
told_at walked (Err e) = Err (record { refusal = e; place = walked })

-- ---- one row changed
-- the row of the same node under another name
abbrev pub with_name : Row → Name → Row
with_name r name = row_with (record { kind = kind_of r; value = value_of r; name = name; origin = origin_of r }) (span_of r % values)

abbrev pub renamed_at : List Row → ℕ → Name → List Row
renamed_at nodes row name = set nodes row (with_name (get_or nodes row no_node) name)

-- its span changed by as much as the number of rows in use
abbrev pub resized : List Row → ℕ → ℕ → ℕ → List Row
resized nodes row used now = set nodes row (with_span (get_or nodes row []) ((span_of (get_or nodes row []) + now - used) % values))

-- ---- nothing has changed, or the rows are spliced, the new child is named, and the parent's span is set
pub data PutRows (nodes nodes' : List Row) (p : Parent) (at removed source : ℕ) (name : Name) : Result ℕ Fault → Type 0 where
  put_nothing : {e : Fault} → nodes' ≡ nodes → PutRows nodes nodes' p at removed source name (Err e)
  put-rows : (count now : ℕ) → count ≡ span_of (get_or nodes source []) + 1 → now ≡ used_after p.used removed count
      → nodes' ≡ resized (renamed_at (spliced nodes p.used at removed source count) at name) p.row p.used now
      → PutRows nodes nodes' p at removed source name (Ok now)

-- the rows of a child are taken out, and the parent's span is set
pub data TakenRows (nodes nodes' : List Row) (p : Parent) (at : ℕ) : Result ℕ Fault → Type 0 where
  taken_rows : (removed now : ℕ) → removed ≡ span_of (get_or nodes at []) + 1 → now ≡ p.used - removed
      → nodes' ≡ resized (spliced nodes p.used at removed p.used 0) p.row p.used now → TakenRows nodes nodes' p at (Ok now)
