-- Members that are noted with their parents, and found again. The index of a tree is a hint: what it tells is right, and it need not tell anything.
use Rattle.std.specs.Prelude.{ℕ, suc, ◌+◌, ◌-◌, ◌<◌, ◌≤◌, ◌≡◌, true, Option, Some, None, List, [], length, get_or, drop}
use Rattle.tape.specs.Layout.{scratch_row}
use Rattle.tape.specs.Fields.{Row, no_node, name_of, span_of}
use Rattle.tape.specs.declared.fields.Name.{Name}
use Rattle.tape.specs.Lent.{Table}
use Rattle.table.specs.Find.{same_name}
use Rattle.index.specs.Slots.{room, slots, parent_slot, slot_at}

-- a row is among those of the trees that follow one another from a row up to the row `end`
pub data Among (nodes : List Row) (end row : ℕ) : ℕ → Type 0 where
  first : row < end → Among nodes end row row
  later : {start : ℕ} → start < end → Among nodes end row (start + 1 + span_of (get_or nodes start [])) → Among nodes end row start

-- a row holds a child of the node in another
pub record Child (nodes : List Row) (parent row : ℕ) : Type 0 where
  pub low : row < scratch_row
  pub among : Among nodes (parent + 1 + span_of (get_or nodes parent [])) row (parent + 1)

-- Each parent that is noted is one: what is noted for the row `top + r`, if anything, is how many rows its parent is behind `top`, plus one.
pub record Parents (top : ℕ) (nodes : List Row) (xs : List ℕ) : Type 0 where
  pub child : (r o : ℕ) → r < room → slot_at xs (parent_slot r) ≡ suc o → Child nodes (top + o) (top + r)

-- parents that are noted are right if those before were; what is lent beyond the index does not change
pub record Indexed (top : ℕ) (nodes : List Row) (xs ys : List ℕ) : Type 0 where
  pub parents : Parents top nodes xs → Parents top nodes ys
  pub beyond : drop slots ys ≡ drop slots xs

-- What indexing a tree comes to, whatever the memory held. Each parent that is noted is one; which parents are noted is left free, and an empty
-- index would do. What is lent beyond the index does not change, and nothing changes where the memory is too short for an index.
pub record TreeIndexed (top : ℕ) (nodes : List Row) (xs ys : List ℕ) : Type 0 where
  pub parents : slots ≤ length xs → Parents top nodes ys
  pub beyond : drop slots ys ≡ drop slots xs
  pub short : length xs < slots → ys ≡ xs

-- whether a row is noted as a child of the object in another, and has the name
pub record NotedIs (w : Table) (xs : List ℕ) (top object : ℕ) (name : Name) (row : ℕ) : Type 0 where
  pub parent : slot_at xs (parent_slot row) ≡ suc (object - top)
  pub named : same_name w.texts (name_of (get_or w.nodes (top + row) no_node)) name ≡ true

-- What is found has the name, and this parent is noted for it. Where nothing is found, there may still be such a member: `None` says nothing, and a
-- lookup that always answered so would do.
pub data LookupIs (w : Table) (xs : List ℕ) (top object : ℕ) (name : Name) : Option ℕ → Type 0 where
  noted : (x row : ℕ) → row ≡ top + x → x < room → top ≤ object → NotedIs w xs top object name x → LookupIs w xs top object name (Some row)
  not_found : LookupIs w xs top object name None
