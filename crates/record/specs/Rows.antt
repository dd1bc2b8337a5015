-- What is proved of this crate's functions against the engine's: proofs/RowsTheorem.
use Rattle.std.specs.Prelude.{ℕ, ◌≡◌, List, length, get_or, set}
use Rattle.tape.specs.Fields.{Row, no_node}
use Rattle.tape.specs.Columns.{wiped}
use Rattle.record.specs.declared.Node.{Node}
use Rattle.record.specs.Records.{no_record, fields_of, record_of, rows_of}

-- A record has each of the engine's fields under its name, and nothing else: records and rows of eight fields are the same, one for one.
pub record SameFields : Type 0 where
  pub record_back : (node : Node) → record_of (fields_of node) ≡ node
  pub row_back : (row : Row) → length row ≡ 8 → fields_of (record_of row) ≡ row

-- What the functions do to records is what those of tape::moves do to rows. On the left stands a contract of this crate, on the right one of the engine's:
-- `read` is `load`, `store` is `store`, and `clear` is `store` of a row without a node, and `clear` of one row.
pub record SameOnRows (nodes : List Node) (row : ℕ) : Type 0 where
  pub read : fields_of (get_or nodes row no_record) ≡ get_or (rows_of nodes) row no_node
  pub store : (node : Node) → rows_of (set nodes row node) ≡ set (rows_of nodes) row (fields_of node)
  pub clear : rows_of (set nodes row no_record) ≡ set (rows_of nodes) row no_node
  pub clear_one : rows_of (set nodes row no_record) ≡ wiped (rows_of nodes) row 1
