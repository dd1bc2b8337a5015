-- A node's record and its row: the same fields, by name and by position.
use Rattle.std.specs.Prelude.{List, [], ◌∷◌, map}
use Rattle.tape.specs.Fields.{Row, name_start_of, name_length_of, start_of, length_of, span_of, hash_of, tags_of, origin_of}
use Rattle.record.specs.declared.Node.{Node}

-- the record without a node: every field is zero
abbrev pub no_record : Node
no_record = record { name_start = 0; name_length = 0; start = 0; length = 0; span = 0; hash = 0; tags = 0; origin = 0 }

-- a record's fields, in the order of a row's positions
abbrev pub fields_of : Node → Row
fields_of n = n.name_start ∷ n.name_length ∷ n.start ∷ n.length ∷ n.span ∷ n.hash ∷ n.tags ∷ n.origin ∷ []

-- the record of a row, by the engine's names for its positions
abbrev pub record_of : Row → Node
record_of r =
    record {
      name_start = name_start_of r;
      name_length = name_length_of r;
      start = start_of r;
      length = length_of r;
      span = span_of r;
      hash = hash_of r;
      tags = tags_of r;
      origin = origin_of r;
    }

-- a list of records as the engine sees it
unfoldable pub rows_of : List Node → List Row
rows_of nodes = map fields_of nodes
