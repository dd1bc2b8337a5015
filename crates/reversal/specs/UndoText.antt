-- The undo's text, to the byte: SPECIFICATION 16.3. T-09: "The undo is compact, each operation's members being op, path and, where used, value,
-- in that order". It is the undo's value written: `text` of specs/Statement.
use Rattle.std.specs.Prelude.{Bool, true, false, List, [], ◌∷◌, ◌++◌, if◌then◌else◌}
use Rattle.spec.specs.Bytes.{Bytes, ascii}
use Rattle.spec.specs.Write.{write_string, comma, write}
use Rattle.spec.specs.Operation.{Operation}
use Rattle.spec.specs.Patch.{uses_value}
use Rattle.claims.specs.Pointers.{pointer_of}
use Rattle.reversal.specs.UndoValue.{op_name}

unfoldable pub value_text : Operation → Bytes
value_text o = if uses_value o.kind then ascii ",\"value\":" ++ write o.value else []

unfoldable pub operation_text : Operation → Bytes
operation_text o =
    ascii "{\"op\":\"" ++ (op_name o.kind ++ (ascii "\",\"path\":" ++ (write_string (pointer_of o.path) ++ (value_text o ++ ascii "}"))))

-- the operations with commas between them
unfoldable pub operation_texts : Bool → List Operation → Bytes
operation_texts first [] = []
operation_texts first (o ∷ os) = comma first ++ (operation_text o ++ operation_texts false os)

unfoldable pub undo_text : List Operation → Bytes
undo_text os = ascii "[" ++ (operation_texts true os ++ ascii "]")
