-- The undo of a patch, as a JSON value. Its text is that value written: SPECIFICATION 16.3. T-09: "The undo is compact, each operation's members being op,
-- path and, where used, value, in that order; pointers are written from their tokens".
use Rattle.std.specs.Prelude.{List, [], ◌∷◌, if◌then◌else◌}
use Rattle.spec.specs.Bytes.{Text, ascii}
use Rattle.spec.specs.Forest.{none, tree}
use Rattle.spec.specs.Value as Value
use Rattle.spec.specs.Value.{Label, Members, leaf}
use Rattle.spec.specs.Operation.{Kind, add, remove, replace, move, copy, test, Operation}
use Rattle.spec.specs.Patch.{uses_value}
use Rattle.claims.specs.Pointers.{pointer_of}

unfoldable pub op_name : Kind → Text
op_name add = ascii "add"
op_name remove = ascii "remove"
op_name replace = ascii "replace"
op_name move = ascii "move"
op_name copy = ascii "copy"
op_name test = ascii "test"

-- a value under a name, before other members
abbrev pub member : Text → Value.Value → Members → Members
member name v rest = tree (record { name = name; label = v.label }) v.kids rest

-- `value`, where it is used
unfoldable pub value_member : Operation → Members
value_member o = if uses_value o.kind then member (ascii "value") o.value none else none

unfoldable pub operation_value : Operation → Value.Value
operation_value o =
    record {
      label = Label.object;
      kids = member (ascii "op") (leaf (Label.string (op_name o.kind)))
          (member (ascii "path") (leaf (Label.string (pointer_of o.path))) (value_member o));
    }

unfoldable pub operation_values : List Operation → Members
operation_values [] = none
operation_values (o ∷ os) = member [] (operation_value o) (operation_values os)

unfoldable pub undo_value : List Operation → Value.Value
undo_value os = record { label = Label.array; kids = operation_values os }
