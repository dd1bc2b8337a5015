-- What the node table means with the origins that its nodes bear: SPECIFICATION 19.1. T-11: "Every node shall carry its origin". With origins forgotten,
-- this is `meant` of crate table.
use Rattle.spec.specs.Forest.{Forest}
use Rattle.tape.specs.declared.fields.Cell.{Cell}
use Rattle.tape.specs.Map.{map_forest}
use Rattle.tape.specs.Lent.{Texts}
use Rattle.table.specs.Meaning.{label_of, name_text}
use Rattle.origin.specs.Value as Value
use Rattle.origin.specs.Value.{Entry, Members}

abbrev pub bearing : Texts → Cell → Entry
bearing texts c = record { name = name_text texts c.name; label = label_of texts c.kind c.value; origin = c.origin }

abbrev pub borne_members : Texts → Forest Cell → Members
borne_members texts f = map_forest (bearing texts) f

-- the value that a node is, with its origins
abbrev pub borne : Texts → Cell → Forest Cell → Value.Value
borne texts c kids = record { label = label_of texts c.kind c.value; origin = c.origin; kids = borne_members texts kids }
