-- The node table's numbers: kinds of nodes, fields of nodes, rows of the table. src/layout.rt has the same.
use Rattle.std.specs.Prelude.{ℕ}

-- ---- a node's kind, numbered as `tag` numbers a label; from array_kind on they are containers
abbrev pub null_kind : ℕ
null_kind = 0

abbrev pub true_kind : ℕ
true_kind = 1

abbrev pub false_kind : ℕ
false_kind = 2

abbrev pub number_kind : ℕ
number_kind = 3

abbrev pub string_kind : ℕ
string_kind = 4

abbrev pub array_kind : ℕ
array_kind = 5

abbrev pub object_kind : ℕ
object_kind = 6

-- ---- how a text is read where it stands: not at all, for it is empty; a JSON string without escapes, and with them; a pointer's token inside a
-- JSON string; a number
abbrev pub no_text : ℕ
no_text = 0

abbrev pub plain_string : ℕ
plain_string = 1

abbrev pub escaped_string : ℕ
escaped_string = 2

abbrev pub token : ℕ
token = 3

abbrev pub numeral : ℕ
numeral = 4

-- ---- which text it stands in
abbrev pub in_document : ℕ
in_document = 0

abbrev pub in_patch : ℕ
in_patch = 1

-- ---- how many values a field can have, and the parts of a node's tags
abbrev pub values : ℕ
values = 65_536

abbrev pub kinds : ℕ
kinds = 8

abbrev pub forms : ℕ
forms = 8

abbrev pub sources : ℕ
sources = 2

-- ---- the table's rows: three parts, each of as many rows as a text may have nodes
abbrev pub document_row : ℕ
document_row = 0

abbrev pub patch_row : ℕ
patch_row = 2_048

abbrev pub scratch_row : ℕ
scratch_row = 4_096

abbrev pub rows : ℕ
rows = 6_144
