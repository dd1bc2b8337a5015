-- The limits: SPECIFICATION 1.3.
use Rattle.std.specs.Prelude.{ℕ}

-- bytes of a document, and of a patch
abbrev pub max_bytes : ℕ
max_bytes = 32_768

-- nested containers
abbrev pub max_depth : ℕ
max_depth = 32

-- values in a document, and in a patch text
abbrev pub max_nodes : ℕ
max_nodes = 2_048

-- bytes of a number
abbrev pub max_number : ℕ
max_number = 128

-- the size of a number's written exponent
abbrev pub max_exponent : ℕ
max_exponent = 9_999

-- operations of a patch
abbrev pub max_operations : ℕ
max_operations = 256

-- ---- the work area (docs/WORK-AREA.md)
-- records of the node table: three parts, each of as many rows as a text has nodes
abbrev pub work_nodes : ℕ
work_nodes = 6_144

-- entries of the index
abbrev pub work_entries : ℕ
work_entries = 8_192
