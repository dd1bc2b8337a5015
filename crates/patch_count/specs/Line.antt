-- The bytes of the line that the program prints: SPECIFICATION 14.3, T-12, words and numbers with a space between them.
use Rattle.std.specs.Prelude.{List, [], ◌∷◌, ◌++◌, ltb, length}
use Rattle.std.specs.Prelude.{if◌then◌else◌}
use Rattle.spec.specs.Bytes.{Bytes, ascii}
use Rattle.report.specs.Line.{in_decimal, newline}
use Rattle.inspection.specs.Tally.{File, results, Field, line, max_names}

-- a field: its word, a space, its number
unfoldable pub field_bytes : Field → Bytes
field_bytes f = f.word ++ ascii " " ++ in_decimal f.number

-- the fields behind the first, each after a space, and the newline
unfoldable pub others : List Field → Bytes
others [] = newline
others (f ∷ fs) = ascii " " ++ field_bytes f ++ others fs

unfoldable pub line_bytes : List Field → Bytes
line_bytes [] = newline
line_bytes (f ∷ fs) = field_bytes f ++ others fs

-- "for more it prints only `too long`"
unfoldable pub too_long : Bytes
too_long = ascii "too long" ++ newline

-- what is printed of a list of names, by the files that they name
unfoldable pub printed : List File → Bytes
printed files = if ltb max_names (length files) then too_long else line_bytes (line (results files))
