-- A node's row: eight fields of 16 bits, by their positions, and the parts of its tags.
use Rattle.std.specs.Prelude.{ℕ, ◌+◌, ◌*◌, ◌/◌, ◌%◌, List, [], ◌∷◌, get_or, set}
use Rattle.tape.specs.Layout.{kinds, forms, sources}
use Rattle.tape.specs.declared.fields.Spelling.{Spelling}
use Rattle.tape.specs.declared.fields.Name.{Name}
use Rattle.tape.specs.declared.fields.Cell.{Cell}

abbrev pub Row : Type 0
Row = List ℕ

-- ---- the fields
abbrev pub name_start_of : Row → ℕ
name_start_of r = get_or r 0 0

abbrev pub name_length_of : Row → ℕ
name_length_of r = get_or r 1 0

abbrev pub start_of : Row → ℕ
start_of r = get_or r 2 0

abbrev pub length_of : Row → ℕ
length_of r = get_or r 3 0

abbrev pub span_of : Row → ℕ
span_of r = get_or r 4 0

abbrev pub hash_of : Row → ℕ
hash_of r = get_or r 5 0

abbrev pub tags_of : Row → ℕ
tags_of r = get_or r 6 0

abbrev pub origin_of : Row → ℕ
origin_of r = get_or r 7 0

-- ---- a node's tags: its kind, the form and the source of its text, and those of its name
abbrev pub tagged : ℕ → ℕ → ℕ → ℕ → ℕ → ℕ
tagged kind form source nameForm nameSource = kind + kinds * (form + forms * (source + sources * (nameForm + forms * nameSource)))

abbrev pub kind_in : ℕ → ℕ
kind_in t = t % kinds

abbrev pub form_in : ℕ → ℕ
form_in t = t / kinds % forms

abbrev pub source_in : ℕ → ℕ
source_in t = t / (kinds * forms) % sources

abbrev pub name_form_in : ℕ → ℕ
name_form_in t = t / (kinds * forms * sources) % forms

abbrev pub name_source_in : ℕ → ℕ
name_source_in t = t / (kinds * forms * sources * forms) % sources

abbrev pub kind_of : Row → ℕ
kind_of r = kind_in (tags_of r)

-- ---- a row with another span; one without a node
abbrev pub with_span : Row → ℕ → Row
with_span r span = set r 4 span

abbrev pub no_node : Row
no_node = 0 ∷ 0 ∷ 0 ∷ 0 ∷ 0 ∷ 0 ∷ 0 ∷ 0 ∷ []

-- ---- what a row bears, and the row that bears it
abbrev pub value_of : Row → Spelling
value_of r = record { form = form_in (tags_of r); source = source_in (tags_of r); start = start_of r; length = length_of r }

abbrev pub name_of : Row → Name
name_of r =
    record {
      text = record { form = name_form_in (tags_of r); source = name_source_in (tags_of r); start = name_start_of r; length = name_length_of r };
      hash = hash_of r;
    }

abbrev pub cell_of : Row → Cell
cell_of r = record { kind = kind_of r; value = value_of r; name = name_of r; origin = origin_of r }

-- each part of the tags loses its upper bits
abbrev pub cell_tags : Cell → ℕ
cell_tags c =
    tagged (c.kind % kinds) (c.value.form % forms) (c.value.source % sources) (c.name.text.form % forms) (c.name.text.source % sources)

abbrev pub row_with : Cell → ℕ → Row
row_with c span =
    c.name.text.start ∷ c.name.text.length ∷ c.value.start ∷ c.value.length ∷ span ∷ c.name.hash ∷ cell_tags c ∷ c.origin ∷ []
