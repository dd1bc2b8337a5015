-- The count over a list of patch files: SPECIFICATION 14.2 and 14.3, T-12.
use Rattle.std.specs.Prelude.{ℕ, ◌+◌, ◌-◌, List, [], ◌∷◌, Bool, true, not, eqb, if◌then◌else◌}
use Rattle.spec.specs.Refusal.{done}
use Rattle.spec.specs.Bytes.{Bytes, Text, ascii}
use Rattle.inspection.specs.Inspection.{Counts, no_counts, plus, total, Inspection, inspection}

-- What a name of the list comes to: a file that cannot be read, or what its patch comes to.
pub data Result : Type 0 where
  unreadable : Result
  inspected : Inspection → Result

-- a name of the list by its file: it cannot be read, or it holds these bytes
pub data File : Type 0 where
  unread : File
  holding : Bytes → File

unfoldable pub result_of : File → Result
result_of unread = unreadable
result_of (holding s) = inspected (inspection s)

unfoldable pub results : List File → List Result
results [] = []
results (f ∷ fs) = result_of f ∷ results fs

-- "the refused or unreadable"
unfoldable pub is_refused : Result → Bool
is_refused unreadable = true
is_refused (inspected i) = not (eqb i.number done)

unfoldable pub counts_in : Result → Counts
counts_in unreadable = no_counts
counts_in (inspected i) = i.counts

-- ---- the sums over a list
pub record Tally : Type 0 where
  pub patches : ℕ
  pub refused : ℕ
  pub counts : Counts

abbrev pub no_tally : Tally
no_tally = record { patches = 0; refused = 0; counts = no_counts }

-- the sums of two, field by field
unfoldable pub both : Tally → Tally → Tally
both t u =
    record { patches = t.patches + u.patches; refused = t.refused + u.refused; counts = plus t.counts u.counts }

-- "P counts all files, R the refused or unreadable"; "Refused patches add nothing to the six."
unfoldable pub one : Result → Tally
one r =
    if is_refused r then record { patches = 1; refused = 1; counts = no_counts }
    else record { patches = 1; refused = 0; counts = counts_in r }

unfoldable pub tally : List Result → Tally
tally [] = no_tally
tally (r ∷ rs) = both (one r) (tally rs)

-- ---- the line, as words with a number each
pub record Field : Type 0 where
  pub word : Text
  pub number : ℕ

abbrev pub field : Text → ℕ → Field
field word number = record { word = word; number = number }

-- "`patches` P `refused` R `add` A `remove` B `replace` C `move` D `copy` E `test` F `ops` N `over` Q, where P counts all files, R the refused or
-- unreadable, Q is P less R, N is the sum of the six, and the mean is N over Q, left undivided."
unfoldable pub fields_of : Tally → List Field
fields_of t =
    field (ascii "patches") t.patches
    ∷ field (ascii "refused") t.refused
    ∷ field (ascii "add") t.counts.add
    ∷ field (ascii "remove") t.counts.remove
    ∷ field (ascii "replace") t.counts.replace
    ∷ field (ascii "move") t.counts.move
    ∷ field (ascii "copy") t.counts.copy
    ∷ field (ascii "test") t.counts.test
    ∷ field (ascii "ops") (total t.counts)
    ∷ field (ascii "over") (t.patches - t.refused)
    ∷ []

-- "at most 1,000,000 patch file names"
abbrev pub max_names : ℕ
max_names = 1_000_000

unfoldable pub line : List Result → List Field
line rs = fields_of (tally rs)
