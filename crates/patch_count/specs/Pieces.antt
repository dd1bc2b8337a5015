-- The line in pieces, as the code lays it down.
use Rattle.std.specs.Prelude.{ℕ, ◌<◌, ◌++◌}
use Rattle.spec.specs.Bytes.{Bytes, ascii}
use Rattle.report.specs.Line.{in_decimal, newline}
use Rattle.inspect.specs.declared.counts.Counts.{Counts}
use Rattle.inspect.specs.Counts.{counts_in}
use Rattle.inspection.specs.Inspection.{total}
use Rattle.patch_count.specs.declared.tally.Tally.{Tally}

abbrev pub first_piece : Tally → Bytes
first_piece t =
    ((ascii "patches " ++ in_decimal t.patches) ++ (ascii " refused " ++ in_decimal t.refused))
    ++ ((ascii " add " ++ in_decimal t.counts.adds) ++ (ascii " remove " ++ in_decimal t.counts.removes))

abbrev pub second_piece : Counts → Bytes
second_piece c =
    ((ascii " replace " ++ in_decimal c.replaces) ++ (ascii " move " ++ in_decimal c.moves))
    ++ ((ascii " copy " ++ in_decimal c.copies) ++ (ascii " test " ++ in_decimal c.tests))

abbrev pub last_piece : ℕ → ℕ → Bytes
last_piece ops over = ((ascii " ops " ++ in_decimal ops) ++ (ascii " over " ++ in_decimal over)) ++ newline

abbrev pub whole_line : Tally → ℕ → ℕ → Bytes
whole_line t ops over = (first_piece t ++ second_piece t.counts) ++ last_piece ops over

-- the six together fit a number of 64 bits
abbrev pub Summed : Counts → Type 0
Summed c = total (counts_in c) < 0x1_0000_0000_0000_0000
