use mathlib.Core.Path.{◌≡◌}
use lib.ListN.{drop}
use Rattle.spec.specs.Read.{word_at}
use Rattle.lexer.proofs.literals.word.Given as goal

-- what is left of the word stands where the word does
abbrev pub invariant-loop-b : goal.invariant-loop-b
invariant-loop-b l = word_at (drop l.b-index l.word) l.s l.next ≡ word_at l.word l.s l.at
