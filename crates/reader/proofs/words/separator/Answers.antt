-- `separator` meets its contract.
use mathlib.Core.Path.{sym, ap, ◌∙◌}
use Rattle.spec.specs.Outcome.{ok}
use Rattle.spec.specs.Read.{blanks}
use Rattle.spec.specs.Fault.{outcome_by, number_of}
use Rattle.lexer.proofs.ByteLaws.{read_here}
use Rattle.reader.proofs.ItemLaws.{separator_here, separator_missing}
use Rattle.reader.proofs.words.separator.Goals as goal

pub returns-then-read-mark : goal.returns-then-read-mark
unfolding outcome_by number_of
returns-then-read-mark c = rw c.at.ensures (separator_missing _ _ _ (λ e. c.if-read-mark.true (c.read-read.ensures.byte_is ∙ e)))

pub returns : goal.returns
unfolding outcome_by number_of
returns c =
    let next = read_here c.read-read.ensures _ c.if-read-mark.false c.requires in
    ap ok (c.blanks.ensures ∙ ap (blanks c.args.s.now) next) ∙ separator_here _ _ _ (sym (c.read-read.ensures.byte_is) ∙ c.if-read-mark.false)
