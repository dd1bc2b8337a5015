-- `scalar_length` meets its contract, by the tests on the kind.
use mathlib.Core.Path.{sym, ap, ◌∙◌}
use lib.ListN.{length}
use Rattle.writer.proofs.PieceLaws.{scalar-string, scalar-number, scalar_literal}
use Rattle.writer.proofs.lengths.scalar_length.Goals as goal

pub returns-then-kind-eq-STRING : goal.returns-then-kind-eq-STRING
returns-then-kind-eq-STRING c = c.string_length.ensures ∙ sym (ap length (scalar-string _ _ _ c.if-kind-eq-STRING.true))

pub returns-then-kind-eq-NUMBER : goal.returns-then-kind-eq-NUMBER
returns-then-kind-eq-NUMBER c = ap length (c.part-s.ensures ∙ sym (scalar-number _ _ _ c.if-kind-eq-STRING.false c.if-kind-eq-NUMBER.true))

pub returns : goal.returns
returns c = ap length c.literal.ensures ∙ sym (ap length (scalar_literal _ _ _ c.if-kind-eq-STRING.false c.if-kind-eq-NUMBER.false))
