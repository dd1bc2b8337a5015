-- `write_scalar` meets its contract, by the tests on the kind.
use mathlib.Core.Path.{sym, ◌∙◌}
use Rattle.text.specs.Written.{written}
use Rattle.writer.proofs.PlacedLaws.{placed_as}
use Rattle.writer.proofs.PieceLaws.{scalar-string, scalar-number, scalar_literal}
use Rattle.writer.proofs.pieces.write_scalar.Goals as goal

pub returns-then-kind-eq-STRING : goal.returns-then-kind-eq-STRING
unfolding written
returns-then-kind-eq-STRING c = placed_as (scalar-string _ _ _ c.if-kind-eq-STRING.true) c.write_string.ensures

pub returns-then-kind-eq-NUMBER : goal.returns-then-kind-eq-NUMBER
unfolding written
returns-then-kind-eq-NUMBER c =
    placed_as (scalar-number _ _ _ c.if-kind-eq-STRING.false c.if-kind-eq-NUMBER.true ∙ sym c.part-s.ensures) c.put_part.ensures

pub returns : goal.returns
unfolding written
returns c =
    placed_as (scalar_literal _ _ _ c.if-kind-eq-STRING.false c.if-kind-eq-NUMBER.false ∙ sym c.literal.ensures) c.put_part-2.ensures
