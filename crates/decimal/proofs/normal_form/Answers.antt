-- `decimal::normal_form` meets its contract. Assumes nothing.
use mathlib.Core.Path.{ap, ◌∙◌}
use native.Mathlib.Omega.{arith}
use lib.ListN.{length, drop, length-drop}
use Rattle.spec.specs.Worth.{mantissa, trimmed}
use Rattle.decimal.proofs.IntegerLaws.{back}
use Rattle.decimal.proofs.MantissaLaws.{rest, mantissa_counted}
use Rattle.decimal.proofs.NormalLaws.{normal_is, trimmed_shorter, mantissa_shorter, fraction_shorter}
use Rattle.decimal.proofs.normal_form.Goals as goal

pub overflow_sub-dropped : goal.overflow_sub-dropped
overflow_sub-dropped c = rw (c.significant-count.ensures, c.digits.ensures, mantissa_counted) (trimmed_shorter _)

pub power-requires : goal.power-requires
power-requires c =
    let all = c.digits.ensures ∙ mantissa_counted _ ∙ ap (λ s. length (mantissa s)) (rest c.first_digit-first.result c.args.t.now) in (
      rw (back c.args.exponent c.ranges.exponent.sfits) c.requires.1.1,
      (
        omega (arith, fraction_shorter c.args.t.now),
        omega (arith, mantissa_shorter (drop c.first_digit-first.result c.args.t.now), length-drop c.first_digit-first.result c.args.t.now),
      ),
    )

pub returns : goal.returns
returns c =
    let here = rest c.first_digit-first.result c.args.t.now in
    normal_is _ _ _ _ _
    (c.below_zero.ensures ∙ rw c.has_minus.ensures)
    c.first_digit-first.ensures.is
    (c.significant-count.ensures ∙ ap (λ s. length (trimmed (mantissa s))) here)
    (back c.args.exponent c.ranges.exponent.sfits ∙ c.requires.1.0)
    c.fraction.ensures
    (c.digits.ensures ∙ mantissa_counted _ ∙ ap (λ s. length (mantissa s)) here)
    (back c.power.result c.power.type_inv ∙ c.power.ensures)
