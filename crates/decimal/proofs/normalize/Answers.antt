-- `decimal::normalize` meets its contract. Assumes nothing.
use mathlib.Core.Path.{◌∙◌}
use Rattle.decimal.proofs.IntegerLaws.{back}
use Rattle.decimal.proofs.NormalLaws.{over_length, over_exponent, within_limits_lem, exponent_is, exponent_small}
use Rattle.decimal.proofs.normalize.Goals as goal

pub returns-then-t-gt-MAX_NUMBER : goal.returns-then-t-gt-MAX_NUMBER
returns-then-t-gt-MAX_NUMBER c = over_length _ c.if-t-gt-MAX_NUMBER.true

pub returns-then-size-gt-MAX_EXPONENT : goal.returns-then-size-gt-MAX_EXPONENT
returns-then-size-gt-MAX_EXPONENT c = over_exponent _ _ _ c.after_letter-exponent.ensures c.exponent_size-size.ensures c.if-size-gt-MAX_EXPONENT.true

pub normal_form-requires : goal.normal_form-requires
normal_form-requires c =
    let is = exponent_is _ _ _ c.after_letter-exponent.ensures c.exponent_size-size.ensures c.if-size-gt-MAX_EXPONENT.false _ _ c.has_minus.ensures
    c.signed.ensures in
    let read = back c.signed.result c.signed.type_inv ∙ is in (
      c.if-t-gt-MAX_NUMBER.false,
      (
        read,
        rw read
            (exponent_small _ _ _ c.after_letter-exponent.ensures c.exponent_size-size.ensures c.if-size-gt-MAX_EXPONENT.false),
      ),
    )

pub returns : goal.returns
returns c =
    let small = exponent_small _ _ _ c.after_letter-exponent.ensures c.exponent_size-size.ensures c.if-size-gt-MAX_EXPONENT.false in
    within_limits_lem _ _ c.if-t-gt-MAX_NUMBER.false small c.normal_form.ensures
