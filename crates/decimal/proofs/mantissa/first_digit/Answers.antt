use Rattle.std.specs.Prelude.{Bool, ◌||◌, unwrap_or}
use Rattle.std.specs.List.{position_or_len}
use Prim.Native.Nat.{ℕ}
use Rattle.std.proofs.Common.{arith}
use lib.ListN.{length}
use mathlib.Core.Path.{◌≡◌, ap, ◌∙◌}
use Rattle.spec.specs.Numbers.{is_e}
use Rattle.decimal.specs.Normal.{is_nonzero_digit}
use Rattle.decimal.proofs.MantissaLaws.{place_or, place_most, first_found}
use Rattle.decimal.proofs.mantissa.first_digit.Goals as goal

pub returns-clause-is : goal.returns-clause-is
returns-clause-is c = c.unwrap_or.ensures ∙ ap (λ o. unwrap_or o (length c.args.t.now)) c.significant_place.ensures ∙ place_or _ c.args.t.now ∙ first_found _

pub returns-clause-inside : goal.returns-clause-inside
returns-clause-inside c =
    let p : ℕ → Bool = λ b. is_e b || is_nonzero_digit b in
    let place : c.unwrap_or.result ≡ position_or_len p c.args.t.now =
    c.unwrap_or.ensures ∙ ap (λ o. unwrap_or o (length c.args.t.now)) c.significant_place.ensures ∙ place_or p c.args.t.now in
    omega (arith, place_most p c.args.t.now)
