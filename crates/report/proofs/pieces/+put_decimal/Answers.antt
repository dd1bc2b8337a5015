-- `put_decimal` meets its contract: the last digit is laid down behind those of a tenth. The number falls.
use Prim.Native.Nat.{◌/◌}
use native.Mathlib.Omega.{arith}
use mathlib.Core.Path.{sym, ap, ◌∙◌}
use mathlib.Core.List.{[], ◌∷◌, ◌++◌}
use Rattle.report.specs.Line.{in_decimal}
use Rattle.writer.proofs.PlacedLaws.{placed_as, placed_then}
use Rattle.report.proofs.DecimalLaws.{decimal_small, decimal_large}
use Rattle.report.proofs.pieces.+put_decimal.Goals as goal

pub returns-then-n-lt10 : goal.returns-then-n-lt10
returns-then-n-lt10 t c =
    placed_as (decimal_small _ c.if-n-lt10.true ∙ ap (λ d. d ∷ []) (sym c.last_digit.ensures)) c.put_byte.ensures

pub returns : goal.returns
returns t c =
    placed_as (decimal_large c.args.n (omega (arith, c.if-n-lt10.false)) ∙ ap (λ d. in_decimal (c.args.n / 10) ++ (d ∷ [])) (sym c.last_digit-2.ensures))
    (placed_then c.put_decimal-put.ensures c.put_byte-last.ensures)
