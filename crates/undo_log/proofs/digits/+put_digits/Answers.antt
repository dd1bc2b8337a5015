-- `put_digits` meets its contract: the last digit is laid down behind those of a tenth. The number falls. Assumes nothing.
use Prim.Native.Nat.{◌/◌}
use native.Mathlib.Omega.{arith}
use mathlib.Core.Path.{sym, ap, ◌∙◌}
use mathlib.Core.List.{[], ◌∷◌, ◌++◌}
use Rattle.reversal.specs.Undo.{index_token}
use Rattle.writer.proofs.PlacedLaws.{placed_as, placed_then}
use Rattle.undo_log.proofs.DigitLaws.{index_small, index_large}
use Rattle.undo_log.proofs.digits.+put_digits.Goals as goal

pub returns-then-n-lt10 : goal.returns-then-n-lt10
returns-then-n-lt10 t c =
    placed_as (index_small _ c.if-n-lt10.true ∙ ap (λ d. d ∷ []) (sym c.last_digit.ensures)) c.put_byte.ensures

pub returns : goal.returns
returns t c =
    placed_as (index_large c.args.n (omega (arith, c.if-n-lt10.false)) ∙ ap (λ d. index_token (c.args.n / 10) ++ (d ∷ [])) (sym c.last_digit-2.ensures))
    (placed_then c.put_digits-put.ensures c.put_byte-last.ensures)
