-- `noted` meets its contract, by the hash, by what was found before, and by the name.
use mathlib.Core.Path.{sym, ◌∙◌}
use native.Mathlib.Omega.{arith}
use Rattle.table.proofs.Search.{other-named, hash-named}
use Rattle.shape.proofs.PassLaws.{noted-before, noted_here, noted_other, noted_none}
use Rattle.shape.proofs.all_members.noted.Goals as goal

pub returns-then-own-hash : goal.returns-then-own-hash
returns-then-own-hash c = noted_other _ _ _ _ _ _ (other-named _ _ _ _ (λ e. omega (arith, c.if-own-hash.true, e)))

pub returns-then-is_some : goal.returns-then-is_some
returns-then-is_some c = noted-before _ _ _ _ _ _ c.if-is_some.ensures

pub returns-then-says : goal.returns-then-says
returns-then-says c =
    noted_here _ _ _ _ _ _ c.if-is_some.ensures (sym c.if-says.true ∙ hash-named _ c.args.own _ _ c.if-own-hash.false c.says.ensures)

pub returns : goal.returns
returns c =
    noted_none _ _ _ _ _ _ c.if-is_some.ensures (sym c.if-says.false ∙ hash-named _ c.args.own _ _ c.if-own-hash.false c.says.ensures)
