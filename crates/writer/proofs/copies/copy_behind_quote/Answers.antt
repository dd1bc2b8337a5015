-- `copy_behind_quote` meets its contract, by how long the text is.
use native.Mathlib.Omega.{arith}
use mathlib.Core.Path.{ap, ◌∙◌}
use lib.ListN.{length}
use lib.Seq.{sets, take_all}
use Rattle.writer.proofs.copies.copy_behind_quote.Goals as goal

pub returns-then-n-lt4 : goal.returns-then-n-lt4
returns-then-n-lt4 c =
    c.copy.ensures ∙ ap (sets c.args.out.now 1) (take_all (length c.args.s.now) c.args.s.now (omega arith))

pub returns : goal.returns
returns c =
    c.copy-2.ensures ∙ ap (sets c.args.out.now 1) (take_all (length c.args.s.now) c.args.s.now (omega arith))
