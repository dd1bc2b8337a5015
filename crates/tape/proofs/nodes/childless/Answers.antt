-- `tape::nodes::childless` meets its contract. Assumes nothing.
use mathlib.Core.Path.{◌≡◌, sym, ◌∙◌}
use borrow.Author.Rules.{rules}
use borrow.Author.Tests.{eqb-true}
use Rattle.tape.proofs.LeafLaws.{ored, none_ored}
use Rattle.tape.proofs.nodes.childless.Goals as goal

pub returns : goal.returns
returns c = λ e.
    let all : c.fold.result ≡ ored 0 c.args.nodes.now = search rules in
    none_ored c.args.nodes.now (sym all ∙ eqb-true _ _ e)
