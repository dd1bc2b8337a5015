-- `next_item` meets its contract.
use Rattle.spec.proofs.FaultLaws.{handed}
use mathlib.Core.Path.{sym, ◌∙◌}
use Rattle.reader.proofs.PastLaws.{bracket_here}
use Rattle.reader.proofs.MemberLaws.{item_close, item_next, item_unnamed}
use Rattle.lexer.proofs.ByteLaws.{read-inside}
use Rattle.reader.proofs.items.next_item.Goals as goal

pub returns-then-read-closing_bracket : goal.returns-then-read-closing_bracket
returns-then-read-closing_bracket c =
    let bracket = sym c.read-read.ensures.byte_is ∙ c.if-read-closing_bracket.true ∙ c.closing_bracket.ensures in
    item_close _ _ _ _ _ c.blanks-place.ensures _ (read-inside (c.read-read.ensures) (bracket_here _ _ _ bracket)) bracket

pub returns-in_err-named : goal.returns-in_err-named
returns-in_err-named c =
    rw (handed _ c.from_residual.ensures.1)
    (item_unnamed _ _ _ _ _ c.blanks-place.ensures (λ e. c.if-read-closing_bracket.false (c.read-read.ensures.byte_is ∙ e ∙ sym c.closing_bracket.ensures))
    _ c.in_err-named.ensures)

pub returns : goal.returns
returns c =
    item_next _ _ _ _ _ c.blanks-place.ensures (λ e. c.if-read-closing_bracket.false (c.read-read.ensures.byte_is ∙ e ∙ sym c.closing_bracket.ensures))
    _ c.in_ok-named.ensures
