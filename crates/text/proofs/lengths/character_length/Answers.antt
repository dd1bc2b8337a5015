use mathlib.Core.Path.{sym, ◌∙◌, ap}
use lib.ListN.{length}
use Rattle.text.specs.Written.{hex_escape}
use Rattle.text.proofs.EscapeLaws.{writes}
use Rattle.text.proofs.lengths.character_length.Goals as goal

pub returns-then-short_letter-ne0 : goal.returns-then-short_letter-ne0
unfolding hex_escape
returns-then-short_letter-ne0 c = sym (ap length ((writes _).short (λ z. c.if-short_letter-ne0.true (c.short_letter.ensures ∙ z))))

pub returns-then-c-lt32 : goal.returns-then-c-lt32
unfolding hex_escape
returns-then-c-lt32 c = sym (ap length ((writes _).hex (sym c.short_letter.ensures ∙ c.if-short_letter-ne0.false) c.if-c-lt32.true))

pub returns : goal.returns
unfolding hex_escape
returns c = c.utf8_length.ensures
    ∙ sym (ap length ((writes _).raw (sym c.short_letter.ensures ∙ c.if-short_letter-ne0.false) c.if-c-lt32.false))
