use Prim.Native.Char.{code}
use mathlib.Core.Path.{sym, ◌∙◌, ap}
use mathlib.Core.List.{[], ◌∷◌}
use Rattle.text.proofs.EscapeLaws.{writes}
use Rattle.text.proofs.StoreLaws.{stored_as}
use Rattle.text.proofs.write.put_character.Goals as goal

pub returns-then-e-ne0 : goal.returns-then-e-ne0
returns-then-e-ne0 c =
    stored_as
    ((writes c.args.c).short (λ z. c.if-e-ne0.true (c.short_letter-e.ensures ∙ z)) ∙ ap (λ l. code "\\" ∷ l ∷ []) (sym c.short_letter-e.ensures))
    c.put_few.ensures

pub returns-then-c-lt32 : goal.returns-then-c-lt32
returns-then-c-lt32 c =
    stored_as ((writes _).hex (sym c.short_letter-e.ensures ∙ c.if-e-ne0.false) c.if-c-lt32.true) c.put_hex.ensures

pub returns : goal.returns
returns c =
    stored_as ((writes _).raw (sym c.short_letter-e.ensures ∙ c.if-e-ne0.false) c.if-c-lt32.false) c.put_utf8.ensures
