-- `same_spelling` meets its contract, by those of `part` and of the comparison of two texts.
use mathlib.Core.Path.{◌∙◌, ap₂}
use Rattle.spec.specs.Value.{same_text}
use Rattle.text.specs.Decode.{text_of}
use Rattle.table.specs.Meaning.{spelled}
use Rattle.table.proofs.spellings.same_spelling.Goals as goal

pub returns : goal.returns
unfolding spelled
returns c = c.same_text.ensures ∙ ap₂ same_text
    (ap₂ text_of c.long.ensures c.part-s.ensures)
    (ap₂ text_of c.long-2.ensures c.part-t.ensures)
