use Rattle.text.proofs.LetterLaws.{scalar_text, refused_text}
use Rattle.pointer.specs.Index.{if_last}
use Rattle.pointer.proofs.indices.if_last.Goals as goal

pub returns-in_default : goal.returns-in_default
unfolding if_last
returns-in_default c = rw (scalar_text _ _ _ c.letter.ensures _ c.in_default.is)

pub returns : goal.returns
unfolding if_last
returns c = rw (refused_text _ _ _ c.letter.ensures _ c.in-Err.is)
