-- `other_hash` meets its contract, character by character.
use mathlib.Core.Path.{refl}
use Rattle.text.proofs.LetterLaws.{scalar_text, scalar_less, refused_text}
use Rattle.index.specs.Bits.{other_hash}
use Rattle.index.proofs.BitLaws.{other_ends, other_more}
use Rattle.index.proofs.bits.other_hash.Goals as goal

pub loop-c-init : goal.loop-c-init
unfolding other_hash
loop-c-init c = refl

pub returns : goal.returns
unfolding other_hash
returns c = other_ends (refused_text _ _ _ c.letter.ensures _ c.in_default.is) c.loop-c.invariant

pub loop-c-smaller : goal.loop-c-smaller
unfolding other_hash
loop-c-smaller c = scalar_less _ _ _ c.letter.ensures _ c.in-Ok.is

pub loop-c-preserved : goal.loop-c-preserved
unfolding other_hash
loop-c-preserved c =
    other_more _ (scalar_text _ _ _ c.letter.ensures _ c.in-Ok.is) c.other_mix-h.ensures c.loop-c.invariant
