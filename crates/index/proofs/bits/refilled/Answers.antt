-- `refilled` meets its contract: a bit is left, or the characters from the next on are hashed, or there is none.
use Prim.Native.Nat.{◌+◌, ◌%◌}
use mathlib.Core.Path.{refl, ap}
use Rattle.text.proofs.LetterLaws.{scalar_text, refused_text}
use Rattle.index.specs.Bits.{other_hashes}
use Rattle.index.proofs.BitLaws.{filled_still, filled_end, filled_next}
use Rattle.index.proofs.bits.refilled.Goals as goal

pub returns-then-bits-gt1 : goal.returns-then-bits-gt1
returns-then-bits-gt1 c = filled_still _ _ _ c.if-bits-gt1.true

pub returns-in_default : goal.returns-in_default
returns-in_default c =
    filled_end _ _ _ c.long-f.ensures c.part-s.ensures c.if-bits-gt1.false _
    (refused_text _ _ _ c.letter.ensures _ c.in_default.is)
    refl
    refl

pub returns : goal.returns
returns c =
    filled_next _ _ _ c.long-f.ensures c.part-s.ensures c.if-bits-gt1.false _ _
    (scalar_text _ _ _ c.letter.ensures _ c.in-Ok.is)
    (ap (λ n. other_hashes + n % other_hashes) c.other_hash.ensures)
