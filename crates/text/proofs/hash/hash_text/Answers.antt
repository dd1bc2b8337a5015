use mathlib.Core.Path.{refl}
use native.Mathlib.Omega.{arith}
use Rattle.lexer.specs.Hash.{hash}
use Rattle.text.specs.Decode.{text_of}
use Rattle.text.proofs.LetterLaws.{scalar_text, scalar_less, refused_text, plain_text, plain_inside, past_text}
use Rattle.text.proofs.HashLaws.{hash_more, hash_ends}
use Rattle.text.proofs.hash.hash_text.Goals as goal

pub loop-h-init : goal.loop-h-init
unfolding hash text_of
loop-h-init c = refl

pub overflow_add-at : goal.overflow_add-at
unfolding hash text_of
overflow_add-at c = omega (arith, plain_inside _ _ _ c.plain-b.ensures c.if-b-ne0.true)

pub loop-h-smaller-then-b-ne0 : goal.loop-h-smaller-then-b-ne0
unfolding hash text_of
loop-h-smaller-then-b-ne0 c = omega (arith, plain_inside _ _ _ c.plain-b.ensures c.if-b-ne0.true)

pub loop-h-preserved-then-b-ne0 : goal.loop-h-preserved-then-b-ne0
unfolding hash text_of
loop-h-preserved-then-b-ne0 c = hash_more _ (plain_text _ _ _ c.plain-b.ensures c.if-b-ne0.true) c.mix-h.ensures c.loop-h.invariant

pub returns-then-s-at : goal.returns-then-s-at
unfolding hash text_of
returns-then-s-at c = hash_ends (past_text _ _ _ c.if-s-at.true) c.loop-h.invariant

pub returns-in_default : goal.returns-in_default
unfolding hash text_of
returns-in_default c =
    hash_ends (refused_text _ _ _ c.any_letter.ensures _ c.in_default.is) c.loop-h.invariant

pub loop-h-smaller : goal.loop-h-smaller
unfolding hash text_of
loop-h-smaller c = scalar_less _ _ _ c.any_letter.ensures _ c.in-Ok.is

pub loop-h-preserved : goal.loop-h-preserved
unfolding hash text_of
loop-h-preserved c =
    hash_more _ (scalar_text _ _ _ c.any_letter.ensures _ c.in-Ok.is) c.mix-h-in-loop-h.ensures c.loop-h.invariant
