use mathlib.Core.Path.{sym, ◌∙◌}
use native.Mathlib.Omega.{arith}
use Rattle.text.proofs.LetterLaws.{scalar_text, scalar_less, refused_text, plain_text, plain_inside, past_text}
use Rattle.text.proofs.CompareLaws.{heads_same, heads_differ, longer, ended_same, common_texts}
use Rattle.text.proofs.compare.same_letters.Goals as goal

pub loop-i-init : goal.loop-i-init
loop-i-init c = common_texts c.common-start.ensures

pub overflow_add-i : goal.overflow_add-i
overflow_add-i c = omega (arith, plain_inside _ _ _ c.plain-p.ensures c.if-p-ne0.true)

pub overflow_add-j : goal.overflow_add-j
overflow_add-j c = omega (arith, plain_inside _ _ _ c.plain.ensures (λ z. c.if-p-ne0.true (sym c.if-plain-p.true ∙ z)))

pub loop-i-smaller-then-plain-p : goal.loop-i-smaller-then-plain-p
loop-i-smaller-then-plain-p c = omega (arith, plain_inside _ _ _ c.plain-p.ensures c.if-p-ne0.true)

pub loop-i-preserved-then-plain-p : goal.loop-i-preserved-then-plain-p
loop-i-preserved-then-plain-p c = let one = plain_text _ _ _ c.plain-p.ensures c.if-p-ne0.true in
    let two = plain_text _ _ _ c.plain.ensures (λ z. c.if-p-ne0.true (sym c.if-plain-p.true ∙ z)) in
    sym (heads_same one two (sym c.if-plain-p.true)) ∙ c.loop-i.invariant

pub returns-then-a-i : goal.returns-then-a-i
returns-then-a-i c =
    ended_same _ (past_text c.args.form c.args.a.now c.loop-i.i (omega arith)) c.ended.ensures c.loop-i.invariant

pub returns-in_default : goal.returns-in_default
returns-in_default c =
    ended_same _ (refused_text _ _ _ c.any_letter.ensures _ c.in_default.is) c.ended-in_default.ensures c.loop-i.invariant

pub returns-in_default-any_letter : goal.returns-in_default-any_letter
returns-in_default-any_letter c =
    let one = scalar_text _ _ _ c.any_letter.ensures _ c.in-Ok.is in
    longer one (refused_text _ _ _ c.any_letter-in-loop-i.ensures _ c.in_default-any_letter.is) ∙ c.loop-i.invariant

pub returns-then-c-d : goal.returns-then-c-d
returns-then-c-d c =
    let one = scalar_text _ _ _ c.any_letter.ensures _ c.in-Ok.is in
    let two = scalar_text _ _ _ c.any_letter-in-loop-i.ensures _ c.in-Ok-any_letter.is in
    heads_differ one two c.if-c-d.true ∙ c.loop-i.invariant

pub loop-i-smaller : goal.loop-i-smaller
loop-i-smaller c =
    scalar_less _ _ _ c.any_letter.ensures _ c.in-Ok.is

pub loop-i-preserved : goal.loop-i-preserved
loop-i-preserved c =
    let one = scalar_text _ _ _ c.any_letter.ensures _ c.in-Ok.is in
    let two = scalar_text _ _ _ c.any_letter-in-loop-i.ensures _ c.in-Ok-any_letter.is in
    sym (heads_same one two c.if-c-d.false) ∙ c.loop-i.invariant
