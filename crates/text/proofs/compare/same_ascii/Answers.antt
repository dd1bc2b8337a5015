use mathlib.Core.Path.{sym, ◌∙◌}
use native.Mathlib.Omega.{arith}
use Rattle.text.proofs.LetterLaws.{scalar_text, scalar_less, refused_text}
use Rattle.text.proofs.CompareLaws.{front, back, heads_same, heads_differ, longer, end_same, common_word}
use Rattle.text.proofs.compare.same_ascii.Goals as goal

pub loop-c-init : goal.loop-c-init
loop-c-init c = common_word c.common-start.ensures

pub returns-in_default : goal.returns-in_default
returns-in_default c =
    end_same _ _ c.loop-c.invariant.0 (refused_text _ _ _ c.letter.ensures _ c.in_default.is) ∙ c.loop-c.invariant.1

pub returns-then-constant-j : goal.returns-then-constant-j
returns-then-constant-j c =
    longer (scalar_text _ _ _ c.letter.ensures _ c.in-Ok.is) (back c.args.constant.now c.loop-c.j (omega arith)) ∙ c.loop-c.invariant.1

pub overflow_cast-constant : goal.overflow_cast-constant
overflow_cast-constant c = omega (arith, c.type_inv.constant c.loop-c.j)

pub returns-then-c-constant : goal.returns-then-c-constant
returns-then-c-constant c =
    heads_differ (scalar_text _ _ _ c.letter.ensures _ c.in-Ok.is) (front _ _ c.if-constant-j.false) c.if-c-constant.true
    ∙ c.loop-c.invariant.1

pub loop-c-smaller : goal.loop-c-smaller
loop-c-smaller c = scalar_less _ _ _ c.letter.ensures _ c.in-Ok.is

pub loop-c-preserved : goal.loop-c-preserved
loop-c-preserved c = (
  omega arith,
  sym (heads_same (scalar_text _ _ _ c.letter.ensures _ c.in-Ok.is) (front _ _ c.if-constant-j.false) c.if-c-constant.false)
      ∙ c.loop-c.invariant.1,
)
