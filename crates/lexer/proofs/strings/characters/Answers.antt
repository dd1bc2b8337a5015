-- The bytes so far stand for themselves.
use mathlib.Core.Path.{◌≡◌, sym, ◌∙◌}
use mathlib.Core.Bool.{true, true≢false}
use native.Mathlib.Omega.{arith}
use Rattle.spec.specs.Bytes.{byte}
use Rattle.spec.specs.Fault.{outcome_by, number_of}
use Rattle.lexer.specs.Names.{stands_for_itself}
use Rattle.lexer.specs.Verbatim.{none}
use Rattle.lexer.proofs.ByteLaws.{here}
use Rattle.lexer.proofs.StringLoop.{self_inside}
use Rattle.lexer.proofs.VerbatimLaws.{verbatim_self}
use Rattle.lexer.proofs.NameLaws.{passing_starts, passing_verbatim, passing_quote}
use Rattle.lexer.proofs.strings.characters.Goals as goal

pub loop-at-init : goal.loop-at-init
unfolding outcome_by number_of
loop-at-init c = none

pub overflow_add-at : goal.overflow_add-at
unfolding outcome_by number_of
overflow_add-at c =
    let own : stands_for_itself (byte c.args.s.now c.loop-at.at) ≡ true = cc in
    omega (arith, self_inside _ _ own)

pub loop-at-smaller : goal.loop-at-smaller
unfolding outcome_by number_of
loop-at-smaller c =
    let own : stands_for_itself (byte c.args.s.now c.loop-at.at) ≡ true = cc in
    omega (arith, self_inside _ _ own)

pub loop-at-preserved : goal.loop-at-preserved
unfolding outcome_by number_of
loop-at-preserved c =
    let own : stands_for_itself (byte c.args.s.now c.loop-at.at) ≡ true = cc in
    verbatim_self c.loop-at.invariant own

pub overflow_add-result : goal.overflow_add-result
unfolding outcome_by number_of
overflow_add-result c = omega (arith, here _ _ _ (sym c.peek-2.ensures) (omega arith))

pub returns-then-peek-eq34 : goal.returns-then-peek-eq34
unfolding outcome_by number_of
returns-then-peek-eq34 c = passing_quote (sym c.peek-2.ensures ∙ c.if-peek-eq34.true)
    (passing_verbatim c.loop-at.invariant (λ e. absurd (true≢false (sym e))) (passing_starts _ _))

pub mixed_characters-requires : goal.mixed_characters-requires
unfolding outcome_by number_of
mixed_characters-requires c = c.loop-at.invariant
