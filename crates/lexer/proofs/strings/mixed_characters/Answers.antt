-- What is left of the string, with whether it is plain so far, gives the same.
use mathlib.Core.Path.{◌≡◌, sym, ◌∙◌}
use mathlib.Core.Bool.{true≢false}
use native.Mathlib.Omega.{arith}
use borrow.Author.Tests.{not-true}
use Rattle.spec.specs.Bytes.{byte}
use Rattle.spec.specs.Fault.{outcome_by, number_of}
use Rattle.spec.proofs.FaultLaws.{handed}
use Rattle.lexer.proofs.ByteLaws.{here}
use Rattle.lexer.proofs.AnswerLaws.{scalar_ok, character_refused}
use Rattle.lexer.proofs.StringLaws.{character_ok_past}
use Rattle.lexer.proofs.VerbatimLaws.{verbatim_past, ends_backslash}
use Rattle.lexer.proofs.NameLaws.{no_more, passing_starts, passing_verbatim, passing_more, passing_quote, passing_refused}
use Rattle.lexer.proofs.strings.mixed_characters.Goals as goal

pub loop-start-init : goal.loop-start-init
unfolding outcome_by number_of
loop-start-init c = passing_verbatim c.requires (λ e. absurd (true≢false (sym e))) (passing_starts _ _)

pub overflow_add-result : goal.overflow_add-result
unfolding outcome_by number_of
overflow_add-result c = omega (arith, here _ _ _ (sym c.peek.ensures) (omega arith))

pub returns-then-peek-eq34 : goal.returns-then-peek-eq34
unfolding outcome_by number_of
returns-then-peek-eq34 c =
    let before_this = passing_verbatim c.verbatim_end-at.ensures.passed (not-true _) c.loop-start.invariant in
    passing_quote (sym c.peek.ensures ∙ c.if-peek-eq34.true) before_this

pub returns-in_err-read : goal.returns-in_err-read
unfolding outcome_by number_of
returns-in_err-read c =
    let before_this = passing_verbatim c.verbatim_end-at.ensures.passed (not-true _) c.loop-start.invariant in
    let no_quote : byte c.args.s.now c.verbatim_end-at.result ≡ 0x22 → ⊥ = λ e. c.if-peek-eq34.false (c.peek.ensures ∙ e) in
    rw (handed _ c.from_residual.ensures.1)
    (passing_refused _ _ no_quote (character_refused _ c.character.ensures c.in_err-read.was) before_this)

pub loop-start-smaller : goal.loop-start-smaller
unfolding outcome_by number_of
loop-start-smaller c =
    omega (
      arith,
      character_ok_past _ _ _ (scalar_ok _ c.character.ensures c.in_ok-read.was),
      verbatim_past c.verbatim_end-at.ensures.passed,
    )

pub loop-start-preserved : goal.loop-start-preserved
unfolding outcome_by number_of
loop-start-preserved c =
    let before_this = passing_verbatim c.verbatim_end-at.ensures.passed (not-true _) c.loop-start.invariant in
    let no_quote : byte c.args.s.now c.verbatim_end-at.result ≡ 0x22 → ⊥ = λ e. c.if-peek-eq34.false (c.peek.ensures ∙ e) in
    let e = scalar_ok _ c.character.ensures c.in_ok-read.was in
    let n = no_quote in
    passing_more _ n e (no_more _ _ c.loop-start.plain (ends_backslash c.verbatim_end-at.ensures.ends n e)) before_this
