-- What is left of the name, with what is kept of the characters so far, gives the same.
use mathlib.Core.Path.{◌≡◌, sym, ◌∙◌}
use mathlib.Core.Bool.{true}
use native.Mathlib.Omega.{arith}
use Rattle.spec.specs.Bytes.{byte}
use Rattle.spec.specs.Fault.{outcome_by, number_of}
use Rattle.spec.proofs.FaultLaws.{handed}
use Rattle.lexer.specs.Names.{stands_for_itself}
use Rattle.lexer.proofs.ByteLaws.{here}
use Rattle.lexer.proofs.AnswerLaws.{scalar_ok, character_refused}
use Rattle.lexer.proofs.StringLaws.{character_ok_past}
use Rattle.lexer.proofs.StringLoop.{self_inside}
use Rattle.lexer.proofs.NameLaws.{keeping_starts, keeping_self, keeping_more, keeping_quote, keeping_refused}
use Rattle.lexer.proofs.strings.name_characters.Goals as goal

pub loop-hash-init : goal.loop-hash-init
unfolding outcome_by number_of
loop-hash-init c = keeping_starts _ _

pub overflow_add-at : goal.overflow_add-at
unfolding outcome_by number_of
overflow_add-at c =
    let own : stands_for_itself (byte c.args.s.now c.loop-hash.at) ≡ true = cc in
    omega (arith, self_inside _ _ own)

pub loop-hash-smaller-then-stands_for_itself : goal.loop-hash-smaller-then-stands_for_itself
unfolding outcome_by number_of
loop-hash-smaller-then-stands_for_itself c =
    let own : stands_for_itself (byte c.args.s.now c.loop-hash.at) ≡ true = cc in
    omega (arith, self_inside _ _ own)

pub loop-hash-preserved-then-stands_for_itself : goal.loop-hash-preserved-then-stands_for_itself
unfolding outcome_by number_of
loop-hash-preserved-then-stands_for_itself c =
    let own : stands_for_itself (byte c.args.s.now c.loop-hash.at) ≡ true = cc in
    keeping_self own (rw (← c.peek-b.ensures) c.mix-hash.ensures) c.loop-hash.invariant

pub overflow_add-result : goal.overflow_add-result
unfolding outcome_by number_of
overflow_add-result c = omega (arith, here _ _ _ (sym c.peek-b.ensures) (omega arith))

pub returns-then-b-eq34 : goal.returns-then-b-eq34
unfolding outcome_by number_of
returns-then-b-eq34 c =
    keeping_quote (sym c.peek-b.ensures ∙ c.if-b-eq34.true) c.loop-hash.invariant

pub returns-in_err-read : goal.returns-in_err-read
unfolding outcome_by number_of
returns-in_err-read c =
    let no_quote : byte c.args.s.now c.loop-hash.at ≡ 0x22 → ⊥ = λ e. c.if-b-eq34.false (c.peek-b.ensures ∙ e) in
    rw (handed _ c.from_residual.ensures.1) (keeping_refused _ _ no_quote
    (character_refused _ c.character.ensures c.in_err-read.was) c.loop-hash.invariant)

pub loop-hash-smaller : goal.loop-hash-smaller
unfolding outcome_by number_of
loop-hash-smaller c =
    omega (arith, character_ok_past _ _ _ (scalar_ok _ c.character.ensures c.in_ok-read.was))

pub loop-hash-preserved : goal.loop-hash-preserved
unfolding outcome_by number_of
loop-hash-preserved c =
    let no_quote : byte c.args.s.now c.loop-hash.at ≡ 0x22 → ⊥ = λ e. c.if-b-eq34.false (c.peek-b.ensures ∙ e) in
    keeping_more _ no_quote (scalar_ok _ c.character.ensures c.in_ok-read.was) c.mix-hash-in-loop-hash.ensures
    (rw (← c.peek-b.ensures) c.still_plain-plain.ensures) c.loop-hash.invariant
