use mathlib.Core.Path.{◌≡◌, sym}
use mathlib.Core.Bool.{true}
use native.Mathlib.Omega.{arith}
use Rattle.text.proofs.Auto.{auto}
use Rattle.spec.specs.Bytes.{byte}
use Rattle.spec.specs.Fault.{outcome_by, number_of}
use Rattle.lexer.specs.Names.{stands_for_itself}
use Rattle.lexer.proofs.StringLoop.{self_inside}
use Rattle.text.specs.Decode.{character_in}
use Rattle.text.proofs.LetterLaws.{self_string}
use Rattle.text.proofs.letters.string_letter.Goals as goal

pub overflow_add-result : goal.overflow_add-result
overflow_add-result c =
    let own : stands_for_itself (byte c.args.s.now c.args.at) ≡ true = cc in
    omega (arith, self_inside _ _ own)

pub returns-then-stands_for_itself : goal.returns-then-stands_for_itself
unfolding outcome_by number_of
returns-then-stands_for_itself c =
    let own : stands_for_itself (byte c.args.s.now c.args.at) ≡ true = cc in
    rw c.peek-b.ensures (sym (self_string _ _ own))

pub returns-then-b-eq34 : goal.returns-then-b-eq34
unfolding character_in outcome_by number_of
returns-then-b-eq34 c = rw (← c.peek-b.ensures) (search auto)

pub returns : goal.returns
unfolding character_in outcome_by number_of
returns c = rw (← c.peek-b.ensures) (search auto)
