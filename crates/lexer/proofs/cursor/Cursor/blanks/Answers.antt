-- The blanks that are left run to the same place.
use mathlib.Core.Path.{◌≡◌}
use mathlib.Core.Bool.{true}
use native.Mathlib.Omega.{arith}
use Rattle.spec.specs.Bytes.{byte}
use Rattle.spec.specs.Read.{is_blank, blanks}
use Rattle.lexer.proofs.Fuel.{starts, goes_on, ends}
use Rattle.lexer.proofs.ByteLaws.{inside}
use Rattle.lexer.proofs.BlankLaws.{not_blank, blanks_more, blanks_none, blanks_end}
use Rattle.lexer.proofs.cursor.Cursor.blanks.Goals as goal

pub loop-at-init : goal.loop-at-init
unfolding blanks
loop-at-init c = starts _ _ _

pub peek-requires : goal.peek-requires
unfolding blanks
peek-requires c = tt

pub is_blank-requires : goal.is_blank-requires
unfolding blanks
is_blank-requires c = tt

pub overflow_add-at : goal.overflow_add-at
unfolding blanks
overflow_add-at c =
    let blank_here : is_blank (byte c.args.s.now c.loop-at.at) ≡ true = cc in
    let inner = inside is_blank not_blank _ _ blank_here in
    omega (arith, inner)

pub loop-at-smaller : goal.loop-at-smaller
unfolding blanks
loop-at-smaller c =
    let blank_here : is_blank (byte c.args.s.now c.loop-at.at) ≡ true = cc in
    let inner = inside is_blank not_blank _ _ blank_here in
    omega (arith, inner)

pub loop-at-preserved : goal.loop-at-preserved
unfolding blanks
loop-at-preserved c =
    let blank_here : is_blank (byte c.args.s.now c.loop-at.at) ≡ true = cc in
    let inner = inside is_blank not_blank _ _ blank_here in
    goes_on _ _ inner (omega arith) (λ fuel. blanks_more _ _ fuel blank_here) c.loop-at.invariant

pub returns : goal.returns
unfolding blanks
returns c = ends (λ _. blanks_none _ _) (blanks_end _ _ (cc)) c.loop-at.invariant
