-- `walk_from`: the tokens that are left lead from the row to the same value; the measure is what is left of the pointer.
use borrow.Author.Rules.{rules}
use Rattle.walk.proofs.PathLaws.{walking_all, walking_lost, walking_done, walking_next, walking_count, walking_less}
use Rattle.walk.proofs.path.walk_from.Goals as goal

pub loop-child-init : goal.loop-child-init
loop-child-init c = walking_all _ _ _ _

pub returns-in-Err : goal.returns-in-Err
returns-in-Err c =
    rw c.at.ensures (walking_lost c.loop-child.invariant _ c.part-pointer.ensures c.token-t.ensures c.token_name-name.ensures _
    c.step.ensures _ c.in-Err.is)

pub returns-in_default : goal.returns-in_default
returns-in_default c =
    walking_done c.loop-child.invariant _ c.part-pointer.ensures c.token-t.ensures c.token_name-name.ensures _
    c.step.ensures _ c.in-Ok.is _ c.in_default.is

pub overflow_add-walked : goal.overflow_add-walked
overflow_add-walked c = let less = walking_count
    c.loop-child.invariant _
    c.part-pointer.ensures
    c.token-t.ensures
    c.token_name-name.ensures _
    c.step.ensures _
    c.in-Ok.is _ _ c.in-Next.is in
    search rules

pub loop-child-smaller : goal.loop-child-smaller
loop-child-smaller c =
    walking_less c.loop-child.invariant _ c.part-pointer.ensures c.token-t.ensures c.token_name-name.ensures _
    c.step.ensures _ c.in-Ok.is _ _ c.in-Next.is

pub loop-child-preserved : goal.loop-child-preserved
loop-child-preserved c =
    walking_next c.loop-child.invariant _ c.part-pointer.ensures c.token-t.ensures c.token_name-name.ensures _
    c.step.ensures _ c.in-Ok.is _ _ c.in-Next.is
