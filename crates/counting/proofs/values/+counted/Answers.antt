-- `counted` meets its contract, by the levels, which fall. In its loop, what the two values come to is what was compared so far, and then what is
-- left of both.
use Rattle.std.proofs.Common.{refl, arith}
use borrow.Author.Tests.{not-true, not-false}
use Rattle.counting.proofs.CountLaws.{counted_unlike, counted_flat, counting_all, counted_end, counted_alone, counted_differs, counting_next}
use Rattle.counting.proofs.values.+counted.Goals as goal

-- the levels fall

pub returns-then-not-alike : goal.returns-then-not-alike
returns-then-not-alike t c hints = counted_unlike _ c.alike.ensures c.if-not-alike.true refl refl

pub returns-then-levels-eq0 : goal.returns-then-levels-eq0
returns-then-levels-eq0 t c hints = counted_flat _ c.alike.ensures c.if-not-alike.false c.if-levels-eq0.true
    refl refl

pub loop-row-init : goal.loop-row-init
loop-row-init t c hints = counting_all _ c.alike.ensures c.if-not-alike.false
    _ c.kind.ensures _ _ c.end_of-end.ensures
    c.end_of.ensures

pub returns-in_default : goal.returns-in_default
returns-in_default t c hints =
    counted_alone _ _ _ _ _ _ _ (c.loop-row.invariant hints) (omega arith) c.end_of.ensures
    _ (c.partner.ensures hints)
    c.in_default.is c.arity.ensures refl
    c.wrapping_add_u64.ensures.value

pub returns-then-not-values : goal.returns-then-not-values
returns-then-not-values t c hints =
    counted_differs _ _ _ _ _ _ _ (c.loop-row.invariant hints) (omega arith) c.end_of.ensures _
    (c.partner.ensures hints) _ c.in-Some.is _ (c.counted-values.ensures hints)
    c.names_for.ensures
    c.wrapping_add_u64-names.ensures.value c.wrapping_add_u64-names-in-loop-row.ensures.value
    (not-true _ c.if-not-values.true) refl refl

pub loop-row-preserved : goal.loop-row-preserved
loop-row-preserved t c hints =
    counting_next _ _ _ _ _ _ _ (c.loop-row.invariant hints) (omega arith) c.end_of.ensures _
    (c.partner.ensures hints) _ c.in-Some.is _ (c.counted-values.ensures hints)
    c.names_for.ensures
    c.wrapping_add_u64-names.ensures.value c.wrapping_add_u64-names-in-loop-row.ensures.value (not-false _ c.if-not-values.false) _ _
    c.end_of-row.ensures c.end_of-next.ensures

pub returns : goal.returns
returns t c hints = counted_end _ _ _ _ _ _ _ (c.loop-row.invariant hints) (omega arith) refl refl
