-- `container` meets its contract: its items so far stand in the rows behind its own, and the measure of the loop is what is left of the text.
use native.Mathlib.Omega.{arith}
use mathlib.Core.Path.{refl, ap, ◌∙◌}
use Rattle.std.specs.Prelude.{Ok}
use Rattle.spec.proofs.FaultLaws.{handed}
use Rattle.reader.proofs.ReadingLaws.{kind_told, begun, begun_starts, begun_fits, begun_levels, opened, filling_none, lent_filling}
use Rattle.reader.proofs.ReadingLaws.{turn, lent_turn, turn_next, turn_levels}
use Rattle.reader.proofs.ReadingLaws.{value-way_none, value-way_full, value-way_unread, value-way_handed, value-way_closed}
use Rattle.reader.proofs.values.+container.Goals as goal

pub returns-in_err-container_room : goal.returns-in_err-container_room
returns-in_err-container_room t c =
    rw (handed _ c.from_residual.ensures.1)
    (value-way_full c.args.source _ _ _ c.requires.kind_value.0 c.requires.kind_value.1 c.container_room.ensures c.in_err-container_room.was)

pub overflow_sub-left : goal.overflow_sub-left
overflow_sub-left t c =
    let b = begun _ _ _ _ _ _ c.requires.kind_value.0 c.requires.kind_value.1 c.requires.kind_value.2 c.container_room.ensures
    c.in_ok-container_room.was in
    omega (arith, begun_levels b)

pub past_byte-next-requires : goal.past_byte-next-requires
past_byte-next-requires t c =
    let b = begun _ _ _ _ _ _ c.requires.kind_value.0 c.requires.kind_value.1 c.requires.kind_value.2 c.container_room.ensures
    c.in_ok-container_room.was in
    begun_starts b

pub overflow_add-end : goal.overflow_add-end
overflow_add-end t c =
    let b = begun _ _ _ _ _ _ c.requires.kind_value.0 c.requires.kind_value.1 c.requires.kind_value.2 c.container_room.ensures
    c.in_ok-container_room.was in
    omega (arith, begun_fits b, c.args.source.low)

pub loop-item-init : goal.loop-item-init
loop-item-init t c =
    let b = begun _ _ _ _ _ _ c.requires.kind_value.0 c.requires.kind_value.1 c.requires.kind_value.2 c.container_room.ensures
    c.in_ok-container_room.was in
    filling_none _ _ _ _ _ _ _ (opened b c.past_byte-next.ensures)

pub invariant_of-items : goal.invariant_of-items
invariant_of-items t c = record {
  from_base = c.requires.kind_value.2;
  grows = omega (arith, c.loop-item.invariant.filled.ends);
  fits = c.loop-item.invariant.room;
}

pub next_item-requires : goal.next_item-requires
next_item-requires t c = lent_filling c.requires.lent c.loop-item.invariant

pub returns-in_err-item : goal.returns-in_err-item
returns-in_err-item t c =
    let t = turn c.next_item.ensures c.next_item.auto.index refl c.loop-item.invariant in
    rw (handed _ c.from_residual-in_err-item.ensures.1) (value-way_unread _ c.past_byte-next.ensures t _ c.in_err-item.was)

pub returns-in_err-sort-in-Begins : goal.returns-in_err-sort-in-Begins
returns-in_err-sort-in-Begins t c =
    let t = turn c.next_item.ensures c.next_item.auto.index refl c.loop-item.invariant in
    rw (handed _ c.from_residual-in_err-sort-in-Begins.ensures.1)
    (value-way_handed _ c.past_byte-next.ensures t _ (c.in_ok-item.was ∙ ap Ok c.in-Begins.is)
    (value-way_none c.args.source _ _ c.kind_at.ensures c.in_err-sort-in-Begins.was) _ refl)

pub scalar_value-requires : goal.scalar_value-requires
scalar_value-requires t c =
    let kind_is = kind_told _ _ _ c.kind_at.ensures c.in_ok-sort-in-Begins.was in
    let l = lent_filling c.requires.lent c.loop-item.invariant in
    record {
      kind_value = (kind_is, c.if-sort-lt-ARRAY.true, omega (arith, c.loop-item.invariant.filled.ends, c.requires.kind_value.2));
      lent = (l.short, l.nodes_long);
    }

pub returns-in_err-read-in-Begins : goal.returns-in_err-read-in-Begins
returns-in_err-read-in-Begins t c =
    let t = turn c.next_item.ensures c.next_item.auto.index refl c.loop-item.invariant in
    rw (handed _ c.from_residual-in_err-read-in-Begins.ensures.1)
    (value-way_handed _ c.past_byte-next.ensures t _ (c.in_ok-item.was ∙ ap Ok c.in-Begins.is) (c.scalar_value.ensures _ _) _ c.in_err-read-in-Begins.was)

pub loop-item-smaller-then-sort-lt-ARRAY : goal.loop-item-smaller-then-sort-lt-ARRAY
loop-item-smaller-then-sort-lt-ARRAY t c =
    let t = turn c.next_item.ensures c.next_item.auto.index refl c.loop-item.invariant in
    let n = turn_next t _ (c.in_ok-item.was ∙ ap Ok c.in-Begins.is) (c.scalar_value.ensures _ _) _ c.in_ok-read-in-Begins.was c.scalar_value.auto.nodes refl in
    omega (arith, n.0, n.1.within)

pub loop-item-preserved-then-sort-lt-ARRAY : goal.loop-item-preserved-then-sort-lt-ARRAY
loop-item-preserved-then-sort-lt-ARRAY t c =
    let t = turn c.next_item.ensures c.next_item.auto.index refl c.loop-item.invariant in
    (turn_next t _ (c.in_ok-item.was ∙ ap Ok c.in-Begins.is) (c.scalar_value.ensures _ _) _ c.in_ok-read-in-Begins.was c.scalar_value.auto.nodes refl).1

pub container-requires : goal.container-requires
container-requires t c =
    let t = turn c.next_item.ensures c.next_item.auto.index refl c.loop-item.invariant in
    let kind_is = kind_told _ _ _ c.kind_at.ensures c.in_ok-sort-in-Begins.was in (
      omega (arith, turn_levels t),
      (
        lent_turn c.requires.lent t,
        (kind_is, c.if-sort-lt-ARRAY.false, omega (arith, c.loop-item.invariant.filled.ends, c.requires.kind_value.2)),
      ),
    )

pub returns-in_err-inner-in-Begins : goal.returns-in_err-inner-in-Begins
returns-in_err-inner-in-Begins t c =
    let t = turn c.next_item.ensures c.next_item.auto.index refl c.loop-item.invariant in
    rw (handed _ c.from_residual-in_err-inner-in-Begins.ensures.1)
    (value-way_handed _ c.past_byte-next.ensures t _ (c.in_ok-item.was ∙ ap Ok c.in-Begins.is) c.container.ensures _ c.in_err-inner-in-Begins.was)

pub loop-item-smaller : goal.loop-item-smaller
loop-item-smaller t c =
    let t = turn c.next_item.ensures c.next_item.auto.index refl c.loop-item.invariant in
    let n = turn_next t _ (c.in_ok-item.was ∙ ap Ok c.in-Begins.is) c.container.ensures _ c.in_ok-inner-in-Begins.was c.container.auto.nodes
    c.container.auto.index in
    omega (arith, n.0, n.1.within)

pub loop-item-preserved : goal.loop-item-preserved
loop-item-preserved t c =
    let t = turn c.next_item.ensures c.next_item.auto.index refl c.loop-item.invariant in
    (turn_next t _ (c.in_ok-item.was ∙ ap Ok c.in-Begins.is) c.container.ensures _ c.in_ok-inner-in-Begins.was c.container.auto.nodes
    c.container.auto.index).1

pub close-requires : goal.close-requires
close-requires t c =
    omega (arith, c.loop-item.invariant.filled.ends)

pub returns-in-Closed : goal.returns-in-Closed
returns-in-Closed t c =
    let t = turn c.next_item.ensures c.next_item.auto.index refl c.loop-item.invariant in
    value-way_closed _ c.past_byte-next.ensures t _ (c.in_ok-item.was ∙ ap Ok c.in-Closed.is) c.requires.lent.nodes_long
    c.close.ensures
