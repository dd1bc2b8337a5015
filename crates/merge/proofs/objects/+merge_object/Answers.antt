-- `merge_object` meets its contract, by the levels, which fall. Its first loop passes the target's members, its second one those of the patch.
use native.Mathlib.Omega.{arith}
use mathlib.Core.Path.{refl, ◌∙◌, sym, subst}
use Rattle.merge.specs.Building.{Framed}
use Rattle.merge.specs.Steps.{Reaches}
use Rattle.merge.proofs.BuildLaws.{framed_then, framed_closed}
use Rattle.merge.proofs.KeepLaws.{keeping_start, keeping_nothing, keeping_copied, keeping_merged, keeping_done}
use Rattle.merge.proofs.AppendLaws.{appending_start, appending_nothing, appending_copied, appending_merged, appending_done}
use Rattle.merge.proofs.ObjectLaws.{row_inside, row_goes, copy_inside, above_next, onward_self, onward_index, onward_copy, onward_merge}
use Rattle.merge.proofs.ObjectLaws.{members_end_low, append_reaches, reaches_copy, reaches_merge, merge_flat}
use Rattle.merge.proofs.objects.+merge_object.Goals as goal

pub returns-then-levels-eq0 : goal.returns-then-levels-eq0
returns-then-levels-eq0 t c = merge_flat c.if-levels-eq0.true (omega (arith, c.requires))

pub loop-row-init : goal.loop-row-init
loop-row-init t c = (
  onward_self (omega (arith, c.advance-next.ensures, c.requires)) (omega (arith, c.advance-next.ensures)),
  omega arith,
  omega (arith, c.requires),
  omega (arith, c.members_end-end.ensures, members_end_low c.args.nodes.now c.args.target, c.requires),
  omega (arith, c.note_members.ensures.changed.same_length, c.requires),
  λ o first xs p kids ts q. q,
)

pub loop-row-preserved-in-Nothing : goal.loop-row-preserved-in-Nothing
loop-row-preserved-in-Nothing t c =
    let l = c.loop-row in let i = l.invariant in
    let inside = row_inside _ l.row _ i.1 c.loop-row-test.true i.3 in
    let goes =
    row_goes l.nodes l.row _ c.end_of-row.ensures inside (i.0.framed.same_length ∙ i.2) in (
      onward_index i.0 c.keep.ensures.same_length,
      above_next i.1 goes,
      i.2,
      i.3,
      i.4,
      λ o first xs p kids ts q.
          keeping_nothing (i.5 o first xs p kids ts q) c.loop-row-test.true _
          c.end_of-row.ensures c.keep.ensures c.in-Nothing.is,
    )

pub copy-next-requires : goal.copy-next-requires
copy-next-requires t c =
    let l = c.loop-row in let i = l.invariant in (
      copy_inside l.row _ l.nodes
          (reaches_copy l.row c.keep.ensures.reaches _ c.in-Copy.is)
          (row_inside _ l.row _ i.1 c.loop-row-test.true i.3)
          (i.0.framed.same_length ∙ i.2),
      i.0.few,
    )

pub loop-row-preserved-in-Copy : goal.loop-row-preserved-in-Copy
loop-row-preserved-in-Copy t c =
    let l = c.loop-row in let i = l.invariant in
    let inside = row_inside _ l.row _ i.1 c.loop-row-test.true i.3 in
    let goes = row_goes l.nodes l.row _ c.end_of-row.ensures inside (i.0.framed.same_length ∙ i.2) in
    let there = copy_inside l.row _ l.nodes
    (reaches_copy l.row c.keep.ensures.reaches _ c.in-Copy.is) inside (i.0.framed.same_length ∙ i.2) in
    let onward = onward_copy (onward_index i.0 c.keep.ensures.same_length) c.copy-next.ensures there in (
      onward,
      above_next i.1 goes,
      i.2,
      i.3,
      i.4,
      λ o first xs p kids ts q.
          keeping_copied (i.5 o first xs p kids ts q) c.loop-row-test.true _
          c.end_of-row.ensures c.keep.ensures _ c.in-Copy.is c.copy-next.ensures,
    )

pub merge_object-next-requires : goal.merge_object-next-requires
merge_object-next-requires t c =
    let l = c.loop-row in let i = l.invariant in
    let reach = reaches_merge l.row c.keep.ensures.reaches _ c.in-Merge.is in
    let inside = row_inside _ l.row _ i.1 c.loop-row-test.true i.3 in (
      omega (arith, c.requires, c.if-levels-eq0.false),
      (
        (reach.0, reach.1, omega (arith, inside), omega (arith, c.keep.ensures.same_length, i.0.same_index, i.4)),
        (omega (arith, i.0.from_to, c.requires), i.0.few, i.0.framed.same_length ∙ i.2),
      ),
    )

pub loop-row-preserved : goal.loop-row-preserved
loop-row-preserved t c =
    let l = c.loop-row in let i = l.invariant in
    let goes = row_goes l.nodes l.row _ c.end_of-row.ensures
    (row_inside _ l.row _ i.1 c.loop-row-test.true i.3) (i.0.framed.same_length ∙ i.2) in
    let onward =
    onward_merge {index = c.keep.new.index} (onward_index i.0 c.keep.ensures.same_length) refl
    c.merge_object-next.ensures c.merge_object-next.auto.index in (
      onward,
      above_next i.1 goes,
      i.2,
      i.3,
      i.4,
      λ o first xs p kids ts q.
          keeping_merged (i.5 o first xs p kids ts q) c.loop-row-test.true _ c.end_of-row.ensures
          c.keep.ensures _ c.in-Merge.is c.merge_object-next.ensures,
    )

pub loop-row-2-init : goal.loop-row-2-init
loop-row-2-init t c = (
  onward_self c.loop-row.invariant.0.from_to c.loop-row.invariant.0.few,
  omega arith,
  c.loop-row.invariant.0.framed.same_length ∙ c.loop-row.invariant.2,
  omega (arith, c.end_of-last.ensures, c.loop-row.invariant.0.framed.same_length, c.loop-row.invariant.2),
  omega (arith, c.loop-row.invariant.0.same_index, c.loop-row.invariant.4),
  λ o first xs p kids ts q. q,
)

pub loop-row-2-preserved-in-Nothing-append : goal.loop-row-2-preserved-in-Nothing-append
loop-row-2-preserved-in-Nothing-append t c =
    let l = c.loop-row-2 in let i = l.invariant in
    let goes =
    row_goes l.nodes l.row _ c.end_of-row-in-loop-row-2.ensures
    (omega (arith, c.loop-row-2-test.true, i.3)) (i.0.framed.same_length ∙ i.2) in (
      i.0,
      above_next i.1 goes,
      i.2,
      i.3,
      i.4,
      λ o first xs p kids ts q.
          appending_nothing (i.5 o first xs p kids ts q) c.loop-row-2-test.true _
          c.end_of-row-in-loop-row-2.ensures c.append.ensures c.in-Nothing-append.is,
    )

pub copy-next-requires-in-Copy-append : goal.copy-next-requires-in-Copy-append
copy-next-requires-in-Copy-append t c =
    let l = c.loop-row-2 in let i = l.invariant in
    let reach =
    subst (Reaches l.row) (sym c.append.ensures)
    (append_reaches l.nodes l.row l.index (omega (arith, i.1, c.requires))) in (
      copy_inside l.row _ l.nodes
          (reaches_copy l.row reach _ c.in-Copy-append.is) (omega (arith, c.loop-row-2-test.true, i.3))
          (i.0.framed.same_length ∙ i.2),
      i.0.few,
    )

pub loop-row-2-preserved-in-Copy-append : goal.loop-row-2-preserved-in-Copy-append
loop-row-2-preserved-in-Copy-append t c =
    let l = c.loop-row-2 in let i = l.invariant in
    let goes = row_goes l.nodes l.row _ c.end_of-row-in-loop-row-2.ensures
    (omega (arith, c.loop-row-2-test.true, i.3)) (i.0.framed.same_length ∙ i.2) in
    let reach = subst (Reaches l.row) (sym c.append.ensures)
    (append_reaches l.nodes l.row l.index (omega (arith, i.1, c.requires))) in
    let there = copy_inside l.row _ l.nodes
    (reaches_copy l.row reach _ c.in-Copy-append.is) (omega (arith, c.loop-row-2-test.true, i.3))
    (i.0.framed.same_length ∙ i.2) in
    let onward = onward_copy i.0 c.copy-next-in-Copy-append.ensures there in (
      onward,
      above_next i.1 goes,
      i.2,
      i.3,
      i.4,
      λ o first xs p kids ts q.
          appending_copied (i.5 o first xs p kids ts q) c.loop-row-2-test.true _
          c.end_of-row-in-loop-row-2.ensures c.append.ensures _ c.in-Copy-append.is c.copy-next-in-Copy-append.ensures,
    )

pub merge_object-next-requires-in-Merge-append : goal.merge_object-next-requires-in-Merge-append
merge_object-next-requires-in-Merge-append t c =
    let l = c.loop-row-2 in let i = l.invariant in
    let reach = subst (Reaches l.row) (sym c.append.ensures)
    (append_reaches l.nodes l.row l.index (omega (arith, i.1, c.requires))) in
    let found = reaches_merge l.row reach _ c.in-Merge-append.is in (
      omega (arith, c.requires, c.if-levels-eq0.false),
      (
        (found.0, found.1, omega arith, omega (arith, i.0.same_index, i.4)),
        (omega (arith, i.0.from_to, c.requires), i.0.few, i.0.framed.same_length ∙ i.2),
      ),
    )

pub loop-row-2-preserved : goal.loop-row-2-preserved
loop-row-2-preserved t c =
    let l = c.loop-row-2 in let i = l.invariant in
    let goes = row_goes l.nodes l.row _ c.end_of-row-in-loop-row-2.ensures
    (omega (arith, c.loop-row-2-test.true, i.3)) (i.0.framed.same_length ∙ i.2) in
    let onward = onward_merge i.0 refl c.merge_object-next-in-Merge-append.ensures c.merge_object-next-in-Merge-append.auto.index in (
      onward,
      above_next i.1 goes,
      i.2,
      i.3,
      i.4,
      λ o first xs p kids ts q.
          appending_merged (i.5 o first xs p kids ts q) c.loop-row-2-test.true _ c.end_of-row-in-loop-row-2.ensures
          c.append.ensures _ c.in-Merge-append.is c.merge_object-next-in-Merge-append.ensures,
    )

pub returns : goal.returns
returns t c =
    record {
      framed = framed_then (framed_then c.loop-row.invariant.0.framed c.loop-row-2.invariant.0.framed)
          (subst (Framed c.args.to c.loop-row-2.nodes) (sym c.close.ensures)
          (framed_closed c.args.to c.loop-row-2.nodes c.args.target c.args.patch c.loop-row-2.next));
      onward = (c.loop-row-2.invariant.0.from_to, c.loop-row-2.invariant.0.few);
      held = λ view p kids o merged k ts t d.
          appending_done (c.loop-row-2.invariant.5 view _ _ p kids ts (appending_start (keeping_done (c.loop-row.invariant.5 view _ _ p kids ts
          (keeping_start
          (record {
            object = o;
            merged = merged;
            low = omega (arith, c.requires);
            few = omega (arith, c.requires);
            long = c.loop-row.invariant.2;
            shallow = d;
          })
          c.note_members.ensures t _ _ c.advance-next.ensures c.members_end-end.ensures))
          (omega (arith, c.loop-row-test.false))) _
          c.end_of-last.ensures))
          (omega (arith, c.loop-row-2-test.false)) t c.close.ensures;
    }
