-- `put` meets its contract.
use mathlib.Core.Path.{refl}
use Rattle.changes.specs.Rows.{unchanged, put_nothing}
use Rattle.changes.proofs.PutLaws.{put-deep, put_large, put_outside, put_made}
use Rattle.changes.proofs.trees.put.Goals as goal

pub returns-then-not-within : goal.returns-then-not-within
returns-then-not-within c = record {
  rows = put_nothing refl;
  frame = unchanged refl;
  held = λ T z x kids left right container offered fits told cut.
      rw c.at.ensures (put-deep offered _ fits told z container cut c.within.ensures c.if-not-within.true);
}

pub returns-then-kept-count : goal.returns-then-kept-count
returns-then-kept-count c =
    record {
      rows = put_nothing refl;
      frame = unchanged refl;
      held = λ T z x kids left right container offered fits told cut.
          rw c.at-then-kept-count.ensures
          (put_large offered _ fits told z container cut c.within.ensures c.if-not-within.false _ _ c.size-count.ensures
          c.saturating_sub-kept.ensures
          c.if-kept-count.true);
    }

pub returns-then-kept-at : goal.returns-then-kept-at
returns-then-kept-at c = record {
  rows = put_nothing refl;
  frame = unchanged refl;
  held = λ T z x kids left right container offered fits told cut. put_outside z container cut c.saturating_sub-kept.ensures c.if-kept-at.true;
}

pub returns : goal.returns
returns c =
    put_made c.args.parent c.args.at c.args.removed c.args.source c.args.name _ _ c.size-count.ensures c.saturating_sub-kept.ensures
    c.within.ensures
    c.if-not-within.false c.if-kept-count.false c.if-kept-at.false c.splice.ensures c.rename.ensures
    c.resize.ensures
