-- `replace_document` meets its contract.
use mathlib.Core.Path.{refl}
use Rattle.changes.specs.Rows.{unchanged}
use Rattle.changes.proofs.PathLaws.{replace_frame, replace_deep, replace_large, replace_done}
use Rattle.changes.proofs.paths.replace_document.Goals as goal

pub returns-then-not-within : goal.returns-then-not-within
returns-then-not-within c = record {
  frame = unchanged refl;
  bearing = λ T v d x kids offered. rw c.at.ensures (replace_deep offered c.within.ensures c.if-not-within.true);
}

pub returns-then-count-gt-MAX_NODES : goal.returns-then-count-gt-MAX_NODES
returns-then-count-gt-MAX_NODES c =
    record {
      frame = unchanged refl;
      bearing = λ T v d x kids offered.
          rw c.at-then-count-gt-MAX_NODES.ensures
          (replace_large offered c.within.ensures c.if-not-within.false _ c.size-count.ensures c.if-count-gt-MAX_NODES.true);
    }

pub returns : goal.returns
returns c =
    record {
      frame = replace_frame _ _ _ c.requires c.if-count-gt-MAX_NODES.false c.splice.ensures;
      bearing = λ T v d x kids offered.
          replace_done offered c.within.ensures c.if-not-within.false _ c.size-count.ensures d c.if-count-gt-MAX_NODES.false
          c.splice.ensures;
    }
