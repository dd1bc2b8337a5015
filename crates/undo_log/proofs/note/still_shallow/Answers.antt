-- `still_shallow` meets its contract: a value may have two levels fewer than the undo. Assumes nothing.
use mathlib.Core.Path.{refl}
use Rattle.spec.specs.Value.{depths}
use Rattle.reversal.specs.UndoValue.{value_member}
use Rattle.undo_log.proofs.OperationLaws.{valued, bare, member-none}
use Rattle.undo_log.proofs.NoteLaws.{deep_already, shallow_none, shallow_held}
use Rattle.undo_log.proofs.note.still_shallow.Goals as goal

pub returns-then-not-shallow : goal.returns-then-not-shallow
returns-then-not-shallow c d e T o k = deep_already _ d (depths (value_member o)) e c.if-not-shallow.true

pub returns-in-Add : goal.returns-in-Add
returns-in-Add c d e T o k = let v = valued _ _ o k c.in-Add.is in
    shallow_held _ d (depths (value_member o)) e c.if-not-shallow.false v refl c.within.ensures

pub returns-in-Remove : goal.returns-in-Remove
returns-in-Remove c d e T o k = let none = member-none o (bare _ _ o k c.in-Remove.is) in
    shallow_none _ d (depths (value_member o)) e c.if-not-shallow.false none.0
