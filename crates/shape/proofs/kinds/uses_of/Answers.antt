-- `uses_of` meets its contract, kind by kind.
use Rattle.spec.specs.Patch.{uses_value, uses_from, is_move}
use Rattle.shape.specs.Kinds.{spec_kind, asks}
use Rattle.shape.proofs.kinds.uses_of.Goals as goal

pub returns-in_default : goal.returns-in_default
unfolding asks
returns-in_default c = rw c.in_default.is c.using.ensures

pub returns-in-Add : goal.returns-in-Add
unfolding asks spec_kind uses_value uses_from is_move
returns-in-Add c = rw (c.in-Some.is, c.in-Add.is) c.using-in-Add.ensures

pub returns-in-Remove : goal.returns-in-Remove
unfolding asks spec_kind uses_value uses_from is_move
returns-in-Remove c = rw (c.in-Some.is, c.in-Remove.is) c.using-in-Remove.ensures

pub returns-in-Replace : goal.returns-in-Replace
unfolding asks spec_kind uses_value uses_from is_move
returns-in-Replace c = rw (c.in-Some.is, c.in-Replace.is) c.using-in-Replace.ensures

pub returns-in-Move : goal.returns-in-Move
unfolding asks spec_kind uses_value uses_from is_move
returns-in-Move c = rw (c.in-Some.is, c.in-Move.is) c.using-in-Move.ensures

pub returns-in-Copy : goal.returns-in-Copy
unfolding asks spec_kind uses_value uses_from is_move
returns-in-Copy c = rw (c.in-Some.is, c.in-Copy.is) c.using-in-Copy.ensures

pub returns-in-Test : goal.returns-in-Test
unfolding asks spec_kind uses_value uses_from is_move
returns-in-Test c = rw (c.in-Some.is, c.in-Test.is) c.using-in-Test.ensures
