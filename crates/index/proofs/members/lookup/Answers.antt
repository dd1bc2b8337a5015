-- `lookup` meets its contract: rows grow along the path, and what it answers was tested.
use native.Mathlib.Omega.{arith}
use mathlib.Core.Path.{refl}
use Rattle.index.specs.Members.{noted, not_found}
use Rattle.index.proofs.members.lookup.Goals as goal

pub returns-then-object-top : goal.returns-then-object-top
returns-then-object-top c = not_found

pub returns-then-row-last : goal.returns-then-row-last
returns-then-row-last c = not_found

pub returns-then-is_noted : goal.returns-then-is_noted
returns-then-is_noted c = noted _ _ refl (omega arith) (omega arith) (c.is_noted.ensures c.if-is_noted.true)
