-- `more_nodes` meets its contract, by the value that the action has. Assumes nothing.
use native.Mathlib.Omega.{arith}
use Prim.Native.Nat.{suc, ◌+◌, min}
use mathlib.Core.Path.{sym, ap, ◌∙◌}
use Rattle.spec.specs.Limits.{max_nodes}
use Rattle.undo_log.proofs.OperationLaws.{valued, bare, member-nodes, member-none}
use Rattle.undo_log.proofs.note.more_nodes.Goals as goal

pub returns-in-Add : goal.returns-in-Add
returns-in-Add c n e T o k = let v = valued _ _ o k c.in-Add.is in
    c.with_value.ensures n e T o.value v.held ∙ ap (λ m. min (n + (3 + m)) (suc max_nodes)) (sym (member-nodes o v.uses))

pub returns-in-Remove : goal.returns-in-Remove
returns-in-Remove c n e T o k = let none = (member-none o (bare _ _ o k c.in-Remove.is)).1 in
    omega (arith, none, e, c.saturating_add.ensures, c.min.ensures)
