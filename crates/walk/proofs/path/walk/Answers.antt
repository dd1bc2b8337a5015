-- `walk`: the empty pointer leads to the value itself, and any other along its tokens.
use mathlib.Core.Path.{sym, ◌∙◌}
use Rattle.walk.proofs.PathLaws.{walk_malformed, walk_root, walk_at, walk_never}
use Rattle.walk.proofs.path.walk.Goals as goal

pub returns-then-not-is_pointer : goal.returns-then-not-is_pointer
returns-then-not-is_pointer c = walk_malformed _ c.part-pointer.ensures (sym c.is_pointer.ensures ∙ c.if-not-is_pointer.true) c.at.ensures

pub returns-in-Root : goal.returns-in-Root
returns-in-Root c =
    walk_root _ c.part-pointer.ensures (sym c.is_pointer.ensures ∙ c.if-not-is_pointer.false) _ c.first.ensures c.in-Root.is

pub returns-in-At : goal.returns-in-At
returns-in-At c =
    walk_at _ c.part-pointer.ensures (sym c.is_pointer.ensures ∙ c.if-not-is_pointer.false) _ c.first.ensures _ c.in-At.is
    c.walk_from.ensures

pub returns-in-Malformed : goal.returns-in-Malformed
returns-in-Malformed c =
    walk_never _ c.part-pointer.ensures (sym c.is_pointer.ensures ∙ c.if-not-is_pointer.false) _ c.first.ensures c.in-Malformed.is
