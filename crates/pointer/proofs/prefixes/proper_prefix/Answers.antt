use Rattle.pointer.proofs.PrefixLaws.{of_root, of_malformed, malformed_prefix, root_prefix, prefix_at}
use Rattle.pointer.proofs.prefixes.proper_prefix.Goals as goal

pub returns-in-Root : goal.returns-in-Root
returns-in-Root c =
    rw c.is_at.ensures (root_prefix _ _ _ _ c.first.ensures c.first-in-Root.ensures c.in-Root.is)

pub returns-in-Root-first : goal.returns-in-Root-first
returns-in-Root-first c = of_root _ _ c.first-in-At.ensures _ c.in-Root-first.is

pub returns-in-At-first : goal.returns-in-At-first
returns-in-At-first c =
    prefix_at _ _ _ _ c.first.ensures c.first-in-At.ensures _ _ _ c.in-At.is c.in-At-first.is c.prefix_from.ensures

pub returns-in-Malformed-first : goal.returns-in-Malformed-first
returns-in-Malformed-first c = of_malformed _ _ c.first-in-At.ensures _ _ c.in-Malformed-first.is

pub returns-in-Malformed : goal.returns-in-Malformed
returns-in-Malformed c = malformed_prefix _ _ c.first.ensures _ _ c.in-Malformed.is
