-- What is left to list gives the same list.
use mathlib.Core.Path.{◌≡◌}
use lib.ListN.{take}
use Rattle.listing.specs.Lists.{entries}
use Rattle.listing.proofs.ListLaws.{entries_from}
use Rattle.listing.proofs.lists.list_origins.Given as goal

abbrev pub invariant-loop-row : goal.invariant-loop-row
invariant-loop-row l = entries_from l.row (take l.used l.nodes) l.list ≡ entries (take l.used l.nodes) l.initial.list
