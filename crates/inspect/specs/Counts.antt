-- What the code's counts stand for.
use Rattle.std.specs.Prelude.{◌≤◌, ◌≡◌, Option}
use Rattle.spec.specs.Outcome.{Outcome, ok, refused}
use Rattle.spec.specs.Operation as Operation
use Rattle.shape.specs.Kinds.{kind_outcome}
use Rattle.shape.specs.declared.kinds.Kind.{Kind}
use Rattle.inspection.specs.Inspection as Spec
use Rattle.inspection.specs.Inspection.{no_counts, one_of, total}
use Rattle.inspect.specs.declared.counts.Counts.{Counts}

abbrev pub counts_in : Counts → Spec.Counts
counts_in c =
    record { add = c.adds; remove = c.removes; replace = c.replaces; move = c.moves; copy = c.copies; test = c.tests }

-- one operation of a known kind, and none of an unknown one
unfoldable pub one_for : Outcome Operation.Kind → Spec.Counts
one_for (ok k) = one_of k
one_for (refused number place) = no_counts

-- ---- contracts
pub record OneIs (kind : Option Kind) (r : Counts) : Type 0 where
  pub is : counts_in r ≡ one_for (kind_outcome kind)
  pub small : total (counts_in r) ≤ 1

abbrev pub PlusIs : Counts → Counts → Counts → Type 0
PlusIs c d r = counts_in r ≡ Spec.plus (counts_in c) (counts_in d)
