-- `sought` meets its contract: a hint, or a search, and nothing behind the table.
use native.Mathlib.Omega.{arith}
use borrow.Author.Rules.{rules}
use Rattle.equality.specs.Compare.{searched}
use Rattle.equality.proofs.PartnerLaws.{sought_outside, sought_either}
use Rattle.equality.proofs.sought.Goals as goal

pub returns-then-nodes-other : goal.returns-then-nodes-other
returns-then-nodes-other c hints = sought_outside c.if-nodes-other.true

pub returns-then-top-eq0 : goal.returns-then-top-eq0
returns-then-top-eq0 c hints = searched c.find.ensures

pub returns : goal.returns
returns c hints = sought_either hints (omega arith) c.lookup-noted.ensures (λ e. search rules) (λ pair e. search rules)
