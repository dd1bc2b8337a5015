-- Both lengths, one after the other.
use Rattle.spec.specs.Answer.{work_suffices}
use Rattle.lexer.proofs.Auto.{auto}
use Rattle.json_patch.proofs.work.suffices.Goals as goal

pub returns-then-nodes-ge-ROWS-clause-verdict : goal.returns-then-nodes-ge-ROWS-clause-verdict
unfolding work_suffices
returns-then-nodes-ge-ROWS-clause-verdict c = search auto

pub returns-else-nodes-ge-ROWS-clause-verdict : goal.returns-else-nodes-ge-ROWS-clause-verdict
unfolding work_suffices
returns-else-nodes-ge-ROWS-clause-verdict c = search auto
