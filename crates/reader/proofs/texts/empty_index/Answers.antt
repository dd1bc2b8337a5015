-- `empty_index` meets its contract.
use mathlib.Core.Path.{ap, ◌∙◌}
use lib.ListN.{drop}
use Rattle.index.specs.Slots.{slots}
use Rattle.index.proofs.SlotLaws.{empty_beyond}
use Rattle.reader.proofs.FilledLaws.{beyond_none}
use Rattle.reader.proofs.texts.empty_index.Goals as goal

pub returns-then-length-le-FEW_BYTES : goal.returns-then-length-le-FEW_BYTES
returns-then-length-le-FEW_BYTES c = beyond_none

pub returns : goal.returns
returns c = record { is = ap (drop slots) c.empty.ensures ∙ (empty_beyond _).beyond }
