-- `check_lengths` meets its contract, text by text.
use native.Mathlib.Omega.{arith}
use Rattle.json_patch.specs.Reads.{document_long, patch_long, both_short}
use Rattle.json_patch.proofs.texts.check_lengths.Goals as goal

pub returns-then-texts-gt-MAX_BYTES : goal.returns-then-texts-gt-MAX_BYTES
returns-then-texts-gt-MAX_BYTES c = rw c.at.ensures (document_long (omega arith))

pub returns-then-texts-gt-MAX_BYTES-2 : goal.returns-then-texts-gt-MAX_BYTES-2
returns-then-texts-gt-MAX_BYTES-2 c = rw c.at-then-texts-gt-MAX_BYTES-2.ensures (patch_long (omega arith) (omega arith))

pub returns : goal.returns
returns c = both_short (omega arith) (omega arith)
