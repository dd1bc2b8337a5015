-- `read_document` meets its contract.
use native.Mathlib.Omega.{arith}
use mathlib.Core.Path.{refl}
use Rattle.spec.proofs.FaultLaws.{handed}
use Rattle.table.specs.Meaning.{source_text}
use Rattle.reader.proofs.TextLaws.{early_refused, lent, text_is}
use Rattle.reader.proofs.texts.read_document.Goals as goal

pub returns-in_err-refusal_before : goal.returns-in_err-refusal_before
returns-in_err-refusal_before c =
    rw (handed _ c.from_residual.ensures.1) (early_refused _ _ c.refusal_before.ensures _ c.in_err-refusal_before.was)

pub invariant_of-document : goal.invariant_of-document
invariant_of-document c = record { known = omega arith; low = omega arith }

pub read_anew-requires : goal.read_anew-requires
read_anew-requires c = lent _ _ c.refusal_before.ensures c.in_ok-refusal_before.was

pub returns : goal.returns
unfolding source_text
returns c = text_is _ _ c.refusal_before.ensures c.in_ok-refusal_before.was _ refl c.read_anew.ensures
