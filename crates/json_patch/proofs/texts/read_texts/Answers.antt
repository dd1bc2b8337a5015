-- `read_texts` meets its contract, text by text.
use mathlib.Core.Path.{◌≡◌}
use borrow.Author.Rules.{rules}
use Rattle.spec.proofs.FaultLaws.{handed}
use Rattle.json_patch.specs.Reads.{document_unread, patch_unread, texts_read}
use Rattle.json_patch.proofs.AnswerLaws.{mapped_ok, mapped_err}
use Rattle.json_patch.proofs.ReadLaws.{document_refused, patch_refused, both_read}
use Rattle.json_patch.proofs.texts.read_texts.Goals as goal

pub returns-in_err-document : goal.returns-in_err-document
returns-in_err-document c h i short small =
    let m = mapped_err _ _ c.map_err.ensures.cases c.in_err-document.was in
    let e : c.in_err-document.field-0.0 ≡ record { text = 1; fault = m.0 } = search rules in
    rw (handed _ c.from_residual.ensures.1, e) (document_unread m.0 (document_refused h i short small c.read_document.ensures m.1))

pub returns-in_err-map_err : goal.returns-in_err-map_err
returns-in_err-map_err c h i short small =
    let d = mapped_ok _ _ c.map_err.ensures.cases c.in_ok-document.was in
    let m = mapped_err _ _ c.map_err-2.ensures.cases c.in_err-map_err.was in
    let e : c.in_err-map_err.field-0.0 ≡ record { text = 2; fault = m.0 } = search rules in
    rw (handed _ c.from_residual-in_err-map_err.ensures.1, e)
    (patch_refused h i short small c.read_document.ensures d c.read_document.auto.nodes c.read_document.auto.index
    c.read_patch.ensures m.1 λ v document-is patch-is. patch_unread m.0 v document-is patch-is)

pub returns : goal.returns
returns c h i short small =
    let d = mapped_ok _ _ c.map_err.ensures.cases c.in_ok-document.was in
    both_read h i short small c.read_document.ensures d c.read_document.auto.nodes c.read_document.auto.index
    c.read_patch.ensures (mapped_ok _ _ c.map_err-2.ensures.cases c.in_ok-map_err.was)
    c.read_patch.auto.nodes λ v p document-is patch-is document patch texts-short. texts_read _ v p document-is patch-is document patch texts-short
