-- `change_document` meets its contract.
use Rattle.changes.proofs.PathLaws.{document_put, document-kept}
use Rattle.changes.proofs.paths.change_document.Goals as goal

pub returns-in-Add : goal.returns-in-Add
returns-in-Add c = document_put _ _ c.in-Add.is c.replace_document.ensures

pub returns-in-Remove : goal.returns-in-Remove
returns-in-Remove c = rw c.at.ensures (document-kept _ c.in-Remove.is)
