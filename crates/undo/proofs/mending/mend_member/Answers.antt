-- `mend_member` meets its contract, by whether there is such a member.
use Rattle.undo.proofs.SiteLaws.{old_undoes, new_undoes}
use Rattle.undo.proofs.mending.mend_member.Goals as goal
use Rattle.undo.proofs.mending.mend_member.Goals.{in-Ok, in-Err}

pub returns : goal.returns
returns c t ts p z other os noted =
    c.note.ensures os _ noted
    (elim c.match-step.branch [
      | in-Ok w ↦ rw w.action-is (old_undoes z other _ c.step.ensures w.in-Ok.is)
      | in-Err w ↦ rw w.action-is (new_undoes z other _ c.step.ensures w.in-Err.is)
    ])
