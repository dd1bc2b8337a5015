-- `mend_element` meets its contract, by whether the token is `-`.
use mathlib.Core.Bool.{true, false}
use Rattle.undo.proofs.SiteLaws.{dash_told, dash_undoes, index_undoes}
use Rattle.undo.proofs.mending.mend_element.Goals as goal
use Rattle.undo.proofs.mending.mend_element.Goals.{then-is_dash, else-is_dash}

pub returns : goal.returns
returns c t ts p z array os noted =
    c.note.ensures os _ noted
    (elim c.if-is_dash.branch [
      | then-is_dash w ↦
          rw w.target-is
          (dash_undoes z array _ w.shortened.ensures w.arity.ensures (dash_told z _ c.part.ensures c.is_dash.ensures true w.if-is_dash.true))
      | else-is_dash w ↦ rw w.target-is (index_undoes z array (dash_told z _ c.part.ensures c.is_dash.ensures false w.if-is_dash.false))
    ])
