-- `partner` meets its contract: by the index, by the search path of the name, and otherwise by a search.
use native.Mathlib.Omega.{arith}
use mathlib.Core.Path.{refl}
use Rattle.index.proofs.WayLaws.{entered_after}
use Rattle.merge.proofs.PartnerLaws.{partner_absent, partner_searched, partner_hinted}
use Rattle.merge.proofs.partner.partner.Goals as goal
use Rattle.merge.proofs.partner.partner.Goals.{then-enter_by_hash-via-then-enter_by_hash}
use Rattle.merge.proofs.partner.partner.Goals.{then-enter_by_hash-via-else-enter_by_hash+then-not-enter}

pub returns-then-enter_by_hash : goal.returns-then-enter_by_hash
returns-then-enter_by_hash c =
    elim c.then-enter_by_hash.branch [
      | then-enter_by_hash-via-then-enter_by_hash w ↦
          rw w.index-is
          (partner_absent (c.enter_by_hash.ensures.entered w.if-enter_by_hash.true _) refl (omega (arith, c.enter_by_hash.auto.index)))
      | then-enter_by_hash-via-else-enter_by_hash+then-not-enter w ↦
          rw w.index-is
          (partner_absent (entered_after c.enter_by_hash.ensures w.if-enter_by_hash.false w.enter.ensures) w.if-not-enter.true
          (omega (arith, c.enter_by_hash.auto.index, w.enter.auto.index)))
    ]

pub returns : goal.returns
returns c =
    partner_searched (entered_after c.enter_by_hash.ensures c.if-enter_by_hash.false c.enter.ensures)
    (omega arith) c.end_of.ensures c.find.ensures

pub returns-in-Some : goal.returns-in-Some
returns-in-Some c = partner_hinted _ c.lookup.ensures c.in-Some.is
