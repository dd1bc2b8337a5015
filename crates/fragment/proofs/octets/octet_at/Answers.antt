use Rattle.std.proofs.Common.{refl, sym, ◌∙◌}
use Rattle.spec.specs.Bytes.{byte}
use Rattle.fragment.proofs.OctetLaws.{percent_none, percent_some, octet_kept, octet_bad}
use Rattle.fragment.proofs.octets.octet_at.Goals as goal

pub returns-in_err-percent : goal.returns-in_err-percent
unfolding byte
returns-in_err-percent c =
    rw c.from_residual.ensures (percent_none _ _ c.requires.0 refl c.if-b-eq37.true c.in_err-percent.ensures)

pub returns-then-b-eq37 : goal.returns-then-b-eq37
unfolding byte
returns-then-b-eq37 c = percent_some _ _ c.requires.0 refl c.if-b-eq37.true c.in_ok-percent.ensures

pub returns-then-is_kept : goal.returns-then-is_kept
unfolding byte
returns-then-is_kept c =
    octet_kept _ _ c.requires.0 refl c.if-b-eq37.false (sym c.is_kept.ensures ∙ c.if-is_kept.true)

pub returns : goal.returns
unfolding byte
returns c =
    octet_bad _ _ c.requires.0 refl c.if-b-eq37.false (sym c.is_kept.ensures ∙ c.if-is_kept.false)
