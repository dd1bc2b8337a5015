-- The origins that nodes bear before the merge: SPECIFICATION 19.2. T-11: "0 from the document", and "A merge patch counts as operation 1".
use Rattle.std.specs.Prelude.{ℕ, ◌≡◌, List}
use Rattle.spec.specs.Value as Plain
use Rattle.tape.specs.Fields.{Row}
use Rattle.tape.specs.Lent.{Texts}
use Rattle.origin.specs.Value.{painted}
use Rattle.changes.specs.Site.{table}
use Rattle.merge.specs.Trees.{Both, BothBearing}

-- Whatever document and patch the table holds, it holds them still, with these origins.
abbrev pub StampBothIs : List Row → List Row → ℕ → Type 0
StampBothIs nodes nodes' used =
    (T : Texts) (v p : Plain.Value) (both : Both (table T nodes) v p) → both.used ≡ used → BothBearing (table T nodes') (painted 0 v) p
