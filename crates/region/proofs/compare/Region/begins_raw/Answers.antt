-- `begins_raw` meets its contract.
use mathlib.Core.Path.{sym, ◌∙◌}
use Rattle.std.proofs.lemmas.Slice.Eq.{bytes_eq-Decides}
use Rattle.region.proofs.RawLaws.{begins_all}
use Rattle.region.proofs.compare.Region.begins_raw.Goals as goal

pub returns-then-self : goal.returns-then-self
returns-then-self c e = begins_all (c.args.self.told c.if-self.true) (c.starts_with.ensures.bound e) ((bytes_eq-Decides _ _).0 (sym c.starts_with.ensures.value ∙ e))
