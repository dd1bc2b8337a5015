-- `contains` meets its contract: as bytes, or character by character.
use native.Mathlib.Omega.{arith}
use Rattle.region.proofs.BeginsLaws.{passed}
use Rattle.region.proofs.RawLaws.{ahead_raw}
use Rattle.region.proofs.compare.Region.contains.Goals as goal

pub returns-then-begins_raw : goal.returns-then-begins_raw
returns-then-begins_raw c = passed (ahead_raw (c.begins_raw.ensures c.if-begins_raw.true)) (omega arith) c.slash_at.ensures
