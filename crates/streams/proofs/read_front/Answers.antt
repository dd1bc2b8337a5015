-- What `read_full` has given is what the reader's bytes begin with, whatever the read after it gives.
use Rattle.std.specs.Prelude.{ℕ, Option, Some, None, List}
use Rattle.std.specs.Io.KnownBytes.{Consumes}
use Rattle.streams.specs.Counts.{BeginsWith}
use Rattle.streams.proofs.read_front.Goals as goal

consumed_first : (old new : Option (List ℕ)) (bs : List ℕ) → Consumes old new bs → BeginsWith old bs
consumed_first None new bs c = tt
consumed_first (Some xs) None bs c = absurd c
consumed_first (Some xs) (Some ys) bs c = (ys, c)

pub returns-then-n-buf-clause-bytes : goal.returns-then-n-buf-clause-bytes
returns-then-n-buf-clause-bytes g c = consumed_first _ _ _ c.read_full-n.ensures.bytes

pub returns-clause-bytes : goal.returns-clause-bytes
returns-clause-bytes g c = consumed_first _ _ _ c.read_full-n.ensures.bytes
