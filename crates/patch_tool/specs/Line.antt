-- What the tool prints of two readable files: SPECIFICATION 10.2.
use Rattle.std.specs.Prelude.{ℕ, ◌≡◌, take}
use Rattle.streams.specs.Counts.{IsPrefixLen}
use Rattle.spec.specs.Limits.{work_nodes, work_entries}
use Rattle.spec.specs.Bytes.{Bytes}
use Rattle.spec.specs.Answer.{Lent, answer}
use Rattle.report.specs.Line.{line_of}

-- SPECIFICATION 10.1: "It lends 65,536 bytes of output", and a work area of the stated length
abbrev pub lent : Lent
lent = record { output = 65_536; nodes = work_nodes; index = work_entries }

-- the first r bytes are the line, whole
pub record LineIs (document patch line : Bytes) (r : ℕ) : Type 0 where
  pub counts : IsPrefixLen r line
  pub is : take r line ≡ line_of (answer document patch lent)
