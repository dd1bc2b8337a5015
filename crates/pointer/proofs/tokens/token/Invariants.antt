use Prim.Native.Nat.{◌-◌}
use lib.ListN.{length}
use Rattle.pointer.specs.declared.answers.Token.{Token}
use Rattle.pointer.specs.Tokens.{TokenAt}
use Rattle.pointer.proofs.ScanLaws.{Scanned}
use Rattle.pointer.proofs.tokens.token.Given as goal

abbrev pub invariant-loop-at : goal.invariant-loop-at
invariant-loop-at l = (t : Token) → Scanned l.part l.at t → TokenAt l.part l.start t

abbrev pub decreases-loop-at : goal.decreases-loop-at
decreases-loop-at l = length l.part - l.at
