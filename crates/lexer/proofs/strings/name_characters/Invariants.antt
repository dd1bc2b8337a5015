use Prim.Native.Nat.{◌-◌}
use lib.ListN.{length}
use Rattle.spec.specs.Strings.{characters}
use Rattle.lexer.specs.Names.{kept_of}
use Rattle.lexer.proofs.NameLaws.{Keeping}
use Rattle.lexer.proofs.strings.name_characters.Given as goal

abbrev pub invariant-loop-hash : goal.invariant-loop-hash
invariant-loop-hash l = Keeping l.s l.start l.at l.hash l.plain (kept_of l.s l.start (characters (length l.s) l.s l.start))

abbrev pub decreases-loop-hash : goal.decreases-loop-hash
decreases-loop-hash l = length l.s - l.at
