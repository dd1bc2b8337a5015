use Prim.Native.Nat.{◌-◌}
use lib.ListN.{length}
use Rattle.spec.specs.Strings.{characters}
use Rattle.lexer.specs.Names.{plain_of}
use Rattle.lexer.proofs.NameLaws.{Passing}
use Rattle.lexer.proofs.strings.mixed_characters.Given as goal

abbrev pub invariant-loop-start : goal.invariant-loop-start
invariant-loop-start l = Passing l.s l.start l.at l.plain (plain_of l.s l.start (characters (length l.s) l.s l.start))

abbrev pub decreases-loop-start : goal.decreases-loop-start
decreases-loop-start l = length l.s - l.at
