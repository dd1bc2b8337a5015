use Prim.Native.Nat.{◌-◌}
use mathlib.Core.Path.{◌≡◌}
use lib.ListN.{length}
use Rattle.lexer.specs.Hash.{hash_from, hash}
use Rattle.text.specs.Decode.{text_from, text_of}
use Rattle.text.proofs.hash.hash_text.Given as goal

abbrev pub invariant-loop-h : goal.invariant-loop-h
invariant-loop-h l = hash_from l.h (text_from l.form l.s l.at) ≡ hash (text_of l.form l.s)

abbrev pub decreases-loop-h : goal.decreases-loop-h
decreases-loop-h l = length l.s - l.at
