use Rattle.text.specs.Letters.{Common}
use Rattle.text.proofs.compare.common.Given as goal

abbrev pub invariant-loop-i : goal.invariant-loop-i
invariant-loop-i l = Common l.form l.a l.other l.b l.i
