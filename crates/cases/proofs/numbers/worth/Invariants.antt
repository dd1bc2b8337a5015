use Rattle.std.proofs.Common.{◌≡◌, ◌≤◌, drop}
use Rattle.cases.specs.Numerals.{worth_from, worth}
use Rattle.cases.proofs.numbers.worth.Given as goal

abbrev pub invariant-loop-digit : goal.invariant-loop-digit
invariant-loop-digit l = (worth_from l.n (drop l.digit-index l.text) ≡ worth l.text) × (l.n ≤ 999_999_999)
