use Rattle.std.proofs.Common.{◌≡◌, ◌+◌, length, drop}
use Rattle.fragment.specs.Link.{link, encode_all}
use Rattle.fragment.proofs.writing.fits.Given as goal

abbrev pub invariant-loop-b : goal.invariant-loop-b
invariant-loop-b l = length (link l.pointer) + l.left ≡ l.room + length (encode_all (drop l.b-index l.pointer))
