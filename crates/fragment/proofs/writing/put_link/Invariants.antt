use Rattle.std.proofs.Common.{drop}
use Rattle.text.proofs.LaidLaws.{Laid}
use Rattle.fragment.specs.Link.{encode_all}
use Rattle.fragment.proofs.writing.put_link.Given as goal

abbrev pub invariant-loop-b : goal.invariant-loop-b
invariant-loop-b l = Laid 1 (encode_all l.pointer) (encode_all (drop l.b-index l.pointer)) l.initial.out l.out l.end
