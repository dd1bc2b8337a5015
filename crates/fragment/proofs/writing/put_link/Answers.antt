use Rattle.std.proofs.Common.{arith}
use Rattle.spec.specs.Bytes.{byte}
use Rattle.text.proofs.LaidLaws.{laid_starts, laid_bound, laid_on, laid_ends}
use Rattle.fragment.proofs.WritingLaws.{encode_here, encode_length, encode_end, link-length, link_laid}
use Rattle.fragment.proofs.writing.put_link.Goals as goal

pub loop-b-init : goal.loop-b-init
loop-b-init c = laid_starts 1 _ _

pub put_octet-end-requires : goal.put_octet-end-requires
unfolding byte
put_octet-end-requires c = (
  omega (
    arith,
    laid_bound c.loop-b.invariant,
    encode_length c.args.pointer.now c.loop-b.b-index c.loop-b-test.true,
    link-length c.args.pointer.now,
    c.requires.0,
  ),
  c.requires.1,
)

pub loop-b-preserved : goal.loop-b-preserved
unfolding byte
loop-b-preserved c = laid_on c.loop-b.invariant _ (encode_here _ c.loop-b.b-index c.loop-b-test.true) c.put_octet-end.ensures

pub returns : goal.returns
returns c =
    link_laid _ _ (rw c.put.ensures at (laid_ends c.loop-b.invariant (encode_end _ c.loop-b.b-index c.loop-b-test.false)))
