use Rattle.std.proofs.Common.{length, sym, ap, arith, le-leb}
use borrow.Author.Tests.{lt-leb}
use Rattle.spec.specs.Bytes.{byte}
use Rattle.fragment.specs.Link.{link}
use Rattle.fragment.proofs.WritingLaws.{encode_length, encode_end, link-length}
use Rattle.fragment.proofs.writing.fits.Goals as goal

pub returns-then-room-eq0 : goal.returns-then-room-eq0
returns-then-room-eq0 c = sym (lt-leb (length (link c.args.pointer.now)) c.args.room (omega (arith, link-length c.args.pointer.now)))

pub loop-b-init : goal.loop-b-init
loop-b-init c = omega (arith, link-length c.args.pointer.now)

pub returns-then-left-w : goal.returns-then-left-w
unfolding byte
returns-then-left-w c =
    let here = encode_length c.args.pointer.now c.loop-b.b-index c.loop-b-test.true in
    sym (lt-leb (length (link c.args.pointer.now)) c.args.room (omega (arith, here, c.width-w.ensures)))

pub loop-b-preserved : goal.loop-b-preserved
unfolding byte
loop-b-preserved c =
    omega (arith, encode_length c.args.pointer.now c.loop-b.b-index c.loop-b-test.true, c.width-w.ensures)

pub returns : goal.returns
returns c =
    let none = ap length (encode_end c.args.pointer.now c.loop-b.b-index c.loop-b-test.false) in
    sym (le-leb (length (link c.args.pointer.now)) c.args.room (omega (arith, none)))
