use borrow.Author.Tests.{lt-ltb, le-ltb}
use Rattle.spec.specs.Write.{utf8}
use Rattle.text.proofs.StoreLaws.{stored_as}
use Rattle.text.proofs.write.put_utf8.Goals as goal

pub returns-then-c-lt128 : goal.returns-then-c-lt128
unfolding utf8
returns-then-c-lt128 c =
    stored_as (rw (lt-ltb _ _ c.if-c-lt128.true)) c.put_few.ensures

pub returns-then-c-lt2048 : goal.returns-then-c-lt2048
unfolding utf8
returns-then-c-lt2048 c =
    stored_as (rw (le-ltb _ _ c.if-c-lt128.false, lt-ltb _ _ c.if-c-lt2048.true, c.continuation-last.ensures)) c.put_few-then-c-lt2048.ensures

pub returns-then-c-lt65536 : goal.returns-then-c-lt65536
unfolding utf8
returns-then-c-lt65536 c =
    stored_as (rw (
      le-ltb _ _ c.if-c-lt128.false,
      le-ltb _ _ c.if-c-lt2048.false,
      lt-ltb _ _ c.if-c-lt65536.true,
      c.continuation-middle.ensures,
      c.continuation-last.ensures,
    ))
    c.put_few-then-c-lt65536.ensures

pub returns : goal.returns
unfolding utf8
returns c =
    stored_as (rw (
      le-ltb _ _ c.if-c-lt128.false,
      le-ltb _ _ c.if-c-lt2048.false,
      le-ltb _ _ c.if-c-lt65536.false,
      c.continuation-second.ensures,
      c.continuation-middle.ensures,
      c.continuation-last.ensures,
    ))
    c.put_few-2.ensures
