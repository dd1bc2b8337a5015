use borrow.Author.Tests.{lt-ltb, le-ltb}
use Rattle.spec.specs.Write.{utf8}
use Rattle.text.proofs.lengths.utf8_length.Goals as goal

pub returns-then-c-lt128 : goal.returns-then-c-lt128
unfolding utf8
returns-then-c-lt128 c = rw (lt-ltb _ _ c.if-c-lt128.true)

pub returns-then-c-lt2048 : goal.returns-then-c-lt2048
unfolding utf8
returns-then-c-lt2048 c = rw (le-ltb _ _ c.if-c-lt128.false, lt-ltb _ _ c.if-c-lt2048.true)

pub returns-then-c-lt65536 : goal.returns-then-c-lt65536
unfolding utf8
returns-then-c-lt65536 c = rw (le-ltb _ _ c.if-c-lt128.false, le-ltb _ _ c.if-c-lt2048.false, lt-ltb _ _ c.if-c-lt65536.true)

pub returns : goal.returns
unfolding utf8
returns c = rw (le-ltb _ _ c.if-c-lt128.false, le-ltb _ _ c.if-c-lt2048.false, le-ltb _ _ c.if-c-lt65536.false)
