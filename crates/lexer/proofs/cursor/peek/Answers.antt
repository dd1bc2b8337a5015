use mathlib.Core.Path.{sym}
use Rattle.spec.specs.Bytes.{byte}
use Rattle.lexer.proofs.ByteLaws.{byte_past}
use Rattle.lexer.proofs.Auto.{auto}
use Rattle.lexer.proofs.cursor.peek.Goals as goal

pub returns-else-at-s : goal.returns-else-at-s
returns-else-at-s c = sym (byte_past _ _ c.if-at-s.false)

pub returns-then-at-s : goal.returns-then-at-s
unfolding byte
returns-then-at-s c = search auto
