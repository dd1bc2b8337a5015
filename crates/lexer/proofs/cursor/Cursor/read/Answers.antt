-- `Cursor::read` meets its contract.
use mathlib.Core.Path.{refl}
use native.Mathlib.Omega.{arith}
use Rattle.spec.specs.Bytes.{byte}
use Rattle.lexer.proofs.ByteLaws.{read_past, read_there}
use Rattle.lexer.proofs.cursor.Cursor.read.Goals as goal

pub returns-then-s-at : goal.returns-then-s-at
unfolding byte
returns-then-s-at c = read_past _ _ c.if-s-at.true refl refl

pub returns : goal.returns
unfolding byte
returns c = read_there _ _ (omega arith) refl refl
