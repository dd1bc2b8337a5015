-- `says` meets its contract: the bytes of a name without escapes are its text, where they are those of the word.
use mathlib.Core.Path.{sym, ◌∙◌}
use Rattle.std.proofs.lemmas.Slice.Eq.{bytes_eq-Decides}
use Rattle.shape.proofs.PassLaws.{says_plainly}
use Rattle.shape.proofs.all_members.says.Goals as goal

pub returns-then-eq : goal.returns-then-eq
returns-then-eq c =
    says_plainly _ _ c.requires c.if-name-eq-PLAIN_STRING.true c.part.ensures ((bytes_eq-Decides _ _).0 (sym c.eq.ensures ∙ c.if-eq.true))
