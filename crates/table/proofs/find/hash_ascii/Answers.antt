-- `hash_ascii` meets its contract.
use Rattle.std.specs.List.{fold}
use Prim.Native.Nat.{ℕ}
use mathlib.Core.Path.{◌≡◌, refl, ◌∙◌}
use mathlib.Core.List.{[], ◌∷◌}
use borrow.Author.Rules.{rules}
use Rattle.spec.specs.Bytes.{Text}
use Rattle.lexer.specs.Hash.{mix, hash_from, hash}
use Rattle.table.proofs.find.hash_ascii.Goals as goal

folded : (h : ℕ) (name : Text) → fold mix h name ≡ hash_from h name
unfolding hash_from
folded h [] = refl
folded h (c ∷ cs) = folded (mix h c) cs

pub returns : goal.returns
unfolding hash
returns c = let all : c.fold.result ≡ fold mix 0 c.args.name.now = search rules in all ∙ folded 0 c.args.name.now
