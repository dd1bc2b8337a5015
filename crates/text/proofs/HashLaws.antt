-- The hash of a text, character by character.
use mathlib.Core.Path.{◌≡◌, sym, ap, ◌∙◌}
use mathlib.Core.List.{[], ◌∷◌}
use Prim.Native.Nat.{ℕ}
use Rattle.spec.specs.Bytes.{Text}
use Rattle.lexer.specs.Hash.{mix, hash_from}

pub hash_ends : {h whole : ℕ} {t : Text} → t ≡ [] → hash_from h t ≡ whole → h ≡ whole
unfolding hash_from
hash_ends {h} e f = sym (ap (hash_from h) e) ∙ f

pub hash_more : (h : ℕ) {next c whole : ℕ} {t u : Text} → t ≡ c ∷ u → next ≡ mix h c → hash_from h t ≡ whole → hash_from next u ≡ whole
unfolding hash_from
hash_more h {u = u} e m f = ap (λ n. hash_from n u) m ∙ sym (ap (hash_from h) e) ∙ f
