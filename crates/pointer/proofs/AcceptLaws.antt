-- What it means that a text is accepted as a pointer, and that it is not: there are tokens, or there is one refusal, 10.
use Rattle.std.specs.Prelude.{if◌then◌else◌}
use mathlib.Core.Path.{◌≡◌, refl, sym}
use mathlib.Core.Bool.{Bool, true, false, true≢false}
use mathlib.Core.List.{List, [], ◌∷◌}
use Prim.Native.Nat.{ℕ}
use Prim.Native.Char.{code}
use lib.Dec.{eqb}
use Rattle.spec.specs.Outcome.{Outcome, ok, refused, ◌>>=◌}
use Rattle.spec.specs.Refusal.{malformed_pointer}
use Rattle.spec.specs.Bytes.{Text}
use Rattle.spec.specs.Pointer.{segments, tilde, unescape, unescape_all, tokens}
use Rattle.pointer.specs.Tokens.{accepted}

pub accepted_ok : {A : Type 0} (o : Outcome A) → accepted o ≡ true → (a : A) × (o ≡ ok a)
unfolding accepted
accepted_ok (ok a) h = (a, refl)
accepted_ok (refused number place) h = absurd (true≢false (sym h))

-- an outcome that is refused by 10 only
data Pointer {A : Type 0} : Outcome A → Type 0 where
  right : (a : A) → Pointer (ok a)
  malformed : Pointer (refused malformed_pointer 0)

next : {A B : Type 0} {o : Outcome A} (f : A → Outcome B) → Pointer o → ((a : A) → Pointer (f a)) → Pointer (o >>= f)
unfolding ◌>>=◌
next f (right a) g = g a
next f malformed g = malformed

either : {A : Type 0} (test : Bool) {o p : Outcome A} → Pointer o → Pointer p → Pointer (if test then o else p)
either true f g = f
either false f g = g

tilde_only : (c : ℕ) → Pointer (tilde c)
unfolding tilde
tilde_only c = either (eqb c (code "0")) (right (code "~")) (either (eqb c (code "1")) (right (code "/")) malformed)

unescape_only : (escaped : Bool) (t : Text) → Pointer (unescape escaped t)
unfolding unescape
unescape_only false [] = right []
unescape_only true [] = malformed
unescape_only false (c ∷ t) = either (eqb c (code "~")) (unescape_only true t) (next _ (unescape_only false t) λ u. right (c ∷ u))
unescape_only true (c ∷ t) = next _ (tilde_only c) λ d. next _ (unescape_only false t) λ u. right (d ∷ u)

all_only : (ts : List Text) → Pointer (unescape_all ts)
unfolding unescape_all
all_only [] = right []
all_only (t ∷ ts) = next _ (unescape_only false t) λ u. next _ (all_only ts) λ us. right (u ∷ us)

tokens_only : (t : Text) → Pointer (tokens t)
unfolding tokens
tokens_only [] = right []
tokens_only (c ∷ t) = either (eqb c (code "/")) (all_only (segments t)) malformed

refused_only : {A : Type 0} {o : Outcome A} → Pointer o → accepted o ≡ false → o ≡ refused malformed_pointer 0
unfolding accepted
refused_only (right a) h = absurd (true≢false h)
refused_only malformed h = refl

pub not_accepted : (t : Text) → accepted (tokens t) ≡ false → tokens t ≡ refused malformed_pointer 0
not_accepted t h = refused_only (tokens_only t) h
