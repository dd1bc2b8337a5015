-- A character is written in one of three ways: with the letter of its escape, as a hexadecimal escape, or raw.
use mathlib.Core.Path.{◌≡◌, refl, sym, subst}
use mathlib.Core.Bool.{Bool, true, false}
use mathlib.Core.List.{[], ◌∷◌}
use Prim.Native.Nat.{ℕ, ◌≤◌, ◌<◌}
use Prim.Native.Char.{code}
use native.Mathlib.Omega.{arith}
use lib.Dec.{eqb}
use borrow.Author.Tests.{eqb-true, le-leb, lt-leb}
use Rattle.spec.specs.Bytes.{ascii}
use Rattle.spec.specs.Write.{utf8, write_character}
use Rattle.text.specs.Written.{short_letter, hex_escape}

pub record Writes (c : ℕ) : Type 0 where
  pub short : (short_letter c ≡ 0 → ⊥) → write_character c ≡ code "\\" ∷ short_letter c ∷ []
  pub hex : short_letter c ≡ 0 → c < 0x20 → write_character c ≡ hex_escape c
  pub raw : short_letter c ≡ 0 → 0x20 ≤ c → write_character c ≡ utf8 c

-- at a number that has a letter all three compute
lettered : (c k : ℕ) → eqb c k ≡ true → (short_letter k ≡ 0 → ⊥) → write_character k ≡ code "\\" ∷ short_letter k ∷ [] → Writes c
lettered c k e n w = subst Writes (sym (eqb-true c k e)) (record { short = λ _. w; hex = λ z _. absurd (n z); raw = λ z _. absurd (n z) })

pub writes : (c : ℕ) → Writes c
unfolding short_letter write_character hex_escape ascii
writes c = go (eqb c (code "\"")) (eqb c (code "\\")) (eqb c 0x08) (eqb c 0x09) (eqb c 0x0A) (eqb c 0x0C) (eqb c 0x0D) refl refl refl refl refl refl refl
  where
    go : (quote backslash b t n f r : Bool) → eqb c (code "\"") ≡ quote
        → eqb c (code "\\") ≡ backslash → eqb c 0x08 ≡ b → eqb c 0x09 ≡ t → eqb c 0x0A ≡ n → eqb c 0x0C ≡ f →
        eqb c 0x0D ≡ r → Writes c
    go true _ _ _ _ _ _ e _ _ _ _ _ _ = lettered c (code "\"") e (λ z. omega arith) refl
    go false true _ _ _ _ _ _ e _ _ _ _ _ = lettered c (code "\\") e (λ z. omega arith) refl
    go false false true _ _ _ _ _ _ e _ _ _ _ = lettered c 0x08 e (λ z. omega arith) refl
    go false false false true _ _ _ _ _ _ e _ _ _ = lettered c 0x09 e (λ z. omega arith) refl
    go false false false false true _ _ _ _ _ _ e _ _ = lettered c 0x0A e (λ z. omega arith) refl
    go false false false false false true _ _ _ _ _ _ e _ = lettered c 0x0C e (λ z. omega arith) refl
    go false false false false false false true _ _ _ _ _ _ e = lettered c 0x0D e (λ z. omega arith) refl
    go false false false false false false false a d e f g h i =
        record {
          short = λ n. absurd (n (rw (a, d, e, f, g, h, i)));
          hex = λ z l. rw (a, d, lt-leb 0x20 c l, e, f, g, h, i);
          raw = λ z l. rw (a, d, le-leb 0x20 c l);
        }
