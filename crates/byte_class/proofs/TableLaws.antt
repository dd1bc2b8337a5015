-- The class rule, by one test that is computed over the whole table.
use Rattle.std.specs.Prelude.{if◌then◌else◌}
use Prim.Native.Nat.{ℕ, zero, suc, ◌<◌}
use mathlib.Core.Path.{◌≡◌, refl, ◌∙◌, sym}
use mathlib.Core.Bool.{Bool, true, false, true≢false}
use mathlib.Core.List.{List}
use native.Mathlib.Omega.{arith}
use borrow.Author.Tests.{eqb-true, eqb-false}
use lib.Dec.{eqb}
use Rattle.spec.specs.Bytes.{within}
use Rattle.byte_class.specs.Class.{class_of, symbol, ClassRule}
use Rattle.byte_class.specs.Laying.{entry, Filled}

-- a test passes at every number below another
unfoldable pub below : (ℕ → Bool) → ℕ → Bool
below f zero = true
below f (suc n) = if f n then below f n else false

pub below_each : (f : ℕ → Bool) (n : ℕ) → below f n ≡ true → (k : ℕ) → k < n → f k ≡ true
unfolding below
below_each f zero t k h = absurd (omega arith)
below_each f (suc n) t k h = go (f n) (eqb k n) refl refl t (λ u. below_each f n u k)
  where
    go : (v e : Bool) → f n ≡ v → eqb k n ≡ e → (if v then below f n else false) ≡ true → (below f n ≡ true → k < n → f k ≡ true) → f k ≡ true
    go false e p q u ih = absurd (true≢false (sym u))
    go true true p q u ih = rw (eqb-true k n q) p
    go true false p q u ih =
        let d = eqb-false k n q in
        let m : k < n = omega arith in
        ih u m

-- each byte has its class in the rows
unfoldable pub tested : List (List ℕ) → Bool
unfolding below entry class_of symbol within
tested rows = below (λ b. eqb (entry rows b) (symbol (class_of b))) 256

pub class_rule : {rows : List (List ℕ)} {table : List ℕ} → tested rows ≡ true → Filled rows 256 table → ClassRule table
unfolding tested
class_rule {rows} t f =
    record {
      counted = f.counted;
      each = λ b h. f.filled b h ∙ eqb-true _ _ (below_each (λ b. eqb (entry rows b) (symbol (class_of b))) 256 t b h);
    }
