-- The tables by which characters are passed: the columns follow their rule, and by that rule the steps are right at every byte. One computed test shows
-- the latter.
use mathlib.Core.Path.{◌≡◌, refl}
use mathlib.Core.Bool.{Bool, true, ◌&&◌}
use mathlib.Core.List.{List, [], ◌∷◌}
use Prim.Native.Nat.{ℕ, zero, suc, ◌/◌, ◌%◌, ◌^◌, ◌<◌}
use borrow.Author.Tests.{eqb-true}
use lib.Dec.{eqb}
use lib.ListN.{get_or}
use Rattle.spec.specs.Bytes.{within}
use Rattle.byte_class.specs.Class.{class_of, symbol}
use Rattle.byte_class.specs.Column.{continued, lettered, column_of, ColumnRule}
use Rattle.byte_class.proofs.TableLaws.{below, below_each}
use Rattle.lexer.specs.Names.{stands_for_itself}
use Rattle.lexer.specs.Verbatim.{kept_escape}
use Rattle.lexer.specs.States.{Awaits, one, two, three, after_E0, after_ED, after_F0, after_F4, first, begins, later, escaped, look, Steps}
use Rattle.lexer.proofs.Tests.{and_both}

unfoldable all : List Bool → Bool
all [] = true
all (t ∷ ts) = t && all ts

each : (ts : List Bool) → all ts ≡ true → (k : ℕ) → get_or ts k true ≡ true
unfolding all
each [] e k = refl
each (t ∷ ts) e zero = (and_both t (all ts) e).0
each (t ∷ ts) e (suc k) = each ts (and_both t (all ts) e).1 k

-- at a byte, the step of each state
module _ (escapes : Bool) (steps : List ℕ) (b : ℕ) where
  unfoldable leads : ℕ → ℕ → Bool
  leads state next = eqb (get_or steps (column_of b % 16) 0 / 2 ^ state % 64) next

  unfoldable rules : List Bool
  rules =
      leads 0 (begins escapes b)
      ∷ leads 6 (later 0 0x80 0xBF b)
      ∷ leads 12 (later 1 0x80 0xBF b)
      ∷ leads 18 (later 2 0x80 0xBF b)
      ∷ leads 24 (later 1 0xA0 0xBF b)
      ∷ leads 30 (later 1 0x80 0x9F b)
      ∷ leads 36 (later 2 0x90 0xBF b)
      ∷ leads 42 (later 2 0x80 0x8F b)
      ∷ leads 48 (escaped b)
      ∷ leads 54 54
      ∷ []

unfoldable pub tested : Bool → List ℕ → Bool
unfolding below all rules leads column_of lettered continued class_of symbol begins stands_for_itself within first later escaped kept_escape
tested escapes steps = below (λ b. all (rules escapes steps b)) 256

module _ (escapes : Bool) (columns steps : List ℕ) (f : ColumnRule columns) (t : tested escapes steps ≡ true) (b : ℕ) (h : b < 256) where
  rule : (k : ℕ) → get_or (rules escapes steps b) k true ≡ true
  unfolding tested
  rule = each (rules escapes steps b) (below_each (λ b. all (rules escapes steps b)) 256 t b h)

  abbrev Step : ℕ → ℕ → Type 0
  Step state next = look columns steps state b ≡ next

  is : (state next : ℕ) → leads escapes steps b state next ≡ true → Step state next
  unfolding look leads
  is state next e = rw (f.each b h) (eqb-true _ _ e)

  step_between : Step 0 (begins escapes b)
  unfolding rules
  step_between = is 0 _ (rule 0)

  step_inside : {state more low high : ℕ} → Awaits state more low high → Step state (later more low high b)
  unfolding rules
  step_inside one = is 6 _ (rule 1)
  step_inside two = is 12 _ (rule 2)
  step_inside three = is 18 _ (rule 3)
  step_inside after_E0 = is 24 _ (rule 4)
  step_inside after_ED = is 30 _ (rule 5)
  step_inside after_F0 = is 36 _ (rule 6)
  step_inside after_F4 = is 42 _ (rule 7)

  step_after : Step 48 (escaped b)
  unfolding rules
  step_after = is 48 _ (rule 8)

  step_ended : Step 54 54
  unfolding rules
  step_ended = is 54 _ (rule 9)

pub tables : (escapes : Bool) (steps : List ℕ) → tested escapes steps ≡ true → {e : Bool} → e ≡ escapes → Steps e steps
tables escapes steps t i = rw i λ columns f.
    record {
      between = step_between escapes columns steps f t;
      inside = λ a b h. step_inside escapes columns steps f t b h a;
      after = step_after escapes columns steps f t;
      ended = step_ended escapes columns steps f t;
    }
