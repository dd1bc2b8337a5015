-- The situation of specs/Example, by computation.
use mathlib.Core.Path.{refl, subst}
use Prim.Native.Nat.{ℕ}
use lib.Dec.{leb→le, T, eqb}
use Rattle.spec.specs.Bytes.{ascii}
use Rattle.spec.specs.Value as Value
use Rattle.spec.specs.Read.{read}
use Rattle.spec.specs.Examples.{lent}
use Rattle.spec.proofs.Computing.{got}
use Rattle.region.specs.Examples.{region, patch}
use Rattle.region.proofs.ExamplesTheorem.{compute_region, tokens, passes}
use Rattle.isolation.specs.Isolation.{Call}
use Rattle.isolation.specs.Example.{document, other, ExampleStatement}

-- what stands at the region
abbrev cell : Value.Value
cell = got (read (ascii "{\"mAh\":3000}"))

-- 0 is not 6, 1 or 16
unfoldable first : Call document patch region tokens lent
unfolding compute_region
first =
    record {
      before = got (read document);
      accepted = record { fits = leb→le _ _ tt; reads = refl };
      held = cell;
      exists = refl;
      small = λ e. subst (λ (n : ℕ). T (eqb n 0)) e tt;
      work = λ e. subst (λ (n : ℕ). T (eqb n 0)) e tt;
      output = λ e. subst (λ (n : ℕ). T (eqb n 0)) e tt;
    }

unfoldable second : Call other patch region tokens lent
unfolding compute_region
second =
    record {
      before = got (read other);
      accepted = record { fits = leb→le _ _ tt; reads = refl };
      held = cell;
      exists = refl;
      small = λ e. subst (λ (n : ℕ). T (eqb n 0)) e tt;
      work = λ e. subst (λ (n : ℕ). T (eqb n 0)) e tt;
      output = λ e. subst (λ (n : ℕ). T (eqb n 0)) e tt;
    }

pub example : ExampleStatement
unfolding compute_region passes first second
example = record { situation = record { passes = passes; first = first; second = second; alike = refl }; first = refl; second = refl }
