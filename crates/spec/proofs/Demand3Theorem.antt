-- Demand 3: the theorem of RegionTheorem for every situation, and one such situation by computation.
use mathlib.Core.Path.{refl, sym, subst, ◌∙◌}
use mathlib.Core.List.{[], ◌∷◌}
use Prim.Native.Nat.{ℕ}
use lib.Dec.{leb→le, T, eqb}
use Rattle.spec.specs.Bytes.{Bytes, ascii}
use Rattle.spec.specs.Read.{read}
use Rattle.spec.specs.Elements.{last, more, filled, one, nothing, ElementsOf}
use Rattle.spec.specs.Region.{WellFormed, done, left, right, ShuffleText, Enough, is_prefix, apart, strictly_inside, all_inside}
use Rattle.spec.specs.Examples.{lent}
use Rattle.spec.specs.Demand3.{document, first, second, shuffle, Example, Demand3}
use Rattle.spec.proofs.ElementsThere.{slices}
use Rattle.spec.proofs.RegionTheorem.{elements-there, elements-unique, region_theorem}
use Rattle.spec.proofs.Computing.{got, operations_of, compute}

unfoldable compute_example : Unit {0}
unfolding compute is_prefix apart strictly_inside all_inside
compute_example = tt

formed_first : WellFormed first (operations_of first)
unfolding compute_example
formed_first = record { fits = leb→le _ _ tt; patch = got (read first); reads = refl; shaped = refl }

formed_second : WellFormed second (operations_of second)
unfolding compute_example
formed_second = record { fits = leb→le _ _ tt; patch = got (read second); reads = refl; shaped = refl }

formed_shuffle : WellFormed shuffle (operations_of shuffle)
unfolding compute_example
formed_shuffle = record { fits = leb→le _ _ tt; patch = got (read shuffle); reads = refl; shaped = refl }

abbrev removes : Bytes
removes = ascii "{\"op\":\"remove\",\"path\":\"/a/x\"}"

abbrev adds : Bytes
adds = ascii "{\"op\":\"add\",\"path\":\"/a/z\",\"value\":3}"

abbrev copies : Bytes
copies = ascii "{\"op\":\"copy\",\"from\":\"/b/y\",\"path\":\"/b/z\"}"

of_first : ElementsOf first (removes ∷ adds ∷ [])
unfolding compute_example
of_first =
    record {
      values = got (read removes) ∷ got (read adds) ∷ [];
      layout = filled [] [] _ _ refl refl (more removes [] [] _ _ refl refl (last adds [] [] refl refl));
      alone = one refl (one refl nothing);
    }

of_second : ElementsOf second (copies ∷ [])
unfolding compute_example
of_second = record { values = got (read copies) ∷ []; layout = filled [] [] _ _ refl refl (last copies [] [] refl refl); alone = one refl nothing }

of_shuffle : ElementsOf shuffle (removes ∷ copies ∷ adds ∷ [])
unfolding compute_example
of_shuffle =
    record {
      values = got (read removes) ∷ got (read copies) ∷ got (read adds) ∷ [];
      layout = filled [] [] _ _ refl refl (more removes [] (ascii " ") _ _ refl refl (more copies [] [] _ _ refl refl (last adds [] [] refl refl)));
      alone = one refl (one refl (one refl nothing));
    }

shuffled : ShuffleText first second shuffle
shuffled =
    record {
      firsts = removes ∷ adds ∷ [];
      seconds = copies ∷ [];
      all = removes ∷ copies ∷ adds ∷ [];
      first-elements = of_first;
      second-elements = of_second;
      all-elements = of_shuffle;
      order = left (right (left done));
    }

-- 0 is neither 1 nor 16
enough : Enough document shuffle lent
unfolding compute_example
enough = record { work = λ e. subst (λ (n : ℕ). T (eqb n 0)) e tt; output = λ e. subst (λ (n : ℕ). T (eqb n 0)) e tt }

example : Example
unfolding compute_example
example =
    record {
      read_as = got (read document);
      first-operations = operations_of first;
      second-operations = operations_of second;
      operations = operations_of shuffle;
      situation =
          record {
            accepted = record { fits = leb→le _ _ tt; reads = refl };
            first = formed_first;
            second = formed_second;
            both = formed_shuffle;
            shuffle = shuffled;
            regions = refl;
            first-inside = refl;
            second-inside = refl;
            enough = enough;
          };
    }

pub demand3 : Demand3
demand3 =
    record {
      shuffles = λ D P Q Z lent R S d xs ys zs c. region_theorem c;
      example = example;
      elements-there = λ P os w. (slices P, elements-there w);
      elements-unique = λ P os es fs w e f. sym (elements-unique w e) ∙ elements-unique w f;
    }
