-- The examples of specs/Examples, by computation.
use mathlib.Core.Path.{refl, subst}
use mathlib.Core.List.{[], ◌∷◌}
use Prim.Native.Nat.{ℕ}
use lib.Dec.{leb→le, T, eqb}
use Rattle.spec.specs.Bytes.{Bytes, ascii}
use Rattle.spec.specs.Read.{read}
use Rattle.spec.specs.Elements.{last, more, filled, one, nothing, ElementsOf}
use Rattle.spec.specs.Region.{WellFormed, Enough}
use Rattle.spec.specs.Examples.{lent}
use Rattle.spec.proofs.Computing.{got, operations_of, compute}
use Rattle.sequence.specs.Sequence as Sequence
use Rattle.sequence.specs.Sequence.{JoinText, patch, no_patch, next}
use Rattle.sequence.specs.Examples.{document, first, second, third, once, twice, two, three, other, ExamplesStatement}

unfoldable formed_first : WellFormed first (operations_of first)
unfolding compute
formed_first = record { fits = leb→le _ _ tt; patch = got (read first); reads = refl; shaped = refl }

unfoldable formed_second : WellFormed second (operations_of second)
unfolding compute
formed_second = record { fits = leb→le _ _ tt; patch = got (read second); reads = refl; shaped = refl }

formed_third : WellFormed third (operations_of third)
unfolding compute
formed_third = record { fits = leb→le _ _ tt; patch = got (read third); reads = refl; shaped = refl }

formed_two : WellFormed two (operations_of two)
unfolding compute
formed_two = record { fits = leb→le _ _ tt; patch = got (read two); reads = refl; shaped = refl }

formed_three : WellFormed three (operations_of three)
unfolding compute
formed_three = record { fits = leb→le _ _ tt; patch = got (read three); reads = refl; shaped = refl }

formed_other : WellFormed other (operations_of other)
unfolding compute
formed_other = record { fits = leb→le _ _ tt; patch = got (read other); reads = refl; shaped = refl }

-- the elements by their bytes
abbrev adds : Bytes
adds = ascii "{\"op\":\"add\",\"path\":\"/a/1\",\"value\":2}"

abbrev moves : Bytes
moves = ascii "{\"op\":\"move\",\"from\":\"/a/0\",\"path\":\"/a/2\"}"

abbrev removes : Bytes
removes = ascii "{\"op\":\"remove\",\"path\":\"/a/3\"}"

abbrev space : Bytes
space = ascii " "

of_first : ElementsOf first (adds ∷ [])
unfolding compute
of_first = record { values = got (read adds) ∷ []; layout = filled [] [] _ _ refl refl (last adds [] [] refl refl); alone = one refl nothing }

of_second : ElementsOf second (moves ∷ [])
unfolding compute
of_second = record { values = got (read moves) ∷ []; layout = filled [] [] _ _ refl refl (last moves [] [] refl refl); alone = one refl nothing }

of_third : ElementsOf third (removes ∷ [])
unfolding compute
of_third = record { values = got (read removes) ∷ []; layout = filled [] [] _ _ refl refl (last removes [] [] refl refl); alone = one refl nothing }

of_two : ElementsOf two (adds ∷ moves ∷ [])
unfolding compute
of_two =
    record {
      values = got (read adds) ∷ got (read moves) ∷ [];
      layout = filled space [] _ _ refl refl (more adds space space _ _ refl refl (last moves [] [] refl refl));
      alone = one refl (one refl nothing);
    }

of_three : ElementsOf three (adds ∷ moves ∷ removes ∷ [])
unfolding compute
of_three =
    record {
      values = got (read adds) ∷ got (read moves) ∷ got (read removes) ∷ [];
      layout = filled [] space _ _ refl refl (more adds [] [] _ _ refl refl (more moves [] space _ _ refl refl (last removes space [] refl refl)));
      alone = one refl (one refl (one refl nothing));
    }

of_other : ElementsOf other (removes ∷ adds ∷ [])
unfolding compute
of_other =
    record {
      values = got (read removes) ∷ got (read adds) ∷ [];
      layout = filled [] [] _ _ refl refl (more removes [] [] _ _ refl refl (last adds [] [] refl refl));
      alone = one refl (one refl nothing);
    }

join_two : JoinText first second two
join_two = record { firsts = adds ∷ []; seconds = moves ∷ []; first-elements = of_first; second-elements = of_second; joined-elements = of_two }

-- 0 and 11 are neither 1 nor 16
enough-second : Enough once second lent
unfolding compute
enough-second = record { work = λ e. subst (λ (n : ℕ). T (eqb n 0)) e tt; output = λ e. subst (λ (n : ℕ). T (eqb n 0)) e tt }

enough-third : Enough twice third lent
unfolding compute
enough-third = record { work = λ e. subst (λ (n : ℕ). T (eqb n 11)) e tt; output = λ e. subst (λ (n : ℕ). T (eqb n 11)) e tt }

enough-two : Enough document two lent
unfolding compute
enough-two = record { work = λ e. subst (λ (n : ℕ). T (eqb n 0)) e tt; output = λ e. subst (λ (n : ℕ). T (eqb n 0)) e tt }

enough-three : Enough document three lent
unfolding compute
enough-three = record { work = λ e. subst (λ (n : ℕ). T (eqb n 11)) e tt; output = λ e. subst (λ (n : ℕ). T (eqb n 11)) e tt }

enough-other : Enough twice other lent
unfolding compute
enough-other = record { work = λ e. subst (λ (n : ℕ). T (eqb n 11)) e tt; output = λ e. subst (λ (n : ℕ). T (eqb n 11)) e tt }

pub examples : ExamplesStatement
unfolding compute formed_first formed_second
examples =
    record {
      two_met =
          record {
            succeeds = refl;
            text_fits = leb→le _ _ tt;
            second-operations = operations_of second;
            second_formed = formed_second;
            join = join_two;
            joined_operations = operations_of two;
            joined_formed = formed_two;
            second-enough = enough-second;
            joined_enough = enough-two;
          };
      second_writes = refl;
      two_writes = refl;
      two-within = (
        operations_of first,
        operations_of second,
        record {
          first_formed = formed_first;
          second_formed = formed_second;
          join = join_two;
          bytes = leb→le _ _ tt;
          few = leb→le _ _ tt;
          operations = leb→le _ _ tt;
        },
      );
      three_met =
          record {
            read_as = got (read document);
            accepted = record { fits = leb→le _ _ tt; reads = refl };
            row = next lent refl (leb→le _ _ tt) of_first (next lent refl (leb→le _ _ tt) of_second (Sequence.last lent formed_third enough-third));
            elements = adds ∷ moves ∷ removes ∷ [];
            all-elements = patch of_first (patch of_second (patch of_third no_patch));
            joined-elements = of_three;
            joined_operations = operations_of three;
            joined_formed = formed_three;
            joined_enough = enough-three;
          };
      third_refused = refl;
      three_refused = refl;
      other_met =
          record {
            refused = λ e. subst (λ (n : ℕ). T (eqb n 11)) e tt;
            first-operations = operations_of third;
            first_formed = formed_third;
            join =
                record {
                  firsts = removes ∷ [];
                  seconds = adds ∷ [];
                  first-elements = of_third;
                  second-elements = of_first;
                  joined-elements = of_other;
                };
            joined_operations = operations_of other;
            joined_formed = formed_other;
            first-enough = enough-third;
            joined_enough = enough-other;
          };
      other_refused = refl;
    }
