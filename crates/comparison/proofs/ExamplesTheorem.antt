-- The examples, by computation.
use mathlib.Core.Path.{refl}
use Rattle.spec.specs.Bytes.{ascii}
use Rattle.spec.specs.Read.{read}
use Rattle.spec.proofs.Computing.{got, compute}
use Rattle.comparison.specs.Comparison.{◌then◌, lookups, compared_elements, compared_members, compared}
use Rattle.comparison.specs.Examples.{All, examples}

unfoldable compute_counts : Unit {0}
unfolding compute ◌then◌ lookups compared_elements compared_members compared
compute_counts = tt

pub counted : All examples
unfolding compute_counts
counted = (
  record { v = got (read (ascii "{\"a\":1,\"b\":2}")); w = got (read (ascii "{\"a\":1,\"b\":2}")); reads = refl; reads' = refl; is = refl },
  (
    record { v = got (read (ascii "{\"a\":1,\"b\":2}")); w = got (read (ascii "{\"b\":2,\"a\":1}")); reads = refl; reads' = refl; is = refl },
    (
      record { v = got (read (ascii "{\"c\":1,\"b\":2}")); w = got (read (ascii "{\"a\":1,\"b\":2}")); reads = refl; reads' = refl; is = refl },
      (
        record { v = got (read (ascii "{\"a\":1,\"b\":2}")); w = got (read (ascii "{\"a\":9,\"b\":2}")); reads = refl; reads' = refl; is = refl },
        (
          record { v = got (read (ascii "{\"a\":1,\"b\":2}")); w = got (read (ascii "{\"a\":1}")); reads = refl; reads' = refl; is = refl },
          (
            record { v = got (read (ascii "{\"a\":1}")); w = got (read (ascii "[1]")); reads = refl; reads' = refl; is = refl },
            (
              record {
                v = got (read (ascii "{\"a\":{\"x\":1,\"y\":2},\"b\":3}"));
                w = got (read (ascii "{\"a\":{\"y\":2,\"x\":1},\"b\":3}"));
                reads = refl;
                reads' = refl;
                is = refl;
              },
              (
                record {
                  v = got (read (ascii "[{\"a\":1},[{\"b\":2}]]"));
                  w = got (read (ascii "[{\"a\":1},[{\"b\":2}]]"));
                  reads = refl;
                  reads' = refl;
                  is = refl;
                },
                tt,
              ),
            ),
          ),
        ),
      ),
    ),
  ),
)
