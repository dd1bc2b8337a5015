-- Examples of the count: a target, a patch's value, the verdict and the number of names compared.
use Rattle.std.specs.Prelude.{ℕ, ◌≡◌, Bool, true, false, List, [], ◌∷◌}
use Prim.Native.String.{String}
use Rattle.spec.specs.Outcome.{ok}
use Rattle.spec.specs.Bytes.{ascii}
use Rattle.spec.specs.Value as Value
use Rattle.spec.specs.Read.{read}
use Rattle.comparison.specs.Comparison.{after, compared}

pub data Example : Type 0 where
  counts : String → String → Bool → ℕ → Example

pub record Holds (target value : String) (same : Bool) (names : ℕ) : Type 0 where
  pub v : Value.Value
  pub w : Value.Value
  pub reads : read (ascii target) ≡ ok v
  pub reads' : read (ascii value) ≡ ok w
  pub is : compared v w ≡ after names same

abbrev pub All : List Example → Type 0
All [] = Unit {0}
All (counts target value same names ∷ es) = Holds target value same names × All es

abbrev pub examples : List Example
examples =
    -- `a` meets `a`; `b` meets `a`, then `b`
    counts "{\"a\":1,\"b\":2}" "{\"a\":1,\"b\":2}" true 3 ∷
    -- `a` meets `b`, then `a`; `b` meets `b`
    counts "{\"a\":1,\"b\":2}" "{\"b\":2,\"a\":1}" true 3 ∷
    -- a name that is not there is compared with all
    counts "{\"c\":1,\"b\":2}" "{\"a\":1,\"b\":2}" false 2 ∷
    -- the first difference ends it
    counts "{\"a\":1,\"b\":2}" "{\"a\":9,\"b\":2}" false 1 ∷
    -- other counts, other kinds: no comparison
    counts "{\"a\":1,\"b\":2}" "{\"a\":1}" false 0 ∷
    counts "{\"a\":1}" "[1]" false 0 ∷
    -- two values at once: 1 for `a`, 3 inside, 2 for `b`
    counts "{\"a\":{\"x\":1,\"y\":2},\"b\":3}" "{\"a\":{\"y\":2,\"x\":1},\"b\":3}" true 6 ∷
    -- elements have no names
    counts "[{\"a\":1},[{\"b\":2}]]" "[{\"a\":1},[{\"b\":2}]]" true 2 ∷
    []
