-- What the answer says of two texts that are read: specs/Call.
use Prim.Native.Nat.{ℕ, ◌*◌, ◌≤◌, ◌<◌}
use native.Mathlib.Nat.{mul-le-mul}
use native.Mathlib.Omega.{arith}
use mathlib.Core.Path.{◌≡◌, refl, sym, subst}
use lib.ListN.{length}
use borrow.Author.Tests.{le-ltb, lt-ltb}
use Rattle.spec.specs.Outcome.{ok, refused}
use Rattle.spec.specs.Refusal.{input_too_long}
use Rattle.spec.specs.Limits.{max_bytes, max_nodes}
use Rattle.spec.specs.Bytes.{Bytes}
use Rattle.spec.specs.Forest.{size}
use Rattle.spec.specs.Value as Value
use Rattle.spec.specs.Value.{nodes}
use Rattle.spec.specs.Read.{read}
use Rattle.claims.proofs.ReadProper.{read_proper}
use Rattle.comparison.specs.Comparison.{compared}
use Rattle.comparison.specs.Call as Call
use Rattle.comparison.specs.Call.{success, refusal, on_second, on_first, Told, CallStatement}
use Rattle.comparison.proofs.ComparisonTheorem.{comparison}

-- ---- each way through the definition
module _ (s t : Bytes) where
  pub first_long : max_bytes < length s → Call.comparison s t ≡ refusal input_too_long 1 0
  unfolding Call.comparison
  first_long h = rw (lt-ltb max_bytes (length s) h)

  module _ (h : length s ≤ max_bytes) where
    pub second_long : max_bytes < length t → Call.comparison s t ≡ refusal input_too_long 2 0
    unfolding Call.comparison
    second_long i = rw (le-ltb max_bytes (length s) h, lt-ltb max_bytes (length t) i)

    module _ (i : length t ≤ max_bytes) where
      pub first_refused : (number place : ℕ) → read s ≡ refused number place → Call.comparison s t ≡ refusal number 1 place
      unfolding Call.comparison on_first
      first_refused number place e = rw (le-ltb max_bytes (length s) h, le-ltb max_bytes (length t) i, e)

      module _ (v : Value.Value) (reads : read s ≡ ok v) where
        pub second_refused : (number place : ℕ) → read t ≡ refused number place → Call.comparison s t ≡ refusal number 2 place
        unfolding Call.comparison on_first on_second
        second_refused number place e = rw (le-ltb max_bytes (length s) h, le-ltb max_bytes (length t) i, reads, e)

        pub both_read : (w : Value.Value) → read t ≡ ok w → Call.comparison s t ≡ success (compared v w)
        unfolding Call.comparison on_first on_second
        both_read w e = rw (le-ltb max_bytes (length s) h, le-ltb max_bytes (length t) i, reads, e)

-- ---- no count is greater
product : (a b m n : ℕ) → a ≤ m → b ≤ n → a * b ≤ m * n
product a b m n h i = mul-le-mul h i

pub few_names : (v w : Value.Value) → nodes v ≤ max_nodes → nodes w ≤ max_nodes → (compared v w).names ≤ 2_047 * 2_047
unfolding nodes
few_names v w h i =
    let sharp = comparison.sharper v w (size v.kids) (size w.kids) (omega arith) (omega arith) in
    let most = product (size v.kids) (size w.kids) 2_047 2_047 (omega arith) (omega arith) in
    omega arith

pub told : CallStatement
told s t v w h i reads reads' =
    let few = few_names v w (read_proper s v reads).1 (read_proper t w reads').1 in
    subst (Told v w) (sym (both_read s t h i v reads w reads'))
    (record { number = refl; verdict = comparison.verdict v w; bound = comparison.bound v w; most = few })
