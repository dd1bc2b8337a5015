-- Runs of one list of operations after another.
use mathlib.Core.Path.{◌≡◌, ap, sym, ◌∙◌}
use mathlib.Core.List.{List, [], ◌∷◌, ◌++◌}
use Prim.Native.Nat.{ℕ, suc, ◌+◌, ◌≤◌}
use native.Mathlib.Omega.{arith}
use lib.ListN.{length}
use Rattle.spec.specs.Outcome.{Outcome, ok, refused}
use Rattle.spec.specs.Value as Value
use Rattle.spec.specs.Operation.{Operation, limited}
use Rattle.spec.specs.Patch.{Stop, stop, Run, finished, stopped, at_op, on_finish, which_pointer, run}
use Rattle.spec.proofs.RunTheorem.{finished≢stopped, stopped_same}
use Rattle.sequence.specs.Sequence.{later}

-- where the first list finishes, the second goes on from its document, counted from there on
pub run_then : (xs ys : List Operation) (op : ℕ) (v w : Value.Value) → run limited op xs v ≡ finished w →
    run limited op (xs ++ ys) v ≡ run limited (op + length xs) ys w
unfolding run on_finish at_op
run_then [] ys op v w h =
    let same : v ≡ w = cc in
    let here : op + 0 ≡ op = omega arith in
    rw (same, here)
run_then (x ∷ xs) ys op v w h = go (limited x v) h (λ u. run_then xs ys (op + 1) u w)
  where
    go : (r : Outcome Value.Value) → on_finish (at_op op (which_pointer x v) r) (λ u. run limited (op + 1) xs u) ≡ finished w →
        ((u : Value.Value) → run limited (op + 1) xs u ≡ finished w → run limited (op + 1) (xs ++ ys) u ≡ run limited (op + 1 + length xs) ys w) →
        on_finish (at_op op (which_pointer x v) r) (λ u. run limited (op + 1) (xs ++ ys) u) ≡ run limited (op + suc (length xs)) ys w
    go (ok u) h ih = let count : op + 1 + length xs ≡ op + suc (length xs) = omega arith in ih u h ∙ ap (λ k. run limited k ys w) count
    go (refused n p) h ih = absurd (finished≢stopped (sym h))

-- where the first list stops, so do both
pub run_stays : (xs ys : List Operation) (op : ℕ) (v : Value.Value) (s : Stop) → run limited op xs v ≡ stopped s → run limited op (xs ++ ys) v ≡ stopped s
unfolding run on_finish at_op
run_stays [] ys op v s h = absurd (finished≢stopped h)
run_stays (x ∷ xs) ys op v s h = go (limited x v) h (λ u. run_stays xs ys (op + 1) u s)
  where
    go : (r : Outcome Value.Value) → on_finish (at_op op (which_pointer x v) r) (λ u. run limited (op + 1) xs u) ≡ stopped s →
        ((u : Value.Value) → run limited (op + 1) xs u ≡ stopped s → run limited (op + 1) (xs ++ ys) u ≡ stopped s) →
        on_finish (at_op op (which_pointer x v) r) (λ u. run limited (op + 1) (xs ++ ys) u) ≡ stopped s
    go (ok u) h ih = ih u h
    go (refused m p) h ih = h

-- a run, and the same one counted from an operation that is n further on
pub data Further (n : ℕ) : Run Value.Value → Run Value.Value → Type 0 where
  finishes : (w : Value.Value) → Further n (finished w) (finished w)
  stops : (s : Stop) → Further n (stopped s) (stopped (later n s))

pub run_further : (n : ℕ) (xs : List Operation) (op : ℕ) (v : Value.Value) → Further n (run limited op xs v) (run limited (op + n) xs v)
unfolding run on_finish at_op
run_further n [] op v = finishes v
run_further n (x ∷ xs) op v = go (limited x v) (run_further n xs (op + 1))
  where
    go : (r : Outcome Value.Value) → ((u : Value.Value) → Further n (run limited (op + 1) xs u) (run limited (op + 1 + n) xs u)) →
        Further n (on_finish (at_op op (which_pointer x v) r) λ u. run limited (op + 1) xs u)
        (on_finish (at_op (op + n) (which_pointer x v) r) λ u. run limited (op + n + 1) xs u)
    go (ok u) ih = let count : op + n + 1 ≡ op + 1 + n = omega arith in rw count (ih u)
    go (refused m p) ih = stops (stop m op p (which_pointer x v m))

-- a run stops at none of the operations before it
pub stops_from : (xs : List Operation) (op : ℕ) (v : Value.Value) (s : Stop) → run limited op xs v ≡ stopped s → op ≤ s.op
unfolding run on_finish at_op
stops_from [] op v s h = absurd (finished≢stopped h)
stops_from (x ∷ xs) op v s h = go (limited x v) h (λ u. stops_from xs (op + 1) u s)
  where
    go : (r : Outcome Value.Value) → on_finish (at_op op (which_pointer x v) r) (λ u. run limited (op + 1) xs u) ≡ stopped s →
        ((u : Value.Value) → run limited (op + 1) xs u ≡ stopped s → op + 1 ≤ s.op) → op ≤ s.op
    go (ok u) h ih = omega (arith, ih u h)
    go (refused m p) h ih = let same : op ≡ s.op = ap Stop.op (stopped_same h) in omega arith
