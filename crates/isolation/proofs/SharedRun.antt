-- Operations strictly inside a region, on two documents that have one value there: the runs go alike, step by step, and leave all outside it unchanged.
use mathlib.Core.Path.{◌≡◌, refl, ap, sym, subst, ◌∙◌}
use mathlib.Core.Bool.{true}
use mathlib.Core.List.{List, [], ◌∷◌}
use Prim.Native.Nat.{ℕ, ◌+◌, ◌≤◌}
use native.Mathlib.Omega.{arith}
use Rattle.spec.specs.Outcome.{Outcome, ok, refused, ◌>>=◌}
use Rattle.spec.specs.Limits.{max_depth}
use Rattle.spec.specs.Value as Value
use Rattle.spec.specs.Value.{depth}
use Rattle.spec.specs.Pointer.{Tokens, walk}
use Rattle.spec.specs.Operation.{Operation}
use Rattle.spec.specs.Patch.{Stop, stop, Run, finished, stopped, which_pointer, at_op, on_finish, run}
use Rattle.spec.specs.Region.{bare, strictly_inside, all_inside}
use Rattle.spec.proofs.TextLaws.{both_true}
use Rattle.spec.proofs.PlaceLaws.{plant, plant_plant, plant_walk, walk_plant}
use Rattle.spec.proofs.OperationLaws.{Local, at_region_on, bare-inside, bare-depth}

-- a document that is not too deep, with a value at the region
pub record Holding (R : Tokens) (c v : Value.Value) : Type 0 where
  pub there : walk R v ≡ ok c
  pub shallow : depth v ≤ max_depth

-- two runs of one list of operations, the first of which is op: both stop alike, or both finish with one value at the region and the rest of
-- each document as it was
pub data Alike (R : Tokens) (v w : Value.Value) (op : ℕ) : Run Value.Value → Run Value.Value → Type 0 where
  stop_alike : (s : Stop) → op ≤ s.op → Alike R v w op (stopped s) (stopped s)
  finish_alike : (x : Value.Value) → walk R (plant R x v) ≡ ok x → walk R (plant R x w) ≡ ok x →
      Alike R v w op (finished (plant R x v)) (finished (plant R x w))

-- an operation before them that put a value at the region
planted_before : {R : Tokens} {v w : Value.Value} {op : ℕ} (c : Value.Value) {r s : Run Value.Value} →
    Alike R (plant R c v) (plant R c w) (op + 1) r s → Alike R v w op r s
planted_before c (stop_alike s l) = stop_alike s (omega arith)
planted_before {R} {v} {w} c (finish_alike x p q) =
    rw (plant_plant R c x v, plant_plant R c x w)
    (finish_alike x (ap (walk R) (sym (plant_plant R c x v)) ∙ p) (ap (walk R) (sym (plant_plant R c x w)) ∙ q))

-- one operation
data Step (R : Tokens) (o : Operation) (v w : Value.Value) : Type 0 where
  ends : (n p : ℕ) → bare o v ≡ refused n p → bare o w ≡ refused n p → which_pointer o v n ≡ which_pointer o w n → Step R o v w
  goes : (x : Value.Value) → bare o v ≡ ok (plant R x v) → bare o w ≡ ok (plant R x w) → Holding R x (plant R x v) → Holding R x (plant R x w) →
      Step R o v w

step : {R : Tokens} {o : Operation} {c v w : Value.Value} → Local R o → Holding R c v → Holding R c w → Step R o v w
unfolding ◌>>=◌
step {R} {o} {c} {v} {w} local a b = go (local.change c) refl
  where
    does : (u : Value.Value) → Holding R c u → bare o u ≡ local.change c >>= λ x. ok (plant R x u)
    does u h = local.is u h.shallow ∙ at_region_on R local.change u c h.there

    holding : (u x : Value.Value) → Holding R c u → bare o u ≡ ok (plant R x u) → Holding R x (plant R x u)
    holding u x h e = record { there = walk_plant R u c h.there x; shallow = bare-depth o u (plant R x u) e }

    go : (r : Outcome Value.Value) → local.change c ≡ r → Step R o v w
    go (ok x) e =
        let one : bare o v ≡ ok (plant R x v) = rw e at (does v a) in
        let other : bare o w ≡ ok (plant R x w) = rw e at (does w b) in
        goes x one other (holding v x a one) (holding w x b other)
    go (refused n p) e = ends n p (rw e at (does v a)) (rw e at (does w b)) (local.pointer v w n (a.there ∙ sym b.there))

module _ (op : ℕ) (o : Operation) (os : List Operation) (v : Value.Value) where
  run_goes : (w : Value.Value) → bare o v ≡ ok w → run bare op (o ∷ os) v ≡ run bare (op + 1) os w
  unfolding run at_op on_finish
  run_goes w h = rw h

  run_ends : (n p : ℕ) → bare o v ≡ refused n p → run bare op (o ∷ os) v ≡ stopped (stop n op p (which_pointer o v n))
  unfolding run at_op on_finish
  run_ends n p h = rw h

pub alike : (R : Tokens) (os : List Operation) → all_inside R os ≡ true → (op : ℕ) (c v w : Value.Value) → Holding R c v → Holding R c w →
    Alike R v w op (run bare op os v) (run bare op os w)
unfolding run all_inside
alike R [] inside op c v w a b =
    let same-v = plant_walk R v c a.there in
    let same_w = plant_walk R w c b.there in
    subst (λ u. Alike R v w op (finished u) (finished w)) same-v
    (subst (λ u. Alike R v w op (finished (plant R c v)) (finished u)) same_w
    (finish_alike c (ap (walk R) same-v ∙ a.there) (ap (walk R) same_w ∙ b.there)))
alike R (o ∷ os) inside op c v w a b =
    let (here, rest) = both_true (strictly_inside R o) (all_inside R os) inside in
    go (step (bare-inside R o here) a b) (λ x p q. alike R os rest (op + 1) x (plant R x v) (plant R x w) p q)
  where
    go : Step R o v w →
        ((x : Value.Value) → Holding R x (plant R x v) → Holding R x (plant R x w) →
        Alike R (plant R x v) (plant R x w) (op + 1) (run bare (op + 1) os (plant R x v)) (run bare (op + 1) os (plant R x w))) →
        Alike R v w op (run bare op (o ∷ os) v) (run bare op (o ∷ os) w)
    go (ends n p e f same) ih = rw (run_ends op o os v n p e, run_ends op o os w n p f, same) (stop_alike (stop n op p (which_pointer o w n)) (omega arith))
    go (goes x e f p q) ih = rw (run_goes op o os v (plant R x v) e, run_goes op o os w (plant R x w) f) (planted_before x (ih x p q))
