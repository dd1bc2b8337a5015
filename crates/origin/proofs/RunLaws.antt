-- Runs: with one operation more, and with origins forgotten.
use mathlib.Core.Path.{◌≡◌, refl, ap, ◌∙◌}
use mathlib.Core.List.{List, [], ◌∷◌}
use Prim.Native.Nat.{ℕ, ◌+◌, ◌≤◌}
use lib.Dec.{leb}
use borrow.Author.Tests.{leb-true}
use Rattle.spec.specs.Outcome.{Outcome, ok, refused, ◌>>=◌}
use Rattle.spec.specs.Limits.{max_depth, max_nodes}
use Rattle.spec.specs.Value as Plain
use Rattle.spec.specs.Operation as PlainOperation
use Rattle.spec.specs.Operation.{Operation}
use Rattle.spec.specs.Patch as PlainPatch
use Rattle.spec.specs.Patch.{Run, finished, at_op, on_finish, which_pointer}
use Rattle.spec.proofs.OutcomeLaws.{refused≢ok, both_ok}
use Rattle.claims.proofs.CharacterScalar.{if_ok}
use Rattle.claims.proofs.ProperPatch.{stopped≢finished}
use Rattle.origin.specs.Value as Value
use Rattle.origin.specs.Value.{forget, depth, nodes}
use Rattle.origin.specs.Operation.{perform, not_too_deep, not_too_large, limited}
use Rattle.origin.specs.Patch.{run}
use Rattle.origin.specs.Forgetting.{forgotten, forgotten_run}
use Rattle.origin.proofs.ForgetLaws.{forget-limited}

-- a run that finishes: its first operation succeeded, and the others finished
pub run-first : (op : ℕ) (o : Operation) (os : List Operation) (v w : Value.Value) → run limited op (o ∷ os) v ≡ finished w →
    (u : Value.Value) × (limited op o v ≡ ok u) × (run limited (op + 1) os u ≡ finished w)
unfolding run at_op on_finish
run-first op o os v w h = go (limited op o v) h
  where
    go : (r : Outcome Value.Value) → on_finish (at_op op (which_pointer o (forget v)) r) (λ u. run limited (op + 1) os u) ≡ finished w →
        (u : Value.Value) × (r ≡ ok u) × (run limited (op + 1) os u ≡ finished w)
    go (ok u) h = (u, refl, h)
    go (refused number place) h = absurd (stopped≢finished h)

-- what an operation leaves was made by it, and is within the limits
pub limited_made : (k : ℕ) (o : Operation) (v w : Value.Value) → limited k o v ≡ ok w → (perform k o v ≡ ok w) × (nodes w ≤ max_nodes)
unfolding limited not_too_deep not_too_large
limited_made k o v w h =
    let (x, e, i) = both_ok (perform k o v >>= not_too_deep) _ w h in
    let (y, f, j) = both_ok (perform k o v) _ x e in
    if_ok (leb (depth y) max_depth) j
    (λ deep l.
    if_ok (leb (nodes x) max_nodes) i
    (λ large m.
    let same : y ≡ w = cc in
    let same' : x ≡ w = cc in
    (f ∙ ap ok same, rw (← same') (leb-true _ _ large)))
    (λ _ m. absurd (refused≢ok m)))
    (λ _ l. absurd (refused≢ok l))

pub run_few : (op : ℕ) (os : List Operation) (v w : Value.Value) → nodes v ≤ max_nodes → run limited op os v ≡ finished w → nodes w ≤ max_nodes
unfolding run
run_few op [] v w few h = let same : v ≡ w = cc in rw (← same) few
run_few op (o ∷ os) v w few h =
    let (u, made, rest) = run-first op o os v w h in
    run_few (op + 1) os u w (limited_made op o v u made).1 rest

forget_next : (op : ℕ) (which : ℕ → ℕ) (r : Outcome Value.Value) (f : Value.Value → Run Value.Value) (g : Plain.Value → Run Plain.Value) →
    ((w : Value.Value) → forgotten_run (f w) ≡ g (forget w)) → forgotten_run (on_finish (at_op op which r) f) ≡ on_finish (at_op op which (forgotten r)) g
unfolding at_op on_finish forgotten forgotten_run
forget_next op which (ok w) f g same = same w
forget_next op which (refused number place) f g same = refl

pub forget-run : (op : ℕ) (os : List Operation) (v : Value.Value) →
    forgotten_run (run limited op os v) ≡ PlainPatch.run PlainOperation.limited op os (forget v)
unfolding run PlainPatch.run forgotten_run
forget-run op [] v = refl
forget-run op (o ∷ os) v =
    forget_next op (which_pointer o (forget v)) (limited op o v) (run limited (op + 1) os) (PlainPatch.run PlainOperation.limited (op + 1) os)
    (forget-run (op + 1) os) ∙
    ap (λ r. on_finish (at_op op (which_pointer o (forget v)) r) (λ w. PlainPatch.run PlainOperation.limited (op + 1) os w)) (forget-limited op o v)
