-- A run followed by its undo gives the document before it, but for the order of members.
use mathlib.Core.Path.{◌≡◌, refl, ap, sym, subst}
use mathlib.Core.List.{List, [], ◌∷◌, ◌++◌}
use Prim.Native.Nat.{ℕ, ◌+◌}
use Rattle.spec.specs.Outcome.{Outcome, ok, refused}
use Rattle.spec.specs.Value as Value
use Rattle.spec.specs.Operation.{Operation, limited}
use Rattle.spec.specs.Patch.{finished, at_op, on_finish, which_pointer, run}
use Rattle.spec.proofs.OutcomeLaws.{refused≢ok}
use Rattle.spec.specs.Proper.{Proper, Readable}
use Rattle.claims.specs.Operations.{Same, both, neither}
use Rattle.claims.proofs.ProperOperations.{ProperOperation, perform_proper}
use Rattle.claims.proofs.ProperPatch.{AllProper, nothing, first, stopped≢finished}
use Rattle.reversal.specs.Undo.{result_or, undo_of, undo_run}
use Rattle.reversal.proofs.Like.{LikeValues, equal_labels, values_refl, values_trans}
use Rattle.reversal.proofs.LikeOperations.{limited_like}
use Rattle.reversal.proofs.EqualDocuments.{tests_reordered, limited_performs}
use Rattle.reversal.proofs.UndoOne.{Runs, stop, step, Undoes, undo_one}
use Rattle.reversal.proofs.Plain.{all_plain_proper, run_plain, one_plain}

pub runs_finish : {os : List Operation} {v w : Value.Value} (op : ℕ) → Runs os v w → run limited op os v ≡ finished w
unfolding run at_op on_finish
runs_finish op stop = refl
runs_finish op (step h r) = rw h (runs_finish (op + 1) r)

runs_append : {os ps : List Operation} {u v w : Value.Value} → Runs os u v → Runs ps v w → Runs (os ++ ps) u w
runs_append stop q = q
runs_append (step h r) q = step h (runs_append r q)

limited_proper : (o : Operation) (v w : Value.Value) → ProperOperation o → Proper v → limited o v ≡ ok w → Proper w
limited_proper o v w q p h = perform_proper o v w q p (limited_performs o v w h).0

runs_proper : {os : List Operation} {v w : Value.Value} → AllProper os → Proper v → Runs os v w → Proper w
runs_proper nothing p stop = p
runs_proper (first q a) p (step {o = o} {v = v} {u = u} h r) = runs_proper a (limited_proper o v u q p h) r

-- reordered documents run alike

answered : {a b : Outcome Value.Value} {x : Value.Value} → a ≡ ok x → Same (LikeValues ◌≡◌) a b → (y : Value.Value) × (b ≡ ok y) × LikeValues ◌≡◌ x y
answered {x = x} e (both {v = v} {w = w} r) = let same : v ≡ x = cc in (w, refl, rw same at r)
answered e neither = absurd (refused≢ok e)

runs_like : {os : List Operation} {u v : Value.Value} (u' : Value.Value) → AllProper os → Proper u → Proper u' → LikeValues ◌≡◌ u u' → Runs os u v →
    (v' : Value.Value) × Runs os u' v' × LikeValues ◌≡◌ v v'
runs_like u' nothing p p' l stop = (u', stop, l)
runs_like u' (first q a) p p' l (step {o = o} {v = u} {u = x} h r) =
    let (y, i, m) = answered h (limited_like equal_labels tests_reordered o u u' q p p' l) in
    let (v', r', n) = runs_like y a (limited_proper o u x q p h) (limited_proper o u' y q p' i) m r in
    (v', step i r', n)

-- one operation more at the front
undo_more : (o : Operation) (os : List Operation) (v u w : Value.Value) → ProperOperation o → AllProper os → Readable v → Proper w → limited o v ≡ ok u →
    Proper u → Undoes (undo_run os u) w u → Undoes (undo_run (o ∷ os) v) w v
unfolding undo_run result_or
undo_more o os v u w q a r pw h pu later =
    let one = undo_one o v u r (limited_performs o v u h).0 in
    let ops = one_plain o v q r.proper in
    let pu' = runs_proper (all_plain_proper (run_plain os u a pu)) pw later.runs in
    let (back, runs, like) = runs_like later.result ops pu pu' later.like one.runs in
    subst (λ x. Undoes (undo_run os x ++ undo_of o v) w v) (sym (ap (result_or v) h))
    (record { result = back; runs = runs_append later.runs runs; like = values_trans equal_labels one.like like })

-- A RUN AND ITS UNDO
pub undo_all : (op : ℕ) (os : List Operation) (v w : Value.Value) → AllProper os → Readable v → Proper w → run limited op os v ≡ finished w →
    Undoes (undo_run os v) w v
unfolding run undo_run on_finish at_op
undo_all op [] v w nothing r pw h = let same : v ≡ w = cc in rw (← same) (record { result = v; runs = stop; like = values_refl equal_labels v })
undo_all op (o ∷ os) v w (first q a) r pw h = go (limited o v) refl h (λ u. undo_all (op + 1) os u w a)
  where
    go : (x : Outcome Value.Value) → limited o v ≡ x → on_finish (at_op op (which_pointer o v) x) (λ u. run limited (op + 1) os u) ≡ finished w →
        ((u : Value.Value) → Readable u → Proper w → run limited (op + 1) os u ≡ finished w → Undoes (undo_run os u) w u) → Undoes (undo_run (o ∷ os) v) w v
    go (ok u) e h ih =
        let within = limited_performs o v u e in
        let pu = perform_proper o v u q r.proper within.0 in
        undo_more o os v u w q a r pw e pu (ih u (record { proper = pu; shallow = within.1.shallow; few = within.1.few }) pw h)
    go (refused n p) e h ih = absurd (stopped≢finished h)
