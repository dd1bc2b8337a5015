-- A pointer as a place in a value: what stands there, and another value put there. Two pointers neither of which begins with the other
-- are places apart: a value put at one changes nothing at the other.
use mathlib.Core.Path.{◌≡◌, refl, ap, sym, ◌∙◌}
use mathlib.Core.List.{List, [], ◌∷◌}
use Prim.Native.Nat.{ℕ, ◌+◌, ◌≤◌, max}
use native.Mathlib.Omega.{arith}
use lib.ListN.{length}
use Rattle.spec.specs.Outcome.{Outcome, ok, refused, ◌>>=◌}
use Rattle.spec.specs.Bytes.{Text}
use Rattle.spec.specs.Value.{value_of, depth}
use Rattle.spec.specs.Pointer.{child_at, child, farther, walk}
use Rattle.spec.specs.Operation.{put}
use Rattle.spec.specs.Value as Value
use Rattle.spec.proofs.OutcomeLaws.{refused≢ok}
use Rattle.spec.proofs.FartherLaws.{farther_ok}
use Rattle.spec.proofs.ChildLaws.{child_there, child-apart, child_at-put, child-put, child-put-other, put-put, put-child, put_commute, depth-child}
use Rattle.spec.proofs.ChildLaws.{depth-put}

-- a value put where a pointer leads, and nothing changed where it leads nowhere
unfoldable pub plant : List Text → Value.Value → Value.Value → Value.Value
plant [] x v = x
plant (t ∷ ts) x v = elim (child_at t v) [ ok k ↦ put k (plant ts x (value_of (child k v))) v | refused number place ↦ v ]

-- pointers that part at some token
pub data Apart : List Text → List Text → Type 0 where
  here : {t u : Text} {ts us : List Text} → (t ≡ u → ⊥) → Apart (t ∷ ts) (u ∷ us)
  there : {t : Text} {ts us : List Text} → Apart ts us → Apart (t ∷ ts) (t ∷ us)

-- the first step, once it is known where it leads
module _ (t : Text) (ts : List Text) (v : Value.Value) where
  pub walk_on : (k : ℕ) → child_at t v ≡ ok k → walk (t ∷ ts) v ≡ farther (walk ts (value_of (child k v)))
  unfolding walk ◌>>=◌
  walk_on k h = rw h

  pub walk_off : (n p : ℕ) → child_at t v ≡ refused n p → walk (t ∷ ts) v ≡ refused n p
  unfolding walk ◌>>=◌
  walk_off n p h = rw h

  pub plant_on : (x : Value.Value) (k : ℕ) → child_at t v ≡ ok k → plant (t ∷ ts) x v ≡ put k (plant ts x (value_of (child k v))) v
  unfolding plant
  plant_on x k h = rw (h, plant)

  plant_off : (x : Value.Value) (n p : ℕ) → child_at t v ≡ refused n p → plant (t ∷ ts) x v ≡ v
  unfolding plant
  plant_off x n p h = rw (h, plant)

-- the first step after the child that it leads to was replaced
module _ (t : Text) (ts : List Text) (x v : Value.Value) (k : ℕ) (h : child_at t v ≡ ok k) where
  walk_put : walk (t ∷ ts) (put k x v) ≡ farther (walk ts x)
  walk_put = let c = child_there t v k h in walk_on t ts (put k x v) k (child_at-put k x v c t ∙ h) ∙ rw (child-put k x v c)

  plant_put : (y : Value.Value) → plant (t ∷ ts) y (put k x v) ≡ put k (plant ts y x) v
  plant_put y =
      let c = child_there t v k h in
      plant_on t ts (put k x v) y k (child_at-put k x v c t ∙ h) ∙ rw (child-put k x v c, put-put k x v c)

-- the way to a place, step by step
data Leads : List Text → Value.Value → Value.Value → Type 0 where
  stay : {v : Value.Value} → Leads [] v v
  step : {t : Text} {ts : List Text} {v c : Value.Value} {k : ℕ} → child_at t v ≡ ok k → Leads ts (value_of (child k v)) c → Leads (t ∷ ts) v c

leads : (R : List Text) (v c : Value.Value) → walk R v ≡ ok c → Leads R v c
unfolding walk
leads [] v c h = let same : v ≡ c = cc in rw (← same) stay
leads (t ∷ ts) v c h = go (child_at t v) refl (leads ts)
  where
    go : (o : Outcome ℕ) → child_at t v ≡ o → ((w c : Value.Value) → walk ts w ≡ ok c → Leads ts w c) → Leads (t ∷ ts) v c
    go (ok k) q ih = step q (ih (value_of (child k v)) c (farther_ok _ (sym (walk_on t ts v k q) ∙ h)))
    go (refused n p) q ih = absurd (refused≢ok (sym (walk_off t ts v n p q) ∙ h))

-- what is put in a place stands there
walk_plant_on : {R : List Text} {v c : Value.Value} (x : Value.Value) → Leads R v c → walk R (plant R x v) ≡ ok x
unfolding walk farther plant
walk_plant_on x stay = refl
walk_plant_on x (step {t} {ts} {v} {c} {k} h l) = rw (plant_on t ts v x k h, walk_put t ts _ v k h, walk_plant_on x l)

-- what stands there put there again changes nothing
plant_walk_on : {R : List Text} {v c : Value.Value} → Leads R v c → plant R c v ≡ v
unfolding plant
plant_walk_on stay = refl
plant_walk_on (step {t} {ts} {v} {c} {k} h l) = rw (plant_on t ts v c k h, plant_walk_on l) (put-child k v (child_there t v k h))

-- as deep as what is put there and the way to it, or as before
depth_plant_on : {R : List Text} {v c : Value.Value} (x : Value.Value) → Leads R v c →
    (length R + depth x ≤ depth (plant R x v)) × (depth (plant R x v) ≤ max (length R + depth x) (depth v))
unfolding plant
depth_plant_on {v = v} x stay = omega arith
depth_plant_on x (step {t} {ts} {v} {c} {k} h l) =
    let ih = depth_plant_on x l in
    let d = depth-put t (plant ts x (value_of (child k v))) v k h in
    rw (plant_on t ts v x k h) (omega (arith, depth-child t v k h))

module _ (R : List Text) (v c : Value.Value) (h : walk R v ≡ ok c) where
  pub walk_plant : (x : Value.Value) → walk R (plant R x v) ≡ ok x
  walk_plant x = walk_plant_on x (leads R v c h)

  pub plant_walk : plant R c v ≡ v
  plant_walk = plant_walk_on (leads R v c h)

  pub depth_plant : (x : Value.Value) → (length R + depth x ≤ depth (plant R x v)) × (depth (plant R x v) ≤ max (length R + depth x) (depth v))
  depth_plant x = depth_plant_on x (leads R v c h)

-- of two values put in one place the second stays
pub plant_plant : (R : List Text) (x y v : Value.Value) → plant R y (plant R x v) ≡ plant R y v
unfolding plant
plant_plant [] x y v = refl
plant_plant (t ∷ ts) x y v = go (child_at t v) refl (plant_plant ts x y)
  where
    go : (o : Outcome ℕ) → child_at t v ≡ o → ((w : Value.Value) → plant ts y (plant ts x w) ≡ plant ts y w) →
        plant (t ∷ ts) y (plant (t ∷ ts) x v) ≡ plant (t ∷ ts) y v
    go (ok k) q ih = rw (plant_on t ts v x k q, plant_put t ts _ v k q, ih, plant_on t ts v y k q)
    go (refused n p) q ih = rw (plant_off t ts v x n p q)

-- the first step, after another child than the one it leads to was replaced
module _ (t u : Text) (us : List Text) (x v : Value.Value) (k : ℕ) (h : child_at t v ≡ ok k) (n : t ≡ u → ⊥) where
  child-beside : (l : ℕ) → child_at u v ≡ ok l → child l (put k x v) ≡ child l v
  child-beside l i = child-put-other k x v (child_there t v k h) l (λ e. n (child-apart t u v k h (rw e i)))

  child_at-beside : child_at u (put k x v) ≡ child_at u v
  child_at-beside = child_at-put k x v (child_there t v k h) u

  plant_beside : (y : Value.Value) (l : ℕ) → child_at u v ≡ ok l → plant (u ∷ us) y (put k x v) ≡ put l (plant us y (value_of (child l v))) (put k x v)
  plant_beside y l i = plant_on u us (put k x v) y l (child_at-beside ∙ i) ∙ rw (child-beside l i)

  pub walk-beside : walk (u ∷ us) (put k x v) ≡ walk (u ∷ us) v
  walk-beside = go (child_at u v) refl
    where
      go : (o : Outcome ℕ) → child_at u v ≡ o → walk (u ∷ us) (put k x v) ≡ walk (u ∷ us) v
      go (ok l) i = rw (walk_on u us v l i, walk_on u us (put k x v) l (child_at-beside ∙ i), child-beside l i)
      go (refused m p) i = rw (walk_off u us v m p i, walk_off u us (put k x v) m p (child_at-beside ∙ i))

-- what is put in a place changes nothing at a place apart
pub walk_plant_apart : {R Q : List Text} (x v : Value.Value) → Apart R Q → walk Q (plant R x v) ≡ walk Q v
walk_plant_apart x v (here {t} {u} {ts} {us} n) = go (child_at t v) refl
  where
    go : (o : Outcome ℕ) → child_at t v ≡ o → walk (u ∷ us) (plant (t ∷ ts) x v) ≡ walk (u ∷ us) v
    go (ok k) q = rw (plant_on t ts v x k q) (walk-beside t u us _ v k q n)
    go (refused m p) q = rw (plant_off t ts v x m p q)
walk_plant_apart x v (there {t} {ts} {us} a) = go (child_at t v) refl (λ w. walk_plant_apart x w a)
  where
    go : (o : Outcome ℕ) → child_at t v ≡ o → ((w : Value.Value) → walk us (plant ts x w) ≡ walk us w) →
        walk (t ∷ us) (plant (t ∷ ts) x v) ≡ walk (t ∷ us) v
    go (ok k) q ih = rw (plant_on t ts v x k q, walk_put t us _ v k q, walk_on t us v k q) (ap farther (ih _))
    go (refused m p) q ih = rw (plant_off t ts v x m p q)

-- values put in places apart may be put there in either order
pub plant_commute : {R Q : List Text} (x y v : Value.Value) → Apart R Q → plant Q y (plant R x v) ≡ plant R x (plant Q y v)
plant_commute x y v (here {t} {u} {ts} {us} n) = go (child_at t v) (child_at u v) refl refl
  where
    m : u ≡ t → ⊥
    m e = n (sym e)

    go : (o p : Outcome ℕ) → child_at t v ≡ o → child_at u v ≡ p → plant (u ∷ us) y (plant (t ∷ ts) x v) ≡ plant (t ∷ ts) x (plant (u ∷ us) y v)
    go (ok k) (ok l) q r =
        rw (plant_on t ts v x k q, plant_on u us v y l r, plant_beside t u us _ v k q n y l r, plant_beside u t ts _ v l r m x k q)
        (put_commute k l _ _ v (child_there t v k q) (child_there u v l r) (λ e. n (child-apart t u v k q (rw e r))))
    go (ok k) (refused i j) q r =
        rw (plant_off u us v y i j r, plant_on t ts v x k q) (plant_off u us _ y i j (child_at-beside t u us _ v k q n ∙ r))
    go (refused i j) (ok l) q r =
        rw (plant_off t ts v x i j q, plant_on u us v y l r) (sym (plant_off t ts _ x i j (child_at-beside u t ts _ v l r m ∙ q)))
    go (refused i j) (refused i' j') q r = rw (plant_off t ts v x i j q, plant_off u us v y i' j' r, plant_off t ts v x i j q)
plant_commute x y v (there {t} {ts} {us} a) = go (child_at t v) refl (λ w. plant_commute x y w a)
  where
    go : (o : Outcome ℕ) → child_at t v ≡ o → ((w : Value.Value) → plant us y (plant ts x w) ≡ plant ts x (plant us y w)) →
        plant (t ∷ us) y (plant (t ∷ ts) x v) ≡ plant (t ∷ ts) x (plant (t ∷ us) y v)
    go (ok k) q ih = rw (plant_on t ts v x k q, plant_on t us v y k q, plant_put t us _ v k q, plant_put t ts _ v k q, ih)
    go (refused m p) q ih = rw (plant_off t ts v x m p q, plant_off t us v y m p q, plant_off t ts v x m p q)
