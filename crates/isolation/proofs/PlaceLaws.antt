-- A value put at a region is a value that replaces the one there, and the bytes around it stay.
use mathlib.Core.Path.{◌≡◌, refl, ap, sym, subst, ◌∙◌}
use mathlib.Core.List.{[], ◌∷◌, ◌++◌}
use Prim.Native.Nat.{ℕ}
use Rattle.spec.specs.Outcome.{Outcome, ok, refused, ◌>>=◌}
use Rattle.spec.specs.Bytes.{Text}
use Rattle.spec.specs.Value as Value
use Rattle.spec.specs.Value.{value_of}
use Rattle.spec.specs.Write.{write}
use Rattle.spec.specs.Pointer.{Tokens, child_at, child, farther, walk}
use Rattle.spec.specs.Operation.{at_parent, replace_child, replace_at_path}
use Rattle.spec.proofs.OutcomeLaws.{refused≢ok}
use Rattle.spec.proofs.FartherLaws.{farther_ok}
use Rattle.spec.proofs.PlaceLaws.{plant, plant_on, plant_plant, plant_walk, walk_plant, walk_on, walk_off}
use Rattle.isolation.specs.Isolation.{Around, ChangedInside}
use Rattle.isolation.proofs.FrameLaws as Frame
use Rattle.isolation.proofs.FrameLaws.{planted_around}

ok_same : {A : Type 0} {a b : A} → ok a ≡ ok b → a ≡ b
ok_same h = cc

-- where the region exists, a replacement there is the value put there
replaced_below : (x : Value.Value) (ts : Tokens) (t : Text) (v c : Value.Value) → walk (t ∷ ts) v ≡ ok c →
    at_parent (replace_child x) t ts v ≡ ok (plant (t ∷ ts) x v)
unfolding at_parent replace_child plant farther ◌>>=◌
replaced_below x [] t v c h = go (child_at t v) refl
  where
    go : (o : Outcome ℕ) → child_at t v ≡ o → at_parent (replace_child x) t [] v ≡ ok (plant (t ∷ []) x v)
    go (refused n p) q = absurd (refused≢ok (sym (walk_off t [] v n p q) ∙ h))
    go (ok k) q = rw (plant_on t [] v x k q, q)
replaced_below x (u ∷ us) t v c h = go (child_at t v) refl (λ w. replaced_below x us u w c)
  where
    go : (o : Outcome ℕ) → child_at t v ≡ o →
        ((w : Value.Value) → walk (u ∷ us) w ≡ ok c → at_parent (replace_child x) u us w ≡ ok (plant (u ∷ us) x w)) →
        at_parent (replace_child x) t (u ∷ us) v ≡ ok (plant (t ∷ u ∷ us) x v)
    go (refused n p) q ih = absurd (refused≢ok (sym (walk_off t (u ∷ us) v n p q) ∙ h))
    go (ok k) q ih = rw (plant_on t (u ∷ us) v x k q, q, ih (value_of (child k v)) (farther_ok _ (sym (walk_on t (u ∷ us) v k q) ∙ h)))

replaced : (R : Tokens) (x v c : Value.Value) → walk R v ≡ ok c → replace_at_path R x v ≡ ok (plant R x v)
unfolding replace_at_path plant
replaced [] x v c h = refl
replaced (t ∷ ts) x v c h = replaced_below x ts t v c h

-- the bytes around a region stay, whatever is put there
module _ (R : Tokens) (v c : Value.Value) (h : walk R v ≡ ok c) where
  frame : Frame.Around (λ x. write (plant R x v))
  frame = planted_around R v c h

  -- of a document with any value there
  around : (y : Value.Value) → Around R (plant R y v) frame.front frame.back
  around y =
      let there = walk_plant R v c h y in
      record {
        itself = λ held i. frame.is y ∙ ap (λ z. frame.front ++ (write z ++ frame.back)) (ok_same (sym there ∙ i));
        others = λ x w i.
            let put_there : plant R x (plant R y v) ≡ w = ok_same (sym (replaced R x (plant R y v) y there) ∙ i) in
            ap write (sym put_there ∙ plant_plant R y x v) ∙ frame.is x;
      }

  pub changed_inside : (y : Value.Value) → ChangedInside R v (plant R y v)
  changed_inside y =
      record {
        front = frame.front;
        back = frame.back;
        around_before = subst (λ u. Around R u frame.front frame.back) (plant_walk R v c h) (around c);
        around_after = around y;
      }
