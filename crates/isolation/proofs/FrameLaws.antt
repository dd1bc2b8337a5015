-- A value put at a region: all that is written around it is the same, whatever it is.
use mathlib.Core.Path.{◌≡◌, refl, ap, sym, ◌∙◌}
use mathlib.Core.List.{[], ◌∷◌, ◌++◌, append-nil, append_assoc}
use Prim.Native.Nat.{ℕ, zero, suc, ◌<◌}
use native.Mathlib.Omega.{arith}
use mathlib.Core.Bool.{Bool, true, false}
use Rattle.spec.specs.Outcome.{Outcome, ok, refused}
use Rattle.spec.specs.Bytes.{Bytes, Text}
use Rattle.spec.specs.Forest.{none, tree, count, before, from, replace_at, ◌⧺◌}
use Rattle.spec.specs.Value as Value
use Rattle.spec.specs.Value.{Members, is_object, named, value_of}
use Rattle.spec.specs.Pointer.{Tokens, child_at, child, walk}
use Rattle.spec.specs.Operation.{put}
use Rattle.spec.specs.Write.{opening, closing, comma, write_name, write_items, write}
use Rattle.spec.proofs.OutcomeLaws.{refused≢ok}
use Rattle.spec.proofs.FartherLaws.{farther_ok}
use Rattle.spec.proofs.ChildLaws.{child_there}
use Rattle.spec.proofs.PlaceLaws.{plant, plant_on, walk_on, walk_off}

-- the bytes in front of a value's own and behind them
pub record Around (text : Value.Value → Bytes) : Type 0 where
  pub front : Bytes
  pub back : Bytes
  pub is : (x : Value.Value) → text x ≡ front ++ (write x ++ back)

items_around : (object first : Bool) (k : ℕ) (f : Members) (n : Text) → k < count f → Around (λ x. write_items object first (replace_at k (named n x) f))
unfolding count replace_at before from ◌⧺◌ write_items write
items_around object first k none n h = absurd (omega arith)
items_around object first zero (tree e kids rest) n h =
    record { front = comma first ++ write_name object n; back = write_items object false rest; is = λ x. simp append_assoc }
items_around object first (suc k) (tree e kids rest) n h =
    let later = items_around object false k rest n (omega arith) in
    record {
      front = comma first ++ write_name object e.name ++ opening e.label
          ++ write_items (is_object e.label) true kids ++ closing e.label ++ later.front;
      back = later.back;
      is = λ x. rw (later.is x) (simp append_assoc);
    }

child_around : (k : ℕ) (v : Value.Value) → k < count v.kids → Around (λ x. write (put k x v))
unfolding put write
child_around k v h =
    let inner = items_around (is_object v.label) true k v.kids (child k v).root.name h in
    record {
      front = opening v.label ++ inner.front;
      back = inner.back ++ closing v.label;
      is = λ x. rw (inner.is x) (simp append_assoc);
    }

pub planted_around : (R : Tokens) (v c : Value.Value) → walk R v ≡ ok c → Around (λ x. write (plant R x v))
unfolding plant
planted_around [] v c h = record { front = []; back = []; is = λ x. sym (append-nil (write x)) }
planted_around (t ∷ R) v c h = go (child_at t v) refl (planted_around R)
  where
    go : (o : Outcome ℕ) → child_at t v ≡ o → ((u c : Value.Value) → walk R u ≡ ok c → Around (λ x. write (plant R x u))) →
        Around (λ x. write (plant (t ∷ R) x v))
    go (ok k) q ih =
        let below = ih (value_of (child k v)) c (farther_ok _ (sym (walk_on t R v k q) ∙ h)) in
        let here = child_around k v (child_there t v k q) in
        record {
          front = here.front ++ below.front;
          back = below.back ++ here.back;
          is = λ x. ap write (plant_on t R v x k q) ∙ here.is (plant R x (value_of (child k v))) ∙ rw (below.is x) (simp append_assoc);
        }
    go (refused n p) q ih = absurd (refused≢ok (sym (walk_off t R v n p q) ∙ h))
