-- A value within a readable value is readable.
use mathlib.Core.Path.{◌≡◌, refl, sym, subst, ◌∙◌}
use mathlib.Core.List.{[], ◌∷◌}
use Prim.Native.Nat.{ℕ, zero, suc, ◌<◌, ◌≤◌}
use native.Mathlib.Omega.{arith}
use Rattle.spec.specs.Outcome.{Outcome, ok, refused}
use Rattle.spec.specs.Bytes.{Text}
use Rattle.spec.specs.Forest.{none, tree, Tree, count, size, nth}
use Rattle.spec.specs.Value as Value
use Rattle.spec.specs.Value.{Label, Entry, Members, leaf, named, value_of, depth, nodes}
use Rattle.spec.specs.Pointer.{Tokens, child_at, child, walk}
use Rattle.spec.proofs.OutcomeLaws.{refused≢ok}
use Rattle.spec.proofs.FartherLaws.{farther_ok}
use Rattle.spec.proofs.ChildLaws.{child_there, depth-child}
use Rattle.spec.proofs.PlaceLaws.{walk_on, walk_off}
use Rattle.spec.specs.Proper.{Readable}
use Rattle.claims.proofs.OperationsTheorem.{proper_child}

size-nth : (z : Tree Entry) (k : ℕ) (f : Members) → k < count f → nodes (value_of (nth z k f)) ≤ size f
unfolding count nth size nodes
size-nth z k none h = absurd (omega arith)
size-nth z zero (tree e kids rest) h = omega arith
size-nth z (suc k) (tree e kids rest) h = omega (arith, size-nth z k rest (omega arith))

part : (t : Text) (v : Value.Value) (k : ℕ) → child_at t v ≡ ok k → Readable v → Readable (value_of (child k v))
unfolding child nodes
part t v k e r =
    record {
      proper = proper_child t k v e r.proper;
      shallow = omega (arith, depth-child t v k e, r.shallow);
      few = omega (arith, size-nth (named [] (leaf Label.null_literal)) k v.kids (child_there t v k e), r.few);
    }

pub readable_part : (R : Tokens) (v c : Value.Value) → Readable v → walk R v ≡ ok c → Readable c
unfolding walk
readable_part [] v c r h = let same : v ≡ c = cc in subst Readable same r
readable_part (t ∷ R) v c r h = go (child_at t v) refl (λ u. readable_part R u c)
  where
    go : (o : Outcome ℕ) → child_at t v ≡ o → ((u : Value.Value) → Readable u → walk R u ≡ ok c → Readable c) → Readable c
    go (ok k) q ih = ih (value_of (child k v)) (part t v k q r) (farther_ok _ (sym (walk_on t R v k q) ∙ h))
    go (refused n p) q ih = absurd (refused≢ok (sym (walk_off t R v n p q) ∙ h))
