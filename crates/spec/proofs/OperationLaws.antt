-- An operation strictly inside a region is a change of what stands at the region.
use Rattle.std.specs.Prelude.{if◌then◌else◌}
use mathlib.Core.Path.{◌≡◌, refl, ap, ap₂, sym, ◌∙◌, fun_ext}
use mathlib.Core.Bool.{Bool, true, false, ◌||◌, not, false≢true}
use mathlib.Core.List.{List, [], ◌∷◌, ◌++◌}
use Prim.Native.Nat.{ℕ, ◌+◌, ◌≤◌}
use native.Mathlib.Omega.{arith}
use lib.ListN.{length}
use lib.Dec.{leb}
use borrow.Author.Tests.{leb-true, leb-false}
use Rattle.spec.specs.Outcome.{Outcome, ok, refused, ◌>>=◌}
use Rattle.spec.specs.Bytes.{Text}
use Rattle.spec.specs.Value.{value_of, depth, same_text}
use Rattle.spec.specs.Equality.{equal}
use Rattle.spec.specs.Pointer.{Tokens, child_at, child, farther, walk}
use Rattle.spec.specs.Operation.{Kind, add, remove, replace, move, copy, test, Operation, put, at_parent, insert_child, remove_child, replace_child, add_at}
use Rattle.spec.specs.Operation.{remove_at_path, replace_at_path, move_to, copy_to, test_at, perform, not_too_deep}
use Rattle.spec.specs.Patch.{proper_prefix, uses_from, which_pointer}
use Rattle.spec.specs.Region.{bare, strictly_inside}
use Rattle.spec.specs.Value as Value
use Rattle.spec.proofs.OutcomeLaws.{refused≢ok, >>=_assoc, >>=_ok}
use Rattle.spec.proofs.FartherLaws.{farther_then, behind}
use Rattle.spec.proofs.TextLaws.{both_true, same_text_true}
use Rattle.spec.proofs.PlaceLaws.{plant, plant_plant, walk_plant, plant_walk, depth_plant, walk_on, walk_off, plant_on}

-- a change made to what stands at a region
unfoldable pub at_region : List Text → (Value.Value → Outcome Value.Value) → Value.Value → Outcome Value.Value
at_region R change v = walk R v >>= λ c. change c >>= λ w. ok (plant R w v)

at_region_root : (change : Value.Value → Outcome Value.Value) (v : Value.Value) → at_region [] change v ≡ change v
unfolding at_region ◌>>=◌ walk plant
at_region_root change v = >>=_ok (change v)

-- by the first token
at_region_step : (t : Text) (ts : List Text) (change : Value.Value → Outcome Value.Value) (v : Value.Value) →
    at_region (t ∷ ts) (λ c. farther (change c)) v ≡ child_at t v >>= λ k. farther (at_region ts change (value_of (child k v))) >>= λ w. ok (put k w v)
unfolding at_region farther ◌>>=◌
at_region_step t ts change v = go (child_at t v) refl
  where
    go : (o : Outcome ℕ) → child_at t v ≡ o →
        at_region (t ∷ ts) (λ c. farther (change c)) v ≡ o >>= λ k. farther (at_region ts change (value_of (child k v))) >>= λ w. ok (put k w v)
    go (ok k) q =
        let planted : (x : Value.Value) → plant (t ∷ ts) x v ≡ put k (plant ts x (value_of (child k v))) v = λ x. plant_on t ts v x k q in
        rw (walk_on t ts v k q) (simp (planted, farther_then, >>=_assoc))
    go (refused n p) q = rw (walk_off t ts v n p q)

-- by what stands there
module _ (R : List Text) (change : Value.Value → Outcome Value.Value) (v : Value.Value) where
  pub at_region_on : (c : Value.Value) → walk R v ≡ ok c → at_region R change v ≡ change c >>= λ w. ok (plant R w v)
  unfolding at_region ◌>>=◌
  at_region_on c h = rw h

  pub at_region_off : (n p : ℕ) → walk R v ≡ refused n p → at_region R change v ≡ refused n p
  unfolding at_region ◌>>=◌
  at_region_off n p h = rw h

-- two changes one after the other are one
at_region_twice : (R : List Text) (f g : Value.Value → Outcome Value.Value) (v : Value.Value) →
    at_region R f v >>= at_region R g ≡ at_region R (λ c. f c >>= g) v
unfolding ◌>>=◌
at_region_twice R f g v = go (walk R v) refl
  where
    go : (o : Outcome Value.Value) → walk R v ≡ o → at_region R f v >>= at_region R g ≡ at_region R (λ c. f c >>= g) v
    go (ok c) q =
        let again : (w : Value.Value) → at_region R g (plant R w v) ≡ g w >>= λ z. ok (plant R z v) =
        λ w. at_region_on R g (plant R w v) w (walk_plant R v c q w) ∙ simp (plant_plant R) in
        rw (at_region_on R f v c q, at_region_on R (λ c. f c >>= g) v c q) (simp (>>=_assoc, again))
    go (refused n p) q = rw (at_region_off R f v n p q, at_region_off R (λ c. f c >>= g) v n p q)

walk_inside : (R p : List Text) (v : Value.Value) → walk (R ++ p) v ≡ walk R v >>= λ c. behind R (walk p c)
unfolding walk behind ◌>>=◌
walk_inside [] p v = refl
walk_inside (t ∷ R) p v = simp (>>=_assoc, walk_inside R p, farther_then)

-- a change by what was read in the region
at_region_read : (R p : List Text) (change : Value.Value → Value.Value → Outcome Value.Value) (v : Value.Value) →
    (walk (R ++ p) v >>= λ x. at_region R (change x) v) ≡ at_region R (λ c. behind R (walk p c) >>= λ x. change x c) v
unfolding ◌>>=◌
at_region_read R p change v = go (walk R v) refl
  where
    go : (o : Outcome Value.Value) → walk R v ≡ o →
        (walk (R ++ p) v >>= λ x. at_region R (change x) v) ≡ at_region R (λ c. behind R (walk p c) >>= λ x. change x c) v
    go (ok c) q =
        let there : (x : Value.Value) → at_region R (change x) v ≡ change x c >>= λ z. ok (plant R z v) = λ x. at_region_on R (change x) v c q in
        rw (at_region_on R (λ c. behind R (walk p c) >>= λ x. change x c) v c q, walk_inside R p v, q) (simp (>>=_assoc, there))
    go (refused n m) q = rw (at_region_off R (λ c. behind R (walk p c) >>= λ x. change x c) v n m q, walk_inside R p v, q)

parent_inside : (change : Text → Value.Value → Outcome Value.Value) (r : Text) (R : List Text) (t : Text) (ts : List Text) (v : Value.Value) →
    at_parent change r (R ++ (t ∷ ts)) v ≡ at_region (r ∷ R) (λ c. behind (r ∷ R) (at_parent change t ts c)) v
unfolding at_parent behind
parent_inside change r [] t ts v = rw (at_region_step r [] (at_parent change t ts) v) (simp at_region_root)
parent_inside change r (s ∷ R) t ts v =
    rw (at_region_step r (s ∷ R) (λ c. behind (s ∷ R) (at_parent change t ts c)) v) (simp (parent_inside change s R t ts))

-- what changes a value at a parent, of whichever kind
change_inside : (change : Text → Value.Value → Outcome Value.Value) (at : List Text → Value.Value → Outcome Value.Value) →
    ((t : Text) (ts : List Text) (v : Value.Value) → at (t ∷ ts) v ≡ at_parent change t ts v) →
    (R : List Text) (t : Text) (ts : List Text) (v : Value.Value) → at (R ++ (t ∷ ts)) v ≡ at_region R (λ c. behind R (at (t ∷ ts) c)) v
unfolding behind
change_inside change at is [] t ts v = rw at_region_root
change_inside change at is (r ∷ R) t ts v =
    is r (R ++ (t ∷ ts)) v ∙ parent_inside change r R t ts v ∙
    ap (λ f. at_region (r ∷ R) (λ c. behind (r ∷ R) (f c)) v) (sym (fun_ext (is t ts)))

move_parts : (R : List Text) (u : Text) (us p : List Text) (v : Value.Value) →
    move_to (R ++ (u ∷ us)) p v ≡ walk (R ++ (u ∷ us)) v >>= λ x. remove_at_path (R ++ (u ∷ us)) v >>= add_at p x
unfolding move_to remove_at_path
move_parts [] u us p v = refl
move_parts (r ∷ R) u us p v = refl

module _ (R : List Text) (t : Text) (ts : List Text) where
  add_inside : (x v : Value.Value) → add_at (R ++ (t ∷ ts)) x v ≡ at_region R (λ c. behind R (add_at (t ∷ ts) x c)) v
  unfolding add_at
  add_inside x v = change_inside (insert_child x) (λ p. add_at p x) (λ t ts v. refl) R t ts v

  remove_inside : (v : Value.Value) → remove_at_path (R ++ (t ∷ ts)) v ≡ at_region R (λ c. behind R (remove_at_path (t ∷ ts) c)) v
  unfolding remove_at_path
  remove_inside v = change_inside remove_child remove_at_path (λ t ts v. refl) R t ts v

  replace_inside : (x v : Value.Value) → replace_at_path (R ++ (t ∷ ts)) x v ≡ at_region R (λ c. behind R (replace_at_path (t ∷ ts) x c)) v
  unfolding replace_at_path
  replace_inside x v = change_inside (replace_child x) (λ p. replace_at_path p x) (λ t ts v. refl) R t ts v

  copy_inside : (f : List Text) (v : Value.Value) →
      copy_to (R ++ f) (R ++ (t ∷ ts)) v ≡ at_region R (λ c. behind R (walk f c) >>= λ x. behind R (add_at (t ∷ ts) x c)) v
  unfolding copy_to
  copy_inside f v = simp add_inside (at_region_read R f (λ x c. behind R (add_at (t ∷ ts) x c)) v)

-- what is moved inside a region: removed there, then added
moved : List Text → Text → List Text → Tokens → Value.Value → Value.Value → Outcome Value.Value
moved R u us p x c = behind R (remove_at_path (u ∷ us) c) >>= λ left. behind R (add_at p x left)

move_inside : (R : List Text) (u : Text) (us : List Text) (t : Text) (ts : List Text) (v : Value.Value) →
    move_to (R ++ (u ∷ us)) (R ++ (t ∷ ts)) v ≡ at_region R (λ c. behind R (walk (u ∷ us) c) >>= λ x. moved R u us (t ∷ ts) x c) v
unfolding moved
move_inside R u us t ts v = move_parts R u us _ v ∙ simp steps (at_region_read R (u ∷ us) (moved R u us (t ∷ ts)) v)
  where
    steps : (x : Value.Value) → remove_at_path (R ++ (u ∷ us)) v >>= add_at (R ++ (t ∷ ts)) x ≡ at_region R (moved R u us (t ∷ ts) x) v
    steps x = ap₂ ◌>>=◌ (remove_inside R u us v) (fun_ext (add_inside R t ts x)) ∙ at_region_twice R _ _ v

-- what stands inside a region compared with a value
tested : List Text → List Text → Value.Value → Value.Value → Outcome Value.Value
tested R p x c = behind R (walk p c) >>= λ found. (if equal found x then ok c else refused 15 0)

test_inside : (R p : List Text) (x v : Value.Value) → test_at (R ++ p) x v ≡ at_region R (tested R p x) v
unfolding test_at tested ◌>>=◌
test_inside R p x v = go (walk R v) refl
  where
    go : (o : Outcome Value.Value) → walk R v ≡ o → test_at (R ++ p) x v ≡ at_region R (tested R p x) v
    go (ok c) q =
        rw (at_region_on R (tested R p x) v c q, walk_inside R p v, q)
        (ap (λ f. behind R (walk p c) >>= f) (fun_ext (λ found. kept (equal found x))) ∙ sym (>>=_assoc (behind R (walk p c)) _ _))
      where
        kept : (b : Bool) → (if b then ok v else refused 15 0) ≡ (if b then ok c else refused 15 0) >>= λ w. ok (plant R w v)
        kept true = ap ok (sym (plant_walk R v c q))
        kept false = refl
    go (refused n m) q = rw (at_region_off R (tested R p x) v n m q, walk_inside R p v, q)

-- a pointer strictly inside a region: the region's tokens, and at least one more
under : (R p : List Text) → proper_prefix R p ≡ true → (t : Text) × (ts : List Text) × (p ≡ R ++ (t ∷ ts))
unfolding proper_prefix
under [] [] h = absurd (false≢true h)
under [] (t ∷ ts) h = (t, ts, refl)
under (r ∷ R) [] h = absurd (false≢true h)
under (r ∷ R) (t ∷ p) h =
    let q = both_true (same_text r t) (proper_prefix R p) h in
    let (u, us, e) = under R p q.1 in
    (u, us, ap₂ ◌∷◌ (sym (same_text_true r t q.0)) e)

-- what an operation strictly inside a region makes of what stands there
perform-inside : (R : List Text) (o : Operation) → strictly_inside R o ≡ true →
    (change : Value.Value → Outcome Value.Value) × ((v : Value.Value) → perform o v ≡ at_region R change v)
unfolding strictly_inside perform uses_from
perform-inside R o h = go o.kind o.path o.from o.value (both_true _ _ h)
  where
    Inside : Operation → Type 0
    Inside o = (change : Value.Value → Outcome Value.Value) × ((v : Value.Value) → perform o v ≡ at_region R change v)

    go : (kind : Kind) (path from : List Text) (x : Value.Value) →
        (proper_prefix R path ≡ true) × ((not (uses_from kind) || proper_prefix R from) ≡ true) →
        Inside (record { kind = kind; path = path; from = from; value = x })
    go add path from x h = let (t, ts, e) = under R path h.0 in ((λ c. behind R (add_at (t ∷ ts) x c)), λ v. ap (λ p. add_at p x v) e ∙ add_inside R t ts x v)
    go remove path from x h = let (t, ts, e) = under R path h.0 in
        ((λ c. behind R (remove_at_path (t ∷ ts) c)), λ v. ap (λ p. remove_at_path p v) e ∙ remove_inside R t ts v)
    go replace path from x h = let (t, ts, e) = under R path h.0 in
        ((λ c. behind R (replace_at_path (t ∷ ts) x c)), λ v. ap (λ p. replace_at_path p x v) e ∙ replace_inside R t ts x v)
    go move path from x h =
        let (t, ts, e) = under R path h.0 in
        let (u, us, f) = under R from h.1 in
        ((λ c. behind R (walk (u ∷ us) c) >>= λ x. moved R u us (t ∷ ts) x c), λ v. ap₂ (λ f p. move_to f p v) f e ∙ move_inside R u us t ts v)
    go copy path from x h =
        let (t, ts, e) = under R path h.0 in
        let (u, us, f) = under R from h.1 in
        ((λ c. behind R (walk (u ∷ us) c) >>= λ x. behind R (add_at (t ∷ ts) x c)), λ v. ap₂ (λ f p. copy_to f p v) f e ∙ copy_inside R t ts (u ∷ us) v)
    go test path from x h = let (t, ts, e) = under R path h.0 in (tested R (t ∷ ts) x, λ v. ap (λ p. test_at p x v) e ∙ test_inside R (t ∷ ts) x v)

leb_same : (a b n : ℕ) → (a ≤ n → b ≤ n) → (b ≤ n → a ≤ n) → leb a n ≡ leb b n
leb_same a b n f g = go (leb a n) (leb b n) refl refl
  where
    go : (p q : Bool) → leb a n ≡ p → leb b n ≡ q → p ≡ q
    go true true h i = refl
    go true false h i = absurd (omega (arith, f (leb-true a n h), leb-false b n i))
    go false true h i = absurd (omega (arith, leb-false a n h, g (leb-true b n i)))
    go false false h i = refl

-- 5 where what stands that many tokens down is too deep
unfoldable pub not_too_deep_at : ℕ → Value.Value → Outcome Value.Value
not_too_deep_at n w = (if (leb (n + depth w) 32) then ok w else refused 5 0)

-- in a document that is not too deep, only what is put at the region can be
deep-inside : (R : List Text) (change : Value.Value → Outcome Value.Value) (v : Value.Value) → depth v ≤ 32 →
    at_region R change v >>= not_too_deep ≡ at_region R (λ c. change c >>= not_too_deep_at (length R)) v
unfolding ◌>>=◌ not_too_deep not_too_deep_at
deep-inside R change v d = go (walk R v) refl
  where
    go : (o : Outcome Value.Value) → walk R v ≡ o → at_region R change v >>= not_too_deep ≡ at_region R (λ c. change c >>= not_too_deep_at (length R)) v
    go (ok c) q =
        rw (at_region_on R change v c q, at_region_on R (λ c. change c >>= not_too_deep_at (length R)) v c q)
        (>>=_assoc (change c) _ _ ∙ ap (λ f. change c >>= f) (fun_ext same) ∙ sym (>>=_assoc (change c) _ _))
      where
        kept : (w : Value.Value) (b : Bool) →
            (if b then ok (plant R w v) else refused 5 0) ≡ (if b then ok w else refused 5 0) >>= λ z. ok (plant R z v)
        kept w true = refl
        kept w false = refl

        same : (w : Value.Value) → not_too_deep (plant R w v) ≡ not_too_deep_at (length R) w >>= λ z. ok (plant R z v)
        same w =
            let bounds = depth_plant R v c q w in
            ap (λ b. (if b then ok (plant R w v) else refused 5 0))
            (leb_same (depth (plant R w v)) (length R + depth w) 32 (λ h. omega arith) (λ h. omega arith))
            ∙ kept w (leb (length R + depth w) 32)
    go (refused n p) q = rw (at_region_off R change v n p q, at_region_off R (λ c. change c >>= not_too_deep_at (length R)) v n p q)

-- what an operation does in a document that is not too deep, as a change of what stands at a region
pub record Local (R : List Text) (o : Operation) : Type 0 where
  pub change : Value.Value → Outcome Value.Value
  pub is : (v : Value.Value) → depth v ≤ 32 → bare o v ≡ at_region R change v
  -- what stands there also tells which pointer fails
  pub pointer : (v w : Value.Value) (n : ℕ) → walk R v ≡ walk R w → which_pointer o v n ≡ which_pointer o w n

which_inside : (R : List Text) (o : Operation) → strictly_inside R o ≡ true → (v w : Value.Value) (n : ℕ) → walk R v ≡ walk R w →
    which_pointer o v n ≡ which_pointer o w n
unfolding strictly_inside which_pointer
which_inside R o h v w n same =
    go (uses_from o.kind) refl (both_true (proper_prefix R o.path) (not (uses_from o.kind) || proper_prefix R o.from) h).1
  where
    go : (b : Bool) → uses_from o.kind ≡ b → (not b || proper_prefix R o.from) ≡ true → which_pointer o v n ≡ which_pointer o w n
    go false q inside = rw q
    go true q inside = let (u, us, e) = under R o.from inside in rw (q, e, walk_inside R (u ∷ us) v, walk_inside R (u ∷ us) w, same)

pub bare-inside : (R : List Text) (o : Operation) → strictly_inside R o ≡ true → Local R o
unfolding bare
bare-inside R o h =
    let (change, is) = perform-inside R o h in
    record {
      change = λ c. change c >>= not_too_deep_at (length R);
      is = λ v d. rw (is v) (deep-inside R change v d);
      pointer = which_inside R o h;
    }

-- what an operation leaves is not too deep
pub bare-depth : (o : Operation) (v w : Value.Value) → bare o v ≡ ok w → depth w ≤ 32
unfolding bare not_too_deep ◌>>=◌
bare-depth o v w h = go (perform o v) h
  where
    checked : (x : Value.Value) (b : Bool) → leb (depth x) 32 ≡ b → (if b then ok x else refused 5 0) ≡ ok w → depth w ≤ 32
    checked x true q h = let same : x ≡ w = cc in rw (← same) (leb-true (depth x) 32 q)
    checked x false q h = absurd (refused≢ok h)

    go : (r : Outcome Value.Value) → r >>= not_too_deep ≡ ok w → depth w ≤ 32
    go (ok x) h = checked x (leb (depth x) 32) refl h
    go (refused n p) h = absurd (refused≢ok h)
