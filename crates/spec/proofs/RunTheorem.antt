-- Bare runs in regions of their own: what the bare run of a shuffle of two lists of operations comes to, by what the two come to alone.
use mathlib.Core.Path.{◌≡◌, refl, ap, sym, ◌∙◌}
use mathlib.Core.Bool.{Bool, true, false, ◌&&◌, not, true≢false}
use mathlib.Core.List.{List, [], ◌∷◌, ◌++◌}
use mathlib.Core.Option.{none, some}
use Prim.Native.Nat.{ℕ, ◌+◌, ◌≤◌}
use native.Mathlib.Omega.{arith}
use borrow.Author.Tests.{eq-eqb, ne_eqb, not-true}
use Rattle.spec.specs.Outcome.{Outcome, ok, refused, ◌>>=◌}
use Rattle.spec.specs.Value as Value
use Rattle.spec.specs.Value.{depth, same_text}
use Rattle.spec.specs.Limits.{max_depth}
use Rattle.spec.specs.Pointer.{Tokens, walk}
use Rattle.spec.specs.Operation.{Operation}
use Rattle.spec.specs.Patch.{Stop, stop, Run, finished, stopped, at_op, on_finish, which_pointer, run}
use Rattle.spec.specs.Region.{Shuffle, done, left, right, is_prefix, apart, strictly_inside, all_inside, bare, bare_run, succeeds}
use Rattle.spec.specs.Region.{ends_at, here_or, turns, ends_alone, first_end}
use Rattle.spec.proofs.TextLaws.{both_true, same_text_refl, same_text_true, same_text_false}
use Rattle.spec.proofs.PlaceLaws.{Apart, here, there, plant, plant_plant, plant_walk, walk_plant, walk_plant_apart, plant_commute}
use Rattle.spec.proofs.OperationLaws.{Local, at_region_on, at_region_off, bare-inside, bare-depth}

-- b with what stands at R in a put there
unfoldable pub graft : Tokens → Value.Value → Value.Value → Value.Value
graft R a b = elim (walk R a) [ ok c ↦ plant R c b | refused number place ↦ b ]

-- How a document v of the shuffled run stands to the documents a and b of the two runs alone: it has at R what a has and at S what b has,
-- and is both b with a's region and a with b's region.
record Between (R S : Tokens) (v a b : Value.Value) : Type 0 where
  at_first : walk R v ≡ walk R a
  at_second : walk S v ≡ walk S b
  first_in_second : v ≡ graft R a b
  second_in_first : v ≡ graft S b a
  v_depth : depth v ≤ max_depth
  a_depth : depth a ≤ max_depth
  b_depth : depth b ≤ max_depth

swap : {R S : Tokens} {v a b : Value.Value} → Between R S v a b → Between S R v b a
swap h =
    record {
      at_first = h.at_second;
      at_second = h.at_first;
      first_in_second = h.second_in_first;
      second_in_first = h.first_in_second;
      v_depth = h.v_depth;
      a_depth = h.b_depth;
      b_depth = h.a_depth;
    }

graft_on : (R : Tokens) (a b c : Value.Value) → walk R a ≡ ok c → graft R a b ≡ plant R c b
unfolding graft
graft_on R a b c h = rw (h, graft)

graft_same : (R : Tokens) (d : Value.Value) → graft R d d ≡ d
unfolding graft
graft_same R d = go (walk R d) refl
  where
    go : (o : Outcome Value.Value) → walk R d ≡ o → elim o [ ok c ↦ plant R c d | refused number place ↦ d ] ≡ d
    go (ok c) q = plant_walk R d c q
    go (refused n p) q = refl

-- what is put at a region apart goes through a graft
graft_plant : {R S : Tokens} (w b a : Value.Value) → Apart R S → plant R w (graft S b a) ≡ graft S b (plant R w a)
unfolding graft
graft_plant {R} {S} w b a apart = go (walk S b)
  where
    go : (o : Outcome Value.Value)
        → plant R w (elim o [ ok c ↦ plant S c a | refused number place ↦ a ]) ≡ elim o [ ok c ↦ plant S c (plant R w a) | refused number place ↦ plant R w a ]
    go (ok c) = sym (plant_commute w c a apart)
    go (refused n p) = refl

-- both runs are at the same operation: both end there, or both go on
data Step (R S : Tokens) (o : Operation) (v a b : Value.Value) : Type 0 where
  ends : (n p : ℕ) → bare o v ≡ refused n p → bare o a ≡ refused n p → which_pointer o v n ≡ which_pointer o a n → Step R S o v a b
  goes : (w x : Value.Value) → bare o v ≡ ok w → bare o a ≡ ok x → Between R S w x b → Step R S o v a b

step : {R S : Tokens} {o : Operation} {v a b : Value.Value} → Apart R S → Local R o → Between R S v a b → Step R S o v a b
unfolding ◌>>=◌
step {R} {S} {o} {v} {a} {b} apart local h = go (walk R v) refl
  where
    change : Value.Value → Outcome Value.Value
    change = local.change

    does : (u c : Value.Value) (r : Outcome Value.Value) → depth u ≤ max_depth → walk R u ≡ ok c → change c ≡ r → bare o u ≡ r >>= λ w. ok (plant R w u)
    does u c r d q e = local.is u d ∙ at_region_on R change u c q ∙ rw e

    fails : (u : Value.Value) (n p : ℕ) → depth u ≤ max_depth → walk R u ≡ refused n p → bare o u ≡ refused n p
    fails u n p d q = local.is u d ∙ at_region_off R change u n p q

    changed : (c : Value.Value) → walk R v ≡ ok c → walk R a ≡ ok c → (r : Outcome Value.Value) → change c ≡ r → Step R S o v a b
    changed c q q' (ok w) r =
        let v-goes = does v c (ok w) h.v_depth q r in
        let a-goes = does a c (ok w) h.a_depth q' r in
        goes (plant R w v) (plant R w a) v-goes a-goes
        record {
          at_first = walk_plant R v c q w ∙ sym (walk_plant R a c q' w);
          at_second = walk_plant_apart w v apart ∙ h.at_second;
          first_in_second =
              ap (plant R w) (h.first_in_second ∙ graft_on R a b c q') ∙ plant_plant R c w b ∙ sym (graft_on R (plant R w a) b w (walk_plant R a c q' w));
          second_in_first = ap (plant R w) h.second_in_first ∙ graft_plant w b a apart;
          v_depth = bare-depth o v _ v-goes;
          a_depth = bare-depth o a _ a-goes;
          b_depth = h.b_depth;
        }
    changed c q q' (refused n p) r =
        ends n p (does v c (refused n p) h.v_depth q r) (does a c (refused n p) h.a_depth q' r) (local.pointer v a n h.at_first)

    go : (r : Outcome Value.Value) → walk R v ≡ r → Step R S o v a b
    go (ok c) q = changed c q (sym h.at_first ∙ q) (change c) refl
    go (refused n p) q = ends n p (fails v n p h.v_depth q) (fails a n p h.a_depth (sym h.at_first ∙ q)) (local.pointer v a n h.at_first)

pub stopped_same : {A : Type 0} {s t : Stop} → ◌≡◌ {A = Run A} (stopped s) (stopped t) → s ≡ t
stopped_same h = cc

pub finished≢stopped : {A : Type 0} {a : A} {s : Stop} → finished a ≡ stopped s → ⊥
finished≢stopped h = let z : ◌≡◌ {A = ℕ} 0 1 = cc in omega arith

-- a run that goes on, and one that ends at its first operation
module _ (op : ℕ) (o : Operation) (os : List Operation) (v : Value.Value) where
  run_goes : (w : Value.Value) → bare o v ≡ ok w → run bare op (o ∷ os) v ≡ run bare (op + 1) os w
  unfolding run at_op on_finish
  run_goes w h = rw h

  run_ends : (n p : ℕ) → bare o v ≡ refused n p → run bare op (o ∷ os) v ≡ stopped (stop n op p (which_pointer o v n))
  unfolding run at_op on_finish
  run_ends n p h = rw h

-- a run ends at none of the operations before it
ends_later : (op : ℕ) (os : List Operation) (v : Value.Value) (s : Stop) → run bare op os v ≡ stopped s → op ≤ s.op
unfolding run at_op on_finish
ends_later op [] v s h = absurd (finished≢stopped h)
ends_later op (o ∷ os) v s h = go (bare o v) refl (ends_later (op + 1) os)
  where
    go : (r : Outcome Value.Value) → bare o v ≡ r → ((w : Value.Value) (s : Stop) → run bare (op + 1) os w ≡ stopped s → op + 1 ≤ s.op) → op ≤ s.op
    go (ok w) q ih = omega (arith, ih w s (sym (run_goes op o os v w q) ∙ h))
    go (refused m p) q ih = let same : op ≡ s.op = ap Stop.op (stopped_same (sym (run_ends op o os v m p q) ∙ h)) in omega arith

not_yet : (i : ℕ) (os : List Operation) (v : Value.Value) → ends_at i (run bare (i + 1) os v) ≡ none
unfolding ends_at
not_yet i os v = go (run bare (i + 1) os v) refl
  where
    go : (r : Run Value.Value) → run bare (i + 1) os v ≡ r → ends_at i r ≡ none
    go (finished w) q = refl
    go (stopped s) q = rw (ne_eqb i s.op (λ e. omega (arith, ends_later (i + 1) os v s q)), ends_at)

ends_now : (i n p q : ℕ) → ends_at {A = Value.Value} i (stopped (stop n i p q)) ≡ some (stop n i p q)
unfolding ends_at
ends_now i n p q = rw (eq-eqb i i refl, ends_at)

-- what comes of the shuffled run from its operation op on, by what comes of the two runs alone from their operations i and j on
data Result (R : Tokens) {xs ys zs : List Operation} (s : Shuffle xs ys zs) (op i j : ℕ) (v a b : Value.Value) : Type 0 where
  ended : (e : Stop) → first_end (run bare i xs a) (run bare j ys b) op (turns s i j) ≡ some e → run bare op zs v ≡ stopped e → Result R s op i j v a b
  completed : (x y : Value.Value) → run bare i xs a ≡ finished x → run bare j ys b ≡ finished y → run bare op zs v ≡ finished (graft R x y) →
      Result R s op i j v a b

-- a result from the next operation on, carried back to this one
carry : {R : Tokens} {xs ys zs xs' ys' zs' : List Operation} {s : Shuffle xs ys zs} {s' : Shuffle xs' ys' zs'} {op i j op' i' j' : ℕ}
    {v a b v' a' b' : Value.Value} →
    run bare op zs v ≡ run bare op' zs' v' → run bare i xs a ≡ run bare i' xs' a' → run bare j ys b ≡ run bare j' ys' b' →
    first_end (run bare i xs a) (run bare j ys b) op (turns s i j) ≡ first_end (run bare i' xs' a') (run bare j' ys' b') op' (turns s' i' j') →
    Result R s' op' i' j' v' a' b' → Result R s op i j v a b
carry e f g c (ended s first stop) = ended s (c ∙ first) (e ∙ stop)
carry e f g c (completed x y p q r) = completed x y (f ∙ p) (g ∙ q) (e ∙ r)

module _ {R S : Tokens} (x : Operation) (xs ys zs : List Operation) (s : Shuffle xs ys zs) (op i j : ℕ) (v a b : Value.Value) where
  left_step : Step R S x v a b → ((w c : Value.Value) → Between R S w c b → Result R s (op + 1) (i + 1) j w c b) → Result R (left {x = x} s) op i j v a b
  unfolding first_end ends_alone here_or turns
  left_step (ends n p e f h) ih =
      ended (stop n op p (which_pointer x v n)) (rw (run_ends i x xs a n p f, ends_now i n p (which_pointer x a n), h)) (run_ends op x zs v n p e)
  left_step (goes w c e f k) ih =
      carry (run_goes op x zs v w e) (run_goes i x xs a c f) refl (rw (run_goes i x xs a c f, not_yet i xs c)
      (ap (λ r. first_end r (run bare j ys b) (op + 1) (turns s (i + 1) j)) (run_goes i x xs a c f))) (ih w c k)

  right_step : Step S R x v b a → ((w c : Value.Value) → Between R S w a c → Result R s (op + 1) i (j + 1) w a c) → Result R (right {y = x} s) op i j v a b
  unfolding first_end ends_alone here_or turns
  right_step (ends n p e f h) ih =
      ended (stop n op p (which_pointer x v n)) (rw (run_ends j x ys b n p f, ends_now j n p (which_pointer x b n), h)) (run_ends op x zs v n p e)
  right_step (goes w c e f k) ih =
      carry (run_goes op x zs v w e) refl (run_goes j x ys b c f) (rw (run_goes j x ys b c f, not_yet j ys c)
      (ap (λ r. first_end (run bare i xs a) r (op + 1) (turns s i (j + 1))) (run_goes j x ys b c f))) (ih w c (swap k))

shuffled : {R S : Tokens} {xs ys zs : List Operation} → Apart R S → Apart S R → all_inside R xs ≡ true → all_inside S ys ≡ true →
    (s : Shuffle xs ys zs) (op i j : ℕ) (v a b : Value.Value) → Between R S v a b → Result R s op i j v a b
unfolding run all_inside
shuffled {R} {S} p q hx hy done op i j v a b h = completed a b refl refl (ap finished h.first_in_second)
shuffled {R} {S} p q hx hy (left {x} {xs} {ys} {zs} s) op i j v a b h =
    let (here-inside, rest_inside) = both_true (strictly_inside R x) (all_inside R xs) hx in
    left_step x xs ys zs s op i j v a b (step p (bare-inside R x here-inside) h) (λ w c k. shuffled p q rest_inside hy s (op + 1) (i + 1) j w c b k)
shuffled {R} {S} p q hx hy (right {y} {xs} {ys} {zs} s) op i j v a b h =
    let (here-inside, rest_inside) = both_true (strictly_inside S y) (all_inside S ys) hy in
    right_step y xs ys zs s op i j v a b (step q (bare-inside S y here-inside) (swap h)) (λ w c k. shuffled p q hx rest_inside s (op + 1) i (j + 1) w a c k)

-- regions neither of which begins with the other part at some token
parts : (R S : Tokens) → is_prefix R S ≡ false → is_prefix S R ≡ false → Apart R S
unfolding is_prefix
parts [] S h i = absurd (true≢false h)
parts (r ∷ R) [] h i = absurd (true≢false i)
parts (r ∷ R) (t ∷ S) h i = go (same_text r t) refl h i (parts R S)
  where
    go : (b : Bool) → same_text r t ≡ b → (b && is_prefix R S) ≡ false
        → (same_text t r && is_prefix S R) ≡ false → (is_prefix R S ≡ false → is_prefix S R ≡ false → Apart R S) →
        Apart (r ∷ R) (t ∷ S)
    go true q h i ih =
        let same : r ≡ t = same_text_true r t q in
        let back : same_text t r ≡ true = rw same (same_text_refl t) in
        rw (← same) (there (ih h (rw back at i)))
    go false q h i ih = here (same_text_false r t q)

joined : (xs ys : List Operation) → Shuffle xs ys (xs ++ ys)
joined [] [] = done
joined [] (y ∷ ys) = right (joined [] ys)
joined (x ∷ xs) ys = left (joined xs ys)

mirrored : {xs ys zs : List Operation} → Shuffle xs ys zs → Shuffle ys xs zs
mirrored done = done
mirrored (left s) = right (mirrored s)
mirrored (right s) = left (mirrored s)

no_end : {xs ys zs : List Operation} (s : Shuffle xs ys zs) (op i j : ℕ) (x y : Value.Value) → first_end (finished x) (finished y) op (turns s i j) ≡ none
unfolding first_end ends_alone here_or ends_at turns
no_end done op i j x y = refl
no_end (left s) op i j x y = no_end s (op + 1) (i + 1) j x y
no_end (right s) op i j x y = no_end s (op + 1) i (j + 1) x y

-- a document that is not too deep, and operations in regions of their own
pub record Separate (d : Value.Value) (R S : Tokens) (xs ys : List Operation) : Type 0 where
  pub shallow : depth d ≤ max_depth
  pub regions : apart R S ≡ true
  pub first-inside : all_inside R xs ≡ true
  pub second-inside : all_inside S ys ≡ true

module _ {d : Value.Value} {R S : Tokens} {xs ys : List Operation} (h : Separate d R S xs ys) where
  result : {zs : List Operation} (s : Shuffle xs ys zs) → Result R s 1 1 1 d d d
  unfolding apart
  result s =
      let (one, other) = both_true (not (is_prefix R S)) (not (is_prefix S R)) h.regions in
      let p = not-true _ one in
      let q = not-true _ other in
      shuffled (parts R S p q) (parts S R q p) h.first-inside h.second-inside s 1 1 1 d d d
      record {
        at_first = refl;
        at_second = refl;
        first_in_second = sym (graft_same R d);
        second_in_first = sym (graft_same S d);
        v_depth = h.shallow;
        a_depth = h.shallow;
        b_depth = h.shallow;
      }

  shuffle_finishes : {zs : List Operation} (s : Shuffle xs ys zs) {x y : Value.Value} → bare_run xs d ≡ finished x → bare_run ys d ≡ finished y →
      bare_run zs d ≡ finished (graft R x y)
  shuffle_finishes {zs} s {x} {y} p q = go (result s)
    where
      go : Result R s 1 1 1 d d d → bare_run zs d ≡ finished (graft R x y)
      go (ended e first stop) = cc (first, p, q, no_end s 1 1 1 x y)
      go (completed x' y' p' q' r) = cc

  -- if both finish alone, so do the shuffle and the two joined in either order, with one document
  pub all_finish : {zs : List Operation} (s : Shuffle xs ys zs) {x y : Value.Value} → bare_run xs d ≡ finished x → bare_run ys d ≡ finished y →
      (w : Value.Value) × (bare_run zs d ≡ finished w) × (bare_run (xs ++ ys) d ≡ finished w) × (bare_run (ys ++ xs) d ≡ finished w)
  all_finish s {x} {y} p q =
      (graft R x y, shuffle_finishes s p q, shuffle_finishes (joined xs ys) p q, shuffle_finishes (mirrored (joined ys xs)) p q)

  -- otherwise the shuffle stops at the first operation at which its own list stops alone
  pub first_stops : {zs : List Operation} (s : Shuffle xs ys zs) → (succeeds (bare_run xs d) && succeeds (bare_run ys d)) ≡ false →
      (e : Stop) × (first_end (bare_run xs d) (bare_run ys d) 1 (turns s 1 1) ≡ some e) × (bare_run zs d ≡ stopped e)
  unfolding succeeds
  first_stops {zs} s not_both = go (result s)
    where
      go : Result R s 1 1 1 d d d → (e : Stop) × (first_end (bare_run xs d) (bare_run ys d) 1 (turns s 1 1) ≡ some e) × (bare_run zs d ≡ stopped e)
      go (ended e first stop) = (e, first, stop)
      go (completed x y p q r) = absurd (true≢false (rw (p, q) at not_both))
