-- `matches` one step at a time, and that on values without repeated names it is the relation `Alike`.
use mathlib.Core.Path.{◌≡◌, refl, ap, sym, ◌∙◌}
use mathlib.Core.Bool.{Bool, true, false, ◌&&◌, true≢false}
use Prim.Native.Nat.{suc}
use native.Mathlib.Omega.{arith}
use lib.Dec.{eqb}
use borrow.Author.Tests.{eqb-true, eq-eqb}
use Rattle.spec.specs.Bytes.{Text}
use Rattle.spec.specs.Forest.{none, tree, count}
use Rattle.spec.specs.Value.{Label, Entry, Members, is_object, has}
use Rattle.spec.specs.Equality.{same_label}
use Rattle.spec.proofs.MatchLaws.{partner, matches}
use Rattle.spec.proofs.TextLaws.{both_true}
use Rattle.spec.specs.Distinct as Repeats
use Rattle.spec.specs.Distinct.{NoRepeats}
use Rattle.claims.proofs.LabelLaws.{SameLabels, same_label_true, true_same_label, is_object_same}
use Rattle.claims.proofs.Alike.{Inserted, Alike, nothing, element, member}
use Rattle.spec.proofs.NameLaws.{Found, absent_parts, partner_found, found, found_name}
use Rattle.claims.proofs.Found.{found_out, found_in, inserted_found, inserted_repeats}
use Rattle.claims.proofs.Found.{absent_inserted, repeats_inserted, take_out, count_inserted}

-- `matches`, one step at a time
pub data Matches : Bool → Members → Members → Type 0 where
  no_more : {object : Bool} {g : Members} → Matches object none g
  next : {e p : Entry} {kids below f g : Members} → SameLabels e.label p.label → count kids ≡ count below →
      Matches (is_object e.label) kids below → Matches false f g → Matches false (tree e kids f) (tree p below g)
  by_name : {e p : Entry} {kids below f g : Members} → Found e.name p below g → SameLabels e.label p.label →
      count kids ≡ count below → Matches (is_object e.label) kids below → Matches true f g → Matches true (tree e kids f) g

-- the tests of a value and its partner, and what comes of those after it
abbrev step : Label → Members → Label → Members → Bool → Bool
step l kids m below others = same_label l m && (eqb (count kids) (count below) && (matches (is_object l) kids below && others))

record Steps (l : Label) (kids : Members) (m : Label) (below : Members) (others : Bool) : Type 0 where
  labels : SameLabels l m
  counts : count kids ≡ count below
  inside : matches (is_object l) kids below ≡ true
  after : others ≡ true

steps : (l : Label) (kids : Members) (m : Label) (below : Members) (others : Bool) → step l kids m below others ≡ true → Steps l kids m below others
steps l kids m below others h =
    let q = both_true (same_label l m) _ h in
    let r = both_true (eqb (count kids) (count below)) _ q.1 in
    let s = both_true (matches (is_object l) kids below) _ r.1 in
    record { labels = same_label_true _ _ q.0; counts = eqb-true _ _ r.0; inside = s.0; after = s.1 }

true_steps : {l : Label} {kids : Members} {m : Label} {below : Members} {others : Bool} → Steps l kids m below others → step l kids m below others ≡ true
true_steps s = rw (true_same_label _ _ s.labels, eq-eqb _ _ s.counts, s.inside) s.after

pub matches_true : (object : Bool) (f g : Members) → matches object f g ≡ true → Matches object f g
unfolding matches partner
matches_true object none g h = no_more
matches_true false (tree e kids f) none h = absurd (true≢false (sym h))
matches_true false (tree e kids f) (tree p below g) h =
    let s = steps e.label kids p.label below (matches false f g) h in
    next s.labels s.counts (matches_true (is_object e.label) kids below s.inside) (matches_true false f g s.after)
matches_true true (tree e kids f) g h = go (partner true e.name g) refl h (matches_true (is_object e.label) kids) (matches_true true f g)
  where
    go : (m : Members) → partner true e.name g ≡ m →
        (elim m [ none ↦ false | tree p below after ↦ step e.label kids p.label below (matches true f g) ]) ≡ true →
        ((below : Members) → matches (is_object e.label) kids below ≡ true → Matches (is_object e.label) kids below) →
        (matches true f g ≡ true → Matches true f g) → Matches true (tree e kids f) g
    go none q h inside others = absurd (true≢false (sym h))
    go (tree p below after) q h inside others =
        let s = steps e.label kids p.label below (matches true f g) h in
        by_name (found _ g p below after q) s.labels s.counts (inside below s.inside) (others s.after)

pub true_matches : {object : Bool} {f g : Members} → Matches object f g → matches object f g ≡ true
unfolding matches partner
true_matches no_more = refl
true_matches (next s c i o) = true_steps (record { labels = s; counts = c; inside = true_matches i; after = true_matches o })
true_matches (by_name {e} {p} {kids} {below} {f} {g} n s c i o) =
    let x = partner_found n in
    ap (λ m. elim m [ none ↦ false | tree p below after ↦ step e.label kids p.label below (matches true f g) ]) x.1 ∙
    true_steps (record { labels = s; counts = c; inside = true_matches i; after = true_matches o })

-- where no name is repeated, to match is to be alike
pub without : {e : Entry} {kids f g g' : Members} → has e.name f ≡ false → Inserted e kids g' g → Matches true f g → Matches true f g'
without a i no_more = no_more
without a i (by_name n s c k o) =
    let p = absent_parts _ _ _ _ a in
    by_name (found_out (λ q. p.0 (sym q)) i n) s c k (without p.1 i o)

pub with_another : {e : Entry} {kids f g g' : Members} → Inserted e kids g g' → NoRepeats true g' → Matches true f g → Matches true f g'
with_another i r no_more = no_more
with_another i r (by_name n s c k o) = by_name (found_in i r n) s c k (with_another i r o)

pub none_left : (g : Members) → 0 ≡ count g → g ≡ none
unfolding count
none_left none h = refl
none_left (tree e kids rest) h = absurd (omega arith)

pub matches_alike : {object : Bool} {f g : Members} → NoRepeats object f → Matches object f g → count f ≡ count g → Alike object f g
unfolding count
matches_alike Repeats.empty (no_more {g = g}) c = rw (none_left g c) nothing
matches_alike (Repeats.element inside others) (next s k i o) c = element s (matches_alike inside i k) (matches_alike others o (omega arith))
matches_alike (Repeats.member absent inside others) (by_name {f = f} {g} n s k i o) c =
    let t = take_out n in
    let apart = rw (← found_name n) at absent in
    let one_less : count f ≡ count t.rest = omega (arith, t.one_less) in
    member (sym (found_name n)) s (matches_alike inside i k) t.place (matches_alike others (without apart t.place o) one_less)

pub alike_count : {object : Bool} {f g : Members} → Alike object f g → count f ≡ count g
unfolding count
alike_count nothing = refl
alike_count (element s k a) = ap suc (alike_count a)
alike_count (member n s k i a) = ap suc (alike_count a) ∙ sym (count_inserted i)

pub alike_matches : {object : Bool} {f g : Members} → Alike object f g → NoRepeats object g → Matches object f g
alike_matches nothing r = no_more
alike_matches (element s k a) (Repeats.element inside others) =
    next s (alike_count k) (alike_matches k (rw (← is_object_same s) at inside)) (alike_matches a others)
alike_matches (member n s k i a) r =
    let q = inserted_repeats i r in
    by_name (rw (← n) at (inserted_found i r)) s (alike_count k) (alike_matches k (rw (← is_object_same s) at q.1))
    (with_another i r (alike_matches a q.0))

-- Of alike values, both repeat a name or neither does.
alike_absent : (n : Text) {f g : Members} → Alike true f g → has n f ≡ false → has n g ≡ false
alike_absent n nothing h = h
alike_absent n (member q s k i a) h =
    let p = absent_parts n _ _ _ h in
    absent_inserted n i (λ e. p.0 (q ∙ e)) (alike_absent n a p.1)

pub alike_repeats : {object : Bool} {f g : Members} → Alike object f g → NoRepeats object f → NoRepeats object g
alike_repeats nothing r = r
alike_repeats (element s k a) (Repeats.element inside others) =
    Repeats.element (rw (is_object_same s) at (alike_repeats k inside)) (alike_repeats a others)
alike_repeats (member n s k i a) (Repeats.member absent inside others) =
    repeats_inserted i (alike_absent _ a (rw n at absent)) (rw (is_object_same s) at (alike_repeats k inside)) (alike_repeats a others)
