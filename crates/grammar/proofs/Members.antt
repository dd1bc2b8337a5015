-- Laws of members: joining them, counting them, and their names.
use Rattle.std.specs.Prelude.{if◌then◌else◌}
use Prim.Native.Nat.{ℕ, suc, ◌+◌, ◌<◌, ◌≤◌}
use mathlib.Core.Path.{◌≡◌, refl, ap, ap₂, sym, ◌∙◌}
use mathlib.Core.Bool.{Bool, true, false, true≢false, and-eq-true_iff}
use mathlib.Core.List.{[], ◌∷◌}
use native.Mathlib.Omega.{arith}
use lib.Dec.{eqb, ltb}
use borrow.Author.Tests.{eqb-true, eq-eqb, ltb-true, lt-ltb}
use Rattle.spec.specs.Bytes.{Text}
use Rattle.spec.specs.Forest.{none, tree, size, count, ◌⧺◌}
use Rattle.spec.specs.Value.{Entry, Members, depths, same_text, find, has}
use Rattle.grammar.proofs.Tests.{by_cases}
use Rattle.grammar.specs.Limits.{Named, here, later, DistinctNames, Everywhere}

pub ⧺_assoc : (f g h : Members) → (f ⧺ g) ⧺ h ≡ f ⧺ (g ⧺ h)
unfolding ◌⧺◌
⧺_assoc none g h = refl
⧺_assoc (tree e kids rest) g h = ap (λ f. tree e kids f) (⧺_assoc rest g h)

pub size_⧺ : (f g : Members) → size (f ⧺ g) ≡ size f + size g
unfolding ◌⧺◌ size
size_⧺ none g = omega arith
size_⧺ (tree e kids rest) g = omega (arith, size_⧺ rest g)

pub depths_⧺ : (f g : Members) (n : ℕ) → depths f ≤ n → depths g ≤ n → depths (f ⧺ g) ≤ n
unfolding depths ◌⧺◌
depths_⧺ none g n h i = i
depths_⧺ (tree e kids rest) g n h i = omega (arith, depths_⧺ rest g n (omega arith) i)

pub everywhere_⧺ : {f g : Members} → Everywhere f → Everywhere g → Everywhere (f ⧺ g)
unfolding ◌⧺◌
everywhere_⧺ Everywhere.none_left i = i
everywhere_⧺ (Everywhere.one_more fits below rest) i = Everywhere.one_more fits below (everywhere_⧺ rest i)

same_text_true : (s t : Text) → same_text s t ≡ true → s ≡ t
unfolding same_text
same_text_true [] [] h = refl
same_text_true [] (b ∷ t) h = absurd (true≢false (sym h))
same_text_true (a ∷ s) [] h = absurd (true≢false (sym h))
same_text_true (a ∷ s) (b ∷ t) h =
    let q = (and-eq-true_iff (eqb a b) (same_text s t)).0 h in
    ap₂ ◌∷◌ (eqb-true a b q.0) (same_text_true s t q.1)

pub has_named : (n : Text) (f : Members) → has n f ≡ true → Named n f
unfolding find count
has_named n none h = absurd (omega (arith, ltb-true 0 0 h))
has_named n (tree e kids rest) h = go (same_text e.name n) refl h (has_named n rest)
  where
    go : (c : Bool) → same_text e.name n ≡ c → ltb (if c then 0 else suc (find n rest)) (suc (count rest)) ≡ true →
        (has n rest ≡ true → Named n rest) → Named n (tree e kids rest)
    go true i h ih = here (same_text_true e.name n i)
    go false i h ih = later (ih (lt-ltb (find n rest) (count rest) (let l = ltb-true (suc (find n rest)) (suc (count rest)) h in omega arith)))

-- a name that stands among members, and again after them
module _ (e : Entry) (kids rest : Members) where
  named-after : (f : Members) → Named e.name (f ⧺ tree e kids rest)
  unfolding ◌⧺◌
  named-after none = here refl
  named-after (tree d below others) = later (named-after others)

  named-twice : {f : Members} → Named e.name f → DistinctNames (f ⧺ tree e kids rest) → ⊥
  unfolding ◌⧺◌
  named-twice (here {rest = others} i) (DistinctNames.one_more new d) = new (rw i (named-after others))
  named-twice (later m) (DistinctNames.one_more new d) = named-twice m d

  -- where names differ, the members before one do not have its name
  pub fresh_name : (f : Members) → DistinctNames (f ⧺ tree e kids rest) → has e.name f ≡ false
  fresh_name f d = by_cases (has e.name f) (λ h. absurd (named-twice (has_named e.name f h) d)) (λ h. h)

-- a member whose name is new
same_text_refl : (s : Text) → same_text s s ≡ true
unfolding same_text
same_text_refl [] = refl
same_text_refl (a ∷ s) = rw (eq-eqb a a refl, same_text_refl s)

has_test : (n : Text) (e : Entry) (rest : Members) → Bool → Bool
has_test n e rest c = ltb (if c then 0 else suc (find n rest)) (suc (count rest))

pub named-has : {n : Text} {f : Members} → Named n f → has n f ≡ true
unfolding find count has_test
named-has {n} (here {e = e} {rest = rest} h) =
    ap (has_test n e rest) (ap (same_text e.name) (sym h) ∙ same_text_refl e.name) ∙ lt-ltb 0 (suc (count rest)) (omega arith)
named-has {n} (later {e = e} {rest = rest} m) = go (same_text e.name n) (named-has m)
  where
    go : (c : Bool) → has n rest ≡ true → has_test n e rest c ≡ true
    go true ih = lt-ltb 0 (suc (count rest)) (omega arith)
    go false ih = lt-ltb (suc (find n rest)) (suc (count rest)) (let l = ltb-true (find n rest) (count rest) ih in omega arith)

named_counts : {n : Text} {f : Members} → Named n f → 0 < count f
unfolding count
named_counts (here h) = omega arith
named_counts (later m) = omega arith

pub no_one : {n : Text} → Named n none → ⊥
unfolding count
no_one m = let l = named_counts m in omega arith

named_last : {n : Text} (f : Members) (e : Entry) (kids : Members) → Named n (f ⧺ tree e kids none) → (Named n f → ⊥) → e.name ≡ n
unfolding ◌⧺◌
named_last none e kids (here h) new = h
named_last {n = n} none e kids (later m) new = elim m [ ]
named_last (tree d below rest) e kids (here h) new = absurd (new (here h))
named_last (tree d below rest) e kids (later m) new = named_last rest e kids m (λ i. new (later i))

pub distinct_add : (f : Members) (e : Entry) (kids : Members) → DistinctNames f → has e.name f ≡ false → DistinctNames (f ⧺ tree e kids none)
unfolding ◌⧺◌
distinct_add f e kids d h = go f d (λ m. true≢false (sym (named-has m) ∙ h))
  where
    go : (f : Members) → DistinctNames f → (Named e.name f → ⊥) → DistinctNames (f ⧺ tree e kids none)
    go none d new = DistinctNames.one_more no_one DistinctNames.none_left
    go (tree d below rest) (DistinctNames.one_more other r) new =
        DistinctNames.one_more (λ m. new (here (sym (named_last rest e kids m other)))) (go rest r (λ m. new (later m)))
