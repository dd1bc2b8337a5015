-- What `partner` answers, with the place of what it found.
use Rattle.std.specs.Prelude.{Option, Some, None, if◌then◌else◌}
use Rattle.std.proofs.Common.{◌≡◌, ℕ, suc, ◌+◌, Bool, true, false, sym, refl, ap, ◌∙◌, subst, arith}
use Rattle.spec.specs.Forest.{Forest, none, tree, Tree, count, from, nth, ◌⧺◌}
use Rattle.spec.specs.Value.{Members}
use Rattle.spec.proofs.MatchLaws.{partner}
use Rattle.spec.specs.Distinct.{NoRepeats, Distinct}
use Rattle.comparison.specs.Comparison.{lookups}
use Rattle.comparison.proofs.ItemLaws.{searched}
use Rattle.tape.specs.declared.fields.Cell.{Cell}
use Rattle.tape.specs.Lent.{Table}
use Rattle.tape.specs.Map.{map_forest}
use Rattle.tape.proofs.Forests.{from-nth}
use Rattle.tape.proofs.Cells.{blank}
use Rattle.tape.proofs.Map.{map-from, count_map}
use Rattle.table.specs.Meaning.{name_text, entry_of, members, meant}
use Rattle.table.specs.Find.{Found, found, missing}
use Rattle.equality.specs.Compare as Compare
use Rattle.equality.specs.Compare.{PartnerIs, element, in_step, sought, hinted}
use Rattle.equality.proofs.MatchLaws.{inside, partner_find, partner_there}
use Rattle.equality.proofs.SiblingLaws.{Siblings, siblings_from, Children, children_child, member-missing}
use Rattle.equality.proofs.PartnerLaws.{same_names, sought_name}
use Rattle.counting.specs.Places.{place_at, HavePlaces}
use Rattle.counting.specs.Values.{names_for}
use Rattle.counting.proofs.PlaceLaws.{siblings_place}
use Rattle.counting.proofs.ComparedLaws.{lookups-find, lookups_missing, lookups_there}

-- the trees that a partner is sought among: in an object all, and in an array those that are left
abbrev pub among : Table → Bool → Forest Cell → Forest Cell → Members
among w o all left = if o then members w.texts all else members w.texts left

-- ---- a turn: the first tree that is left of one, and what `partner` answers for it. Of the other, whose trees are `all` and have their places, some
-- are passed, and a tree is left too.
module _ {w : Table} {other row end next stop : ℕ} {all : Forest Cell} (second : Children w other stop all)
    {c : Cell} {ks rest : Forest Cell} (x : Siblings w row end (tree c ks rest))
    {d : Cell} {ds after : Forest Cell} (y : Siblings w next stop (tree d ds after)) where
  -- no member has the name: all names were compared
  pub unmatched : (o : Bool) (q : Option ℕ) → PartnerIs w other stop row next o q → q ≡ None
      → (partner o (name_text w.texts c.name) (among w o all (tree d ds after)) ≡ none)
      × (searched o (name_text w.texts c.name) (among w o all (tree d ds after)) ≡ count all)
  unfolding searched
  unmatched true q (sought (Compare.searched f)) e =
      let nowhere = subst (Found w.texts (other + 1) all (name_text w.texts c.name)) e (sought_name second x y f) in
      (member-missing second.siblings nowhere, looked nowhere)
    where
      looked : Found w.texts (other + 1) all (name_text w.texts c.name) None
          → lookups (name_text w.texts c.name) (members w.texts all) ≡ count all
      looked (missing f) =
          lookups_missing (name_text w.texts c.name) (members w.texts all) (f ∙ sym (count_map (entry_of w.texts) all))
          ∙ count_map (entry_of w.texts) all
  unmatched true q (sought (hinted k same)) e = absurd (let z : ◌≡◌ {A = ℕ} 0 1 = cc in omega arith)
  unmatched true q (in_step same) e = absurd (let z : ◌≡◌ {A = ℕ} 0 1 = cc in omega arith)
  unmatched false q element e = absurd (let z : ◌≡◌ {A = ℕ} 0 1 = cc in omega arith)

  module _ (placed : HavePlaces (place_at w.nodes) (other + 1) 1 all) (passed : ℕ) (here : from passed all ≡ tree d ds after) (pair : ℕ) where
    -- what was found: its tree, that it is the partner, and that its place is the number of names compared for it
    pub record Match (o : Bool) : Type 0 where
      pub k : ℕ
      pub p : Cell
      pub ps : Forest Cell
      pub behind : Forest Cell
      pub is : from k all ≡ tree p ps behind
      pub there : Siblings w pair stop (tree p ps behind)
      pub partner_is : partner o (name_text w.texts c.name) (among w o all (tree d ds after)) ≡ members w.texts (tree p ps behind)
      pub rest_is : (if o then among w o all (tree d ds after) else members w.texts behind) ≡ among w o all after
      pub apart : Distinct (meant w.texts p ps)
      pub below : HavePlaces (place_at w.nodes) (pair + 1) 1 ps
      pub names_are : searched o (name_text w.texts c.name) (among w o all (tree d ds after)) ≡ names_for o w.nodes pair

    still : (k : ℕ) {p : Cell} {ps behind : Forest Cell} → from k all ≡ tree p ps behind
        → from k (members w.texts all) ≡ members w.texts (tree p ps behind)
    still k is = sym (map-from (entry_of w.texts) k all) ∙ ap (members w.texts) is

    -- by a search
    by_search : NoRepeats true (members w.texts all) → Found w.texts (other + 1) all (name_text w.texts c.name) (Some pair) → Match true
    unfolding ◌⧺◌ map_forest searched names_for
    by_search distinct (found k row e few place) =
        let n = name_text w.texts c.name in
        let t : Tree Cell = blank in
        let cut : from k all ≡ tree (nth t k all).root (nth t k all).kids (from (suc k) all) = from-nth t k all few in
        let at : Siblings w pair stop (from k all) = subst (λ r. Siblings w r stop (from k all)) (sym place) (siblings_from k second.siblings) in
        let sib = subst (Siblings w pair stop) cut at in
        let looked = lookups-find n (members w.texts all) k e (omega (arith, count_map (entry_of w.texts) all)) in
        let (own, below) = siblings_place k placed second.siblings sib cut in
        record {
          k = k;
          p = (nth t k all).root;
          ps = (nth t k all).kids;
          behind = from (suc k) all;
          is = cut;
          there = sib;
          partner_is = partner_find n (members w.texts all) ∙ ap (λ m. from m (members w.texts all)) e ∙ still k cut;
          rest_is = refl;
          apart = inside k distinct (still k cut);
          below = below;
          names_are = omega (arith, looked, own);
        }

    -- wherever a member of the name stands: there is no other
    by_place : NoRepeats true (members w.texts all) → (k : ℕ) (p : Cell) (ps behind : Forest Cell) → from k all ≡ tree p ps behind
        → name_text w.texts c.name ≡ name_text w.texts p.name → Siblings w pair stop (tree p ps behind) → Match true
    unfolding map_forest searched names_for
    by_place distinct k p ps behind is same there =
        let looked = ap (λ n. lookups n (members w.texts all)) same ∙ lookups_there k distinct (still k is) in
        let (own, below) = siblings_place k placed second.siblings there is in
        record {
          k = k;
          p = p;
          ps = ps;
          behind = behind;
          is = is;
          there = there;
          partner_is = ap (λ n. partner true n (members w.texts all)) same ∙ partner_there k distinct (still k is);
          rest_is = refl;
          apart = inside k distinct (still k is);
          below = below;
          names_are = omega (arith, looked, own);
        }

    at_pair : {place : ℕ} {f : Forest Cell} → Some place ≡ Some pair → Siblings w place stop f → Siblings w pair stop f
    at_pair {place} {f} e s = let same : place ≡ pair = cc in subst (λ n. Siblings w n stop f) same s

    pub matched : (o : Bool) → NoRepeats o (members w.texts all) → (q : Option ℕ) → PartnerIs w other stop row next o q → q ≡ Some pair → Match o
    unfolding map_forest partner searched names_for
    matched true distinct q (sought (Compare.searched f)) e =
        by_search distinct (subst (Found w.texts (other + 1) all (name_text w.texts c.name)) e (sought_name second x y f))
    matched true distinct q (sought (hinted k same)) e =
        children_child second k λ n p ps behind is z.
        by_place distinct n p ps behind is (sym (same_names z x same)) (at_pair e z)
    matched true distinct q (in_step same) e = by_place distinct passed d ds after here (same_names x y same) (at_pair e y)
    matched false distinct q element e =
        record {
          k = passed;
          p = d;
          ps = ds;
          behind = after;
          is = here;
          there = at_pair e y;
          partner_is = refl;
          rest_is = refl;
          apart = inside passed distinct (still passed here);
          below = (siblings_place passed placed second.siblings (at_pair e y) here).1;
          names_are = refl;
        }
