-- What `partner` answers, and what the answer means for two containers that have a tree left each.
use Rattle.std.specs.Prelude.{Option, Some, None}
use Prim.Native.Nat.{ℕ, ◌+◌, ◌-◌, ◌≤◌, ◌<◌}
use native.Mathlib.Omega.{arith}
use mathlib.Core.Path.{◌≡◌, refl, sym, ap, ◌∙◌, subst}
use mathlib.Core.Bool.{Bool, true, false, ◌&&◌, not}
use mathlib.Core.List.{List, []}
use lib.ListN.{length, get_or, get_or-map}
use borrow.Author.Tests.{not-true, not-false}
use Rattle.spec.specs.Forest.{Forest, tree, from}
use Rattle.spec.specs.Value.{depth, find}
use Rattle.spec.proofs.MatchLaws.{partner}
use Rattle.spec.proofs.TextLaws.{same_text_true}
use Rattle.spec.specs.Distinct.{NoRepeats}
use Rattle.tape.specs.Fields.{Row, no_node, name_of}
use Rattle.tape.specs.declared.fields.Name.{Name}
use Rattle.tape.specs.declared.fields.Cell.{Cell}
use Rattle.tape.specs.Map.{map_forest}
use Rattle.tape.proofs.Map.{map-from}
use Rattle.table.specs.Meaning.{name_text, entry_of, members, meant}
use Rattle.table.specs.Sound.{NodeHeld}
use Rattle.table.specs.Find.{same_name, sought_over, FindIs, Found}
use Rattle.table.proofs.Search.{named_hashed, finds}
use Rattle.index.specs.Members.{Child, LookupIs, noted, not_found}
use Rattle.equality.specs.Compare.{Hints, SoughtIs, searched, hinted, PartnerIs, element, in_step, sought, EqualIs}
use Rattle.equality.proofs.MatchLaws.{agree, partner_find, inside, partner_there, agree_element, agree-member, agree_alone}
use Rattle.equality.proofs.SiblingLaws.{Siblings, siblings-value, siblings_name, siblings_hashed, siblings_asked}
use Rattle.equality.proofs.SiblingLaws.{Children, children_child, member-found, member-missing}
use Rattle.tape.specs.Lent.{Texts, Table}

-- the name in a row, whichever row stands for those behind the table
pub name_loaded : (nodes : List Row) (row : ℕ) → name_of (get_or nodes row no_node) ≡ name_of (get_or nodes row [])
name_loaded nodes row = sym (get_or-map name_of nodes row no_node) ∙ get_or-map name_of nodes row []

-- ---- each way out of `sought`
pub sought_outside : {w : Table} {other end : ℕ} {name : Name} → length w.nodes ≤ other → SoughtIs w other end name None
sought_outside h = searched (finds _ refl (sought_over (omega arith)))

module _ {w : Table} {index : List ℕ} {top other end : ℕ} {name : Name} where
  pub sought_hinted : Hints w.nodes index top → 0 < top → {r : Option ℕ} (pair : ℕ) → LookupIs w index top other name r → r ≡ Some pair
      → SoughtIs w other end name (Some pair)
  sought_hinted hints h pair (noted x row place few low told) e =
      let to : row ≡ pair = cc in
      let parent : top + (other - top) ≡ other = omega arith in
      let child : Child w.nodes other row = subst (Child w.nodes other) (sym place)
      (subst (λ o. Child w.nodes o (top + x)) parent ((hints.right h).child x (other - top) few told.parent)) in
      subst (λ p. SoughtIs w other end name (Some p)) to (hinted child (ap (λ n. same_name w.texts n name)
      (ap (λ r. name_of (get_or w.nodes r [])) place ∙ sym (name_loaded w.nodes (top + x))) ∙ told.named))
  sought_hinted hints h pair not_found e = absurd (let z : ◌≡◌ {A = ℕ} 0 1 = cc in omega arith)

  -- what the index has, or what a search finds where it has none
  pub sought_either : Hints w.nodes index top → 0 < top → {q : Option ℕ} → LookupIs w index top other name q → {r : Option ℕ}
      → (q ≡ None → FindIs w (other + 1) end name r) → ((pair : ℕ) → q ≡ Some pair → r ≡ Some pair) → SoughtIs w other end name r
  sought_either hints h (noted x row place few low told) without with =
      subst (SoughtIs w other end name) (sym (with row refl)) (sought_hinted hints h row (noted x row place few low told) refl)
  sought_either hints h not_found without with = searched (without refl)

-- ---- each way out of `partner`
module _ {w : Table} {other end row next : ℕ} {object : Bool} where
  pub partner_element : not object ≡ true → PartnerIs w other end row next object (Some next)
  partner_element e = subst (λ o. PartnerIs w other end row next o (Some next)) (sym (not-true object e)) element

  module _ (e : not object ≡ false) {name : Name} (is : name ≡ name_of (get_or w.nodes row [])) where
    pub partner_in_step : {beside : Name} {same : Bool} → beside ≡ name_of (get_or w.nodes next []) → same ≡ same_name w.texts name beside → same ≡ true
        → PartnerIs w other end row next object (Some next)
    partner_in_step are compared alike =
        subst (λ o. PartnerIs w other end row next o (Some next)) (sym (not-false object e)) (in_step (rw (is, are, alike) at (sym compared)))

    pub partner_sought : {r : Option ℕ} → SoughtIs w other end name r → PartnerIs w other end row next object r
    partner_sought {r} s =
        subst (λ o. PartnerIs w other end row next o r) (sym (not-false object e))
        (sought (subst (λ n. SoughtIs w other end n r) is s))

-- whether what is left of two containers agrees, as their cells mean it
abbrev pub agreeing : Texts → Bool → Forest Cell → Forest Cell → Forest Cell → Bool
agreeing T object all f g = agree object (members T all) (members T f) (members T g)

-- two trees whose names are the same
pub same_names : {w : Table} {row end next stop : ℕ} {c : Cell} {ks rest : Forest Cell} {d : Cell} {ds after : Forest Cell}
    → Siblings w row end (tree c ks rest) → Siblings w next stop (tree d ds after) → same_name w.texts (name_of (get_or w.nodes row []))
    (name_of (get_or w.nodes next [])) ≡ true
    → name_text w.texts c.name ≡ name_text w.texts d.name
same_names {w} x y same =
    sym (ap (name_text w.texts) (siblings_name x))
    ∙ same_text_true _ _ (sym (named_hashed w.texts _ _ _ (siblings_hashed x) (siblings_hashed y).is) ∙ same)
    ∙ ap (name_text w.texts) (siblings_name y)

-- ---- a turn: the first tree that is left of one, and what `partner` answers for it. Of the other, whose trees are `all`, some are passed, and a tree
-- is left too.
module _ {w : Table} {other row end next stop : ℕ} {all : Forest Cell} (second : Children w other stop all)
    {c : Cell} {ks rest : Forest Cell} (x : Siblings w row end (tree c ks rest))
    {d : Cell} {ds after : Forest Cell} (y : Siblings w next stop (tree d ds after)) where
  pub sought_name : {q : Option ℕ} → FindIs w (other + 1) stop (name_of (get_or w.nodes row [])) q → Found w.texts (other + 1) all
      (name_text w.texts c.name) q
  sought_name {q} f =
      subst (λ n. Found w.texts (other + 1) all (name_text w.texts n) q) (siblings_name x)
      (f.held all (siblings_asked second.siblings) (siblings_hashed x))

  pub alone : (o : Bool) (q : Option ℕ) → PartnerIs w other stop row next o q → q ≡ None
      → agreeing w.texts o all (tree c ks rest) (tree d ds after) ≡ false
  unfolding map_forest
  alone true q (sought (searched f)) e =
      let no-partner = member-missing second.siblings (subst (Found w.texts (other + 1) all (name_text w.texts c.name)) e (sought_name f)) in
      agree_alone (members w.texts all) (entry_of w.texts c) (members w.texts ks) (members w.texts rest) (entry_of w.texts d)
      (members w.texts ds) (members w.texts after) no-partner
  alone true q (sought (hinted k same)) e = absurd (let z : ◌≡◌ {A = ℕ} 0 1 = cc in omega arith)
  alone true q (in_step same) e = absurd (let z : ◌≡◌ {A = ℕ} 0 1 = cc in omega arith)
  alone false q element e = absurd (let z : ◌≡◌ {A = ℕ} 0 1 = cc in omega arith)

  module _ (levels : ℕ) (low : depth (meant w.texts c ks) ≤ levels) (pair : ℕ) (r : Bool) (compared : EqualIs w row pair levels r)
      (passed : ℕ) (here : from passed all ≡ tree d ds after) where
    still : (k : ℕ) {p : Cell} {ps behind : Forest Cell} → from k all ≡ tree p ps behind → from k (members w.texts all) ≡ members w.texts
        (tree p ps behind)
    still k is = sym (map-from (entry_of w.texts) k all) ∙ ap (members w.texts) is

    -- a member against the one of its name
    by_name : NoRepeats true (members w.texts all) → (p : Cell) (ps behind : Forest Cell)
        → partner true (name_text w.texts c.name) (members w.texts all) ≡ members w.texts (tree p ps behind) → NodeHeld w pair p ps
        → agreeing w.texts true all (tree c ks rest) (tree d ds after) ≡ r && agreeing w.texts true all rest after
    unfolding map_forest
    by_name distinct p ps behind is there =
        let apart = inside (find (name_text w.texts c.name) (members w.texts all)) distinct
        (sym (partner_find (name_text w.texts c.name) (members w.texts all)) ∙ is) in
        agree-member (members w.texts all) (entry_of w.texts c) (members w.texts ks) (members w.texts rest) (entry_of w.texts d)
        (members w.texts ds) (members w.texts after)
        (entry_of w.texts p) (members w.texts ps) (members w.texts behind) is
        ∙ ap (λ b. b && agreeing w.texts true all rest after) (sym (compared c ks p ps (siblings-value x) there low apart))

    -- wherever that one stands: there is no other
    at_place : NoRepeats true (members w.texts all) → (k : ℕ) (p : Cell) (ps behind : Forest Cell) → from k all ≡ tree p ps behind
        → name_text w.texts c.name ≡ name_text w.texts p.name → NodeHeld w pair p ps
        → agreeing w.texts true all (tree c ks rest) (tree d ds after) ≡ r && agreeing w.texts true all rest after
    unfolding map_forest
    at_place distinct k p ps behind is same there =
        by_name distinct p ps behind (ap (λ n. partner true n (members w.texts all)) same ∙ partner_there k distinct (still k is)) there

    at_pair : {place : ℕ} {p : Cell} {ps : Forest Cell} → Some place ≡ Some pair → NodeHeld w place p ps → NodeHeld w pair p ps
    at_pair {place} {p} {ps} e there = let same : place ≡ pair = cc in subst (λ n. NodeHeld w n p ps) same there

    pub paired : (o : Bool) → NoRepeats o (members w.texts all) → (q : Option ℕ) → PartnerIs w other stop row next o q → q ≡ Some pair
        → agreeing w.texts o all (tree c ks rest) (tree d ds after) ≡ r && agreeing w.texts o all rest after
    unfolding map_forest
    paired true distinct q (sought (searched f)) e =
        member-found second.siblings (subst (Found w.texts (other + 1) all (name_text w.texts c.name)) e (sought_name f)) (by_name distinct)
    paired true distinct q (sought (hinted k same)) e =
        children_child second k λ n p ps behind is z.
        at_place distinct n p ps behind is (sym (same_names z x same)) (at_pair e (siblings-value z))
    paired true distinct q (in_step same) e = at_place distinct passed d ds after here (same_names x y same) (at_pair e (siblings-value y))
    paired false distinct q element e =
        agree_element (members w.texts all) (entry_of w.texts c) (members w.texts ks) (members w.texts rest) (entry_of w.texts d)
        (members w.texts ds) (members w.texts after)
        ∙ ap (λ b. b && agreeing w.texts false all rest after)
        (sym (compared c ks d ds (siblings-value x) (at_pair e (siblings-value y)) low (inside passed distinct (still passed here))))
