-- Two containers in the table, compared tree by tree: what is left to compare, and what a turn of the loop makes of it.
use Rattle.std.specs.Prelude.{Option, Some, None}
use Prim.Native.Nat.{ℕ, suc, ◌≤◌, ◌<◌}
use native.Mathlib.Omega.{arith}
use mathlib.Core.Path.{◌≡◌, refl, sym, ap, ap₂, ◌∙◌, subst}
use mathlib.Core.Bool.{Bool, true, false, ◌&&◌}
use lib.Dec.{leb}
use borrow.Author.Tests.{leb-true, leb-false}
use Rattle.spec.specs.Forest.{Forest, none, tree, from}
use Rattle.spec.specs.Value.{depth, depths}
use Rattle.spec.specs.Distinct.{NoRepeats}
use Rattle.tape.specs.declared.fields.Cell.{Cell}
use Rattle.tape.specs.Rows.{end_of}
use Rattle.tape.specs.Map.{map_forest}
use Rattle.tape.proofs.Forests.{from_suc}
use Rattle.table.specs.Meaning.{entry_of, members, meant}
use Rattle.equality.specs.Compare.{PartnerIs, EqualIs}
use Rattle.equality.proofs.MatchLaws.{agree_end, agree_less, agree_more}
use Rattle.equality.proofs.SiblingLaws.{Siblings, Children, siblings_none, siblings_first, siblings_next}
use Rattle.equality.proofs.PartnerLaws.{agreeing, alone, paired}
use Rattle.tape.specs.Lent.{Texts, Table}

module _ (T : Texts) (c : Cell) (kids rest : Forest Cell) where
  pub depth-first : depth (meant T c kids) ≤ depths (members T (tree c kids rest))
  unfolding depth depths map_forest
  depth-first = omega arith

  pub depth_rest : depths (members T rest) ≤ depths (members T (tree c kids rest))
  unfolding depths map_forest
  depth_rest = omega arith

-- ---- at the head of the loop: the verdict on two containers is whether what is left of them agrees; the second has the trees `all`, of which `passed`
-- are passed, and repeats no name
pub record Pending (w : Table) (o : Bool) (row end next stop levels : ℕ) (all : Forest Cell) (verdict : Bool) : Type 0 where
  pub rest : Forest Cell
  pub beside : Forest Cell
  pub first : Siblings w row end rest
  pub second : Siblings w next stop beside
  pub distinct : NoRepeats o (members w.texts all)
  pub passed : ℕ
  pub left : from passed all ≡ beside
  pub shallow : depths (members w.texts rest) ≤ levels
  pub same : verdict ≡ agreeing w.texts o all rest beside

module _ {w : Table} {o : Bool} {row end next stop levels : ℕ} {all : Forest Cell} {verdict : Bool}
    (p : Pending w o row end next stop levels all verdict) where
  now_left : (f g : Forest Cell) → p.rest ≡ f → p.beside ≡ g → verdict ≡ agreeing w.texts o all f g
  now_left f g e d = p.same ∙ ap₂ (agreeing w.texts o all) e d

  -- the first has ended: the second must have ended too
  pub pending_end : end ≤ row → verdict ≡ leb stop next
  unfolding map_forest
  pending_end h = go (leb stop next) refl
    where
      go : (b : Bool) → leb stop next ≡ b → verdict ≡ leb stop next
      go true e =
          now_left none none (siblings_none p.first h) (siblings_none p.second (leb-true stop next e)) ∙ agree_end o (members w.texts all) ∙ sym e
      go false e =
          siblings_first p.second (leb-false stop next e) λ d ds after is y.
          now_left none (tree d ds after) (siblings_none p.first h) is
          ∙ agree_less o (members w.texts all) (entry_of w.texts d) (members w.texts ds) (members w.texts after) ∙ sym e

  module _ (more : row < end) where
    -- the second has ended, and the first has not
    pub pending_more : stop ≤ next → verdict ≡ false
    unfolding map_forest
    pending_more h =
        siblings_first p.first more λ c ks rest is x.
        now_left (tree c ks rest) none is (siblings_none p.second h)
        ∙ agree_more o (members w.texts all) (entry_of w.texts c) (members w.texts ks) (members w.texts rest)

    module _ (others : next < stop) {other : ℕ} (whole : Children w other stop all) (q : Option ℕ) (t : PartnerIs w other stop row next o q) where
      pub pending_alone : q ≡ None → verdict ≡ false
      pending_alone e =
          siblings_first p.first more λ c ks rest is x.
          siblings_first p.second others λ d ds after are y.
          now_left (tree c ks rest) (tree d ds after) is are ∙ alone whole x y o q t e

      module _ (pair : ℕ) (e : q ≡ Some pair) (r : Bool) (compared : EqualIs w row pair levels r) where
        step : {C : Type 0}
            → ((c : Cell) (ks rest : Forest Cell) (d : Cell) (ds after : Forest Cell)
            → Siblings w row end (tree c ks rest) → Siblings w next stop (tree d ds after) → from p.passed all ≡ tree d ds after
            → depths (members w.texts (tree c ks rest)) ≤ levels → verdict ≡ r && agreeing w.texts o all rest after → C)
            → C
        step then-it =
            siblings_first p.first more λ c ks rest is x.
            siblings_first p.second others λ d ds after are y.
            let low : depths (members w.texts (tree c ks rest)) ≤ levels = subst (λ f. depths (members w.texts f) ≤ levels) is p.shallow in
            let one : depth (meant w.texts c ks) ≤ levels = omega (arith, depth-first w.texts c ks rest) in
            let here = p.left ∙ are in
            then-it c ks rest d ds after x y here low
            (now_left (tree c ks rest) (tree d ds after) is are ∙ paired whole x y levels one pair r compared p.passed here o p.distinct q t e)

        pub pending_differs : r ≡ false → verdict ≡ false
        pending_differs f = step λ c ks rest d ds after x y here low is. is ∙ ap (λ b. b && agreeing w.texts o all rest after) f

        pub pending_next : r ≡ true → (row' next' : ℕ) → row' ≡ end_of w.nodes row → next' ≡ end_of w.nodes next
            → Pending w o row' end next' stop levels all verdict
        pending_next f row' next' m n =
            step λ c ks rest d ds after x y here low is.
            record {
              rest = rest;
              beside = after;
              first = siblings_next x row' m;
              second = siblings_next y next' n;
              distinct = p.distinct;
              passed = suc p.passed;
              left = from_suc p.passed all d ds after here;
              shallow = omega (arith, depth_rest w.texts c ks rest);
              same = is ∙ ap (λ b. b && agreeing w.texts o all rest after) f;
            }
