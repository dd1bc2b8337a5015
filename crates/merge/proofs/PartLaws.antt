-- The members that the merge leaves, with their origins, position by position: those of specs/Parts. Without origins that is a law of crate merging;
-- so each member has only to be the one that its name finds.
use Rattle.std.specs.Prelude.{if◌then◌else◌}
use mathlib.Core.Path.{◌≡◌, refl, ap, ap₂, sym, ◌∙◌, subst}
use mathlib.Core.Bool.{Bool, true, false}
use mathlib.Core.Option.{Option, none, some}
use Prim.Native.Nat.{ℕ}
use native.Mathlib.Omega.{arith}
use Rattle.spec.specs.Bytes.{Text}
use Rattle.spec.specs.Forest.{Forest, tree, single, ◌⧺◌}
use Rattle.spec.specs.Value as Plain
use Rattle.spec.specs.Value.{Label, is_object, same_text}
use Rattle.spec.specs.Operation as PlainOperation
use Rattle.spec.proofs.TextLaws.{same_text_true, same_text_refl, same_text_false, same_text-apart}
use Rattle.merging.specs.MergePatch as PlainMerge
use Rattle.merging.specs.MergePatch.{is_null}
use Rattle.merging.specs.Parts as PlainParts
use Rattle.merging.proofs.MemberLaws.{Single, one-member}
use Rattle.merging.proofs.StepLaws as PlainSteps
use Rattle.merging.proofs.PartLaws as PlainLaws
use Rattle.merging.proofs.PartLaws.{not_first, not_later}
use Rattle.tape.specs.Map.{map_forest}
use Rattle.tape.proofs.Map.{map_⧺}
use Rattle.origin.specs.Value as Value
use Rattle.origin.specs.Value.{Entry, Members, leaf, named, forget, forget_entry, forget_members, painted}
use Rattle.origin.specs.Operation.{insert_member}
use Rattle.origin.specs.MergePatch.{merge_origin, as_object, without, member_of, merge_members, merge_patch}
use Rattle.origin.proofs.ForgetMerge.{forget-merge_members, forget-merge_patch}
use Rattle.origin.proofs.MemberLaws.{value_in, get, or_else, set-member, drop-member, get-member, get_set, get_set_other, get-drop-other}
use Rattle.merge.specs.Parts.{gather, kept_by, kept, appended, merged_members}

some_same : {A : Type 0} {a b : A} → some a ≡ some b → a ≡ b
some_same h = cc

none≢some : {A : Type 0} {a : A} → none ≡ some a → ⊥
none≢some {A} {a} h = let z : ◌≡◌ {A = ℕ} 0 1 = cc in omega arith

flipped : (m n : Text) → same_text m n ≡ false → same_text n m ≡ false
flipped m n h = same_text-apart n m (λ e. same_text_false m n h (sym e))

pub ⧺_none : (f : Members) → f ⧺ Forest.none ≡ f
unfolding ◌⧺◌
⧺_none Forest.none = refl
⧺_none (tree e kids rest) = ap (tree e kids) (⧺_none rest)

pub ⧺_assoc : (f g h : Members) → (f ⧺ g) ⧺ h ≡ f ⧺ (g ⧺ h)
unfolding ◌⧺◌
⧺_assoc Forest.none g h = refl
⧺_assoc (tree e kids rest) g h = ap (tree e kids) (⧺_assoc rest g h)

-- ---- what holds of each member
data Each {A : Type 0} (Q : A → Forest A → Type 0) : Forest A → Type 0 where
  each_none : Each Q Forest.none
  each_tree : {a : A} {kids rest : Forest A} → Q a kids → Each Q rest → Each Q (tree a kids rest)

each_⧺ : {A : Type 0} {Q : A → Forest A → Type 0} {f g : Forest A} → Each Q f → Each Q g → Each Q (f ⧺ g)
unfolding ◌⧺◌
each_⧺ each_none b = b
each_⧺ (each_tree q a) b = each_tree q (each_⧺ a b)

each_then : {A : Type 0} {Q R S : A → Forest A → Type 0} {f : Forest A}
    → ((a : A) (kids : Forest A) → Q a kids → R a kids → S a kids) → Each Q f → Each R f → Each S f
each_then then-it each_none each_none = each_none
each_then then-it (each_tree {a} {kids} q qs) (each_tree r rs) = each_tree (then-it a kids q r) (each_then then-it qs rs)

each_gather : {A : Type 0} {Q : A → Forest A → Type 0} {R : Entry → Members → Type 0} (one : A → Forest A → Members) {f : Forest A}
    → ((a : A) (kids : Forest A) → Q a kids → Each R (one a kids)) → Each Q f → Each R (gather one f)
unfolding gather
each_gather one h each_none = each_none
each_gather one h (each_tree {a} {kids} q a-rest) = each_⧺ (h a kids q) (each_gather one h a-rest)

-- a name that no member has
others : (n : Text) (f : Plain.Members) → PlainParts.get n f ≡ none → Each (λ e ks. same_text n e.name ≡ false) f
others n Forest.none h = each_none
others n (tree e ks rest) h = each_tree (flipped e.name n (not_first n e ks rest h)) (others n rest (not_later n e ks rest h))

borne-others : (n : Text) (f : Members) → PlainParts.get n (forget_members f) ≡ none → Each (λ e ks. same_text n e.name ≡ false) f
unfolding map_forest
borne-others n Forest.none h = each_none
borne-others n (tree e ks rest) h =
    each_tree (flipped e.name n (not_first n (forget_entry e) (forget_members ks) (forget_members rest) h))
    (borne-others n rest (not_later n (forget_entry e) (forget_members ks) (forget_members rest) h))

-- each is the one that its name finds
own : (f : Plain.Members) → Single f → Each (λ e ks. PlainParts.get e.name f ≡ some (record { label = e.label; kids = ks })) f
unfolding PlainParts.get
own Forest.none s = each_none
own (tree e ks rest) (one-member alone s) =
    each_tree {a = e} {kids = ks} (rw (same_text_refl e.name)) (each_then (λ a kids apart is. rw apart is) (others e.name rest alone) (own rest s))

borne_own : (f : Members) → Single (forget_members f) → Each (λ e ks. get e.name f ≡ some (value_in e ks)) f
unfolding get map_forest
borne_own Forest.none s = each_none
borne_own (tree e ks rest) (one-member alone s) =
    each_tree {a = e} {kids = ks} (rw (same_text_refl e.name))
    (each_then (λ a kids apart is. rw apart is) (borne-others e.name rest alone) (borne_own rest s))

-- ---- members that are the same without their origins, and by their names, are the same
get_first : (n : Text) (e : Entry) (ks rest : Members) → e.name ≡ n → get n (tree e ks rest) ≡ some (value_in e ks)
unfolding get
get_first n e ks rest is = rw (is, same_text_refl n)

get-later : (n : Text) (e : Entry) (ks rest : Members) → same_text e.name n ≡ false → get n (tree e ks rest) ≡ get n rest
unfolding get
get-later n e ks rest apart = rw apart

same-members : (f g : Members) → forget_members f ≡ forget_members g → Single (forget_members f)
    → Each (λ e ks. get e.name g ≡ some (value_in e ks)) f → f ≡ g
unfolding map_forest
same-members Forest.none Forest.none h s each_none = refl
same-members Forest.none (tree e ks rest) h s a = absurd (let z : ◌≡◌ {A = ℕ} 0 1 = cc in omega arith)
same-members (tree d ds more) Forest.none h s a = absurd (let z : ◌≡◌ {A = ℕ} 0 1 = cc in omega arith)
same-members (tree d ds more) (tree e ks rest) h (one-member alone s) (each_tree here a) =
    let entry : forget_entry d ≡ forget_entry e = cc in
    let behind : forget_members more ≡ forget_members rest = cc in
    let name : d.name ≡ e.name = ap (λ (x : Plain.Entry). x.name) entry in
    let value : value_in e ks ≡ value_in d ds = some_same (sym (get_first d.name e ks rest (sym name)) ∙ here) in
    let first : d ≡ e =
    λ i. record { name = name i; label = ap (λ (v : Value.Value). v.label) (sym value) i; origin = ap (λ (v : Value.Value). v.origin) (sym value) i } in
    let below : ds ≡ ks = ap (λ (v : Value.Value). v.kids) (sym value) in
    let later =
    each_then {Q = λ x xs. same_text d.name x.name ≡ false} {R = λ x xs. get x.name (tree e ks rest) ≡ some (value_in x xs)}
    {S = λ x xs. get x.name rest ≡ some (value_in x xs)}
    (λ x xs apart is. sym (get-later x.name e ks rest (subst (λ n. same_text n x.name ≡ false) name apart)) ∙ is) (borne-others d.name more alone) a in
    let after : more ≡ rest = same-members more rest behind s later in
    λ i. tree (first i) (below i) (after i)

-- ---- one pair of the patch
abbrev whole : Plain.Entry → Plain.Members → Plain.Value
whole e kids = record { label = e.label; kids = kids }

step : Plain.Entry → Plain.Members → Value.Value → Value.Value
step e kids t = if is_null e.label then without e.name t else insert_member (merge_patch (member_of e.name t) (whole e kids)) e.name t

merge_step : (e : Plain.Entry) (kids rest : Plain.Members) (t : Value.Value) → merge_members (tree e kids rest) t ≡ merge_members rest (step e kids t)
unfolding merge_members merge_patch step
merge_step e kids rest t = refl

module _ (e : Plain.Entry) (kids : Plain.Members) (t : Value.Value) where
  step_other : (n : Text) → same_text e.name n ≡ false → get n (step e kids t).kids ≡ get n t.kids
  unfolding step
  step_other n apart = go (is_null e.label)
    where
      x : Value.Value
      x = merge_patch (member_of e.name t) (whole e kids)

      go : (b : Bool) → get n (if b then without e.name t else insert_member x e.name t).kids ≡ get n t.kids
      go true = ap (λ v. get n v.kids) (drop-member e.name t) ∙ get-drop-other e.name n apart t.kids
      go false = ap (λ v. get n v.kids) (set-member e.name x t) ∙ get_set_other e.name n apart x t.kids

  step_merged : is_null e.label ≡ false → get e.name (step e kids t).kids ≡ some (merge_patch (member_of e.name t) (whole e kids))
  unfolding step
  step_merged h =
      rw h
      (ap (λ v. get e.name v.kids) (set-member e.name (merge_patch (member_of e.name t) (whole e kids)) t) ∙ get_set e.name _ t.kids)

  -- the object stays what it is
  step_label : (step e kids t).label ≡ t.label
  unfolding step
  step_label = go (is_null e.label)
    where
      x : Value.Value
      x = merge_patch (member_of e.name t) (whole e kids)

      go : (b : Bool) → (if b then without e.name t else insert_member x e.name t).label ≡ t.label
      go true = ap (λ (v : Value.Value). v.label) (drop-member e.name t)
      go false = ap (λ (v : Value.Value). v.label) (set-member e.name x t)

  step_origin : (step e kids t).origin ≡ t.origin
  unfolding step
  step_origin = go (is_null e.label)
    where
      x : Value.Value
      x = merge_patch (member_of e.name t) (whole e kids)

      go : (b : Bool) → (if b then without e.name t else insert_member x e.name t).origin ≡ t.origin
      go true = ap (λ (v : Value.Value). v.origin) (drop-member e.name t)
      go false = ap (λ (v : Value.Value). v.origin) (set-member e.name x t)

-- ---- all pairs
merge_label : (p : Plain.Members) (t : Value.Value) → (merge_members p t).label ≡ t.label
unfolding merge_members
merge_label Forest.none t = refl
merge_label (tree e kids rest) t =
    ap (λ (v : Value.Value). v.label) (merge_step e kids rest t) ∙ merge_label rest (step e kids t) ∙ step_label e kids t

merge_origin_lem : (p : Plain.Members) (t : Value.Value) → (merge_members p t).origin ≡ t.origin
unfolding merge_members
merge_origin_lem Forest.none t = refl
merge_origin_lem (tree e kids rest) t =
    ap (λ (v : Value.Value). v.origin) (merge_step e kids rest t) ∙ merge_origin_lem rest (step e kids t) ∙ step_origin e kids t

others-kept : (p : Plain.Members) (t : Value.Value) (n : Text) → PlainParts.get n p ≡ none → get n (merge_members p t).kids ≡ get n t.kids
unfolding merge_members
others-kept Forest.none t n h = refl
others-kept (tree e kids rest) t n h =
    ap (λ v. get n v.kids) (merge_step e kids rest t) ∙ others-kept rest (step e kids t) n (not_later n e kids rest h)
    ∙ step_other e kids t n (not_first n e kids rest h)

member-kept : (n : Text) (v w : Value.Value) → get n v.kids ≡ get n w.kids → member_of n v ≡ member_of n w
member-kept n v w h = get-member n v ∙ ap (or_else (leaf merge_origin Label.null_literal)) h ∙ sym (get-member n w)

named_merged : (p : Plain.Members) (t : Value.Value) (n : Text) {x : Plain.Value} → Single p → PlainParts.get n p ≡ some x → is_null x.label ≡ false
    → get n (merge_members p t).kids ≡ some (merge_patch (member_of n t) x)
unfolding merge_members PlainParts.get
named_merged Forest.none t n s h z = absurd (none≢some h)
named_merged (tree e kids rest) t n {x} (one-member alone s) h z =
    ap (λ v. get n v.kids) (merge_step e kids rest t) ∙ go (same_text e.name n) refl h (λ y. named_merged rest (step e kids t) n {x = y} s)
  where
    go : (b : Bool) → same_text e.name n ≡ b → (if b then some (whole e kids) else PlainParts.get n rest) ≡ some x
        → ((y : Plain.Value) → PlainParts.get n rest ≡ some y → is_null y.label ≡ false
        → get n (merge_members rest (step e kids t)).kids ≡ some (merge_patch (member_of n (step e kids t)) y))
        → get n (merge_members rest (step e kids t)).kids ≡ some (merge_patch (member_of n t) x)
    go true q i ih =
        let name : e.name ≡ n = same_text_true e.name n q in
        let value : whole e kids ≡ x = some_same i in
        others-kept rest (step e kids t) n (subst (λ m. PlainParts.get m rest ≡ none) name alone)
        ∙ ap (λ m. get m (step e kids t).kids) (sym name) ∙ step_merged e kids t (subst (λ (v : Plain.Value). is_null v.label ≡ false) (sym value) z)
        ∙ ap₂ (λ m v. some (merge_patch (member_of m t) v)) name value
    go false q i ih =
        ih x i z ∙ ap (λ m. some (merge_patch m x)) (member-kept n (step e kids t) t (step_other e kids t n q))

-- ---- without origins
forget-kept_by : (n : Text) (v : Value.Value) (q : Option Plain.Value) → forget_members (kept_by n v q) ≡ PlainParts.kept_by n (forget v) q
unfolding kept_by PlainParts.kept_by map_forest
forget-kept_by n v none = refl
forget-kept_by n v (some x) = go (is_null x.label)
  where
    go : (b : Bool) → forget_members (if b then Forest.none else single (named n (merge_patch v x)))
        ≡ (if b then Forest.none else single (Plain.named n (PlainMerge.merge_patch (forget v) x)))
    go true = refl
    go false = ap (λ u. single (Plain.named n u)) (forget-merge_patch v x)

forget-appended : (target : Plain.Members) (e : Plain.Entry) (ks : Plain.Members)
    → forget_members (appended target e ks) ≡ PlainParts.appended target e ks
unfolding appended PlainParts.appended map_forest
forget-appended target e ks = go (Plain.has e.name target) (is_null e.label)
  where
    go : (a b : Bool)
        → forget_members (if a then Forest.none else
        if b then Forest.none else single (named e.name (merge_patch (leaf merge_origin Label.null_literal) (whole e ks))))
        ≡ (if a then Forest.none else
        if b then Forest.none else single (Plain.named e.name (PlainMerge.merge_patch (Plain.leaf Label.null_literal) (whole e ks))))
    go true b = refl
    go false true = refl
    go false false = ap (λ u. single (Plain.named e.name u)) (forget-merge_patch (leaf merge_origin Label.null_literal) (whole e ks))

forget-kept_all : (patch : Plain.Members) (f : Members)
    → forget_members (gather (kept patch) f) ≡ PlainParts.gather (PlainParts.kept patch) (forget_members f)
unfolding gather PlainParts.gather kept PlainParts.kept map_forest
forget-kept_all patch Forest.none = refl
forget-kept_all patch (tree e ks rest) =
    map_⧺ forget_entry (kept_by e.name (value_in e ks) (PlainParts.get e.name patch)) (gather (kept patch) rest)
    ∙ ap₂ ◌⧺◌ (forget-kept_by e.name (value_in e ks) (PlainParts.get e.name patch)) (forget-kept_all patch rest)

forget-appended_all : (target f : Plain.Members) → forget_members (gather (appended target) f) ≡ PlainParts.gather (PlainParts.appended target) f
unfolding gather PlainParts.gather map_forest
forget-appended_all target Forest.none = refl
forget-appended_all target (tree e ks rest) =
    map_⧺ forget_entry (appended target e ks) (gather (appended target) rest)
    ∙ ap₂ ◌⧺◌ (forget-appended target e ks) (forget-appended_all target rest)

forget_merged : (target : Members) (patch : Plain.Members)
    → forget_members (merged_members target patch) ≡ PlainParts.merged_members (forget_members target) patch
unfolding merged_members PlainParts.merged_members
forget_merged target patch =
    map_⧺ forget_entry (gather (kept patch) target) (gather (appended (forget_members target)) patch)
    ∙ ap₂ ◌⧺◌ (forget-kept_all patch target) (forget-appended_all (forget_members target) patch)

single_merged : (p : Plain.Members) (t : Plain.Value) → Single t.kids → Single (PlainMerge.merge_members p t).kids
unfolding PlainMerge.merge_members
single_merged Forest.none t s = s
single_merged (tree e kids rest) t s =
    subst (λ (v : Plain.Value). Single v.kids) (sym (PlainSteps.merge_step e kids rest t))
    (single_merged rest (PlainOperation.with_kids t (PlainSteps.stepped e kids t)) (PlainSteps.step_single e kids t s))

-- ---- the members, position by position
module _ (patch : Plain.Members) (t : Value.Value) (s : Single patch) (u : Single (forget_members t.kids)) where
  abbrev Right : Entry → Members → Type 0
  Right e ks = get e.name (merge_members patch t).kids ≡ some (value_in e ks)

  kept_right : (e : Entry) (ks : Members) → get e.name t.kids ≡ some (value_in e ks) → Each Right (kept patch e ks)
  unfolding kept kept_by or_else
  kept_right e ks is = go (PlainParts.get e.name patch) refl
    where
      member : member_of e.name t ≡ value_in e ks
      member = get-member e.name t ∙ ap (or_else (leaf merge_origin Label.null_literal)) is

      by_label : (x : Plain.Value) → PlainParts.get e.name patch ≡ some x → (b : Bool) → is_null x.label ≡ b
          → Each Right (if b then Forest.none else single (named e.name (merge_patch (value_in e ks) x)))
      by_label x h true z = each_none
      by_label x h false z = each_tree (named_merged patch t e.name s h z ∙ ap (λ v. some (merge_patch v x)) member) each_none

      go : (q : Option Plain.Value) → PlainParts.get e.name patch ≡ q → Each Right (kept_by e.name (value_in e ks) q)
      go none h = each_tree (others-kept patch t e.name h ∙ is) each_none
      go (some x) h = by_label x h (is_null x.label) refl

  appended_right : (e : Plain.Entry) (ks : Plain.Members) → PlainParts.get e.name patch ≡ some (whole e ks)
      → Each Right (appended (forget_members t.kids) e ks)
  unfolding appended member_of
  appended_right e ks is = go (Plain.has e.name (forget_members t.kids)) refl (is_null e.label) refl
    where
      nothing : Plain.has e.name (forget_members t.kids) ≡ false → member_of e.name t ≡ leaf merge_origin Label.null_literal
      nothing h = rw h

      go : (a : Bool) → Plain.has e.name (forget_members t.kids) ≡ a → (b : Bool) → is_null e.label ≡ b
          → Each Right
          (if a then Forest.none else
          if b then Forest.none else single (named e.name (merge_patch (leaf merge_origin Label.null_literal) (whole e ks))))
      go true h b z = each_none
      go false h true z = each_none
      go false h false z = each_tree (named_merged patch t e.name s is z ∙ ap (λ v. some (merge_patch v (whole e ks))) (nothing h)) each_none

  same_names : forget_members (merged_members t.kids patch) ≡ (PlainMerge.merge_members patch (forget t)).kids
  same_names = forget_merged t.kids patch ∙ sym (PlainLaws.parts patch (forget t) s u)

  pub parts : (merge_members patch t).kids ≡ merged_members t.kids patch
  unfolding merged_members
  parts =
      sym
      (same-members (merged_members t.kids patch) (merge_members patch t).kids
      (same_names ∙ sym (ap (λ (v : Plain.Value). v.kids) (forget-merge_members patch t)))
      (subst Single (sym same_names) (single_merged patch (forget t) u))
      (each_⧺ (each_gather (kept patch) kept_right (borne_own t.kids u))
      (each_gather (appended (forget_members t.kids)) appended_right (own patch s))))

-- ---- two values of which the second is an object
module _ (t : Value.Value) (p : Plain.Value) where
  pub merge-object : is_object p.label ≡ true → (as_object t).label ≡ Label.object → Single p.kids → Single (forget_members (as_object t).kids)
      → merge_patch t p ≡ record { label = Label.object; origin = (as_object t).origin; kids = merged_members (as_object t).kids p.kids }
  unfolding merge_patch
  merge-object o l s u =
      let label : (merge_members p.kids (as_object t)).label ≡ Label.object = merge_label p.kids (as_object t) ∙ l in
      let origin = merge_origin_lem p.kids (as_object t) in
      let kids = parts p.kids (as_object t) s u in
      rw o (λ i. record { label = label i; origin = origin i; kids = kids i })

  pub merge_other : is_object p.label ≡ false → merge_patch t p ≡ painted merge_origin p
  unfolding merge_patch
  merge_other o = rw o

-- a target taken as an object
module _ (t : Value.Value) where
  pub as_object_lem : is_object t.label ≡ true → as_object t ≡ t
  unfolding as_object
  as_object_lem o = rw o

  pub as_empty : is_object t.label ≡ false → as_object t ≡ leaf merge_origin Label.object
  unfolding as_object
  as_empty o = rw o
