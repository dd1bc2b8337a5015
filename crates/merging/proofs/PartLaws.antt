-- The members that the procedure leaves, position by position: those of specs/Parts.
use Rattle.std.specs.Prelude.{if◌then◌else◌}
use mathlib.Core.Path.{◌≡◌, refl, ap, ap₂, sym, ◌∙◌}
use mathlib.Core.Bool.{Bool, true, false, true≢false}
use mathlib.Core.Option.{Option, none, some}
use Rattle.spec.specs.Bytes.{Text}
use Rattle.spec.specs.Forest as Forest
use Rattle.spec.specs.Forest.{tree, single, ◌⧺◌}
use Rattle.spec.specs.Value as Value
use Rattle.spec.specs.Value.{Label, Entry, Members, leaf, named, same_text, has}
use Rattle.spec.specs.Operation.{with_kids}
use Rattle.spec.proofs.TextLaws.{same_text_true, same_text_refl, same_text_false, same_text-apart}
use Rattle.merging.specs.MergePatch.{is_null, member_of, merge_members, merge_patch}
use Rattle.merging.specs.Parts.{get, gather, kept_by, kept, appended, merged_members}
use Rattle.merging.proofs.MemberLaws.{set, drop, or_else, is_some, has-get, Single, one-member, get-member, get_set_other, get-drop-other}
use Rattle.merging.proofs.StepLaws.{value_in, stepped, merge_step, step_single}

some_same : {A : Type 0} {a b : A} → some a ≡ some b → a ≡ b
some_same h = cc

none≢some : {A : Type 0} {a : A} → none ≡ some a → ⊥
unfolding is_some
none≢some {A} {a} h = true≢false (sym (ap is_some h))

flipped : (m n : Text) → same_text m n ≡ false → same_text n m ≡ false
flipped m n h = same_text-apart n m (λ e. same_text_false m n h (sym e))

pub ⧺_none : (f : Members) → f ⧺ Forest.none ≡ f
unfolding ◌⧺◌
⧺_none Forest.none = refl
⧺_none (tree e kids rest) = ap (tree e kids) (⧺_none rest)

pub ⧺_assoc : (f g h : Members) → (f ⧺ g) ⧺ h ≡ f ⧺ (g ⧺ h)
unfolding ◌⧺◌
⧺_assoc Forest.none g h = refl
⧺_assoc (tree e kids rest) g h = ap (tree e kids) (⧺_assoc rest g h)

-- a name that is not among the members: the first has another, and it is not among the rest
module _ (n : Text) (d : Entry) (ds more : Members) (h : get n (tree d ds more) ≡ none) where
  pub not_first : same_text d.name n ≡ false
  unfolding get
  not_first = go (same_text d.name n) h
    where
      go : (b : Bool) → (if b then some (value_in d ds) else get n more) ≡ none → b ≡ false
      go true i = absurd (none≢some (sym i))
      go false i = refl

  pub not_later : get n more ≡ none
  unfolding get
  not_later = go (same_text d.name n) h
    where
      go : (b : Bool) → (if b then some (value_in d ds) else get n more) ≡ none → get n more ≡ none
      go true i = absurd (none≢some (sym i))
      go false i = i

-- ---- one more member of the patch, of another name
module _ (e : Entry) (kids rest : Members) where
  get_first : (n : Text) → same_text e.name n ≡ true → get n (tree e kids rest) ≡ some (value_in e kids)
  unfolding get
  get_first n h = rw h

  get-later : (n : Text) → same_text e.name n ≡ false → get n (tree e kids rest) ≡ get n rest
  unfolding get
  get-later n h = rw h

  kept-other : (d : Entry) (ds : Members) → same_text d.name e.name ≡ false → kept rest d ds ≡ kept (tree e kids rest) d ds
  unfolding kept
  kept-other d ds h = ap (kept_by d.name (value_in d ds)) (sym (get-later d.name (flipped d.name e.name h)))

  kept-others : (f : Members) → get e.name f ≡ none → gather (kept rest) f ≡ gather (kept (tree e kids rest)) f
  unfolding gather
  kept-others Forest.none h = refl
  kept-others (tree d ds more) h =
      ap₂ ◌⧺◌ (kept-other d ds (not_first e.name d ds more h)) (kept-others more (not_later e.name d ds more h))

  -- "if Value is null": the member so named is dropped
  module _ (null : is_null e.label ≡ true) where
    kept_null : (d : Entry) (ds : Members) → same_text d.name e.name ≡ true → kept (tree e kids rest) d ds ≡ Forest.none
    unfolding kept kept_by
    kept_null d ds h =
        let same : same_text e.name d.name ≡ true = rw (same_text_true d.name e.name h) (same_text_refl e.name) in
        rw (get_first d.name same, null)

    kept-drop : (f : Members) → Single f → gather (kept rest) (drop e.name f) ≡ gather (kept (tree e kids rest)) f
    unfolding gather drop ◌⧺◌
    kept-drop Forest.none s = refl
    kept-drop (tree d ds more) (one-member alone s) = go (same_text d.name e.name) refl (kept-drop more s)
      where
        go : (b : Bool) → same_text d.name e.name ≡ b → gather (kept rest) (drop e.name more) ≡ gather (kept (tree e kids rest)) more →
            gather (kept rest) (if b then more else tree d ds (drop e.name more)) ≡
            kept (tree e kids rest) d ds ⧺ gather (kept (tree e kids rest)) more
        go true q ih =
            let absent : get e.name more ≡ none = ap (λ n. get n more) (sym (same_text_true d.name e.name q)) ∙ alone in
            kept-others more absent ∙ rw (kept_null d ds q)
        go false q ih = ap₂ ◌⧺◌ (kept-other d ds q) ih

  -- "else": the member so named is merged, or it is put last
  module _ (some-value : is_null e.label ≡ false) (alone : get e.name rest ≡ none) where
    kept_here : (n : Text) (v : Value.Value) → same_text n e.name ≡ true → kept_by n v (get n rest) ≡ single (named n v)
    unfolding kept_by
    kept_here n v h = rw (same_text_true n e.name h, alone)

    kept_merged : (d : Entry) (ds : Members) → same_text d.name e.name ≡ true →
        kept (tree e kids rest) d ds ≡ single (named d.name (merge_patch (value_in d ds) (value_in e kids)))
    unfolding kept kept_by
    kept_merged d ds h =
        let same : same_text e.name d.name ≡ true = rw (same_text_true d.name e.name h) (same_text_refl e.name) in
        rw (get_first d.name same, some-value)

    kept_set : (f : Members) (v : Value.Value) → Single f → get e.name f ≡ some v →
        gather (kept rest) (set e.name (merge_patch v (value_in e kids)) f) ≡ gather (kept (tree e kids rest)) f
    unfolding gather set get kept ◌⧺◌
    kept_set Forest.none v s h = absurd (none≢some h)
    kept_set (tree d ds more) v (one-member apart s) h = go (same_text d.name e.name) refl h (kept_set more v s)
      where
        x : Value.Value
        x = merge_patch v (value_in e kids)

        go : (b : Bool) → same_text d.name e.name ≡ b → (if b then some (value_in d ds) else get e.name more) ≡ some v →
            (get e.name more ≡ some v → gather (kept rest) (set e.name x more) ≡ gather (kept (tree e kids rest)) more) →
            gather (kept rest) (if b then tree (record { name = d.name; label = x.label }) x.kids more else tree d ds (set e.name x more)) ≡
            kept (tree e kids rest) d ds ⧺ gather (kept (tree e kids rest)) more
        go true q i ih =
            let absent : get e.name more ≡ none = ap (λ n. get n more) (sym (same_text_true d.name e.name q)) ∙ apart in
            let value : value_in d ds ≡ v = some_same i in
            ap₂ ◌⧺◌ (kept_here d.name x q ∙ ap (λ u. single (named d.name (merge_patch u (value_in e kids)))) (sym value) ∙ sym (kept_merged d ds q))
            (kept-others more absent)
        go false q i ih = ap₂ ◌⧺◌ (kept-other d ds q) (ih i)

    kept_last : (f : Members) (x : Value.Value) → get e.name f ≡ none →
        gather (kept rest) (set e.name x f) ≡ gather (kept (tree e kids rest)) f ⧺ single (named e.name x)
    unfolding gather set kept ◌⧺◌
    kept_last Forest.none x h = ap (λ f. f ⧺ Forest.none) (kept_here e.name x (same_text_refl e.name))
    kept_last (tree d ds more) x h =
        let q = not_first e.name d ds more h in
        let later = kept_last more x (not_later e.name d ds more h) in
        ap (gather (kept rest)) (set-later q) ∙ ap₂ ◌⧺◌ (kept-other d ds q) later ∙
        sym (⧺_assoc (kept (tree e kids rest) d ds) (gather (kept (tree e kids rest)) more) (single (named e.name x)))
      where
        set-later : same_text d.name e.name ≡ false → set e.name x (tree d ds more) ≡ tree d ds (set e.name x more)
        set-later q = rw q

-- ---- what is appended is the same for two targets that differ only in a name which the rest of the patch does not have
appended-others : (n : Text) (f g : Members) → ((m : Text) → same_text n m ≡ false → get m f ≡ get m g) → (rest : Members) → get n rest ≡ none →
    gather (appended f) rest ≡ gather (appended g) rest
unfolding gather appended
appended-others n f g same Forest.none h = refl
appended-others n f g same (tree d ds more) h =
    let q = flipped d.name n (not_first n d ds more h) in
    let there : has d.name f ≡ has d.name g = has-get d.name f ∙ ap is_some (same d.name q) ∙ sym (has-get d.name g) in
    ap₂ ◌⧺◌
    (ap (λ b.
    (if b then Forest.none else if is_null d.label
    then Forest.none else single (named d.name (merge_patch (leaf Label.null_literal) (value_in d ds))))) there)
    (appended-others n f g same more (not_later n d ds more h))

module _ (e : Entry) (kids rest target : Members) where
  appended_null : is_null e.label ≡ true → gather (appended target) (tree e kids rest) ≡ gather (appended target) rest
  unfolding gather appended ◌⧺◌
  appended_null h = rw h (go (has e.name target))
    where
      go : (b : Bool) → (if b then Forest.none else Forest.none) ⧺ gather (appended target) rest ≡ gather (appended target) rest
      go true = refl
      go false = refl

  appended_there : {v : Value.Value} → get e.name target ≡ some v → gather (appended target) (tree e kids rest) ≡ gather (appended target) rest
  unfolding gather appended ◌⧺◌ is_some
  appended_there h = let there : has e.name target ≡ true = has-get e.name target ∙ ap is_some h in rw there

  appended_new : get e.name target ≡ none → is_null e.label ≡ false →
      gather (appended target) (tree e kids rest) ≡
      single (named e.name (merge_patch (leaf Label.null_literal) (value_in e kids))) ⧺ gather (appended target) rest
  unfolding gather appended is_some
  appended_new h z = let there : has e.name target ≡ false = has-get e.name target ∙ ap is_some h in rw (there, z)

-- ---- one pair of the patch, and then the rest
module _ (e : Entry) (kids rest : Members) (t : Value.Value) (alone : get e.name rest ≡ none) (u : Single t.kids) where
  member_is : {o : Option Value.Value} → get e.name t.kids ≡ o → member_of e.name t ≡ or_else (leaf Label.null_literal) o
  member_is h = get-member e.name t ∙ ap (or_else (leaf Label.null_literal)) h

  step_drops : is_null e.label ≡ true → stepped e kids t ≡ drop e.name t.kids
  unfolding stepped
  step_drops z = rw z

  step_sets : {o : Option Value.Value} → is_null e.label ≡ false → get e.name t.kids ≡ o →
      stepped e kids t ≡ set e.name (merge_patch (or_else (leaf Label.null_literal) o) (value_in e kids)) t.kids
  unfolding stepped
  step_sets z h = rw (z, member_is h)

  pub step_parts : merged_members (stepped e kids t) rest ≡ merged_members t.kids (tree e kids rest)
  unfolding merged_members or_else
  step_parts = go (is_null e.label) refl (get e.name t.kids) refl
    where
      go : (b : Bool) → is_null e.label ≡ b → (o : Option Value.Value) → get e.name t.kids ≡ o →
          gather (kept rest) (stepped e kids t) ⧺ gather (appended (stepped e kids t)) rest ≡
          gather (kept (tree e kids rest)) t.kids ⧺ gather (appended t.kids) (tree e kids rest)
      go true z o h =
          ap (λ f. gather (kept rest) f ⧺ gather (appended f) rest) (step_drops z) ∙
          ap₂ ◌⧺◌ (kept-drop e kids rest z t.kids u)
          (appended-others e.name (drop e.name t.kids) t.kids (λ m q. get-drop-other e.name m q t.kids) rest alone ∙
          sym (appended_null e kids rest t.kids z))
      go false z none h =
          let x : Value.Value = merge_patch (leaf Label.null_literal) (value_in e kids) in
          ap (λ f. gather (kept rest) f ⧺ gather (appended f) rest) (step_sets z h) ∙
          ap₂ ◌⧺◌ (kept_last e kids rest z alone t.kids x h)
          (appended-others e.name (set e.name x t.kids) t.kids (λ m q. get_set_other e.name m q x t.kids) rest alone) ∙
          ⧺_assoc (gather (kept (tree e kids rest)) t.kids) (single (named e.name x)) (gather (appended t.kids) rest) ∙
          ap (λ g. gather (kept (tree e kids rest)) t.kids ⧺ g) (sym (appended_new e kids rest t.kids h z))
      go false z (some v) h =
          let x : Value.Value = merge_patch v (value_in e kids) in
          ap (λ f. gather (kept rest) f ⧺ gather (appended f) rest) (step_sets z h) ∙
          ap₂ ◌⧺◌ (kept_set e kids rest z alone t.kids v u h)
          (appended-others e.name (set e.name x t.kids) t.kids (λ m q. get_set_other e.name m q x t.kids) rest alone ∙
          sym (appended_there e kids rest t.kids h))

-- ---- all pairs of the patch
all_kept : (f : Members) → gather (kept Forest.none) f ≡ f
unfolding gather kept kept_by get ◌⧺◌
all_kept Forest.none = refl
all_kept (tree e kids rest) = ap (tree e kids) (all_kept rest)

none_appended : (f : Members) → merged_members f Forest.none ≡ f
unfolding merged_members gather
none_appended f = ⧺_none (gather (kept Forest.none) f) ∙ all_kept f

pub parts : (patch : Members) (t : Value.Value) → Single patch → Single t.kids → (merge_members patch t).kids ≡ merged_members t.kids patch
unfolding merge_members
parts Forest.none t s u = sym (none_appended t.kids)
parts (tree e kids rest) t (one-member alone s) u =
    ap (λ v. v.kids) (merge_step e kids rest t) ∙ parts rest (with_kids t (stepped e kids t)) s (step_single e kids t u) ∙
    step_parts e kids rest t alone u
