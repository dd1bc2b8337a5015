-- What a merge patch comes to: specs/Claims.
use Rattle.std.specs.Prelude.{if◌then◌else◌}
use mathlib.Core.Path.{◌≡◌, refl, ap, sym, subst, ◌∙◌}
use mathlib.Core.Bool.{Bool, true, false, true≢false}
use mathlib.Core.List.{[], ◌∷◌}
use mathlib.Core.Option.{Option, none, some}
use Prim.Native.Nat.{ℕ, suc, ◌≤◌, max}
use native.Mathlib.Omega.{arith}
use Rattle.spec.specs.Outcome.{Outcome, ok, refused, ◌>>=◌}
use Rattle.spec.specs.Bytes.{Text}
use Rattle.spec.specs.Forest as Forest
use Rattle.spec.specs.Forest.{tree, ◌⧺◌}
use Rattle.spec.specs.Value as Value
use Rattle.spec.specs.Value.{Label, Entry, Members, leaf, tag, is_array, is_object, is_container, levels, depths, depth, same_text, find, has, named, value_of}
use Rattle.spec.specs.Pointer.{child_at, member_named, child, farther, walk}
use Rattle.spec.specs.Operation.{with_kids}
use Rattle.spec.proofs.OutcomeLaws.{refused≢ok}
use Rattle.spec.proofs.TextLaws.{same_text_true, same_text_false, same_text-apart}
use Rattle.spec.specs.Proper as Proper
use Rattle.spec.specs.Proper.{Proper, ProperItems}
use Rattle.spec.proofs.NameLaws.{absent_parts}
use Rattle.merging.specs.MergePatch.{is_null, as_object, member_of, merge_members, merge_patch}
use Rattle.merging.specs.Claims as Claims
use Rattle.merging.specs.Claims.{WithoutNulls, MergeStatement}
use Rattle.merging.specs.Parts.{get}
use Rattle.merging.proofs.MemberLaws.{set, drop, or_else, Single, no_member, one-member, absent, absent_has, get-member, get_set_other, get_is}
use Rattle.merging.proofs.PartLaws.{parts}
use Rattle.merging.proofs.StepLaws.{value_in, stepped, merge_step, step_other, step_null, step_merged, step_single}

some_same : {A : Type 0} {a b : A} → some a ≡ some b → a ≡ b
some_same h = cc

none≢some : {A : Type 0} {a : A} → none ≡ some a → ⊥
none≢some h = let z : ◌≡◌ {A = ℕ} 0 1 = cc in omega arith

single : {f : Members} → ProperItems true f → Single f
single Proper.empty = no_member
single (Proper.member {e} {kids} {rest} c h a i p) = one-member (absent e.name rest h) (single p)

-- A member by a pointer of one token

found : Option Value.Value → Outcome Value.Value
found none = refused 11 0
found (some v) = ok v

walk-get : (v : Value.Value) (n : Text) → v.label ≡ Label.object → walk (n ∷ []) v ≡ found (get n v.kids)
unfolding walk child_at is_array is_object tag member_named farther found child or_else ◌>>=◌
walk-get v n l = rw l (go (has n v.kids) refl (get n v.kids) refl)
  where
    go : (b : Bool) → has n v.kids ≡ b → (o : Option Value.Value) → get n v.kids ≡ o →
        ((if b then ok (find n v.kids) else refused 11 0) >>= λ k. farther (ok (value_of (child k v)))) ≡ found o
    go false h none e = refl
    go false h (some x) e = absurd (none≢some (sym (absent n v.kids h) ∙ e))
    go true h none e = absurd (true≢false (sym h ∙ absent_has n v.kids e))
    go true h (some x) e = ap ok (rw (h, e) at (get_is (named [] (leaf Label.null_literal)) (leaf Label.null_literal) n v.kids))

found_some : {x : Value.Value} (o : Option Value.Value) → found o ≡ ok x → o ≡ some x
unfolding found
found_some none h = absurd (refused≢ok h)
found_some {x} (some v) h = let same : v ≡ x = cc in ap some same

-- All pairs of the patch, one after another

pub label_kept : (p : Members) (t : Value.Value) → (merge_members p t).label ≡ t.label
unfolding merge_members
label_kept Forest.none t = refl
label_kept (tree e kids rest) t = ap (λ v. v.label) (merge_step e kids rest t) ∙ label_kept rest (with_kids t (stepped e kids t))

others-kept : (p : Members) (t : Value.Value) (m : Text) → has m p ≡ false → get m (merge_members p t).kids ≡ get m t.kids
unfolding merge_members
others-kept Forest.none t m h = refl
others-kept (tree e kids rest) t m h =
    let (apart, later) = absent_parts m e kids rest h in
    ap (λ v. get m v.kids) (merge_step e kids rest t) ∙ others-kept rest (with_kids t (stepped e kids t)) m later ∙
    step_other e kids t m (same_text-apart e.name m apart)

-- the pair of a name: what comes of it when all are done

null_gone : (p : Members) (t : Value.Value) (n : Text) (x : Value.Value) → Single p → Single t.kids → get n p ≡ some x → is_null x.label ≡ true →
    get n (merge_members p t).kids ≡ none
unfolding get
null_gone Forest.none t n x s u h z = absurd (none≢some h)
null_gone (tree e kids rest) t n x (one-member alone s) u h z =
    ap (λ v. get n v.kids) (merge_step e kids rest t) ∙ go (same_text e.name n) refl h
    (λ i. null_gone rest (with_kids t (stepped e kids t)) n x s (step_single e kids t u) i z)
  where
    go : (b : Bool) → same_text e.name n ≡ b → (if b then some (value_in e kids) else get n rest) ≡ some x →
        (get n rest ≡ some x → get n (merge_members rest (with_kids t (stepped e kids t))).kids ≡ none) →
        get n (merge_members rest (with_kids t (stepped e kids t))).kids ≡ none
    go true q h ih =
        let name = same_text_true e.name n q in
        let value : value_in e kids ≡ x = some_same h in
        let null : is_null e.label ≡ true = ap (λ v. is_null v.label) value ∙ z in
        let later : has n rest ≡ false = absent_has n rest (ap (λ m. get m rest) (sym name) ∙ alone) in
        others-kept rest (with_kids t (stepped e kids t)) n later ∙ ap (λ m. get m (stepped e kids t)) (sym name) ∙ step_null e kids t null u
    go false q h ih = ih h

member-kept : (t : Value.Value) (f : Members) (n : Text) → get n f ≡ get n t.kids → member_of n (with_kids t f) ≡ member_of n t
member-kept t f n h = get-member n (with_kids t f) ∙ ap (or_else (leaf Label.null_literal)) h ∙ sym (get-member n t)

pair_merged : (p : Members) (t : Value.Value) (n : Text) (x : Value.Value) → Single p → get n p ≡ some x → is_null x.label ≡ false →
    get n (merge_members p t).kids ≡ some (merge_patch (member_of n t) x)
unfolding get
pair_merged Forest.none t n x s h z = absurd (none≢some h)
pair_merged (tree e kids rest) t n x (one-member alone s) h z =
    ap (λ v. get n v.kids) (merge_step e kids rest t) ∙ go (same_text e.name n) refl h
    (λ i. pair_merged rest (with_kids t (stepped e kids t)) n x s i z)
  where
    go : (b : Bool) → same_text e.name n ≡ b → (if b then some (value_in e kids) else get n rest) ≡ some x →
        (get n rest ≡ some x
        → get n (merge_members rest (with_kids t (stepped e kids t))).kids ≡ some (merge_patch (member_of n (with_kids t (stepped e kids t))) x)) →
        get n (merge_members rest (with_kids t (stepped e kids t))).kids ≡ some (merge_patch (member_of n t) x)
    go true q h ih =
        let name = same_text_true e.name n q in
        let value : value_in e kids ≡ x = some_same h in
        let some-value : is_null e.label ≡ false = ap (λ v. is_null v.label) value ∙ z in
        let later : has n rest ≡ false = absent_has n rest (ap (λ m. get m rest) (sym name) ∙ alone) in
        others-kept rest (with_kids t (stepped e kids t)) n later ∙ ap (λ m. get m (stepped e kids t)) (sym name) ∙ step_merged e kids t some-value ∙
        ap (λ m. some (merge_patch (member_of m t) (value_in e kids))) name ∙ ap (λ v. some (merge_patch (member_of n t) v)) value
    go false q h ih = ih h ∙ ap (λ m. some (merge_patch m x)) (member-kept t (stepped e kids t) n (step_other e kids t n q))

-- Without nulls: a patch merged into members that it does not name is put behind them

data Fresh (f : Members) : Members → Type 0 where
  no_more : Fresh f Forest.none
  one_more : {e : Entry} {kids rest : Members} → get e.name f ≡ none → Fresh f rest → Fresh f (tree e kids rest)

fresh-after : {f rest : Members} (n : Text) (x : Value.Value) → get n rest ≡ none → Fresh f rest → Fresh (set n x f) rest
unfolding get
fresh-after n x alone no_more = no_more
fresh-after {f} n x alone (one_more {e} {kids} {rest} h more) = go (same_text e.name n) refl alone (λ i. fresh-after n x i more)
  where
    go : (b : Bool) → same_text e.name n ≡ b → (if b then some (value_in e kids) else get n rest) ≡ none → (get n rest ≡ none → Fresh (set n x f) rest) →
        Fresh (set n x f) (tree e kids rest)
    go true q i ih = absurd (none≢some (sym i))
    go false q i ih =
        one_more (get_set_other n e.name (same_text-apart n e.name (λ same. same_text_false e.name n q (sym same))) x f ∙ h) (ih i)

set_last : (n : Text) (x : Value.Value) (f rest : Members) → get n f ≡ none → set n x f ⧺ rest ≡ f ⧺ tree (record { name = n; label = x.label }) x.kids rest
unfolding get set ◌⧺◌
set_last n x Forest.none rest h = refl
set_last n x (tree e kids f) rest h = go (same_text e.name n) h (set_last n x f rest)
  where
    go : (b : Bool) → (if b then some (value_in e kids) else get n f) ≡ none →
        (get n f ≡ none → set n x f ⧺ rest ≡ f ⧺ tree (record { name = n; label = x.label }) x.kids rest) →
        (if b then tree (record { name = e.name; label = x.label }) x.kids f else tree e kids (set n x f)) ⧺ rest ≡
        tree e kids (f ⧺ tree (record { name = n; label = x.label }) x.kids rest)
    go true i ih = absurd (none≢some (sym i))
    go false i ih = ap (tree e kids) (ih i)

behind_none : (f : Members) → f ⧺ Forest.none ≡ f
unfolding ◌⧺◌
behind_none Forest.none = refl
behind_none (tree e kids rest) = ap (tree e kids) (behind_none rest)

fresh_empty : (p : Members) → Fresh Forest.none p
unfolding get
fresh_empty Forest.none = no_more
fresh_empty (tree e kids rest) = one_more refl (fresh_empty rest)

-- a value that is no null and has none, merged with what is no object: itself
unchanged : (e : Entry) (kids rest : Members) → WithoutNulls (tree e kids rest) →
    (e.label ≡ Label.object → WithoutNulls kids → merge_members kids (leaf Label.object) ≡ record { label = Label.object; kids = kids }) →
    (is_null e.label ≡ false) × (merge_patch (leaf Label.null_literal) (value_in e kids) ≡ value_in e kids)
unfolding is_null merge_patch as_object is_object tag
unchanged e kids rest (Claims.object l k w) ih = rw l (refl, ih l k)
unchanged e kids rest (Claims.other o z w) ih = (z, rw o)

added : (p f : Members) → ProperItems true p → WithoutNulls p → Fresh f p →
    merge_members p (record { label = Label.object; kids = f }) ≡ record { label = Label.object; kids = f ⧺ p }
unfolding merge_members stepped is_object tag or_else ◌⧺◌
added Forest.none f i w new = ap (λ g. record { label = Label.object; kids = g }) (sym (behind_none f))
added (tree e kids rest) f (Proper.member c h a i p) w (one_more alone new) =
    let (no-null, same) = unchanged e kids rest w (λ l k. added kids Forest.none (items l) k (fresh_empty kids)) in
    merge_step e kids rest (record { label = Label.object; kids = f }) ∙
    ap (λ g. merge_members rest (record { label = Label.object; kids = g })) (put_last no-null same) ∙
    added rest (set e.name (value_in e kids) f) p (others w) (fresh-after e.name (value_in e kids) (absent e.name rest h) new) ∙
    ap (λ g. record { label = Label.object; kids = g }) (set_last e.name (value_in e kids) f rest alone)
  where
    items : e.label ≡ Label.object → ProperItems true kids
    items l = subst (λ b. ProperItems b kids) (is_object_lem l) i
      where
        is_object_lem : e.label ≡ Label.object → is_object e.label ≡ true
        is_object_lem l = rw l

    others : WithoutNulls (tree e kids rest) → WithoutNulls rest
    others (Claims.object l k w) = w
    others (Claims.other o z w) = w

    put_last : is_null e.label ≡ false → merge_patch (leaf Label.null_literal) (value_in e kids) ≡ value_in e kids →
        stepped e kids (record { label = Label.object; kids = f }) ≡ set e.name (value_in e kids) f
    put_last no-null same =
        let absent-there : member_of e.name (record { label = Label.object; kids = f }) ≡ leaf Label.null_literal =
        get-member e.name (record { label = Label.object; kids = f }) ∙ ap (or_else (leaf Label.null_literal)) alone in
        rw (no-null, absent-there, same)

-- How deep

depth-get : (n : Text) (f : Members) (v : Value.Value) → get n f ≡ some v → depth v ≤ depths f
unfolding get depth depths
depth-get n Forest.none v h = absurd (none≢some h)
depth-get n (tree e kids rest) v h = go (same_text e.name n) h (depth-get n rest v)
  where
    go : (b : Bool) → (if b then some (value_in e kids) else get n rest) ≡ some v → (get n rest ≡ some v → depth v ≤ depths rest) →
        depth v ≤ max (levels e.label (depths kids)) (depths rest)
    go true h ih = let same : value_in e kids ≡ v = some_same h in omega (arith, ap depth same)
    go false h ih = omega (arith, ih h)

depths-set : (n : Text) (x : Value.Value) (f : Members) → depths (set n x f) ≤ max (depth x) (depths f)
unfolding set depth depths
depths-set n x Forest.none = omega arith
depths-set n x (tree e kids rest) = go (same_text e.name n) (depths-set n x rest)
  where
    go : (b : Bool) → depths (set n x rest) ≤ max (depth x) (depths rest) →
        depths (if b then tree (record { name = e.name; label = x.label }) x.kids rest else tree e kids (set n x rest)) ≤
        max (depth x) (max (levels e.label (depths kids)) (depths rest))
    go true ih = omega arith
    go false ih = omega arith

depths-drop : (n : Text) (f : Members) → depths (drop n f) ≤ depths f
unfolding drop depths
depths-drop n Forest.none = omega arith
depths-drop n (tree e kids rest) = go (same_text e.name n) (depths-drop n rest)
  where
    go : (b : Bool) → depths (drop n rest) ≤ depths rest
        → depths (if b then rest else tree e kids (drop n rest)) ≤ max (levels e.label (depths kids)) (depths rest)
    go true ih = omega arith
    go false ih = omega arith

depth-member : (n : Text) (t : Value.Value) → depth (member_of n t) ≤ depths t.kids
unfolding or_else depth levels is_container tag
depth-member n t = rw (get-member n t) (go (get n t.kids) refl)
  where
    go : (o : Option Value.Value) → get n t.kids ≡ o → depth (or_else (leaf Label.null_literal) o) ≤ depths t.kids
    go none e = omega arith
    go (some v) e = depth-get n t.kids v e

pub object-label : (l : Label) → is_object l ≡ true → l ≡ Label.object
unfolding is_object tag
object-label Label.null_literal h = absurd (true≢false (sym h))
object-label Label.true_literal h = absurd (true≢false (sym h))
object-label Label.false_literal h = absurd (true≢false (sym h))
object-label Label.array h = absurd (true≢false (sym h))
object-label Label.object h = refl
object-label (Label.number t) h = absurd (true≢false (sym h))
object-label (Label.string t) h = absurd (true≢false (sym h))

-- an object is one deeper than its members; the empty one that stands for another value is 1 deep
pub depth-as_object : (u : Value.Value) → ((as_object u).label ≡ Label.object) × (suc (depths (as_object u).kids) ≤ max (depth u) 1)
unfolding as_object depth levels is_container tag depths
depth-as_object u = go (is_object u.label) refl
  where
    go : (b : Bool) → is_object u.label ≡ b →
        ((if b then u else leaf Label.object).label ≡ Label.object) × (suc (depths (if b then u else leaf Label.object).kids) ≤ max (depth u) 1)
    go true h = (object-label u.label h, rw (object-label u.label h) (omega arith))
    go false h = (refl, omega arith)

-- what the procedure makes of a value, by what it makes of its members
value-depth : (l : Label) (kids : Members) (u : Value.Value) →
    ((t : Value.Value) → depths (merge_members kids t).kids ≤ max (depths t.kids) (depths kids)) →
    depth (merge_patch u (record { label = l; kids = kids })) ≤ max (depth u) (levels l (depths kids))
unfolding merge_patch depth levels is_container tag
value-depth l kids u members = go (is_object l) refl
  where
    go : (b : Bool) → is_object l ≡ b →
        depth (if b then merge_members kids (as_object u) else record { label = l; kids = kids }) ≤ max (depth u) (levels l (depths kids))
    go true h =
        let (object, shallow) = depth-as_object u in
        let label = label_kept kids (as_object u) ∙ object in
        rw (label, object-label l h) (omega (arith, members (as_object u), shallow))
    go false h = omega arith

step_depth : (e : Entry) (kids : Members) (t : Value.Value) →
    ((u : Value.Value) → depths (merge_members kids u).kids ≤ max (depths u.kids) (depths kids)) →
    depths (stepped e kids t) ≤ max (depths t.kids) (levels e.label (depths kids))
unfolding stepped
step_depth e kids t members = go (is_null e.label)
  where
    x : Value.Value
    x = merge_patch (member_of e.name t) (value_in e kids)

    go : (b : Bool) → depths (if b then drop e.name t.kids else set e.name x t.kids) ≤ max (depths t.kids) (levels e.label (depths kids))
    go true = omega (arith, depths-drop e.name t.kids)
    go false =
        omega (
          arith,
          depths-set e.name x t.kids,
          value-depth e.label kids (member_of e.name t) members,
          depth-member e.name t,
        )

members-depth : (p : Members) (t : Value.Value) → depths (merge_members p t).kids ≤ max (depths t.kids) (depths p)
unfolding merge_members depths
members-depth Forest.none t = omega arith
members-depth (tree e kids rest) t =
    rw (merge_step e kids rest t)
    (omega (arith, members-depth rest (with_kids t (stepped e kids t)), step_depth e kids t (members-depth kids)))

-- The statement

-- a proper value taken as an object has each name once
single-object : (t : Value.Value) → Proper t → Single (as_object t).kids
unfolding as_object
single-object t p = go (is_object t.label) refl
  where
    go : (b : Bool) → is_object t.label ≡ b → Single (if b then t else leaf Label.object).kids
    go true h = single (subst (λ b. ProperItems b t.kids) h p.items)
    go false h = no_member

single-patch : (p : Value.Value) → Proper p → p.label ≡ Label.object → Single p.kids
unfolding is_object tag
single-patch p q l = single (subst (λ m. ProperItems (is_object m) p.kids) l q.items)

itself : (t : Value.Value) → t.label ≡ Label.object → as_object t ≡ t
unfolding as_object is_object tag
itself t l = rw l

object-patch : (t p : Value.Value) → p.label ≡ Label.object → merge_patch t p ≡ merge_members p.kids (as_object t)
unfolding merge_patch is_object tag
object-patch t p l = rw l

pub merging : MergeStatement
unfolding merge_patch as_object is_object is_null tag depth found ◌⧺◌
merging =
    record {
      into_nothing = λ p q l w.
          object-patch (leaf Label.object) p l ∙
          added p.kids Forest.none (subst (λ m. ProperItems (is_object m) p.kids) l q.items) w (fresh_empty p.kids) ∙
          ap (λ m. record { label = m; kids = p.kids }) (sym l);
      whole = λ t p h. rw h;
      no-object = λ t p h l. object-patch t p l ∙ rw h (sym (object-patch (leaf Label.object) p l));
      unnamed = λ t p n l m h.
          let kept = others-kept p.kids (as_object t) n h in
          let object = label_kept p.kids (as_object t) ∙ (depth-as_object t).0 in
          ap (walk (n ∷ [])) (object-patch t p m) ∙ walk-get (merge_members p.kids (as_object t)) n object ∙
          ap found (kept ∙ ap (λ v. get n v.kids) (itself t l)) ∙ sym (walk-get t n l);
      null_removes = λ t p n pt pp l h.
          let met = found_some (get n p.kids) (sym (walk-get p n l) ∙ h) in
          absent_has n _ (ap (λ v. get n v.kids) (object-patch t p l) ∙
          null_gone p.kids (as_object t) n (leaf Label.null_literal) (single-patch p pp l) (single-object t pt) met refl);
      merges = λ t p x n pt pp l h z.
          let met = found_some (get n p.kids) (sym (walk-get p n l) ∙ h) in
          let object = label_kept p.kids (as_object t) ∙ (depth-as_object t).0 in
          ap (walk (n ∷ [])) (object-patch t p l) ∙ walk-get (merge_members p.kids (as_object t)) n object ∙
          ap found (pair_merged p.kids (as_object t) n x (single-patch p pp l) met z);
      positions = λ t p pt pp l.
          ap (λ v. v.kids) (object-patch t p l) ∙ parts p.kids (as_object t) (single-patch p pp l) (single-object t pt);
      no_deeper = λ t p. value-depth p.label p.kids t (members-depth p.kids);
    }
