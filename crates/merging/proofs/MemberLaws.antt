-- Members by their names: looked up, set and dropped.
use Rattle.std.specs.Prelude.{if◌then◌else◌}
use mathlib.Core.Path.{◌≡◌, refl, ap, sym, ◌∙◌}
use mathlib.Core.Bool.{Bool, true, false, true≢false}
use mathlib.Core.List.{[]}
use mathlib.Core.Option.{Option, none, some}
use Prim.Native.Nat.{suc}
use Rattle.spec.specs.Bytes.{Text}
use Rattle.spec.specs.Forest as Forest
use Rattle.spec.specs.Forest.{tree, Tree, count, before, from, insert_at, remove_at, replace_at, nth, ◌⧺◌}
use Rattle.spec.specs.Value as Value
use Rattle.spec.specs.Value.{Label, Entry, Members, same_text, find, has, named, value_of, leaf}
use Rattle.spec.specs.Pointer.{child}
use Rattle.spec.specs.Operation.{with_kids, put, insert_member}
use Rattle.spec.proofs.TextLaws.{same_text_true, same_text_refl, same_text_false, same_text-apart}
use Rattle.spec.proofs.NameLaws.{has_cons}
use Rattle.merging.specs.MergePatch.{without, member_of}
use Rattle.merging.specs.Parts.{get}

-- the member so named has another value; where there is none, it is put last
unfoldable pub set : Text → Value.Value → Members → Members
set n x Forest.none = tree (record { name = n; label = x.label }) x.kids Forest.none
set n x (tree e kids rest) = if same_text e.name n then tree (record { name = e.name; label = x.label }) x.kids rest else tree e kids (set n x rest)

-- the member so named is gone
unfoldable pub drop : Text → Members → Members
drop n Forest.none = Forest.none
drop n (tree e kids rest) = if same_text e.name n then rest else tree e kids (drop n rest)

unfoldable pub is_some : {A : Type 0} → Option A → Bool
is_some none = false
is_some (some a) = true

-- These are the operations of the definitions.
set_is : (z : Tree Entry) (n : Text) (x : Value.Value) (f : Members) →
    (if has n f then replace_at (find n f) (named (nth z (find n f) f).root.name x) f else insert_at (count f) (named n x) f) ≡ set n x f
unfolding set find count replace_at insert_at before from nth ◌⧺◌
set_is z n x Forest.none = refl
set_is z n x (tree e kids rest) = rw (has_cons n e kids rest) (go (same_text e.name n) (has n rest) (set_is z n x rest))
  where
    go : (b c : Bool) →
        (if c then replace_at (find n rest) (named (nth z (find n rest) rest).root.name x) rest else insert_at (count rest) (named n x) rest) ≡ set n x rest →
        (if (if b then true else c) then
        replace_at (if b then 0 else suc (find n rest)) (named (nth z (if b then 0 else suc (find n rest)) (tree e kids rest)).root.name x) (tree e kids rest)
        else insert_at (suc (count rest)) (named n x) (tree e kids rest)) ≡
        (if b then tree (record { name = e.name; label = x.label }) x.kids rest else tree e kids (set n x rest))
    go true c ih = refl
    go false true ih = ap (tree e kids) ih
    go false false ih = ap (tree e kids) ih

drop_is : (n : Text) (f : Members) → (if has n f then remove_at (find n f) f else f) ≡ drop n f
unfolding drop find count remove_at before from ◌⧺◌
drop_is n Forest.none = refl
drop_is n (tree e kids rest) = rw (has_cons n e kids rest) (go (same_text e.name n) (has n rest) (drop_is n rest))
  where
    go : (b c : Bool) → (if c then remove_at (find n rest) rest else rest) ≡ drop n rest →
        (if (if b then true else c) then remove_at (if b then 0 else suc (find n rest)) (tree e kids rest) else tree e kids rest) ≡
        (if b then rest else tree e kids (drop n rest))
    go true c ih = refl
    go false true ih = ap (tree e kids) ih
    go false false ih = ap (tree e kids) ih

-- a value so named, or another
unfoldable pub or_else : Value.Value → Option Value.Value → Value.Value
or_else other none = other
or_else other (some v) = v

pub get_is : (z : Tree Entry) (other : Value.Value) (n : Text) (f : Members) →
    (if has n f then value_of (nth z (find n f) f) else other) ≡ or_else other (get n f)
unfolding or_else get find count nth
get_is z other n Forest.none = refl
get_is z other n (tree e kids rest) = rw (has_cons n e kids rest) (go (same_text e.name n) (has n rest) (get_is z other n rest))
  where
    go : (b c : Bool) → (if c then value_of (nth z (find n rest) rest) else other) ≡ or_else other (get n rest) →
        (if (if b then true else c) then value_of (nth z (if b then 0 else suc (find n rest)) (tree e kids rest)) else other) ≡
        or_else other (if b then some (record { label = e.label; kids = kids }) else get n rest)
    go true c ih = refl
    go false true ih = ih
    go false false ih = ih

pub has-get : (n : Text) (f : Members) → has n f ≡ is_some (get n f)
unfolding is_some get find count
has-get n Forest.none = refl
has-get n (tree e kids rest) = rw (has_cons n e kids rest) (go (same_text e.name n) (has-get n rest))
  where
    go : (b : Bool) → has n rest ≡ is_some (get n rest) →
        (if b then true else has n rest) ≡ is_some (if b then some (record { label = e.label; kids = kids }) else get n rest)
    go true ih = refl
    go false ih = ih

pub absent : (n : Text) (f : Members) → has n f ≡ false → get n f ≡ none
unfolding is_some
absent n f h = go (get n f) (sym (has-get n f) ∙ h)
  where
    go : (o : Option Value.Value) → is_some o ≡ false → o ≡ none
    go none e = refl
    go (some v) e = absurd (true≢false e)

pub absent_has : (n : Text) (f : Members) → get n f ≡ none → has n f ≡ false
unfolding is_some
absent_has n f h = has-get n f ∙ ap is_some h

-- of an object
pub set-member : (n : Text) (x v : Value.Value) → insert_member x n v ≡ with_kids v (set n x v.kids)
unfolding insert_member put child
set-member n x v = go (has n v.kids) refl
  where
    z : Tree Entry
    z = named [] (leaf Label.null_literal)

    go : (b : Bool) → has n v.kids ≡ b →
        (if b then with_kids v (replace_at (find n v.kids) (named (nth z (find n v.kids) v.kids).root.name x) v.kids)
        else with_kids v (insert_at (count v.kids) (named n x) v.kids)) ≡ with_kids v (set n x v.kids)
    go true h = ap (with_kids v) (rw h at (set_is z n x v.kids))
    go false h = ap (with_kids v) (rw h at (set_is z n x v.kids))

pub drop-member : (n : Text) (v : Value.Value) → without n v ≡ with_kids v (drop n v.kids)
unfolding without
drop-member n v = go (has n v.kids) refl
  where
    go : (b : Bool) → has n v.kids ≡ b →
        (if b then with_kids v (remove_at (find n v.kids) v.kids) else v) ≡ with_kids v (drop n v.kids)
    go true h = ap (with_kids v) (rw h at (drop_is n v.kids))
    go false h = ap (with_kids v) (rw h at (drop_is n v.kids))

pub get-member : (n : Text) (v : Value.Value) → member_of n v ≡ or_else (leaf Label.null_literal) (get n v.kids)
unfolding member_of child
get-member n v = get_is (named [] (leaf Label.null_literal)) (leaf Label.null_literal) n v.kids

-- What is looked up afterwards

flipped : (m n : Text) → same_text m n ≡ false → same_text n m ≡ false
flipped m n h = same_text-apart n m (λ e. same_text_false m n h (sym e))

pub get_set : (n : Text) (x : Value.Value) (f : Members) → get n (set n x f) ≡ some x
unfolding get set
get_set n x Forest.none = rw (same_text_refl n)
get_set n x (tree e kids rest) = go (same_text e.name n) refl (get_set n x rest)
  where
    go : (b : Bool) → same_text e.name n ≡ b → get n (set n x rest) ≡ some x →
        get n (if b then tree (record { name = e.name; label = x.label }) x.kids rest else tree e kids (set n x rest)) ≡ some x
    go true q ih = rw q
    go false q ih = rw q ih

module _ (n m : Text) (apart : same_text n m ≡ false) where
  pub get_set_other : (x : Value.Value) (f : Members) → get m (set n x f) ≡ get m f
  unfolding get set
  get_set_other x Forest.none = rw apart
  get_set_other x (tree e kids rest) = go (same_text e.name n) refl (get_set_other x rest)
    where
      go : (b : Bool) → same_text e.name n ≡ b → get m (set n x rest) ≡ get m rest →
          get m (if b then tree (record { name = e.name; label = x.label }) x.kids rest else tree e kids (set n x rest)) ≡
          (if same_text e.name m then some (record { label = e.label; kids = kids }) else get m rest)
      go true q ih = let here : same_text e.name m ≡ false = rw (same_text_true e.name n q) apart in rw here
      go false q ih = ap (λ o. (if same_text e.name m then some (record { label = e.label; kids = kids }) else o)) ih

  pub get-drop-other : (f : Members) → get m (drop n f) ≡ get m f
  unfolding get drop
  get-drop-other Forest.none = refl
  get-drop-other (tree e kids rest) = go (same_text e.name n) refl (get-drop-other rest)
    where
      go : (b : Bool) → same_text e.name n ≡ b → get m (drop n rest) ≡ get m rest →
          get m (if b then rest else tree e kids (drop n rest)) ≡
          (if same_text e.name m then some (record { label = e.label; kids = kids }) else get m rest)
      go true q ih = let here : same_text e.name m ≡ false = rw (same_text_true e.name n q) apart in rw here
      go false q ih = ap (λ o. (if same_text e.name m then some (record { label = e.label; kids = kids }) else o)) ih

-- no two members have one name
pub data Single : Members → Type 0 where
  no_member : Single Forest.none
  one-member : {e : Entry} {kids rest : Members} → get e.name rest ≡ none → Single rest → Single (tree e kids rest)

pub get_drop : (n : Text) (f : Members) → Single f → get n (drop n f) ≡ none
unfolding get drop
get_drop n Forest.none no_member = refl
get_drop n (tree e kids rest) (one-member alone s) = go (same_text e.name n) refl (get_drop n rest s)
  where
    go : (b : Bool) → same_text e.name n ≡ b → get n (drop n rest) ≡ none → get n (if b then rest else tree e kids (drop n rest)) ≡ none
    go true q ih = ap (λ k. get k rest) (sym (same_text_true e.name n q)) ∙ alone
    go false q ih = rw q ih

pub single-set : (n : Text) (x : Value.Value) {f : Members} → Single f → Single (set n x f)
unfolding set get
single-set n x no_member = one-member refl no_member
single-set n x (one-member {e} {kids} {rest} alone s) = go (same_text e.name n) refl (single-set n x s)
  where
    go : (b : Bool) → same_text e.name n ≡ b → Single (set n x rest) →
        Single (if b then tree (record { name = e.name; label = x.label }) x.kids rest else tree e kids (set n x rest))
    go true q ih = one-member alone s
    go false q ih = one-member (get_set_other n e.name (flipped e.name n q) x rest ∙ alone) ih

pub single-drop : (n : Text) {f : Members} → Single f → Single (drop n f)
unfolding drop
single-drop n no_member = no_member
single-drop n (one-member {e} {kids} {rest} alone s) = go (same_text e.name n) refl (single-drop n s)
  where
    go : (b : Bool) → same_text e.name n ≡ b → Single (drop n rest) → Single (if b then rest else tree e kids (drop n rest))
    go true q ih = s
    go false q ih = one-member (get-drop-other n e.name (flipped e.name n q) rest ∙ alone) ih
