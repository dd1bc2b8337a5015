-- What holds of each origin of a value still holds after an operation or a merge, where it holds of what is put in.
use Rattle.std.specs.Prelude.{if◌then◌else◌}
use mathlib.Core.Path.{◌≡◌, refl, ap, ap₂, sym, subst, ◌∙◌}
use mathlib.Core.Bool.{Bool, true, false}
use mathlib.Core.List.{List, [], ◌∷◌, ◌++◌}
use Prim.Native.Nat.{ℕ, zero, suc, ◌≤◌, ◌<◌, ◌+◌}
use native.Mathlib.Omega.{arith}
use lib.ListN.{length, replicate}
use borrow.Author.Tests.{ltb-true}
use Rattle.spec.specs.Outcome.{ok}
use Rattle.spec.specs.Bytes.{Text}
use Rattle.spec.specs.Forest.{none, tree, count, insert_at, remove_at}
use Rattle.spec.specs.Value as Plain
use Rattle.spec.specs.Value.{Label, is_object}
use Rattle.spec.specs.Pointer.{Tokens}
use Rattle.spec.specs.Operation.{Kind, add, remove, replace, move, copy, test, Operation}
use Rattle.spec.specs.Patch.{finished}
use Rattle.tape.specs.Map.{map_forest}
use Rattle.tape.proofs.Map.{count_map}
use Rattle.merging.specs.MergePatch.{is_null}
use Rattle.origin.specs.Value as Value
use Rattle.origin.specs.Value.{Members, leaf, named, value_of, forget_entry, forget_members, forget, painted_entry, painted, nodes}
use Rattle.origin.specs.Value.{origins_of, origins, find, has}
use Rattle.origin.specs.Pointer.{child, walk}
use Rattle.origin.specs.Operation.{with_kids, put, insert_member, perform, limited}
use Rattle.origin.specs.Patch.{run}
use Rattle.origin.specs.MergePatch.{merge_origin, as_object, without, member_of, merge_members, merge_patch}
use Rattle.origin.specs.Claims as Claims
use Rattle.origin.specs.Claims.{Each, another, Exchanged, Stands, OneOperation}
use Rattle.origin.proofs.ExchangeLaws.{exchanged_whole, exchanged_insert, exchanged_remove, exchanged_put, origins-painted}
use Rattle.origin.proofs.OperationLaws.{one-operation}
use Rattle.origin.proofs.RunLaws.{run-first, limited_made}

-- ---- lists
module _ {P : ℕ → Type 0} where
  pub each_++ : {xs ys : List ℕ} → Each P xs → Each P ys → Each P (xs ++ ys)
  each_++ Claims.nothing q = q
  each_++ (another p ps) q = another p (each_++ ps q)

  pub each_parts : (xs ys : List ℕ) → Each P (xs ++ ys) → Each P xs × Each P ys
  each_parts [] ys p = (Claims.nothing, p)
  each_parts (x ∷ xs) ys (another p ps) = let (a, b) = each_parts xs ys ps in (another p a, b)

  pub each_replicate : (n k : ℕ) → P k → Each P (replicate n k)
  each_replicate zero k p = Claims.nothing
  each_replicate (suc n) k p = another p (each_replicate n k p)

  pub each_exchanged : {old new b a : List ℕ} → Exchanged old new b a → Each P b → Each P new → Each P a
  each_exchanged {old} {new} e p q =
      let (l, m) = each_parts e.left (old ++ e.right) (subst (Each P) e.was p) in
      let (o, r) = each_parts old e.right m in
      subst (Each P) (sym e.is) (each_++ l (each_++ q r))

  -- what was exchanged was there
  pub each_old : {old new b a : List ℕ} → Exchanged old new b a → Each P b → Each P old
  each_old {old} e p = (each_parts old e.right (each_parts e.left (old ++ e.right) (subst (Each P) e.was p)).1).0

pub each_weaken : {P Q : ℕ → Type 0} {xs : List ℕ} → ((k : ℕ) → P k → Q k) → Each P xs → Each Q xs
each_weaken f Claims.nothing = Claims.nothing
each_weaken f (another p ps) = another (f _ p) (each_weaken f ps)

-- ---- one operation, and a run
stood_is : {path : Tokens} {v x : Value.Value} {old : List ℕ} → Stands path v old → walk path v ≡ ok x → old ≡ origins x
stood_is {x = x} (Claims.value {y} e) h = let same : y ≡ x = cc in ap origins same

module _ (P : ℕ → Type 0) where
  perform_each : (k : ℕ) (o : Operation) (v w : Value.Value) → P k → Each P (origins v) → perform k o v ≡ ok w → Each P (origins w)
  perform_each k o v w new old h = go o.kind refl
    where
      all : OneOperation k o v w
      all = one-operation k o v w h

      go : (kind : Kind) → o.kind ≡ kind → Each P (origins w)
      go add q = each_exchanged (all.add q).exchanged old (each_replicate (Plain.nodes o.value) k new)
      go remove q = each_exchanged (all.remove q).exchanged old Claims.nothing
      go replace q = each_exchanged (all.replace q).exchanged old (each_replicate (Plain.nodes o.value) k new)
      go move q = moved o.from refl
        where
          moved : (from : Tokens) → o.from ≡ from → Each P (origins w)
          moved [] r = rw (all.move_root q r) old
          moved (t ∷ ts) r =
              let (x, left, e, f, out, in-there) = all.move t ts q r in
              let own = subst (Each P) (stood_is out.stood e) (each_old out.exchanged old) in
              each_exchanged in-there.exchanged (each_exchanged out.exchanged old Claims.nothing) own
      go copy q = let (x, e, p) = all.copy q in each_exchanged p.exchanged old (each_replicate (nodes x) k new)
      go test q = rw (all.test q) old

  -- operations from op on, each of which may put in its number
  pub run_each : (op : ℕ) (os : List Operation) (v w : Value.Value) → ((k : ℕ) → op ≤ k → k < op + length os → P k) → Each P (origins v) →
      run limited op os v ≡ finished w → Each P (origins w)
  unfolding run
  run_each op [] v w may old h = let same : v ≡ w = cc in subst (λ v. Each P (origins v)) same old
  run_each op (o ∷ os) v w may old h =
      let (u, made, rest) = run-first op o os v w h in
      run_each (op + 1) os u w (λ k l m. may k (omega arith) (omega arith))
      (perform_each op o v u (may op (omega arith) (omega arith)) old (limited_made op o v u made).0) rest

-- ---- the merge
member-there : (n : Text) (v : Value.Value) → has n v.kids ≡ true → find n v.kids < count v.kids
member-there n v h = subst (λ m. find n v.kids < m) (count_map forget_entry v.kids) (ltb-true (find n v.kids) (count (forget_members v.kids)) h)

module _ (P : ℕ → Type 0) where
  abbrev Bears : Value.Value → Type 0
  Bears v = Each P (origins v)

  if_bears : (b : Bool) (x y : Value.Value) → (b ≡ true → Bears x) → (b ≡ false → Bears y) → Bears (if b then x else y)
  if_bears true x y p q = p refl
  if_bears false x y p q = q refl

  insert_bears : (x : Value.Value) (n : Text) (v : Value.Value) → Bears x → Bears v → Bears (insert_member x n v)
  unfolding insert_member
  insert_bears x n v new old =
      if_bears (has n v.kids) (put k x v) (with_kids v (insert_at (count v.kids) (named n x) v.kids))
      (λ h. each_exchanged (exchanged_put k v (member-there n v h) x (exchanged_whole (origins (value_of (child k v))) (origins x))) old new)
      (λ _. each_exchanged (exchanged_insert (count v.kids) v n x) old new)
    where
      k : ℕ
      k = find n v.kids

  without_bears : (n : Text) (v : Value.Value) → Bears v → Bears (without n v)
  unfolding without
  without_bears n v old =
      if_bears (has n v.kids) (with_kids v (remove_at (find n v.kids) v.kids)) v
      (λ h. each_exchanged (exchanged_remove (find n v.kids) v (member-there n v h)) old Claims.nothing) (λ _. old)

  module _ (merges : P merge_origin) where
    leaf_bears : (l : Label) → Bears (leaf merge_origin l)
    unfolding origins origins_of
    leaf_bears l = another merges Claims.nothing

    object-bears : (v : Value.Value) → Bears v → Bears (as_object v)
    unfolding as_object
    object-bears v old = if_bears (is_object v.label) v (leaf merge_origin Label.object) (λ _. old) (λ _. leaf_bears Label.object)

    member-bears : (n : Text) (v : Value.Value) → Bears v → Bears (member_of n v)
    unfolding member_of
    member-bears n v old =
        if_bears (has n v.kids) (value_of (child (find n v.kids) v)) (leaf merge_origin Label.null_literal)
        (λ h. each_old (exchanged_remove (find n v.kids) v (member-there n v h)) old) (λ _. leaf_bears Label.null_literal)

    painted_bears : (p : Plain.Value) → Bears (painted merge_origin p)
    painted_bears p = subst (Each P) (sym (origins-painted merge_origin p)) (each_replicate (Plain.nodes p) merge_origin merges)

    members-bear : (p : Plain.Members) (v : Value.Value) → Bears v → Bears (merge_members p v)
    unfolding merge_members
    members-bear none v old = old
    members-bear (tree e kids rest) v old =
        members-bear rest (if is_null e.label then without e.name v else insert_member x e.name v)
        (if_bears (is_null e.label) (without e.name v) (insert_member x e.name v) (λ _. without_bears e.name v old)
        (λ _. insert_bears x e.name v
        (if_bears (is_object e.label) (merge_members kids (as_object (member_of e.name v))) (painted merge_origin whole)
        (λ _. members-bear kids (as_object (member_of e.name v)) (object-bears (member_of e.name v) (member-bears e.name v old)))
        (λ _. painted_bears whole)) old))
      where
        whole : Plain.Value
        whole = record { label = e.label; kids = kids }

        x : Value.Value
        x = (if is_object e.label then merge_members kids (as_object (member_of e.name v)) else painted merge_origin whole)

    pub merge_bears : (v : Value.Value) (p : Plain.Value) → Each P (origins v) → Each P (origins (merge_patch v p))
    unfolding merge_patch
    merge_bears v p old =
        if_bears (is_object p.label) (merge_members p.kids (as_object v)) (painted merge_origin p)
        (λ _. members-bear p.kids (as_object v) (object-bears v old)) (λ _. painted_bears p)

-- ---- all of one origin
all_painted : (k : ℕ) (f : Members) → Each (λ j. j ≡ k) (origins_of f) → f ≡ map_forest (painted_entry k) (forget_members f)
unfolding origins_of map_forest
all_painted k none p = refl
all_painted k (tree e kids rest) (another p ps) =
    let (a, b) = each_parts (origins_of kids) (origins_of rest) ps in
    ap (λ o. tree (record { name = e.name; label = e.label; origin = o }) kids rest) p ∙
    ap₂ (tree (painted_entry k (forget_entry e))) (all_painted k kids a) (all_painted k rest b)

pub each_painted : (k : ℕ) (v : Value.Value) → Each (λ j. j ≡ k) (origins v) → v ≡ painted k (forget v)
unfolding origins
each_painted k v (another p ps) =
    ap (λ o. record { label = v.label; origin = o; kids = v.kids }) p ∙
    ap (λ f. record { label = v.label; origin = k; kids = f }) (all_painted k v.kids ps)
