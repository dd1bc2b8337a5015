-- With origins forgotten, the merge patch is the plain one.
use Rattle.std.specs.Prelude.{if◌then◌else◌}
use mathlib.Core.Path.{◌≡◌, refl, ap, ◌∙◌}
use mathlib.Core.Bool.{Bool, true, false}
use Rattle.spec.specs.Bytes.{Text}
use Rattle.spec.specs.Forest.{none, tree, remove_at}
use Rattle.spec.specs.Value as Plain
use Rattle.spec.specs.Value.{Label, is_object}
use Rattle.spec.specs.Operation as PlainOperation
use Rattle.merging.specs.MergePatch as PlainMerge
use Rattle.merging.specs.MergePatch.{is_null}
use Rattle.tape.specs.Map.{map_forest}
use Rattle.origin.specs.Value as Value
use Rattle.origin.specs.Value.{leaf, value_of, forget, painted, find, has}
use Rattle.origin.specs.Pointer.{child}
use Rattle.origin.specs.Operation.{with_kids, insert_member}
use Rattle.origin.specs.MergePatch.{merge_origin, as_object, without, member_of, merge_members, merge_patch}
use Rattle.origin.proofs.ForgetLaws.{forget-painted, forget-value_of, forget_remove, forget-insert_member}

forget_if : (b : Bool) (x y : Value.Value) {x' y' : Plain.Value} → forget x ≡ x' → forget y ≡ y' → forget (if b then x else y) ≡ (if b then x' else y')
forget_if true x y p q = p
forget_if false x y p q = q

forget-as_object : (t : Value.Value) → forget (as_object t) ≡ PlainMerge.as_object (forget t)
unfolding as_object PlainMerge.as_object map_forest
forget-as_object t = forget_if (is_object t.label) t _ refl refl

forget-without : (n : Text) (t : Value.Value) → forget (without n t) ≡ PlainMerge.without n (forget t)
unfolding without PlainMerge.without
forget-without n t = forget_if (has n t.kids) (with_kids t (remove_at (find n t.kids) t.kids)) t (forget_remove (find n t.kids) t) refl

forget-member_of : (n : Text) (t : Value.Value) → forget (member_of n t) ≡ PlainMerge.member_of n (forget t)
unfolding member_of PlainMerge.member_of map_forest
forget-member_of n t =
    forget_if (has n t.kids) (value_of (child (find n t.kids) t)) (leaf merge_origin Label.null_literal) (forget-value_of (find n t.kids) t) refl

pub forget-merge_members : (p : Plain.Members) (t : Value.Value) → forget (merge_members p t) ≡ PlainMerge.merge_members p (forget t)
unfolding merge_members PlainMerge.merge_members
forget-merge_members none t = refl
forget-merge_members (tree e kids rest) t =
    forget-merge_members rest (if is_null e.label then without e.name t else insert_member x e.name t) ∙
    ap (PlainMerge.merge_members rest)
    (forget_if (is_null e.label) (without e.name t) (insert_member x e.name t) (forget-without e.name t)
    (forget-insert_member x e.name t ∙
    ap (λ y. PlainOperation.insert_member y e.name (forget t))
    (forget_if (is_object e.label) (merge_members kids (as_object (member_of e.name t))) (painted merge_origin whole)
    (forget-merge_members kids (as_object (member_of e.name t)) ∙
    ap (PlainMerge.merge_members kids) (forget-as_object (member_of e.name t) ∙ ap PlainMerge.as_object (forget-member_of e.name t)))
    (forget-painted merge_origin whole))))
  where
    whole : Plain.Value
    whole = record { label = e.label; kids = kids }

    x : Value.Value
    x = (if is_object e.label then merge_members kids (as_object (member_of e.name t)) else painted merge_origin whole)

pub forget-merge_patch : (target : Value.Value) (patch : Plain.Value) → forget (merge_patch target patch) ≡ PlainMerge.merge_patch (forget target) patch
unfolding merge_patch PlainMerge.merge_patch
forget-merge_patch target patch =
    forget_if (is_object patch.label) (merge_members patch.kids (as_object target)) (painted merge_origin patch)
    (forget-merge_members patch.kids (as_object target) ∙ ap (PlainMerge.merge_members patch.kids) (forget-as_object target))
    (forget-painted merge_origin patch)
