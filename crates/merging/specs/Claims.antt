-- What RFC 7396 says of a merge patch, and what follows: of the definition `merge_patch`.
use Rattle.std.specs.Prelude.{◌≡◌, ◌≤◌, max, false, [], ◌∷◌}
use Rattle.spec.specs.Outcome.{ok}
use Rattle.spec.specs.Bytes.{Text}
use Rattle.spec.specs.Forest.{none, tree}
use Rattle.spec.specs.Value as Value
use Rattle.spec.specs.Value.{Label, Entry, Members, leaf, is_object, has, depth}
use Rattle.spec.specs.Pointer.{walk}
use Rattle.spec.specs.Proper.{Proper}
use Rattle.merging.specs.MergePatch.{is_null, as_object, member_of, merge_patch}
use Rattle.merging.specs.Parts.{merged_members}

-- no null among the members, at whatever depth of objects in objects; a null in an array does not count
pub data WithoutNulls : Members → Type 0 where
  empty : WithoutNulls none
  object : {e : Entry} {kids rest : Members} → e.label ≡ Label.object → WithoutNulls kids → WithoutNulls rest → WithoutNulls (tree e kids rest)
  other : {e : Entry} {kids rest : Members} → is_object e.label ≡ false → is_null e.label ≡ false → WithoutNulls rest →
      WithoutNulls (tree e kids rest)

pub record MergeStatement : Type 0 where
  -- "If the provided merge patch contains members that do not appear within the target, those members are added": to nothing, all of them are
  pub into_nothing : (p : Value.Value) → Proper p → p.label ≡ Label.object → WithoutNulls p.kids → merge_patch (leaf Label.object) p ≡ p
  -- T-02: "any other patch replaces the whole"
  pub whole : (t p : Value.Value) → is_object p.label ≡ false → merge_patch t p ≡ p
  -- "a target that is no object is taken as an empty one"
  pub no-object : (t p : Value.Value) → is_object t.label ≡ false → p.label ≡ Label.object → merge_patch t p ≡ merge_patch (leaf Label.object) p
  -- a member that the patch does not name is as it was
  pub unnamed : (t p : Value.Value) (n : Text) → t.label ≡ Label.object → p.label ≡ Label.object → has n p.kids ≡ false →
      walk (n ∷ []) (merge_patch t p) ≡ walk (n ∷ []) t
  -- "a null member removes"
  pub null_removes : (t p : Value.Value) (n : Text) → Proper t → Proper p → p.label ≡ Label.object → walk (n ∷ []) p ≡ ok (leaf Label.null_literal) →
      has n (merge_patch t p).kids ≡ false
  -- "merged member by member": any other member is what the procedure makes of the two
  pub merges : (t p x : Value.Value) (n : Text) → Proper t → Proper p → p.label ≡ Label.object → walk (n ∷ []) p ≡ ok x → is_null x.label ≡ false →
      walk (n ∷ []) (merge_patch t p) ≡ ok (merge_patch (member_of n (as_object t)) x)
  -- "Existing members keep their position, new ones go last"
  pub positions : (t p : Value.Value) → Proper t → Proper p → p.label ≡ Label.object → (merge_patch t p).kids ≡ merged_members (as_object t).kids p.kids
  -- the depth is at most that of the deeper of the two
  pub no_deeper : (t p : Value.Value) → depth (merge_patch t p) ≤ max (depth t) (depth p)
