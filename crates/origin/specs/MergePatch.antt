-- The merge patch on a target with origins: SPECIFICATION 19.2. T-11: "A merge patch counts as operation 1, also for the empty objects it makes."
-- Each definition is that of the crate merging.
use Rattle.std.specs.Prelude.{ℕ, if◌then◌else◌}
use Rattle.spec.specs.Bytes.{Text}
use Rattle.spec.specs.Forest.{none, tree, remove_at}
use Rattle.spec.specs.Value as Plain
use Rattle.spec.specs.Value.{Label, is_object}
use Rattle.merging.specs.MergePatch.{is_null}
use Rattle.origin.specs.Value as Value
use Rattle.origin.specs.Value.{leaf, value_of, painted, find, has}
use Rattle.origin.specs.Pointer.{child}
use Rattle.origin.specs.Operation.{with_kids, insert_member}

abbrev pub merge_origin : ℕ
merge_origin = 1

-- "Target = {}": an object that the merge makes. An object of the document stays, with its origin.
unfoldable pub as_object : Value.Value → Value.Value
as_object target = if is_object target.label then target else leaf merge_origin Label.object

unfoldable pub without : Text → Value.Value → Value.Value
without name target = if has name target.kids then with_kids target (remove_at (find name target.kids) target.kids) else target

-- a name that does not exist stands for a value that is no object
unfoldable pub member_of : Text → Value.Value → Value.Value
member_of name target = if has name target.kids then value_of (child (find name target.kids) target) else leaf merge_origin Label.null_literal

unfoldable pub merge_members : Plain.Members → Value.Value → Value.Value
merge_members none target = target
merge_members (tree e kids rest) target =
    merge_members rest
    (if is_null e.label then without e.name target else
    insert_member
    (if is_object e.label then merge_members kids (as_object (member_of e.name target))
    else painted merge_origin (record { label = e.label; kids = kids }))
    e.name target)

unfoldable pub merge_patch : Value.Value → Plain.Value → Value.Value
merge_patch target patch = if is_object patch.label then merge_members patch.kids (as_object target) else painted merge_origin patch
