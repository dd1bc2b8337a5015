-- What a merge makes of the members, position by position, with their origins. Apart from those, each definition is that of crate merging.
use Rattle.std.specs.Prelude.{if◌then◌else◌}
use Rattle.std.proofs.Math.Option.{Option, none, some}
use Rattle.spec.specs.Bytes.{Text}
use Rattle.spec.specs.Forest.{Forest, tree, single, ◌⧺◌}
use Rattle.spec.specs.Value as Plain
use Rattle.spec.specs.Value.{Label}
use Rattle.merging.specs.MergePatch.{is_null}
use Rattle.merging.specs.Parts.{get}
use Rattle.origin.specs.Value as Value
use Rattle.origin.specs.Value.{Entry, Members, leaf, named, forget_members}
use Rattle.origin.specs.MergePatch.{merge_origin, merge_patch}

-- each member replaced by any number of members
unfoldable pub gather : {A : Type 0} → (A → Forest A → Members) → Forest A → Members
gather one Forest.none = Forest.none
gather one (tree e kids rest) = one e kids ⧺ gather one rest

-- a value of the target under its name, by what the patch has under it
unfoldable pub kept_by : Text → Value.Value → Option Plain.Value → Members
kept_by n v none = single (named n v)
kept_by n v (some x) = if is_null x.label then Forest.none else single (named n (merge_patch v x))

unfoldable pub kept : Plain.Members → Entry → Members → Members
kept patch e kids = kept_by e.name (record { label = e.label; origin = e.origin; kids = kids }) (get e.name patch)

-- a member of the patch, by the names that the target has
unfoldable pub appended : Plain.Members → Plain.Entry → Plain.Members → Members
appended target e kids =
    if Plain.has e.name target then Forest.none else
    if is_null e.label then Forest.none else
    single (named e.name (merge_patch (leaf merge_origin Label.null_literal) (record { label = e.label; kids = kids })))

unfoldable pub merged_members : Members → Plain.Members → Members
merged_members target patch = gather (kept patch) target ⧺ gather (appended (forget_members target)) patch
