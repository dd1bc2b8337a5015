-- What a merge makes of the members, position by position. SPECIFICATION 18.2, T-02: "Existing members keep their position, new ones go last." First stand
-- the target's members, each as it was, merged, or not at all; then those of the patch that the target does not have.
use Rattle.std.specs.Prelude.{if◌then◌else◌}
use Rattle.std.proofs.Math.Option.{Option, none, some}
use Rattle.spec.specs.Bytes.{Text}
use Rattle.spec.specs.Forest as Forest
use Rattle.spec.specs.Forest.{tree, single, ◌⧺◌}
use Rattle.spec.specs.Value as Value
use Rattle.spec.specs.Value.{Label, Entry, Members, leaf, named, same_text, has}
use Rattle.merging.specs.MergePatch.{is_null, merge_patch}

-- the value so named
unfoldable pub get : Text → Members → Option Value.Value
get n Forest.none = none
get n (tree e kids rest) = if same_text e.name n then some (record { label = e.label; kids = kids }) else get n rest

-- each member replaced by any number of members
unfoldable pub gather : (Entry → Members → Members) → Members → Members
gather one Forest.none = Forest.none
gather one (tree e kids rest) = one e kids ⧺ gather one rest

-- a value of the target under its name, by what the patch has under it
unfoldable pub kept_by : Text → Value.Value → Option Value.Value → Members
kept_by n v none = single (named n v)
kept_by n v (some x) = if is_null x.label then Forest.none else single (named n (merge_patch v x))

unfoldable pub kept : Members → Entry → Members → Members
kept patch e kids = kept_by e.name (record { label = e.label; kids = kids }) (get e.name patch)

-- a member of the patch: "if Value is null" nothing is added
unfoldable pub appended : Members → Entry → Members → Members
appended target e kids =
    if has e.name target then Forest.none else
    if is_null e.label then Forest.none else single (named e.name (merge_patch (leaf Label.null_literal) (record { label = e.label; kids = kids })))

unfoldable pub merged_members : Members → Members → Members
merged_members target patch = gather (kept patch) target ⧺ gather (appended target) patch
