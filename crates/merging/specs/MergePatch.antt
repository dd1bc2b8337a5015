-- JSON Merge Patch: RFC 7396, section 2, its procedure MergePatch(Target, Patch) line by line; positions as in SPECIFICATION 18.2, T-02.
use Rattle.std.specs.Prelude.{ℕ, Bool, not, length, leb, ltb, eqb, if◌then◌else◌}
use Rattle.spec.specs.Outcome.{Outcome, ok, refused}
use Rattle.spec.specs.Refusal.{work_too_short, input_too_long, too_many_nodes}
use Rattle.spec.specs.Limits.{max_bytes, max_nodes}
use Rattle.spec.specs.Bytes.{Bytes, Text}
use Rattle.spec.specs.Forest.{none, tree, remove_at}
use Rattle.spec.specs.Value as Value
use Rattle.spec.specs.Value.{Label, Members, leaf, tag, is_object, find, has, value_of, nodes}
use Rattle.spec.specs.Read.{read}
use Rattle.spec.specs.Write.{write}
use Rattle.spec.specs.Pointer.{child}
use Rattle.spec.specs.Operation.{with_kids, insert_member}
use Rattle.spec.specs.Answer.{Answer, Lent, refusal, fitting, work_suffices}

unfoldable pub is_null : Label → Bool
is_null l = eqb (tag l) 0

-- "if Target is not an Object: Target = {} # Ignore the contents and set it to an empty Object"
unfoldable pub as_object : Value.Value → Value.Value
as_object target = if is_object target.label then target else leaf Label.object

-- "if Value is null: if Name exists in Target: remove the Name/Value pair from Target"
unfoldable pub without : Text → Value.Value → Value.Value
without name target = if has name target.kids then with_kids target (remove_at (find name target.kids) target.kids) else target

-- "Target[Name]"; a name that does not exist stands for a value that is no object
unfoldable pub member_of : Text → Value.Value → Value.Value
member_of name target = if has name target.kids then value_of (child (find name target.kids) target) else leaf Label.null_literal

-- "for each Name/Value pair in Patch: if Value is null: [..] else: Target[Name] = MergePatch(Target[Name], Value)". T-02: "Existing
-- members keep their position, new ones go last."
unfoldable pub merge_members : Members → Value.Value → Value.Value
merge_members none target = target
merge_members (tree e kids rest) target =
    merge_members rest
    (if is_null e.label then without e.name target else
    insert_member
    (if is_object e.label then merge_members kids (as_object (member_of e.name target)) else record { label = e.label; kids = kids })
    e.name target)

-- "if Patch is an Object: [..] return Target else: return Patch"
unfoldable pub merge_patch : Value.Value → Value.Value → Value.Value
merge_patch target patch = if is_object patch.label then merge_members patch.kids (as_object target) else patch

-- ---- the answer: SPECIFICATION 18.3

-- T-02: "after it only 6 can arise from a limit, judged on the final result, with op 0"
unfoldable pub merged_in : ℕ → Value.Value → Answer
merged_in room merged = if leb (nodes merged) max_nodes then fitting room (write merged) else refusal too_many_nodes 0 0 0

unfoldable pub on_merge_patch : ℕ → Value.Value → Outcome Value.Value → Answer
on_merge_patch room document (ok patch) = merged_in room (merge_patch document patch)
on_merge_patch room document (refused number place) = refusal number 2 0 place

unfoldable pub on_merge_document : ℕ → Outcome Value.Value → Bytes → Answer
on_merge_document room (ok document) patch = on_merge_patch room document (read patch)
on_merge_document room (refused number place) patch = refusal number 1 0 place

-- 1, 2, then both texts read: SPECIFICATION 18.3
unfoldable pub merge_answer : Bytes → Bytes → Lent → Answer
merge_answer document patch lent =
    if not (work_suffices lent) then refusal work_too_short 0 0 0 else
    if ltb max_bytes (length document) then refusal input_too_long 1 0 0 else
    if ltb max_bytes (length patch) then refusal input_too_long 2 0 0 else on_merge_document lent.output (read document) patch
