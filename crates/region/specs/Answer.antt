-- The answer of the call with a region: SPECIFICATION 15.3. T-05: "The region is a pointer given with the call."
use Rattle.std.specs.Prelude.{ℕ, not, length, ltb, if◌then◌else◌}
use Rattle.spec.specs.Outcome.{Outcome, ok, refused, ◌>>=◌}
use Rattle.spec.specs.Refusal.{work_too_short, input_too_long, malformed_pointer}
use Rattle.spec.specs.Limits.{max_bytes}
use Rattle.spec.specs.Bytes.{Bytes}
use Rattle.spec.specs.Value as Value
use Rattle.spec.specs.Read.{read}
use Rattle.spec.specs.Pointer.{Tokens, tokens}
use Rattle.spec.specs.Operation.{limited}
use Rattle.spec.specs.Patch.{on_finish, run}
use Rattle.spec.specs.Answer.{Answer, refusal, Lent, work_suffices, answer_of}
use Rattle.fragment.specs.Link.{characters}
use Rattle.region.specs.Rule.{shape_within}

-- the tokens of a region, whose bytes are a pointer's text in UTF-8
unfoldable pub region_tokens : Bytes → Outcome Tokens
region_tokens region = characters region >>= tokens

-- "10 with op 0 for a region that is malformed or not UTF-8, after both texts are read and before the patch's shape is examined"; then the
-- shape with the rule, the operations one after another, then 16
unfoldable pub patched_within : ℕ → Value.Value → Value.Value → Outcome Tokens → Answer
patched_within room document patch (ok region) = answer_of room (on_finish (shape_within region patch) λ operations. run limited 1 operations document)
patched_within room document patch (refused number place) = refusal malformed_pointer 0 0 0

-- the whole patch read
unfoldable pub on_patch_within : ℕ → Value.Value → Outcome Value.Value → Bytes → Answer
on_patch_within room document (ok patch) region = patched_within room document patch (region_tokens region)
on_patch_within room document (refused number place) region = refusal number 2 0 place

-- the whole document read, then the patch
unfoldable pub on_document_within : ℕ → Outcome Value.Value → Bytes → Bytes → Answer
on_document_within room (ok document) patch region = on_patch_within room document (read patch) region
on_document_within room (refused number place) patch region = refusal number 1 0 place

-- "2 with text 0 for a region over 32,768 bytes, after the two texts' lengths"
unfoldable pub answer_within : Bytes → Bytes → Bytes → Lent → Answer
answer_within document patch region lent =
    if not (work_suffices lent) then refusal work_too_short 0 0 0 else
    if ltb max_bytes (length document) then refusal input_too_long 1 0 0 else
    if ltb max_bytes (length patch) then refusal input_too_long 2 0 0 else
    if ltb max_bytes (length region) then refusal input_too_long 0 0 0 else on_document_within lent.output (read document) patch region
