-- The answer of the call with a region that lists origins: SPECIFICATION 15 and 19, T-05 and T-11. The region's rule is one on the patch's shape, so
-- all else is as in the plain call.
use Rattle.std.specs.Prelude.{ℕ, not, length, ltb, if◌then◌else◌}
use Rattle.spec.specs.Outcome.{Outcome, ok, refused}
use Rattle.spec.specs.Refusal.{work_too_short, input_too_long, malformed_pointer}
use Rattle.spec.specs.Limits.{max_bytes}
use Rattle.spec.specs.Bytes.{Bytes}
use Rattle.spec.specs.Value as Plain
use Rattle.spec.specs.Read.{read}
use Rattle.spec.specs.Pointer.{Tokens}
use Rattle.spec.specs.Answer.{Answer, Lent, refusal, work_suffices}
use Rattle.region.specs.Rule.{shape_within}
use Rattle.region.specs.Answer.{region_tokens}
use Rattle.origin.specs.Answer.{Listed, unlisted, Lending, applied}

unfoldable pub patched_within : ℕ → ℕ → Plain.Value → Plain.Value → Outcome Tokens → Listed Answer
patched_within room list document patch (ok region) = applied room list document (shape_within region patch)
patched_within room list document patch (refused number place) = unlisted (refusal malformed_pointer 0 0 0)

unfoldable pub on_patch_within : ℕ → ℕ → Plain.Value → Outcome Plain.Value → Bytes → Listed Answer
on_patch_within room list document (ok patch) region = patched_within room list document patch (region_tokens region)
on_patch_within room list document (refused number place) region = unlisted (refusal number 2 0 place)

unfoldable pub on_document_within : ℕ → ℕ → Outcome Plain.Value → Bytes → Bytes → Listed Answer
on_document_within room list (ok document) patch region = on_patch_within room list document (read patch) region
on_document_within room list (refused number place) patch region = unlisted (refusal number 1 0 place)

unfoldable pub answer_within : Bytes → Bytes → Bytes → Lending Lent → Listed Answer
answer_within document patch region lent =
    if not (work_suffices lent.call) then unlisted (refusal work_too_short 0 0 0) else
    if ltb max_bytes (length document) then unlisted (refusal input_too_long 1 0 0) else
    if ltb max_bytes (length patch) then unlisted (refusal input_too_long 2 0 0) else
    if ltb max_bytes (length region) then unlisted (refusal input_too_long 0 0 0) else
    on_document_within lent.call.output lent.list (read document) patch region
