-- The call with a region that lists origins: specs/Claims.
use mathlib.Core.Path.{◌≡◌, refl}
use mathlib.Core.Bool.{not}
use mathlib.Core.List.{List}
use Prim.Native.Nat.{ℕ, ◌≤◌}
use lib.ListN.{length}
use lib.Dec.{ltb}
use Rattle.spec.specs.Outcome.{Outcome, ok, refused}
use Rattle.spec.specs.Limits.{max_bytes, max_nodes, max_operations}
use Rattle.spec.specs.Bytes.{Bytes}
use Rattle.spec.specs.Value as PlainValue
use Rattle.spec.specs.Read.{read}
use Rattle.spec.specs.Pointer.{Tokens}
use Rattle.spec.specs.Operation.{Operation}
use Rattle.spec.specs.Patch.{finished}
use Rattle.spec.specs.Answer.{Lent, refusal, work_suffices}
use Rattle.spec.proofs.ShapeTheorem.{shaped_so}
use Rattle.claims.proofs.ReadProper.{read_proper}
use Rattle.region.specs.Rule.{shape_within}
use Rattle.region.specs.Answer as Plain
use Rattle.region.specs.Answer.{region_tokens}
use Rattle.region.proofs.ClaimTheorems.{shaped_within}
use Rattle.origin.specs.Answer.{unlisted, Lending}
use Rattle.origin.specs.Forgetting.{Lists}
use Rattle.origin.proofs.AnswerLaws.{refusal_lists, if_lists, applied_lists, lists_same, lists_nothing}
use Rattle.origin.proofs.OriginTheorem.{Right, no_list, if_right, shape_few, applied_right}
use Rattle.origin_within.specs.Answer.{patched_within, on_patch_within, on_document_within, answer_within}
use Rattle.origin_within.specs.Claims.{WithinStatement}

-- ---- beside the plain call
region_lists : (room list : ℕ) (d p : PlainValue.Value) (region : Outcome Tokens) → PlainValue.nodes d ≤ max_nodes →
    Lists list (Plain.patched_within room d p region) (patched_within room list d p region)
unfolding patched_within Plain.patched_within
region_lists room list d p (ok region) few = applied_lists room list d (shape_within region p) few
region_lists room list d p (refused number place) few = refusal_lists list (refusal 10 0 0 0)

patch_lists : (room list : ℕ) (d : PlainValue.Value) (p : Outcome PlainValue.Value) (region : Bytes) → PlainValue.nodes d ≤ max_nodes →
    Lists list (Plain.on_patch_within room d p region) (on_patch_within room list d p region)
unfolding on_patch_within Plain.on_patch_within
patch_lists room list d (ok p) region few = region_lists room list d p (region_tokens region) few
patch_lists room list d (refused number place) region few = refusal_lists list (refusal number 2 0 place)

document_lists : (room list : ℕ) (document patch region : Bytes) →
    Lists list (Plain.on_document_within room (read document) patch region) (on_document_within room list (read document) patch region)
unfolding on_document_within Plain.on_document_within
document_lists room list document patch region = go (read document) refl
  where
    go : (d : Outcome PlainValue.Value) → read document ≡ d →
        Lists list (Plain.on_document_within room d patch region) (on_document_within room list d patch region)
    go (ok d) h = patch_lists room list d (read patch) region (read_proper document d h).1
    go (refused number place) h = refusal_lists list (refusal number 1 0 place)

answer_lists : (document patch region : Bytes) (lent : Lending Lent) →
    Lists lent.list (Plain.answer_within document patch region lent.call) (answer_within document patch region lent)
unfolding answer_within Plain.answer_within
answer_lists document patch region lent =
    if_lists (not (work_suffices lent.call)) (refusal_lists _ _)
    (if_lists (ltb max_bytes (length document)) (refusal_lists _ _)
    (if_lists (ltb max_bytes (length patch)) (refusal_lists _ _)
    (if_lists (ltb max_bytes (length region)) (refusal_lists _ _) (document_lists lent.call.output lent.list document patch region))))

-- ---- the list
abbrev Small : ℕ → List ℕ → Type 0
Small = Right (λ k. k ≤ max_operations)

within_few : (region : Tokens) (p : PlainValue.Value) (os : List Operation) → shape_within region p ≡ finished os → length os ≤ max_operations
within_few region p os h = shape_few p os ((shaped_so.right p os).1 ((shaped_within.right region p os).0 h).patch)

region_right : (room list : ℕ) (d p : PlainValue.Value) (region : Outcome Tokens) → Small list (patched_within room list d p region).origins
unfolding patched_within
region_right room list d p (ok region) = applied_right room list d (shape_within region p) (within_few region p)
region_right room list d p (refused number place) = no_list list

patch_right : (room list : ℕ) (d : PlainValue.Value) (p : Outcome PlainValue.Value) (region : Bytes) → Small list (on_patch_within room list d p region).origins
unfolding on_patch_within
patch_right room list d (ok p) region = region_right room list d p (region_tokens region)
patch_right room list d (refused number place) region = no_list list

document_right : (room list : ℕ) (d : Outcome PlainValue.Value) (patch region : Bytes) → Small list (on_document_within room list d patch region).origins
unfolding on_document_within
document_right room list (ok d) patch region = patch_right room list d (read patch) region
document_right room list (refused number place) patch region = no_list list

answer_right : (document patch region : Bytes) (lent : Lending Lent) → Small lent.list (answer_within document patch region lent).origins
unfolding answer_within
answer_right document patch region lent =
    if_right (not (work_suffices lent.call)) (unlisted (refusal 1 0 0 0)) _ (no_list lent.list)
    (if_right (ltb max_bytes (length document)) (unlisted (refusal 2 1 0 0)) _ (no_list lent.list)
    (if_right (ltb max_bytes (length patch)) (unlisted (refusal 2 2 0 0)) _ (no_list lent.list)
    (if_right (ltb max_bytes (length region)) (unlisted (refusal 2 0 0 0)) _ (no_list lent.list)
    (document_right lent.call.output lent.list (read document) patch region))))

pub within : WithinStatement
within =
    record {
      answers = answer_lists;
      same_answer = λ document patch region lent long. lists_same (answer_lists document patch region lent) long;
      nothing_listed = λ document patch region lent fails. lists_nothing (answer_lists document patch region lent) fails;
      fits = λ document patch region lent. (answer_right document patch region lent).fits;
      small = λ document patch region lent. (answer_right document patch region lent).each;
    }
