-- Demand 3 of the call, from the theorem on the definitions and the call's contract.
use mathlib.Core.Path.{◌≡◌, subst}
use Rattle.spec.specs.Bytes.{Bytes}
use Rattle.spec.specs.Patch.{Stop}
use Rattle.spec.specs.Answer as Spec
use Rattle.spec.proofs.RegionTheorem.{region_theorem}
use Rattle.json_patch.specs.Call.{Answered}
use Rattle.json_patch.specs.Region.{Refuses, Writes, CallInRegions}
use Rattle.json_patch.specs.declared.answer.Answer.{Answer}

-- an answer of the definitions, as the call gives it
module _ {a : Spec.Answer} {before after : Bytes} {r : Answer} (is : Answered a before after r) where
  refuses : {s : Stop} → a ≡ Spec.failure s → Refuses s before after r
  refuses e = let n = subst (λ b. Answered b before after r) e is in record {
    answers =
        (n.number, n.text, n.op, n.place, n.pointer, n.written);
    unchanged = n.output;
  }

  writes : {text : Bytes} → a ≡ Spec.success text → Writes text before after r
  writes e =
      let n = subst (λ b. Answered b before after r) e is in
      record { answers = (n.number, n.text, n.op, n.place, n.pointer, n.written); laid = n.output }

pub call_in_regions : CallInRegions
call_in_regions D P Q Z m m' R S document xs ys zs c r is =
    let theorem = region_theorem c in
    let told = is.answered in
    record {
      runs = theorem;
      too_large = λ op large. refuses told (theorem.call_too_large op large);
      refused = λ s small stops. refuses told (theorem.call_refused s small stops);
      succeeds = λ text small succeeds. writes told (theorem.call_succeeds text small succeeds);
    }
