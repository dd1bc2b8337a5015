-- The call with a region that lists origins, beside the one that lists none.
use Rattle.std.specs.Prelude.{◌≡◌, ◌≤◌, [], length}
use Rattle.spec.specs.Refusal.{done}
use Rattle.spec.specs.Limits.{max_nodes, max_operations}
use Rattle.spec.specs.Bytes.{Bytes}
use Rattle.spec.specs.Answer.{Lent}
use Rattle.region.specs.Answer as Plain
use Rattle.origin.specs.Answer.{Lending}
use Rattle.origin.specs.Forgetting.{Lists}
use Rattle.origin.specs.Claims.{Each}
use Rattle.origin_within.specs.Answer.{answer_within}

pub record WithinStatement : Type 0 where
  pub answers : (document patch region : Bytes) (lent : Lending Lent) →
      Lists lent.list (Plain.answer_within document patch region lent.call) (answer_within document patch region lent)
  -- with a list of at least as many entries as a document may have values
  pub same_answer : (document patch region : Bytes) (lent : Lending Lent) → max_nodes ≤ lent.list →
      (answer_within document patch region lent).answer ≡ Plain.answer_within document patch region lent.call
  -- nothing is listed on a refusal
  pub nothing_listed : (document patch region : Bytes) (lent : Lending Lent) →
      ((answer_within document patch region lent).answer.number ≡ done → ⊥) → (answer_within document patch region lent).origins ≡ []
  -- the list suffices, and 16 bits hold each entry
  pub fits : (document patch region : Bytes) (lent : Lending Lent) → length (answer_within document patch region lent).origins ≤ lent.list
  pub small : (document patch region : Bytes) (lent : Lending Lent) →
      Each (λ k. k ≤ max_operations) (answer_within document patch region lent).origins
