-- What the definitions come to. proofs/ClaimTheorems proves each.
use Rattle.std.specs.Prelude.{ℕ, ◌+◌, ◌≤◌, ◌<◌, ◌≡◌, ◌↔◌, true, List, [], ◌∷◌, length}
use Rattle.spec.specs.Outcome.{ok}
use Rattle.spec.specs.Refusal.{wrong_shape, too_many_operations, not_permitted}
use Rattle.spec.specs.Limits.{max_bytes, max_operations}
use Rattle.spec.specs.Bytes.{Bytes}
use Rattle.spec.specs.Forest.{none, tree, count}
use Rattle.spec.specs.Value as Value
use Rattle.spec.specs.Value.{Label, Entry, Members}
use Rattle.spec.specs.Read.{read}
use Rattle.spec.specs.Pointer.{Tokens}
use Rattle.spec.specs.Operation.{Kind, Operation}
use Rattle.spec.specs.Patch.{Stop, stop, finished, stopped}
use Rattle.spec.specs.Shape.{ProperPrefix, IsOperation, Wrong, element_of, IsPatch}
use Rattle.spec.specs.Answer.{Lent, answer}
use Rattle.spec.specs.Region.{strictly_inside, all_inside, WellFormed}
use Rattle.region.specs.Rule.{shape_within}
use Rattle.region.specs.Answer.{region_tokens, answer_within}

-- ---- the rule, as a relation

-- T-05: "Makers shall send only test, replace and add"
pub data Makers : Kind → Type 0 where
  test : Makers Kind.test
  replace : Makers Kind.replace
  add : Makers Kind.add

-- of the operation op
pub record Permitted (region : Tokens) (op : ℕ) (o : Operation) : Type 0 where
  pub kind : Makers o.kind
  -- "the first operation shall be a test"
  pub first : op ≡ 1 → o.kind ≡ Kind.test
  -- "every path shall begin with the region agreed with that maker and have at least one token more"
  pub path : ProperPrefix region o.path

-- of operations, the first of which is op
pub data AllPermitted (region : Tokens) : ℕ → List Operation → Type 0 where
  no_more : {op : ℕ} → AllPermitted region op []
  one_more : {op : ℕ} {o : Operation} {os : List Operation} → Permitted region op o → AllPermitted region (op + 1) os → AllPermitted region op (o ∷ os)

-- of a patch's operations: "A patch without operations breaks the rule"
pub data KeepsRule (region : Tokens) : List Operation → Type 0 where
  keeps : {o : Operation} {os : List Operation} → AllPermitted region 1 (o ∷ os) → KeepsRule region (o ∷ os)

-- ---- the shape of a maker's patch

-- it is a patch by SPECIFICATION 4, and keeps the rule
pub record IsPatchWithin (region : Tokens) (v : Value.Value) (os : List Operation) : Type 0 where
  pub patch : IsPatch v os
  pub rule : KeepsRule region os

-- the first element at fault, its refusal and its op; the elements are counted from op on
pub data FirstFault (region : Tokens) : ℕ → Members → ℕ → ℕ → Type 0 where
  -- 8, 10 and 14
  no_operation : {op n : ℕ} {e : Entry} {kids rest : Members} → Wrong (element_of e kids) n → FirstFault region op (tree e kids rest) n op
  -- it is an operation, and breaks the rule: 17
  breaks_rule : {op : ℕ} {e : Entry} {kids rest : Members} (o : Operation) → IsOperation (element_of e kids) o → (Permitted region op o → ⊥) →
      FirstFault region op (tree e kids rest) not_permitted op
  later : {op n end : ℕ} {e : Entry} {kids rest : Members} (o : Operation) → IsOperation (element_of e kids) o → Permitted region op o →
      FirstFault region (op + 1) rest n end → FirstFault region op (tree e kids rest) n end

pub data NoPatchWithin (region : Tokens) (v : Value.Value) : ℕ → ℕ → Type 0 where
  not-array : (v.label ≡ Label.array → ⊥) → NoPatchWithin region v wrong_shape 0
  too_many : v.label ≡ Label.array → max_operations < count v.kids → NoPatchWithin region v too_many_operations 0
  no_operations : v.label ≡ Label.array → v.kids ≡ none → NoPatchWithin region v not_permitted 0
  at_element : {n op : ℕ} → v.label ≡ Label.array → count v.kids ≤ max_operations → FirstFault region 1 v.kids n op → NoPatchWithin region v n op

-- The shape finishes and stops exactly so.
pub record ShapeWithinStatement : Type 0 where
  pub right : (region : Tokens) (v : Value.Value) (os : List Operation) → shape_within region v ≡ finished os ↔ IsPatchWithin region v os
  -- with no place and no pointer
  pub wrong : (region : Tokens) (v : Value.Value) (s : Stop) → shape_within region v ≡ stopped s ↔
      (NoPatchWithin region v s.number s.op × (s.place ≡ 0) × (s.pointer ≡ 0))

-- 17 comes from the rule alone. The first operation that breaks it, where all before it are operations and keep it; they are counted from op on:
pub data FirstBreak (region : Tokens) : ℕ → Members → ℕ → Type 0 where
  here : {op : ℕ} {e : Entry} {kids rest : Members} (o : Operation) → IsOperation (element_of e kids) o → (Permitted region op o → ⊥) →
      FirstBreak region op (tree e kids rest) op
  later : {op end : ℕ} {e : Entry} {kids rest : Members} (o : Operation) → IsOperation (element_of e kids) o → Permitted region op o →
      FirstBreak region (op + 1) rest end → FirstBreak region op (tree e kids rest) end

pub data BreaksRule (region : Tokens) (v : Value.Value) : ℕ → Type 0 where
  no_operations : v.label ≡ Label.array → v.kids ≡ none → BreaksRule region v 0
  at_operation : {op : ℕ} → v.label ≡ Label.array → count v.kids ≤ max_operations → FirstBreak region 1 v.kids op → BreaksRule region v op

abbrev pub RuleStatement : Type 0
RuleStatement =
    (region : Tokens) (v : Value.Value) (op : ℕ) → shape_within region v ≡ stopped (stop not_permitted op 0 0) ↔ BreaksRule region v op

-- ---- "strictly inside" of SPECIFICATION 9.1 is the rule's part on paths, for the three kinds

abbrev pub InsideStatement : Type 0
InsideStatement = (region : Tokens) (o : Operation) → Makers o.kind → strictly_inside region o ≡ true ↔ ProperPrefix region o.path

-- so a maker's patch is strictly inside its region, and the statement of SPECIFICATION 9.4 speaks of it
abbrev pub AllInsideStatement : Type 0
AllInsideStatement = (region : Tokens) (v : Value.Value) (os : List Operation) → shape_within region v ≡ finished os → all_inside region os ≡ true

-- ---- 10 comes "after both texts are read": until they are, the answer is that of a plain patch.

abbrev pub TextsFirstStatement : Type 0
TextsFirstStatement =
    (document patch region : Bytes) (lent : Lent) → length region ≤ max_bytes → ((v p : Value.Value) → read document ≡ ok v → read patch ≡ ok p → ⊥) →
    answer_within document patch region lent ≡ answer document patch lent

-- ---- "What passes gives the answer of a plain patch."

pub record Passes (region patch : Bytes) : Type 0 where
  pub short : length region ≤ max_bytes
  pub tokens : Tokens
  pub pointer : region_tokens region ≡ ok tokens
  pub operations : List Operation
  pub well_formed_lem : WellFormed patch operations
  pub rule : KeepsRule tokens operations

abbrev pub PassesStatement : Type 0
PassesStatement =
    (document patch region : Bytes) (lent : Lent) → Passes region patch → answer_within document patch region lent ≡ answer document patch lent
