-- Patches in a row: SPECIFICATION 11.2. T-13: "if the first patch succeeds, its text is at most 32,768 bytes, the second is well formed, the joined
-- patch is within the limits and the lent buffers suffice, then applying the second to the first's text gives the joined patch's text, or its
-- refusal with op less by the first's operations." All of it is said of whole texts, and of the definition `answer`.
use Rattle.std.specs.Prelude.{◌≡◌, ℕ, ◌+◌, ◌≤◌, List, [], ◌∷◌, ◌++◌, length}
use Rattle.spec.specs.Limits.{max_bytes, max_nodes, max_operations}
use Rattle.spec.specs.Bytes.{Bytes}
use Rattle.spec.specs.Value as Value
use Rattle.spec.specs.Value.{nodes}
use Rattle.spec.specs.Operation.{Operation}
use Rattle.spec.specs.Patch.{Stop, stop}
use Rattle.spec.specs.Answer.{Answer, Lent, answer, success, failure}
use Rattle.spec.specs.Elements.{ElementsOf}
use Rattle.spec.specs.Region.{Accepted, WellFormed, Enough}

-- The joined patch has the elements of the first, then those of the second, each with its own bytes. Blanks between elements don't matter.
pub record JoinText (first second joined : Bytes) : Type 0 where
  pub firsts : List Bytes
  pub seconds : List Bytes
  pub first-elements : ElementsOf first firsts
  pub second-elements : ElementsOf second seconds
  pub joined-elements : ElementsOf joined (firsts ++ seconds)

-- the same refusal n operations later
abbrev pub later : ℕ → Stop → Stop
later n s = stop s.number (s.op + n) s.place s.pointer

-- `OpLess n a b`: a has the text of b, or it is the refusal b with op less by n. The op of a refused operation is counted from 1.
pub data OpLess (n : ℕ) : Answer → Answer → Type 0 where
  same_text : (t : Bytes) → OpLess n (success t) (success t)
  same_refusal : (s : Stop) → 1 ≤ s.op → OpLess n (failure s) (failure (later n s))

-- Two patches in a row, and the joined one. Each call may be lent other buffers.
pub record InARow (document first text second joined : Bytes) (lent-first lent-second lent-joined : Lent) : Type 0 where
  -- "the first patch succeeds"
  pub succeeds : answer document first lent-first ≡ success text
  -- "its text is at most 32,768 bytes"
  pub text_fits : length text ≤ max_bytes
  -- "the second is well formed"
  pub second-operations : List Operation
  pub second_formed : WellFormed second second-operations
  -- "the joined patch is within the limits": of bytes, nodes and operations
  pub join : JoinText first second joined
  pub joined_operations : List Operation
  pub joined_formed : WellFormed joined joined_operations
  -- "the lent buffers suffice"
  pub second-enough : Enough text second lent-second
  pub joined_enough : Enough document joined lent-joined

-- Two well-formed patches whose joined one is within the limits of bytes, nodes and operations. Its nodes are those of both texts, less the
-- one for the second array.
pub record WithinLimits (first second joined : Bytes) (first-operations second-operations : List Operation) : Type 0 where
  pub first_formed : WellFormed first first-operations
  pub second_formed : WellFormed second second-operations
  pub join : JoinText first second joined
  pub bytes : length joined ≤ max_bytes
  pub few : nodes first_formed.patch + nodes second_formed.patch ≤ max_nodes + 1
  pub operations : length first-operations + length second-operations ≤ max_operations

-- A first patch that is refused, and the joined one.
pub record FirstRefused (document first second joined : Bytes) (lent-first lent-joined : Lent) : Type 0 where
  pub refused : (answer document first lent-first).number ≡ 0 → ⊥
  pub first-operations : List Operation
  pub first_formed : WellFormed first first-operations
  pub join : JoinText first second joined
  pub joined_operations : List Operation
  pub joined_formed : WellFormed joined joined_operations
  pub first-enough : Enough document first lent-first
  pub joined_enough : Enough document joined lent-joined

-- the elements of several patches, one patch after another
pub data AllElements : List Bytes → List Bytes → Type 0 where
  no_patch : AllElements [] []
  patch : {first : Bytes} {others elements all : List Bytes} → ElementsOf first elements → AllElements others all →
      AllElements (first ∷ others) (elements ++ all)

-- Any number of patches, each applied to the text that the one before it left. The row ends with its last patch or with one that is refused.
-- `Row document patches n a`: it ends with the answer a, after patches that have n operations.
pub data Row : Bytes → List Bytes → ℕ → Answer → Type 0 where
  last : {document patch : Bytes} {operations : List Operation} (lent : Lent) → WellFormed patch operations → Enough document patch lent →
      Row document (patch ∷ []) 0 (answer document patch lent)
  refused : {document patch : Bytes} {operations : List Operation} (lent : Lent) (others : List Bytes) → WellFormed patch operations →
      Enough document patch lent → ((answer document patch lent).number ≡ 0 → ⊥) → Row document (patch ∷ others) 0 (answer document patch lent)
  next : {document patch text : Bytes} {others elements : List Bytes} {n : ℕ} {a : Answer} (lent : Lent) →
      answer document patch lent ≡ success text → length text ≤ max_bytes → ElementsOf patch elements → Row text others n a →
      Row document (patch ∷ others) (length elements + n) a

-- any number of patches in a row, and the joined one
pub record AllInARow (document : Bytes) (patches : List Bytes) (joined : Bytes) (n : ℕ) (a : Answer) (lent : Lent) : Type 0 where
  pub read_as : Value.Value
  pub accepted : Accepted document read_as
  pub row : Row document patches n a
  pub elements : List Bytes
  pub all-elements : AllElements patches elements
  pub joined-elements : ElementsOf joined elements
  pub joined_operations : List Operation
  pub joined_formed : WellFormed joined joined_operations
  pub joined_enough : Enough document joined lent

pub record SequenceStatement : Type 0 where
  -- T-13. The number of the first's operations is that of its elements.
  pub two : (document first text second joined : Bytes) (lent-first lent-second lent-joined : Lent) →
      (c : InARow document first text second joined lent-first lent-second lent-joined) →
      OpLess (length c.join.firsts) (answer text second lent-second) (answer document joined lent-joined)
  -- A joined patch within the limits is well formed, and its operations are those of the first, then those of the second.
  pub formed : (first second joined : Bytes) (xs ys : List Operation) → WithinLimits first second joined xs ys → WellFormed joined (xs ++ ys)
  -- Where the first is refused, the joined patch is refused in the same way.
  pub first_refused : (document first second joined : Bytes) (lent-first lent-joined : Lent) →
      FirstRefused document first second joined lent-first lent-joined → answer document joined lent-joined ≡ answer document first lent-first
  -- So any number of patches in a row are one.
  pub any-number : (document : Bytes) (patches : List Bytes) (joined : Bytes) (n : ℕ) (a : Answer) (lent : Lent) →
      AllInARow document patches joined n a lent → OpLess n a (answer document joined lent)
