-- What the call promises, on every input: the whole answer, and all lent memory afterwards, as equations with the definition `answer`.
use Rattle.std.specs.Prelude.{ℕ, ◌≡◌, Bool, true, false, List, [], ◌∷◌, ◌++◌, length, drop, replicate}
use Rattle.spec.specs.Limits.{work_nodes, work_entries}
use Rattle.spec.specs.Bytes.{Bytes}
use Rattle.spec.specs.Answer as Spec
use Rattle.spec.specs.Answer.{answer, Lent, work_suffices}
use Rattle.tape.specs.Fields.{Row, no_node}
use Rattle.tape.specs.Lent.{Texts}
use Rattle.json_patch.specs.declared.answer.Answer.{Answer}

-- ---- what a call is lent beside its two texts
pub record Memory : Type 0 where
  pub output : Bytes
  pub nodes : List Row
  pub index : List ℕ

-- the two texts; the memory as it was lent, and as it is given back
abbrev pub given : Bytes → Bytes → Texts
given document patch = record { document = document; patch = patch }

abbrev pub memory_before : Bytes → List Row → List ℕ → Memory
memory_before output nodes index = record { output = output; nodes = nodes; index = index }

abbrev pub memory_after : Bytes → List Row → List ℕ → Memory
memory_after output nodes index = record { output = output; nodes = nodes; index = index }

-- its lengths
abbrev pub lent_of : Memory → Lent
lent_of m = record { output = length m.output; nodes = length m.nodes; index = length m.index }

-- ---- the answer, and the output
-- the call's answer is this one, and the output afterwards is the written text, then the rest of the output as it was
pub record Answered (a : Spec.Answer) (before after : Bytes) (r : Answer) : Type 0 where
  pub number : r.number ≡ a.number
  pub text : r.text ≡ a.text
  pub op : r.op ≡ a.op
  pub place : r.place ≡ a.place
  pub pointer : r.pointer ≡ a.pointer
  pub written : r.length ≡ length a.written
  pub output : after ≡ a.written ++ drop (length a.written) before

-- ---- the work area afterwards, SPECIFICATION 2.4: after a 1, no buffer has changed. After any other answer the work area is all zero; where a work
-- buffer is longer than stated, the part beyond is unchanged. T-08: "the zeroing rule then speaks of records with all fields zero".
unfoldable pub wiped : {A : Type 0} → Bool → ℕ → A → List A → List A
wiped true n zero xs = replicate n zero ++ drop n xs
wiped false n zero xs = xs

-- ---- the contract
pub record ApplyIs (T : Texts) (m m' : Memory) (r : Answer) : Type 0 where
  pub answered : Answered (answer T.document T.patch (lent_of m)) m.output m'.output r
  pub nodes-after : m'.nodes ≡ wiped (work_suffices (lent_of m)) work_nodes no_node m.nodes
  pub index_after : m'.index ≡ wiped (work_suffices (lent_of m)) work_entries 0 m.index

-- the same for C: the answer's fields in their order, and its number
pub record ExportIs (T : Texts) (m m' : Memory) (fields : List ℕ) (number : ℕ) : Type 0 where
  pub answer : Answer
  pub applies : ApplyIs T m m' answer
  pub fields_are : fields ≡ answer.number ∷ answer.text ∷ answer.op ∷ answer.place ∷ answer.pointer ∷ answer.length ∷ []
  pub number_is : number ≡ answer.number

-- ---- the kinds of answers
abbrev pub SuccessIs : ℕ → Answer → Type 0
SuccessIs written r = (r.number ≡ 0) × (r.text ≡ 0) × (r.op ≡ 0) × (r.place ≡ 0) × (r.pointer ≡ 0) × (r.length ≡ written)

abbrev pub RefusalIs : ℕ → ℕ → ℕ → ℕ → Answer → Type 0
RefusalIs number text op place r =
    (r.number ≡ number) × (r.text ≡ text) × (r.op ≡ op) × (r.place ≡ place) × (r.pointer ≡ 0) × (r.length ≡ 0)

-- the refusal of an operation
abbrev pub FailureIs : ℕ → ℕ → ℕ → ℕ → Answer → Type 0
FailureIs number op place pointer r =
    (r.number ≡ number) × (r.text ≡ 0) × (r.op ≡ op) × (r.place ≡ place) × (r.pointer ≡ pointer) × (r.length ≡ 0)
