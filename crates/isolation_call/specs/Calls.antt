-- Nobody else's shelf decides, said of the calls themselves: T-06. Crate `isolation` speaks of the definition `answer_within`; this speaks
-- of whatever two calls of `apply_within` answer, and of the outputs that they leave. Every call promises `ApplyWithinIs`.
use Rattle.std.specs.Prelude.{◌≡◌, ◌≤◌}
use Rattle.spec.specs.Outcome.{ok}
use Rattle.spec.specs.Refusal.{work_too_short, too_many_nodes, output_too_short}
use Rattle.spec.specs.Bytes.{Bytes}
use Rattle.spec.specs.Value as Value
use Rattle.spec.specs.Write.{write}
use Rattle.spec.specs.Pointer.{Tokens, walk}
use Rattle.spec.specs.Patch.{Stop}
use Rattle.spec.specs.Region.{Accepted}
use Rattle.json_patch.specs.Call.{Memory, lent_of}
use Rattle.json_patch.specs.Region.{Refuses, Writes}
use Rattle.json_patch.specs.declared.answer.Answer.{Answer}
use Rattle.region.specs.Claims.{Passes}
use Rattle.region_call.specs.Call.{ApplyWithinIs}
use Rattle.isolation.specs.Isolation.{Situation, ChangedInside}

-- one of the two calls, with an accepted document in which the region exists: what it was lent, what it answered, and what it left
pub record Called (document patch region : Bytes) (tokens : Tokens) : Type 0 where
  pub before : Value.Value
  pub accepted : Accepted document before
  -- "its region exists": its tokens lead to a value
  pub held : Value.Value
  pub exists : walk tokens before ≡ ok held
  pub lent : Memory
  pub left : Memory
  pub answer : Answer
  pub applies : ApplyWithinIs (record { document = document; patch = patch }) region lent left answer
  -- "neither run meets 6"
  pub small : answer.number ≡ too_many_nodes → ⊥
  -- "the lent buffers suffice": neither 1 nor 16 was answered
  pub work : answer.number ≡ work_too_short → ⊥
  pub output : answer.number ≡ output_too_short → ⊥

pub record Calls (D E patch region : Bytes) : Type 0 where
  -- "one such patch": it keeps the rule of T-05
  pub passes : Passes region patch
  pub first : Called D patch region passes.tokens
  pub second : Called E patch region passes.tokens
  -- "values that are written with equal bytes"
  pub alike : write first.held ≡ write second.held

-- "the same number, op, place and pointer"; the text is the same, too
pub record SameAnswer (a b : Answer) : Type 0 where
  pub number : a.number ≡ b.number
  pub text : a.text ≡ b.text
  pub op : a.op ≡ b.op
  pub place : a.place ≡ b.place
  pub pointer : a.pointer ≡ b.pointer

-- the call is refused as the run stops, and its output is as it was
abbrev pub RefusesCall : {document patch region : Bytes} {tokens : Tokens} → Stop → Called document patch region tokens → Type 0
RefusesCall s call = Refuses s call.lent.output call.left.output call.answer

-- one result: the call writes a document in which the region exists, with these bytes; "all outside it is written as before in its own document"
pub record Result (tokens : Tokens) (bytes : Bytes) {document patch region : Bytes} (call : Called document patch region tokens) : Type 0 where
  pub after : Value.Value
  pub writes : Writes (write after) call.lent.output call.left.output call.answer
  pub held : Value.Value
  pub exists : walk tokens after ≡ ok held
  pub region-written : write held ≡ bytes
  pub outside : ChangedInside tokens call.before after

-- how two calls end
pub data End {D E patch region : Bytes} (c : Calls D E patch region) : Type 0 where
  -- both are refused alike, at an operation
  both_refused : (s : Stop) → 1 ≤ s.op → RefusesCall s c.first → RefusesCall s c.second → End c
  -- "on success the region is written alike": with the same bytes in both
  both-written : (bytes : Bytes) → Result c.passes.tokens bytes c.first → Result c.passes.tokens bytes c.second → End c

pub record IsolatedCalls {D E patch region : Bytes} (c : Calls D E patch region) : Type 0 where
  pub same : SameAnswer c.first.answer c.second.answer
  pub end : End c

abbrev pub IsolatedCallsStatement : Type 0
IsolatedCallsStatement = (D E patch region : Bytes) (c : Calls D E patch region) → IsolatedCalls c

-- The premises can be met: with memory of the lengths of any situation of the definition, there are two such calls.
abbrev pub CallsMetStatement : Type 0
CallsMetStatement =
    (D E patch region : Bytes) (m m' : Memory) → Situation D E patch region (lent_of m) (lent_of m') → Calls D E patch region
