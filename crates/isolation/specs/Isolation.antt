-- Nobody else's shelf decides: T-06. "Take one such patch and two accepted documents in which its region exists and holds values
-- that are written with equal bytes. If neither run meets 6 and the lent buffers suffice, both give the same number, op, place and pointer; on
-- success the region is written alike, and all outside it is written as before in its own document."
use Rattle.std.specs.Prelude.{◌≡◌, ◌++◌}
use Rattle.spec.specs.Outcome.{ok}
use Rattle.spec.specs.Refusal.{work_too_short, too_many_nodes, output_too_short}
use Rattle.spec.specs.Bytes.{Bytes}
use Rattle.spec.specs.Value as Value
use Rattle.spec.specs.Write.{write}
use Rattle.spec.specs.Pointer.{Tokens, walk}
use Rattle.spec.specs.Operation.{replace_at_path}
use Rattle.spec.specs.Answer.{Answer, Lent, success}
use Rattle.spec.specs.Region.{Accepted}
use Rattle.region.specs.Answer.{answer_within}
use Rattle.region.specs.Claims.{Passes}

-- one of the two calls: an accepted document in which the region exists
pub record Call (document patch region : Bytes) (tokens : Tokens) (lent : Lent) : Type 0 where
  pub before : Value.Value
  pub accepted : Accepted document before
  -- "its region exists": its tokens lead to a value
  pub held : Value.Value
  pub exists : walk tokens before ≡ ok held
  -- "neither run meets 6"
  pub small : (answer_within document patch region lent).number ≡ too_many_nodes → ⊥
  -- "the lent buffers suffice": neither 1 nor 16 applies
  pub work : (answer_within document patch region lent).number ≡ work_too_short → ⊥
  pub output : (answer_within document patch region lent).number ≡ output_too_short → ⊥

pub record Situation (D E patch region : Bytes) (lent lent' : Lent) : Type 0 where
  -- "one such patch": it keeps the rule of T-05
  pub passes : Passes region patch
  pub first : Call D patch region passes.tokens lent
  pub second : Call E patch region passes.tokens lent'
  -- "values that are written with equal bytes"
  pub alike : write first.held ≡ write second.held

-- "the same number, op, place and pointer"; the text is the same, too
pub record SameFields (a b : Answer) : Type 0 where
  pub number : a.number ≡ b.number
  pub text : a.text ≡ b.text
  pub op : a.op ≡ b.op
  pub place : a.place ≡ b.place
  pub pointer : a.pointer ≡ b.pointer

-- These bytes stand in front of a region and behind it, around the value that it holds and around every other that replaces it.
pub record Around (region : Tokens) (v : Value.Value) (front back : Bytes) : Type 0 where
  pub itself : (held : Value.Value) → walk region v ≡ ok held → write v ≡ front ++ (write held ++ back)
  pub others : (x w : Value.Value) → replace_at_path region x v ≡ ok w → write w ≡ front ++ (write x ++ back)

-- a document changed in its region alone: "all outside it is written as before"
pub record ChangedInside (region : Tokens) (before after : Value.Value) : Type 0 where
  pub front : Bytes
  pub back : Bytes
  pub around_before : Around region before front back
  pub around_after : Around region after front back

-- two results: "the region is written alike, and all outside it is written as before in its own document"
pub record Results (region : Tokens) (before before' : Value.Value) (a b : Answer) : Type 0 where
  pub after : Value.Value
  pub after' : Value.Value
  pub writes : a ≡ success (write after)
  pub writes' : b ≡ success (write after')
  pub held : Value.Value
  pub held' : Value.Value
  pub exists : walk region after ≡ ok held
  pub exists' : walk region after' ≡ ok held'
  pub alike : write held ≡ write held'
  pub outside : ChangedInside region before after
  pub outside' : ChangedInside region before' after'

pub record Isolated {D E patch region : Bytes} {lent lent' : Lent} (c : Situation D E patch region lent lent') : Type 0 where
  pub same : SameFields (answer_within D patch region lent) (answer_within E patch region lent')
  pub results : (text : Bytes) → answer_within D patch region lent ≡ success text →
      Results c.passes.tokens c.first.before c.second.before (answer_within D patch region lent) (answer_within E patch region lent')

pub record IsolationStatement : Type 0 where
  pub isolated : (D E patch region : Bytes) (lent lent' : Lent) (c : Situation D E patch region lent lent') → Isolated c
