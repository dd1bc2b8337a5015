-- Demand 3, said of the call itself: SPECIFICATION 9.4. What crate `spec` states of the definition `answer` on a
-- shuffle, this states of whatever the call answers on it, and of the output that it leaves.
use Rattle.std.specs.Prelude.{ℕ, ◌≡◌, List, ◌++◌, length, drop}
use Rattle.std.proofs.Math.Option.{none, some}
use Rattle.spec.specs.Refusal.{too_many_nodes}
use Rattle.spec.specs.Bytes.{Bytes}
use Rattle.spec.specs.Value as Value
use Rattle.spec.specs.Pointer.{Tokens}
use Rattle.spec.specs.Operation.{Operation}
use Rattle.spec.specs.Patch.{Stop, stop, stopped}
use Rattle.spec.specs.Answer.{Lent}
use Rattle.spec.specs.Region.{Situation, RegionStatement, SucceedsWith, bare_run, first_too_large}
use Rattle.json_patch.specs.Call.{Memory, SuccessIs, FailureIs, lent_of, ApplyIs}
use Rattle.json_patch.specs.declared.answer.Answer.{Answer}

-- the call answers as the run stops, with its number, op, place and pointer, and with nothing else; the output is as it was
pub record Refuses (s : Stop) (before after : Bytes) (r : Answer) : Type 0 where
  pub answers : FailureIs s.number s.op s.place s.pointer r
  pub unchanged : after ≡ before

-- the call answers 0 and writes this text: the output begins with it, and is otherwise unchanged
pub record Writes (text before after : Bytes) (r : Answer) : Type 0 where
  pub answers : SuccessIs (length text) r
  pub laid : after ≡ text ++ drop (length text) before

-- of an answer of the call on a shuffle, with the output before and after
pub record CallStatement {D P Q Z : Bytes} {lent : Lent} {R S : Tokens} {document : Value.Value} {xs ys zs : List Operation}
    (c : Situation D P Q Z lent R S document xs ys zs) (before after : Bytes) (r : Answer) : Type 0 where
  -- the bare runs: "If both succeed alone, the shuffle's bare run succeeds. [..] Otherwise the shuffle's bare run ends at the first operation [..]":
  -- its fields `both_succeed` and `otherwise`
  pub runs : RegionStatement c
  -- "If an operation of the shuffle's bare run leaves more than 2,048 nodes, the call on the shuffle answers 6 with the op of the first such one."
  pub too_large : (op : ℕ) → first_too_large 1 zs document ≡ some op → Refuses (stop too_many_nodes op 0 0) before after r
  -- "Otherwise the call answers the bare run's number, op, place and pointer,
  pub refused : (s : Stop) → first_too_large 1 zs document ≡ none → bare_run zs document ≡ stopped s → Refuses s before after r
  -- or it answers 0 and writes the run's text."
  pub succeeds : (text : Bytes) → first_too_large 1 zs document ≡ none → SucceedsWith (bare_run zs document) text → Writes text before after r

-- of every call: `Situation` says that the two patches are strictly inside regions apart, that Z is a shuffle of them, and that the buffers that
-- this call is lent are enough
abbrev pub CallInRegions : Type 0
CallInRegions =
    (D P Q Z : Bytes) (m m' : Memory) (R S : Tokens) (document : Value.Value) (xs ys zs : List Operation)
    → (c : Situation D P Q Z (lent_of m) R S document xs ys zs)
    → (r : Answer) → ApplyIs (record { document = D; patch = Z }) m m' r → CallStatement c m.output m'.output r
