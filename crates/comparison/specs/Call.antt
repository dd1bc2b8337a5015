-- The answer of the call that compares two texts: SPECIFICATION 17.1. T-10: "Demand 2 covers the count".
use Rattle.std.specs.Prelude.{ℕ, ◌*◌, ◌≤◌, ◌≡◌, Bool, false, not, ltb, length, if◌then◌else◌}
use Rattle.spec.specs.Outcome.{Outcome, ok, refused}
use Rattle.spec.specs.Refusal as Refusal
use Rattle.spec.specs.Refusal.{work_too_short, input_too_long}
use Rattle.spec.specs.Limits.{max_bytes}
use Rattle.spec.specs.Bytes.{Bytes}
use Rattle.spec.specs.Value as Value
use Rattle.spec.specs.Value.{nodes}
use Rattle.spec.specs.Read.{read}
use Rattle.spec.specs.Equality.{equal}
use Rattle.comparison.specs.Comparison.{Compared, compared}

-- The number is 0 where both texts were read, and that of the refusal otherwise; `text` and `place` are those of SPECIFICATION 2.1. `equal` and `names`
-- are the verdict and the count, and false and 0 after a refusal.
pub record Answer : Type 0 where
  pub number : ℕ
  pub text : ℕ
  pub place : ℕ
  pub equal : Bool
  pub names : ℕ

abbrev pub success : Compared → Answer
success a = record { number = Refusal.done; text = 0; place = 0; equal = a.same; names = a.names }

abbrev pub refusal : ℕ → ℕ → ℕ → Answer
refusal number text place = record { number = number; text = text; place = place; equal = false; names = 0 }

-- the whole second text read, then the two values compared
unfoldable pub on_second : Value.Value → Outcome Value.Value → Answer
on_second v (ok w) = success (compared v w)
on_second v (refused number place) = refusal number 2 place

-- the whole first text read, then the second
unfoldable pub on_first : Outcome Value.Value → Bytes → Answer
on_first (ok v) t = on_second v (read t)
on_first (refused number place) t = refusal number 1 place

-- in the order of SPECIFICATION 17.1: both lengths, the whole first text read, the whole second text read
unfoldable pub comparison : Bytes → Bytes → Answer
comparison s t =
    if ltb max_bytes (length s) then refusal input_too_long 1 0 else
    if ltb max_bytes (length t) then refusal input_too_long 2 0 else on_first (read s) t

unfoldable pub comparison_in : Bool → Bytes → Bytes → Answer
comparison_in enough s t = if not enough then refusal work_too_short 0 0 else comparison s t

-- ---- what the answer says of two texts that are read: the verdict is that of SPECIFICATION 7, the count is at most that of SPECIFICATION 17.2, and no
-- count passes 4,190,209
pub record Told (v w : Value.Value) (a : Answer) : Type 0 where
  pub number : a.number ≡ Refusal.done
  pub verdict : a.equal ≡ equal v w
  pub bound : a.names ≤ nodes v * nodes w
  pub most : a.names ≤ 2_047 * 2_047

abbrev pub CallStatement : Type 0
CallStatement =
    (s t : Bytes) (v w : Value.Value) → length s ≤ max_bytes → length t ≤ max_bytes → read s ≡ ok v → read t ≡ ok w → Told v w (comparison s t)
