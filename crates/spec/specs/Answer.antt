-- The answer of the whole call: SPECIFICATION 2.
use Rattle.std.specs.Prelude.{ℕ, [], Bool, ◌&&◌, not, length, leb, ltb, if◌then◌else◌}
use Rattle.spec.specs.Outcome.{Outcome, ok, refused}
use Rattle.spec.specs.Refusal as Refusal
use Rattle.spec.specs.Refusal.{work_too_short, input_too_long, output_too_short}
use Rattle.spec.specs.Limits.{max_bytes, work_nodes, work_entries}
use Rattle.spec.specs.Bytes.{Bytes}
use Rattle.spec.specs.Value as Value
use Rattle.spec.specs.Read.{read}
use Rattle.spec.specs.Write.{write}
use Rattle.spec.specs.Operation.{limited}
use Rattle.spec.specs.Patch.{Stop, Run, finished, stopped, shape, run, on_finish}

-- The fields: SPECIFICATION 2.1. The written text stands here for its length. T-01: "The answer gains a field, pointer"; for 11 and 12 place
-- counts tokens.
pub record Answer : Type 0 where
  pub number : ℕ
  pub text : ℕ
  pub op : ℕ
  pub place : ℕ
  pub pointer : ℕ
  pub written : Bytes

abbrev pub success : Bytes → Answer
success t = record { number = Refusal.done; text = 0; op = 0; place = 0; pointer = 0; written = t }

-- a refusal of a text or of what is lent, by its number, text, op and place
abbrev pub refusal : ℕ → ℕ → ℕ → ℕ → Answer
refusal number text op place = record { number = number; text = text; op = op; place = place; pointer = 0; written = [] }

-- the refusal where the operations stop
abbrev pub failure : Stop → Answer
failure s = record { number = s.number; text = 0; op = s.op; place = s.place; pointer = s.pointer; written = [] }

-- the lengths of what is lent: bytes of the output, records of the node table, entries of the index
pub record Lent : Type 0 where
  pub output : ℕ
  pub nodes : ℕ
  pub index : ℕ

unfoldable pub work_suffices : Lent → Bool
work_suffices lent = leb work_nodes lent.nodes && leb work_entries lent.index

-- the written text, or 16
unfoldable pub fitting : ℕ → Bytes → Answer
fitting room t = if leb (length t) room then success t else refusal output_too_short 0 0 0

-- what a run comes to, with this much room for its text
unfoldable pub answer_of : ℕ → Run Value.Value → Answer
answer_of room (finished v) = fitting room (write v)
answer_of room (stopped s) = failure s

-- the shape of every operation, the operations one after another, then 16
unfoldable pub patched : ℕ → Value.Value → Value.Value → Answer
patched room document patch = answer_of room (on_finish (shape patch) λ operations. run limited 1 operations document)

-- the whole patch read
unfoldable pub on_patch : ℕ → Value.Value → Outcome Value.Value → Answer
on_patch room document (ok patch) = patched room document patch
on_patch room document (refused number place) = refusal number 2 0 place

-- the whole document read, then the patch
unfoldable pub on_document : ℕ → Outcome Value.Value → Bytes → Answer
on_document room (ok document) patch = on_patch room document (read patch)
on_document room (refused number place) patch = refusal number 1 0 place

-- SPECIFICATION 2.3: 1, 2, the whole document read, the whole patch read, the shape of every operation, the operations one after another,
-- then 16. "The first refusal is the answer."
unfoldable pub answer_in : Bool → ℕ → Bytes → Bytes → Answer
answer_in enough room document patch =
    if not enough then refusal work_too_short 0 0 0 else
    if ltb max_bytes (length document) then refusal input_too_long 1 0 0 else
    if ltb max_bytes (length patch) then refusal input_too_long 2 0 0 else on_document room (read document) patch

unfoldable pub answer : Bytes → Bytes → Lent → Answer
answer document patch lent = answer_in (work_suffices lent) lent.output document patch
