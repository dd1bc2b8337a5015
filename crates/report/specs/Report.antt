-- What the functions of this crate promise.
use Rattle.std.specs.Prelude.{ℕ, ◌-◌, ◌≤◌, ◌≡◌, length, take, eqb}
use Rattle.std.specs.Prelude.{if◌then◌else◌}
use Rattle.spec.specs.Bytes.{Bytes}
use Rattle.spec.specs.Limits.{work_nodes, work_entries}
use Rattle.spec.specs.Refusal.{done}
use Rattle.spec.specs.Answer.{Lent, answer, work_suffices}
use Rattle.tape.specs.Fields.{no_node}
use Rattle.tape.specs.Lent.{Texts}
use Rattle.writer.specs.Writing.{Placed}
use Rattle.json_patch.specs.Call.{Memory, wiped}
use Rattle.json_patch.specs.declared.answer.Answer.{Answer}
use Rattle.report.specs.Line.{newline, refusal_line, line_of}

-- the line of an answer that is a refusal
abbrev pub refusal_of : Answer → Bytes
refusal_of a = refusal_line a.number a.text a.op a.place a.pointer

-- what stands in the line behind the written text: a newline, or all of a refusal's line
unfoldable pub ending : Answer → Bytes
ending a = if eqb a.number done then newline else refusal_of a

-- what the call is lent: all of the line but one byte, for the newline, as output; and the work area
abbrev pub lent_to : Memory → Lent
lent_to m = record { output = length m.output - 1; nodes = length m.nodes; index = length m.index }

-- no refusal's line is longer: 35 bytes are the same in each, and its five numbers have at most 3, 3, 20, 20 and 3 digits
abbrev pub line_limit : ℕ
line_limit = 84

-- what `run` answers, and all lent memory afterwards; the line is the memory's output
pub record RunIs (T : Texts) (m m' : Memory) (r : ℕ) : Type 0 where
  -- the line is laid down, as much as there is room for, and the buffer is otherwise unchanged
  pub placed : Placed (line_of (answer T.document T.patch (lent_to m))) 0 m.output m'.output r
  -- where there is room for the longest refusal's line, that is all of it
  pub whole : line_limit ≤ length m.output → take r m'.output ≡ line_of (answer T.document T.patch (lent_to m))
  -- the work area, as the call leaves it
  pub nodes-after : m'.nodes ≡ wiped (work_suffices (lent_to m)) work_nodes no_node m.nodes
  pub index_after : m'.index ≡ wiped (work_suffices (lent_to m)) work_entries 0 m.index
