-- The undo as it is laid down while the patch runs: from the end of a buffer towards its front, so that the last operation's stands first.
use Rattle.std.specs.Prelude.{ℕ, suc, ◌+◌, ◌≤◌, min, ◌≡◌, false, List, [], ◌∷◌, ◌++◌, leb, length, drop, if◌then◌else◌, Result, Ok, Err}
use Rattle.spec.specs.Refusal.{done, input_too_long, too_deep, too_many_nodes, too_many_operations}
use Rattle.spec.specs.Fault.{number_of}
use Rattle.spec.specs.declared.refusal.Refusal.{Refusal}
use Rattle.spec.specs.Limits.{max_bytes, max_depth, max_nodes, max_operations}
use Rattle.spec.specs.Bytes.{Bytes, Text, ascii}
use Rattle.spec.specs.Forest.{Forest, count}
use Rattle.spec.specs.Value as Value
use Rattle.spec.specs.Value.{depth, nodes}
use Rattle.spec.specs.Write.{write}
use Rattle.spec.specs.Pointer.{Tokens}
use Rattle.spec.specs.Operation.{Operation}
use Rattle.claims.specs.Pointers.{pointer_of}
use Rattle.claims.specs.Operations.{adding, removing, replacing}
use Rattle.text.specs.Decode.{decode}
use Rattle.tape.specs.declared.fields.Cell.{Cell}
use Rattle.tape.specs.Columns.{filled}
use Rattle.tape.specs.Lent.{Texts, Table}
use Rattle.table.specs.Meaning.{part_of, meant}
use Rattle.table.specs.Sound.{NodeHeld}
use Rattle.reversal.specs.Undo.{index_token}
use Rattle.reversal.specs.UndoValue.{undo_value}
use Rattle.reversal.specs.UndoText.{operation_texts, undo_text}
use Rattle.undo_log.specs.declared.log.Log.{Log}
use Rattle.undo_log.specs.declared.note.Action.{Action}
use Rattle.undo_log.specs.declared.note.Action.TheVariants.{Add, Remove, Replace}
use Rattle.undo_log.specs.declared.note.Target.{Target}
use Rattle.undo_log.specs.declared.note.Target.TheVariants.{At, Appended}

-- ---- what is noted
-- The operations, each with a comma before it, and the closing bracket. With a `[` for the first comma it is the undo's text.
unfoldable pub tail_text : List Operation → Bytes
tail_text os = operation_texts false os ++ ascii "]"

-- These operations are noted. Each count is cut off one past its limit, so that none can wrap. As long as the text is within its limit, it stands
-- at the end of the buffer; behind the limit the buffer is free.
pub record Noted (log : Log) (work : Bytes) (os : List Operation) : Type 0 where
  pub long : length work ≡ max_bytes
  pub count_is : log.count ≡ min (length os) (suc max_operations)
  pub shallow_is : log.shallow ≡ leb (depth (undo_value os)) max_depth
  pub nodes_is : log.nodes ≡ min (nodes (undo_value os)) (suc max_nodes)
  pub bytes_is : log.bytes ≡ min (length (tail_text os)) (suc max_bytes)
  pub text_is : (start : ℕ) → start + length (tail_text os) ≡ max_bytes → drop start work ≡ tail_text os

-- ---- one more operation
-- where it acts: at a pointer of the patch; or at the element of an index, behind a pointer of the patch that is cut off after its last slash
unfoldable pub target_text : Texts → Target → Text
target_text T (At path) = decode (part_of T path)
target_text T (Appended path index) = decode (part_of T path) ++ index_token index

-- the table holds a value in a row, and the value is within the limit of levels
pub record ValueHeld (w : Table) (row : ℕ) (v : Value.Value) : Type 0 where
  pub c : Cell
  pub kids : Forest Cell
  pub held : NodeHeld w row c kids
  pub means : meant w.texts c kids ≡ v
  pub shallow : depth v ≤ max_depth

-- the operation that an action at a target is
pub data Undoes (w : Table) (target : Target) : Action → Operation → Type 0 where
  undo_add : {row : ℕ} {v : Value.Value} (path : Tokens) → target_text w.texts target ≡ pointer_of path → ValueHeld w row v
      → Undoes w target (Add row) (adding path v)
  undo_remove : (path : Tokens) → target_text w.texts target ≡ pointer_of path → Undoes w target Remove (removing path)
  undo_replace : {row : ℕ} {v : Value.Value} (path : Tokens) → target_text w.texts target ≡ pointer_of path → ValueHeld w row v
      → Undoes w target (Replace row) (replacing path v)

-- ---- the contracts; where no undo is noted, the log and the buffer are free
abbrev pub BeginIs : Bytes → Bytes → Log → Type 0
BeginIs before after r = length before ≡ max_bytes → Noted r after []

abbrev pub NoteIs : Table → Log → Action → Target → Bytes → Bytes → Log → Type 0
NoteIs w log action target before after r =
    (os : List Operation) (o : Operation) → Noted log before os → Undoes w target action o → Noted r after (o ∷ os)

-- T-09: "for an undo that could not be read back, 9, 5, 6, 2": the number, and 0 for one that could
unfoldable pub undo_number : Value.Value → ℕ
undo_number u =
    if leb (count u.kids) max_operations then
    (if leb (depth u) max_depth then
    (if leb (nodes u) max_nodes then
    (if leb (length (write u)) max_bytes then done
    else input_too_long)
    else too_many_nodes)
    else too_deep)
    else too_many_operations

-- the number of a refusal, and 0 where there is none
abbrev pub number_for : Result (Unit {0}) Refusal → ℕ
number_for (Ok u) = done
number_for (Err refusal) = number_of refusal

abbrev pub VerdictIs : Log → Result (Unit {0}) Refusal → Type 0
VerdictIs log r = (work : Bytes) (os : List Operation) → Noted log work os → number_for r ≡ undo_number (undo_value os)

-- the length of a text that is within its limit
abbrev pub LengthIs : Log → ℕ → Type 0
LengthIs log r = (work : Bytes) (os : List Operation) → Noted log work os → length (undo_text os) ≤ max_bytes → r ≡ length (undo_text os)

-- how many bytes of it stand behind the opening bracket
abbrev pub RestIs : Log → ℕ → Type 0
RestIs log r = (work : Bytes) (os : List Operation) → Noted log work os → length (undo_text os) ≤ max_bytes → suc r ≡ length (undo_text os)

-- such a text is written to an output that has room for it
abbrev pub CopyOutIs : Log → Bytes → Bytes → Bytes → Type 0
CopyOutIs log work out out' =
    (os : List Operation) → Noted log work os → length (undo_text os) ≤ max_bytes → length (undo_text os) ≤ length out
    → out' ≡ undo_text os ++ drop (length (undo_text os)) out

-- the buffer is made zero for its stated length; where it is shorter, nothing changes
abbrev pub cleared : Bytes → Bytes
cleared work = filled 0 work 0 max_bytes
