-- The pieces of an operation's text: what its action says, its path, and what stands behind the path.
use Rattle.std.specs.Prelude.{ℕ, suc, ◌+◌, ◌≤◌, min, max, ◌≡◌, Bool, List, ◌++◌, leb, length, drop}
use Rattle.spec.specs.Limits.{max_bytes, max_depth, max_nodes}
use Rattle.spec.specs.Bytes.{Bytes, ascii}
use Rattle.spec.specs.Forest.{size}
use Rattle.spec.specs.Value as Value
use Rattle.spec.specs.Value.{depths}
use Rattle.spec.specs.Write.{write_characters, write_string, write}
use Rattle.spec.specs.Operation.{Kind, Operation}
use Rattle.tape.specs.Fields.{Row}
use Rattle.tape.specs.Lent.{Texts, Table}
use Rattle.writer.specs.Writing.{Placed, PlacedSome}
use Rattle.text.specs.Decode.{decode}
use Rattle.reversal.specs.Undo.{index_token}
use Rattle.reversal.specs.UndoValue.{value_member}
use Rattle.reversal.specs.UndoText.{value_text}
use Rattle.undo_log.specs.declared.note.Action.{Action}
use Rattle.undo_log.specs.declared.note.Action.TheVariants.{Add, Remove, Replace}
use Rattle.undo_log.specs.declared.note.Target.{Target}
use Rattle.undo_log.specs.Log.{target_text, ValueHeld}

-- an operation's kind and value are those of an action
unfoldable pub Carries : Table → Action → Operation → Type 0
Carries w (Add row) o = (o.kind ≡ Kind.add) × ValueHeld w row o.value
Carries w Remove o = o.kind ≡ Kind.remove
Carries w (Replace row) o = (o.kind ≡ Kind.replace) × ValueHeld w row o.value

-- ---- the pieces
-- what stands before the path: the comma that separates the operation from what comes before it, and its `op`
unfoldable pub head_bytes : Action → Bytes
head_bytes (Add row) = ascii ",{\"op\":\"add\",\"path\":"
head_bytes Remove = ascii ",{\"op\":\"remove\",\"path\":"
head_bytes (Replace row) = ascii ",{\"op\":\"replace\",\"path\":"

-- the path: its characters, and these between quotation marks
abbrev pub target_bytes : Texts → Target → Bytes
target_bytes T target = write_characters (target_text T target)

abbrev pub path_bytes : Texts → Target → Bytes
path_bytes T target = write_string (target_text T target)

-- a pointer of the patch, with an index behind it
unfoldable pub appended_bytes : Bytes → ℕ → Bytes
appended_bytes path index = write_characters (decode path) ++ index_token index

-- a value behind the path
unfoldable pub value_bytes : Value.Value → Bytes
value_bytes v = ascii ",\"value\":" ++ (write v ++ ascii "}")

-- what stands behind the path
unfoldable pub end_bytes : Operation → Bytes
end_bytes o = value_text o ++ ascii "}"

unfoldable pub note_bytes : Texts → Action → Target → Operation → Bytes
note_bytes T action target o = head_bytes action ++ (path_bytes T target ++ end_bytes o)

-- a length is cut off one past the limit
abbrev pub capped : ℕ → ℕ
capped n = min n (suc max_bytes)

-- ---- the contracts: of whatever value the table holds in the row, and of whatever operation carries what the action says
abbrev pub ForValue : Table → ℕ → (Value.Value → Type 0) → Type 0
ForValue w row P = (v : Value.Value) → ValueHeld w row v → P v

abbrev pub ForCarried : Table → Action → (Operation → Type 0) → Type 0
ForCarried w action P = (o : Operation) → Carries w action o → P o

-- bytes that are laid down; where there is no such value, it is free which
pub record PutValueIs (w : Table) (row : ℕ) (before after : Bytes) (r : ℕ) : Type 0 where
  pub some : PlacedSome 0 before after r
  pub held : ForValue w row (λ v. Placed (value_bytes v) 0 before after r)

pub record PutEndingIs (w : Table) (action : Action) (before after : Bytes) (r : ℕ) : Type 0 where
  pub some : PlacedSome 0 before after r
  pub held : ForCarried w action (λ o. Placed (end_bytes o) 0 before after r)

abbrev pub PutOperationIs : Table → Action → Target → Bytes → Bytes → ℕ → Type 0
PutOperationIs w action target before after r = ForCarried w action (λ o. Placed (note_bytes w.texts action target o) 0 before after r)

-- lengths
abbrev pub ValueLengthIs : Table → ℕ → ℕ → Type 0
ValueLengthIs w row r = ForValue w row (λ v. r ≡ capped (length (value_bytes v)))

abbrev pub EndingLengthIs : Table → Action → ℕ → Type 0
EndingLengthIs w action r = ForCarried w action (λ o. r ≡ capped (length (end_bytes o)))

abbrev pub OperationLengthIs : Table → Action → Target → ℕ → Type 0
OperationLengthIs w action target r = ForCarried w action (λ o. r ≡ capped (length (note_bytes w.texts action target o)))

-- the length of the text with one more operation before it
abbrev pub MoreBytesIs : Table → ℕ → Action → Target → ℕ → Type 0
MoreBytesIs w bytes action target r =
    (tail : ℕ) → bytes ≡ capped tail → ForCarried w action (λ o. r ≡ capped (length (note_bytes w.texts action target o) + tail))

-- Where the buffer has room for these bytes, the operation's text stands before the rest of them, which is unchanged.
abbrev pub LayDownIs : Table → Action → Target → ℕ → Bytes → Bytes → Type 0
LayDownIs w action target bytes before after =
    ForCarried w action
    (λ o. (start : ℕ) → start + bytes ≡ length before → length (note_bytes w.texts action target o) ≤ bytes →
    drop start after ≡ note_bytes w.texts action target o ++ drop (start + length (note_bytes w.texts action target o)) before)

-- ---- the counts, whatever the texts are
abbrev pub ForNodes : List Row → Action → (Operation → Type 0) → Type 0
ForNodes nodes action P = (T : Texts) → ForCarried (record { texts = T; nodes = nodes }) action P

-- whether the undo is within the limit of levels with one more operation, whose object stands in the array and whose value stands in the object
abbrev pub ShallowIs : List Row → Bool → Action → Bool → Type 0
ShallowIs nodes shallow action r =
    (d : ℕ) → shallow ≡ leb d max_depth → ForNodes nodes action (λ o. r ≡ leb (max (suc (suc (depths (value_member o)))) d) max_depth)

-- the nodes with one more operation: its object, its `op` and its `path`, and those of its value
abbrev pub WithValueIs : List Row → ℕ → ℕ → ℕ → Type 0
WithValueIs nodes count row r =
    (n : ℕ) → count ≡ min n (suc max_nodes) → (T : Texts) → ForValue (record { texts = T; nodes = nodes }) row
    (λ v. r ≡ min (n + (3 + Value.nodes v)) (suc max_nodes))

abbrev pub MoreNodesIs : List Row → ℕ → Action → ℕ → Type 0
MoreNodesIs nodes count action r =
    (n : ℕ) → count ≡ min n (suc max_nodes) → ForNodes nodes action (λ o. r ≡ min (n + (3 + size (value_member o))) (suc max_nodes))
