-- What reading the two texts comes to.
use Rattle.std.specs.Prelude.{ℕ, ◌≤◌, ◌<◌, ◌≡◌, List, Result, Ok, Err, length}
use Rattle.spec.specs.Outcome.{ok, refused}
use Rattle.spec.specs.Limits.{max_bytes, work_nodes, work_entries}
use Rattle.spec.specs.Fault.{number_of}
use Rattle.spec.specs.declared.refusal.Fault.{Fault}
use Rattle.spec.specs.declared.refusal.Refusal.TheVariants as Refusal
use Rattle.spec.specs.Value as Value
use Rattle.spec.specs.Read.{read}
use Rattle.tape.specs.Fields.{Row}
use Rattle.tape.specs.Lent.{Texts}
use Rattle.walk.specs.Names.{Short}
use Rattle.reader.specs.Work.{Work}
use Rattle.changes.specs.Site.{table}
use Rattle.changes.specs.Document.{Document}
use Rattle.json_patch.specs.Stages.{PatchHeld}
use Rattle.json_patch.specs.declared.texts.Unread.{Unread}

-- ---- the lengths
abbrev pub too_long : ℕ → Unread
too_long text = record { text = text; fault = record { refusal = Refusal.InputTooLong; place = 0 } }

pub data LengthsAre (T : Texts) : Result (Unit {0}) Unread → Type 0 where
  document_long : max_bytes < length T.document → LengthsAre T (Err (too_long 1))
  patch_long : length T.document ≤ max_bytes → max_bytes < length T.patch → LengthsAre T (Err (too_long 2))
  both_short : length T.document ≤ max_bytes → length T.patch ≤ max_bytes → LengthsAre T (Ok tt)

-- ---- what is read: the first refusal of the definitions' readings, or the trees of both values in the table
pub data TextsRead (T : Texts) (nodes : List Row) : Result ℕ Unread → Type 0 where
  document_unread : (e : Fault) → read T.document ≡ refused (number_of e.refusal) e.place
      → TextsRead T nodes (Err (record { text = 1; fault = e }))
  patch_unread : (e : Fault) (v : Value.Value) → read T.document ≡ ok v → read T.patch ≡ refused (number_of e.refusal) e.place
      → TextsRead T nodes (Err (record { text = 2; fault = e }))
  texts_read : (used : ℕ) (v p : Value.Value) → read T.document ≡ ok v → read T.patch ≡ ok p → Document (table T nodes) used v
      → PatchHeld (table T nodes) p → Short T
      → TextsRead T nodes (Ok used)

-- where the work area is long enough and neither text is too long
abbrev pub ReadTextsIs : Texts → Work → List Row → Result ℕ Unread → Type 0
ReadTextsIs T w nodes' r =
    work_nodes ≤ length w.nodes → work_entries ≤ length w.index → length T.document ≤ max_bytes → length T.patch ≤ max_bytes
    → TextsRead T nodes' r
