-- The search paths of names: which rows they lead to, and what entering a row comes to. They are the paths of a digital search tree: in each row
-- the next bit of the name chooses one of two branches.
use Rattle.std.specs.Prelude.{ℕ, ◌+◌, ◌-◌, ◌/◌, ◌<◌, ◌≤◌, ◌≡◌, Bool, true, false, Option, Some, List, ltb, length, get_or, drop, if◌then◌else◌}
use Rattle.tape.specs.Layout.{scratch_row}
use Rattle.tape.specs.Fields.{Row, no_node, name_of}
use Rattle.tape.specs.declared.fields.Name.{Name}
use Rattle.tape.specs.Lent.{Texts, Table}
use Rattle.table.specs.Meaning.{name_text}
use Rattle.table.specs.Find.{same_name}
use Rattle.index.specs.Slots.{room, branches, parents, slots, bucket_slot, branch_slot, slot_at}
use Rattle.index.specs.Bits.{Stream, stream_for, bit_of, rest_of}
use Rattle.index.specs.declared.ways.Ending.{Ending}

-- the row whose branch a slot is, and 0 where a path begins
unfoldable pub owner_of : ℕ → ℕ
owner_of slot = if ltb slot branches then 0 else (slot - branches) / 2

-- a slot leads to a row: rows grow along a path, so that a number left behind by other work leads nowhere, or to a row all the same
pub record Leads (xs : List ℕ) (slot row : ℕ) : Type 0 where
  pub is : slot_at xs slot ≡ row
  pub above : owner_of slot < row
  pub below : row < room

-- the path of these bits from a slot on leads to a row, after some others
pub data Meets (xs : List ℕ) (row : ℕ) : ℕ → Stream → Type 0 where
  here : {slot : ℕ} {q : Stream} → Leads xs slot row → Meets xs row slot q
  there : {slot : ℕ} {q : Stream} (x : ℕ) → Leads xs slot x → Meets xs row (branch_slot x (bit_of q)) (rest_of q) → Meets xs row slot q

-- it leads to a slot
pub data Way (xs : List ℕ) (start : ℕ) (bits : Stream) : ℕ → Stream → Type 0 where
  begun : Way xs start bits start bits
  further : {slot : ℕ} {q : Stream} (x : ℕ) → Way xs start bits slot q → Leads xs slot x → Way xs start bits (branch_slot x (bit_of q)) (rest_of q)

-- the bits of a name
abbrev pub bits_of : Texts → Name → Stream
bits_of texts name = stream_for name.hash (name_text texts name)

-- the path of a name leads to a row
abbrev pub MeetsName : List ℕ → Texts → ℕ → Name → ℕ → Type 0
MeetsName xs texts start name row = Meets xs row start (bits_of texts name)

-- of the rows on the path of a name, none below the limit has the name
abbrev pub NoneNamed : List ℕ → Table → ℕ → ℕ → ℕ → Name → Type 0
NoneNamed xs w base limit start name =
    (t : ℕ) → t < limit → MeetsName xs w.texts start name t → false ≡ same_name w.texts (name_of (get_or w.nodes (base + t) no_node)) name

-- the end of a path through rows below the limit
pub record Descended (w : Table) (xs : List ℕ) (base limit start : ℕ) (name : Name) (r : Ending) : Type 0 where
  pub bits : Stream
  pub way : Way xs start (bits_of w.texts name) r.slot bits
  pub owner : owner_of r.slot < limit
  pub ends : (x : ℕ) → x < limit → Leads xs r.slot x → ⊥
  pub inside : r.slot < parents
  pub others : r.same ≡ false → NoneNamed xs w base limit start name

-- paths to rows below a limit stay
abbrev pub Kept : ℕ → List ℕ → List ℕ → Type 0
Kept limit xs ys = (slot : ℕ) (q : Stream) (t : ℕ) → t < limit → Meets xs t slot q → Meets ys t slot q

-- What entering a member comes to. Every path to a row before it stays. Where the numbers fit, its own path now leads to it. After the answer
-- false no row on its path has the name; the answer true says nothing, and must be confirmed by a search. Noted parents, and what is lent beyond
-- the index, stay as they were. Which slots change otherwise is left free.
pub record Entered (w : Table) (xs : List ℕ) (base object row : ℕ) (name : Name) (ys : List ℕ) (r : Bool) : Type 0 where
  pub kept : Kept (row - base) xs ys
  pub found : base ≤ scratch_row → base < row → row < base + room → slots ≤ length xs
      → MeetsName ys w.texts (bucket_slot object name.hash) name (row - base)
  pub others : r ≡ false → NoneNamed xs w base (row - base) (bucket_slot object name.hash) name
  pub behind : drop parents ys ≡ drop parents xs

-- the same by the hash of a name alone, whatever the two texts are
pub record DescendedByHash (nodes : List Row) (xs : List ℕ) (base limit start : ℕ) (name : Name) (r : Option ℕ) : Type 0 where
  pub ends : (slot : ℕ) → r ≡ Some slot → (T : Texts)
      → Descended (record { texts = T; nodes = nodes }) xs base limit start name (record { slot = slot; same = false })

-- After the answer true the member is entered, and no row on its path has the name. After the answer false nothing has changed. When the answer
-- is true is left free: it is a quick way for most members, and one that always answered false would do.
pub record EnteredByHash (nodes : List Row) (xs : List ℕ) (base object row : ℕ) (name : Name) (ys : List ℕ) (r : Bool) : Type 0 where
  pub entered : r ≡ true → (T : Texts) → Entered (record { texts = T; nodes = nodes }) xs base object row name ys false
  pub not_entered : r ≡ false → ys ≡ xs
