-- Laws of the pass that finds the members of an operation: of each name, what is found in the rows that are passed.
use Rattle.std.specs.Prelude.{Option, Some, None, if◌then◌else◌}
use Rattle.std.specs.Option.{is_some}
use Prim.Native.Nat.{ℕ, ◌+◌, ◌<◌, ◌≤◌}
use native.Mathlib.Omega.{arith}
use mathlib.Core.Path.{◌≡◌, refl, sym, ap, ◌∙◌}
use mathlib.Core.Bool.{Bool, true, false, true≢false}
use mathlib.Core.List.{[]}
use lib.ListN.{length, get_or}
use Rattle.spec.specs.Bytes.{Bytes, Text, ascii}
use Rattle.spec.specs.Value.{same_text}
use Rattle.spec.proofs.TextLaws.{same_text_refl}
use Rattle.lexer.specs.Hash.{hash}
use Rattle.text.specs.Decode.{decode, text_of, text_from}
use Rattle.tape.specs.Fields.{name_of}
use Rattle.tape.specs.declared.fields.Spelling.{Spelling}
use Rattle.tape.specs.declared.fields.Name.{Name}
use Rattle.tape.specs.Rows.{end_of}
use Rattle.tape.specs.Lent.{Texts, Table}
use Rattle.table.specs.Meaning.{part_of, spelled, short_hash}
use Rattle.table.specs.Find.{is_named, row_behind, Sought}
use Rattle.table.proofs.Search.{Passed, pass, meet, over, finds_ascii}
use Rattle.shape.specs.Members.{MemberIs, MembersFound, noted, noted_name, all_noted}
use Rattle.shape.specs.declared.all_members.Members.{Members}
use Rattle.shape.proofs.MemberLaws.{member_is, member-out}

-- ---- a name without escapes that has the bytes of a word says it
plain_text : {form : ℕ} {s word : Bytes} → form ≡ 1 → s ≡ word → decode word ≡ word → text_of form s ≡ word
unfolding text_of text_from decode
plain_text form bytes plain = rw (form, bytes) plain

pub says_plainly : (T : Texts) (name : Spelling) {s word : Bytes} → decode word ≡ word → name.form ≡ 1 → s ≡ part_of T name → s ≡ word
    → true ≡ same_text (spelled T name) word
unfolding spelled
says_plainly T name {word = word} plain form is same =
    sym (ap (λ t. same_text t word) (plain_text form (sym is ∙ same) plain) ∙ same_text_refl word)

-- ---- one name in one row
module _ (T : Texts) (own : Name) (at : ℕ) (so_far : Option ℕ) (h : ℕ) (name : Text) where
  pub noted-before : true ≡ is_some so_far → so_far ≡ noted T own at so_far h name
  unfolding noted
  noted-before e = go so_far e
    where
      go : (m : Option ℕ) → true ≡ is_some m → m ≡ noted T own at m h name
      go None e = absurd (true≢false e)
      go (Some row) e = refl

  pub noted_other : false ≡ is_named T own h name → so_far ≡ noted T own at so_far h name
  unfolding noted
  noted_other e = go so_far
    where
      go : (m : Option ℕ) → m ≡ noted T own at m h name
      go None = rw (← e)
      go (Some row) = refl

  module _ (nothing_before : false ≡ is_some so_far) where
    none : so_far ≡ None
    none = go so_far nothing_before
      where
        go : (m : Option ℕ) → false ≡ is_some m → m ≡ None
        go None e = refl
        go (Some row) e = absurd (true≢false (sym e))

    pub noted_here : true ≡ is_named T own h name → Some at ≡ noted T own at so_far h name
    unfolding noted
    noted_here e = rw (none, ← e)

    pub noted_none : false ≡ is_named T own h name → None ≡ noted T own at so_far h name
    noted_none e = sym none ∙ noted_other e

-- the four names
pub each_noted : (T : Texts) (own : Name) (at : ℕ) (m : Members) {op path value from : Option ℕ}
    → op ≡ noted_name T own at m.op (ascii "op") → path ≡ noted_name T own at m.path (ascii "path")
    → value ≡ noted_name T own at m.value (ascii "value") → from ≡ noted_name T own at m.from (ascii "from")
    → record { op = op; path = path; value = value; from = from } ≡ all_noted T own at m
each_noted T own at m o p v f i = record { op = o i; path = p i; value = v i; from = f i }

-- ---- what is found of a name up to a row: nothing yet, or the first row that has it
abbrev named : Table → Text → Name → Bool
named w name own = is_named w.texts own (short_hash (hash name)) name

pub data Noted (w : Table) (stop start at : ℕ) (name : Text) : Option ℕ → Type 0 where
  nothing : Passed w.nodes stop (named w name) start at → Noted w stop start at name None
  first : {row : ℕ} → Sought w.nodes stop (named w name) start (Some row) → Noted w stop start at name (Some row)

pub record AllNoted (w : Table) (stop start at : ℕ) (m : Members) : Type 0 where
  pub op : Noted w stop start at (ascii "op") m.op
  pub path : Noted w stop start at (ascii "path") m.path
  pub value : Noted w stop start at (ascii "value") m.value
  pub from : Noted w stop start at (ascii "from") m.from

-- nothing is found before the first row
pub all_nothing : {w : Table} {stop start : ℕ} → AllNoted w stop start start (record { op = None; path = None; value = None; from = None })
all_nothing =
    record { op = nothing (λ r s. s); path = nothing (λ r s. s); value = nothing (λ r s. s); from = nothing (λ r s. s) }

-- the next row
module _ {w : Table} {stop start at : ℕ} (own : Name) (next : ℕ) (inside : at < stop) (own_is : own ≡ name_of (get_or w.nodes at []))
    (behind : next ≡ row_behind w.nodes at) where
  noted_next : {name : Text} {found : Option ℕ} → Noted w stop start at name found → Noted w stop start next name
      (noted w.texts own at found (short_hash (hash name)) name)
  unfolding noted
  noted_next {name} (nothing passed) = go (named w name own) refl
    where
      go : (b : Bool) → named w name own ≡ b → Noted w stop start next name (if named w name own then Some at else None)
      go true e = rw e (first (meet passed inside (sym e) own_is))
      go false e = rw e (nothing (pass passed next inside (sym e) own_is behind))
  noted_next (first sought) = first sought

  pub all_next : {m m' : Members} → m' ≡ all_noted w.texts own at m → AllNoted w stop start at m → AllNoted w stop start next m'
  all_next e a =
      rw e (record { op = noted_next a.op; path = noted_next a.path; value = noted_next a.value; from = noted_next a.from })

-- ---- behind the last row
module _ {w : Table} {row at stop : ℕ} (stops : stop ≡ end_of w.nodes row) (all : stop ≤ at) where
  noted_all : {name : Text} {found : Option ℕ} → Noted w stop (row + 1) at name found → MemberIs w row name found
  noted_all (nothing passed) = member_is stops (finds_ascii stop (omega (arith, stops)) refl (over passed all))
  noted_all (first sought) = member_is stops (finds_ascii stop (omega (arith, stops)) refl sought)

  pub all_found : {m : Members} → AllNoted w stop (row + 1) at m → MembersFound w row m
  all_found a = record { op = noted_all a.op; path = noted_all a.path; value = noted_all a.value; from = noted_all a.from }

-- in a row behind the table
pub all_out : {w : Table} {row : ℕ} → length w.nodes ≤ row → MembersFound w row (record { op = None; path = None; value = None; from = None })
all_out h = record { op = member-out h; path = member-out h; value = member-out h; from = member-out h }
