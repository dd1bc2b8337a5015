-- What comes next in a container.
use Rattle.std.specs.Prelude.{ℕ, ◌+◌, ◌≡◌, Bool, true, List, Result, Ok, Err, eqb, if◌then◌else◌}
use Prim.Native.Char.{code}
use Rattle.spec.specs.Outcome.{Outcome, ok, refused, ◌>>=◌}
use Rattle.spec.specs.Fault.{number_of}
use Rattle.spec.specs.declared.refusal.Fault.{Fault}
use Rattle.spec.specs.Bytes.{Bytes, Text, byte}
use Rattle.spec.specs.Forest.{count}
use Rattle.spec.specs.Value.{Members}
use Rattle.spec.specs.Read.{blanks, name_for, closing_bracket}
use Rattle.lexer.specs.declared.cursor.Cursor.{Cursor}
use Rattle.reader.specs.Work.{Work}
use Rattle.reader.specs.Words.{Titles, past_separator}
use Rattle.reader.specs.Filled.{Noted}
use Rattle.reader.specs.Names.{LeadsNext, Having, NamedIs}
use Rattle.reader.specs.declared.containers.Container.{Container}
use Rattle.reader.specs.declared.words.Named.{Named}
use Rattle.reader.specs.declared.items.Item.{Item}
use Rattle.reader.specs.declared.items.Item.TheVariants.{Begins, Closed}

-- its closing bracket, with the place after it; or an item's name, with the place where its value begins
pub data Next : Type 0 where
  closed : ℕ → Next
  begins : Text → ℕ → Next

-- the place of an item: a comma stands before every one but the first
unfoldable pub after_comma : Bytes → Bool → ℕ → Outcome ℕ
after_comma s first at = if first then ok at else past_separator s (code ",") at

-- its name; `so_far` are the items before
unfoldable pub next_name : Bool → Bytes → Members → ℕ → Outcome (Text × ℕ)
next_name object s so_far at = after_comma s (eqb (count so_far) 0) at >>= name_for object s so_far

unfoldable pub begun : Text × ℕ → Outcome Next
begun (name, at) = ok (begins name at)

-- what comes next, from the place after the opening bracket or after a value
unfoldable pub next_item : Bool → Bytes → Members → ℕ → Outcome Next
next_item object s so_far at =
    let place = blanks s at in
    if eqb (byte s place) (closing_bracket object) then ok (closed (place + 1)) else (next_name object s so_far place >>= begun)

-- what the code answers
pub data ItemIs (s : Bytes) (k : Container) (ys : List ℕ) (o : Outcome Next) : Result Item Fault → Type 0 where
  item_begins : (text : Text) (n : Named) → o ≡ ok (begins text n.next.at) → Titles k.source.number s text n.name
      → (k.object ≡ true → LeadsNext k ys text) → ItemIs s k ys o (Ok (Begins n))
  item_closed : (next : Cursor) → o ≡ ok (closed next.at) → ItemIs s k ys o (Ok (Closed next))
  item_refused : (e : Fault) → o ≡ refused (number_of e.refusal) e.place → ItemIs s k ys o (Err e)

-- its answer for the next name, and for the next item, given the items so far; and the index afterwards
abbrev pub NextNameIs : Bytes → Container → Work → List ℕ → ℕ → Result Named Fault → Type 0
NextNameIs s k w ys at r = NamedIs s k w ys (λ all. next_name k.object s all at) r

pub record NextItemIs (s : Bytes) (k : Container) (w : Work) (ys : List ℕ) (at : ℕ) (r : Result Item Fault) : Type 0 where
  pub answer : Having s k w (λ all. ItemIs s k ys (next_item k.object s all at) r)
  pub noted : Noted k.source.base k.end w.index ys
