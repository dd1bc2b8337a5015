-- What a walk along a pointer answers.
use Rattle.std.specs.Prelude.{ℕ, ◌+◌, ◌≤◌, ◌≡◌, Bool, true, false, Result, Ok, Err, length}
use Rattle.spec.specs.Outcome.{Outcome, ok, refused}
use Rattle.spec.specs.Fault.{number_of}
use Rattle.spec.specs.declared.refusal.Refusal.{Refusal}
use Rattle.spec.specs.declared.refusal.Fault.{Fault}
use Rattle.spec.specs.Forest.{Forest, size}
use Rattle.spec.specs.Value as Value
use Rattle.spec.specs.Pointer.{Tokens, tokens, walk}
use Rattle.text.specs.Decode.{decode}
use Rattle.tape.specs.declared.fields.Spelling.{Spelling}
use Rattle.tape.specs.declared.fields.Cell.{Cell}
use Rattle.table.specs.Meaning.{part_of, meant}
use Rattle.pointer.specs.Tokens.{accepted, tokens_from, FirstOf, TokenAt}
use Rattle.pointer.specs.declared.answers.First.TheVariants as First
use Rattle.pointer.specs.declared.answers.Token.{Token}
use Rattle.origin.specs.Value as Origin
use Rattle.origin.specs.Pointer as Origins
use Rattle.walk.specs.Bearing.{borne}
use Rattle.walk.specs.Names.{Short, token_name}
use Rattle.walk.specs.Step.{StepRows}
use Rattle.table.specs.Sound.{NodeHeld, ForHeld}
use Rattle.tape.specs.Lent.{Texts, Table}

-- a path spells a pointer that has these tokens
pub record PathIs (T : Texts) (path : Spelling) (ts : Tokens) : Type 0 where
  pub is : tokens (decode (part_of T path)) ≡ ok ts

-- and these from a place on
pub record TokensFrom (T : Texts) (path : Spelling) (at : ℕ) (ts : Tokens) : Type 0 where
  pub is : tokens_from (part_of T path) at ≡ ok ts

-- An outcome, and an answer, n tokens farther on; `farther` is one token.
unfoldable pub farther_by : {A : Type 0} → ℕ → Outcome A → Outcome A
farther_by n (ok a) = ok a
farther_by n (refused number walked) = refused number (n + walked)

unfoldable pub reached_behind : ℕ → Result ℕ Fault → Result ℕ Fault
reached_behind n (Ok row) = Ok row
reached_behind n (Err e) = Err (record { refusal = e.refusal; place = n + e.place })

-- The outcome of a walk from a node with `span` nodes below it: the row of a node that is the value reached, and that lies in the tree where
-- the walk began; or the refusal, and the count of tokens walked before the one that failed. What a node is may be said with its origins or
-- without them.
pub data WalkedBy {A : Type 0} (is : Texts → Cell → Forest Cell → A) (w : Table) (row span : ℕ) (o : Outcome A) : Result ℕ Fault → Type 0 where
  reached : {at : ℕ} {c : Cell} {kids : Forest Cell} → o ≡ ok (is w.texts c kids) → NodeHeld w at c kids → row ≤ at
      → at + size kids ≤ row + span → WalkedBy is w row span o (Ok at)
  lost : {e : Fault} → o ≡ refused (number_of e.refusal) e.place → WalkedBy is w row span o (Err e)

abbrev pub Walked : Table → ℕ → ℕ → Outcome Value.Value → Result ℕ Fault → Type 0
Walked w row span o r = WalkedBy meant w row span o r

abbrev pub WalkedBearing : Table → ℕ → ℕ → Outcome Origin.Value → Result ℕ Fault → Type 0
WalkedBearing w row span o r = WalkedBy borne w row span o r

-- ---- whatever the records hold: token after token from a place of the pointer on, each a step, up to the first refusal or the last token
pub data WalkRows (w : Table) (path : Spelling) : ℕ → ℕ → Result ℕ Fault → Type 0 where
  walk_lost : {at row : ℕ} {e : Refusal} (t : Token) → TokenAt (part_of w.texts path) at t
      → StepRows w row (token_name w.texts path at t) (Err e) → WalkRows w path at row (Err (record { refusal = e; place = 0 }))
  walk_last : {at row child : ℕ} (end : ℕ) → TokenAt (part_of w.texts path) at (Token.Last end)
      → StepRows w row (token_name w.texts path at (Token.Last end)) (Ok child) → WalkRows w path at row (Ok child)
  walk_next : {at row child : ℕ} {r : Result ℕ Fault} (end next : ℕ) → TokenAt (part_of w.texts path) at (Token.Next end next)
      → StepRows w row (token_name w.texts path at (Token.Next end next)) (Ok child) → WalkRows w path next child r
      → WalkRows w path at row (reached_behind 1 r)

-- along all tokens, where the pointer has any; the empty pointer leads to the node itself
pub data PathRows (w : Table) (row : ℕ) (path : Spelling) : Result ℕ Fault → Type 0 where
  path_root : FirstOf (part_of w.texts path) First.Root → PathRows w row path (Ok row)
  path_below : {at : ℕ} {r : Result ℕ Fault} → FirstOf (part_of w.texts path) (First.At at) → WalkRows w path at row r → PathRows w row path r

-- whether a path spells a pointer
abbrev pub is_pointer : Texts → Spelling → Bool
is_pointer T path = accepted (tokens (decode (part_of T path)))

-- ---- from a node in a row, along the tokens from a place of the pointer on, or along all. The field `bearing` speaks of values with their
-- origins, and `held` of the same without.
pub record WalkFromIs (w : Table) (row : ℕ) (path : Spelling) (at : ℕ) (r : Result ℕ Fault) : Type 0 where
  pub rows : WalkRows w path at row r
  pub held : (ts : Tokens) → Short w.texts → at ≤ length (part_of w.texts path) → TokensFrom w.texts path at ts
      → ForHeld w row (λ c kids. Walked w row (size kids) (walk ts (meant w.texts c kids)) r)
  pub bearing : (ts : Tokens) → Short w.texts → at ≤ length (part_of w.texts path) → TokensFrom w.texts path at ts
      → ForHeld w row (λ c kids. WalkedBearing w row (size kids) (Origins.walk ts (borne w.texts c kids)) r)

pub record WalkIs (w : Table) (row : ℕ) (path : Spelling) (r : Result ℕ Fault) : Type 0 where
  pub malformed : is_pointer w.texts path ≡ false → r ≡ Err (record { refusal = Refusal.MalformedPointer; place = 0 })
  pub rows : is_pointer w.texts path ≡ true → PathRows w row path r
  pub held : (ts : Tokens) → Short w.texts → PathIs w.texts path ts
      → ForHeld w row (λ c kids. Walked w row (size kids) (walk ts (meant w.texts c kids)) r)
  pub bearing : (ts : Tokens) → Short w.texts → PathIs w.texts path ts
      → ForHeld w row (λ c kids. WalkedBearing w row (size kids) (Origins.walk ts (borne w.texts c kids)) r)
