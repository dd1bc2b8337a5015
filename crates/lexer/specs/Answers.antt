-- What each answer of the code stands for: the outcome of the definition that it is held to.
use Rattle.std.specs.Prelude.{ℕ, ◌+◌, ◌≡◌, Bool, Result, ltb, length, if◌then◌else◌}
use Rattle.spec.specs.Outcome.{Outcome, ok, refused}
use Rattle.spec.specs.Refusal.{not_json}
use Rattle.spec.specs.Fault.{outcome_by}
use Rattle.spec.specs.declared.refusal.Fault.{Fault}
use Rattle.spec.specs.Bytes.{Bytes, byte}
use Rattle.lexer.specs.declared.cursor.ByteRead.{ByteRead}
use Rattle.lexer.specs.declared.cursor.Cursor.{Cursor}
use Rattle.lexer.specs.declared.characters.Character.{Character}
use Rattle.lexer.specs.declared.strings.Name.{Name}
use Rattle.lexer.specs.declared.strings.Quoted.{Quoted}

-- the place after a byte; past the end of the text there is none, and the place stays
unfoldable pub after_byte : Bytes → ℕ → ℕ
after_byte s at = if ltb at (length s) then at + 1 else at

-- a byte that was read, and the place after it
pub record ReadIs (s : Bytes) (at : ℕ) (r : ByteRead) : Type 0 where
  pub byte_is : r.byte ≡ byte s at
  pub next_is : r.next.at ≡ after_byte s at

abbrev pub character_outcome : Result Character Fault → Outcome (ℕ × ℕ)
character_outcome r = outcome_by (λ c. (c.code, c.next.at)) r

abbrev pub scan_outcome : Result Cursor Fault → Outcome ℕ
scan_outcome r = outcome_by (λ next. next.at) r

abbrev pub quoted_outcome : Result Quoted Fault → Outcome (ℕ × Bool)
quoted_outcome r = outcome_by (λ q. (q.next.at, q.plain)) r

abbrev pub name_outcome : Result Name Fault → Outcome (ℕ × ℕ × Bool)
name_outcome r = outcome_by (λ n. (n.next.at, n.hash, n.plain)) r
