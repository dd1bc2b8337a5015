-- What is proved of the reader against the grammar: proofs/Theorems.
use Rattle.std.specs.Prelude.{ℕ, ◌<◌, ◌≤◌, ◌≡◌, ◌↔◌, ◌++◌, length, take}
use Rattle.spec.specs.Outcome.{ok, refused}
use Rattle.spec.specs.Refusal.{not_json}
use Rattle.spec.specs.Bytes.{Bytes}
use Rattle.spec.specs.Value as Value
use Rattle.spec.specs.Read.{read}
use Rattle.grammar.specs.Grammar.{JSON-text}
use Rattle.grammar.specs.Limits.{WithinLimits}

-- What is read is JSON text, and means the value that is read.
abbrev pub Soundness : Type 0
Soundness = (s : Bytes) (v : Value.Value) → read s ≡ ok v → JSON-text s v

-- JSON text within the limits is read, as the value that it means.
abbrev pub Completeness : Type 0
Completeness = (s : Bytes) (v : Value.Value) → JSON-text s v → WithinLimits v → read s ≡ ok v

-- Both at once, and that the limits are kept: what is read is exactly the JSON text within the limits.
abbrev pub Exactness : Type 0
Exactness = (s : Bytes) (v : Value.Value) → (read s ≡ ok v) ↔ (JSON-text s v × WithinLimits v)

-- The grammar is unambiguous in the value: a text means at most one.
abbrev pub Unambiguity : Type 0
Unambiguity = (s : Bytes) (v w : Value.Value) → JSON-text s v → JSON-text s w → v ≡ w

-- JSON text is never refused as such, and by a limit only where it is not within the limits.
abbrev pub Refusals : Type 0
Refusals = (s : Bytes) (v : Value.Value) (number p : ℕ) → JSON-text s v → read s ≡ refused number p → (¬ (number ≡ not_json)) × (¬ WithinLimits v)

-- the bytes are the beginning of some JSON text
pub record Begins (w : Bytes) : Type 0 where
  pub rest : Bytes
  pub meaning : Value.Value
  pub derived : JSON-text (w ++ rest) meaning

-- the first p bytes of s are its longest prefix that also begins some JSON text
pub record LongestBeginning (s : Bytes) (p : ℕ) : Type 0 where
  pub inside : p ≤ length s
  pub begins : Begins (take p s)
  pub longest : (n : ℕ) → p < n → n ≤ length s → ¬ Begins (take n s)

-- SPECIFICATION 3.3: "The place is the length of the longest prefix of the input that also begins some valid text." The limits play no part in
-- it, SPECIFICATION 3.1.
abbrev pub PlaceOf3 : Type 0
PlaceOf3 = (s : Bytes) (p : ℕ) → read s ≡ refused not_json p → LongestBeginning s p

abbrev pub CutShort : Type 0
CutShort = (s : Bytes) (p : ℕ) → Begins s → read s ≡ refused not_json p → p ≡ length s
