-- The answers of the two calls: SPECIFICATION 13.1. T-07: "2 and 16 have place 0; text and op are always 0."
use Rattle.std.specs.Prelude.{ℕ, [], length, nat_le, if◌then◌else◌}
use Rattle.spec.specs.Outcome.{Outcome, ok, refused}
use Rattle.spec.specs.Refusal.{done, input_too_long, output_too_short}
use Rattle.spec.specs.Bytes.{Bytes}
use Rattle.intel_hex.specs.Record.{max_text, hex_of}
use Rattle.intel_hex.specs.Reading.{read_text}

-- a number, a place, and the written text, which is empty after a refusal; its length is the answer's
pub record Answer : Type 0 where
  pub number : ℕ
  pub place : ℕ
  pub written : Bytes

abbrev pub success : Bytes → Answer
success t = record { number = done; place = 0; written = t }

abbrev pub refusal : ℕ → ℕ → Answer
refusal number place = record { number = number; place = place; written = [] }

-- "both ways 16 last for a short output"
unfoldable pub fitting : ℕ → Bytes → Answer
fitting room t = if nat_le (length t) room then success t else refusal output_too_short 0

-- "when writing, 2 for a longer text"
unfoldable pub write_answer : Bytes → ℕ → Answer
write_answer text room = if nat_le (length text) max_text then fitting room (hex_of text) else refusal input_too_long 0

unfoldable pub outcome_answer : Outcome Bytes → ℕ → Answer
outcome_answer (ok text) room = fitting room text
outcome_answer (refused number line) room = refusal number line

unfoldable pub read_answer : Bytes → ℕ → Answer
read_answer s room = outcome_answer (read_text s) room
