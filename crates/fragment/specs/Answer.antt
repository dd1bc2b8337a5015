-- The answers of the two calls: SPECIFICATION 12.1. T-14: "Refusals, each leaving the output unchanged and the other fields 0."
use Rattle.std.specs.Prelude.{ℕ, [], length, leb, if◌then◌else◌}
use Rattle.spec.specs.Outcome.{Outcome, ok, refused}
use Rattle.spec.specs.Refusal.{done, input_too_long, malformed_pointer, output_too_short}
use Rattle.spec.specs.Limits.{max_bytes}
use Rattle.spec.specs.Bytes.{Bytes}
use Rattle.fragment.specs.Link.{bad_link, link, octets_of, is_utf8, is_pointer}

-- a number, and the written text, which is empty after a refusal; its length is the answer's
pub record Answer : Type 0 where
  pub number : ℕ
  pub written : Bytes

abbrev pub success : Bytes → Answer
success t = record { number = done; written = t }

abbrev pub refusal : ℕ → Answer
refusal number = record { number = number; written = [] }

-- the text, or 16 where the output has no room for it
unfoldable pub fitting : ℕ → Bytes → Answer
fitting room t = if leb (length t) room then success t else refusal output_too_short

-- "when writing, 10 for a pointer malformed or not UTF-8, then 16"
unfoldable pub write_answer : Bytes → ℕ → Answer
write_answer pointer room = if is_pointer pointer then fitting room (link pointer) else refusal malformed_pointer

-- of the octets of a link: "22 for [..] bytes that are not UTF-8; then 10; then 16"
unfoldable pub octets_answer : Outcome Bytes → ℕ → Answer
octets_answer (ok pointer) room =
    if is_utf8 pointer then
    (if is_pointer pointer then fitting room pointer else refusal malformed_pointer)
    else refusal bad_link
octets_answer (refused number place) room = refusal bad_link

-- "when reading, 2 for a link over 32,768 bytes; 22 for no `#` in front, a bad byte, a bad percent [..]"
unfoldable pub read_answer : Bytes → ℕ → Answer
read_answer text room = if leb (length text) max_bytes then octets_answer (octets_of text) room else refusal input_too_long
