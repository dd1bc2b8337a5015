-- The line that the patch tool prints: SPECIFICATION 10.2. It is the written text and a newline, or `refused`, the number, `text`, its
-- value, `op`, its value, `place`, its value, on one line. T-01: "the refusal line ends in `pointer` and its value, on every line".
use Rattle.std.specs.Prelude.{ℕ, zero, suc, ◌+◌, ◌/◌, ◌%◌, [], ◌∷◌, ◌++◌, eqb, ltb}
use Prim.Native.Char.{code}
use Rattle.std.specs.Prelude.{if◌then◌else◌}
use Rattle.spec.specs.Bytes.{Bytes, ascii}
use Rattle.spec.specs.Refusal.{done}
use Rattle.spec.specs.Answer.{Answer}

-- the digit of a number below 10
unfoldable pub digit : ℕ → ℕ
digit n = code "0" + n

-- A number's digits, the last one behind those of its tenth part. Its tenth part is less, so that fuel above the number never runs out.
unfoldable pub in_decimal_from : ℕ → ℕ → Bytes
in_decimal_from zero n = []
in_decimal_from (suc fuel) n = if ltb n 10 then digit n ∷ [] else in_decimal_from fuel (n / 10) ++ (digit (n % 10) ∷ [])

unfoldable pub in_decimal : ℕ → Bytes
in_decimal n = in_decimal_from (suc n) n

abbrev pub newline : Bytes
newline = 0x0A ∷ []

-- what a refusal's line ends in
unfoldable pub last_field : ℕ → Bytes
last_field pointer = ascii " pointer " ++ in_decimal pointer ++ newline

-- the line of a refusal with this number, text, op, place and pointer
unfoldable pub refusal_line : ℕ → ℕ → ℕ → ℕ → ℕ → Bytes
refusal_line number text op place pointer =
    ascii "refused " ++ in_decimal number
    ++ ascii " text " ++ in_decimal text
    ++ ascii " op " ++ in_decimal op
    ++ ascii " place " ++ in_decimal place
    ++ last_field pointer

-- the line of an answer
unfoldable pub line_of : Answer → Bytes
line_of a = if eqb a.number done then a.written ++ newline else refusal_line a.number a.text a.op a.place a.pointer
