-- Words and parts of a file, by places in it.
use Rattle.std.specs.Prelude.{ℕ, ◌+◌, ◌-◌, List, [], ◌==◌, eqb, leb, ltb, length, take, drop, get_or, position}
use Rattle.std.specs.Prelude.{if◌then◌else◌, Option, Some, None, option_and_then, option_map}
use Rattle.cases.specs.declared.words.Part.{Part}
use Rattle.cases.specs.declared.words.Taken.{Taken}

-- what is done with the value, if there is one
infixl 10 ◌>>=◌
abbrev pub ◌>>=◌ : {A B : Type 0} → Option A → (A → Option B) → Option B
o >>= next = option_and_then next o

-- the first `byte` from `at` on
unfoldable pub found : List ℕ → ℕ → ℕ → Option ℕ
found s at byte = option_map (λ n. at + n) (position (λ b. b == byte) (drop at s))

-- a part's bytes; none, where the file has no such part
unfoldable pub cut : List ℕ → Part → List ℕ
cut s p =
    if leb p.start p.end then
    (if leb p.end (length s) then take (p.end - p.start) (drop p.start s) else [])
    else []

-- what stands from `at` on up to the byte `end`, and the place behind that
unfoldable pub word_at : List ℕ → ℕ → ℕ → Option (Taken Part)
word_at s at end = found s at end >>= (λ i. Some (record { value = record { start = at; end = i }; next = i + 1 }))

-- `count` bytes from `at` on that a newline ends, and the place behind that
unfoldable pub bytes_at : List ℕ → ℕ → ℕ → Option (Taken Part)
bytes_at s at count =
    if ltb (at + count) (length s) then
    (if eqb (get_or s (at + count) 0) 10 then Some (record { value = record { start = at; end = at + count }; next = at + count + 1 }) else None)
    else None
