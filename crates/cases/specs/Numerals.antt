-- The numbers of a header.
use Rattle.std.specs.Prelude.{ℕ, ◌+◌, ◌-◌, ◌*◌, List, [], ◌∷◌, ◌&&◌, eqb, leb}
use Rattle.std.specs.Char.{is_ascii_digit}
use Rattle.std.specs.Prelude.{if◌then◌else◌, Option, Some, None}
use Rattle.cases.specs.Taking.{cut, word_at, ◌>>=◌}
use Rattle.cases.specs.declared.words.Taken.{Taken}
use Rattle.cases.specs.declared.numbers.Three.{Three}

-- the decimal number that digits say behind others that say n; another digit is read only while the number is at most 99,999,999
unfoldable pub worth_from : ℕ → List ℕ → Option ℕ
worth_from n [] = Some n
worth_from n (d ∷ ds) = if is_ascii_digit d && leb n 99_999_999 then worth_from (n * 10 + (d - 48)) ds else None

-- one digit at least
unfoldable pub worth : List ℕ → Option ℕ
worth [] = None
worth (d ∷ ds) = worth_from 0 (d ∷ ds)

-- the number that the byte `end` ends, and the place behind that
unfoldable pub number_at : List ℕ → ℕ → ℕ → Option (Taken ℕ)
number_at s at end = do
  word ← word_at s at end
  n ← worth (cut s word.value)
  Some (record { value = n; next = word.next })

-- the number with i before it, of `count` numbers; 0 if there is none; a blank ends each but the last
unfoldable pub counted : List ℕ → ℕ → ℕ → ℕ → ℕ → Option (Taken ℕ)
counted s at i count end =
    if leb count i then Some (record { value = 0; next = at }) else
    (if eqb (count - i) 1 then number_at s at end else number_at s at 32)

-- `count` numbers, up to three, one after another, and the place behind them
unfoldable pub three_at : List ℕ → ℕ → ℕ → ℕ → Option (Taken (Three ℕ))
three_at s at count end = do
  first ← counted s at 0 count end
  second ← counted s first.next 1 count end
  third ← counted s second.next 2 count end
  Some (record { value = record { first = first.value; second = second.value; third = third.value }; next = third.next })
