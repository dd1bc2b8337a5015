-- A case in a file of cases: `WORD NAME ROOM .. LENGTH ..`, a newline, and texts of those lengths with a newline behind each.
use Rattle.std.specs.Prelude.{ℕ, List, [], ◌∷◌, leb}
use Rattle.std.specs.Prelude.{if◌then◌else◌, Option, Some, None}
use Rattle.spec.specs.Value.{same_text}
use Rattle.cases.specs.Taking.{cut, word_at, bytes_at, ◌>>=◌}
use Rattle.cases.specs.Numerals.{three_at}
use Rattle.cases.specs.declared.words.Part.{Part}
use Rattle.cases.specs.declared.words.Taken.{Taken}
use Rattle.cases.specs.declared.numbers.Three.{Three}
use Rattle.cases.specs.declared.reading.Case.{Case}

-- the name, behind the word
unfoldable pub name_at : List ℕ → ℕ → List ℕ → Option (Taken Part)
name_at s at word = word_at s at 32 >>= (λ first. if same_text (cut s first.value) word then word_at s first.next 32 else None)

-- the text with i before it, of `count` texts; an empty part if there is none
unfoldable pub text_at : List ℕ → ℕ → ℕ → ℕ → ℕ → Option (Taken Part)
text_at s at i count length =
    if leb count i then Some (record { value = record { start = at; end = at }; next = at }) else bytes_at s at length

-- `count` texts, up to three, one after another, and the place behind them
unfoldable pub texts_at : List ℕ → ℕ → Three ℕ → ℕ → Option (Taken (Three Part))
texts_at s at lengths count = do
  first ← text_at s at 0 count lengths.first
  second ← text_at s first.next 1 count lengths.second
  third ← text_at s second.next 2 count lengths.third
  Some (record { value = record { first = first.value; second = second.value; third = third.value }; next = third.next })

-- the word `case`
abbrev pub case_word : List ℕ
case_word = 99 ∷ 97 ∷ 115 ∷ 101 ∷ []

-- the case that begins with `word` at the place `at` and has `rooms` numbers and `texts` texts, up to three of each
unfoldable pub case_at : List ℕ → ℕ → List ℕ → ℕ → ℕ → Option Case
case_at s at word rooms texts = do
  name ← name_at s at word
  lent ← three_at s name.next rooms 32
  lengths ← three_at s lent.next texts 10
  stand ← texts_at s lengths.next lengths.value texts
  Some (record { name = name.value; rooms = lent.value; texts = stand.value; next = stand.next })
