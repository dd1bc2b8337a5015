-- What is written is read back: SPECIFICATION 3 and 8.
use Rattle.std.specs.Prelude.{◌≡◌, List}
use Rattle.spec.specs.Outcome.{ok}
use Rattle.spec.specs.Bytes.{Bytes, Text}
use Rattle.spec.specs.Value as Value
use Rattle.spec.specs.Value.{Label, leaf}
use Rattle.spec.specs.Read.{read}
use Rattle.spec.specs.Write.{write}
use Rattle.spec.specs.Operation.{Operation, limited}
use Rattle.spec.specs.Patch.{finished, run}
use Rattle.spec.specs.Answer.{Lent, answer, success}
use Rattle.spec.specs.Region.{Accepted, WellFormed}
use Rattle.spec.specs.Proper.{ScalarValues, Readable}

-- a text that is the document patched: the operations run from the document's value to another, and the text is read as that one
pub record Patched (document patch text : Bytes) : Type 0 where
  pub before : Value.Value
  pub after : Value.Value
  pub operations : List Operation
  pub accepted : Accepted document before
  pub formed : WellFormed patch operations
  pub runs : run limited 1 operations before ≡ finished after
  pub writes : text ≡ write after
  pub reads : read text ≡ ok after

pub record RoundTripStatement : Type 0 where
  -- every Unicode character, wherever it stands in a string, is read back as it was written
  pub characters_back : (cs : Text) → ScalarValues cs → read (write (leaf (Label.string cs))) ≡ ok (leaf (Label.string cs))
  -- a value that is written is read back, numbers by their source text and members in their order
  pub read_back : (v : Value.Value) → Readable v → read (write v) ≡ ok v
  -- so two values with one text are one value
  pub one_text : (v w : Value.Value) → Readable v → Readable w → write v ≡ write w → v ≡ w
  -- these are the values that texts are read as
  pub readable : (s : Bytes) (v : Value.Value) → read s ≡ ok v → Readable v
  -- so what is read and written is read as the same value again
  pub read_again : (s : Bytes) (v : Value.Value) → read s ≡ ok v → read (write v) ≡ ok v
  -- every document of a run is one of them
  pub run_readable : (patch : Bytes) (operations : List Operation) (v w : Value.Value) → WellFormed patch operations → Readable v →
      run limited 1 operations v ≡ finished w → Readable w
  -- so whatever the call writes is JSON text: that of the document patched
  pub written : (document patch text : Bytes) (lent : Lent) → answer document patch lent ≡ success text → Patched document patch text
