-- The refusals' numbers, and a result read as an outcome.
use Rattle.std.specs.Prelude.{ℕ, Result, Ok, Err}
use Rattle.spec.specs.Outcome.{Outcome, ok, refused}
use Rattle.spec.specs.Refusal.{input_too_long, output_too_short}
use Rattle.intel_hex.specs.Reading.{not_a_record, wrong_sum, wrong_address, wrong_end}
use Rattle.intel_hex.specs.declared.refusal.HexRefusal.{HexRefusal}
use Rattle.intel_hex.specs.declared.refusal.HexFault.{HexFault}

abbrev pub number_of : HexRefusal → ℕ
number_of HexRefusal.InputTooLong = input_too_long
number_of HexRefusal.OutputTooShort = output_too_short
number_of HexRefusal.NotARecord = not_a_record
number_of HexRefusal.WrongSum = wrong_sum
number_of HexRefusal.WrongAddress = wrong_address
number_of HexRefusal.WrongEnd = wrong_end

-- what the code answers is this outcome
unfoldable pub outcome : Result ℕ HexFault → Outcome ℕ
outcome (Ok n) = ok n
outcome (Err e) = refused (number_of e.refusal) e.line
