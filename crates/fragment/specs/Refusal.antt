-- The refusals: their numbers, and why octets are refused.
use Rattle.std.specs.Prelude.{ℕ}
use Rattle.spec.specs.Refusal.{input_too_long, malformed_pointer, output_too_short}
use Rattle.fragment.specs.Link.{bad_link}
use Rattle.fragment.specs.declared.refusal.LinkRefusal.{LinkRefusal}
use Rattle.fragment.specs.declared.scan.NotPointer.{NotPointer}

abbrev pub number_of : LinkRefusal → ℕ
number_of LinkRefusal.InputTooLong = input_too_long
number_of LinkRefusal.MalformedPointer = malformed_pointer
number_of LinkRefusal.OutputTooShort = output_too_short
number_of LinkRefusal.BadLink = bad_link

-- of the octets of a link: "22 for [..] bytes that are not UTF-8; then 10"
abbrev pub refusal_for : NotPointer → LinkRefusal
refusal_for NotPointer.NotUtf8 = LinkRefusal.BadLink
refusal_for NotPointer.Malformed = LinkRefusal.MalformedPointer
