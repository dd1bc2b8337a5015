-- A value by its first byte: which kind it is, and whether it may begin there.
use Rattle.std.specs.Prelude.{ℕ, ◌||◌, Option, Some, None, eqb, if◌then◌else◌}
use Prim.Native.Char.{code}
use Rattle.spec.specs.Outcome.{Outcome, ok, refused}
use Rattle.spec.specs.Refusal.{not_json, too_deep}
use Rattle.spec.specs.Bytes.{Bytes, ascii, byte}
use Rattle.spec.specs.Numbers.{is_digit}
use Rattle.spec.specs.Value as Value
use Rattle.spec.specs.Value.{Label}
use Rattle.spec.specs.Read.{room_for, literal_value, number_value, string_value}
use Rattle.tape.specs.Layout.{null_kind, true_kind, false_kind, number_kind, string_kind, array_kind, object_kind}

-- the kind of the value that begins with a byte, if one does
unfoldable pub beginning : ℕ → Option ℕ
beginning b =
    if eqb b (code "[") then Some array_kind else
    if eqb b (code "{") then Some object_kind else
    if eqb b (code "\"") then Some string_kind else
    if is_digit b || eqb b (code "-") then Some number_kind else
    if eqb b (code "n") then Some null_kind else
    if eqb b (code "t") then Some true_kind else
    if eqb b (code "f") then Some false_kind else None

-- ---- refusals at a value's first byte; there the order is 3, 5, 6
-- 3, where no value begins
unfoldable pub kind_or_refused : Option ℕ → ℕ → Outcome ℕ
kind_or_refused (Some kind) at = ok kind
kind_or_refused None at = refused not_json at

unfoldable pub kind_at : Bytes → ℕ → Outcome ℕ
kind_at s at = kind_or_refused (beginning (byte s at)) at

-- 5 or 6, where a container may not begin, given the levels that are left and how many values have begun before; of a scalar it is 6, by `room_for`
unfoldable pub container_room : ℕ → ℕ → ℕ → Outcome ℕ
container_room levels nodes at = if eqb levels 0 then refused too_deep at else room_for nodes at

-- the scalar of a kind
unfoldable pub scalar_of : ℕ → Bytes → ℕ → Outcome (Value.Value × ℕ)
scalar_of kind s at =
    if eqb kind string_kind then string_value s at else
    if eqb kind number_kind then number_value s at else
    if eqb kind null_kind then literal_value Label.null_literal (ascii "ull") s at else
    if eqb kind true_kind then literal_value Label.true_literal (ascii "rue") s at else literal_value Label.false_literal (ascii "alse") s at
