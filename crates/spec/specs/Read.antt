-- Reading JSON text: RFC 8259, section 2, within the limits; SPECIFICATION 3. The reader goes from left to right and refuses at the first
-- byte that causes a refusal: a reader's outcome is what it read with the place after it, or the refusal. On one byte the order is 3, 5, 6, 7.
-- `nodes` is the number of values that have begun before.
use Rattle.std.specs.Prelude.{ℕ, zero, suc, ◌+◌, ◌-◌, [], ◌∷◌, Bool, true, false, ◌||◌, length, take, drop, ltb, eqb, if◌then◌else◌}
use Prim.Native.Char.{code}
use Rattle.spec.specs.Outcome.{Outcome, ok, refused, ◌>>=◌}
use Rattle.spec.specs.Refusal.{not_json, repeated_name, too_deep, too_many_nodes}
use Rattle.spec.specs.Limits.{max_depth, max_nodes}
use Rattle.spec.specs.Bytes.{Bytes, Text, ascii, byte, byte_in}
use Rattle.spec.specs.Strings.{string}
use Rattle.spec.specs.Numbers.{is_digit, number}
use Rattle.spec.specs.Forest.{none, size, single, ◌⧺◌}
use Rattle.spec.specs.Value as Value
use Rattle.spec.specs.Value.{Label, Members, leaf, named, has}

-- ws: space, horizontal tab, line feed, carriage return
unfoldable pub is_blank : ℕ → Bool
is_blank b = eqb b 0x20 || (eqb b 0x09 || (eqb b 0x0A || eqb b 0x0D))

-- the place after the blanks from a place on
unfoldable pub blanks_from : ℕ → Bytes → ℕ → ℕ
blanks_from zero s at = at
blanks_from (suc fuel) s at = if is_blank (byte s at) then blanks_from fuel s (at + 1) else at

unfoldable pub blanks : Bytes → ℕ → ℕ
blanks s at = blanks_from (length s) s at

-- the place after a word
unfoldable pub word_at : Bytes → Bytes → ℕ → Outcome ℕ
word_at [] s at = ok at
word_at (b ∷ word) s at = byte_in s at b b >>= λ _. word_at word s (at + 1)

-- SPECIFICATION 3.5: "The place of a 6 is the first byte of value 2,049."
unfoldable pub room_for : ℕ → ℕ → Outcome ℕ
room_for nodes at = if ltb nodes max_nodes then ok at else refused too_many_nodes at

-- a literal after its first byte; a number; a string
unfoldable pub literal_value : Label → Bytes → Bytes → ℕ → Outcome (Value.Value × ℕ)
literal_value label word s at = do
  next ← word_at word s (at + 1)
  ok (leaf label, next)

unfoldable pub number_value : Bytes → ℕ → Outcome (Value.Value × ℕ)
number_value s at = do
  next ← number s at
  ok (leaf (Label.number (take (next - at) (drop at s))), next)

unfoldable pub string_value : Bytes → ℕ → Outcome (Value.Value × ℕ)
string_value s at = do
  (cs, next) ← string s at
  ok (leaf (Label.string cs), next)

-- a scalar by its first byte, or 3 where no value begins
unfoldable pub scalar : Bytes → ℕ → ℕ → Outcome (Value.Value × ℕ)
scalar s at nodes =
    let b = byte s at in
    if eqb b (code "\"") then (room_for nodes at >>= λ _. string_value s at) else
    if is_digit b || eqb b (code "-") then (room_for nodes at >>= λ _. number_value s at) else
    if eqb b (code "n") then (room_for nodes at >>= λ _. literal_value Label.null_literal (ascii "ull") s at) else
    if eqb b (code "t") then (room_for nodes at >>= λ _. literal_value Label.true_literal (ascii "rue") s at) else
    if eqb b (code "f") then (room_for nodes at >>= λ _. literal_value Label.false_literal (ascii "alse") s at) else refused not_json at

-- 4, at "the closing quote of the second name", SPECIFICATION 3.4: where the members so far have the name
unfoldable pub fresh : Text → Members → ℕ → Outcome ℕ
fresh name so_far quote = if has name so_far then refused repeated_name quote else ok quote

-- a member's name with its colon and the blanks around it; an array's element has none
unfoldable pub name_for : Bool → Bytes → Members → ℕ → Outcome (Text × ℕ)
name_for false s so_far at = ok ([], at)
name_for true s so_far at = do
  (name, next) ← string s at
  _ ← fresh name so_far (next - 1)
  _ ← byte_in s (blanks s next) (code ":") (code ":")
  ok (name, blanks s (blanks s next + 1))

-- the label and the closing bracket of an array (false) or an object (true)
unfoldable pub container_label : Bool → Label
container_label object = if object then Label.object else Label.array

unfoldable pub closing_bracket : Bool → ℕ
closing_bracket object = if object then code "}" else code "]"

-- What follows a value of a container, at a place after the blanks: the closing bracket, or a comma and blanks. `so_far` are the values up to
-- there, and `next at` reads the one at a place and those after it.
abbrev pub after_item : (ℕ → Outcome (Members × ℕ)) → Bool → Bytes → Members → ℕ → Outcome (Members × ℕ)
after_item next object s so_far at =
    if eqb (byte s at) (closing_bracket object) then ok (so_far, at + 1) else do
      _ ← byte_in s at (code ",") (code ",")
      next (blanks s (at + 1))

-- The values of a container up to its closing bracket, from the one at a place on; `so_far` are those before it, and `nodes` the values that
-- have begun before the container's first. `value at nodes` reads a value one level down. The fuel is at least the number of bytes left.
unfoldable pub items : ℕ → (ℕ → ℕ → Outcome (Value.Value × ℕ)) → Bool → Bytes → ℕ → Members → ℕ → Outcome (Members × ℕ)
items zero value object s nodes so_far at = refused not_json at
items (suc fuel) value object s nodes so_far at = do
  (name, place) ← name_for object s so_far at
  (v, next) ← value place (nodes + size so_far)
  let all = so_far ⧺ single (named name v) in after_item (items fuel value object s nodes all) object s all (blanks s next)

-- the same after the opening bracket, where there may be none
unfoldable pub contents : (ℕ → ℕ → Outcome (Value.Value × ℕ)) → Bool → Bytes → ℕ → ℕ → Outcome (Members × ℕ)
contents value object s nodes at =
    let first = blanks s at in
    if eqb (byte s first) (closing_bracket object) then ok (none, first + 1) else items (length s) value object s nodes none first

-- a container, at its opening bracket
unfoldable pub container : (ℕ → ℕ → Outcome (Value.Value × ℕ)) → Bool → Bytes → ℕ → ℕ → Outcome (Value.Value × ℕ)
container value object s at nodes = do
  _ ← room_for nodes at
  (kids, next) ← contents value object s (nodes + 1) (at + 1)
  ok (record { label = container_label object; kids = kids }, next)

-- A value, where `left` levels are left for containers. SPECIFICATION 3.5: "The place of a 5 is the bracket that opens level 33."
unfoldable pub value : ℕ → Bytes → ℕ → ℕ → Outcome (Value.Value × ℕ)
value zero s at nodes =
    if eqb (byte s at) (code "[") then refused too_deep at else
    if eqb (byte s at) (code "{") then refused too_deep at else scalar s at nodes
value (suc left) s at nodes =
    if eqb (byte s at) (code "[") then container (value left s) false s at nodes else
    if eqb (byte s at) (code "{") then container (value left s) true s at nodes else scalar s at nodes

-- JSON-text = ws value ws
unfoldable pub read : Bytes → Outcome Value.Value
read s = do
  (v, next) ← value max_depth s (blanks s 0) 0
  let end = blanks s next in if eqb end (length s) then ok v else refused not_json end
