-- A refusal's number is never 0: the answer's number is 0 exactly where a text is written.
use Rattle.std.specs.Prelude.{if◌then◌else◌}
use mathlib.Core.Path.{◌≡◌, refl}
use mathlib.Core.Bool.{Bool, true, false, ◌&&◌, ◌||◌, not}
use mathlib.Core.List.{List, [], ◌∷◌}
use Prim.Native.Nat.{ℕ, zero, suc, ◌+◌, ◌-◌, ◌*◌}
use lib.ListN.{length}
use lib.Dec.{leb, ltb, eqb}
use Rattle.spec.specs.Outcome.{Outcome, ok, refused, ◌>>=◌, require}
use Rattle.spec.specs.Bytes.{Bytes, Text, ascii, byte, byte_in, within}
use Rattle.spec.specs.Strings.{hex_in, low_surrogate, after_high, second_limit, unicode_escape, short_escape, escape, tail, multibyte, character}
use Rattle.spec.specs.Strings.{characters, string}
use Rattle.spec.specs.Strings.{hex_value}
use Rattle.spec.specs.Numbers as Numbers
use Rattle.spec.specs.Numbers.{is_digit, is_e, counted, digits, some_digits, int, frac, sign, exponent_digits, signed_digits, exp, minus}
use Rattle.spec.specs.Worth.{decimal}
use Rattle.spec.specs.Limits.{max_bytes, max_depth, max_nodes, max_operations}
use Rattle.spec.specs.Forest.{none, tree, count}
use Rattle.spec.specs.Value as Value
use Rattle.spec.specs.Value.{Label, Members, is_array, is_object, is_string, has, value_of, depth, nodes, same_text}
use Rattle.spec.specs.Read.{blanks, word_at, room_for, literal_value, number_value, string_value, scalar, fresh, name_for, closing_bracket, items, contents}
use Rattle.spec.specs.Read.{container, value, read}
use Rattle.spec.specs.Write.{write}
use Rattle.spec.specs.Equality.{equal}
use Rattle.spec.specs.Pointer.{Tokens, segments, tilde, unescape, unescape_all, tokens, is_index, is_dash, element_below, member_named, child_at}
use Rattle.spec.specs.Pointer.{child, farther}
use Rattle.spec.specs.Pointer.{walk}
use Rattle.spec.specs.Operation.{Kind, Operation, at_parent, insert_element, insert_child, remove_child, replace_child, add_at, remove_at_path}
use Rattle.spec.specs.Operation.{replace_at_path, move_to}
use Rattle.spec.specs.Operation.{copy_to, test_at, perform, not_too_deep, not_too_large, limited}
use Rattle.spec.specs.Patch.{member, string_of, string_member, kind_named, uses_value, uses_from, is_move, value_for, from_for, members_for, operation_members}
use Rattle.spec.specs.Patch.{proper_prefix, with_pointers, operation, Stop, Run, finished, stopped, no_pointer, at_op, on_finish, operations}
use Rattle.spec.specs.Patch.{shape, which_pointer}
use Rattle.spec.specs.Patch.{run}
use Rattle.spec.specs.Answer.{Answer, Lent, answer, answer_in, success, work_suffices, fitting, answer_of, patched, on_patch, on_document}

pub data Numbered {A : Type 0} : Outcome A → Type 0 where
  result : {a : A} → Numbered (ok a)
  number : {n p : ℕ} → eqb n 0 ≡ false → Numbered (refused n p)

either : {A : Type 0} (test : Bool) {x y : Outcome A} → Numbered x → Numbered y → Numbered (if test then x else y)
either true h i = h
either false h i = i

next : {A B : Type 0} {o : Outcome A} (f : A → Outcome B) → Numbered o → ((a : A) → Numbered (f a)) → Numbered (o >>= f)
unfolding ◌>>=◌
next f result h = h _
next f (number l) h = number l

-- Readers

byte_in-numbered : (s : Bytes) (at low high : ℕ) → Numbered (byte_in s at low high)
unfolding byte_in
byte_in-numbered s at low high = either (within low high (byte s at)) result (number refl)

hex_in-numbered : (s : Bytes) (at low high : ℕ) → Numbered (hex_in s at low high)
unfolding hex_in
hex_in-numbered s at low high = either (within low high (hex_value (byte s at))) result (number refl)

low_numbered : (s : Bytes) (high at : ℕ) → Numbered (low_surrogate s high at)
unfolding low_surrogate
low_numbered s high at =
    next _ (hex_in-numbered s at 13 13) λ _. next _ (hex_in-numbered s (at + 1) 12 15) λ _.
    next _ (hex_in-numbered s (at + 2) 0 15) λ _. next _ (hex_in-numbered s (at + 3) 0 15) λ _. result

high_numbered : (s : Bytes) (high at : ℕ) → Numbered (after_high s high at)
unfolding after_high
high_numbered s high at =
    next _ (byte_in-numbered s at 92 92) λ _. next _ (byte_in-numbered s (at + 1) 117 117) λ _. low_numbered s high (at + 2)

unicode_numbered : (s : Bytes) (at : ℕ) → Numbered (unicode_escape s at)
unfolding unicode_escape
unicode_numbered s at =
    next _ (hex_in-numbered s at 0 15) λ a. next _ (hex_in-numbered s (at + 1) 0 (second_limit a)) λ b.
    next _ (hex_in-numbered s (at + 2) 0 15) λ c. next _ (hex_in-numbered s (at + 3) 0 15) λ d.
    either (within 0xD800 0xDBFF (a * 0x1000 + b * 0x100 + c * 0x10 + d)) (high_numbered s _ (at + 4)) result

escape-numbered : (s : Bytes) (at : ℕ) → Numbered (escape s at)
unfolding escape
escape-numbered s at = either (eqb (byte s at) 117) (unicode_numbered s (at + 1)) (either (eqb (short_escape (byte s at)) 0) (number refl) result)

tail-numbered : (more : ℕ) (s : Bytes) (at low high bits : ℕ) → Numbered (tail more s at low high bits)
unfolding tail
tail-numbered zero s at low high bits = result
tail-numbered (suc more) s at low high bits = next _ (byte_in-numbered s at low high) λ b. tail-numbered more s (at + 1) 128 191 _

multibyte-numbered : (s : Bytes) (at b : ℕ) → Numbered (multibyte s at b)
unfolding multibyte
multibyte-numbered s at b =
    either (within 0xC2 0xDF b) (tail-numbered 1 s (at + 1) _ _ _)
    (either (within 0xE0 0xE0 b) (tail-numbered 2 s (at + 1) _ _ _)
    (either (within 0xE1 0xEC b) (tail-numbered 2 s (at + 1) _ _ _)
    (either (within 0xED 0xED b) (tail-numbered 2 s (at + 1) _ _ _)
    (either (within 0xEE 0xEF b) (tail-numbered 2 s (at + 1) _ _ _)
    (either (within 0xF0 0xF0 b) (tail-numbered 3 s (at + 1) _ _ _)
    (either (within 0xF1 0xF3 b) (tail-numbered 3 s (at + 1) _ _ _)
    (either (within 0xF4 0xF4 b) (tail-numbered 3 s (at + 1) _ _ _) (number refl))))))))

character-numbered : (s : Bytes) (at : ℕ) → Numbered (character s at)
unfolding character
character-numbered s at = either (eqb (byte s at) 92) (escape-numbered s (at + 1)) (either (within 0x20 0x7F (byte s at)) result (multibyte-numbered s at _))

characters-numbered : (fuel : ℕ) (s : Bytes) (at : ℕ) → Numbered (characters fuel s at)
unfolding characters
characters-numbered zero s at = number refl
characters-numbered (suc fuel) s at =
    either (eqb (byte s at) 34) result (next _ (character-numbered s at) λ c. next _ (characters-numbered fuel s c.1) λ cs. result)

string-numbered : (s : Bytes) (at : ℕ) → Numbered (string s at)
unfolding string
string-numbered s at = next _ (byte_in-numbered s at 34 34) λ _. characters-numbered (length s) s (at + 1)

counted-numbered : (start at : ℕ) → Numbered (counted start at)
unfolding counted
counted-numbered start at = either (ltb at (start + 128)) result (number refl)

digits-numbered : (fuel : ℕ) (s : Bytes) (start at : ℕ) → Numbered (digits fuel s start at)
unfolding digits
digits-numbered zero s start at = result
digits-numbered (suc fuel) s start at = either (is_digit (byte s at)) (next _ (counted-numbered start at) λ n. digits-numbered fuel s start n) result

some_numbered : (s : Bytes) (start at : ℕ) → Numbered (some_digits s start at)
unfolding some_digits
some_numbered s start at = next _ (byte_in-numbered s at 48 57) λ _. digits-numbered (length s) s start at

int-numbered : (s : Bytes) (start at : ℕ) → Numbered (int s start at)
unfolding int
int-numbered s start at = either (eqb (byte s at) 48) (counted-numbered start at) (some_numbered s start at)

frac-numbered : (s : Bytes) (start at : ℕ) → Numbered (frac s start at)
unfolding frac
frac-numbered s start at = either (eqb (byte s at) 46) (next _ (counted-numbered start at) λ n. some_numbered s start n) result

sign-numbered : (s : Bytes) (start at : ℕ) → Numbered (sign s start at)
unfolding sign
sign-numbered s start at = either (eqb (byte s at) 43 || eqb (byte s at) 45) (counted-numbered start at) result

exponent-numbered : (fuel : ℕ) (s : Bytes) (start size at : ℕ) → Numbered (exponent_digits fuel s start size at)
unfolding exponent_digits
exponent-numbered zero s start size at = result
exponent-numbered (suc fuel) s start size at =
    either (is_digit (byte s at))
    (either (leb (size * 10 + (byte s at - 48)) 9_999) (next _ (counted-numbered start at) λ n. exponent-numbered fuel s start _ n) (number refl)) result

signed_numbered : (s : Bytes) (start at : ℕ) → Numbered (signed_digits s start at)
unfolding signed_digits
signed_numbered s start at =
    next _ (sign-numbered s start at) λ first. next _ (byte_in-numbered s first 48 57) λ _. exponent-numbered (length s) s start 0 first

exp-numbered : (s : Bytes) (start at : ℕ) → Numbered (exp s start at)
unfolding exp
exp-numbered s start at = either (is_e (byte s at)) (next _ (counted-numbered start at) λ n. signed_numbered s start n) result

number-numbered : (s : Bytes) (start : ℕ) → Numbered (Numbers.number s start)
unfolding Numbers.number
number-numbered s start =
    next _ (int-numbered s start (minus s start)) λ fraction. next _ (frac-numbered s start fraction) λ e. exp-numbered s start e

word_at-numbered : (word s : Bytes) (at : ℕ) → Numbered (word_at word s at)
unfolding word_at
word_at-numbered [] s at = result
word_at-numbered (b ∷ word) s at = next _ (byte_in-numbered s at b b) λ _. word_at-numbered word s (at + 1)

room-numbered : (n at : ℕ) → Numbered (room_for n at)
unfolding room_for
room-numbered n at = either (ltb n 2_048) result (number refl)

literal_numbered : (label : Label) (word s : Bytes) (at : ℕ) → Numbered (literal_value label word s at)
unfolding literal_value
literal_numbered label word s at = next _ (word_at-numbered word s (at + 1)) λ _. result

scalar-numbered : (s : Bytes) (at n : ℕ) → Numbered (scalar s at n)
unfolding scalar string_value number_value
scalar-numbered s at n =
    either (eqb (byte s at) 34) (next _ (room-numbered n at) λ _. next _ (string-numbered s at) λ _. result)
    (either (is_digit (byte s at) || eqb (byte s at) 45) (next _ (room-numbered n at) λ _. next _ (number-numbered s at) λ _. result)
    (either (eqb (byte s at) 110) (next _ (room-numbered n at) λ _. literal_numbered _ _ s at)
    (either (eqb (byte s at) 116) (next _ (room-numbered n at) λ _. literal_numbered _ _ s at)
    (either (eqb (byte s at) 102) (next _ (room-numbered n at) λ _. literal_numbered _ _ s at) (number refl)))))

fresh-numbered : (name : Text) (so_far : Members) (quote : ℕ) → Numbered (fresh name so_far quote)
unfolding fresh
fresh-numbered name so_far quote = either (has name so_far) (number refl) result

name_numbered : (object : Bool) (s : Bytes) (so_far : Members) (at : ℕ) → Numbered (name_for object s so_far at)
unfolding name_for
name_numbered false s so_far at = result
name_numbered true s so_far at =
    next _ (string-numbered s at) λ n. next _ (fresh-numbered n.0 so_far (n.1 - 1)) λ _.
    next _ (byte_in-numbered s (blanks s n.1) 58 58) λ _. result

-- a reader of values
abbrev Reads : (ℕ → ℕ → Outcome (Value.Value × ℕ)) → Type 0
Reads value = (at n : ℕ) → Numbered (value at n)

items-numbered : (fuel : ℕ) (value : ℕ → ℕ → Outcome (Value.Value × ℕ)) → Reads value → (object : Bool) (s : Bytes) (n : ℕ) (so_far : Members) (at : ℕ) →
    Numbered (items fuel value object s n so_far at)
unfolding items
items-numbered zero value h object s n so_far at = number refl
items-numbered (suc fuel) value h object s n so_far at =
    next _ (name_numbered object s so_far at) λ m. next _ (h m.1 _) λ v.
    either (eqb (byte s (blanks s v.1)) (closing_bracket object)) result
    (next _ (byte_in-numbered s (blanks s v.1) 44 44) λ _. items-numbered fuel value h object s n _ _)

contents-numbered : (value : ℕ → ℕ → Outcome (Value.Value × ℕ)) → Reads value → (object : Bool) (s : Bytes) (n at : ℕ) → Numbered (contents value object s n at)
unfolding contents
contents-numbered value h object s n at =
    either (eqb (byte s (blanks s at)) (closing_bracket object)) result (items-numbered (length s) value h object s n none _)

container-numbered : (value : ℕ → ℕ → Outcome (Value.Value × ℕ)) → Reads value → (object : Bool) (s : Bytes) (at n : ℕ) →
    Numbered (container value object s at n)
unfolding container
container-numbered value h object s at n =
    next _ (room-numbered n at) λ _. next _ (contents-numbered value h object s (n + 1) (at + 1)) λ _. result

value-numbered : (left : ℕ) (s : Bytes) → Reads (value left s)
unfolding value
value-numbered zero s at n = either (eqb (byte s at) 91) (number refl) (either (eqb (byte s at) 123) (number refl) (scalar-numbered s at n))
value-numbered (suc left) s at n =
    either (eqb (byte s at) 91) (container-numbered (value left s) (value-numbered left s) false s at n)
    (either (eqb (byte s at) 123) (container-numbered (value left s) (value-numbered left s) true s at n) (scalar-numbered s at n))

pub read-numbered : (s : Bytes) → Numbered (read s)
unfolding read
read-numbered s = next _ (value-numbered max_depth s (blanks s 0) 0) λ v. either (eqb (blanks s v.1) (length s)) result (number refl)

-- Pointers and shapes

tilde-numbered : (c : ℕ) → Numbered (tilde c)
unfolding tilde
tilde-numbered c = either (eqb c 48) result (either (eqb c 49) result (number refl))

unescape-numbered : (escaped : Bool) (t : Text) → Numbered (unescape escaped t)
unfolding unescape
unescape-numbered false [] = result
unescape-numbered true [] = number refl
unescape-numbered false (c ∷ t) = either (eqb c 126) (unescape-numbered true t) (next _ (unescape-numbered false t) λ _. result)
unescape-numbered true (c ∷ t) = next _ (tilde-numbered c) λ _. next _ (unescape-numbered false t) λ _. result

unescape_all-numbered : (ts : List Text) → Numbered (unescape_all ts)
unfolding unescape_all
unescape_all-numbered [] = result
unescape_all-numbered (t ∷ ts) = next _ (unescape-numbered false t) λ _. next _ (unescape_all-numbered ts) λ _. result

tokens-numbered : (t : Text) → Numbered (tokens t)
unfolding tokens
tokens-numbered [] = result
tokens-numbered (c ∷ s) = either (eqb c 47) (unescape_all-numbered (segments s)) (number refl)

require-numbered : (n : ℕ) (test : Bool) → eqb n 0 ≡ false → Numbered (require n test)
unfolding require
require-numbered n test h = either test result (number h)

member-numbered : (name : Text) (v : Value.Value) → Numbered (member name v)
unfolding member
member-numbered name v = either (has name v.kids) result (number refl)

string_member-numbered : (name : Text) (v : Value.Value) → Numbered (string_member name v)
unfolding string_member string_of
string_member-numbered name v = next _ (member-numbered name v) λ m. either (is_string m.label) result (number refl)

kind_numbered : (t : Text) → Numbered (kind_named t)
unfolding kind_named
kind_numbered t =
    either (same_text t (ascii "add")) result
    (either (same_text t (ascii "remove")) result
    (either (same_text t (ascii "replace")) result
    (either (same_text t (ascii "move")) result
    (either (same_text t (ascii "copy")) result (either (same_text t (ascii "test")) result (number refl))))))

members-numbered : (kind : Kind) (v : Value.Value) → Numbered (members_for kind v)
unfolding members_for value_for from_for
members-numbered kind v =
    next _ (string_member-numbered (ascii "path") v) λ path.
    next _ (either (uses_value kind) (member-numbered (ascii "value") v) result) λ x.
    next _ (either (uses_from kind) (string_member-numbered (ascii "from") v) result) λ from. result

operation-numbered : (v : Value.Value) → Numbered (operation v)
unfolding operation operation_members with_pointers
operation-numbered v =
    next _
    (next _ (require-numbered 8 (is_object v.label) refl) λ _.
    next _ (string_member-numbered (ascii "op") v) λ op.
    next _ (kind_numbered op) λ kind. members-numbered kind v) λ m.
    next _ (tokens-numbered m.path) λ path.
    next _ (tokens-numbered m.from) λ from.
    next _ (require-numbered 14 (not (is_move m.kind && proper_prefix from path)) refl) λ _. result

-- Operations

element_numbered : (limit : ℕ) (t : Text) → Numbered (element_below limit t)
unfolding element_below
element_numbered limit t =
    either (is_dash t) (number refl) (either (is_index t) (either (ltb (decimal 0 t) limit) result (number refl)) (number refl))

child-numbered : (t : Text) (v : Value.Value) → Numbered (child_at t v)
unfolding child_at member_named
child-numbered t v =
    either (is_array v.label) (element_numbered (count v.kids) t)
    (either (is_object v.label) (either (has t v.kids) result (number refl)) (number refl))

farther-numbered : {A : Type 0} {o : Outcome A} → Numbered o → Numbered (farther o)
unfolding farther
farther-numbered result = result
farther-numbered (number h) = number h

walk-numbered : (ts : Tokens) (v : Value.Value) → Numbered (walk ts v)
unfolding walk
walk-numbered [] v = result
walk-numbered (t ∷ ts) v = next _ (child-numbered t v) λ k. farther-numbered (walk-numbered ts (value_of (child k v)))

parent_numbered : (change : Text → Value.Value → Outcome Value.Value) → ((t : Text) (v : Value.Value) → Numbered (change t v)) →
    (t : Text) (ts : Tokens) (v : Value.Value) → Numbered (at_parent change t ts v)
unfolding at_parent
parent_numbered change h t [] v = h t v
parent_numbered change h t (u ∷ ts) v = next _ (child-numbered t v) λ k.
    next _ (farther-numbered (parent_numbered change h u ts (value_of (child k v)))) λ w. result

insert_numbered : (x : Value.Value) (t : Text) (v : Value.Value) → Numbered (insert_child x t v)
unfolding insert_child insert_element
insert_numbered x t v =
    either (is_array v.label) (next _ (either (is_dash t) result (element_numbered (suc (count v.kids)) t)) λ k. result)
    (either (is_object v.label) result (number refl))

remove_numbered : (t : Text) (v : Value.Value) → Numbered (remove_child t v)
unfolding remove_child
remove_numbered t v = next _ (child-numbered t v) λ k. result

replace_numbered : (x : Value.Value) (t : Text) (v : Value.Value) → Numbered (replace_child x t v)
unfolding replace_child
replace_numbered x t v = next _ (child-numbered t v) λ k. result

add_numbered : (path : Tokens) (x v : Value.Value) → Numbered (add_at path x v)
unfolding add_at
add_numbered [] x v = result
add_numbered (t ∷ ts) x v = parent_numbered _ (insert_numbered x) t ts v

remove_path_numbered : (path : Tokens) (v : Value.Value) → Numbered (remove_at_path path v)
unfolding remove_at_path
remove_path_numbered [] v = number refl
remove_path_numbered (t ∷ ts) v = parent_numbered _ remove_numbered t ts v

replace_path_numbered : (path : Tokens) (x v : Value.Value) → Numbered (replace_at_path path x v)
unfolding replace_at_path
replace_path_numbered [] x v = result
replace_path_numbered (t ∷ ts) x v = parent_numbered _ (replace_numbered x) t ts v

move_numbered : (from path : Tokens) (v : Value.Value) → Numbered (move_to from path v)
unfolding move_to
move_numbered [] path v = result
move_numbered (t ∷ ts) path v =
    next _ (walk-numbered (t ∷ ts) v) λ x. next _ (remove_path_numbered (t ∷ ts) v) λ left. add_numbered path x left

perform-numbered : (o : Operation) (v : Value.Value) → Numbered (perform o v)
unfolding perform copy_to test_at
perform-numbered o v = go o.kind
  where
    go : (k : Kind) → Numbered (perform (record { kind = k; path = o.path; from = o.from; value = o.value }) v)
    go Kind.add = add_numbered o.path o.value v
    go Kind.remove = remove_path_numbered o.path v
    go Kind.replace = replace_path_numbered o.path o.value v
    go Kind.move = move_numbered o.from o.path v
    go Kind.copy = next _ (walk-numbered o.from v) λ x. add_numbered o.path x v
    go Kind.test = next _ (walk-numbered o.path v) λ found. either (equal found o.value) result (number refl)

limited-numbered : (o : Operation) (v : Value.Value) → Numbered (limited o v)
unfolding limited not_too_deep not_too_large
limited-numbered o v =
    next _ (next _ (perform-numbered o v) λ w. either (leb (depth w) max_depth) result (number refl)) λ w. either (leb (nodes w) max_nodes) result (number refl)

-- Runs

pub data NumberedRun {A : Type 0} : Run A → Type 0 where
  finishes : {a : A} → NumberedRun (finished a)
  stops : {s : Stop} → eqb s.number 0 ≡ false → NumberedRun (stopped s)

at_numbered : {A : Type 0} (op : ℕ) (which : ℕ → ℕ) {o : Outcome A} → Numbered o → NumberedRun (at_op op which o)
unfolding at_op
at_numbered op which result = finishes
at_numbered op which (number h) = stops h

next_run : {A B : Type 0} {r : Run A} (f : A → Run B) → NumberedRun r → ((a : A) → NumberedRun (f a)) → NumberedRun (on_finish r f)
unfolding on_finish
next_run f finishes h = h _
next_run f (stops n) h = stops n

either_run : {A : Type 0} (test : Bool) {x y : Run A} → NumberedRun x → NumberedRun y → NumberedRun (if test then x else y)
either_run true h i = h
either_run false h i = i

operations-numbered : (op : ℕ) (f : Members) → NumberedRun (operations op f)
unfolding operations
operations-numbered op none = finishes
operations-numbered op (tree e kids rest) =
    next_run _ (at_numbered op no_pointer (operation-numbered _)) λ o. next_run _ (operations-numbered (op + 1) rest) λ os. finishes

pub shape-numbered : (v : Value.Value) → NumberedRun (shape v)
unfolding shape
shape-numbered v =
    either_run (is_array v.label) (either_run (leb (count v.kids) max_operations) (operations-numbered 1 v.kids) (stops refl)) (stops refl)

pub run-numbered : (op : ℕ) (os : List Operation) (v : Value.Value) → NumberedRun (run limited op os v)
unfolding run
run-numbered op [] v = finishes
run-numbered op (o ∷ os) v = next_run _ (at_numbered op (which_pointer o v) (limited-numbered o v)) λ w. run-numbered (op + 1) os w

-- The answer

pub data NumberedAnswer : Answer → Type 0 where
  done : {t : Bytes} → NumberedAnswer (success t)
  refuses : (n text op place pointer : ℕ) → eqb n 0 ≡ false →
      NumberedAnswer (record { number = n; text = text; op = op; place = place; pointer = pointer; written = [] })

either_answer : (test : Bool) {a b : Answer} → NumberedAnswer a → NumberedAnswer b → NumberedAnswer (if test then a else b)
either_answer true h i = h
either_answer false h i = i

run-answer : (room : ℕ) {r : Run Value.Value} → NumberedRun r → NumberedAnswer (answer_of room r)
unfolding answer_of fitting
run-answer room (finishes {a = v}) = either_answer (leb (length (write v)) room) done (refuses _ _ _ _ _ refl)
run-answer room (stops {s} h) = refuses s.number 0 s.op s.place s.pointer h

patch-answer : (room : ℕ) (d : Value.Value) {o : Outcome Value.Value} → Numbered o → NumberedAnswer (on_patch room d o)
unfolding on_patch patched
patch-answer room d (result {a = p}) = run-answer room (next_run _ (shape-numbered p) λ os. run-numbered 1 os d)
patch-answer room d (number h) = refuses _ _ _ _ _ h

document-answer : (room : ℕ) {o : Outcome Value.Value} (patch : Bytes) → Numbered o → NumberedAnswer (on_document room o patch)
unfolding on_document
document-answer room patch (result {a = d}) = patch-answer room d (read-numbered patch)
document-answer room patch (number h) = refuses _ _ _ _ _ h

-- THE ANSWER'S NUMBER is 0 exactly where a text is written
pub answer-numbered : (document patch : Bytes) (lent : Lent) → NumberedAnswer (answer document patch lent)
unfolding answer answer_in
answer-numbered document patch lent =
    either_answer (not (work_suffices lent)) (refuses _ _ _ _ _ refl)
    (either_answer (ltb max_bytes (length document)) (refuses _ _ _ _ _ refl)
    (either_answer (ltb max_bytes (length patch)) (refuses _ _ _ _ _ refl) (document-answer lent.output patch (read-numbered document))))
