-- The undo's value: it is proper, and its elements are the undo's operations.
use mathlib.Core.Path.{◌≡◌, refl}
use mathlib.Core.Bool.{Bool, true, false, ◌&&◌}
use mathlib.Core.List.{List, [], ◌∷◌, ◌++◌}
use Prim.Native.Nat.{ℕ, ◌+◌}
use native.Mathlib.Omega.{arith}
use lib.Dec.{leb}
use borrow.Author.Tests.{leb-true}
use Rattle.spec.specs.Outcome.{ok, ◌>>=◌, require}
use Rattle.spec.specs.Limits.{max_operations}
use Rattle.spec.specs.Bytes.{Text, ascii}
use Rattle.spec.specs.Forest.{none, count, nth}
use Rattle.spec.specs.Value as Value
use Rattle.spec.specs.Value.{Label, Members, leaf, tag, is_array, is_object, is_string, content, find, same_text}
use Rattle.spec.specs.Pointer.{Tokens, tokens, child}
use Rattle.spec.specs.Operation.{Kind, Operation}
use Rattle.spec.specs.Patch.{member, string_of, string_member, kind_named, uses_value, uses_from, is_move, value_for, from_for, members_for, operation_members}
use Rattle.spec.specs.Patch.{with_pointers, operation, finished, at_op, on_finish, operations, shape}
use Rattle.spec.proofs.TextLaws.{both_true}
use Rattle.spec.specs.Proper as Proper
use Rattle.spec.specs.Proper.{Proper, ProperItems, ScalarValue, ScalarValues}
use Rattle.claims.specs.Pointers.{escape_character, escape_token, pointer_of}
use Rattle.claims.proofs.PointersTheorem.{Escaped, tilde-escaped, slash_escaped, plain, escaped, pointers}
use Rattle.claims.proofs.ProperOperations.{AllCharacters, no_tokens, token}
use Rattle.reversal.specs.UndoValue as Undo
use Rattle.reversal.specs.UndoValue.{op_name, value_member, operation_value, operation_values, undo_value}
use Rattle.reversal.proofs.Plain as Plain
use Rattle.reversal.proofs.Plain.{Plain, AllPlain}

-- Characters: of ASCII, and of a pointer written from its tokens

all_ascii : Text → Bool
all_ascii [] = true
all_ascii (c ∷ t) = leb c 127 && all_ascii t

ascii-characters : (t : Text) → all_ascii t ≡ true → ScalarValues t
unfolding all_ascii
ascii-characters [] h = Proper.nothing
ascii-characters (c ∷ t) h =
    let (here, rest) = both_true (leb c 127) (all_ascii t) h in
    let small = leb-true c 127 here in
    Proper.another {c = c} (Proper.below_surrogates (omega arith)) (ascii-characters t rest)

append-characters : (s t : Text) → ScalarValues s → ScalarValues t → ScalarValues (s ++ t)
append-characters [] t Proper.nothing q = q
append-characters (c ∷ s) t (Proper.another h p) q = Proper.another h (append-characters s t p q)

escape-characters : {c : ℕ} {w : Text} → Escaped c w → ScalarValue c → ScalarValues w
unfolding all_ascii
escape-characters tilde-escaped s = ascii-characters _ refl
escape-characters slash_escaped s = ascii-characters _ refl
escape-characters (plain _ _) s = Proper.another s Proper.nothing

token-characters : (t : Text) → ScalarValues t → ScalarValues (escape_token t)
unfolding escape_token
token-characters [] Proper.nothing = Proper.nothing
token-characters (c ∷ t) (Proper.another s h) = append-characters (escape_character c) _ (escape-characters (escaped c) s) (token-characters t h)

pointer_characters : (ts : Tokens) → AllCharacters ts → ScalarValues (pointer_of ts)
unfolding pointer_of
pointer_characters [] no_tokens = Proper.nothing
pointer_characters (t ∷ ts) (token s a) =
    Proper.another {c = 47} (Proper.below_surrogates (omega arith)) (append-characters (escape_token t) _ (token-characters t s) (pointer_characters ts a))

-- Proper

name_characters : (k : Kind) → ScalarValues (op_name k)
unfolding op_name ascii all_ascii
name_characters Kind.add = ascii-characters _ refl
name_characters Kind.remove = ascii-characters _ refl
name_characters Kind.replace = ascii-characters _ refl
name_characters Kind.move = ascii-characters _ refl
name_characters Kind.copy = ascii-characters _ refl
name_characters Kind.test = ascii-characters _ refl

abbrev head_members : Kind → Tokens → Members → Members
head_members k path last =
    Undo.member (ascii "op") (leaf (Label.string (op_name k))) (Undo.member (ascii "path") (leaf (Label.string (pointer_of path))) last)

without-value : (k : Kind) (path : Tokens) → AllCharacters path → ProperItems true (head_members k path none)
unfolding ascii all_ascii find count same_text is_object tag
without-value k path a =
    Proper.member (ascii-characters _ refl) refl (Proper.string (name_characters k)) Proper.empty
    (Proper.member (ascii-characters _ refl) refl (Proper.string (pointer_characters path a)) Proper.empty Proper.empty)

with_value : (k : Kind) (path : Tokens) (x : Value.Value) → AllCharacters path → Proper x →
    ProperItems true (head_members k path (Undo.member (ascii "value") x none))
unfolding ascii all_ascii find count same_text is_object tag
with_value k path x a p =
    Proper.member (ascii-characters _ refl) refl (Proper.string (name_characters k)) Proper.empty
    (Proper.member (ascii-characters _ refl) refl (Proper.string (pointer_characters path a)) Proper.empty
    (Proper.member (ascii-characters _ refl) refl p.allows p.items Proper.empty))

operation-items : {o : Operation} → Plain o → ProperItems true (operation_value o).kids
unfolding operation_value value_member uses_value
operation-items (Plain.add a p) = with_value Kind.add _ _ a p
operation-items (Plain.remove a) = without-value Kind.remove _ a
operation-items (Plain.replace a p) = with_value Kind.replace _ _ a p

values_proper : {os : List Operation} → AllPlain os → ProperItems false (operation_values os)
unfolding operation_values operation_value is_object tag
values_proper Plain.none = Proper.empty
values_proper (Plain.more p ps) = Proper.element refl Proper.object (operation-items p) (values_proper ps)

pub undo_proper : (os : List Operation) → AllPlain os → Proper (undo_value os)
unfolding undo_value is_object tag
undo_proper os a = record { allows = Proper.array; items = values_proper a }

-- Its elements are its operations

unfoldable compute_values : Unit {0}
unfolding ◌>>=◌ require ascii same_text find count nth child is_object is_string tag content tokens
compute_values = tt

unfoldable compute-members : Unit {0}
unfolding member string_of string_member kind_named uses_value uses_from is_move value_for from_for members_for operation_members with_pointers operation
compute-members = tt

operation_back : {o : Operation} → Plain o → operation (operation_value o) ≡ ok o
unfolding compute_values compute-members op_name value_member operation_value
operation_back (Plain.add {path} a p) = rw (pointers.read_back path)
operation_back (Plain.remove {path} a) = rw (pointers.read_back path)
operation_back (Plain.replace {path} a p) = rw (pointers.read_back path)

operations_back : {os : List Operation} (op : ℕ) → AllPlain os → operations op (operation_values os) ≡ finished os
unfolding operations operation_values at_op on_finish
operations_back op Plain.none = refl
operations_back op (Plain.more p ps) = rw (operation_back p, operations_back (op + 1) ps)

pub undo_shape : (os : List Operation) → AllPlain os → leb (count (undo_value os).kids) max_operations ≡ true → shape (undo_value os) ≡ finished os
unfolding shape undo_value is_array tag
undo_shape os a h = rw h (operations_back 1 a)
