-- The undo's value, written, to the byte.
use Rattle.std.specs.Prelude.{if◌then◌else◌}
use mathlib.Core.Path.{◌≡◌, refl, ap, ap₂, ◌∙◌}
use mathlib.Core.Bool.{Bool, true, false}
use mathlib.Core.List.{List, [], ◌∷◌, ◌++◌, append-nil, append_assoc}
use Rattle.spec.specs.Bytes.{Bytes, Text, ascii}
use Rattle.spec.specs.Forest.{none, tree}
use Rattle.spec.specs.Value.{Label, Members, tag, is_object}
use Rattle.spec.specs.Write.{utf8, write_character, write_characters, write_string, opening, closing, write_name, comma, write_items, write}
use Rattle.spec.specs.Operation.{Kind, Operation}
use Rattle.spec.specs.Patch.{uses_value}
use Rattle.claims.specs.Pointers.{pointer_of}
use Rattle.reversal.specs.UndoValue.{op_name, value_member, operation_value, operation_values, undo_value}
use Rattle.reversal.specs.UndoText.{value_text, operation_text, operation_texts, undo_text}

-- a kind's name needs no escape
name_text_lem : (k : Kind) → write_characters (op_name k) ≡ op_name k
unfolding op_name ascii write_characters write_character utf8
name_text_lem Kind.add = refl
name_text_lem Kind.remove = refl
name_text_lem Kind.replace = refl
name_text_lem Kind.move = refl
name_text_lem Kind.copy = refl
name_text_lem Kind.test = refl

unfoldable compute_texts : Unit {0}
unfolding ascii utf8 write_character write_characters write_string comma write_name write_items write opening closing is_object tag
compute_texts = tt

value_text_lem : (o : Operation) → write_items true false (value_member o) ≡ value_text o
unfolding compute_texts value_member value_text
value_text_lem o = go (uses_value o.kind)
  where
    go : (b : Bool) →
        write_items true false (if b then tree (record { name = ascii "value"; label = o.value.label }) o.value.kids none else none)
        ≡ (if b then ascii ",\"value\":" ++ write o.value else [])
    go true = simp (append-nil, append_assoc)
    go false = refl

-- a member that is a string, and what is written after it
string_member_lem : (first : Bool) (name cs : Text) (rest : Members) →
    write_items true first (tree (record { name = name; label = Label.string cs }) none rest)
    ≡ comma first ++ (write_string name ++ (ascii ":" ++ (write_string cs ++ write_items true false rest)))
unfolding write_items write_name opening closing
string_member_lem first name cs rest = simp (append-nil, append_assoc)

regroup : (h x m q y z : Bytes) → (h ++ ((34 ∷ (x ++ (34 ∷ []))) ++ (m ++ (q ++ y)))) ++ z ≡ (h ++ (34 ∷ [])) ++ (x ++ ((34 ∷ m) ++ (q ++ (y ++ z))))
regroup h x m q y z = simp append_assoc

-- an operation's members
members-text : (o : Operation) → write_items true true (operation_value o).kids ++ ascii "}" ≡
    ascii "\"op\":\"" ++ (op_name o.kind ++ (ascii "\",\"path\":" ++ (write_string (pointer_of o.path) ++ (value_text o ++ ascii "}"))))
unfolding ascii utf8 write_character write_characters write_string comma operation_value
members-text o =
    let pointer = write_string (pointer_of o.path) in
    let path = string_member_lem false (ascii "path") (pointer_of o.path) (value_member o) in
    let op = string_member_lem true (ascii "op") (op_name o.kind) _ in
    let whole = op ∙ ap (λ t. ascii "\"op\":" ++ (write_string (op_name o.kind) ++ t)) path in
    ap (λ t. t ++ ascii "}") whole ∙
    ap₂ (λ x y. (ascii "\"op\":" ++ ((34 ∷ (x ++ (34 ∷ []))) ++ (ascii ",\"path\":" ++ (pointer ++ y)))) ++ ascii "}")
    (name_text_lem o.kind) (value_text_lem o) ∙
    regroup (ascii "\"op\":") (op_name o.kind) (ascii ",\"path\":") pointer (value_text o) (ascii "}")

-- an operation's object
object-text : (o : Operation)
    → opening (operation_value o).label
    ++ (write_items (is_object (operation_value o).label) true (operation_value o).kids ++ closing (operation_value o).label) ≡ operation_text o
unfolding operation_text opening closing is_object tag ascii operation_value
object-text o = ap (◌∷◌ 123) (members-text o)

operations_text : (first : Bool) (os : List Operation) → write_items false first (operation_values os) ≡ operation_texts first os
unfolding operation_values operation_texts write_items write_name
operations_text first [] = refl
operations_text first (o ∷ os) =
    grouped (comma first) (opening (operation_value o).label) _ (closing (operation_value o).label) _ ∙
    ap₂ (λ x y. comma first ++ (x ++ y)) (object-text o) (operations_text false os)
  where
    grouped : (c p i q r : Bytes) → c ++ [] ++ p ++ i ++ q ++ r ≡ c ++ ((p ++ (i ++ q)) ++ r)
    grouped c p i q r = simp (append-nil, append_assoc)

-- THE UNDO'S TEXT, to the byte
pub undo_text_lem : (os : List Operation) → write (undo_value os) ≡ undo_text os
unfolding undo_value undo_text write opening closing is_object tag
undo_text_lem os = rw (operations_text true os) (append_assoc (ascii "[") (operation_texts true os) (ascii "]"))
