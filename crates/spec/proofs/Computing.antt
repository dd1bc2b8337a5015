-- For examples that are proved by computation: what a text is read as, the operations that it has as a patch, and all that computes an answer.
use mathlib.Core.List.{List, []}
use Rattle.spec.specs.Outcome.{Outcome, ok, refused, is_refused, ◌>>=◌, require}
use Rattle.spec.specs.Bytes.{Bytes, ascii, byte, within, byte_in}
use Rattle.spec.specs.Strings.{hex_value, hex_in, low_surrogate, after_high, second_limit, unicode_escape, short_escape, escape, tail, multibyte, character}
use Rattle.spec.specs.Strings.{characters, string}
use Rattle.spec.specs.Numbers.{is_digit, is_e, counted, digits, some_digits, int, frac, sign, exponent_digits, signed_digits, exp, minus, number}
use Rattle.spec.specs.Worth.{mantissa, fraction_digits, decimal, signed_exponent, exponent, drop_zeros, trimmed, is_negative, unless_zero, worth}
use Rattle.spec.specs.Forest.{◌⧺◌, count, size, before, from, insert_at, remove_at, replace_at, nth}
use Rattle.spec.specs.Value as Value
use Rattle.spec.specs.Value.{leaf, Label, tag, is_number, is_string, is_array, is_object, is_container, content, levels, depths, depth, nodes, same_text, find}
use Rattle.spec.specs.Equality.{same_bool, same_integer, same_worth, same_label, from_name, same_elements, same_members, equal}
use Rattle.spec.specs.Read.{is_blank, blanks_from, blanks, word_at, room_for, literal_value, number_value, string_value, scalar}
use Rattle.spec.specs.Read.{fresh, name_for, container_label, closing_bracket, items, contents, container, value, read}
use Rattle.spec.specs.Write.{utf8, hex_digit, write_character, write_characters, write_string, opening, closing, write_name, comma, write_items, write}
use Rattle.spec.specs.Pointer.{prepend, segments, tilde, unescape, unescape_all, tokens, all_digits, is_index, is_dash}
use Rattle.spec.specs.Pointer.{element_below, member_named, child_at, child, farther, walk}
use Rattle.spec.specs.Operation.{put, at_parent, insert_element, insert_member, insert_child}
use Rattle.spec.specs.Operation.{remove_child, replace_child, add_at, remove_at_path, replace_at_path}
use Rattle.spec.specs.Operation.{Operation, move_to, copy_to, test_at, perform, not_too_deep, not_too_large, limited}
use Rattle.spec.specs.Patch.{member, string_of, string_member, kind_named, uses_value, uses_from, is_move, value_for, from_for, members_for, operation_members}
use Rattle.spec.specs.Patch.{proper_prefix, with_pointers, operation, no_pointer, at_op, on_finish, operations, shape, which_pointer, run}
use Rattle.spec.specs.Patch.{Run, finished, stopped}
use Rattle.spec.specs.Answer.{work_suffices, fitting, answer_of, patched, on_patch, on_document, answer_in, answer}
use Rattle.spec.specs.Elements.{all_blank}

unfoldable pub got : Outcome Value.Value → Value.Value
got (ok v) = v
got (refused number place) = leaf Label.null_literal

unfoldable pub all : Run (List Operation) → List Operation
all (finished os) = os
all (stopped s) = []

abbrev pub operations_of : Bytes → List Operation
operations_of t = all (shape (got (read t)))

infixr 5 ◌and◌
-- one example, and the others
abbrev pub ◌and◌ : {A B : Type 0} → A → B → A × B
◌and◌ a b = (a, b)

-- ---- the definitions that compute the answer, layer by layer: to unfold one of these names is to unfold all that its line names
unfoldable compute_outcomes : Unit {0}
unfolding is_refused ◌>>=◌ require ascii byte within byte_in
compute_outcomes = tt

unfoldable compute_strings : Unit {0}
unfolding hex_value hex_in low_surrogate after_high second_limit unicode_escape short_escape escape tail multibyte character characters string
compute_strings = tt

unfoldable compute_numbers : Unit {0}
unfolding is_digit is_e counted digits some_digits int frac sign exponent_digits signed_digits exp minus number
compute_numbers = tt

unfoldable compute_worth : Unit {0}
unfolding mantissa fraction_digits decimal signed_exponent exponent drop_zeros trimmed is_negative unless_zero worth
compute_worth = tt

unfoldable compute_forests : Unit {0}
unfolding ◌⧺◌ count size before from insert_at remove_at replace_at nth
compute_forests = tt

unfoldable compute_values : Unit {0}
unfolding tag is_number is_string is_array is_object is_container content levels depths depth nodes same_text find
compute_values = tt

unfoldable compute_equality : Unit {0}
unfolding same_bool same_integer same_worth same_label from_name same_elements same_members equal
compute_equality = tt

unfoldable compute_scalars : Unit {0}
unfolding is_blank blanks_from blanks word_at room_for literal_value number_value string_value scalar
compute_scalars = tt

unfoldable compute_containers : Unit {0}
unfolding fresh name_for container_label closing_bracket items contents container value read
compute_containers = tt

unfoldable compute_writing : Unit {0}
unfolding utf8 hex_digit write_character write_characters write_string opening closing write_name comma write_items write
compute_writing = tt

unfoldable compute_pointers : Unit {0}
unfolding prepend segments tilde unescape unescape_all tokens all_digits is_index is_dash element_below member_named child_at child farther walk
compute_pointers = tt

unfoldable compute_changes : Unit {0}
unfolding put at_parent insert_element insert_member insert_child remove_child replace_child add_at remove_at_path replace_at_path
compute_changes = tt

unfoldable compute_operations : Unit {0}
unfolding move_to copy_to test_at perform not_too_deep not_too_large limited
compute_operations = tt

unfoldable compute-members : Unit {0}
unfolding member string_of string_member kind_named uses_value uses_from is_move value_for from_for members_for operation_members
compute-members = tt

unfoldable compute_patches : Unit {0}
unfolding proper_prefix with_pointers operation no_pointer at_op on_finish operations shape which_pointer run
compute_patches = tt

unfoldable compute_answers : Unit {0}
unfolding work_suffices fitting answer_of patched on_patch on_document answer_in answer
compute_answers = tt

unfoldable compute_texts : Unit {0}
unfolding compute_outcomes compute_strings compute_numbers compute_scalars compute_containers compute_writing
compute_texts = tt

unfoldable compute_equal : Unit {0}
unfolding compute_worth compute_forests compute_values compute_equality
compute_equal = tt

unfoldable compute_runs : Unit {0}
unfolding compute_pointers compute_changes compute_operations compute-members compute_patches
compute_runs = tt

unfoldable pub compute : Unit {0}
unfolding compute_texts compute_equal compute_runs compute_answers got all all_blank
compute = tt
