-- The numbers of the answer: SPECIFICATION 2.2, in the order of its table; then 17, SPECIFICATION 15.3, T-05.
use Rattle.std.specs.Prelude.{ℕ}

abbrev pub done : ℕ
done = 0

abbrev pub work_too_short : ℕ
work_too_short = 1

abbrev pub input_too_long : ℕ
input_too_long = 2

abbrev pub not_json : ℕ
not_json = 3

abbrev pub repeated_name : ℕ
repeated_name = 4

abbrev pub too_deep : ℕ
too_deep = 5

abbrev pub too_many_nodes : ℕ
too_many_nodes = 6

abbrev pub number_over_limit : ℕ
number_over_limit = 7

abbrev pub wrong_shape : ℕ
wrong_shape = 8

abbrev pub too_many_operations : ℕ
too_many_operations = 9

abbrev pub malformed_pointer : ℕ
malformed_pointer = 10

abbrev pub location_missing : ℕ
location_missing = 11

abbrev pub no_index : ℕ
no_index = 12

abbrev pub remove_of_root : ℕ
remove_of_root = 13

abbrev pub move_into_child : ℕ
move_into_child = 14

abbrev pub test_differs : ℕ
test_differs = 15

abbrev pub output_too_short : ℕ
output_too_short = 16

abbrev pub not_permitted : ℕ
not_permitted = 17
