-- The contracts suppose nothing impossible: a column that holds the array [1, [2], 3] behind another word, and what the definitions say of it.
use Rattle.std.specs.Prelude.{Ok, Err}
use Prim.Native.Nat.{ℕ, ◌<◌}
use native.Mathlib.Omega.{arith}
use mathlib.Core.Path.{◌≡◌, refl}
use mathlib.Core.List.{List, [], ◌∷◌}
use Rattle.spec.specs.Forest.{Forest, none, tree, count, size, before}
use Rattle.spec.specs.Limits.{work_nodes, max_nodes}
use Rattle.tape.specs.Layout.{array_kind, number_kind, values, patch_row, rows}
use Rattle.tape.specs.Fields.{Row, no_node}
use Rattle.tape.specs.Tape.{tape}
use Rattle.tape.specs.declared.fields.Cell.{Cell}
use Rattle.tape.specs.Cell.{row_of, Fit, Formed, formed_none, formed_tree, Node, level, deep}
use Rattle.tape.proofs.Cells.{no_text, no_name}
use Rattle.tape.specs.Columns.{splice_fits, spliced, replaced, inside}
use Rattle.tape.specs.Rows.{end_of, child_row, child_of}

abbrev number : Cell
number = record { kind = number_kind; value = record { form = 4; source = 1; start = 300; length = 9 }; name = no_name; origin = 0 }

abbrev array : Cell
array = record { kind = array_kind; value = no_text; name = no_name; origin = 0 }

abbrev one : Forest Cell
one = tree number none none

abbrev kids : Forest Cell
kids = tree number none (tree array one one)

-- a row's tags: 3 + 8 * (4 + 8 * 1) of a number in the patch
abbrev column : List Row
column =
    no_node
    ∷ (0 ∷ 0 ∷ 0 ∷ 0 ∷ 4 ∷ 0 ∷ 5 ∷ 0 ∷ [])
    ∷ (0 ∷ 0 ∷ 300 ∷ 9 ∷ 0 ∷ 0 ∷ 99 ∷ 0 ∷ [])
    ∷ (0 ∷ 0 ∷ 0 ∷ 0 ∷ 1 ∷ 0 ∷ 5 ∷ 0 ∷ [])
    ∷ (0 ∷ 0 ∷ 300 ∷ 9 ∷ 0 ∷ 0 ∷ 99 ∷ 0 ∷ [])
    ∷ (0 ∷ 0 ∷ 300 ∷ 9 ∷ 0 ∷ 0 ∷ 99 ∷ 0 ∷ [])
    ∷ no_node ∷ []

scalar : Fit number none
unfolding size
scalar =
    record {
      kind = omega arith;
      small = omega arith;
      scalar = λ h. refl;
      value = record { form = omega arith; source = omega arith };
      name = record { form = omega arith; source = omega arith };
    }

container : (ks : Forest Cell) → size ks < values → Fit array ks
container ks h =
    record {
      kind = omega arith;
      small = h;
      scalar = λ l. absurd (omega arith);
      value = record { form = omega arith; source = omega arith };
      name = record { form = omega arith; source = omega arith };
    }

formed_one : Formed one
formed_one = formed_tree scalar formed_none formed_none

formed : Formed (tree array kids none)
unfolding size
formed = formed_tree (container kids (omega arith)) (formed_tree scalar formed_none (formed_tree (container one (omega arith)) formed_one formed_one))
    formed_none

-- the second row holds the array
pub node : Node column 1 array kids
unfolding tape row_of size
node = record { rest = none; held = record { after = no_node ∷ []; rows = record { is = refl }; formed = formed } }

pub end_row : end_of column 1 ≡ 6
end_row = refl

-- its children stand in rows 2, 3 and 5
pub third : child_of 1 2 kids ≡ Ok 5
unfolding child_of child_row count size before
third = refl

pub fourth : child_of 1 3 kids ≡ Err 3
unfolding child_of child_row count size before
fourth = refl

pub levels : level array (deep kids) ≡ 2
unfolding level deep
levels = refl

-- two words of six replaced by one that stands behind them
pub splice_example : spliced {W = ℕ} (1 ∷ 2 ∷ 3 ∷ 4 ∷ 5 ∷ 6 ∷ 0 ∷ 9 ∷ []) 6 1 2 7 1 ≡ 1 ∷ 9 ∷ 4 ∷ 5 ∷ 6 ∷ 6 ∷ 0 ∷ 9 ∷ []
unfolding spliced splice_fits replaced inside
splice_example = refl

-- ---- the table's numbers fit the limits: each part has a row for every node
pub patch-part : patch_row ≡ max_nodes
patch-part = refl

pub all_parts : rows ≡ work_nodes
all_parts = refl
