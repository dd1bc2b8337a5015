-- A buffer that holds the same value everywhere.
use Rattle.std.specs.Prelude.{ℕ, Bool, List, ◌==◌, ◌&&◌}
use Rattle.std.specs.List.{list_all}

-- every entry, or byte, is `x`
abbrev pub all_are : ℕ → List ℕ → Bool
all_are x xs = list_all (λ y. y == x) xs

-- every field of every record is 0
abbrev pub all_clear : List (List ℕ) → Bool
all_clear nodes = list_all (all_are 0) nodes

-- the same, and so is every entry of the index
abbrev pub clear_both : List (List ℕ) → List ℕ → Bool
clear_both nodes index = all_clear nodes && all_are 0 index
