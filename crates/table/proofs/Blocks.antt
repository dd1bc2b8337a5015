-- Laws of rows that are looked at together: what a test of each and of all together tells of every row.
use Rattle.std.specs.Prelude.{All, ◌≢◌}
use Rattle.std.proofs.lemmas.List.Elements.{All-get_or}
use Prim.Native.Nat.{ℕ, ◌+◌}
use native.Mathlib.Nat.{zero-add}
use native.Mathlib.Omega.{arith}
use mathlib.Core.Path.{◌≡◌, ap, ◌∙◌}
use mathlib.Core.List.{List, []}
use lib.ListN.{length, take, drop, get_or}
use lib.Seq.{get_or-take, get_or-drop}
use Rattle.tape.specs.Fields.{Row, hash_of}
use Rattle.tape.specs.Rows.{Leaves}
use Rattle.table.specs.Find.{AllQuiet}

-- no name of the rows has this hash, and no node of them has children
pub all_quiet : (nodes : List Row) (hash row n : ℕ) (block : List Row) → block ≡ take n (drop row nodes) → length block ≡ n
    → All (λ r. hash_of r ≢ hash) block → Leaves block 0 (length block) → AllQuiet nodes hash row n
all_quiet nodes hash row n block is long others leaves i l =
    let here : get_or block i [] ≡ get_or nodes (row + i) [] = ap (λ rows. get_or rows i []) is ∙ get_or-take n (drop row nodes) i [] l
    ∙ get_or-drop row nodes i [] in
    record {
      leaf = rw (← here) (rw zero-add at (leaves i (omega arith)));
      other = λ e. All-get_or (λ r. hash_of r ≢ hash) block i [] (omega arith) others (ap hash_of here ∙ e);
    }
