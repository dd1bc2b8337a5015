-- `quiet` meets its contract, by what the rows of the block tell.
use Rattle.std.specs.Prelude.{All, ◌≢◌}
use Prim.Native.Nat.{◌+◌, ◌-◌}
use native.Mathlib.Omega.{arith}
use mathlib.Core.Path.{◌≡◌, ap}
use mathlib.Core.List.{List}
use lib.ListN.{take, drop, length-take, length-drop}
use borrow.Author.Rules.{rules}
use Rattle.tape.specs.Fields.{Row, hash_of}
use Rattle.tape.specs.Rows.{block}
use Rattle.table.proofs.Blocks.{all_quiet}
use Rattle.table.proofs.find.quiet.Goals as goal

pub returns-then-all : goal.returns-then-all
returns-then-all c = λ e.
    let n : c.args.row + block - c.args.row ≡ block = omega arith in
    let rows : List Row = take (c.args.row + block - c.args.row) (drop c.args.row c.args.nodes.now) in
    let others : All (λ r. hash_of r ≢ c.args.hash) rows = search rules in (
      omega arith,
      all_quiet c.args.nodes.now c.args.hash c.args.row block rows (ap (λ k. take k (drop c.args.row c.args.nodes.now)) n)
          (omega (arith, length-take {A = Row}, length-drop {A = Row})) others (c.childless.ensures e),
    )
