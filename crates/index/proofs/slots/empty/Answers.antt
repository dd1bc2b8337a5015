-- `empty` meets its contract.
use native.Mathlib.Omega.{arith}
use mathlib.Core.Path.{◌≡◌, sym, ap, ◌∙◌}
use mathlib.Core.List.{◌++◌}
use lib.ListN.{length, take, drop, replicate, length-take}
use Rattle.tape.proofs.Columns.{filled_out, filled-first}
use Rattle.index.specs.Slots.{slots}
use Rattle.index.proofs.slots.empty.Goals as goal

pub returns-then-index-lt-SLOTS : goal.returns-then-index-lt-SLOTS
returns-then-index-lt-SLOTS c = sym (filled_out c.args.index.now 0 0 slots (omega arith))

pub returns : goal.returns
returns c =
    let xs = c.args.index.now in
    let long : length (take slots xs) ≡ slots = simp length-take (omega arith) in
    ap (λ ys. ys ++ drop slots xs) (c.fill.ensures.after (λ y h. h) ∙ ap (λ n. replicate n 0) long) ∙ sym (filled-first 0 xs slots c.if-index-lt-SLOTS.false)
