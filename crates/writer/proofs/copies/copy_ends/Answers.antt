-- `copy_ends` meets its contract: what both ends leave is all of the text (`sets_overlap` of crate text).
use Prim.Native.Nat.{◌+◌, ◌-◌, ◌≤◌}
use native.Mathlib.Omega.{arith}
use mathlib.Core.Path.{ap, ◌∙◌}
use lib.ListN.{length, drop, length-drop}
use lib.Seq.{sets, take_all}
use Rattle.text.proofs.StoreLaws.{sets_overlap}
use Rattle.writer.proofs.copies.copy_ends.Goals as goal

pub returns : goal.returns
returns c =
    let rest = length c.args.s.now - c.args.count in
    let long : length (drop rest c.args.s.now) ≤ c.args.count = omega (arith, length-drop rest c.args.s.now) in
    c.copy-2.ensures
    ∙ ap (sets _ (1 + rest)) (take_all c.args.count (drop rest c.args.s.now) long)
    ∙ ap (λ m. sets m (1 + rest) (drop rest c.args.s.now)) c.copy.ensures
    ∙ sets_overlap c.args.out.now 1 c.args.s.now c.args.count rest (omega arith) (omega arith) (omega arith)
