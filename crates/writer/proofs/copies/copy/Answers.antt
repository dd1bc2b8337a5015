-- `copy` meets its contract: after i turns the first i bytes are copied.
use Prim.Native.Nat.{◌+◌}
use native.Mathlib.Omega.{arith}
use mathlib.Core.Path.{◌≡◌, sym, ap, ◌∙◌}
use lib.ListN.{take, drop, set, length-drop}
use lib.Seq.{sets, get_or-drop}
use Rattle.text.proofs.StoreLaws.{copied_none, copied-length, copied_more}
use Rattle.writer.proofs.copies.copy.Goals as goal

pub loop-i-init : goal.loop-i-init
loop-i-init c = (omega arith, omega arith, omega arith, copied_none)

pub bounds-out-to : goal.bounds-out-to
bounds-out-to c = omega (arith, copied-length c.loop-i.invariant.3)

pub loop-i-preserved : goal.loop-i-preserved
loop-i-preserved c =
    let more = copied_more c.loop-i.invariant.3 (omega (arith, length-drop c.args.from c.args.s.now)) in
    let read = get_or-drop c.args.from c.args.s.now c.loop-i.i 0 in
    (omega arith, omega arith, omega arith, record { is = ap (set c.loop-i.out (c.args.to + c.loop-i.i)) (sym read) ∙ more.is })

pub shape_of-out : goal.shape_of-out
shape_of-out c = copied-length c.loop-i.invariant.3

pub returns : goal.returns
returns c =
    let all : c.loop-i.i ≡ c.args.count = omega arith in
    c.loop-i.invariant.3.is ∙ ap (λ n. sets c.args.out.now c.args.to (take n (drop c.args.from c.args.s.now))) all
