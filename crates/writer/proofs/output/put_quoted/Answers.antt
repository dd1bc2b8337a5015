-- `put_quoted` meets its contract: three runs of stores, one behind another.
use Prim.Native.Nat.{◌+◌}
use native.Mathlib.Omega.{arith}
use mathlib.Core.Path.{◌≡◌, refl, ap, ◌∙◌}
use lib.ListN.{length, set, length-set}
use lib.Seq.{sets, length-sets}
use Rattle.spec.specs.Bytes.{Bytes}
use Rattle.writer.proofs.PlacedLaws.{placed_quoted}
use Rattle.writer.proofs.output.put_quoted.Goals as goal

-- the output is as long as it was when all of the text is copied
copied_long : (out s : Bytes) {m : Bytes} → m ≡ sets (set out 0 0x22) 1 s → length m ≡ length out
copied_long out s e = ap length e ∙ length-sets (set out 0 0x22) 1 s ∙ length-set out 0 0x22

pub copy_behind_quote-requires : goal.copy_behind_quote-requires
copy_behind_quote-requires c = omega (arith, length-set c.args.out.now 0 0x22)

pub bounds-out-n : goal.bounds-out-n
bounds-out-n c =
    omega (arith, copied_long c.args.out.now c.args.s.now c.copy_behind_quote.ensures)

pub shape_of-out : goal.shape_of-out
shape_of-out c =
    length-set c.copy_behind_quote.new.out (1 + length c.args.s.now) 0x22
    ∙ copied_long c.args.out.now c.args.s.now c.copy_behind_quote.ensures

pub returns : goal.returns
returns c =
    placed_quoted 0x22 c.args.s.now (omega arith) refl c.copy_behind_quote.ensures refl
