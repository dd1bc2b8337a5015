-- The tool's line is that of `report::run`, at the lengths of the buffers that the tool lends.
use Prim.Native.Nat.{ℕ, ◌≤◌}
use native.Mathlib.Omega.{arith}
use mathlib.Core.Path.{◌≡◌, sym, ap, ◌∙◌}
use lib.ListN.{length}
use lib.Seq.{length-take-le}
use Rattle.spec.specs.Limits.{work_nodes, work_entries}
use Rattle.spec.specs.Answer.{answer}
use Rattle.tape.specs.Lent.{Texts}
use Rattle.json_patch.specs.Call.{Memory}
use Rattle.writer.proofs.PlacedLaws.{placed-length, placed-inside}
use Rattle.report.specs.Line.{line_of}
use Rattle.report.specs.Report.{lent_to, RunIs}
use Rattle.patch_tool.specs.Line.{lent, LineIs}

pub line_is : {T : Texts} {m m' : Memory} {r : ℕ} → RunIs T m m' r → length m.output ≡ 65_537 → length m.nodes ≡ work_nodes
    → length m.index ≡ work_entries → LineIs T.document T.patch m'.output r
line_is {T} {m} {m'} {r} run e n x =
    let same : lent_to m ≡ lent = rw (e, n, x) in
    let inside : r ≤ length m'.output = omega (arith, placed-length run.placed, placed-inside run.placed) in
    record {
      counts = (inside, sym (length-take-le r m'.output inside));
      is = run.whole (omega arith) ∙ ap (λ l. line_of (answer T.document T.patch l)) same;
    }
