use Rattle.std.proofs.Common.{length, ◌∙◌, arith}
use Rattle.std.proofs.lemmas.Result.{err_from_is_err_and}
use Rattle.intel_hex.proofs.CallLaws.{refuses, succeeds, fitting_short, read_sized, read_refused}
use Rattle.intel_hex.proofs.calls.read.Goals as goal

pub returns-in_err-n : goal.returns-in_err-n
returns-in_err-n c =
    let p = err_from_is_err_and c.from_residual.result c.from_residual.ensures.1 in
    rw (p.1, p.2) (refuses _ (read_refused _ _ _ c.in_err-n.ensures))

pub returns-then-output-n : goal.returns-then-output-n
returns-then-output-n c =
    let r = read_sized c.args.hex.now (length c.args.output.now) c.in_ok-n.ensures in
    refuses _ (rw c.at.ensures (r.answer_is ∙ fitting_short _ _ (omega (arith, r.length_is))))

pub put_text-requires : goal.put_text-requires
put_text-requires c = (read_sized c.args.hex.now 0 c.in_ok-n.ensures).accepted

pub returns : goal.returns
returns c =
    let r = read_sized c.args.hex.now (length c.args.output.now) c.in_ok-n.ensures in
    succeeds r.answer_is (omega (arith, r.length_is)) c.put_text.ensures
