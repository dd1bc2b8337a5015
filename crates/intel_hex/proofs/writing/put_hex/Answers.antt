use Rattle.std.proofs.Common.{length, drop, refl, ap, ◌∙◌, arith, length-take}
use Rattle.text.proofs.LaidLaws.{laid_length, stored_length}
use Rattle.intel_hex.proofs.TextLaws.{printing_starts, printing_room, printing_on, printing_last, printing_last_room, Printed, printed, cut, none_left}
use Rattle.intel_hex.proofs.writing.put_hex.Goals as goal
use Rattle.intel_hex.proofs.writing.put_hex.Goals.{else-loop-at-test, then-loop-at-test+else-n-at-gt16}

pub loop-at-init : goal.loop-at-init
loop-at-init c = (refl, omega arith, printing_starts _ _)

pub put_line-end-requires : goal.put_line-end-requires
put_line-end-requires c =
    let same = cut c.args.text.now c.loop-at.at c.min-stop.result (omega arith) (omega arith) (λ h. omega arith) in (
      omega (arith, c.requires),
      omega (arith, ap length same, length-take 16 (drop c.loop-at.at c.args.text.now)),
      omega (
        arith,
        ap length same,
        printing_room c.loop-at.invariant.2 (omega arith),
        laid_length c.loop-at.invariant.2.laid,
        c.requires,
      ),
    )

pub loop-at-preserved : goal.loop-at-preserved
loop-at-preserved c =
    let same = cut c.args.text.now c.loop-at.at c.min-stop.result (omega arith) (omega arith) (λ h. omega arith) in
    (refl, omega arith, printing_on c.loop-at.invariant.2 (omega arith) same c.put_line-end.ensures)

pub put_line-requires : goal.put_line-requires
put_line-requires c =
    let none = none_left c.args.text.now in
    let p : Printed c.args.text.now c.args.out.now c.loop-at-test.out c.loop-at-test.end =
    elim c.loop-at-test.branch [
      | else-loop-at-test w ↦ printed w.out-is w.end-is c.loop-at.invariant.2 (omega (arith, w.loop-at-test.false))
      | then-loop-at-test+else-n-at-gt16 w ↦
          let same =
          cut c.args.text.now c.loop-at.at w.min-stop.result (omega (arith, w.min-stop.ensures)) (omega (arith, w.min-stop.ensures))
          (λ h. omega (arith, w.min-stop.ensures)) in
          printed w.out-is w.end-is (printing_on c.loop-at.invariant.2 (omega (arith, w.loop-at-test.true)) same w.put_line-end.ensures) (omega arith)
    ] in (
      omega arith,
      omega (arith, ap length none),
      omega (
        arith,
        ap length none,
        printing_last_room p.printing p.behind,
        laid_length p.printing.laid,
        c.requires,
      ),
    )

pub shape_of-out : goal.shape_of-out
shape_of-out c = stored_length c.put_line.ensures ∙ c.loop-at-test.auto.out ∙ c.loop-at.auto.out

pub returns : goal.returns
returns c =
    let p : Printed c.args.text.now c.args.out.now c.loop-at-test.out c.loop-at-test.end =
    elim c.loop-at-test.branch [
      | else-loop-at-test w ↦ printed w.out-is w.end-is c.loop-at.invariant.2 (omega (arith, w.loop-at-test.false))
      | then-loop-at-test+else-n-at-gt16 w ↦
          let same =
          cut c.args.text.now c.loop-at.at w.min-stop.result (omega (arith, w.min-stop.ensures)) (omega (arith, w.min-stop.ensures))
          (λ h. omega (arith, w.min-stop.ensures)) in
          printed w.out-is w.end-is (printing_on c.loop-at.invariant.2 (omega (arith, w.loop-at-test.true)) same w.put_line-end.ensures) (omega arith)
    ] in
    printing_last p.printing p.behind (none_left c.args.text.now) c.put_line.ensures
