use Rattle.std.proofs.Common.{length, refl, ◌∙◌, arith}
use Rattle.std.proofs.lemmas.Result.{err_from_is_err_and}
use Rattle.fragment.specs.declared.refusal.LinkRefusal.TheVariants as LinkRefusal
use Rattle.fragment.proofs.CallLaws.{refuses, succeeds, first_is, first_is_not, too_long, not_too_long, no_hash, read_refused, read_fits, fitting_short}
use Rattle.fragment.proofs.calls.read.Goals as goal

pub returns-then-link-gt-MAX_BYTES : goal.returns-then-link-gt-MAX_BYTES
returns-then-link-gt-MAX_BYTES c = refuses LinkRefusal.InputTooLong (too_long c.args.link.now _ c.if-link-gt-MAX_BYTES.true)

pub returns-then-ne : goal.returns-then-ne
returns-then-ne c =
    let other = first_is_not (λ x y. refl) _ c.args.link.now _ c.first.ensures.value c.if-ne.ensures in
    refuses LinkRefusal.BadLink (not_too_long c.args.link.now _ c.if-link-gt-MAX_BYTES.false ∙ no_hash _ _ other)

pub returns-in_err-n : goal.returns-in_err-n
returns-in_err-n c =
    let p = err_from_is_err_and c.from_residual.result c.from_residual.ensures.1 in
    let begins = first_is (λ x y. refl) _ c.args.link.now _ c.first.ensures.value c.if-ne.ensures in
    rw (p.1, p.2) (refuses _ (read_refused c.args.link.now _ c.if-link-gt-MAX_BYTES.false begins _ c.in_err-n.ensures))

pub returns-then-output-n : goal.returns-then-output-n
returns-then-output-n c =
    let begins = first_is (λ x y. refl) _ c.args.link.now _ c.first.ensures.value c.if-ne.ensures in
    let r = read_fits c.args.link.now (length c.args.output.now) c.if-link-gt-MAX_BYTES.false begins c.in_ok-n.ensures in
    refuses LinkRefusal.OutputTooShort (r.3 ∙ fitting_short _ r.0 (omega (arith, r.2)))

pub returns : goal.returns
returns c =
    let begins = first_is (λ x y. refl) _ c.args.link.now _ c.first.ensures.value c.if-ne.ensures in
    let r = read_fits c.args.link.now (length c.args.output.now) c.if-link-gt-MAX_BYTES.false begins c.in_ok-n.ensures in
    succeeds r.3 (omega (arith, r.2)) (c.put_octets.ensures.laid r.0 r.1)
