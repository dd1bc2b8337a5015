use Rattle.std.proofs.Common.{sym, ◌∙◌, leb-true, leb-false}
use Rattle.fragment.specs.Link.{link}
use Rattle.fragment.specs.declared.refusal.LinkRefusal.TheVariants as LinkRefusal
use Rattle.fragment.proofs.CallLaws.{refuses, succeeds, fitting_short, writes_by}
use Rattle.fragment.proofs.calls.write.Goals as goal

pub returns-then-is_err : goal.returns-then-is_err
returns-then-is_err c = refuses LinkRefusal.MalformedPointer (writes_by _ _ c.verdict_of.ensures c.if-is_err.ensures.value)

pub returns-then-not-fits : goal.returns-then-not-fits
returns-then-not-fits c =
    refuses LinkRefusal.OutputTooShort
    (writes_by _ _ c.verdict_of.ensures c.if-is_err.ensures.value
    ∙ fitting_short _ (link c.args.pointer.now) (leb-false _ _ (sym c.fits.ensures ∙ c.if-not-fits.true)))

pub returns : goal.returns
returns c =
    succeeds (writes_by _ _ c.verdict_of.ensures c.if-is_err.ensures.value) (leb-true _ _ (sym c.fits.ensures ∙ c.if-not-fits.false))
    c.put_link.ensures
