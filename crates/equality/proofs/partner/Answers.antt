-- `partner` meets its contract, by its two tests.
use mathlib.Core.Path.{◌∙◌, ap}
use Rattle.tape.specs.Fields.{name_of}
use Rattle.equality.proofs.PartnerLaws.{name_loaded, partner_element, partner_in_step, partner_sought}
use Rattle.equality.proofs.partner.Goals as goal

pub returns-then-not-pair : goal.returns-then-not-pair
returns-then-not-pair c hints = partner_element c.if-not-pair.true

pub returns-then-same_name : goal.returns-then-same_name
returns-then-same_name c hints = partner_in_step c.if-not-pair.false
    (c.name_of-name.ensures ∙ ap name_of c.load.ensures ∙ name_loaded
    c.args.nodes.now
    c.args.row)
    (c.name_of.ensures ∙ ap name_of c.load-2.ensures ∙ name_loaded
    c.args.nodes.now
    c.args.next)
    c.same_name.ensures c.if-same_name.true

pub returns : goal.returns
returns c hints = partner_sought c.if-not-pair.false
    (c.name_of-name.ensures ∙ ap name_of c.load.ensures ∙ name_loaded
    c.args.nodes.now
    c.args.row) (c.sought.ensures hints)
