use Rattle.pointer.specs.Tokens.{accepted, tokens_after}
use Rattle.pointer.proofs.tokens.is_pointer.Goals as goal

pub returns-in-Root : goal.returns-in-Root
unfolding accepted tokens_after
returns-in-Root c = rw (c.first.ensures.gives, c.in-Root.is)

pub returns-in-At : goal.returns-in-At
unfolding accepted tokens_after
returns-in-At c = rw (c.first.ensures.gives, c.in-At.is) c.well_formed-in-At.ensures

pub returns-in-Malformed : goal.returns-in-Malformed
unfolding accepted tokens_after
returns-in-Malformed c = rw (c.first.ensures.gives, c.in-Malformed.is)
