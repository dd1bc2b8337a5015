use Rattle.pointer.specs.Tokens.{end_of, token_bytes}
use Rattle.pointer.proofs.tokens.token_part.Goals as goal

pub returns-in-Last : goal.returns-in-Last
unfolding token_bytes end_of
returns-in-Last c = rw c.in-Last.is c.between.ensures

pub returns-in-Next : goal.returns-in-Next
unfolding token_bytes end_of
returns-in-Next c = rw c.in-Next.is c.between-in-Next.ensures
