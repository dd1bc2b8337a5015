use Rattle.pointer.proofs.prefixes.same_token.Goals as goal

pub returns : goal.returns
returns c = rw (← c.token_part.ensures, ← c.token_part-2.ensures) c.same_text.ensures
