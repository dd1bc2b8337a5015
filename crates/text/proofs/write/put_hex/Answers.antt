use Rattle.text.specs.Written.{hex_escape}
use Rattle.text.proofs.StoreLaws.{stored_as}
use Rattle.text.proofs.write.put_hex.Goals as goal

pub returns : goal.returns
unfolding hex_escape
returns c = stored_as (rw (c.hex_digit-high.ensures, c.hex_digit-low.ensures)) c.put_few.ensures
