use borrow.Author.Tests.{ne_eqb}
use Rattle.text.specs.Written.{written}
use Rattle.text.proofs.StoreLaws.{front}
use Rattle.text.proofs.write.write_text.Goals as goal

pub returns-then-form-eq1 : goal.returns-then-form-eq1
unfolding written
returns-then-form-eq1 c = rw c.if-form-eq1.true (front c.put_bytes.ensures)

pub returns-then-form-eq2 : goal.returns-then-form-eq2
unfolding written
returns-then-form-eq2 c = rw c.if-form-eq2.true c.write_string.ensures

pub returns : goal.returns
unfolding written
returns c = rw (ne_eqb _ _ c.if-form-eq1.false) c.write_letters.ensures
