use native.Mathlib.Omega.{arith}
use mathlib.Core.Path.{ap, ◌∙◌}
use Rattle.spec.proofs.FaultLaws.{handed}
use Rattle.lexer.proofs.AnswerLaws.{to_ok, scan_refused}
use Rattle.reader.specs.Begins.{scalar_of}
use Rattle.reader.specs.Words.{literal_end}
use Rattle.reader.proofs.WordLaws.{literal_read, literal-refused}
use Rattle.reader.proofs.words.scalar.Goals as goal

pub returns-then-kind-eq-STRING : goal.returns-then-kind-eq-STRING
unfolding scalar_of
returns-then-kind-eq-STRING c = rw c.if-kind-eq-STRING.true c.string.ensures

pub returns-then-kind-eq-NUMBER : goal.returns-then-kind-eq-NUMBER
unfolding scalar_of
returns-then-kind-eq-NUMBER c = rw c.if-kind-eq-NUMBER.true c.number.ensures

pub returns-in_err-next : goal.returns-in_err-next
returns-in_err-next c =
    let e = c.literal.ensures ∙ ap (literal_end c.args.kind c.args.s.now) c.past_byte.ensures in
    rw (handed _ c.from_residual.ensures.1) (literal-refused _ _ _ _ _ (omega arith) (scan_refused _ e c.in_err-next.was))

pub returns : goal.returns
returns c =
    let e = c.literal.ensures ∙ ap (literal_end c.args.kind c.args.s.now) c.past_byte.ensures in
    literal_read _ _ _ _ _ _ (omega arith) c.no_spelling.ensures (to_ok _ e c.in_ok-next.was)
