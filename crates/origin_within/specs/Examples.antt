-- A maker's patch: the test is operation 1, so what it adds bears 2. proofs/ExamplesTheorem proves it by computation.
use Rattle.std.specs.Prelude.{◌≡◌, [], ◌∷◌}
use Rattle.spec.specs.Bytes.{Bytes, ascii}
use Rattle.spec.specs.Answer.{success, refusal, failure}
use Rattle.spec.specs.Patch.{stop}
use Rattle.origin.specs.Answer.{listed, unlisted}
use Rattle.origin.specs.Examples.{lent}
use Rattle.origin_within.specs.Answer.{answer_within}

abbrev pub document : Bytes
document = ascii "{\"a\":{\"b\":1},\"c\":[2]}"

abbrev pub patch : Bytes
patch = ascii "[{\"op\":\"test\",\"path\":\"/a/b\",\"value\":1},{\"op\":\"add\",\"path\":\"/a/d\",\"value\":[3]}]"

pub record Example : Type 0 where
  pub inside : answer_within document patch (ascii "/a") (lent 7) ≡
      listed (success (ascii "{\"a\":{\"b\":1,\"d\":[3]},\"c\":[2]}")) (0 ∷ 0 ∷ 0 ∷ 2 ∷ 2 ∷ 0 ∷ 0 ∷ [])
  pub outside : answer_within document patch (ascii "/c") (lent 7) ≡ unlisted (failure (stop 17 1 0 0))
  pub short : answer_within document patch (ascii "/a") (lent 6) ≡ unlisted (refusal 16 0 0 0)
