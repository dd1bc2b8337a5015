-- There are such situations: on the way to the region one document has an array, and the other an object with a member `0`.
use Rattle.std.specs.Prelude.{◌≡◌}
use Rattle.spec.specs.Bytes.{Bytes, ascii}
use Rattle.spec.specs.Answer.{success}
use Rattle.spec.specs.Examples.{lent}
use Rattle.region.specs.Answer.{answer_within}
use Rattle.region.specs.Examples.{region, patch}
use Rattle.isolation.specs.Isolation.{Situation}

abbrev pub document : Bytes
document = ascii "[{\"cell\":{\"mAh\":3000}},1]"

abbrev pub other : Bytes
other = ascii "{\"x\":[true],\"0\":{\"cell\":{\"mAh\":3000}}}"

pub record ExampleStatement : Type 0 where
  pub situation : Situation document other patch region lent lent
  pub first : answer_within document patch region lent ≡ success (ascii "[{\"cell\":{\"mAh\":3100}},1]")
  pub second : answer_within other patch region lent ≡ success (ascii "{\"x\":[true],\"0\":{\"cell\":{\"mAh\":3100}}}")
