-- The examples of specs/Examples, proved of the definitions by computation.
use mathlib.Core.Path.{refl}
use Rattle.spec.specs.Examples.{All, starred, zeros}
use Rattle.spec.proofs.Computing.{compute, ◌and◌}

pub examples : All starred
unfolding compute
examples = refl and refl and refl and refl and refl and refl and refl and refl and refl and refl and refl and refl and refl and tt

pub zeros-examples : All zeros
unfolding compute
zeros-examples = refl and refl and refl and refl and tt
