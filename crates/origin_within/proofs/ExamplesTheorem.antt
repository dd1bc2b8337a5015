-- The example of a maker's patch, by computation.
use mathlib.Core.Path.{refl}
use Rattle.spec.proofs.Computing.{compute}
use Rattle.fragment.specs.Link.{character_at, characters_from, characters}
use Rattle.region.specs.Rule.{is_makers, is_test, kind_permitted, permitted, operation_within, operations_within, elements_within, shape_within}
use Rattle.region.specs.Answer.{region_tokens}
use Rattle.origin.proofs.ExamplesTheorem.{compute_steps, compute_origins}
use Rattle.origin_within.specs.Answer.{patched_within, on_patch_within, on_document_within, answer_within}
use Rattle.origin_within.specs.Examples.{Example}

unfoldable compute_within : Unit {0}
unfolding is_makers is_test kind_permitted permitted operation_within operations_within elements_within shape_within
    character_at characters_from characters region_tokens
compute_within = tt

pub example : Example
unfolding compute compute_steps compute_origins compute_within patched_within on_patch_within on_document_within answer_within
example = record { inside = refl; outside = refl; short = refl }
