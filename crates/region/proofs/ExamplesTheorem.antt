-- The examples of specs/Examples, by computation.
use mathlib.Core.Path.{refl}
use mathlib.Core.List.{[], ◌∷◌}
use lib.Dec.{leb→le}
use Rattle.spec.specs.Bytes.{ascii}
use Rattle.spec.specs.Read.{read}
use Rattle.spec.specs.Pointer.{Tokens}
use Rattle.spec.proofs.Computing.{got, operations_of, compute}
use Rattle.fragment.specs.Link.{character_at, characters_from, characters}
use Rattle.region.specs.Rule.{is_makers, is_test, kind_permitted, permitted, operation_within, operations_within, elements_within, shape_within}
use Rattle.region.specs.Answer.{region_tokens, patched_within, on_patch_within, on_document_within, answer_within}
use Rattle.region.specs.Claims.{Passes}
use Rattle.region.specs.Examples.{region, patch, ExamplesStatement}
use Rattle.region.proofs.ClaimTheorems.{shaped_within}

unfoldable compute_rule : Unit {0}
unfolding character_at characters_from characters is_makers is_test kind_permitted permitted operation_within operations_within elements_within shape_within
compute_rule = tt

unfoldable pub compute_region : Unit {0}
unfolding compute compute_rule region_tokens patched_within on_patch_within on_document_within answer_within
compute_region = tt

abbrev pub tokens : Tokens
tokens = ascii "0" ∷ ascii "cell" ∷ []

unfoldable pub passes : Passes region patch
unfolding compute_region
passes =
    record {
      short = leb→le _ _ tt;
      tokens = tokens;
      pointer = refl;
      operations = operations_of patch;
      well_formed_lem = record { fits = leb→le _ _ tt; patch = got (read patch); reads = refl; shaped = refl };
      rule = ((shaped_within.right tokens (got (read patch)) (operations_of patch)).0 refl).rule;
    }

pub examples : ExamplesStatement
unfolding compute_region passes
examples =
    record {
      answers_hold = (refl, (refl, (refl, (refl, (refl, (refl, (refl, (refl, (refl, (refl, tt))))))))));
      keeps = passes;
      tokens_are = refl;
    }
