-- `walk` and `perform` are what RFC 6901, RFC 6902 and SPECIFICATION 6 say: specs/Effects.
use Rattle.spec.specs.Effects.{EffectsStatement}
use Rattle.spec.proofs.EffectsDone.{walk_to, to_walk, performs_to, to_performs}
use Rattle.spec.proofs.EffectsRefused.{walk_refused, perform_refused}
use Rattle.spec.proofs.EffectsFound.{untouched, added_found, replaced-found}

pub effects : EffectsStatement
effects =
    record {
      walks = λ ts v w. (walk_to ts v w, to_walk);
      walk_refused = walk_refused;
      performs = λ o v w. (performs_to o v w, to_performs o v w);
      refuses = perform_refused;
      untouched = untouched;
      added_found = added_found;
      replaced-found = replaced-found;
    }
