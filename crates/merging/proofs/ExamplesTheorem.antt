-- The examples of RFC 7396, by computation.
use mathlib.Core.Path.{refl}
use Rattle.spec.proofs.Computing.{compute}
use Rattle.merging.specs.MergePatch.{is_null, as_object, without, member_of, merge_members}
use Rattle.merging.specs.MergePatch.{merge_patch, merged_in, on_merge_patch, on_merge_document, merge_answer}
use Rattle.merging.specs.Examples.{All, appendix, positions}

unfoldable compute_merging : Unit {0}
unfolding compute is_null as_object without member_of merge_members merge_patch merged_in on_merge_patch on_merge_document merge_answer
compute_merging = tt

pub appendix_holds : All appendix
unfolding compute_merging
appendix_holds = (refl, (refl, (refl, (refl, (refl, (refl, (refl, (refl, (refl, (refl, (refl, (refl, (refl, (refl, (refl, tt)))))))))))))))

pub positions_hold : All positions
unfolding compute_merging
positions_hold = (refl, (refl, tt))
