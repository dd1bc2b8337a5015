-- `stamp_both` meets its contract: the patch first, then the document.
use Rattle.merge_listing.proofs.StampLaws.{both-stamped}
use Rattle.merge_listing.proofs.stamps.stamp_both.Goals as goal

pub returns : goal.returns
returns c T v p both u =
    both-stamped _ c.end_of-end.ensures c.stamp.ensures c.stamp-2.ensures both u
