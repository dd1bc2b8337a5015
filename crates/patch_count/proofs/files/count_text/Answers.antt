-- `count_text` meets its contract: the work area suffices.
use borrow.Author.Rules.{rules}
use Rattle.patch_count.proofs.SumLaws.{text_few, text_adds}
use Rattle.patch_count.proofs.files.count_text.Goals as goal

pub one_inspected-requires : goal.one_inspected-requires
one_inspected-requires c = record {
  room = c.requires;
  counts_bound = text_few c.inspect-answer.ensures (search rules) (search rules);
}

pub returns : goal.returns
returns c = text_adds c.inspect-answer.ensures (search rules) (search rules) _ c.one_inspected.ensures
