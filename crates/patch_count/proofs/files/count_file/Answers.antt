-- `count_file` meets its contract where the file cannot be read.
use Rattle.patch_count.proofs.SumLaws.{unread_visits}
use Rattle.patch_count.proofs.files.count_file.Goals as goal

pub returns-in_default : goal.returns-in_default
returns-in_default g c = unread_visits c.one_refused.ensures
