-- `finish` meets its contract: one file more.
use native.Mathlib.Omega.{arith}
use Rattle.patch_count.proofs.SumLaws.{sums_room, sums_more, unread_visits}
use Rattle.patch_count.proofs.names.finish.Goals as goal

pub one_refused-requires : goal.one_refused-requires
one_refused-requires g c = sums_room c.requires (omega arith)

pub returns-in_default : goal.returns-in_default
returns-in_default g c = sums_more c.requires (omega arith) (unread_visits c.one_refused.ensures)

pub count_file-requires : goal.count_file-requires
count_file-requires g c = sums_room c.requires (omega arith)

pub returns : goal.returns
returns g c = sums_more c.requires (omega arith) c.count_file.ensures
