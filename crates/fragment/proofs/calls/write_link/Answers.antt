use Rattle.std.proofs.Common.{refl}
use Rattle.fragment.proofs.TableLaws.{kept_table, tested}
use Rattle.fragment.proofs.calls.write_link.Goals as goal

pub write-requires : goal.write-requires
unfolding tested
write-requires c = kept_table _ refl refl
