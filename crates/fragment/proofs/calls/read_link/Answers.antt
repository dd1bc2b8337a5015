use Rattle.std.proofs.Common.{refl}
use Rattle.fragment.proofs.TableLaws.{kept_table, tested}
use Rattle.fragment.proofs.calls.read_link.Goals as goal

pub read-requires : goal.read-requires
unfolding tested
read-requires c = kept_table _ refl refl
