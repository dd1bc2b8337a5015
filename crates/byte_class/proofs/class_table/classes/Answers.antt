use mathlib.Core.Path.{refl}
use Rattle.byte_class.proofs.TableLaws.{tested, class_rule}
use Rattle.byte_class.proofs.class_table.classes.Goals as goal

pub returns : goal.returns
unfolding tested
returns c = class_rule refl c.flat.ensures
