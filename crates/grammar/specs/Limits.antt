-- What `read` asks of a value besides the grammar: the limits of SPECIFICATION 1.3, and no name repeated in one object, SPECIFICATION 3.4.
use Rattle.std.specs.Prelude.{◌≤◌, ◌≡◌, length, nat_abs}
use Rattle.spec.specs.Limits.{max_depth, max_nodes, max_number, max_exponent}
use Rattle.spec.specs.Bytes.{Bytes, Text}
use Rattle.spec.specs.Worth.{exponent}
use Rattle.spec.specs.Forest.{none, tree}
use Rattle.spec.specs.Value as Value
use Rattle.spec.specs.Value.{Label, Members, depth, nodes}

-- a number by its source text: its length, and the size of its written exponent
pub record NumberFits (t : Bytes) : Type 0 where
  pub short : length t ≤ max_number
  pub exponent_fits : nat_abs (exponent t) ≤ max_exponent

-- one of these members has the name
pub data Named (n : Text) : Members → Type 0 where
  here : {e : Value.Entry} {kids rest : Members} → e.name ≡ n → Named n (tree e kids rest)
  later : {e : Value.Entry} {kids rest : Members} → Named n rest → Named n (tree e kids rest)

-- no two of these members have one name
pub data DistinctNames : Members → Type 0 where
  none_left : DistinctNames none
  one_more : {e : Value.Entry} {kids rest : Members} → ¬ Named e.name rest → DistinctNames rest → DistinctNames (tree e kids rest)

-- a number fits, and an object's names differ
abbrev pub Fits : Label → Members → Type 0
Fits Label.null_literal kids = Unit {0}
Fits Label.true_literal kids = Unit {0}
Fits Label.false_literal kids = Unit {0}
Fits Label.array kids = Unit {0}
Fits Label.object kids = DistinctNames kids
Fits (Label.number t) kids = NumberFits t
Fits (Label.string t) kids = Unit {0}

-- and so at every depth
pub data Everywhere : Members → Type 0 where
  none_left : Everywhere none
  one_more : {e : Value.Entry} {kids rest : Members} → Fits e.label kids → Everywhere kids → Everywhere rest → Everywhere (tree e kids rest)

pub record WithinLimits (v : Value.Value) : Type 0 where
  pub shallow : depth v ≤ max_depth
  pub few : nodes v ≤ max_nodes
  pub fits : Fits v.label v.kids
  pub below : Everywhere v.kids
