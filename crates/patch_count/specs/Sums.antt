-- What the program's tally stands for: the sums over the files that were visited.
use Rattle.std.specs.Prelude.{ℕ, ◌*◌, ◌≤◌, ◌<◌, ◌≡◌, List, length, take, Result, IfOk}
use Rattle.spec.specs.Limits.{max_operations}
use Rattle.spec.specs.Bytes.{Bytes}
use Rattle.streams.specs.Counts as Io
use Rattle.inspect.specs.Counts.{counts_in}
use Rattle.inspection.specs.Inspection.{total}
use Rattle.inspection.specs.Tally as Spec
use Rattle.inspection.specs.Tally.{File, result_of, results, both, one, tally, max_names}
use Rattle.patch_count.specs.Line.{printed}
use Rattle.patch_count.specs.declared.tally.Tally.{Tally}
use Rattle.patch_count.specs.declared.names.State.{State}
use Rattle.patch_count.specs.declared.names.TooMany.{TooMany}

abbrev pub tally_in : Tally → Spec.Tally
tally_in t = record { patches = t.patches; refused = t.refused; counts = counts_in t.counts }

-- the sums over some list of files, of no more names than may be given
pub record Sums (t : Tally) : Type 0 where
  pub files : List File
  pub is : tally_in t ≡ tally (results files)
  pub few : length files ≤ max_names

-- there is room for one name more, so that no count wraps
pub record Room (t : Tally) : Type 0 where
  pub patches : t.patches < max_names
  pub refused : t.refused ≤ t.patches
  pub few : total (counts_in t.counts) ≤ max_operations * max_names

-- a tally and one more
abbrev pub Adds : Spec.Tally → Tally → Tally → Type 0
Adds more t r = tally_in r ≡ both (tally_in t) more

-- one more file: no contract of the system's calls says what it is
pub record Visits (t r : Tally) : Type 0 where
  pub file : File
  pub adds : Adds (one (result_of file)) t r

-- all names so far; where there are more than may be given nothing is said
abbrev pub FedIs : Result State TooMany → Type 0
FedIs r = IfOk r (λ s. Sums s.tally)

-- the line of the files that were visited is laid down, whole
pub record LineIs (t : Tally) (line : Bytes) (r : ℕ) : Type 0 where
  pub counts : Io.IsPrefixLen r line
  pub is : (files : List File) → tally_in t ≡ tally (results files) → length files ≤ max_names → take r line ≡ printed files
