-- What the definitions come to. proofs/ClaimTheorems proves each.
use Rattle.std.specs.Prelude.{ℕ, ◌+◌, ◌*◌, ◌≤◌, ◌≡◌, true, false, List, [], ◌∷◌, ◌++◌, length}
use Rattle.spec.specs.Outcome.{ok}
use Rattle.spec.specs.Refusal.{done}
use Rattle.spec.specs.Limits.{max_bytes, max_operations}
use Rattle.spec.specs.Bytes.{Bytes, ascii}
use Rattle.spec.specs.Value as Value
use Rattle.spec.specs.Read.{read}
use Rattle.spec.specs.Operation as Operation
use Rattle.spec.specs.Patch.{finished, shape}
use Rattle.spec.specs.Answer as Answer
use Rattle.spec.specs.Answer.{Lent, work_suffices, answer}
use Rattle.inspection.specs.Inspection.{no_counts, total, counts_of, inspection}
use Rattle.inspection.specs.Tally.{Result, File, results, is_refused, counts_in, tally, Field, field, line}

-- ---- one patch

-- SPECIFICATION 14.1: on an accepted document, and with a work area that suffices, the plain call refuses a patch that is refused here, with the same
-- number, text, op and place.
abbrev pub RefusedAlike : Type 0
RefusedAlike =
    (D P : Bytes) (lent : Lent) (v : Value.Value) → work_suffices lent ≡ true → length D ≤ max_bytes → read D ≡ ok v
    → ((inspection P).number ≡ done → ⊥)
    → answer D P lent ≡ Answer.refusal (inspection P).number (inspection P).text (inspection P).op (inspection P).place

-- A patch that is accepted here is well formed, and its operations are what is counted.
pub record WellFormed (P : Bytes) : Type 0 where
  pub short : length P ≤ max_bytes
  pub patch : Value.Value
  pub reads : read P ≡ ok patch
  pub operations : List Operation.Operation
  pub shaped : shape patch ≡ finished operations
  pub counts : (inspection P).counts ≡ counts_of operations
  pub all : total (inspection P).counts ≡ length operations

abbrev pub AcceptedWhole : Type 0
AcceptedWhole = (P : Bytes) → (inspection P).number ≡ done → WellFormed P

-- No patch has more operations than SPECIFICATION 1.3 allows, and a refused one adds none.
abbrev pub FewCounted : Type 0
FewCounted = (P : Bytes) → total (inspection P).counts ≤ max_operations

abbrev pub NoneRefused : Type 0
NoneRefused = (P : Bytes) → ((inspection P).number ≡ done → ⊥) → (inspection P).counts ≡ no_counts

-- ---- the line of a list

-- one list is the other in another order
pub data Permuted : List Result → List Result → Type 0 where
  empty : Permuted [] []
  same : {r : Result} {rs qs : List Result} → Permuted rs qs → Permuted (r ∷ rs) (r ∷ qs)
  swap : {q r : Result} {rs : List Result} → Permuted (q ∷ r ∷ rs) (r ∷ q ∷ rs)
  more : {rs qs ps : List Result} → Permuted rs qs → Permuted qs ps → Permuted rs ps

-- T-12: "The same files in another order give the same line"
abbrev pub SameLine : Type 0
SameLine = (rs qs : List Result) → Permuted rs qs → line rs ≡ line qs

-- the sums field by field: the words are the same
pub data Sums : List Field → List Field → List Field → Type 0 where
  none : Sums [] [] []
  more : {word : Bytes} {m n : ℕ} {fs gs hs : List Field} → Sums fs gs hs → Sums (field word m ∷ fs) (field word n ∷ gs) (field word (m + n) ∷ hs)

-- "and two lists of names joined, within that limit, give the sums field by field": they do without a limit
abbrev pub JoinedSums : Type 0
JoinedSums = (rs qs : List Result) → Sums (line rs) (line qs) (line (rs ++ qs))

-- how many of the list are refused or unreadable
pub data Refused : List Result → ℕ → Type 0 where
  none : Refused [] 0
  refused : {r : Result} {rs : List Result} {n : ℕ} → is_refused r ≡ true → Refused rs n → Refused (r ∷ rs) (1 + n)
  accepted : {r : Result} {rs : List Result} {n : ℕ} → is_refused r ≡ false → Refused rs n → Refused (r ∷ rs) n

-- the line by its ten numbers
pub record LineOf (rs : List Result) : Type 0 where
  pub P : ℕ
  pub R : ℕ
  pub A : ℕ
  pub B : ℕ
  pub C : ℕ
  pub D : ℕ
  pub E : ℕ
  pub F : ℕ
  pub N : ℕ
  pub Q : ℕ
  pub is :
      line rs ≡
      field (ascii "patches") P ∷ field (ascii "refused") R ∷ field (ascii "add") A ∷ field (ascii "remove") B ∷ field (ascii "replace") C
      ∷ field (ascii "move") D ∷ field (ascii "copy") E ∷ field (ascii "test") F ∷ field (ascii "ops") N ∷ field (ascii "over") Q ∷ []
  -- "P counts all files, R the refused or unreadable"
  pub patches : P ≡ length rs
  pub refused : Refused rs R
  -- "N is the sum of the six"
  pub ops : N ≡ A + B + C + D + E + F
  -- "Q is P less R"
  pub over : Q + R ≡ P

abbrev pub EveryLine : Type 0
EveryLine = (rs : List Result) → LineOf rs

-- "Refused patches add nothing to the six.": they could be left out
abbrev pub NothingAdded : Type 0
NothingAdded = (rs qs : List Result) (r : Result) → is_refused r ≡ true → (tally (rs ++ r ∷ qs)).counts ≡ (tally (rs ++ qs)).counts

-- an accepted one adds its own
abbrev pub CountsAdded : Type 0
CountsAdded =
    (rs qs : List Result) (r : Result) → is_refused r ≡ false
    → total (tally (rs ++ r ∷ qs)).counts ≡ total (counts_in r) + total (tally (rs ++ qs)).counts

-- The six together are at most 256 for each file: with 1,000,000 files no count comes near the greatest number of 64 bits.
abbrev pub FewTallied : Type 0
FewTallied = (files : List File) → total (tally (results files)).counts ≤ max_operations * length files

-- all of it
pub record CountStatement : Type 0 where
  pub refused_alike : RefusedAlike
  pub accepted_whole : AcceptedWhole
  pub few_counted : FewCounted
  pub none_refused : NoneRefused
  pub same_line : SameLine
  pub joined_sums : JoinedSums
  pub every-line : EveryLine
  pub nothing_added : NothingAdded
  pub counts_added : CountsAdded
  pub few_tallied : FewTallied
