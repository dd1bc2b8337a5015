-- Laws of the sums.
use Prim.Native.Nat.{ℕ, ◌+◌, ◌*◌, ◌≤◌, ◌<◌}
use native.Mathlib.Omega.{arith}
use mathlib.Core.Path.{◌≡◌, refl, sym, ap, ◌∙◌}
use mathlib.Core.Bool.{true, false}
use mathlib.Core.List.{List, [], ◌∷◌}
use lib.ListN.{length}
use borrow.Author.Tests.{eq-eqb, ne_eqb}
use Rattle.spec.specs.Limits.{max_operations, work_nodes, work_entries}
use Rattle.spec.specs.Bytes.{Bytes}
use Rattle.reader.specs.Work.{Work}
use Rattle.json_patch.proofs.AnswerLaws.{work_suffices_lem}
use Rattle.inspect.specs.Counts.{counts_in}
use Rattle.inspect.specs.Call.{told, InspectIs}
use Rattle.inspect.specs.declared.answer.Answer.{Answer}
use Rattle.inspection.specs.Inspection.{Counts, no_counts, plus, total, inspection, inspection_in}
use Rattle.inspection.specs.Tally as Spec
use Rattle.inspection.specs.Tally.{inspected, unreadable, File, unread, holding, result_of, results, is_refused, counts_in as countsOfResult}
use Rattle.inspection.specs.Tally.{no_tally, both, one, tally, max_names}
use Rattle.inspection.proofs.TallyLaws.{plus_comm, plus_none, both_comm, one_refused, one-accepted}
use Rattle.inspection.proofs.ClaimTheorems.{all_refused, refused_few, few_tallied}
use Rattle.inspection.proofs.InspectionLaws.{few_counted}
use Rattle.patch_count.specs.Sums.{tally_in, Sums, Room, Adds, Visits}
use Rattle.patch_count.specs.declared.tally.Tally.{Tally}

-- ---- one more
module _ (p r : ℕ) (c : Counts) where
  pub refused_adds : ◌≡◌ {A = Spec.Tally} (record { patches = p + 1; refused = r + 1; counts = c })
      (both (record { patches = p; refused = r; counts = c }) (record { patches = 1; refused = 1; counts = no_counts }))
  unfolding both
  refused_adds = ap (λ d. record { patches = p + 1; refused = r + 1; counts = d }) (sym (plus_comm c no_counts no_counts ∙ plus_none c))

  pub accepted_adds : (d e : Counts) → d ≡ plus c e → ◌≡◌ {A = Spec.Tally} (record { patches = p + 1; refused = r; counts = d })
      (both (record { patches = p; refused = r; counts = c }) (record { patches = 1; refused = 0; counts = e }))
  unfolding both
  accepted_adds d e h = let plain : r ≡ r + 0 = omega arith in λ i. record { patches = p + 1; refused = plain i; counts = h i }

module _ (t : Tally) {r : Tally} (answer : Answer) where
  pub adds_refused : (answer.number ≡ 0 → ⊥) → Adds (record { patches = 1; refused = 1; counts = no_counts }) t r
      → Adds (one (inspected (told answer))) t r
  unfolding is_refused
  adds_refused some adds =
      let e : is_refused (inspected (told answer)) ≡ true = rw (ne_eqb answer.number 0 some) in
      adds ∙ ap (both (tally_in t)) (sym (one_refused (inspected (told answer)) e))

  pub adds_accepted : answer.number ≡ 0 → Adds (record { patches = 1; refused = 0; counts = counts_in answer.counts }) t r
      → Adds (one (inspected (told answer))) t r
  unfolding is_refused countsOfResult
  adds_accepted zero adds =
      let e : is_refused (inspected (told answer)) ≡ false = rw (eq-eqb answer.number 0 zero) in
      adds ∙ ap (both (tally_in t)) (sym (one-accepted (inspected (told answer)) e))

-- ---- a file
pub unread_visits : {t r : Tally} → Adds (record { patches = 1; refused = 1; counts = no_counts }) t r → Visits t r
unfolding result_of is_refused
unread_visits {t} adds = record { file = unread; adds = adds ∙ ap (both (tally_in t)) (sym (one_refused unreadable refl)) }

module _ {s : Bytes} {w w' : Work} {answer : Answer} (is : InspectIs s w w' answer) (nodes : work_nodes ≤ length w.nodes)
    (index : work_entries ≤ length w.index) where
  told_is : told answer ≡ inspection s
  unfolding inspection_in
  told_is = is.inspected ∙ rw (work_suffices_lem (record { output = 0; nodes = length w.nodes; index = length w.index }) nodes index)

  pub text_few : total (counts_in answer.counts) ≤ max_operations
  text_few = omega (arith, ap (λ i. total i.counts) told_is, few_counted s)

  pub text_adds : (t : Tally) {r : Tally} → Adds (one (inspected (told answer))) t r → Adds (one (result_of (holding s))) t r
  unfolding result_of
  text_adds t adds = adds ∙ ap (λ i. both (tally_in t) (one (inspected i))) told_is

-- ---- all of them
results-length : (files : List File) → length (results files) ≡ length files
unfolding results
results-length [] = refl
results-length (f ∷ fs) = omega (arith, results-length fs)

pub sums_none : {t : Tally} → tally_in t ≡ no_tally → Sums t
unfolding tally results
sums_none e = record { files = []; is = e; few = omega arith }

module _ {t : Tally} (s : Sums t) where
  sums_patches : t.patches ≡ length s.files
  sums_patches = ap (λ u. u.patches) s.is ∙ (all_refused (results s.files)).1 ∙ results-length s.files

  pub sums_refused : t.refused ≤ t.patches
  sums_refused = omega (arith, ap (λ u. u.refused) s.is, ap (λ u. u.patches) s.is, refused_few (results s.files))

  pub sums_patches_few : t.patches ≤ max_names
  sums_patches_few = omega (arith, sums_patches, s.few)

  pub sums_few : total (counts_in t.counts) ≤ max_operations * max_names
  sums_few = omega (arith, ap (λ u. total u.counts) s.is, few_tallied s.files, s.few)

  module _ (more : t.patches < max_names) where
    pub sums_room : Room t
    sums_room = record { patches = more; refused = sums_refused; few = sums_few }

    pub sums_more : {r : Tally} → Visits t r → Sums r
    unfolding tally results
    sums_more v =
        record {
          files = v.file ∷ s.files;
          is = v.adds ∙ ap (λ u. both u (one (result_of v.file))) s.is ∙ both_comm (tally (results s.files)) (one (result_of v.file)) no_tally;
          few = omega (arith, sums_patches);
        }
