-- The claims on the line of a list, and all of them together.
use Prim.Native.Nat.{ℕ, ◌+◌, ◌-◌, ◌≤◌}
use native.Mathlib.Omega.{arith}
use mathlib.Core.Path.{◌≡◌, refl, sym, ap, subst, ◌∙◌}
use mathlib.Core.Bool.{Bool, true, false}
use mathlib.Core.List.{List, [], ◌∷◌, ◌++◌}
use lib.ListN.{length}
use Rattle.spec.specs.Limits.{max_operations}
use Rattle.inspection.specs.Inspection.{plus, total, inspection}
use Rattle.inspection.specs.Tally.{Result, unreadable, inspected, File, unread, holding, result_of, results}
use Rattle.inspection.specs.Tally.{is_refused, counts_in, Tally, both, one, tally, fields_of, line}
use Rattle.inspection.specs.Claims as Claims
use Rattle.inspection.specs.Claims.{Permuted, empty, same, swap, SameLine, Sums, JoinedSums}
use Rattle.inspection.specs.Claims.{Refused, LineOf, EveryLine, NothingAdded, CountsAdded, FewTallied, CountStatement}
use Rattle.inspection.proofs.TallyLaws.{plus_none, none_total, total-plus, both_comm, both_assoc, tally-append, one_refused, one-accepted}
use Rattle.inspection.proofs.InspectionLaws.{refused_alike, accepted_whole, few_counted, none_refused}

-- ---- another order
swapped : (t u w : Tally) → both t (both u w) ≡ both u (both t w)
swapped t u w = sym (both_assoc t u w) ∙ ap (λ b. both b w) (both_comm t u w) ∙ both_assoc u t w

tally_permuted : {rs qs : List Result} → Permuted rs qs → tally rs ≡ tally qs
unfolding tally
tally_permuted empty = refl
tally_permuted (same {r} p) = ap (both (one r)) (tally_permuted p)
tally_permuted (swap {q} {r} {rs}) = swapped (one q) (one r) (tally rs)
tally_permuted (Claims.Permuted.more p q) = tally_permuted p ∙ tally_permuted q

same_line : SameLine
unfolding line
same_line rs qs p = ap fields_of (tally_permuted p)

-- ---- the refused are some of all
pub all_refused : (rs : List Result) → (Refused rs (tally rs).refused × ((tally rs).patches ≡ length rs))
unfolding tally both
all_refused [] = (Refused.none, refl)
all_refused (r ∷ rs) = go (is_refused r) refl (all_refused rs)
  where
    go : (b : Bool) → is_refused r ≡ b → (Refused rs (tally rs).refused × ((tally rs).patches ≡ length rs))
        → (Refused (r ∷ rs) (tally (r ∷ rs)).refused × ((tally (r ∷ rs)).patches ≡ length (r ∷ rs)))
    go true e (n, p) = rw (one_refused r e) (Refused.refused e n, omega (arith, p))
    go false e (n, p) =
        let plain : (tally rs).refused ≡ 0 + (tally rs).refused = omega arith in
        rw (one-accepted r e) (subst (Refused (r ∷ rs)) plain (Refused.accepted e n), omega (arith, p))

refused_some : {rs : List Result} {n : ℕ} → Refused rs n → n ≤ length rs
refused_some Refused.none = omega arith
refused_some (Refused.refused e h) = omega (arith, refused_some h)
refused_some (Refused.accepted e h) = omega (arith, refused_some h)

pub refused_few : (rs : List Result) → (tally rs).refused ≤ (tally rs).patches
refused_few rs = let (n, p) = all_refused rs in omega (arith, refused_some n, p)

-- ---- two lists joined
fields_sum : (t u : Tally) → t.refused ≤ t.patches → u.refused ≤ u.patches → Sums (fields_of t) (fields_of u) (fields_of (both t u))
unfolding fields_of both plus
fields_sum t u h k =
    let ops : total (plus t.counts u.counts) ≡ total t.counts + total u.counts = total-plus t.counts u.counts in
    let over : (t.patches + u.patches) - (t.refused + u.refused) ≡ (t.patches - t.refused) + (u.patches - u.refused) = omega arith in
    rw (ops, over)
    (Sums.more (Sums.more (Sums.more (Sums.more (Sums.more (Sums.more (Sums.more (Sums.more (Sums.more (Sums.more Sums.none))))))))))

joined_sums : JoinedSums
unfolding line
joined_sums rs qs =
    subst (λ t. Sums (fields_of (tally rs)) (fields_of (tally qs)) (fields_of t)) (sym (tally-append rs qs))
    (fields_sum (tally rs) (tally qs) (refused_few rs) (refused_few qs))

-- ---- the line by its numbers
every-line : EveryLine
unfolding line fields_of total
every-line rs =
    let t = tally rs in
    let (some, all) = all_refused rs in
    record {
      P = t.patches;
      R = t.refused;
      A = t.counts.add;
      B = t.counts.remove;
      C = t.counts.replace;
      D = t.counts.move;
      E = t.counts.copy;
      F = t.counts.test;
      N = total t.counts;
      Q = t.patches - t.refused;
      is = refl;
      patches = all;
      refused = some;
      ops = refl;
      over = omega (arith, refused_few rs);
    }

-- ---- one result among others
module _ (rs qs : List Result) (r : Result) where
  among : (tally (rs ++ r ∷ qs)).counts ≡ plus (one r).counts (tally (rs ++ qs)).counts
  unfolding tally both
  among =
      ap (λ t. t.counts) (tally-append rs (r ∷ qs) ∙ swapped (tally rs) (one r) (tally qs))
      ∙ ap (λ t. plus (one r).counts t.counts) (sym (tally-append rs qs))

nothing_added : NothingAdded
nothing_added rs qs r e =
    among rs qs r ∙ ap (λ t. plus t.counts (tally (rs ++ qs)).counts) (one_refused r e) ∙ plus_none (tally (rs ++ qs)).counts

counts_added : CountsAdded
counts_added rs qs r e =
    ap total (among rs qs r ∙ ap (λ t. plus t.counts (tally (rs ++ qs)).counts) (one-accepted r e))
    ∙ total-plus (counts_in r) (tally (rs ++ qs)).counts

-- ---- no file adds more than 256
one_few : (f : File) → total (one (result_of f)).counts ≤ max_operations
unfolding result_of is_refused counts_in
one_few unread = rw (one_refused unreadable refl) (omega (arith, none_total))
one_few (holding s) = go (is_refused (inspected (inspection s))) refl
  where
    go : (b : Bool) → is_refused (inspected (inspection s)) ≡ b → total (one (inspected (inspection s))).counts ≤ max_operations
    go true e = rw (one_refused (inspected (inspection s)) e) (omega (arith, none_total))
    go false e = rw (one-accepted (inspected (inspection s)) e) (few_counted s)

pub few_tallied : FewTallied
unfolding results tally both
few_tallied [] = omega (arith, none_total)
few_tallied (f ∷ fs) =
    let here = one_few f in
    let rest = few_tallied fs in
    rw (total-plus (one (result_of f)).counts (tally (results fs)).counts) (omega arith)

pub counted : CountStatement
counted =
    record {
      refused_alike = refused_alike;
      accepted_whole = accepted_whole;
      few_counted = few_counted;
      none_refused = none_refused;
      same_line = same_line;
      joined_sums = joined_sums;
      every-line = every-line;
      nothing_added = nothing_added;
      counts_added = counts_added;
      few_tallied = few_tallied;
    }
