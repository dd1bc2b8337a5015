-- Laws of the counts, and of the sums over a list.
use Prim.Native.Nat.{◌+◌}
use native.Mathlib.Omega.{arith}
use mathlib.Core.Path.{◌≡◌, refl, sym, ap, ◌∙◌}
use mathlib.Core.Bool.{Bool, true, false}
use mathlib.Core.List.{List, [], ◌∷◌, ◌++◌}
use Rattle.inspection.specs.Inspection.{Counts, no_counts, plus, total}
use Rattle.inspection.specs.Tally.{Result, is_refused, counts_in, Tally, no_tally, both, one, tally}

-- ---- counts
-- equal one by one
pub counts_equal : {c d : Counts} → c.add ≡ d.add → c.remove ≡ d.remove → c.replace ≡ d.replace → c.move ≡ d.move → c.copy ≡ d.copy
    → c.test ≡ d.test → c ≡ d
counts_equal a b c d e f = λ i. record { add = a i; remove = b i; replace = c i; move = d i; copy = e i; test = f i }

module _ (c d e : Counts) where
  pub plus_comm : plus c d ≡ plus d c
  unfolding plus
  plus_comm = counts_equal (omega arith) (omega arith) (omega arith) (omega arith) (omega arith) (omega arith)

  pub plus_assoc : plus (plus c d) e ≡ plus c (plus d e)
  unfolding plus
  plus_assoc = counts_equal (omega arith) (omega arith) (omega arith) (omega arith) (omega arith) (omega arith)

module _ (c : Counts) where
  pub plus_none : plus no_counts c ≡ c
  unfolding plus
  plus_none = counts_equal (omega arith) (omega arith) (omega arith) (omega arith) (omega arith) (omega arith)

pub none_total : total no_counts ≡ 0
unfolding total
none_total = refl

pub total-plus : (c d : Counts) → total (plus c d) ≡ total c + total d
unfolding plus total
total-plus c d = omega arith

-- ---- tallies
tallies_equal : {t u : Tally} → t.patches ≡ u.patches → t.refused ≡ u.refused → t.counts ≡ u.counts → t ≡ u
tallies_equal p r c = λ i. record { patches = p i; refused = r i; counts = c i }

module _ (t u w : Tally) where
  pub both_comm : both t u ≡ both u t
  unfolding both
  both_comm = tallies_equal (omega arith) (omega arith) (plus_comm t.counts u.counts no_counts)

  pub both_assoc : both (both t u) w ≡ both t (both u w)
  unfolding both
  both_assoc = tallies_equal (omega arith) (omega arith) (plus_assoc t.counts u.counts w.counts)

pub both_none : (t : Tally) → both no_tally t ≡ t
unfolding both
both_none t = tallies_equal (omega arith) (omega arith) (plus_none t.counts)

-- ---- lists joined
pub tally-append : (rs qs : List Result) → tally (rs ++ qs) ≡ both (tally rs) (tally qs)
unfolding tally
tally-append [] qs = sym (both_none (tally qs))
tally-append (r ∷ rs) qs = ap (both (one r)) (tally-append rs qs) ∙ sym (both_assoc (one r) (tally rs) (tally qs))

-- ---- one result
module _ (r : Result) where
  pub one-patches : (one r).patches ≡ 1
  unfolding one
  one-patches = go (is_refused r) refl
    where
      go : (b : Bool) → is_refused r ≡ b → (one r).patches ≡ 1
      go true e = rw e
      go false e = rw e

  pub one_refused : is_refused r ≡ true → one r ≡ record { patches = 1; refused = 1; counts = no_counts }
  unfolding one
  one_refused e = rw e

  pub one-accepted : is_refused r ≡ false → one r ≡ record { patches = 1; refused = 0; counts = counts_in r }
  unfolding one
  one-accepted e = rw e
