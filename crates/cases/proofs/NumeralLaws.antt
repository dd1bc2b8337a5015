-- What digits say, digit by digit.
use Rattle.std.proofs.Common.{ℕ, ◌+◌, ◌-◌, ◌*◌, ◌≤◌, ◌<◌, ◌≡◌, refl, Bool, true, false, sym, ◌∙◌, List, [], ◌∷◌, length, drop, get_or, inl, inr, arith}
use Rattle.std.specs.Prelude.{◌⊎◌, ◌==◌, Some, None}
use Rattle.std.specs.Char.{is_ascii_digit}
use Rattle.std.proofs.lemmas.List.{drop_more}
use borrow.Author.Tests.{le-leb, lt-leb}
use lib.ListN.{drop_of_length-le}
use Rattle.cases.specs.Numerals.{worth_from, worth}

-- no digit, and some
pub worth_none : {r : Bool} (ds : List ℕ) → r ≡ (length ds == 0) → r ≡ true → worth ds ≡ None
unfolding worth
worth_none [] h e = refl
worth_none (d ∷ ds) h e = grind arith

pub worth_some : {r : Bool} (ds : List ℕ) → r ≡ (length ds == 0) → r ≡ false → worth_from 0 ds ≡ worth ds
unfolding worth
worth_some [] h e = grind arith
worth_some (d ∷ ds) h e = refl

module _ (ds : List ℕ) (n i : ℕ) {r : Bool} (inside : i < length ds) (h : r ≡ is_ascii_digit (get_or ds i 0)) where
  pub worth_next : r ≡ true → n ≤ 99_999_999 → worth_from n (drop i ds) ≡ worth_from (n * 10 + (get_or ds i 0 - 48)) (drop (i + 1) ds)
  unfolding worth_from
  worth_next e few = rw (drop_more ds i 0 inside, sym h ∙ e, le-leb _ _ few)

  pub worth_not : (r ≡ false) ⊎ ((r ≡ true) × (99_999_999 < n)) → worth_from n (drop i ds) ≡ None
  unfolding worth_from
  worth_not (inl e) = rw (drop_more ds i 0 inside, sym h ∙ e)
  worth_not (inr e) = rw (drop_more ds i 0 inside, sym h ∙ e.0, lt-leb _ _ e.1)

pub worth_all : (ds : List ℕ) (n i : ℕ) → length ds ≤ i → worth_from n (drop i ds) ≡ Some n
unfolding worth_from
worth_all ds n i h = rw (drop_of_length-le ds h)
