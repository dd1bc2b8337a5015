-- Laws of the definition's comparison: one value after another, and the place of a name.
use Rattle.std.specs.Prelude.{if◌then◌else◌}
use Rattle.std.proofs.Common.{◌≡◌, ℕ, zero, suc, ◌+◌, ◌%◌, ◌<◌, Bool, true, false, eqb, sym, refl, ap, ◌∙◌, subst, ap₂, add-zero, zero-add, arith}
use native.Mathlib.Nat.{mod-add-mod, add-mod-mod}
use Rattle.spec.specs.Bytes.{Text}
use Rattle.spec.specs.Forest.{none, tree, count, from}
use Rattle.spec.specs.Value.{Entry, Members, find, same_text, is_object}
use Rattle.spec.specs.Equality.{same_label}
use Rattle.spec.proofs.MatchLaws.{partner}
use Rattle.spec.proofs.TextLaws.{same_text_refl}
use Rattle.spec.specs.Distinct.{NoRepeats, empty, member}
use Rattle.spec.proofs.TextLaws.{same_text-apart}
use Rattle.spec.proofs.NameLaws.{found, found_absent}
use Rattle.comparison.specs.Comparison.{Compared, after, ◌then◌, lookups, compared}
use Rattle.comparison.proofs.ItemLaws.{searched, compared_items, then_assoc, compared_is}
use Rattle.equality.proofs.MatchLaws.{value_of, partner_there}

-- ---- verdicts one after another
module _ (n : ℕ) where
  pub then_on : (a : Compared) → (after n true then a) ≡ after (n + a.names) a.same
  unfolding ◌then◌
  then_on a = refl

  then_off : (a : Compared) → (after n false then a) ≡ after n false
  unfolding ◌then◌
  then_off a = refl

-- a difference ends it; otherwise the counts add up
pub then_differs : (a b : Compared) → a.same ≡ false → (a then b) ≡ a
unfolding ◌then◌
then_differs a b e = rw e

pub then_further : (n : ℕ) (a b : Compared) → a.same ≡ true → (after n true then (a then b)) ≡ (after (n + a.names) true then b)
then_further n a b e =
    sym (then_assoc (after n true) a b) ∙ ap (λ c. c then b) (then_on n a ∙ ap (λ s. after (n + a.names) s) e)

-- a label that differs ends it, whatever was compared before
then_label : (n : ℕ) (l : Bool) (a : Compared) → (after n l then a) ≡ (after n true then (after 0 l then a))
then_label n true a =
    then_on n a ∙ ap (λ k. after (n + k) a.same) (sym (zero-add a.names)) ∙ sym (ap (λ b. after n true then b) (then_on 0 a) ∙ then_on n _)
then_label n false a =
    then_off n a ∙ ap (λ k. after k false) (sym (add-zero n)) ∙ sym (ap (λ b. after n true then b) (then_off 0 a) ∙ then_on n _)

-- ---- one value against its partner, then the others
module _ (e : Entry) (kids f : Members) where
  pub compared_pair : (o : Bool) (g : Members) (p : Entry) (below behind : Members) → partner o e.name g ≡ tree p below behind
      → compared_items o (tree e kids f) g
      ≡ (after (searched o e.name g) true then (compared (value_of e kids) (value_of p below) then compared_items o f (if o then g else behind)))
  unfolding compared_items
  compared_pair o g p below behind h =
      let label = same_label e.label p.label in
      let counts = after 0 (eqb (count kids) (count below)) in
      let inner = compared_items (is_object e.label) kids below in
      let later = compared_items o f (if o then g else behind) in
      rw (h, compared_items, compared_is)
      (then_label (searched o e.name g) label (counts then (inner then later))
      ∙ ap (λ a. after (searched o e.name g) true then a)
      (ap (λ a. after 0 label then a) (sym (then_assoc counts inner later)) ∙ sym (then_assoc (after 0 label) (counts then inner) later)))

  pub compared_alone : (o : Bool) (g : Members) → partner o e.name g ≡ none → compared_items o (tree e kids f) g ≡ after (searched o e.name g) false
  unfolding compared_items
  compared_alone o g h = rw (h, compared_items)

-- ---- the names that are compared until one matches
pub lookups-find : (n : Text) (g : Members) (k : ℕ) → find n g ≡ k → k < count g → lookups n g ≡ suc k
unfolding lookups find count
lookups-find n none k e few = absurd (omega arith)
lookups-find n (tree d kids rest) k e few = go (same_text d.name n) e (lookups-find n rest)
  where
    go : (t : Bool) → (if t then 0 else suc (find n rest)) ≡ k → ((j : ℕ) → find n rest ≡ j → j < count rest → lookups n rest ≡ suc j)
        → (if t then 1 else 1 + lookups n rest) ≡ suc k
    go true p ih = ap suc p
    go false p ih = let there = ih (find n rest) refl (omega arith) in omega arith

pub lookups_missing : (n : Text) (g : Members) → find n g ≡ count g → lookups n g ≡ count g
unfolding lookups find count
lookups_missing n none e = refl
lookups_missing n (tree d kids rest) e = go (same_text d.name n) e (lookups_missing n rest)
  where
    go : (t : Bool) → (if t then 0 else suc (find n rest)) ≡ suc (count rest) → (find n rest ≡ count rest → lookups n rest ≡ count rest)
        → (if t then 1 else 1 + lookups n rest) ≡ suc (count rest)
    go true p ih = absurd (omega arith)
    go false p ih = let there = ih (omega arith) in omega arith

pub lookups_there : {e : Entry} {kids rest g : Members} (k : ℕ) → NoRepeats true g → from k g ≡ tree e kids rest → lookups e.name g ≡ suc k
unfolding from lookups
lookups_there {e} zero r h = subst (λ g. lookups e.name g ≡ 1) (sym h) (rw (same_text_refl e.name))
lookups_there (suc k) empty h = absurd (let z : ◌≡◌ {A = ℕ} 0 1 = cc in omega arith)
lookups_there {e} {kids} {rest} (suc k) (member {e = d} {rest = g} a i r) h =
    let there = lookups_there k r h in
    let apart : d.name ≡ e.name → ⊥ = λ same. found_absent (found e.name g e kids rest (partner_there k r h)) (rw same at a) in
    rw (same_text-apart d.name e.name apart) (omega arith)

-- ---- sums that wrap
module _ (M n : ℕ) {names : ℕ} (is : names ≡ n % M) where
  pub sum_on : {r : ℕ} (x : ℕ) → r ≡ (names + x) % M → r ≡ (n + x) % M
  sum_on x e = e ∙ ap (λ k. (k + x) % M) is ∙ mod-add-mod n M x

  pub sum_wrapped : {r y : ℕ} (x : ℕ) → y ≡ x % M → r ≡ (names + y) % M → r ≡ (n + x) % M
  sum_wrapped {y = y} x same e = e ∙ ap₂ (λ k m. (k + m) % M) is same ∙ mod-add-mod n M (x % M) ∙ add-mod-mod n x M
