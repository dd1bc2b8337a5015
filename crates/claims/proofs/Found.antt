-- Members by their names: which member a name finds, before and after another is put in.
use mathlib.Core.Path.{◌≡◌, refl, ap, sym}
use mathlib.Core.Bool.{true, false}
use Prim.Native.Nat.{suc}
use Rattle.spec.specs.Bytes.{Text}
use Rattle.spec.specs.Forest.{Forest, count}
use Rattle.spec.specs.Value.{Entry, Members, is_object, has}
use Rattle.spec.specs.Distinct.{NoRepeats, member}
use Rattle.spec.proofs.NameLaws.{absent_cons, absent_parts, Found, first, later, found_absent}
use Rattle.claims.proofs.Alike.{Inserted, here, there}

pub inserted_absent : {e : Entry} {kids f g : Members} (n : Text) → Inserted e kids f g → has n g ≡ false → (e.name ≡ n → ⊥) × (has n f ≡ false)
inserted_absent n here h = absent_parts n _ _ _ h
inserted_absent n (there {b} {below} {f} i) h =
    let p = absent_parts n _ _ _ h in
    let q = inserted_absent n i p.1 in
    (q.0, absent_cons n b below f p.0 q.1)

pub inserted_repeats : {e : Entry} {kids f g : Members} → Inserted e kids f g → NoRepeats true g →
    NoRepeats true f × NoRepeats (is_object e.label) kids × (has e.name f ≡ false)
inserted_repeats here (member a k r) = (r, k, a)
inserted_repeats (there {b} {below} {f} i) (member a k r) =
    let q = inserted_repeats i r in
    let p = inserted_absent b.name i a in
    (member p.1 k q.0, q.1, absent_cons _ b below f (λ h. p.0 (sym h)) q.2)

pub absent_inserted : {e : Entry} {kids f g : Members} (n : Text) → Inserted e kids f g → (e.name ≡ n → ⊥) → has n f ≡ false → has n g ≡ false
absent_inserted n here apart h = absent_cons n _ _ _ apart h
absent_inserted n (there {b} {below} i) apart h =
    let p = absent_parts n _ _ _ h in
    absent_cons n b below _ p.0 (absent_inserted n i apart p.1)

pub repeats_inserted : {e : Entry} {kids f g : Members} → Inserted e kids f g → has e.name f ≡ false → NoRepeats (is_object e.label) kids →
    NoRepeats true f → NoRepeats true g
repeats_inserted here absent inside r = member absent inside r
repeats_inserted (there {b} {below} {f} i) absent inside (member a k r) =
    let p = absent_parts _ b below f absent in
    member (absent_inserted b.name i (λ h. p.0 (sym h)) a) k (repeats_inserted i p.1 inside r)

-- the member that is found is found without another one too
pub found_out : {n : Text} {q e : Entry} {kids below f g : Members} → (e.name ≡ n → ⊥) → Inserted e kids f g → Found n q below g → Found n q below f
found_out apart here (first h) = absurd (apart h)
found_out apart here (later a h) = h
found_out apart (there i) (first h) = first h
found_out apart (there i) (later a h) = later a (found_out apart i h)

-- and with another one, where no name is repeated
pub found_in : {n : Text} {q e : Entry} {kids below f g : Members} → Inserted e kids f g → NoRepeats true g → Found n q below f → Found n q below g
found_in {n} {e = e} here (member a k r) h = later (λ (p : e.name ≡ n). found_absent h (rw p at a)) h
found_in (there i) r (first h) = first h
found_in (there i) (member a k r) (later o h) = later o (found_in i r h)

pub inserted_found : {e : Entry} {kids f g : Members} → Inserted e kids f g → NoRepeats true g → Found e.name e kids g
inserted_found here r = first refl
inserted_found (there i) (member a k r) = later (λ p. (inserted_absent _ i a).0 (sym p)) (inserted_found i r)

pub record TakenOut (p : Entry) (below g : Members) : Type 0 where
  pub rest : Members
  pub place : Inserted p below rest g
  pub one_less : count g ≡ suc (count rest)

pub take_out : {n : Text} {p : Entry} {below g : Members} → Found n p below g → TakenOut p below g
unfolding count
take_out (first q) = record { rest = _; place = here; one_less = refl }
take_out (later a h) =
    let t = take_out h in
    record { rest = _; place = there t.place; one_less = ap suc t.one_less }

pub count_inserted : {A : Type 0} {a : A} {kids f g : Forest A} → Inserted a kids f g → count g ≡ suc (count f)
unfolding count
count_inserted here = refl
count_inserted (there i) = ap suc (count_inserted i)
