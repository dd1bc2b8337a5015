-- Members by their names: whether there is one, and which one a name finds.
use Rattle.std.specs.Prelude.{if◌then◌else◌}
use mathlib.Core.Path.{◌≡◌, refl}
use mathlib.Core.Bool.{Bool, true, false, true≢false}
use Prim.Native.Nat.{ℕ, suc}
use native.Mathlib.Omega.{arith}
use lib.Dec.{ltb, leb-suc-suc}
use borrow.Author.Tests.{lt-ltb}
use Rattle.spec.specs.Bytes.{Text}
use Rattle.spec.specs.Forest.{none, tree, count}
use Rattle.spec.specs.Value.{Entry, Members, has, find, same_text}
use Rattle.spec.specs.Proper as Proper
use Rattle.spec.specs.Proper.{ProperItems}
use Rattle.spec.specs.Distinct as Repeats
use Rattle.spec.specs.Distinct.{NoRepeats}
use Rattle.spec.proofs.MatchLaws.{partner}
use Rattle.spec.proofs.TextLaws.{same_text_true, same_text_refl, same_text_false, same_text-apart}

pub has_cons : (n : Text) (e : Entry) (kids f : Members) → has n (tree e kids f) ≡ (if same_text e.name n then true else has n f)
unfolding find count
has_cons n e kids f = go (same_text e.name n)
  where
    go : (b : Bool) → ltb (if b then 0 else suc (find n f)) (suc (count f)) ≡ (if b then true else has n f)
    go true = lt-ltb 0 (suc (count f)) (omega arith)
    go false = leb-suc-suc (suc (find n f)) (count f)

-- no member has a name: with one member more, and with one less
pub absent_cons : (n : Text) (e : Entry) (kids f : Members) → (e.name ≡ n → ⊥) → has n f ≡ false → has n (tree e kids f) ≡ false
absent_cons n e kids f apart absent = rw (has_cons n e kids f, same_text-apart e.name n apart) absent

pub absent_parts : (n : Text) (e : Entry) (kids f : Members) → has n (tree e kids f) ≡ false → (e.name ≡ n → ⊥) × (has n f ≡ false)
absent_parts n e kids f h = go (same_text e.name n) refl (rw (has_cons n e kids f) at h)
  where
    go : (b : Bool) → same_text e.name n ≡ b → (if b then true else has n f) ≡ false → (e.name ≡ n → ⊥) × (has n f ≡ false)
    go true q h = absurd (true≢false h)
    go false q h = (same_text_false _ _ q, h)

-- the member that a name finds, with the values in it
pub data Found (n : Text) (p : Entry) (below : Members) : Members → Type 0 where
  first : {rest : Members} → p.name ≡ n → Found n p below (tree p below rest)
  later : {e : Entry} {kids rest : Members} → (e.name ≡ n → ⊥) → Found n p below rest → Found n p below (tree e kids rest)

pub partner_found : {n : Text} {p : Entry} {below g : Members} → Found n p below g → (after : Members) × (partner true n g ≡ tree p below after)
unfolding partner
partner_found {n} {p} {below} (first {rest} q) = (rest, rw (q, same_text_refl n))
partner_found {n} {p} {below} (later {e} {kids} {rest} apart found) =
    let x = partner_found found in
    (x.0, rw (same_text-apart e.name n apart) x.1)

pub found : (n : Text) (g : Members) (p : Entry) (below after : Members) → partner true n g ≡ tree p below after → Found n p below g
unfolding partner
found n none p below after h = let z : ◌≡◌ {A = ℕ} 0 1 = cc in absurd (omega arith)
found n (tree e kids rest) p below after h = go (same_text e.name n) refl h (found n rest p below after)
  where
    go : (b : Bool) → same_text e.name n ≡ b → (if b then tree e kids rest else partner true n rest) ≡ tree p below after →
        (partner true n rest ≡ tree p below after → Found n p below rest) → Found n p below (tree e kids rest)
    go true q h ih =
        let entry : e ≡ p = cc in
        let values : kids ≡ below = cc in
        rw (← entry, ← values) (first (same_text_true _ _ q))
    go false q h ih = later (same_text_false _ _ q) (ih h)

pub found_name : {n : Text} {p : Entry} {below g : Members} → Found n p below g → p.name ≡ n
found_name (first q) = q
found_name (later a f) = found_name f

-- a name that is found is there, and no absent name is found
pub found_absent : {n : Text} {p : Entry} {below g : Members} → Found n p below g → has n g ≡ false → ⊥
found_absent (first {rest} q) h = (absent_parts _ _ _ _ h).0 q
found_absent (later a f) h = found_absent f (absent_parts _ _ _ _ h).1

-- no name is repeated in proper values
pub proper_repeats : {object : Bool} {f : Members} → ProperItems object f → NoRepeats object f
proper_repeats Proper.empty = Repeats.empty
proper_repeats (Proper.element n a k p) = Repeats.element (proper_repeats k) (proper_repeats p)
proper_repeats (Proper.member n h a k p) = Repeats.member h (proper_repeats k) (proper_repeats p)
