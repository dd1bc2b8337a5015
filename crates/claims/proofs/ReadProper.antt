-- What is read is proper, and within the limit on nodes.
use mathlib.Core.Path.{◌≡◌, refl, sym, subst}
use mathlib.Core.List.{[]}
use mathlib.Core.Bool.{Bool, true, false, ◌||◌, true≢false}
use Prim.Native.Nat.{ℕ, zero, suc, ◌+◌, ◌-◌, ◌≤◌, ◌<◌}
use native.Mathlib.Omega.{arith}
use lib.Dec.{eqb}
use lib.ListN.{length}
use Rattle.spec.specs.Outcome.{Outcome, ok}
use Rattle.spec.specs.Limits.{max_depth, max_nodes}
use Rattle.spec.specs.Bytes.{Bytes, Text, byte, byte_in}
use Rattle.spec.specs.Strings.{string}
use Rattle.spec.specs.Numbers.{is_digit, number}
use Rattle.spec.specs.Forest.{none, tree, single, size, ◌⧺◌}
use Rattle.spec.specs.Value as Value
use Rattle.spec.specs.Value.{Label, Entry, Members, leaf, named, is_object, tag, has, nodes}
use Rattle.spec.specs.Read.{blanks, word_at, literal_value, number_value, string_value, scalar, fresh, name_for, container_label, closing_bracket}
use Rattle.spec.specs.Read.{items, contents}
use Rattle.spec.specs.Read.{container, value, read}
use Rattle.spec.proofs.OutcomeLaws.{refused≢ok, both_ok, either_ok, first_ok}
use Rattle.spec.specs.Proper as Proper
use Rattle.spec.specs.Proper.{Proper, Allows, ScalarValues, ProperItems, element, member}
use Rattle.spec.proofs.NameLaws.{absent_parts, absent_cons}
use Rattle.claims.proofs.NumberText.{number-alone, number-text, room_there}
use Rattle.claims.proofs.CharacterScalar.{string-scalar, if_ok}
use Rattle.claims.proofs.ValueBack.{Item, size-append}

-- Scalars

record Read (at-nodes : ℕ) (v : Value.Value) : Type 0 where
  proper : Proper v
  few : at-nodes + nodes v ≤ 2048

leaf-read : (count : ℕ) (l : Label) → Allows l none → count < 2048 → Read count (leaf l)
unfolding nodes size
leaf-read count l a h = record { proper = record { allows = a; items = Proper.empty }; few = omega arith }

literal_read : (count : ℕ) (l : Label) (word s : Bytes) (at : ℕ) (v : Value.Value) (next : ℕ) → Allows l none → count < 2048 →
    literal_value l word s at ≡ ok (v, next) → Read count v
unfolding literal_value
literal_read count l word s at v next a room h =
    let (_, _, i) = both_ok (word_at word s (at + 1)) _ _ h in
    subst (Read count) (first_ok i) (leaf-read count l a room)

scalar_read : (s : Bytes) (at count : ℕ) (v : Value.Value) (next : ℕ) → scalar s at count ≡ ok (v, next) → Read count v
unfolding scalar number_value string_value
scalar_read s at count v next h =
    either_ok (eqb (byte s at) 34) h
    (λ i.
    let (room, j) = room_there count at _ i in
    let (cs-next, e, k) = both_ok (string s at) _ _ j in
    subst (Read count) (first_ok k) (leaf-read count _ (Proper.string (string-scalar s at cs-next.0 cs-next.1 e)) room)) λ h.
    either_ok (is_digit (byte s at) || eqb (byte s at) 45) h
    (λ i.
    let (room, j) = room_there count at _ i in
    let (end, e, k) = both_ok (number s at) _ _ j in
    subst (Read count) (first_ok k) (leaf-read count _ (Proper.number (number-text _ (number-alone s at end e))) room)) λ h.
    either_ok (eqb (byte s at) 110) h (λ i. let (room, j) = room_there count at _ i in literal_read count _ _ s at v next Proper.null_literal room j) λ h.
    either_ok (eqb (byte s at) 116) h (λ i. let (room, j) = room_there count at _ i in literal_read count _ _ s at v next Proper.true_literal room j) λ h.
    either_ok (eqb (byte s at) 102) h (λ i. let (room, j) = room_there count at _ i in literal_read count _ _ s at v next Proper.false_literal room j) λ h.
    absurd (refused≢ok h)

-- Items

absent_snoc : (n : Text) (g : Members) (e : Entry) (kids : Members) → has n g ≡ false → (e.name ≡ n → ⊥) → has n (g ⧺ tree e kids none) ≡ false
unfolding ◌⧺◌
absent_snoc n none e kids h q = absent_cons n e kids none q h
absent_snoc n (tree d below g) e kids h q =
    let p = absent_parts n d below g h in
    absent_cons n d below (g ⧺ tree e kids none) p.0 (absent_snoc n g e kids p.1 q)

pub proper_snoc : (object : Bool) (g : Members) (e : Entry) (kids : Members)
    → ProperItems object g → Item object g e kids → ProperItems object (g ⧺ tree e kids none)
unfolding ◌⧺◌
proper_snoc false none e kids p i = element (i.unnamed refl) i.allows i.inside Proper.empty
proper_snoc true none e kids p i = member (i.fresh_name refl).0 (i.fresh_name refl).1 i.allows i.inside Proper.empty
proper_snoc false (tree d below g) e kids (element n a k p) i =
    element n a k
    (proper_snoc false g e kids p (record { unnamed = i.unnamed; fresh_name = λ h. absurd (true≢false (sym h)); allows = i.allows; inside = i.inside }))
proper_snoc true (tree d below g) e kids (member n h a k p) i =
    let f = i.fresh_name refl in
    let q = absent_parts e.name d below g f.1 in
    member n (absent_snoc d.name g e kids h (λ r. q.0 (sym r))) a k
    (proper_snoc true g e kids p (record { unnamed = i.unnamed; fresh_name = λ _. (f.0, q.1); allows = i.allows; inside = i.inside }))

fresh_there : (name : Text) (so_far : Members) (quote q : ℕ) → fresh name so_far quote ≡ ok q → has name so_far ≡ false
unfolding fresh
fresh_there name so_far quote q h = if_ok (has name so_far) h (λ _ i. absurd (refused≢ok i)) (λ t _. t)

record Name (object : Bool) (so_far : Members) (name : Text) : Type 0 where
  unnamed : object ≡ false → name ≡ []
  fresh_name : object ≡ true → ScalarValues name × (has name so_far ≡ false)

name_read : (object : Bool) (s : Bytes) (so_far : Members) (at : ℕ) (name : Text) (place : ℕ)
    → name_for object s so_far at ≡ ok (name, place) → Name object so_far name
unfolding name_for
name_read false s so_far at name place h = record { unnamed = λ _. sym (first_ok h); fresh_name = λ q. absurd (true≢false (sym q)) }
name_read true s so_far at name place h =
    let (n, e, i) = both_ok (string s at) _ _ h in
    let (q, f, j) = both_ok (fresh n.0 so_far (n.1 - 1)) _ _ i in
    let (b, g, k) = both_ok (byte_in s (blanks s n.1) 58 58) _ _ j in
    record {
      unnamed = λ r. absurd (true≢false r);
      fresh_name =
          λ _. subst (λ m. ScalarValues m × (has m so_far ≡ false)) (first_ok k) (string-scalar s at n.0 n.1 e, fresh_there n.0 so_far (n.1 - 1) q f);
    }

container_proper : (object : Bool) (kids : Members) → ProperItems object kids → Proper (record { label = container_label object; kids = kids })
unfolding container_label is_object tag
container_proper true kids p = record { allows = Proper.object; items = p }
container_proper false kids p = record { allows = Proper.array; items = p }

-- a reader of proper values
abbrev Reads : (ℕ → ℕ → Outcome (Value.Value × ℕ)) → Type 0
Reads value = (at count : ℕ) (v : Value.Value) (next : ℕ) → value at count ≡ ok (v, next) → Read count v

record ReadItems (object : Bool) (count : ℕ) (f : Members) : Type 0 where
  proper : ProperItems object f
  few : count + size f ≤ 2048

module _ (value : ℕ → ℕ → Outcome (Value.Value × ℕ)) (reads : Reads value) (object : Bool) (s : Bytes) where
  items-read : (fuel count : ℕ) (so_far : Members) (at : ℕ) (kids : Members) (next : ℕ) → ReadItems object count so_far →
      items fuel value object s count so_far at ≡ ok (kids, next) → ReadItems object count kids
  unfolding items nodes size
  items-read zero count so_far at kids next r h = absurd (refused≢ok h)
  items-read (suc fuel) count so_far at kids next r h =
      let (name-place, e, i) = both_ok (name_for object s so_far at) _ _ h in
      let (v_next, f, j) = both_ok (value name-place.1 (count + size so_far)) _ _ i in
      let name = name_read object s so_far at name-place.0 name-place.1 e in
      let v = v_next.0 in
      let one = reads name-place.1 (count + size so_far) v_next.0 v_next.1 f in
      let few = one.few in
      let all : ReadItems object count (so_far ⧺ single (named name-place.0 v_next.0)) =
      record {
        proper = proper_snoc object so_far (record { name = name-place.0; label = v_next.0.label }) v_next.0.kids r.proper
            (record { unnamed = name.unnamed; fresh_name = name.fresh_name; allows = one.proper.allows; inside = one.proper.items });
        few = omega (arith, size-append so_far (single (named name-place.0 v_next.0)));
      } in
      either_ok (eqb (byte s (blanks s v_next.1)) (closing_bracket object)) j (λ k. subst (ReadItems object count) (first_ok k) all) λ k.
      let (_, _, l) = both_ok _ _ _ k in
      items-read fuel count (so_far ⧺ single (named name-place.0 v_next.0)) _ kids next all l

  contents-read : (count at : ℕ) (kids : Members) (next : ℕ) → count ≤ 2048 → contents value object s count at ≡ ok (kids, next) → ReadItems object count kids
  unfolding contents size
  contents-read count at kids next few h =
      let nothing : ReadItems object count none = record { proper = Proper.empty; few = omega arith } in
      either_ok (eqb (byte s (blanks s at)) (closing_bracket object)) h (λ i. subst (ReadItems object count) (first_ok i) nothing) λ i.
      items-read (length s) count none _ kids next nothing i

  container-read : (at count : ℕ) (v : Value.Value) (next : ℕ) → container value object s at count ≡ ok (v, next) → Read count v
  unfolding container nodes
  container-read at count v next h =
      let (room, i) = room_there count at _ h in
      let (kids-next, e, j) = both_ok (contents value object s (count + 1) (at + 1)) _ _ i in
      let inside = contents-read (count + 1) (at + 1) kids-next.0 kids-next.1 (omega arith) e in
      let few = inside.few in
      subst (Read count) (first_ok j)
      (record { proper = container_proper object kids-next.0 inside.proper; few = omega arith })

value_read : (left : ℕ) (s : Bytes) → Reads (value left s)
unfolding value
value_read zero s at count v next h =
    either_ok (eqb (byte s at) 91) h (λ i. absurd (refused≢ok i)) λ i.
    either_ok (eqb (byte s at) 123) i (λ j. absurd (refused≢ok j)) λ j.
    scalar_read s at count v next j
value_read (suc left) s at count v next h =
    either_ok (eqb (byte s at) 91) h (container-read (value left s) (value_read left s) false s at count v next) λ i.
    either_ok (eqb (byte s at) 123) i (container-read (value left s) (value_read left s) true s at count v next) λ j.
    scalar_read s at count v next j

pub read_proper : (s : Bytes) (v : Value.Value) → read s ≡ ok v → Proper v × (nodes v ≤ max_nodes)
unfolding read
read_proper s v h =
    let (v_next, e, i) = both_ok (value max_depth s (blanks s 0) 0) _ _ h in
    let r = value_read max_depth s (blanks s 0) 0 v_next.0 v_next.1 e in
    let few = r.few in
    either_ok (eqb (blanks s v_next.1) (length s)) i
    (λ j. let same : v_next.0 ≡ v = cc in subst (λ w. Proper w × (nodes w ≤ max_nodes)) same (r.proper, omega arith))
    (λ j. absurd (refused≢ok j))
