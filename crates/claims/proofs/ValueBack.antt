-- A value that is written is read back.
use Rattle.std.specs.Prelude.{if◌then◌else◌}
use mathlib.Core.Path.{◌≡◌, refl, ap, sym, ◌∙◌}
use mathlib.Core.List.{[], ◌∷◌, ◌++◌, append-nil, append_assoc}
use mathlib.Core.Bool.{Bool, true, false, true≢false}
use Prim.Native.Nat.{ℕ, zero, suc, ◌+◌, ◌≤◌, ◌<◌}
use native.Mathlib.Nat.{add-zero}
use native.Mathlib.Omega.{arith}
use lib.Dec.{eqb}
use lib.ListN.{length, length-append}
use borrow.Author.Tests.{eq-eqb}
use Rattle.spec.specs.Outcome.{Outcome, ok, ◌>>=◌}
use Rattle.spec.specs.Bytes.{Bytes, Text, ascii, byte, byte_in, within}
use Rattle.spec.specs.Numbers.{is_digit, is_e}
use Rattle.spec.specs.Forest.{none, tree, single, count, size, ◌⧺◌}
use Rattle.spec.specs.Value as Value
use Rattle.spec.specs.Value.{Label, Entry, Members, leaf, named, is_object, is_container, tag, has, find, levels, depths}
use Rattle.spec.specs.Read.{is_blank, blanks, fresh, name_for, container_label, closing_bracket, items, contents, container, value}
use Rattle.spec.specs.Write.{write_string, opening, closing, write_name, comma, write_items, write}
use Rattle.spec.proofs.Tracking.{Ends}
use Rattle.spec.specs.Proper as Proper
use Rattle.spec.specs.Proper.{Allows, ScalarValues, ProperItems, element, member}
use Rattle.spec.proofs.NameLaws.{absent_parts, absent_cons}
use Rattle.claims.proofs.Rest.{Rest, byte_at, first_byte, rest_next, rest_more, rest_length, byte_in_ok}
use Rattle.claims.proofs.StringBack.{string-back}
use Rattle.claims.proofs.NumberBack.{number-some}
use Rattle.claims.proofs.NumberText.{blanks_none, room, numeral_back, text-number}
use Rattle.claims.proofs.ScalarBack.{Begins, string-begins, opening-begins, null_back, true_back, false_back, text_back}

-- The text of a container, item by item

items_split : (object : Bool) (e : Entry) (kids rest : Members) →
    write_items object true (tree e kids rest) ≡ write_name object e.name ++ (write (record { label = e.label; kids = kids }) ++ write_items object false rest)
unfolding write_items write comma
items_split object e kids rest = simp append_assoc

items-comma : (object : Bool) (e : Entry) (kids rest : Members) → write_items object false (tree e kids rest) ≡ 44 ∷ write_items object true (tree e kids rest)
unfolding write_items comma ascii
items-comma object e kids rest = refl

opening_some : {l : Label} {kids : Members} → Allows l kids → 1 ≤ length (opening l)
unfolding opening ascii write_string
opening_some Proper.null_literal = omega arith
opening_some Proper.true_literal = omega arith
opening_some Proper.false_literal = omega arith
opening_some (Proper.number {t} n) = number-some t (text-number t n)
opening_some (Proper.string c) = omega arith
opening_some Proper.array = omega arith
opening_some Proper.object = omega arith

-- there are at least as many bytes as items
items-length : {object : Bool} {f : Members} (first : Bool) → ProperItems object f → count f ≤ length (write_items object first f)
unfolding count write_items
items-length first Proper.empty = omega arith
items-length first (element n a k p) = simp length-append (omega (arith, opening_some a, items-length false p))
items-length first (member n h a k p) = simp length-append (omega (arith, opening_some a, items-length false p))

-- what follows a value
follows : {s : Bytes} {at : ℕ} (w r : Bytes) → Rest s at (w ++ r) → byte s (at + length w) ≡ byte r 0
unfolding byte
follows {s} {at} w r h = ap (byte s) (sym (add-zero (at + length w))) ∙ byte_at (rest_more w h) 0

-- Where the items of a container, and a value, begin

write-opening : (v : Value.Value) (r : Bytes)
    → write v ++ r ≡ opening v.label ++ (write_items (is_object v.label) true v.kids ++ (closing v.label ++ r))
unfolding write
write-opening v r = simp append_assoc

pub value-begins : {s : Bytes} {at : ℕ} (v : Value.Value) (r : Bytes) → Allows v.label v.kids → Rest s at (write v ++ r) → Begins (byte s at)
value-begins v r a h = opening-begins _ a (rw (write-opening v r) at h)

items_begin : {s : Bytes} {at : ℕ} {object : Bool} {f : Members} (r : Bytes) → ProperItems object f
    → 0 < count f → Rest s at (write_items object true f ++ r) → Begins (byte s at)
unfolding count write_name write_string
items_begin r Proper.empty c h = absurd (omega arith)
items_begin r (element {e} {kids} {rest} n a k p) c h =
    value-begins (record { label = e.label; kids = kids }) _ a
    (rw (append_assoc (write (record { label = e.label; kids = kids })) (write_items false false rest) r) at (rw (items_split false e kids rest) at h))
items_begin r (member {e} {kids} {rest} n h' a k p) c h = string-begins (rw (items_split true e kids rest) at h)

-- A name

name_back : {s : Bytes} {at : ℕ} (object : Bool) (name : Text) (so_far : Members) (r : Bytes) → (object ≡ false → name ≡ []) →
    (object ≡ true → ScalarValues name × (has name so_far ≡ false)) → is_blank (byte s (at + length (write_name object name))) ≡ false →
    Rest s at (write_name object name ++ r) → name_for object s so_far at ≡ ok (name, at + length (write_name object name))
unfolding name_for write_name fresh ascii is_blank ◌>>=◌
name_back {at = at} false name so_far r e m b h = rw (e refl) (ap (λ n. ok ([], n)) (sym (add-zero at)))
name_back {s} {at} true name so_far r e m b h =
    let facts = m refl in
    let here = rw (append_assoc (write_string name) (58 ∷ []) r) at h in
    let next = at + length (write_string name) in
    let colon = first_byte (rest_more (write_string name) here) in
    let place : next + 1 ≡ at + length (write_string name ++ (58 ∷ [])) = omega (arith, length-append (write_string name) (58 ∷ [])) in
    rw (
      string-back name (58 ∷ r) facts.0 here,
      facts.1,
      blanks_none s next (rw colon),
      byte_in_ok s next 58 58 58 colon (omega arith) (omega arith),
      place,
      blanks_none s (at + length (write_string name ++ (58 ∷ []))) b,
    )

-- An item after others, in a container without repeated names

⧺_assoc : (f g h : Members) → (f ⧺ g) ⧺ h ≡ f ⧺ (g ⧺ h)
unfolding ◌⧺◌
⧺_assoc none g h = refl
⧺_assoc (tree e kids rest) g h = ap (tree e kids) (⧺_assoc rest g h)

pub size-append : (f g : Members) → size (f ⧺ g) ≡ size f + size g
unfolding ◌⧺◌ size
size-append none g = omega arith
size-append (tree e kids rest) g = let ih = size-append rest g in omega arith

-- its name is not among those before it
absent_after : (n : Text) (g : Members) (e : Entry) (kids rest : Members) → has n (g ⧺ tree e kids rest) ≡ false → e.name ≡ n → ⊥
unfolding ◌⧺◌
absent_after n none e kids rest h q = (absent_parts n e kids rest h).0 q
absent_after n (tree d below g) e kids rest h q = absent_after n g e kids rest (absent_parts n d below (g ⧺ tree e kids rest) h).1 q

pub record Item (object : Bool) (so_far : Members) (e : Entry) (kids : Members) : Type 0 where
  pub unnamed : object ≡ false → e.name ≡ []
  pub fresh_name : object ≡ true → ScalarValues e.name × (has e.name so_far ≡ false)
  pub allows : Allows e.label kids
  pub inside : ProperItems (is_object e.label) kids

item : {object : Bool} (so_far : Members) (e : Entry) (kids rest : Members) → ProperItems object (so_far ⧺ tree e kids rest) → Item object so_far e kids
unfolding ◌⧺◌ count find
item none e kids rest (element n a k p) = record { unnamed = λ _. n; fresh_name = λ h. absurd (true≢false (sym h)); allows = a; inside = k }
item none e kids rest (member n h a k p) = record { unnamed = λ h. absurd (true≢false h); fresh_name = λ _. (n, refl); allows = a; inside = k }
item (tree d below g) e kids rest (element n a k p) =
    let i = item g e kids rest p in
    record { unnamed = i.unnamed; fresh_name = λ h. absurd (true≢false (sym h)); allows = i.allows; inside = i.inside }
item (tree d below g) e kids rest (member n h a k p) =
    let i = item g e kids rest p in
    record {
      unnamed = i.unnamed;
      fresh_name = λ q. let f = i.fresh_name q in (f.0, absent_cons e.name d below g (λ r. absent_after d.name g e kids rest h (sym r)) f.1);
      allows = i.allows;
      inside = i.inside;
    }

-- Items: the reader stands at an item, and those before it were read.

pub record Fits (s : Bytes) (object : Bool) (left fuel nodes : ℕ) (so_far f : Members) (at : ℕ) (r : Bytes) : Type 0 where
  some : 0 < count f
  proper : ProperItems object (so_far ⧺ f)
  shallow : depths f ≤ left
  few : nodes + size so_far + size f ≤ 2048
  fuelled : count f ≤ fuel
  text : Rest s at (write_items object true f ++ (closing_bracket object ∷ r))

abbrev pub ItemsBack : Bytes → Members → Type 0
ItemsBack s f =
    (object : Bool) (left fuel nodes : ℕ) (so_far : Members) (at : ℕ) (r : Bytes) → Fits s object left fuel nodes so_far f at r →
    items fuel (value left s) object s nodes so_far at ≡ ok (so_far ⧺ f, at + (length (write_items object true f) + 1))

closing_ends : (object : Bool) → Ends (closing_bracket object)
unfolding closing_bracket is_digit is_e within
closing_ends true = record { no_digit = refl; no_exponent = refl; no_point = refl; no_sign = refl }
closing_ends false = record { no_digit = refl; no_exponent = refl; no_point = refl; no_sign = refl }

comma_ends : Ends 44
unfolding is_digit is_e within
comma_ends = record { no_digit = refl; no_exponent = refl; no_point = refl; no_sign = refl }

closing_no_blank : (object : Bool) → is_blank (closing_bracket object) ≡ false
unfolding is_blank closing_bracket
closing_no_blank true = refl
closing_no_blank false = refl

begins_no_closing : (object : Bool) (b : ℕ) → Begins b → eqb b (closing_bracket object) ≡ false
unfolding closing_bracket
begins_no_closing true b g = g.no_brace
begins_no_closing false b g = g.no_bracket

-- A container, given its items

contents_back : {s : Bytes} {at : ℕ} (object : Bool) (left nodes : ℕ) (kids : Members) (r : Bytes)
    → ItemsBack s kids → ProperItems object kids → depths kids ≤ left →
    nodes + size kids ≤ 2048 → Rest s at (write_items object true kids ++ (closing_bracket object ∷ r)) →
    contents (value left s) object s nodes at ≡ ok (kids, at + (length (write_items object true kids) + 1))
unfolding contents write_items ◌⧺◌ size count
contents_back {s} {at} object left nodes none r back p d n h =
    let close = first_byte h in
    rw (blanks_none s at (rw close (closing_no_blank object)), close, eq-eqb (closing_bracket object) (closing_bracket object) refl)
contents_back {s} {at} object left nodes (tree e kids rest) r back p d n h =
    let begins = items_begin (closing_bracket object ∷ r) p (omega arith) h in
    let fuel : suc (count rest) ≤ length s =
    omega (arith, items-length true p, rest_length h, length-append (write_items object true (tree e kids rest)) (closing_bracket object ∷ r)) in
    rw (blanks_none s at begins.no_blank, begins_no_closing object (byte s at) begins)
    (back object left (length s) nodes none at r
    (record { some = omega arith; proper = p; shallow = d; few = omega arith; fuelled = fuel; text = h }))

container_back : {s : Bytes} {at : ℕ} (object : Bool) (left nodes b : ℕ) (kids : Members) (r : Bytes)
    → ItemsBack s kids → ProperItems object kids → depths kids ≤ left →
    suc (nodes + size kids) ≤ 2048 → Rest s at (b ∷ (write_items object true kids ++ (closing_bracket object ∷ r))) →
    container (value left s) object s at nodes ≡
    ok (record { label = container_label object; kids = kids }, at + suc (length (write_items object true kids) + 1))
unfolding container ◌>>=◌
container_back {s} {at} object left nodes b kids r back p d n h =
    let place : at + 1 + (length (write_items object true kids) + 1) ≡ at + suc (length (write_items object true kids) + 1) = omega arith in
    rw (room nodes at (omega arith), contents_back object left (nodes + 1) kids r back p d (omega arith) (rest_next h), place)

-- A value, given its items

write-leaf : (l : Label) → closing l ≡ [] → write (leaf l) ≡ opening l
unfolding write write_items
write-leaf l h = rw (h, append-nil (opening l)) (append-nil (opening l))

array-text : (kids : Members) (r : Bytes) → write (record { label = Label.array; kids = kids }) ++ r ≡ 91 ∷ (write_items false true kids ++ (93 ∷ r))
unfolding write opening closing ascii is_object tag
array-text kids r = ap (◌∷◌ 91) (append_assoc (write_items false true kids) (93 ∷ []) r)

object-text : (kids : Members) (r : Bytes) → write (record { label = Label.object; kids = kids }) ++ r ≡ 123 ∷ (write_items true true kids ++ (125 ∷ r))
unfolding write opening closing ascii is_object tag
object-text kids r = ap (◌∷◌ 123) (append_assoc (write_items true true kids) (125 ∷ []) r)

text_length : (w i : Bytes) (a b : ℕ) → w ++ [] ≡ a ∷ (i ++ (b ∷ [])) → length w ≡ suc (length i + 1)
text_length w i a b h = ap length (sym (append-nil w) ∙ h) ∙ ap suc (length-append i (b ∷ []))

module _ {s : Bytes} {at : ℕ} (nodes : ℕ) (r : Bytes) {kids : Members} (back : ItemsBack s kids) where
  array_back : (left : ℕ) → ProperItems false kids → suc (depths kids) ≤ left → suc (nodes + size kids) ≤ 2048 →
      Rest s at (write (record { label = Label.array; kids = kids }) ++ r) →
      value left s at nodes ≡ ok (record { label = Label.array; kids = kids }, at + length (write (record { label = Label.array; kids = kids })))
  unfolding value closing_bracket container_label
  array_back zero p d n h = absurd (omega arith)
  array_back (suc left) p d n h =
      let text = rw (array-text kids r) at h in
      rw (first_byte text, text_length (write (record { label = Label.array; kids = kids })) (write_items false true kids) 91 93 (array-text kids []))
      (container_back false left nodes 91 kids r back p (omega arith) n text)

  object-back : (left : ℕ) → ProperItems true kids → suc (depths kids) ≤ left → suc (nodes + size kids) ≤ 2048 →
      Rest s at (write (record { label = Label.object; kids = kids }) ++ r) →
      value left s at nodes ≡ ok (record { label = Label.object; kids = kids }, at + length (write (record { label = Label.object; kids = kids })))
  unfolding value closing_bracket container_label
  object-back zero p d n h = absurd (omega arith)
  object-back (suc left) p d n h =
      let text = rw (object-text kids r) at h in
      rw (first_byte text, text_length (write (record { label = Label.object; kids = kids })) (write_items true true kids) 123 125 (object-text kids []))
      (container_back true left nodes 123 kids r back p (omega arith) n text)

module _ {s : Bytes} {at : ℕ} (left nodes : ℕ) (r : Bytes) where
  pub value-back : {l : Label} {kids : Members} → ItemsBack s kids → Allows l kids → ProperItems (is_object l) kids → levels l (depths kids) ≤ left →
      suc (nodes + size kids) ≤ 2048 → Ends (byte r 0) → Rest s at (write (record { label = l; kids = kids }) ++ r) →
      value left s at nodes ≡ ok (record { label = l; kids = kids }, at + length (write (record { label = l; kids = kids })))
  unfolding closing opening levels is_container is_object tag ascii
  value-back back Proper.null_literal p d n e h =
      rw (write-leaf Label.null_literal refl) (null_back left nodes (omega arith) r (rw (write-leaf Label.null_literal refl) at h))
  value-back back Proper.true_literal p d n e h =
      rw (write-leaf Label.true_literal refl) (true_back left nodes (omega arith) r (rw (write-leaf Label.true_literal refl) at h))
  value-back back Proper.false_literal p d n e h =
      rw (write-leaf Label.false_literal refl) (false_back left nodes (omega arith) r (rw (write-leaf Label.false_literal refl) at h))
  value-back back (Proper.number {t} m) p d n e h =
      let text = rw (write-leaf (Label.number t) refl) at h in
      rw (write-leaf (Label.number t) refl) (numeral_back left nodes (omega arith) r t (text-number t m) (rw (follows t r text) e) text)
  value-back back (Proper.string {cs} c) p d n e h =
      rw (write-leaf (Label.string cs) refl) (text_back left nodes (omega arith) r cs c (rw (write-leaf (Label.string cs) refl) at h))
  value-back back Proper.array p d n e h = array_back nodes r back left p d n h
  value-back back Proper.object p d n e h = object-back nodes r back left p d n h

-- One item

items_step : (fuel : ℕ) (value : ℕ → ℕ → Outcome (Value.Value × ℕ)) (object : Bool) (s : Bytes) (nodes : ℕ) (so_far : Members) (at : ℕ)
    (name : Text) (v : Value.Value) (place next : ℕ) →
    name_for object s so_far at ≡ ok (name, place) → value place (nodes + size so_far) ≡ ok (v, next) → is_blank (byte s next) ≡ false →
    items (suc fuel) value object s nodes so_far at ≡
    (if eqb (byte s next) (closing_bracket object) then ok (so_far ⧺ single (named name v), next + 1) else
    (byte_in s next 44 44 >>= λ _. items fuel value object s nodes (so_far ⧺ single (named name v)) (blanks s (next + 1))))
unfolding items ◌>>=◌
items_step fuel value object s nodes so_far at name v place next n r b = rw (n, r, blanks_none s next b)

-- the text of an item and of those after it
item_text : (object : Bool) (e : Entry) (kids rest : Members) (r : Bytes) →
    write_items object true (tree e kids rest) ++ r ≡ write_name object e.name
    ++ (write (record { label = e.label; kids = kids }) ++ (write_items object false rest ++ r))
item_text object e kids rest r = rw (items_split object e kids rest) (simp append_assoc)

-- the place after an item
after : ℕ → Bool → Entry → Members → ℕ
after at object e kids = at + length (write_name object e.name) + length (write (record { label = e.label; kids = kids }))

after-length : (at : ℕ) (object : Bool) (e : Entry) (kids rest : Members) →
    at + length (write_items object true (tree e kids rest)) ≡ after at object e kids + length (write_items object false rest)
unfolding after
after-length at object e kids rest = rw (items_split object e kids rest) (simp length-append (omega arith))

-- An item is read, and what follows it stands there.
record OneRead (s : Bytes) (object : Bool) (left nodes : ℕ) (so_far : Members) (e : Entry) (kids : Members) (at : ℕ) (more : Bytes) : Type 0 where
  rest : Rest s (after at object e kids) more
  step : (fuel : ℕ) →
      items (suc fuel) (value left s) object s nodes so_far at ≡
      (if eqb (byte s (after at object e kids)) (closing_bracket object) then ok (so_far ⧺ tree e kids none, after at object e kids + 1) else
      (byte_in s (after at object e kids) 44 44 >>= λ _.
      items fuel (value left s) object s nodes (so_far ⧺ tree e kids none) (blanks s (after at object e kids + 1))))

one-read : (s : Bytes) (object : Bool) (left nodes : ℕ) (so_far : Members) (e : Entry) (kids : Members) (at : ℕ) (more : Bytes) → Item object so_far e kids →
    ItemsBack s kids → levels e.label (depths kids) ≤ left
    → suc (nodes + size so_far + size kids) ≤ 2048 → Ends (byte more 0) → is_blank (byte more 0) ≡ false →
    Rest s at (write_name object e.name ++ (write (record { label = e.label; kids = kids }) ++ more)) → OneRead s object left nodes so_far e kids at more
unfolding after
one-read s object left nodes so_far e kids at more i back shallow few ends blank text =
    let name = write_name object e.name in
    let v : Value.Value = record { label = e.label; kids = kids } in
    let here = rest_more name text in
    let begins = value-begins v more i.allows here in
    record {
      rest = rest_more (write v) here;
      step = λ fuel.
          items_step fuel (value left s) object s nodes so_far at e.name v (at + length name) (at + length name + length (write v))
          (name_back object e.name so_far (write v ++ more) i.unnamed i.fresh_name begins.no_blank text)
          (value-back left (nodes + size so_far) more back i.allows i.inside shallow few ends here)
          (rw (follows (write v) more here) blank);
    }

-- All items from one on

last_back : (s : Bytes) (e : Entry) (kids : Members) → ItemsBack s kids → ItemsBack s (tree e kids none)
unfolding count depths size byte write_items
last_back s e kids back object left zero nodes so_far at r fits = absurd (omega (arith, fits.fuelled))
last_back s e kids back object left (suc fuel) nodes so_far at r fits =
    let shallow = fits.shallow in
    let few = fits.few in
    let text = rw (item_text object e kids none (closing_bracket object ∷ r)) at fits.text in
    let i = item so_far e kids none fits.proper in
    let one =
    one-read s object left nodes so_far e kids at (closing_bracket object ∷ r) i back (omega arith) (omega arith) (closing_ends object)
    (closing_no_blank object) text in
    let end : after at object e kids + 1 ≡ at + (length (write_items object true (tree e kids none)) + 1) = omega (arith, after-length at object e kids none) in
    one.step fuel ∙ rw (first_byte one.rest, eq-eqb (closing_bracket object) (closing_bracket object) refl, end)

more_text : (object : Bool) (e : Entry) (kids : Members) (d : Entry) (below rest : Members) (r : Bytes) →
    write_items object true (tree e kids (tree d below rest)) ++ r ≡
    write_name object e.name ++ (write (record { label = e.label; kids = kids }) ++ (44 ∷ (write_items object true (tree d below rest) ++ r)))
more_text object e kids d below rest r =
    item_text object e kids (tree d below rest) r ∙
    ap (λ m. write_name object e.name ++ (write (record { label = e.label; kids = kids }) ++ (m ++ r))) (items-comma object d below rest)

proper_rest : {object : Bool} (g : Members) (f : Members) → ProperItems object (g ⧺ f) → ProperItems object f
unfolding ◌⧺◌
proper_rest none f p = p
proper_rest (tree e kids g) f (element n a k p) = proper_rest g f p
proper_rest (tree e kids g) f (member n h a k p) = proper_rest g f p

comma_no_closing : (object : Bool) → eqb 44 (closing_bracket object) ≡ false
unfolding closing_bracket
comma_no_closing true = refl
comma_no_closing false = refl

-- the items after one, once it is read
module _ (s : Bytes) (object : Bool) (left fuel nodes : ℕ) (so_far : Members)
    (e : Entry) (kids : Members) (d : Entry) (below rest : Members) (at : ℕ) (r : Bytes)
    (fits : Fits s object left (suc fuel) nodes so_far (tree e kids (tree d below rest)) at r)
    (one : OneRead s object left nodes so_far e kids at (44 ∷ (write_items object true (tree d below rest) ++ (closing_bracket object ∷ r)))) where
  proper_others : ProperItems object ((so_far ⧺ tree e kids none) ⧺ tree d below rest)
  unfolding ◌⧺◌
  proper_others = rw (⧺_assoc so_far (tree e kids none) (tree d below rest)) fits.proper

  fits_others : Fits s object left fuel nodes (so_far ⧺ tree e kids none) (tree d below rest) (after at object e kids + 1) r
  unfolding count depths size
  fits_others =
      let shallow = fits.shallow in
      let few = fits.few in
      let fuelled = fits.fuelled in
      record {
        some = omega arith;
        proper = proper_others;
        shallow = omega arith;
        few = omega (arith, size-append so_far (tree e kids none));
        fuelled = omega arith;
        text = rest_next one.rest;
      }

  read-others : ItemsBack s (tree d below rest) →
      items (suc fuel) (value left s) object s nodes so_far at ≡ ok
      (so_far ⧺ tree e kids (tree d below rest), at + (length (write_items object true (tree e kids (tree d below rest))) + 1))
  unfolding count ◌⧺◌ ◌>>=◌
  read-others others =
      let next = after at object e kids in
      let here = one.rest in
      let begins = items_begin (closing_bracket object ∷ r)
      (proper_rest (so_far ⧺ tree e kids none) (tree d below rest) proper_others) (omega arith) (rest_next here) in
      let end : next + 1 + (length (write_items object true (tree d below rest)) + 1) ≡ at +
      (length (write_items object true (tree e kids (tree d below rest))) + 1) =
      omega (arith, after-length at object e kids (tree d below rest), ap length (items-comma object d below rest)) in
      one.step fuel ∙
      rw (
        first_byte here,
        comma_no_closing object,
        byte_in_ok s next 44 44 44 (first_byte here) (omega arith) (omega arith),
        blanks_none s (next + 1) begins.no_blank,
        others object left fuel nodes (so_far ⧺ tree e kids none) (next + 1) r fits_others,
        ⧺_assoc so_far (tree e kids none) (tree d below rest),
        end,
      )

more_back : (s : Bytes) (e : Entry) (kids : Members) (d : Entry) (below rest : Members) → ItemsBack s kids → ItemsBack s (tree d below rest) →
    ItemsBack s (tree e kids (tree d below rest))
unfolding count depths size byte is_blank
more_back s e kids d below rest back others object left zero nodes so_far at r fits = absurd (omega (arith, fits.fuelled))
more_back s e kids d below rest back others object left (suc fuel) nodes so_far at r fits =
    let shallow = fits.shallow in
    let few = fits.few in
    let text = rw (more_text object e kids d below rest (closing_bracket object ∷ r)) at fits.text in
    let i = item so_far e kids (tree d below rest) fits.proper in
    let more : Bytes = 44 ∷ (write_items object true (tree d below rest) ++ (closing_bracket object ∷ r)) in
    let one = one-read s object left nodes so_far e kids at more i back (omega arith) (omega arith) comma_ends refl text in
    read-others s object left fuel nodes so_far e kids d below rest at r fits one others

pub items_back : (s : Bytes) (f : Members) → ItemsBack s f
unfolding count
items_back s none = λ object left fuel nodes so_far at r fits. absurd (omega (arith, fits.some))
items_back s (tree e kids none) = last_back s e kids (items_back s kids)
items_back s (tree e kids (tree d below rest)) = more_back s e kids d below rest (items_back s kids) (items_back s (tree d below rest))
