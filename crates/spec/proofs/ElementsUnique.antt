-- The elements of a text that is an array are those in which it is laid out. No other texts that are values alone, with commas, brackets and
-- blanks around them, make up the text.
use Rattle.std.specs.Prelude.{if◌then◌else◌}
use mathlib.Core.Path.{◌≡◌, refl, ap, ap₂, sym, ◌∙◌}
use mathlib.Core.Bool.{Bool, true, false, ◌||◌, true≢false}
use mathlib.Core.List.{List, [], ◌∷◌, ◌++◌}
use Prim.Native.Nat.{ℕ, zero, suc, ◌+◌, ◌-◌, ◌<◌, ◌≤◌}
use Prim.Native.Char.{code}
use native.Mathlib.Nat.{zero-add}
use native.Mathlib.Decide.{dec_lt}
use native.Mathlib.Omega.{arith}
use lib.ListN.{length, take, drop, get_or, length-append, length-drop, get_or-append}
use lib.Seq.{get_or-drop, drop-drop, take-append-le, drop-append-le, get_or-append_seam, take-append_seam, drop-append_seam}
use lib.Dec.{eqb}
use borrow.Author.Tests.{eqb-true}
use Rattle.spec.specs.Outcome.{ok, ◌>>=◌}
use Rattle.spec.specs.Bytes.{Bytes, byte, byte_in, within}
use Rattle.spec.specs.Numbers.{is_digit, is_e}
use Rattle.spec.specs.Forest.{none, single, size, ◌⧺◌}
use Rattle.spec.specs.Value as Value
use Rattle.spec.specs.Value.{Members, named, is_array}
use Rattle.spec.specs.Read.{is_blank, blanks_from, blanks, name_for, closing_bracket, items, contents, value, read}
use Rattle.spec.specs.Elements.{Alone, Each, one, all_blank, Listed, last, more, Layout, empty, filled}
use Rattle.spec.proofs.OutcomeLaws.{refused≢ok, both_ok, second_ok}
use Rattle.spec.proofs.TextLaws.{both_true}
use Rattle.spec.proofs.Tracking.{landed, past_end, nothing_ends, Cut, Ends, Tracked, pair}
use Rattle.spec.proofs.ReadersTrack.{value-tracks}
use Rattle.spec.proofs.ElementsThere.{part, slices_from, slices, Laid, value_grows, blanks_grow, items_grow, value-place, slices_last, slices_more}
use Rattle.spec.proofs.ElementsThere.{slices_none, slices_some, array-read, bracket_refused, blank_refused}

-- the rest of a text is cut out of it
rest_cut : (s : Bytes) (at : ℕ) → at ≤ length s → Cut s (drop at s) at (length s - at)
unfolding byte
rest_cut s at l =
    record {
      inside = λ p h. get_or-drop at s p 0;
      ends = rw (past_end (drop at s) {at = length s - at} (omega (arith, length-drop at s))) nothing_ends;
      whole = omega (arith, length-drop at s);
      part = λ p q h. ap (take (q - p)) (drop-drop p at s);
    }

-- and so is a text that goes on with a byte that continues no number
begin_cut : (e : Bytes) (b : ℕ) (rest : Bytes) → Ends b → Cut e (e ++ (b ∷ rest)) 0 (length e)
unfolding byte
begin_cut e b rest h =
    record {
      inside = λ p l. get_or-append e (b ∷ rest) 0 p l ∙ ap (λ p. get_or e p 0) (sym (zero-add p));
      ends = rw (get_or-append_seam e b rest 0) h;
      whole = omega (arith, length-append e (b ∷ rest));
      part = λ p q l. go p q l (dec_lt (length e) p);
    }
  where
    go : (p q : ℕ) → q ≤ length e → Dec (length e < p) → take (q - p) (drop p (e ++ (b ∷ rest))) ≡ take (q - p) (drop (0 + p) e)
    go p q l (yes i) = let none : q - p ≡ 0 = omega arith in rw none
    go p q l (no i) =
        ap (take (q - p)) (drop-append-le p e (b ∷ rest) (omega arith))
        ∙ take-append-le (q - p) (drop p e) (b ∷ rest) (omega (arith, length-drop p e)) ∙ ap (λ x. take (q - p) (drop x e)) (sym (zero-add p))

-- a value read where a text begins, and that text is a value alone: the value ends where the text does
ends_together : {at m low next : ℕ} {s x : Bytes} {v w : Value.Value} {low' : ℕ} (e : Bytes) (r : Tracked true at m pair low (v, next) (value 32 s 0 0))
    → r.q < m →
    Tracked false 0 (suc (length e)) pair low' (w, length e) (value 32 x 0 0) → s ≡ x → next ≡ at + length e
ends_together e r inside t here =
    let r-place = landed r in
    let t-place = landed t in
    let same = t.gives (omega arith) (r.data_read, r.q) (ap (λ x. value 32 x 0 0) (sym here) ∙ r.gives inside) in
    let same_place : r.q ≡ t.q = ap (λ x. x.1) same in
    omega arith

value-ends : (left : ℕ) (s : Bytes) (at nodes : ℕ) (v : Value.Value) (next : ℕ) → left ≤ 32 → next ≤ length s → value left s at nodes ≡ ok (v, next) →
    (e : Bytes) (w : Value.Value) → Alone e w → (b : ℕ) (rest : Bytes) → Ends b → drop at s ≡ e ++ (b ∷ rest) → next ≡ at + length e
value-ends left s at nodes v next l m h e w alone b rest ends here =
    let grown = value_grows left s at nodes h in
    let r = (value-tracks true (rest_cut s at (omega arith)) left 32 (λ h. l) nodes 0 at 0 (λ h. omega arith) (record { is = omega arith })).track (v, next)
    h in
    let t = (value-tracks false (begin_cut e b rest ends) 32 32 (λ h. omega arith) 0 0 0 0
    (λ h. omega arith) (record { is = omega arith })).track (w, length e) alone in
    let r-place = landed r in
    ends_together e r (omega arith) t here

-- a blank continues no number, and neither does a comma or a bracket
blank_ends : (b : ℕ) → is_blank b ≡ true → Ends b
unfolding is_blank is_digit is_e within
blank_ends b h = go (eqb b 32) refl (eqb b 9) refl (eqb b 10) refl (eqb b 13) refl h
  where
    go : (c : Bool) → eqb b 32 ≡ c → (d : Bool) → eqb b 9 ≡ d → (e : Bool) → eqb b 10 ≡ e → (f : Bool) → eqb b 13 ≡ f → (c || (d || (e || f))) ≡ true → Ends b
    go true i d j e k f l h = rw (eqb-true b 32 i) record { no_digit = refl; no_exponent = refl; no_point = refl; no_sign = refl }
    go false i true j e k f l h = rw (eqb-true b 9 j) record { no_digit = refl; no_exponent = refl; no_point = refl; no_sign = refl }
    go false i false j true k f l h = rw (eqb-true b 10 k) record { no_digit = refl; no_exponent = refl; no_point = refl; no_sign = refl }
    go false i false j false k true l h = rw (eqb-true b 13 l) record { no_digit = refl; no_exponent = refl; no_point = refl; no_sign = refl }
    go false i false j false k false l h = absurd (true≢false (sym h))

comma_ends : Ends (code ",")
unfolding is_digit is_e within
comma_ends = record { no_digit = refl; no_exponent = refl; no_point = refl; no_sign = refl }

bracket_ends : Ends (code "]")
unfolding is_digit is_e within
bracket_ends = record { no_digit = refl; no_exponent = refl; no_point = refl; no_sign = refl }

-- blanks and a byte that is none
record Next (x : Bytes) : Type 0 where
  byte_next : ℕ
  rest : Bytes
  is : x ≡ byte_next ∷ rest
  ends : Ends byte_next

next_ends : (w : Bytes) (b : ℕ) (rest : Bytes) → all_blank w ≡ true → Ends b → Next (w ++ (b ∷ rest))
unfolding all_blank
next_ends [] b rest h e = record { byte_next = b; rest = rest; is = refl; ends = e }
next_ends (c ∷ w) b rest h e = record { byte_next = c; rest = w ++ (b ∷ rest); is = refl; ends = blank_ends c (both_true (is_blank c) (all_blank w) h).0 }

-- what stands first in the rest of a text
first_byte : (s : Bytes) (at b : ℕ) (rest : Bytes) → drop at s ≡ b ∷ rest → (byte s at ≡ b) × (drop (at + 1) s ≡ rest) × (at < length s)
unfolding byte
first_byte s at b rest h =
    let here : at ≡ at + 0 = omega arith in (
      ap (λ x. get_or s x 0) here ∙ sym (get_or-drop at s 0 0) ∙ ap (λ x. get_or x 0 0) h,
      sym (drop-drop 1 at s) ∙ ap (drop 1) h,
      omega (arith, length-drop at s, ap length h),
    )

blanks_over : (fuel : ℕ) (s : Bytes) (at : ℕ) (w : Bytes) (b : ℕ) (rest : Bytes)
    → length s ≤ fuel + at → drop at s ≡ w ++ (b ∷ rest) → all_blank w ≡ true → is_blank b ≡ false →
    (blanks_from fuel s at ≡ at + length w) × (drop (at + length w) s ≡ b ∷ rest)
unfolding blanks_from all_blank
blanks_over zero s at w b rest l h i j = absurd (omega (arith, length-drop at s, ap length h, length-append w (b ∷ rest)))
blanks_over (suc fuel) s at [] b rest l h i j =
    let here : at + 0 ≡ at = omega arith in
    (rw ((first_byte s at b rest h).0, j) (sym here), rw here h)
blanks_over (suc fuel) s at (c ∷ w) b rest l h i j =
    let (blank, others) = both_true (is_blank c) (all_blank w) i in
    let (here, after, inside) = first_byte s at c (w ++ (b ∷ rest)) h in
    let (end, there) = blanks_over fuel s (at + 1) w b rest (omega arith) after others j in
    let far : at + suc (length w) ≡ at + 1 + length w = omega arith in
    (rw (here, blank, far) end, rw far there)

-- an element begins with a byte that is no blank and no bracket
record Begins (x : Bytes) : Type 0 where
  byte-first : ℕ
  rest : Bytes
  is : x ≡ byte-first ∷ rest
  no_blank : is_blank byte-first ≡ false
  no_bracket : eqb byte-first (code "]") ≡ false

alone_begins : (e : Bytes) (v : Value.Value) → Alone e v → (after : Bytes) → Begins (e ++ after)
unfolding byte
alone_begins [] v h after = absurd (omega (arith, value_grows 32 [] 0 0 h))
alone_begins (c ∷ e) v h after =
    record { byte-first = c; rest = e ++ after; is = refl; no_blank = go (is_blank c) refl; no_bracket = go' (eqb c (code "]")) refl }
  where
    go : (d : Bool) → is_blank c ≡ d → is_blank c ≡ false
    go true i = absurd (refused≢ok (sym (blank_refused 31 (c ∷ e) 0 0 i) ∙ h))
    go false i = i

    go' : (d : Bool) → eqb c (code "]") ≡ d → eqb c (code "]") ≡ false
    go' true i = absurd (refused≢ok (sym (bracket_refused 31 (c ∷ e) 0 0 (eqb-true c (code "]") i)) ∙ h))
    go' false i = i

listed-begins : {x : Bytes} {es : List Bytes} {vs : List Value.Value} → Listed x es → Each Alone es vs → Begins x
listed-begins (last e w w' h i) (one {y = v} a n) = alone_begins e v a _
listed-begins (more e w w' rest others h i l) (one {y = v} a n) = alone_begins e v a _

-- An element, blanks, and a comma or a bracket: where they stand.
record Standing (s : Bytes) (at : ℕ) (e : Bytes) (d : ℕ) (rest : Bytes) (mid : ℕ) : Type 0 where
  ends_there : mid ≡ at + length e
  bytes : part s at mid ≡ e
  mark : byte s (blanks s mid) ≡ d
  after : drop (blanks s mid + 1) s ≡ rest

standing : (left : ℕ) (s : Bytes) (at nodes : ℕ) (v : Value.Value) (mid : ℕ) → left ≤ 32 → mid ≤ length s → value left s at nodes ≡ ok (v, mid) →
    (e : Bytes) (u : Value.Value) → Alone e u → (w : Bytes) (d : ℕ) (rest : Bytes) → all_blank w ≡ true
    → is_blank d ≡ false → Ends d → drop at s ≡ e ++ (w ++ (d ∷ rest)) → Standing s at e d rest mid
unfolding part blanks
standing left s at nodes v mid l m h e u a w d rest blank no_blank ends here =
    let n = next_ends w d rest blank ends in
    let far = value-ends left s at nodes v mid l m h e u a n.byte_next n.rest n.ends (here ∙ ap (λ x. e ++ x) n.is) in
    let span : mid - at ≡ length e = omega arith in
    let gone : drop mid s ≡ w ++ (d ∷ rest) = ap (λ x. drop x s) far ∙ sym (drop-drop (length e) at s)
    ∙ ap (drop (length e)) here ∙ drop-append_seam e (w ++ (d ∷ rest)) in
    let (skipped, mark) = blanks_over (length s) s mid w d rest (omega arith) gone blank no_blank in
    let (found, after, _) = first_byte s (mid + length w) d rest mark in
    record {
      ends_there = far;
      bytes = rw (span, here) (take-append_seam e (w ++ (d ∷ rest)));
      mark = rw skipped found;
      after = rw skipped after;
    }

-- one item as it is read
record Item (fuel : ℕ) (s : Bytes) (nodes : ℕ) (so_far : Members) (at : ℕ) (kids : Members) (next : ℕ) : Type 0 where
  value_read : Value.Value
  mid : ℕ
  reads : value 31 s at (nodes + size so_far) ≡ ok (value_read, mid)
  inside : mid ≤ length s
  others : eqb (byte s (blanks s mid)) (code "]") ≡ false →
      items fuel (value 31 s) false s nodes (so_far ⧺ single (named [] value_read)) (blanks s (blanks s mid + 1)) ≡ ok (kids, next)

item : (fuel : ℕ) (s : Bytes) (nodes : ℕ) (so_far : Members) (at : ℕ) (kids : Members) (next : ℕ) → next ≤ length s →
    items (suc fuel) (value 31 s) false s nodes so_far at ≡ ok (kids, next) → Item fuel s nodes so_far at kids next
unfolding items name_for closing_bracket ◌>>=◌
item fuel s nodes so_far at kids next l h =
    let (read-v, e, i) = both_ok (value 31 s at (nodes + size so_far)) _ _ h in
    go read-v.0 read-v.1 e (eqb (byte s (blanks s read-v.1)) (code "]")) refl i
  where
    go : (v : Value.Value) (mid : ℕ) → value 31 s at (nodes + size so_far) ≡ ok (v, mid) → (c : Bool) → eqb (byte s (blanks s mid)) (code "]") ≡ c →
        (if c then ok (so_far ⧺ single (named [] v), blanks s mid + 1) else
        (byte_in s (blanks s mid) (code ",") (code ",")
        >>= λ _. items fuel (value 31 s) false s nodes (so_far ⧺ single (named [] v)) (blanks s (blanks s mid + 1)))) ≡ ok
        (kids, next) →
        Item fuel s nodes so_far at kids next
    go v mid e true closed i =
        let same_place = second_ok i in
        let skipped = blanks_grow s mid in
        record { value_read = v; mid = mid; reads = e; inside = omega arith; others = λ open'. absurd (true≢false (sym closed ∙ open')) }
    go v mid e false open' i =
        let (b, f, j) = both_ok (byte_in s (blanks s mid) (code ",") (code ",")) _ _ i in
        let skipped = blanks_grow s mid in
        let skipped-again = blanks_grow s (blanks s mid + 1) in
        let rest-grown = items_grow fuel s nodes (so_far ⧺ single (named [] v)) (blanks s (blanks s mid + 1)) j in
        record { value_read = v; mid = mid; reads = e; inside = omega arith; others = λ _. j }

-- the blanks before an element, and the element
before_element : (s : Bytes) (at : ℕ) (w rest : Bytes) → all_blank w ≡ true → drop at s ≡ w ++ rest
    → (b : Begins rest) → (byte s (blanks s at) ≡ b.byte-first) × (drop (blanks s at) s ≡ rest)
unfolding blanks
before_element s at w rest blank here b =
    let (skipped, there) = blanks_over (length s) s at w b.byte-first b.rest (omega arith) (here ∙ ap (λ x. w ++ x) b.is) blank b.no_blank in
    (rw skipped (first_byte s (at + length w) b.byte-first b.rest there).0, rw skipped there ∙ sym b.is)

items_unique : (fuel : ℕ) (s : Bytes) (nodes : ℕ) (so_far : Members) (at : ℕ) (kids : Members) (next : ℕ) → next ≤ length s →
    items fuel (value 31 s) false s nodes so_far at ≡ ok (kids, next) → {x : Bytes} {es : List Bytes} {vs : List Value.Value}
    → Listed x es → drop at s ≡ x → Each Alone es vs → slices_from fuel s at ≡ es
unfolding items is_blank closing_bracket
items_unique zero s nodes so_far at kids next l h d here n = absurd (refused≢ok h)
items_unique (suc fuel) s nodes so_far at kids next l h (last e w w' blank blank') here (one {y = u} a n) =
    let i = item fuel s nodes so_far at kids next l h in
    let r = standing 31 s at (nodes + size so_far) i.value_read i.mid (omega arith)
    i.inside i.reads e u a w (code "]") w' blank refl bracket_ends here in
    slices_last fuel s at (value-place 31 s at (nodes + size so_far) (omega arith) i.inside i.reads) r.mark ∙ ap (λ x. x ∷ []) r.bytes
items_unique (suc fuel) s nodes so_far at kids next l h (more e w w' rest others blank blank' d) here (one {y = u} a n) =
    let i = item fuel s nodes so_far at kids next l h in
    let r = standing 31 s at (nodes + size so_far) i.value_read i.mid (omega arith)
    i.inside i.reads e u a w (code ",") (w' ++ rest) blank refl comma_ends here in
    let (_, there) = before_element s (blanks s i.mid + 1) w' rest blank' r.after (listed-begins d n) in
    let open' : eqb (byte s (blanks s i.mid)) (code "]") ≡ false = rw r.mark in
    let ih = items_unique fuel s nodes _ _ kids next l (i.others open') d there n in
    slices_more fuel s at (value-place 31 s at (nodes + size so_far) (omega arith) i.inside i.reads) r.mark ∙ ap₂ ◌∷◌ r.bytes ih

-- a bracket after blanks
before_mark : (s : Bytes) (at : ℕ) (w : Bytes) (d : ℕ) (rest : Bytes) → all_blank w ≡ true → is_blank d ≡ false
    → drop at s ≡ w ++ (d ∷ rest) → (byte s (blanks s at) ≡ d) × (drop (blanks s at + 1) s ≡ rest)
unfolding blanks
before_mark s at w d rest blank no_blank here =
    let (skipped, there) = blanks_over (length s) s at w d rest (omega arith) here blank no_blank in
    let (mark, after, _) = first_byte s (at + length w) d rest there in
    (rw skipped mark, rw skipped after)

array-unique : (s : Bytes) (kids : Members) (next : ℕ) → contents (value 31 s) false s (0 + 1) (blanks s 0 + 1) ≡ ok (kids, next) → next ≤ length s →
    {x : Bytes} {es : List Bytes} {vs : List Value.Value} → Layout x es → s ≡ x → Each Alone es vs → slices s ≡ es
unfolding contents closing_bracket is_blank
array-unique s kids next h l (empty w w' w'' b b' b'') here n =
    let (_, after) = before_mark s 0 w (code "[") (w' ++ (code "]" ∷ w'')) b refl here in
    slices_none s (before_mark s (blanks s 0 + 1) w' (code "]") w'' b' refl after).0
array-unique s kids next h l (filled w w' rest all b b' d) here n =
    let (_, after) = before_mark s 0 w (code "[") (w' ++ rest) b refl here in
    let begins = listed-begins d n in
    let (first, there) = before_element s (blanks s 0 + 1) w' rest b' after begins in
    let open' : eqb (byte s (blanks s (blanks s 0 + 1))) (code "]") ≡ false = rw first begins.no_bracket in
    slices_some s open' ∙ items_unique (length s) s (0 + 1) none (blanks s (blanks s 0 + 1)) kids next l (rw open' at h) d there n

-- Texts that are values alone, and that make up an array's text with commas, brackets and blanks, are its elements.
pub slices_unique : {s : Bytes} {v : Value.Value} {es : List Bytes} {vs : List Value.Value}
    → read s ≡ ok v → is_array v.label ≡ true → Laid s es vs → slices s ≡ es
slices_unique {s} {v} h a d =
    let r = array-read s v h a in
    let grown = blanks_grow s r.next in
    let end = r.end in
    array-unique s v.kids r.next r.kids (omega arith) d.layout refl d.alone
