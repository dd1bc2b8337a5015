-- The reader of JSON text is complete.
use Rattle.std.specs.Prelude.{if◌then◌else◌}
use Prim.Native.Nat.{ℕ, zero, suc, ◌+◌, ◌-◌, ◌<◌, ◌≤◌}
use Prim.Native.Char.{code}
use mathlib.Core.Path.{◌≡◌, refl, ap, sym, ◌∙◌}
use mathlib.Core.Bool.{Bool, true, false, true≢false}
use mathlib.Core.List.{[], ◌∷◌, ◌++◌}
use native.Mathlib.Omega.{arith}
use lib.ListN.{length}
use lib.Dec.{eqb, ltb}
use borrow.Author.Tests.{eq-eqb, ne_eqb, ltb-false}
use Rattle.spec.specs.Outcome.{ok, refused, ◌>>=◌}
use Rattle.spec.specs.Refusal.{repeated_name, too_deep, too_many_nodes}
use Rattle.spec.specs.Limits.{max_depth, max_nodes}
use Rattle.spec.specs.Bytes.{Bytes, Text, ascii, byte, within}
use Rattle.spec.specs.Numbers as Numbers
use Rattle.spec.specs.Numbers.{is_digit}
use Rattle.spec.specs.Forest as Forest
use Rattle.spec.specs.Forest.{size, single, ◌⧺◌}
use Rattle.spec.specs.Value as Value
use Rattle.spec.specs.Value.{Label, Members, leaf, named, has, depth, depths, levels, nodes}
use Rattle.spec.specs.Read as Read
use Rattle.spec.specs.Read.{is_blank, blanks, word_at, room_for, literal_value, number_value, string_value, scalar, fresh, name_for}
use Rattle.spec.specs.Read.{container_label, closing_bracket}
use Rattle.spec.specs.Read.{items, contents, container, read}
use Rattle.grammar.specs.Grammar.{ws, structural, number, string, node, value, object, members, member, array, elements, JSON-text, name_separator}
use Rattle.grammar.specs.Grammar.{value_separator}
use Rattle.grammar.specs.Limits.{DistinctNames, Fits, Everywhere, WithinLimits}
use Rattle.grammar.proofs.Containers.{opening_bracket, container_of, closing_positive, comma_no_closing}
use Rattle.grammar.proofs.Places.{From, from_whole, in_text, first, split, bytes}
use Rattle.grammar.proofs.Members.{⧺_assoc, size_⧺, fresh_name}
use Rattle.grammar.proofs.ReadSound.{blanks_sound}
use Rattle.grammar.proofs.Complete.{Reads, reads, exceeds, reads_ok, reads_same, asks_more, reads_then}
use Rattle.grammar.proofs.StringsComplete.{byte_in_reads, string-reads}
use Rattle.grammar.proofs.NumbersComplete.{Stops, NumberBegins, number-begins, number-reads}
use Rattle.grammar.proofs.Structural.{nothing_blank, blanks_stay, blanks_skip, nothing_stops, ws-stops, Marked, opening_marked, closing_marked}
use Rattle.grammar.proofs.Structural.{comma_marked, colon_marked}

-- Scalars.

-- what is asked of a value, given how many levels are left and how many values have begun before
pub record Asked (left before : ℕ) (v : Value.Value) : Type 0 where
  pub shallow : depth v ≤ left
  pub few : before + nodes v ≤ max_nodes
  pub fits : Fits v.label v.kids
  pub below : Everywhere v.kids

-- a value from a place to the next, where the reader passes the blanks before it and may leave those after it
pub record ValueRead (s : Bytes) (left before at next : ℕ) (v : Value.Value) : Type 0 where
  pub end : ℕ
  pub outcome : Reads (v, end) (Asked left before v) (Read.value left s (blanks s at) before)
  pub after : blanks s end ≡ blanks s next
  pub no_bracket : byte s (blanks s at) ≡ code "]" → ⊥

pub room_reads : {asked : Type 0} (before at : ℕ) → (asked → before < max_nodes) → Reads at asked (room_for before at)
unfolding room_for
room_reads {asked} before at few = go (ltb before max_nodes) refl
  where
    go : (c : Bool) → ltb before max_nodes ≡ c → Reads at asked (if c then ok at else refused too_many_nodes at)
    go true e = reads
    go false e = exceeds {number = too_many_nodes} (λ i. omega arith) (λ a. let l = few a in let m = ltb-false before max_nodes e in omega arith)

room : (left before : ℕ) (v : Value.Value) → Asked left before v → before < max_nodes
unfolding nodes
room left before v a = let l = a.few in omega arith

pub value-scalar : (left : ℕ) (s : Bytes) (at before : ℕ) → eqb (byte s at) (code "[") ≡ false → eqb (byte s at) (code "{") ≡ false →
    Read.value left s at before ≡ scalar s at before
unfolding Read.value
value-scalar zero s at before e f = rw (e, f)
value-scalar (suc left) s at before e f = rw (e, f)

-- no blank and no bracket
pub record Plain (b : ℕ) : Type 0 where
  pub no_blank : is_blank b ≡ false
  pub no-array : eqb b (code "[") ≡ false
  pub no-object : eqb b (code "{") ≡ false
  pub no_closing : b ≡ code "]" → ⊥

scalar_read : {s : Bytes} {at next : ℕ} (left before : ℕ) {v : Value.Value} → Plain (byte s at) →
    Reads (v, next) (Asked left before v) (scalar s at before) → ValueRead s left before at next v
scalar_read {s} {at} {next} left before p r =
    let stay = blanks_stay s at p.no_blank in
    record {
      end = next;
      outcome = rw (stay, value-scalar left s at before p.no-array p.no-object) r;
      after = refl;
      no_bracket = rw stay p.no_closing;
    }

word_at_reads : (word : Bytes) {s : Bytes} {at next : ℕ} → From s at word next → word_at word s at ≡ ok next
unfolding word_at ◌>>=◌
word_at_reads [] {at = at} f = let far = f.far in ap ok (omega arith)
word_at_reads (b ∷ word) {s} {at} f = let (e, g, _) = first f in rw (byte_in_reads s at b b e (omega arith) (omega arith)) (word_at_reads word g)

literal_reads : (label : Label) (word : Bytes) {s : Bytes} {b at next : ℕ} → From s at (b ∷ word) next →
    literal_value label word s at ≡ ok (leaf label, next)
unfolding literal_value ◌>>=◌
literal_reads label word f = rw (word_at_reads word (first f).1)

pub string-plain : {s w : Bytes} {cs : Text} {at next : ℕ} → string w cs → From s at w next → (byte s at ≡ 0x22) × Plain (byte s at)
unfolding is_blank
string-plain (string.quoted d) f =
    let (e, _, _) = first f in
    (e, rw e (record { no_blank = refl; no-array = refl; no-object = refl; no_closing = λ i. omega arith }))

pub number-plain : {b : ℕ} → NumberBegins b → Plain b
unfolding is_blank
number-plain {b} h =
    let (low, high) = h.range in
    record {
      no_blank = rw
          (ne_eqb b 0x20 (λ i. omega arith), ne_eqb b 0x09 (λ i. omega arith), ne_eqb b 0x0A (λ i. omega arith), ne_eqb b 0x0D (λ i. omega arith));
      no-array = ne_eqb b (code "[") (λ i. omega arith);
      no-object = ne_eqb b (code "{") (λ i. omega arith);
      no_closing = λ i. omega arith;
    }

module _ {s : Bytes} {at next : ℕ} (left before : ℕ) where
  -- a literal by its first byte
  pub literal_read : (label : Label) (word : Bytes) {b : ℕ} →
      (byte s at ≡ b → scalar s at before ≡ (room_for before at >>= λ _. literal_value label word s at)) → Plain b → From s at (b ∷ word) next →
      ValueRead s left before at next (leaf label)
  literal_read label word begins p f =
      let (e, _, _) = first f in
      scalar_read left before (rw e p)
      (rw (begins e)
      (reads_then (λ _. literal_value label word s at) (room_reads before at (room left before (leaf label))) (reads_ok _ (literal_reads label word f))))

  pub null_read : From s at (ascii "null") next → ValueRead s left before at next (leaf Label.null_literal)
  unfolding ascii scalar is_digit within is_blank
  null_read f =
      literal_read Label.null_literal _ (λ e. rw e) (record { no_blank = refl; no-array = refl; no-object = refl; no_closing = λ i. omega arith }) f

  pub true_read : From s at (ascii "true") next → ValueRead s left before at next (leaf Label.true_literal)
  unfolding ascii scalar is_digit within is_blank
  true_read f =
      literal_read Label.true_literal _ (λ e. rw e) (record { no_blank = refl; no-array = refl; no-object = refl; no_closing = λ i. omega arith }) f

  pub false_read : From s at (ascii "false") next → ValueRead s left before at next (leaf Label.false_literal)
  unfolding ascii scalar is_digit within is_blank
  false_read f =
      literal_read Label.false_literal _ (λ e. rw e) (record { no_blank = refl; no-array = refl; no-object = refl; no_closing = λ i. omega arith }) f

  pub string-read : {w : Bytes} {cs : Text} → string w cs → From s at w next → ValueRead s left before at next (leaf (Label.string cs))
  unfolding scalar string_value ◌>>=◌
  string-read d f =
      let (e, p) = string-plain d f in
      scalar_read left before p (rw e (reads_then (λ _. string_value s at) (room_reads before at (room left before _)) (rw (string-reads d f) reads)))

  number_read : {w : Bytes} → number w → From s at w next → Stops (byte s next) → ValueRead s left before at next (leaf (Label.number w))
  unfolding scalar number_value
  number_read {w} d f stop =
      let b = number-begins d f in
      let (low, high) = b.range in
      let v = leaf (Label.number w) in
      let found : Reads next (Asked left before v) (Numbers.number s at) = asks_more (λ a. a.fits) (number-reads d f stop) in
      scalar_read left before (number-plain b)
      (rw (ne_eqb (byte s at) 0x22 (λ i. omega arith), b.starts)
      (reads_then (λ _. number_value s at) (room_reads before at (room left before v)) (reads_then _ found (rw (bytes f) reads))))

-- Containers.

-- what is asked of the values of a container from one on
record AskedItems (is_object : Bool) (left before : ℕ) (so_far f : Members) : Type 0 where
  distinct : is_object ≡ true → DistinctNames (so_far ⧺ f)
  shallow : depths f ≤ left
  few : before + (size so_far + size f) ≤ max_nodes
  below : Everywhere f

module _ {is_object : Bool} {left before : ℕ} {so_far : Members} (name : Text) (v : Value.Value)
    (f : Members) (a : AskedItems is_object left before so_far (node name v f)) where
  asked-value : Asked left (before + size so_far) v
  unfolding depth depths nodes size
  asked-value =
      let shallow = a.shallow in
      let few = a.few in
      let (fits, below, _) = parts a.below in
      record { shallow = omega arith; few = omega arith; fits = fits; below = below }
    where
      parts : {e : Value.Entry} {kids rest : Members} → Everywhere (Forest.tree e kids rest) →
          Fits e.label kids × Everywhere kids × Everywhere rest
      parts (Everywhere.one_more fits below others) = (fits, below, others)

  asked_rest : AskedItems is_object left before (so_far ⧺ single (named name v)) f
  unfolding depths size ◌⧺◌
  asked_rest =
      let shallow = a.shallow in
      let few = a.few in
      record {
        distinct = λ o. rw (⧺_assoc so_far (single (named name v)) f) (a.distinct o);
        shallow = omega arith;
        few = omega (arith, size_⧺ so_far (single (named name v)));
        below = others a.below;
      }
    where
      others : {e : Value.Entry} {kids rest : Members} → Everywhere (Forest.tree e kids rest) → Everywhere rest
      others (Everywhere.one_more fits below rest) = rest

  asked_name : is_object ≡ true → has name so_far ≡ false
  asked_name o = fresh_name (named name v).root v.kids f so_far (a.distinct o)

-- a value of a container with its name, from a place to the next
pub record ItemRead (is_object : Bool) (s : Bytes) (left before : ℕ) (so_far : Members) (at next : ℕ) (name : Text) (v : Value.Value) : Type 0 where
  pub mid : ℕ
  pub end : ℕ
  pub named_so : Reads (name, mid) (is_object ≡ true → has name so_far ≡ false) (name_for is_object s so_far (blanks s at))
  pub valued : Reads (v, end) (Asked left (before + size so_far) v) (Read.value left s mid (before + size so_far))
  pub after : blanks s end ≡ blanks s next
  pub no_bracket : byte s (blanks s at) ≡ closing_bracket is_object → ⊥

module _ {is_object : Bool} {s : Bytes} {left before : ℕ} {so_far : Members} {at next : ℕ} {name : Text} {v : Value.Value}
    (fuel : ℕ) (r : ItemRead is_object s left before so_far at next name v) where
  items_last : byte s (blanks s next) ≡ closing_bracket is_object →
      Reads (so_far ⧺ single (named name v), blanks s next + 1) (AskedItems is_object left before so_far (node name v Forest.none))
      (items (suc fuel) (Read.value left s) is_object s before so_far (blanks s at))
  unfolding items
  items_last mark =
      reads_then _ (asks_more (asked_name name v Forest.none) r.named_so)
      (reads_then _ (asks_more (asked-value name v Forest.none) r.valued)
      (rw (r.after, mark, eq-eqb (closing_bracket is_object) (closing_bracket is_object) refl) reads))

  items_more : {f kids : Members} {stop : ℕ} → byte s (blanks s next) ≡ code "," →
      Reads (kids, stop) (AskedItems is_object left before (so_far ⧺ single (named name v)) f)
      (items fuel (Read.value left s) is_object s before (so_far ⧺ single (named name v)) (blanks s (blanks s next + 1))) →
      Reads (kids, stop) (AskedItems is_object left before so_far (node name v f))
      (items (suc fuel) (Read.value left s) is_object s before so_far (blanks s at))
  unfolding items
  items_more {f} mark rest =
      reads_then _ (asks_more (asked_name name v f) r.named_so)
      (reads_then _ (asks_more (asked-value name v f) r.valued)
      (rw (r.after, mark, ne_eqb (code ",") (closing_bracket is_object) (comma_no_closing is_object))
      (reads_then (λ _. items fuel (Read.value left s) is_object s before (so_far ⧺ single (named name v)) (blanks s (blanks s next + 1)))
      (reads_ok _ (byte_in_reads s (blanks s next) (code ",") (code ",") mark (omega arith) (omega arith))) (asks_more (asked_rest name v f) rest))))

-- the values of a container from one on, up to the closing bracket after them
record ItemsRead (is_object : Bool) (s : Bytes) (left before at next : ℕ) (f : Members) : Type 0 where
  outcome : (fuel : ℕ) (so_far : Members) → length s ≤ fuel + at →
      Reads (so_far ⧺ f, blanks s next + 1) (AskedItems is_object left before so_far f) (items fuel (Read.value left s) is_object s before so_far (blanks s at))
  no_bracket : byte s (blanks s at) ≡ closing_bracket is_object → ⊥

no_levels : (is_object : Bool) {before : ℕ} (f : Members) → Asked zero before (container_of is_object f) → ⊥
unfolding container_label depth levels Value.is_container Value.tag
no_levels false f a = let l = a.shallow in omega arith
no_levels true f a = let l = a.shallow in omega arith

asked_items : (is_object : Bool) {left before : ℕ} (f : Members) → Asked (suc left) before (container_of is_object f) →
    AskedItems is_object left (before + 1) Forest.none f
unfolding container_label depth levels Value.is_container Value.tag nodes size ◌⧺◌
asked_items false f a =
    let l = a.shallow in
    let m = a.few in
    record { distinct = λ e. absurd (true≢false (sym e)); shallow = omega arith; few = omega arith; below = a.below }
asked_items true f a =
    let l = a.shallow in
    let m = a.few in
    record { distinct = λ e. a.fits; shallow = omega arith; few = omega arith; below = a.below }

pub value-deep : (is_object : Bool) (s : Bytes) (at before : ℕ) → byte s at ≡ opening_bracket is_object → Read.value zero s at before ≡ refused too_deep at
unfolding Read.value
value-deep false s at before e = rw e
value-deep true s at before e = rw e

pub value-container : (is_object : Bool) (left : ℕ) (s : Bytes) (at before : ℕ) → byte s at ≡ opening_bracket is_object →
    Read.value (suc left) s at before ≡ container (Read.value left s) is_object s at before
unfolding Read.value
value-container false left s at before e = rw e
value-container true left s at before e = rw e

opening-closing : (is_object : Bool) → opening_bracket is_object ≡ code "]" → ⊥
opening-closing false e = omega arith
opening-closing true e = omega arith

container-read : (is_object : Bool) (s : Bytes) (left before at next end : ℕ) (f : Members) → byte s (blanks s at) ≡ opening_bracket is_object →
    ((left before : ℕ) → Reads (f, end) (AskedItems is_object left before Forest.none f) (contents (Read.value left s) is_object s before (blanks s at + 1))) →
    blanks s end ≡ blanks s next → ValueRead s left before at next (container_of is_object f)
unfolding container
container-read is_object s left before at next end f mark inside after =
    record { end = end; outcome = outcome left; after = after; no_bracket = λ e. opening-closing is_object (sym mark ∙ e) }
  where
    outcome : (left : ℕ) → Reads (container_of is_object f, end) (Asked left before (container_of is_object f)) (Read.value left s (blanks s at) before)
    outcome zero = rw (value-deep is_object s (blanks s at) before mark) (exceeds {number = too_deep} (λ i. omega arith) (no_levels is_object f))
    outcome (suc left) =
        rw (value-container is_object left s (blanks s at) before mark)
        (reads_then _ (room_reads before (blanks s at) (room (suc left) before (container_of is_object f)))
        (reads_then (λ x. ok (container_of is_object x.0, x.1)) (asks_more (asked_items is_object f) (inside left (before + 1))) reads))

-- the brackets and what is between them
module _ (is_object : Bool) {s : Bytes} {at mid next : ℕ} (begin : Marked s at (opening_bracket is_object) mid) where
  empty_read : (left before : ℕ) → Marked s mid (closing_bracket is_object) next → ValueRead s left before at next (container_of is_object Forest.none)
  unfolding contents
  empty_read left before m =
      container-read is_object s left before at next (blanks s mid + 1) Forest.none begin.mark
      (λ left before. rw (begin.after, m.mark, eq-eqb (closing_bracket is_object) (closing_bracket is_object) refl) reads) m.after

  filled-read : {f : Members} {stop : ℕ} (left before : ℕ) → ((left before : ℕ) → ItemsRead is_object s left before mid stop f) →
      Marked s stop (closing_bracket is_object) next →
      ValueRead s left before at next (container_of is_object f)
  unfolding contents ◌⧺◌
  filled-read {f} {stop} left before r m =
      container-read is_object s left before at next (blanks s stop + 1) f begin.mark
      (λ left before. rw (begin.after, ne_eqb (byte s (blanks s mid)) (closing_bracket is_object) (r left before).no_bracket)
      ((r left before).outcome (length s) Forest.none (omega arith)))
      m.after

-- the values one after another
pub in_blanks : (s : Bytes) (at : ℕ) {c : ℕ} → byte s (blanks s at) ≡ c → 0 < c → at < length s
in_blanks s at e l = let far = (blanks_sound s at).from.far in omega (arith, in_text s (blanks s at) (rw e l))

module _ {is_object : Bool} {s : Bytes} {left before at next : ℕ} {name : Text} {v : Value.Value}
    (grows : at ≤ next) (r : (so_far : Members) → ItemRead is_object s left before so_far at next name v) where
  last_read : byte s (blanks s next) ≡ closing_bracket is_object → ItemsRead is_object s left before at next (node name v Forest.none)
  last_read mark = record { outcome = outcome; no_bracket = (r Forest.none).no_bracket }
    where
      outcome : (fuel : ℕ) (so_far : Members) → length s ≤ fuel + at →
          Reads (so_far ⧺ node name v Forest.none, blanks s next + 1) (AskedItems is_object left before so_far (node name v Forest.none))
          (items fuel (Read.value left s) is_object s before so_far (blanks s at))
      outcome zero so_far l = absurd (omega (arith, in_blanks s next mark (closing_positive is_object)))
      outcome (suc fuel) so_far l = items_last fuel (r so_far) mark

  more_read : {mid stop : ℕ} {f : Members} → Marked s next (code ",") mid → ItemsRead is_object s left before mid stop f →
      ItemsRead is_object s left before at stop (node name v f)
  unfolding ◌⧺◌
  more_read {mid} {stop} {f} m rest = record { outcome = outcome; no_bracket = (r Forest.none).no_bracket }
    where
      outcome : (fuel : ℕ) (so_far : Members) → length s ≤ fuel + at →
          Reads (so_far ⧺ node name v f, blanks s stop + 1) (AskedItems is_object left before so_far (node name v f))
          (items fuel (Read.value left s) is_object s before so_far (blanks s at))
      outcome zero so_far l = absurd (omega (arith, in_blanks s next m.mark (omega arith)))
      outcome (suc fuel) so_far l =
          let further = m.grows in
          let others = rest.outcome fuel (so_far ⧺ single (named name v)) (omega arith) in
          reads_same (ap (λ k. (k, blanks s stop + 1)) (⧺_assoc so_far (single (named name v)) f))
          (items_more fuel (r so_far) m.mark (rw m.after others))

-- an element, and a member
pub element_read : {s : Bytes} {left before : ℕ} (so_far : Members) {at next : ℕ} {v : Value.Value} → ((before : ℕ) → ValueRead s left before at next v) →
    ItemRead false s left before so_far at next [] v
unfolding name_for closing_bracket
element_read {s} {before = before} so_far {at} r =
    let q = r (before + size so_far) in
    record { mid = blanks s at; end = q.end; named_so = reads; valued = q.outcome; after = q.after; no_bracket = q.no_bracket }

fresh_reads : (name : Text) (so_far : Members) (p : ℕ) → Reads p (true ≡ true → has name so_far ≡ false) (fresh name so_far p)
unfolding fresh
fresh_reads name so_far p = go (has name so_far) refl
  where
    go : (c : Bool) → has name so_far ≡ c → Reads p (true ≡ true → has name so_far ≡ false) (if c then refused repeated_name p else ok p)
    go true e = exceeds {number = repeated_name} (λ i. omega arith) (λ a. true≢false (sym e ∙ a refl))
    go false e = reads

-- a name with its colon
pub name_reads : {s n : Bytes} {name : Text} (so_far : Members) {at p q : ℕ} → string n name → From s at n p → Marked s p (code ":") q →
    Reads (name, blanks s q) (true ≡ true → has name so_far ≡ false) (name_for true s so_far (blanks s at))
unfolding name_for
name_reads {s} {name = name} so_far {at} {p} d f m =
    rw (blanks_stay s at (string-plain d f).1.no_blank)
    (reads_then _ (reads_ok _ (string-reads d f))
    (reads_then _ (fresh_reads name so_far (p - 1))
    (reads_then _ (reads_ok _ (byte_in_reads s (blanks s p) (code ":") (code ":") m.mark (omega arith) (omega arith))) (rw m.after reads))))

pub member-read : {s n : Bytes} {name : Text} {left before : ℕ} (so_far : Members) {at p q next : ℕ} {v : Value.Value} → string n name → From s at n p →
    Marked s p (code ":") q →
    ((before : ℕ) → ValueRead s left before q next v) → ItemRead true s left before so_far at next name v
unfolding closing_bracket
member-read {s} {name = name} {before = before} so_far {at} {p} {q} d f m r =
    let (quote, plain) = string-plain d f in
    let v = r (before + size so_far) in
    record {
      mid = blanks s q;
      end = v.end;
      named_so = name_reads so_far d f m;
      valued = v.outcome;
      after = v.after;
      no_bracket = rw (blanks_stay s at plain.no_blank, quote) (λ i. omega arith);
    }

-- The induction on derivations.
abbrev pub ReadsValue : Bytes → Value.Value → Type 0
ReadsValue w v = (s : Bytes) (at next : ℕ) → From s at w next → Stops (byte s next) → (left before : ℕ) → ValueRead s left before at next v

abbrev ReadsContainer : Bool → Bytes → Members → Type 0
ReadsContainer is_object w f =
    (s : Bytes) (at next : ℕ) → From s at w next → (left before : ℕ) → ValueRead s left before at next (container_of is_object f)

abbrev ReadsItems : Bool → Bytes → Members → Type 0
ReadsItems is_object w f =
    (s : Bytes) (at next : ℕ) → From s at w next → Stops (byte s next) → byte s (blanks s next) ≡ closing_bracket is_object →
    (left before : ℕ) → ItemsRead is_object s left before at next f

abbrev ReadsMember : Bytes → Text → Value.Value → Type 0
ReadsMember w name v =
    (s : Bytes) (at next : ℕ) → From s at w next → Stops (byte s next) →
    (left before : ℕ) (so_far : Members) → ItemRead true s left before so_far at next name v

module _ (is_object : Bool) where
  empty_reads : {b e : Bytes} → structural (opening_bracket is_object) b → structural (closing_bracket is_object) e →
      ReadsContainer is_object (b ++ e) Forest.none
  empty_reads {b} {e} hb he s at next f left before =
      let (g, h) = split b e f in
      empty_read is_object (opening_marked is_object hb g) left before (closing_marked is_object he h)

  filled_reads : {b e : Bytes} (w : Bytes) (f : Members) → structural (opening_bracket is_object) b → ReadsItems is_object w f →
      structural (closing_bracket is_object) e → ReadsContainer is_object (b ++ (w ++ e)) f
  filled_reads {b} {e} w f hb ih he s at next from left before =
      let (g, h) = split b (w ++ e) from in
      let (i, j) = split w e h in
      let m = closing_marked is_object he j in
      filled-read is_object (opening_marked is_object hb g) left before (ih s _ _ i m.stops m.mark) m

last_element_reads : (w : Bytes) (v : Value.Value) → ReadsValue w v → ReadsItems false w (node [] v Forest.none)
last_element_reads w v ih s at next f stop mark left before =
    let far = f.far in last_read (omega arith) (λ so_far. element_read so_far (ih s at next f stop left)) mark

more-elements-reads : (w : Bytes) {c : Bytes} (ws : Bytes) (v : Value.Value) (f : Members) → ReadsValue w v → value_separator c →
    ReadsItems false ws f → ReadsItems false (w ++ (c ++ ws)) (node [] v f)
more-elements-reads w {c} ws v f ih hc rest s at next from stop mark left before =
    let (g, h) = split w (c ++ ws) from in
    let (i, j) = split c ws h in
    let m = comma_marked hc i in
    let far = g.far in
    more_read (omega arith) (λ so_far. element_read so_far (ih s at _ g m.stops left)) m (rest s _ next j stop mark left before)

last-member-reads : (w : Bytes) (name : Text) (v : Value.Value) → ReadsMember w name v → ReadsItems true w (node name v Forest.none)
last-member-reads w name v ih s at next f stop mark left before =
    let far = f.far in last_read (omega arith) (ih s at next f stop left before) mark

more-members-reads : (w : Bytes) {c : Bytes} (ws : Bytes) (name : Text) (v : Value.Value) (f : Members) → ReadsMember w name v → value_separator c →
    ReadsItems true ws f → ReadsItems true (w ++ (c ++ ws)) (node name v f)
more-members-reads w {c} ws name v f ih hc rest s at next from stop mark left before =
    let (g, h) = split w (c ++ ws) from in
    let (i, j) = split c ws h in
    let m = comma_marked hc i in
    let far = g.far in
    more_read (omega arith) (ih s at _ g m.stops left before) m (rest s _ next j stop mark left before)

pair_reads : {n c : Bytes} (w : Bytes) {name : Text} (v : Value.Value) → string n name → name_separator c → ReadsValue w v →
    ReadsMember (n ++ (c ++ w)) name v
pair_reads {n} {c} w v d hc ih s at next f stop left before so_far =
    let (g, h) = split n (c ++ w) f in
    let (i, j) = split c w h in
    member-read so_far d g (colon_marked hc i) (ih s _ next j stop left)

pub value-reads : {w : Bytes} {v : Value.Value} → value w v → ReadsValue w v
unfolding container_label closing_bracket
value-reads d =
    elim d as
    (λ w v _. ReadsValue w v) (λ w f _. ReadsContainer true w f) (λ w f _. ReadsItems true w f) (λ w name v _. ReadsMember w name v)
    (λ w f _. ReadsContainer false w f) (λ w f _. ReadsItems false w f) [
      | value.false_literal ↦ λ s at next f stop left before. false_read left before f
      | value.null_literal ↦ λ s at next f stop left before. null_read left before f
      | value.true_literal ↦ λ s at next f stop left before. true_read left before f
      | value.of-object (_ → ih) ↦ λ s at next f stop left before. ih s at next f left before
      | value.of_array (_ → ih) ↦ λ s at next f stop left before. ih s at next f left before
      | value.of_number d ↦ λ s at next f stop left before. number_read left before d f stop
      | value.of-string d ↦ λ s at next f stop left before. string-read left before d f
      | object.no-members b e ↦ empty_reads true b e
      | object.with-members {w = w} {f = f} b (_ → ih) e ↦ filled_reads true w f b ih e
      | members.last-member {w} {name} {v} (_ → ih) ↦ last-member-reads w name v ih
      | members.more-members {w = w} {ws = ws} {name = name} {v = v} {f = f} (_ → ih) c (_ → rest) ↦ more-members-reads w ws name v f ih c rest
      | member.pair {w = w} {v = v} d c (_ → ih) ↦ pair_reads w v d c ih
      | array.no-elements b e ↦ empty_reads false b e
      | array.with-elements {w = w} {f = f} b (_ → ih) e ↦ filled_reads false w f b ih e
      | elements.last_element {w} {v} (_ → ih) ↦ last_element_reads w v ih
      | elements.more-elements {w = w} {ws = ws} {v = v} {f = f} (_ → ih) c (_ → rest) ↦ more-elements-reads w ws v f ih c rest
    ]

-- a text of the grammar
text_reads : {t : Bytes} {v : Value.Value} (s : Bytes) → JSON-text t v → From s 0 t (length s) → Reads v (WithinLimits v) (read s)
unfolding read
text_reads {v = v} s (JSON-text.text {before} {w} {after} hb d ha) f =
    let (g, h) = split before (w ++ after) f in
    let (i, j) = split w after h in
    let stop = ws-stops ha j (nothing_stops s {at = length s} (omega arith)) in
    let r = value-reads d s _ _ i stop max_depth 0 in
    let ended : blanks s r.end ≡ length s =
    r.after ∙ blanks_skip ha j ∙ blanks_stay s (length s) (nothing_blank s {at = length s} (omega arith)) in
    rw (blanks_skip hb g)
    (reads_then _ (asks_more (λ a. let few = a.few in record { shallow = a.shallow; few = omega arith; fits = a.fits; below = a.below }) r.outcome)
    (rw (ended, eq-eqb (length s) (length s) refl) reads))

pub read_complete : {s : Bytes} {v : Value.Value} → JSON-text s v → Reads v (WithinLimits v) (read s)
read_complete {s} d = text_reads s d (from_whole s)
