-- What is read is within the limits.
use Rattle.std.specs.Prelude.{if◌then◌else◌}
use Prim.Native.Nat.{ℕ, zero, suc, ◌+◌, ◌-◌, ◌*◌, ◌<◌, ◌≤◌}
use Prim.Native.Char.{code}
use mathlib.Core.Path.{◌≡◌, refl, subst, sym, ◌∙◌}
use mathlib.Core.Bool.{Bool, true, false, ◌||◌, true≢false}
use mathlib.Core.List.{[], ◌∷◌, ◌++◌}
use native.Mathlib.Omega.{arith}
use lib.ListN.{length, take, drop}
use lib.IntN.{nat_abs}
use lib.Dec.{eqb, leb, ltb}
use borrow.Author.Tests.{eqb-true, leb-true, ltb-true}
use Rattle.spec.specs.Outcome.{Outcome, ok, refused, ◌>>=◌}
use Rattle.spec.specs.Refusal.{repeated_name, too_many_nodes}
use Rattle.spec.specs.Limits.{max_depth, max_nodes, max_number, max_exponent}
use Rattle.spec.specs.Bytes.{Bytes, Text, byte, byte_in}
use Rattle.spec.specs.Worth.{decimal, exponent, signed_exponent}
use Rattle.spec.specs.Numbers as Numbers
use Rattle.spec.specs.Numbers.{is_digit, is_e, counted, digits, some_digits, exponent_digits, signed_digits}
use Rattle.spec.specs.Strings as Strings
use Rattle.spec.specs.Forest as Forest
use Rattle.spec.specs.Forest.{size, single, ◌⧺◌}
use Rattle.spec.specs.Value as Value
use Rattle.spec.specs.Value.{Label, Members, leaf, named, has, depth, depths, levels, nodes}
use Rattle.spec.specs.Read as Read
use Rattle.spec.specs.Read.{blanks, word_at, room_for, literal_value, number_value, string_value, scalar, fresh, name_for, container_label}
use Rattle.spec.specs.Read.{closing_bracket, items}
use Rattle.spec.specs.Read.{contents, container, read}
use Rattle.grammar.specs.Grammar.{optional, *DIGIT, minus, e, sign}
use Rattle.grammar.specs.Limits.{NumberFits, DistinctNames, Fits, Everywhere, WithinLimits}
use Rattle.grammar.proofs.Containers.{container_of}
use Rattle.grammar.proofs.Places.{From, here, join, cons, bytes}
use Rattle.grammar.proofs.Tests.{either}
use Rattle.grammar.proofs.Members.{size_⧺, depths_⧺, everywhere_⧺, distinct_add}
use Rattle.grammar.proofs.Sound.{Sound, Found}
use Rattle.grammar.proofs.NumbersSound.{digit, int-sound, frac-sound, sign-sound}
use Rattle.grammar.proofs.NumbersComplete.{signed_size, minus-exponent, int-exponent, frac-exponent}
use Rattle.grammar.proofs.ReadComplete.{Asked}

-- a result, if there is one, has the property
pub data Yields {X : Type 0} (P : X → Type 0) : Outcome X → Type 0 where
  yields : {x : X} → P x → Yields P (ok x)
  refuses : {number p : ℕ} → Yields P (refused number p)

pub yielded : {X : Type 0} {P : X → Type 0} {x : X} → Yields P (ok x) → P x
yielded (yields h) = h

choose : {X : Type 0} {P : X → Type 0} (c : Bool) {a b : Outcome X} → (c ≡ true → Yields P a) → (c ≡ false → Yields P b) →
    Yields P (if c then a else b)
choose true f g = f refl
choose false f g = g refl

and_then : {X Y : Type 0} {P : X → Type 0} {Q : Y → Type 0} {o : Outcome X} (g : X → Outcome Y) → Yields P o →
    ((x : X) → o ≡ ok x → P x → Yields Q (g x)) → Yields Q (o >>= g)
unfolding ◌>>=◌
and_then g (yields {x} h) rest = rest x refl h
and_then g refuses rest = refuses

implies : {X : Type 0} {P Q : X → Type 0} {o : Outcome X} → Yields P o → ((x : X) → P x → Q x) → Yields Q o
implies (yields {x} h) f = yields (f x h)
implies refuses f = refuses

anything : {X : Type 0} (o : Outcome X) → Yields (λ x. Unit {0}) o
anything (ok x) = yields tt
anything (refused number p) = refuses

-- Numbers: no byte is counted past the limit.
module _ (s : Bytes) (start : ℕ) where
  abbrev pub Short : ℕ → Type 0
  Short p = p ≤ start + max_number

  counted_short : (at : ℕ) → Yields Short (counted start at)
  unfolding counted
  counted_short at =
      choose (ltb at (start + max_number)) (λ e. let l = ltb-true at (start + max_number) e in yields {x = at + 1} (omega arith)) (λ e. refuses)

  digits_short : (fuel at : ℕ) → Short at → Yields Short (digits fuel s start at)
  unfolding digits
  digits_short zero at l = yields l
  digits_short (suc fuel) at l = choose (is_digit (byte s at)) (λ e. and_then _ (counted_short at) λ x _ m. digits_short fuel x m) (λ e. yields l)

  some_digits_short : (at : ℕ) → Short at → Yields Short (some_digits s start at)
  unfolding some_digits
  some_digits_short at l = and_then _ (anything (byte_in s at (code "0") (code "9"))) λ _ _ _. digits_short (length s) at l

  pub int-short : (at : ℕ) → Short at → Yields Short (Numbers.int s start at)
  unfolding Numbers.int
  int-short at l = choose (eqb (byte s at) (code "0")) (λ e. counted_short at) (λ e. some_digits_short at l)

  pub frac-short : (at : ℕ) → Short at → Yields Short (Numbers.frac s start at)
  unfolding Numbers.frac
  frac-short at l = choose (eqb (byte s at) (code ".")) (λ e. and_then _ (counted_short at) λ x _ m. some_digits_short x m) (λ e. yields l)

  sign-short : (at : ℕ) → Short at → Yields Short (Numbers.sign s start at)
  unfolding Numbers.sign
  sign-short at l = choose (eqb (byte s at) (code "+") || eqb (byte s at) (code "-")) (λ e. counted_short at) (λ e. yields l)

  exponent_digits_short : (fuel size at : ℕ) → Short at → Yields Short (exponent_digits fuel s start size at)
  unfolding exponent_digits
  exponent_digits_short zero size at l = yields l
  exponent_digits_short (suc fuel) size at l =
      choose (is_digit (byte s at))
      (λ e. choose (leb (size * 10 + (byte s at - code "0")) max_exponent)
      (λ e. and_then _ (counted_short at) λ x _ m. exponent_digits_short fuel _ x m) (λ e. refuses))
      (λ e. yields l)

  exp-short : (at : ℕ) → Short at → Yields Short (Numbers.exp s start at)
  unfolding Numbers.exp signed_digits
  exp-short at l =
      choose (is_e (byte s at))
      (λ e. and_then _ (counted_short at) λ x _ m.
      and_then _ (sign-short x m) λ y _ n.
      and_then _ (anything (byte_in s y (code "0") (code "9"))) λ _ _ _.
      exponent_digits_short (length s) 0 y n)
      (λ e. yields l)

-- What a sound reader finds.
sound_yields : {X : Type 0} {s : Bytes} {place : X → ℕ} {at : ℕ} {P : Bytes → X → Type 0} {o : Outcome X} → Sound s place at P o →
    Yields (Found s place at P) o
sound_yields (Sound.finds {w} f d) = yields (record { text = w; from = f; derived = d })
sound_yields (Sound.stops f r) = refuses
sound_yields (Sound.other h) = refuses

both : {X : Type 0} {P Q : X → Type 0} {o : Outcome X} → Yields P o → Yields Q o → Yields (λ x. P x × Q x) o
both (yields h) (yields i) = yields (h, i)
both refuses refuses = refuses

-- Exponents: no digit is read with which they pass the limit.
record DigitsFit (s : Bytes) (size at next : ℕ) : Type 0 where
  text : Bytes
  from : From s at text next
  derived : *DIGIT text
  fits : decimal size text ≤ max_exponent

record ExponentFits (s : Bytes) (at next : ℕ) : Type 0 where
  text : Bytes
  from : From s at text next
  fits : nat_abs (exponent text) ≤ max_exponent

counted_place : (start at : ℕ) → Yields (λ x. x ≡ at + 1) (counted start at)
unfolding counted
counted_place start at = choose (ltb at (start + max_number)) (λ e. yields refl) (λ e. refuses)

exponent_digits_fit : (fuel : ℕ) (s : Bytes) (start size at : ℕ) → size ≤ max_exponent →
    Yields (DigitsFit s size at) (exponent_digits fuel s start size at)
unfolding exponent_digits decimal
exponent_digits_fit zero s start size at l = yields (record { text = []; from = here at; derived = *DIGIT.none; fits = l })
exponent_digits_fit (suc fuel) s start size at l =
    choose (is_digit (byte s at))
    (λ e. let d = digit (byte s at) e in
    choose (leb (size * 10 + (byte s at - code "0")) max_exponent)
    (λ h. and_then _ (counted_place start at) λ x _ same.
    implies (exponent_digits_fit fuel s start (size * 10 + (byte s at - code "0")) x (leb-true _ _ h)) λ next r.
    record {
      text = byte s at ∷ r.text;
      from = cons (byte s at) (omega arith) refl (rw same at r.from);
      derived = *DIGIT.more d r.derived;
      fits = r.fits;
    })
    (λ h. refuses))
    (λ e. yields (record { text = []; from = here at; derived = *DIGIT.none; fits = l }))

e-positive : (b : ℕ) → is_e b ≡ true → 0 < b
unfolding is_e
e-positive b h = either (eqb b 0x65) _ h (λ i. let same = eqb-true b 0x65 i in omega arith) (λ i. let same = eqb-true b 0x45 i in omega arith)

module _ {s : Bytes} {at : ℕ} where
  nothing_written : ExponentFits s at at
  unfolding exponent
  nothing_written = record { text = []; from = here at; fits = omega arith }

  written : {y next : ℕ} {w : Bytes} → is_e (byte s at) ≡ true → From s (at + 1) w y → optional sign w → DigitsFit s 0 y next → ExponentFits s at next
  unfolding exponent
  written {w = w} h f p d =
      let size : nat_abs (signed_exponent (w ++ d.text)) ≡ decimal 0 d.text = signed_size p d.derived in
      let fits = d.fits in
      record { text = byte s at ∷ (w ++ d.text); from = cons (byte s at) (e-positive (byte s at) h) refl (join f d.from); fits = rw (h, size) fits }

exp-fits : (s : Bytes) (start at : ℕ) → Yields (ExponentFits s at) (Numbers.exp s start at)
unfolding Numbers.exp signed_digits
exp-fits s start at =
    choose (is_e (byte s at))
    (λ h. and_then _ (counted_place start at) λ x _ same.
    and_then _ (sound_yields (sign-sound s start x)) λ y _ w.
    and_then _ (anything (byte_in s y (code "0") (code "9"))) λ _ _ _.
    implies (exponent_digits_fit (length s) s start 0 y (omega arith)) λ next d.
    written h (rw same at w.from) w.derived d)
    (λ h. yields nothing_written)

-- a number after its sign
parts_fit : (s : Bytes) (start at : ℕ) {m : Bytes} → optional minus m → From s start m at → at ≤ start + max_number →
    Yields (λ next. NumberFits (take (next - start) (drop start s)))
    (Numbers.int s start at >>= λ fraction. Numbers.frac s start fraction >>= λ exponent. Numbers.exp s start exponent)
parts_fit s start at {m} pm fm l =
    and_then _ (both (int-short s start at l) (sound_yields (int-sound s start at))) λ p _ i.
    and_then _ (both (frac-short s start p i.0) (sound_yields (frac-sound s start p))) λ q _ f.
    implies (both (exp-short s start q f.0) (exp-fits s start q)) λ next x.
    let from = join fm (join i.1.from (join f.1.from x.1.from)) in
    let same = minus-exponent pm _ ∙ int-exponent i.1.derived _ ∙ frac-exponent f.1.derived x.1.text in
    let short = x.0 in
    let far = from.far in
    subst NumberFits (sym (bytes from)) (record { short = omega arith; exponent_fits = rw same x.1.fits })

pub number_fits : (s : Bytes) (start : ℕ) → Yields (λ next. NumberFits (take (next - start) (drop start s))) (Numbers.number s start)
unfolding Numbers.number Numbers.minus
number_fits s start = go (eqb (byte s start) 0x2D) refl
  where
    go : (c : Bool) → eqb (byte s start) 0x2D ≡ c →
        Yields (λ next. NumberFits (take (next - start) (drop start s)))
        (Numbers.int s start (if c then start + 1 else start) >>= λ fraction. Numbers.frac s start fraction >>= λ exponent. Numbers.exp s start exponent)
    go true h =
        let same = eqb-true (byte s start) 0x2D h in
        parts_fit s start (start + 1) (optional.present minus.minus-sign) (cons 0x2D (omega arith) same (here (start + 1))) (omega arith)
    go false h = parts_fit s start start optional.absent (here start) (omega arith)

-- Values.

-- scalars
easy : {left before : ℕ} (l : Label) → Value.is_container l ≡ false → Fits l Forest.none → before < max_nodes → Asked left before (leaf l)
unfolding depth levels nodes size
easy l e h m = record { shallow = rw e (omega arith); few = omega arith; fits = h; below = Everywhere.none_left }

room_then : {X : Type 0} {P : X → Type 0} {o : Outcome X} (before at : ℕ) → (before < max_nodes → Yields P o) → Yields P (room_for before at >>= λ _. o)
unfolding room_for ◌>>=◌
room_then {P = P} {o = o} before at f = go (ltb before max_nodes) refl
  where
    go : (c : Bool) → ltb before max_nodes ≡ c → Yields P ((if c then ok at else refused too_many_nodes at) >>= λ _. o)
    go true e = f (ltb-true before max_nodes e)
    go false e = refuses

abbrev pub Bounded : ℕ → ℕ → Value.Value × ℕ → Type 0
Bounded left before x = Asked left before x.0

literal_within : (left before : ℕ) (label : Label) (word s : Bytes) (at : ℕ) → Value.is_container label ≡ false → Fits label Forest.none →
    before < max_nodes → Yields (Bounded left before) (literal_value label word s at)
unfolding literal_value
literal_within left before label word s at e h l = and_then _ (anything (word_at word s (at + 1))) λ x _ _. yields (easy label e h l)

scalar-within : (left before : ℕ) (s : Bytes) (at : ℕ) → Yields (Bounded left before) (scalar s at before)
unfolding scalar string_value number_value Value.is_container Value.tag
scalar-within left before s at =
    choose (eqb (byte s at) (code "\""))
    (λ _. room_then before at λ l. and_then _ (anything (Strings.string s at)) λ x _ _. yields (easy (Label.string x.0) refl tt l)) λ _.
    choose (is_digit (byte s at) || eqb (byte s at) (code "-"))
    (λ _. room_then before at λ l. and_then _ (number_fits s at) λ x _ h. yields (easy (Label.number _) refl h l)) λ _.
    choose (eqb (byte s at) (code "n")) (λ _. room_then before at λ l. literal_within left before Label.null_literal _ s at refl tt l) λ _.
    choose (eqb (byte s at) (code "t")) (λ _. room_then before at λ l. literal_within left before Label.true_literal _ s at refl tt l) λ _.
    choose (eqb (byte s at) (code "f")) (λ _. room_then before at λ l. literal_within left before Label.false_literal _ s at refl tt l) λ _.
    refuses

-- the values of a container so far
record Kept (is_object : Bool) (left before : ℕ) (f : Members) : Type 0 where
  distinct : is_object ≡ true → DistinctNames f
  shallow : depths f ≤ left
  few : before + size f ≤ max_nodes
  below : Everywhere f

kept_none : {is_object : Bool} {left before : ℕ} → before ≤ max_nodes → Kept is_object left before Forest.none
unfolding depths size
kept_none l = record { distinct = λ _. DistinctNames.none_left; shallow = omega arith; few = omega arith; below = Everywhere.none_left }

kept_more : {is_object : Bool} {left before : ℕ} {f : Members} (name : Text) (v : Value.Value) → Kept is_object left before f →
    (is_object ≡ true → has name f ≡ false) → Asked left (before + size f) v →
    Kept is_object left before (f ⧺ single (named name v))
unfolding depths depth nodes size
kept_more {f = f} name v k new a =
    let shallow = k.shallow in
    let few = k.few in
    let flat = a.shallow in
    let room = a.few in
    record {
      distinct = λ o. distinct_add f (named name v).root v.kids (k.distinct o) (new o);
      shallow = depths_⧺ f (single (named name v)) _ shallow (omega arith);
      few = omega (arith, size_⧺ f (single (named name v)));
      below = everywhere_⧺ k.below (Everywhere.one_more a.fits a.below Everywhere.none_left);
    }

abbrev pub New : Bool → Members → Text × ℕ → Type 0
New is_object so_far x = is_object ≡ true → has x.0 so_far ≡ false

fresh_then : (so_far : Members) (name : Text) (p : ℕ) {o : Outcome (Text × ℕ)} → (has name so_far ≡ false → Yields (New true so_far) o) →
    Yields (New true so_far) (fresh name so_far p >>= λ _. o)
unfolding fresh ◌>>=◌
fresh_then so_far name p {o} f = go (has name so_far) refl
  where
    go : (c : Bool) → has name so_far ≡ c → Yields (New true so_far) ((if c then refused repeated_name p else ok p) >>= λ _. o)
    go true h = refuses
    go false h = f h

pub name_for_new : (is_object : Bool) (s : Bytes) (so_far : Members) (at : ℕ) → Yields (New is_object so_far) (name_for is_object s so_far at)
unfolding name_for
name_for_new false s so_far at = yields (λ h. absurd (true≢false (sym h)))
name_for_new true s so_far at =
    and_then _ (anything (Strings.string s at)) λ x _ _.
    fresh_then so_far x.0 (x.1 - 1) λ new.
    and_then _ (anything (byte_in s (blanks s x.1) (code ":") (code ":"))) λ _ _ _.
    yields (λ _. new)

module _ (s : Bytes) (left : ℕ) (reader : ℕ → ℕ → Outcome (Value.Value × ℕ))
    (inner : (at before : ℕ) → Yields (Bounded left before) (reader at before)) (is_object : Bool) (before : ℕ) where
  KeptAll : Members × ℕ → Type 0
  KeptAll x = Kept is_object left before x.0

  items-within : (fuel : ℕ) (so_far : Members) (at : ℕ) → Kept is_object left before so_far →
      Yields KeptAll (items fuel reader is_object s before so_far at)
  unfolding items KeptAll
  items-within zero so_far at k = refuses
  items-within (suc fuel) so_far at k =
      and_then _ (name_for_new is_object s so_far at) λ x _ new.
      and_then _ (inner x.1 (before + size so_far)) λ y _ a.
      let all = kept_more x.0 y.0 k new a in
      choose (eqb (byte s (blanks s y.1)) (closing_bracket is_object)) (λ e. yields all) λ e.
      and_then _ (anything (byte_in s (blanks s y.1) (code ",") (code ","))) λ _ _ _.
      items-within fuel (so_far ⧺ single (named x.0 y.0)) _ all

  contents-within : (at : ℕ) → before ≤ max_nodes → Yields KeptAll (contents reader is_object s before at)
  unfolding contents KeptAll
  contents-within at l =
      choose (eqb (byte s (blanks s at)) (closing_bracket is_object)) (λ e. yields (kept_none l))
      (λ e. items-within (length s) Forest.none (blanks s at) (kept_none l))

asked_container : (is_object : Bool) {left before : ℕ} (f : Members) → Kept is_object left (before + 1) f →
    Asked (suc left) before (container_of is_object f)
unfolding container_label depth levels Value.is_container Value.tag nodes
asked_container false f k = let l = k.shallow in let m = k.few in record { shallow = omega arith; few = omega arith; fits = tt; below = k.below }
asked_container true f k =
    let l = k.shallow in
    let m = k.few in
    record { shallow = omega arith; few = omega arith; fits = k.distinct refl; below = k.below }

container-within : (s : Bytes) (left : ℕ) (reader : ℕ → ℕ → Outcome (Value.Value × ℕ)) →
    ((at before : ℕ) → Yields (Bounded left before) (reader at before)) → (is_object : Bool) (at before : ℕ) →
    Yields (Bounded (suc left) before) (container reader is_object s at before)
unfolding container KeptAll
container-within s left reader inner is_object at before =
    room_then before at λ l.
    and_then _ (contents-within s left reader inner is_object (before + 1) (at + 1) (omega arith)) λ x _ k.
    yields (asked_container is_object x.0 k)

pub value-within : (left : ℕ) (s : Bytes) (at before : ℕ) → Yields (Bounded left before) (Read.value left s at before)
unfolding Read.value
value-within zero s at before =
    choose (eqb (byte s at) (code "[")) (λ _. refuses) λ _.
    choose (eqb (byte s at) (code "{")) (λ _. refuses) λ _.
    scalar-within zero before s at
value-within (suc left) s at before =
    choose (eqb (byte s at) (code "[")) (λ _. container-within s left (Read.value left s) (value-within left s) false at before) λ _.
    choose (eqb (byte s at) (code "{")) (λ _. container-within s left (Read.value left s) (value-within left s) true at before) λ _.
    scalar-within (suc left) before s at

pub read-within : (s : Bytes) → Yields WithinLimits (read s)
unfolding read
read-within s =
    and_then _ (value-within max_depth s (blanks s 0) 0) λ x _ a.
    choose (eqb (blanks s x.1) (length s))
    (λ e. let few = a.few in yields (record { shallow = a.shallow; few = omega arith; fits = a.fits; below = a.below })) (λ e. refuses)
