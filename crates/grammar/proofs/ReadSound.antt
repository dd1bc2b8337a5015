-- The reader of JSON text is sound.
use Rattle.std.specs.Prelude.{if◌then◌else◌}
use Prim.Native.Nat.{ℕ, zero, suc, ◌+◌, ◌-◌, ◌<◌}
use Prim.Native.Char.{code}
use mathlib.Core.Path.{◌≡◌, refl, ap, subst, sym, ◌∙◌}
use mathlib.Core.Bool.{Bool, true, false, ◌||◌}
use mathlib.Core.List.{[], ◌∷◌, ◌++◌, append_assoc, append-nil}
use native.Mathlib.Omega.{arith}
use lib.ListN.{length, take, drop}
use lib.Dec.{eqb, ltb}
use borrow.Author.Tests.{eqb-true}
use Rattle.spec.specs.Outcome.{Outcome, ok, refused, ◌>>=◌}
use Rattle.spec.specs.Refusal.{repeated_name, too_deep, too_many_nodes}
use Rattle.spec.specs.Limits.{max_depth, max_nodes}
use Rattle.spec.specs.Bytes.{Bytes, Text, ascii, byte}
use Rattle.spec.specs.Numbers.{is_digit}
use Rattle.spec.specs.Forest as Forest
use Rattle.spec.specs.Forest.{size, single, ◌⧺◌}
use Rattle.spec.specs.Value as Value
use Rattle.spec.specs.Value.{Label, Members, leaf, named, has}
use Rattle.spec.specs.Read as Read
use Rattle.spec.specs.Read.{is_blank, blanks_from, blanks, word_at, room_for, literal_value, number_value, string_value, scalar, fresh}
use Rattle.spec.specs.Read.{name_for, container_label}
use Rattle.spec.specs.Read.{closing_bracket, items, contents, container, read}
use Rattle.grammar.specs.Grammar.{ws, structural, number, string, *char, node, value, object, members, member, array, elements, JSON-text, name_separator}
use Rattle.grammar.specs.Grammar.{value_separator}
use Rattle.grammar.proofs.Places.{From, here, cons, bytes}
use Rattle.grammar.proofs.Tests.{either}
use Rattle.grammar.proofs.Containers.{opening_bracket, container_of, opening_positive, closing_positive}
use Rattle.grammar.proofs.Members.{⧺_assoc}
use Rattle.grammar.proofs.Sound.{Sound, finds, stops, other, Some, some, exceeds, refuses, gives, weaken, choose, after, and_then, finish, past}
use Rattle.grammar.proofs.Sound.{expect_then}
use Rattle.grammar.proofs.StringsSound.{end, Means, string-sound}
use Rattle.grammar.proofs.NumbersSound.{there, Derives, number-sound}

-- blanks
blank : (b : ℕ) → is_blank b ≡ true → {w : Bytes} → ws w → (0 < b) × ws (b ∷ w)
unfolding is_blank
blank b h {w} d =
    either (eqb b 0x20) _ h (λ e. is ws.space (omega arith) e) λ h.
    either (eqb b 0x09) _ h (λ e. is ws.tab (omega arith) e) λ h.
    either (eqb b 0x0A) _ h (λ e. is ws.line_feed (omega arith) e) λ h.
    is ws.carriage_return (omega arith) h
  where
    is : {c : ℕ} → (ws w → ws (c ∷ w)) → 0 < c → eqb b c ≡ true → (0 < b) × ws (b ∷ w)
    is {c} f l e = let same = eqb-true b c e in (omega arith, rw same (f d))

pub record Blanks (s : Bytes) (at next : ℕ) : Type 0 where
  pub text : Bytes
  pub from : From s at text next
  pub derived : ws text

pub blanks_from_sound : (fuel : ℕ) (s : Bytes) (at : ℕ) → Blanks s at (blanks_from fuel s at)
unfolding blanks_from
blanks_from_sound zero s at = record { text = []; from = here at; derived = ws.none }
blanks_from_sound (suc fuel) s at = go (is_blank (byte s at)) refl (blanks_from_sound fuel s (at + 1))
  where
    go : (c : Bool) → is_blank (byte s at) ≡ c → Blanks s (at + 1) (blanks_from fuel s (at + 1)) →
        Blanks s at (if c then blanks_from fuel s (at + 1) else at)
    go true e r =
        let (positive, d) = blank (byte s at) e r.derived in
        record { text = byte s at ∷ r.text; from = cons (byte s at) positive refl r.from; derived = d }
    go false e r = record { text = []; from = here at; derived = ws.none }

pub blanks_sound : (s : Bytes) (at : ℕ) → Blanks s at (blanks s at)
unfolding blanks
blanks_sound s at = blanks_from_sound (length s) s at

past_blanks : {X : Type 0} {s : Bytes} {place : X → ℕ} {at : ℕ} (P : Bytes → X → Type 0) {o : Outcome X} →
    ((b : Bytes) → ws b → Sound s place (blanks s at) (λ w x. P (b ++ w) x) o) → Sound s place at P o
past_blanks {s = s} {at = at} P rest = let r = blanks_sound s at in after P r.from (rest r.text r.derived)

-- checks
room_then : {X : Type 0} {s : Bytes} {place : X → ℕ} {at : ℕ} {P : Bytes → X → Type 0} {o : Outcome X} (nodes p : ℕ) → Sound s place at P o →
    Sound s place at P (room_for nodes p >>= λ _. o)
unfolding room_for ◌>>=◌
room_then {s = s} {place = place} {at = at} {P = P} {o = o} nodes p r = go (ltb nodes max_nodes)
  where
    go : (c : Bool) → Sound s place at P ((if c then ok p else refused too_many_nodes p) >>= λ _. o)
    go true = r
    go false = exceeds too_many_nodes (omega arith)

fresh_then : {X : Type 0} {s : Bytes} {place : X → ℕ} {at : ℕ} {P : Bytes → X → Type 0} {o : Outcome X} (name : Text) (so_far : Members) (p : ℕ) →
    Sound s place at P o → Sound s place at P (fresh name so_far p >>= λ _. o)
unfolding fresh ◌>>=◌
fresh_then {s = s} {place = place} {at = at} {P = P} {o = o} name so_far p r = go (has name so_far)
  where
    go : (c : Bool) → Sound s place at P ((if c then refused repeated_name p else ok p) >>= λ _. o)
    go true = exceeds repeated_name (omega arith)
    go false = r

-- literals
abbrev Positive : Bytes → Type 0
Positive [] = Unit {0}
Positive (b ∷ w) = (0 < b) × Positive w

word_at_sound : (word : Bytes) → Positive word → (s : Bytes) (at : ℕ) → Sound s there at (Derives (λ w. w ≡ word)) (word_at word s at)
unfolding word_at
word_at_sound [] h s at = gives at refl refl
word_at_sound (b ∷ word) h s at =
    expect_then _ b (at + 1) h.0 refl (some (b ∷ word) 0 refl) (weaken (λ w x e. ap (λ w. b ∷ w) e) (word_at_sound word h.1 s (at + 1)))

literal_sound : {b : ℕ} (label : Label) (word : Bytes) → 0 < b → Positive word → value (b ∷ word) (leaf label) → (s : Bytes) (at : ℕ) →
    byte s at ≡ b →
    Sound s end at (Means value) (literal_value label word s at)
unfolding literal_value
literal_sound {b} label word l h d s at e =
    past (Means value) b (at + 1) l e refl
    (finish (λ next. (leaf label, next)) (λ next. refl) (λ w next e. subst (λ w. value (b ∷ w) (leaf label)) (sym e) d) (word_at_sound word h s (at + 1)))

-- numbers and strings
number_value_sound : (s : Bytes) (at : ℕ) → Sound s end at (Means value) (number_value s at)
unfolding number_value ◌>>=◌
number_value_sound s at = go (number-sound s at)
  where
    go : {o : Outcome ℕ} → Sound s there at (Derives number) o →
        Sound s end at (Means value) (o >>= λ next. ok (leaf (Label.number (take (next - at) (drop at s))), next))
    go (finds {w} {x} f d) = finds {w = w} {x = (leaf (Label.number (take (x - at) (drop at s))), x)} f (rw (bytes f) (value.of_number d))
    go (stops {w} f r) = stops f (some r.text (leaf (Label.number (w ++ r.text)), 0) (value.of_number r.derived))
    go (other h) = other h

string_value_sound : (s : Bytes) (at : ℕ) → Sound s end at (Means value) (string_value s at)
unfolding string_value
string_value_sound s at = finish (λ x. (leaf (Label.string x.0), x.1)) (λ x. refl) (λ w x d. value.of-string d) (string-sound s at)

some-value : Some (Means value)
some-value = some (ascii "null") (leaf Label.null_literal, 0) value.null_literal

scalar_sound : (s : Bytes) (at nodes : ℕ) → Sound s end at (Means value) (scalar s at nodes)
unfolding scalar ascii
scalar_sound s at nodes =
    choose (eqb (byte s at) 0x22) (λ _. room_then nodes at (string_value_sound s at)) λ _.
    choose (is_digit (byte s at) || eqb (byte s at) 0x2D) (λ _. room_then nodes at (number_value_sound s at)) λ _.
    choose (eqb (byte s at) (code "n"))
    (λ e. room_then nodes at (literal_sound Label.null_literal _ (omega arith) (omega arith) value.null_literal s at (eqb-true _ _ e))) λ _.
    choose (eqb (byte s at) (code "t"))
    (λ e. room_then nodes at (literal_sound Label.true_literal _ (omega arith) (omega arith) value.true_literal s at (eqb-true _ _ e))) λ _.
    choose (eqb (byte s at) (code "f"))
    (λ e. room_then nodes at (literal_sound Label.false_literal _ (omega arith) (omega arith) value.false_literal s at (eqb-true _ _ e))) λ _.
    refuses some-value

-- a member's name with its colon; an array's element has none
pub data NamePart : Bool → Bytes → Text → Type 0 where
  nameless : NamePart false [] []
  under : {n c : Bytes} {name : Text} → string n name → name_separator c → NamePart true (n ++ c) name

some_colon : {n : Bytes} {name : Text} → string n name → Some (Means (λ w name. NamePart true (n ++ w) name))
some_colon {name = name} d = some (0x3A ∷ []) (name, 0) (under d (structural.around ws.none ws.none))

pub name_for_sound : (is_object : Bool) (s : Bytes) (so_far : Members) (at : ℕ) → Sound s end at (Means (NamePart is_object)) (name_for is_object s so_far at)
unfolding name_for
name_for_sound false s so_far at = gives ([], at) refl nameless
name_for_sound true s so_far at =
    and_then _ (string-sound s at) (λ n x d. some_colon d) λ n x d.
    fresh_then x.0 so_far (x.1 - 1)
    (past_blanks _ λ b h.
    expect_then _ 0x3A (blanks s x.1 + 1) (omega arith) refl (some (0x3A ∷ []) (x.0, 0) (under d (structural.around h ws.none)))
    (let r = blanks_sound s (blanks s x.1 + 1) in
    finds {x = (x.0, blanks s (blanks s x.1 + 1))} r.from (under d (structural.around h r.derived))))

-- the values of a container from one on, up to its closing bracket
data Items (is_object : Bool) : Bytes → Members → Type 0 where
  last : {n w b : Bytes} {name : Text} {v : Value.Value} → NamePart is_object n name → value w v → ws b →
      Items is_object (n ++ (w ++ (b ++ (closing_bracket is_object ∷ [])))) (node name v Forest.none)
  more : {n w b b' rest : Bytes} {name : Text} {v : Value.Value} {f : Members} → NamePart is_object n name → value w v → ws b → ws b' →
      Items is_object rest f →
      Items is_object (n ++ (w ++ (b ++ (code "," ∷ (b' ++ rest))))) (node name v f)

-- they come after those that were read before
record Rest (is_object : Bool) (so_far : Members) (w : Bytes) (kids : Members) : Type 0 where
  others : Members
  is : kids ≡ so_far ⧺ others
  derived : Items is_object w others

module _ {is_object : Bool} {so_far : Members} where
  last_rest : {n w b : Bytes} {name : Text} {v : Value.Value} → NamePart is_object n name → value w v → ws b →
      Rest is_object so_far (n ++ (w ++ (b ++ (closing_bracket is_object ∷ [])))) (so_far ⧺ single (named name v))
  last_rest p d h = record { others = _; is = refl; derived = last p d h }

  more_rest : {n w b b' rest : Bytes} {name : Text} {v : Value.Value} {kids : Members} → NamePart is_object n name → value w v → ws b → ws b' →
      Rest is_object (so_far ⧺ single (named name v)) rest kids → Rest is_object so_far (n ++ (w ++ (b ++ (code "," ∷ (b' ++ rest))))) kids
  unfolding ◌⧺◌
  more_rest {name = name} {v = v} p d h h' r =
      record { others = node name v r.others; is = r.is ∙ ⧺_assoc so_far (single (named name v)) r.others; derived = more p d h h' r.derived }

  some-value-rest : {n : Bytes} {name : Text} → NamePart is_object n name → Some (Means (λ w kids. Rest is_object so_far (n ++ w) kids))
  some-value-rest p = some _ (_, 0) (last_rest p value.null_literal ws.none)

some_name : (is_object : Bool) → Some (Means (NamePart is_object))
some_name false = some [] ([], 0) nameless
some_name true = some _ ([], 0) (under (string.quoted *char.none) (structural.around ws.none ws.none))

module _ (s : Bytes) (reader : ℕ → ℕ → Outcome (Value.Value × ℕ))
    (inner : (at nodes : ℕ) → Sound s end at (Means value) (reader at nodes)) (is_object : Bool) (nodes : ℕ) where
  some_rest : (so_far : Members) → Some (Means (Rest is_object so_far))
  some_rest so_far =
      let n = some_name is_object in
      let r = some-value-rest {so_far = so_far} n.derived in
      some (n.text ++ r.text) r.meaning r.derived

  items_sound : (fuel : ℕ) (so_far : Members) (at : ℕ) → Sound s end at (Means (Rest is_object so_far)) (items fuel reader is_object s nodes so_far at)
  unfolding items
  items_sound zero so_far at = refuses (some_rest so_far)
  items_sound (suc fuel) so_far at =
      and_then _ (name_for_sound is_object s so_far at) (λ n x p. some-value-rest p) λ n x p.
      and_then _ (inner x.1 (nodes + size so_far)) (λ w y d. some _ (_, 0) (last_rest p d ws.none)) λ w y d.
      past_blanks _ λ b h.
      choose (eqb (byte s (blanks s y.1)) (closing_bracket is_object))
      (λ e. past _ (closing_bracket is_object) (blanks s y.1 + 1) (closing_positive is_object) (eqb-true _ _ e) refl (gives _ refl (last_rest p d h))) λ e.
      expect_then _ (code ",") (blanks s y.1 + 1) (omega arith) refl (some (closing_bracket is_object ∷ []) (_, 0) (last_rest p d h))
      (past_blanks _ λ b' h'.
      weaken (λ w' z r. more_rest p d h h' r) (items_sound fuel (so_far ⧺ single (named x.0 y.0)) (blanks s (blanks s y.1 + 1))))

-- what the reader takes as items is what the grammar has between the brackets, and the closing bracket
abbrev pub Between : Bool → Bytes → Members → Type 0
Between false w f = elements w f
Between true w f = members w f

record Listed (is_object : Bool) (w : Bytes) (f : Members) : Type 0 where
  text : Bytes
  ending : Bytes
  listed : Between is_object text f
  closed : structural (closing_bracket is_object) ending
  is : w ≡ text ++ ending

pub pair : {n c w : Bytes} {name : Text} {v : Value.Value} → string n name → name_separator c → value w v → member ((n ++ c) ++ w) name v
pair {n} {c} {w} {name} {v} q h d = subst (λ x. member x name v) (sym (append_assoc n c w)) (member.pair q h d)

pub last_between : {is_object : Bool} {n w : Bytes} {name : Text} {v : Value.Value} → NamePart is_object n name → value w v →
    Between is_object (n ++ w) (node name v Forest.none)
last_between nameless d = elements.last_element d
last_between (under q h) d = members.last-member (pair q h d)

more_between : {is_object : Bool} {n w c : Bytes} {name : Text} {v : Value.Value} (rest : Bytes) (f : Members) → NamePart is_object n name → value w v →
    value_separator c → Between is_object rest f →
    Between is_object ((n ++ w) ++ (c ++ rest)) (node name v f)
more_between rest f nameless d h r = elements.more-elements d h r
more_between rest f (under q i) d h r = members.more-members (pair q i d) h r

regroup : (n w b : Bytes) (c : ℕ) (b' t e : Bytes) → n ++ (w ++ (b ++ (c ∷ (b' ++ (t ++ e))))) ≡ ((n ++ w) ++ ((b ++ (c ∷ b')) ++ t)) ++ e
regroup n w b c b' t e = simp append_assoc

listed : {is_object : Bool} {w : Bytes} {f : Members} → Items is_object w f → Listed is_object w f
listed (last {n} {w} p d h) =
    record { text = n ++ w; ending = _; listed = last_between p d; closed = structural.around h ws.none; is = sym (append_assoc n w _) }
listed (more {n} {w} {b} {b'} {rest} {f = f} p d h h' others) =
    let r = listed others in
    record {
      text = (n ++ w) ++ ((b ++ (code "," ∷ b')) ++ r.text);
      ending = r.ending;
      listed = more_between r.text f p d (structural.around h h') r.listed;
      closed = r.closed;
      is = ap (λ x. n ++ (w ++ (b ++ (code "," ∷ (b' ++ x))))) r.is ∙ regroup n w b (code ",") b' r.text r.ending;
    }

-- a container after its opening bracket
abbrev Inside : Bool → Bytes → Members → Type 0
Inside is_object w f = value (opening_bracket is_object ∷ w) (container_of is_object f)

inside_empty : (is_object : Bool) {b : Bytes} → ws b → Inside is_object (b ++ (closing_bracket is_object ∷ [])) Forest.none
unfolding container_label closing_bracket
inside_empty false {b} h = value.of_array (array.no-elements (structural.around ws.none ws.none) (structural.around h ws.none))
inside_empty true {b} h = value.of-object (object.no-members (structural.around ws.none ws.none) (structural.around h ws.none))

inside-filled : (is_object : Bool) {b w : Bytes} {f : Members} → ws b → Items is_object w f → Inside is_object (b ++ w) f
unfolding container_label closing_bracket
inside-filled is_object {b} {w} {f} h d = go is_object (listed d)
  where
    go : (is_object : Bool) → Listed is_object w f → Inside is_object (b ++ w) f
    go false r = rw r.is (value.of_array (array.with-elements (structural.around ws.none h) r.listed r.closed))
    go true r = rw r.is (value.of-object (object.with-members (structural.around ws.none h) r.listed r.closed))

module _ (s : Bytes) (reader : ℕ → ℕ → Outcome (Value.Value × ℕ))
    (inner : (at nodes : ℕ) → Sound s end at (Means value) (reader at nodes)) (is_object : Bool) where
  some_inside : Some (Means (Inside is_object))
  some_inside = some (closing_bracket is_object ∷ []) (Forest.none, 0) (inside_empty is_object ws.none)

  rest_inside : {b w : Bytes} {kids : Members} → ws b → Rest is_object Forest.none w kids → Inside is_object (b ++ w) kids
  unfolding ◌⧺◌
  rest_inside {b} {w} h r = subst (Inside is_object (b ++ w)) (sym r.is) (inside-filled is_object h r.derived)

  contents_sound : (nodes at : ℕ) → Sound s end at (Means (Inside is_object)) (contents reader is_object s nodes at)
  unfolding contents
  contents_sound nodes at =
      past_blanks _ λ b h.
      choose (eqb (byte s (blanks s at)) (closing_bracket is_object))
      (λ e. past _ (closing_bracket is_object) (blanks s at + 1) (closing_positive is_object)
      (eqb-true _ _ e) refl (gives (Forest.none, blanks s at + 1) refl (inside_empty is_object h))) λ e.
      weaken (λ w x r. rest_inside h r) (items_sound s reader inner is_object nodes (length s) Forest.none (blanks s at))

  container_sound : (at nodes : ℕ) → byte s at ≡ opening_bracket is_object → Sound s end at (Means value) (container reader is_object s at nodes)
  unfolding container
  container_sound at nodes e =
      room_then nodes at (past _ (opening_bracket is_object) (at + 1) (opening_positive is_object) e refl
      (finish (λ x. (record { label = container_label is_object; kids = x.0 }, x.1)) (λ x. refl) (λ w x d. d) (contents_sound (nodes + 1) (at + 1))))

pub value-sound : (left : ℕ) (s : Bytes) (at nodes : ℕ) → Sound s end at (Means value) (Read.value left s at nodes)
unfolding Read.value
value-sound zero s at nodes =
    choose (eqb (byte s at) (code "[")) (λ e. exceeds too_deep (omega arith)) λ _.
    choose (eqb (byte s at) (code "{")) (λ e. exceeds too_deep (omega arith)) λ _.
    scalar_sound s at nodes
value-sound (suc left) s at nodes =
    choose (eqb (byte s at) (code "[")) (λ e. container_sound s (Read.value left s) (value-sound left s) false at nodes (eqb-true _ _ e)) λ _.
    choose (eqb (byte s at) (code "{")) (λ e. container_sound s (Read.value left s) (value-sound left s) true at nodes (eqb-true _ _ e)) λ _.
    scalar_sound s at nodes

-- a value that is read takes the whole text
pub read_sound : (s : Bytes) → Sound s (λ v. length s) 0 JSON-text (read s)
unfolding read
read_sound s =
    past_blanks JSON-text λ b h.
    and_then _ (value-sound max_depth s (blanks s 0) 0) (λ w x d. some [] x.0 (JSON-text.text h d ws.none)) λ w x d.
    let r = blanks_sound s x.1 in
    choose (eqb (blanks s x.1) (length s))
    (λ e. finds {x = x.0} (subst (From s x.1 r.text) (eqb-true _ _ e) r.from) (JSON-text.text h d r.derived)) λ e.
    stops r.from (some [] x.0 (rw append-nil (JSON-text.text h d r.derived)))
