-- What stands at the place of a refusal by 4, 5, 6 or 7: each reader, given the bytes before its place.
use Rattle.std.specs.Prelude.{if◌then◌else◌}
use Prim.Native.Nat.{ℕ, zero, suc, ◌+◌, ◌-◌, ◌<◌, ◌≤◌}
use Prim.Native.Char.{code}
use mathlib.Core.Path.{◌≡◌, refl, ap, subst, sym, ◌∙◌}
use mathlib.Core.Bool.{Bool, true, false, ◌||◌, true≢false}
use mathlib.Core.List.{[], ◌∷◌, ◌++◌, append_assoc}
use native.Mathlib.Omega.{arith}
use native.Mathlib.Decide.{dec_lt}
use lib.ListN.{length, drop}
use lib.Dec.{eqb, ltb}
use borrow.Author.Tests.{eqb-true, ltb-true, ltb-false}
use Rattle.spec.specs.Outcome.{Outcome, ok, refused, ◌>>=◌}
use Rattle.spec.specs.Refusal.{not_json, repeated_name, too_deep, too_many_nodes, number_over_limit}
use Rattle.spec.specs.Limits.{max_depth, max_nodes}
use Rattle.spec.specs.Bytes.{Bytes, Text, ascii, byte}
use Rattle.spec.specs.Numbers.{is_digit}
use Rattle.spec.specs.Forest as Forest
use Rattle.spec.specs.Forest.{size, single, ◌⧺◌}
use Rattle.spec.specs.Value as Value
use Rattle.spec.specs.Value.{Label, Members, named, has, nodes}
use Rattle.spec.specs.Read as Read
use Rattle.spec.specs.Read.{blanks, room_for, literal_value, number_value, string_value, scalar, fresh, name_for, container_label, closing_bracket}
use Rattle.spec.specs.Read.{items, contents}
use Rattle.spec.specs.Read.{container, read}
use Rattle.grammar.specs.Grammar.{optional, DIGIT, *DIGIT, minus, int, number, *char, string, structural, ws, value, array, object}
use Rattle.grammar.specs.Limits.{Named}
use Rattle.grammar.specs.RefusedAt.{BeforeValue, outermost, ByteAt, SecondName, closing_quote, Opening, of_array, of-object, OpensLevel33, bracket}
use Rattle.grammar.specs.RefusedAt.{BeginsValue2049, first_byte, NumberOverLimit, passing_byte}
use Rattle.grammar.proofs.Places.{From, one, join, cons, split, first, in_text}
use Rattle.grammar.proofs.Tests.{either}
use Rattle.grammar.proofs.Containers.{opening_bracket, opening_positive, container_of}
use Rattle.grammar.proofs.Members.{has_named, no_one, size_⧺}
use Rattle.grammar.proofs.Sound.{Sound, found}
use Rattle.grammar.proofs.StringsSound.{end, Means, string-sound}
use Rattle.grammar.proofs.NumbersSound.{digit}
use Rattle.grammar.proofs.ReadSound.{NamePart, blanks_sound, name_for_sound, value-sound}
use Rattle.grammar.proofs.Within.{Yields, yielded, Bounded, value-within}
use Rattle.grammar.proofs.Refusing.{Refusing, result, refusal, choose, weaken, and_then, expect_then, By3, string-by_3, word_at_by_3}
use Rattle.grammar.proofs.NumberFaults.{NumberFault, number-faults}
use Rattle.grammar.proofs.Before.{BeforeItem, first_item, next_item_lem, item-value, item_next}

pub data Fault (s : Bytes) : ℕ → ℕ → Type 0 where
  by_3 : {p : ℕ} → Fault s not_json p
  by_4 : {p : ℕ} → SecondName s p → Fault s repeated_name p
  by_5 : {p : ℕ} → OpensLevel33 s p → Fault s too_deep p
  by_6 : {p : ℕ} → BeginsValue2049 s p → Fault s too_many_nodes p
  by_7 : {p : ℕ} → NumberOverLimit s p → Fault s number_over_limit p

byte_at : {s w : Bytes} {at p : ℕ} (b : ℕ) → From s 0 w at → 0 < b → byte s at ≡ b → p ≡ at → ByteAt s p w b
byte_at {s} {w} {at} b f l e same =
    let far = f.far in
    record {
      after = drop (at + 1) s;
      text = f.rest ∙ ap (λ t. w ++ t) ((one at (in_text s at (omega arith))).rest ∙ ap (λ b. b ∷ drop (at + 1) s) e);
      place = omega arith;
    }

no_blank : {b : ℕ} → ws (b ∷ []) → 0x20 < b → ⊥
no_blank (ws.space h) l = omega arith
no_blank (ws.tab h) l = omega arith
no_blank (ws.line_feed h) l = omega arith
no_blank (ws.carriage_return h) l = omega arith

opening_visible : (is_object : Bool) → 0x20 < opening_bracket is_object
opening_visible false = omega arith
opening_visible true = omega arith

-- an empty container
pub empty : (is_object : Bool) → value (opening_bracket is_object ∷ closing_bracket is_object ∷ []) (container_of is_object Forest.none)
unfolding container_label closing_bracket
empty false = value.of_array (array.no-elements (structural.around ws.none ws.none) (structural.around ws.none ws.none))
empty true = value.of-object (object.no-members (structural.around ws.none ws.none) (structural.around ws.none ws.none))

module _ (s : Bytes) where
  abbrev Faults : {X : Type 0} → Outcome X → Type 0
  Faults o = Refusing (Fault s) o

  -- a place where a value may begin
  record At (at levels values : ℕ) : Type 0 where
    text : Bytes
    from : From s 0 text at
    before : BeforeValue text levels values
    few : values ≤ max_nodes

  only_3 : {X : Type 0} {o : Outcome X} → Refusing By3 o → Faults o
  only_3 r = weaken (λ number p e. subst (λ n. Fault s n p) (sym e) by_3) r

  -- the first byte of a value, which is value 2,049 or not
  room_then : {X : Type 0} {o : Outcome X} {at levels values : ℕ} {more : Bytes} {v : Value.Value} (b : ℕ) → At at levels values → 0x20 < b →
      byte s at ≡ b → value (b ∷ more) v → (levels ≡ max_depth → ¬ Opening b) →
      (values < max_nodes → Faults o) → Faults (room_for values at >>= λ _. o)
  unfolding room_for ◌>>=◌
  room_then {o = o} {at} {levels} {values} {more} {v} b a l e d shallow rest = go (ltb values max_nodes) refl
    where
      go : (c : Bool) → ltb values max_nodes ≡ c → Faults ((if c then ok at else refused too_many_nodes at) >>= λ _. o)
      go true h = rest (ltb-true values max_nodes h)
      go false h =
          let m = ltb-false values max_nodes h in
          let few = a.few in
          let same : values ≡ max_nodes = omega arith in
          refusal (by_6 {p = at}
          (first_byte (subst (BeforeValue a.text levels) same a.before) d (λ blank. no_blank blank l)
          (λ deep. shallow (omega arith)) (byte_at b a.from (omega arith) e (omega arith))))

  -- Scalars

  no_opening : {b : ℕ} → eqb b (code "[") ≡ false → eqb b (code "{") ≡ false → Opening b → ⊥
  no_opening p q of_array = true≢false p
  no_opening p q of-object = true≢false q

  opening-byte : {b : ℕ} → Opening b → 0 < b
  opening-byte of_array = omega arith
  opening-byte of-object = omega arith

  literal_faults : (label : Label) (word : Bytes) (at : ℕ) → Faults (literal_value label word s at)
  unfolding literal_value
  literal_faults label word at = and_then _ (only_3 (word_at_by_3 word s (at + 1))) λ _ _. result

  string-faults : (at : ℕ) → Faults (string_value s at)
  unfolding string_value
  string-faults at = and_then _ (only_3 (string-by_3 s at)) λ _ _. result

  number_value_faults : {at levels values : ℕ} → At at levels values → Faults (number_value s at)
  unfolding number_value
  number_value_faults {at} {levels} {values} a = and_then _ (weaken over (number-faults s at)) λ _ _. result
    where
      over : (number p : ℕ) → NumberFault s at number p → Fault s number p
      over number p NumberFault.by_3 = by_3
      over number p (NumberFault.by_7 o) =
          by_7 {p = p} (passing_byte a.before o.passes (byte_at (byte s p) (join a.from o.from) o.there refl (omega arith)))

  -- a digit, or a minus, is the first byte of a number
  digit-number : {b : ℕ} → DIGIT b → number (b ∷ [])
  digit-number {b} d = go (dec_lt b 0x31)
    where
      go : Dec (b < 0x31) → number (b ∷ [])
      go (yes l) = let same : b ≡ 0x30 = omega arith in rw same (number.parts optional.absent int.zero optional.absent optional.absent)
      go (no l) = number.parts optional.absent (int.nonzero {d = b} (omega arith) *DIGIT.none) optional.absent optional.absent

  minus_number : number (0x2D ∷ 0x30 ∷ [])
  minus_number = number.parts (optional.present minus.minus-sign) int.zero optional.absent optional.absent

  scalar_faults : {at levels values : ℕ} → At at levels values → (levels ≡ max_depth → ¬ Opening (byte s at)) → Faults (scalar s at values)
  unfolding scalar ascii is_digit
  scalar_faults {at} {values = values} a shallow =
      choose (eqb (byte s at) 0x22) (λ e. room 0x22 (omega arith) e (value.of-string (string.quoted *char.none)) (string-faults at)) λ _.
      choose (is_digit (byte s at) || eqb (byte s at) 0x2D)
      (λ h. either (is_digit (byte s at)) (eqb (byte s at) 0x2D) h
      (λ i. let d = digit (byte s at) i in room_then (byte s at) a (omega arith) refl (value.of_number (digit-number d)) shallow (λ _. number_value_faults a))
      (λ i. room 0x2D (omega arith) i (value.of_number minus_number) (number_value_faults a))) λ _.
      choose (eqb (byte s at) (code "n")) (λ e. room (code "n") (omega arith) e value.null_literal (literal_faults Label.null_literal _ at)) λ _.
      choose (eqb (byte s at) (code "t")) (λ e. room (code "t") (omega arith) e value.true_literal (literal_faults Label.true_literal _ at)) λ _.
      choose (eqb (byte s at) (code "f")) (λ e. room (code "f") (omega arith) e value.false_literal (literal_faults Label.false_literal _ at)) λ _.
      refusal by_3
    where
      room : {o : Outcome (Value.Value × ℕ)} {more : Bytes} {v : Value.Value} (b : ℕ) → 0x20 < b → eqb (byte s at) b ≡ true → value (b ∷ more) v → Faults o →
          Faults (room_for values at >>= λ _. o)
      room b l e d r = let same = eqb-true (byte s at) b e in room_then b a l same d (λ deep. subst (λ b. ¬ Opening b) same (shallow deep)) (λ _. r)

  -- Names

  -- a place in an open container where an item may begin
  record In (is_object : Bool) (at levels values : ℕ) (so_far : Members) : Type 0 where
    text : Bytes
    from : From s 0 text at
    before : BeforeItem is_object text levels values so_far
    few : values + 1 + size so_far ≤ max_nodes

  repeated : {text n : Bytes} {at next levels values : ℕ} {so_far : Members} {name : Text} → BeforeItem true text levels values so_far → From s 0 text at →
      string n name → From s at n next → Named name so_far → SecondName s (next - 1)
  repeated (first_item h o) f q g m = absurd (no_one m)
  repeated {at = at} {next = next} {levels = levels} {values = values} {name = name}
      (next_item_lem {w} {b} is {c} so_far h o i q) f (string.quoted {w = cs} ch) g m =
      let (before, quote) = split (0x22 ∷ cs) (0x22 ∷ []) g in
      let far = quote.far in
      let bytes : (w ++ (b ++ (is ++ c))) ++ (0x22 ∷ cs) ≡ w ++ (b ++ (is ++ (c ++ (0x22 ∷ cs)))) = simp append_assoc in
      closing_quote h o i q ch m (rw (← bytes) (byte_at 0x22 (join f before) (omega arith) (first quote).0 (omega arith)))

  fresh_then : {o : Outcome (Text × ℕ)} (name : Text) (so_far : Members) (p : ℕ) → (Named name so_far → SecondName s p) → Faults o →
      Faults (fresh name so_far p >>= λ _. o)
  unfolding fresh ◌>>=◌
  fresh_then {o} name so_far p second rest = go (has name so_far) refl
    where
      go : (c : Bool) → has name so_far ≡ c → Faults ((if c then refused repeated_name p else ok p) >>= λ _. o)
      go true h = refusal (by_4 (second (has_named name so_far h)))
      go false h = rest

  name_faults : (is_object : Bool) {at levels values : ℕ} {so_far : Members} → In is_object at levels values so_far → Faults (name_for is_object s so_far at)
  unfolding name_for
  name_faults false i = result
  name_faults true {at = at} {so_far = so_far} i =
      and_then _ (only_3 (string-by_3 s at)) λ x is_x.
      let q = found (subst (Sound s end at (Means string)) is_x (string-sound s at)) in
      fresh_then x.0 so_far (x.1 - 1) (repeated i.before i.from q.derived q.from)
      (expect_then s (blanks s x.1) _ by_3 λ _. result)

  -- Containers

  -- one item more
  more_in : {is_object : Bool} {at place next levels values : ℕ} {so_far : Members} {n w : Bytes} {name : Text} {v : Value.Value} →
      In is_object at levels values so_far → NamePart is_object n name → From s at n place → value w v → From s place w next →
      values + 1 + size so_far + nodes v ≤ max_nodes → byte s (blanks s next) ≡ code "," →
      In is_object (blanks s (blanks s next + 1)) levels values (so_far ⧺ single (named name v))
  unfolding nodes size
  more_in {next = next} {so_far = so_far} {name = name} {v = v} i p f d g few comma =
      let b = blanks_sound s next in
      let b' = blanks_sound s (blanks s next + 1) in
      record {
        text = _;
        from = join i.from (join (join f g) (join b.from (cons (code ",") (omega arith) comma b'.from)));
        before = item_next i.before p d (structural.around b.derived b'.derived);
        few = omega (arith, size_⧺ so_far (single (named name v)));
      }

  module _ (left levels : ℕ) (reader : ℕ → ℕ → Outcome (Value.Value × ℕ)) (sound : (at values : ℕ) → Sound s end at (Means value) (reader at values))
      (within : (at values : ℕ) → Yields (Bounded left values) (reader at values))
      (faults : (at values : ℕ) → At at (levels + 1) values → Faults (reader at values)) (is_object : Bool) (values : ℕ) where
    items_faults : (fuel : ℕ) (so_far : Members) (at : ℕ) → In is_object at levels values so_far →
        Faults (items fuel reader is_object s (values + 1) so_far at)
    unfolding items
    items_faults zero so_far at i = refusal by_3
    items_faults (suc fuel) so_far at i =
        and_then _ (name_faults is_object i) λ x is_x.
        let n = found (subst (Sound s end at (Means (NamePart is_object))) is_x (name_for_sound is_object s so_far at)) in
        and_then _ (faults x.1 (values + 1 + size so_far)
        (record { text = i.text ++ n.text; from = join i.from n.from; before = item-value i.before n.derived; few = i.few })) λ y is_y.
        let v = found (subst (Sound s end x.1 (Means value)) is_y (sound x.1 (values + 1 + size so_far))) in
        let few = (yielded (subst (Yields (Bounded left (values + 1 + size so_far))) is_y (within x.1 (values + 1 + size so_far)))).few in
        choose (eqb (byte s (blanks s y.1)) (closing_bracket is_object)) (λ _. result) λ _.
        expect_then s (blanks s y.1) (code ",") by_3 λ comma.
        items_faults fuel (so_far ⧺ single (named x.0 y.0)) _ (more_in i n.derived n.from v.derived v.from few comma)

    container_faults : (at : ℕ) → At at levels values → levels < max_depth → byte s at ≡ opening_bracket is_object →
        Faults (container reader is_object s at values)
    unfolding container contents size
    container_faults at a deep e =
        room_then (opening_bracket is_object) a (opening_visible is_object) e (empty is_object) (λ same _. omega arith) λ room.
        let b = blanks_sound s (at + 1) in
        and_then _ (choose (eqb (byte s (blanks s (at + 1))) (closing_bracket is_object)) (λ _. result) λ _.
        items_faults (length s) Forest.none (blanks s (at + 1))
        (record {
          text = _;
          from = join a.from (cons (opening_bracket is_object) (opening_positive is_object) e b.from);
          before = first_item a.before (structural.around ws.none b.derived);
          few = omega arith;
        })) λ _ _. result

  -- Values

  level_33 : {at levels values b : ℕ} → At at levels values → levels ≡ max_depth → Opening b → byte s at ≡ b → OpensLevel33 s at
  level_33 {values = values} {b = b} a same o e =
      bracket (subst (λ l. BeforeValue a.text l values) same a.before) o (byte_at b a.from (opening-byte o) e (omega arith))

  value-faults : (left : ℕ) {levels : ℕ} (at values : ℕ) → left + levels ≡ max_depth → At at levels values → Faults (Read.value left s at values)
  unfolding Read.value
  value-faults zero at values sum a =
      choose (eqb (byte s at) (code "[")) (λ e. refusal (by_5 (level_33 a (omega arith) of_array (eqb-true _ _ e)))) λ p.
      choose (eqb (byte s at) (code "{")) (λ e. refusal (by_5 (level_33 a (omega arith) of-object (eqb-true _ _ e)))) λ q.
      scalar_faults a (λ _. no_opening p q)
  value-faults (suc left) {levels} at values sum a =
      let inner : (at values : ℕ) → At at (levels + 1) values → Faults (Read.value left s at values) =
      λ at values. value-faults left at values (omega arith) in
      choose (eqb (byte s at) (code "["))
      (λ e. container_faults left levels (Read.value left s) (value-sound left s)
      (value-within left s) inner false values at a (omega arith) (eqb-true _ _ e)) λ p.
      choose (eqb (byte s at) (code "{"))
      (λ e. container_faults left levels (Read.value left s) (value-sound left s)
      (value-within left s) inner true values at a (omega arith) (eqb-true _ _ e)) λ q.
      scalar_faults a (λ _. no_opening p q)

  pub read_faults : Faults (read s)
  unfolding read
  read_faults =
      let b = blanks_sound s 0 in
      and_then _ (value-faults max_depth {levels = 0} _ 0 refl (record { text = _; from = b.from; before = outermost b.derived; few = omega arith })) λ x _.
      choose (eqb (blanks s x.1) (length s)) (λ _. result) (λ _. refusal by_3)
