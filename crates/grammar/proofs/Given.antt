-- Where nothing is refused before, the byte of which 4, 5, 6 or 7 is said is refused by that number.
use Prim.Native.Nat.{ℕ, zero, suc, ◌+◌, ◌-◌, ◌<◌, ◌≤◌}
use Prim.Native.Char.{code}
use mathlib.Core.Path.{◌≡◌, refl, ap, subst, sym, ◌∙◌}
use mathlib.Core.Bool.{true, false}
use mathlib.Core.List.{[], ◌∷◌, ◌++◌, append_assoc, append-nil}
use native.Mathlib.Omega.{arith}
use lib.ListN.{length, take, drop, length-append}
use lib.Seq.{drop-length, drop-append-le}
use borrow.Author.Tests.{ne_eqb}
use Rattle.spec.specs.Outcome.{Outcome, refused, ◌>>=◌}
use Rattle.spec.specs.Refusal.{not_json, repeated_name, too_deep, too_many_nodes, number_over_limit}
use Rattle.spec.specs.Limits.{max_depth, max_nodes, max_number}
use Rattle.spec.specs.Bytes.{Bytes, Text, ascii, byte, within}
use Rattle.spec.specs.Numbers as Numbers
use Rattle.spec.specs.Numbers.{is_digit}
use Rattle.spec.specs.Value as Value
use Rattle.spec.specs.Value.{Members}
use Rattle.spec.specs.Read as Read
use Rattle.spec.specs.Read.{is_blank, blanks, room_for, number_value, scalar, fresh, name_for, closing_bracket, container, read}
use Rattle.grammar.specs.Grammar.{ws, structural, begin_object, value_separator, number, string, value, object, members, array}
use Rattle.grammar.specs.Limits.{Named, NumberFits}
use Rattle.grammar.specs.RefusedAt.{BeforeValue, Opening, of_array, of-object, PassesLimit, byte_129, exponent-digit}
use Rattle.grammar.proofs.Places.{From, from_whole, bytes, inside, past_end, in_text}
use Rattle.grammar.proofs.Members.{named-has}
use Rattle.grammar.proofs.Structural.{nothing_blank, blanks_stay, nothing_stops}
use Rattle.grammar.proofs.NumbersComplete.{Stops, NumberBegins, number-begins, number-reads}
use Rattle.grammar.proofs.Complete.{Reads, reads, exceeds}
use Rattle.grammar.proofs.Within.{Yields, yielded, number_fits}
use Rattle.grammar.proofs.Refusing.{Refusing, refused_so}
use Rattle.grammar.proofs.NumberFaults.{OverLimit, NumberFault, by_3, by_7, number-faults}
use Rattle.grammar.proofs.Local.{Agree, agree, Local, same_stop}
use Rattle.grammar.proofs.ReadLocal.{number-local}
use Rattle.grammar.proofs.NumbersSound.{there}
use Rattle.grammar.proofs.StringsComplete.{string-reads}
use Rattle.grammar.proofs.ReadComplete.{string-plain, number-plain, value-deep, value-container, value-scalar}
use Rattle.grammar.proofs.Arrival.{Comes, first_step, same, On, split_on, GoesOn, opening_goes_on, arrive, in-object, to_name, room_there}

-- the first byte of a value, by its kind
data First : ℕ → Type 0 where
  letter_n : First (code "n")
  letter_t : First (code "t")
  letter_f : First (code "f")
  quote : First 0x22
  numeral : {b : ℕ} → NumberBegins b → First b
  opening : {b : ℕ} → Opening b → First b

head_is : {a b : ℕ} {u v : Bytes} → a ∷ u ≡ b ∷ v → a ≡ b
head_is e = cc

-- no blank comes first
structural-first : {x b : ℕ} {w more : Bytes} (rest : Bytes) → structural x w → w ++ rest ≡ b ∷ more → (ws (b ∷ []) → ⊥) → x ≡ b
structural-first rest (structural.around ws.none after) e n = head_is e
structural-first rest (structural.around (ws.space d) after) e n = absurd (n (subst (λ a. ws (a ∷ [])) (head_is e) (ws.space ws.none)))
structural-first rest (structural.around (ws.tab d) after) e n = absurd (n (subst (λ a. ws (a ∷ [])) (head_is e) (ws.tab ws.none)))
structural-first rest (structural.around (ws.line_feed d) after) e n = absurd (n (subst (λ a. ws (a ∷ [])) (head_is e) (ws.line_feed ws.none)))
structural-first rest (structural.around (ws.carriage_return d) after) e n = absurd (n (subst (λ a. ws (a ∷ [])) (head_is e) (ws.carriage_return ws.none)))

array-first : {w more : Bytes} {f : Members} {b : ℕ} → array w f → w ≡ b ∷ more → (ws (b ∷ []) → ⊥) → First b
array-first (array.no-elements o c) e n = subst First (structural-first _ o e n) (opening of_array)
array-first (array.with-elements o i c) e n = subst First (structural-first _ o e n) (opening of_array)

object-first : {w more : Bytes} {f : Members} {b : ℕ} → object w f → w ≡ b ∷ more → (ws (b ∷ []) → ⊥) → First b
object-first (object.no-members o c) e n = subst First (structural-first _ o e n) (opening of-object)
object-first (object.with-members o i c) e n = subst First (structural-first _ o e n) (opening of-object)

first_of : {w more : Bytes} {v : Value.Value} {b : ℕ} → value w v → w ≡ b ∷ more → (ws (b ∷ []) → ⊥) → First b
unfolding ascii byte
first_of value.false_literal e n = subst First (head_is e) letter_f
first_of value.null_literal e n = subst First (head_is e) letter_n
first_of value.true_literal e n = subst First (head_is e) letter_t
first_of (value.of-object d) e n = object-first d e n
first_of (value.of_array d) e n = array-first d e n
first_of {w} {b = b} (value.of_number d) e n = subst First (ap (λ t. byte t 0) e) (numeral (number-begins d (from_whole w)))
first_of (value.of-string (string.quoted d)) e n = subst First (head_is e) quote

-- what stands there is no blank, and closes nothing
record Shows (b : ℕ) : Type 0 where
  no_blank : is_blank b ≡ false
  no_bracket : b ≡ code "]" → ⊥
  no_brace : b ≡ code "}" → ⊥

opening_shows : {b : ℕ} → Opening b → Shows b
unfolding is_blank
opening_shows of_array = record { no_blank = refl; no_bracket = λ e. omega arith; no_brace = λ e. omega arith }
opening_shows of-object = record { no_blank = refl; no_bracket = λ e. omega arith; no_brace = λ e. omega arith }

numeral_shows : {b : ℕ} → NumberBegins b → Shows b
numeral_shows h =
    let (low, high) = h.range in
    record { no_blank = (number-plain h).no_blank; no_bracket = λ e. omega arith; no_brace = λ e. omega arith }

first_shows : {b : ℕ} → First b → Shows b
unfolding is_blank
first_shows letter_n = record { no_blank = refl; no_bracket = λ e. omega arith; no_brace = λ e. omega arith }
first_shows letter_t = record { no_blank = refl; no_bracket = λ e. omega arith; no_brace = λ e. omega arith }
first_shows letter_f = record { no_blank = refl; no_bracket = λ e. omega arith; no_brace = λ e. omega arith }
first_shows quote = record { no_blank = refl; no_bracket = λ e. omega arith; no_brace = λ e. omega arith }
first_shows (numeral h) = numeral_shows h
first_shows (opening o) = opening_shows o

-- with no room left, a value is refused by 6 at its first byte
no_room : (left : ℕ) (s : Bytes) (p : ℕ) {b : ℕ} → First b → byte s p ≡ b → (left ≡ 0 → Opening b → ⊥) →
    Read.value left s p max_nodes ≡ refused too_many_nodes p
unfolding scalar container room_for is_digit within ◌>>=◌
no_room left s p letter_n e shallow = value-scalar left s p max_nodes (rw e) (rw e) ∙ rw e
no_room left s p letter_t e shallow = value-scalar left s p max_nodes (rw e) (rw e) ∙ rw e
no_room left s p letter_f e shallow = value-scalar left s p max_nodes (rw e) (rw e) ∙ rw e
no_room left s p quote e shallow = value-scalar left s p max_nodes (rw e) (rw e) ∙ rw e
no_room left s p (numeral {b} h) e shallow =
    let plain = number-plain h in
    let (low, high) = h.range in
    value-scalar left s p max_nodes (rw (e, plain.no-array)) (rw (e, plain.no-object)) ∙ rw (e, ne_eqb b 0x22 (λ i. omega arith), h.starts)
no_room zero s p (opening o) e shallow = absurd (shallow refl o)
no_room (suc left) s p (opening of_array) e shallow = value-container false left s p max_nodes e
no_room (suc left) s p (opening of-object) e shallow = value-container true left s p max_nodes e

-- with no level left, a bracket is refused by 5
no_level : (s : Bytes) (p values : ℕ) {b : ℕ} → Opening b → byte s p ≡ b → Read.value zero s p values ≡ refused too_deep p
no_level s p values of_array e = value-deep false s p values e
no_level s p values of-object e = value-deep true s p values e

-- a name that the members before it have is refused by 4 at its closing quote
second_name : {s n : Bytes} {at next : ℕ} {name : Text} {f : Members} → string n name → From s at n next → Named name f →
    name_for true s f (blanks s at) ≡ refused repeated_name (next - 1)
unfolding name_for fresh ◌>>=◌
second_name {s} {at = at} d f m = rw (blanks_stay s at (string-plain d f).1.no_blank, string-reads d f, named-has m)

number_value_lem : (left : ℕ) (t : Bytes) (at values : ℕ) → NumberBegins (byte t at) →
    Read.value left t (blanks t at) values ≡ room_for values at >>= λ _. number_value t at
unfolding scalar
number_value_lem left t at values h =
    let plain = number-plain h in
    let (low, high) = h.range in
    ap (λ p. Read.value left t p values) (blanks_stay t at plain.no_blank) ∙ value-scalar left t at values plain.no-array plain.no-object ∙
    rw (ne_eqb (byte t at) 0x22 (λ i. omega arith), h.starts)

-- a text with more after it
extended : {c n : Bytes} {start : ℕ} → From c start n (length c) → (more : Bytes) → From (c ++ more) start (n ++ more) (length (c ++ more))
extended {c} {n} {start} f more =
    let far = f.far in
    record {
      rest =
          drop-append-le start c more (omega arith) ∙ ap (λ t. t ++ more) (f.rest ∙ ap (λ t. n ++ t) (drop-length c) ∙ append-nil n) ∙
          sym (ap (λ t. (n ++ more) ++ t) (drop-length (c ++ more)) ∙ append-nil (n ++ more));
      far = omega (arith, length-append c more, length-append n more);
    }

-- a number that does not fit is refused by 7 somewhere in it
record Over (t : Bytes) (start : ℕ) : Type 0 where
  place : ℕ
  refuses : Numbers.number t start ≡ refused number_over_limit place
  over : OverLimit t start place

number-over : {t w : Bytes} {start next : ℕ} → number w → From t start w next → Stops (byte t next) → (NumberFits w → ⊥) → Over t start
number-over {t} {w} {start} {next} d f stop large = go (Numbers.number t start) refl (number-reads d f stop)
  where
    refused_by : (number p : ℕ) → Numbers.number t start ≡ refused number p → (number ≡ not_json → ⊥) → NumberFault t start number p → Over t start
    refused_by number p e h by_3 = absurd (h refl)
    refused_by number p e h (by_7 over) = record { place = p; refuses = e; over = over }

    go : (o : Outcome ℕ) → Numbers.number t start ≡ o → Reads next (NumberFits w) o → Over t start
    go o e reads =
        absurd (large (subst NumberFits (bytes f) (yielded (subst (Yields (λ next. NumberFits (take (next - start) (drop start t)))) e (number_fits t start)))))
    go o e (exceeds {number} {p} h n) = refused_by number p e h (refused_so (subst (Refusing (NumberFault t start)) e (number-faults t start)))

longer : (n more : Bytes) (b : ℕ) → length n ≡ max_number → NumberFits (n ++ (b ∷ more)) → ⊥
longer n more b e h = let short = h.short in omega (arith, length-append n (b ∷ more))

number-some : {n : Bytes} → number n → 0 < length n
number-some {n} d = let (low, _) = (number-begins d (from_whole n)).range in in_text n 0 (omega arith)

-- texts that begin alike refuse a number alike
agree_cut : (c more : Bytes) → Agree (c ++ more) c (length c)
agree_cut c more = subst (λ t. Agree (c ++ more) t (length c)) (append-nil c) (agree c more [])

agree_byte : (c : Bytes) (b : ℕ) (more after : Bytes) → Agree (c ++ (b ∷ more)) (c ++ (b ∷ after)) (length c + 1)
agree_byte c b more after =
    rw (← length-append c (b ∷ []), ← append_assoc c (b ∷ []) more, ← append_assoc c (b ∷ []) after) (agree (c ++ (b ∷ [])) more after)

refused_same : {t u : Bytes} {m number p : ℕ} (start : ℕ) → Agree t u m → Numbers.number t start ≡ refused number p → p < m →
    Numbers.number u start ≡ refused number p
refused_same {u = u} {m = m} start alike e l = same_stop (subst (λ o. Local m there start o (Numbers.number u start)) e (number-local alike start)) l

-- no closing bracket stands after the blanks
record Clear (t : Bytes) (at : ℕ) : Type 0 where
  no_bracket : byte t (blanks t at) ≡ code "]" → ⊥
  no_brace : byte t (blanks t at) ≡ code "}" → ⊥

shows_clear : {t : Bytes} {at : ℕ} → Shows (byte t at) → Clear t at
shows_clear {t} {at} h = let stay = blanks_stay t at h.no_blank in record { no_bracket = rw stay h.no_bracket; no_brace = rw stay h.no_brace }

end_clear : {t : Bytes} {at : ℕ} → length t ≤ at → Clear t at
end_clear {t} {at} l =
    let there : byte t (blanks t at) ≡ 0 = ap (byte t) (blanks_stay t at (nothing_blank t l)) ∙ past_end t l in
    record { no_bracket = λ e. omega arith; no_brace = λ e. omega arith }

module _ (c s : Bytes) (never : (number q : ℕ) → read c ≡ refused number q → number ≡ not_json) where
  goes_on : {at : ℕ} → Clear c at → Clear s at → GoesOn c s never at
  unfolding closing_bracket
  goes_on h h' = record { array = (h.no_bracket, h'.no_bracket); object = (h.no_brace, h'.no_brace) }

  pub given_5 : {w : Bytes} {p values b : ℕ} → BeforeValue w max_depth values → On c s never w 0 p → length c ≤ p → Opening b → byte s p ≡ b →
      read s ≡ refused too_deep p
  unfolding ◌>>=◌
  given_5 {p = p} {values = values} h f ends o e =
      let shows = subst Shows (sym e) (opening_shows o) in
      let r = arrive c s never p h f (goes_on (end_clear ends) (shows_clear shows)) in
      let sum = r.sum in
      let none : r.left ≡ 0 = omega arith in
      let k = r.arrived in
      k.full ∙ ap (λ o. o >>= k.next')
      (ap (λ left. Read.value left s (blanks s p) values) none
      ∙ ap (λ q. Read.value 0 s q values) (blanks_stay s p shows.no_blank) ∙ no_level s p values o e)

  pub given_6 : {w more : Bytes} {p levels b : ℕ} {v : Value.Value} → BeforeValue w levels max_nodes → On c s never w 0 p → length c ≤ p →
      value (b ∷ more) v → (ws (b ∷ []) → ⊥) → byte s p ≡ b → (levels ≡ max_depth → Opening b → ⊥) → read s ≡ refused too_many_nodes p
  unfolding ◌>>=◌
  given_6 {p = p} h f ends d visible e shallow =
      let first = first_of d refl visible in
      let shows = subst Shows (sym e) (first_shows first) in
      let r = arrive c s never p h f (goes_on (end_clear ends) (shows_clear shows)) in
      let sum = r.sum in
      let k = r.arrived in
      k.full ∙ ap (λ o. o >>= k.next')
      (ap (λ q. Read.value r.left s q max_nodes) (blanks_stay s p shows.no_blank) ∙ no_room r.left s p first e (λ none. shallow (omega arith)))

  pub given_4 : {w b ms d n : Bytes} {f : Members} {name : Text} {at next levels values : ℕ} → BeforeValue w levels values → begin_object b →
      members ms f → value_separator d → string n name → Named name f → On c s never (w ++ (b ++ (ms ++ d))) 0 at → From s at n next →
      read s ≡ refused repeated_name (next - 1)
  unfolding ◌>>=◌
  given_4 {w} {b} {ms} {d} h o listed q name m f g =
      let (before, rest) = split_on c s never w (b ++ (ms ++ d)) f in
      let (opens, rest') = split_on c s never b (ms ++ d) rest in
      let (between, separator) = split_on c s never ms d rest' in
      let r = arrive c s never _ h before (opening_goes_on c s never true o opens) in
      let i = in-object c s never o listed q opens between separator r in
      let k = to_name c s never (inside f.0 (omega arith), inside f.1 (omega arith)) i.items in
      k.full ∙ ap (λ o. o >>= k.next') (second_name name g m)

  -- a number after the same bytes
  number-comes : {w : Bytes} {start levels values : ℕ} → BeforeValue w levels values → On c s never w 0 start → NumberBegins (byte c start) →
      NumberBegins (byte s start) → Comes c s never (Numbers.number c start) (Numbers.number s start)
  unfolding number_value
  number-comes {start = start} {values = values} h f b b' =
      let r = arrive c s never start h f (goes_on (shows_clear (numeral_shows b)) (shows_clear (numeral_shows b'))) in
      first_step c s never _ _
      (room_there c s never values start start
      (same c s never (number_value_lem r.left c start values b) (number_value_lem r.left s start values b') r.arrived))

  -- a number that begins with the bytes n and is refused at the byte b after them, or before: in c it is not refused
  passing : {w n : Bytes} {start levels values : ℕ} (b : ℕ) (more after : Bytes) → BeforeValue w levels values → On c s never w 0 start →
      From c start n (length c) → 0 < length n → s ≡ c ++ (b ∷ after) → number (n ++ (b ∷ more)) → (r : Over (c ++ (b ∷ more)) start) →
      r.place ≤ length c → read s ≡ refused number_over_limit (length c)
  unfolding ◌>>=◌
  passing {n = n} {start = start} b more after h f g some text d r l =
      let far = g.far in
      let with-c = agree_cut c (b ∷ more) in
      let with-s = subst (λ t. Agree (c ++ (b ∷ more)) t (length c + 1)) (sym text) (agree_byte c b more after) in
      let begins = number-begins d (extended g (b ∷ more)) in
      let k = number-comes h f (subst NumberBegins (sym (with-c.bytes start (omega arith))) begins)
      (subst NumberBegins (sym (with-s.bytes start (omega arith))) begins) in
      let at-s = refused_same start with-s r.refuses (omega arith) in
      let not-before : r.place < length c → ⊥ =
      λ before.
      let wrong : number_over_limit ≡ not_json = never _ _ (k.cut ∙ ap (λ o. o >>= k.next) (refused_same start with-c r.refuses before)) in
      omega arith in
      let is : r.place ≡ length c = omega arith in
      k.full ∙ ap (λ o. o >>= k.next') (at-s ∙ ap (refused number_over_limit) is)

  pub given_7 : {w n : Bytes} {b start levels values : ℕ} (after : Bytes) → BeforeValue w levels values → On c s never w 0 start → From c start n (length c) →
      s ≡ c ++ (b ∷ after) → PassesLimit n b → read s ≡ refused number_over_limit (length c)
  given_7 {n = n} {b = b} after h f g text (byte_129 more d long) =
      let far = g.far in
      let r = number-over d (extended g (b ∷ more)) (nothing_stops (c ++ (b ∷ more)) (omega arith)) (longer n more b long) in
      let short = r.over.short in
      passing b more after h f g (omega arith) text d r (omega arith)
  given_7 {n = n} {b = b} after h f g text (exponent-digit d fits d' large) =
      let far = g.far in
      let r = number-over d' (extended g (b ∷ [])) (nothing_stops (c ++ (b ∷ [])) (omega arith)) (λ h. let small = h.exponent_fits in omega arith) in
      let inside = in_text (c ++ (b ∷ [])) r.place r.over.there in
      passing b [] after h f g (number-some d) text d' r (omega (arith, length-append c (b ∷ [])))
