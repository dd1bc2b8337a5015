-- Each reader of a text does the same on a part of it that holds all that it takes.
use Rattle.std.specs.Prelude.{if◌then◌else◌}
use mathlib.Core.Path.{◌≡◌, refl, ap, sym, ◌∙◌}
use mathlib.Core.Bool.{Bool, true, false, ◌||◌, true≢false}
use mathlib.Core.List.{[], ◌∷◌}
use Prim.Native.Nat.{ℕ, zero, suc, ◌+◌, ◌-◌, ◌*◌, ◌<◌, ◌≤◌}
use Prim.Native.Char.{code}
use native.Mathlib.Decide.{dec_lt}
use native.Mathlib.Omega.{arith}
use lib.ListN.{length, take, drop}
use lib.Dec.{eqb, leb, ltb}
use borrow.Author.Tests.{ltb-true, ltb-false, lt-ltb, le-ltb}
use Rattle.spec.specs.Outcome.{Outcome, ok, refused, ◌>>=◌}
use Rattle.spec.specs.Bytes.{Bytes, Text, byte, within, byte_in}
use Rattle.spec.specs.Strings.{hex_value, hex_in, low_surrogate, after_high, unicode_escape, short_escape, escape, tail, multibyte, character, characters}
use Rattle.spec.specs.Strings.{string}
use Rattle.spec.specs.Numbers.{is_digit, is_e, counted, digits, some_digits, exponent_digits, int, frac, sign, signed_digits, exp, minus, number}
use Rattle.spec.specs.Forest.{size, single, ◌⧺◌}
use Rattle.spec.specs.Value as Value
use Rattle.spec.specs.Value.{Label, Members, leaf, named, has}
use Rattle.spec.specs.Read.{is_blank, blanks_from, blanks, word_at, room_for, fresh}
use Rattle.spec.specs.Read.{name_for, literal_value, number_value, string_value, scalar, closing_bracket}
use Rattle.spec.specs.Read.{items, contents, container, value}
use Rattle.spec.specs.Forest as Forest
use Rattle.spec.proofs.OutcomeLaws.{refused≢ok}
use Rattle.spec.proofs.Tracking.{Cut, refuses, ended_at, before, past_place, gives_equal, gives_same, At, on, Tracks, place, pair, none, result, later}
use Rattle.spec.proofs.Tracking.{under, split, choose, stop, and_then, and_more, step, check, from_place, chosen, past_end, same_byte, same, fails}

-- places that are moved by the same number stay in order
ltb_moved : (k a b c d : ℕ) → a ≡ k + c → b ≡ k + d → ltb c d ≡ ltb a b
ltb_moved k a b c d e f = go (ltb a b) refl
  where
    go : (x : Bool) → ltb a b ≡ x → ltb c d ≡ x
    go true h = let l = ltb-true a b h in lt-ltb c d (omega arith)
    go false h = let l = ltb-false a b h in le-ltb c d (omega arith)

-- a test that let a byte pass
pub passed : (at b : ℕ) {b' : ℕ} (c : Bool) → (if c then ok b else refused 3 at) ≡ ok b' → (c ≡ true) × (b ≡ b')
passed at b true h = (refl, cc)
passed at b false h = absurd (refused≢ok h)

-- checks that pass at one place pass at another
fresh_passes : (name : Text) (so_far : Members) (at p b : ℕ) → fresh name so_far at ≡ ok b → (b' : ℕ) × (fresh name so_far p ≡ ok b')
unfolding fresh
fresh_passes name so_far at p b h = go (has name so_far) h
  where
    go : (c : Bool) → (if c then refused 4 at else ok at) ≡ ok b → (b' : ℕ) × ((if c then refused 4 p else ok p) ≡ ok b')
    go true h = absurd (refused≢ok h)
    go false h = (p, refl)

room_passes : (nodes nodes' at p : ℕ) → nodes' ≤ nodes → (b : ℕ) → room_for nodes at ≡ ok b → (b' : ℕ) × (room_for nodes' p ≡ ok b')
unfolding room_for
room_passes nodes nodes' at p l b h = go (ltb nodes 2048) refl h
  where
    go : (c : Bool) → ltb nodes 2048 ≡ c → (if c then ok at else refused 6 at) ≡ ok b → (b' : ℕ) × ((if ltb nodes' 2048 then ok p else refused 6 p) ≡ ok b')
    go true e h = let m = ltb-true nodes 2048 e in (p, rw (lt-ltb nodes' 2048 (omega arith)))
    go false e h = absurd (refused≢ok h)

module _ (strict : Bool) {s t : Bytes} {k n : ℕ} (cut : Cut s t k n) where
  -- a byte between two bounds, or a digit between two bounds, and then more
  view_step : {A X : Type 0} {put : A → ℕ → X} {m low at p : ℕ} (view : ℕ → ℕ) (lo hi : ℕ) {g g' : ℕ → Outcome X} → At k p at → (low < m → p < n) →
      ((b : ℕ) → within lo hi (view (byte s at)) ≡ true → Tracks strict k m put low (g b) (g' b)) →
      Tracks strict k m put low
      ((if within lo hi (view (byte s at)) then ok (view (byte s at)) else refused 3 at) >>= g)
      ((if within lo hi (view (byte t p)) then ok (view (byte t p)) else refused 3 p) >>= g')
  view_step {at = at} {p = p} view lo hi e l f =
      step
      (λ b h m.
      let (c, d) = passed at _ (within lo hi (view (byte s at))) h in
      ap (λ x. if within lo hi (view x) then ok (view x) else refused 3 p) (same_byte cut e (l m))
      ∙ ap (λ c. if c then ok (view (byte s at)) else refused 3 p) c ∙ ap ok d)
      (λ b h. f b (passed at _ (within lo hi (view (byte s at))) h).0)

  byte_in_step : {A X : Type 0} {put : A → ℕ → X} {m low at p : ℕ} (lo hi : ℕ) {g g' : ℕ → Outcome X} → At k p at → (low < m → p < n) →
      ((b : ℕ) → within lo hi (byte s at) ≡ true → Tracks strict k m put low (g b) (g' b))
      → Tracks strict k m put low (byte_in s at lo hi >>= g) (byte_in t p lo hi >>= g')
  unfolding byte_in
  byte_in_step lo hi e l f = view_step (λ b. b) lo hi e l f

  hex_in_step : {A X : Type 0} {put : A → ℕ → X} {m low at p : ℕ} (lo hi : ℕ) {g g' : ℕ → Outcome X} → At k p at → (low < m → p < n) →
      ((b : ℕ) → Tracks strict k m put low (g b) (g' b)) → Tracks strict k m put low (hex_in s at lo hi >>= g) (hex_in t p lo hi >>= g')
  unfolding hex_in
  hex_in_step lo hi e l f = view_step hex_value lo hi e l (λ b h. f b)

  low_surrogate_tracks : {at p : ℕ} (high : ℕ) → At k p at → Tracks strict k (suc n) pair (suc p) (low_surrogate s high at) (low_surrogate t high p)
  unfolding low_surrogate
  low_surrogate_tracks {p = p} high e =
      later (p + 4) (omega arith)
      (hex_in_step _ _ e (omega arith) λ a.
      hex_in_step _ _ (on e 1) (omega arith) λ b.
      hex_in_step _ _ (on e 2) (omega arith) λ c.
      hex_in_step _ _ (on e 3) (omega arith) λ d.
      result _ (on e 4) (omega arith) (λ l. refl))

  after_high_tracks : {at p : ℕ} (high : ℕ) → At k p at → Tracks strict k (suc n) pair (suc p) (after_high s high at) (after_high t high p)
  unfolding after_high
  after_high_tracks {p = p} high e =
      later (suc (p + 2)) (omega arith)
      (byte_in_step _ _ e (omega arith) λ a h.
      byte_in_step _ _ (on e 1) (omega arith) λ b i.
      low_surrogate_tracks high (on e 2))

  unicode_escape_tracks : {at p : ℕ} → At k p at → Tracks strict k (suc n) pair (suc p) (unicode_escape s at) (unicode_escape t p)
  unfolding unicode_escape
  unicode_escape_tracks {p = p} e =
      later (p + 4) (omega arith)
      (hex_in_step _ _ e (omega arith) λ a.
      hex_in_step _ _ (on e 1) (omega arith) λ b.
      hex_in_step _ _ (on e 2) (omega arith) λ c.
      hex_in_step _ _ (on e 3) (omega arith) λ d.
      split (within 55296 56319 (a * 4096 + b * 256 + c * 16 + d))
      (later _ (omega arith) (after_high_tracks _ (on e 4))) (result _ (on e 4) (omega arith) (λ l. refl)))

  escape_tracks : {at p : ℕ} → At k p at → Tracks strict k (suc n) pair (suc p) (escape s at) (escape t p)
  unfolding escape
  escape_tracks {p = p} e =
      choose (same cut (λ b. eqb b (code "u")) e (omega arith)) (λ h. later _ (omega arith) (unicode_escape_tracks (on e 1))) λ h.
      choose (same cut (λ b. eqb (short_escape b) 0) e (omega arith)) (λ h. none) λ h.
      result _ (on e 1) (omega arith) (λ l. ap (λ b. (short_escape b, p + 1)) (same_byte cut e (omega arith)))

  tail_tracks : (more : ℕ) {at p : ℕ} (low high bits : ℕ) → At k p at
      → Tracks strict k (suc n) pair (more + p) (tail more s at low high bits) (tail more t p low high bits)
  unfolding tail
  tail_tracks zero low high bits e = result _ e (omega arith) (λ l. refl)
  tail_tracks (suc more) {p = p} low high bits e =
      byte_in_step _ _ e (omega arith) λ b h. later (more + (p + 1)) (omega arith) (tail_tracks more _ _ _ (on e 1))

  multibyte_tracks : {at p : ℕ} (b : ℕ) → At k p at → Tracks strict k (suc n) pair (suc p) (multibyte s at b) (multibyte t p b)
  unfolding multibyte
  multibyte_tracks {at} {p} b e =
      split (within 0xC2 0xDF b) (after 1 _ _ _) (split (within 0xE0 0xE0 b) (after 2 _ _ _) (split (within 0xE1 0xEC b) (after 2 _ _ _)
      (split (within 0xED 0xED b) (after 2 _ _ _) (split (within 0xEE 0xEF b) (after 2 _ _ _) (split (within 0xF0 0xF0 b) (after 3 _ _ _)
      (split (within 0xF1 0xF3 b) (after 3 _ _ _) (split (within 0xF4 0xF4 b) (after 3 _ _ _) none)))))))
    where
      after : (more low high bits : ℕ) → Tracks strict k (suc n) pair (suc p) (tail more s (at + 1) low high bits) (tail more t (p + 1) low high bits)
      after more low high bits = later (more + (p + 1)) (omega arith) (tail_tracks more low high bits (on e 1))

  pub character_tracks : {at p : ℕ} → At k p at → Tracks strict k (suc n) pair (suc p) (character s at) (character t p)
  unfolding character
  character_tracks {at = at} {p = p} e =
      choose (same cut (λ b. eqb b (code "\\")) e (omega arith)) (λ h. later _ (omega arith) (escape_tracks (on e 1))) λ h.
      choose (same cut (within 0x20 0x7F) e (omega arith))
      (λ h. result _ (on e 1) (omega arith) (λ l. ap (λ b. (b, p + 1)) (same_byte cut e (omega arith)))) λ h.
      under _ (λ l. ap (multibyte t p) (same_byte cut e (omega arith))) (multibyte_tracks (byte s at) e)

  -- the fuel for the part suffices where it is at least the number of bytes left in it
  characters_more : (f f' : ℕ) {at p : ℕ} → At k p at → n ≤ suc f' + p →
      ((at p : ℕ) → At k p at → n ≤ f' + p → Tracks strict k (suc n) pair (suc p) (characters f s at) (characters f' t p)) →
      Tracks strict k (suc n) pair (suc p) (characters (suc f) s at) (characters (suc f') t p)
  unfolding characters
  characters_more f f' e enough ih =
      choose (same cut (λ b. eqb b (code "\"")) e (omega arith)) (λ h. result _ (on e 1) (omega arith) (λ l. refl)) λ h.
      and_then _ _ (character_tracks e) λ c next q e l.
      later _ (omega arith) (and_then _ _ (ih next q e (omega arith)) λ cs end q e l. result _ e (omega arith) (λ l. refl))

  pub characters_tracks : (f f' : ℕ) {at p : ℕ} → At k p at → n ≤ f' + p → Tracks strict k (suc n) pair (suc p) (characters f s at) (characters f' t p)
  unfolding characters
  characters_tracks zero f' e l = none
  characters_tracks (suc f) zero e l = under _ (λ m. absurd (omega arith)) (characters_more f n e (omega arith) (λ at p e l. characters_tracks f n e l))
  characters_tracks (suc f) (suc f') e l = characters_more f f' e l (λ at p e l. characters_tracks f f' e l)

  pub string-tracks : {at p : ℕ} → At k p at → Tracks strict k (suc n) pair (suc p) (string s at) (string t p)
  unfolding string
  string-tracks e = let w = cut.whole in
      byte_in_step _ _ e (omega arith) λ b h. later _ (omega arith) (characters_tracks (length s) (length t) (on e 1) (omega arith))

  -- Numbers. A number ends where the next byte can't continue it, and 0, which stands past the end of the part, can't either.
  counted_tracks : {start first at p : ℕ} → At k first start → At k p at → Tracks strict k (suc n) place (suc p) (counted start at) (counted first p)
  unfolding counted
  counted_tracks {start} {first} {at} {p} b e =
      choose (λ l. ltb_moved k at (start + 128) p (first + 128) e.is (on b 128).is) (λ h. result tt (on e 1) (omega arith) (λ l. refl)) (λ h. none)

  no_digit : {at : ℕ} → length s ≤ at → is_digit (byte s at) ≡ false
  unfolding is_digit within
  no_digit l = ap is_digit (past_end s l)

  no_digit-after : {at p : ℕ} → At k p at → length s ≤ at → p < suc n → is_digit (byte t p) ≡ false
  no_digit-after {at} {p} e l m = go (dec_lt p n)
    where
      go : Dec (p < n) → is_digit (byte t p) ≡ false
      go (yes i) = ap is_digit (same_byte cut e i) ∙ no_digit l
      go (no i) = fails cut is_digit cut.ends.no_digit (omega arith)

  no_digits : (f : ℕ) (first : ℕ) {p : ℕ} → is_digit (byte t p) ≡ false → digits f t first p ≡ ok p
  unfolding digits
  no_digits zero first e = refl
  no_digits (suc f) first e = rw (e, digits)

  -- where the digits begin with one, the place after them is a later one
  digits_more : (f f' : ℕ) {start first at p : ℕ} → At k first start → (e : At k p at)
      → (low : ℕ) → low ≤ suc p → p ≤ low → (is_digit (byte s at) ≡ false → low ≤ p) →
      Tracks strict k (suc n) place (suc p) (counted start at >>= digits f s start) (counted first p >>= digits f' t first) →
      Tracks strict k (suc n) place low (digits (suc f) s start at) (digits (suc f') t first p)
  unfolding digits
  digits_more f f' b e low l l' m more =
      stop (same cut is_digit e (omega arith)) (fails cut is_digit cut.ends.no_digit) l l' (λ h. more) (λ h. result tt e (m h) (λ l. refl))

  digits_tracks : (f f' : ℕ) {start first at p : ℕ} → At k first start → (e : At k p at) → length s ≤ f + at → n ≤ f' + p → (low : ℕ) → low ≤ suc p → p ≤ low →
      (is_digit (byte s at) ≡ false → low ≤ p) → Tracks strict k (suc n) place low (digits f s start at) (digits f' t first p)
  unfolding digits
  digits_tracks zero f' {first = first} b e i j low l l' m =
      ended_at tt e (m (no_digit (omega arith)))
      (λ o. gives_equal strict _ _ _ (no_digits f' first (no_digit-after e (omega arith) o)) (gives_same strict refl))
  digits_tracks (suc f) zero {first = first} {p = p} b e i j low l l' m =
      under _ (λ o. sym (no_digits (suc n) first (fails cut is_digit cut.ends.no_digit (omega arith))))
      (digits_more f n b e low l l' m
      (and_then _ _ (counted_tracks b e) λ a at q c o. digits_tracks f n b c (omega arith) (omega arith) q (omega arith) (omega arith) (λ h. omega arith)))
  digits_tracks (suc f) (suc f') b e i j low l l' m =
      digits_more f f' b e low l l' m
      (and_then _ _ (counted_tracks b e) λ a at q c o. digits_tracks f f' b c (omega arith) (omega arith) q (omega arith) (omega arith) (λ h. omega arith))

  some_digits_tracks : {start first at p : ℕ} → At k first start → At k p at
      → Tracks strict k (suc n) place (suc p) (some_digits s start at) (some_digits t first p)
  unfolding some_digits is_digit
  some_digits_tracks b e =
      let w = cut.whole in
      byte_in_step _ _ e (omega arith) λ d h. digits_tracks (length s) (length t) b e
      (omega arith) (omega arith) _ (omega arith) (omega arith) (λ i. absurd (true≢false (sym h ∙ i)))

  -- the same for the digits of an exponent
  no_exponent_digits : (f : ℕ) (first size : ℕ) {p : ℕ} → is_digit (byte t p) ≡ false → exponent_digits f t first size p ≡ ok p
  unfolding exponent_digits
  no_exponent_digits zero first size e = refl
  no_exponent_digits (suc f) first size e = rw (e, exponent_digits)

  exponent_digits_more : (f f' : ℕ) {start first at p : ℕ} (size : ℕ) → At k first start
      → (e : At k p at) → (low : ℕ) → low ≤ suc p → p ≤ low → (is_digit (byte s at) ≡ false → low ≤ p) →
      ((more : ℕ)
      → Tracks strict k (suc n) place (suc p) (counted start at >>= exponent_digits f s start more) (counted first p >>= exponent_digits f' t first more)) →
      Tracks strict k (suc n) place low (exponent_digits (suc f) s start size at) (exponent_digits (suc f') t first size p)
  unfolding exponent_digits
  exponent_digits_more f f' {first = first} {at = at} {p = p} size b e low l l' m more =
      stop (same cut is_digit e (omega arith)) (fails cut is_digit cut.ends.no_digit) l l'
      (λ h. under _
      (λ o. ap (λ d. if leb (size * 10 + (d - code "0")) 9999 then counted first p >>= exponent_digits f' t first (size * 10 + (d - code "0")) else refused 7 p)
      (same_byte cut e (omega arith)))
      (split (leb (size * 10 + (byte s at - code "0")) 9999) (more _) none))
      (λ h. result tt e (m h) (λ l. refl))

  exponent_digits_tracks : (f f' : ℕ) {start first at p : ℕ} (size : ℕ) → At k first start
      → (e : At k p at) → length s ≤ f + at → n ≤ f' + p → (low : ℕ) → low ≤ suc p → p ≤ low →
      (is_digit (byte s at) ≡ false → low ≤ p) → Tracks strict k (suc n) place low (exponent_digits f s start size at) (exponent_digits f' t first size p)
  unfolding exponent_digits
  exponent_digits_tracks zero f' {first = first} size b e i j low l l' m =
      ended_at tt e (m (no_digit (omega arith)))
      (λ o. gives_equal strict _ _ _ (no_exponent_digits f' first size (no_digit-after e (omega arith) o)) (gives_same strict refl))
  exponent_digits_tracks (suc f) zero {first = first} {p = p} size b e i j low l l' m =
      under _ (λ o. sym (no_exponent_digits (suc n) first size (fails cut is_digit cut.ends.no_digit (omega arith))))
      (exponent_digits_more f n size b e low l l' m λ more. and_then _ _ (counted_tracks b e) λ a at q c o. exponent_digits_tracks f n more b c
      (omega arith) (omega arith) q (omega arith) (omega arith) (λ h. omega arith))
  exponent_digits_tracks (suc f) (suc f') size b e i j low l l' m =
      exponent_digits_more f f' size b e low l l' m λ more. and_then _ _ (counted_tracks b e) λ a at q c o. exponent_digits_tracks f f' more b c
      (omega arith) (omega arith) q (omega arith) (omega arith) (λ h. omega arith)

  whole_part_tracks : {start first at p : ℕ} → At k first start → At k p at → Tracks strict k (suc n) place (suc p) (int s start at) (int t first p)
  unfolding int
  whole_part_tracks b e = choose (same cut (λ d. eqb d (code "0")) e (omega arith)) (λ h. counted_tracks b e) (λ h. some_digits_tracks b e)

  fraction_part_tracks : {start first at p : ℕ} → At k first start → At k p at → Tracks strict k (suc n) place p (frac s start at) (frac t first p)
  unfolding frac
  fraction_part_tracks b e =
      stop (same cut (λ d. eqb d (code ".")) e (omega arith)) (fails cut (λ d. eqb d (code ".")) cut.ends.no_point) (omega arith) (omega arith)
      (λ h. and_then _ _ (counted_tracks b e) λ a at q c l. later _ (omega arith) (some_digits_tracks b c))
      (λ h. result tt e (omega arith) (λ l. refl))

  exponent_sign_tracks : {start first at p : ℕ} → At k first start → At k p at → Tracks strict k (suc n) place p (sign s start at) (sign t first p)
  unfolding sign
  exponent_sign_tracks b e =
      stop (same cut (λ d. eqb d (code "+") || eqb d (code "-")) e (omega arith))
      (fails cut (λ d. eqb d (code "+") || eqb d (code "-")) cut.ends.no_sign) (omega arith) (omega arith)
      (λ h. counted_tracks b e) (λ h. result tt e (omega arith) (λ l. refl))

  signed_digits_tracks : {start first at p : ℕ} → At k first start → At k p at
      → Tracks strict k (suc n) place p (signed_digits s start at) (signed_digits t first p)
  unfolding signed_digits is_digit
  signed_digits_tracks b e =
      let w = cut.whole in
      and_then _ _ (exponent_sign_tracks b e) λ a at q c l.
      later (suc q) (omega arith)
      (byte_in_step _ _ c (omega arith) λ d h. exponent_digits_tracks (length s) (length t) 0 b c
      (omega arith) (omega arith) _ (omega arith) (omega arith) (λ i. absurd (true≢false (sym h ∙ i))))

  exponent_part_tracks : {start first at p : ℕ} → At k first start → At k p at → Tracks strict k (suc n) place p (exp s start at) (exp t first p)
  unfolding exp
  exponent_part_tracks b e =
      stop (same cut is_e e (omega arith)) (fails cut is_e cut.ends.no_exponent) (omega arith) (omega arith)
      (λ h. and_then _ _ (counted_tracks b e) λ a at q c l. signed_digits_tracks b c)
      (λ h. result tt e (omega arith) (λ l. refl))

  pub number-tracks : {at p : ℕ} → At k p at → Tracks strict k (suc n) place (suc p) (number s at) (number t p)
  unfolding number minus
  number-tracks {at} {p} e =
      chosen
      (λ next. int s at next >>= λ next. frac s at next >>= exp s at)
      (λ next. int t p next >>= λ next. frac t p next >>= exp t p)
      (eqb (byte s at) (code "-")) (eqb (byte t p) (code "-")) _ _ _ _
      (choose (same cut (λ d. eqb d (code "-")) e (omega arith)) (λ h. later _ (omega arith) (from_whole (on e 1))) (λ h. from_whole e))
    where
      from_whole : {next q : ℕ} → At k q next →
          Tracks strict k (suc n) place (suc q) (int s at next >>= λ next. frac s at next >>= exp s at) (int t p q >>= λ next. frac t p next >>= exp t p)
      from_whole c =
          and_then _ _ (whole_part_tracks e c) λ a next q c l.
          and_then _ _ (fraction_part_tracks e c) λ a next q c l.
          exponent_part_tracks e c

  -- blanks, where what follows them is inside t too
  no_blanks : (f : ℕ) {p : ℕ} → byte t p ≡ 0 → blanks_from f t p ≡ p
  unfolding blanks_from is_blank
  no_blanks zero e = refl
  no_blanks (suc f) e = rw (e, blanks_from)

  blanks_more : (f f' : ℕ) {at p : ℕ} → At k p at → Tracks strict k n place p (ok (blanks_from f s (at + 1))) (ok (blanks_from f' t (p + 1))) →
      Tracks strict k n place p (ok (blanks_from (suc f) s at)) (ok (blanks_from (suc f') t p))
  unfolding blanks_from
  blanks_more f f' {at} {p} e more =
      chosen ok ok (is_blank (byte s at)) (is_blank (byte t p)) _ _ _ _
      (choose (same cut is_blank e (omega arith)) (λ h. more) (λ h. result tt e (omega arith) (λ l. refl)))

  blanks_from_tracks : (f f' : ℕ) {at p : ℕ} → At k p at → length s ≤ f + at → n ≤ f' + p
      → Tracks strict k n place p (ok (blanks_from f s at)) (ok (blanks_from f' t p))
  unfolding blanks_from
  blanks_from_tracks zero f' e i j = result tt e (omega arith) (λ l. no_blanks f' (same_byte cut e l ∙ past_end s (omega arith)))
  blanks_from_tracks (suc f) zero {p = p} e i j =
      under _ (λ o. absurd (omega arith)) (blanks_more f n e (later (p + 1) (omega arith) (blanks_from_tracks f n (on e 1) (omega arith) (omega arith))))
  blanks_from_tracks (suc f) (suc f') {p = p} e i j =
      blanks_more f f' e (later (p + 1) (omega arith) (blanks_from_tracks f f' (on e 1) (omega arith) (omega arith)))

  pub blanks_tracks : {at p : ℕ} → At k p at → Tracks strict k n place p (ok (blanks s at)) (ok (blanks t p))
  unfolding blanks
  blanks_tracks e = let w = cut.whole in blanks_from_tracks (length s) (length t) e (omega arith) (omega arith)

  pub word_at_tracks : (word : Bytes) {at p : ℕ} → At k p at → Tracks strict k (suc n) place p (word_at word s at) (word_at word t p)
  unfolding word_at
  word_at_tracks [] e = result tt e (omega arith) (λ l. refl)
  word_at_tracks (b ∷ word) e = later _ (omega arith) (byte_in_step b b e (omega arith) λ a h. word_at_tracks word (on e 1))

  -- a name with its colon
  name_for_tracks : (is_object : Bool) (so_far : Members) {at p : ℕ} → At k p at
      → Tracks strict k n pair p (name_for is_object s so_far at) (name_for is_object t so_far p)
  unfolding name_for
  name_for_tracks false so_far e = result _ e (omega arith) (λ l. refl)
  name_for_tracks true so_far {p = p} e =
      later (suc p) (omega arith)
      (and_then _ _ (before (omega arith) (string-tracks e)) λ name next q c l.
      check (λ h. fresh_passes name so_far _ _)
      (from_place (λ x. byte_in s x (code ":") (code ":") >>= λ _. ok (name, blanks s (x + 1)))
      (λ x. byte_in t x (code ":") (code ":") >>= λ _. ok (name, blanks t (x + 1))) (blanks_tracks c) λ at p e l.
      later (p + 1) (omega arith) (byte_in_step _ _ e (omega arith) λ b h.
      from_place (λ x. ok (name, x)) (λ x. ok (name, x)) (blanks_tracks (on e 1)) λ at p e l. result name e (omega arith) (λ l. refl))))

  -- the values of a container, where those of the part are read with no more values before them
  module _ (object : Bool) (read-s read-t : ℕ → ℕ → Outcome (Value.Value × ℕ))
      (inner : (nodes nodes' at p : ℕ) → (strict ≡ true → nodes' ≤ nodes) → At k p at
      → Tracks strict k (suc n) pair (suc p) (read-s at nodes) (read-t p nodes')) where
    items_more : (nodes nodes' : ℕ) → (strict ≡ true → nodes' ≤ nodes) → (f f' : ℕ) (so_far : Members) {at p : ℕ} → At k p at → n ≤ suc f' + p →
        ((so_far : Members) (at p : ℕ) → At k p at → n ≤ f' + p
        → Tracks strict k (suc n) pair (suc p) (items f read-s object s nodes so_far at) (items f' read-t object t nodes' so_far p)) →
        Tracks strict k (suc n) pair (suc p) (items (suc f) read-s object s nodes so_far at) (items (suc f') read-t object t nodes' so_far p)
    unfolding items
    items_more nodes nodes' fewer f f' so_far e enough ih =
        and_more _ _ (name_for_tracks object so_far e) λ name at p e l₁.
        and_then _ _ (inner (nodes + size so_far) (nodes' + size so_far) at p (λ h. let l = fewer h in omega arith) e) λ v next q e l₂.
        later (suc q) (omega arith)
        (past_place
        (λ x. if eqb (byte s x) (closing_bracket object) then ok (so_far ⧺ single (named name v), x + 1) else
        (byte_in s x (code ",") (code ",") >>= λ _. items f read-s object s nodes (so_far ⧺ single (named name v)) (blanks s (x + 1))))
        (λ x. if eqb (byte t x) (closing_bracket object) then ok (so_far ⧺ single (named name v), x + 1) else
        (byte_in t x (code ",") (code ",") >>= λ _. items f' read-t object t nodes' (so_far ⧺ single (named name v)) (blanks t (x + 1))))
        (blanks_tracks e) λ at p e l₃.
        choose (same cut (λ b. eqb b (closing_bracket object)) e (omega arith)) (λ h. result _ (on e 1) (omega arith) (λ l. refl)) λ h.
        byte_in_step _ _ e (omega arith) λ b h.
        later (suc (p + 1)) (omega arith)
        (past_place (items f read-s object s nodes (so_far ⧺ single (named name v)))
        (items f' read-t object t nodes' (so_far ⧺ single (named name v))) (blanks_tracks (on e 1))
        λ at p e l₄. ih _ at p e (omega arith)))

    pub items_tracks : (nodes nodes' : ℕ) → (strict ≡ true → nodes' ≤ nodes) → (f f' : ℕ) (so_far : Members) {at p : ℕ} → At k p at → n ≤ f' + p →
        Tracks strict k (suc n) pair (suc p) (items f read-s object s nodes so_far at) (items f' read-t object t nodes' so_far p)
    unfolding items
    items_tracks nodes nodes' fewer zero f' so_far e l = none
    items_tracks nodes nodes' fewer (suc f) zero so_far e l =
        under _ (λ m. absurd (omega arith))
        (items_more nodes nodes' fewer f n so_far e (omega arith) (λ so_far at p e l. items_tracks nodes nodes' fewer f n so_far e l))
    items_tracks nodes nodes' fewer (suc f) (suc f') so_far e l =
        items_more nodes nodes' fewer f f' so_far e l (λ so_far at p e l. items_tracks nodes nodes' fewer f f' so_far e l)

    contents_tracks : (nodes nodes' : ℕ) → (strict ≡ true → nodes' ≤ nodes) → {at p : ℕ} → At k p at →
        Tracks strict k (suc n) pair p (contents read-s object s nodes at) (contents read-t object t nodes' p)
    unfolding contents
    contents_tracks nodes nodes' fewer {p = p} e =
        let w = cut.whole in
        later (suc p) (omega arith)
        (past_place
        (λ x. if eqb (byte s x) (closing_bracket object) then ok (Forest.none, x + 1) else items (length s) read-s object s nodes Forest.none x)
        (λ x. if eqb (byte t x) (closing_bracket object) then ok (Forest.none, x + 1) else items (length t) read-t object t nodes' Forest.none x)
        (blanks_tracks e) λ at p e l.
        choose (same cut (λ b. eqb b (closing_bracket object)) e (omega arith)) (λ h. result _ (on e 1) (omega arith) (λ l. refl))
        (λ h. items_tracks nodes nodes' fewer (length s) (length t) Forest.none e (omega arith)))

    container_tracks : (nodes nodes' at p : ℕ) → (strict ≡ true → nodes' ≤ nodes) → At k p at →
        Tracks strict k (suc n) pair (suc p) (container read-s object s at nodes) (container read-t object t p nodes')
    unfolding container
    container_tracks nodes nodes' at p fewer e =
        check (λ h. room_passes nodes nodes' at p (fewer h))
        (later (p + 1) (omega arith)
        (and_then _ _ (contents_tracks (nodes + 1) (nodes' + 1) (λ h. let l = fewer h in omega arith) (on e 1)) λ kids next q e l. result _ e
        (omega arith) (λ l. refl)))

  -- a scalar
  number-text : {at p next q : ℕ} → At k p at → At k q next → q ≤ n → take (q - p) (drop p t) ≡ take (next - at) (drop at s)
  number-text {at} {p} {next} {q} e f l =
      cut.part p q l ∙ ap (λ x. take (q - p) (drop x s)) (sym e.is)
      ∙ ap (λ m. take m (drop at s)) (let h = e.is in let i = f.is in let same : q - p ≡ next - at = omega arith in same)

  literal_tracks : {at p : ℕ} (label : Label) (word : Bytes) → At k p at
      → Tracks strict k (suc n) pair (suc p) (literal_value label word s at) (literal_value label word t p)
  unfolding literal_value
  literal_tracks {p = p} label word e =
      later (p + 1) (omega arith) (and_then _ _ (word_at_tracks word (on e 1)) λ a next q e l. result _ e (omega arith) (λ l. refl))

  number_value_tracks : {at p : ℕ} → At k p at → Tracks strict k (suc n) pair (suc p) (number_value s at) (number_value t p)
  unfolding number_value
  number_value_tracks e =
      and_then _ _ (number-tracks e) λ a next q f l. result _ f (omega arith) (λ l. ap (λ w. (leaf (Label.number w), q)) (number-text e f (omega arith)))

  string_value_tracks : {at p : ℕ} → At k p at → Tracks strict k (suc n) pair (suc p) (string_value s at) (string_value t p)
  unfolding string_value
  string_value_tracks e = and_then _ _ (string-tracks e) λ cs next q e l. result _ e (omega arith) (λ l. refl)

  scalar_tracks : {at p : ℕ} (nodes nodes' : ℕ) → (strict ≡ true → nodes' ≤ nodes)
      → At k p at → Tracks strict k (suc n) pair (suc p) (scalar s at nodes) (scalar t p nodes')
  unfolding scalar
  scalar_tracks {at} {p} nodes nodes' fewer e =
      choose (same cut (λ b. eqb b (code "\"")) e (omega arith)) (λ h. room (string_value_tracks e)) λ h.
      choose (same cut (λ b. is_digit b || eqb b (code "-")) e (omega arith)) (λ h. room (number_value_tracks e)) λ h.
      choose (same cut (λ b. eqb b (code "n")) e (omega arith)) (λ h. room (literal_tracks _ _ e)) λ h.
      choose (same cut (λ b. eqb b (code "t")) e (omega arith)) (λ h. room (literal_tracks _ _ e)) λ h.
      choose (same cut (λ b. eqb b (code "f")) e (omega arith)) (λ h. room (literal_tracks _ _ e)) λ h. none
    where
      room : {o o' : Outcome (Value.Value × ℕ)} → Tracks strict k (suc n) pair (suc p) o o'
          → Tracks strict k (suc n) pair (suc p) (room_for nodes at >>= λ _. o) (room_for nodes' p >>= λ _. o')
      room f = check (λ h. room_passes nodes nodes' at p (fewer h)) f

  -- a value
  pub value-tracks : (left left' : ℕ) → (strict ≡ true → left ≤ left') → (nodes nodes' at p : ℕ) → (strict ≡ true → nodes' ≤ nodes) → At k p at →
      Tracks strict k (suc n) pair (suc p) (value left s at nodes) (value left' t p nodes')
  unfolding value
  value-tracks zero zero m nodes nodes' at p fewer e =
      choose (same cut (λ b. eqb b (code "[")) e (omega arith)) (λ h. none) λ h. choose
      (same cut (λ b. eqb b (code "{")) e (omega arith)) (λ h. none) λ h. scalar_tracks nodes nodes' fewer e
  value-tracks zero (suc left') m nodes nodes' at p fewer e =
      choose (same cut (λ b. eqb b (code "[")) e (omega arith)) (λ h. none) λ h. choose
      (same cut (λ b. eqb b (code "{")) e (omega arith)) (λ h. none) λ h. scalar_tracks nodes nodes' fewer e
  value-tracks (suc left) zero m nodes nodes' at p fewer e =
      let weak : strict ≡ true → ⊥ = λ h. let l = m h in omega arith in
      let deeper = value-tracks left left (λ h. omega arith) in
      choose (same cut (λ b. eqb b (code "[")) e (omega arith))
      (λ h. refuses _ weak (container_tracks false (value left s) (value left t) deeper nodes nodes' at p fewer e)) λ h.
      choose (same cut (λ b. eqb b (code "{")) e (omega arith))
      (λ h. refuses _ weak (container_tracks true (value left s) (value left t) deeper nodes nodes' at p fewer e)) λ h.
      scalar_tracks nodes nodes' fewer e
  value-tracks (suc left) (suc left') m nodes nodes' at p fewer e =
      let deeper = value-tracks left left' (λ h. let l = m h in omega arith) in
      choose (same cut (λ b. eqb b (code "[")) e (omega arith))
      (λ h. container_tracks false (value left s) (value left' t) deeper nodes nodes' at p fewer e) λ h.
      choose (same cut (λ b. eqb b (code "{")) e (omega arith))
      (λ h. container_tracks true (value left s) (value left' t) deeper nodes nodes' at p fewer e) λ h.
      scalar_tracks nodes nodes' fewer e
