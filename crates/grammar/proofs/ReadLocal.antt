-- Each reader looks at no byte past the place of its outcome.
use Rattle.std.specs.Prelude.{if◌then◌else◌}
use Prim.Native.Nat.{ℕ, zero, suc, ◌+◌, ◌-◌, ◌*◌, ◌<◌, ◌≤◌}
use Prim.Native.Char.{code}
use mathlib.Core.Path.{◌≡◌, refl, ap, subst}
use mathlib.Core.Bool.{Bool, true, false, ◌||◌}
use mathlib.Core.List.{[], ◌∷◌}
use native.Mathlib.Omega.{arith}
use lib.ListN.{length, take, drop}
use lib.Dec.{eqb, ltb, leb}
use borrow.Author.Tests.{eqb-true, eqb-false, ne_eqb}
use Rattle.spec.specs.Outcome.{Outcome, ok, refused, ◌>>=◌}
use Rattle.spec.specs.Refusal.{not_json, repeated_name, too_many_nodes, number_over_limit}
use Rattle.spec.specs.Limits.{max_depth, max_nodes, max_number, max_exponent}
use Rattle.spec.specs.Bytes.{Bytes, Text, byte, within, byte_in}
use Rattle.spec.specs.Numbers as Numbers
use Rattle.spec.specs.Numbers.{is_digit, is_e, counted, digits, some_digits, exponent_digits, signed_digits}
use Rattle.spec.specs.Strings as Strings
use Rattle.spec.specs.Strings.{low_surrogate, after_high, second_limit, unicode_escape, short_escape, escape, tail, multibyte, character, characters}
use Rattle.spec.specs.Forest as Forest
use Rattle.spec.specs.Forest.{size, single, ◌⧺◌}
use Rattle.spec.specs.Value as Value
use Rattle.spec.specs.Value.{Label, Members, leaf, named, has}
use Rattle.spec.specs.Read as Read
use Rattle.spec.specs.Read.{is_blank, blanks_from, blanks, word_at, room_for, literal_value, number_value, string_value, scalar, fresh}
use Rattle.spec.specs.Read.{name_for, container_label}
use Rattle.spec.specs.Read.{closing_bracket, items, contents, container, read}
use Rattle.grammar.specs.Grammar.{char}
use Rattle.grammar.proofs.Sound.{Sound, found}
use Rattle.grammar.proofs.StringsSound.{Means, end, character_sound}
use Rattle.grammar.proofs.StringsComplete.{char-reads}
use Rattle.grammar.proofs.NumbersSound.{there}
use Rattle.grammar.proofs.ReadSound.{blanks_from_sound, blanks_sound}
use Rattle.grammar.proofs.Local.{Agree, Local, finds, stops, gives, refuses, under, later, choose, both, and_then, byte_in_then, hex_in_then}

module _ {s t : Bytes} {m : ℕ} (agree : Agree s t m) where
  test : {at : ℕ} (f : ℕ → Bool) → at < m → f (byte t at) ≡ f (byte s at)
  test {at} f l = ap f (agree.bytes at l)

  -- Strings.

  low_surrogate_local : (high at : ℕ) → Local m end at (low_surrogate s high at) (low_surrogate t high at)
  unfolding low_surrogate
  low_surrogate_local high at =
      hex_in_then agree at 0xD 0xD (at + 1) _ _ (omega arith) λ a.
      hex_in_then agree (at + 1) 0xC 0xF (at + 2) _ _ (omega arith) λ b.
      hex_in_then agree (at + 2) 0x0 0xF (at + 3) _ _ (omega arith) λ c.
      hex_in_then agree (at + 3) 0x0 0xF (at + 4) _ _ (omega arith) λ d.
      gives _ (omega arith) (λ h. refl)

  after_high_local : (high at : ℕ) → Local m end at (after_high s high at) (after_high t high at)
  unfolding after_high
  after_high_local high at =
      byte_in_then agree at (code "\\") (code "\\") (at + 1) _ _ (omega arith) λ a.
      byte_in_then agree (at + 1) (code "u") (code "u") (at + 2) _ _ (omega arith) λ b.
      low_surrogate_local high (at + 2)

  unicode_escape_local : (at : ℕ) → Local m end at (unicode_escape s at) (unicode_escape t at)
  unfolding unicode_escape
  unicode_escape_local at =
      hex_in_then agree at 0x0 0xF (at + 1) _ _ (omega arith) λ a.
      hex_in_then agree (at + 1) 0x0 (second_limit a) (at + 2) _ _ (omega arith) λ b.
      hex_in_then agree (at + 2) 0x0 0xF (at + 3) _ _ (omega arith) λ c.
      hex_in_then agree (at + 3) 0x0 0xF (at + 4) _ _ (omega arith) λ d.
      let u = a * 0x1000 + b * 0x100 + c * 0x10 + d in
      both (within 0xD800 0xDBFF u) (after_high_local u (at + 4)) (gives (u, at + 4) (omega arith) (λ h. refl))

  escape_local : (at : ℕ) → Local m end at (escape s at) (escape t at)
  unfolding escape
  escape_local at =
      choose (test (λ b. eqb b (code "u"))) (λ e. later (at + 1) (omega arith) (unicode_escape_local (at + 1))) λ e.
      choose (test (λ b. eqb (short_escape b) 0)) (λ e. refuses at (omega arith)) λ e.
      gives (short_escape (byte s at), at + 1) (omega arith) (λ h. ap (λ b. (short_escape b, at + 1)) (agree.bytes at (omega arith)))

  tail_local : (n at low high bits : ℕ) → Local m end at (tail n s at low high bits) (tail n t at low high bits)
  unfolding tail
  tail_local zero at low high bits = gives (bits, at) (omega arith) (λ h. refl)
  tail_local (suc n) at low high bits = byte_in_then agree at low high (at + 1) _ _ (omega arith) λ b. tail_local n (at + 1) 0x80 0xBF _

  multibyte_local : (at b : ℕ) → Local m end at (multibyte s at b) (multibyte t at b)
  unfolding multibyte
  multibyte_local at b =
      row 0xC2 0xDF 1 0x80 0xBF 0xC0
      (row 0xE0 0xE0 2 0xA0 0xBF 0xE0 (row 0xE1 0xEC 2 0x80 0xBF 0xE0 (row 0xED 0xED 2 0x80 0x9F 0xE0 (row 0xEE 0xEF 2 0x80 0xBF 0xE0
      (row 0xF0 0xF0 3 0x90 0xBF 0xF0 (row 0xF1 0xF3 3 0x80 0xBF 0xF0 (row 0xF4 0xF4 3 0x80 0x8F 0xF0 (refuses at (omega arith)))))))))
    where
      row : (first last n low high base : ℕ) {o o' : Outcome (ℕ × ℕ)} → Local m end at o o' →
          Local m end at (if within first last b then tail n s (at + 1) low high (b - base) else o)
          (if within first last b then tail n t (at + 1) low high (b - base) else o')
      row first last n low high base r = both (within first last b) (later (at + 1) (omega arith) (tail_local n (at + 1) low high (b - base))) r

  character_local : (at : ℕ) → Local m end at (character s at) (character t at)
  unfolding character
  character_local at =
      choose (test (λ b. eqb b (code "\\"))) (λ e. later (at + 1) (omega arith) (escape_local (at + 1))) λ e.
      choose (test (within 0x20 0x7F)) (λ e. gives (byte s at, at + 1) (omega arith) (λ h. ap (λ b. (b, at + 1)) (agree.bytes at (omega arith)))) λ e.
      under at (multibyte t at (byte s at)) (omega arith) (λ h. ap (multibyte t at) (agree.bytes at h)) (multibyte_local at (byte s at))

  -- a character is at least one byte
  character_grows : (at : ℕ) (x : ℕ × ℕ) → eqb (byte s at) 0x22 ≡ false → character s at ≡ ok x → at < x.1
  character_grows at x quote e =
      let r = found (subst (Sound s end at (Means char)) e (character_sound s at (eqb-false (byte s at) 0x22 quote))) in
      (char-reads r.derived r.from).grows

  -- a string's closing quote is the last byte that its reader looks at
  abbrev quote : Text × ℕ → ℕ
  quote x = x.1 - 1

  characters_more : (fuel fuel' at : ℕ) → length s ≤ suc fuel + at → length t ≤ suc fuel' + at →
      ((at : ℕ) → length s ≤ fuel + at → length t ≤ fuel' + at → Local m quote at (characters fuel s at) (characters fuel' t at)) →
      Local m quote at (characters (suc fuel) s at) (characters (suc fuel') t at)
  unfolding characters
  characters_more fuel fuel' at l l' rest =
      choose (test (λ b. eqb b (code "\""))) (λ e. gives ([], at + 1) (omega arith) (λ h. refl)) λ e.
      and_then _ _ (character_local at) λ x i k.
      let grows = character_grows at x e i in
      and_then _ _ (rest x.1 (omega arith) (omega arith)) λ y j k'.
      gives (x.0 ∷ y.0, y.1) (omega arith) (λ h. refl)

  characters_local : (fuel fuel' at : ℕ) → length s ≤ fuel + at → length t ≤ fuel' + at →
      Local m quote at (characters fuel s at) (characters fuel' t at)
  unfolding characters
  characters_local zero fuel' at l l' =
      let long = agree.long in
      under at (refused not_json at) (omega arith) (λ h. absurd (omega arith)) (refuses at (omega arith))
  characters_local (suc fuel) zero at l l' =
      let long = agree.long in
      under at (characters (suc (length t)) t at) (omega arith) (λ h. absurd (omega arith))
      (characters_more fuel (length t) at l (omega arith) (characters_local fuel (length t)))
  characters_local (suc fuel) (suc fuel') at l l' = characters_more fuel fuel' at l l' (characters_local fuel fuel')

  string-local : (at : ℕ) → Local m quote at (Strings.string s at) (Strings.string t at)
  unfolding Strings.string
  string-local at =
      byte_in_then agree at (code "\"") (code "\"") (at + 1) _ _ (omega arith) λ b. characters_local (length s) (length t) (at + 1) (omega arith) (omega arith)

  -- Numbers.

  counted_local : (start at : ℕ) → Local m there at (counted start at) (counted start at)
  unfolding counted
  counted_local start at = both (ltb at (start + max_number)) (gives (at + 1) (omega arith) (λ h. refl)) (refuses at (omega arith))

  -- a byte of the number, and a reader after it
  counted_then : (start at : ℕ) (g g' : ℕ → Outcome ℕ) → Local m there (at + 1) (g (at + 1)) (g' (at + 1)) →
      Local m there at (counted start at >>= g) (counted start at >>= g')
  unfolding counted ◌>>=◌
  counted_then start at g g' r = go (ltb at (start + max_number))
    where
      go : (c : Bool) →
          Local m there at ((if c then ok (at + 1) else refused number_over_limit at) >>= g) ((if c then ok (at + 1) else refused number_over_limit at) >>= g')
      go true = later (at + 1) (omega arith) r
      go false = refuses at (omega arith)

  digits_more : (fuel fuel' start at : ℕ) → Local m there (at + 1) (digits fuel s start (at + 1)) (digits fuel' t start (at + 1)) →
      Local m there at (digits (suc fuel) s start at) (digits (suc fuel') t start at)
  unfolding digits
  digits_more fuel fuel' start at rest =
      choose (test is_digit) (λ e. counted_then start at _ _ rest) λ e.
      gives at (omega arith) (λ h. refl)

  digits_local : (fuel fuel' start at : ℕ) → length s ≤ fuel + at → length t ≤ fuel' + at →
      Local m there at (digits fuel s start at) (digits fuel' t start at)
  unfolding digits
  digits_local zero fuel' start at l l' =
      let long = agree.long in
      under at (ok at) (omega arith) (λ h. absurd (omega arith)) (gives at (omega arith) (λ h. refl))
  digits_local (suc fuel) zero start at l l' =
      let long = agree.long in
      under at (digits (suc (length t)) t start at) (omega arith) (λ h. absurd (omega arith))
      (digits_more fuel (length t) start at (digits_local fuel (length t) start (at + 1) (omega arith) (omega arith)))
  digits_local (suc fuel) (suc fuel') start at l l' =
      digits_more fuel fuel' start at (digits_local fuel fuel' start (at + 1) (omega arith) (omega arith))

  some_digits_local : (start at : ℕ) → Local m there at (some_digits s start at) (some_digits t start at)
  unfolding some_digits
  some_digits_local start at =
      byte_in_then agree at (code "0") (code "9") at _ _ (omega arith) λ b. digits_local (length s) (length t) start at (omega arith) (omega arith)

  int-local : (start at : ℕ) → Local m there at (Numbers.int s start at) (Numbers.int t start at)
  unfolding Numbers.int
  int-local start at = choose (test (λ b. eqb b (code "0"))) (λ e. counted_local start at) (λ e. some_digits_local start at)

  frac-local : (start at : ℕ) → Local m there at (Numbers.frac s start at) (Numbers.frac t start at)
  unfolding Numbers.frac
  frac-local start at =
      choose (test (λ b. eqb b (code "."))) (λ e. counted_then start at _ _ (some_digits_local start (at + 1))) λ e.
      gives at (omega arith) (λ h. refl)

  sign-local : (start at : ℕ) → Local m there at (Numbers.sign s start at) (Numbers.sign t start at)
  unfolding Numbers.sign
  sign-local start at =
      choose (test (λ b. eqb b (code "+") || eqb b (code "-"))) (λ e. counted_local start at) λ e.
      gives at (omega arith) (λ h. refl)

  exponent_digits_more : (fuel fuel' start size at : ℕ) →
      ((size : ℕ) → Local m there (at + 1) (exponent_digits fuel s start size (at + 1)) (exponent_digits fuel' t start size (at + 1))) →
      Local m there at (exponent_digits (suc fuel) s start size at) (exponent_digits (suc fuel') t start size at)
  unfolding exponent_digits
  exponent_digits_more fuel fuel' start size at rest =
      choose (test is_digit)
      (λ e. under at (digit_of (byte s at)) (omega arith) (λ h. ap digit_of (agree.bytes at h))
      (both (leb (size * 10 + (byte s at - code "0")) max_exponent) (counted_then start at _ _ (rest _)) (refuses at (omega arith)))) λ e.
      gives at (omega arith) (λ h. refl)
    where
      digit_of : ℕ → Outcome ℕ
      digit_of b =
          let more = size * 10 + (b - code "0") in
          if leb more max_exponent then counted start at >>= exponent_digits fuel' t start more else refused number_over_limit at

  exponent_digits_local : (fuel fuel' start size at : ℕ) → length s ≤ fuel + at → length t ≤ fuel' + at →
      Local m there at (exponent_digits fuel s start size at) (exponent_digits fuel' t start size at)
  unfolding exponent_digits
  exponent_digits_local zero fuel' start size at l l' =
      let long = agree.long in
      under at (ok at) (omega arith) (λ h. absurd (omega arith)) (gives at (omega arith) (λ h. refl))
  exponent_digits_local (suc fuel) zero start size at l l' =
      let long = agree.long in
      under at (exponent_digits (suc (length t)) t start size at) (omega arith) (λ h. absurd (omega arith))
      (exponent_digits_more fuel (length t) start size at (λ size. exponent_digits_local fuel (length t) start size (at + 1) (omega arith) (omega arith)))
  exponent_digits_local (suc fuel) (suc fuel') start size at l l' =
      exponent_digits_more fuel fuel' start size at (λ size. exponent_digits_local fuel fuel' start size (at + 1) (omega arith) (omega arith))

  signed_digits_local : (start at : ℕ) → Local m there at (signed_digits s start at) (signed_digits t start at)
  unfolding signed_digits
  signed_digits_local start at =
      and_then _ _ (sign-local start at) λ x e l.
      byte_in_then agree x (code "0") (code "9") x _ _ (omega arith) λ b.
      exponent_digits_local (length s) (length t) start 0 x (omega arith) (omega arith)

  exp-local : (start at : ℕ) → Local m there at (Numbers.exp s start at) (Numbers.exp t start at)
  unfolding Numbers.exp
  exp-local start at =
      choose (test is_e) (λ e. counted_then start at _ _ (signed_digits_local start (at + 1))) λ e.
      gives at (omega arith) (λ h. refl)

  pub number-local : (start : ℕ) → Local m there start (Numbers.number s start) (Numbers.number t start)
  unfolding Numbers.number Numbers.minus
  number-local start =
      under start (parts (if eqb (byte s start) (code "-") then start + 1 else start)) (omega arith)
      (λ h. ap (λ c. parts (if c then start + 1 else start)) (test (λ b. eqb b (code "-")) h)) (go (eqb (byte s start) (code "-")))
    where
      parts : ℕ → Outcome ℕ
      parts at = Numbers.int t start at >>= λ fraction. Numbers.frac t start fraction >>= λ exponent. Numbers.exp t start exponent

      from_int : (at : ℕ) →
          Local m there at (Numbers.int s start at >>= λ fraction. Numbers.frac s start fraction >>= λ exponent. Numbers.exp s start exponent) (parts at)
      from_int at = and_then _ _ (int-local start at) λ x e l. and_then _ _ (frac-local start x) λ y f l'. exp-local start y

      go : (c : Bool) →
          Local m there start
          (Numbers.int s start (if c then start + 1 else start) >>= λ fraction. Numbers.frac s start fraction >>= λ exponent. Numbers.exp s start exponent)
          (parts (if c then start + 1 else start))
      go true = later (start + 1) (omega arith) (from_int (start + 1))
      go false = from_int start

  -- Blanks.

  blanks_from_same : (fuel fuel' at : ℕ) → length s ≤ fuel + at → length t ≤ fuel' + at → blanks_from fuel s at < m →
      blanks_from fuel' t at ≡ blanks_from fuel s at
  unfolding blanks_from
  blanks_from_same zero fuel' at l l' h = let long = agree.long in absurd (omega arith)
  blanks_from_same (suc fuel) zero at l l' h =
      let long = agree.long in
      let far = (blanks_from_sound (suc fuel) s at).from.far in
      absurd (omega arith)
  blanks_from_same (suc fuel) (suc fuel') at l l' h =
      let far = (blanks_from_sound (suc fuel) s at).from.far in
      go (is_blank (byte s at)) refl (test is_blank (omega arith)) h (blanks_from_same fuel fuel' (at + 1) (omega arith) (omega arith))
    where
      go : (c : Bool) → is_blank (byte s at) ≡ c → is_blank (byte t at) ≡ is_blank (byte s at) → (if c then blanks_from fuel s (at + 1) else at) < m →
          (blanks_from fuel s (at + 1) < m → blanks_from fuel' t (at + 1) ≡ blanks_from fuel s (at + 1)) →
          (if is_blank (byte t at) then blanks_from fuel' t (at + 1) else at) ≡ (if c then blanks_from fuel s (at + 1) else at)
      go true e same h rest = rw (same, e) (rest h)
      go false e same h rest = rw (same, e)

  blanks_then : {X : Type 0} {place : X → ℕ} (at : ℕ) (g g' : ℕ → Outcome X) →
      (at ≤ blanks s at → Local m place (blanks s at) (g (blanks s at)) (g' (blanks s at))) →
      Local m place at (g (blanks s at)) (g' (blanks t at))
  unfolding blanks
  blanks_then at g g' rest =
      let far = (blanks_sound s at).from.far in
      let grows : at ≤ blanks s at = omega arith in
      under (blanks s at) (g' (blanks s at)) grows (λ h. ap g' (blanks_from_same (length s) (length t) at (omega arith) (omega arith) h)) (rest grows)

  -- Values.

  room_then : {X : Type 0} {place : X → ℕ} {low : ℕ} {o o' : Outcome X} (nodes p : ℕ) → low ≤ p → Local m place low o o' →
      Local m place low (room_for nodes p >>= λ _. o) (room_for nodes p >>= λ _. o')
  unfolding room_for ◌>>=◌
  room_then {place = place} {low = low} {o = o} {o' = o'} nodes p l r = go (ltb nodes max_nodes)
    where
      go : (c : Bool) →
          Local m place low ((if c then ok p else refused too_many_nodes p) >>= λ _. o) ((if c then ok p else refused too_many_nodes p) >>= λ _. o')
      go true = r
      go false = refuses p l

  fresh_then : {X : Type 0} {place : X → ℕ} {low : ℕ} {o o' : Outcome X} (name : Text) (so_far : Members) (p : ℕ) → low ≤ p → Local m place low o o' →
      Local m place low (fresh name so_far p >>= λ _. o) (fresh name so_far p >>= λ _. o')
  unfolding fresh ◌>>=◌
  fresh_then {place = place} {low = low} {o = o} {o' = o'} name so_far p l r = go (has name so_far)
    where
      go : (c : Bool) →
          Local m place low ((if c then refused repeated_name p else ok p) >>= λ _. o) ((if c then refused repeated_name p else ok p) >>= λ _. o')
      go true = refuses p l
      go false = r

  word_at_local : (word : Bytes) (at : ℕ) → Local m there at (word_at word s at) (word_at word t at)
  unfolding word_at
  word_at_local [] at = gives at (omega arith) (λ h. refl)
  word_at_local (b ∷ word) at = byte_in_then agree at b b (at + 1) _ _ (omega arith) λ _. word_at_local word (at + 1)

  literal_value_local : (label : Label) (word : Bytes) (at : ℕ) → Local m end at (literal_value label word s at) (literal_value label word t at)
  unfolding literal_value
  literal_value_local label word at =
      later (at + 1) (omega arith) (and_then _ _ (word_at_local word (at + 1)) λ x e l. gives (leaf label, x) (omega arith) (λ h. refl))

  number_value_local : (at : ℕ) → Local m end at (number_value s at) (number_value t at)
  unfolding number_value
  number_value_local at =
      and_then _ _ (number-local at) λ x e l.
      gives (leaf (Label.number (take (x - at) (drop at s))), x) (omega arith)
      (λ h. ap (λ w. (leaf (Label.number w), x)) (agree.part at x l (omega arith)))

  string_value_local : (at : ℕ) → Local m end at (string_value s at) (string_value t at)
  unfolding string_value
  string_value_local at = and_then _ _ (string-local at) λ x e l. gives (leaf (Label.string x.0), x.1) (omega arith) (λ h. refl)

  scalar_local : (at nodes : ℕ) → Local m end at (scalar s at nodes) (scalar t at nodes)
  unfolding scalar
  scalar_local at nodes =
      choose (test (λ b. eqb b (code "\""))) (λ e. room_then nodes at (omega arith) (string_value_local at)) λ _.
      choose (test (λ b. is_digit b || eqb b (code "-"))) (λ e. room_then nodes at (omega arith) (number_value_local at)) λ _.
      choose (test (λ b. eqb b (code "n"))) (λ e. room_then nodes at (omega arith) (literal_value_local Label.null_literal _ at)) λ _.
      choose (test (λ b. eqb b (code "t"))) (λ e. room_then nodes at (omega arith) (literal_value_local Label.true_literal _ at)) λ _.
      choose (test (λ b. eqb b (code "f"))) (λ e. room_then nodes at (omega arith) (literal_value_local Label.false_literal _ at)) λ _.
      refuses at (omega arith)

  name_for_local : (is_object : Bool) (so_far : Members) (at : ℕ) → Local m end at (name_for is_object s so_far at) (name_for is_object t so_far at)
  unfolding name_for
  name_for_local false so_far at = gives ([], at) (omega arith) (λ h. refl)
  name_for_local true so_far at =
      and_then _ _ (string-local at) λ x e l.
      fresh_then x.0 so_far (x.1 - 1) (omega arith)
      (later x.1 (omega arith)
      (blanks_then x.1 (λ p. byte_in s p (code ":") (code ":") >>= λ _. ok (x.0, blanks s (p + 1)))
      (λ p. byte_in t p (code ":") (code ":") >>= λ _. ok (x.0, blanks t (p + 1))) λ k.
      byte_in_then agree (blanks s x.1) (code ":") (code ":") (blanks s x.1 + 1) _ _ (omega arith) λ _.
      blanks_then (blanks s x.1 + 1) (λ p. ok (x.0, p)) (λ p. ok (x.0, p)) λ k'.
      gives (x.0, blanks s (blanks s x.1 + 1)) (omega arith) (λ h. refl)))

  module _ (reader reader' : ℕ → ℕ → Outcome (Value.Value × ℕ))
      (inner : (at nodes : ℕ) → Local m end at (reader at nodes) (reader' at nodes)) (is_object : Bool) (nodes : ℕ) where
    items_more : (fuel fuel' : ℕ) (so_far : Members) (at : ℕ) → length s ≤ suc fuel + at → length t ≤ suc fuel' + at →
        ((so_far : Members) (at : ℕ) → length s ≤ fuel + at → length t ≤ fuel' + at
        → Local m end at (items fuel reader is_object s nodes so_far at) (items fuel' reader' is_object t nodes so_far at)) →
        Local m end at (items (suc fuel) reader is_object s nodes so_far at) (items (suc fuel') reader' is_object t nodes so_far at)
    unfolding items
    items_more fuel fuel' so_far at l l' rest =
        and_then _ _ (name_for_local is_object so_far at) λ x e k.
        and_then _ _ (inner x.1 (nodes + size so_far)) λ y f k'.
        let all = so_far ⧺ single (named x.0 y.0) in
        blanks_then y.1
        (λ p. if eqb (byte s p) (closing_bracket is_object)
        then ok (all, p + 1) else (byte_in s p (code ",") (code ",") >>= λ _. items fuel reader is_object s nodes all (blanks s (p + 1))))
        (λ p. if eqb (byte t p) (closing_bracket is_object)
        then ok (all, p + 1) else (byte_in t p (code ",") (code ",") >>= λ _. items fuel' reader' is_object t nodes all (blanks t (p + 1)))) λ k''.
        choose (test (λ b. eqb b (closing_bracket is_object))) (λ e. gives (all, blanks s y.1 + 1) (omega arith) (λ h. refl)) λ e.
        byte_in_then agree (blanks s y.1) (code ",") (code ",") (blanks s y.1 + 1) _ _ (omega arith) λ _.
        blanks_then (blanks s y.1 + 1) (items fuel reader is_object s nodes all) (items fuel' reader' is_object t nodes all) λ k₃.
        rest all (blanks s (blanks s y.1 + 1)) (omega arith) (omega arith)

    items_local : (fuel fuel' : ℕ) (so_far : Members) (at : ℕ) → length s ≤ fuel + at → length t ≤ fuel' + at →
        Local m end at (items fuel reader is_object s nodes so_far at) (items fuel' reader' is_object t nodes so_far at)
    unfolding items
    items_local zero fuel' so_far at l l' =
        let long = agree.long in
        under at (refused not_json at) (omega arith) (λ h. absurd (omega arith)) (refuses at (omega arith))
    items_local (suc fuel) zero so_far at l l' =
        let long = agree.long in
        under at (items (suc (length t)) reader' is_object t nodes so_far at) (omega arith) (λ h. absurd (omega arith))
        (items_more fuel (length t) so_far at l (omega arith) (items_local fuel (length t)))
    items_local (suc fuel) (suc fuel') so_far at l l' = items_more fuel fuel' so_far at l l' (items_local fuel fuel')

    contents_local : (at : ℕ) → Local m end at (contents reader is_object s nodes at) (contents reader' is_object t nodes at)
    unfolding contents
    contents_local at =
        blanks_then at
        (λ p. if eqb (byte s p) (closing_bracket is_object) then ok (Forest.none, p + 1) else items (length s) reader is_object s nodes Forest.none p)
        (λ p. if eqb (byte t p) (closing_bracket is_object) then ok (Forest.none, p + 1) else items (length t) reader' is_object t nodes Forest.none p) λ k.
        choose (test (λ b. eqb b (closing_bracket is_object))) (λ e. gives (Forest.none, blanks s at + 1) (omega arith) (λ h. refl)) λ e.
        items_local (length s) (length t) Forest.none (blanks s at) (omega arith) (omega arith)

  container_local : (reader reader' : ℕ → ℕ → Outcome (Value.Value × ℕ)) → ((at nodes : ℕ) → Local m end at (reader at nodes) (reader' at nodes)) →
      (is_object : Bool) (at nodes : ℕ) →
      Local m end at (container reader is_object s at nodes) (container reader' is_object t at nodes)
  unfolding container
  container_local reader reader' inner is_object at nodes =
      room_then nodes at (omega arith)
      (later (at + 1) (omega arith)
      (and_then _ _ (contents_local reader reader' inner is_object (nodes + 1) (at + 1)) λ x e l. gives
      (record { label = container_label is_object; kids = x.0 }, x.1) (omega arith) (λ h. refl)))

  value-local : (left at nodes : ℕ) → Local m end at (Read.value left s at nodes) (Read.value left t at nodes)
  unfolding Read.value
  value-local zero at nodes =
      choose (test (λ b. eqb b (code "["))) (λ e. refuses at (omega arith)) λ _.
      choose (test (λ b. eqb b (code "{"))) (λ e. refuses at (omega arith)) λ _.
      scalar_local at nodes
  value-local (suc left) at nodes =
      choose (test (λ b. eqb b (code "["))) (λ e. container_local (Read.value left s) (Read.value left t) (value-local left) false at nodes) λ _.
      choose (test (λ b. eqb b (code "{"))) (λ e. container_local (Read.value left s) (Read.value left t) (value-local left) true at nodes) λ _.
      scalar_local at nodes

  -- a value that is read takes the whole text
  pub read_local : Local m (λ v. length s) 0 (read s) (read t)
  unfolding read
  read_local =
      blanks_then 0 (λ p. Read.value max_depth s p 0 >>= λ x. finish s x) (λ p. Read.value max_depth t p 0 >>= λ x. finish t x) λ k.
      and_then _ _ (value-local max_depth (blanks s 0) 0) λ x e l.
      blanks_then x.1 (λ p. if eqb p (length s) then ok x.0 else refused not_json p)
      (λ p. if eqb p (length t) then ok x.0 else refused not_json p) λ k'.
      ended x.0 (blanks s x.1) (eqb (blanks s x.1) (length s)) refl
    where
      finish : Bytes → Value.Value × ℕ → Outcome Value.Value
      finish s x = if eqb (blanks s x.1) (length s) then ok x.0 else refused not_json (blanks s x.1)

      ended : (v : Value.Value) (p : ℕ) (c : Bool) → eqb p (length s) ≡ c →
          Local m (λ v. length s) p (if c then ok v else refused not_json p) (if eqb p (length t) then ok v else refused not_json p)
      ended v p true e = let same = eqb-true p (length s) e in let long = agree.long in finds {x = v} (omega arith) (λ h. absurd (omega arith))
      ended v p false e =
          let long = agree.long in
          stops {p = p} (omega arith) (λ h. ap (λ c. if c then ok v else refused not_json p) (ne_eqb p (length t) (λ i. omega arith)))
