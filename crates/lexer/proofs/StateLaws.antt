-- Verbatim characters passed byte by byte: what each state says of the bytes before it, and what the next byte makes of that.
use Rattle.std.specs.Prelude.{if◌then◌else◌}
use Prim.Native.Nat.{ℕ, zero, suc, ◌+◌, ◌-◌, ◌*◌, ◌≤◌, ◌<◌}
use Prim.Native.Char.{code}
use mathlib.Core.List.{List}
use mathlib.Core.Path.{◌≡◌, refl, sym, ◌∙◌}
use mathlib.Core.Bool.{Bool, true, false, ◌&&◌, true≢false}
use native.Mathlib.Omega.{arith}
use borrow.Author.Tests.{eqb-true, eqb-false, ne_eqb}
use lib.ListN.{length}
use lib.Dec.{eqb}
use Rattle.spec.specs.Outcome.{Outcome, ok, refused, ◌>>=◌}
use Rattle.spec.specs.Refusal.{not_json}
use Rattle.spec.specs.Bytes.{Bytes, byte, within, byte_in}
use Rattle.spec.specs.Strings.{tail, multibyte, character}
use Rattle.lexer.specs.Names.{stands_for_itself}
use Rattle.lexer.specs.Verbatim.{kept_escape, Verbatim, none, raw, short, Ends, quote, escape, unread, VerbatimTo}
use Rattle.lexer.specs.States.{Awaits, one, two, three, after_E0, after_ED, after_F0, after_F4, first, begins, later, escaped, look, look_over, Tables}
use Rattle.lexer.proofs.Tests.{within_bounds}
use Rattle.lexer.proofs.ByteLaws.{byte_past}
use Rattle.lexer.proofs.VerbatimLaws.{verbatim_self}

-- ---- what a state says of the place, when the whole characters before it end at `end`

pub data Midst (escapes : Bool) (s : Bytes) (end at : ℕ) : ℕ → Type 0 where
  between : end ≡ at → Midst escapes s end at 0
  inside : {state more low high : ℕ} (bits : ℕ) → Awaits state more low high → 0x80 ≤ byte s end → character s end ≡ tail (suc more) s at low high bits →
      Midst escapes s end at state
  after : escapes ≡ true → byte s end ≡ code "\\" → at ≡ end + 1 → Midst escapes s end at 48

pub record Going (escapes : Bool) (s : Bytes) (start end at state : ℕ) : Type 0 where
  pub passed : Verbatim escapes s start end
  pub midst : Midst escapes s end at state

pub going_starts : (escapes : Bool) (s : Bytes) (start : ℕ) → Going escapes s start start start 0
going_starts escapes s start = record { passed = none; midst = between refl }

-- the end as an equal number
pub going_end : {escapes : Bool} {s : Bytes} {start end at state r : ℕ} → r ≡ end → Going escapes s start end at state → Going escapes s start r at state
going_end e g = rw e g

-- ---- the first byte of a character of two to four bytes: its row in the table of states, and in the definition's table

data Row (s : Bytes) (at b : ℕ) : ℕ → Outcome (ℕ × ℕ) → Type 0 where
  leads : {state more low high : ℕ} (bits : ℕ) → 0x80 ≤ b → Awaits state more low high → Row s at b state (tail (suc more) s (at + 1) low high bits)
  no_row : Row s at b 54 (refused not_json at)

module _ {s : Bytes} {at b : ℕ} where
  case : (least most : ℕ) {state more low high n : ℕ} {o : Outcome (ℕ × ℕ)} (bits : ℕ) → 0x80 ≤ least → Awaits state more low high → Row s at b n o →
      Row s at b (if within least most b then state else n) (if within least most b then tail (suc more) s (at + 1) low high bits else o)
  case least most {state} {more} {low} {high} {n} {o} bits l a r = go (within least most b) refl
    where
      go : (t : Bool) → within least most b ≡ t → Row s at b (if t then state else n) (if t then tail (suc more) s (at + 1) low high bits else o)
      go true e = let h : 0x80 ≤ b = omega (arith, within_bounds least most b e) in leads bits h a
      go false e = r

row : (s : Bytes) (at b : ℕ) → Row s at b (first b) (multibyte s at b)
unfolding first multibyte
row s at b =
    case 0xC2 0xDF _ (omega arith) one
    (case 0xE0 0xE0 _ (omega arith) after_E0
    (case 0xE1 0xEC _ (omega arith) two
    (case 0xED 0xED _ (omega arith) after_ED
    (case 0xEE 0xEF _ (omega arith) two
    (case 0xF0 0xF0 _ (omega arith) after_F0
    (case 0xF1 0xF3 _ (omega arith) three
    (case 0xF4 0xF4 _ (omega arith) after_F4 no_row)))))))

-- ---- one more byte: the states go on below the end, and the characters end at it

data Stepped (escapes : Bool) (s : Bytes) (start end at : ℕ) : ℕ → Type 0 where
  on : {state : ℕ} → state < 54 → Going escapes s start (if eqb state 0 then at + 1 else end) (at + 1) state → Stepped escapes s start end at state
  off : Ends escapes s end → Stepped escapes s start end at 54

record Within (state more : ℕ) : Type 0 where
  below : state < 48
  few : more ≤ 2
  amid : eqb state 0 ≡ false

awaits_within : {state more low high : ℕ} → Awaits state more low high → Within state more
awaits_within one = record { below = omega arith; few = omega arith; amid = refl }
awaits_within two = record { below = omega arith; few = omega arith; amid = refl }
awaits_within three = record { below = omega arith; few = omega arith; amid = refl }
awaits_within after_E0 = record { below = omega arith; few = omega arith; amid = refl }
awaits_within after_ED = record { below = omega arith; few = omega arith; amid = refl }
awaits_within after_F0 = record { below = omega arith; few = omega arith; amid = refl }
awaits_within after_F4 = record { below = omega arith; few = omega arith; amid = refl }

-- no character of two to four bytes begins with a quotation mark
mark_ends : (b : ℕ) → b ≡ code "\"" → first b ≡ 54
unfolding first within
mark_ends b e = rw e

-- a character of two to four bytes is read as one where its first byte is not ASCII
long : (s : Bytes) (at : ℕ) → (byte s at ≡ code "\"" → ⊥) → (byte s at ≡ code "\\" → ⊥) → stands_for_itself (byte s at) ≡ false →
    character s at ≡ multibyte s at (byte s at)
unfolding character stands_for_itself
long s at n m t =
    let b = byte s at in
    go (within 0x20 0x7F b) refl (rw (ne_eqb b (code "\"") n, ne_eqb b (code "\\") m) at t)
  where
    go : (w : Bool) → within 0x20 0x7F (byte s at) ≡ w → (w && true) ≡ false → character s at ≡ multibyte s at (byte s at)
    go true e f = absurd (true≢false f)
    go false e f = rw (ne_eqb (byte s at) (code "\\") m, e)

later_zero : {state more low high : ℕ} → Awaits state more low high → later more low high 0 ≡ 54
unfolding later within
later_zero one = refl
later_zero two = refl
later_zero three = refl
later_zero after_E0 = refl
later_zero after_ED = refl
later_zero after_F0 = refl
later_zero after_F4 = refl

module _ (escapes : Bool) (s : Bytes) (start : ℕ) where
  -- whole characters up to the next place; a character that goes on; none
  whole : {end at : ℕ} → Verbatim escapes s start (at + 1) → Stepped escapes s start end at 0
  whole p = on {state = 0} (omega arith) (record { passed = p; midst = between refl })

  goes : {end at state more low high : ℕ} (bits : ℕ) → Verbatim escapes s start end → 0x80 ≤ byte s end → Awaits state more low high →
      character s end ≡ tail (suc more) s (at + 1) low high bits → Stepped escapes s start end at state
  goes {state = state} bits p l a e =
      let m : state < 54 = omega (arith, (awaits_within a).below) in
      on m (rw (awaits_within a).amid (record { passed = p; midst = inside bits a l e }))

  -- the first byte of a character
  first_byte : {at : ℕ} → Verbatim escapes s start at → (byte s at ≡ code "\"" → ⊥) → (byte s at ≡ code "\\" → ⊥) → stands_for_itself (byte s at) ≡ false →
      Stepped escapes s start at at (first (byte s at))
  first_byte {at} p n m t = go (row s at (byte s at)) (long s at n m t)
    where
      go : {state : ℕ} {o : Outcome (ℕ × ℕ)} → Row s at (byte s at) state o → character s at ≡ o → Stepped escapes s start at at state
      go (leads bits l a) e = goes bits p l a e
      go no_row e = off (unread at e)

  any_first : {at : ℕ} → Verbatim escapes s start at → Stepped escapes s start at at (begins escapes (byte s at))
  unfolding begins
  any_first {at} p = go (stands_for_itself (byte s at)) (eqb (byte s at) (code "\\")) (eqb (byte s at) (code "\"")) refl refl refl
    where
      go : (itself backslash mark : Bool) → stands_for_itself (byte s at) ≡ itself
          → eqb (byte s at) (code "\\") ≡ backslash → eqb (byte s at) (code "\"") ≡ mark →
          Stepped escapes s start at at (if itself then 0 else if backslash then (if escapes then 48 else 54) else first (byte s at))
      go true backslash mark t f g = whole (verbatim_self p t)
      go false true mark t f g = slash escapes refl
        where
          slash : (e : Bool) → escapes ≡ e → Stepped escapes s start at at (if e then 48 else 54)
          slash true e = on {state = 48} (omega arith) (record { passed = p; midst = after e (eqb-true _ _ f) refl })
          slash false e = off (escape (eqb-true _ _ f) (λ r. absurd (true≢false (sym r ∙ e))))
      go false false true t f g = rw (mark_ends (byte s at) (eqb-true _ _ g)) (off (quote (eqb-true _ _ g)))
      go false false false t f g = first_byte p (eqb-false _ _ g) (eqb-false _ _ f) t

  -- a later one
  later-byte : {end at state more low high : ℕ} (bits : ℕ) → Verbatim escapes s start end → 0x80 ≤ byte s end → Awaits state more low high →
      character s end ≡ tail (suc more) s at low high bits → Stepped escapes s start end at (later more low high (byte s at))
  unfolding tail later byte_in ◌>>=◌
  later-byte {end} {at} {more = more} {low} {high} bits p l a e = go (within low high (byte s at)) more (awaits_within a).few e
    where
      go : (t : Bool) (more : ℕ) → more ≤ 2 →
          character s end ≡ ((if t then ok (byte s at) else refused not_json at) >>= λ b. tail more s (at + 1) 0x80 0xBF (bits * 64 + (b - 0x80))) →
          Stepped escapes s start end at (if t then 6 * more else 54)
      go true zero m e = whole (raw p (λ q. omega arith) (λ q. omega arith) e)
      go true (suc zero) m e = goes _ p l one e
      go true (suc (suc zero)) m e = goes _ p l two e
      go true (suc (suc (suc more))) m e = absurd (omega arith)
      go false more m e = off (unread at e)

  -- the letter of an escape
  letter : {end at : ℕ} → Verbatim escapes s start end → escapes ≡ true
      → byte s end ≡ code "\\" → at ≡ end + 1 → Stepped escapes s start end at (escaped (byte s at))
  unfolding escaped
  letter {end} {at} p t b i = go (kept_escape (byte s at)) refl
    where
      go : (k : Bool) → kept_escape (byte s at) ≡ k → Stepped escapes s start end at (if k then 0 else 54)
      go true e = let two : at + 1 ≡ end + 2 = omega arith in whole (rw two (short p t b (rw i at e)))
      go false e = off (escape b (λ _. rw i at e))

  -- by any state, the state after a byte
  next : {end at state : ℕ} → Midst escapes s end at state → ℕ → ℕ
  next (between e) b = begins escapes b
  next (inside {more = more} {low} {high} bits a l e) b = later more low high b
  next (after t q i) b = escaped b

  stepped : {end at state : ℕ} → Verbatim escapes s start end → (m : Midst escapes s end at state) → Stepped escapes s start end at (next m (byte s at))
  unfolding next
  stepped {at = at} p (between e) = rw e (any_first (rw e at p))
  stepped p (inside bits a l e) = later-byte bits p l a e
  stepped p (after t q i) = letter p t q i

  -- as right tables have it
  next_told : {columns steps : List ℕ} → Tables escapes columns steps → (b : ℕ) → b < 256 → {end at state : ℕ} (m : Midst escapes s end at state) →
      look columns steps state b ≡ next m b
  unfolding next
  next_told t b h (between e) = t.between b h
  next_told t b h (inside bits a l e) = t.inside a b h
  next_told t b h (after r q i) = t.after b h

  -- 0, which stands past the end, ends the characters in every state
  next_zero : {end at state : ℕ} (m : Midst escapes s end at state) → next m 0 ≡ 54
  unfolding next begins stands_for_itself first within escaped kept_escape
  next_zero (between e) = refl
  next_zero (inside bits a l e) = later_zero a
  next_zero (after t q i) = refl

-- ---- the loop's turns, by right tables

pub look_small : (columns steps : List ℕ) (state b : ℕ) → look columns steps state b < 64
unfolding look
look_small columns steps state b = omega arith

module _ {escapes : Bool} {s : Bytes} {start end at : ℕ} where
  stepped_on : {state : ℕ} → Stepped escapes s start end at state → (state ≡ 54 → ⊥) →
      Going escapes s start (if eqb state 0 then at + 1 else end) (at + 1) state
  stepped_on (on m g) n = g
  stepped_on (off k) n = absurd (n refl)

  stepped_off : {state : ℕ} → Stepped escapes s start end at state → state ≡ 54 → Ends escapes s end
  stepped_off (on m g) e = absurd (omega arith)
  stepped_off (off k) e = k

module _ {escapes : Bool} {s : Bytes} {start end at state : ℕ} (g : Going escapes s start end at state) where
  module _ {columns steps : List ℕ} (t : Tables escapes columns steps) (small : byte s at < 256) {r : ℕ} (e : r ≡ look columns steps state (byte s at)) where
    told : r ≡ next escapes s start g.midst (byte s at)
    told = e ∙ next_told escapes s start t (byte s at) small g.midst

    turned : Stepped escapes s start end at r
    turned = rw told (stepped escapes s start g.passed g.midst)

    pub turn : (r ≡ 54 → ⊥) → Going escapes s start (if eqb r 0 then at + 1 else end) (at + 1) r
    turn = stepped_on turned

    pub stops : r ≡ 54 → VerbatimTo escapes s start end
    stops l = record { passed = g.passed; ends = stepped_off turned l }

  pub past : length s ≤ at → VerbatimTo escapes s start end
  past l =
      let o = rw (byte_past s at l, next_zero escapes s start g.midst) at (stepped escapes s start g.passed g.midst) in
      record { passed = g.passed; ends = stepped_off o refl }

-- ---- block by block: nobody asks where within the last character the place is

pub record Gone (escapes : Bool) (s : Bytes) (start at state : ℕ) : Type 0 where
  pub end : ℕ
  pub going : Going escapes s start end at state

pub gone_starts : (escapes : Bool) (s : Bytes) (start : ℕ) → Gone escapes s start start 0
gone_starts escapes s start = record { end = start; going = going_starts escapes s start }

pub over_none : (columns steps : List ℕ) (state : ℕ) (s : Bytes) (at : ℕ) → look_over columns steps 0 state s at ≡ state
unfolding look_over
over_none columns steps state s at = refl

pub over_whole : (columns steps : List ℕ) (state : ℕ) (s : Bytes) {n m at next : ℕ} → n ≡ m → next ≡ at →
    look_over columns steps n state s next ≡ look_over columns steps m state s at
over_whole columns steps state s e i = rw (e, i)

pub over_next : (columns steps : List ℕ) (n state : ℕ) (s : Bytes) (at : ℕ) {r next : ℕ} → r ≡ look columns steps state (byte s at) →
    next ≡ at + 1 → look_over columns steps n r s next ≡ look_over columns steps (suc n) state s at
unfolding look_over
over_next columns steps n state s at e i = rw (e, i)

module _ {escapes : Bool} {columns steps : List ℕ} (t : Tables escapes columns steps) (s : Bytes) (small : (k : ℕ) → byte s k < 256) where
  over_ended : (n at : ℕ) → look_over columns steps n 54 s at ≡ 54
  unfolding look_over
  over_ended zero at = refl
  over_ended (suc n) at = rw (t.ended (byte s at) (small at)) (over_ended n (at + 1))

  gone_on : {start at state r : ℕ} → r ≡ look columns steps state (byte s at) → (r ≡ 54 → ⊥) → Gone escapes s start at state → Gone escapes s start (at + 1) r
  gone_on {at = at} e n g = record { end = _; going = turn g.going t (small at) e n }

  gone_over : (n : ℕ) {start at state : ℕ} → Gone escapes s start at state
      → (look_over columns steps n state s at ≡ 54 → ⊥) → Gone escapes s start (at + n) (look_over columns steps n state s at)
  unfolding look_over
  gone_over zero {at = at} g f = let z : at + 0 ≡ at = omega arith in rw z g
  gone_over (suc n) {start} {at} {state} g f = go (look columns steps state (byte s at)) refl f (λ h. gone_over n h f)
    where
      go : (r : ℕ) → r ≡ look columns steps state (byte s at) → (look_over columns steps n r s (at + 1) ≡ 54 → ⊥) →
          (Gone escapes s start (at + 1) r → Gone escapes s start (at + 1 + n) (look_over columns steps n r s (at + 1))) →
          Gone escapes s start (at + suc n) (look_over columns steps n r s (at + 1))
      go r e f ih =
          let z : at + suc n ≡ at + 1 + n = omega arith in
          rw z (ih (gone_on e (λ h. f (rw h (over_ended n (at + 1)))) g))

  pub gone_block : (n : ℕ) {start at state r : ℕ} → r ≡ look_over columns steps n state s at → (r ≡ 54 → ⊥) →
      Gone escapes s start at state → Gone escapes s start (at + n) r
  gone_block n e f g = rw e (gone_over n g (λ h. f (e ∙ h)))

-- in state 0 the place is the end
between_end : {escapes : Bool} {s : Bytes} {end at state : ℕ} → Midst escapes s end at state → state ≡ 0 → end ≡ at
between_end (between e) z = e
between_end (inside bits a l e) z = absurd (eqb-false _ _ (awaits_within a).amid z)
between_end (after t q i) z = absurd (omega arith)

pub block_end : {escapes : Bool} {s : Bytes} {start end at state r : ℕ} → Gone escapes s start at state → Verbatim escapes s start end
    → r ≡ (if eqb state 0 then at else end) → Verbatim escapes s start r
block_end {escapes} {s} {start} {end} {at} {state} g p e = rw e (go (eqb state 0) refl)
  where
    go : (b : Bool) → eqb state 0 ≡ b → Verbatim escapes s start (if b then at else end)
    go true e = rw (sym (between_end g.going.midst (eqb-true _ _ e))) g.going.passed
    go false e = p
