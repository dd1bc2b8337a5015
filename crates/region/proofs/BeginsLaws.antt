-- The loop over a region's characters and those of a path.
use Rattle.std.specs.Prelude.{if◌then◌else◌, Result}
use Rattle.std.specs.Result.{is_ok}
use mathlib.Core.Path.{◌≡◌, refl, ap, sym, ◌∙◌}
use mathlib.Core.Bool.{Bool, true, false, not, true≢false}
use mathlib.Core.List.{[], ◌∷◌}
use Prim.Native.Nat.{ℕ, zero, suc, ◌+◌, ◌-◌, ◌≤◌, ◌<◌}
use Prim.Native.Char.{code}
use native.Mathlib.Omega.{arith}
use native.Mathlib.Decide.{dec_lt}
use lib.ListN.{length}
use lib.Dec.{eqb}
use borrow.Author.Tests.{eq-eqb, ne_eqb, le-leb, lt-leb, lt-ltb, le-ltb, not-true}
use Rattle.spec.specs.Outcome.{Outcome, ok, refused, ◌>>=◌}
use Rattle.spec.specs.Bytes.{Bytes, Text, byte, within}
use Rattle.spec.specs.Strings.{character}
use Rattle.spec.specs.Pointer.{tokens}
use Rattle.spec.proofs.OutcomeLaws.{refused≢ok, both_ok, second_ok}
use Rattle.lexer.specs.Names.{stands_for_itself}
use Rattle.lexer.proofs.Fuel.{Runs}
use Rattle.lexer.proofs.Tests.{and_both, within_bounds, above_within}
use Rattle.lexer.proofs.StringLaws.{character_ok_past}
use Rattle.text.specs.Decode.{character_in, decode_from, decode}
use Rattle.text.proofs.DecodeLaws.{decode_more, decode_ends}
use Rattle.pointer.specs.Tokens.{accepted}
use Rattle.pointer.specs.Prefix.{PrefixOf}
use Rattle.fragment.specs.Link.{character_at, characters_from, characters, is_utf8, is_pointer}
use Rattle.fragment.specs.Scan.{verdict}
use Rattle.fragment.specs.declared.scan.NotPointer.{NotPointer}
use Rattle.region.specs.Answer.{region_tokens}
use Rattle.region.specs.Begins.{begins, SameByte}
use Rattle.region.proofs.SpellLaws.{begins-tokens}

-- ---- one character of the region

module _ (s : Bytes) (at : ℕ) where
  pub ascii_here : byte s at < 0x80 → character_at s at ≡ ok (byte s at, at + 1)
  unfolding character_at
  ascii_here h = rw (le-leb (byte s at) 0x7F (omega arith))

  pub above-ascii : 0x80 ≤ byte s at → character_at s at ≡ character s at
  unfolding character_at character
  above-ascii h =
      rw (lt-leb (byte s at) 0x7F (omega arith), ne_eqb (byte s at) (code "\\") (λ e. omega arith), above_within 0x20 0x7F (byte s at) (omega arith))

  -- it takes at least one byte
  pub at_past : {c next : ℕ} → character_at s at ≡ ok (c, next) → at < next
  at_past {c} {next} e = go (dec_lt (byte s at) 0x80)
    where
      go : Dec (byte s at < 0x80) → at < next
      go (yes h) = let place = second_ok (sym (ascii_here h) ∙ e) in omega arith
      go (no h) = omega (arith, character_ok_past s at (c, next) (sym (above-ascii (omega arith)) ∙ e))

  -- and none past the end
  pub at_within : at < length s → {c next : ℕ} → character_at s at ≡ ok (c, next) → next ≤ length s
  at_within inside {c} {next} e = go (dec_lt (byte s at) 0x80)
    where
      go : Dec (byte s at < 0x80) → next ≤ length s
      go (yes h) = let place = second_ok (sym (ascii_here h) ∙ e) in omega arith
      go (no h) = omega (arith, character_ok_past s at (c, next) (sym (above-ascii (omega arith)) ∙ e))

  -- and leaves less of the text
  pub at_less : at < length s → {c next : ℕ} → character_at s at ≡ ok (c, next) → length s - next < length s - at
  at_less inside e = omega (arith, at_past e)

-- a byte that stands for itself is the character of both
module _ (s : Bytes) (at : ℕ) (h : stands_for_itself (byte s at) ≡ true) where
  self_ascii : (0x20 ≤ byte s at) × (byte s at ≤ 0x7F)
  unfolding stands_for_itself
  self_ascii = within_bounds 0x20 0x7F (byte s at) (and_both (within 0x20 0x7F (byte s at)) _ h).0

  pub self_at : character_at s at ≡ ok (byte s at, at + 1)
  self_at = ascii_here s at (omega (arith, self_ascii))

  pub self_in : character_in s at ≡ ok (byte s at, at + 1)
  unfolding character_in character stands_for_itself
  self_in =
      let b = byte s at in
      let (bounds, others) = and_both (within 0x20 0x7F b) _ h in
      let (quote, backslash) = and_both (not (eqb b (code "\""))) _ others in
      rw (not-true (eqb b (code "\"")) quote, not-true (eqb b (code "\\")) backslash, bounds)

-- ---- whether a text is a region

module _ (s : Bytes) where
  utf8_not : is_utf8 s ≡ false → accepted (region_tokens s) ≡ false
  unfolding is_utf8 region_tokens accepted ◌>>=◌
  utf8_not e = go (characters s) refl
    where
      go : (o : Outcome Text) → characters s ≡ o → accepted (o >>= tokens) ≡ false
      go (ok cs) f = absurd (true≢false (sym (ap accepted f) ∙ e))
      go (refused number place) f = refl

  -- whether the verdict is good
  pub told_region : {v : Result (Unit {0}) NotPointer} → v ≡ verdict s → is_ok v ≡ accepted (region_tokens s)
  unfolding verdict is_pointer region_tokens
  told_region e = ap is_ok e ∙ go (is_utf8 s) refl (is_pointer s) refl
    where
      go : (a : Bool) → is_utf8 s ≡ a → (b : Bool) → is_pointer s ≡ b → is_ok (verdict s) ≡ accepted (region_tokens s)
      go false f b g = rw f (sym (utf8_not f))
      go true f true g = rw (f, g)
      go true f false g = rw (f, g)

-- ---- a slash

module _ (s : Bytes) (at : ℕ) where
  pub slash_here : byte s at ≡ code "/" → true ≡ begins [] (decode_from s at)
  unfolding begins stands_for_itself within
  slash_here e =
      let read : character_in s at ≡ ok (byte s at, at + 1) = self_in s at (rw e) in
      rw (decode_more s at (byte s at) (at + 1) read, eq-eqb (byte s at) (code "/") e)

  pub slash_none : {n p : ℕ} → character_in s at ≡ refused n p → false ≡ begins [] (decode_from s at)
  unfolding begins
  slash_none e = rw (decode_ends s at e)

  pub slash_some : {c next : ℕ} → character_in s at ≡ ok (c, next) → eqb c (code "/") ≡ begins [] (decode_from s at)
  unfolding begins
  slash_some {c} {next} e = rw (decode_more s at c next e)

-- ---- the characters of the region from a place on

abbrev reading : Bytes → ℕ → ℕ → Outcome Text
reading s fuel at = characters_from fuel s at

module _ (s : Bytes) (at : ℕ) (inside : at < length s) where
  reads_one : (fuel : ℕ) {c next : ℕ} → character_at s at ≡ ok (c, next)
      → characters_from (suc fuel) s at ≡ (characters_from fuel s next >>= λ cs. ok (c ∷ cs))
  unfolding characters_from ◌>>=◌
  reads_one fuel e = rw (lt-ltb at (length s) inside, e)

  reads_none : (fuel : ℕ) {n p : ℕ} → character_at s at ≡ refused n p → characters_from (suc fuel) s at ≡ refused n p
  unfolding characters_from ◌>>=◌
  reads_none fuel e = rw (lt-ltb at (length s) inside, e)

  pub first_read : {c next : ℕ} {left : Text} → character_at s at ≡ ok (c, next) → Runs (reading s) s at (ok left)
      → (others : Text) × (left ≡ c ∷ others) × Runs (reading s) s next (ok others)
  first_read {c} {next} {left} e r = go r.fuel r.enough r.gives
    where
      go : (fuel : ℕ) → length s ≤ fuel + at → characters_from fuel s at ≡ ok left
          → (others : Text) × (left ≡ c ∷ others) × Runs (reading s) s next (ok others)
      go zero l h = absurd (omega arith)
      go (suc fuel) l h =
          let (others, f, k) = both_ok (characters_from fuel s next) _ left (sym (reads_one fuel e) ∙ h) in
          let same : left ≡ c ∷ others = cc in
          let past = at_past s at e in
          (others, same, record { fuel = fuel; enough = omega arith; gives = f })

  pub none_read : {n p : ℕ} {left : Text} → character_at s at ≡ refused n p → Runs (reading s) s at (ok left) → ⊥
  none_read {left = left} e r = go r.fuel r.enough r.gives
    where
      go : (fuel : ℕ) → length s ≤ fuel + at → characters_from fuel s at ≡ ok left → ⊥
      go zero l h = omega arith
      go (suc fuel) l h = refused≢ok (sym (reads_none fuel e) ∙ h)

all_read : (s : Bytes) (at : ℕ) {left : Text} → length s ≤ at → Runs (reading s) s at (ok left) → left ≡ []
unfolding characters_from
all_read s at {left} out r = go r.fuel r.gives
  where
    go : (fuel : ℕ) → characters_from fuel s at ≡ ok left → left ≡ []
    go zero h = cc
    go (suc fuel) h = let same : ok [] ≡ ok left = sym (rw (le-ltb at (length s) out)) ∙ h in cc

-- ---- the loop: what the characters that are left say is what all say

pub record Left (region part : Bytes) (i j : ℕ) (cs : Text) : Type 0 where
  pub left : Text
  pub reads : Runs (reading region) region i (ok left)
  pub whole : begins cs (decode part) ≡ begins left (decode_from part j)

-- of a region in UTF-8
abbrev pub Ahead : Bytes → Bytes → ℕ → ℕ → Type 0
Ahead region part i j = (cs : Text) → characters region ≡ ok cs → Left region part i j cs

pub ahead_all : (region part : Bytes) → Ahead region part 0 0
unfolding characters decode
ahead_all region part cs h = record { left = cs; reads = record { fuel = length region; enough = omega arith; gives = h }; whole = refl }

-- the answer, once it is known of the characters
told : (region part : Bytes) {r : Bool} → ((cs : Text) → characters region ≡ ok cs → r ≡ begins cs (decode part))
    → PrefixOf (region_tokens region) (tokens (decode part)) r
unfolding region_tokens
told region part f =
    record {
      right = λ ts us h k.
          let (cs, e, g) = both_ok (characters region) tokens ts h in
          f cs e ∙ begins-tokens cs (decode part) ts us g k;
    }

-- two texts by their first characters
module _ {c : ℕ} {cs left : Text} (e : left ≡ c ∷ cs) where
  first_alone : {right : Text} → right ≡ [] → begins left right ≡ false
  unfolding begins
  first_alone f = rw (e, f)

  module _ {d : ℕ} {ds right : Text} (f : right ≡ d ∷ ds) where
    firsts_differ : (c ≡ d → ⊥) → begins left right ≡ false
    unfolding begins
    firsts_differ n = rw (e, f, ne_eqb c d n)

    firsts_same : c ≡ d → begins left right ≡ begins cs ds
    unfolding begins
    firsts_same same = rw (e, f, eq-eqb c d same)

module _ {region part : Bytes} where
  module _ {i j : ℕ} (ahead : Ahead region part i j) where
    pub passed : length region ≤ i → {r : Bool} → r ≡ begins [] (decode_from part j) → PrefixOf (region_tokens region) (tokens (decode part)) r
    passed out is =
        told region part λ cs h.
        let l = ahead cs h in
        is ∙ ap (λ t. begins t (decode_from part j)) (sym (all_read region i out l.reads)) ∙ sym l.whole

    module _ (inside : i < length region) where
      pub not_utf8 : {n p : ℕ} → character_at region i ≡ refused n p → PrefixOf (region_tokens region) (tokens (decode part)) false
      not_utf8 e = told region part λ cs h. absurd (none_read region i inside e (ahead cs h).reads)

      module _ {c next : ℕ} (e : character_at region i ≡ ok (c, next)) where
        pub path_ends : {n p : ℕ} → character_in part j ≡ refused n p → PrefixOf (region_tokens region) (tokens (decode part)) false
        path_ends f =
            told region part λ cs h.
            let l = ahead cs h in
            let (others, is, r) = first_read region i inside e l.reads in
            sym (l.whole ∙ first_alone is (decode_ends part j f))

        module _ {d after : ℕ} (f : character_in part j ≡ ok (d, after)) where
          pub differs : (c ≡ d → ⊥) → PrefixOf (region_tokens region) (tokens (decode part)) false
          differs n =
              told region part λ cs h.
              let l = ahead cs h in
              let (others, is, r) = first_read region i inside e l.reads in
              sym (l.whole ∙ firsts_differ is (decode_more part j d after f) n)

          pub ahead_next : c ≡ d → Ahead region part next after
          ahead_next same cs h =
              let l = ahead cs h in
              let (others, is, r) = first_read region i inside e l.reads in
              record { left = others; reads = r; whole = l.whole ∙ firsts_same is (decode_more part j d after f) same }

-- ---- a byte that both have
pub ahead_byte : {region part : Bytes} {i j : ℕ} → Ahead region part i j → i < length region → SameByte region i part j → Ahead region part (i + 1) (j + 1)
ahead_byte {region} {part} {i} {j} ahead inside s =
    ahead_next ahead inside (self_at region i s.plain) (self_in part j (ap stands_for_itself (sym s.same) ∙ s.plain)) s.same
