-- What is kept of a name: the laws of its hash and of the bytes that it is written with.
use Prim.Native.Nat.{ℕ, zero, suc, ◌+◌, ◌-◌, ◌≤◌, ◌<◌}
use Prim.Native.Char.{code}
use mathlib.Core.List.{[], ◌∷◌, ◌++◌}
use mathlib.Core.Path.{◌≡◌, refl, sym, ◌∙◌, ap}
use mathlib.Core.Bool.{Bool, true, false, not, ◌&&◌, and-true, and-false}
use native.Mathlib.Decide.{dec_lt}
use native.Mathlib.Numerals.{add-one}
use native.Mathlib.Omega.{arith}
use borrow.Author.Tests.{eq-eqb, ne_eqb}
use lib.ListN.{length, drop}
use lib.Dec.{eqb}
use lib.Seq.{take-add, drop-drop, drop-cons}
use Rattle.spec.specs.Outcome.{Outcome, ok, refused, ◌>>=◌}
use Rattle.spec.specs.Refusal.{not_json}
use Rattle.spec.specs.Bytes.{Bytes, Text, byte, within}
use Rattle.spec.specs.Strings.{tail, multibyte, character, characters, string}
use Rattle.lexer.specs.declared.cursor.Cursor.{Cursor}
use Rattle.lexer.specs.declared.strings.Name.{Name}
use Rattle.lexer.specs.declared.strings.Quoted.{Quoted}
use Rattle.std.specs.Prelude.{Result, Ok, Err}
use Rattle.spec.specs.Fault.{number_of}
use Rattle.spec.specs.declared.refusal.Fault.{Fault}
use Rattle.spec.proofs.FaultLaws.{answer_ok, answer_refused}
use Rattle.lexer.specs.Answers.{quoted_outcome, name_outcome}
use Rattle.lexer.specs.Hash.{mix, hash_from, hash}
use Rattle.lexer.specs.Names.{stands_for_itself, no_backslash, part, plain_of, kept, kept_of}
use Rattle.lexer.proofs.Always.{Always, refuses, gives, result, either, next, weaken}
use Rattle.lexer.proofs.Fuel.{Runs, starts}
use Rattle.lexer.proofs.AnswerLaws.{byte_taken, byte_is}
use Rattle.lexer.proofs.StringLaws.{character_ok_past, escape_past}
use Rattle.lexer.specs.Verbatim.{Verbatim, none, raw, short}
use Rattle.lexer.proofs.VerbatimLaws.{short_read}
use Rattle.lexer.proofs.StringLoop.{cons, self_no_quote, self_no_backslash, self_character, turn_character, turn_quote, turn_refused}

pub mix_bound : (h c : ℕ) → mix h c < 0x1000_0000
unfolding mix
mix_bound h c = omega arith

pub hash_from_bound : (h : ℕ) (cs : Text) → h < 0x1000_0000 → hash_from h cs < 0x1000_0000
unfolding hash_from
hash_from_bound h [] l = l
hash_from_bound h (c ∷ cs) l = hash_from_bound (mix h c) cs (mix_bound h c)

pub hash_bound : (cs : Text) → hash cs < 0x1000_0000
unfolding hash
hash_bound cs = hash_from_bound 0 cs (omega arith)

module _ (s : Bytes) where
  pub part_empty : (at : ℕ) → part s at at ≡ []
  unfolding part
  part_empty at = let z : at - at ≡ 0 = omega arith in rw z

  pub part_cons : (at to : ℕ) → at < length s → at < to → part s at to ≡ byte s at ∷ part s (at + 1) to
  unfolding part byte
  part_cons at to h l =
      let e : to - at ≡ suc (to - (at + 1)) = omega arith in
      rw (e, drop-cons s at 0 h, ← add-one at)

  pub part-append : (from mid to : ℕ) → from ≤ mid → mid ≤ to → part s from to ≡ part s from mid ++ part s mid to
  unfolding part
  part-append from mid to l m =
      let e : to - from ≡ (mid - from) + (to - mid) = omega arith in
      let d : from + (mid - from) ≡ mid = omega arith in
      rw (e, take-add (mid - from) (to - mid) (drop from s), drop-drop (mid - from) from s, d)

pub no_backslash-append : (xs ys : Bytes) → no_backslash (xs ++ ys) ≡ (no_backslash xs && no_backslash ys)
unfolding no_backslash
no_backslash-append [] ys = refl
no_backslash-append (x ∷ xs) ys = go (not (eqb x (code "\\"))) (no_backslash-append xs ys)
  where
    go : (b : Bool) → no_backslash (xs ++ ys) ≡ (no_backslash xs && no_backslash ys) →
        (b && no_backslash (xs ++ ys)) ≡ ((b && no_backslash xs) && no_backslash ys)
    go true e = e
    go false e = refl

-- a character has a backslash among its bytes where it begins with one
module _ (s : Bytes) where
  tail_plain : (more at low high bits : ℕ) → 0x80 ≤ low →
      Always (λ v. (at ≤ v.1) × (no_backslash (part s at v.1) ≡ true)) (tail more s at low high bits)
  unfolding tail no_backslash
  tail_plain zero at low high bits l = gives (bits, at) (omega arith, rw (part_empty s at))
  tail_plain (suc more) at low high bits l =
      next _ λ b e.
      let k = byte_taken s at low high b (omega arith) e in
      let i = byte_is s at low high b e in
      let n : eqb (byte s at) (code "\\") ≡ false = ne_eqb (byte s at) (code "\\") (λ q. omega arith) in
      weaken (λ v h. (omega arith, rw (part_cons s at v.1 k.here (omega arith), n) h.1))
      (tail_plain more (at + 1) 0x80 0xBF _ (omega arith))

  multibyte_plain : (at b : ℕ) → at < length s → Always (λ v. (at < v.1) × (no_backslash (part s (at + 1) v.1) ≡ true)) (multibyte s at b)
  unfolding multibyte
  multibyte_plain at b h =
      either (within 0xC2 0xDF b) (λ _. past (tail_plain 1 (at + 1) 0x80 0xBF _ (omega arith))) (λ _.
      either (within 0xE0 0xE0 b) (λ _. past (tail_plain 2 (at + 1) 0xA0 0xBF _ (omega arith))) (λ _.
      either (within 0xE1 0xEC b) (λ _. past (tail_plain 2 (at + 1) 0x80 0xBF _ (omega arith))) (λ _.
      either (within 0xED 0xED b) (λ _. past (tail_plain 2 (at + 1) 0x80 0x9F _ (omega arith))) (λ _.
      either (within 0xEE 0xEF b) (λ _. past (tail_plain 2 (at + 1) 0x80 0xBF _ (omega arith))) (λ _.
      either (within 0xF0 0xF0 b) (λ _. past (tail_plain 3 (at + 1) 0x90 0xBF _ (omega arith))) (λ _.
      either (within 0xF1 0xF3 b) (λ _. past (tail_plain 3 (at + 1) 0x80 0xBF _ (omega arith))) (λ _.
      either (within 0xF4 0xF4 b) (λ _. past (tail_plain 3 (at + 1) 0x80 0x8F _ (omega arith))) (λ _. refuses))))))))
    where
      past : {o : Outcome (ℕ × ℕ)} → Always (λ v. (at + 1 ≤ v.1) × (no_backslash (part s (at + 1) v.1) ≡ true)) o →
          Always (λ v. (at < v.1) × (no_backslash (part s (at + 1) v.1) ≡ true)) o
      past a = weaken (λ v h. (omega arith, h.1)) a

  inside_plain : (at : ℕ) → at < length s → Always (λ v. no_backslash (part s at v.1) ≡ not (eqb (byte s at) (code "\\"))) (character s at)
  unfolding character no_backslash
  inside_plain at h =
      let b = byte s at in
      either (eqb b (code "\\")) (λ e. weaken (λ v k. rw (part_cons s at v.1 h (omega arith), e)) (escape_past s (at + 1))) (λ e.
      either (within 0x20 0x7F b) (λ _. gives (b, at + 1) (rw (part_cons s at (at + 1) h (omega arith), part_empty s (at + 1), e))) (λ _.
      weaken (λ v k. rw (part_cons s at v.1 h k.0, e) k.1) (multibyte_plain at b h)))

  pub character_plain : (at : ℕ) (v : ℕ × ℕ) → character s at ≡ ok v → no_backslash (part s at v.1) ≡ not (eqb (byte s at) (code "\\"))
  character_plain at v e = go (dec_lt at (length s))
    where
      go : Dec (at < length s) → no_backslash (part s at v.1) ≡ not (eqb (byte s at) (code "\\"))
      go (yes h) = result (rw e at (inside_plain at h))
      go (no h) = absurd (omega (arith, character_ok_past s at v e))

-- what is kept where a hash has begun
unfoldable pub kept_from : ℕ → Bytes → ℕ → Outcome (Text × ℕ) → Outcome (ℕ × ℕ × Bool)
kept_from h s start o = o >>= λ t. ok (t.1, hash_from h t.0, no_backslash (part s start (t.1 - 1)))

kept_cons : (h : ℕ) (s : Bytes) (start c : ℕ) (o : Outcome (Text × ℕ)) → kept_from h s start (cons c o) ≡ kept_from (mix h c) s start o
unfolding kept_from hash_from ◌>>=◌
kept_cons h s start c (ok t) = refl
kept_cons h s start c (refused number place) = refl

kept_from_lem : (s : Bytes) (start : ℕ) (o : Outcome (Text × ℕ)) → kept_from 0 s start o ≡ kept_of s start o
unfolding kept_from kept_of kept hash ◌>>=◌
kept_from_lem s start o = refl

-- In the middle of a string that begins at start: whether it is plain before a place.
pub record Spanned (s : Bytes) (start at : ℕ) (plain : Bool) : Type 0 where
  pub from : start ≤ at
  pub so_far : plain ≡ no_backslash (part s start at)

spanned_starts : (s : Bytes) (start : ℕ) → Spanned s start start true
unfolding no_backslash
spanned_starts s start = record { from = omega arith; so_far = rw (part_empty s start) }

module _ {s : Bytes} {start at : ℕ} {plain : Bool} (k : Spanned s start at plain) where
  spanned_more : (u : ℕ × ℕ) {plain' : Bool} → character s at ≡ ok u → plain' ≡ (plain && not (eqb (byte s at) (code "\\"))) → Spanned s start u.1 plain'
  spanned_more u e p =
      let l = character_ok_past s at u e in
      record {
        from = omega (arith, k.from);
        so_far =
            rw (
              p,
              k.so_far,
              part-append s start at u.1 k.from (omega arith),
              no_backslash-append (part s start at) (part s at u.1),
              character_plain s at u e,
            );
      }

-- a character that begins with no backslash leaves it as it is
still : (s : Bytes) (at : ℕ) (plain : Bool) → (byte s at ≡ code "\\" → ⊥) → plain ≡ (plain && not (eqb (byte s at) (code "\\")))
still s at plain n = rw (ne_eqb (byte s at) (code "\\") n) (sym (and-true plain))

-- and one that begins with it does not
pub no_more : (s : Bytes) (at : ℕ) (plain : Bool) → byte s at ≡ code "\\" → false ≡ (plain && not (eqb (byte s at) (code "\\")))
no_more s at plain b = rw (eq-eqb (byte s at) (code "\\") b) (sym (and-false plain))

-- In the middle of a string: what is left of it from a place on gives v.
pub record Passing (s : Bytes) (start at : ℕ) (plain : Bool) (v : Outcome (ℕ × Bool)) : Type 0 where
  pub span : Spanned s start at plain
  pub left : Runs (λ fuel k. plain_of s start (characters fuel s k)) s at v

plain_cons : (s : Bytes) (start c : ℕ) (o : Outcome (Text × ℕ)) → plain_of s start (cons c o) ≡ plain_of s start o
unfolding plain_of ◌>>=◌
plain_cons s start c (ok t) = refl
plain_cons s start c (refused number place) = refl

pub passing_starts : (s : Bytes) (start : ℕ) → Passing s start start true (plain_of s start (characters (length s) s start))
passing_starts s start = record { span = spanned_starts s start; left = starts (λ fuel k. plain_of s start (characters fuel s k)) s start }

module _ {s : Bytes} {start at : ℕ} {plain : Bool} {v : Outcome (ℕ × Bool)} where
  pub passing_more : (u : ℕ × ℕ) {plain' : Bool} → (byte s at ≡ code "\"" → ⊥) → character s at ≡ ok u →
      plain' ≡ (plain && not (eqb (byte s at) (code "\\"))) → Passing s start at plain v → Passing s start u.1 plain' v
  passing_more u n e p k =
      record { span = spanned_more k.span u e p; left = turn_character (plain_of s start) s at (plain_of s start) u (plain_cons s start u.0) n e k.left }

  pub passing_quote : byte s at ≡ code "\"" → Passing s start at plain v → ok (at + 1, plain) ≡ v
  unfolding plain_of ◌>>=◌
  passing_quote q k =
      let e : at + 1 - 1 ≡ at = omega arith in
      rw (e, ← k.span.so_far) at (turn_quote (plain_of s start) s at q k.left)

  pub passing_refused : (number place : ℕ) → (byte s at ≡ code "\"" → ⊥)
      → character s at ≡ refused number place → Passing s start at plain v → refused number place ≡ v
  unfolding plain_of ◌>>=◌
  passing_refused number place n e k = turn_refused (plain_of s start) s at number place n e k.left

-- verbatim characters, none of them an escape while the string is plain
pub passing_verbatim : {escapes plain : Bool} {s : Bytes} {start from at : ℕ} {v : Outcome (ℕ × Bool)}
    → Verbatim escapes s from at → (escapes ≡ true → plain ≡ false) →
    Passing s start from plain v → Passing s start at plain v
passing_verbatim none f k = k
passing_verbatim {plain = plain} {s} (raw {at} {c} {next} p n m e) f k = passing_more (c, next) n e (still s at plain m) (passing_verbatim p f k)
passing_verbatim {plain = plain} {s} (short {at} p t b r) f k =
    let n : byte s at ≡ code "\"" → ⊥ = λ q. omega arith in
    passing_more _ n (short_read s at b r) (rw (f t)) (passing_verbatim p f k)

-- In the middle of a name: the hash is that of the characters before a place, and what is left of it from there on gives v.
pub record Keeping (s : Bytes) (start at h : ℕ) (plain : Bool) (v : Outcome (ℕ × ℕ × Bool)) : Type 0 where
  pub span : Spanned s start at plain
  pub left : Runs (λ fuel k. kept_from h s start (characters fuel s k)) s at v

pub keeping_starts : (s : Bytes) (start : ℕ) → Keeping s start start 0 true (kept_of s start (characters (length s) s start))
keeping_starts s start =
    record {
      span = spanned_starts s start;
      left = rw (kept_from_lem s start (characters (length s) s start)) at (starts (λ fuel k. kept_from 0 s start (characters fuel s k)) s start);
    }

module _ {s : Bytes} {start at h : ℕ} {plain : Bool} {v : Outcome (ℕ × ℕ × Bool)} where
  pub keeping_more : (u : ℕ × ℕ) {h' : ℕ} {plain' : Bool} → (byte s at ≡ code "\"" → ⊥) → character s at ≡ ok u →
      h' ≡ mix h u.0 → plain' ≡ (plain && not (eqb (byte s at) (code "\\"))) → Keeping s start at h plain v → Keeping s start u.1 h' plain' v
  keeping_more u n e m p k =
      record {
        span = spanned_more k.span u e p;
        left = rw m (turn_character (kept_from h s start) s at (kept_from (mix h u.0) s start) u (kept_cons h s start u.0) n e k.left);
      }

  pub keeping_self : {h' : ℕ} → stands_for_itself (byte s at) ≡ true → h' ≡ mix h (byte s at) → Keeping s start at h plain v →
      Keeping s start (at + 1) h' plain v
  keeping_self t m k = keeping_more (byte s at, at + 1) (self_no_quote s at t) (self_character s at t) m (still s at plain (self_no_backslash s at t)) k

  pub keeping_quote : byte s at ≡ code "\"" → Keeping s start at h plain v → ok (at + 1, h, plain) ≡ v
  unfolding kept_from hash_from ◌>>=◌
  keeping_quote q k =
      let e : at + 1 - 1 ≡ at = omega arith in
      rw (e, ← k.span.so_far) at (turn_quote (kept_from h s start) s at q k.left)

  pub keeping_refused : (number place : ℕ) → (byte s at ≡ code "\"" → ⊥) → character s at ≡ refused number place →
      Keeping s start at h plain v → refused number place ≡ v
  unfolding kept_from ◌>>=◌
  keeping_refused number place n e k = turn_refused (kept_from h s start) s at number place n e k.left

-- what a string that was read says
pub record QuotedRead (s : Bytes) (at next : ℕ) (plain : Bool) : Type 0 where
  pub text : Text
  pub reads : string s at ≡ ok (text, next)
  pub written : plain ≡ no_backslash (part s (at + 1) (next - 1))

pub quoted_read : (s : Bytes) (at : ℕ) (q : Quoted) {r : Result Quoted Fault} → quoted_outcome r ≡ plain_of s (at + 1) (string s at) →
    r ≡ Ok q → QuotedRead s at q.next.at q.plain
unfolding plain_of ◌>>=◌
quoted_read s at q e t = go (string s at) refl (sym (answer_ok _ q e t))
  where
    go : (o : Outcome (Text × ℕ)) → string s at ≡ o → ok (q.next.at, q.plain) ≡ plain_of s (at + 1) o → QuotedRead s at q.next.at q.plain
    go (ok (cs, n)) i k =
        let p : ◌≡◌ {A = ℕ × Bool} (q.next.at, q.plain) (n, no_backslash (part s (at + 1) (n - 1))) = cc in
        let same : q.next.at ≡ n = ap (λ x. x.0) p in
        record { text = cs; reads = rw same i; written = rw same (ap (λ x. x.1) p) }
    go (refused number place) i k = let z : ◌≡◌ {A = ℕ} 0 1 = cc in absurd (omega arith)

pub quoted_refused : (s : Bytes) (at : ℕ) (x : Fault) {r : Result Quoted Fault} → quoted_outcome r ≡ plain_of s (at + 1) (string s at) →
    r ≡ Err x → string s at ≡ refused (number_of x.refusal) x.place
unfolding plain_of ◌>>=◌
quoted_refused s at x e t = go (string s at) (sym (answer_refused _ x e t))
  where
    go : (o : Outcome (Text × ℕ)) → refused (number_of x.refusal) x.place ≡ plain_of s (at + 1) o → o ≡ refused (number_of x.refusal) x.place
    go (ok t) k = let z : ◌≡◌ {A = ℕ} 0 1 = cc in absurd (omega arith)
    go (refused number p) k = cc

-- what a name that was read says of its string
pub record NameRead (s : Bytes) (at next h : ℕ) (plain : Bool) : Type 0 where
  pub text : Text
  pub reads : string s at ≡ ok (text, next)
  pub hashed : h ≡ hash text
  pub written : plain ≡ no_backslash (part s (at + 1) (next - 1))

pub name_read : (s : Bytes) (at : ℕ) (m : Name) {r : Result Name Fault} → name_outcome r ≡ kept_of s (at + 1) (string s at) →
    r ≡ Ok m → NameRead s at m.next.at m.hash m.plain
unfolding kept_of kept ◌>>=◌
name_read s at m e t = go (string s at) refl (sym (answer_ok _ m e t))
  where
    go : (o : Outcome (Text × ℕ)) → string s at ≡ o → ok (m.next.at, m.hash, m.plain) ≡ kept_of s (at + 1) o →
        NameRead s at m.next.at m.hash m.plain
    go (ok (cs, n)) i k =
        let p : ◌≡◌ {A = ℕ × ℕ × Bool} (m.next.at, m.hash, m.plain) (n, hash cs, no_backslash (part s (at + 1) (n - 1))) = cc in
        let same : m.next.at ≡ n = ap (λ x. x.0) p in
        record { text = cs; reads = rw same i; hashed = ap (λ x. x.1) p; written = rw same (ap (λ x. x.2) p) }
    go (refused number place) i k = let z : ◌≡◌ {A = ℕ} 0 1 = cc in absurd (omega arith)

pub name_refused : (s : Bytes) (at : ℕ) (x : Fault) {r : Result Name Fault} → name_outcome r ≡ kept_of s (at + 1) (string s at) →
    r ≡ Err x → string s at ≡ refused (number_of x.refusal) x.place
unfolding kept_of ◌>>=◌
name_refused s at x e t = go (string s at) (sym (answer_refused _ x e t))
  where
    go : (o : Outcome (Text × ℕ)) → refused (number_of x.refusal) x.place ≡ kept_of s (at + 1) o → o ≡ refused (number_of x.refusal) x.place
    go (ok u) k = let z : ◌≡◌ {A = ℕ} 0 1 = cc in absurd (omega arith)
    go (refused number there) k = cc
