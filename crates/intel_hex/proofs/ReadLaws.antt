-- The lines of a text, one after another.
use Rattle.std.specs.Prelude.{if◌then◌else◌, Some, None, Ok, Err}
use Rattle.std.proofs.Common.{◌≡◌, ℕ, zero, suc, ◌+◌, ◌-◌, ◌*◌, ◌<◌, ◌≤◌, Bool, true, false, ◌&&◌, ◌||◌, eqb, leb, [], ◌∷◌, ◌++◌, length, take, drop, sym, refl}
use Rattle.std.proofs.Common.{ap, ◌∙◌, subst, true≢false, arith, length-append, length-drop, take_all, eq-eqb, ne_eqb, eqb-true, leb-true}
use Rattle.spec.specs.Outcome.{Outcome, ok, refused, ◌>>=◌}
use Rattle.spec.specs.Bytes.{Bytes}
use Rattle.text.specs.Written.{Stored, LaidDown}
use Rattle.text.proofs.StoreLaws.{front}
use Rattle.text.proofs.LaidLaws.{Laid, laid_starts, laid_on, laid_ends}
use Rattle.lexer.proofs.Tests.{and_both}
use Rattle.intel_hex.specs.Record.{max_text}
use Rattle.intel_hex.specs.Reading.{is_hex_byte, bytes_at, all_hex, record_end, ending, count, address_of, type_of, data_of, line_length, is_line, is_data, is_end, is_record}
use Rattle.intel_hex.specs.Reading.{has_sum, is_next}
use Rattle.intel_hex.specs.Reading.{precede, by_type, read_line, read_from, read_text, wrong_sum, not_a_record, wrong_address, wrong_end}
use Rattle.intel_hex.specs.Steps.{stepped, Onward, StepIs, sized, Accepted, text_of}
use Rattle.intel_hex.specs.Refusal.{outcome}
use Rattle.intel_hex.specs.declared.lines.Record.{Record}
use Rattle.intel_hex.specs.declared.refusal.HexFault.{HexFault}
use Rattle.intel_hex.specs.declared.refusal.HexRefusal.TheVariants as HexRefusal
use Rattle.intel_hex.proofs.LineLaws.{all_at, all_first, line-room, line-within, parts}

-- what is lent of a text from a place on
pub rest_is : (s : Bytes) (at : ℕ) → take (length s - at) (drop at s) ≡ drop at s
rest_is s at = take_all (length s - at) (drop at s) (omega (arith, length-drop at s))

-- what `is_empty` tells
pub some_here : (s : Bytes) → false ≡ eqb (length s) 0 → 0 < length s
some_here [] e = absurd (true≢false (sym e))
some_here (b ∷ s) e = omega arith

pub none_here : (s : Bytes) → true ≡ eqb (length s) 0 → length s ≡ 0
none_here s e = eqb-true (length s) 0 (sym e)

pub bytes_length : (n : ℕ) (t : Bytes) (k : ℕ) → length (bytes_at n t k) ≡ n
unfolding bytes_at
bytes_length zero t k = refl
bytes_length (suc n) t k = ap suc (bytes_length n t (k + 2))

pub data_length : (t : Bytes) → length (data_of t) ≡ count t
unfolding data_of
data_length t = bytes_length (count t) t 9

-- a line that is there
pub read_line_lem : (fuel : ℕ) (t : Bytes) (line next : ℕ) → 0 < length t →
    read_from (suc fuel) t line next ≡ read_line t line next (read_from fuel (drop (line_length t) t) (line + 1) (next + count t))
unfolding read_from
read_line_lem fuel t line next h = rw (ne_eqb (length t) 0 (λ e. omega arith))

pub read_zero : (t : Bytes) (line next : ℕ) → read_from zero t line next ≡ refused wrong_end line
unfolding read_from
read_zero t line next = refl

pub read_none : (fuel : ℕ) (t : Bytes) (line next : ℕ) → length t ≡ 0 → read_from fuel t line next ≡ refused wrong_end line
unfolding read_from
read_none zero t line next e = refl
read_none (suc fuel) t line next e = rw (eq-eqb (length t) 0 e)

-- ---- a text measured

sized_on : (n : ℕ) (d : Bytes) (o : Outcome Bytes) → sized n (precede d o) ≡ sized (n + length d) o
unfolding sized precede ◌>>=◌
sized_on n d (ok t) = let e : n + length (d ++ t) ≡ n + length d + length t = omega (arith, length-append d t) in ap ok e
sized_on n d (refused number line) = refl

pub record Measuring (s rest : Bytes) (line n : ℕ) : Type 0 where
  pub few : n ≤ max_text
  pub lines : line + length rest ≤ length s + 1
  pub fuel : ℕ
  pub enough : length rest ≤ fuel
  pub same : sized 0 (read_text s) ≡ sized n (read_from fuel rest line n)

pub measuring_starts : (s : Bytes) → Measuring s s 1 0
unfolding read_text
measuring_starts s = record { few = omega arith; lines = omega arith; fuel = length s; enough = omega arith; same = refl }

module _ {s rest : Bytes} {line n : ℕ} (m : Measuring s rest line n) (some : 0 < length rest) where
  -- the line at the front, with fuel for it
  record Line : Type 0 where
    behind_fuel : ℕ
    enough_behind : length rest ≤ behind_fuel + 1
    reads : sized 0 (read_text s) ≡
        sized n (read_line rest line n (read_from behind_fuel (drop (line_length rest) rest) (line + 1) (n + count rest)))

  line_here : Line
  line_here = go m.fuel m.enough m.same
    where
      go : (fuel : ℕ) → length rest ≤ fuel → sized 0 (read_text s) ≡ sized n (read_from fuel rest line n) → Line
      go zero l e = absurd (omega arith)
      go (suc fuel) l e = record {
        behind_fuel = fuel;
        enough_behind = omega arith;
        reads = e ∙ ap (sized n) (read_line_lem fuel rest line n some);
      }

  pub onward_more : {r : Record} → StepIs rest line n (Ok (Some r)) → (11 ≤ r.width) × (r.width ≤ length rest) × (n + r.count ≤ max_text)
  unfolding Onward
  onward_more d = (d.onward.2, d.onward.3, d.onward.4)

  pub measuring_on : {r : Record} → StepIs rest line n (Ok (Some r)) →
      Measuring s (take (length rest - r.width) (drop r.width rest)) (line + 1) (n + r.count)
  unfolding Onward stepped
  measuring_on {r} d =
      let l = line_here in
      let w : line_length rest ≡ r.width = sym d.onward.1 in
      let c : count rest ≡ r.count = sym d.onward.0 in
      let c' : length (data_of rest) ≡ r.count = data_length rest ∙ c in
      rw (rest_is rest r.width)
      (record {
        few = d.onward.4;
        lines = omega (arith, m.lines, d.onward.2, d.onward.3, length-drop r.width rest);
        fuel = l.behind_fuel;
        enough = omega (arith, l.enough_behind, d.onward.2, length-drop r.width rest);
        same = l.reads ∙ ap (sized n) (d.gives _) ∙ sized_on n (data_of rest) _ ∙ rw (w, c, c');
      })

  pub measured-done : StepIs rest line n (Ok None) → outcome (Ok n) ≡ sized 0 (read_text s)
  unfolding outcome stepped sized
  measured-done d = let z : n + 0 ≡ n = omega arith in sym (line_here.reads ∙ ap (sized n) (d.gives _) ∙ ap ok z)

  pub measured_refused : {e : HexFault} → StepIs rest line n (Err e) → outcome (Err e) ≡ sized 0 (read_text s)
  unfolding outcome stepped sized
  measured_refused d = sym (line_here.reads ∙ ap (sized n) (d.gives _))

pub measured_missing : {s rest : Bytes} {line n : ℕ} → Measuring s rest line n → length rest ≡ 0 →
    outcome (Err record { refusal = HexRefusal.WrongEnd; line = line }) ≡ sized 0 (read_text s)
unfolding outcome sized
measured_missing {rest = rest} {line} {n} m e = sym (m.same ∙ ap (sized n) (read_none m.fuel rest line n e))

-- ---- a text that is read: its first line

pub data First (fuel : ℕ) (t : Bytes) (line next : ℕ) (text : Bytes) : Type 0 where
  last : is_line t ≡ true → has_sum t ≡ true → is_end t ≡ true → length t ≤ line_length t → text ≡ [] → First fuel t line next text
  more : (behind : ℕ) (rest : Bytes) → fuel ≡ suc behind → is_line t ≡ true → has_sum t ≡ true → is_data t ≡ true → address_of t ≡ next →
      next + count t ≤ max_text →
      read_from behind (drop (line_length t) t) (line + 1) (next + count t) ≡ ok rest → text ≡ data_of t ++ rest → First fuel t line next text

or_left : (a b : Bool) → (a || b) ≡ true → b ≡ false → a ≡ true
or_left true b e f = refl
or_left false b e f = absurd (true≢false (sym e ∙ f))

pub no_ok : {number line : ℕ} {text : Bytes} → refused number line ≡ ok text → ⊥
no_ok e = let z : ◌≡◌ {A = ℕ} 0 1 = cc in omega arith

record_parts : (t : Bytes) → is_record t ≡ true → (is_line t ≡ true) × ((is_data t || is_end t) ≡ true)
unfolding is_record
record_parts t e = and_both (is_line t) (is_data t || is_end t) e

next_parts : (t : Bytes) (next : ℕ) → is_next t next ≡ true → (address_of t ≡ next) × (next + count t ≤ max_text)
unfolding is_next
next_parts t next e =
    let b = and_both (eqb (address_of t) next) (leb (next + count t) max_text) e in
    (eqb-true (address_of t) next b.0, leb-true (next + count t) max_text b.1)

pub first : (fuel : ℕ) (t : Bytes) (line next : ℕ) (text : Bytes) → 0 < length t → read_from fuel t line next ≡ ok text → First fuel t line next text
unfolding read_from read_line by_type precede ◌>>=◌
first zero t line next text h e = absurd (no_ok e)
first (suc fuel) t line next text h e =
    go (is_record t) (has_sum t) (is_end t) (leb (length t) (line_length t)) (is_next t next)
    (read_from fuel (drop (line_length t) t) (line + 1) (next + count t))
    refl refl refl refl refl refl (sym (read_line_lem fuel t line next h) ∙ e)
  where
    go : (a b c d f : Bool) (o : Outcome Bytes) → is_record t ≡ a → has_sum t ≡ b → is_end t ≡ c → leb (length t) (line_length t) ≡ d → is_next t next ≡ f →
        read_from fuel (drop (line_length t) t) (line + 1) (next + count t) ≡ o →
        (if a then
        (if b then (if c then (if d then ok [] else refused wrong_end (line + 1)) else (if f then precede
        (data_of t) o else refused wrong_address line)) else refused wrong_sum line)
        else refused not_a_record line)
        ≡ ok text →
        First (suc fuel) t line next text
    go true true true true f o p q r u v w x = last (record_parts t p).0 q r (leb-true (length t) (line_length t) u) cc
    go true true true false f o p q r u v w x = absurd (no_ok x)
    go true true false d true (ok rest) p q r u v w x =
        let parts = record_parts t p in
        let place = next_parts t next v in
        more fuel rest refl parts.0 q (or_left (is_data t) (is_end t) parts.1 r) place.0 place.1 w cc
    go true true false d true (refused number place) p q r u v w x = absurd (no_ok x)
    go true true false d false o p q r u v w x = absurd (no_ok x)
    go true false c d f o p q r u v w x = absurd (no_ok x)
    go false b c d f o p q r u v w x = absurd (no_ok x)

-- ---- the fields of records

pub data_counted : (t : Bytes) → is_data t ≡ true → (type_of t ≡ 0) × (1 ≤ count t)
unfolding is_data
data_counted t e =
    let b = and_both (eqb (type_of t) 0) (leb 1 (count t)) e in
    (eqb-true (type_of t) 0 b.0, leb-true 1 (count t) b.1)

pub end_counted : (t : Bytes) → is_end t ≡ true → (type_of t ≡ 1) × (count t ≡ 0) × (address_of t ≡ 0)
unfolding is_end
end_counted t e =
    let b = and_both (eqb (type_of t) 1) (eqb (count t) 0 && eqb (address_of t) 0) e in
    let d = and_both (eqb (count t) 0) (eqb (address_of t) 0) b.1 in
    (eqb-true (type_of t) 1 b.0, eqb-true (count t) 0 d.0, eqb-true (address_of t) 0 d.1)

-- fewer bytes in digits
all_less : (n : ℕ) (t : Bytes) (k : ℕ) → all_hex (suc n) t k ≡ true → all_hex n t k ≡ true
unfolding all_hex
all_less zero t k e = refl
all_less (suc n) t k e =
    let b = all_first (suc n) t k e in
    rw b.0 (all_less n t (k + 2) b.1)

pub data_hex : (t : Bytes) → is_line t ≡ true → all_hex (count t) t 9 ≡ true
data_hex t e =
    let five : count t + 5 ≡ suc (suc (suc (suc (suc (count t))))) = omega arith in
    let n = count t in
    let a = (all_first (suc (suc (suc (suc n)))) t 1 (rw five at (parts t e).hex)).1 in
    let b = (all_first (suc (suc (suc n))) t 3 a).1 in
    let c = (all_first (suc (suc n)) t 5 b).1 in
    all_less n t 9 (all_first (suc n) t 7 c).1

-- ---- the data of a text laid down, line by line

pub record Pouring (s before out rest : Bytes) (end : ℕ) : Type 0 where
  pub fuel : ℕ
  pub line : ℕ
  pub enough : length rest ≤ fuel
  pub left : Bytes
  pub reads : read_from fuel rest line end ≡ ok left
  pub laid : Laid 0 (text_of (read_text s)) left before out end

pub pouring_starts : {s : Bytes} (out : Bytes) → Accepted s → Pouring s out out s 0
unfolding text_of read_text
pouring_starts {s} out a =
    record {
      fuel = length s;
      line = 1;
      enough = omega arith;
      left = a.text;
      reads = a.is;
      laid = subst (λ o. Laid 0 (text_of o) a.text out out 0) (sym a.is) (laid_starts 0 a.text out);
    }

pub pouring_missing : {s before out rest : Bytes} {end : ℕ} → Pouring s before out rest end → length rest ≡ 0 → ⊥
pouring_missing {rest = rest} {end} p e = no_ok (sym (read_none p.fuel rest p.line end e) ∙ p.reads)

module _ {s before out rest : Bytes} {end : ℕ} (p : Pouring s before out rest end) (some : 0 < length rest) where
  here_first : First p.fuel rest p.line end p.left
  here_first = first p.fuel rest p.line end p.left some p.reads

  pub line_first : is_line rest ≡ true
  line_first = go here_first
    where
      go : First p.fuel rest p.line end p.left → is_line rest ≡ true
      go (last l q e b z) = l
      go (more behind t f l q d a b r z) = l

  pub line-lies : 11 ≤ length rest
  line-lies = omega (arith, line-room rest line_first)

  pub count_told : is_hex_byte rest 1 ≡ true
  count_told = all_at (count rest + 5) rest 1 0 (parts rest line_first).hex (omega arith)

  pub end_told : ending rest (2 * count rest + 11) < 3
  unfolding record_end
  end_told = (parts rest line_first).ended

  pub pouring_last : count rest ≡ 0 → LaidDown (text_of (read_text s)) before out end
  pouring_last z = go here_first
    where
      go : First p.fuel rest p.line end p.left → LaidDown (text_of (read_text s)) before out end
      go (last l q x b y) = front (laid_ends p.laid y)
      go (more behind t f l q d a b r y) = absurd (omega (arith, (data_counted rest d).1))

  pub record Poured : Type 0 where
    pub room : 2 * count rest + 11 ≤ length rest
    pub hex : all_hex (count rest) rest 9 ≡ true
    pub few : end + count rest ≤ max_text
    pub far : (11 ≤ line_length rest) × (line_length rest ≤ length rest)
    pub next : {out' : Bytes} {end' : ℕ} → Stored (data_of rest) end out out' end' →
        Pouring s before out' (take (length rest - line_length rest) (drop (line_length rest) rest)) end'

  pub pouring_on : (count rest ≡ 0 → ⊥) → Poured
  pouring_on z = go here_first
    where
      go : First p.fuel rest p.line end p.left → Poured
      go (last l q x b y) = absurd (z (end_counted rest x).1)
      go (more behind t f l q d a b r y) =
          let lies = line-within rest l in
          record {
            room = line-room rest l;
            hex = data_hex rest l;
            few = b;
            far = lies;
            next = λ {out'} {end'} st.
                let on : end + count rest ≡ end' = sym (st.next_is ∙ ap (λ n. end + n) (data_length rest)) in
                rw (rest_is rest (line_length rest))
                (record {
                  fuel = behind;
                  line = p.line + 1;
                  enough = omega (arith, p.enough, f, lies.0, length-drop (line_length rest) rest);
                  left = t;
                  reads = subst (λ e. read_from behind (drop (line_length rest) rest) (p.line + 1) e ≡ ok t) on r;
                  laid = laid_on p.laid (data_of rest) y st;
                });
          }
