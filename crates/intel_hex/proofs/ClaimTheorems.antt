-- The claims of specs/Claims, proved.
use Rattle.std.specs.Prelude.{if◌then◌else◌}
use Rattle.std.proofs.Common.{◌≡◌, ℕ, zero, suc, ◌+◌, ◌*◌, ◌/◌, ◌%◌, ◌<◌, ◌≤◌, Bool, true, false, eqb, leb, [], ◌∷◌, ◌++◌, length, take, drop, sym, refl, ap}
use Rattle.std.proofs.Common.{◌∙◌, subst, append_assoc, append-nil, arith, length-append, length-drop, take-append-drop, drop_of_length-le, length-take}
use Rattle.std.proofs.Common.{drop-drop, eq-eqb, ne_eqb, eqb-true, le-leb, leb-true}
use Prim.Native.Char.{code}
use mathlib.Core.Bool.{or-true}
use native.Mathlib.Decide.{dec_lt, ℕ_discrete}
use Rattle.spec.specs.Outcome.{Outcome, ok, refused, ◌>>=◌}
use Rattle.spec.specs.Bytes.{Bytes, byte, ascii}
use Rattle.text.specs.UpperHex.{upper_hex}
use Rattle.intel_hex.specs.Record.{max_text, line_feed, data_type, end_type, total, body, check, record_bytes, digits, digits_of, line_of, records_from}
use Rattle.intel_hex.specs.Record.{end_line, hex_of}
use Rattle.intel_hex.specs.Reading.{hex_byte, bytes_at, all_hex, count, address_of, type_of, data_of, record_end, ending, line_length, is_line, is_data}
use Rattle.intel_hex.specs.Reading.{is_end}
use Rattle.intel_hex.specs.Reading.{is_record, has_sum, is_next, bytes_of, precede, by_type, read_line, read_from, read_text, not_a_record, wrong_sum}
use Rattle.intel_hex.specs.Reading.{wrong_address, wrong_end}
use Rattle.intel_hex.specs.Answer as Spec
use Rattle.intel_hex.specs.Answer.{fitting, write_answer, outcome_answer, read_answer}
use Rattle.intel_hex.specs.Claims as Claims
use Rattle.intel_hex.specs.Claims.{Octets, RoundTrip, SumIsZero, Example, Spells, Ending, Line, HexText, OnlyRecords, AllRecords}
use Rattle.intel_hex.proofs.RecordLaws.{from_here, total-append, check_zero, check_only, record_total, records_here, records_end}
use Rattle.intel_hex.proofs.LineLaws.{all_at, parts, line_is, line-room, line-within}
use Rattle.intel_hex.proofs.ReadLaws.{First, last, more, first, no_ok, read_line_lem, read_zero, read_none, data_length, data_counted, end_counted}
use Rattle.intel_hex.proofs.CallLaws.{fitting_whole}
use Rattle.intel_hex.proofs.SpellLaws.{spells_length, read_bytes, read_hex, bytes_prefix, bytes_last, spells_read, hex_small, spells_upper}
use Rattle.intel_hex.proofs.SpellLaws.{octets-append, octets-take, octets-drop, ending-read, ending_is}

-- ---- sums

pub sum_is_zero : SumIsZero
sum_is_zero kind address d = ap (λ n. n % 256) (record_total kind address d) ∙ check_zero (body kind address d)

pub example : Example
unfolding hex_of records_from end_line line_of record_bytes body check total digits_of digits upper_hex ascii
example = refl

-- ---- what the reader finds in the line of a record

record Found (t : Bytes) (kind address : ℕ) (d behind : Bytes) : Type 0 where
  line : is_line t ≡ true
  sum : has_sum t ≡ true
  count_is : count t ≡ length d
  type_is : type_of t ≡ kind
  address_is : address_of t ≡ address
  data_is : data_of t ≡ d
  behind_is : drop (line_length t) t ≡ behind

module _ (kind address : ℕ) (d ds ended behind : Bytes) (s : Spells ds (record_bytes kind address d)) (e : Ending ended behind) where
  found_here : Found (code ":" ∷ (ds ++ ended)) kind address d behind
  unfolding record_bytes body bytes_at count type_of address_of data_of bytes_of has_sum record_end line_length byte
  found_here =
      let t : Bytes = code ":" ∷ (ds ++ ended) in
      let r : Bytes = record_bytes kind address d in
      let c : ℕ = check (body kind address d) in
      let all : bytes_at (length r) t 1 ≡ r = read_bytes s (code ":") ended in
      let one : hex_byte t 1 ≡ length d = cc in
      let three : hex_byte t 3 ≡ address / 256 = cc in
      let five : hex_byte t 5 ≡ address % 256 = cc in
      let seven : hex_byte t 7 ≡ kind = cc in
      let others : bytes_at (length (d ++ c ∷ [])) t 9 ≡ d ++ c ∷ [] = cc in
      let many : length r ≡ hex_byte t 1 + 5 = omega (arith, length-append d (c ∷ [])) in
      let bytes : bytes_at (hex_byte t 1 + 5) t 1 ≡ r = ap (λ n. bytes_at n t 1) (sym many) ∙ all in
      let place : suc (length ds) ≡ 2 * hex_byte t 1 + 11 = omega (arith, spells_length s) in
      let ends = ending-read e (code ":" ∷ ds) in
      record {
        line = line_is t refl (subst (λ n. all_hex n t 1 ≡ true) many (read_hex s (code ":") ended)) (subst (λ k. ending t k < 3) place ends.there);
        sum = eq-eqb (total (bytes_at (hex_byte t 1 + 5) t 1) % 256) 0 (ap (λ r. total r % 256) bytes ∙ sum_is_zero kind address d);
        count_is = one;
        type_is = seven;
        address_is = omega arith;
        data_is = ap (λ n. bytes_at n t 9) one ∙ bytes_prefix d c t 9 others;
        behind_is = subst (λ k. drop (k + ending t k) t ≡ behind) place ends.behind_is;
      }

found : {t behind : Bytes} (kind address : ℕ) (d : Bytes) → Line t (record_bytes kind address d) behind → Found t kind address d behind
found {behind = behind} kind address d l =
    subst (λ t. Found t kind address d behind) (sym l.begins) (found_here kind address d l.digits l.ended behind l.spells l.ends)

-- ---- every text of records is read

module _ {t behind : Bytes} (f : Found t end_type 0 [] behind) where
  end_is : is_end t ≡ true
  unfolding is_end
  end_is = rw (eq-eqb (type_of t) 1 f.type_is, eq-eqb (count t) 0 f.count_is, eq-eqb (address_of t) 0 f.address_is)

  end_record : is_record t ≡ true
  unfolding is_record
  end_record = rw (f.line, end_is, or-true)

  end_read : behind ≡ [] → (line next : ℕ) (o : Outcome Bytes) → read_line t line next o ≡ ok []
  unfolding read_line by_type
  end_read none line next o =
      let whole : length t ≤ line_length t = omega (arith, length-drop (line_length t) t, ap length (f.behind_is ∙ none)) in
      rw (end_record, f.sum, end_is, le-leb (length t) (line_length t) whole)

module _ {t d behind : Bytes} {next : ℕ} (f : Found t data_type next d behind) (some : 1 ≤ length d) (few : next + length d ≤ max_text) where
  data_record : is_record t ≡ true
  unfolding is_record is_data
  data_record = rw (f.line, eq-eqb (type_of t) 0 f.type_is, le-leb 1 (count t) (omega (arith, f.count_is)))

  not_end : is_end t ≡ false
  unfolding is_end
  not_end = rw (ne_eqb (type_of t) 1 (λ e. omega (arith, f.type_is)))

  is_next_lem : is_next t next ≡ true
  unfolding is_next
  is_next_lem = rw (eq-eqb (address_of t) next f.address_is, le-leb (next + count t) max_text (omega (arith, f.count_is)))

  data_read : (line : ℕ) (rest : Bytes) → read_line t line next (ok rest) ≡ ok (d ++ rest)
  unfolding read_line by_type precede ◌>>=◌
  data_read line rest = rw (data_record, f.sum, not_end, is_next_lem, f.data_is)

all_read : {next : ℕ} {t text : Bytes} → HexText next t text → (fuel line : ℕ) → length t ≤ fuel → read_from fuel t line next ≡ ok text
all_read {next} {t} (Claims.last l) fuel line h = go fuel h (found end_type 0 [] l)
  where
    go : (fuel : ℕ) → length t ≤ fuel → Found t end_type 0 [] [] → read_from fuel t line next ≡ ok []
    go zero h f = absurd (omega (arith, line-room t f.line))
    go (suc fuel) h f = read_line_lem fuel t line next (omega (arith, line-room t f.line)) ∙ end_read f refl line next _
all_read {next} {t} (Claims.more {behind = behind} {text} d some few l hs) fuel line h =
    go fuel h (found data_type next d l) (λ fuel line h. all_read hs fuel line h)
  where
    go : (fuel : ℕ) → length t ≤ fuel → Found t data_type next d behind →
        ((fuel line : ℕ) → length behind ≤ fuel → read_from fuel behind line (next + length d) ≡ ok text) → read_from fuel t line next ≡ ok (d ++ text)
    go zero h f ih = absurd (omega (arith, line-room t f.line))
    go (suc fuel) h f ih =
        let short : length behind ≤ fuel = omega (arith, length-drop (line_length t) t, ap length f.behind_is, line-within t f.line) in
        read_line_lem fuel t line next (omega (arith, line-room t f.line))
        ∙ ap (read_line t line next)
        (ap (λ u. read_from fuel u (line + 1) (next + count t)) f.behind_is ∙ ap (λ n. read_from fuel behind (line + 1) (next + n))
        f.count_is ∙ ih fuel (line + 1) short)
        ∙ data_read f some few line text

-- ---- and nothing else

module _ (t : Bytes) (kind address : ℕ) (d : Bytes) (l : is_line t ≡ true) (sum : has_sum t ≡ true) (c : count t ≡ length d) (k : type_of t ≡ kind)
    (a : address_of t ≡ address) (b : data_of t ≡ d) where
  hex : all_hex (count t + 5) t 1 ≡ true
  hex = (parts t l).hex

  final : ℕ
  final = hex_byte t (9 + 2 * count t)

  bytes_are : bytes_of t ≡ body kind address d ++ final ∷ []
  unfolding bytes_of bytes_at body count type_of address_of data_of final
  bytes_are =
      let low : hex_byte t 5 < 256 = hex_small t 5 (all_at (count t + 5) t 1 2 hex (omega arith)) in
      let three : hex_byte t 3 ≡ address / 256 = omega arith in
      let five : hex_byte t 5 ≡ address % 256 = omega arith in
      let many : hex_byte t 1 + 5 ≡ suc (suc (suc (suc (suc (hex_byte t 1))))) = omega arith in
      let behind : bytes_at (suc (hex_byte t 1)) t 9 ≡ d ++ hex_byte t (9 + 2 * hex_byte t 1) ∷ [] = bytes_last (hex_byte t 1) t 9 ∙ ap (λ u. u ++ hex_byte t
      (9 + 2 * hex_byte t 1) ∷ []) b in
      ap (λ n. bytes_at n t 1) many ∙ cc

  final_is : final ≡ check (body kind address d)
  unfolding has_sum total final
  final_is =
      let small : hex_byte t (9 + 2 * count t) < 256 =
      (let e : 1 + 2 * (count t + 4) ≡ 9 + 2 * count t = omega arith in
      subst (λ k. hex_byte t k < 256) e (hex_small t (1 + 2 * (count t + 4)) (all_at (count t + 5) t 1 (count t + 4) hex (omega arith)))) in
      let zero-sum : total (bytes_of t) % 256 ≡ 0 = eqb-true _ _ sum in
      check_only (body kind address d) (hex_byte t (9 + 2 * count t)) small
      (omega (arith, zero-sum, ap total bytes_are, total-append (body kind address d) (hex_byte t (9 + 2 * count t) ∷ [])))

  record_is : bytes_at (count t + 5) t 1 ≡ record_bytes kind address d
  unfolding bytes_of record_bytes
  record_is = bytes_are ∙ ap (λ x. body kind address d ++ x ∷ []) final_is

  line_back : Line t (record_bytes kind address d) (drop (line_length t) t)
  unfolding record_end line_length
  line_back =
      let n : ℕ = 2 * (count t + 5) in
      let room = line-room t l in
      let place : 1 + n ≡ 2 * count t + 11 = omega arith in
      let p = parts t l in
      let tail : drop 1 t ≡ take n (drop 1 t) ++ drop (2 * count t + 11) t =
      sym (take-append-drop n (drop 1 t)) ∙ ap (λ u. take n (drop 1 t) ++ u) (drop-drop n 1 t ∙ ap (λ k. drop k t) place) in
      record {
        digits = take n (drop 1 t);
        ended = drop (2 * count t + 11) t;
        begins = from_here t 0 (omega arith) ∙ ap (λ x. x ∷ drop 1 t) p.colon ∙ ap (λ u. code ":" ∷ u) tail;
        spells = subst (Spells (take n (drop 1 t))) record_is (spells_read (count t + 5) t 1 hex);
        ends = ending_is t (2 * count t + 11) room p.ended;
      }

abbrev Reads : ℕ → Type 0
Reads fuel = (t : Bytes) (line next : ℕ) (text : Bytes) → read_from fuel t line next ≡ ok text → HexText next t text

by_first : (fuel : ℕ) (t : Bytes) (line next : ℕ) (text : Bytes) → First (suc fuel) t line next text → Reads fuel → HexText next t text
by_first fuel t line next text (last l s x w z) ih =
    let e = end_counted t x in
    let none : data_of t ≡ [] = empty (data_of t) (data_length t ∙ e.1) in
    let nothing : drop (line_length t) t ≡ [] = empty (drop (line_length t) t) (omega (arith, length-drop (line_length t) t)) in
    let back = line_back t end_type 0 [] l s e.1 e.0 e.2 none in
    subst (HexText next t) (sym z) (Claims.last (subst (Line t (record_bytes end_type 0 [])) nothing back))
  where
    empty : (u : Bytes) → length u ≡ 0 → u ≡ []
    empty [] e = refl
    empty (b ∷ u) e = absurd (omega arith)
by_first fuel t line next text (more behind rest f l s x a m r z) ih =
    let e = data_counted t x in
    let back = line_back t data_type next (data_of t) l s (sym (data_length t)) e.0 a refl in
    let same : behind ≡ fuel = omega arith in
    let there : read_from fuel (drop (line_length t) t) (line + 1) (next + length (data_of t)) ≡ ok rest =
    ap (λ n. read_from fuel (drop (line_length t) t) (line + 1) (next + n)) (data_length t) ∙ ap (λ n. read_from n (drop (line_length t) t) (line + 1)
    (next + count t)) (sym same) ∙ r in
    subst (HexText next t) (sym z)
    (Claims.more (data_of t) (omega (arith, data_length t)) (omega (arith, data_length t)) back (ih (drop (line_length t) t) (line + 1) (next + length
    (data_of t)) rest there))

only_read : (fuel : ℕ) → Reads fuel
only_read zero t line next text e = absurd (no_ok (sym (read_zero t line next) ∙ e))
only_read (suc fuel) t line next text e = start (ℕ_discrete (length t) 0) (only_read fuel)
  where
    start : Dec (length t ≡ 0) → Reads fuel → HexText next t text
    start (yes h) ih = absurd (no_ok (sym (read_none (suc fuel) t line next h) ∙ e))
    start (no h) ih = by_first fuel t line next text (first (suc fuel) t line next text (omega arith) e) ih

-- ---- the claims on reading

-- a refusal's number is one of 18 to 21, so that it is no success
data Safe : Outcome Bytes → Type 0 where
  fine : {t : Bytes} → Safe (ok t)
  numbered : (number : ℕ) {line : ℕ} → 18 ≤ number → Safe (refused number line)

either : (a : Bool) {x y : Outcome Bytes} → Safe x → Safe y → Safe (if a then x else y)
either true p q = p
either false p q = q

safe_precede : (d : Bytes) {o : Outcome Bytes} → Safe o → Safe (precede d o)
unfolding precede ◌>>=◌
safe_precede d fine = fine
safe_precede d (numbered number h) = numbered number h

safe_line : (t : Bytes) (line next : ℕ) {o : Outcome Bytes} → Safe o → Safe (read_line t line next o)
unfolding read_line by_type
safe_line t line next p =
    either (is_record t)
    (either (has_sum t)
    (either (is_end t) (either (leb (length t) (line_length t)) fine (numbered wrong_end (omega arith))) (either (is_next t next) (safe_precede (data_of t) p)
    (numbered wrong_address (omega arith))))
    (numbered wrong_sum (omega arith)))
    (numbered not_a_record (omega arith))

safe : (fuel : ℕ) (t : Bytes) (line next : ℕ) → Safe (read_from fuel t line next)
unfolding read_from
safe zero t line next = numbered wrong_end (omega arith)
safe (suc fuel) t line next =
    either (eqb (length t) 0) (numbered wrong_end (omega arith)) (safe_line t line next (safe fuel (drop (line_length t) t) (line + 1) (next + count t)))

answered : {o : Outcome Bytes} → Safe o → (text : Bytes) (room : ℕ) → outcome_answer o room ≡ Spec.success text → o ≡ ok text
unfolding outcome_answer fitting
answered (fine {t}) text room e = go (leb (length t) room) e
  where
    go : (b : Bool) → (if b then Spec.success t else Spec.refusal 16 0) ≡ Spec.success text → ok t ≡ ok text
    go true e = ap (λ a. ok a.written) e
    go false e = let z : ◌≡◌ {A = ℕ} 16 0 = ap (λ a. a.number) e in absurd (omega arith)
answered (numbered number h) text room e = let z : number ≡ 0 = ap (λ a. a.number) e in absurd (omega arith)

pub only_records : OnlyRecords
unfolding read_text read_answer
only_records s text room e = only_read (length s) s 1 0 text (answered (safe (length s) s 1 0) text room e)

pub all_records : AllRecords
unfolding read_text read_answer outcome_answer
all_records s text room h fits = rw (all_read h (length s) 1 (omega arith)) (fitting_whole room text fits)

-- ---- what is written is read

octet : (b : ℕ) {s : Bytes} → b < 256 → Octets s → Octets (b ∷ s)
octet b h o = Claims.more h o

octets_record : (kind address : ℕ) {d : Bytes} → kind < 256 → address < 65_536 → length d < 256 → Octets d → Octets (record_bytes kind address d)
unfolding record_bytes body check
octets_record kind address {d} k a n o =
    let c : ℕ = check (body kind address d) in
    octet (length d) n (octet (address / 256) (omega arith) (octet (address % 256) (omega arith) (octet kind k (octets-append o (octet c
    (omega arith) Claims.none)))))

line-written : (kind address : ℕ) (d behind : Bytes) → kind < 256 → address < 65_536 → length d < 256 → Octets d →
    Line (line_of (record_bytes kind address d) ++ behind) (record_bytes kind address d) behind
unfolding line_of
line-written kind address d behind k a n o =
    let r : Bytes = record_bytes kind address d in
    record {
      digits = digits_of r;
      ended = line_feed ∷ behind;
      begins = ap (λ u. code ":" ∷ u) (append_assoc (digits_of r) (line_feed ∷ []) behind);
      spells = spells_upper (octets_record kind address k a n o);
      ends = Claims.lf;
    }

end_written : (next : ℕ) → HexText next end_line []
unfolding end_line
end_written next =
    Claims.last
    (subst (λ t. Line t (record_bytes end_type 0 []) []) (append-nil (line_of (record_bytes end_type 0 [])))
    (line-written end_type 0 [] [] (omega arith) (omega arith) (omega arith) Claims.none))

module _ (text : Bytes) (o : Octets text) (few : length text ≤ max_text) where
  abbrev Written : ℕ → Type 0
  Written fuel = (at : ℕ) → length text ≤ fuel + at → at ≤ length text → HexText at (records_from fuel text at ++ end_line) (drop at text)

  -- what is written behind the record at a place
  behind_written : (fuel at : ℕ) → length text ≤ suc fuel + at → at < length text → Written fuel → Dec (length text < at + 16) →
      HexText (at + length (take 16 (drop at text))) (records_from fuel text (at + 16) ++ end_line) (drop 16 (drop at text))
  behind_written fuel at enough h ih (yes l) =
      let none : drop 16 (drop at text) ≡ [] = drop-drop 16 at text ∙ drop_of_length-le text {i = at + 16} (omega arith) in
      rw (records_end fuel text (at + 16) (omega arith), none) (end_written (at + length (take 16 (drop at text))))
  behind_written fuel at enough h ih (no l) =
      let sixteen : length (take 16 (drop at text)) ≡ 16 = omega (arith, length-take 16 (drop at text), length-drop at text) in
      rw (sixteen, drop-drop 16 at text) (ih (at + 16) (omega arith) (omega arith))

  all_written : (fuel : ℕ) → Written fuel
  all_written zero at enough h =
      rw (records_end zero text at (omega arith), drop_of_length-le text {i = at} (omega arith)) (end_written at)
  all_written (suc fuel) at enough h = go (dec_lt at (length text)) (all_written fuel)
    where
      go : Dec (at < length text) → Written fuel → HexText at (records_from (suc fuel) text at ++ end_line) (drop at text)
      go (no l) ih = rw (records_end (suc fuel) text at (omega arith), drop_of_length-le text {i = at} (omega arith)) (end_written at)
      go (yes l) ih =
          let d : Bytes = take 16 (drop at text) in
          let line : Bytes = line_of (record_bytes data_type at d) in
          let behind : Bytes = records_from fuel text (at + 16) ++ end_line in
          let short : length d ≤ 16 = omega (arith, length-take 16 (drop at text)) in
          let some : 1 ≤ length d = omega (arith, length-take 16 (drop at text), length-drop at text) in
          let fits : at + length d ≤ max_text = omega (arith, length-take 16 (drop at text), length-drop at text) in
          let whole : records_from (suc fuel) text at ++ end_line ≡ line ++ behind = ap (λ s. s ++ end_line) (records_here fuel text at l) ∙ append_assoc line
          (records_from fuel text (at + 16)) end_line in
          let written = line-written data_type at d behind (omega arith) (omega arith) (omega arith) (octets-take 16 (octets-drop at o)) in
          subst (HexText at (records_from (suc fuel) text at ++ end_line)) (take-append-drop 16 (drop at text))
          (subst (λ t. HexText at t (d ++ drop 16 (drop at text))) (sym whole)
          (Claims.more d some fits written (behind_written fuel at enough l ih (dec_lt (length text) (at + 16)))))

write-success : (text written : Bytes) (room : ℕ) → write_answer text room ≡ Spec.success written → (length text ≤ max_text) × (written ≡ hex_of text)
unfolding write_answer fitting
write-success text written room e = go (leb (length text) max_text) (leb (length (hex_of text)) room) refl e
  where
    go : (a b : Bool) → leb (length text) max_text ≡ a →
        (if a then (if b then Spec.success (hex_of text) else Spec.refusal 16 0) else Spec.refusal 2 0) ≡ Spec.success written →
        (length text ≤ max_text) × (written ≡ hex_of text)
    go true true p e = (leb-true (length text) max_text p, sym (ap (λ a. a.written) e))
    go true false p e = let z : ◌≡◌ {A = ℕ} 16 0 = ap (λ a. a.number) e in absurd (omega arith)
    go false b p e = let z : ◌≡◌ {A = ℕ} 2 0 = ap (λ a. a.number) e in absurd (omega arith)

pub round_trip : RoundTrip
unfolding hex_of
round_trip text written room room' o e fits =
    let w = write-success text written room e in
    subst (λ s. read_answer s room' ≡ Spec.success text) (sym w.1)
    (all_records (hex_of text) text room' (all_written text o w.0 (length text) 0 (omega arith) (omega arith)) fits)
