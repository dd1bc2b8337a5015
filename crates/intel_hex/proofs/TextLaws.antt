-- A text laid down as records, one after another.
use Rattle.std.proofs.Common.{◌≡◌, ℕ, zero, suc, ◌+◌, ◌-◌, ◌*◌, ◌<◌, ◌≤◌, [], ◌++◌, length, take, drop, sym, refl, ap, ◌∙◌, subst, append_assoc, append-nil}
use Rattle.std.proofs.Common.{arith, length-append, length-drop, drop_of_length-le, take_all}
use native.Mathlib.Decide.{dec_lt}
use Rattle.spec.specs.Bytes.{Bytes}
use Rattle.text.specs.Written.{Stored, LaidDown}
use Rattle.text.proofs.StoreLaws.{front}
use Rattle.text.proofs.LaidLaws.{Laid, laid_starts, laid_bound, laid_on, laid_ends}
use Rattle.intel_hex.specs.Record.{data_type, end_type, record_bytes, line_of, records_from, end_line, hex_of}
use Rattle.intel_hex.proofs.RecordLaws.{line_length_lem, records_here, records_end}

-- the bytes of the record at a place
pub cut : (text : Bytes) (at stop : ℕ) → stop ≤ length text → stop ≤ at + 16 → (stop < at + 16 → stop ≡ length text) →
    take (stop - at) (drop at text) ≡ take 16 (drop at text)
cut text at stop in_text short last = go (dec_lt stop (at + 16))
  where
    go : Dec (stop < at + 16) → take (stop - at) (drop at text) ≡ take 16 (drop at text)
    go (yes h) =
        let all = last h in
        take_all (stop - at) (drop at text) (omega (arith, length-drop at text)) ∙ sym (take_all 16 (drop at text) (omega (arith, length-drop at text)))
    go (no h) = let e : stop - at ≡ 16 = omega arith in ap (λ n. take n (drop at text)) e

-- nothing is left behind the end
pub none_left : (text : Bytes) → take (length text - length text) (drop (length text) text) ≡ []
none_left text = take_all (length text - length text) (drop (length text) text) (omega (
  arith,
  length-drop
      (length text) text,
)) ∙ drop_of_length-le text {i = length text} (omega arith)

pub record Printing (text before out : Bytes) (end at : ℕ) : Type 0 where
  pub fuel : ℕ
  pub enough : length text ≤ fuel + at
  pub laid : Laid 0 (hex_of text) (records_from fuel text at ++ end_line) before out end

pub printing_starts : (text out : Bytes) → Printing text out out 0 0
unfolding hex_of
printing_starts text out = record { fuel = length text; enough = omega arith; laid = laid_starts 0 (records_from (length text) text 0 ++ end_line) out }

module _ {text before out : Bytes} {end at : ℕ} (p : Printing text before out end at) where
  pub printing_room : at < length text → end + 2 * length (take 16 (drop at text)) + 12 ≤ length (hex_of text)
  printing_room h = go p.fuel p.enough p.laid
    where
      go : (fuel : ℕ) → length text ≤ fuel + at → Laid 0 (hex_of text) (records_from fuel text at ++ end_line) before out end →
          end + 2 * length (take 16 (drop at text)) + 12 ≤ length (hex_of text)
      go zero l q = absurd (omega arith)
      go (suc fuel) l q =
          let d = take 16 (drop at text) in
          let rest = records_from fuel text (at + 16) in
          omega (
            arith,
            laid_bound q,
            ap (λ s. length (s ++ end_line)) (records_here fuel text at h),
            length-append (line_of
                (record_bytes data_type at d) ++ rest) end_line,
            length-append (line_of (record_bytes data_type at d)) rest,
            line_length_lem data_type at d,
          )

  pub printing_on : {d out' : Bytes} {next : ℕ} → at < length text → d ≡ take 16 (drop at text) →
      Stored (line_of (record_bytes data_type at d)) end out out' next →
      Printing text before out' next (at + 16)
  printing_on {d} {out'} {next} h e r = go p.fuel p.enough p.laid
    where
      go : (fuel : ℕ) → length text ≤ fuel + at → Laid 0 (hex_of text) (records_from fuel text at ++ end_line) before out end →
          Printing text before out' next (at + 16)
      go zero l q = absurd (omega arith)
      go (suc fuel) l q =
          let line = line_of (record_bytes data_type at (take 16 (drop at text))) in
          record {
            fuel = fuel;
            enough = omega arith;
            laid = laid_on q line (ap (λ s. s ++ end_line) (records_here fuel text at h) ∙ append_assoc line (records_from fuel text (at + 16)) end_line)
                (rw e at r);
          }

  module _ (h : length text ≤ at) where
    last_laid : Laid 0 (hex_of text) end_line before out end
    last_laid = subst (λ s. Laid 0 (hex_of text) (s ++ end_line) before out end) (records_end p.fuel text at h) p.laid

    pub printing_last_room : end + 12 ≤ length (hex_of text)
    unfolding end_line
    printing_last_room = omega (arith, laid_bound last_laid, line_length_lem end_type 0 [])

    pub printing_last : {d out' : Bytes} {next : ℕ} → d ≡ [] → Stored (line_of (record_bytes end_type 0 d)) end out out' next →
        LaidDown (hex_of text) before out' next
    unfolding end_line
    printing_last e r = front (laid_ends (laid_on last_laid (line_of (record_bytes end_type 0 [])) {left = []} (sym (append-nil _)) (rw e at r)) refl)

-- all records of data are laid down, wherever the loop ended
pub record Printed (text before out : Bytes) (end : ℕ) : Type 0 where
  pub at : ℕ
  pub printing : Printing text before out end at
  pub behind : length text ≤ at

pub printed : {text before out out' : Bytes} {end end' at : ℕ} → out' ≡ out → end' ≡ end → Printing text before out end at → length text ≤ at →
    Printed text before out' end'
printed {at = at} e f p h = record { at = at; printing = rw (e, f) p; behind = h }
