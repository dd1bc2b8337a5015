-- Laws of the line: its pieces, its length, and the line as it stands behind what the call has written.
use Prim.Native.Nat.{ℕ, ◌-◌, ◌≤◌, ◌<◌, min}
use native.Mathlib.Omega.{arith}
use native.Mathlib.Decide.{ℕ_discrete}
use mathlib.Core.Path.{◌≡◌, sym, ap, ◌∙◌, subst}
use mathlib.Core.List.{List, [], ◌++◌, append_assoc}
use lib.ListN.{length, take, drop, length-append, take-append-drop}
use lib.Seq.{length-sets, length-take-le, drop-append-le, take-append_seam}
use borrow.Author.Tests.{eq-eqb, ne_eqb}
use Rattle.spec.specs.Bytes.{Bytes, ascii}
use Rattle.spec.specs.Limits.{work_nodes, work_entries}
use Rattle.spec.specs.Answer as Spec
use Rattle.spec.specs.Answer.{answer, work_suffices}
use Rattle.claims.proofs.OperationsTheorem.{operations}
use Rattle.tape.specs.Fields.{Row, no_node}
use Rattle.tape.specs.Lent.{Texts}
use Rattle.text.specs.Written.{written, LaidDown}
use Rattle.text.proofs.StoreLaws.{sets_out, laid_down}
use Rattle.writer.specs.Writing.{Placed}
use Rattle.writer.proofs.PlacedLaws.{placed_as, placed_on, placed_whole}
use Rattle.json_patch.specs.Call.{Memory, Answered, ApplyIs, lent_of, wiped}
use Rattle.json_patch.specs.declared.answer.Answer.{Answer}
use Rattle.json_patch.proofs.AnswerLaws.{answered_as}
use Rattle.report.specs.Line.{in_decimal, newline, last_field, refusal_line, line_of}
use Rattle.report.specs.Report.{refusal_of, ending, lent_to, line_limit, RunIs}
use Rattle.report.proofs.DecimalLaws.{in_decimal_short}

-- a text of form 1 is laid down as it stands
pub laid_plain : {s before after : Bytes} {form count n : ℕ} → form ≡ 1 → LaidDown (written form s) before after count → n ≡ min count (length after)
    → Placed s 0 before after n
unfolding written
laid_plain {s} {before} {after} {count = count} plain laid e =
    let d : LaidDown (written 1 s) before after count = subst (λ f. LaidDown (written f s) before after count) plain laid in
    record { next_is = omega (arith, e, d.count_is, ap length d.after_is, length-sets before 0 s); after_is = d.after_is }

-- past the end nothing is laid down
pub placed_past : (bytes before : Bytes) (at : ℕ) → length before < at → Placed bytes at before before (length before)
placed_past bytes before at h = record { next_is = omega arith; after_is = sym (sets_out before at bytes (omega arith)) }

-- ---- the refusal's line
pub last_pieces : (pointer : ℕ) → last_field pointer ≡ (ascii " pointer " ++ in_decimal pointer) ++ newline
unfolding last_field
last_pieces pointer = simp append_assoc

module _ (number text op place pointer : ℕ) where
  pub refusal_pieces : refusal_line number text op place pointer ≡
      (((ascii "refused " ++ in_decimal number) ++ (ascii " text " ++ in_decimal text)) ++
      ((ascii " op " ++ in_decimal op) ++ (ascii " place " ++ in_decimal place)))
      ++ last_field pointer
  unfolding refusal_line
  refusal_pieces = simp append_assoc

-- the fields of an answer fit their types, so that they have at most 3, 3, 20, 20 and 3 digits
pub record Fits (r : Answer) : Type 0 where
  pub number : r.number < 256
  pub text : r.text < 256
  pub op : r.op < 0x1_0000_0000_0000_0000
  pub place : r.place < 0x1_0000_0000_0000_0000
  pub pointer : r.pointer < 256

refusal_short : {r : Answer} → Fits r → length (refusal_of r) ≤ line_limit
unfolding refusal_line last_field ascii
refusal_short {r} fit =
    let a = in_decimal_short 2 r.number (omega arith) in
    let b = in_decimal_short 2 r.text (omega arith) in
    let c = in_decimal_short 19 r.op (omega arith) in
    let d = in_decimal_short 19 r.place (omega arith) in
    let e = in_decimal_short 2 r.pointer (omega arith) in
    simp length-append (omega arith)

-- ---- what ends the line
module _ (a : Answer) where
  pub ending-done : a.number ≡ 0 → ending a ≡ newline
  unfolding ending
  ending-done e = rw (eq-eqb a.number 0 e)

  pub ending_refused : (a.number ≡ 0 → ⊥) → ending a ≡ refusal_of a
  unfolding ending
  ending_refused h = rw (ne_eqb a.number 0 h)

-- ---- the line behind what the call has written in the part of it that was lent
module _ {A : Spec.Answer} {r : Answer} {part : Bytes} (line : Bytes) (room : ℕ) (h : Answered A (take room line) part r)
    (same : length part ≡ length (take room line)) (fits : room ≤ length line) where
  written-inside : length A.written ≤ room
  written-inside =
      omega (arith, ap length h.output, length-append A.written (drop (length A.written) (take room line)), length-take-le room line fits)

  written-placed : Placed A.written 0 line (part ++ drop room line) r.length
  written-placed =
      let inside = written-inside in
      let lent : length A.written ≤ length (take room line) = omega (arith, length-take-le room line fits) in
      record {
        next_is = omega (arith, h.written);
        after_is =
            ap (λ l. l ++ drop room line) h.output
            ∙ append_assoc A.written (drop (length A.written) (take room line)) (drop room line)
            ∙ ap (λ l. A.written ++ l) (sym (drop-append-le (length A.written) (take room line) (drop room line) lent) ∙ ap (drop (length A.written))
            (take-append-drop room line))
            ∙ sym (laid_down A.written line (omega arith));
      }

-- the line is the text and what ends it, since there is no text beside a refusal
module _ {A : Spec.Answer} {r : Answer} {before after : Bytes} (h : Answered A before after r) (silent : (A.number ≡ 0 → ⊥) → A.written ≡ []) where
  line-done : A.number ≡ 0 → line_of A ≡ A.written ++ newline
  unfolding line_of
  line-done e = rw (eq-eqb A.number 0 e)

  line_refused : (A.number ≡ 0 → ⊥) → line_of A ≡ refusal_of r
  unfolding line_of
  line_refused e = rw (ne_eqb A.number 0 e, h.number, h.text, h.op, h.place, h.pointer)

  line_is : line_of A ≡ A.written ++ ending r
  line_is = go (ℕ_discrete A.number 0)
    where
      go : Dec (A.number ≡ 0) → line_of A ≡ A.written ++ ending r
      go (yes e) = line-done e ∙ ap (λ l. A.written ++ l) (sym (ending-done r (h.number ∙ e)))
      go (no e) = line_refused e ∙ sym (ending_refused r (λ z. e (sym h.number ∙ z))) ∙ ap (λ w. w ++ ending r) (sym (silent e))

  -- and there is room for it
  line_short : Fits r → (n : ℕ) → line_limit ≤ n → length A.written ≤ n - 1 → length (line_of A) ≤ n
  line_short fit n long inside = go (ℕ_discrete A.number 0)
    where
      go : Dec (A.number ≡ 0) → length (line_of A) ≤ n
      go (yes e) = rw (line-done e, length-append) (omega arith)
      go (no e) = rw (line_refused e) (omega (arith, refusal_short fit))

placed_front : {bytes before after : Bytes} {n : ℕ} → Placed bytes 0 before after n → length bytes ≤ length before → take n after ≡ bytes
placed_front {bytes} {before} p h = rw ((placed_whole p h).0, (placed_whole p h).1, take-append_seam bytes (drop (length bytes) before))

module _ {T : Texts} {part line' : Bytes} {ns ns' : List Row} {xs xs' : List ℕ} {r : Answer} {n : ℕ} (line : Bytes) (room : ℕ) where
  pub run_is : room ≡ length line - 1
      → ApplyIs T (record { output = take room line; nodes = ns; index = xs }) (record { output = part; nodes = ns'; index = xs' }) r
      → length part ≡ length (take room line) → Placed (ending r) r.length (part ++ drop room line) line' n → Fits r
      → RunIs T (record { output = line; nodes = ns; index = xs }) (record { output = line'; nodes = ns'; index = xs' }) n
  run_is e is same p fit =
      let fits : room ≤ length line = omega arith in
      let m : Memory = record { output = line; nodes = ns; index = xs } in
      let lent : lent_of (record { output = take room line; nodes = ns; index = xs }) ≡ lent_to m =
      ap (λ k. record { output = k; nodes = length ns; index = length xs }) (length-take-le room line fits ∙ e) in
      let h : Answered (answer T.document T.patch (lent_to m)) (take room line) part r =
      answered_as (ap (answer T.document T.patch) (sym lent)) is.answered in
      let silent = operations.nothing_written T.document T.patch (lent_to m) in
      let whole = placed_as (line_is h silent) (placed_on (written-placed line room h same fits) p) in
      record {
        placed = whole;
        whole = λ long. placed_front whole (line_short h silent fit (length line) long (omega (arith, written-inside line room h same fits)));
        nodes-after = is.nodes-after ∙ ap (λ l. wiped (work_suffices l) work_nodes no_node ns) lent;
        index_after = is.index_after ∙ ap (λ l. wiped (work_suffices l) work_entries 0 xs) lent;
      }
