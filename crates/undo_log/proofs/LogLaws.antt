-- Laws of the undo's log: what it is with no operation noted, what it says of the undo's value, and where its text stands.
use Prim.Native.Nat.{ℕ, zero, suc, ◌+◌, ◌-◌, ◌≤◌, ◌<◌}
use native.Mathlib.Omega.{arith}
use mathlib.Core.Path.{◌≡◌, refl, sym, ap, ◌∙◌}
use mathlib.Core.Bool.{true, false}
use mathlib.Core.List.{List, [], ◌∷◌, ◌++◌}
use lib.Dec.{leb}
use lib.ListN.{length, take, drop, set, replicate, length-take, length-drop, length-set}
use Rattle.tape.specs.Columns.{filled}
use Rattle.tape.proofs.Columns.{filled-first}
use lib.Seq.{drop-drop, take_all}
use borrow.Author.Tests.{le-leb, lt-leb}
use Rattle.spec.specs.Bytes.{Bytes, ascii}
use Rattle.spec.specs.Forest.{count, size}
use Rattle.spec.specs.Value.{levels, depths, depth, nodes, is_container, tag}
use Rattle.spec.specs.Limits.{max_bytes, max_nodes, max_operations}
use Rattle.spec.specs.Refusal.{done, input_too_long, too_deep, too_many_nodes, too_many_operations}
use Rattle.spec.specs.Write.{comma}
use Rattle.spec.specs.Operation.{Operation}
use Rattle.text.specs.Written.{written}
use Rattle.writer.specs.Writing.{Placed}
use Rattle.writer.proofs.PlacedLaws.{lent_part, back, placed_as, placed_then, placed_whole}
use Rattle.reversal.specs.UndoValue.{operation_values, undo_value}
use Rattle.reversal.specs.UndoText.{operation_texts, undo_text}
use Rattle.reversal.proofs.UndoTextLaws.{undo_text_lem}
use Rattle.undo_log.specs.declared.log.Log.{Log}
use Rattle.undo_log.specs.Log.{tail_text, Noted, undo_number}

-- ---- no operation
last_set : (xs : Bytes) (start a : ℕ) → start + 1 ≡ length xs → drop start (set xs start a) ≡ a ∷ []
last_set [] start a e = absurd (omega arith)
last_set (x ∷ []) zero a e = refl
last_set (x ∷ y ∷ xs) zero a e = absurd (omega arith)
last_set (x ∷ xs) (suc start) a e = last_set xs start a (omega arith)

-- the closing bracket in the last byte is the text of no operation
pub noted_none : (work : Bytes) (last : ℕ) → last + 1 ≡ length work → length work ≡ max_bytes
    → Noted (record { count = 0; shallow = true; nodes = 1; bytes = 1 }) (set work last 93) []
unfolding undo_value operation_values depth depths levels is_container tag nodes size tail_text operation_texts ascii
noted_none work last e long =
    record {
      long = length-set work last 93 ∙ long;
      count_is = refl;
      shallow_is = refl;
      nodes_is = refl;
      bytes_is = refl;
      text_is = λ start f. let same : start ≡ last = omega arith in rw same (last_set work last 93 e);
    }

-- ---- what stands behind the opening bracket
unfoldable pub behind_bracket : List Operation → Bytes
behind_bracket os = operation_texts true os ++ ascii "]"

text_length : (os : List Operation) → length (undo_text os) ≡ suc (length (behind_bracket os))
unfolding undo_text behind_bracket ascii
text_length os = refl

tail_more : (o : Operation) (os : List Operation) → tail_text (o ∷ os) ≡ 44 ∷ behind_bracket (o ∷ os)
unfolding tail_text behind_bracket operation_texts comma ascii
tail_more o os = refl

tail_none : tail_text [] ≡ behind_bracket []
unfolding tail_text behind_bracket operation_texts
tail_none = refl

none_length : length (behind_bracket []) ≡ 1
unfolding behind_bracket operation_texts ascii
none_length = refl

-- the text of the undo is within its limit where the text in the buffer is
fits_too : (os : List Operation) → leb (length (undo_text os)) max_bytes ≡ leb (length (tail_text os)) max_bytes
fits_too [] = rw (text_length [], tail_none, none_length)
fits_too (o ∷ os) = rw (text_length (o ∷ os), tail_more o os)

count-operations : (os : List Operation) → count (operation_values os) ≡ length os
unfolding operation_values count
count-operations [] = refl
count-operations (o ∷ os) = ap suc (count-operations os)

-- ---- the verdict: each test of the log is that of the undo's value
module _ {log : Log} {work : Bytes} {os : List Operation} (n : Noted log work os) where
  many : (max_operations < log.count) → leb (count (undo_value os).kids) max_operations ≡ false
  unfolding undo_value
  many h = rw (count-operations os) (lt-leb (length os) max_operations (omega (arith, n.count_is)))

  few : (log.count ≤ max_operations) → leb (count (undo_value os).kids) max_operations ≡ true
  unfolding undo_value
  few h = rw (count-operations os) (le-leb (length os) max_operations (omega (arith, n.count_is)))

  pub verdict_many : max_operations < log.count → too_many_operations ≡ undo_number (undo_value os)
  unfolding undo_number
  verdict_many h = rw (many h)

  module _ (h : log.count ≤ max_operations) where
    pub verdict-deep : log.shallow ≡ false → too_deep ≡ undo_number (undo_value os)
    unfolding undo_number
    verdict-deep e = rw (few h, ← n.shallow_is, e)

    module _ (e : log.shallow ≡ true) where
      pub verdict-nodes : max_nodes < log.nodes → too_many_nodes ≡ undo_number (undo_value os)
      unfolding undo_number
      verdict-nodes k = rw (few h, ← n.shallow_is, e, lt-leb (nodes (undo_value os)) max_nodes (omega (arith, n.nodes_is)))

      module _ (k : log.nodes ≤ max_nodes) where
        nodes_few : leb (nodes (undo_value os)) max_nodes ≡ true
        nodes_few = le-leb (nodes (undo_value os)) max_nodes (omega (arith, n.nodes_is))

        pub verdict_long : max_bytes < log.bytes → input_too_long ≡ undo_number (undo_value os)
        unfolding undo_number
        verdict_long l =
            rw (few h, ← n.shallow_is, e, nodes_few, undo_text_lem os, fits_too os, lt-leb (length (tail_text os)) max_bytes (omega (arith, n.bytes_is)))

        pub verdict-done : log.bytes ≤ max_bytes → done ≡ undo_number (undo_value os)
        unfolding undo_number
        verdict-done l =
            rw (few h, ← n.shallow_is, e, nodes_few, undo_text_lem os, fits_too os, le-leb (length (tail_text os)) max_bytes (omega (arith, n.bytes_is)))

-- ---- the text's length
pub text_some : (os : List Operation) → 0 < length (undo_text os)
text_some os = omega (arith, text_length os)

module _ {log : Log} {work : Bytes} where
  pub length_none : (os : List Operation) → Noted log work os → log.count ≡ 0 → 2 ≡ length (undo_text os)
  length_none [] n e = rw (text_length [], none_length)
  length_none (o ∷ os) n e = absurd (omega (arith, n.count_is))

  pub length_some : (os : List Operation) → Noted log work os → (log.count ≡ 0 → ⊥) → length (undo_text os) ≤ max_bytes → log.bytes ≡ length (undo_text os)
  length_some [] n e h = absurd (e n.count_is)
  length_some (o ∷ os) n e h = omega (arith, n.bytes_is, ap length (tail_more o os), text_length (o ∷ os))

  -- what stands behind the opening bracket ends the buffer
  behind_held : (os : List Operation) → Noted log work os → (start : ℕ) → start + length (behind_bracket os) ≡ max_bytes → length (undo_text os) ≤ max_bytes
      → drop start work ≡ behind_bracket os
  behind_held [] n start e h = n.text_is start (rw tail_none e) ∙ tail_none
  behind_held (o ∷ os) n zero e h = absurd (omega (arith, text_length (o ∷ os)))
  behind_held (o ∷ os) n (suc start) e h =
      let more = tail_more o os in
      let held = n.text_is start (omega (arith, ap length more)) ∙ more in
      let next : suc start ≡ start + 1 = omega arith in
      ap (λ k. drop k work) next ∙ sym (drop-drop 1 start work) ∙ ap (drop 1) held

text_bracket : (os : List Operation) → undo_text os ≡ (91 ∷ []) ++ behind_bracket os
unfolding undo_text behind_bracket ascii
text_bracket os = refl

written_plain : (s : Bytes) → written 1 s ≡ s
unfolding written
written_plain s = refl

-- the opening bracket laid down, and behind it what ends the buffer
pub copied_out : {log : Log} {work out between part : Bytes} {put n : ℕ} (os : List Operation) (start rest : ℕ)
    → Noted log work os → suc rest ≡ length (undo_text os) → start ≡ length work - rest → length (undo_text os) ≤ max_bytes
    → length (undo_text os) ≤ length out → Placed (91 ∷ []) 0 out between put
    → Placed (written 1 (take (length work - start) (drop start work))) 0 (lent_part between put) part n
    → back between put part ≡ undo_text os ++ drop (length (undo_text os)) out
copied_out {work = work} {out} os start rest noted e f short room p q =
    let long = text_length os in
    let all = take_all (length work - start) (drop start work) (rw length-drop (omega arith)) in
    let held = behind_held os noted start (omega (arith, noted.long)) short in
    let placed = placed_as (text_bracket os ∙ ap (λ b. (91 ∷ []) ++ b) (sym (written_plain _ ∙ all ∙ held))) (placed_then p q) in
    (placed_whole placed room).1

-- ---- the front of a buffer made zero
pub filled_front : (n : ℕ) (work : Bytes) {front : Bytes} → n ≤ length work → front ≡ replicate (length (take n work)) 0
    → front ++ drop n work ≡ filled 0 work 0 n
filled_front n work {front} h e =
    let long : length (take n work) ≡ n = length-take n work ∙ omega arith in
    ap (λ f. f ++ drop n work) (e ∙ ap (λ k. replicate k 0) long) ∙ sym (filled-first 0 work n h)
