-- One more operation noted: the counts go on, and its text stands before the others'.
use Prim.Native.Nat.{ℕ, suc, ◌+◌, ◌-◌, ◌≤◌, min, max}
use native.Mathlib.Omega.{arith}
use mathlib.Core.Path.{◌≡◌, sym, ap, ap₂, ◌∙◌}
use mathlib.Core.Bool.{Bool, true, false}
use mathlib.Core.List.{List, [], ◌∷◌, ◌++◌, append_assoc, append-nil}
use lib.Dec.{leb}
use lib.ListN.{length, take, drop, length-append, length-take, length-drop, drop_of_length-le}
use lib.Seq.{drop-drop, drop_at, take_all}
use borrow.Author.Tests.{leb-true, leb-false, le-leb, lt-leb}
use Rattle.spec.specs.Limits.{max_bytes, max_depth, max_nodes, max_operations}
use Rattle.spec.specs.Bytes.{Bytes, ascii}
use Rattle.spec.specs.Forest.{size}
use Rattle.spec.specs.Value.{levels, depths, depth, nodes, is_container, tag}
use Rattle.spec.specs.Write.{comma}
use Rattle.spec.specs.Operation.{Operation}
use Rattle.tape.specs.Rows.{WithinIs}
use Rattle.tape.specs.Lent.{Table}
use Rattle.writer.specs.Writing.{Placed}
use Rattle.writer.proofs.PlacedLaws.{lent_part, back, placed_whole}
use Rattle.reversal.specs.UndoValue.{value_member, operation_value, operation_values, undo_value}
use Rattle.reversal.specs.UndoText.{operation_text, operation_texts}
use Rattle.reversal.proofs.IndexToken.{by_test}
use Rattle.undo_log.specs.declared.log.Log.{Log}
use Rattle.undo_log.specs.declared.note.Action.{Action}
use Rattle.undo_log.specs.declared.note.Target.{Target}
use Rattle.undo_log.specs.Log.{tail_text, Noted, Undoes}
use Rattle.undo_log.specs.Pieces.{note_bytes, capped, LayDownIs}
use Rattle.undo_log.proofs.OperationLaws.{Valued, held_within, member-depth, undoes_carries, note_text}

-- ---- the undo's value with one more operation
pub depth_more : (o : Operation) (os : List Operation) → depth (undo_value (o ∷ os)) ≡ max (suc (suc (depths (value_member o)))) (depth (undo_value os))
unfolding undo_value operation_values operation_value depth depths levels is_container tag
depth_more o os = omega arith

pub nodes_more : (o : Operation) (os : List Operation) → nodes (undo_value (o ∷ os)) ≡ nodes (undo_value os) + (3 + size (value_member o))
unfolding undo_value operation_values operation_value nodes size
nodes_more o os = omega arith

-- its text
pub tail_text_lem : (o : Operation) (os : List Operation) → tail_text (o ∷ os) ≡ (44 ∷ operation_text o) ++ tail_text os
unfolding tail_text operation_texts comma ascii
tail_text_lem o os = ap (◌∷◌ 44) (append_assoc (operation_text o) (operation_texts false os) (93 ∷ []))

-- ---- levels
module _ (shallow : Bool) (d depth : ℕ) (e : shallow ≡ leb d max_depth) where
  pub deep_already : shallow ≡ false → false ≡ leb (max (suc (suc depth)) d) max_depth
  deep_already f =
      let h = leb-false d max_depth (sym e ∙ f) in
      sym (lt-leb (max (suc (suc depth)) d) max_depth (omega arith))

  module _ (f : shallow ≡ true) where
    low : d ≤ max_depth
    low = leb-true d max_depth (sym e ∙ f)

    pub shallow_none : depth ≡ 0 → true ≡ leb (max (suc (suc depth)) d) max_depth
    shallow_none z = sym (le-leb (max (suc (suc depth)) d) max_depth (omega (arith, low)))

    shallow-value : {r : Bool} → r ≡ leb depth 30 → r ≡ leb (max (suc (suc depth)) d) max_depth
    shallow-value g =
        g ∙ by_test (leb depth 30)
        (λ q. let h = leb-true depth 30 q in q ∙ sym (le-leb (max (suc (suc depth)) d) max_depth (omega (arith, low))))
        λ q. let h = leb-false depth 30 q in q ∙ sym (lt-leb (max (suc (suc depth)) d) max_depth (omega arith))

    -- a value that the table holds in a row
    pub shallow_held : {w : Table} {row : ℕ} {o : Operation} {r : Bool} → Valued w row o → depth ≡ depths (value_member o) → WithinIs w.nodes row 30 r
        → r ≡ leb (max (suc (suc depth)) d) max_depth
    shallow_held {o = o} v z is = shallow-value (held_within v.held 30 is ∙ ap (λ m. leb m 30) (sym (z ∙ member-depth o v.uses)))

-- ---- a text laid down in the part of the buffer from a place on
pub laid_from : (before : Bytes) (start : ℕ) {text part : Bytes} {next : ℕ} → Placed text 0 (lent_part before start) part next
    → start + length text ≤ length before → drop start (back before start part) ≡ text ++ drop (start + length text) before
laid_from before start {text} {part} p room =
    let long : length (drop start before) ≡ length before - start = length-drop start before in
    let whole : lent_part before start ≡ drop start before = take_all (length before - start) (drop start before) (omega arith) in
    let rest : drop (length before - start) (drop start before) ≡ [] = drop_of_length-le (drop start before) {i = length before - start} (omega arith) in
    let first : length (take start before) ≡ start = length-take start before ∙ (omega arith) in
    let there = (placed_whole p (omega (arith, ap length whole))).1 in
    drop_at (take start before) (part ++ drop (length before - start) (drop start before)) start first
    ∙ ap (λ l. part ++ l) rest ∙ append-nil part ∙ there
    ∙ ap (λ l. text ++ l) (ap (drop (length text)) whole ∙ drop-drop (length text) start before)

-- this many bytes before the end of the buffer
pub lay_down_is : (before : Bytes) (bytes place : ℕ) {text part : Bytes} {next : ℕ} → place ≡ length before - bytes
    → Placed text 0 (lent_part before place) part next → (start : ℕ) → start + bytes ≡ length before → length text ≤ bytes
    → drop start (back before place part) ≡ text ++ drop (start + length text) before
lay_down_is before bytes place {text} {part} is p start e h =
    let same : place ≡ start = omega arith in
    ap (λ k. drop k (back before place part)) (sym same) ∙ laid_from before place p (omega arith) ∙ ap (λ k. text ++ drop (k + length text) before) same

-- ---- the log with one more operation
pub noted_more : {w : Table} {log : Log} {action : Action} {target : Target} {before after : Bytes} {os : List Operation} {o : Operation} (r : Log)
    → Noted log before os → (u : Undoes w target action o) → length after ≡ length before → r.count ≡ min (log.count + 1) (suc max_operations)
    → r.shallow ≡ leb (max (suc (suc (depths (value_member o)))) (depth (undo_value os))) max_depth
    → r.nodes ≡ min (nodes (undo_value os) + (3 + size (value_member o))) (suc max_nodes)
    → r.bytes ≡ capped (length (note_bytes w.texts action target o) + length (tail_text os))
    → LayDownIs w action target r.bytes before after → Noted r after (o ∷ os)
noted_more {w} {log} {action} {target} {before} {after} {os} {o} r n u long count shallow many bytes laid =
    let text : note_bytes w.texts action target o ≡ 44 ∷ operation_text o = note_text u in
    let tail = tail_text_lem o os in
    let total : length (tail_text (o ∷ os)) ≡ length (note_bytes w.texts action target o) + length (tail_text os) =
    ap length tail ∙ length-append (44 ∷ operation_text o) (tail_text os) ∙ ap (λ b. length b + length (tail_text os)) (sym text) in
    record {
      long = long ∙ n.long;
      count_is = omega (arith, n.count_is);
      shallow_is = shallow ∙ ap (λ d. leb d max_depth) (sym (depth_more o os));
      nodes_is = many ∙ ap (λ k. min k (suc max_nodes)) (sym (nodes_more o os));
      bytes_is = bytes ∙ ap (λ k. min k (suc max_bytes)) (sym total);
      text_is = λ start e.
          let all : r.bytes ≡ length (tail_text (o ∷ os)) = omega arith in
          let size : length (note_bytes w.texts action target o) ≤ r.bytes = omega arith in
          let held = laid o (undoes_carries u) start (omega (arith, n.long)) size in
          let behind = n.text_is (start + length (note_bytes w.texts action target o)) (omega arith) in
          held ∙ ap₂ (λ a b. a ++ b) text behind ∙ sym tail;
    }
