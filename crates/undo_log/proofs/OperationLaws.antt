-- Laws of the pieces of an operation's text, and of the value that it carries.
use mathlib.Core.Logic.{◌⊎◌, inl, inr}
use Prim.Native.Nat.{ℕ, suc, ◌+◌, ◌≤◌, min}
use native.Mathlib.Omega.{arith}
use mathlib.Core.Path.{◌≡◌, refl, sym, ap, subst, ◌∙◌}
use mathlib.Core.Bool.{Bool, true, false}
use mathlib.Core.List.{[], ◌∷◌, ◌++◌, append_assoc}
use lib.Dec.{leb}
use lib.ListN.{length, get_or, length-append}
use Rattle.spec.specs.Limits.{max_depth}
use Rattle.spec.specs.Bytes.{Bytes, ascii}
use Rattle.spec.specs.Forest.{size}
use Rattle.spec.specs.Value as Value
use Rattle.spec.specs.Value.{levels, depths, depth, nodes}
use Rattle.spec.specs.Write.{write_characters, write_string, write}
use Rattle.spec.specs.Operation.{Operation}
use Rattle.spec.specs.Patch.{uses_value}
use Rattle.text.specs.Decode.{text_of, text_from, decode}
use Rattle.text.specs.Written.{written}
use Rattle.tape.specs.declared.fields.Spelling.{Spelling}
use Rattle.tape.specs.Fields.{span_of}
use Rattle.tape.specs.Rows.{WithinIs}
use Rattle.tape.specs.Lent.{Texts, Table}
use Rattle.tape.proofs.Cells.{formed_fit, formed_kids}
use Rattle.tape.proofs.Held.{held_node}
use Rattle.tape.proofs.Rows.{span_here}
use Rattle.table.specs.Meaning.{part_of}
use Rattle.table.proofs.MeaningLaws.{depth-meant, nodes-meant}
use Rattle.writer.specs.Writing.{Placed, Writable, MeasureIs, WriteIs, length_limit}
use Rattle.writer.proofs.PlacedLaws.{lent_part, back, placed_as, placed_then}
use Rattle.writer.proofs.CallerLaws.{writable}
use Rattle.reversal.specs.Undo.{index_token}
use Rattle.reversal.specs.UndoValue.{op_name, value_member}
use Rattle.reversal.specs.UndoText.{value_text, operation_text}
use Rattle.undo_log.specs.declared.note.Action.{Action}
use Rattle.undo_log.specs.declared.note.Action.TheVariants.{Add, Remove, Replace}
use Rattle.undo_log.specs.declared.note.Target.{Target}
use Rattle.undo_log.specs.declared.note.Target.TheVariants.{At, Appended}
use Rattle.undo_log.specs.Log.{target_text, ValueHeld, Undoes, undo_add, undo_remove, undo_replace}
use Rattle.undo_log.specs.Pieces.{Carries, head_bytes, path_bytes, appended_bytes, value_bytes, end_bytes, note_bytes, PutValueIs, PutEndingIs}
use Rattle.undo_log.proofs.DigitLaws.{index_written, written-append}

-- ---- what an operation carries, by its action
pub record Valued (w : Table) (row : ℕ) (o : Operation) : Type 0 where
  pub uses : uses_value o.kind ≡ true
  pub held : ValueHeld w row o.value

module _ (w : Table) (action : Action) (o : Operation) (k : Carries w action o) where
  pub valued : {row : ℕ} → (action ≡ Add row) ⊎ (action ≡ Replace row) → Valued w row o
  unfolding Carries uses_value
  valued (inl e) = let both = subst (λ a. Carries w a o) e k in record { uses = ap uses_value both.0; held = both.1 }
  valued (inr e) = let both = subst (λ a. Carries w a o) e k in record { uses = ap uses_value both.0; held = both.1 }

  pub bare : action ≡ Remove → uses_value o.kind ≡ false
  unfolding Carries uses_value
  bare e = ap uses_value (subst (λ a. Carries w a o) e k)

pub undoes_carries : {w : Table} {target : Target} {action : Action} {o : Operation} → Undoes w target action o → Carries w action o
unfolding Carries
undoes_carries (undo_add path e held) = (refl, held)
undoes_carries (undo_remove path e) = refl
undoes_carries (undo_replace path e held) = (refl, held)

-- ---- the value in the table
module _ {w : Table} {row : ℕ} {v : Value.Value} (h : ValueHeld w row v) where
  held_writable : Writable w row max_depth h.c h.kids
  held_writable = writable h.held (subst (λ u. depth u ≤ max_depth) (sym h.means) h.shallow)

  pub held_measured : {n : ℕ} → MeasureIs w row max_depth n → n ≡ min (length (write v)) length_limit
  held_measured is = is.held h.c h.kids held_writable ∙ ap (λ u. min (length (write u)) length_limit) h.means

  pub held_written : {before after : Bytes} {n : ℕ} → WriteIs w row max_depth before after n → Placed (write v) 0 before after n
  held_written is = placed_as (ap write (sym h.means)) (is.held h.c h.kids held_writable)

  pub held_within : (most : ℕ) {r : Bool} → WithinIs w.nodes row most r → r ≡ leb (depth v) most
  held_within most is =
      let node = h.held.held in
      let deep = depth-meant w.texts h.c h.kids (formed_fit node.formed).kind (formed_kids node.formed) in
      is h.c h.kids (held_node node) ∙ ap (λ d. leb d most) (sym deep ∙ ap depth h.means)

  pub held_span : nodes v ≡ suc (span_of (get_or w.nodes row []))
  held_span =
      ap nodes (sym h.means) ∙ nodes-meant w.texts h.c h.kids ∙ ap suc (sym (span_here (held_node h.held.held)))

-- ---- what stands behind the path
pub ending-valued : {w : Table} {row : ℕ} {o : Operation} → Valued w row o → end_bytes o ≡ value_bytes o.value
unfolding end_bytes value_text value_bytes
ending-valued {o = o} k = rw k.uses (append_assoc (ascii ",\"value\":") (write o.value) (ascii "}"))

pub ending-bare : (o : Operation) → uses_value o.kind ≡ false → end_bytes o ≡ 125 ∷ []
unfolding end_bytes value_text ascii
ending-bare o e = rw e

pub value-length : (v : Value.Value) → length (value_bytes v) ≡ length (write v) + 10
unfolding value_bytes ascii
value-length v = simp length-append (omega arith)

-- a value's text laid down behind its name, and the brace behind it
pub put-value-is : {w : Table} {row : ℕ} {before first second third : Bytes} {i n m : ℕ} → Placed (written 1 (ascii ",\"value\":")) 0 before first i
    → WriteIs w row max_depth (lent_part first i) second n → Placed (125 ∷ []) 0 (lent_part (back first i second) (i + n)) third m
    → PutValueIs w row before (back (back first i second) (i + n) third) (i + n + m)
unfolding written value_bytes ascii
put-value-is p q s =
    record {
      some = record { bytes = _; placed = placed_then (placed_then p q.some.placed) s };
      held = λ v h.
          placed_as (sym (append_assoc (ascii ",\"value\":") (write v) (125 ∷ []))) (placed_then (placed_then p (held_written h q)) s);
    }

module _ {w : Table} {action : Action} {before after : Bytes} {n : ℕ} where
  pub put-ending_value : {row : ℕ} → (action ≡ Add row) ⊎ (action ≡ Replace row) → PutValueIs w row before after n → PutEndingIs w action before after n
  put-ending_value e p =
      record { some = p.some; held = λ o k. let v = valued w action o k e in placed_as (ending-valued v) (p.held o.value v.held) }

  pub put-ending_remove : action ≡ Remove → Placed (125 ∷ []) 0 before after n → PutEndingIs w action before after n
  put-ending_remove e p =
      record { some = record { bytes = _; placed = p }; held = λ o k. placed_as (ending-bare o (bare w action o k e)) p }

-- ---- the path
module _ (T : Texts) (target : Target) where
  pub target_at : {path : Spelling} {s : Bytes} → target ≡ At path → s ≡ part_of T path → write_characters (target_text T target) ≡ written 2 s
  unfolding target_text written text_of text_from decode
  target_at e f = rw (e, f)

  pub target_appended : {path : Spelling} {index : ℕ} {s : Bytes} → target ≡ Appended path index → s ≡ part_of T path
      → write_characters (target_text T target) ≡ appended_bytes s index
  unfolding target_text appended_bytes
  target_appended {path} {index} e f =
      rw (e, f) (written-append (decode (part_of T path)) (index_token index) ∙ ap (λ d. write_characters (decode (part_of T path)) ++ d) (index_written index))

  pub path_length : length (write_string (target_text T target)) ≡ length (write_characters (target_text T target)) + 2
  unfolding write_string
  path_length = simp length-append (omega arith)

pub appended-written : (s : Bytes) (index : ℕ) → appended_bytes s index ≡ written 2 s ++ index_token index
unfolding appended_bytes written text_of text_from decode
appended-written s index = refl

pub appended-length : (T : Texts) (target : Target) {path : Spelling} {index : ℕ} {s : Bytes} → target ≡ Appended path index → s ≡ part_of T path
    → length (write_characters (target_text T target)) ≡ length (written 2 s) + length (index_token index)
appended-length T target {path} {index} {s} e f =
    ap length (target_appended T target e f ∙ appended-written s index) ∙ length-append (written 2 s) (index_token index)

-- a string is its characters between quotation marks
pub string-written : (cs : Bytes) → write_string cs ≡ ((34 ∷ []) ++ write_characters cs) ++ (34 ∷ [])
unfolding write_string
string-written cs = refl

-- ---- the whole
pub note_pieces : (T : Texts) (action : Action) (target : Target) (o : Operation)
    → note_bytes T action target o ≡ (head_bytes action ++ write_string (target_text T target)) ++ end_bytes o
unfolding note_bytes
note_pieces T action target o = sym (append_assoc (head_bytes action) (write_string (target_text T target)) (end_bytes o))

pub note_length : (T : Texts) (action : Action) (target : Target) (o : Operation)
    → length (note_bytes T action target o) ≡ length (head_bytes action) + length (write_string (target_text T target)) + length (end_bytes o)
note_length T action target o =
    ap length (note_pieces T action target o) ∙ length-append (head_bytes action ++ write_string (target_text T target)) (end_bytes o)
    ∙ ap (λ n. n + length (end_bytes o)) (length-append (head_bytes action) (write_string (target_text T target)))

-- it is the operation's text, with a comma before it
pub note_text : {w : Table} {target : Target} {action : Action} {o : Operation} → Undoes w target action o
    → note_bytes w.texts action target o ≡ 44 ∷ operation_text o
unfolding note_bytes head_bytes end_bytes operation_text op_name ascii
note_text (undo_add path e held) = rw e
note_text (undo_remove path e) = rw e
note_text (undo_replace path e held) = rw e

-- its three pieces laid down one behind another
pub put_note : (T : Texts) (action : Action) (target : Target) (o : Operation) {before first second third : Bytes} {i n m : ℕ}
    → Placed (head_bytes action) 0 before first i → Placed (path_bytes T target) 0 (lent_part first i) second n
    → Placed (end_bytes o) 0 (lent_part (back first i second) (i + n)) third m
    → Placed (note_bytes T action target o) 0 before (back (back first i second) (i + n) third) (i + n + m)
put_note T action target o p q s = placed_as (note_pieces T action target o) (placed_then (placed_then p q) s)

-- ---- the value's levels and nodes
module _ (o : Operation) where
  pub member-none : uses_value o.kind ≡ false → (depths (value_member o) ≡ 0) × (size (value_member o) ≡ 0)
  unfolding value_member depths size
  member-none e = (rw e, rw e)

  pub member-depth : uses_value o.kind ≡ true → depths (value_member o) ≡ depth o.value
  unfolding value_member depths depth
  member-depth e = rw e (omega arith)

  pub member-nodes : uses_value o.kind ≡ true → size (value_member o) ≡ nodes o.value
  unfolding value_member size nodes
  member-nodes e = rw e (omega arith)
