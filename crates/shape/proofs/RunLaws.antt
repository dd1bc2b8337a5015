-- Laws of the loop over a patch's operations, and of what stands before it.
use Prim.Native.Nat.{ℕ, ◌+◌, ◌≤◌, ◌<◌}
use native.Mathlib.Omega.{arith}
use mathlib.Core.Path.{◌≡◌, sym, ap, ◌∙◌, subst}
use mathlib.Core.List.{List, [], ◌∷◌}
use lib.Dec.{eqb}
use lib.ListN.{length, get_or}
use Rattle.std.specs.Prelude.{Ok, Err}
use borrow.Author.Tests.{eq-eqb, ne_eqb, le-leb, lt-leb}
use Rattle.spec.specs.Outcome.{ok, refused}
use Rattle.spec.specs.Forest.{Forest, none, tree, count}
use Rattle.spec.specs.Value.{is_array}
use Rattle.spec.specs.Operation as Operation
use Rattle.spec.specs.Patch.{stop, Run, finished, stopped, at_op, no_pointer, on_finish, operation, operations, shape}
use Rattle.tape.specs.Fields.{kind_of}
use Rattle.tape.specs.declared.fields.Cell.{Cell}
use Rattle.tape.specs.Rows.{end_of, ArityIs}
use Rattle.tape.specs.Map.{map_forest}
use Rattle.tape.proofs.Forests.{first_tree, size_none}
use Rattle.tape.proofs.Cells.{formed_fit}
use Rattle.tape.proofs.Rows.{kind_here, inside_here, end_here, no_node}
use Rattle.tape.proofs.Held.{Remaining, remaining_next, held_node, held_kids}
use Rattle.tape.proofs.Map.{count_map}
use Rattle.table.specs.Meaning.{entry_of, members, meant}
use Rattle.table.specs.Sound.{NodeHeld, RowsHeld}
use Rattle.table.proofs.AllLaws.{all_first, all_kids, all_rest}
use Rattle.table.proofs.MeaningLaws.{is_array_label}
use Rattle.shape.specs.Operation.{Verdict, OperationNumber, OperationIs}
use Rattle.shape.specs.Patch.{Shape, ShapeIs, right, wrong, all_right, one_wrong, ElementsAre, no-array, too_many, judged, PatchIs}
use Rattle.spec.specs.Fault.{number_of}
use Rattle.spec.specs.declared.refusal.Refusal.{Refusal}
use Rattle.shape.proofs.AnswerLaws.{answers_ok, answers_refused}
use Rattle.tape.specs.Lent.{Texts, Table}

-- ---- trees in the rows from one to another
module _ {w : Table} where
  pub rows_children : {row : ℕ} {c : Cell} {kids : Forest Cell} (end : ℕ) → end ≡ end_of w.nodes row → NodeHeld w row c kids
      → RowsHeld w (row + 1) end kids
  rows_children end e n = record { held = held_kids n.held; ends = sym (e ∙ end_here (held_node n.held)); sound = n.sound }

  pub rows-first : {C : Type 0} {row end : ℕ} {f : Forest Cell} → RowsHeld w row end f → row < end
      → ((c : Cell) (kids rest : Forest Cell) → f ≡ tree c kids rest → RowsHeld w row end (tree c kids rest) → C) → C
  rows-first {row = row} {end} {f} h l then-it =
      first_tree f (omega (arith, h.ends)) (λ c kids rest e. then-it c kids rest e (subst (RowsHeld w row end) e h))

  module _ {row end : ℕ} {c : Cell} {kids rest : Forest Cell} (h : RowsHeld w row end (tree c kids rest)) where
    pub first-node : NodeHeld w row c kids
    first-node = record { rest = rest; held = h.held; label = (all_first h.sound).label; sound = all_kids h.sound }

    pub rows_next : (next : ℕ) → next ≡ end_of w.nodes row → RowsHeld w next end rest
    rows_next next e =
        let r : Remaining w.nodes next end rest = remaining_next next e (record { held = h.held; ends = h.ends }) in
        record { held = r.held; ends = r.ends; sound = all_rest h.sound }

-- ---- the first of the operations
module _ (T : Texts) (op : ℕ) (c : Cell) (kids rest : Forest Cell) where
  first_refused : (n : ℕ) → operation (meant T c kids) ≡ refused n 0 → operations op (members T (tree c kids rest)) ≡ stopped (stop n op 0 0)
  unfolding operations map_forest at_op no_pointer on_finish
  first_refused n e = rw e

  first_right : {o : Operation.Operation} → operation (meant T c kids) ≡ ok o
      → operations op (members T (tree c kids rest)) ≡ on_finish (operations (op + 1) (members T rest)) (λ os. finished (o ∷ os))
  unfolding operations map_forest at_op on_finish
  first_right e = rw e

-- the same answer with one operation more before
pub one_more : (o : Operation.Operation) {run : Run (List Operation.Operation)} {r : Shape}
    → ShapeIs run r → ShapeIs (on_finish run (λ os. finished (o ∷ os))) r
unfolding on_finish
one_more o (right os) = right (o ∷ os)
one_more o (wrong e) = wrong e

-- ---- the loop: `op` trees are passed, and what is answered of those that are left is the answer
pub record Left (w : Table) (end row op : ℕ) (f : Forest Cell) : Type 0 where
  pub left : Forest Cell
  pub rows : RowsHeld w row end left
  pub whole : (r : Shape) → ShapeIs (operations (op + 1) (members w.texts left)) r → ShapeIs (operations 1 (members w.texts f)) r

-- of whatever trees the table holds
abbrev pub LeftAny : Table → ℕ → ℕ → ℕ → ℕ → Type 0
LeftAny w start end row op = (f : Forest Cell) → RowsHeld w start end f → Left w end row op f

pub left_all : (w : Table) (start end : ℕ) → LeftAny w start end start 0
left_all w start end f h = record { left = f; rows = h; whole = λ r is. is }

module _ {w : Table} {start end row op : ℕ} (any : LeftAny w start end row op) where
  pub left_none : end ≤ row → ElementsAre w start end (Ok tt)
  unfolding operations map_forest
  left_none h =
      record {
        number = all_right;
        held = λ f held.
            let l = any f held in
            let e : l.left ≡ none = size_none l.left (omega (arith, l.rows.ends)) in
            l.whole (Ok tt) (rw e (right []));
      }

  module _ (more : row < end) where
    -- the row is in the table
    pub left_inside : length w.nodes ≤ row → ElementsAre w start end (Ok tt)
    left_inside h =
        record {
          number = all_right;
          held = λ f held. rows-first (any f held).rows more (λ c kids rest e r. absurd (omega (arith, inside_here (held_node r.held))));
        }

    module _ {verdict : Verdict} (is : OperationIs w row verdict) where
      pub left_refused : {x : Refusal} → verdict ≡ Err x → ElementsAre w start end (Err (record { refusal = x; op = op + 1 }))
      left_refused {x} f =
          record {
            number = one_wrong (subst OperationNumber f is.number);
            held = λ g held.
                let l = any g held in
                rows-first l.rows more
                (λ c kids rest e r.
                let refusal = answers_refused (is.held c kids (first-node r)) f in
                l.whole (Err (record { refusal = x; op = op + 1 }))
                (rw (e, first_refused w.texts (op + 1) c kids rest (number_of x) refusal) (wrong (record { refusal = x; op = op + 1 }))));
          }

      pub left_next : verdict ≡ Ok tt → (next : ℕ) → next ≡ end_of w.nodes row → LeftAny w start end next (op + 1)
      left_next fine next at f held =
          let l = any f held in
          rows-first l.rows more
          (λ c kids rest e r.
          let (o, result) = answers_ok (is.held c kids (first-node r)) fine in
          record {
            left = rest;
            rows = rows_next r next at;
            whole = λ s rest_is. l.whole s (rw (e, first_right w.texts (op + 1) c kids rest result) (one_more o rest_is));
          })

-- ---- before the loop
module _ {w : Table} {row : ℕ} {c : Cell} {kids : Forest Cell} (n : NodeHeld w row c kids) where
  pub array-here : is_array (meant w.texts c kids).label ≡ eqb (kind_of (get_or w.nodes row [])) 5
  array-here =
      is_array_label w.texts c.kind c.value (formed_fit n.held.formed).kind ∙ ap (λ k. eqb k 5) (sym (kind_here (held_node n.held)))

  pub counted : {number : ℕ} → ArityIs w.nodes row number → count (members w.texts kids) ≡ number
  counted many = count_map (entry_of w.texts) kids ∙ sym (many.held c kids (held_node n.held))

-- each way out of `shape_of`
module _ {w : Table} {row : ℕ} where
  pub patch-other : (kind_of (get_or w.nodes row []) ≡ 5 → ⊥) → PatchIs w row (Err (record { refusal = Refusal.WrongShape; op = 0 }))
  unfolding shape number_of
  patch-other d = record { number = no-array d; held = λ c kids n. rw (array-here n, ne_eqb _ 5 d) (wrong (record { refusal = Refusal.WrongShape; op = 0 })) }

  module _ (array : kind_of (get_or w.nodes row []) ≡ 5) where
    pub patch_out : length w.nodes ≤ row → PatchIs w row (Ok tt)
    patch_out h = record { number = judged array all_right; held = λ c kids n. no_node (held_node n.held) h }

    module _ {number : ℕ} (many : ArityIs w.nodes row number) where
      pub patch_long : 256 < number → PatchIs w row (Err (record { refusal = Refusal.TooManyOperations; op = 0 }))
      unfolding shape number_of
      patch_long h =
          record {
            number = too_many;
            held = λ c kids n. rw (array-here n, eq-eqb _ 5 array, counted n many, lt-leb number 256 h) (wrong (record { refusal = Refusal.TooManyOperations; op = 0 }));
          }

      pub patch-elements : number ≤ 256 → {end : ℕ} → end ≡ end_of w.nodes row → {r : Shape} → ElementsAre w (row + 1) end r → PatchIs w row r
      unfolding shape
      patch-elements h {end} e is =
          record {
            number = judged array is.number;
            held = λ c kids n. rw (array-here n, eq-eqb _ 5 array, counted n many, le-leb number 256 h) (is.held kids (rows_children end e n));
          }
