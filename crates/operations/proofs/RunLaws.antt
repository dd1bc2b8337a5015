-- Laws of the operations of a patch, one after another.
use Rattle.std.specs.Prelude.{Result, Ok, Err, if◌then◌else◌}
use Prim.Native.Nat.{ℕ, ◌+◌, ◌%◌, ◌≤◌, ◌<◌}
use native.Mathlib.Omega.{arith}
use mathlib.Core.Path.{◌≡◌, refl, sym, ap, ◌∙◌, subst}
use mathlib.Core.Bool.{Bool, true, false}
use mathlib.Core.List.{List, [], ◌∷◌}
use lib.Dec.{leb}
use lib.ListN.{length}
use Rattle.spec.specs.Outcome.{Outcome, ok, refused}
use Rattle.spec.specs.Refusal.{wrong_shape, too_many_operations}
use Rattle.spec.specs.Fault.{number_of}
use Rattle.spec.specs.Limits.{max_operations}
use Rattle.spec.specs.Forest.{Forest, none, tree, count, size}
use Rattle.spec.specs.Value as Value
use Rattle.spec.specs.Value.{is_array}
use Rattle.spec.specs.Operation as Operation
use Rattle.spec.specs.Operation.{limited}
use Rattle.spec.specs.Patch.{stop, Run, finished, stopped, at_op, no_pointer, on_finish, operation, operations, shape, which_pointer, run}
use Rattle.spec.specs.Proper.{ProperItems}
use Rattle.claims.proofs.ProperPatch.{proper_first}
use Rattle.origin.specs.Value as Origin
use Rattle.origin.specs.Value.{forget}
use Rattle.tape.specs.Layout.{patch_row, scratch_row, values}
use Rattle.tape.specs.Fields.{Row}
use Rattle.tape.specs.declared.fields.Cell.{Cell}
use Rattle.tape.specs.Lent.{Texts, Table}
use Rattle.tape.specs.Rows.{end_of}
use Rattle.tape.specs.Map.{map_forest}
use Rattle.tape.proofs.Forests.{size_none}
use Rattle.tape.proofs.Rows.{no_node, end_here}
use Rattle.tape.proofs.Held.{held_node}
use Rattle.table.specs.Meaning.{members, meant}
use Rattle.walk.specs.Bearing.{borne, borne_members}
use Rattle.walk.specs.Names.{Short}
use Rattle.shape.proofs.RunLaws.{rows_children, rows-first, first-node, rows_next}
use Rattle.changes.specs.Site.{table}
use Rattle.changes.specs.Document.{Document, Bearing}
use Rattle.operations.specs.Answers.{Performs, PerformsBearing, performs, fails, stop_at, stopped_at}
use Rattle.operations.specs.Bearing.{limited_with, value_in, Valued, valued, run_with}
use Rattle.operations.specs.declared.answers.Failure.{Failure}
use Rattle.operations.specs.declared.answers.Stop.{Stop}
use Rattle.operations.specs.Perform.{SamePatch, Listed, PerformIs}
use Rattle.operations.specs.Run.{RanTo, RanBearing, ran, halted, ForRun, ForRunBearing, ElementsRunIs, RunIs}
use Rattle.operations.proofs.PatchLaws.{patch_same, patch_then, rows-kept}
use Rattle.table.specs.Sound.{RowsHeld}

-- ---- the first of the operations
-- where there are operations, of a first outcome and of the others, what they are
record Begins (first : Outcome Operation.Operation) (others : Run (List Operation.Operation)) (os : List Operation.Operation) : Type 0 where
  pub o : Operation.Operation
  pub later : List Operation.Operation
  pub is : first ≡ ok o
  pub are : others ≡ finished later
  pub whole : os ≡ o ∷ later

begins : (op : ℕ) (first : Outcome Operation.Operation) (others : Run (List Operation.Operation)) (os : List Operation.Operation)
    → on_finish (at_op op no_pointer first) (λ o. on_finish others (λ os. finished (o ∷ os))) ≡ finished os → Begins first others os
unfolding on_finish at_op
begins op (ok o) (finished later) os e = record { o = o; later = later; is = refl; are = refl; whole = cc }
begins op (ok o) (stopped s) os e = absurd (let z : ◌≡◌ {A = ℕ} 0 1 = cc in omega arith)
begins op (refused number place) others os e = absurd (let z : ◌≡◌ {A = ℕ} 0 1 = cc in omega arith)

first-operation : (T : Texts) (op : ℕ) (c : Cell) (kids rest : Forest Cell) (os : List Operation.Operation) → operations op (members T (tree c kids rest))
    ≡ finished os
    → Begins (operation (meant T c kids)) (operations (op + 1) (members T rest)) os
unfolding operations map_forest
first-operation T op c kids rest os e = begins op (operation (meant T c kids)) (operations (op + 1) (members T rest)) os e

no_operations : (T : Texts) (op : ℕ) (os : List Operation.Operation) → operations op (members T none) ≡ finished os → os ≡ []
unfolding operations map_forest
no_operations T op os e = cc

-- the run of it and of those behind it
module _ (op : ℕ) (o : Operation.Operation) (os : List Operation.Operation) (v : Value.Value) where
  pub run_ok : {w : Value.Value} → limited o v ≡ ok w → run limited op (o ∷ os) v ≡ run limited (op + 1) os w
  unfolding run at_op on_finish
  run_ok e = rw e

  run_refused : {number place : ℕ} → limited o v ≡ refused number place → run limited op (o ∷ os) v ≡ stopped (stop number op place (which_pointer o v number))
  unfolding run at_op on_finish
  run_refused e = rw e

run_none : (op : ℕ) (v : Value.Value) → run limited op [] v ≡ finished v
unfolding run
run_none op v = refl

-- ---- the loop
-- `op` operations are passed, and their result is the document. The elements that are left stand in the rows from one to another, and what the
-- run of their operations gives is what the whole run gives.
pub record Going (w : Table) (used row end op : ℕ) (whole : Run Value.Value) : Type 0 where
  pub now : Value.Value
  pub document : Document w used now
  pub left : Forest Cell
  pub rows : RowsHeld w row end left
  pub behind : patch_row ≤ row
  pub before : end ≤ scratch_row
  pub short : Short w.texts
  pub object : Bool
  pub proper : ProperItems object (members w.texts left)
  pub os : List Operation.Operation
  pub are : operations (op + 1) (members w.texts left) ≡ finished os
  pub gives : run limited (op + 1) os now ≡ whole

-- the first of the elements that are left is an operation
pub record First (w : Table) (row end op : ℕ) (object : Bool) (os : List Operation.Operation) : Type 0 where
  pub c : Cell
  pub kids : Forest Cell
  pub rest : Forest Cell
  pub rows : RowsHeld w row end (tree c kids rest)
  pub o : Operation.Operation
  pub listed : Listed w row o
  pub proper : ProperItems object (members w.texts rest)
  pub later : List Operation.Operation
  pub are : operations (op + 1 + 1) (members w.texts rest) ≡ finished later
  pub whole : os ≡ o ∷ later

module _ {w : Table} {used row end op : ℕ} {whole : Run Value.Value} (g : Going w used row end op whole) where
  -- where none is left
  pub going_none : end ≤ row → RanTo w.texts w.nodes whole (Ok used)
  going_none h =
      let none_left : g.left ≡ none = size_none g.left (omega (arith, g.rows.ends)) in
      let e : operations (op + 1) (members w.texts none) ≡ finished g.os = subst (λ f. operations (op + 1) (members w.texts f) ≡ finished g.os)
      none_left g.are in
      ran (sym g.gives ∙ ap (λ os. run limited (op + 1) os g.now) (no_operations w.texts (op + 1) g.os e) ∙ run_none (op + 1) g.now)
      g.document

  module _ (more : row < end) where
    -- the row is in the table
    pub going_inside : {C : Type 0} → length w.nodes ≤ row → C
    going_inside h = rows-first g.rows more (λ c kids rest e r. no_node (held_node r.held) h)

    first_left : (first : First w row end op g.object g.os) × (g.left ≡ tree first.listed.c first.listed.kids first.rest)
    unfolding size map_forest
    first_left =
        rows-first g.rows more
        (λ c kids rest e r.
        let b = first-operation w.texts (op + 1) c kids rest g.os (subst (λ f. operations (op + 1) (members w.texts f) ≡ finished g.os) e
        g.are) in
        let proper = proper_first (subst (λ f. ProperItems g.object (members w.texts f)) e g.proper) in (
          record {
            c = c;
            kids = kids;
            rest = rest;
            rows = r;
            o = b.o;
            listed = record {
              c = c;
              kids = kids;
              held = first-node r;
              proper = proper.0;
              behind = g.behind;
              before = omega
                  (arith, r.ends, g.before);
              is = b.is;
            };
            proper = proper.1;
            later = b.later;
            are = b.are;
            whole = b.whole;
          },
          e,
        ))

    pub going_first : First w row end op g.object g.os
    going_first = first_left.0

  -- it is performed
  abbrev pub First-performs : First w row end op g.object g.os → List Row → Result ℕ Failure → Type 0
  First-performs first nodes' r = Performs w.texts nodes' (limited first.o g.now) (which_pointer first.o g.now) r

  module _ (first : First w row end op g.object g.os) {nodes' : List Row} where
    going_performs : {k : ℕ} {r s : Result ℕ Failure} → PerformIs w nodes' used row k r → r ≡ s → First-performs first nodes' s
    going_performs is e = subst (First-performs first nodes') e
        (is.held g.now g.document g.short first.o first.listed)

    -- where it is refused, and where it is done
    pub going_refused : {x : Failure} → First-performs first nodes' (Err x) → RanTo w.texts nodes' whole (Err (stop_at (op + 1) x))
    going_refused {x} (fails e f) =
        halted
        (sym g.gives ∙ ap (λ os. run limited (op + 1) os g.now) first.whole ∙ run_refused (op + 1) first.o first.later g.now e
        ∙ ap (λ p. stopped (stop (number_of x.refusal) (op + 1) x.place p)) (sym f))

    unfoldable pub going_done : {used' : ℕ} → SamePatch w.nodes nodes' → (next : ℕ) → next ≡ end_of nodes' row
        → First-performs first nodes' (Ok used')
        → Going (table w.texts nodes') used' next end (op + 1) whole
    going_done same next at (performs {v = u} e document) =
        let kept = rows-kept same g.behind g.before first.rows in
        record {
          now = u;
          document = document;
          left = first.rest;
          rows = rows_next kept next at;
          behind = omega (arith, at ∙ end_here (held_node kept.held), g.behind);
          before = g.before;
          short = g.short;
          object = g.object;
          proper = first.proper;
          os = first.later;
          are = first.are;
          gives = sym (run_ok (op + 1) first.o first.later g.now e) ∙ ap (λ os. run limited (op + 1) os g.now) (sym first.whole) ∙ g.gives;
        }

-- ---- the same with origins: what is left, and the document with its origins
pub record GoingBearing (w : Table) (used row end op : ℕ) (whole : Run Origin.Value) : Type 0 where
  pub plain : Run Value.Value
  pub going : Going w used row end op plain
  pub value : Origin.Value
  pub document : Bearing w used value
  pub gives : run_with (op + 1) (valued (borne_members w.texts going.left) going.os) value ≡ whole

-- the run of the first operation and of those behind it
module _ (op : ℕ) (o : Operation.Operation) (x : Origin.Value) (os : List Valued) (v : Origin.Value) where
  abbrev first_of : List Valued
  first_of = record { operation = o; value = x } ∷ os

  with_ok : {u : Origin.Value} → limited_with op o x v ≡ ok u → run_with op first_of v ≡ run_with (op + 1) os u
  unfolding run_with at_op on_finish
  with_ok e = rw e

  with_refused : {number place : ℕ} → limited_with op o x v ≡ refused number place
      → run_with op first_of v ≡ stopped (stop number op place (which_pointer o (forget v) number))
  unfolding run_with at_op on_finish
  with_refused e = rw e

with_none : (T : Texts) (op : ℕ) (os : List Operation.Operation) (v : Origin.Value) → run_with op (valued (borne_members T none) os) v ≡ finished v
unfolding run_with valued map_forest
with_none T op os v = refl

valued-first : (T : Texts) (c : Cell) (kids rest : Forest Cell) (o : Operation.Operation) (os : List Operation.Operation)
    → valued (borne_members T (tree c kids rest)) (o ∷ os) ≡ record { operation = o; value = value_in (borne T c kids) } ∷ valued (borne_members T rest) os
unfolding valued map_forest
valued-first T c kids rest o os = refl

module _ {w : Table} {used row end op : ℕ} {whole : Run Origin.Value} (b : GoingBearing w used row end op whole) where
  abbrev g : Going w used row end op b.plain
  g = b.going

  bearing_none : end ≤ row → RanBearing w.texts w.nodes whole (Ok used)
  bearing_none h =
      let none_left : g.left ≡ none = size_none g.left (omega (arith, g.rows.ends)) in
      ran
      (sym b.gives ∙ ap (λ f. run_with (op + 1) (valued (borne_members w.texts f) g.os) b.value) none_left
      ∙ with_none w.texts (op + 1) g.os b.value)
      b.document

  module _ (more : row < end) (first : First w row end op g.object g.os)
      (left_is : g.left ≡ tree first.listed.c first.listed.kids first.rest) where
    abbrev x : Origin.Value
    x = value_in (borne w.texts first.listed.c first.listed.kids)

    abbrev others : List Valued
    others = valued (borne_members w.texts first.rest) first.later

    -- the run begins with it
    begins_with : run_with (op + 1) (first_of (op + 1) first.o x others b.value) b.value ≡ whole
    begins_with =
        sym
        (ap (λ f. run_with (op + 1) (valued (borne_members w.texts f) g.os) b.value) left_is
        ∙ ap (λ os. run_with (op + 1) (valued (borne_members w.texts (tree first.listed.c first.listed.kids first.rest)) os) b.value)
        first.whole
        ∙ ap (λ os. run_with (op + 1) os b.value) (valued-first w.texts first.listed.c first.listed.kids first.rest first.o first.later))
        ∙ b.gives

    abbrev Bearing-performs : List Row → Result ℕ Failure → Type 0
    Bearing-performs nodes' r = PerformsBearing w.texts nodes' (limited_with (op + 1) first.o x b.value) (which_pointer first.o (forget b.value)) r

    bearing_refused : {nodes' : List Row} {y : Failure} → Bearing-performs nodes' (Err y) → RanBearing w.texts nodes' whole (Err (stop_at (op + 1) y))
    bearing_refused {y = y} (fails e f) =
        halted
        (sym begins_with ∙ with_refused (op + 1) first.o x others b.value e
        ∙ ap (λ p. stopped (stop (number_of y.refusal) (op + 1) y.place p)) (sym f))

    bearing-done : {nodes' : List Row} {used' : ℕ} → SamePatch w.nodes nodes' → (next : ℕ) → next ≡ end_of nodes' row
        → First-performs g first nodes' (Ok used') → Bearing-performs nodes' (Ok used')
        → GoingBearing (table w.texts nodes') used' next end (op + 1) whole
    unfolding going_done
    bearing-done same next at (performs e d) (performs f document) =
        record {
          plain = b.plain;
          going = going_done g first same next at (performs e d);
          value = _;
          document = document;
          gives = sym (with_ok (op + 1) first.o x others b.value f) ∙ begins_with;
        }

-- ---- of whatever the table holds
-- `op` of them are passed, and the patch's rows are as they were
pub record GoingAny (w₀ : Table) (used₀ start end : ℕ) (nodes : List Row) (used row op : ℕ) : Type 0 where
  pub patch : SamePatch w₀.nodes nodes
  pub held : ForRun w₀ used₀ start end (Going (table w₀.texts nodes) used row end op)
  pub bearing : ForRunBearing w₀ used₀ start end (GoingBearing (table w₀.texts nodes) used row end op)

unfoldable pub going_all : (w : Table) (used start end : ℕ) → GoingAny w used start end w.nodes used start 0
going_all w used start end =
    record {
      patch = patch_same;
      held = λ v document short f rows behind before object proper os are.
          record {
            now = v;
            document = document;
            left = f;
            rows = rows;
            behind = behind;
            before = before;
            short = short;
            object = object;
            proper = proper;
            os = os;
            are = are;
            gives = refl;
          };
      bearing = λ v document short f rows behind before object proper os are.
          record {
            plain = run limited 1 os (forget v);
            going =
                record {
                  now = forget v;
                  document = document.document;
                  left = f;
                  rows = rows;
                  behind = behind;
                  before = before;
                  short = short;
                  object = object;
                  proper = proper;
                  os = os;
                  are = are;
                  gives = refl;
                };
            value = v;
            document = document;
            gives = refl;
          };
    }

-- what is answered of an operation of the run is what it answered
module _ {A : Type 0} (op : ℕ) (q : Result A Failure) {r : Result A Stop} (tells : r ≡ stopped_at op q) where
  stopped_ok : {a : A} → r ≡ Ok a → q ≡ Ok a
  unfolding stopped_at
  stopped_ok {a} e = go q (sym tells ∙ e)
    where
      go : (s : Result A Failure) → stopped_at op s ≡ Ok a → s ≡ Ok a
      go (Ok b) f = cc
      go (Err g) f = absurd (let z : ◌≡◌ {A = ℕ} 0 1 = cc in omega arith)

  stopped_err : {x : Stop} → r ≡ Err x → (f : Failure) × (q ≡ Err f) × (x ≡ stop_at op f)
  unfolding stopped_at
  stopped_err {x} e = go q (sym tells ∙ e)
    where
      go : (s : Result A Failure) → stopped_at op s ≡ Err x → (f : Failure) × (s ≡ Err f) × (x ≡ stop_at op f)
      go (Ok b) f = absurd (let z : ◌≡◌ {A = ℕ} 0 1 = cc in omega arith)
      go (Err g) f = (g, refl, cc)

module _ {w₀ : Table} {nodes : List Row} {used₀ start end used row op : ℕ} (any : GoingAny w₀ used₀ start end nodes used row op) where
  pub run_ends : end ≤ row → ElementsRunIs w₀ nodes used₀ start end (Ok used)
  run_ends h =
      record {
        patch = any.patch;
        held = λ v document short f rows behind before object proper os are.
            going_none (any.held v document short f rows behind before object proper os are) h;
        bearing = λ v document short f rows behind before object proper os are.
            bearing_none (any.bearing v document short f rows behind before object proper os are) h;
      }

  module _ (more : row < end) where
    pub run_inside : length nodes ≤ row → {r : Result ℕ Stop} → ElementsRunIs w₀ nodes used₀ start end r
    run_inside h =
        record {
          patch = any.patch;
          held = λ v document short f rows behind before object proper os are.
              going_inside (any.held v document short f rows behind before object proper os are) more h;
          bearing = λ v document short f rows behind before object proper os are.
              going_inside (any.bearing v document short f rows behind before object proper os are).going more h;
        }

    -- the operation's number fits its field: there are no more operations than rows
    module _ {nodes' : List Row} {r : Result ℕ Failure} {k : ℕ} (is : PerformIs (table w₀.texts nodes) nodes' used row k r) (number : k ≡ (op + 1) % values)
        (low : op ≤ row) where
      numbered : end ≤ scratch_row → k ≡ op + 1
      numbered before = omega arith

      performed : {s : Result ℕ Failure} {whole : Run Origin.Value} (b : GoingBearing (table w₀.texts nodes) used row end op whole)
          (first : First (table w₀.texts nodes) row end op b.going.object b.going.os) (e : r ≡ s)
          (left_is : b.going.left ≡ tree first.listed.c first.listed.kids first.rest) → Bearing-performs b more first left_is nodes' s
      performed b first e left_is =
          let n = numbered b.going.before in
          subst (Bearing-performs b more first left_is nodes') e
          (subst (λ m. PerformsBearing w₀.texts nodes' (limited_with m first.o (x b more first left_is) b.value)
          (which_pointer first.o (forget b.value)) r) n
          (is.bearing b.value b.document b.going.short first.o first.listed tt))

      pub run_halts : {q : Result ℕ Stop} → q ≡ stopped_at (op + 1) r → {x : Stop} → q ≡ Err x → ElementsRunIs w₀ nodes' used₀ start end (Err x)
      run_halts tells ends =
          let (y, e, x-is) = stopped_err _ r tells ends in
          rw x-is
          record {
            patch = patch_then any.patch is.patch;
            held = λ v document short f rows behind before object proper os are.
                let g = any.held v document short f rows behind before object proper os are in
                let first = going_first g more in
                going_refused g first (going_performs g first is e);
            bearing = λ v document short f rows behind before object proper os are.
                let b = any.bearing v document short f rows behind before object proper os are in
                let (first, left_is) = first_left b.going more in
                bearing_refused b more first left_is (performed b first e left_is);
          }

      pub run_next : {q : Result ℕ Stop} → q ≡ stopped_at (op + 1) r → {used' : ℕ} → q ≡ Ok used' → (next : ℕ) → next ≡ end_of nodes' row
          → GoingAny w₀ used₀ start end nodes' used' next (op + 1)
      run_next tells goes next at =
          let e = stopped_ok _ r tells goes in
          record {
            patch = patch_then any.patch is.patch;
            held = λ v document short f rows behind before object proper os are.
                let g = any.held v document short f rows behind before object proper os are in
                let first = going_first g more in
                going_done g first is.patch next at (going_performs g first is e);
            bearing = λ v document short f rows behind before object proper os are.
                let b = any.bearing v document short f rows behind before object proper os are in
                let (first, left_is) = first_left b.going more in
                bearing-done b more first left_is is.patch next at (going_performs b.going first is e) (performed b first e left_is);
          }

-- ---- before the loop
-- a patch of the right shape has the operations of its elements
right_shape : (array few : Bool) {r : Run (List Operation.Operation)} (os : List Operation.Operation)
    → (if array then (if few then r else stopped (stop too_many_operations 0 0 0)) else stopped (stop wrong_shape 0 0 0)) ≡ finished os → r ≡ finished os
right_shape true true os e = e
right_shape true false os e = absurd (let z : ◌≡◌ {A = ℕ} 0 1 = cc in omega arith)
right_shape false few os e = absurd (let z : ◌≡◌ {A = ℕ} 0 1 = cc in omega arith)

pub shape-operations : (v : Value.Value) (os : List Operation.Operation) → shape v ≡ finished os → operations 1 v.kids ≡ finished os
unfolding shape
shape-operations v os e = right_shape (is_array v.label) (leb (count v.kids) max_operations) os e

pub run-patch : {w : Table} {nodes' : List Row} {used : ℕ} {r : Result ℕ Stop} (end : ℕ) → end ≡ end_of w.nodes patch_row
    → ElementsRunIs w nodes' used (patch_row + 1) end r → RunIs w nodes' used r
run-patch {w} end e is =
    record {
      patch = is.patch;
      held = λ v document short c kids node before proper os right.
          let rows = rows_children end e node in
          is.held v document short kids rows (omega arith) (omega (arith, rows.ends)) _ proper.items os
          (shape-operations (meant w.texts c kids) os right);
      bearing = λ v document short c kids node before proper os right.
          let rows = rows_children end e node in
          is.bearing v document short kids rows (omega arith) (omega (arith, rows.ends)) _ proper.items os
          (shape-operations (meant w.texts c kids) os right);
    }
