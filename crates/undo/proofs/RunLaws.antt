-- Laws of the operations of a patch, one after another, with their undo noted.
use Rattle.std.specs.Prelude.{Result, Ok, Err}
use Prim.Native.Nat.{ℕ, ◌+◌, ◌%◌, ◌≤◌, ◌<◌}
use native.Mathlib.Omega.{arith}
use mathlib.Core.Path.{◌≡◌, refl, sym, ap, subst, ◌∙◌}
use mathlib.Core.Bool.{Bool}
use mathlib.Core.List.{List, [], ◌∷◌, ◌++◌, append_assoc}
use lib.ListN.{length}
use Rattle.spec.specs.Outcome.{ok}
use Rattle.spec.specs.Bytes.{Bytes}
use Rattle.spec.specs.Forest.{Forest, none, tree, size}
use Rattle.spec.specs.Value as Value
use Rattle.spec.specs.Operation.{Operation, limited}
use Rattle.spec.specs.Patch.{Run, finished, which_pointer, operations, run}
use Rattle.spec.specs.Proper.{ProperItems}
use Rattle.tape.specs.Layout.{patch_row, scratch_row, values}
use Rattle.tape.specs.Fields.{Row}
use Rattle.tape.specs.declared.fields.Cell.{Cell}
use Rattle.tape.specs.Lent.{Texts, Table}
use Rattle.tape.specs.Rows.{end_of}
use Rattle.tape.specs.Map.{map_forest}
use Rattle.table.specs.Meaning.{members, meant}
use Rattle.table.specs.Sound.{RowsHeld}
use Rattle.walk.specs.Names.{Short}
use Rattle.shape.proofs.RunLaws.{rows_children}
use Rattle.changes.specs.Site.{table}
use Rattle.changes.specs.Document.{Document}
use Rattle.operations.specs.Answers.{stop_at, stopped_at, Performs, performs}
use Rattle.operations.specs.declared.answers.Failure.{Failure}
use Rattle.operations.specs.declared.answers.Stop.{Stop}
use Rattle.operations.proofs.RunLaws.{Going, First, going_none, going_inside, going_first, going_refused, going_done, shape-operations}
use Rattle.operations.proofs.RunLaws.{GoingAny, going_all, run_ends, run_inside, run_halts, run_next, run-patch}
use Rattle.reversal.specs.Undo.{result_or, undo_of, undo_run}
use Rattle.undo_log.specs.Log.{Noted}
use Rattle.undo_log.specs.declared.log.Log.{Log}
use Rattle.undo.specs.Step.{rows_of, StepsTo, StepIs}
use Rattle.undo.specs.Run.{LoggedTo, ElementsLoggedIs, LoggedIs}
use Rattle.undo.specs.declared.logged.Logged.{Logged}
use Rattle.undo.proofs.LoggedLaws.{one_log, nothing_logged}

-- ---- an operation of the run, by what is answered of it
module _ (op : ℕ) (q : Result Logged Failure) {r : Result Logged Stop} (tells : r ≡ stopped_at op q) where
  stopped_ok : {logged : Logged} → r ≡ Ok logged → q ≡ Ok logged
  unfolding stopped_at
  stopped_ok {logged} e = go q (sym tells ∙ e)
    where
      go : (s : Result Logged Failure) → stopped_at op s ≡ Ok logged → s ≡ Ok logged
      go (Ok l) f = cc
      go (Err y) f = absurd (let z : ◌≡◌ {A = ℕ} 0 1 = cc in omega arith)

  stopped_err : {x : Stop} → r ≡ Err x → (f : Failure) × (q ≡ Err f) × (x ≡ stop_at op f)
  unfolding stopped_at
  stopped_err {x} e = go q (sym tells ∙ e)
    where
      go : (s : Result Logged Failure) → stopped_at op s ≡ Err x → (f : Failure) × (s ≡ Err f) × (x ≡ stop_at op f)
      go (Ok l) f = absurd (let z : ◌≡◌ {A = ℕ} 0 1 = cc in omega arith)
      go (Err y) f = (y, refl, cc)

  -- the same of the document's rows
  rows_told : rows_of r ≡ stopped_at op (rows_of q)
  unfolding rows_of stopped_at
  rows_told = ap rows_of tells ∙ go q
    where
      go : (s : Result Logged Failure) → rows_of (stopped_at op s) ≡ stopped_at op (rows_of s)
      go (Ok l) = refl
      go (Err y) = refl

-- ---- the loop: the undo of the operations that are passed is noted, and with the undo of those that are left it is the whole undo
pub record Logging (w : Table) (row end op : ℕ) (logged : Logged) (work : Bytes) (whole : Run Value.Value) (undo : List Operation) : Type 0 where
  pub going : Going w logged.rows row end op whole
  pub earlier : List Operation
  pub noted : Noted logged.log work earlier
  pub undoes : undo_run going.os going.now ++ earlier ≡ undo

-- the undo of an operation that succeeds goes before those that are noted
undo_more : (o : Operation) (later earlier : List Operation) (v u : Value.Value) → limited o v ≡ ok u
    → undo_run later u ++ (undo_of o v ++ earlier) ≡ undo_run (o ∷ later) v ++ earlier
unfolding undo_run result_or
undo_more o later earlier v u e = sym (append_assoc (undo_run later u) (undo_of o v) earlier) ∙ rw e

no_operation : (T : Texts) (op : ℕ) (f : Forest Cell) (os : List Operation) → size f ≡ 0 → operations op (members T f) ≡ finished os → os ≡ []
unfolding operations map_forest size
no_operation T op none os h e = cc
no_operation T op (tree c kids rest) os h e = absurd (omega arith)

module _ {w : Table} {row end op : ℕ} {logged : Logged} {work : Bytes} {whole : Run Value.Value} {undo : List Operation}
    (g : Logging w row end op logged work whole undo) where
  logging_ends : end ≤ row → LoggedTo w.texts w.nodes whole undo work (Ok logged)
  unfolding undo_run rows_of
  logging_ends h =
      let none_left : g.going.os ≡ [] =
      no_operation w.texts (op + 1) g.going.left g.going.os (omega (arith, g.going.rows.ends)) g.going.are in
      let all : g.earlier ≡ undo = rw none_left at g.undoes in
      record {
        ran = going_none g.going h;
        noted = λ v e l m. subst (λ k. Noted k work undo) (sym (one_log refl l m)) (subst (Noted logged.log work) all g.noted);
      }

  module _ (more : row < end) {nodes' : List Row} {work' : Bytes} {r : Result Logged Failure} {k : ℕ}
      (is : StepIs w nodes' work work' logged.rows row k logged.log r) where
    logging_steps : (first : First w row end op g.going.object g.going.os)
        → StepsTo w.texts nodes' (limited first.o g.going.now) (which_pointer first.o g.going.now)
        (undo_of first.o g.going.now ++ g.earlier) work' r
    logging_steps first =
        is.held g.going.now g.going.document g.going.short first.o first.listed g.earlier g.noted

    logging_halts : {f : Failure} → r ≡ Err f → LoggedTo w.texts nodes' whole undo work' (Err (stop_at (op + 1) f))
    unfolding rows_of
    logging_halts {f} e =
        let first = going_first g.going more in
        let result : Performs w.texts nodes' (limited first.o g.going.now) (which_pointer first.o g.going.now) (Err f) =
        subst (Performs w.texts nodes' (limited first.o g.going.now) (which_pointer first.o g.going.now)) (ap rows_of e)
        (logging_steps first).results in
        record { ran = going_refused g.going first result; noted = λ v h l m. nothing_logged m }

    next_of : (first : First w row end op g.going.object g.going.os) {logged' : Logged}
        → Performs w.texts nodes' (limited first.o g.going.now) (which_pointer first.o g.going.now) (Ok logged'.rows)
        → ((v : Value.Value) → limited first.o g.going.now ≡ ok v → Noted logged'.log work' (undo_of first.o g.going.now ++ g.earlier))
        → (next : ℕ) → next ≡ end_of nodes' row → Logging (table w.texts nodes') next end (op + 1) logged' work' whole undo
    unfolding going_done
    next_of first (performs {v = u} e d) noted next at =
        record {
          going = going_done g.going first is.performs.patch next at (performs e d);
          earlier = undo_of first.o g.going.now ++ g.earlier;
          noted = noted u e;
          undoes =
              undo_more first.o first.later g.earlier g.going.now u e
              ∙ ap (λ os. undo_run os g.going.now ++ g.earlier) (sym first.whole) ∙ g.undoes;
        }

    logging_next : {logged' : Logged} → r ≡ Ok logged' → (next : ℕ) → next ≡ end_of nodes' row
        → Logging (table w.texts nodes') next end (op + 1) logged' work' whole undo
    unfolding rows_of
    logging_next {logged'} e next at =
        let first = going_first g.going more in
        let steps = logging_steps first in
        let result : Performs w.texts nodes' (limited first.o g.going.now) (which_pointer first.o g.going.now) (Ok logged'.rows) =
        subst (Performs w.texts nodes' (limited first.o g.going.now) (which_pointer first.o g.going.now)) (ap rows_of e) steps.results in
        next_of first result (λ v h. steps.noted v h logged' e) next at

-- ---- of whatever the table holds
pub record LoggingAny (w₀ : Table) (start end : ℕ) (begun : Logged) (work₀ : Bytes) (nodes : List Row) (work : Bytes) (row op : ℕ)
    (logged : Logged) : Type 0 where
  pub going : GoingAny w₀ begun.rows start end nodes logged.rows row op
  pub held : (v : Value.Value) → Document w₀ begun.rows v → Short w₀.texts → (f : Forest Cell) → RowsHeld w₀ start end f → patch_row ≤ start
      → end ≤ scratch_row → (object : Bool) → ProperItems object (members w₀.texts f) → (os : List Operation)
      → operations 1 (members w₀.texts f) ≡ finished os → (earlier : List Operation) → Noted begun.log work₀ earlier
      → Logging (table w₀.texts nodes) row end op logged work (run limited 1 os v) (undo_run os v ++ earlier)

pub logging_all : (w : Table) (start end : ℕ) (begun : Logged) (work : Bytes) → LoggingAny w start end begun work w.nodes work start 0 begun
unfolding going_all
logging_all w start end begun work =
    record {
      going = going_all w begun.rows start end;
      held = λ v document short f rows behind before object proper os are earlier noted.
          record {
            going = (going_all w begun.rows start end).held v document short f rows behind before object proper os are;
            earlier = earlier;
            noted = noted;
            undoes = refl;
          };
    }

module _ {w₀ : Table} {start end : ℕ} {begun : Logged} {work₀ : Bytes} {nodes : List Row} {work : Bytes} {row op : ℕ} {logged : Logged}
    (any : LoggingAny w₀ start end begun work₀ nodes work row op logged) where
  pub logged_ends : end ≤ row → ElementsLoggedIs w₀ nodes work₀ work begun.rows start end begun.log (Ok logged)
  unfolding rows_of
  logged_ends h =
      record {
        runs = run_ends any.going h;
        held = λ v document short f rows behind before object proper os are earlier noted.
            logging_ends (any.held v document short f rows behind before object proper os are earlier noted) h;
      }

  module _ (more : row < end) where
    pub logged_inside : length nodes ≤ row → {r : Result Logged Stop} → ElementsLoggedIs w₀ nodes work₀ work begun.rows start end begun.log r
    logged_inside h =
        record {
          runs = run_inside any.going more h;
          held = λ v document short f rows behind before object proper os are earlier noted.
              going_inside (any.held v document short f rows behind before object proper os are earlier noted).going more h;
        }

    -- the operation's number fits its field
    module _ {nodes' : List Row} {work' : Bytes} {r : Result Logged Failure} {k : ℕ}
        (is : StepIs (table w₀.texts nodes) nodes' work work' logged.rows row k logged.log r)
        (number : k ≡ (op + 1) % values) (low : op ≤ row) {q : Result Logged Stop} (tells : q ≡ stopped_at (op + 1) r) where
      pub logged_halts : {x : Stop} → q ≡ Err x → ElementsLoggedIs w₀ nodes' work₀ work' begun.rows start end begun.log (Err x)
      unfolding rows_of
      logged_halts {x} e =
          let (y, f, x-is) = stopped_err _ r tells e in
          record {
            runs = run_halts any.going more is.performs number low (rows_told _ r tells) (ap rows_of e);
            held = λ v document short f' rows behind before object proper os are earlier noted.
                subst (λ s. LoggedTo w₀.texts nodes' (run limited 1 os v) (undo_run os v ++ earlier) work' (Err s)) (sym x-is)
                (logging_halts (any.held v document short f' rows behind before object proper os are earlier noted) more is f);
          }

      pub logged_next : {logged' : Logged} → q ≡ Ok logged' → (next : ℕ) → next ≡ end_of nodes' row
          → LoggingAny w₀ start end begun work₀ nodes' work' next (op + 1) logged'
      unfolding rows_of
      logged_next {logged'} e next at =
          record {
            going = run_next any.going more is.performs number low (rows_told _ r tells) (ap rows_of e) next at;
            held = λ v document short f rows behind before object proper os are earlier noted.
                logging_next (any.held v document short f rows behind before object proper os are earlier noted) more is
                (stopped_ok _ r tells e) next at;
          }

pub logged_patch : {w : Table} {nodes' : List Row} {work work' : Bytes} {used : ℕ} {log : Log} {r : Result Logged Stop} (end : ℕ) → end ≡ end_of w.nodes patch_row
    → ElementsLoggedIs w nodes' work work' used (patch_row + 1) end log r → LoggedIs w nodes' work work' used log r
logged_patch {w} end e is =
    record {
      runs = run-patch end e is.runs;
      held = λ v document short c kids node before proper os right earlier noted.
          let rows = rows_children end e node in
          is.held v document short kids rows (omega arith) (omega (arith, rows.ends)) _ proper.items os
          (shape-operations (meant w.texts c kids) os right) earlier noted;
    }
