-- Laws of the stages of the call.
use Rattle.std.specs.Prelude.{Option, Result, Ok, Err, IsErrAnd, if◌then◌else◌}
use Rattle.std.proofs.lemmas.Result.{err_from_is_err_and}
use Prim.Native.Nat.{ℕ, ◌+◌, ◌≤◌, ◌<◌}
use native.Mathlib.Omega.{arith}
use mathlib.Core.Path.{◌≡◌, refl, sym, ap, ◌∙◌}
use mathlib.Core.Bool.{Bool, true, false}
use mathlib.Core.List.{List, [], ◌∷◌, ◌++◌}
use lib.Dec.{leb}
use lib.ListN.{length, take, drop}
use lib.Seq.{length-take-le}
use Rattle.spec.specs.Outcome.{Outcome, ok, refused}
use Rattle.spec.specs.Refusal.{work_too_short, wrong_shape, too_many_operations}
use Rattle.spec.specs.Fault.{number_of}
use Rattle.spec.specs.declared.refusal.Fault.{Fault}
use Rattle.spec.specs.Limits.{max_bytes, max_operations, work_nodes, work_entries}
use Rattle.spec.specs.Bytes.{Bytes}
use Rattle.spec.specs.Forest.{Forest, none, tree, count}
use Rattle.spec.specs.Value as Value
use Rattle.spec.specs.Value.{is_array}
use Rattle.spec.specs.Read.{read}
use Rattle.spec.specs.Operation as Operation
use Rattle.spec.specs.Patch.{Stop, stop, Run, finished, stopped, no_pointer, at_op, on_finish, operation, operations, shape}
use Rattle.tape.specs.Columns.{filled}
use Rattle.tape.specs.Fields.{Row, no_node}
use Rattle.tape.specs.Layout.{patch_row}
use Rattle.tape.specs.Rows.{end_of}
use Rattle.tape.specs.Map.{map_forest}
use Rattle.tape.specs.declared.fields.Cell.{Cell}
use Rattle.tape.specs.Lent.{Texts, Table}
use Rattle.tape.proofs.Forests.{size_none}
use Rattle.tape.proofs.Rows.{inside_here}
use Rattle.tape.proofs.Held.{held_node}
use Rattle.table.specs.Meaning.{members, meant}
use Rattle.table.specs.Sound.{NodeHeld, RowsHeld}
use Rattle.shape.specs.Operation.{KindIs}
use Rattle.shape.specs.Patch.{ShapeIs, right, wrong, PatchIs}
use Rattle.shape.specs.declared.kinds.Kind.{Kind}
use Rattle.shape.specs.declared.patch.Misshapen.{Misshapen}
use Rattle.shape.proofs.RunLaws.{rows_children, rows-first, first-node, rows_next}
use Rattle.reader.specs.Work.{Work}
use Rattle.reader.specs.Texts as Texts
use Rattle.reader.specs.Texts.{reading}
use Rattle.reader.specs.declared.values.Value as Read
use Rattle.changes.specs.Site.{table}
use Rattle.operations.proofs.ToldLaws.{told}
use Rattle.json_patch.specs.Call.{wiped}
use Rattle.json_patch.proofs.AnswerLaws.{work_suffices_lem}
use Rattle.json_patch.proofs.CallLaws.{part-wiped}
use Rattle.json_patch.proofs.TextLaws.{read_into, text-value, text_refusal, rooted_node}
use Rattle.inspection.specs.Inspection as Spec
use Rattle.inspection.specs.Inspection.{no_counts, one_of, plus, total, counts_of, accepted, of_shape, inspection, inspection_in}
use Rattle.inspection.proofs.TallyLaws.{plus_comm, plus_assoc, plus_none, total-plus}
use Rattle.inspection.proofs.InspectionLaws.{inspection_unread, inspection-read}
use Rattle.inspect.specs.Counts.{counts_in, one_for, OneIs}
use Rattle.inspect.specs.Call as Call
use Rattle.inspect.specs.Call.{RefusalIs, enough, InspectIs}
use Rattle.inspect.specs.Stages.{told_of, UnreadIs, MisshapenIs, CountedIs, ShapedIs}
use Rattle.inspect.specs.declared.counts.Counts.{Counts}
use Rattle.inspect.specs.declared.answer.Answer.{Answer}

-- ---- operations of the right shape: the first, and the others
record First (T : Texts) (op : ℕ) (c : Cell) (kids rest : Forest Cell) (os : List Operation.Operation) : Type 0 where
  o : Operation.Operation
  qs : List Operation.Operation
  is : os ≡ o ∷ qs
  first : operation (meant T c kids) ≡ ok o
  others : operations (op + 1) (members T rest) ≡ finished qs

module _ (T : Texts) (op : ℕ) (c : Cell) (kids rest : Forest Cell) (os : List Operation.Operation) where
  first_of : operations op (members T (tree c kids rest)) ≡ finished os → First T op c kids rest os
  unfolding operations map_forest at_op on_finish
  first_of e = go (operation (meant T c kids)) refl (operations (op + 1) (members T rest)) refl e
    where
      go : (a : Outcome Operation.Operation) → operation (meant T c kids) ≡ a → (b : Run (List Operation.Operation))
          → operations (op + 1) (members T rest) ≡ b
          → on_finish (at_op op no_pointer a) (λ o. on_finish b λ qs. finished (o ∷ qs)) ≡ finished os → First T op c kids rest os
      go (ok o) first (finished qs) others e = record { o = o; qs = qs; is = cc; first = first; others = others }
      go (ok o) first (stopped s) others e = absurd (let z : ◌≡◌ {A = ℕ} 0 1 = cc in omega arith)
      go (refused n p) first b others e = absurd (let z : ◌≡◌ {A = ℕ} 0 1 = cc in omega arith)

-- and the first is counted as its kind is
first_counted : {w : Table} {row : ℕ} {c : Cell} {kids : Forest Cell} {kind : Option Kind} {o : Operation.Operation} {more : Counts} → KindIs w row kind
    → NodeHeld w row c kids → operation (meant w.texts c kids) ≡ ok o → OneIs kind more → counts_in more ≡ one_of o.kind
unfolding one_for
first_counted {w} {c = c} {kids} {o = o} kind_is held first one =
    one.is ∙ ap one_for (kind_is.held c kids held ∙ (told (meant w.texts c kids) o first).kind)

-- ---- the loop: what is left, and that the counts so far and those of what is left are those of all
pub record Left (w : Table) (end row : ℕ) (counts : Spec.Counts) (f : Forest Cell) : Type 0 where
  pub left : Forest Cell
  pub rows : RowsHeld w row end left
  pub op : ℕ
  pub whole : (os : List Operation.Operation) → operations 1 (members w.texts f) ≡ finished os
      → (qs : List Operation.Operation) × (operations op (members w.texts left) ≡ finished qs) × (counts_of os ≡ plus counts (counts_of qs))

-- of whatever trees the table holds
abbrev pub LeftAny : Table → ℕ → ℕ → ℕ → Spec.Counts → Type 0
LeftAny w start end row counts = (f : Forest Cell) → RowsHeld w start end f → Left w end row counts f

pub left_all : (w : Table) (start end : ℕ) {counts : Spec.Counts} → counts ≡ no_counts → LeftAny w start end start counts
left_all w start end e f h =
    record { left = f; rows = h; op = 1; whole = λ os is. (os, is, sym (ap (λ c. plus c (counts_of os)) e ∙ plus_none (counts_of os))) }

-- no count passes the rows that are behind
pub none_small : {c : Counts} → counts_in c ≡ no_counts → (n : ℕ) → total (counts_in c) ≤ n
unfolding total
none_small e n = omega (arith, ap total e)

pub more_small : {c : Counts} (a b : Spec.Counts) {row next : ℕ} → counts_in c ≡ plus a b → total a ≤ row → total b ≤ 1 → row < next
    → total (counts_in c) ≤ next
more_small a b e h one further = omega (arith, ap total e, total-plus a b)

module _ {w : Table} {start end row : ℕ} {counts : Spec.Counts} (any : LeftAny w start end row counts) where
  pub left_none : end ≤ row → {r : Counts} → counts_in r ≡ counts → CountedIs w start end r
  unfolding operations map_forest counts_of
  left_none h e f held os is =
      let l = any f held in
      let (qs, shaped, sum) = l.whole os is in
      let nothing : l.left ≡ none = size_none l.left (omega (arith, l.rows.ends)) in
      let empty : finished [] ≡ finished qs = ap (λ g. operations l.op (members w.texts g)) (sym nothing) ∙ shaped in
      let same : [] ≡ qs = cc in
      e ∙ sym (sum ∙ ap (λ os. plus counts (counts_of os)) (sym same) ∙ plus_comm counts no_counts no_counts ∙ plus_none counts)

  module _ (more : row < end) where
    -- the row is in the table
    pub left_inside : length w.nodes ≤ row → (r : Counts) → CountedIs w start end r
    left_inside h r f held os is =
        rows-first (any f held).rows more (λ c kids rest e rows. absurd (omega (arith, inside_here (held_node rows.held))))

    pub left_next : {kind : Option Kind} {one : Counts} {counts' : Spec.Counts} → KindIs w row kind → OneIs kind one → counts' ≡ plus counts (counts_in one)
        → (next : ℕ) → next ≡ end_of w.nodes row → LeftAny w start end next counts'
    unfolding counts_of
    left_next {one = one} {counts'} kind_is one-is sum_is_lem next at f held =
        let l = any f held in
        rows-first l.rows more
        (λ c kids rest e rows.
        record {
          left = rest;
          rows = rows_next rows next at;
          op = l.op + 1;
          whole = λ os is.
              let (qs, shaped, sum) = l.whole os is in
              let first = first_of w.texts l.op c kids rest qs (ap (λ g. operations l.op (members w.texts g)) (sym e) ∙ shaped) in
              let here : counts_in one ≡ one_of first.o.kind = first_counted kind_is (first-node rows) first.first one-is in (
                first.qs,
                first.others,
                sum
                    ∙ ap (λ os. plus counts (counts_of os)) first.is
                    ∙ sym (plus_assoc counts (one_of first.o.kind) (counts_of first.qs))
                    ∙ ap (λ c. plus c (counts_of first.qs)) (sym (sum_is_lem ∙ ap (plus counts) here)),
              );
        })

-- ---- the shape of the patch
shape-operations : (v : Value.Value) (os : List Operation.Operation) → shape v ≡ finished os → operations 1 v.kids ≡ finished os
unfolding shape
shape-operations v os e = go (is_array v.label) (leb (count v.kids) max_operations) e
  where
    go : (array few : Bool)
        → (if array then (if few then operations 1 v.kids else stopped (stop too_many_operations 0 0 0)) else stopped (stop wrong_shape 0 0 0)) ≡ finished os
        → operations 1 v.kids ≡ finished os
    go true true h = h
    go true false h = absurd (let z : ◌≡◌ {A = ℕ} 0 1 = cc in omega arith)
    go false b h = absurd (let z : ◌≡◌ {A = ℕ} 0 1 = cc in omega arith)

no_refusal : {t : Stop} {s : Result (Unit {0}) Misshapen} {u : Unit {0}} → ShapeIs (stopped t) s → s ≡ Ok u → ⊥
no_refusal (wrong m) e = let z : ◌≡◌ {A = ℕ} 0 1 = cc in omega arith

module _ {w : Table} {s : Result (Unit {0}) Misshapen} (shaped : PatchIs w patch_row s) where
  pub shape_refused : {m : Misshapen} (r : Result Counts Answer) → s ≡ Err m → IsErrAnd r (MisshapenIs m) → ShapedIs w r
  unfolding of_shape told_of
  shape_refused {m} r e is c kids n =
      let p = err_from_is_err_and r is in rw p.1 (go (shaped.held c kids n) refl)
    where
      go : {o : Run (List Operation.Operation)} {q : Result (Unit {0}) Misshapen} → ShapeIs o q → s ≡ q → Call.told (err_from_is_err_and r is).0 ≡ of_shape o
      go (right os) f = absurd (let z : ◌≡◌ {A = ℕ} 0 1 = cc in omega arith)
      go (wrong k) f = let same : m ≡ k = cc in rw (← same) (err_from_is_err_and r is).2

  pub shape-counted : {u : Unit {0}} → s ≡ Ok u → {end : ℕ} → end ≡ end_of w.nodes patch_row → {counts : Counts}
      → CountedIs w (patch_row + 1) end counts → ShapedIs w (Ok counts)
  unfolding of_shape told_of
  shape-counted e {end} at {counts} counted c kids n =
      go (shape (meant w.texts c kids)) refl (shaped.held c kids n)
    where
      go : (o : Run (List Operation.Operation)) → shape (meant w.texts c kids) ≡ o → ShapeIs o s → accepted (counts_in counts) ≡ of_shape o
      go (finished os) f accepts =
          ap accepted (counted kids (rows_children end at n) os (shape-operations (meant w.texts c kids) os f))
      go (stopped t) f refusal = absurd (no_refusal refusal e)

-- ---- the patch read
module _ {T : Texts} {w w' : Work} {told : Result Read.Value Fault} (long : work_nodes ≤ length w.nodes) (longer : work_entries ≤ length w.index)
    (short : length T.patch ≤ max_bytes) (reads : Texts.PatchIs T w w' told) where
  as_read : read T.patch ≡ reading w T.patch
  as_read = read_into w T.patch long longer short

  pub text_unread : {e : Fault} (r : Result Counts Answer) → told ≡ Err e → IsErrAnd r (UnreadIs e) → told_of r ≡ inspection T.patch
  unfolding told_of
  text_unread {e} r t is =
      let p = err_from_is_err_and r is in
      rw p.1 (p.2 ∙ sym (inspection_unread T.patch short (number_of e.refusal) e.place (as_read ∙ text_refusal reads.text t)))

  pub text_shaped : (r : Result Counts Answer) {v : Read.Value} → told ≡ Ok v → ShapedIs (table T w'.nodes) r → told_of r ≡ inspection T.patch
  text_shaped r t shaped =
      text-value reads.text t λ v reads_as few rooted changed.
      shaped rooted.root rooted.kids (rooted_node rooted)
      ∙ ap (λ u. of_shape (shape u)) rooted.means
      ∙ sym (inspection-read T.patch short v (as_read ∙ reads_as))

-- ---- the work area lent in part, and cleared
module _ {patch : Bytes} {r : Answer} where
  -- SPECIFICATION 2.4: after a 1, no buffer has changed.
  pub work_short : {w : Work} → enough w ≡ false → RefusalIs work_too_short 0 0 0 r → InspectIs patch w w r
  unfolding wiped inspection_in
  work_short e is = record { inspected = rw e is; nodes-after = rw e; index_after = rw e }

  -- SPECIFICATION 2.4: after any other answer the work area is all zero; where a work buffer is longer than stated, the part beyond is unchanged.
  pub work_done : {ns ns' : List Row} {xs xs' : List ℕ} (done : Result Counts Answer) → work_nodes ≤ length ns → work_entries ≤ length xs
      → (work_nodes ≤ length (take work_nodes ns) → work_entries ≤ length (take work_entries xs) → told_of done ≡ inspection patch)
      → Call.told r ≡ told_of done
      → (rows : List Row) → length rows ≡ length (take work_nodes ns) → ns' ≡ filled no_node (rows ++ drop work_nodes ns) 0 work_nodes
      → (entries : List ℕ) → length entries ≡ length (take work_entries xs) → xs' ≡ filled 0 (entries ++ drop work_entries xs) 0 work_entries
      → InspectIs patch (record { nodes = ns; index = xs }) (record { nodes = ns'; index = xs' }) r
  unfolding inspection_in
  work_done {ns = ns} {xs = xs} done long longer is told rows same nodes_are entries same_entries index_is =
      let w : Work = record { nodes = ns; index = xs } in
      let h : work_nodes ≤ length (take work_nodes ns) = omega (arith, length-take-le work_nodes ns long) in
      let i : work_entries ≤ length (take work_entries xs) = omega (arith, length-take-le work_entries xs longer) in
      let all : enough w ≡ true = work_suffices_lem _ long longer in
      record {
        inspected = rw all (told ∙ is h i);
        nodes-after = nodes_are ∙ part-wiped work_nodes no_node ns rows long same ∙ ap (λ b. wiped b work_nodes no_node ns) (sym all);
        index_after = index_is ∙ part-wiped work_entries 0 xs entries longer same_entries ∙ ap (λ b. wiped b work_entries 0 xs) (sym all);
      }
