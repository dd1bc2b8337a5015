-- The loop over the patch's members: what stands so far, and what a turn makes of it; and the object closed.
use Prim.Native.Nat.{ℕ, suc, ◌+◌, ◌-◌, ◌≤◌, ◌<◌, min}
use native.Mathlib.Omega.{arith}
use mathlib.Core.Path.{◌≡◌, refl, sym, ap, ◌∙◌, subst}
use mathlib.Core.Bool.{Bool, true, false}
use mathlib.Core.List.{List, []}
use lib.Dec.{eqb}
use lib.ListN.{length, get_or}
use borrow.Author.Tests.{eqb-true, lt-leb}
use Rattle.spec.specs.Bytes.{Text}
use Rattle.spec.specs.Forest.{Forest, none, tree, single, size, before, from, ◌⧺◌}
use Rattle.spec.specs.Value as Value
use Rattle.spec.specs.Value.{Label, Entry, is_object, has}
use Rattle.merging.specs.MergePatch.{is_null}
use Rattle.tape.specs.Layout.{scratch_row, object_kind, rows}
use Rattle.tape.specs.Fields.{Row, kind_of}
use Rattle.tape.specs.declared.fields.Cell.{Cell}
use Rattle.tape.specs.Rows.{end_of}
use Rattle.tape.specs.Map.{map_forest}
use Rattle.tape.specs.Lent.{Texts, Table}
use Rattle.tape.proofs.Forests.{size-cut, from_suc, first_tree, size_none}
use Rattle.tape.proofs.Held.{held_node}
use Rattle.tape.proofs.Rows.{end_here, kind_here}
use Rattle.table.specs.Meaning.{name_text, entry_of, members, meant}
use Rattle.table.proofs.MeaningLaws.{is_object_label}
use Rattle.table.proofs.AllLaws.{all_first, all_kids}
use Rattle.origin.specs.Value.{Members, leaf, named}
use Rattle.origin.specs.MergePatch.{merge_origin, merge_patch}
use Rattle.merge.specs.Bearing.{View, members_by, BearsMerge}
use Rattle.merge.specs.Parts.{gather, kept, appended, merged_members}
use Rattle.merge.specs.Building.{full, closed, CopyIs, BuiltNode}
use Rattle.merge.specs.Marks.{note_of, Changed, Marks, marks_tree}
use Rattle.merge.specs.Partner.{PatchObject}
use Rattle.merge.specs.Steps.{step_for, append_step}
use Rattle.merge.specs.Merged.{Target, Merges, MergeObjectIs}
use Rattle.merge.specs.declared.steps.Step.{Step}
use Rattle.merge.specs.declared.steps.Step.TheVariants.{Nothing, Copy, Merge}
use Rattle.merge.proofs.BuildLaws.{close_built}
use Rattle.merge.proofs.MarkLaws.{changed_self, changed_wider, marks_kept}
use Rattle.merge.proofs.StepLaws.{member-siblings, member-inside}
use Rattle.merge.proofs.LaidLaws.{with_nodes, Laid, laid_none, no_target, forget_view, target_origin}
use Rattle.merge.proofs.PartLaws.{⧺_none, ⧺_assoc, merge_other}
use Rattle.merge.proofs.KeepLaws.{step_nothing, step_copy, step_merge, null_label, Given, SoFar, object-now, end_now, so_far_framed, so_far_more}
use Rattle.merge.proofs.KeepLaws.{member-kind, member-copied, member-merged, member-changed, AllKept}

-- ---- what becomes of a member of the patch
module _ (target : Value.Members) (e : Entry) (ks : Value.Members) where
  appended_there : has e.name target ≡ true → appended target e ks ≡ none
  unfolding appended
  appended_there h = rw h

  appended_null : has e.name target ≡ false → is_null e.label ≡ true → appended target e ks ≡ none
  unfolding appended
  appended_null h z = rw (h, z)

  appended_some : has e.name target ≡ false → is_null e.label ≡ false
      → appended target e ks ≡ single (named e.name (merge_patch (leaf merge_origin Label.null_literal) (record { label = e.label; kids = ks })))
  unfolding appended
  appended_some h z = rw (h, z)

-- the first note, and the others
module _ {T : Texts} {ys : List ℕ} {met : Text → Bool} {row : ℕ} {c : Cell} {below after : Forest Cell} where
  marks_first : Marks T ys met row (tree c below after) → eqb (note_of ys row) 0 ≡ met (name_text T c.name)
  marks_first (marks_tree e m) = e

  marks_rest : Marks T ys met row (tree c below after) → Marks T ys met (row + 1 + size below) after
  marks_rest (marks_tree e m) = m

-- the step by the note
module _ (nodes : List Row) (row : ℕ) (ys : List ℕ) (near : row < scratch_row) where
  step_met : eqb (note_of ys row) 0 ≡ true → append_step nodes row ys ≡ Nothing
  unfolding append_step
  step_met h = rw (lt-leb scratch_row row near, h)

  step_unmet : eqb (note_of ys row) 0 ≡ false → append_step nodes row ys ≡ step_for (kind_of (get_or nodes row [])) row
  unfolding append_step
  step_unmet h = rw (lt-leb scratch_row row near, h)

-- ---- the loop: the patch's members from the k-th on are left
pub record Appending (o : View) (w : Table) (xs : List ℕ) (patch to levels last : ℕ) (c : Cell)
    (kids ts : Forest Cell) (nodes : List Row) (ys : List ℕ) (next row : ℕ) : Type 0 where
  pub given : Given o w xs patch to levels c kids
  pub k : ℕ
  pub place : row ≡ patch + 1 + size (before k kids)
  pub ends : last ≡ patch + 1 + size kids
  pub all : Members
  pub so_far : SoFar o w xs patch to kids all nodes ys next
  pub whole : merged_members (members_by o w.texts ts) (members w.texts kids)
      ≡ all ⧺ gather (appended (members w.texts ts)) (members w.texts (from k kids))
  pub marks : Marks w.texts ys (λ n. has n (members w.texts ts)) row (from k kids)

pub appending_start : {o : View} {w : Table} {xs : List ℕ} {patch to levels : ℕ} {c : Cell} {kids ts : Forest Cell} {nodes : List Row} {ys : List ℕ} {next : ℕ}
    → AllKept o w xs patch to levels c kids ts nodes ys next → (last : ℕ) → last ≡ end_of nodes patch
    → Appending o w xs patch to levels last c kids ts nodes ys next (patch + 1)
unfolding before from size merged_members
appending_start {o} {w} {patch = patch} {kids = kids} {ts = ts} q last e =
    record {
      given = q.given;
      k = 0;
      place = omega arith;
      ends = e ∙ end_now q.given q.so_far;
      all = _;
      so_far = q.so_far;
      whole =
          ap (λ f. gather (kept (members w.texts kids)) (members_by o w.texts ts) ⧺ gather (appended f) (members w.texts kids))
          (forget_view o w.texts ts);
      marks = q.marks;
    }

module _ {o : View} {w : Table} {xs : List ℕ} {patch to levels last : ℕ} {c : Cell} {kids ts : Forest Cell} {nodes : List Row} {ys : List ℕ} {next row : ℕ}
    (q : Appending o w xs patch to levels last c kids ts nodes ys next row) where
  object-here : PatchObject (with_nodes w nodes) patch c kids ys
  object-here = object-now q.given q.so_far

  long_here : length nodes ≡ rows
  long_here = q.so_far.framed.same_length ∙ q.given.long

  ones : BearsMerge o kids
  ones = all_kids q.given.merged

  module _ (more : row < last) (row' : ℕ) (goes : row' ≡ end_of nodes row) where
    turn : {A : Type 0} → ((d : Cell) (ds rest : Forest Cell) → from q.k kids ≡ tree d ds rest → A) → A
    turn then-it = first_tree (from q.k kids) (omega (arith, q.place, q.ends, size-cut q.k kids)) then-it

    module _ (d : Cell) (ds rest : Forest Cell) (is : from q.k kids ≡ tree d ds rest) where
      row_next : row' ≡ row + 1 + size ds
      row_next = goes ∙ end_here (held_node (member-siblings object-here q.k row is q.place).left.held)

      near : row < scratch_row
      near = omega (arith, member-inside object-here q.k row is q.place, q.given.object.inside)

      note_is : eqb (note_of ys row) 0 ≡ has (name_text w.texts d.name) (members w.texts ts)
      note_is = marks_first (subst (Marks w.texts ys (λ n. has n (members w.texts ts)) row) is q.marks)

      kind_is : kind_of (get_or nodes row []) ≡ d.kind
      kind_is = kind_here (held_node (member-siblings object-here q.k row is q.place).left.held)

      -- the first of those left is done
      appending_on : {nodes' : List Row} {ws : List ℕ} {next' : ℕ}
          → Laid o w.texts nodes next (appended (members w.texts ts) (entry_of w.texts d) (members w.texts ds)) nodes' next'
          → Changed nodes row (row + 1 + size ds) ys ws → Appending o w xs patch to levels last c kids ts nodes' ws next' row'
      unfolding map_forest gather size
      appending_on {nodes'} {ws} {next'} laid changed =
          let T : Texts = w.texts in
          let one : Members = appended (members T ts) (entry_of T d) (members T ds) in
          let behind : from (suc q.k) kids ≡ rest = from_suc q.k kids d ds rest is in
          let inside = member-inside object-here q.k row is q.place in
          let rest-marks = marks_rest (subst (Marks T ys (λ n. has n (members T ts)) row) is q.marks) in
          record {
            given = q.given;
            k = suc q.k;
            place = omega (arith, q.place, row_next, size-cut q.k kids, size-cut (suc q.k) kids, ap size is, ap size behind);
            ends = q.ends;
            all = q.all ⧺ one;
            so_far = so_far_more q.given q.so_far laid
                (changed_wider patch (patch + 1 + size kids) (omega (arith, inside)) (omega (arith, inside)) changed);
            whole =
                q.whole ∙ ap (λ f. q.all ⧺ gather (appended (members T ts)) (members T f)) is
                ∙ sym (⧺_assoc q.all one (gather (appended (members T ts)) (members T rest)))
                ∙ ap (λ f. (q.all ⧺ one) ⧺ gather (appended (members T ts)) (members T f)) (sym behind);
            marks =
                subst (λ f. Marks T ws (λ n. has n (members T ts)) row' f) (sym behind)
                (subst (λ n. Marks T ws (λ n. has n (members T ts)) n rest) (sym row_next)
                (marks_kept (λ r h. (changed.notes r (omega (arith, inside, q.given.object.behind))).1 h) rest-marks));
          }

      -- by the step
      module _ {step : Step} (steps : step ≡ append_step nodes row ys) where
        by_note : {A : Type 0} → (has (name_text w.texts d.name) (members w.texts ts) ≡ true → step ≡ Nothing → A)
            → (has (name_text w.texts d.name) (members w.texts ts) ≡ false → step ≡ step_for d.kind row → A) → A
        by_note {A} met unmet = go (has (name_text w.texts d.name) (members w.texts ts)) refl
          where
            go : (b : Bool) → has (name_text w.texts d.name) (members w.texts ts) ≡ b → A
            go true h = met h (steps ∙ step_met nodes row ys near (note_is ∙ h))
            go false h = unmet h (steps ∙ step_unmet nodes row ys near (note_is ∙ h) ∙ ap (λ n. step_for n row) kind_is)

        kind_low : d.kind ≤ object_kind
        kind_low = member-kind object-here long_here o ones q.k row is q.place

        laid_nothing : appended (members w.texts ts) (entry_of w.texts d) (members w.texts ds) ≡ none
            → Appending o w xs patch to levels last c kids ts nodes ys next row'
        laid_nothing e =
            appending_on (subst (λ f. Laid o w.texts nodes next f nodes next) (sym e) (laid_none (omega (arith, q.so_far.counted)))) changed_self

        nothing_appended : step ≡ Nothing → Appending o w xs patch to levels last c kids ts nodes ys next row'
        nothing_appended e =
            by_note (λ h _. laid_nothing (appended_there (members w.texts ts) (entry_of w.texts d) (members w.texts ds) h))
            (λ h told.
            laid_nothing (appended_null (members w.texts ts) (entry_of w.texts d) (members w.texts ds) h
            (null_label w.texts d kind_low ∙ step_nothing d.kind row (sym told ∙ e))))

        value-copied : (from : ℕ) → step ≡ Copy from → {nodes' : List Row} {next' : ℕ} → CopyIs nodes from next nodes' next'
            → Appending o w xs patch to levels last c kids ts nodes' ys next' row'
        value-copied from e {nodes'} {next'} copy =
            by_note (λ h told. absurd (let z : ◌≡◌ {A = ℕ} 0 1 = cc in omega arith))
            (λ h told.
            let (some-value, other, here) = step_copy d.kind row from (sym told ∙ e) in
            let no-null : is_null (entry_of w.texts d).label ≡ false = null_label w.texts d kind_low ∙ some-value in
            let no-object : is_object (entry_of w.texts d).label ≡ false = is_object_label w.texts d.kind d.value kind_low ∙ other in
            let x : Value.Value = meant w.texts d ds in
            appending_on
            (subst (λ f. Laid o w.texts nodes next f nodes' next')
            (ap (λ u. single (named (name_text w.texts d.name) u)) (sym (merge_other (leaf merge_origin Label.null_literal) x no-object))
            ∙ sym (appended_some (members w.texts ts) (entry_of w.texts d) (members w.texts ds) h no-null))
            (member-copied object-here long_here o ones q.k row is q.place (subst (λ n. CopyIs nodes n next nodes' next') (sym here) copy)))
            changed_self)

        object-merged : (from : ℕ) → step ≡ Merge from → {nodes' : List Row} {ws : List ℕ} {next' : ℕ}
            → MergeObjectIs (with_nodes w nodes) rows from next (levels - 1) ys nodes' ws next'
            → Appending o w xs patch to levels last c kids ts nodes' ws next' row'
        object-merged from e {nodes'} {ws} {next'} merges =
            by_note (λ h told. absurd (let z : ◌≡◌ {A = ℕ} 0 1 = cc in omega arith))
            (λ h told.
            let (some-value, object, here) = step_merge d.kind row from (sym told ∙ e) in
            let kind : d.kind ≡ object_kind = eqb-true d.kind 6 object in
            let no-null : is_null (entry_of w.texts d).label ≡ false = null_label w.texts d kind_low ∙ some-value in
            let merges-here = subst (λ n. MergeObjectIs (with_nodes w nodes) rows n next (levels - 1) ys nodes' ws next') (sym here) merges in
            appending_on
            (subst (λ f. Laid o w.texts nodes next f nodes' next')
            (sym (appended_some (members w.texts ts) (entry_of w.texts d) (members w.texts ds) h no-null))
            (member-merged object-here long_here o ones q.k row is q.place (no_target long_here) kind changed_self merges-here q.given.shallow))
            (member-changed object-here long_here o ones q.k row is q.place (no_target long_here) kind changed_self merges-here q.given.shallow))

    module _ {step : Step} (steps : step ≡ append_step nodes row ys) where
      pub appending_nothing : step ≡ Nothing → Appending o w xs patch to levels last c kids ts nodes ys next row'
      appending_nothing e = turn λ d ds rest is. nothing_appended d ds rest is steps e

      pub appending_copied : (from : ℕ) → step ≡ Copy from → {nodes' : List Row} {next' : ℕ} → CopyIs nodes from next nodes' next'
          → Appending o w xs patch to levels last c kids ts nodes' ys next' row'
      appending_copied from e copy = turn λ d ds rest is. value-copied d ds rest is steps from e copy

      pub appending_merged : (from : ℕ) → step ≡ Merge from → {nodes' : List Row} {ws : List ℕ} {next' : ℕ}
          → MergeObjectIs (with_nodes w nodes) rows from next (levels - 1) ys nodes' ws next'
          → Appending o w xs patch to levels last c kids ts nodes' ws next' row'
      appending_merged from e merges = turn λ d ds rest is. object-merged d ds rest is steps from e merges

  -- ---- behind the last turn: the object is closed
  pub appending_done : last ≤ row → {target k : ℕ} → Target o w target k ts → {nodes' : List Row} → nodes' ≡ closed nodes target patch to next
      → Merges o w patch to c kids k (merged_members (members_by o w.texts ts) (members w.texts kids)) xs nodes' ys next
  unfolding map_forest gather size
  appending_done over {target} {k} t {nodes'} is =
      let T : Texts = w.texts in
      let no_more : from q.k kids ≡ none = size_none (from q.k kids) (omega (arith, q.place, q.ends, size-cut q.k kids)) in
      let is_all : merged_members (members_by o T ts) (members T kids) ≡ q.all =
      q.whole ∙ ap (λ f. q.all ⧺ gather (appended (members T ts)) (members T f)) no_more ∙ ⧺_none q.all in
      let node = held_node q.given.object.held.held in
      let node-now = held_node object-here.held.held in
      let origin = target_origin t (so_far_framed q.given q.so_far) object-here.held (all_first q.given.merged) in
      record {
        changed = subst (λ n. Changed w.nodes patch n xs ys) (sym (end_here node)) q.so_far.changed;
        counted = q.so_far.counted ∙ ap (λ f. min (to + 1 + size f) full) (sym is_all);
        built = λ room.
            subst (λ xs. BuiltNode o T xs to next c k (merged_members (members_by o T ts) (members T kids))) (sym is)
            (subst (BuiltNode o T (closed nodes target patch to next) to next c k) (sym is_all)
            (close_built node-now (omega (arith, q.given.object.object)) target origin
            (omega (arith, q.so_far.counted)) (omega (arith, long_here)) (omega (arith, long_here))
            (q.so_far.built room)));
      }
