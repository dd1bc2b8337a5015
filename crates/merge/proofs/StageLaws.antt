-- Laws of the stages of the call, each for one way out of a stage.
use Rattle.std.specs.Prelude.{Result, Ok, Err}
use Prim.Native.Nat.{ℕ, ◌≤◌, ◌<◌}
use native.Mathlib.Omega.{arith}
use mathlib.Core.Path.{◌≡◌, refl, sym, subst, ap, ◌∙◌}
use mathlib.Core.Bool.{Bool, true, false}
use mathlib.Core.List.{List, [], ◌++◌}
use lib.Dec.{leb}
use lib.ListN.{length, drop, get_or}
use borrow.Author.Tests.{le-ltb, lt-ltb, le-leb, lt-leb, leb-true, leb-false, ne_eqb}
use Rattle.spec.specs.Refusal.{work_too_short, input_too_long, too_many_nodes, output_too_short}
use Rattle.spec.specs.Limits.{max_bytes, max_depth, max_nodes}
use Rattle.spec.specs.Fault.{number_of}
use Rattle.spec.specs.Bytes.{Bytes}
use Rattle.spec.specs.Value as Value
use Rattle.spec.specs.Value.{Label, is_object, depth, depths, nodes}
use Rattle.spec.specs.Read.{read}
use Rattle.spec.specs.Write.{write}
use Rattle.spec.specs.Answer as Spec
use Rattle.spec.specs.Answer.{Lent, work_suffices, fitting}
use Rattle.spec.proofs.ReadLaws.{read-depth}
use Rattle.claims.proofs.ReadProper.{read_proper}
use Rattle.merging.specs.MergePatch.{merge_patch, merged_in, on_merge_patch, on_merge_document, merge_answer}
use Rattle.merging.proofs.ObjectLaws.{merge_other}
use Rattle.merging.proofs.MergeTheorem.{merging}
use Rattle.tape.specs.Layout.{patch_row, scratch_row, object_kind, rows}
use Rattle.tape.specs.Fields.{Row, kind_of}
use Rattle.tape.specs.Lent.{Texts, Table}
use Rattle.tape.proofs.Cells.{formed_fit}
use Rattle.tape.proofs.Held.{held_node}
use Rattle.tape.proofs.Rows.{kind_here}
use Rattle.table.specs.Meaning.{meant}
use Rattle.table.proofs.MeaningLaws.{is_object_label, nodes-meant}
use Rattle.writer.specs.Writing.{FitsIs, WriteIs}
use Rattle.writer.proofs.CallerLaws.{fits_is, written_whole}
use Rattle.changes.specs.Site.{table}
use Rattle.json_patch.specs.Stages.{as_answer}
use Rattle.json_patch.specs.Reads.{LengthsAre, TextsRead}
use Rattle.json_patch.specs.Call.{Answered, RefusalIs}
use Rattle.json_patch.specs.declared.texts.Unread.{Unread}
use Rattle.json_patch.specs.declared.answer.Answer.{Answer}
use Rattle.json_patch.proofs.ReadLaws.{long_by, unread_by, read_by}
use Rattle.json_patch.proofs.AnswerLaws.{answered-refusal, answered-success, answered_as, fitting_short, fitting_whole}
use Rattle.merge.specs.Trees.{Both, ValueAt, MergeTreesIs}
use Rattle.merge.specs.Stages.{WriteAtIs, RunMergeIs}

-- ---- a value written
module _ {w : Table} {at : ℕ} {v : Value.Value} (d : ValueAt w at v) (shallow : depth v ≤ max_depth) where
  low : depth (meant w.texts d.c d.kids) ≤ max_depth
  low = rw d.means shallow

  text_laid : {out out' : Bytes} {put : ℕ} → WriteIs w at max_depth out out' put → length (write v) ≤ length out
      → (put ≡ length (write v)) × (out' ≡ write v ++ drop (length (write v)) out)
  text_laid {out} {out'} {put} writes =
      subst (λ u. length (write u) ≤ length out → (put ≡ length (write u)) × (out' ≡ write u ++ drop (length (write u)) out)) d.means
      (λ room. written_whole d.held low writes room)

  module _ (out : Bytes) {told : Bool} (fits : FitsIs w at max_depth (length out) told) where
    text_fits : told ≡ leb (length (write v)) (length out)
    text_fits = fits_is d.held low (length out) fits ∙ ap (λ u. leb (length (write u)) (length out)) d.means

    -- the text does not fit
    pub text_refused : {r : Answer} → told ≡ false → RefusalIs output_too_short 0 0 0 r → Answered (fitting (length out) (write v)) out out r
    text_refused told-no is = answered_as (fitting_short _ _ (leb-false _ _ (sym text_fits ∙ told-no))) (answered-refusal is)

    -- it fits
    pub text_written : {out' : Bytes} {put : ℕ} → told ≡ true → WriteIs w at max_depth out out' put
        → Answered (fitting (length out) (write v)) out out' (as_answer (Ok put))
    unfolding as_answer
    text_written told-yes writes =
        let room : length (write v) ≤ length out = leb-true _ _ (sym text_fits ∙ told-yes) in
        let laid = text_laid writes room in
        answered_as (fitting_whole _ _ room) (answered-success (refl, refl, refl, refl, refl, laid.0) laid.1)

-- ---- the two merged
-- the depth is at most that of the deeper of the two
merged_shallow : {w : Table} {v p : Value.Value} → Both w v p → depth (merge_patch v p) ≤ max_depth
merged_shallow {w} {v} {p} both = omega (arith, merging.no_deeper v p, both.document.shallow, both.shallow)

module _ (room : ℕ) (merged : Value.Value) where
  merged_few : nodes merged ≤ max_nodes → merged_in room merged ≡ fitting room (write merged)
  unfolding merged_in
  merged_few h = rw (le-leb (nodes merged) max_nodes h)

  merged_many : max_nodes < nodes merged → merged_in room merged ≡ Spec.refusal too_many_nodes 0 0 0
  unfolding merged_in
  merged_many h = rw (lt-leb (nodes merged) max_nodes h)

module _ {w : Table} {kind : ℕ} (is : kind ≡ kind_of (get_or w.nodes patch_row [])) where
  kind_of_lem : {v p : Value.Value} (both : Both w v p) → kind ≡ both.patch.c.kind
  kind_of_lem both = is ∙ kind_here (held_node both.patch.held.held)

  -- what is no object replaces the whole
  pub run_whole : {out out' : Bytes} (r : Result ℕ Answer) → (kind ≡ object_kind → ⊥) → WriteAtIs w patch_row out out' r → RunMergeIs w out out' r
  run_whole {out} r other writes v p both =
      let held = both.patch in
      let fit = formed_fit held.held.held.formed in
      let no-object : is_object p.label ≡ false =
      ap (λ u. is_object u.label) (sym held.means) ∙ is_object_label w.texts held.c.kind held.c.value fit.kind
      ∙ ne_eqb held.c.kind 6 (λ k. other (kind_of_lem both ∙ k)) in
      let few : nodes p ≤ max_nodes = omega (arith, ap nodes held.means, nodes-meant w.texts held.c held.kids, held.inside) in
      answered_as (ap (merged_in (length out)) (merge_other v p no-object) ∙ merged_few (length out) p few)
      (writes p (record { c = held.c; kids = held.kids; held = held.held; means = held.means }) both.shallow)

  module _ (object : kind ≡ object_kind) {nodes' : List Row} {next : ℕ} (merges : MergeTreesIs w nodes' next) where
    pub run_many : {out : Bytes} {r : Answer} → rows < next → RefusalIs too_many_nodes 0 0 0 r → RunMergeIs w out out (Err r)
    unfolding as_answer
    run_many {out} many refusal v p both =
        let told = merges.held v p both (sym (kind_of_lem both) ∙ object) in
        answered_as (merged_many (length out) (merge_patch v p) (omega (arith, told.0))) (answered-refusal refusal)

    pub run-done : {out out' : Bytes} (r : Result ℕ Answer) → next ≤ rows → WriteAtIs (table w.texts nodes') scratch_row out out' r → RunMergeIs w out out' r
    run-done {out} r few writes v p both =
        let told = merges.held v p both (sym (kind_of_lem both) ∙ object) in
        answered_as (merged_few (length out) (merge_patch v p) (omega (arith, told.0))) (writes (merge_patch v p) (told.1 few) (merged_shallow both))

-- ---- the checks before a byte is read
module _ (D P : Bytes) (lent : Lent) where
  pub merge_work_short : work_suffices lent ≡ false → merge_answer D P lent ≡ Spec.refusal work_too_short 0 0 0
  unfolding merge_answer
  merge_work_short e = rw e

  module _ (enough : work_suffices lent ≡ true) where
    pub merge_document_long : max_bytes < length D → merge_answer D P lent ≡ Spec.refusal input_too_long 1 0 0
    unfolding merge_answer
    merge_document_long h = rw (enough, lt-ltb max_bytes (length D) h)

    pub merge_patch_long : length D ≤ max_bytes → max_bytes < length P → merge_answer D P lent ≡ Spec.refusal input_too_long 2 0 0
    unfolding merge_answer
    merge_patch_long h i = rw (enough, le-ltb max_bytes (length D) h, lt-ltb max_bytes (length P) i)

    pub merge_read : length D ≤ max_bytes → length P ≤ max_bytes → merge_answer D P lent ≡ on_merge_document lent.output (read D) P
    unfolding merge_answer
    merge_read h i = rw (enough, le-ltb max_bytes (length D) h, le-ltb max_bytes (length P) i)

-- only whether the work area suffices, and the room for the text, make a difference
pub merge_same : (D P : Bytes) (lent lent' : Lent) → work_suffices lent ≡ work_suffices lent' → lent.output ≡ lent'.output
    → merge_answer D P lent ≡ merge_answer D P lent'
unfolding merge_answer
merge_same D P lent lent' e o = rw (e, o)

-- ---- the two texts read
module _ {T : Texts} (lent : Lent) (enough : work_suffices lent ≡ true) where
  pub lengths_refused : {s : Result (Unit {0}) Unread} {u : Unread} → LengthsAre T s → s ≡ Err u
      → merge_answer T.document T.patch lent ≡ Spec.refusal (number_of u.fault.refusal) u.text 0 u.fault.place
  lengths_refused is t =
      long_by (λ n x place. merge_answer T.document T.patch lent ≡ Spec.refusal n x 0 place) is t (merge_document_long _ _ _ enough)
      (merge_patch_long _ _ _ enough)

  module _ (short : (length T.document ≤ max_bytes) × (length T.patch ≤ max_bytes)) {nodes : List Row} {s : Result ℕ Unread}
      (reads : TextsRead T nodes s) where
    pub texts_refused : {u : Unread} → s ≡ Err u
        → merge_answer T.document T.patch lent ≡ Spec.refusal (number_of u.fault.refusal) u.text 0 u.fault.place
    unfolding on_merge_document on_merge_patch
    texts_refused t =
        unread_by (λ n x place. merge_answer T.document T.patch lent ≡ Spec.refusal n x 0 place) reads t
        (λ n place h. merge_read _ _ _ enough short.0 short.1 ∙ rw h)
        (λ n place v h i. merge_read _ _ _ enough short.0 short.1 ∙ rw (h, i))

    pub texts_merged : {used : ℕ} {out out' : Bytes} (r : Result ℕ Answer) → s ≡ Ok used → lent.output ≡ length out
        → RunMergeIs (table T nodes) out out' r → Answered (merge_answer T.document T.patch lent) out out' (as_answer r)
    unfolding on_merge_document on_merge_patch
    texts_merged {used} r t room runs =
        read_by reads t λ v p h i d held short-texts.
        answered_as (merge_read _ _ _ enough short.0 short.1)
        (rw (room, h, i)
        (runs v p
        (record {
          used = used;
          document = d;
          document_proper = (read_proper T.document v h).0;
          patch = held;
          shallow = read-depth T.patch p i;
        })))
