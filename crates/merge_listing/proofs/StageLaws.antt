-- Laws of the stages of the call, each for one way out of a stage.
use Rattle.std.specs.Prelude.{Result, Ok, Err}
use Prim.Native.Nat.{ℕ, ◌+◌, ◌-◌, ◌≤◌, ◌<◌, min}
use native.Mathlib.Omega.{arith}
use mathlib.Core.Path.{◌≡◌, refl, sym, subst, ap, ◌∙◌}
use mathlib.Core.Bool.{Bool, true, false}
use mathlib.Core.List.{List, [], ◌++◌}
use lib.Dec.{leb}
use lib.ListN.{length, take, drop, get_or}
use borrow.Author.Tests.{leb-true, le-leb, lt-leb, le-ltb, lt-ltb, ne_eqb}
use Rattle.spec.specs.Refusal.{work_too_short, output_too_short, input_too_long, too_many_nodes}
use Rattle.spec.specs.Limits.{max_depth, max_bytes, max_nodes}
use Rattle.spec.specs.Outcome.{ok, refused}
use Rattle.spec.specs.Fault.{number_of}
use Rattle.spec.specs.Bytes.{Bytes}
use Rattle.spec.specs.Value as Plain
use Rattle.spec.specs.Value.{is_object}
use Rattle.spec.specs.Write.{write}
use Rattle.spec.specs.Read.{read}
use Rattle.spec.specs.Answer as Spec
use Rattle.spec.specs.Answer.{Lent, work_suffices}
use Rattle.merging.proofs.MergeTheorem.{merging}
use Rattle.tape.specs.Layout.{patch_row, scratch_row, object_kind, rows}
use Rattle.tape.specs.Fields.{Row, kind_of}
use Rattle.tape.specs.Lent.{Texts, Table}
use Rattle.tape.specs.Rows.{end_of}
use Rattle.tape.proofs.Cells.{formed_fit}
use Rattle.tape.proofs.Held.{held_node}
use Rattle.tape.proofs.Rows.{kind_here, end_here}
use Rattle.table.specs.Meaning.{meant}
use Rattle.table.proofs.MeaningLaws.{is_object_label}
use Rattle.writer.specs.Writing.{FitsIs, WriteIs}
use Rattle.writer.proofs.CallerLaws.{fits_is, written_whole}
use Rattle.origin.specs.Value as Value
use Rattle.origin.specs.Value.{forget, painted, origins, nodes, depth}
use Rattle.origin.specs.MergePatch.{merge_origin, merge_patch}
use Rattle.origin.specs.Answer.{unlisted, Lending, fitting, merged_in, on_merge_patch, on_merge_document, merge_answer}
use Rattle.origin.proofs.ForgetLaws.{forget-painted}
use Rattle.origin.proofs.ForgetMerge.{forget-merge_patch}
use Rattle.walk.specs.Bearing.{borne}
use Rattle.walk.proofs.Children.{forget-borne}
use Rattle.changes.specs.Site.{table}
use Rattle.changes.proofs.BorneLaws.{nodes-borne}
use Rattle.json_patch.specs.Call.{RefusalIs}
use Rattle.json_patch.specs.Stages.{as_answer}
use Rattle.json_patch.specs.Reads.{LengthsAre, TextsRead}
use Rattle.json_patch.specs.declared.texts.Unread.{Unread}
use Rattle.json_patch.specs.declared.answer.Answer.{Answer}
use Rattle.json_patch.proofs.AnswerLaws.{answered-success}
use Rattle.json_patch.proofs.ReadLaws.{long_by, unread_by}
use Rattle.listing.specs.Lists.{entries}
use Rattle.listing.specs.Call.{Outputs, ListedIs}
use Rattle.listing.proofs.StageLaws.{listed-refusal, listed_as}
use Rattle.merge.specs.Building.{full}
use Rattle.merge.specs.Bearing.{as_they_are}
use Rattle.merge.specs.Trees.{Both, BothBearing, BearingAt, MergeTreesIs}
use Rattle.merge.proofs.LaidLaws.{value-merged}
use Rattle.merge.proofs.PartLaws.{merge_other}
use Rattle.merge_listing.specs.Stamps.{StampBothIs}
use Rattle.merge_listing.specs.Stages.{WriteListedIs, RunListedIs}
use Rattle.merge_listing.proofs.ListLaws.{rows-counted, listed_tree}

-- ---- a value written and listed
module _ {w : Table} {at : ℕ} {v : Value.Value} (b : BearingAt w at v) (shallow : depth v ≤ max_depth) (o : Outputs) {told : Bool}
    (fits : FitsIs w at max_depth (length o.output) told) where
  plain_is : meant w.texts b.c b.kids ≡ forget v
  plain_is = sym (forget-borne w.texts b.c b.kids) ∙ ap forget b.bears

  low : Plain.depth (meant w.texts b.c b.kids) ≤ max_depth
  low = rw plain_is shallow

  text_fits : told ≡ leb (length (write (forget v))) (length o.output)
  text_fits = fits_is b.held low (length o.output) fits ∙ ap (λ u. leb (length (write u)) (length o.output)) plain_is

  -- the text does not fit
  pub text_short : {r : Answer} → told ≡ false → RefusalIs output_too_short 0 0 0 r
      → ListedIs (fitting (length o.output) (length o.list) v) o o r
  unfolding fitting
  text_short told-no is = rw (sym text_fits ∙ told-no) (listed-refusal is)

  module _ {count : ℕ} (counts : count ≡ nodes v) (fit : told ≡ true) where
    -- the list does not
    pub list_short : {r : Answer} → length o.list < count → RefusalIs output_too_short 0 0 0 r
        → ListedIs (fitting (length o.output) (length o.list) v) o o r
    unfolding fitting
    list_short short is =
        let less : length o.list < length (origins v) = omega (arith, rows-counted b counts) in
        rw (sym text_fits ∙ fit, lt-leb (length (origins v)) (length o.list) less) (listed-refusal is)

    text_laid : {out' : Bytes} {put : ℕ} → WriteIs w at max_depth o.output out' put
        → (put ≡ length (write (forget v))) × (out' ≡ write (forget v) ++ drop (length (write (forget v))) o.output)
    text_laid {out'} {put} writes =
        subst (λ u. length (write u) ≤ length o.output → (put ≡ length (write u)) × (out' ≡ write u ++ drop (length (write u)) o.output)) plain_is
        (λ room. written_whole b.held low writes room) (leb-true _ _ (sym text_fits ∙ fit))

    -- both do
    pub both-written : {o' : Outputs} {put : ℕ} → count ≤ length o.list → WriteIs w at max_depth o.output o'.output put
        → o'.list ≡ entries (take count (take (length w.nodes - at) (drop at w.nodes))) o.list
        → ListedIs (fitting (length o.output) (length o.list) v) o o' (as_answer (Ok put))
    unfolding fitting as_answer
    both-written room writes lists =
        let laid = text_laid writes in
        let enough : length (origins v) ≤ length o.list = omega (arith, rows-counted b counts) in
        rw (sym text_fits ∙ fit, le-leb (length (origins v)) (length o.list) enough)
        (record { answered = answered-success (refl, refl, refl, refl, refl, laid.0) laid.1; list = lists ∙ listed_tree b counts o.list room })

-- ---- the two merged
module _ (room list : ℕ) (merged : Value.Value) where
  merged_few : nodes merged ≤ max_nodes → merged_in room list merged ≡ fitting room list merged
  unfolding merged_in
  merged_few h = rw (le-leb (nodes merged) max_nodes h)

  merged_many : max_nodes < nodes merged → merged_in room list merged ≡ unlisted (Spec.refusal too_many_nodes 0 0 0)
  unfolding merged_in
  merged_many h = rw (lt-leb (nodes merged) max_nodes h)

-- the depth is at most that of the deeper of the two
merged_shallow : {w : Table} {v : Value.Value} {p : Plain.Value} → BothBearing w v p → depth (merge_patch v p) ≤ max_depth
merged_shallow {w} {v} {p} b =
    omega (arith, ap Plain.depth (forget-merge_patch v p), merging.no_deeper (forget v) p, b.both.document.shallow, b.both.shallow)

module _ {w : Table} {ns : List Row} {used : ℕ} (stamps : StampBothIs w.nodes ns used) {kind : ℕ} (is : kind ≡ kind_of (get_or ns patch_row [])) where
  bearing : {v p : Plain.Value} (both : Both w v p) → both.used ≡ used → BothBearing (table w.texts ns) (painted 0 v) p
  bearing {v} {p} both u = stamps w.texts v p both u

  kind_of_lem : {v p : Plain.Value} (both : Both w v p) (u : both.used ≡ used) → kind ≡ (bearing both u).both.patch.c.kind
  kind_of_lem both u = is ∙ kind_here (held_node (bearing both u).both.patch.held.held)

  -- what is no object replaces the whole
  pub run_whole : {o o' : Outputs} {end : ℕ} (r : Result ℕ Answer) → (kind ≡ object_kind → ⊥) → end ≡ end_of ns patch_row
      → WriteListedIs (table w.texts ns) o o' patch_row (end - patch_row) r → RunListedIs w o o' used r
  run_whole {o} {o'} {end} r other e writes v p both u =
      let b = bearing both u in
      let h = b.both.patch in
      let fit = formed_fit h.held.held.formed in
      let no-object : is_object p.label ≡ false =
      ap (λ (q : Plain.Value). is_object q.label) (sym h.means) ∙ is_object_label w.texts h.c.kind h.c.value fit.kind
      ∙ ne_eqb h.c.kind 6 (λ k. other (kind_of_lem both u ∙ k)) in
      let bears : borne w.texts h.c h.kids ≡ painted merge_origin p =
      value-merged as_they_are w.texts b.patch ∙ ap (painted merge_origin) h.means in
      let count = ap nodes (sym bears) ∙ nodes-borne w.texts h.c h.kids in
      let few : nodes (painted merge_origin p) ≤ max_nodes = omega (arith, count, h.inside) in
      let low : depth (painted merge_origin p) ≤ max_depth = omega (arith, ap Plain.depth (forget-painted merge_origin p), b.both.shallow) in
      listed_as (ap (merged_in (length o.output) (length o.list)) (merge_other (painted 0 v) p no-object) ∙ merged_few _ _ (painted merge_origin p) few)
      (writes (painted merge_origin p) (record { c = h.c; kids = h.kids; held = h.held; bears = bears }) low
      (omega (arith, count, e, end_here (held_node h.held.held))))

  module _ (object : kind ≡ object_kind) {nodes' : List Row} {next : ℕ} (merges : MergeTreesIs (table w.texts ns) nodes' next) where
    counted : {v p : Plain.Value} (both : Both w v p) (u : both.used ≡ used)
        → next ≡ min (scratch_row + nodes (merge_patch (painted 0 v) p)) full
    counted {v} {p} both u =
        let told = merges.held (forget (painted 0 v)) p (bearing both u).both (sym (kind_of_lem both u) ∙ object) in
        told.0 ∙ ap (λ q. min (scratch_row + Plain.nodes q) full) (sym (forget-merge_patch (painted 0 v) p))

    pub run_many : {o : Outputs} {r : Answer} → rows < next → RefusalIs too_many_nodes 0 0 0 r → RunListedIs w o o used (Err r)
    unfolding as_answer
    run_many {o} many refusal v p both u =
        listed_as (merged_many (length o.output) (length o.list) (merge_patch (painted 0 v) p) (omega (arith, counted both u))) (listed-refusal refusal)

    pub run-done : {o o' : Outputs} (r : Result ℕ Answer) → next ≤ rows
        → WriteListedIs (table w.texts nodes') o o' scratch_row (next - scratch_row) r → RunListedIs w o o' used r
    run-done {o} r few writes v p both u =
        let b = bearing both u in
        listed_as (merged_few (length o.output) (length o.list) (merge_patch (painted 0 v) p) (omega (arith, counted both u)))
        (writes (merge_patch (painted 0 v) p) (merges.bearing (painted 0 v) p b (sym (kind_of_lem both u) ∙ object) few)
        (merged_shallow b) (omega (arith, counted both u)))

-- ---- the checks before a byte is read
module _ (D P : Bytes) (lent : Lending Lent) where
  pub merge_work_short : work_suffices lent.call ≡ false → merge_answer D P lent ≡ unlisted (Spec.refusal work_too_short 0 0 0)
  unfolding merge_answer
  merge_work_short e = rw e

  module _ (enough : work_suffices lent.call ≡ true) where
    merge_document_long : max_bytes < length D → merge_answer D P lent ≡ unlisted (Spec.refusal input_too_long 1 0 0)
    unfolding merge_answer
    merge_document_long h = rw (enough, lt-ltb max_bytes (length D) h)

    merge_patch_long : length D ≤ max_bytes → max_bytes < length P → merge_answer D P lent ≡ unlisted (Spec.refusal input_too_long 2 0 0)
    unfolding merge_answer
    merge_patch_long h i = rw (enough, le-ltb max_bytes (length D) h, lt-ltb max_bytes (length P) i)

    -- both texts are short enough: what is read of them
    module _ (h : length D ≤ max_bytes) (i : length P ≤ max_bytes) where
      merge_read : merge_answer D P lent ≡ on_merge_document lent.call.output lent.list (read D) P
      unfolding merge_answer
      merge_read = rw (enough, le-ltb max_bytes (length D) h, le-ltb max_bytes (length P) i)

      merge_document_unread : {number place : ℕ} → read D ≡ refused number place → merge_answer D P lent ≡ unlisted (Spec.refusal number 1 0 place)
      unfolding on_merge_document
      merge_document_unread e = merge_read ∙ ap (λ q. on_merge_document lent.call.output lent.list q P) e

      merge_patch_unread : {v : Plain.Value} {number place : ℕ} → read D ≡ ok v → read P ≡ refused number place
          → merge_answer D P lent ≡ unlisted (Spec.refusal number 2 0 place)
      unfolding on_merge_document on_merge_patch
      merge_patch_unread {v} e f =
          merge_read ∙ ap (λ q. on_merge_document lent.call.output lent.list q P) e ∙ ap (on_merge_patch lent.call.output lent.list v) f

      pub merge_applied : {v p : Plain.Value} → read D ≡ ok v → read P ≡ ok p
          → merge_answer D P lent ≡ merged_in lent.call.output lent.list (merge_patch (painted 0 v) p)
      unfolding on_merge_document on_merge_patch
      merge_applied {v} e f =
          merge_read ∙ ap (λ q. on_merge_document lent.call.output lent.list q P) e ∙ ap (on_merge_patch lent.call.output lent.list v) f

-- what the two texts come to
module _ {T : Texts} (lent : Lending Lent) (enough : work_suffices lent.call ≡ true) where
  pub lengths_refused : {s : Result (Unit {0}) Unread} {u : Unread} → LengthsAre T s → s ≡ Err u
      → merge_answer T.document T.patch lent ≡ unlisted (Spec.refusal (number_of u.fault.refusal) u.text 0 u.fault.place)
  lengths_refused is t =
      long_by (λ n x place. merge_answer T.document T.patch lent ≡ unlisted (Spec.refusal n x 0 place)) is t (merge_document_long _ _ _ enough)
      (merge_patch_long _ _ _ enough)

  pub texts_refused : (length T.document ≤ max_bytes) × (length T.patch ≤ max_bytes) → {nodes : List Row} {s : Result ℕ Unread} {u : Unread}
      → TextsRead T nodes s → s ≡ Err u
      → merge_answer T.document T.patch lent ≡ unlisted (Spec.refusal (number_of u.fault.refusal) u.text 0 u.fault.place)
  texts_refused short reads t =
      unread_by (λ n x place. merge_answer T.document T.patch lent ≡ unlisted (Spec.refusal n x 0 place)) reads t
      (λ n place h. merge_document_unread _ _ _ enough short.0 short.1 h)
      (λ n place v h i. merge_patch_unread _ _ _ enough short.0 short.1 h i)

-- only whether the work area suffices, and the rooms, make a difference
pub merge_same : (D P : Bytes) (lent lent' : Lending Lent) → work_suffices lent.call ≡ work_suffices lent'.call
    → lent.call.output ≡ lent'.call.output → lent.list ≡ lent'.list → merge_answer D P lent ≡ merge_answer D P lent'
unfolding merge_answer
merge_same D P lent lent' e o l = rw (e, o, l)
