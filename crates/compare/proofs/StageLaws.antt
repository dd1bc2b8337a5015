-- Laws of the stages of the call, each for one way out of a stage.
use Rattle.std.specs.Prelude.{Result, Ok, Err, IsErrAnd}
use Rattle.std.proofs.lemmas.Result.{err_from_is_err_and}
use Prim.Native.Nat.{ℕ, suc, ◌*◌, ◌%◌, ◌^◌, ◌≤◌}
use native.Mathlib.Nat.{mod-eq_of_lt}
use native.Mathlib.Omega.{arith}
use mathlib.Core.Path.{◌≡◌, sym, ap, ap₂, subst, ◌∙◌}
use mathlib.Core.Bool.{true, false}
use mathlib.Core.List.{List, ◌++◌}
use lib.ListN.{length, take, drop}
use lib.Seq.{length-take-le}
use Rattle.spec.specs.Refusal.{work_too_short}
use Rattle.spec.specs.Fault.{number_of}
use Rattle.spec.specs.Limits.{max_bytes, max_depth, max_nodes, work_nodes, work_entries}
use Rattle.spec.specs.Forest.{size}
use Rattle.spec.specs.Value as Value
use Rattle.spec.specs.Value.{depth, nodes}
use Rattle.spec.proofs.ReadLaws.{read-depth}
use Rattle.spec.specs.Distinct.{Distinct}
use Rattle.spec.proofs.NameLaws.{proper_repeats}
use Rattle.comparison.specs.Comparison as Spec
use Rattle.comparison.specs.Comparison.{Compared}
use Rattle.comparison.specs.Call.{success, refusal, comparison, comparison_in}
use Rattle.comparison.proofs.CallTheorem.{first_long, second_long, first_refused, second_refused, both_read, few_names}
use Rattle.tape.specs.Layout.{document_row, patch_row}
use Rattle.tape.specs.Columns.{filled}
use Rattle.tape.specs.Fields.{Row, no_node}
use Rattle.tape.specs.Lent.{Texts}
use Rattle.tape.specs.Cell.{level, deep}
use Rattle.tape.proofs.Cells.{formed_kids}
use Rattle.tape.proofs.Rows.{end_here}
use Rattle.table.specs.Meaning.{meant}
use Rattle.table.proofs.MeaningLaws.{depth-meant, nodes-meant}
use Rattle.index.specs.Members.{TreeIndexed}
use Rattle.reader.specs.Work.{Work}
use Rattle.changes.specs.Site.{table}
use Rattle.changes.proofs.DocumentLaws.{few_nodes}
use Rattle.equality.specs.Compare.{Hints}
use Rattle.equality.proofs.SiblingLaws.{value-node, value-fit}
use Rattle.json_patch.specs.Call.{wiped}
use Rattle.json_patch.specs.Stages.{PatchHeld}
use Rattle.json_patch.specs.Reads.{LengthsAre, TextsRead}
use Rattle.json_patch.specs.declared.texts.Unread.{Unread}
use Rattle.json_patch.proofs.AnswerLaws.{work_suffices_lem}
use Rattle.json_patch.proofs.CallLaws.{part-wiped}
use Rattle.json_patch.proofs.ReadLaws.{long_by, unread_by, read_by}
use Rattle.counting.specs.Places.{NotedIs}
use Rattle.counting.specs.Values.{Tells, CountedIs}
use Rattle.counting.specs.declared.values.Comparison.{Comparison}
use Rattle.counting.proofs.PlaceLaws.{value-still}
use Rattle.compare.specs.Call as Call
use Rattle.compare.specs.Call.{as_compared, RefusalIs, enough, CompareIs}
use Rattle.compare.specs.Stages.{told_of, UnreadIs, ComparedIs, CheckedIs}
use Rattle.compare.specs.declared.answer.Answer.{Answer}

-- ---- the count has room
room : (n : ℕ) → n ≤ 2_047 * 2_047 → n % 2 ^ 64 ≡ n
room n h = mod-eq_of_lt (omega arith)

tells_whole : {a : Compared} {c : Comparison} → Tells a c → a.names ≤ 2_047 * 2_047 → as_compared c ≡ a
tells_whole {a} t few = ap₂ (λ s n. record { same = s; names = n }) t.verdict (t.counts ∙ room a.names few)

-- ---- the two values, of a table whose scratch rows have the places of the second
module _ {T : Texts} {xs : List Row} {p : Value.Value} (q : PatchHeld (table T xs) p) where
  second_few : nodes p ≤ max_nodes
  second_few = omega (arith, ap nodes q.means, nodes-meant T q.c q.kids, q.inside)

  second_shallow : depth p ≤ max_depth → level q.c (deep q.kids) ≤ max_depth
  second_shallow h = omega (arith, ap depth q.means, depth-meant T q.c q.kids (value-fit q.held).kind (formed_kids q.held.held.formed))

  second_distinct : Distinct (meant T q.c q.kids)
  second_distinct = subst Distinct (sym q.means) (proper_repeats q.proper.items)

pub values-compared : {T : Texts} {xs ys : List Row} {is js : List ℕ} {c : Comparison} → NotedIs xs ys patch_row max_depth
    → TreeIndexed patch_row ys is js → (Hints ys js patch_row → CountedIs (table T ys) document_row patch_row max_depth c)
    → ComparedIs T (record { nodes = xs; index = is }) c
values-compared {T} {c = c} noted indexed counted used v p d q shallow long =
    let first-size : used ≡ suc (size d.kids) = d.ends in
    let second-node = value-node q.held in
    let places = noted.held q.c q.kids second-node (omega arith) (omega (arith, end_here second-node, q.inside)) d.long (second_shallow q shallow) in
    let x = value-still noted.scratched d.held (omega (arith, d.few)) in
    let y = value-still noted.scratched q.held (omega (arith, q.inside)) in
    let low : depth (meant T d.c d.kids) ≤ max_depth = omega (arith, ap depth d.means, d.shallow) in
    let tells = counted (record { right = λ h. indexed.parents long }) d.c d.kids q.c q.kids x y low (second_distinct q) places in
    tells_whole (subst (λ a. Tells a c) (ap₂ Spec.compared d.means q.means) tells) (few_names v p (few_nodes d) (second_few q))

-- ---- the two texts read
-- what the exit of a `?` answers is the refusal of the text
refused_as : (T : Texts) (u : Unread) (r : Result Comparison Answer) → IsErrAnd r (UnreadIs u)
    → comparison T.document T.patch ≡ refusal (number_of u.fault.refusal) u.text u.fault.place → told_of r ≡ comparison T.document T.patch
unfolding told_of
refused_as T u r is e = let p = err_from_is_err_and r is in rw p.1 (p.2 ∙ sym e)

module _ {T : Texts} where
  pub lengths_refused : {s : Result (Unit {0}) Unread} {u : Unread} (r : Result Comparison Answer) → LengthsAre T s → s ≡ Err u → IsErrAnd r (UnreadIs u)
      → told_of r ≡ comparison T.document T.patch
  lengths_refused r is t handed =
      refused_as T _ r handed (long_by (λ n x place. comparison T.document T.patch ≡ refusal n x place) is t (first_long _ _) (second_long _ _))

  module _ (short : (length T.document ≤ max_bytes) × (length T.patch ≤ max_bytes)) {nodes : List Row} {s : Result ℕ Unread}
      (reads : TextsRead T nodes s) where
    pub texts_refused : {u : Unread} (r : Result Comparison Answer) → s ≡ Err u → IsErrAnd r (UnreadIs u) → told_of r ≡ comparison T.document T.patch
    texts_refused r t handed =
        refused_as T _ r handed
        (unread_by (λ n x place. comparison T.document T.patch ≡ refusal n x place) reads t
        (λ n place h. first_refused _ _ short.0 short.1 n place h)
        (λ n place v h i. second_refused _ _ short.0 short.1 v h n place i))

    pub texts_compared : {used : ℕ} (index : List ℕ) {c : Comparison} → s ≡ Ok used → work_entries ≤ length index
        → ComparedIs T (record { nodes = nodes; index = index }) c → told_of (Ok c) ≡ comparison T.document T.patch
    unfolding told_of
    texts_compared {used} index t long compares =
        read_by reads t λ v p h i d held short-texts.
        ap success (compares used v p d held (read-depth T.patch p i) long) ∙ sym (both_read _ _ short.0 short.1 v h p i)

-- ---- the work area lent in part, and cleared
module _ {T : Texts} {r : Answer} where
  -- SPECIFICATION 2.4: after a 1, no buffer has changed.
  pub work_short : {w : Work} → enough w ≡ false → RefusalIs work_too_short 0 0 r → CompareIs T w w r
  unfolding wiped comparison_in
  work_short e is = record { compared = rw e is; nodes-after = rw e; index_after = rw e }

  -- SPECIFICATION 2.4: after any other answer the work area is all zero; where a work buffer is longer than stated, the part beyond is unchanged.
  pub work_done : {ns ns' : List Row} {xs xs' : List ℕ} (done : Result Comparison Answer) → work_nodes ≤ length ns → work_entries ≤ length xs
      → CheckedIs T (record { nodes = take work_nodes ns; index = take work_entries xs }) done → Call.told r ≡ told_of done
      → (rows : List Row) → length rows ≡ length (take work_nodes ns) → ns' ≡ filled no_node (rows ++ drop work_nodes ns) 0 work_nodes
      → (entries : List ℕ) → length entries ≡ length (take work_entries xs) → xs' ≡ filled 0 (entries ++ drop work_entries xs) 0 work_entries
      → CompareIs T (record { nodes = ns; index = xs }) (record { nodes = ns'; index = xs' }) r
  unfolding comparison_in
  work_done {ns = ns} {xs = xs} done long longer is told rows same nodes_are entries same_entries index_is =
      let w : Work = record { nodes = ns; index = xs } in
      let h : work_nodes ≤ length (take work_nodes ns) = omega (arith, length-take-le work_nodes ns long) in
      let i : work_entries ≤ length (take work_entries xs) = omega (arith, length-take-le work_entries xs longer) in
      let all : enough w ≡ true = work_suffices_lem _ long longer in
      record {
        compared = rw all (told ∙ is h i);
        nodes-after = nodes_are ∙ part-wiped work_nodes no_node ns rows long same ∙ ap (λ b. wiped b work_nodes no_node ns) (sym all);
        index_after = index_is ∙ part-wiped work_entries 0 xs entries longer same_entries ∙ ap (λ b. wiped b work_entries 0 xs) (sym all);
      }
