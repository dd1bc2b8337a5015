-- Laws of a change of the document at a location, which may be the root.
use Rattle.std.specs.Prelude.{Result, Ok, Err}
use Prim.Native.Nat.{ℕ, suc, ◌+◌, ◌≤◌, ◌<◌}
use native.Mathlib.Omega.{arith}
use mathlib.Core.Path.{◌≡◌, refl, ap, sym, ◌∙◌}
use mathlib.Core.Bool.{Bool, true, false}
use mathlib.Core.Logic.{◌⊎◌, inl, inr}
use mathlib.Core.List.{List, [], ◌∷◌}
use lib.ListN.{take, drop, get_or}
use borrow.Author.Tests.{leb-true, leb-false}
use Rattle.spec.specs.Outcome.{ok, ◌>>=◌}
use Rattle.spec.specs.Fault.{number_of}
use Rattle.spec.specs.declared.refusal.Refusal.TheVariants as Refusal
use Rattle.spec.specs.declared.refusal.Fault.{Fault}
use Rattle.spec.specs.Limits.{max_depth, max_nodes}
use Rattle.spec.specs.Bytes.{Bytes, Text}
use Rattle.spec.specs.Forest.{Forest, none, tree, size, ◌⧺◌}
use Rattle.spec.specs.Pointer.{Tokens}
use Rattle.origin.specs.Value as Value
use Rattle.origin.specs.Value.{depth}
use Rattle.origin.specs.Operation.{at_parent, insert_child, remove_child, replace_child, add_at, remove_at_path, replace_at_path}
use Rattle.tape.specs.Layout.{document_row}
use Rattle.tape.specs.Fields.{Row, span_of}
use Rattle.tape.specs.Rows.{WithinIs}
use Rattle.tape.specs.Columns.{used_after, spliced}
use Rattle.tape.specs.Tape.{tape, Holds, Laid}
use Rattle.tape.specs.declared.fields.Spelling.{Spelling}
use Rattle.tape.specs.declared.fields.Cell.{Cell}
use Rattle.tape.specs.Cell.{row_of, level, deep}
use Rattle.tape.specs.Lent.{Texts, Table}
use Rattle.tape.proofs.Columns.{Room}
use Rattle.tape.proofs.Cells.{formed_fit, formed_kids}
use Rattle.tape.proofs.Tape.{tape-single, holds_words}
use Rattle.tape.proofs.Changes.{tape_exchange, laid_splice}
use Rattle.tape.proofs.Held.{held_node}
use Rattle.table.specs.Meaning.{part_of}
use Rattle.pointer.specs.Tokens.{tokens_from, FirstOf}
use Rattle.pointer.specs.declared.answers.First.{First}
use Rattle.pointer.proofs.WalkLaws.{first_root, first_at, first-inside, first_malformed}
use Rattle.walk.specs.Bearing.{borne}
use Rattle.walk.proofs.PathLaws.{farther_none, first_of}
use Rattle.changes.specs.Site.{Standing, Offered, table}
use Rattle.changes.specs.Rows.{Frame, framed, unchanged}
use Rattle.changes.specs.Change.{ByToken, Makes, adds, removes, replaces, AlterIs}
use Rattle.changes.specs.Document.{Bearing, judged_bearing, ResultsBearing, results, refusal, AtLocationBearing}
use Rattle.changes.specs.Document.{MakesBearing, adds_bearing, removes_bearing, replaces_bearing}
use Rattle.changes.specs.Document.{ReplaceDocumentIs, ChangeDocumentIs, ChangeAtIs}
use Rattle.changes.specs.declared.answers.Change.{Change}
use Rattle.changes.specs.declared.answers.Change.TheVariants.{Add, Remove, Replace}
use Rattle.changes.proofs.LimitLaws.{bearing-deep, bearing_large, bearing_fits}
use Rattle.changes.proofs.KeptLaws.{formed_alone, behind_long, behind_spliced}
use Rattle.changes.proofs.BorneLaws.{depth-borne, nodes-borne}
use Rattle.changes.proofs.ForgetLaws.{change_at_is}
use Rattle.changes.proofs.PutLaws.{offered_size, offered_room}
use Rattle.changes.proofs.ChangeLaws.{same_answers}
use Rattle.changes.proofs.TokenLaws.{some_token}
use Rattle.changes.proofs.DocumentLaws.{nothing_around, document_site, standing_document, document-answers}

-- ---- another tree in the place of the whole document
-- whatever the table holds, the rows behind stay
pub replace_frame : {nodes nodes' : List Row} (used source count : ℕ) → used ≤ max_nodes → count ≤ max_nodes → nodes' ≡ spliced nodes used 0 used source count
    → Frame nodes nodes' (Ok count)
replace_frame used source count low few e = rw e (framed few (behind_spliced used 0 used source count (omega arith) (omega arith)))

-- the rows in use exchanged for those of a tree behind them
whole_exchanged : {xs after : List Row} {used source n : ℕ} {c x : Cell} {kids below rest : Forest Cell} → used ≡ suc (size kids) → n ≡ suc (size below)
    → Laid row_of xs used [] (tree c kids none) [] → Room xs used used source n → Holds row_of xs source (tree x below rest) after
    → Laid row_of (spliced xs used 0 used source n) n [] (tree x below none) []
unfolding size ◌⧺◌
whole_exchanged {xs} {used = used} {source} {n} {c} {x} {kids} {below} ends many l room h =
    let now : used_after used used n ≡ n = omega arith in
    let old : size (tree c kids none) ≡ used = omega arith in
    let given : take n (drop source xs) ≡ tape row_of (tree x below none) = holds_words n many h ∙ sym
    (tape-single row_of (record { root = x; kids = below })) in
    rw now at
    (laid_splice (tree x below none) 0 0 used source n l refl (omega arith) room
    (tape_exchange row_of none (tree c kids none) (tree x below none) none (tree c kids none) refl ∙ rw (old, given)))

module _ {w : Table} {source : ℕ} {x : Cell} {kids : Forest Cell} (offered : Offered w source x kids) where
  abbrev new-value : Value.Value
  new-value = borne w.texts x kids

  depth_offered : depth new-value ≡ level x (deep kids)
  depth_offered = depth-borne w.texts x kids (formed_fit offered.held.held.formed).kind (formed_kids offered.held.held.formed)

  pub replace_deep : {nodes' : List Row} {r : Bool} → WithinIs w.nodes source max_depth r → r ≡ false
      → ResultsBearing w.texts nodes' (judged_bearing (ok new-value)) (Err (record { refusal = Refusal.TooDeep; place = 0 }))
  unfolding number_of
  replace_deep is e =
      let l = leb-false (level x (deep kids)) max_depth (sym (is x kids (held_node offered.held.held)) ∙ e) in
      refusal (bearing-deep new-value (omega (arith, depth_offered)))

  module _ {r : Bool} (is : WithinIs w.nodes source max_depth r) (e : r ≡ true) (count : ℕ) (count_is : count ≡ span_of (get_or w.nodes source []) + 1) where
    shallow : depth new-value ≤ max_depth
    shallow =
        let l = leb-true (level x (deep kids)) max_depth (sym (is x kids (held_node offered.held.held)) ∙ e) in
        omega (arith, depth_offered)

    count-size : count ≡ suc (size kids)
    count-size = omega (arith, offered_size offered)

    pub replace_large : {nodes' : List Row} → max_nodes < count
        → ResultsBearing w.texts nodes' (judged_bearing (ok new-value)) (Err (record { refusal = Refusal.TooManyNodes; place = 0 }))
    unfolding number_of
    replace_large h = refusal (bearing_large new-value shallow (omega (arith, nodes-borne w.texts x kids, count-size)))

    pub replace_done : {nodes' : List Row} {used : ℕ} {v : Value.Value} → Bearing w used v → count ≤ max_nodes
        → nodes' ≡ spliced w.nodes used 0 used source count → ResultsBearing w.texts nodes' (judged_bearing (ok new-value)) (Ok count)
    unfolding document_site
    replace_done {used = used} b few is-spliced =
        let d = b.document in
        let whole = (document_site d).standing in
        let h = offered.held.held in
        let room : Room w.nodes used used source count = offered_room offered count count-size d.few (omega arith) in
        let same = behind_spliced {xs = w.nodes} used 0 used source count (omega (arith, d.few)) (omega arith) in
        let stands : Standing w.texts (spliced w.nodes used 0 used source count) count document_row nothing_around x kids =
        record {
          laid = whole_exchanged d.ends count-size whole.laid room h.rows;
          place = refl;
          formed = formed_alone h.formed;
          label = offered.held.label;
          sound = offered.held.sound;
        } in
        rw is-spliced
        (results (bearing_fits new-value shallow (omega (arith, nodes-borne w.texts x kids, count-size)))
        (standing_document stands few shallow (behind_long same d.long)))

-- ---- the whole document changed
module _ {nodes nodes' : List Row} {used : ℕ} {r : Result ℕ Fault} (change : Change) where
  pub document_put : (source : ℕ) → (change ≡ Add source) ⊎ (change ≡ Replace source) → ReplaceDocumentIs nodes nodes' used source r
      → ChangeDocumentIs nodes nodes' used change r
  unfolding add_at replace_at_path
  document_put source e is = record { frame = is.frame; bearing = λ T v d f makes. go T v d f makes e }
    where
      go : {c : Change} (T : Texts) (v : Value.Value) → Bearing (table T nodes) used v
          → (f : AtLocationBearing) → MakesBearing (table T nodes) c f → (c ≡ Add source) ⊎ (c ≡ Replace source)
          → ResultsBearing T nodes' (judged_bearing (f [] v)) r
      go T v d f (adds_bearing source' x kids offered) (inl g) = let same : source' ≡ source = cc in is.bearing T v d x kids (rw same at offered)
      go T v d f (adds_bearing source' x kids offered) (inr g) = absurd (let w : ◌≡◌ {A = ℕ} 0 1 = cc in omega arith)
      go T v d f removes_bearing (inl g) = absurd (let w : ◌≡◌ {A = ℕ} 0 1 = cc in omega arith)
      go T v d f removes_bearing (inr g) = absurd (let w : ◌≡◌ {A = ℕ} 0 1 = cc in omega arith)
      go T v d f (replaces_bearing source' x kids offered) (inl g) = absurd (let w : ◌≡◌ {A = ℕ} 0 1 = cc in omega arith)
      go T v d f (replaces_bearing source' x kids offered) (inr g) = let same : source' ≡ source = cc in is.bearing T v d x kids (rw same at offered)

-- the root is not removed
root_kept : {T : Texts} {nodes nodes' : List Row} {change : Change} (v : Value.Value) (f : AtLocationBearing)
    → MakesBearing (table T nodes) change f → change ≡ Remove
    → ResultsBearing T nodes' (judged_bearing (f [] v)) (Err (record { refusal = Refusal.RemoveOfRoot; place = 0 }))
unfolding remove_at_path ◌>>=◌ number_of
root_kept v f (adds_bearing source' x kids offered) e = absurd (let w : ◌≡◌ {A = ℕ} 0 1 = cc in omega arith)
root_kept v f removes_bearing e = refusal refl
root_kept v f (replaces_bearing source' x kids offered) e = absurd (let w : ◌≡◌ {A = ℕ} 0 1 = cc in omega arith)

pub document-kept : {nodes : List Row} {used : ℕ} (change : Change) → change ≡ Remove
    → ChangeDocumentIs nodes nodes used change (Err (record { refusal = Refusal.RemoveOfRoot; place = 0 }))
document-kept change e = record { frame = unchanged refl; bearing = λ T v d f makes. root_kept v f makes e }

-- ---- a change below the root is one at a parent
pub below_root : {C : Type 0} {w : Table} {change : Change} {f : AtLocationBearing} → MakesBearing w change f → (t : Text) (ts : Tokens) (v : Value.Value)
    → ((g : ByToken) → Makes w change g → f (t ∷ ts) v ≡ at_parent g t ts v → C) → C
unfolding add_at remove_at_path replace_at_path
below_root {w = w} (adds_bearing source x kids offered) t ts v then-it = then-it (insert_child (borne w.texts x kids)) (adds source x kids offered) refl
below_root removes_bearing t ts v then-it = then-it remove_child removes refl
below_root {w = w} (replaces_bearing source x kids offered) t ts v then-it =
    then-it (replace_child (borne w.texts x kids)) (replaces source x kids offered) refl

-- ---- a change at a location
-- a table with more rows in use than a document may have holds no document
pub change_too_many : {w : Table} {used : ℕ} {path : Spelling} {change : Change} (f : Fault) → max_nodes < used
    → ChangeAtIs w w.nodes used path change (Err f)
change_too_many f h = change_at_is (unchanged refl) (λ v d short ts p f makes. absurd (omega (arith, d.document.few)))

-- nor does one with none
pub change_too_few : {w : Table} {used : ℕ} {path : Spelling} {change : Change} (f : Fault) → used ≡ 0 → ChangeAtIs w w.nodes used path change (Err f)
change_too_few f h = change_at_is (unchanged refl) (λ v d short ts p f makes. absurd (omega (arith, d.document.ends)))

-- by where the pointer's tokens begin
module _ {w : Table} {used : ℕ} {path : Spelling} {change : Change} (pointer : Bytes) (pointer_is : pointer ≡ part_of w.texts path) (first : First)
    (is : FirstOf pointer first) where
  pub change_root : {nodes' : List Row} {r : Result ℕ Fault} → first ≡ First.Root → ChangeDocumentIs w.nodes nodes' used change r
      → ChangeAtIs w nodes' used path change r
  change_root e changes =
      change_at_is changes.frame λ v d short ts p f makes.
      let none : ts ≡ [] = first_root (part_of w.texts path) first (first_of pointer pointer_is is) ts e p.is in
      rw none (changes.bearing w.texts v d f makes)

  pub change_below : {nodes' : List Row} {r : Result ℕ Fault} {low : (used ≤ max_nodes) × (document_row < used) × (31 < max_depth)} (at : ℕ)
      → first ≡ First.At at → AlterIs w nodes' (record { used = used; row = document_row; below = 31; low = low }) path at change r
      → ChangeAtIs w nodes' used path change r
  unfolding document_site
  change_below at e alters =
      change_at_is alters.frame λ v b short ts p f makes.
      let d = b.document in
      let first_is = first_of pointer pointer_is is in
      let from : tokens_from (part_of w.texts path) at ≡ ok ts = first_at (part_of w.texts path) first first_is at ts e p.is in
      some_token (part_of w.texts path) at ts from λ t us some.
      below_root makes t us v λ g made same.
      let inside = first-inside (part_of w.texts path) first first_is at e in
      let answers = alters.held (document_site d) g t us made short inside (record { is = from ∙ ap ok some }) in
      let outcome : f ts v ≡ at_parent g t us (borne w.texts d.c d.kids) = ap (λ l. f l v) some ∙ same ∙ ap (at_parent g t us) (sym b.bears) in
      rw outcome (document-answers d alters.frame (same_answers (sym (farther_none _)) answers))

  pub change_malformed : (f : Fault) → first ≡ First.Malformed → ChangeAtIs w w.nodes used path change (Err f)
  change_malformed f e =
      change_at_is (unchanged refl) λ v d short ts p f makes.
      absurd (first_malformed (part_of w.texts path) first (first_of pointer pointer_is is) ts e p.is)
