-- Laws of a move between two elements of one array: from the array up to the document, along both pointers.
use Rattle.std.specs.Prelude.{Option, Some, None, Result, Ok, Err}
use Rattle.std.specs.Result.{result_ok}
use Prim.Native.Nat.{ℕ, suc, ◌+◌, ◌-◌, ◌≤◌, ◌<◌}
use native.Mathlib.Omega.{arith}
use mathlib.Core.Path.{◌≡◌, refl, ap, sym, ◌∙◌, subst}
use mathlib.Core.Bool.{Bool, true, false, ◌&&◌}
use mathlib.Core.List.{List, [], ◌∷◌}
use lib.ListN.{length, take, drop, get_or, length-drop}
use lib.Seq.{length-take-le}
use borrow.Author.Tests.{leb-true}
use Rattle.spec.specs.Outcome.{ok}
use Rattle.spec.specs.declared.refusal.Refusal.{Refusal}
use Rattle.spec.specs.Limits.{max_depth, max_nodes}
use Rattle.spec.specs.Bytes.{Bytes, Text}
use Rattle.spec.specs.Forest.{count}
use Rattle.spec.specs.Pointer.{Tokens}
use Rattle.spec.specs.Value as Plain
use Rattle.spec.specs.Value.{same_text}
use Rattle.spec.proofs.TextLaws.{both_true, same_text_true}
use Rattle.origin.specs.Value as Value
use Rattle.origin.specs.Pointer.{child_at}
use Rattle.origin.specs.Operation.{put, move_to}
use Rattle.text.specs.Decode.{text_of}
use Rattle.tape.specs.Layout.{no_text, array_kind, document_row, patch_row, scratch_row, rows}
use Rattle.tape.specs.Fields.{Row, no_node, kind_of, name_of}
use Rattle.tape.specs.Columns.{inside, copied, moved}
use Rattle.tape.specs.Rows.{child_row}
use Rattle.tape.specs.declared.fields.Spelling.{Spelling}
use Rattle.tape.specs.declared.fields.Name.{Name}
use Rattle.tape.specs.Lent.{Texts, Table}
use Rattle.tape.proofs.Cells.{container_fit}
use Rattle.tape.proofs.Columns.{drop-replaced}
use Rattle.tape.proofs.Forests.{count_le_size}
use Rattle.tape.proofs.Held.{held_node}
use Rattle.tape.proofs.Rows.{kind_here}
use Rattle.table.specs.Meaning.{part_of, name_text}
use Rattle.pointer.specs.Tokens.{FirstOf, TokenAt, token_bytes}
use Rattle.pointer.specs.declared.answers.First.{First}
use Rattle.pointer.specs.declared.answers.Token.{Token}
use Rattle.pointer.proofs.WalkLaws.{first_at, first-inside, next_token, next_order}
use Rattle.walk.specs.Bearing.{borne}
use Rattle.walk.specs.Names.{IsToken, Short, TokenNameIs}
use Rattle.walk.specs.Path.{TokensFrom}
use Rattle.walk.specs.Step.{StepIs}
use Rattle.walk.proofs.PathLaws.{first_of}
use Rattle.changes.specs.Site.{Site, table}
use Rattle.changes.specs.Rows.{SamePatch}
use Rattle.changes.specs.Change.{ChangeAnswers, done}
use Rattle.changes.specs.Document.{Document, Bearing, judged_bearing, results}
use Rattle.changes.proofs.PatchLaws.{patch_same, patch_then, patch_scratch}
use Rattle.changes.proofs.LimitLaws.{limited_whole, limited_same}
use Rattle.changes.proofs.SiteLaws.{site_held, site_fit, site_deep, child_name}
use Rattle.changes.proofs.ChangeLaws.{the_child}
use Rattle.changes.proofs.AlterLaws.{child_site, site-value, up_same}
use Rattle.changes.proofs.TokenLaws.{some_token, one_left, more_left}
use Rattle.changes.proofs.DocumentLaws.{document_site, standing_document}
use Rattle.shift.specs.Shift.{TurnIs, turned_front, turned_back, not_turned, Moves, ChildShiftIs, child_shifted, child-kept}
use Rattle.shift.specs.Shift.{PairAt, pair_last, pair_apart, Paired, paired_last, paired_next, paired_apart, MovedWithin, ShiftIs, shifted, kept}
use Rattle.shift.specs.declared.within.Pair.{Pair}
use Rattle.shift.proofs.MoveLaws.{moved_up, moved_here}
use Rattle.shift.proofs.ShiftLaws.{turn_shifts}

-- ---- the patch's rows, which none of the moves reaches
patch-moved : (xs : List Row) (to start n : ℕ) → to + n ≤ patch_row → SamePatch xs (moved xs to start n)
unfolding moved copied inside
patch-moved xs to start n h = go (inside xs to n && inside xs start n) refl
  where
    go : (b : Bool) → (inside xs to n && inside xs start n) ≡ b → SamePatch xs (moved xs to start n)
    go true e =
        let both = both_true (inside xs to n) (inside xs start n) e in
        let there : to + n ≤ length xs = leb-true (to + n) (length xs) both.0 in
        let start-there : start + n ≤ length xs = leb-true (start + n) (length xs) both.1 in
        let many : length (take n (drop start xs)) ≡ n = length-take-le n (drop start xs) (rw length-drop (omega arith)) in
        record { is = rw e (ap (take max_nodes) (drop-replaced xs to n (take n (drop start xs)) (omega arith) many patch_row h)) }
    go false e = record { is = rw e }

turn_patch : {xs ys : List Row} {used at to : ℕ} {r : Bool} → used ≤ max_nodes → TurnIs xs ys used at to r → SamePatch xs ys
turn_patch {xs} {used = used} {at} {to} few (turned_front n n-is low inside is) =
    let aside : List Row = moved xs scratch_row at n in
    rw is
    (patch_then (patch_scratch at n)
    (patch_then (patch-moved aside (to + n) to (at - to) (omega arith)) (patch-moved (moved aside (to + n) to (at - to)) to scratch_row n (omega arith))))
turn_patch {xs} {used = used} {at} {to} few (turned_back n m n-is low ends inside is) =
    let aside : List Row = moved xs scratch_row at n in
    rw is
    (patch_then (patch_scratch at n)
    (patch_then (patch-moved aside at (at + n) m (omega arith)) (patch-moved (moved aside at (at + n) m) (at + m) scratch_row n (omega arith))))
turn_patch few (not_turned is) = rw is patch_same

-- ---- an element moved to the place of another
module _ {w : Table} {used at to : ℕ} {p : Pair} (few : used ≤ max_nodes) (kind : ℕ) (kind_is : kind ≡ kind_of (get_or w.nodes p.parent []))
    (array : kind ≡ array_kind) (first : Result ℕ Refusal) (first_is : StepIs w p.parent p.token first) (first_at : first ≡ Ok at)
    (second : Result ℕ Refusal) (second_is : StepIs w p.parent p.other second) (second_at : second ≡ Ok to)
    (name : Name) (name_is : name ≡ name_of (get_or w.nodes at no_node)) (nameless : name.text.form ≡ no_text) where
  moves_by : {nodes' : List Row} {r : Bool} → TurnIs w.nodes nodes' used at to r → r ≡ true → (levels : ℕ) (z : Site w used p.parent levels)
      → IsToken w.texts p.token → IsToken w.texts p.other
      → (rows ≤ length nodes') × Moves z nodes' (name_text w.texts p.token ∷ []) (name_text w.texts p.other ∷ [])
  moves_by turn e levels z t u =
      the_child first first_is z t first_at λ i ith low i-place.
      the_child second second_is z u second_at λ j jth below j-place.
      let kind_here : z.c.kind ≡ array_kind = sym (kind_is ∙ kind_here (held_node (site_held z).held)) ∙ array in
      let shifts = turn_shifts z (omega arith) i j low below i-place j-place turn e in
      let none : _ ≡ no_text = ap (λ (n : Name). n.text.form) (sym (name_is ∙ child_name z i low i-place)) ∙ nameless in (
        shifts.0,
        record { result = _; is = moved_here w.texts z.c z.kids (site_fit z).kind kind_here _ _ i j ith jth low none; answers = shifts.1 },
      )

  pub element_shifts : {nodes' : List Row} {r : Bool} → TurnIs w.nodes nodes' used at to r → ChildShiftIs w nodes' used p r
  element_shifts {nodes'} turn = go turn (turn_patch few turn) (moves_by turn)
    where
      go : {r : Bool} → TurnIs w.nodes nodes' used at to r → SamePatch w.nodes nodes' → (r ≡ true → (levels : ℕ) (z : Site w used p.parent levels)
          → IsToken w.texts p.token → IsToken w.texts p.other
          → (rows ≤ length nodes') × Moves z nodes' (name_text w.texts p.token ∷ []) (name_text w.texts p.other ∷ []))
          → ChildShiftIs w nodes' used p r
      go (turned_front n n-is low inside is) patch moves = child_shifted patch (moves refl)
      go (turned_back n m n-is low ends inside is) patch moves = child_shifted patch (moves refl)
      go (not_turned is) patch moves = child-kept is

-- ---- along both pointers
module _ (w : Table) (nodes' : List Row) (used : ℕ) where
  -- what is known of the node that both lead to
  abbrev Ends : Option Pair → Type 0
  Ends (Some p) =
      (levels : ℕ) (z : Site w used p.parent levels) → IsToken w.texts p.token → IsToken w.texts p.other
      → (rows ≤ length nodes') × Moves z nodes' (name_text w.texts p.token ∷ []) (name_text w.texts p.other ∷ [])
  Ends None = ⊥

  abbrev Along : {row levels : ℕ} → Site w used row levels → Tokens → Tokens → Type 0
  Along z ts us = (rows ≤ length nodes') × Moves z nodes' ts us

module _ {w : Table} {nodes' : List Row} {used : ℕ} where
  -- through a child that both pass
  through : {row levels : ℕ} (z : Site w used row levels) (token : Name) (k : ℕ)
      (named : child_at (name_text w.texts token) (borne w.texts z.c z.kids) ≡ ok k) (kth : k < count z.kids) (inner : ℕ)
      (place : inner ≡ child_row row k z.kids) (a b : Text) (ts us : Tokens)
      → ((below : ℕ) (y : Site w used inner below) → Along w nodes' used y (a ∷ ts) (b ∷ us))
      → Along w nodes' used z (name_text w.texts token ∷ a ∷ ts) (name_text w.texts token ∷ b ∷ us)
  through {levels = levels} z token k named kth inner place a b ts us moves =
      let container = container_fit (site_fit z) (omega (arith, count_le_size z.kids)) in
      let one_less : levels ≡ suc (levels - 1) = omega (arith, site_deep z container) in
      let t = name_text w.texts token in
      let y = child_site z t k (levels - 1) one_less named kth inner place in
      let m = moves (levels - 1) y in
      let there = ap (move_to (a ∷ ts) (b ∷ us)) (sym (site-value z t k (levels - 1) one_less named kth inner place)) ∙ m.1.is in (
        m.0,
        record {
          result = put k m.1.result (borne w.texts z.c z.kids);
          is = moved_up t (borne w.texts z.c z.kids) k named a b ts us m.1.result there;
          answers = up_same z t k (levels - 1) one_less named kth inner place m.0 m.1.answers;
        },
      )

  pub pair_moves : {from path : Spelling} {i j row : ℕ} {r : Option Pair} → Short w.texts → Paired w from path i j row r → Ends w nodes' used r
      → (levels : ℕ) (z : Site w used row levels) → i ≤ length (part_of w.texts from) → j ≤ length (part_of w.texts path) → (t : Text) (ts : Tokens)
      → TokensFrom w.texts from i (t ∷ ts) → (u : Text) (us : Tokens) → TokensFrom w.texts path j (u ∷ us) → Along w nodes' used z (t ∷ ts) (u ∷ us)
  pair_moves short (paired_last {end = end} {last} a an b bn) ends levels z i-in j-in t ts from_is u us path_is =
      let one = one_left (record { is = a; named = an }) short i-in from_is end refl in
      let other = one_left (record { is = b; named = bn }) short j-in path_is last refl in
      rw (one.0, one.1, other.0, other.1) (ends levels z (an.names short i-in).token (bn.names short j-in).token)
  pair_moves {from = from} {path} {i = i} {j} short (paired_next {end = end} {next} {last} {after} {child = inner} {token = token} a an b same step rest) ends
      levels z i-in j-in t ts from_is u us path_is =
      more_left (record { is = a; named = an }) short i-in from_is end next refl λ v vs more first later.
      let f = next_token (part_of w.texts path) j (Token.Next last after) b last after (u ∷ us) refl path_is.is in
      some_token (part_of w.texts path) after f.rest f.from λ x xs g.
      let says = (an.names short i-in).says in
      let second : u ≡ name_text w.texts token = cc (f.is, says, same) in
      let others : us ≡ x ∷ xs = cc (f.is, g) in
      the_child (Ok inner) step z (an.names short i-in).token refl λ k named kth place.
      rw (more, first, second, others)
      (through z token k named kth inner place v x vs xs λ below y.
      pair_moves short rest ends below y (next_order (part_of w.texts from) i (Token.Next end next) a end next refl).2
      (next_order (part_of w.texts path) j (Token.Next last after) b last after refl).2 v vs later x xs (record { is = f.from ∙ ap ok g }))
  pair_moves short paired_apart ends levels z i-in j-in t ts from_is u us path_is = absurd ends

-- ---- the document
document-moved : {w : Table} {used : ℕ} {v : Plain.Value} (d : Document w used v) {nodes' : List Row} {y : Value.Value} → rows ≤ length nodes'
    → ChangeAnswers (document_site d) nodes' (ok y) (Ok used) → (judged_bearing (ok y) ≡ ok y) × Bearing (table w.texts nodes') used y
unfolding document_site
document-moved {w} {used} d {nodes'} {y} long (done {kids = kids} e stands) =
    let within = limited_same max_depth max_nodes (ok y) (borne w.texts d.c kids) e in
    let same : borne w.texts d.c kids ≡ y = cc within.0 in (
      sym (limited_whole (ok y)) ∙ e ∙ ap ok same,
      subst (λ u. Bearing (table w.texts nodes') used u) same (standing_document stands d.few within.1 long),
    )

module _ {w : Table} {nodes' : List Row} {used : ℕ} {from path : Spelling} (a b : Bytes) (a-is : a ≡ part_of w.texts from)
    (b-is : b ≡ part_of w.texts path) (f g : First) (f-is : FirstOf a f) (g-is : FirstOf b g) (i j : ℕ) (f-at : f ≡ First.At i) (g-at : g ≡ First.At j)
    (r : Option Pair) (pairs : Paired w from path i j document_row r) {p : Pair} (siblings : r ≡ Some p) where
  moves_below : SamePatch w.nodes nodes' → Ends w nodes' used (Some p) → MovedWithin w nodes' used from path
  unfolding document_site
  moves_below patch ends =
      record {
        patch = patch;
        bearing = λ v bears short h hs from_is ts path_is.
            let from_First = first_of a a-is f-is in
            let path-first = first_of b b-is g-is in
            let from-tokens = first_at (part_of w.texts from) f from_First i (h ∷ hs) f-at from_is.is in
            let path-tokens = first_at (part_of w.texts path) g path-first j ts g-at path_is.is in
            some_token (part_of w.texts path) j ts path-tokens λ u us some.
            let d = bears.document in
            let m = pair_moves short pairs (subst (Ends w nodes' used) (sym siblings) ends) max_depth (document_site d)
            (first-inside (part_of w.texts from) f from_First i f-at) (first-inside (part_of w.texts path) g path-first j g-at)
            h hs (record { is = from-tokens }) u us (record { is = path-tokens ∙ ap ok some }) in
            let result = document-moved d m.0 m.1.answers in
            let moves : move_to (h ∷ hs) ts v ≡ ok m.1.result =
            ap (λ l. move_to (h ∷ hs) l v) some ∙ ap (move_to (h ∷ hs) (u ∷ us)) (sym bears.bears) ∙ m.1.is in
            results {v = m.1.result} (ap judged_bearing moves ∙ result.0) result.1;
      }

  pub siblings_shift : {done : Bool} → ChildShiftIs w nodes' used p done → ShiftIs w nodes' used from path done
  siblings_shift (child_shifted patch ends) = shifted (moves_below patch ends)
  siblings_shift (child-kept is) = kept is

-- ---- as the code goes along both pointers
from_ok : {A E : Type 0} {a : A} (r : Result A E) → result_ok r ≡ Some a → r ≡ Ok a
from_ok (Ok b) e = cc
from_ok (Err x) e = absurd (let z : ◌≡◌ {A = ℕ} 0 1 = cc in omega arith)

pub last_paired : {T : Texts} {row : ℕ} {token other : Name} {path : Spelling} {at end : ℕ} (t : Token) → t ≡ Token.Last end → TokenNameIs T path at t other
    → PairAt T row token path at t (Some (record { parent = row; token = token; other = other }))
last_paired {T} {row} {token} {other} {path} {at} t e n =
    subst (λ s. PairAt T row token path at s (Some (record { parent = row; token = token; other = other }))) (sym e) (pair_last other (subst (λ s. TokenNameIs T path at s other) e n))

module _ {w : Table} {from path : Spelling} {i j row : ℕ} (a b : Bytes) (a-is : a ≡ part_of w.texts from) (b-is : b ≡ part_of w.texts path)
    (s t : Token) (s-at : TokenAt a i s) (t-at : TokenAt b j t) {name : Name} (named : TokenNameIs w.texts from i s name) where
  pub pairs_last : {end : ℕ} → s ≡ Token.Last end → {r : Option Pair} → PairAt w.texts row name path j t r → Paired w from path i j row r
  pairs_last {end} e pair = go pair (subst (λ l. TokenAt l j t) b-is t-at)
    where
      go : {u : Token} {r : Option Pair} → PairAt w.texts row name path j u r → TokenAt (part_of w.texts path) j u → Paired w from path i j row r
      go (pair_last other is) u-at =
          let from_at : TokenAt (part_of w.texts from) i s = subst (λ l. TokenAt l i s) a-is s-at in
          paired_last (subst (λ l. TokenAt (part_of w.texts from) i l) e from_at) (subst (λ l. TokenNameIs w.texts from i l name) e named) u-at is
      go pair_apart u-at = paired_apart

  pub pairs_next : {end next last after : ℕ} → s ≡ Token.Next end next → t ≡ Token.Next last after → (x y : Bytes)
      → x ≡ token_bytes a i (Token.Next end next) → y ≡ token_bytes b j (Token.Next last after) → (same : Bool)
      → same ≡ same_text (text_of 3 x) (text_of 3 y) → same ≡ true → {child : ℕ} (c : Result ℕ Refusal)
      → StepIs w row name c → {o : Option ℕ} → o ≡ result_ok c → o ≡ Some child → {r : Option Pair} → Paired w from path next after child r → Paired w from path i j row r
  pairs_next {end} {next} {last} {after} e f x y x-is y-is same same_is is_same c step goes there rest =
      let from_at : TokenAt (part_of w.texts from) i s = subst (λ l. TokenAt l i s) a-is s-at in
      let path-at : TokenAt (part_of w.texts path) j t = subst (λ l. TokenAt l j t) b-is t-at in
      let alike : text_of 3 x ≡ text_of 3 y = same_text_true _ _ (sym same_is ∙ is_same) in
      let first : text_of 3 (token_bytes (part_of w.texts from) i (Token.Next end next)) ≡ text_of 3 x = rw (x-is, a-is) in
      let second : text_of 3 y ≡ text_of 3 (token_bytes (part_of w.texts path) j (Token.Next last after)) = rw (y-is, b-is) in
      paired_next (subst (λ l. TokenAt (part_of w.texts from) i l) e from_at) (subst (λ l. TokenNameIs w.texts from i l name) e named)
      (subst (λ l. TokenAt (part_of w.texts path) j l) f path-at) (first ∙ alike ∙ second) (subst (StepIs w row name) (from_ok c (sym goes ∙ there)) step) rest
