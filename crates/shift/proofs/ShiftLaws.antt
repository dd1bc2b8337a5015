-- Laws of an element moved within its array: the rows of two runs of children change places, and nothing around the array changes.
use Rattle.std.specs.Prelude.{Ok}
use Prim.Native.Nat.{ℕ, ◌+◌, ◌-◌, ◌≤◌, ◌<◌}
use native.Mathlib.Omega.{arith}
use native.Mathlib.Decide.{dec_lt}
use mathlib.Core.Path.{◌≡◌, refl, ap, sym, ◌∙◌, subst}
use mathlib.Core.Bool.{Bool, true, true≢false}
use mathlib.Core.List.{List, [], ◌∷◌, ◌++◌}
use lib.ListN.{length, take, drop, get_or, length-append}
use lib.Seq.{take-take}
use Rattle.spec.specs.Outcome.{ok}
use Rattle.spec.specs.Limits.{max_nodes}
use Rattle.spec.specs.Forest.{Forest, tree, count, size, nth, insert_at, remove_at, ◌⧺◌}
use Rattle.tape.specs.Layout.{array_kind, scratch_row, rows}
use Rattle.tape.specs.Fields.{Row, span_of, row_with}
use Rattle.tape.specs.Columns.{replaced, moved, Scratched}
use Rattle.tape.specs.Tape.{tape, Laid}
use Rattle.tape.specs.Rows.{end_of, child_row}
use Rattle.tape.specs.declared.fields.Cell.{Cell}
use Rattle.tape.specs.Cell.{row_of, Formed, formed_tree}
use Rattle.tape.specs.Lent.{Table}
use Rattle.tape.proofs.Columns.{length-replaced, scratched_moved}
use Rattle.tape.proofs.Cells.{blank, formed_kids, formed_rest, fit_container}
use Rattle.tape.proofs.Forests.{size_⧺, size-before_suc}
use Rattle.tape.proofs.Held.{held_node}
use Rattle.tape.proofs.Rows.{end_here, node-child}
use Rattle.tape.proofs.Tape.{tape_⧺, length-tape}
use Rattle.tape.proofs.Changes.{tape_exchange, laid_kids, laid_tree}
use Rattle.walk.specs.Bearing.{borne}
use Rattle.changes.specs.Site.{Standing, Site}
use Rattle.changes.specs.Change.{ChangeAnswers, done}
use Rattle.changes.proofs.CutLaws.{cut_inside, cut_formed, cut_sound, cut-size, past_front}
use Rattle.changes.proofs.SiteLaws.{site_held, site_fit, site_deep, child-rows}
use Rattle.changes.proofs.PutLaws.{in_use, changed_fits}
use Rattle.shift.specs.Shift.{exchanged_back, exchanged_front, TurnIs, turned_front, turned_back, not_turned}
use Rattle.shift.proofs.ExchangeLaws.{laid_replaced, exchanged_back_lem, exchanged_front_lem}
use Rattle.shift.proofs.SwapLaws.{before_less, Swap, swap_cut, swap_formed, swap_sound, swap_size, swap_deep, swap_rows, swap_back, swap_front}

-- ---- the children of a container that change places
module _ {w : Table} {used row levels : ℕ} (z : Site w used row levels) (container : array_kind ≤ z.c.kind) {changed : Forest Cell} {at n m : ℕ}
    (s : Swap row z.kids changed at n m) where
  abbrev turned : Forest Cell
  turned = s.second ⧺ s.first

  turned_formed : Formed turned
  turned_formed = swap_formed s (formed_kids z.standing.formed)

  turned_inside : size s.left + (n + m) ≤ size z.kids
  turned_inside = cut_inside (swap_cut s)

  -- the rows of the two, which the table has one behind the other
  pub turned_rows : (after : List Row) × (drop at w.nodes ≡ tape row_of s.first ++ (tape row_of s.second ++ after))
  turned_rows =
      swap_rows s (laid_kids z.standing.laid)
      (omega (arith, past_front z.around.front (row_of z.c z.kids) row 0 z.standing.place))

  pub turned_within : at + (n + m) ≤ used
  turned_within = in_use z container (swap_cut s)

  same_size : size (s.left ⧺ turned ⧺ s.right) ≡ size z.kids
  same_size = omega (arith, cut-size (swap_cut s) turned, swap_size s, turned_inside)

  module _ {ys : List Row} (zs : List Row) (same : take scratch_row zs ≡ take scratch_row w.nodes) (long : rows ≤ length zs)
      (is : ys ≡ replaced zs at (m + n) (tape row_of s.second ++ tape row_of s.first)) where
    turned_laid : Laid row_of ys used z.around.front (tree z.c (s.left ⧺ turned ⧺ s.right) z.around.rest) z.around.back
    unfolding row_of
    turned_laid =
        let few : used ≤ scratch_row = omega (arith, z.few) in
        let in-use-same : take used zs ≡ take used w.nodes =
        sym (take-take used scratch_row zs few) ∙ ap (take used) same ∙ take-take used scratch_row w.nodes few in
        let here : Laid row_of zs used z.around.front (tree z.c z.kids z.around.rest) z.around.back =
        record { is = in-use-same ∙ z.standing.laid.is } in
        let words = tape row_of s.second ++ tape row_of s.first in
        let both : tape row_of turned ≡ words = tape_⧺ row_of s.second s.first in
        let many : length words ≡ m + n =
        simp length-append (omega (arith, length-tape row_of s.second, length-tape row_of s.first, s.many, s.more)) in
        let old-size : size (s.first ⧺ s.second) ≡ m + n = size_⧺ s.first s.second ∙ omega (arith, s.many, s.more) in
        let new : tape row_of (s.left ⧺ turned ⧺ s.right) ≡ replaced (tape row_of z.kids) (size s.left) (m + n) words =
        tape_exchange row_of s.left (s.first ⧺ s.second) turned s.right z.kids s.old ∙ rw (old-size, both) in
        let place : at ≡ length (z.around.front ++ (row_of z.c z.kids ∷ [])) + size s.left =
        s.place ∙ past_front z.around.front (row_of z.c z.kids) row (size s.left) z.standing.place in
        rw is
        (laid_tree z.c (row_of z.c z.kids)
        (laid_replaced (s.left ⧺ turned ⧺ s.right) at (size s.left) (m + n) words (laid_kids here) (omega (arith, z.few)) place
        (omega (arith, turned_inside)) many new) (ap (row_with z.c) (sym same_size)))

    pub turned_answers : ChangeAnswers z ys (ok (borne w.texts z.c changed)) (Ok used)
    turned_answers =
        let stands : Standing w.texts ys used row z.around z.c (s.left ⧺ turned ⧺ s.right) =
        record {
          laid = turned_laid;
          place = z.standing.place;
          formed =
              formed_tree (fit_container (s.left ⧺ turned ⧺ s.right) (site_fit z) container (omega (arith, same_size, (site_fit z).small)))
              (cut_formed (swap_cut s) (formed_kids z.standing.formed) turned_formed) (formed_rest z.standing.formed);
          label = z.standing.label;
          sound = cut_sound (swap_cut s) z.standing.sound (swap_sound s z.standing.sound);
        } in
        let fits = changed_fits z container (swap_cut s) turned turned_formed (omega (arith, swap_deep s, site_deep z container))
        (omega (arith, swap_size s, turned_within, z.few)) in
        rw s.new (done fits stands)

-- ---- the i-th child moved to the place of the j-th
module _ {w : Table} {used row levels : ℕ} (z : Site w used row levels) (container : array_kind ≤ z.c.kind) (i j : ℕ) (ith : i < count z.kids)
    (jth : j < count z.kids) {at to : ℕ} (at_place : at ≡ child_row row i z.kids) (to-place : to ≡ child_row row j z.kids) where
  abbrev then_kids : Forest Cell
  then_kids = insert_at j (nth blank i z.kids) (remove_at i z.kids)

  abbrev Shifted : List Row → Type 0
  Shifted ys = (rows ≤ length ys) × ChangeAnswers z ys (ok (borne w.texts z.c then_kids)) (Ok used)

  -- rows that were exchanged, where others were copied to the scratch rows before
  exchanged : {place n m : ℕ} (s : Swap row z.kids then_kids place n m) (ys : List Row) (start k : ℕ) → start + k ≤ max_nodes
      → ys ≡ replaced (moved w.nodes scratch_row start k) place (m + n) (tape row_of s.second ++ tape row_of s.first) → Shifted ys
  exchanged {place} {n} {m} s ys start k few is =
      let zs = moved w.nodes scratch_row start k in
      let aside : Scratched w.nodes zs = scratched_moved start k refl (omega arith) z.long (omega (arith, z.long)) in
      let many : length (tape row_of s.second ++ tape row_of s.first) ≡ m + n =
      simp length-append (omega (arith, length-tape row_of s.second, length-tape row_of s.first, s.many, s.more)) in
      let long : length ys ≡ length zs =
      ap length is
      ∙ length-replaced zs place (m + n) (tape row_of s.second ++ tape row_of s.first)
      (omega (arith, turned_within z container s, z.few, z.long, aside.same_length))
      ∙ omega (arith, many, turned_within z container s, z.few, z.long, aside.same_length) in
      (omega (arith, long, aside.same_length, z.long), turned_answers z container s zs aside.before (omega (arith, aside.same_length, z.long)) is)

  to_front : (ys : List Row) (n : ℕ) → n ≡ span_of (get_or w.nodes at []) + 1 → to ≤ at → at + n ≤ used → ys ≡ exchanged_front w.nodes at n to → Shifted ys
  unfolding child_row
  to_front ys n n-is low inside is =
      let order : j ≤ i = before_less j i z.kids jth (omega arith) in
      let m = at - to in
      let s : Swap row z.kids then_kids to m n = subst (λ a. Swap row z.kids then_kids a m n) (sym to-place)
      (swap_front row z.kids i j ith jth order n m (child-rows z i ith at_place n-is) (omega arith)) in
      let (after, e) = turned_rows z container s in
      exchanged s ys at n (omega (arith, z.few))
      (is ∙ exchanged_front_lem w.nodes (tape row_of s.first) (tape row_of s.second) after z.long at n to m e
      (length-tape row_of s.first ∙ sym s.many) (length-tape row_of s.second ∙ sym s.more) (omega arith) (omega (arith, z.few)))

  -- it stands before the j-th
  apart : Dec (i < j) → at < to → i < j
  unfolding child_row
  apart (yes h) low = h
  apart (no h) low =
      let upto : i ≤ j = before_less i j z.kids ith (omega arith) in
      let same : i ≡ j = omega arith in
      let here : at ≡ to = at_place ∙ ap (λ k. child_row row k z.kids) same ∙ sym to-place in
      absurd (omega arith)

  to_back : (ys : List Row) (n m : ℕ) → n ≡ span_of (get_or w.nodes at []) + 1 → at < to → at + n + m ≡ end_of w.nodes to → at + n + m ≤ used
      → ys ≡ exchanged_back w.nodes at n m → Shifted ys
  unfolding child_row
  to_back ys n m n-is low ends inside is =
      let order : i < j = apart (dec_lt i j) low in
      let last : end_of w.nodes to ≡ to + 1 + size (nth blank j z.kids).kids =
      rw to-place (end_here (node-child blank j (held_node (site_held z).held) jth)) in
      let upto = size-before_suc blank j z.kids jth in
      let s : Swap row z.kids then_kids at n m = subst (λ a. Swap row z.kids then_kids a n m) (sym at_place)
      (swap_back row z.kids i j ith jth order n m (child-rows z i ith at_place n-is) (omega arith)) in
      let (after, e) = turned_rows z container s in
      exchanged s ys at n (omega (arith, z.few))
      (is ∙ exchanged_back_lem w.nodes (tape row_of s.first) (tape row_of s.second) after z.long at n m e
      (length-tape row_of s.first ∙ sym s.many) (length-tape row_of s.second ∙ sym s.more) (omega (arith, z.few)))

  pub turn_shifts : {ys : List Row} {r : Bool} → TurnIs w.nodes ys used at to r → r ≡ true → Shifted ys
  turn_shifts {ys} (turned_front n n-is low inside is) e = to_front ys n n-is low inside is
  turn_shifts {ys} (turned_back n m n-is low ends inside is) e = to_back ys n m n-is low ends inside is
  turn_shifts (not_turned is) e = absurd (true≢false (sym e))

-- as the code goes: the number of rows between is what is left of the last row's place
pub back_is : {nodes nodes' : List Row} {used at to : ℕ} (n end : ℕ) → n ≡ span_of (get_or nodes at []) + 1 → at < to → end ≡ end_of nodes to → end ≤ used
    → at + n ≤ end → nodes' ≡ exchanged_back nodes at n (end - (at + n)) → TurnIs nodes nodes' used at to true
back_is {at = at} n end n-is low ends inside room is =
    let whole : at + n + (end - (at + n)) ≡ end = omega arith in
    turned_back n (end - (at + n)) n-is low (whole ∙ ends) (omega arith) is
