-- Laws of a tree put among the children of a node, in the place of others.
use Rattle.std.specs.Prelude.{Ok, Err}
use Prim.Native.Nat.{ℕ, suc, ◌+◌, ◌-◌, ◌≤◌, ◌<◌}
use native.Mathlib.Omega.{arith}
use mathlib.Core.Path.{◌≡◌, refl, ap, sym, ◌∙◌}
use mathlib.Core.Bool.{Bool, true, false}
use mathlib.Core.List.{List, [], ◌∷◌, ◌++◌}
use lib.ListN.{length, get_or}
use borrow.Author.Tests.{leb-true, leb-false}
use Rattle.spec.specs.Outcome.{Outcome, ok, refused}
use Rattle.spec.specs.Refusal.{too_deep, too_many_nodes}
use Rattle.spec.specs.Fault.{number_of}
use Rattle.spec.specs.declared.refusal.Refusal.TheVariants as Refusal
use Rattle.spec.specs.Limits.{max_nodes}
use Rattle.spec.specs.Forest.{Forest, none, single, count, size, before, from, remove_at, ◌⧺◌}
use Rattle.origin.specs.Value as Value
use Rattle.origin.specs.Value.{depth}
use Rattle.tape.specs.Layout.{array_kind, values}
use Rattle.tape.specs.Fields.{Row, span_of}
use Rattle.tape.specs.Columns.{used_after, spliced}
use Rattle.tape.specs.Tape.{tape, Laid}
use Rattle.tape.specs.declared.fields.Name.{Name}
use Rattle.tape.specs.declared.fields.Cell.{Cell}
use Rattle.tape.specs.Cell.{row_of, Told, Fit, Formed, formed_none, formed_tree, level, deep}
use Rattle.tape.specs.Rows.{child_row, WithinIs}
use Rattle.tape.specs.Lent.{Table}
use Rattle.tape.proofs.Columns.{Room}
use Rattle.tape.proofs.Cells.{span_row, formed_fit, formed_kids, formed_rest, fit_container, container_fit}
use Rattle.tape.proofs.Depth.{level-container}
use Rattle.tape.proofs.Tape.{tape-single, holds_size, holds_words}
use Rattle.tape.proofs.Forests.{size-single}
use Rattle.tape.proofs.Changes.{laid_word, laid_span}
use Rattle.tape.proofs.Rows.{span_here, inside_here}
use Rattle.tape.proofs.Held.{held_node}
use Rattle.walk.specs.Bearing.{borne}
use Rattle.table.specs.All.{all_none}
use Rattle.table.specs.Sound.{NameFits, Sound}
use Rattle.table.proofs.AllLaws.{all_single}
use Rattle.changes.specs.Limited.{limited_to}
use Rattle.changes.specs.Site.{Standing, Site, Offered}
use Rattle.changes.specs.Rows.{Frame, framed, renamed_at, resized, put-rows, taken_rows}
use Rattle.changes.specs.Cut.{Cut, renamed}
use Rattle.changes.specs.Change.{ChangeAnswers, done, refusal, PutIs, TakeOutIs}
use Rattle.changes.specs.declared.parent.Parent.{Parent}
use Rattle.changes.proofs.LimitLaws.{limited-deep, limited_large, limited_fits}
use Rattle.changes.proofs.BorneLaws.{depth-borne, nodes-borne}
use Rattle.changes.proofs.CutLaws.{cut_inside, cut_formed, cut_sound, cut-size, cut-deep, cut_around, past_front, laid_exchange}
use Rattle.changes.proofs.KeptLaws.{behind_set, behind_spliced}
use Rattle.changes.proofs.SiteLaws.{site_fit, site_inside, site_deep, child-rows, renamed_fit, laid_rename}

-- ---- whatever the list holds
module _ {nodes : List Row} (p : Parent) (at removed source count now : ℕ)
    (now-is : now ≡ used_after p.used removed count) (few : now ≤ max_nodes) where
  pub put_frame : (name : Name) → at < max_nodes → {nodes' : List Row}
      → nodes' ≡ resized (renamed_at (spliced nodes p.used at removed source count) at name) p.row p.used now → Frame nodes nodes' (Ok now)
  put_frame name inside e =
      rw e
      (framed few
      (behind_set p.row _ (omega (arith, p.low.0, p.low.1))
      (behind_set at _ (omega arith) (behind_spliced p.used at removed source count (omega (arith, p.low.0)) (omega arith)))))

  pub take_frame : {nodes' : List Row} → nodes' ≡ resized (spliced nodes p.used at removed source count) p.row p.used now
      → Frame nodes nodes' (Ok now)
  take_frame e =
      rw e
      (framed few
      (behind_set p.row _ (omega (arith, p.low.0, p.low.1)) (behind_spliced p.used at removed source count (omega (arith, p.low.0)) (omega arith))))

-- ---- other trees in the place of some children, and the node's row changed to match
module _ {w : Table} {used row levels : ℕ} (z : Site w used row levels) {at removed : ℕ} {left right : Forest Cell} (container : array_kind ≤ z.c.kind)
    (cut : Cut row z.kids at removed left right) where
  pub in_use : at + removed ≤ used
  in_use = omega (arith, cut.place, cut_inside cut, site_inside z)

  -- what lies elsewhere is no part of its children
  pub put_outside : {C : Type 0} {kept : ℕ} → kept ≡ used - removed → kept < at → C
  put_outside e h = absurd (omega (arith, in_use))

  module _ (new : Forest Cell) (formed : Formed new) where
    abbrev changed : Forest Cell
    changed = left ⧺ new ⧺ right

    changed_formed : Formed changed
    changed_formed = cut_formed cut (formed_kids z.standing.formed) formed

    abbrev then-value : Value.Value
    then-value = borne w.texts z.c changed

    depth_changed : depth then-value ≡ suc (deep changed)
    depth_changed = depth-borne w.texts z.c changed (site_fit z).kind changed_formed ∙ level-container z.c (deep changed) container

    -- ---- the limits, by what is new
    pub changed_deep : levels < suc (deep new) → limited_to levels z.room (ok then-value) ≡ refused too_deep 0
    changed_deep h = limited-deep levels z.room then-value (omega (arith, depth_changed, (cut-deep cut new).0))

    module _ (h : suc (deep new) ≤ levels) where
      shallow : depth then-value ≤ levels
      shallow = omega (arith, depth_changed, (cut-deep cut new).1, site_deep z container)

      pub changed_large : max_nodes < used_after used removed (size new) → limited_to levels z.room (ok then-value) ≡ refused too_many_nodes 0
      changed_large l =
          limited_large levels z.room then-value shallow
          (omega (arith, nodes-borne w.texts z.c changed, cut-size cut new, z.fits, site_inside z, cut_inside cut))

      pub changed_fits : used_after used removed (size new) ≤ max_nodes → limited_to levels z.room (ok then-value) ≡ ok then-value
      changed_fits l =
          limited_fits levels z.room then-value shallow
          (omega (arith, nodes-borne w.texts z.c changed, cut-size cut new, z.fits, site_inside z, cut_inside cut))

    -- ---- the list, where rows are exchanged and the node's span is set
    module _ (sound : Sound w.texts new) (now : ℕ) (now-is : now ≡ used_after used removed (size new)) (few : now ≤ max_nodes) {nodes' : List Row}
        (l : Laid row_of nodes' now (z.around.front ++ (row_of z.c z.kids ∷ [])) changed (tape row_of z.around.rest ++ z.around.back)) where
      span_changed : span_of (get_or nodes' row []) + now - used ≡ size changed
      span_changed =
          let here : get_or nodes' row [] ≡ row_of z.c z.kids = rw z.standing.place (laid_word z.around.front (row_of z.c z.kids) [] l) in
          let old : span_of (get_or nodes' row []) ≡ size z.kids = ap span_of here ∙ span_row z.c z.kids in
          omega (arith, cut-size cut new, site_inside z, cut_inside cut)

      small : size changed < values
      small = omega (arith, cut-size cut new, site_inside z, cut_inside cut)

      pub changed_standing : Standing w.texts (resized nodes' row used now) now row z.around z.c changed
      changed_standing =
          record {
            laid = laid_span z.kids row _ z.standing.place span_changed (omega (arith, span_changed, small)) l;
            place = z.standing.place;
            formed = formed_tree (fit_container changed (site_fit z) container small) changed_formed (formed_rest z.standing.formed);
            label = z.standing.label;
            sound = cut_sound cut z.standing.sound sound;
          }

-- ---- one tree
module _ {w : Table} {source : ℕ} {x : Cell} {kids : Forest Cell} (offered : Offered w source x kids) where
  pub offered_size : span_of (get_or w.nodes source []) ≡ size kids
  offered_size = span_here (held_node offered.held.held)

  offered_fit : Fit x kids
  offered_fit = formed_fit offered.held.held.formed

  -- its rows are behind those in use, before and after
  pub offered_room : {used removed : ℕ} (count : ℕ) → count ≡ suc (size kids) → used ≤ max_nodes → used_after used removed count ≤ max_nodes
      → Room w.nodes used removed source count
  unfolding size
  offered_room count e few few-then =
      record {
        before = omega (arith, offered.behind);
        after = omega (arith, offered.behind);
        there = omega (arith, holds_size offered.held.held.rows, held_inside);
      }
    where
      held_inside : source < length w.nodes
      held_inside = inside_here (held_node offered.held.held)

  module _ (name : Name) (fits : NameFits w.texts name) (told : Told name.text) where
    abbrev new : Forest Cell
    new = single (renamed name x kids)

    new_formed : Formed new
    new_formed = formed_tree (renamed_fit name offered_fit told) (formed_kids offered.held.held.formed) formed_none

    new_sound : Sound w.texts new
    new_sound = all_single (renamed name x kids) (record { name = fits; label = offered.held.label }) offered.held.sound

    deep_new : deep new ≡ level x (deep kids)
    unfolding deep level
    deep_new = let same : level (renamed name x kids).root (deep kids) ≡ level x (deep kids) = refl in omega arith

    size_new : size new ≡ suc (size kids)
    size_new = size-single (renamed name x kids)

    module _ {used row below : ℕ} (z : Site w used row (suc below)) {at removed : ℕ} {left right : Forest Cell} (container : array_kind ≤ z.c.kind)
        (cut : Cut row z.kids at removed left right) where
      abbrev outcome : Outcome Value.Value
      outcome = ok (borne w.texts z.c (left ⧺ new ⧺ right))

      pub put-deep : {nodes' : List Row} {r : Bool} → WithinIs w.nodes source below r → r ≡ false
          → ChangeAnswers z nodes' outcome (Err (record { refusal = Refusal.TooDeep; place = 0 }))
      unfolding number_of
      put-deep is e =
          let l = leb-false (level x (deep kids)) below (sym (is x kids (held_node offered.held.held)) ∙ e) in
          refusal (changed_deep z container cut new new_formed (omega (arith, deep_new)))

      module _ {r : Bool} (is : WithinIs w.nodes source below r) (e : r ≡ true) (count kept : ℕ)
          (count_is : count ≡ span_of (get_or w.nodes source []) + 1) (kept-is : kept ≡ used - removed) where
        levels_fit : suc (deep new) ≤ suc below
        levels_fit =
            let l = leb-true (level x (deep kids)) below (sym (is x kids (held_node offered.held.held)) ∙ e) in
            omega (arith, deep_new)

        count-size : count ≡ size new
        count-size = omega (arith, offered_size, size_new)

        pub put_large : {nodes' : List Row} → max_nodes - kept < count
            → ChangeAnswers z nodes' outcome (Err (record { refusal = Refusal.TooManyNodes; place = 0 }))
        unfolding number_of
        put_large h = refusal (changed_large z container cut new new_formed levels_fit (omega (arith, count-size)))

        module _ (now : ℕ) (now-is : now ≡ kept + count) (few : now ≤ max_nodes) where
          now_used : used_after used removed count ≡ now
          now_used = omega arith

          room : Room w.nodes used removed source count
          room = offered_room count (count-size ∙ size_new) z.few (omega (arith, now_used))

          -- the tree among the children, still under its own name, and then under the new one
          exchanged : Laid row_of (spliced w.nodes used at removed source count) now (z.around.front ++ (row_of z.c z.kids ∷ []))
              (left ⧺ single (record { root = x; kids = kids }) ⧺ right) (tape row_of z.around.rest ++ z.around.back)
          exchanged =
              rw now_used at
              (laid_exchange (single (record { root = x; kids = kids })) source count z.standing.laid z.standing.place cut room
              (holds_words count (count-size ∙ size_new) offered.held.held.rows ∙ sym (tape-single row_of (record { root = x; kids = kids }))))

          named : Laid row_of (renamed_at (spliced w.nodes used at removed source count) at name) now
              (z.around.front ++ (row_of z.c z.kids ∷ [])) (left ⧺ new ⧺ right) (tape row_of z.around.rest ++ z.around.back)
          named =
              laid_rename left x kids right name at offered_fit told
              (cut.place ∙ past_front z.around.front (row_of z.c z.kids) row (size left) z.standing.place) exchanged

          pub put-done : {nodes' : List Row} → nodes' ≡ resized (renamed_at (spliced w.nodes used at removed source count) at name) row used now
              → ChangeAnswers z nodes' outcome (Ok now)
          put-done e =
              rw e
              (done (changed_fits z container cut new new_formed levels_fit (omega (arith, now_used, count-size)))
              (changed_standing z container cut new new_formed new_sound now (omega (arith, now_used, count-size)) few named))

-- ---- a child taken out
module _ {w : Table} {used row levels : ℕ} (z : Site w used row levels) (k : ℕ) (kth : k < count z.kids) (at : ℕ) (place : at ≡ child_row row k z.kids)
    (removed : ℕ) (removed-is : removed ≡ span_of (get_or w.nodes at []) + 1) where
  cut : Cut row z.kids at removed (before k z.kids) (from (suc k) z.kids)
  cut = cut_around k place kth removed (child-rows z k kth place removed-is)

  container : array_kind ≤ z.c.kind
  container = container_fit (site_fit z) (omega arith)

  no_rows : Room w.nodes used removed used 0
  no_rows = record { before = omega arith; after = omega arith; there = omega (arith, z.few, z.long) }

  pub taken_out : (now : ℕ) → now ≡ used - removed → {nodes' : List Row} → nodes' ≡ resized (spliced w.nodes used at removed used 0) row used now
      → ChangeAnswers z nodes' (ok (borne w.texts z.c (remove_at k z.kids))) (Ok now)
  unfolding remove_at ◌⧺◌ tape deep size
  taken_out now now-is e =
      let left : used_after used removed 0 ≡ now = omega arith in
      rw e
      (done (changed_fits z container cut none formed_none (omega (arith, site_deep z container)) (omega (arith, z.few)))
      (changed_standing z container cut none formed_none all_none now (omega arith) (omega (arith, z.few))
      (rw left at (laid_exchange none used 0 z.standing.laid z.standing.place cut no_rows refl))))

-- ---- as the code goes: the rows spliced, the new child named, the parent's span set
module _ {nodes : List Row} (p : Parent) (at : ℕ) where
  module _ (removed source : ℕ) (name : Name) (count kept : ℕ) (count_is : count ≡ span_of (get_or nodes source []) + 1) (kept-is : kept ≡ p.used - removed)
      {within : Bool} (is : WithinIs nodes source p.below within) (fits : within ≡ true) (room : count ≤ max_nodes - kept) (inside : at ≤ kept) where
    few : kept + count ≤ max_nodes
    few = omega (arith, p.low.0)

    pub put_made : {a b c : List Row} → a ≡ spliced nodes p.used at removed source count → b ≡ renamed_at a at name
        → c ≡ resized b p.row p.used (kept + count) → PutIs nodes c p at removed source name (Ok (kept + count))
    put_made {c = c} e f g =
        let now : kept + count ≡ used_after p.used removed count = omega arith in
        let ended : c ≡ resized (renamed_at (spliced nodes p.used at removed source count) at name) p.row p.used (kept + count) = rw (g, f, e) in
        record {
          rows = put-rows count (kept + count) count_is now ended;
          frame = put_frame p at removed source count (kept + count) now few name (omega (arith, few)) ended;
          held = λ T z x kids left right container offered named told cut.
              put-done offered name named told z container cut is fits count kept count_is kept-is (kept + count) refl few ended;
        }

  pub take_made : (removed left : ℕ) → removed ≡ span_of (get_or nodes at []) + 1 → left ≡ p.used - removed → {a b : List Row}
      → a ≡ spliced nodes p.used at removed p.used 0 → b ≡ resized a p.row p.used left → TakeOutIs nodes b p at (Ok left)
  take_made removed left removed-is left_is {b = b} e f =
      let ended : b ≡ resized (spliced nodes p.used at removed p.used 0) p.row p.used left = rw (f, e) in
      record {
        rows = taken_rows removed left removed-is left_is ended;
        frame = take_frame p at removed p.used 0 left (omega arith) (omega (arith, p.low.0)) ended;
        held = λ T z k kth place. taken_out z k kth at place removed removed-is left left_is ended;
      }
