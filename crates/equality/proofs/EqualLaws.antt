-- Each way out of `equal`, for whatever values the table holds in the two rows.
use Rattle.std.specs.Prelude.{Option, Some, None}
use Prim.Native.Nat.{ℕ, suc, ◌+◌, ◌-◌, ◌≤◌, ◌<◌}
use native.Mathlib.Omega.{arith}
use mathlib.Core.Path.{◌≡◌, refl, sym, ap, ap₂, ◌∙◌, subst}
use mathlib.Core.Bool.{Bool, true, false}
use mathlib.Core.List.{List, []}
use lib.ListN.{length, get_or}
use lib.Dec.{eqb, leb}
use borrow.Author.Tests.{le-leb}
use Rattle.spec.specs.Forest.{Forest, none, from}
use Rattle.spec.specs.Value as Value
use Rattle.spec.specs.Value.{Label, is_object, is_container, depth, depths}
use Rattle.spec.specs.Equality.{same_label, equal}
use Rattle.spec.specs.Distinct.{NoRepeats, Distinct}
use Rattle.tape.specs.Layout.{array_kind, object_kind}
use Rattle.tape.specs.Fields.{Row, kind_of}
use Rattle.tape.specs.declared.fields.Cell.{Cell}
use Rattle.tape.specs.Rows.{end_of}
use Rattle.tape.specs.Map.{map_forest}
use Rattle.tape.proofs.Rows.{kind_here, cell_here}
use Rattle.table.specs.Meaning.{label_of, members, meant}
use Rattle.table.specs.Sound.{NodeHeld}
use Rattle.table.proofs.MeaningLaws.{tag_label, is_object_label, is_container_label}
use Rattle.equality.specs.Compare.{SameLabelIs, Hints, PartnerIs, EqualIs}
use Rattle.equality.proofs.LabelLaws.{same_label-tag}
use Rattle.equality.proofs.MatchLaws.{equal_agree, agree_end}
use Rattle.equality.proofs.SiblingLaws.{value-node, value-inside, value-fit, value-labelled, siblings_all, children_all}
use Rattle.equality.proofs.PartnerLaws.{agreeing}
use Rattle.equality.proofs.PendingLaws.{Pending, pending_end, pending_more, pending_alone, pending_differs, pending_next}
use Rattle.tape.specs.Lent.{Texts, Table}

depth-container : (v : Value.Value) → is_container v.label ≡ true → depth v ≡ suc (depths v.kids)
unfolding depth Value.levels
depth-container v h = rw h

-- the label of a cell
abbrev pub labelled : Texts → Cell → Label
labelled T c = label_of T c.kind c.value

-- ---- a value of the kind k, as its row tells it
module _ {w : Table} {at : ℕ} {c : Cell} {kids : Forest Cell} (x : NodeHeld w at c kids)
    (k : ℕ) (told : k ≡ kind_of (get_or w.nodes at [])) where
  kind_is : c.kind ≡ k
  kind_is = sym (told ∙ kind_here (value-node x))

  pub object-is : is_object (labelled w.texts c) ≡ eqb k object_kind
  object-is = is_object_label w.texts c.kind c.value (value-fit x).kind ∙ ap (λ j. eqb j object_kind) kind_is

  depth_is : array_kind ≤ k → depth (meant w.texts c kids) ≡ suc (depths (members w.texts kids))
  depth_is h =
      let container = is_container_label w.texts c.kind c.value (value-fit x).kind ∙ le-leb array_kind c.kind (omega (arith, kind_is)) in
      depth-container (meant w.texts c kids) container

-- ---- at the head of the loop
abbrev pub Comparing : Table → ℕ → ℕ → ℕ → Bool → ℕ → ℕ → ℕ → ℕ → Type 0
Comparing w at other levels o end stop row next =
    (c : Cell) (kids : Forest Cell) (e : Cell) (below : Forest Cell) → NodeHeld w at c kids → NodeHeld w other e below
    → depth (meant w.texts c kids) ≤ levels → Distinct (meant w.texts e below)
    → Pending w o row end next stop (levels - 1) below (equal (meant w.texts c kids) (meant w.texts e below))

-- ---- before the loop
module _ {w : Table} {at other : ℕ} (levels : ℕ) where
  pub equal_outside : (r : Bool) → length w.nodes ≤ at → EqualIs w at other levels r
  equal_outside r h c kids e below x y low apart = absurd (omega (arith, value-inside x))

  pub equal_outside_other : (r : Bool) → length w.nodes ≤ other → EqualIs w at other levels r
  equal_outside_other r h c kids e below x y low apart = absurd (omega (arith, value-inside y))

  module _ (same : Bool) (said : SameLabelIs w.texts (get_or w.nodes at []) (get_or w.nodes other []) same) where
    pub labels : {c e : Cell} {kids below : Forest Cell} → NodeHeld w at c kids → NodeHeld w other e below
        → same ≡ same_label (labelled w.texts c) (labelled w.texts e)
    labels x y =
        said (value-labelled x) (value-labelled y)
        ∙ ap₂ (λ (d f : Cell). same_label (labelled w.texts d) (labelled w.texts f)) (cell_here (value-node x) []) (cell_here (value-node y) [])

    pub equal_labels : same ≡ false → EqualIs w at other levels false
    unfolding equal
    equal_labels f c kids e below x y low apart = rw (← (labels x y), f)

    module _ (alike : same ≡ true) where
      agreed : {c e : Cell} {kids below : Forest Cell} → NodeHeld w at c kids → NodeHeld w other e below
          → equal (meant w.texts c kids) (meant w.texts e below) ≡ agreeing w.texts (is_object (labelled w.texts c)) below kids below
      agreed {c} {e} {kids} {below} x y = equal_agree (meant w.texts c kids) (meant w.texts e below) (sym (labels x y) ∙ alike)

      -- k is the kind of both
      module _ (k : ℕ) (told : k ≡ kind_of (get_or w.nodes at [])) where
        kind_other : {c e : Cell} {kids below : Forest Cell} → NodeHeld w at c kids → NodeHeld w other e below → e.kind ≡ k
        kind_other {c} {e} x y =
            let tags = same_label-tag (labelled w.texts c) (labelled w.texts e) (sym (labels x y) ∙ alike) in
            let tag-c = tag_label w.texts c.kind c.value (value-fit x).kind in
            let tag-e = tag_label w.texts e.kind e.value (value-fit y).kind in
            sym tag-e ∙ sym tags ∙ tag-c ∙ kind_is x k told

        object-other : {c e : Cell} {kids below : Forest Cell} → NodeHeld w at c kids → NodeHeld w other e below
            → is_object (labelled w.texts e) ≡ eqb k object_kind
        object-other {e = e} x y = is_object_label w.texts e.kind e.value (value-fit y).kind ∙ ap (λ j. eqb j object_kind) (kind_other x y)

        pub equal-scalar : k < array_kind → EqualIs w at other levels true
        unfolding map_forest
        equal-scalar h c kids e below x y low apart =
            let no_kids : kids ≡ none = (value-fit x).scalar (omega (arith, kind_is x k told)) in
            let none_below : below ≡ none = (value-fit y).scalar (omega (arith, kind_other x y)) in
            let o = is_object (labelled w.texts c) in
            sym (agreed x y ∙ ap₂ (λ f g. agreeing w.texts o g f g) no_kids none_below ∙ agree_end o none)

        module _ (container : array_kind ≤ k) where
          pub equal_flat : (r : Bool) → levels ≡ 0 → EqualIs w at other levels r
          equal_flat r z c kids e below x y low apart = absurd (omega (arith, depth_is x k told container))

          -- all children are left
          pub comparing_all : (end stop : ℕ) → end ≡ end_of w.nodes at → stop ≡ end_of w.nodes other
              → Comparing w at other levels (eqb k object_kind) end stop (at + 1) (other + 1)
          unfolding from
          comparing_all end stop ends stops c kids e below x y low apart =
              record {
                rest = kids;
                beside = below;
                first = siblings_all end ends x;
                second = siblings_all stop stops y;
                distinct = subst (λ b. NoRepeats b (members w.texts below)) (object-other x y) apart;
                passed = 0;
                left = refl;
                shallow = omega (arith, depth_is x k told container);
                same = agreed x y ∙ ap (λ o. agreeing w.texts o below kids below) (object-is x k told);
              }

-- ---- in the loop, and behind it
module _ {w : Table} {at other : ℕ} (levels : ℕ) (o : Bool) (end stop row next : ℕ)
    (comparing : Comparing w at other levels o end stop row next) where
  pub equal_end : end ≤ row → EqualIs w at other levels (leb stop next)
  equal_end h c kids e below x y low apart = sym (pending_end (comparing c kids e below x y low apart) h)

  module _ (more : row < end) where
    pub equal_more : stop ≤ next → EqualIs w at other levels false
    equal_more h c kids e below x y low apart = sym (pending_more (comparing c kids e below x y low apart) more h)

    module _ (others : next < stop) (stops : stop ≡ end_of w.nodes other) (q : Option ℕ) (t : PartnerIs w other stop row next o q) where
      pub equal_alone : q ≡ None → EqualIs w at other levels false
      equal_alone f c kids e below x y low apart =
          sym (pending_alone (comparing c kids e below x y low apart) more others (children_all stop stops y) q t f)

      module _ (pair : ℕ) (is : q ≡ Some pair) (r : Bool) (compared : EqualIs w row pair (levels - 1) r) where
        pub equal_differs : r ≡ false → EqualIs w at other levels false
        equal_differs f c kids e below x y low apart =
            sym (pending_differs (comparing c kids e below x y low apart) more others (children_all stop stops y) q t pair is r compared f)

        pub comparing_next : r ≡ true → (row' next' : ℕ) → row' ≡ end_of w.nodes row → next' ≡ end_of w.nodes next
            → Comparing w at other levels o end stop row' next'
        comparing_next f row' next' m n c kids e below x y low apart =
            pending_next (comparing c kids e below x y low apart) more others (children_all stop stops y) q t pair is r compared f row' next' m n

-- ---- no index gives no hint
pub no_hints : {nodes : List Row} {index : List ℕ} → Hints nodes index 0
no_hints = record { right = λ h. absurd (omega arith) }
