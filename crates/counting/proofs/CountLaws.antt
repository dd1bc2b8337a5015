-- Each way out of `alike` and of `counted`, for whatever values the table holds in the two rows.
use Rattle.std.specs.Prelude.{Option, Some, None, if◌then◌else◌}
use Rattle.std.proofs.Common.{◌≡◌, ℕ, suc, ◌+◌, ◌-◌, ◌%◌, ◌^◌, ◌<◌, ◌≤◌, Bool, true, false, ◌&&◌, eqb}
use Rattle.std.proofs.Common.{[], length, get_or, sym, refl, ap, ◌∙◌, subst, ap₂, add-zero, zero-add, arith, eqb-true}
use Rattle.spec.specs.Forest.{Forest, none, tree, count, from}
use Rattle.spec.specs.Value as Value
use Rattle.spec.specs.Value.{Label, is_object, depth, depths, tag}
use Rattle.spec.specs.Equality.{same_label}
use Rattle.spec.specs.Distinct.{NoRepeats, Distinct}
use Rattle.comparison.specs.Comparison.{Compared, after, ◌then◌, compared}
use Rattle.comparison.proofs.ItemLaws.{compared_items, compared_is}
use Rattle.tape.specs.Layout.{object_kind}
use Rattle.tape.specs.Fields.{kind_of}
use Rattle.tape.specs.declared.fields.Cell.{Cell}
use Rattle.tape.specs.Cell.{level, deep}
use Rattle.tape.specs.Rows.{end_of, ArityIs}
use Rattle.tape.specs.Map.{map_forest}
use Rattle.tape.specs.Lent.{Table}
use Rattle.tape.proofs.Cells.{formed_kids}
use Rattle.tape.proofs.Forests.{from_suc}
use Rattle.tape.proofs.Map.{count_map, depths-map}
use Rattle.table.specs.Meaning.{entry_of, members, meant}
use Rattle.table.specs.Sound.{NodeHeld}
use Rattle.table.proofs.MeaningLaws.{tag_label, depth-meant}
use Rattle.equality.specs.Compare.{SameLabelIs, PartnerIs}
use Rattle.equality.proofs.MatchLaws.{if_same}
use Rattle.equality.proofs.LabelLaws.{same_label-tag}
use Rattle.equality.proofs.SiblingLaws.{value-node, value-inside, value-fit, Children, children_all}
use Rattle.equality.proofs.SiblingLaws.{Siblings, siblings_all, siblings_none, siblings_first, siblings-value, siblings_next}
use Rattle.equality.proofs.PendingLaws.{depth-first, depth_rest}
use Rattle.equality.proofs.EqualLaws.{labelled, labels, object-is}
use Rattle.counting.specs.Places.{place_at, HavePlaces}
use Rattle.counting.specs.Values.{names_for, AlikeIs, Tells, CountedIs}
use Rattle.counting.specs.declared.values.Comparison.{Comparison}
use Rattle.counting.proofs.NoteLaws.{level_none, level_kids}
use Rattle.counting.proofs.ComparedLaws.{then_on, then_differs, then_further, compared_pair, compared_alone, sum_on, sum_wrapped}
use Rattle.counting.proofs.PairLaws.{among, unmatched, matched}

-- ---- each way out of `alike`
module _ {w : Table} {at other : ℕ} where
  pub alike_outside : length w.nodes ≤ at → AlikeIs w at other false
  alike_outside h =
      record {
        inside = λ f. absurd (let z : ◌≡◌ {A = ℕ} 0 1 = cc in omega arith);
        held = λ c kids e below x y. absurd (omega (arith, value-inside x));
      }

  pub alike_outside_other : length w.nodes ≤ other → AlikeIs w at other false
  alike_outside_other h =
      record {
        inside = λ f. absurd (let z : ◌≡◌ {A = ℕ} 0 1 = cc in omega arith);
        held = λ c kids e below x y. absurd (omega (arith, value-inside y));
      }

  module _ {same : Bool} (said : SameLabelIs w.texts (get_or w.nodes at []) (get_or w.nodes other []) same) where
    pub alike_labels : same ≡ false → AlikeIs w at other false
    alike_labels f =
        record {
          inside = λ f. absurd (let z : ◌≡◌ {A = ℕ} 0 1 = cc in omega arith);
          held = λ c kids e below x y. sym (ap (λ s. s && eqb (count kids) (count below)) (sym (labels 0 same said x y) ∙ f));
        }

    pub alike_counts : same ≡ true → at < length w.nodes → other < length w.nodes → {a b : ℕ} → ArityIs w.nodes at a → ArityIs w.nodes other b
        → AlikeIs w at other (eqb a b)
    alike_counts f h i {a} {b} first second =
        record {
          inside = λ t. (h, i);
          held = λ c kids e below x y.
              ap₂ eqb (first.held c kids (value-node x)) (second.held e below (value-node y))
              ∙ sym (ap (λ s. s && eqb (count kids) (count below)) (sym (labels 0 same said x y) ∙ f));
        }

-- ---- two values by their labels and counts
module _ (v w : Value.Value) where
  compared_unlike : (same_label v.label w.label && eqb (count v.kids) (count w.kids)) ≡ false → compared v w ≡ after 0 false
  unfolding ◌then◌
  compared_unlike h = compared_is v w ∙ go (same_label v.label w.label) (eqb (count v.kids) (count w.kids)) h
    where
      items : Compared
      items = compared_items (is_object v.label) v.kids w.kids

      go : (l e : Bool) → (l && e) ≡ false → (after 0 l then (after 0 e then items)) ≡ after 0 false
      go true true h = absurd (let z : ◌≡◌ {A = ℕ} 0 1 = cc in omega arith)
      go true false h = refl
      go false e h = refl

  compared_alike : (same_label v.label w.label && eqb (count v.kids) (count w.kids)) ≡ true
      → compared v w ≡ (after 0 true then compared_items (is_object v.label) v.kids w.kids)
  unfolding ◌then◌
  compared_alike h = compared_is v w ∙ go (same_label v.label w.label) (eqb (count v.kids) (count w.kids)) h
    where
      items : Compared
      items = compared_items (is_object v.label) v.kids w.kids

      go : (l e : Bool) → (l && e) ≡ true → (after 0 l then (after 0 e then items)) ≡ (after 0 true then items)
      go true true h = ap (λ k. after k items.same) (zero-add (0 + items.names))
      go true false h = absurd (let z : ◌≡◌ {A = ℕ} 0 1 = cc in omega arith)
      go false e h = absurd (let z : ◌≡◌ {A = ℕ} 0 1 = cc in omega arith)

both_true : (l e : Bool) → (l && e) ≡ true → (l ≡ true) × (e ≡ true)
both_true true e h = (refl, h)
both_true false e h = absurd (let z : ◌≡◌ {A = ℕ} 0 1 = cc in omega arith)

same_object : (l m : Label) → same_label l m ≡ true → is_object m ≡ is_object l
unfolding is_object
same_object l m h = ap (λ t. eqb t 6) (sym (same_label-tag l m h))

-- ---- values in the table
module _ {w : Table} {at levels : ℕ} {c : Cell} {kids : Forest Cell} (x : NodeHeld w at c kids) (low : depth (meant w.texts c kids) ≤ levels) where
  shallow_level : level c (deep kids) ≤ levels
  shallow_level = omega (arith, depth-meant w.texts c kids (value-fit x).kind (formed_kids x.held.formed))

  -- one that nests no container has no children
  pub no_children : levels ≡ 0 → kids ≡ none
  no_children z = level_none (value-node x) shallow_level z

  children_shallow : depths (members w.texts kids) ≤ levels - 1
  children_shallow =
      let same : (d : Cell) → d.kind ≤ 6 → tag (entry_of w.texts d).label ≡ d.kind = λ d h. tag_label w.texts d.kind d.value h in
      omega (arith, depths-map (entry_of w.texts) same (formed_kids x.held.formed), level_kids (value-node x) shallow_level)

-- ---- at the head of the loop: what the two containers come to, where the second has the trees `all`. `names` is the count so far, and the rest is
-- what is left of both.
pub record Pending (w : Table) (o : Bool) (other row end next stop levels : ℕ) (all : Forest Cell) (whole : Compared) (names : ℕ) : Type 0 where
  pub rest : Forest Cell
  pub beside : Forest Cell
  pub first : Siblings w row end rest
  pub second : Siblings w next stop beside
  pub distinct : NoRepeats o (members w.texts all)
  pub placed : HavePlaces (place_at w.nodes) (other + 1) 1 all
  pub passed : ℕ
  pub left : from passed all ≡ beside
  pub shallow : depths (members w.texts rest) ≤ levels
  pub counts : count rest ≡ count beside
  pub so_far : ℕ
  pub sum : names ≡ so_far % 2 ^ 64
  pub is : whole ≡ (after so_far true then compared_items o (members w.texts rest) (among w o all beside))

abbrev pub Counting : Table → ℕ → ℕ → ℕ → Bool → ℕ → ℕ → ℕ → ℕ → ℕ → Type 0
Counting w at other levels o end stop row next names =
    (c : Cell) (kids : Forest Cell) (e : Cell) (below : Forest Cell) → NodeHeld w at c kids → NodeHeld w other e below
    → depth (meant w.texts c kids) ≤ levels → Distinct (meant w.texts e below) → HavePlaces (place_at w.nodes) (other + 1) 1 below
    → Pending w o other row end next stop (levels - 1) below (compared (meant w.texts c kids) (meant w.texts e below)) names

-- a verdict told
tells : {a : Compared} {r : Comparison} (n : ℕ) (s : Bool) → a ≡ after n s → r.same ≡ s → r.names ≡ n % 2 ^ 64 → Tells a r
tells n s e f g = record { verdict = f ∙ sym (ap (λ (b : Compared). b.same) e); counts = g ∙ sym (ap (λ (b : Compared). b.names % 2 ^ 64) e) }

module _ {w : Table} {o : Bool} {other row end next stop levels : ℕ} {all : Forest Cell} {whole : Compared} {names : ℕ}
    (p : Pending w o other row end next stop levels all whole names) where
  -- none is left
  pub pending_end : {r : Comparison} → end ≤ row → r.same ≡ true → r.names ≡ names → Tells whole r
  unfolding map_forest compared_items
  pending_end h f g =
      let n = p.so_far in
      let empty = ap (λ u. after n true then compared_items o (members w.texts u) (among w o all p.beside)) (siblings_none p.first h) in
      tells n true (p.is ∙ empty ∙ then_on n (after 0 true) ∙ ap (λ k. after k true) (add-zero n)) f (g ∙ p.sum)

  -- a tree is left of both
  module _ (more : row < end) where
    step : {C : Type 0}
        → ((c : Cell) (ks rest : Forest Cell) (d : Cell) (ds behind : Forest Cell) → p.rest ≡ tree c ks rest → p.beside ≡ tree d ds behind
        → Siblings w row end (tree c ks rest) → Siblings w next stop (tree d ds behind) → C)
        → C
    unfolding count
    step then-it =
        siblings_first p.first more λ c ks rest is x.
        first_of p.beside (omega (arith, p.counts, ap count is)) λ d ds behind are.
        then-it c ks rest d ds behind is are x (subst (Siblings w next stop) are p.second)
      where
        first_of : {C : Type 0} (g : Forest Cell) → 0 < count g → ((d : Cell) (ds behind : Forest Cell) → g ≡ tree d ds behind → C) → C
        first_of none h k = absurd (omega arith)
        first_of (tree d ds behind) h k = k d ds behind refl

    now_left : (f g : Forest Cell) → p.rest ≡ f → p.beside ≡ g
        → whole ≡ (after p.so_far true then compared_items o (members w.texts f) (among w o all g))
    now_left f g e d = p.is ∙ ap₂ (λ f g. after p.so_far true then compared_items o (members w.texts f) (among w o all g)) e d

    module _ (children : Children w other stop all) (q : Option ℕ) (t : PartnerIs w other stop row next o q) where
      -- no member has the name
      pub pending_alone : {r : Comparison} → q ≡ None → {n : ℕ} → n ≡ count all → r.same ≡ false → r.names ≡ (names + n) % 2 ^ 64 → Tells whole r
      unfolding map_forest
      pending_alone e {n} n-is f g =
          step λ c ks rest d ds behind is are x y.
          let (nowhere, looked) = unmatched children x y o q t e in
          let T = w.texts in
          let last = compared_alone (entry_of T c) (members T ks) (members T rest) o (among w o all (tree d ds behind)) nowhere in
          tells (p.so_far + n) false
          (now_left (tree c ks rest) (tree d ds behind) is are ∙ ap (λ a. after p.so_far true then a) last ∙ then_on p.so_far _
          ∙ ap (λ k. after (p.so_far + k) false) (looked ∙ sym n-is))
          f (sum_on (2 ^ 64) p.so_far p.sum n g)

      -- one has it: its names, then the two values
      module _ (pair : ℕ) (e : q ≡ Some pair) (r : Comparison) (inner : CountedIs w row pair levels r) where
        turn : {C : Type 0}
            → ((c : Cell) (ks rest : Forest Cell) (d : Cell) (ds behind : Forest Cell) → p.rest ≡ tree c ks rest → p.beside ≡ tree d ds behind
            → Siblings w row end (tree c ks rest) → Siblings w next stop (tree d ds behind) → depths (members w.texts (tree c ks rest)) ≤ levels
            → (a : Compared) → Tells a r
            → whole ≡ (after (p.so_far + names_for o w.nodes pair) true then (a then compared_items o (members w.texts rest) (among w o all behind)))
            → C)
            → C
        unfolding map_forest
        turn then-it =
            step λ c ks rest d ds behind is are x y.
            let T = w.texts in
            let m = matched children x y p.placed p.passed (p.left ∙ are) pair o p.distinct q t e in
            let low : depths (members T (tree c ks rest)) ≤ levels = subst (λ f. depths (members T f) ≤ levels) is p.shallow in
            let one : depth (meant T c ks) ≤ levels = omega (arith, depth-first T c ks rest) in
            let told = inner c ks m.p m.ps (siblings-value x) (siblings-value m.there) one m.apart m.below in
            let a = compared (meant T c ks) (meant T m.p m.ps) in
            let n = names_for o w.nodes pair in
            let pairs = compared_pair (entry_of T c) (members T ks) (members T rest) o (among w o all (tree d ds behind)) (entry_of T m.p) (members T m.ps)
            (members T m.behind) m.partner_is in
            let later = compared_items o (members T rest) (among w o all behind) in
            let here : compared_items o (members T (tree c ks rest)) (among w o all (tree d ds behind)) ≡ (after n true then (a then later)) =
            pairs ∙ ap₂ (λ k g. after k true then (a then compared_items o (members T rest) g)) m.names_are m.rest_is in
            then-it c ks rest d ds behind is are x y low a told
            (now_left (tree c ks rest) (tree d ds behind) is are ∙ ap (λ b. after p.so_far true then b) here
            ∙ then_further p.so_far (after n true) (a then later) refl)

        -- the sum with the names, and with those of the values
        module _ {names' names'' : ℕ} (noted : names' ≡ (names + names_for o w.nodes pair) % 2 ^ 64) (added : names'' ≡ (names' + r.names) % 2 ^ 64) where
          summed : (a : Compared) → Tells a r → names'' ≡ (p.so_far + names_for o w.nodes pair + a.names) % 2 ^ 64
          summed a told =
              sum_wrapped (2 ^ 64) (p.so_far + names_for o w.nodes pair) (sum_on (2 ^ 64) p.so_far p.sum (names_for o w.nodes pair) noted)
              a.names told.counts added

          pub pending_differs : r.same ≡ false → {r' : Comparison} → r'.same ≡ false → r'.names ≡ names'' → Tells whole r'
          pending_differs f g h =
              turn λ c ks rest d ds behind is are x y low a told whole_is.
              let n = p.so_far + names_for o w.nodes pair in
              let differs : a.same ≡ false = sym told.verdict ∙ f in
              tells (n + a.names) false
              (whole_is ∙ ap (λ b. after n true then b) (then_differs a _ differs) ∙ then_on n a ∙ ap (λ s. after (n + a.names) s) differs) g
              (h ∙ summed a told)

          pub pending_next : r.same ≡ true → (row' next' : ℕ) → row' ≡ end_of w.nodes row → next' ≡ end_of w.nodes next
              → Pending w o other row' end next' stop levels all whole names''
          unfolding count
          pending_next f row' next' i j =
              turn λ c ks rest d ds behind is are x y low a told whole_is.
              record {
                rest = rest;
                beside = behind;
                first = siblings_next x row' i;
                second = siblings_next y next' j;
                distinct = p.distinct;
                placed = p.placed;
                passed = suc p.passed;
                left = from_suc p.passed all d ds behind (p.left ∙ are);
                shallow = omega (arith, depth_rest w.texts c ks rest);
                counts = omega (arith, p.counts, ap count is, ap count are);
                so_far = p.so_far + names_for o w.nodes pair + a.names;
                sum = summed a told;
                is = whole_is ∙ then_further (p.so_far + names_for o w.nodes pair) a _ (sym told.verdict ∙ f);
              }

-- ---- before the loop
module _ {w : Table} {at other : ℕ} (levels : ℕ) {same : Bool} (said : AlikeIs w at other same) where
  alike_told : (s : Bool) → same ≡ s → {c e : Cell} {kids below : Forest Cell} → NodeHeld w at c kids → NodeHeld w other e below
      → (same_label (labelled w.texts c) (labelled w.texts e) && eqb (count (members w.texts kids)) (count (members w.texts below))) ≡ s
  alike_told s f {c} {e} {kids} {below} x y =
      ap₂ (λ m n. same_label (labelled w.texts c) (labelled w.texts e) && eqb m n) (count_map (entry_of w.texts) kids)
      (count_map (entry_of w.texts) below)
      ∙ sym (said.held c kids e below x y) ∙ f

  pub counted_unlike : same ≡ false → {r : Comparison} → r.same ≡ false → r.names ≡ 0 → CountedIs w at other levels r
  counted_unlike f g h c kids e below x y low apart placed =
      tells 0 false (compared_unlike (meant w.texts c kids) (meant w.texts e below) (alike_told false f x y)) g h

  module _ (f : same ≡ true) where
    pub counted_flat : levels ≡ 0 → {r : Comparison} → r.same ≡ true → r.names ≡ 0 → CountedIs w at other levels r
    unfolding map_forest compared_items
    counted_flat z g h c kids e below x y low apart placed =
        let o = is_object (labelled w.texts c) in
        let empty = ap (λ u. after 0 true then compared_items o (members w.texts u) (members w.texts below)) (no_children x low z) in
        tells 0 true
        (compared_alike (meant w.texts c kids) (meant w.texts e below) (alike_told true f x y) ∙ empty ∙ then_on 0 (after 0 true)) g h

    -- all children are left
    pub counting_all : (k : ℕ) → k ≡ kind_of (get_or w.nodes at []) → (end stop : ℕ) → end ≡ end_of w.nodes at → stop ≡ end_of w.nodes other
        → Counting w at other levels (eqb k object_kind) end stop (at + 1) (other + 1) 0
    unfolding from
    counting_all k told end stop ends stops c kids e below x y low apart placed =
        let T = w.texts in
        let (label, counted) = both_true _ _ (sym (said.held c kids e below x y) ∙ f) in
        let object = object-is x k told in
        let o = eqb k object_kind in
        record {
          rest = kids;
          beside = below;
          first = siblings_all end ends x;
          second = siblings_all stop stops y;
          distinct = subst (λ b. NoRepeats b (members T below)) (same_object (labelled T c) (labelled T e) label ∙ object) apart;
          placed = placed;
          passed = 0;
          left = refl;
          shallow = children_shallow x low;
          counts = eqb-true (count kids) (count below) counted;
          so_far = 0;
          sum = refl;
          is =
              compared_alike (meant T c kids) (meant T e below) (alike_told true f x y)
              ∙ ap₂ (λ b g. after 0 true then compared_items b (members T kids) g) object (sym (if_same o (members T below)));
        }

-- ---- in the loop, and behind it
module _ {w : Table} {at other : ℕ} (levels : ℕ) (o : Bool) (end stop row next names : ℕ)
    (counting : Counting w at other levels o end stop row next names) where
  pub counted_end : {r : Comparison} → end ≤ row → r.same ≡ true → r.names ≡ names → CountedIs w at other levels r
  counted_end h f g c kids e below x y low apart placed = pending_end (counting c kids e below x y low apart placed) h f g

  module _ (more : row < end) (stops : stop ≡ end_of w.nodes other) (q : Option ℕ) (t : PartnerIs w other stop row next o q) where
    pub counted_alone : {r : Comparison} {n : ℕ} → q ≡ None → ArityIs w.nodes other n → r.same ≡ false → r.names ≡ (names + n) % 2 ^ 64
        → CountedIs w at other levels r
    counted_alone m arity f g c kids e below x y low apart placed =
        pending_alone (counting c kids e below x y low apart placed) more (children_all stop stops y) q t m (arity.held e below (value-node y)) f g

    module _ (pair : ℕ) (is : q ≡ Some pair) (r : Comparison) (inner : CountedIs w row pair (levels - 1) r) {n names' names'' : ℕ}
        (place : n ≡ names_for o w.nodes pair) (sum : names' ≡ (names + n) % 2 ^ 64) (added : names'' ≡ (names' + r.names) % 2 ^ 64) where
      noted : names' ≡ (names + names_for o w.nodes pair) % 2 ^ 64
      noted = sum ∙ ap (λ k. (names + k) % 2 ^ 64) place

      pub counted_differs : r.same ≡ false → {r' : Comparison} → r'.same ≡ false → r'.names ≡ names'' → CountedIs w at other levels r'
      counted_differs d f g c kids e below x y low apart placed =
          pending_differs (counting c kids e below x y low apart placed) more (children_all stop stops y) q t pair is r inner noted added d f g

      pub counting_next : r.same ≡ true → (row' next' : ℕ) → row' ≡ end_of w.nodes row → next' ≡ end_of w.nodes next
          → Counting w at other levels o end stop row' next' names''
      counting_next d row' next' i j c kids e below x y low apart placed =
          pending_next (counting c kids e below x y low apart placed) more (children_all stop stops y) q t pair is r inner noted added d row' next' i j
