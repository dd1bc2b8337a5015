-- The loop over the target's members: what stands so far, and what a turn makes of it.
use Rattle.std.specs.Prelude.{if◌then◌else◌}
use Prim.Native.Nat.{ℕ, zero, suc, ◌+◌, ◌-◌, ◌≤◌, ◌<◌, min}
use native.Mathlib.Omega.{arith}
use mathlib.Core.Path.{◌≡◌, refl, sym, ap, ap₂, ◌∙◌, subst}
use mathlib.Core.Bool.{Bool, true, false, true≢false}
use mathlib.Core.List.{List, []}
use mathlib.Core.Option as Option
use lib.Dec.{eqb}
use lib.ListN.{length, drop, get_or}
use borrow.Author.Tests.{eqb-true, eq-eqb, ne_eqb}
use Rattle.spec.specs.Bytes.{Text}
use Rattle.spec.specs.Forest.{Forest, none, tree, single, size, count, before, from, ◌⧺◌}
use Rattle.spec.specs.Value as Value
use Rattle.spec.specs.Value.{Label, tag, is_object, is_container, same_text, find, has, depths, levels}
use Rattle.spec.proofs.TextLaws.{same_text_refl, same_text-apart}
use Rattle.spec.specs.Distinct as Repeats
use Rattle.spec.specs.Distinct.{NoRepeats}
use Rattle.spec.proofs.NameLaws.{has_cons}
use Rattle.merging.specs.MergePatch.{is_null}
use Rattle.merging.specs.Parts.{get}
use Rattle.merging.proofs.MemberLaws.{absent_has}
use Rattle.tape.specs.Layout.{scratch_row, object_kind, rows}
use Rattle.tape.specs.Fields.{Row, kind_of}
use Rattle.tape.specs.declared.fields.Cell.{Cell}
use Rattle.tape.specs.Tape.{tape}
use Rattle.tape.specs.Cell.{formed_none}
use Rattle.tape.specs.Rows.{end_of}
use Rattle.tape.specs.Map.{map_forest}
use Rattle.tape.specs.Lent.{Texts, Table}
use Rattle.tape.proofs.Forests.{size_⧺}
use Rattle.tape.proofs.Map.{size-map, map-from}
use Rattle.tape.proofs.Cells.{formed_fit}
use Rattle.tape.proofs.Held.{held_node}
use Rattle.tape.proofs.Rows.{end_here, kind_here}
use Rattle.table.specs.Meaning.{name_text, entry_of, members, meant}
use Rattle.table.specs.Sound.{NameFits}
use Rattle.table.specs.All.{all_none, all_tree}
use Rattle.table.proofs.AllLaws.{all_first, all_kids, all_from}
use Rattle.table.proofs.MeaningLaws.{is_object_label, tag_label}
use Rattle.equality.proofs.MatchLaws.{inside}
use Rattle.equality.proofs.SiblingLaws.{Siblings, siblings_all, siblings_first, siblings_next, siblings_none, siblings-value}
use Rattle.origin.specs.Value as Origin
use Rattle.origin.specs.Value.{Entry, Members, named, painted}
use Rattle.origin.specs.MergePatch.{merge_origin, merge_patch}
use Rattle.merge.specs.Bearing.{View, entry_by, members_by, value_by, BearsMerge}
use Rattle.merge.specs.Parts.{gather, kept_by, kept, merged_members}
use Rattle.merge.specs.Building.{full, CopyIs, Framed, Built}
use Rattle.merge.specs.Marks.{Changed, Marks, NotedIs}
use Rattle.merge.specs.Partner.{PatchObject}
use Rattle.merge.specs.Steps.{step_for, Keeps, keeps_own, keeps_other, KeepIs}
use Rattle.merge.specs.Merged.{members_end, Target, target-object, target_other, Merges, MergeObjectIs}
use Rattle.merge.specs.declared.steps.Step.{Step}
use Rattle.merge.specs.declared.steps.Step.TheVariants.{Nothing, Copy, Merge}
use Rattle.merge.proofs.BuildLaws.{framed_self, built_none, framed_then, framed_before, built_kept, built_join}
use Rattle.merge.proofs.MarkLaws.{changed_then, changed_wider, marks_inside, marks_as, marks_absent, has-from, alone_first, alone_kids}
use Rattle.merge.proofs.MarkLaws.{alone_rest}
use Rattle.merge.proofs.PathLaws.{ways_kept, ways-member}
use Rattle.merge.proofs.StepLaws.{member-siblings, member-inside}
use Rattle.merge.proofs.LaidLaws.{with_nodes, siblings_stay, object-stays, changed_on, Laid, laid_none, laid_copy, laid_merge}
use Rattle.merge.proofs.LaidLaws.{is_object_lem, value-merged, AsTarget, as_target, merged_value}
use Rattle.merge.proofs.PartLaws.{⧺_none, ⧺_assoc, merge_other}

-- ---- what a step tells
module _ (kind found : ℕ) where
  pub step_nothing : step_for kind found ≡ Nothing → eqb kind 0 ≡ true
  unfolding step_for
  step_nothing e = go (eqb kind 0) (eqb kind 6) e
    where
      go : (a b : Bool) → (if a then Nothing else if b then Merge found else Copy found) ≡ Nothing → a ≡ true
      go true b e = refl
      go false true e = absurd (let z : ◌≡◌ {A = ℕ} 0 1 = cc in omega arith)
      go false false e = absurd (let z : ◌≡◌ {A = ℕ} 0 1 = cc in omega arith)

  pub step_copy : (from : ℕ) → step_for kind found ≡ Copy from → (eqb kind 0 ≡ false) × (eqb kind 6 ≡ false) × (found ≡ from)
  unfolding step_for
  step_copy from e = go (eqb kind 0) (eqb kind 6) e
    where
      go : (a b : Bool) → (if a then Nothing else if b then Merge found else Copy found) ≡ Copy from → (a ≡ false) × (b ≡ false) × (found ≡ from)
      go true b e = absurd (let z : ◌≡◌ {A = ℕ} 0 1 = cc in omega arith)
      go false true e = absurd (let z : ◌≡◌ {A = ℕ} 0 1 = cc in omega arith)
      go false false e = let same : found ≡ from = cc in (refl, refl, same)

  pub step_merge : (from : ℕ) → step_for kind found ≡ Merge from → (eqb kind 0 ≡ false) × (eqb kind 6 ≡ true) × (found ≡ from)
  unfolding step_for
  step_merge from e = go (eqb kind 0) (eqb kind 6) e
    where
      go : (a b : Bool) → (if a then Nothing else if b then Merge found else Copy found) ≡ Merge from → (a ≡ false) × (b ≡ true) × (found ≡ from)
      go true b e = absurd (let z : ◌≡◌ {A = ℕ} 0 1 = cc in omega arith)
      go false true e = let same : found ≡ from = cc in (refl, refl, same)
      go false false e = absurd (let z : ◌≡◌ {A = ℕ} 0 1 = cc in omega arith)

pub null_label : (T : Texts) (c : Cell) → c.kind ≤ object_kind → is_null (entry_of T c).label ≡ eqb c.kind 0
unfolding is_null
null_label T c h = ap (λ t. eqb t 0) (tag_label T c.kind c.value h)

-- the member at a position is the one that its name finds
pub get_from : (T : Texts) (k : ℕ) (f : Forest Cell) {c : Cell} {below after : Forest Cell} → from k f ≡ tree c below after → NoRepeats true (members T f)
    → get (name_text T c.name) (members T f) ≡ Option.some (meant T c below)
unfolding from get map_forest
get_from T zero none is distinct = absurd (let z : ◌≡◌ {A = ℕ} 0 1 = cc in omega arith)
get_from T (suc k) none is distinct = absurd (let z : ◌≡◌ {A = ℕ} 0 1 = cc in omega arith)
get_from T zero (tree d ds rest) {c} {below} is distinct =
    let cell : d ≡ c = cc in
    let under : ds ≡ below = cc in
    rw (cell, under, same_text_refl (name_text T c.name))
get_from T (suc k) (tree d ds rest) {c} is distinct =
    let apart : same_text (name_text T d.name) (name_text T c.name) ≡ false =
    same_text-apart (name_text T d.name) (name_text T c.name)
    (λ q. true≢false (sym (has-from T k rest is) ∙ ap (λ n. has n (members T rest)) (sym q) ∙ alone_first distinct)) in
    rw apart (get_from T k rest is (alone_rest distinct))

-- ---- what becomes of a member of the target
module _ (patch : Value.Members) (e : Entry) (ks : Members) where
  kept_own : get e.name patch ≡ Option.none → kept patch e ks ≡ single (named e.name (record { label = e.label; origin = e.origin; kids = ks }))
  unfolding kept kept_by
  kept_own h = rw h

  module _ {x : Value.Value} (h : get e.name patch ≡ Option.some x) where
    kept_null : is_null x.label ≡ true → kept patch e ks ≡ none
    unfolding kept kept_by
    kept_null z = rw (h, z)

    kept_some : is_null x.label ≡ false
        → kept patch e ks ≡ single (named e.name (merge_patch (record { label = e.label; origin = e.origin; kids = ks }) x))
    unfolding kept kept_by
    kept_some z = rw (h, z)

-- ---- what is given
pub record Given (o : View) (w : Table) (xs : List ℕ) (patch to levels : ℕ) (c : Cell) (kids : Forest Cell) : Type 0 where
  pub object : PatchObject w patch c kids xs
  pub merged : BearsMerge o (tree c kids none)
  pub low : scratch_row ≤ to
  pub few : to ≤ full
  pub long : length w.nodes ≡ rows
  pub shallow : depths (members w.texts kids) < levels

-- ---- what stands so far behind the object's own row
pub record SoFar (o : View) (w : Table) (xs : List ℕ) (patch to : ℕ) (kids : Forest Cell)
    (all : Members) (nodes : List Row) (ys : List ℕ) (next : ℕ) : Type 0 where
  pub framed : Framed to w.nodes nodes
  pub changed : Changed w.nodes patch (patch + 1 + size kids) xs ys
  pub counted : next ≡ min (to + 1 + size all) full
  pub built : next ≤ rows → Built o w.texts nodes (to + 1) next all

module _ {o : View} {w : Table} {xs : List ℕ} {patch to levels : ℕ} {c : Cell} {kids : Forest Cell} (g : Given o w xs patch to levels c kids) {all : Members}
    {nodes : List Row} {ys : List ℕ} {next : ℕ} (s : SoFar o w xs patch to kids all nodes ys next) where
  pub so_far_framed : Framed scratch_row w.nodes nodes
  so_far_framed = framed_before scratch_row g.low s.framed

  pub object-now : PatchObject (with_nodes w nodes) patch c kids ys
  object-now = object-stays so_far_framed s.changed g.object

  pub end_now : end_of nodes patch ≡ patch + 1 + size kids
  end_now = end_here (held_node object-now.held.held)

  -- one more
  pub so_far_more : {one : Members} {nodes' : List Row} {ws : List ℕ} {next' : ℕ} → Laid o w.texts nodes next one nodes' next'
      → Changed nodes patch (patch + 1 + size kids) ys ws → SoFar o w xs patch to kids (all ⧺ one) nodes' ws next'
  so_far_more {one} {nodes'} {ws} {next'} l ch =
      let onward : (to ≤ next) × (next ≤ next') = (omega (arith, s.counted, g.few), omega (arith, s.counted, l.counted)) in
      record {
        framed = framed_then s.framed (framed_before to onward.0 l.framed);
        changed = changed_then s.changed (changed_on so_far_framed ch);
        counted = omega (arith, s.counted, l.counted, size_⧺ all one);
        built = λ room. built_join (built_kept l.framed (s.built (omega arith))) (l.built room);
      }

-- a member nests no more containers than the deepest of all, and an object one more than its members
depths-from : (T : Texts) (k : ℕ) (f : Forest Cell) {c : Cell} {below after : Forest Cell} → from k f ≡ tree c below after
    → levels (entry_of T c).label (depths (members T below)) ≤ depths (members T f)
unfolding from depths map_forest
depths-from T zero none is = absurd (let z : ◌≡◌ {A = ℕ} 0 1 = cc in omega arith)
depths-from T (suc k) none is = absurd (let z : ◌≡◌ {A = ℕ} 0 1 = cc in omega arith)
depths-from T zero (tree d ds rest) {c} {below} is =
    let cell : d ≡ c = cc in
    let under : ds ≡ below = cc in
    let same : levels (entry_of T d).label (depths (members T ds)) ≡ levels (entry_of T c).label (depths (members T below)) =
    ap₂ (λ (e : Cell) (f : Forest Cell). levels (entry_of T e).label (depths (members T f))) cell under in
    omega arith
depths-from T (suc k) (tree d ds rest) is = omega (arith, depths-from T k rest is)

pub object-levels : (l : Label) (below : ℕ) → is_object l ≡ true → levels l below ≡ suc below
unfolding levels is_container is_object
object-levels l below o = rw (eqb-true (tag l) 6 o)

-- ---- a member of an object of the patch is merged, or put in as it is
module _ {w : Table} {patch : ℕ} {p : Cell} {kids : Forest Cell} {ys : List ℕ} (o : PatchObject w patch p kids ys) (long : length w.nodes ≡ rows)
    (view : View) (ones : BearsMerge view kids) (k : ℕ) {c : Cell} {below after : Forest Cell}
    (found : ℕ) (is : from k kids ≡ tree c below after) (place : found ≡ patch + 1 + size (before k kids)) where
  pub member-fits : NameFits w.texts c.name
  member-fits = (all_first (member-siblings o k found is place).sound).name

  pub member-kind : c.kind ≤ object_kind
  member-kind = (formed_fit (member-siblings o k found is place).left.held.formed).kind

  ones_here : BearsMerge view (tree c below after)
  ones_here = subst (BearsMerge view) is (all_from k ones)

  -- it is put in
  pub member-copied : {nodes' : List Row} {next next' : ℕ} → CopyIs w.nodes found next nodes' next'
      → Laid view w.texts w.nodes next (single (named (name_text w.texts c.name) (painted merge_origin (meant w.texts c below)))) nodes' next'
  member-copied {nodes'} {next} {next'} copy =
      subst (λ u. Laid view w.texts w.nodes next (single (named (name_text w.texts c.name) u)) nodes' next')
      (value-merged view w.texts ones_here) (laid_copy copy (siblings-value (member-siblings o k found is place)) member-fits long)

  distinct_below : c.kind ≡ object_kind → NoRepeats true (members w.texts below)
  unfolding map_forest
  distinct_below kind =
      subst (λ b. NoRepeats b (members w.texts below)) (is_object_lem w.texts c kind)
      (inside k o.distinct (sym (map-from (entry_of w.texts) k kids) ∙ ap (members w.texts) is))

  pub member-object : {zs : List ℕ} → c.kind ≡ object_kind → Changed w.nodes patch (end_of w.nodes patch) ys zs → PatchObject w found c below zs
  member-object kind ch =
      let inside = member-inside o k found is place in
      record {
        held = siblings-value (member-siblings o k found is place);
        object = kind;
        behind = omega (arith, o.behind, inside);
        inside = omega (arith, o.inside, inside);
        distinct = distinct_below kind;
        ways = ways_kept (ways-member w.texts k kids found o.ways is place (is_object_lem w.texts c kind)) ch.paths
            (omega (arith, o.behind, inside)) (omega (arith, o.inside, inside, size-map (entry_of w.texts) below));
        hints = ch.right o.hints;
      }

  pub member-depth : {most : ℕ} → c.kind ≡ object_kind → depths (members w.texts kids) < most → depths (members w.texts below) < most - 1
  member-depth kind h =
      omega (
        arith,
        depths-from w.texts k kids is,
        object-levels (entry_of w.texts c).label (depths (members w.texts below)) (is_object_lem w.texts c kind),
      )

  -- it is merged with a value
  module _ {at : ℕ} {v : Origin.Value} (t : AsTarget view w at v) (kind : c.kind ≡ object_kind) {zs ws : List ℕ} {nodes' : List Row} {next next' levels : ℕ}
      (changed : Changed w.nodes patch (end_of w.nodes patch) ys zs) (merges : MergeObjectIs w at found next (levels - 1) zs nodes' ws next')
      (shallow : depths (members w.texts kids) < levels) where
    merged_here : Merges view w found next c below t.origin
        (merged_members (members_by view w.texts t.cells) (members w.texts below)) zs nodes' ws next'
    merged_here =
        merges.held view c below (member-object kind changed) (all_tree (all_first ones_here) (all_kids ones_here) all_none)
        t.origin t.cells t.target (member-depth kind shallow)

    pub member-merged : Laid view w.texts w.nodes next
        (single (named (name_text w.texts c.name) (merge_patch v (meant w.texts c below)))) nodes' next'
    member-merged =
        let s = siblings-value (member-siblings o k found is place) in
        subst (λ u. Laid view w.texts w.nodes next (single (named (name_text w.texts c.name) u)) nodes' next')
        (sym (merged_value t c below kind (distinct_below kind)))
        (laid_merge merges.framed merged_here member-fits s.label)

    pub member-changed : Changed w.nodes found (found + 1 + size below) zs ws
    member-changed =
        let e = end_here (held_node (member-siblings o k found is place).left.held) in
        subst (λ n. Changed w.nodes found n zs ws) e merged_here.changed

-- ---- the loop
pub record Keeping (o : View) (w : Table) (xs : List ℕ) (patch to levels end : ℕ) (c : Cell)
    (kids ts : Forest Cell) (nodes : List Row) (ys : List ℕ) (next row : ℕ) : Type 0 where
  pub given : Given o w xs patch to levels c kids
  pub left : Forest Cell
  pub siblings : Siblings (with_nodes w nodes) row end left
  pub low : 0 < size left → end ≤ scratch_row
  pub distinct : NoRepeats true (members w.texts left)
  pub all : Members
  pub so_far : SoFar o w xs patch to kids all nodes ys next
  pub whole : gather (kept (members w.texts kids)) (members_by o w.texts ts) ≡ all ⧺ gather (kept (members w.texts kids)) (members_by o w.texts left)
  pub met : Text → Bool
  pub marks : Marks w.texts ys met (patch + 1) kids
  pub had : (n : Text) → has n (members w.texts ts) ≡ (if met n then true else has n (members w.texts left))

module _ {o : View} {w : Table} {xs : List ℕ} {patch to levels end : ℕ} {c : Cell} {kids ts : Forest Cell} {nodes : List Row} {ys : List ℕ} {next row : ℕ}
    (q : Keeping o w xs patch to levels end c kids ts nodes ys next row) (more : row < end) (row' : ℕ) (goes : row' ≡ end_of nodes row) where
  -- the first of those left is done
  keeping_on : (d : Cell) (ds rest : Forest Cell) → q.left ≡ tree d ds rest → Siblings (with_nodes w nodes) row end (tree d ds rest)
      → {nodes' : List Row} {ws : List ℕ} {next' : ℕ}
      → Laid o w.texts nodes next (kept (members w.texts kids) (entry_by o w.texts d) (members_by o w.texts ds)) nodes' next'
      → Changed nodes patch (patch + 1 + size kids) ys ws
      → Marks w.texts ws (λ n. if same_text (name_text w.texts d.name) n then true else q.met n) (patch + 1) kids
      → Keeping o w xs patch to levels end c kids ts nodes' ws next' row'
  unfolding map_forest gather size
  keeping_on d ds rest e s {nodes'} {ws} {next'} laid changed marks =
      let T : Texts = w.texts in
      let ps : Value.Members = members T kids in
      let one : Members = kept ps (entry_by o T d) (members_by o T ds) in
      let onward : scratch_row ≤ next = omega (arith, q.so_far.counted, q.given.low) in
      let distinct : NoRepeats true (members T (tree d ds rest)) = subst (λ f. NoRepeats true (members T f)) e q.distinct in
      let fewer : 0 < size (tree d ds rest) → end ≤ scratch_row = subst (λ (f : Forest Cell). 0 < size f → end ≤ scratch_row) e q.low in
      record {
        given = q.given;
        left = rest;
        siblings = siblings_stay (framed_before scratch_row onward laid.framed) (λ h. fewer (omega arith)) (siblings_next s row' goes);
        low = λ h. fewer (omega arith);
        distinct = alone_rest distinct;
        all = q.all ⧺ one;
        so_far = so_far_more q.given q.so_far laid changed;
        whole = q.whole ∙ ap (λ f. q.all ⧺ gather (kept ps) (members_by o T f)) e ∙ sym (⧺_assoc q.all one (gather (kept ps) (members_by o T rest)));
        met = λ n. if same_text (name_text T d.name) n then true else q.met n;
        marks = marks;
        had = λ n.
            q.had n ∙ ap (λ f. (if q.met n then true else has n (members T f))) e
            ∙ ap (λ b. (if q.met n then true else b)) (has_cons n (entry_of T d) (members T ds) (members T rest))
            ∙ either (q.met n) (same_text (name_text T d.name) n) (has n (members T rest));
      }
    where
      either : (a b c : Bool) → (if a then true else if b then true else c) ≡ (if (if b then true else a) then true else c)
      either true true c = refl
      either true false c = refl
      either false true c = refl
      either false false c = refl

  -- ---- by what `keep` answers
  module _ {zs : List ℕ} {step : Step} (keeps : KeepIs (with_nodes w nodes) patch row ys zs step) where
    turn : {A : Type 0}
        → ((d : Cell) (ds rest : Forest Cell) → q.left ≡ tree d ds rest → Siblings (with_nodes w nodes) row end (tree d ds rest)
        → Changed nodes patch (patch + 1 + size kids) ys zs → Keeps (with_nodes w nodes) patch row kids (name_text w.texts d.name) q.met zs step → A)
        → A
    turn then-it =
        siblings_first q.siblings more λ d ds rest e s.
        let o = object-now q.given q.so_far in
        let told = keeps.held c kids o d ds (siblings-value s) (all_first s.sound).name q.met q.marks in
        then-it d ds rest e s (subst (λ n. Changed nodes patch n ys zs) (end_now q.given q.so_far) told.0) told.1

    module _ (d : Cell) (ds rest : Forest Cell) (is : q.left ≡ tree d ds rest) (s : Siblings (with_nodes w nodes) row end (tree d ds rest))
        (ch : Changed nodes patch (patch + 1 + size kids) ys zs) where
      object-here : PatchObject (with_nodes w nodes) patch c kids ys
      object-here = object-now q.given q.so_far

      long_here : length nodes ≡ rows
      long_here = q.so_far.framed.same_length ∙ q.given.long

      ones : BearsMerge o kids
      ones = all_kids q.given.merged

      target_low : row + size ds < scratch_row
      unfolding size
      target_low =
          let fewer : 0 < size (tree d ds rest) → end ≤ scratch_row = subst (λ (f : Forest Cell). 0 < size f → end ≤ scratch_row) is q.low in
          omega (arith, fewer (omega arith), s.left.ends)

      target_distinct : NoRepeats (is_object (entry_of w.texts d).label) (members w.texts ds)
      unfolding map_forest
      target_distinct = alone_kids (subst (λ f. NoRepeats true (members w.texts f)) is q.distinct)

      -- the value of the patch that has the name
      value-here : (k : ℕ) {e : Cell} {below after : Forest Cell}
          → from k kids ≡ tree e below after → name_text w.texts e.name ≡ name_text w.texts d.name
          → get (name_text w.texts d.name) (members w.texts kids) ≡ Option.some (meant w.texts e below)
      value-here k at name = ap (λ n. get n (members w.texts kids)) (sym name) ∙ get_from w.texts k kids at q.given.object.distinct

      nothing_kept : {t : Step} → Keeps (with_nodes w nodes) patch row kids (name_text w.texts d.name) q.met zs t → t ≡ Nothing
          → Keeping o w xs patch to levels end c kids ts nodes zs next row'
      nothing_kept (keeps_own alone marks) e = absurd (let z : ◌≡◌ {A = ℕ} 0 1 = cc in omega arith)
      nothing_kept (keeps_other k e below after found at place name marks) told =
          let null : is_null (entry_of w.texts e).label ≡ true =
          null_label w.texts e (member-kind object-here long_here o ones k found at place) ∙ step_nothing e.kind found told in
          keeping_on d ds rest is s
          (subst (λ f. Laid o w.texts nodes next f nodes next)
          (sym (kept_null (members w.texts kids) (entry_by o w.texts d) (members_by o w.texts ds) (value-here k at name) null))
          (laid_none (omega (arith, q.so_far.counted))))
          ch marks

      own_copied : (from : ℕ) {t : Step} → Keeps (with_nodes w nodes) patch row kids (name_text w.texts d.name) q.met zs t → t ≡ Copy from
          → {nodes' : List Row} {next' : ℕ} → CopyIs nodes from next nodes' next' → Keeping o w xs patch to levels end c kids ts nodes' zs next' row'
      own_copied from (keeps_own alone marks) e {nodes'} {next'} copy =
          let here : from ≡ row = cc in
          keeping_on d ds rest is s
          (subst (λ f. Laid o w.texts nodes next f nodes' next')
          (sym (kept_own (members w.texts kids) (entry_by o w.texts d) (members_by o w.texts ds) alone))
          (laid_copy (subst (λ n. CopyIs nodes n next nodes' next') here copy) (siblings-value s) (all_first s.sound).name long_here))
          ch (marks_absent (name_text w.texts d.name) (absent_has (name_text w.texts d.name) (members w.texts kids) alone) marks)
      own_copied from (keeps_other k e below after found at place name marks) told {nodes'} {next'} copy =
          let (some-value, other, here) = step_copy e.kind found from told in
          let kind = member-kind object-here long_here o ones k found at place in
          let no-null : is_null (entry_of w.texts e).label ≡ false = null_label w.texts e kind ∙ some-value in
          let no-object : is_object (entry_of w.texts e).label ≡ false = is_object_label w.texts e.kind e.value kind ∙ other in
          let x : Value.Value = meant w.texts e below in
          let v : Origin.Value = value_by o w.texts d ds in
          keeping_on d ds rest is s
          (subst (λ f. Laid o w.texts nodes next f nodes' next')
          (ap₂ (λ n u. single (named n u)) name (sym (merge_other v x no-object))
          ∙ sym (kept_some (members w.texts kids) (entry_by o w.texts d) (members_by o w.texts ds) (value-here k at name) no-null))
          (member-copied object-here long_here o ones k found at place (subst (λ n. CopyIs nodes n next nodes' next') (sym here) copy)))
          ch marks

      both_merged : (from : ℕ) {t : Step} → Keeps (with_nodes w nodes) patch row kids (name_text w.texts d.name) q.met zs t → t ≡ Merge from
          → {nodes' : List Row} {ws : List ℕ} {next' : ℕ} → MergeObjectIs (with_nodes w nodes) row from next (levels - 1) zs nodes' ws next'
          → Keeping o w xs patch to levels end c kids ts nodes' ws next' row'
      both_merged from (keeps_own alone marks) e merges = absurd (let z : ◌≡◌ {A = ℕ} 0 1 = cc in omega arith)
      both_merged from (keeps_other k e below after found at place name marks) told {nodes'} {ws} {next'} merges =
          let (some-value, object, here) = step_merge e.kind found from told in
          let kind : e.kind ≡ object_kind = eqb-true e.kind 6 object in
          let no-null : is_null (entry_of w.texts e).label ≡ false =
          null_label w.texts e (member-kind object-here long_here o ones k found at place) ∙ some-value in
          let merges-here = subst (λ n. MergeObjectIs (with_nodes w nodes) row n next (levels - 1) zs nodes' ws next') (sym here) merges in
          let changed = subst (λ n. Changed nodes patch n ys zs) (sym (end_now q.given q.so_far)) ch in
          let t = as_target (siblings-value s) target_low target_distinct in
          let below-changed = member-changed object-here long_here o ones k found at place t kind changed merges-here q.given.shallow in
          let inside = member-inside object-here k found at place in
          keeping_on d ds rest is s
          (subst (λ f. Laid o w.texts nodes next f nodes' next')
          (ap (λ n. single (named n (merge_patch (value_by o w.texts d ds) (meant w.texts e below)))) name
          ∙ sym (kept_some (members w.texts kids) (entry_by o w.texts d) (members_by o w.texts ds) (value-here k at name) no-null))
          (member-merged object-here long_here o ones k found at place t kind changed merges-here q.given.shallow))
          (changed_then ch (changed_wider patch (patch + 1 + size kids) (omega (arith, inside)) (omega (arith, inside)) below-changed))
          (marks_inside k found at place (omega (arith, q.given.object.behind)) below-changed marks)

    pub keeping_nothing : step ≡ Nothing → Keeping o w xs patch to levels end c kids ts nodes zs next row'
    keeping_nothing e = turn λ d ds rest is s ch told. nothing_kept d ds rest is s ch told e

    pub keeping_copied : (from : ℕ) → step ≡ Copy from → {nodes' : List Row} {next' : ℕ} → CopyIs nodes from next nodes' next'
        → Keeping o w xs patch to levels end c kids ts nodes' zs next' row'
    keeping_copied from e copy = turn λ d ds rest is s ch told. own_copied d ds rest is s ch from told e copy

    pub keeping_merged : (from : ℕ) → step ≡ Merge from → {nodes' : List Row} {ws : List ℕ} {next' : ℕ}
        → MergeObjectIs (with_nodes w nodes) row from next (levels - 1) zs nodes' ws next' → Keeping o w xs patch to levels end c kids ts nodes' ws next' row'
    keeping_merged from e merges = turn λ d ds rest is s ch told. both_merged d ds rest is s ch from told e merges

-- ---- before the first turn
module _ {o : View} {w : Table} {xs ys : List ℕ} {patch to levels : ℕ} {c : Cell} {kids : Forest Cell} (g : Given o w xs patch to levels c kids)
    (noted : NotedIs w.nodes patch xs ys) where
  so_far_none : {next : ℕ} → next ≡ min (to + 1) full → SoFar o w xs patch to kids none w.nodes ys next
  unfolding size
  so_far_none {next} is =
      let node = held_node g.object.held.held in
      record {
        framed = framed_self;
        changed = subst (λ n. Changed w.nodes patch n xs ys) (end_here node) noted.changed;
        counted = omega arith;
        built = λ room.
            let here : to + 1 ≡ next = omega arith in
            subst (λ n. Built o w.texts w.nodes (to + 1) n none) here (built_none (to + 1) w.nodes);
      }

  pub keeping_start : {target k : ℕ} {ts : Forest Cell} → Target o w target k ts
      → (next end : ℕ) → next ≡ min (to + 1) full → end ≡ members_end w.nodes target
      → Keeping o w xs patch to levels end c kids ts w.nodes ys next (target + 1)
  unfolding members_end ◌⧺◌ tape map_forest size
  keeping_start {target} (target-object {c = d} {kids = ds} held kind low distinct) next end is ends =
      let node = held_node held.held in
      let end_is : end ≡ end_of w.nodes target = ends ∙ rw (eq-eqb (kind_of (get_or w.nodes target [])) object_kind (kind_here node ∙ kind)) in
      record {
        given = g;
        left = ds;
        siblings = siblings_all end end_is held;
        low = λ h. omega (arith, end_is, end_here node);
        distinct = distinct;
        all = none;
        so_far = so_far_none is;
        whole = refl;
        met = λ n. false;
        marks = noted.held w.texts c kids (held_node g.object.held.held) g.object.inside;
        had = λ n. refl;
      }
  keeping_start {target} (target_other other) next end is ends =
      let end_is : end ≡ target + 1 = ends ∙ rw (ne_eqb (kind_of (get_or w.nodes target [])) object_kind (other w.nodes framed_self)) in
      record {
        given = g;
        left = none;
        siblings =
            record {
              left = record {
                held = record { after = drop (target + 1) w.nodes; rows = record { is = refl }; formed = formed_none };
                ends = omega (arith, end_is);
              };
              sound = all_none;
            };
        low = λ h. absurd (omega arith);
        distinct = Repeats.empty;
        all = none;
        so_far = so_far_none is;
        whole = refl;
        met = λ n. false;
        marks = noted.held w.texts c kids (held_node g.object.held.held) g.object.inside;
        had = λ n. refl;
      }

-- ---- behind the last turn: the members of the target, and those of the patch that it has
pub record AllKept (o : View) (w : Table) (xs : List ℕ) (patch to levels : ℕ) (c : Cell)
    (kids ts : Forest Cell) (nodes : List Row) (ys : List ℕ) (next : ℕ) : Type 0 where
  pub given : Given o w xs patch to levels c kids
  pub so_far : SoFar o w xs patch to kids (gather (kept (members w.texts kids)) (members_by o w.texts ts)) nodes ys next
  pub marks : Marks w.texts ys (λ n. has n (members w.texts ts)) (patch + 1) kids

pub keeping_done : {o : View} {w : Table} {xs : List ℕ} {patch to levels end : ℕ} {c : Cell}
    {kids ts : Forest Cell} {nodes : List Row} {ys : List ℕ} {next row : ℕ}
    → Keeping o w xs patch to levels end c kids ts nodes ys next row → end ≤ row → AllKept o w xs patch to levels c kids ts nodes ys next
unfolding map_forest gather find count
keeping_done {o} {w} {xs} {patch} {to} {kids = kids} {ts} {nodes} {ys} {next} q over =
    let T : Texts = w.texts in
    let no_more : q.left ≡ none = siblings_none q.siblings over in
    let is_all : q.all ≡ gather (kept (members T kids)) (members_by o T ts) =
    sym (q.whole ∙ ap (λ f. q.all ⧺ gather (kept (members T kids)) (members_by o T f)) no_more ∙ ⧺_none q.all) in
    record {
      given = q.given;
      so_far = subst (λ f. SoFar o w xs patch to kids f nodes ys next) is_all q.so_far;
      marks = marks_as (λ n. sym (q.had n ∙ ap (λ f. (if q.met n then true else has n (members T f))) no_more ∙ at_end (q.met n))) q.marks;
    }
  where
    at_end : (b : Bool) → (if b then true else false) ≡ b
    at_end true = refl
    at_end false = refl
