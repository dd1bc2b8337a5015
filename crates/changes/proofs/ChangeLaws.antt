-- Laws of a child changed by its token: each way in which the code answers is what the definitions say.
use Rattle.std.specs.Prelude.{Option, Some, None, Result, Ok, Err, if◌then◌else◌}
use Prim.Native.Nat.{ℕ, suc, ◌+◌, ◌≤◌, ◌<◌}
use native.Mathlib.Omega.{arith}
use mathlib.Core.Path.{◌≡◌, refl, ap, sym, ◌∙◌, subst}
use mathlib.Core.List.{List, []}
use lib.ListN.{get_or}
use borrow.Author.Tests.{lt-ltb, le-ltb, eq-eqb, ne_eqb}
use Rattle.spec.specs.Outcome.{Outcome, ok, refused, ◌>>=◌}
use Rattle.spec.specs.Refusal.{location_missing}
use Rattle.spec.specs.Fault.{number_of}
use Rattle.spec.specs.declared.refusal.Refusal.{Refusal}
use Rattle.spec.specs.declared.refusal.Fault.{Fault}
use Rattle.spec.specs.Bytes.{Text}
use Rattle.spec.specs.Forest.{Forest, count, before, from, nth, insert_at, remove_at, replace_at}
use Rattle.spec.specs.Value.{find}
use Rattle.spec.specs.Pointer as Plain
use Rattle.spec.specs.Pointer.{element_below, is_dash}
use Rattle.origin.specs.Value as Value
use Rattle.origin.specs.Value.{named}
use Rattle.origin.specs.Pointer.{child_at}
use Rattle.origin.specs.Operation.{put, with_kids, insert_element, insert_member, insert_child, remove_child, replace_child}
use Rattle.tape.specs.Layout.{array_kind, object_kind}
use Rattle.tape.specs.Fields.{Row, no_node, kind_of, span_of, name_of}
use Rattle.tape.specs.declared.fields.Name.{Name}
use Rattle.tape.specs.declared.fields.Cell.{Cell}
use Rattle.tape.specs.Cell.{Fit, Node, Told}
use Rattle.tape.specs.Rows.{end_of, child_row, ChildIs}
use Rattle.tape.specs.Lent.{Texts, Table}
use Rattle.tape.proofs.Cells.{blank, container_fit}
use Rattle.tape.proofs.Rows.{kind_here, end_here, child_row_end, child_of_at, child_of_fewer}
use Rattle.tape.proofs.Held.{held_node}
use Rattle.tape.proofs.Map.{count_map}
use Rattle.table.specs.Meaning.{name_text, entry_of, members, meant}
use Rattle.walk.specs.Bearing.{bearing, borne_members, borne}
use Rattle.table.specs.Find.{Found, found, missing, FindIs}
use Rattle.table.proofs.MeaningLaws.{is_array_label, is_object_label}
use Rattle.pointer.specs.Index.{index_of, element_at, insertion_at}
use Rattle.pointer.specs.declared.answers.Index.{Index}
use Rattle.pointer.proofs.IndexLaws.{insertion}
use Rattle.walk.specs.Names.{IsToken, no_name}
use Rattle.walk.specs.Path.{farther_by}
use Rattle.walk.specs.Step.{Stepped, stepped, missed, StepIs}
use Rattle.walk.proofs.Children.{child_at-borne}
use Rattle.walk.proofs.StepLaws.{few_children, asked}
use Rattle.changes.specs.Cut.{renamed}
use Rattle.changes.specs.Site.{Site, Offered}
use Rattle.changes.specs.Rows.{unchanged, walked_to, told_at}
use Rattle.changes.specs.Limited.{limited_to}
use Rattle.changes.specs.Change.{ByToken, ChangeAnswers, refusal, SiteOf, PutIs, TakeOutIs, ChildPlaced, placed, unplaced, InsertionIs}
use Rattle.changes.specs.Change.{Replaced, ReplaceTreeIs}
use Rattle.changes.specs.Change.{AddElementIs, AddMemberIs, AddIs, RemoveIs, ReplaceIs, Changed, Makes, adds, removes, replaces, ChangeChildIs}
use Rattle.changes.specs.declared.parent.Parent.{Parent}
use Rattle.changes.specs.declared.answers.Change.{Change}
use Rattle.changes.specs.declared.answers.Change.TheVariants.{Add, Remove, Replace}
use Rattle.changes.proofs.LimitLaws.{limited_refused}
use Rattle.changes.proofs.CutLaws.{cut-before, cut_around}
use Rattle.changes.proofs.SiteLaws.{site_held, site_fit, child-rows, child_name, child-told}
use Rattle.changes.proofs.BorneLaws.{members-borne, no_name_lem, no_name_fits, no_name-told, removed_borne, inserted_borne, put-borne, name_fits, token_fits}

module _ {w : Table} {used row levels : ℕ} {z : Site w used row levels} {nodes' : List Row} where
  pub same_answers : {o p : Outcome Value.Value} {r : Result ℕ Fault} → o ≡ p → ChangeAnswers z nodes' p r → ChangeAnswers z nodes' o r
  same_answers {r = r} e a = subst (λ o. ChangeAnswers z nodes' o r) (sym e) a

  -- what the definitions refuse is refused; the place is the number of tokens walked before
  pub answers_refused : {o : Outcome Value.Value} {walked : ℕ} (f : Fault) → o ≡ refused (number_of f.refusal) 0 → f.place ≡ walked
      → ChangeAnswers z nodes' (farther_by walked o) (Err f)
  unfolding farther_by
  answers_refused {o} {walked} f e g =
      let number : ℕ = number_of f.refusal in
      let here : walked + 0 ≡ f.place = omega arith in
      refusal (
      ap (λ p. limited_to levels z.room (farther_by walked p)) e ∙ limited_refused levels z.room number (walked + 0) ∙ ap (refused number) here
      )

-- what is told of a child is what was found, and a refusal where it stands
pub told_ok : {A : Type 0} (walked : ℕ) {a : A} (q : Result A Refusal) {r : Result A Fault} → r ≡ told_at walked q → r ≡ Ok a → q ≡ Ok a
unfolding told_at
told_ok walked (Ok b) e f = cc
told_ok walked (Err n) e f = absurd (let z : ◌≡◌ {A = ℕ} 0 1 = cc in omega arith)

pub told_err : {A : Type 0} (walked : ℕ) {f : Fault} (q : Result A Refusal) {r : Result A Fault} → r ≡ told_at walked q → r ≡ Err f
    → (q ≡ Err f.refusal) × (f.place ≡ walked)
unfolding told_at
told_err walked (Ok b) e f = absurd (let z : ◌≡◌ {A = ℕ} 0 1 = cc in omega arith)
told_err walked (Err n) e g = (cc, cc)

-- ---- the child in a row replaced, its name kept
module _ {nodes nodes' : List Row} {p : Parent} {at source : ℕ} {r : Result ℕ Fault} where
  pub child-replaced : (removed : ℕ) (name : Name) → removed ≡ span_of (get_or nodes at []) + 1 → name ≡ name_of (get_or nodes at no_node)
      → PutIs nodes nodes' p at removed source name r → ReplaceTreeIs nodes nodes' p at source r
  unfolding replace_at
  child-replaced removed name removed-is name_is is =
      record {
        frame = is.frame;
        held = λ T z x kids k offered kth place.
            let same : name ≡ (nth blank k z.kids).root.name = name_is ∙ child_name z k kth place in
            let outcome = ap ok (put-borne T k z.c z.kids x kids ∙ ap (λ n. borne T z.c (replace_at k (renamed n x kids) z.kids)) (sym same)) in
            let container = container_fit (site_fit z) (omega arith) in
            let told : Told name.text = rw same (child-told z k kth place) in
            let cut = cut_around k place kth removed (child-rows z k kth place removed-is) in
            same_answers outcome
            (is.held T z x kids (before k z.kids) (from (suc k) z.kids) container offered (rw same (name_fits k kth z.standing.sound)) told cut);
      }

-- ---- where an element is added
module _ {nodes : List Row} {row : ℕ} where
  -- behind the last
  at_end : {c : Cell} {kids : Forest Cell} (end k : ℕ) → end ≡ end_of nodes row → Node nodes row c kids → count kids ≤ k → end ≡ child_row row k kids
  at_end {kids = kids} end k e node h = e ∙ end_here node ∙ sym (child_row_end row kids k h)

  pub insertion_dash : (i : Index) (end : ℕ) → i ≡ Index.Dash → end ≡ end_of nodes row → InsertionIs nodes row i (Ok end)
  unfolding insertion_at
  insertion_dash i end e f c kids node =
      placed (count kids) end (ap (insertion_at (count kids)) e) (omega arith) (at_end end (count kids) f node (omega arith))

  pub insertion_beyond : (i : Index) → i ≡ Index.Beyond → InsertionIs nodes row i (Err Refusal.LocationMissing)
  unfolding insertion_at number_of
  insertion_beyond i e c kids node = unplaced Refusal.LocationMissing (ap (insertion_at (count kids)) e)

  pub insertion_not : (i : Index) → i ≡ Index.Not → InsertionIs nodes row i (Err Refusal.NoIndex)
  unfolding insertion_at number_of
  insertion_not i e c kids node = unplaced Refusal.NoIndex (ap (insertion_at (count kids)) e)

  pub insertion_at_lem : (i : Index) (k : ℕ) {r : Result ℕ Refusal} → i ≡ Index.At k → InsertionIs nodes row (Index.At k) r → InsertionIs nodes row i r
  insertion_at_lem i k {r} e is c kids node = subst (λ j. ChildPlaced row kids (insertion_at (count kids) j) r) (sym e) (is c kids node)

  module _ (k : ℕ) (l : Result ℕ ℕ) (is : ChildIs nodes row k l) where
    up_to : (n : ℕ) → k ≤ n → insertion_at n (Index.At k) ≡ ok k
    unfolding insertion_at element_at
    up_to n h = rw (lt-ltb k (suc n) (omega arith))

    pub position_at : (at : ℕ) → l ≡ Ok at → InsertionIs nodes row (Index.At k) (Ok at)
    position_at at e c kids node =
        let p = child_of_at row k kids at (sym e ∙ is.held c kids node) in
        placed k at (up_to (count kids) (omega (arith, p.0))) (omega (arith, p.0)) p.1

    module _ (n : ℕ) (e : l ≡ Err n) where
      pub position_greater : n < k → InsertionIs nodes row (Index.At k) (Err Refusal.LocationMissing)
      unfolding insertion_at element_at number_of
      position_greater h c kids node =
          let p = child_of_fewer row k kids n (sym e ∙ is.held c kids node) in
          unplaced Refusal.LocationMissing (rw (le-ltb k (suc (count kids)) (omega (arith, p.1))))

      pub position_end : k ≤ n → (end : ℕ) → end ≡ end_of nodes row → InsertionIs nodes row (Index.At k) (Ok end)
      position_end h end f c kids node =
          let p = child_of_fewer row k kids n (sym e ∙ is.held c kids node) in
          placed k end (up_to (count kids) (omega (arith, p.1))) (omega (arith, p.1)) (at_end end k f node (omega (arith, p.0, p.1)))

-- ---- an element added
module _ {T : Texts} {token : Name} (i : Index) (is_index_of : IsToken T token → index_of (name_text T token) ≡ i) (c x : Cell) (kids below : Forest Cell)
    (fit : Fit c kids) (t : IsToken T token) where
  element_position :
      (if is_dash (name_text T token) then ok (count (borne_members T kids)) else element_below (suc (count (borne_members T kids))) (name_text T token))
      ≡ insertion_at (count kids) i
  element_position =
      rw (count_map (bearing T) kids) (insertion (count kids) (name_text T token) (few_children fit) ∙ ap (insertion_at (count kids)) (is_index_of t))

  element_placed : (k : ℕ) → insertion_at (count kids) i ≡ ok k
      → insert_element (borne T x below) (name_text T token) (borne T c kids) ≡ ok (borne T c (insert_at k (renamed no_name x below) kids))
  unfolding insert_element ◌>>=◌
  element_placed k e =
      rw (element_position ∙ e)
      (ap (λ n. ok (with_kids (borne T c kids) (insert_at k (named n (borne T x below)) (borne_members T kids)))) (sym (no_name_lem T))
      ∙ ap ok (inserted_borne T k c kids x below no_name))

  element_unplaced : (number : ℕ) → insertion_at (count kids) i ≡ refused number 0
      → insert_element (borne T x below) (name_text T token) (borne T c kids) ≡ refused number 0
  unfolding insert_element ◌>>=◌
  element_unplaced number e = rw (element_position ∙ e)

-- what the definitions say of a new element, and of a new member
module _ (w : Table) (p : Parent) (token : Name) (z : SiteOf w p) (x : Cell) (kids : Forest Cell) where
  abbrev with_element : Outcome Value.Value
  with_element = farther_by (walked_to p) (insert_element (borne w.texts x kids) (name_text w.texts token) (borne w.texts z.c z.kids))

  abbrev with-member : Outcome Value.Value
  with-member = ok (insert_member (borne w.texts x kids) (name_text w.texts token) (borne w.texts z.c z.kids))

module _ {w : Table} (p : Parent) {token : Name} (i : Index) (is_index_of : IsToken w.texts token → index_of (name_text w.texts token) ≡ i) (z : SiteOf w p)
    (x : Cell) (kids : Forest Cell) (t : IsToken w.texts token) where
  element_put : {nodes' : List Row} {source : ℕ} {r : Result ℕ Fault} (at : ℕ) → PutIs w.nodes nodes' p at 0 source no_name r → z.c.kind ≡ array_kind
      → Offered w source x kids → {q : Result ℕ Refusal} → ChildPlaced p.row z.kids (insertion_at (count z.kids) i) q → q ≡ Ok at
      → ChangeAnswers z nodes' (with_element w p token z x kids) r
  unfolding insert_at farther_by
  element_put at put_is kind offered (placed k at' f l place) g =
      let same : at' ≡ at = cc in
      same_answers (ap (farther_by (walked_to p)) (element_placed i is_index_of z.c x z.kids kids (site_fit z) t k f))
      (put_is.held w.texts z x kids (before k z.kids) (from k z.kids) (omega (arith, kind)) offered (no_name_fits w.texts) no_name-told
      (cut-before k (sym same ∙ place)))
  element_put at put_is kind offered (unplaced n f) g = absurd (let w : ◌≡◌ {A = ℕ} 0 1 = cc in omega arith)

  element_not : {nodes' : List Row} (e : Fault) {q : Result ℕ Refusal} → ChildPlaced p.row z.kids (insertion_at (count z.kids) i) q
      → q ≡ Err e.refusal → e.place ≡ walked_to p → ChangeAnswers z nodes' (with_element w p token z x kids) (Err e)
  element_not e (placed k at' f l at) g walked = absurd (let w : ◌≡◌ {A = ℕ} 0 1 = cc in omega arith)
  element_not e (unplaced n f) g walked =
      let same : n ≡ e.refusal = cc in
      answers_refused e
      (element_unplaced i is_index_of z.c x z.kids kids (site_fit z) t (number_of e.refusal) (f ∙ ap (λ m. refused (number_of m) 0) same)) walked

module _ {w : Table} {p : Parent} {token : Name} {source : ℕ} (i : Index) (is_index_of : IsToken w.texts token → index_of (name_text w.texts token) ≡ i)
    (q : Result ℕ Refusal) (is : InsertionIs w.nodes p.row i q) {told : Result ℕ Fault} (tells : told ≡ told_at (walked_to p) q) where
  pub element_added : {nodes' : List Row} {r : Result ℕ Fault} (at : ℕ) → told ≡ Ok at → (name : Name) → name ≡ no_name
      → PutIs w.nodes nodes' p at 0 source name r → AddElementIs w nodes' p token source r
  element_added {nodes'} {r} at e name none put_is =
      record {
        frame = put_is.frame;
        held = λ z x kids kind offered t.
            let without = subst (λ n. PutIs w.nodes nodes' p at 0 source n r) none put_is in
            element_put p i is_index_of z x kids t at without kind offered (is z.c z.kids (held_node (site_held z).held)) (told_ok _ q tells e);
      }

  pub element_refused : (f : Fault) → told ≡ Err f → AddElementIs w w.nodes p token source (Err f)
  element_refused f e =
      let found = told_err _ q tells e in
      record {
        frame = unchanged refl;
        held = λ z x kids kind offered t.
            element_not p i is_index_of z x kids t f (is z.c z.kids (held_node (site_held z).held)) found.0 found.1;
      }

-- ---- a member added
module _ (T : Texts) (c x : Cell) (kids below : Forest Cell) (name : Text) where
  member-there : (k : ℕ) → find name (members T kids) ≡ k → k < count kids
      → insert_member (borne T x below) name (borne T c kids) ≡ put k (borne T x below) (borne T c kids)
  unfolding insert_member
  member-there k e l = rw (members-borne T kids, count_map (entry_of T) kids, e, lt-ltb k (count kids) l)

  member-new : find name (members T kids) ≡ count kids
      → insert_member (borne T x below) name (borne T c kids)
      ≡ with_kids (borne T c kids) (insert_at (count kids) (named name (borne T x below)) (borne_members T kids))
  unfolding insert_member
  member-new e = rw (members-borne T kids, count_map (entry_of T) kids, count_map (bearing T) kids, e, le-ltb (count kids) (count kids) (omega arith))

module _ {w : Table} (p : Parent) {token : Name} (z : SiteOf w p) (x : Cell) (kids : Forest Cell) (t : IsToken w.texts token) {nodes' : List Row}
    {source : ℕ} {r : Result ℕ Fault} (offered : Offered w source x kids) where
  replaced_there : (at : ℕ) → Replaced w nodes' p at source r → {n : Option ℕ} → Found w.texts (p.row + 1) z.kids (name_text w.texts token) n
      → n ≡ Some at → ChangeAnswers z nodes' (with-member w p token z x kids) r
  unfolding child_row
  replaced_there at replaced (found k at' f l place) g =
      let same : at' ≡ at = cc in
      same_answers (ap ok (member-there w.texts z.c x z.kids kids (name_text w.texts token) k f l))
      (replaced z x kids k offered l (sym same ∙ place))
  replaced_there at replaced (missing f) g = absurd (let w : ◌≡◌ {A = ℕ} 0 1 = cc in omega arith)

  added_there : (end : ℕ) → end ≡ end_of w.nodes p.row → z.c.kind ≡ object_kind → PutIs w.nodes nodes' p end 0 source token r → {n : Option ℕ}
      → Found w.texts (p.row + 1) z.kids (name_text w.texts token) n → n ≡ None → ChangeAnswers z nodes' (with-member w p token z x kids) r
  unfolding insert_at
  added_there end ends kind put_is (found k at' f l place) g = absurd (let w : ◌≡◌ {A = ℕ} 0 1 = cc in omega arith)
  added_there end ends kind put_is (missing f) g =
      let n : ℕ = count z.kids in
      let cut = cut-before n (at_end end n ends (held_node (site_held z).held) (omega arith)) in
      same_answers
      (ap ok (member-new w.texts z.c x z.kids kids (name_text w.texts token) f ∙ inserted_borne w.texts n z.c z.kids x kids token))
      (put_is.held w.texts z x kids (before n z.kids) (from n z.kids) (omega (arith, kind)) offered (token_fits t) t.told cut)

module _ {w : Table} {p : Parent} {token : Name} {source : ℕ} (end : ℕ) (ends : end ≡ end_of w.nodes p.row) (m : Option ℕ)
    (is : FindIs w (p.row + 1) end token m) {nodes' : List Row} {r : Result ℕ Fault} where
  pub member-replaced : (at : ℕ) → m ≡ Some at → ReplaceTreeIs w.nodes nodes' p at source r → AddMemberIs w nodes' p token source r
  member-replaced at e replace-is =
      record {
        frame = replace-is.frame;
        held = λ z x kids kind offered t.
            let there = is.held z.kids (asked end ends m is (site_held z)) t.hashed in
            replaced_there p z x kids t offered at (replace-is.held w.texts) there e;
      }

  pub member-added : m ≡ None → PutIs w.nodes nodes' p end 0 source token r → AddMemberIs w nodes' p token source r
  member-added e put_is =
      record {
        frame = put_is.frame;
        held = λ z x kids kind offered t.
            let there = is.held z.kids (asked end ends m is (site_held z)) t.hashed in
            added_there p z x kids t offered end ends kind put_is there e;
      }

-- ---- a child added, by the node's kind
here : {w : Table} {used row levels k : ℕ} → k ≡ kind_of (get_or w.nodes row []) → (z : Site w used row levels) → k ≡ z.c.kind
here kind z = kind ∙ kind_here (held_node (site_held z).held)

module _ (T : Texts) (c : Cell) (kids : Forest Cell) (fits : c.kind ≤ object_kind) (x : Value.Value) (t : Text) where
  insert-array : c.kind ≡ array_kind → insert_child x t (borne T c kids) ≡ insert_element x t (borne T c kids)
  unfolding insert_child
  insert-array e = rw (is_array_label T c.kind c.value fits, eq-eqb c.kind array_kind e)

  insert-object : c.kind ≡ object_kind → insert_child x t (borne T c kids) ≡ ok (insert_member x t (borne T c kids))
  unfolding insert_child
  insert-object e =
      rw (
        is_array_label T c.kind c.value fits,
        is_object_label T c.kind c.value fits,
        ne_eqb c.kind array_kind (λ f. omega arith),
        eq-eqb c.kind object_kind e,
      )

  pub insert_scalar : (c.kind ≡ array_kind → ⊥) → (c.kind ≡ object_kind → ⊥) → insert_child x t (borne T c kids) ≡ refused location_missing 0
  unfolding insert_child
  insert_scalar e f =
      rw (
        is_array_label T c.kind c.value fits,
        is_object_label T c.kind c.value fits,
        ne_eqb c.kind array_kind e,
        ne_eqb c.kind object_kind f,
      )

module _ {w : Table} {p : Parent} {token : Name} {source : ℕ} (k : ℕ) (kind : k ≡ kind_of (get_or w.nodes p.row [])) where
  module _ {nodes' : List Row} {r : Result ℕ Fault} where
    pub add-array : k ≡ array_kind → AddElementIs w nodes' p token source r → AddIs w nodes' p token source r
    add-array e is =
        record {
          frame = is.frame;
          held = λ x kids offered z t.
              let array = sym (here kind z) ∙ e in
              same_answers
              (ap (farther_by (walked_to p))
              (insert-array w.texts z.c z.kids (site_fit z).kind (borne w.texts x kids) (name_text w.texts token) array))
              (is.held z x kids array offered t);
        }

    pub add-object : k ≡ object_kind → AddMemberIs w nodes' p token source r → AddIs w nodes' p token source r
    unfolding farther_by
    add-object e is =
        record {
          frame = is.frame;
          held = λ x kids offered z t.
              let object = sym (here kind z) ∙ e in
              same_answers
              (ap (farther_by (walked_to p))
              (insert-object w.texts z.c z.kids (site_fit z).kind (borne w.texts x kids) (name_text w.texts token) object))
              (is.held z x kids object offered t);
        }

  pub add_scalar : (k ≡ array_kind → ⊥) → (k ≡ object_kind → ⊥) → (place : ℕ) → place ≡ walked_to p
      → AddIs w w.nodes p token source (Err (record { refusal = Refusal.LocationMissing; place = place }))
  unfolding number_of
  add_scalar e f place walked =
      record {
        frame = unchanged refl;
        held = λ x kids offered z t.
            answers_refused (record { refusal = Refusal.LocationMissing; place = place })
            (insert_scalar w.texts z.c z.kids (site_fit z).kind (borne w.texts x kids) (name_text w.texts token) (λ g. e (here kind z ∙ g))
            (λ g. f (here kind z ∙ g)))
            walked;
      }

-- ---- a child removed and replaced
module _ {w : Table} {row : ℕ} {token : Name} (s : Result ℕ Refusal) (is : StepIs w row token s) {used levels : ℕ}
    (z : Site w used row levels) (t : IsToken w.texts token) where
  abbrev child_of_lem : Outcome ℕ
  child_of_lem = child_at (name_text w.texts token) (borne w.texts z.c z.kids)

  abbrev plain_child : Outcome ℕ
  plain_child = Plain.child_at (name_text w.texts token) (meant w.texts z.c z.kids)

  -- where the token names no child, the definitions find none
  pub no_child : {n : Refusal} → s ≡ Err n → child_of_lem ≡ refused (number_of n) 0
  no_child {n} e = go (is.held t z.c z.kids (site_held z)) e
    where
      go : {q : Result ℕ Refusal} → Stepped row z.kids plain_child q → q ≡ Err n → child_of_lem ≡ refused (number_of n) 0
      go (stepped k at f l p) g = absurd (let w : ◌≡◌ {A = ℕ} 0 1 = cc in omega arith)
      go (missed m f) g = let same : m ≡ n = cc in child_at-borne w.texts _ z.c z.kids f ∙ ap (λ r. refused (number_of r) 0) same

  pub the_child : {C : Type 0} {at : ℕ} → s ≡ Ok at → ((k : ℕ) → child_of_lem ≡ ok k → k < count z.kids → at ≡ child_row row k z.kids → C) → C
  the_child {C} {at} e then-it = go (is.held t z.c z.kids (site_held z)) e
    where
      go : {q : Result ℕ Refusal} → Stepped row z.kids plain_child q → q ≡ Ok at → C
      go (stepped k at' f l p) g = let same : at' ≡ at = cc in then-it k (child_at-borne w.texts _ z.c z.kids f) l (sym same ∙ p)
      go (missed n f) g = absurd (let w : ◌≡◌ {A = ℕ} 0 1 = cc in omega arith)

module _ {w : Table} {p : Parent} {token : Name} (s : Result ℕ Refusal) (is : StepIs w p.row token s) {told : Result ℕ Fault}
    (tells : told ≡ told_at (walked_to p) s) where
  pub remove_refused : (f : Fault) → told ≡ Err f → RemoveIs w w.nodes p token (Err f)
  unfolding remove_child ◌>>=◌
  remove_refused f e =
      let found = told_err _ s tells e in
      record { frame = unchanged refl; held = λ z t. answers_refused f (rw (no_child s is z t found.0)) found.1 }

  pub replace_refused : {source : ℕ} (f : Fault) → told ≡ Err f → ReplaceIs w w.nodes p token source (Err f)
  unfolding replace_child ◌>>=◌
  replace_refused f e =
      let found = told_err _ s tells e in
      record { frame = unchanged refl; held = λ x kids offered z t. answers_refused f (rw (no_child s is z t found.0)) found.1 }

  module _ {nodes' : List Row} {r : Result ℕ Fault} (at : ℕ) (e : told ≡ Ok at) where
    pub remove_done : TakeOutIs w.nodes nodes' p at r → RemoveIs w nodes' p token r
    unfolding remove_child ◌>>=◌ farther_by
    remove_done out =
        record {
          frame = out.frame;
          held = λ z t.
              the_child s is z t (told_ok _ s tells e) λ k f l place.
              let gives : remove_child (name_text w.texts token) (borne w.texts z.c z.kids) ≡ ok (borne w.texts z.c (remove_at k z.kids)) =
              rw f (ap ok (removed_borne w.texts k z.c z.kids)) in
              same_answers (ap (farther_by (walked_to p)) gives) (out.held w.texts z k l place);
        }

    pub replace_done : {source : ℕ} → ReplaceTreeIs w.nodes nodes' p at source r → ReplaceIs w nodes' p token source r
    unfolding replace_child ◌>>=◌ farther_by
    replace_done replaced =
        record {
          frame = replaced.frame;
          held = λ x kids offered z t.
              the_child s is z t (told_ok _ s tells e) λ k f l place.
              let v = borne w.texts z.c z.kids in
              let gives : replace_child (borne w.texts x kids) (name_text w.texts token) v ≡ ok (put k (borne w.texts x kids) v) = rw f in
              same_answers (ap (farther_by (walked_to p)) gives) (replaced.held w.texts z x kids k offered l place);
        }

-- ---- by the kind of change
module _ {w : Table} {nodes' : List Row} {p : Parent} {token : Name} {r : Result ℕ Fault} (change : Change) where
  pub changed_add : (source : ℕ) → change ≡ Add source → AddIs w nodes' p token source r → ChangeChildIs w nodes' p token change r
  changed_add source e is = record { frame = is.frame; held = λ f makes. go f makes e }
    where
      go : {d : Change} (f : ByToken) → Makes w d f → d ≡ Add source → Changed w nodes' p token f r
      go f (adds source' x kids offered) g = let same : source' ≡ source = cc in is.held x kids (rw same at offered)
      go f removes g = absurd (let w : ◌≡◌ {A = ℕ} 0 1 = cc in omega arith)
      go f (replaces source' x kids offered) g = absurd (let w : ◌≡◌ {A = ℕ} 0 1 = cc in omega arith)

  pub changed_remove : change ≡ Remove → RemoveIs w nodes' p token r → ChangeChildIs w nodes' p token change r
  changed_remove e is = record { frame = is.frame; held = λ f makes. go f makes e }
    where
      go : {d : Change} (f : ByToken) → Makes w d f → d ≡ Remove → Changed w nodes' p token f r
      go f (adds source' x kids offered) g = absurd (let w : ◌≡◌ {A = ℕ} 0 1 = cc in omega arith)
      go f removes g = is.held
      go f (replaces source' x kids offered) g = absurd (let w : ◌≡◌ {A = ℕ} 0 1 = cc in omega arith)

  pub changed_replace : (source : ℕ) → change ≡ Replace source → ReplaceIs w nodes' p token source r → ChangeChildIs w nodes' p token change r
  changed_replace source e is = record { frame = is.frame; held = λ f makes. go f makes e }
    where
      go : {d : Change} (f : ByToken) → Makes w d f → d ≡ Replace source → Changed w nodes' p token f r
      go f (adds source' x kids offered) g = absurd (let w : ◌≡◌ {A = ℕ} 0 1 = cc in omega arith)
      go f removes g = absurd (let w : ◌≡◌ {A = ℕ} 0 1 = cc in omega arith)
      go f (replaces source' x kids offered) g = let same : source' ≡ source = cc in is.held x kids (rw same at offered)
