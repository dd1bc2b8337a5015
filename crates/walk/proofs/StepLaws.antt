-- Laws of a step from a value to its child.
use Prim.Native.Nat.{ℕ, ◌+◌, ◌<◌, ◌≤◌}
use native.Mathlib.Nat.{le_of_lt}
use native.Mathlib.Omega.{arith}
use mathlib.Core.Path.{◌≡◌, refl, ap, sym, ◌∙◌, subst}
use mathlib.Core.List.{[]}
use lib.ListN.{length, get_or}
use Rattle.std.specs.Prelude.{Option, Some, None, Result, Ok, Err}
use Rattle.std.specs.Result.{result_or}
use Rattle.std.specs.Option.{ok_or}
use borrow.Author.Tests.{lt-ltb, le-ltb, eq-eqb, ne_eqb}
use Rattle.spec.specs.Outcome.{Outcome, ok, refused}
use Rattle.spec.specs.Fault.{number_of}
use Rattle.spec.specs.declared.refusal.Refusal.{Refusal}
use Rattle.spec.specs.Bytes.{Bytes, Text}
use Rattle.spec.specs.Forest.{Forest, count}
use Rattle.spec.specs.Value.{find}
use Rattle.spec.specs.Pointer.{child_at, element_below, member_named}
use Rattle.text.specs.Decode.{text_of}
use Rattle.tape.specs.Layout.{array_kind, object_kind}
use Rattle.tape.specs.Fields.{kind_of}
use Rattle.tape.specs.declared.fields.Name.{Name}
use Rattle.tape.specs.declared.fields.Cell.{Cell}
use Rattle.tape.specs.Cell.{Fit}
use Rattle.tape.specs.Rows.{end_of, child_row, ForNode, ChildIs, Bounded, ChildRows}
use Rattle.tape.proofs.Forests.{count_le_size}
use Rattle.tape.proofs.Cells.{formed_fit}
use Rattle.tape.proofs.Held.{held_node, held_kids}
use Rattle.tape.proofs.Rows.{kind_here, end_here, no_node, child_of_at, child_of_fewer}
use Rattle.tape.proofs.Map.{count_map}
use Rattle.table.specs.Meaning.{entry_of, name_text, members, meant, spelled, part_of}
use Rattle.table.specs.Find.{Sought, sought_over, limit_of, same_name, Found, found, missing, FindIs, Between}
use Rattle.table.proofs.MeaningLaws.{is_array_label, is_object_label}
use Rattle.pointer.specs.Index.{index_limit, index_of, element_at}
use Rattle.pointer.specs.declared.answers.Index.{Index}
use Rattle.pointer.proofs.IndexLaws.{element_below_lem}
use Rattle.walk.specs.Names.{IsToken}
use Rattle.table.specs.Sound.{NodeHeld, RowsHeld}
use Rattle.walk.specs.Step as Rows
use Rattle.walk.specs.Step.{Stepped, stepped, missed, NthIs, ElementIs, MemberIs, StepIs, Ahead}
use Rattle.walk.specs.Step.{ElementRows, element_there, element_past, Search, member-there, of_array, of-object, of_other}
use Rattle.tape.specs.Lent.{Texts, Table}

same_step : {row : ℕ} {kids : Forest Cell} {o p : Outcome ℕ} {r : Result ℕ Refusal} → o ≡ p → Stepped row kids o r → Stepped row kids p r
same_step {row} {kids} {r = r} e s = subst (λ q. Stepped row kids q r) e s

-- ---- the child at a position
module _ {w : Table} {row : ℕ} (k : ℕ) (l : Result ℕ ℕ) (is : ChildIs w.nodes row k l) where
  pub nth_at : (at : ℕ) → l ≡ Ok at → NthIs w row k (Ok at)
  unfolding element_at
  nth_at at e =
      let b : Bounded w.nodes row k (Ok at) = subst (Bounded w.nodes row k) e is.place in
      record {
        rows = element_there (subst (ChildRows w.nodes row k) e is.rows);
        place = b;
        held = λ c kids node.
            let p = child_of_at row k kids at (sym e ∙ is.held c kids node) in
            stepped k at (rw (lt-ltb k (count kids) p.0)) p.0 p.1;
      }

  pub nth_fewer : (n : ℕ) → l ≡ Err n → NthIs w row k (Err Refusal.LocationMissing)
  unfolding element_at number_of
  nth_fewer n e =
      record {
        rows = element_past (subst (ChildRows w.nodes row k) e is.rows);
        place = tt;
        held = λ c kids node.
            let p = child_of_fewer row k kids n (sym e ∙ is.held c kids node) in
            missed Refusal.LocationMissing (rw (le-ltb k (count kids) (omega (arith, p.0, p.1))));
      }

pub nth_is : {w : Table} {row k : ℕ} (l : Result ℕ ℕ) → ChildIs w.nodes row k l → {r : Result ℕ Refusal}
    → r ≡ result_or l (Err Refusal.LocationMissing) → NthIs w row k r
nth_is (Ok at) is e = rw e (nth_at _ (Ok at) is at refl)
nth_is (Err n) is e = rw e (nth_fewer _ (Err n) is n refl)

-- ---- an array's element
-- a node has fewer children than the limit on indices
pub few_children : {c : Cell} {kids : Forest Cell} → Fit c kids → count kids < index_limit
few_children {c} {kids} fit = omega (arith, count_le_size kids, fit.small)

-- what the code reads is the token's text
pub index_is : (T : Texts) (token : Name) (part : Bytes) → part ≡ part_of T token.text → (i : Index) → i ≡ index_of (text_of 3 part) → IsToken T token
    → index_of (name_text T token) ≡ i
unfolding spelled
index_is T token part there i is t =
    sym (is ∙ ap (λ p. index_of (text_of 3 p)) there ∙ ap (λ n. index_of (text_of n (part_of T token.text))) (sym t.form))

module _ {w : Table} {token : Name} (part : Bytes) (there : part ≡ part_of w.texts token.text) (i : Index) (is : i ≡ index_of (text_of 3 part)) where
  -- the answer to the index is that to the token
  element_is : {row : ℕ} {r : Result ℕ Refusal} → ElementRows w row i r → Ahead row w.nodes r
      → ForNode w.nodes row (λ c kids. Stepped row kids (element_at (count kids) i) r) → ElementIs w row token r
  element_is {row} {r} rows ahead step =
      record {
        rows = subst (λ j. ElementRows w row j r) (is ∙ ap (λ p. index_of (text_of 3 p)) there) rows;
        place = ahead;
        held = λ t c kids node.
            let few = le_of_lt (few_children (formed_fit node.held.formed)) in
            let e : element_below (count kids) (name_text w.texts token) ≡ element_at (count kids) i =
            element_below_lem (count kids) (name_text w.texts token) few ∙ ap (element_at (count kids)) (index_is w.texts token part there i is t) in
            same_step (sym e) (step c kids node);
      }

  pub element_at_lem : {row : ℕ} {r : Result ℕ Refusal} (k : ℕ) → i ≡ Index.At k → NthIs w row k r → ElementIs w row token r
  element_at_lem {row} {r} k e n =
      element_is (subst (λ j. ElementRows w row j r) (sym e) n.rows) n.place λ c kids node.
      same_step (ap (element_at (count kids)) (sym e)) (n.held c kids node)

  module _ {row : ℕ} where
    missing_at : (j : Index) (x : Refusal) → i ≡ j → ElementRows w row j (Err x)
        → ((n : ℕ) → element_at n j ≡ refused (number_of x) 0) → ElementIs w row token (Err x)
    missing_at j x e rows f =
        element_is (subst (λ j. ElementRows w row j (Err x)) (sym e) rows) tt λ c kids node.
        missed x (ap (element_at (count kids)) e ∙ f (count kids))

    pub element_not : i ≡ Index.Not → ElementIs w row token (Err Refusal.NoIndex)
    unfolding element_at number_of
    element_not e = missing_at Index.Not Refusal.NoIndex e Rows.element_not λ n. refl

    pub element_dash : i ≡ Index.Dash → ElementIs w row token (Err Refusal.LocationMissing)
    unfolding element_at number_of
    element_dash e = missing_at Index.Dash Refusal.LocationMissing e Rows.element_dash λ n. refl

    pub element_beyond : i ≡ Index.Beyond → ElementIs w row token (Err Refusal.LocationMissing)
    unfolding element_at number_of
    element_beyond e = missing_at Index.Beyond Refusal.LocationMissing e Rows.element_beyond λ n. refl

-- ---- an object's member
member-found : (T : Texts) (name : Text) (kids : Forest Cell) (k : ℕ) → find name (members T kids) ≡ k → k < count kids
    → member_named name (members T kids) ≡ ok k
unfolding member_named
member-found T name kids k e l = rw (count_map (entry_of T) kids, e, lt-ltb k (count kids) l)

member-none : (T : Texts) (name : Text) (kids : Forest Cell) → find name (members T kids) ≡ count kids
    → member_named name (members T kids) ≡ refused (number_of Refusal.LocationMissing) 0
unfolding member_named number_of
member-none T name kids e = rw (count_map (entry_of T) kids, e, le-ltb (count kids) (count kids) (omega arith))

-- a search up to the row behind the node
module _ (w : Table) (row : ℕ) (token : Name) where
  abbrev UpTo : ℕ → Option ℕ → Type 0
  UpTo end m = Sought w.nodes (limit_of w.nodes end) (λ n. same_name w.texts n token) (row + 1) m

  searched : (end : ℕ) → end ≡ end_of w.nodes row → {m n : Option ℕ} → m ≡ n → UpTo end m → Search w row token n
  searched end ends {m} {n} e s = subst (λ last. UpTo last n) ends (subst (UpTo end) e s)

module _ {w : Table} {row : ℕ} {token : Name} where
  -- a row behind the table holds no node
  pub member-outside : length w.nodes ≤ row → MemberIs w row token (Err Refusal.LocationMissing)
  member-outside h =
      record {
        rows = Rows.member-missing (sought_over {row = row + 1} (omega arith));
        place = tt;
        held = λ t c kids n. no_node (held_node n.held) (omega arith);
      }

  module _ (end : ℕ) (ends : end ≡ end_of w.nodes row) (m : Option ℕ) (is : FindIs w (row + 1) end token m) where
    pub asked : {c : Cell} {kids : Forest Cell} → NodeHeld w row c kids → RowsHeld w (row + 1) end kids
    asked n = record { held = held_kids n.held; ends = sym (ends ∙ end_here (held_node n.held)); sound = n.sound }

    answer : {kids : Forest Cell} {m : Option ℕ} → Found w.texts (row + 1) kids (name_text w.texts token) m → (at : ℕ) → m ≡ Some at
        → Stepped row kids (member_named (name_text w.texts token) (members w.texts kids)) (Ok at)
    unfolding child_row
    answer {kids} (found k at f l place) at' e =
        let same : at ≡ at' = cc in
        stepped k at' (member-found w.texts (name_text w.texts token) kids k f l) l (sym same ∙ place)
    answer (missing f) at' e = absurd (let z : ◌≡◌ {A = ℕ} 0 1 = cc in omega arith)

    no_answer : {kids : Forest Cell} {m : Option ℕ} → Found w.texts (row + 1) kids (name_text w.texts token) m → m ≡ None
        → Stepped row kids (member_named (name_text w.texts token) (members w.texts kids)) (Err Refusal.LocationMissing)
    no_answer (found k at f l place) e = absurd (let z : ◌≡◌ {A = ℕ} 0 1 = cc in omega arith)
    no_answer {kids} (missing f) e = missed Refusal.LocationMissing (member-none w.texts (name_text w.texts token) kids f)

    pub member-at : (at : ℕ) → m ≡ Some at → MemberIs w row token (Ok at)
    member-at at e =
        let b : Between (row + 1) end w.nodes (Some at) = subst (Between (row + 1) end w.nodes) e is.place in
        record {
          rows = member-there (searched w row token end ends e is.rows);
          place = (omega (arith, b.0), b.2);
          held = λ t c kids n. answer (is.held kids (asked n) t.hashed) at e;
        }

    pub member-missing : m ≡ None → MemberIs w row token (Err Refusal.LocationMissing)
    member-missing e =
        record {
          rows = Rows.member-missing (searched w row token end ends e is.rows);
          place = tt;
          held = λ t c kids n. no_answer (is.held kids (asked n) t.hashed) e;
        }

pub member_is : {w : Table} {row : ℕ} {token : Name} (end : ℕ) → end ≡ end_of w.nodes row → (m : Option ℕ) → FindIs w (row + 1) end token m
    → {r : Result ℕ Refusal} → r ≡ ok_or m Refusal.LocationMissing → MemberIs w row token r
member_is end ends (Some at) is e = rw e (member-at end ends (Some at) is at refl)
member_is end ends None is e = rw e (member-missing end ends None is refl)

-- ---- a child by the node's kind
module _ (T : Texts) (c : Cell) (kids : Forest Cell) (fits : c.kind ≤ object_kind) (name : Text) where
  child-array : c.kind ≡ array_kind → child_at name (meant T c kids) ≡ element_below (count kids) name
  unfolding child_at
  child-array e = rw (is_array_label T c.kind c.value fits, eq-eqb c.kind array_kind e, count_map (entry_of T) kids)

  child-object : c.kind ≡ object_kind → child_at name (meant T c kids) ≡ member_named name (members T kids)
  unfolding child_at
  child-object e =
      rw (
        is_array_label T c.kind c.value fits,
        is_object_label T c.kind c.value fits,
        ne_eqb c.kind array_kind (λ f. omega arith),
        eq-eqb c.kind object_kind e,
      )

  pub child-scalar : (c.kind ≡ array_kind → ⊥) → (c.kind ≡ object_kind → ⊥) → child_at name (meant T c kids) ≡ refused (number_of Refusal.LocationMissing) 0
  unfolding child_at number_of
  child-scalar e f =
      rw (
        is_array_label T c.kind c.value fits,
        is_object_label T c.kind c.value fits,
        ne_eqb c.kind array_kind e,
        ne_eqb c.kind object_kind f,
      )

module _ {w : Table} {row : ℕ} {token : Name} (k : ℕ) (kind : k ≡ kind_of (get_or w.nodes row [])) where
  pub step-array : {r : Result ℕ Refusal} → k ≡ array_kind → ElementIs w row token r → StepIs w row token r
  step-array e is =
      record {
        rows = of_array (sym kind ∙ e) is.rows;
        place = is.place;
        held = λ t c kids n.
            let node = held_node n.held in
            let here : k ≡ c.kind = kind ∙ kind_here node in
            let fits = (formed_fit node.held.formed).kind in
            same_step (sym (child-array w.texts c kids fits (name_text w.texts token) (sym here ∙ e))) (is.held t c kids node);
      }

  pub step-object : {r : Result ℕ Refusal} → k ≡ object_kind → MemberIs w row token r → StepIs w row token r
  step-object e is =
      record {
        rows = of-object (sym kind ∙ e) is.rows;
        place = is.place;
        held = λ t c kids n.
            let node = held_node n.held in
            let here : k ≡ c.kind = kind ∙ kind_here node in
            let fits = (formed_fit node.held.formed).kind in
            same_step (sym (child-object w.texts c kids fits (name_text w.texts token) (sym here ∙ e))) (is.held t c kids n);
      }

  pub step_scalar : (k ≡ array_kind → ⊥) → (k ≡ object_kind → ⊥) → StepIs w row token (Err Refusal.LocationMissing)
  step_scalar e f =
      record {
        rows = of_other (λ g. e (kind ∙ g)) (λ g. f (kind ∙ g)) refl;
        place = tt;
        held = λ t c kids n.
            let node = held_node n.held in
            let here : k ≡ c.kind = kind ∙ kind_here node in
            let fits = (formed_fit node.held.formed).kind in
            missed Refusal.LocationMissing (child-scalar w.texts c kids fits (name_text w.texts token) (λ g. e (here ∙ g)) (λ g. f (here ∙ g)));
      }
