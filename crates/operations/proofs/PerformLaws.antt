-- Laws of one operation of the patch.
use Rattle.std.specs.Prelude.{Option, Some, None, Result, Ok, Err, if◌then◌else◌}
use Rattle.std.specs.Result.{result_ok}
use Prim.Native.Nat.{ℕ, ◌+◌, ◌≤◌}
use native.Mathlib.Omega.{arith}
use mathlib.Core.Path.{◌≡◌, ap, sym, ◌∙◌, subst}
use mathlib.Core.Bool.{Bool, true, false}
use mathlib.Core.List.{List}
use Rattle.spec.specs.Outcome.{Outcome, ok, refused, ◌>>=◌, require}
use Rattle.spec.specs.Refusal.{wrong_shape, test_differs}
use Rattle.spec.specs.Fault.{number_of}
use Rattle.spec.specs.declared.refusal.Refusal.TheVariants as Refusal
use Rattle.spec.specs.declared.refusal.Fault.{Fault}
use Rattle.spec.specs.Limits.{max_depth}
use Rattle.spec.specs.Bytes.{Text, ascii}
use Rattle.spec.specs.Forest.{Forest, nth}
use Rattle.spec.specs.Value as Plain
use Rattle.spec.specs.Value.{is_object}
use Rattle.spec.specs.Pointer as Pointer
use Rattle.spec.specs.Pointer.{Tokens, tokens}
use Rattle.spec.specs.Operation as Operation
use Rattle.spec.specs.Operation.{limited}
use Rattle.spec.specs.Patch.{string_member, kind_named, uses_value, uses_from, which_pointer}
use Rattle.origin.specs.Value as Value
use Rattle.origin.specs.Value.{forget, depth}
use Rattle.origin.specs.Pointer.{walk}
use Rattle.origin.specs.Operation.{add_at, remove_at_path, replace_at_path, copy_to, test_at}
use Rattle.origin.specs.Forgetting.{forgotten}
use Rattle.origin.proofs.ForgetLaws.{forget-walk}
use Rattle.spec.proofs.OutcomeLaws.{refused≢ok, both_ok}
use Rattle.spec.proofs.PlaceLaws.{plant_walk, depth_plant}
use Rattle.spec.specs.Distinct.{Distinct}
use Rattle.spec.proofs.NameLaws.{proper_repeats}
use Rattle.claims.proofs.ProperPatch.{operation_proper}
use Rattle.text.specs.Decode.{decode}
use Rattle.tape.specs.Layout.{document_row}
use Rattle.tape.specs.Fields.{Row}
use Rattle.tape.specs.declared.fields.Spelling.{Spelling}
use Rattle.tape.specs.declared.fields.Cell.{Cell}
use Rattle.tape.specs.Lent.{Texts, Table}
use Rattle.table.specs.Meaning.{part_of, spelled, meant}
use Rattle.table.specs.Sound.{NodeHeld, RowsHeld}
use Rattle.table.specs.Find.{Found, found, missing}
use Rattle.tape.specs.Rows.{end_of, child_row}
use Rattle.tape.proofs.Cells.{blank}
use Rattle.tape.proofs.Rows.{end_here}
use Rattle.tape.proofs.Held.{held_node, held_kids}
use Rattle.walk.specs.Bearing.{borne}
use Rattle.walk.proofs.Children.{forget-borne, child_held}
use Rattle.walk.specs.Names.{Short}
use Rattle.walk.specs.Path.{PathIs, WalkIs}
use Rattle.equality.specs.Compare.{EqualIs}
use Rattle.shape.specs.Kinds.{spec_kind, kind_outcome}
use Rattle.shape.specs.Members.{TextIs, MemberIs, StringIs}
use Rattle.shape.specs.Operation.{kind_of, KindIs}
use Rattle.shape.specs.declared.kinds.Kind.{Kind}
use Rattle.shape.proofs.MemberLaws.{sought_missing}
use Rattle.shape.proofs.AnswerLaws.{text_refused, text_spelled, text_decoded}
use Rattle.changes.specs.Site.{Offered}
use Rattle.changes.specs.Document.{judged, results, refusal, ChangeAtIs}
use Rattle.changes.specs.Document.{Bearing, judged_bearing, adds_bearing, removes_bearing, replaces_bearing}
use Rattle.changes.specs.declared.answers.Change.TheVariants.{Add, Remove, Replace}
use Rattle.changes.proofs.ForgetLaws.{document-bearing}
use Rattle.changes.proofs.DocumentLaws.{bearing_fits, the_bearing, no_bearing}
use Rattle.operations.specs.Bearing.{value_in}
use Rattle.operations.specs.Answers.{told_at, Performs, PerformsBearing, performs, fails}
use Rattle.operations.specs.declared.answers.Pointer.TheVariants.{Path}
use Rattle.operations.specs.declared.answers.Failure.{Failure}
use Rattle.operations.specs.Perform.{SamePatch, CopyIs, MoveIs, EqualToIs, Listed, ForOperation, OperationFor, OperationIs, CopyOperationIs, PerformIs}
use Rattle.operations.proofs.PatchLaws.{patch_same, patch_framed}
use Rattle.operations.proofs.AnswerLaws.{which_path, which_from, same_performs, path_performs}
use Rattle.operations.proofs.TransferLaws.{same_results}
use Rattle.operations.proofs.ToldLaws.{told}
use Rattle.operations.proofs.BearingLaws.{add_with, remove_with, replace_with, move_with, copy_with, test_with}
use Rattle.operations.proofs.BearingLaws.{forget-limited, value-forgotten, value-borne}

-- ---- a test
-- what a walk leads to nests no deeper than the value where it begins
depth-walk : (ts : Tokens) (v w : Plain.Value) → Pointer.walk ts v ≡ ok w → Plain.depth w ≤ Plain.depth v
depth-walk ts v w e = omega (arith, depth_plant ts v w e w, ap Plain.depth (plant_walk ts v w e))

depth-bearing : (ts : Tokens) (v w : Value.Value) → walk ts v ≡ ok w → depth w ≤ depth v
unfolding forgotten
depth-bearing ts v w e = depth-walk ts (forget v) (forget w) (sym (forget-walk ts v) ∙ ap forgotten e)

module _ {w : Table} {path : Spelling} {s : Result ℕ Fault} (walked : WalkIs w document_row path s) where
  pub test_lost : {used value : ℕ} {f : Fault} → s ≡ Err f → EqualToIs w used path value (Err f)
  unfolding test_at ◌>>=◌
  test_lost {f} e v d short ts p x kids held distinct = refusal {e = f} (rw (no_bearing s walked d short p e))

  module _ (at : ℕ) (e : s ≡ Ok at) {value : ℕ} {same : Bool} (compared : EqualIs w at value max_depth same) where
    test_found : {used : ℕ} {v : Value.Value} → Bearing w used v → Short w.texts → (ts : Tokens) → PathIs w.texts path ts
        → (x : Cell) (kids : Forest Cell) → NodeHeld w value x kids → Distinct (meant w.texts x kids)
        → test_at ts (meant w.texts x kids) v ≡ (if same then ok v else refused test_differs 0)
    unfolding test_at ◌>>=◌
    test_found {v = v} d short ts p x kids held distinct =
        the_bearing s walked d short p e λ c below f n inside.
        let plain = forget-borne w.texts c below in
        let shallow : Plain.depth (meant w.texts c below) ≤ max_depth =
        omega (arith, depth-bearing ts v (borne w.texts c below) f, ap Plain.depth plain, d.document.shallow) in
        rw (f, plain, ← compared c below x kids n held shallow distinct)

    pub test_equal : {used : ℕ} → same ≡ true → EqualToIs w used path value (Ok used)
    test_equal is v d short ts p x kids held distinct = results {v = v} (rw (test_found d short ts p x kids held distinct, is) (bearing_fits d)) d

    pub test_unequal : {used : ℕ} → same ≡ false → EqualToIs w used path value (Err (record { refusal = Refusal.TestDiffers; place = 0 }))
    unfolding ◌>>=◌ number_of
    test_unequal is v d short ts p x kids held distinct = refusal {e = record { refusal = Refusal.TestDiffers; place = 0 }} (rw (test_found d short ts p x kids held distinct, is))

-- ---- a plain move
pub move_is : (o : Operation.Operation) (v : Plain.Value) → o.kind ≡ Operation.move
    → limited o v ≡ judged (Operation.move_to o.from o.path v)
unfolding limited Operation.perform
move_is o v e = rw e

-- ---- with a value
-- it stands in the rows of its object, and so behind the document's
module _ {w : Table} {row : ℕ} {m : Option ℕ} (is : MemberIs w row (ascii "value") m) where
  -- an operation that uses a value has one
  pub value-missing : {Number : ℕ → Type 0} {used : ℕ} {path : Spelling} {k : Operation.Kind} {r : Result ℕ Failure} → uses_value k ≡ true → m ≡ None
      → OperationFor Number w w.nodes used row path k r
  value-missing uses e =
      record {
        patch = patch_same;
        bearing = λ op any v d short o l p.
            let none = sought_missing e (is.held l.c l.kids l.held) in
            absurd (refused≢ok (sym none ∙ (told _ o l.is).value (ap uses_value p.0 ∙ uses)));
      }

  operand : {C : Type 0} {o : Operation.Operation} (at : ℕ) → m ≡ Some at → (l : Listed w row o) → uses_value o.kind ≡ true
      → ((x : Cell) (kids : Forest Cell) → Offered w at x kids → borne w.texts x kids ≡ value_in (borne w.texts l.c l.kids)
      → meant w.texts x kids ≡ o.value → Distinct (meant w.texts x kids) → C) → C
  unfolding child_row
  operand {C} {o} at e l uses then-it = go (is.rows.held l.kids rows) e
    where
      rows : RowsHeld w (row + 1) (end_of w.nodes row) l.kids
      rows = record { held = held_kids l.held.held; ends = sym (end_here (held_node l.held.held)); sound = l.held.sound }

      go : {n : Option ℕ} → Found w.texts (row + 1) l.kids (ascii "value") n → n ≡ Some at → C
      go (found k at' f kth place) g =
          let same : at' ≡ at = cc in
          let x = (nth blank k l.kids).root in
          let below = (nth blank k l.kids).kids in
          let bears = value-borne w.texts l.c l.kids k f in
          let value-is = value-forgotten w.texts l.c l.kids ((told _ o l.is).value uses) in
          let means : meant w.texts x below ≡ o.value = sym (forget-borne w.texts x below) ∙ ap forget (sym bears) ∙ value-is in
          let distinct = proper_repeats (operation_proper _ o l.proper l.is).value-proper.items in
          let there : at ≡ child_row row k l.kids = sym same ∙ place in
          let node : NodeHeld w at x below = rw there (child_held l.held k kth) in
          then-it x below (record { behind = omega (arith, l.behind, place); held = node }) (sym bears) means (subst Distinct (sym means) distinct)
      go (missing f) g = absurd (let z : ◌≡◌ {A = ℕ} 0 1 = cc in omega arith)

module _ {w : Table} {used row : ℕ} {path : Spelling} {m : Option ℕ} (is : MemberIs w row (ascii "value") m) (at : ℕ) (e : m ≡ Some at) where
  pub add_done : {nodes' : List Row} {q : Result ℕ Fault} {r : Result ℕ Failure} → ChangeAtIs w nodes' used path (Add at) q → r ≡ told_at Path q
      → OperationIs w nodes' used row path Operation.add r
  unfolding uses_value uses_from
  add_done changed from-path =
      record {
        patch = patch_framed changed.frame;
        bearing = λ op any v d short o l p.
            operand is at e l (ap uses_value p.0) λ x kids offered bears means distinct.
            path_performs (which_path o (forget v) (ap uses_from p.0)) from-path
            (same_results (add_with op o _ v p.0 ∙ ap (λ u. judged_bearing (add_at o.path u v)) (sym bears))
            (changed.bearing v d short o.path p.1 _ (adds_bearing at x kids offered)));
      }

  pub replace_done : {nodes' : List Row} {q : Result ℕ Fault} {r : Result ℕ Failure} → ChangeAtIs w nodes' used path (Replace at) q → r ≡ told_at Path q
      → OperationIs w nodes' used row path Operation.replace r
  unfolding uses_value uses_from
  replace_done changed from-path =
      record {
        patch = patch_framed changed.frame;
        bearing = λ op any v d short o l p.
            operand is at e l (ap uses_value p.0) λ x kids offered bears means distinct.
            path_performs (which_path o (forget v) (ap uses_from p.0)) from-path
            (same_results (replace_with op o _ v p.0 ∙ ap (λ u. judged_bearing (replace_at_path o.path u v)) (sym bears))
            (changed.bearing v d short o.path p.1 _ (replaces_bearing at x kids offered)));
      }

  pub test_done : {q : Result ℕ Fault} {r : Result ℕ Failure} → EqualToIs w used path at q → r ≡ told_at Path q → OperationIs w w.nodes used row path Operation.test r
  unfolding uses_value uses_from
  test_done tested from-path =
      record {
        patch = patch_same;
        bearing = λ op any v d short o l p.
            operand is at e l (ap uses_value p.0) λ x kids offered bears means distinct.
            path_performs (which_path o (forget v) (ap uses_from p.0)) from-path
            (same_results (test_with op o _ v p.0 ∙ ap (λ u. judged_bearing (test_at o.path u v)) (sym means))
            (tested v d short o.path p.1 x kids offered.held distinct));
      }

-- ---- with a string that spells a pointer
module _ {T : Texts} {o : Outcome Text} {s : Option Spelling} {t : Text} (is : TextIs T o s) (there : o ≡ ok t) where
  pub spelled_not : s ≡ None → ⊥
  spelled_not e = refused≢ok (sym (text_refused is e) ∙ there)

  pub spelled_path : {path : Spelling} {ts : Tokens} → s ≡ Some path → tokens t ≡ ok ts → PathIs T path ts
  spelled_path {path} e f =
      let g = text_decoded is path e in
      let same : decode (part_of T path) ≡ t = cc in
      record { is = ap tokens same ∙ f }

module _ {w : Table} {row : ℕ} {s : Option Spelling} (is : StringIs w row (ascii "from") s) (from : Spelling) (e : s ≡ Some from) where
  pub source : {o : Operation.Operation} → Listed w row o → uses_from o.kind ≡ true → PathIs w.texts from o.from
  source {o} l uses =
      let t = told _ o l.is in
      spelled_path (is.held l.c l.kids l.held) (t.from_there uses) e t.from_is

module _ {w : Table} {used row : ℕ} {path : Spelling} {s : Option Spelling} (is : StringIs w row (ascii "from") s) where
  pub from_missing : {Number : ℕ → Type 0} {k : Operation.Kind} {r : Result ℕ Failure} → uses_from k ≡ true → s ≡ None
      → OperationFor Number w w.nodes used row path k r
  from_missing uses e =
      record {
        patch = patch_same;
        bearing = λ op any v d short o l p.
            absurd (spelled_not (is.held l.c l.kids l.held) ((told _ o l.is).from_there (ap uses_from p.0 ∙ uses)) e);
      }

  module _ (from : Spelling) (e : s ≡ Some from) where
    pub move_done : {nodes' : List Row} {r : Result ℕ Failure} → MoveIs w nodes' used from path r → OperationIs w nodes' used row path Operation.move r
    unfolding uses_from
    move_done moved =
        record {
          patch = moved.patch;
          bearing = λ op any v d short o l p.
              same_performs (move_with op o _ v p.0) (which_from o (forget v) (ap uses_from p.0))
              (moved.bearing v d short o.from (source is from e l (ap uses_from p.0)) o.path p.1);
        }

    pub copy_done : {nodes' : List Row} {origin : ℕ} {r : Result ℕ Failure} → CopyIs w nodes' used from path origin r
        → CopyOperationIs w nodes' used row path origin r
    unfolding uses_from
    copy_done copied =
        record {
          patch = copied.patch;
          bearing = λ op number v d short o l p.
              same_performs
              (copy_with op o _ v p.0 ∙ ap (λ k. judged_bearing (copy_to k o.from o.path v)) number)
              (which_from o (forget v) (ap uses_from p.0))
              (copied.bearing v d short o.from (source is from e l (ap uses_from p.0)) o.path p.1);
        }

pub remove_done : {w : Table} {nodes' : List Row} {used row : ℕ} {path : Spelling} {q : Result ℕ Fault} {r : Result ℕ Failure} → ChangeAtIs w nodes' used path Remove q
    → r ≡ told_at Path q → OperationIs w nodes' used row path Operation.remove r
unfolding uses_from
remove_done changed from-path =
    record {
      patch = patch_framed changed.frame;
      bearing = λ op any v d short o l p.
          path_performs (which_path o (forget v) (ap uses_from p.0)) from-path
          (same_results (remove_with op o _ v p.0) (changed.bearing v d short o.path p.1 remove_at_path removes_bearing));
    }

-- ---- the contract, by what it says with origins
plain_performs : {T : Texts} {nodes' : List Row} {o : Outcome Value.Value} {pointer : ℕ → ℕ} {r : Result ℕ Failure} → PerformsBearing T nodes' o pointer r
    → Performs T nodes' (forgotten o) pointer r
unfolding forgotten
plain_performs (performs e b) = performs (ap forgotten e) b.document
plain_performs (fails e f) = fails (ap forgotten e) f

perform_is : {w : Table} {nodes' : List Row} {used row op : ℕ} {r : Result ℕ Failure} → SamePatch w.nodes nodes'
    → ForOperation w used row op (λ o. Unit {0}) (λ o pointer. PerformsBearing w.texts nodes' o pointer r) → PerformIs w nodes' used row op r
perform_is {w} {op = op} patch all =
    record {
      patch = patch;
      held = λ v d short o l.
          let b = borne w.texts d.c d.kids in
          let plain : forget b ≡ v = forget-borne w.texts d.c d.kids ∙ d.means in
          let x = value_in (borne w.texts l.c l.kids) in
          let given : uses_value o.kind ≡ true → forget x ≡ o.value =
          λ uses. value-forgotten w.texts l.c l.kids ((told _ o l.is).value uses) in
          same_performs (sym (forget-limited op o x b given ∙ ap (limited o) plain)) (λ n. ap (λ u. which_pointer o u n) (sym plain))
          (plain_performs (all b (document-bearing d) short o l tt));
      bearing = all;
    }

-- ---- the path and the kind, which every operation has
-- a kind that was named
pub known_as : {m : Option Kind} {r : Result Kind Failure} {named kind : Kind} → m ≡ result_ok r → r ≡ Ok named → named ≡ kind
    → kind_outcome m ≡ ok (spec_kind kind)
unfolding kind_outcome
known_as there e is = ap kind_outcome (there ∙ ap result_ok e) ∙ ap (λ k. ok (spec_kind k)) is

-- a kind is that of the operation in a row
pub record KindListed (w : Table) (row : ℕ) (kind : Option Kind) : Type 0 where
  pub is : (o : Operation.Operation) → Listed w row o → kind_outcome kind ≡ ok o.kind

module _ {w : Table} {used row op : ℕ} {r : Result ℕ Failure} {s : Option Spelling} (is : StringIs w row (ascii "path") s) where
  pub path_missing : s ≡ None → PerformIs w w.nodes used row op r
  path_missing e =
      perform_is patch_same (λ v d short o l any. absurd (spelled_not (is.held l.c l.kids l.held) (told _ o l.is).path_there e))

  module _ {kind : Option Kind} (kind_is : KindListed w row kind) where
    pub of_known : {Number : ℕ → Type 0} {nodes' : List Row} (k : Operation.Kind) (path : Spelling) → s ≡ Some path → kind_outcome kind ≡ ok k
        → Number op → OperationFor Number w nodes' used row path k r → PerformIs w nodes' used row op r
    of_known k path e known number done =
        perform_is done.patch λ v d short o l any.
        let t = told _ o l.is in
        let found = kind_is.is o l in
        let same : o.kind ≡ k = cc in
        done.bearing op number v d short o l (same, spelled_path (is.held l.c l.kids l.held) t.path_there e t.path_is)

    -- no operation is of an unknown kind
    pub unknown : kind_outcome kind ≡ refused wrong_shape 0 → PerformIs w w.nodes used row op r
    unknown known = perform_is patch_same (λ v d short o l any. absurd (refused≢ok (sym known ∙ kind_is.is o l)))

  pub of_kind : {kind : Option Kind} → KindIs w row kind → {Number : ℕ → Type 0} {nodes' : List Row} (k : Operation.Kind) (path : Spelling) → s ≡ Some path
      → kind_outcome kind ≡ ok k → Number op → OperationFor Number w nodes' used row path k r → PerformIs w nodes' used row op r
  of_kind kind_is = of_known (record { is = λ o l. kind_is.held l.c l.kids l.held ∙ (told _ o l.is).kind })

-- the kind by the text of `op`
op_told : (v : Plain.Value) {k : Operation.Kind} → kind_of v ≡ ok k → (string_member (ascii "op") v >>= kind_named) ≡ ok k
unfolding kind_of
op_told v {k} e = let (u, object, rest) = both_ok (require wrong_shape (is_object v.label)) _ k e in rest

module _ {w : Table} {row : ℕ} {s : Option Spelling} (is : StringIs w row (ascii "op") s) where
  op_listed : {o : Operation.Operation} (l : Listed w row o) → (string_member (ascii "op") (meant w.texts l.c l.kids) >>= kind_named) ≡ ok o.kind
  op_listed {o} l = op_told _ (told _ o l.is).kind

  pub op_missing : {used op : ℕ} {r : Result ℕ Failure} → s ≡ None → PerformIs w w.nodes used row op r
  unfolding ◌>>=◌
  op_missing e =
      perform_is patch_same λ v d short o l any.
      let none = text_refused (is.held l.c l.kids l.held) e in
      absurd (refused≢ok (rw none at (op_listed l)))

  pub kind_listed : (word : Spelling) → s ≡ Some word → (kind : Option Kind) → kind_outcome kind ≡ kind_named (spelled w.texts word) → KindListed w row kind
  unfolding ◌>>=◌
  kind_listed word e kind known =
      record { is = λ o l. known ∙ (rw (text_spelled (is.held l.c l.kids l.held) word e) at (op_listed l)) }
