-- Laws of an operation of the patch on values that bear origins: forgetting them gives the plain operation, and values that bear the operation's
-- number give that of crate origin.
use Rattle.std.specs.Prelude.{if◌then◌else◌}
use Prim.Native.Nat.{ℕ, ◌+◌}
use mathlib.Core.Path.{◌≡◌, refl, ap, ◌∙◌}
use mathlib.Core.Bool.{Bool, true, false}
use mathlib.Core.List.{List}
use lib.Dec.{ltb}
use Rattle.spec.specs.Outcome.{ok, refused}
use Rattle.spec.specs.Refusal.{wrong_shape}
use Rattle.spec.specs.Bytes.{Text, ascii}
use Rattle.spec.specs.Forest.{Forest, count, nth}
use Rattle.spec.specs.Value as Plain
use Rattle.spec.specs.Pointer as PlainPointer
use Rattle.spec.specs.Operation as Operation
use Rattle.spec.specs.Operation.{Kind, add, remove, replace, move, copy, test, limited}
use Rattle.spec.specs.Patch.{Run, on_finish, at_op, which_pointer, member, uses_value}
use Rattle.spec.proofs.OutcomeLaws.{refused≢ok}
use Rattle.tape.specs.declared.fields.Cell.{Cell}
use Rattle.tape.specs.Lent.{Texts}
use Rattle.tape.proofs.Cells.{blank}
use Rattle.table.specs.Meaning.{members, meant}
use Rattle.origin.specs.Value as Value
use Rattle.origin.specs.Value.{forget, painted, value_of}
use Rattle.origin.specs.Pointer.{child}
use Rattle.origin.specs.Operation as Origins
use Rattle.origin.specs.Operation.{add_at, remove_at_path, replace_at_path, move_to, copy_to, test_at}
use Rattle.origin.specs.Patch as OriginPatch
use Rattle.origin.specs.Forgetting.{forgotten}
use Rattle.origin.proofs.ForgetLaws.{forget-value_of, forget-add_at, forget-remove_at_path}
use Rattle.origin.proofs.ForgetLaws.{forget-replace_at_path, forget-move_to, forget-copy_to, forget-test_at}
use Rattle.walk.specs.Bearing.{borne, borne_members}
use Rattle.walk.proofs.Children.{forget-borne, child-borne}
use Rattle.changes.specs.Document.{judged, judged_bearing}
use Rattle.changes.proofs.BorneLaws.{members-borne}
use Rattle.changes.proofs.ForgetLaws.{forget-judged}
use Rattle.operations.specs.Bearing.{perform_with, limited_with, value_in, Valued, Numbered, numbered_none, numbered_next, run_with}

-- ---- each kind is its own function, judged
module _ (k : ℕ) (o : Operation.Operation) (x v : Value.Value) where
  pub add_with : o.kind ≡ add → limited_with k o x v ≡ judged_bearing (add_at o.path x v)
  unfolding limited_with perform_with
  add_with e = rw e

  pub remove_with : o.kind ≡ remove → limited_with k o x v ≡ judged_bearing (remove_at_path o.path v)
  unfolding limited_with perform_with
  remove_with e = rw e

  pub replace_with : o.kind ≡ replace → limited_with k o x v ≡ judged_bearing (replace_at_path o.path x v)
  unfolding limited_with perform_with
  replace_with e = rw e

  pub move_with : o.kind ≡ move → limited_with k o x v ≡ judged_bearing (move_to o.from o.path v)
  unfolding limited_with perform_with
  move_with e = rw e

  pub copy_with : o.kind ≡ copy → limited_with k o x v ≡ judged_bearing (copy_to k o.from o.path v)
  unfolding limited_with perform_with
  copy_with e = rw e

  pub test_with : o.kind ≡ test → limited_with k o x v ≡ judged_bearing (test_at o.path o.value v)
  unfolding limited_with perform_with
  test_with e = rw e

-- ---- the origins forgotten
forget_performed : (k : ℕ) (o : Operation.Operation) (x v : Value.Value) → (uses_value o.kind ≡ true → forget x ≡ o.value)
    → forgotten (perform_with k o x v) ≡ Operation.perform o (forget v)
unfolding perform_with Operation.perform uses_value
forget_performed k o x v same = go o.kind same
  where
    by : Kind → Operation.Operation
    by kind = record { kind = kind; path = o.path; from = o.from; value = o.value }

    go : (kind : Kind) → (uses_value kind ≡ true → forget x ≡ o.value) → forgotten (perform_with k (by kind) x v) ≡ Operation.perform (by kind) (forget v)
    go add s = forget-add_at o.path x v ∙ ap (λ y. Operation.add_at o.path y (forget v)) (s refl)
    go remove s = forget-remove_at_path o.path v
    go replace s = forget-replace_at_path o.path x v ∙ ap (λ y. Operation.replace_at_path o.path y (forget v)) (s refl)
    go move s = forget-move_to o.from o.path v
    go copy s = forget-copy_to k o.from o.path v
    go test s = forget-test_at o.path o.value v

pub forget-limited : (k : ℕ) (o : Operation.Operation) (x v : Value.Value) → (uses_value o.kind ≡ true → forget x ≡ o.value)
    → forgotten (limited_with k o x v) ≡ limited o (forget v)
unfolding limited_with limited
forget-limited k o x v same = forget-judged (perform_with k o x v) ∙ ap judged (forget_performed k o x v same)

-- ---- the member `value` of an element of the patch
member-child : (name : Text) (v x : Plain.Value) → member name v ≡ ok x → Plain.value_of (PlainPointer.child (Plain.find name v.kids) v) ≡ x
unfolding member
member-child name v x e = go (ltb (Plain.find name v.kids) (count v.kids)) e
  where
    go : (b : Bool) → (if b then ok (Plain.value_of (PlainPointer.child (Plain.find name v.kids) v)) else refused wrong_shape 0) ≡ ok x
        → Plain.value_of (PlainPointer.child (Plain.find name v.kids) v) ≡ x
    go true f = cc
    go false f = absurd (refused≢ok f)

module _ (T : Texts) (c : Cell) (kids : Forest Cell) where
  pub value-forgotten : {x : Plain.Value} → member (ascii "value") (meant T c kids) ≡ ok x → forget (value_in (borne T c kids)) ≡ x
  unfolding value_in
  value-forgotten {x} e =
      forget-value_of (Plain.find (ascii "value") (Value.forget_members (borne_members T kids))) (borne T c kids)
      ∙ ap (λ v. Plain.value_of (PlainPointer.child (Plain.find (ascii "value") v.kids) v)) (forget-borne T c kids)
      ∙ member-child (ascii "value") (meant T c kids) x e

  pub value-borne : (k : ℕ) → Plain.find (ascii "value") (members T kids) ≡ k
      → value_in (borne T c kids) ≡ borne T (nth blank k kids).root (nth blank k kids).kids
  unfolding value_in
  value-borne k e =
      ap (λ f. value_of (child (Plain.find (ascii "value") f) (borne T c kids))) (members-borne T kids)
      ∙ ap (λ n. value_of (child n (borne T c kids))) e ∙ ap value_of (child-borne T k c kids)

-- ---- values that bear the number of their operation
pub numbered-limited : (k : ℕ) (o : Operation.Operation) (x v : Value.Value) → (uses_value o.kind ≡ true → x ≡ painted k o.value)
    → limited_with k o x v ≡ Origins.limited k o v
unfolding limited_with perform_with Origins.limited Origins.perform uses_value
numbered-limited k o x v bears = go o.kind bears
  where
    by : Kind → Operation.Operation
    by kind = record { kind = kind; path = o.path; from = o.from; value = o.value }

    go : (kind : Kind) → (uses_value kind ≡ true → x ≡ painted k o.value) → limited_with k (by kind) x v ≡ Origins.limited k (by kind) v
    go add b = ap (λ y. judged_bearing (add_at o.path y v)) (b refl)
    go remove b = refl
    go replace b = ap (λ y. judged_bearing (replace_at_path o.path y v)) (b refl)
    go move b = refl
    go copy b = refl
    go test b = refl

pub numbered-run : {op : ℕ} {xs : List Valued} {os : List Operation.Operation} → Numbered op xs os → (v : Value.Value)
    → run_with op xs v ≡ OriginPatch.run Origins.limited op os v
unfolding run_with OriginPatch.run on_finish
numbered-run numbered_none v = refl
numbered-run {op} (numbered_next {o = o} {x} {xs} {os} bears later) v =
    rw (numbered-limited op o x v bears) (go (λ w. numbered-run later w) (at_op op (which_pointer o (forget v)) (Origins.limited op o v)))
  where
    go : ((w : Value.Value) → run_with (op + 1) xs w ≡ OriginPatch.run Origins.limited (op + 1) os w) → (r : Run Value.Value)
        → on_finish r (λ w. run_with (op + 1) xs w) ≡ on_finish r (λ w. OriginPatch.run Origins.limited (op + 1) os w)
    go rest (Run.finished w) = rest w
    go rest (Run.stopped s) = refl
