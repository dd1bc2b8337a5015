-- Laws of one operation with its undo noted, each for one way out of a function.
use Rattle.std.specs.Prelude.{Option, Some, None, Result}
use Prim.Native.Nat.{ℕ}
use mathlib.Core.Logic.{◌⊎◌, inl, inr}
use mathlib.Core.Path.{◌≡◌, refl, ap, sym, ◌∙◌}
use mathlib.Core.Bool.{true, false, false≢true}
use mathlib.Core.List.{List, [], ◌∷◌}
use Rattle.spec.specs.Outcome.{Outcome, ok}
use Rattle.spec.specs.Bytes.{Bytes, Text, ascii}
use Rattle.spec.specs.Value as Value
use Rattle.spec.specs.Value.{value_of}
use Rattle.spec.specs.Pointer.{Tokens, child_at, child, farther, walk}
use Rattle.spec.specs.Operation as Operation
use Rattle.spec.specs.Operation.{Operation, at_parent, insert_child, remove_child, replace_child, add_at, remove_at_path}
use Rattle.spec.specs.Operation.{replace_at_path, copy_to, perform, limited}
use Rattle.spec.specs.Patch.{is_move}
use Rattle.spec.proofs.OutcomeLaws.{refused≢ok, both_ok}
use Rattle.spec.proofs.FartherLaws.{farther_ok}
use Rattle.spec.proofs.PlaceLaws.{walk_on}
use Rattle.tape.specs.Fields.{Row}
use Rattle.tape.specs.declared.fields.Spelling.{Spelling}
use Rattle.tape.specs.Lent.{Table}
use Rattle.walk.specs.Path.{PathIs}
use Rattle.shape.specs.Kinds.{spec_kind, kind_outcome, asks, uses_of}
use Rattle.shape.specs.Members.{StringIs}
use Rattle.shape.specs.Operation.{KindIs}
use Rattle.shape.specs.declared.kinds.Kind.{Kind}
use Rattle.shape.specs.declared.kinds.Uses.{Uses}
use Rattle.operations.specs.declared.answers.Failure.{Failure}
use Rattle.operations.specs.Perform.{Listed}
use Rattle.operations.proofs.ToldLaws.{told}
use Rattle.operations.proofs.PerformLaws.{spelled_not, spelled_path, of_kind}
use Rattle.reversal.specs.Undo.{undo_of}
use Rattle.undo_log.specs.declared.log.Log.{Log}
use Rattle.undo.specs.Mend.{Present, Addable, NoteRemovedIs, NoteReplacedIs, MendIs}
use Rattle.undo.specs.Step.{PlainIs, NoteBeforeIs, MoveStepIs, StepIs}
use Rattle.undo.specs.declared.logged.Logged.{Logged}
use Rattle.undo.proofs.MoveLaws.{judged_result, plain_steps}

-- ---- a change that asks for a child finds a value
module _ (change : Text → Value.Value → Outcome Value.Value)
    (asks-child : (t : Text) (v w : Value.Value) → change t v ≡ ok w → (k : ℕ) × (child_at t v ≡ ok k)) where
  changed_present : (t : Text) (ts : Tokens) (v w : Value.Value) → at_parent change t ts v ≡ ok w → Present (t ∷ ts) v
  unfolding at_parent walk farther
  changed_present t [] v w h =
      let (k, e) = asks-child t v w h in
      record { value = value_of (child k v); is = walk_on t [] v k e }
  changed_present t (u ∷ ts) v w h =
      let (k, e, i) = both_ok (child_at t v) _ w h in
      let (y, f, j) = both_ok (farther (at_parent change u ts (value_of (child k v)))) _ w i in
      let below = changed_present u ts (value_of (child k v)) y (farther_ok _ f) in
      record { value = below.value; is = walk_on t (u ∷ ts) v k e ∙ ap farther below.is }

removed_present : (ts : Tokens) (v w : Value.Value) → remove_at_path ts v ≡ ok w → Present ts v
unfolding remove_at_path remove_child
removed_present [] v w h = absurd (refused≢ok h)
removed_present (t ∷ ts) v w h = changed_present remove_child (λ t v w h. let (k, e, i) = both_ok (child_at t v) _ w h in (k, e)) t ts v w h

replaced_present : (ts : Tokens) (x v w : Value.Value) → replace_at_path ts x v ≡ ok w → Present ts v
unfolding replace_at_path replace_child walk
replaced_present [] x v w h = record { value = v; is = refl }
replaced_present (t ∷ ts) x v w h = changed_present (replace_child x) (λ t v w h. let (k, e, i) = both_ok (child_at t v) _ w h in (k, e)) t ts v w h

-- ---- before an operation, by its kind
module _ (o : Operation) (v : Value.Value) where
  adds : o.kind ≡ Operation.add → perform o v ≡ add_at o.path o.value v
  unfolding perform
  adds e = rw e

  removes : o.kind ≡ Operation.remove → perform o v ≡ remove_at_path o.path v
  unfolding perform
  removes e = rw e

  replaces : o.kind ≡ Operation.replace → perform o v ≡ replace_at_path o.path o.value v
  unfolding perform
  replaces e = rw e

  copies : o.kind ≡ Operation.copy → perform o v ≡ copy_to o.from o.path v
  unfolding perform
  copies e = rw e

module _ (o : Operation) (v w : Value.Value) (done : limited o v ≡ ok w) where
  performed : (u : Value.Value) × (perform o v ≡ ok u)
  unfolding limited
  performed = judged_result (perform o v) w done

  added : o.kind ≡ Operation.add → Addable o.path v
  added e = let (u, h) = performed in record { new = o.value; result = u; is = sym (adds o v e) ∙ h }

  copied : o.kind ≡ Operation.copy → Addable o.path v
  unfolding copy_to
  copied e =
      let (u, h) = performed in
      let (x, f, i) = both_ok (walk o.from v) _ u (sym (copies o v e) ∙ h) in
      record { new = x; result = u; is = i }

  removed : o.kind ≡ Operation.remove → Present o.path v
  removed e = let (u, h) = performed in removed_present o.path v u (sym (removes o v e) ∙ h)

  replaced : o.kind ≡ Operation.replace → Present o.path v
  replaced e = let (u, h) = performed in replaced_present o.path o.value v u (sym (replaces o v e) ∙ h)

known : {kind k : Kind} {o : Operation.Kind} → kind ≡ k → spec_kind kind ≡ o → o ≡ spec_kind k
known e knows = sym knows ∙ ap spec_kind e

module _ {w : Table} {path : Spelling} {kind : Kind} {log r : Log} {work work' : Bytes} where
  -- a new value: of an addition, or of a copy
  pub before_put : (kind ≡ Kind.Add) ⊎ (kind ≡ Kind.Copy) → MendIs w log path work work' r → NoteBeforeIs w work work' kind path log r
  unfolding undo_of spec_kind
  before_put (inl e) mend used v d short o knows moves p v' done os noted =
      let k = known e knows in
      rw k (mend used v d short o.path p (added o v v' done k) os noted)
  before_put (inr e) mend used v d short o knows moves p v' done os noted =
      let k = known e knows in
      rw k (mend used v d short o.path p (copied o v v' done k) os noted)

  pub before_remove : kind ≡ Kind.Remove → NoteRemovedIs w log path work work' r → NoteBeforeIs w work work' kind path log r
  unfolding undo_of spec_kind
  before_remove e note used v d short o knows moves p v' done os noted =
      let k = known e knows in
      rw k (note used v d short o.path p (removed o v v' done k) os noted)

  pub before_replace : kind ≡ Kind.Replace → NoteReplacedIs w log path work work' r → NoteBeforeIs w work work' kind path log r
  unfolding undo_of spec_kind
  before_replace e note used v d short o knows moves p v' done os noted =
      let k = known e knows in
      rw k (note used v d short o.path p (replaced o v v' done k) os noted)

-- nothing: a move is noted by itself, and a test gives nothing
module _ {w : Table} {path : Spelling} {kind : Kind} {log : Log} {work : Bytes} where
  pub before_none : (kind ≡ Kind.Move) ⊎ (kind ≡ Kind.Test) → NoteBeforeIs w work work kind path log log
  unfolding undo_of spec_kind is_move
  before_none (inl e) used v d short o knows moves p v' done os noted =
      absurd (false≢true (sym moves ∙ ap is_move (known e knows)))
  before_none (inr e) used v d short o knows moves p v' done os noted = rw (known e knows) noted

-- ---- an operation, by its path and its kind
module _ {w : Table} {used row : ℕ} {s : Option Spelling} (is : StringIs w row (ascii "path") s) {nodes' : List Row} {log : Log} {r : Result Logged Failure} where
  pub path_missing : s ≡ None → {work : Bytes} {op : ℕ} → PlainIs w nodes' used row op log r → StepIs w nodes' work work used row op log r
  path_missing e plain =
      record {
        performs = plain.performs;
        held = λ v d short o l os noted. absurd (spelled_not (is.held l.c l.kids l.held) (told _ o l.is).path_there e);
      }

module _ {w : Table} {row : ℕ} {s : Option Spelling} (is : StringIs w row (ascii "path") s) (path : Spelling) (e : s ≡ Some path) where
  path_told : {o : Operation} → Listed w row o → PathIs w.texts path o.path
  path_told {o} l = let t = told _ o l.is in spelled_path (is.held l.c l.kids l.held) t.path_there e t.path_is

-- its kind is known
module _ {w : Table} {row : ℕ} {q : Option Kind} (is : KindIs w row q) {o : Operation} (l : Listed w row o) where
  kind_listed : kind_outcome q ≡ ok o.kind
  kind_listed = is.held l.c l.kids l.held ∙ (told _ o l.is).kind

  kind_told : {kind : Kind} → q ≡ Some kind → spec_kind kind ≡ o.kind
  unfolding kind_outcome
  kind_told {kind} e = let same : ok (spec_kind kind) ≡ ok o.kind = sym (ap kind_outcome e) ∙ kind_listed in cc

  no_kind : {C : Type 0} → q ≡ None → C
  unfolding kind_outcome
  no_kind e = absurd (refused≢ok (sym (ap kind_outcome e) ∙ kind_listed))

is_move_lem : (k : Operation.Kind) → is_move k ≡ true → k ≡ Operation.move
unfolding is_move
is_move_lem Operation.add e = absurd (false≢true e)
is_move_lem Operation.remove e = absurd (false≢true e)
is_move_lem Operation.replace e = absurd (false≢true e)
is_move_lem Operation.move e = refl
is_move_lem Operation.copy e = absurd (false≢true e)
is_move_lem Operation.test e = absurd (false≢true e)

pub kind_missing : {w : Table} {used row op : ℕ} {q : Option Kind} → KindIs w row q → q ≡ None → {nodes' : List Row} {log : Log}
    {r : Result Logged Failure} {work : Bytes} → PlainIs w nodes' used row op log r → StepIs w nodes' work work used row op log r
kind_missing kind_is f plain =
    record {
      performs = plain.performs;
      held = λ v d short o l os noted. no_kind kind_is l f;
    }

moves_is : (kind : Kind) {uses : Uses} → uses ≡ uses_of (Some kind) → uses.moves ≡ is_move (spec_kind kind)
unfolding asks
moves_is kind e = ap (λ (u : Uses). u.moves) e

module _ {w : Table} {used row op : ℕ} {s : Option Spelling} (is : StringIs w row (ascii "path") s) (path : Spelling) (e : s ≡ Some path)
    {q : Option Kind} (kind_is : KindIs w row q) {kind : Kind} (f : q ≡ Some kind) {uses : Uses} (uses-is : uses ≡ uses_of (Some kind))
    {nodes' : List Row} {log : Log} {r : Result Logged Failure} {work work' : Bytes} where
  pub step_moves : uses.moves ≡ true → MoveStepIs w nodes' work work' used row op path log r → StepIs w nodes' work work' used row op log r
  unfolding kind_outcome
  step_moves m moved =
      let moves = is_move_lem (spec_kind kind) (sym (moves_is kind uses-is) ∙ m) in
      record {
        performs = of_kind is kind_is Operation.move path e (ap kind_outcome f ∙ ap ok moves) refl moved.performs;
        held = λ v d short o l os noted. moved.held v d short o l (sym (kind_told kind_is l f) ∙ moves) (path_told is path e l) os noted;
      }

  pub step_other : uses.moves ≡ false → {before-log : Log} → NoteBeforeIs w work work' kind path log before-log
      → PlainIs w nodes' used row op before-log r → StepIs w nodes' work work' used row op log r
  step_other m note plain =
      record {
        performs = plain.performs;
        held = λ v d short o l os noted.
            let knows = kind_told kind_is l f in
            let stays : is_move o.kind ≡ false = ap is_move (sym knows) ∙ sym (moves_is kind uses-is) ∙ m in
            plain_steps plain d short l λ u h. note used v d short o knows stays (path_told is path e l) u h os noted;
      }
