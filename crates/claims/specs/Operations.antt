-- What RFC 6902 says of its operations in terms of one another, and of a patch that fails.
use Rattle.std.specs.Prelude.{◌≡◌, ℕ, ◌+◌, List, [], ◌∷◌, ◌++◌, true, length}
use Rattle.spec.specs.Outcome.{Outcome, ok, refused, ◌>>=◌}
use Rattle.spec.specs.Bytes.{Bytes, Text}
use Rattle.spec.specs.Value as Value
use Rattle.spec.specs.Value.{Label, leaf, is_array}
use Rattle.spec.specs.Equality.{equal}
use Rattle.spec.specs.Pointer.{Tokens, walk}
use Rattle.spec.specs.Operation.{Kind, Operation, perform, limited}
use Rattle.spec.specs.Patch.{stop, finished, which_pointer, run}
use Rattle.spec.specs.Answer as Answer
use Rattle.spec.specs.Answer.{Lent, answer, work_suffices}
use Rattle.spec.specs.Region.{Accepted, WellFormed}
use Rattle.spec.specs.Proper.{Proper}
use Rattle.claims.specs.Equality.{Reordered}

-- the operations by the members that each uses
abbrev pub adding : Tokens → Value.Value → Operation
adding path x = record { kind = Kind.add; path = path; from = []; value = x }

abbrev pub removing : Tokens → Operation
removing path = record { kind = Kind.remove; path = path; from = []; value = leaf Label.null_literal }

abbrev pub replacing : Tokens → Value.Value → Operation
replacing path x = record { kind = Kind.replace; path = path; from = []; value = x }

abbrev pub moving : Tokens → Tokens → Operation
moving from path = record { kind = Kind.move; path = path; from = from; value = leaf Label.null_literal }

abbrev pub copying : Tokens → Tokens → Operation
copying from path = record { kind = Kind.copy; path = path; from = from; value = leaf Label.null_literal }

abbrev pub testing : Tokens → Value.Value → Operation
testing path x = record { kind = Kind.test; path = path; from = []; value = x }

-- the same refusal of both, or results that are related
pub data Same (R : Value.Value → Value.Value → Type 0) : Outcome Value.Value → Outcome Value.Value → Type 0 where
  both : {v w : Value.Value} → R v w → Same R (ok v) (ok w)
  neither : {number place : ℕ} → Same R (refused number place) (refused number place)

pub record OperationsStatement : Type 0 where
  -- 4.3: "This operation is functionally identical to a "remove" operation for a value, followed immediately by an "add" operation at the
  -- same location with the replacement value." Here a replaced member keeps its position, and an added one goes last. (The root is not
  -- removed, and replacing it is adding it. Every document of a run is proper: `RoundTrip`.)
  pub replace : (t : Text) (ts : Tokens) (x v : Value.Value) → Proper v →
      Same Reordered (perform (replacing (t ∷ ts) x) v) (perform (removing (t ∷ ts)) v >>= perform (adding (t ∷ ts) x))
  -- an element's position is the one it is added at, so there nothing differs
  pub replace_element : (t : Text) (ts : Tokens) (x v parent : Value.Value) → Proper v → walk ts v ≡ ok parent → is_array parent.label ≡ true →
      perform (replacing (ts ++ (t ∷ [])) x) v ≡ perform (removing (ts ++ (t ∷ []))) v >>= perform (adding (ts ++ (t ∷ [])) x)
  pub replace_root : (x v : Value.Value) → perform (replacing [] x) v ≡ perform (adding [] x) v
  -- 4.4: "This operation is functionally identical to a "remove" operation on the "from" location, followed immediately by an "add"
  -- operation at the target location with the value that was just removed."
  pub move : (t : Text) (ts path : Tokens) (v : Value.Value) →
      perform (moving (t ∷ ts) path) v ≡ walk (t ∷ ts) v >>= λ x. perform (removing (t ∷ ts)) v >>= perform (adding path x)
  -- 4.5: "This operation is functionally identical to an "add" operation at the target location using the value specified in the "from"
  -- member."
  pub copy : (from path : Tokens) (v : Value.Value) → perform (copying from path) v ≡ walk from v >>= λ x. perform (adding path x) v
  -- 4.6: "The target location MUST be equal to the "value" value for the operation to be considered successful." It changes nothing.
  pub test : (path : Tokens) (x v w : Value.Value) → perform (testing path x) v ≡ ok w →
      (found : Value.Value) × (walk path v ≡ ok found) × (equal found x ≡ true) × (w ≡ v)
  -- 5: "if an operation is not successful, evaluation of the JSON Patch document SHOULD terminate and application of the entire patch
  -- document SHALL NOT be deemed successful": the answer is the failed operation's number, op, place and pointer,
  -- and no text.
  pub failure : (document patch : Bytes) (lent : Lent) (d w : Value.Value) (earlier later : List Operation) (o : Operation) (number place : ℕ) →
      Accepted document d → WellFormed patch (earlier ++ (o ∷ later)) → work_suffices lent ≡ true → run limited 1 earlier d ≡ finished w →
      limited o w ≡ refused number place →
      answer document patch lent ≡ Answer.failure (stop number (length earlier + 1) place (which_pointer o w number))
  -- whatever is refused, no text is written
  pub nothing_written : (document patch : Bytes) (lent : Lent) → ((answer document patch lent).number ≡ 0 → ⊥) → (answer document patch lent).written ≡ []
