-- What SPECIFICATION 19 says of origins, as claims on the definitions.
use Rattle.std.specs.Prelude.{◌≡◌, ℕ, ◌≤◌, true, false, List, [], ◌∷◌, ◌++◌, length, replicate}
use Rattle.spec.specs.Outcome.{ok}
use Rattle.spec.specs.Refusal.{done}
use Rattle.spec.specs.Limits.{max_operations}
use Rattle.spec.specs.Bytes.{Bytes, Text}
use Rattle.spec.specs.Value as Plain
use Rattle.spec.specs.Value.{Label, is_object}
use Rattle.spec.specs.Pointer as PlainPointer
use Rattle.spec.specs.Pointer.{Tokens}
use Rattle.spec.specs.Operation.{Kind, Operation}
use Rattle.spec.specs.Patch.{finished}
use Rattle.spec.specs.Effects.{FoundAt}
use Rattle.spec.specs.Answer.{Lent}
use Rattle.spec.specs.Proper.{Proper}
use Rattle.merging.specs.MergePatch as PlainMerge
use Rattle.merging.specs.MergePatch.{is_null}
use Rattle.reversal.specs.UndoAnswer.{UndoLent}
use Rattle.origin.specs.Value as Value
use Rattle.origin.specs.Value.{forget, painted, nodes, origins}
use Rattle.origin.specs.Pointer.{walk}
use Rattle.origin.specs.Operation.{remove_at_path, perform, limited}
use Rattle.origin.specs.Patch.{run}
use Rattle.origin.specs.MergePatch.{merge_origin, as_object, member_of, merge_patch}
use Rattle.origin.specs.Answer.{Lending, answer, merge_answer, undo_answer}

pub data Each (P : ℕ → Type 0) : List ℕ → Type 0 where
  nothing : Each P []
  another : {k : ℕ} {ks : List ℕ} → P k → Each P ks → Each P (k ∷ ks)

-- one stretch of a list replaced by another, and nothing else changed
pub record Exchanged (old new before after : List ℕ) : Type 0 where
  pub left : List ℕ
  pub right : List ℕ
  pub was : before ≡ left ++ (old ++ right)
  pub is : after ≡ left ++ (new ++ right)

-- the origins of what stands at a place
pub data Stands (path : Tokens) (v : Value.Value) : List ℕ → Type 0 where
  value : {y : Value.Value} → walk path v ≡ ok y → Stands path v (origins y)

-- the origins of what a value put in there replaces: nothing, or what stands there
pub data Replaced (path : Tokens) (v : Value.Value) : List ℕ → Type 0 where
  nothing : Replaced path v []
  value : {y : Value.Value} → walk path v ≡ ok y → Replaced path v (origins y)

-- origins put in at a place
pub record PutIn (path : Tokens) (v w : Value.Value) (new : List ℕ) : Type 0 where
  pub old : List ℕ
  pub replaced : Replaced path v old
  pub exchanged : Exchanged old new (origins v) (origins w)

-- origins put in for what stands there
pub record PutFor (path : Tokens) (v w : Value.Value) (new : List ℕ) : Type 0 where
  pub old : List ℕ
  pub stood : Stands path v old
  pub exchanged : Exchanged old new (origins v) (origins w)

pub data AllTests : List Operation → Type 0 where
  no_more : AllTests []
  test : {o : Operation} {os : List Operation} → o.kind ≡ Kind.test → AllTests os → AllTests (o ∷ os)

-- One operation that succeeds. "k for a value put in by operation k, add, replace or copy, all nodes of it; a moved value keeps its own, and a
-- container keeps its origin when a child changes": no other origin changes, nor do they change places.
pub record OneOperation (k : ℕ) (o : Operation) (v w : Value.Value) : Type 0 where
  pub add : o.kind ≡ Kind.add → PutIn o.path v w (replicate (Plain.nodes o.value) k)
  pub remove : o.kind ≡ Kind.remove → PutFor o.path v w []
  pub replace : o.kind ≡ Kind.replace → PutFor o.path v w (replicate (Plain.nodes o.value) k)
  pub copy : o.kind ≡ Kind.copy → (x : Value.Value) × (walk o.from v ≡ ok x) × PutIn o.path v w (replicate (nodes x) k)
  pub move : (t : Text) (ts : Tokens) → o.kind ≡ Kind.move → o.from ≡ t ∷ ts →
      (x left : Value.Value) × (walk o.from v ≡ ok x) × (remove_at_path o.from v ≡ ok left) × PutFor o.from v left [] ×
      PutIn o.path left w (origins x)
  pub move_root : o.kind ≡ Kind.move → o.from ≡ [] → w ≡ v
  pub test : o.kind ≡ Kind.test → w ≡ v

-- and where the value that it put in is found; a last `-` stands for the index of the array's end
pub record FoundAgain (k : ℕ) (o : Operation) (v w : Value.Value) : Type 0 where
  pub added : (us : Tokens) → o.kind ≡ Kind.add → FoundAt o.path (forget v) us → walk us w ≡ ok (painted k o.value)
  pub replaced : o.kind ≡ Kind.replace → walk o.path w ≡ ok (painted k o.value)
  pub copied : (us : Tokens) (x : Value.Value) → o.kind ≡ Kind.copy → walk o.from v ≡ ok x → FoundAt o.path (forget v) us →
      walk us w ≡ ok (painted k (forget x))
  pub moved : (t : Text) (ts us : Tokens) (x left : Value.Value) → o.kind ≡ Kind.move → o.from ≡ t ∷ ts → walk o.from v ≡ ok x →
      remove_at_path o.from v ≡ ok left → FoundAt o.path (forget left) us → walk us w ≡ ok x

pub record OriginStatement : Type 0 where
  -- "one for each value"
  pub one_each : (v : Value.Value) → length (origins v) ≡ nodes v
  -- "0 from the document", "all nodes of it"
  pub all_nodes : (k : ℕ) (v : Plain.Value) → origins (painted k v) ≡ replicate (Plain.nodes v) k
  pub operation : (k : ℕ) (o : Operation) (v w : Value.Value) → perform k o v ≡ ok w → OneOperation k o v w
  pub found : (k : ℕ) (o : Operation) (v w : Value.Value) → perform k o v ≡ ok w → FoundAgain k o v w
  -- a patch puts in what its operations put in, and nothing where all of them are tests
  pub bounded : (os : List Operation) (d : Plain.Value) (w : Value.Value) → run limited 1 os (painted 0 d) ≡ finished w →
      Each (λ k. k ≤ length os) (origins w)
  pub tests : (op : ℕ) (os : List Operation) (v w : Value.Value) → AllTests os → run limited op os v ≡ finished w → w ≡ v
  -- the merge: an object that is merged into keeps its origin; in the place of any other value all nodes bear 1, "also [..] the empty objects"
  pub merge_kept : (t : Value.Value) (p : Plain.Value) → is_object t.label ≡ true → is_object p.label ≡ true → (merge_patch t p).origin ≡ t.origin
  pub merge_whole : (t : Value.Value) (p : Plain.Value) → is_object p.label ≡ false → merge_patch t p ≡ painted merge_origin p
  pub merge_made : (t : Value.Value) (p : Plain.Value) → is_object t.label ≡ false →
      merge_patch t p ≡ painted merge_origin (PlainMerge.merge_patch (forget t) p)
  -- a member that the patch does not name is as it was; one that it names, and not with null, is merged in turn
  pub merge_unnamed : (t : Value.Value) (p : Plain.Value) (n : Text) → p.label ≡ Label.object → Plain.has n p.kids ≡ false →
      member_of n (merge_patch t p) ≡ member_of n (as_object t)
  pub merge_named : (t : Value.Value) (p x : Plain.Value) (n : Text) → Proper p → p.label ≡ Label.object → PlainPointer.walk (n ∷ []) p ≡ ok x →
      is_null x.label ≡ false → member_of n (merge_patch t p) ≡ merge_patch (member_of n (as_object t)) x
  pub merge_bounded : (d p : Plain.Value) → Each (λ k. k ≤ merge_origin) (origins (merge_patch (painted 0 d) p))
  -- the calls: nothing is listed on a refusal
  pub nothing_listed : (document patch : Bytes) (lent : Lending Lent) → ((answer document patch lent).answer.number ≡ done → ⊥) →
      (answer document patch lent).origins ≡ []
  pub merge_nothing_listed : (document patch : Bytes) (lent : Lending Lent) → ((merge_answer document patch lent).answer.number ≡ done → ⊥) →
      (merge_answer document patch lent).origins ≡ []
  pub undo_nothing_listed : (document patch : Bytes) (lent : Lending UndoLent) → ((undo_answer document patch lent).answer.answer.number ≡ done → ⊥) →
      (undo_answer document patch lent).origins ≡ []
  -- the list suffices, and 16 bits hold each entry
  pub fits : (document patch : Bytes) (lent : Lending Lent) → length (answer document patch lent).origins ≤ lent.list
  pub small : (document patch : Bytes) (lent : Lending Lent) → Each (λ k. k ≤ max_operations) (answer document patch lent).origins
  pub merge_fits : (document patch : Bytes) (lent : Lending Lent) → length (merge_answer document patch lent).origins ≤ lent.list
  pub merge_small : (document patch : Bytes) (lent : Lending Lent) → Each (λ k. k ≤ merge_origin) (merge_answer document patch lent).origins
  pub undo_fits : (document patch : Bytes) (lent : Lending UndoLent) → length (undo_answer document patch lent).origins ≤ lent.list
  pub undo_small : (document patch : Bytes) (lent : Lending UndoLent) → Each (λ k. k ≤ max_operations) (undo_answer document patch lent).origins
