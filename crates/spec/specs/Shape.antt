-- The shape of a patch: SPECIFICATION 4, as relations. proofs/ShapeTheorem proves that `shape` finishes and stops exactly so.
use Rattle.std.specs.Prelude.{◌≡◌, ◌↔◌, ℕ, ◌+◌, ◌≤◌, ◌<◌, List, [], ◌∷◌, ◌++◌}
use Rattle.spec.specs.Outcome.{ok}
use Rattle.spec.specs.Refusal.{wrong_shape, too_many_operations, malformed_pointer, move_into_child}
use Rattle.spec.specs.Limits.{max_operations}
use Rattle.spec.specs.Bytes.{Text, ascii}
use Rattle.spec.specs.Forest.{none, tree, count, ◌⧺◌}
use Rattle.spec.specs.Value as Value
use Rattle.spec.specs.Value.{Label, Entry, Members, leaf}
use Rattle.spec.specs.Pointer.{Tokens, tokens}
use Rattle.spec.specs.Operation.{Kind, Operation}
use Rattle.spec.specs.Patch.{OperationMembers, Stop, finished, stopped, shape}
use Rattle.spec.specs.Effects.{Without, node}

-- SPECIFICATION 4.2: `op` is one of add, remove, replace, move, copy, test.
pub data Spells : Text → Kind → Type 0 where
  add : Spells (ascii "add") Kind.add
  remove : Spells (ascii "remove") Kind.remove
  replace : Spells (ascii "replace") Kind.replace
  move : Spells (ascii "move") Kind.move
  copy : Spells (ascii "copy") Kind.copy
  test : Spells (ascii "test") Kind.test

-- an object has a member so named; "Other members are ignored, of any type."
pub data Has (name : Text) (v x : Value.Value) : Type 0 where
  has : (before after : Members) → v.label ≡ Label.object → v.kids ≡ before ⧺ node name x after → Without name before → Has name v x

-- and it is a string
pub data HasString (name : Text) (v : Value.Value) (cs : Text) : Type 0 where
  has-string : {x : Value.Value} → Has name v x → x.label ≡ Label.string cs → HasString name v cs

-- add, replace and test have `value`; where it is not used, null stands for it
pub data ValueOf (v : Value.Value) : Kind → Value.Value → Type 0 where
  add : {x : Value.Value} → Has (ascii "value") v x → ValueOf v Kind.add x
  replace : {x : Value.Value} → Has (ascii "value") v x → ValueOf v Kind.replace x
  test : {x : Value.Value} → Has (ascii "value") v x → ValueOf v Kind.test x
  remove : ValueOf v Kind.remove (leaf Label.null_literal)
  move : ValueOf v Kind.move (leaf Label.null_literal)
  copy : ValueOf v Kind.copy (leaf Label.null_literal)

-- move and copy have `from`, a string; where it is not used, the empty text stands for it
pub data FromOf (v : Value.Value) : Kind → Text → Type 0 where
  move : {cs : Text} → HasString (ascii "from") v cs → FromOf v Kind.move cs
  copy : {cs : Text} → HasString (ascii "from") v cs → FromOf v Kind.copy cs
  add : FromOf v Kind.add []
  remove : FromOf v Kind.remove []
  replace : FromOf v Kind.replace []
  test : FromOf v Kind.test []

-- SPECIFICATION 4.2: an object, with `op`, a `path` that is a string, and what the operation uses.
pub record HasMembers (v : Value.Value) (m : OperationMembers) : Type 0 where
  pub object : v.label ≡ Label.object
  pub op : Text
  pub op-member : HasString (ascii "op") v op
  pub spells : Spells op m.kind
  pub path-member : HasString (ascii "path") v m.path
  pub value_member_lem : ValueOf v m.kind m.value
  pub from_member : FromOf v m.kind m.from

-- the first tokens are a proper prefix of the second
pub record ProperPrefix (ts us : Tokens) : Type 0 where
  pub token : Text
  pub others : Tokens
  pub longer : us ≡ ts ++ (token ∷ others)

-- an element that is an operation
pub record IsOperation (v : Value.Value) (o : Operation) : Type 0 where
  pub members : OperationMembers
  pub has-members : HasMembers v members
  -- SPECIFICATION 4.3: `path` is a pointer, and `from` where used
  pub path : tokens members.path ≡ ok o.path
  pub from : tokens members.from ≡ ok o.from
  -- SPECIFICATION 4.4: "for `move`, the tokens of `from` are not a proper prefix of the tokens of `path`"
  pub not_into : members.kind ≡ Kind.move → ProperPrefix o.from o.path → ⊥
  pub kind : members.kind ≡ o.kind
  pub value : members.value ≡ o.value

-- `Wrong v n`: the element v is no operation, and n is the refusal.
pub data Wrong (v : Value.Value) : ℕ → Type 0 where
  -- not as SPECIFICATION 4.2 says: 8
  no-members : ((m : OperationMembers) → HasMembers v m → ⊥) → Wrong v wrong_shape
  -- not as SPECIFICATION 4.3 says: 10
  no_path : (m : OperationMembers) → HasMembers v m → ((ts : Tokens) → tokens m.path ≡ ok ts → ⊥) → Wrong v malformed_pointer
  no_from : (m : OperationMembers) → HasMembers v m → ((ts : Tokens) → tokens m.from ≡ ok ts → ⊥) → Wrong v malformed_pointer
  -- not as SPECIFICATION 4.4 says: 14
  into_child : (m : OperationMembers) (path from : Tokens) → HasMembers v m → tokens m.path ≡ ok path → tokens m.from ≡ ok from →
      m.kind ≡ Kind.move → ProperPrefix from path → Wrong v move_into_child

abbrev pub element_of : Entry → Members → Value.Value
element_of e kids = record { label = e.label; kids = kids }

pub data AreOperations : Members → List Operation → Type 0 where
  no_element : AreOperations none []
  element : {e : Entry} {kids rest : Members} {o : Operation} {os : List Operation} → IsOperation (element_of e kids) o → AreOperations rest os →
      AreOperations (tree e kids rest) (o ∷ os)

-- SPECIFICATION 4.1: an array of at most 256 elements, and each of them an operation.
pub record IsPatch (v : Value.Value) (os : List Operation) : Type 0 where
  pub array : v.label ≡ Label.array
  pub few : count v.kids ≤ max_operations
  pub elements : AreOperations v.kids os

-- the first element that is no operation, its refusal and its op; the elements are counted from op on
pub data FirstWrong : ℕ → Members → ℕ → ℕ → Type 0 where
  here : {op n : ℕ} {e : Entry} {kids rest : Members} → Wrong (element_of e kids) n → FirstWrong op (tree e kids rest) n op
  later : {op n end : ℕ} {e : Entry} {kids rest : Members} (o : Operation) → IsOperation (element_of e kids) o → FirstWrong (op + 1) rest n end →
      FirstWrong op (tree e kids rest) n end

pub data NoPatch (v : Value.Value) : ℕ → ℕ → Type 0 where
  not-array : (v.label ≡ Label.array → ⊥) → NoPatch v wrong_shape 0
  too_many : v.label ≡ Label.array → max_operations < count v.kids → NoPatch v too_many_operations 0
  wrong_element : {n op : ℕ} → v.label ≡ Label.array → count v.kids ≤ max_operations → FirstWrong 1 v.kids n op → NoPatch v n op

pub record ShapeStatement : Type 0 where
  pub right : (v : Value.Value) (os : List Operation) → shape v ≡ finished os ↔ IsPatch v os
  -- with no place and no pointer
  pub wrong : (v : Value.Value) (s : Stop) → shape v ≡ stopped s ↔ (NoPatch v s.number s.op × (s.place ≡ 0) × (s.pointer ≡ 0))
