-- Laws of answers, step by step as an operation's members are looked at.
use Prim.Native.Nat.{ℕ}
use Rattle.std.specs.Prelude.{Option, Some, None, Ok, Err}
use Rattle.std.specs.Option.{is_some}
use native.Mathlib.Omega.{arith}
use mathlib.Core.Path.{◌≡◌, refl, sym, ap, ◌∙◌}
use mathlib.Core.Bool.{Bool, true, false, true≢false}
use mathlib.Core.List.{[]}
use lib.Dec.{eqb}
use lib.ListN.{get_or}
use borrow.Author.Tests.{eq-eqb, ne_eqb}
use Rattle.spec.specs.Outcome.{Outcome, ok, refused, ◌>>=◌, require}
use Rattle.spec.specs.Refusal.{wrong_shape}
use Rattle.spec.specs.Fault.{number_of}
use Rattle.spec.specs.declared.refusal.Refusal.{Refusal}
use Rattle.spec.specs.Bytes.{Bytes, Text, ascii}
use Rattle.spec.specs.Forest.{Forest}
use Rattle.spec.specs.Value as Value
use Rattle.spec.specs.Value.{is_object}
use Rattle.spec.specs.Operation as Operation
use Rattle.spec.specs.Pointer.{tokens}
use Rattle.spec.specs.Patch.{member, string_member, kind_named, uses_value, uses_from, is_move}
use Rattle.spec.specs.Patch.{OperationMembers, value_for, from_for, members_for, operation_members, with_pointers, operation}
use Rattle.spec.proofs.OutcomeLaws.{>>=_assoc}
use Rattle.text.specs.Decode.{decode}
use Rattle.pointer.specs.Tokens.{accepted}
use Rattle.pointer.specs.Prefix.{PrefixOf}
use Rattle.pointer.proofs.AcceptLaws.{accepted_ok, not_accepted}
use Rattle.tape.specs.Fields as Fields
use Rattle.tape.specs.declared.fields.Spelling.{Spelling}
use Rattle.tape.specs.declared.fields.Cell.{Cell}
use Rattle.tape.proofs.Cells.{formed_fit}
use Rattle.tape.proofs.Rows.{kind_here}
use Rattle.tape.proofs.Held.{held_node}
use Rattle.table.specs.Meaning.{part_of, spelled, meant}
use Rattle.table.specs.Sound.{NodeHeld}
use Rattle.table.proofs.MeaningLaws.{is_object_label}
use Rattle.shape.specs.Kinds.{kind_outcome}
use Rattle.shape.specs.Members.{Sought, text_outcome, TextIs, StringIs}
use Rattle.shape.specs.Operation as OperationNumber
use Rattle.shape.specs.Operation.{Verdict, Answers, right, wrong, kind_of, KindRows, no-object, object, KindIs, OthersAre, MembersAre}
use Rattle.shape.specs.declared.kinds.Kind.{Kind}
use Rattle.shape.proofs.MemberLaws.{sought_missing, sought_at}
use Rattle.tape.specs.Lent.{Texts, Table}

-- what an answer tells of the outcome, once it is known
pub answers_ok : {A : Type 0} {o : Outcome A} {r : Verdict} → Answers o r → r ≡ Ok tt → (a : A) × (o ≡ ok a)
answers_ok (right a) e = (a, refl)
answers_ok (wrong x) e = absurd (let z : ◌≡◌ {A = ℕ} 0 1 = cc in omega arith)

pub answers_refused : {A : Type 0} {o : Outcome A} {r : Verdict} {x : Refusal} → Answers o r → r ≡ Err x → o ≡ refused (number_of x) 0
answers_refused (right a) e = absurd (let z : ◌≡◌ {A = ℕ} 0 1 = cc in omega arith)
answers_refused {x = x} (wrong y) e = let same : y ≡ x = cc in ap (λ y. refused (number_of y) 0) same

-- ---- a text that is known
module _ {T : Texts} {t : Outcome Text} {r : Option Spelling} (is : TextIs T t r) where
  pub text_refused : r ≡ None → t ≡ refused wrong_shape 0
  unfolding text_outcome
  text_refused e = sym is.text ∙ ap (text_outcome (spelled T)) e

  module _ (s : Spelling) (e : r ≡ Some s) where
    pub text_spelled : t ≡ ok (spelled T s)
    unfolding text_outcome
    text_spelled = sym is.text ∙ ap (text_outcome (spelled T)) e

    pub text_decoded : t ≡ ok (decode (part_of T s))
    unfolding text_outcome
    text_decoded = sym is.decoded ∙ ap (text_outcome (λ s. decode (part_of T s))) e

-- ---- the kind, of an object and of nothing else
module _ {w : Table} {row : ℕ} {c : Cell} {kids : Forest Cell} (n : NodeHeld w row c kids) where
  object-here : is_object (meant w.texts c kids).label ≡ eqb (Fields.kind_of (get_or w.nodes row [])) 6
  object-here =
      is_object_label w.texts c.kind c.value (formed_fit n.held.formed).kind ∙ ap (λ k. eqb k 6) (sym (kind_here (held_node n.held)))

  other_kind : (Fields.kind_of (get_or w.nodes row []) ≡ 6 → ⊥) → kind_of (meant w.texts c kids) ≡ refused wrong_shape 0
  unfolding kind_of require ◌>>=◌
  other_kind d = rw (object-here, ne_eqb _ 6 d)

  object-op : Fields.kind_of (get_or w.nodes row []) ≡ 6
      → kind_of (meant w.texts c kids) ≡ string_member (ascii "op") (meant w.texts c kids) >>= kind_named
  unfolding kind_of require ◌>>=◌
  object-op e = rw (object-here, eq-eqb _ 6 e)

-- each way out of `kind_of`
module _ {w : Table} {row : ℕ} where
  kind_is : {r : Option Kind} → KindRows w row r → KindIs w row r
  kind_is {r} rows = record { rows = rows; held = λ c kids n. go rows n }
    where
      go : {c : Cell} {kids : Forest Cell} → KindRows w row r → NodeHeld w row c kids → kind_outcome r ≡ kind_of (meant w.texts c kids)
      go (no-object d e) n = e ∙ sym (other_kind n d)
      go (object k s e) n = e ∙ ap (λ t. t >>= kind_named) (s.held _ _ n).text ∙ sym (object-op n k)

  pub kind_other : (Fields.kind_of (get_or w.nodes row []) ≡ 6 → ⊥) → KindIs w row None
  unfolding kind_outcome
  kind_other d = kind_is (no-object d refl)

  module _ (k : Fields.kind_of (get_or w.nodes row []) ≡ 6) {op : Option Spelling} (s : StringIs w row (ascii "op") op) where
    pub op_refused : op ≡ None → KindIs w row None
    unfolding kind_outcome text_outcome ◌>>=◌
    op_refused e = kind_is (object k s (rw e))

    pub op_spelled : (t : Spelling) → op ≡ Some t → {r : Option Kind} → kind_outcome r ≡ kind_named (spelled w.texts t) → KindIs w row r
    unfolding text_outcome ◌>>=◌
    op_spelled t e is = kind_is (object k s (rw e is))

-- ---- the value
none_from : (m : Option ℕ) → is_some m ≡ false → m ≡ None
none_from None e = refl
none_from (Some at) e = absurd (true≢false e)

some_from : (m : Option ℕ) → is_some m ≡ true → (at : ℕ) × (m ≡ Some at)
some_from None e = absurd (true≢false (sym e))
some_from (Some at) e = (at, refl)

module _ (k : Operation.Kind) (v : Value.Value) where
  pub value-unused : uses_value k ≡ false → Answers (value_for k v) (Ok tt)
  unfolding value_for
  value-unused e = rw e (right _)

  module _ {w : Table} {row : ℕ} {value : Option ℕ} (used : uses_value k ≡ true) (s : Sought w row (ascii "value") v value) where
    value-is : value_for k v ≡ member (ascii "value") v
    unfolding value_for
    value-is = rw used

    pub value-missing : is_some value ≡ false → Answers (value_for k v) (Err Refusal.WrongShape)
    unfolding number_of
    value-missing e = rw (value-is, sought_missing (none_from value e) s) (wrong Refusal.WrongShape)

    pub value_there : is_some value ≡ true → Answers (value_for k v) (Ok tt)
    value_there e =
        let (at, there) = some_from value e in
        let (c, kids, l, few, n, is) = sought_at at there s in
        rw (value-is, is) (right _)

  -- ---- `from`: where it is not used, the empty text
  pub from_none : uses_from k ≡ false → from_for k v ≡ ok []
  unfolding from_for
  from_none e = rw e

  pub from_text : {T : Texts} {r : Option Spelling} → uses_from k ≡ true → TextIs T (string_member (ascii "from") v) r → TextIs T (from_for k v) r
  unfolding from_for
  from_text e is = rw e is

-- ---- the pointers
-- a part that is and that is not a pointer, as the code tests it
module _ {s part : Bytes} {r : Bool} (at : s ≡ part) (is : r ≡ accepted (tokens (decode s))) where
  pub pointer_is : (b : Bool) → r ≡ b → accepted (tokens (decode part)) ≡ b
  pointer_is b e = ap (λ t. accepted (tokens (decode t))) (sym at) ∙ sym is ∙ e

pub prefix_is : {s part t other : Bytes} {r : Bool} → s ≡ part → t ≡ other → PrefixOf (tokens (decode s)) (tokens (decode t)) r
    → (b : Bool) → r ≡ b → PrefixOf (tokens (decode part)) (tokens (decode other)) b
prefix_is {s} {part} {t} {other} {r} e f is b g = rw (← e, ← f, ← g) is

module _ (m : OperationMembers) where
  pub path_malformed : accepted (tokens m.path) ≡ false → Answers (with_pointers m) (Err Refusal.MalformedPointer)
  unfolding with_pointers ◌>>=◌ number_of
  path_malformed e = rw (not_accepted m.path e) (wrong Refusal.MalformedPointer)

  module _ (path : accepted (tokens m.path) ≡ true) where
    pub from_malformed : accepted (tokens m.from) ≡ false → Answers (with_pointers m) (Err Refusal.MalformedPointer)
    unfolding with_pointers ◌>>=◌ number_of
    from_malformed e = let (us, p) = accepted_ok _ path in rw (p, not_accepted m.from e) (wrong Refusal.MalformedPointer)

    module _ (from : accepted (tokens m.from) ≡ true) where
      pub no_move : is_move m.kind ≡ false → Answers (with_pointers m) (Ok tt)
      unfolding with_pointers ◌>>=◌ number_of require
      no_move e = let (us, p) = accepted_ok _ path in let (ts, f) = accepted_ok _ from in rw (p, f, e) (right _)

      module _ (moves : is_move m.kind ≡ true) where
        pub into_child : PrefixOf (tokens m.from) (tokens m.path) true → Answers (with_pointers m) (Err Refusal.MoveIntoChild)
        unfolding with_pointers ◌>>=◌ number_of require
        into_child is =
            let (us, p) = accepted_ok _ path in
            let (ts, f) = accepted_ok _ from in
            rw (p, f, moves, ← is.right ts us f p) (wrong Refusal.MoveIntoChild)

        pub not_into_child : PrefixOf (tokens m.from) (tokens m.path) false → Answers (with_pointers m) (Ok tt)
        unfolding with_pointers ◌>>=◌ number_of require
        not_into_child is =
            let (us, p) = accepted_ok _ path in
            let (ts, f) = accepted_ok _ from in
            rw (p, f, moves, ← is.right ts us f p) (right _)

-- a path alone: no operation without `from` moves
no_from_no_move : (k : Operation.Kind) → uses_from k ≡ false → is_move k ≡ false
unfolding uses_from is_move
no_from_no_move Operation.add e = refl
no_from_no_move Operation.remove e = refl
no_from_no_move Operation.replace e = refl
no_from_no_move Operation.move e = e
no_from_no_move Operation.copy e = refl
no_from_no_move Operation.test e = refl

pub path_alone : (k : Operation.Kind) (path : Text) (value : Value.Value) → uses_from k ≡ false → accepted (tokens path) ≡ true
    → Answers (with_pointers (record { kind = k; path = path; from = []; value = value })) (Ok tt)
unfolding accepted tokens
path_alone k path value e is = no_move _ is refl (no_from_no_move k e)

-- ---- all members of an operation of a kind
module _ (k : Operation.Kind) (v : Value.Value) where
  pub path_missing : string_member (ascii "path") v ≡ refused wrong_shape 0 → Answers (members_for k v >>= with_pointers) (Err Refusal.WrongShape)
  unfolding members_for ◌>>=◌ number_of
  path_missing e = rw e (wrong Refusal.WrongShape)

  module _ {path : Text} (p : string_member (ascii "path") v ≡ ok path) {verdict : Verdict} (value : Answers (value_for k v) verdict) where
    pub value-refused : {x : Refusal} → verdict ≡ Err x → Answers (members_for k v >>= with_pointers) (Err x)
    unfolding members_for ◌>>=◌
    value-refused {x} d = rw (p, answers_refused value d) (wrong x)

    module _ (fine : verdict ≡ Ok tt) where
      pub from_missing : from_for k v ≡ refused wrong_shape 0 → Answers (members_for k v >>= with_pointers) (Err Refusal.WrongShape)
      unfolding members_for ◌>>=◌ number_of
      from_missing f = let (w, e) = answers_ok value fine in rw (p, e, f) (wrong Refusal.WrongShape)

      pub members-there : {from : Text} → from_for k v ≡ ok from → {r : Verdict}
          → ((w : Value.Value) → Answers (with_pointers (record { kind = k; path = path; from = from; value = w })) r)
          → Answers (members_for k v >>= with_pointers) r
      unfolding members_for ◌>>=◌
      members-there f next = let (w, e) = answers_ok value fine in rw (p, e, f) (next w)

-- ---- an operation: its kind, and then the rest
module _ (v : Value.Value) where
  pub operation_kind : operation v ≡ (kind_of v >>= λ k. members_for k v >>= with_pointers)
  unfolding operation operation_members kind_of
  operation_kind = simp >>=_assoc

  pub kind_refused : {o : Outcome Operation.Kind} → o ≡ kind_of v → o ≡ refused wrong_shape 0 → Answers (operation v) (Err Refusal.WrongShape)
  unfolding ◌>>=◌ number_of
  kind_refused is e = rw (operation_kind, ← is, e) (wrong Refusal.WrongShape)

  pub kind_known : {o : Outcome Operation.Kind} {k : Operation.Kind} {r : Verdict} → o ≡ kind_of v → o ≡ ok k
      → Answers (members_for k v >>= with_pointers) r → Answers (operation v) r
  unfolding ◌>>=◌
  kind_known is e rest = rw (operation_kind, ← is, e) rest

-- ---- the members of an operation, each way out of `members_right`
module _ {w : Table} {row : ℕ} {kind : Kind} {path : Option Spelling} (is : StringIs w row (ascii "path") path) where
  pub members-no_path : path ≡ None → MembersAre w row kind (Err Refusal.WrongShape)
  members-no_path e = record { number = OperationNumber.shape; held = λ c kids n. path_missing _ _ (text_refused (is.held c kids n) e) }

  pub members-others : (s : Spelling) → path ≡ Some s → {r : Verdict} → OthersAre w row (Some kind) s r → MembersAre w row kind r
  members-others s e others =
      record { number = others.number; held = λ c kids n. others.held _ refl c kids n (text_decoded (is.held c kids n) s e) }
