-- Laws of an element of the patch that is an operation: what it says.
use mathlib.Core.Path.{◌≡◌, ap, sym, ◌∙◌}
use mathlib.Core.Bool.{true, not, ◌&&◌}
use Rattle.spec.specs.Outcome.{ok, require}
use Rattle.spec.specs.Refusal.{move_into_child}
use Rattle.spec.specs.Bytes.{Text, ascii}
use Rattle.spec.specs.Value as Value
use Rattle.spec.specs.Pointer.{tokens}
use Rattle.spec.specs.Operation as Operation
use Rattle.spec.specs.Patch.{member, string_member, uses_value, uses_from, is_move, OperationMembers, value_for, from_for, members_for}
use Rattle.spec.specs.Patch.{proper_prefix, with_pointers, operation}
use Rattle.spec.proofs.OutcomeLaws.{both_ok}
use Rattle.shape.specs.Operation.{kind_of}
use Rattle.shape.proofs.AnswerLaws.{operation_kind}

-- its members, as the definition finds them
pub record Told (v : Value.Value) (o : Operation.Operation) : Type 0 where
  pub kind : kind_of v ≡ ok o.kind
  pub path : Text
  pub path_there : string_member (ascii "path") v ≡ ok path
  pub path_is : tokens path ≡ ok o.path
  pub value : uses_value o.kind ≡ true → member (ascii "value") v ≡ ok o.value
  pub from : Text
  pub from_there : uses_from o.kind ≡ true → string_member (ascii "from") v ≡ ok from
  pub from_is : tokens from ≡ ok o.from

-- ---- step by step
-- behind its kind, the members that this kind uses
module _ (k : Operation.Kind) (v : Value.Value) where
  value-used : {w : Value.Value} → value_for k v ≡ ok w → uses_value k ≡ true → member (ascii "value") v ≡ ok w
  unfolding value_for
  value-used e uses = rw uses at e

  from_used : {t : Text} → from_for k v ≡ ok t → uses_from k ≡ true → string_member (ascii "from") v ≡ ok t
  unfolding from_for
  from_used e uses = rw uses at e

  record MembersTold (m : OperationMembers) : Type 0 where
    kind : k ≡ m.kind
    path : string_member (ascii "path") v ≡ ok m.path
    value : value_for k v ≡ ok m.value
    from : from_for k v ≡ ok m.from

  told-members : (m : OperationMembers) → members_for k v ≡ ok m → MembersTold m
  unfolding members_for
  told-members m e =
      let (p, path_is, e₁) = both_ok (string_member (ascii "path") v) _ m e in
      let (w, value-is, e₂) = both_ok (value_for k v) _ m e₁ in
      let (f, from_is, e₃) = both_ok (from_for k v) _ m e₂ in
      let same : record { kind = k; path = p; from = f; value = w } ≡ m = cc in
      record {
        kind = ap (λ m. m.kind) same;
        path = path_is ∙ ap (λ m. ok m.path) same;
        value = value-is ∙ ap (λ m. ok m.value) same;
        from = from_is ∙ ap (λ m. ok m.from) same;
      }

-- and then its pointers
record PointersTold (m : OperationMembers) (o : Operation.Operation) : Type 0 where
  kind : m.kind ≡ o.kind
  value : m.value ≡ o.value
  path : tokens m.path ≡ ok o.path
  from : tokens m.from ≡ ok o.from

told_pointers : (m : OperationMembers) (o : Operation.Operation) → with_pointers m ≡ ok o → PointersTold m o
unfolding with_pointers
told_pointers m o e =
    let (p, path_is, e₁) = both_ok (tokens m.path) _ o e in
    let (f, from_is, e₂) = both_ok (tokens m.from) _ o e₁ in
    let (u, moves, e₃) = both_ok (require move_into_child (not (is_move m.kind && proper_prefix f p))) _ o e₂ in
    let same : record { kind = m.kind; path = p; from = f; value = m.value } ≡ o = cc in
    record {
      kind = ap (λ o. o.kind) same;
      value = ap (λ o. o.value) same;
      path = path_is ∙ ap (λ o. ok o.path) same;
      from = from_is ∙ ap (λ o. ok o.from) same;
    }

-- all of them
pub told : (v : Value.Value) (o : Operation.Operation) → operation v ≡ ok o → Told v o
told v o e =
    let (k, kind_is, e₁) = both_ok (kind_of v) _ o (sym (operation_kind v) ∙ e) in
    let (m, members-are, e₂) = both_ok (members_for k v) with_pointers o e₁ in
    let ms = told-members k v m members-are in
    let ps = told_pointers m o e₂ in
    let same : k ≡ o.kind = ms.kind ∙ ps.kind in
    record {
      kind = kind_is ∙ ap ok same;
      path = m.path;
      path_there = ms.path;
      path_is = ps.path;
      value = λ uses. value-used k v ms.value (ap uses_value same ∙ uses) ∙ ap ok ps.value;
      from = m.from;
      from_there = λ uses. from_used k v ms.from (ap uses_from same ∙ uses);
      from_is = ps.from;
    }
