-- Laws of the shape with the rule, each for one way out of a function.
use Prim.Native.Nat.{ℕ, ◌+◌, ◌≤◌, ◌<◌}
use native.Mathlib.Omega.{arith}
use mathlib.Core.Path.{◌≡◌, refl, sym, ap, ◌∙◌, subst}
use mathlib.Core.Bool.{Bool, true, false, ◌&&◌, not}
use mathlib.Core.List.{[], ◌∷◌}
use lib.ListN.{length, get_or}
use Rattle.std.specs.Prelude.{Option, Some, None, Ok, Err, ◌⊎◌}
use Rattle.std.proofs.Common.{inl, inr}
use borrow.Author.Tests.{eq-eqb, ne_eqb, le-leb, lt-leb}
use Rattle.spec.specs.Outcome.{ok, refused, require}
use Rattle.spec.specs.Refusal.{move_into_child, not_permitted}
use Rattle.spec.specs.Fault.{number_of}
use Rattle.spec.specs.declared.refusal.Refusal.{Refusal}
use Rattle.spec.specs.Bytes.{Bytes, Text, ascii}
use Rattle.spec.specs.Forest.{Forest, none, tree, count}
use Rattle.spec.specs.Value as Value
use Rattle.spec.specs.Value.{is_array}
use Rattle.spec.specs.Pointer.{Tokens, tokens}
use Rattle.spec.specs.Operation as Operation
use Rattle.spec.specs.Patch.{string_member, is_move, OperationMembers, value_for, from_for, members_for, proper_prefix, with_pointers, operation}
use Rattle.spec.specs.Patch.{stop, finished, stopped, at_op, no_pointer, on_finish}
use Rattle.spec.proofs.OutcomeLaws.{both_ok}
use Rattle.text.specs.Decode.{decode}
use Rattle.pointer.specs.Prefix.{PrefixOf}
use Rattle.tape.specs.Fields.{kind_of}
use Rattle.tape.specs.declared.fields.Cell.{Cell}
use Rattle.tape.specs.declared.fields.Spelling.{Spelling}
use Rattle.tape.specs.Rows.{end_of, ArityIs}
use Rattle.tape.specs.Map.{map_forest}
use Rattle.tape.specs.Lent.{Texts, Table}
use Rattle.tape.proofs.Forests.{size_none}
use Rattle.tape.proofs.Rows.{inside_here, no_node}
use Rattle.tape.proofs.Held.{held_node}
use Rattle.table.specs.Meaning.{part_of, members, meant}
use Rattle.table.specs.Sound.{NodeHeld, RowsHeld}
use Rattle.shape.specs.Kinds.{spec_kind, kind_outcome}
use Rattle.shape.specs.Members.{ForMeant, StringIs}
use Rattle.shape.specs.Operation as Shapes
use Rattle.shape.specs.Operation.{Verdict, Answers, OperationNumber, KindIs, MembersAre}
use Rattle.shape.specs.Patch.{Shape, ShapeIs}
use Rattle.shape.specs.Patch as Patch
use Rattle.shape.specs.declared.kinds.Kind.{Kind}
use Rattle.shape.proofs.AnswerLaws.{answers_ok, answers_refused, text_decoded, operation_kind, kind_refused, kind_known}
use Rattle.shape.proofs.RunLaws.{rows_children, rows-first, first-node, rows_next, one_more, array-here, counted}
use Rattle.region.specs.Rule.{is_makers, is_test, kind_permitted, permitted, operation_within, operations_within, elements_within, shape_within}
use Rattle.region.specs.Answer.{region_tokens}
use Rattle.region.specs.Within as Within
use Rattle.region.specs.Within.{ElementNumber, ForRegion, ElementIs, ElementsAre, PatchWithinIs}
use Rattle.region.proofs.RuleLaws.{within_ok, within-broken, within_refused}

-- ---- the kind that an operation may be of
module _ (op : ℕ) (kind : Kind) where
  pub first-test : op ≡ 1 → kind ≡ Kind.Test → true ≡ kind_permitted op (spec_kind kind)
  unfolding kind_permitted is_test spec_kind
  first-test e t = rw (eq-eqb op 1 e, t)

  pub first-other : op ≡ 1 → (kind ≡ Kind.Test → ⊥) → false ≡ kind_permitted op (spec_kind kind)
  unfolding kind_permitted is_test spec_kind
  first-other e n = rw (eq-eqb op 1 e) (go kind n)
    where
      go : (k : Kind) → (k ≡ Kind.Test → ⊥) → false ≡ is_test (spec_kind k)
      go Kind.Add n = refl
      go Kind.Remove n = refl
      go Kind.Replace n = refl
      go Kind.Move n = refl
      go Kind.Copy n = refl
      go Kind.Test n = absurd (n refl)

  pub later-makers : (op ≡ 1 → ⊥) → (kind ≡ Kind.Add) ⊎ ((kind ≡ Kind.Replace) ⊎ (kind ≡ Kind.Test)) → true ≡ kind_permitted op (spec_kind kind)
  unfolding kind_permitted is_makers spec_kind
  later-makers d (inl a) = rw (ne_eqb op 1 d, a)
  later-makers d (inr (inl r)) = rw (ne_eqb op 1 d, r)
  later-makers d (inr (inr t)) = rw (ne_eqb op 1 d, t)

  pub later-other : (op ≡ 1 → ⊥) → (kind ≡ Kind.Add → ⊥) → (kind ≡ Kind.Replace → ⊥) → (kind ≡ Kind.Test → ⊥)
      → false ≡ kind_permitted op (spec_kind kind)
  unfolding kind_permitted is_makers spec_kind
  later-other d a r t = rw (ne_eqb op 1 d) (go kind a r t)
    where
      go : (k : Kind) → (k ≡ Kind.Add → ⊥) → (k ≡ Kind.Replace → ⊥) → (k ≡ Kind.Test → ⊥) → false ≡ is_makers (spec_kind k)
      go Kind.Add a r t = absurd (a refl)
      go Kind.Remove a r t = refl
      go Kind.Replace a r t = absurd (r refl)
      go Kind.Move a r t = refl
      go Kind.Copy a r t = refl
      go Kind.Test a r t = absurd (t refl)

-- ---- what an operation says: its kind, and its path
record Said (v : Value.Value) (o : Operation.Operation) : Type 0 where
  kind : Shapes.kind_of v ≡ ok o.kind
  path : Text
  there : string_member (ascii "path") v ≡ ok path
  tokens_are : tokens path ≡ ok o.path

said-members : (k : Operation.Kind) (v : Value.Value) (m : OperationMembers) → members_for k v ≡ ok m → (k ≡ m.kind) × (string_member (ascii "path") v
    ≡ ok m.path)
unfolding members_for
said-members k v m e =
    let (p, there, e₁) = both_ok (string_member (ascii "path") v) _ m e in
    let (w, value-is, e₂) = both_ok (value_for k v) _ m e₁ in
    let (f, from_is, e₃) = both_ok (from_for k v) _ m e₂ in
    let same : record { kind = k; path = p; from = f; value = w } ≡ m = cc in
    (ap (λ m. m.kind) same, there ∙ ap (λ m. ok m.path) same)

said_pointers : (m : OperationMembers) (o : Operation.Operation) → with_pointers m ≡ ok o → (m.kind ≡ o.kind) × (tokens m.path ≡ ok o.path)
unfolding with_pointers
said_pointers m o e =
    let (p, path_is, e₁) = both_ok (tokens m.path) _ o e in
    let (f, from_is, e₂) = both_ok (tokens m.from) _ o e₁ in
    let (u, moves, e₃) = both_ok (require move_into_child (not (is_move m.kind && proper_prefix f p))) _ o e₂ in
    let same : record { kind = m.kind; path = p; from = f; value = m.value } ≡ o = cc in
    (ap (λ o. o.kind) same, path_is ∙ ap (λ o. ok o.path) same)

said : (v : Value.Value) (o : Operation.Operation) → operation v ≡ ok o → Said v o
said v o e =
    let (k, kind_is, e₁) = both_ok (Shapes.kind_of v) _ o (sym (operation_kind v) ∙ e) in
    let (m, members-are, e₂) = both_ok (members_for k v) with_pointers o e₁ in
    let (one, there) = said-members k v m members-are in
    let (two, path_is) = said_pointers m o e₂ in
    record { kind = kind_is ∙ ap ok (one ∙ two); path = m.path; there = there; tokens_are = path_is }

-- ---- the path: whether it begins with the region's tokens and has one more at least
pub record PathIs (w : Table) (row : ℕ) (region : Bytes) (r : Bool) : Type 0 where
  pub held : ForRegion region λ R. ForMeant w row λ v. (o : Operation.Operation) → operation v ≡ ok o → r ≡ proper_prefix R o.path

module _ {w : Table} {row : ℕ} {region : Bytes} {path : Option Spelling} (is : StringIs w row (ascii "path") path) where
  pub path_judged : (s : Spelling) → path ≡ Some s → {bytes : Bytes} → bytes ≡ part_of w.texts s
      → {r : Bool} → PrefixOf (region_tokens region) (tokens (decode bytes)) r → PathIs w row region r
  path_judged s e {bytes} b judged =
      record {
        held = λ R q c kids n o h.
            let same : ok (said _ o h).path ≡ ok (decode (part_of w.texts s)) = sym (said _ o h).there ∙ text_decoded (is.held c kids n) s e in
            let it : (said _ o h).path ≡ decode (part_of w.texts s) = cc in
            judged.right R o.path q (ap (λ t. tokens (decode t)) b ∙ ap tokens (sym it) ∙ (said _ o h).tokens_are);
      }

-- ---- one element, each way out of `element_right`

-- a refusal of an operation is one of a maker's operation
within_wrong : (R : Tokens) (op : ℕ) (v : Value.Value) {r : Verdict} {x : Refusal} → Answers (operation v) r → r ≡ Err x
    → Answers (operation_within R op v) (Err x)
within_wrong R op v {x = x} a d = rw (within_refused R op v (answers_refused a d)) (Shapes.wrong x)

module _ {w : Table} {row : ℕ} (op : ℕ) {found : Option Kind} (is : KindIs w row found) where
  pub element_unknown : {region : Bytes} → found ≡ None → ElementIs w row op region (Err Refusal.WrongShape)
  unfolding kind_outcome
  element_unknown e =
      record {
        number = Within.shape Shapes.shape;
        held = λ R q c kids n. within_wrong R op _ (kind_refused _ (is.held c kids n) (ap kind_outcome e)) refl;
      }

  module _ {kind : Kind} (known : found ≡ Some kind) {r : Verdict} (ms : MembersAre w row kind r) where
    known_as : kind_outcome found ≡ ok (spec_kind kind)
    unfolding kind_outcome
    known_as = ap kind_outcome known

    operation-told : {c : Cell} {kids : Forest Cell} → NodeHeld w row c kids → Answers (operation (meant w.texts c kids)) r
    operation-told {c} {kids} h = kind_known _ (is.held c kids h) known_as (ms.held c kids h)

    pub element_malformed : {region : Bytes} {x : Refusal} → r ≡ Err x → ElementIs w row op region (Err x)
    element_malformed d =
        record { number = Within.shape (subst OperationNumber d ms.number); held = λ R q c kids h. within_wrong R op _ (operation-told h) d }

    module _ (fine : r ≡ Ok tt) where
      -- it is an operation of that kind
      told-operation : {c : Cell} {kids : Forest Cell} → NodeHeld w row c kids
          → (o : Operation.Operation) × (operation (meant w.texts c kids) ≡ ok o) × (spec_kind kind ≡ o.kind)
      told-operation {c} {kids} h =
          let (o, e) = answers_ok (operation-told h) fine in
          let both : ok (spec_kind kind) ≡ ok o.kind = sym known_as ∙ is.held c kids h ∙ (said _ o e).kind in
          let same : spec_kind kind ≡ o.kind = cc in
          (o, e, same)

      module _ {may : Bool} (asked : may ≡ kind_permitted op (spec_kind kind)) where
        pub element_other : {region : Bytes} → may ≡ false → ElementIs w row op region (Err Refusal.NotPermitted)
        unfolding permitted number_of
        element_other e =
            record {
              number = Within.rule;
              held = λ R q c kids h.
                  let (o, is-it, same) = told-operation h in
                  let broken : permitted R op o ≡ false = rw (← same, ← asked, e) in
                  rw (within-broken R op _ is-it broken) (Shapes.wrong Refusal.NotPermitted);
            }

        module _ {region : Bytes} {inside : Bool} (path : PathIs w row region inside) (e : may ≡ true) where
          both_tests : (R : Tokens) (o : Operation.Operation) → spec_kind kind ≡ o.kind → inside ≡ proper_prefix R o.path → permitted R op o ≡ inside
          unfolding permitted
          both_tests R o same told = rw (← same, ← asked, e) (sym told)

          pub element_outside : inside ≡ false → ElementIs w row op region (Err Refusal.NotPermitted)
          unfolding number_of
          element_outside no-prefix =
              record {
                number = Within.rule;
                held = λ R q c kids h.
                    let (o, is-it, same) = told-operation h in
                    let broken = both_tests R o same (path.held R q c kids h o is-it) ∙ no-prefix in
                    rw (within-broken R op _ is-it broken) (Shapes.wrong Refusal.NotPermitted);
              }

          pub element_inside : inside ≡ true → ElementIs w row op region (Ok tt)
          element_inside prefix =
              record {
                number = Within.shape Shapes.nothing;
                held = λ R q c kids h.
                    let (o, is-it, same) = told-operation h in
                    let kept = both_tests R o same (path.held R q c kids h o is-it) ∙ prefix in
                    rw (within_ok R op _ is-it kept) (Shapes.right o);
              }

-- ---- the first of the elements
module _ (T : Texts) (R : Tokens) (op : ℕ) (c : Cell) (kids rest : Forest Cell) where
  first_refused : (n : ℕ) → operation_within R op (meant T c kids) ≡ refused n 0
      → operations_within R op (members T (tree c kids rest)) ≡ stopped (stop n op 0 0)
  unfolding operations_within map_forest at_op no_pointer on_finish
  first_refused n e = rw e

  first_right : {o : Operation.Operation} → operation_within R op (meant T c kids) ≡ ok o
      → operations_within R op (members T (tree c kids rest)) ≡ on_finish (operations_within R (op + 1) (members T rest)) (λ os. finished (o ∷ os))
  unfolding operations_within map_forest at_op on_finish
  first_right e = rw e

-- ---- the loop: `op` trees are passed, and the answer for those that are left is the answer for all
pub record Left (w : Table) (end row op : ℕ) (R : Tokens) (f : Forest Cell) : Type 0 where
  pub left : Forest Cell
  pub rows : RowsHeld w row end left
  pub whole : (r : Shape) → ShapeIs (operations_within R (op + 1) (members w.texts left)) r → ShapeIs (operations_within R 1 (members w.texts f)) r

-- in whatever region, of whatever trees the table holds
abbrev pub LeftAny : Table → ℕ → ℕ → Bytes → ℕ → ℕ → Type 0
LeftAny w start end region row op = ForRegion region λ R. (f : Forest Cell) → RowsHeld w start end f → Left w end row op R f

pub left_all : (w : Table) (start end : ℕ) (region : Bytes) → LeftAny w start end region start 0
left_all w start end region R q f h = record { left = f; rows = h; whole = λ r is. is }

module _ {w : Table} {start end row op : ℕ} {region : Bytes} (any : LeftAny w start end region row op) where
  pub left_none : end ≤ row → ElementsAre w start end region (Ok tt)
  unfolding operations_within map_forest
  left_none h =
      record {
        number = Within.all_right;
        held = λ R q f held.
            let l = any R q f held in
            let e : l.left ≡ none = size_none l.left (omega (arith, l.rows.ends)) in
            l.whole (Ok tt) (rw e (Patch.right []));
      }

  module _ (more : row < end) where
    -- the row is in the table
    pub left_inside : length w.nodes ≤ row → ElementsAre w start end region (Ok tt)
    left_inside h =
        record {
          number = Within.all_right;
          held = λ R q f held. rows-first (any R q f held).rows more (λ c kids rest e r. absurd (omega (arith, inside_here (held_node r.held))));
        }

    module _ {verdict : Verdict} (is : ElementIs w row (op + 1) region verdict) where
      pub left_refused : {x : Refusal} → verdict ≡ Err x → ElementsAre w start end region (Err (record { refusal = x; op = op + 1 }))
      left_refused {x} d =
          record {
            number = Within.one_wrong (subst ElementNumber d is.number);
            held = λ R q f held.
                let l = any R q f held in
                rows-first l.rows more
                (λ c kids rest e r.
                let refusal = answers_refused (is.held R q c kids (first-node r)) d in
                l.whole (Err (record { refusal = x; op = op + 1 }))
                (rw (e, first_refused w.texts R (op + 1) c kids rest (number_of x) refusal) (Patch.wrong (record { refusal = x; op = op + 1 }))));
          }

      pub left_next : verdict ≡ Ok tt → (next : ℕ) → next ≡ end_of w.nodes row → LeftAny w start end region next (op + 1)
      left_next fine next at R q f held =
          let l = any R q f held in
          rows-first l.rows more
          (λ c kids rest e r.
          let (o, result) = answers_ok (is.held R q c kids (first-node r)) fine in
          record {
            left = rest;
            rows = rows_next r next at;
            whole = λ s rest_is. l.whole s (rw (e, first_right w.texts R (op + 1) c kids rest result) (one_more o rest_is));
          })

-- ---- before the loop

-- there are elements
some-elements : (R : Tokens) (f : Value.Members) {n : ℕ} → count f ≡ n → (n ≡ 0 → ⊥) → elements_within R f ≡ operations_within R 1 f
unfolding elements_within count
some-elements R none e d = absurd (d (sym e))
some-elements R (tree x kids rest) e d = refl

no-elements : (R : Tokens) (f : Value.Members) {n : ℕ} → count f ≡ n → n ≡ 0 → elements_within R f ≡ stopped (stop not_permitted 0 0 0)
unfolding elements_within count
no-elements R none e z = refl
no-elements R (tree x kids rest) e z = absurd (omega arith)

-- each way out of `shape_within`
module _ {w : Table} {row : ℕ} (region : Bytes) where
  pub within-other : (kind_of (get_or w.nodes row []) ≡ 5 → ⊥) → PatchWithinIs w row region (Err (record { refusal = Refusal.WrongShape; op = 0 }))
  unfolding shape_within number_of
  within-other d = record { number = Within.no-array d; held = λ R q c kids n. rw (array-here n, ne_eqb _ 5 d) (Patch.wrong (record { refusal = Refusal.WrongShape; op = 0 })) }

  module _ (array : kind_of (get_or w.nodes row []) ≡ 5) where
    pub within_out : length w.nodes ≤ row → PatchWithinIs w row region (Ok tt)
    within_out h = record { number = Within.judged array Within.all_right; held = λ R q c kids n. no_node (held_node n.held) h }

    module _ {number : ℕ} (many : ArityIs w.nodes row number) where
      pub within_long : 256 < number → PatchWithinIs w row region (Err (record { refusal = Refusal.TooManyOperations; op = 0 }))
      unfolding shape_within number_of
      within_long h =
          record {
            number = Within.too_many;
            held = λ R q c kids n. rw (array-here n, eq-eqb _ 5 array, counted n many, lt-leb number 256 h) (Patch.wrong (record { refusal = Refusal.TooManyOperations; op = 0 }));
          }

      module _ (few : number ≤ 256) where
        pub within_empty : number ≡ 0 → PatchWithinIs w row region (Err (record { refusal = Refusal.NotPermitted; op = 0 }))
        unfolding shape_within number_of
        within_empty z =
            record {
              number = Within.no_operations;
              held = λ R q c kids n.
                  let none_so = no-elements R (members w.texts kids) (counted n many) z in
                  rw (array-here n, eq-eqb _ 5 array, counted n many, le-leb number 256 few, none_so) (Patch.wrong (record { refusal = Refusal.NotPermitted; op = 0 }));
            }

        pub within-elements : (number ≡ 0 → ⊥) → {end : ℕ} → end ≡ end_of w.nodes row → {text : Bytes} → text ≡ region → {r : Shape}
            → ElementsAre w (row + 1) end text r → PatchWithinIs w row region r
        unfolding shape_within
        within-elements d {end} e same {r} of_text =
            let is : ElementsAre w (row + 1) end region r = subst (λ t. ElementsAre w (row + 1) end t r) same of_text in
            record {
              number = Within.judged array is.number;
              held = λ R q c kids n.
                  let some-so = some-elements R (members w.texts kids) (counted n many) d in
                  rw (array-here n, eq-eqb _ 5 array, counted n many, le-leb number 256 few, some-so) (is.held R q kids (rows_children end e n));
            }
