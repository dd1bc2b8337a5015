-- The shape of a patch is exactly as SPECIFICATION 4 says: specs/Shape.
use Rattle.std.specs.Prelude.{if◌then◌else◌}
use mathlib.Core.Path.{◌≡◌, refl, ap, ap₂, sym, subst, ◌∙◌}
use mathlib.Core.Bool.{Bool, true, false, ◌&&◌, not, true≢false}
use mathlib.Core.List.{List, [], ◌∷◌, ◌++◌}
use Prim.Native.Nat.{ℕ, ◌+◌, ◌≤◌, ◌<◌}
use native.Mathlib.Omega.{arith}
use lib.Dec.{leb, eqb}
use borrow.Author.Tests.{leb-true, leb-false, le-leb, lt-leb, not-true}
use Rattle.spec.specs.Outcome.{Outcome, ok, refused, ◌>>=◌, require}
use Rattle.spec.specs.Bytes.{Text, ascii}
use Rattle.spec.specs.Forest.{none, tree, count}
use Rattle.spec.specs.Value as Value
use Rattle.spec.specs.Value.{Label, Members, tag, is_array, is_object, is_string, content, same_text, find, value_of}
use Rattle.spec.specs.Pointer.{Tokens, segments, tilde, unescape, unescape_all, tokens, child}
use Rattle.spec.specs.Operation.{Kind, Operation}
use Rattle.spec.specs.Patch.{member, string_of, string_member, kind_named, uses_value, uses_from, is_move}
use Rattle.spec.specs.Patch.{OperationMembers, value_for, from_for, members_for, operation_members}
use Rattle.spec.specs.Patch.{proper_prefix, with_pointers, operation, Stop, stop, Run, finished, stopped, no_pointer, at_op, on_finish, operations, shape}
use Rattle.spec.specs.Effects as Effects
use Rattle.spec.specs.Effects.{Child}
use Rattle.spec.specs.Shape as Shape
use Rattle.spec.specs.Shape.{Spells, Has, has, HasString, has-string, ValueOf, FromOf, HasMembers, ProperPrefix, IsOperation, Wrong, element_of}
use Rattle.spec.specs.Shape.{AreOperations, no_element, element, IsPatch, FirstWrong, here, later, NoPatch, ShapeStatement}
use Rattle.spec.proofs.OutcomeLaws.{refused≢ok, both_ok}
use Rattle.spec.proofs.TextLaws.{both_true, same_text_true, same_text_refl}
use Rattle.spec.proofs.RunTheorem.{finished≢stopped, stopped_same}
use Rattle.spec.proofs.EffectsLaws.{standing, child_is, value_there}
use Rattle.spec.proofs.EffectsDone.{ok_same, member-there, member-found}
use Rattle.spec.proofs.EffectsRefused.{Out, fine, bad, Flat, flat, out_then}

-- Members

object-not-array : {l : Label} → l ≡ Label.object → l ≡ Label.array → ⊥
unfolding tag
object-not-array a b = omega (arith, ap tag (sym a ∙ b))

child-member : {t name : Text} {v x : Value.Value} {b a : Members} → v.label ≡ Label.object → Child t v name x b a → Has t v x
child-member {b = b} {a} l (Effects.member l' is w) = has b a l is w
child-member l (Effects.element l' is i) = absurd (object-not-array l l')

member-to : (name : Text) (v x : Value.Value) → v.label ≡ Label.object → member name v ≡ ok x → Has name v x
unfolding member
member-to name v x l h = go (Value.has name v.kids) refl h
  where
    go : (b : Bool) → Value.has name v.kids ≡ b → (if b then ok (value_of (child (find name v.kids) v)) else refused 8 0) ≡ ok x → Has name v x
    go true q h =
        let s = standing name v (find name v.kids) (member-there name v l q) in
        subst (Has name v) (sym (value_there s) ∙ ok_same h) (child-member l s.stands)
    go false q h = absurd (refused≢ok h)

to-member : {name : Text} {v x : Value.Value} → Has name v x → member name v ≡ ok x
unfolding member
to-member {name} {v} {x} (has b a l is w) =
    let c : Child name v name x b a = Effects.member l is w in
    let (place, found) = member-found l c in
    rw (found, ← place, child_is c)

-- a string by its label
string-to : (l : Label) (cs : Text) → string_of l ≡ ok cs → l ≡ Label.string cs
unfolding string_of is_string tag content
string-to Label.null_literal cs h = absurd (refused≢ok h)
string-to Label.true_literal cs h = absurd (refused≢ok h)
string-to Label.false_literal cs h = absurd (refused≢ok h)
string-to Label.array cs h = absurd (refused≢ok h)
string-to Label.object cs h = absurd (refused≢ok h)
string-to (Label.number s) cs h = absurd (refused≢ok h)
string-to (Label.string s) cs h = ap Label.string (ok_same h)

to-string : {l : Label} {cs : Text} → l ≡ Label.string cs → string_of l ≡ ok cs
unfolding string_of is_string tag content
to-string e = rw e

string_member_to : (name : Text) (v : Value.Value) (cs : Text) → v.label ≡ Label.object → string_member name v ≡ ok cs → HasString name v cs
unfolding string_member
string_member_to name v cs l h =
    let (x, e, i) = both_ok (member name v) _ cs h in
    has-string (member-to name v x l e) (string-to x.label cs i)

to_string_member : {name : Text} {v : Value.Value} {cs : Text} → HasString name v cs → string_member name v ≡ ok cs
unfolding string_member ◌>>=◌
to_string_member (has-string {x} m e) = rw (to-member m) (to-string e)

-- Kinds

kind_to : (t : Text) (k : Kind) → kind_named t ≡ ok k → Spells t k
unfolding kind_named
kind_to t k h =
    try (ascii "add") Kind.add Shape.add h λ h.
    try (ascii "remove") Kind.remove Shape.remove h λ h.
    try (ascii "replace") Kind.replace Shape.replace h λ h.
    try (ascii "move") Kind.move Shape.move h λ h.
    try (ascii "copy") Kind.copy Shape.copy h λ h.
    try (ascii "test") Kind.test Shape.test h λ h.
    absurd (refused≢ok h)
  where
    try : (word : Text) (kind : Kind) → Spells word kind → {o : Outcome Kind} → (if same_text t word then ok kind else o) ≡ ok k →
        (o ≡ ok k → Spells t k) → Spells t k
    try word kind s {o} h other = go (same_text t word) refl h
      where
        go : (b : Bool) → same_text t word ≡ b → (if b then ok kind else o) ≡ ok k → Spells t k
        go true q h = rw (same_text_true t word q) (subst (Spells word) (ok_same h) s)
        go false q h = other h

to_kind : {t : Text} {k : Kind} → Spells t k → kind_named t ≡ ok k
unfolding kind_named same_text ascii
to_kind Shape.add = refl
to_kind Shape.remove = refl
to_kind Shape.replace = refl
to_kind Shape.move = refl
to_kind Shape.copy = refl
to_kind Shape.test = refl

value-to : (k : Kind) (v x : Value.Value) → v.label ≡ Label.object → value_for k v ≡ ok x → ValueOf v k x
unfolding value_for uses_value
value-to Kind.add v x l h = Shape.add (member-to (ascii "value") v x l h)
value-to Kind.remove v x l h = subst (ValueOf v Kind.remove) (ok_same h) Shape.remove
value-to Kind.replace v x l h = Shape.replace (member-to (ascii "value") v x l h)
value-to Kind.move v x l h = subst (ValueOf v Kind.move) (ok_same h) Shape.move
value-to Kind.copy v x l h = subst (ValueOf v Kind.copy) (ok_same h) Shape.copy
value-to Kind.test v x l h = Shape.test (member-to (ascii "value") v x l h)

to-value : {k : Kind} {v x : Value.Value} → ValueOf v k x → value_for k v ≡ ok x
unfolding value_for uses_value
to-value (Shape.add m) = to-member m
to-value (Shape.replace m) = to-member m
to-value (Shape.test m) = to-member m
to-value Shape.remove = refl
to-value Shape.move = refl
to-value Shape.copy = refl

from_to : (k : Kind) (v : Value.Value) (cs : Text) → v.label ≡ Label.object → from_for k v ≡ ok cs → FromOf v k cs
unfolding from_for uses_from
from_to Kind.add v cs l h = subst (FromOf v Kind.add) (ok_same h) Shape.add
from_to Kind.remove v cs l h = subst (FromOf v Kind.remove) (ok_same h) Shape.remove
from_to Kind.replace v cs l h = subst (FromOf v Kind.replace) (ok_same h) Shape.replace
from_to Kind.move v cs l h = Shape.move (string_member_to (ascii "from") v cs l h)
from_to Kind.copy v cs l h = Shape.copy (string_member_to (ascii "from") v cs l h)
from_to Kind.test v cs l h = subst (FromOf v Kind.test) (ok_same h) Shape.test

to_from : {k : Kind} {v : Value.Value} {cs : Text} → FromOf v k cs → from_for k v ≡ ok cs
unfolding from_for uses_from
to_from (Shape.move m) = to_string_member m
to_from (Shape.copy m) = to_string_member m
to_from Shape.add = refl
to_from Shape.remove = refl
to_from Shape.replace = refl
to_from Shape.test = refl

-- All members of an operation

object-to : (l : Label) → is_object l ≡ true → l ≡ Label.object
unfolding is_object tag
object-to Label.null_literal h = absurd (true≢false (sym h))
object-to Label.true_literal h = absurd (true≢false (sym h))
object-to Label.false_literal h = absurd (true≢false (sym h))
object-to Label.array h = absurd (true≢false (sym h))
object-to Label.object h = refl
object-to (Label.number s) h = absurd (true≢false (sym h))
object-to (Label.string s) h = absurd (true≢false (sym h))

required : (n : ℕ) (b : Bool) {u : Unit {0}} → require n b ≡ ok u → b ≡ true
unfolding require
required n true h = refl
required n false h = absurd (refused≢ok h)

members-to : (v : Value.Value) (m : OperationMembers) → operation_members v ≡ ok m → HasMembers v m
unfolding operation_members members_for
members-to v m h =
    let (_, a, h1) = both_ok (require 8 (is_object v.label)) _ m h in
    let l = object-to v.label (required 8 (is_object v.label) a) in
    let (op, b, h2) = both_ok (string_member (ascii "op") v) _ m h1 in
    let (kind, c, h3) = both_ok (kind_named op) _ m h2 in
    let (path, d, h4) = both_ok (string_member (ascii "path") v) _ m h3 in
    let (x, e, h5) = both_ok (value_for kind v) _ m h4 in
    let (from, f, h6) = both_ok (from_for kind v) _ m h5 in
    subst (HasMembers v) (ok_same h6)
    (record {
      object = l;
      op = op;
      op-member = string_member_to (ascii "op") v op l b;
      spells = kind_to op kind c;
      path-member = string_member_to (ascii "path") v path l d;
      value_member_lem = value-to kind v x l e;
      from_member = from_to kind v from l f;
    })

is_object_lem : (v : Value.Value) → v.label ≡ Label.object → require 8 (is_object v.label) ≡ ok tt
unfolding require is_object tag
is_object_lem v l = rw l

to-members : {v : Value.Value} {m : OperationMembers} → HasMembers v m → operation_members v ≡ ok m
unfolding operation_members members_for ◌>>=◌
to-members {v} h =
    rw (
      is_object_lem v h.object,
      to_string_member h.op-member,
      to_kind h.spells,
      to_string_member h.path-member,
      to-value h.value_member_lem,
      to_from h.from_member,
    )

-- Pointers

prefix_to : (ts us : Tokens) → proper_prefix ts us ≡ true → ProperPrefix ts us
unfolding proper_prefix
prefix_to [] [] h = absurd (true≢false (sym h))
prefix_to [] (u ∷ us) h = record { token = u; others = us; longer = refl }
prefix_to (t ∷ ts) [] h = absurd (true≢false (sym h))
prefix_to (t ∷ ts) (u ∷ us) h =
    let (same, rest) = both_true (same_text t u) (proper_prefix ts us) h in
    let r = prefix_to ts us rest in
    record { token = r.token; others = r.others; longer = ap₂ ◌∷◌ (sym (same_text_true t u same)) r.longer }

prefix_longer : (ts : Tokens) (u : Text) (us : Tokens) → proper_prefix ts (ts ++ (u ∷ us)) ≡ true
unfolding proper_prefix
prefix_longer [] u us = refl
prefix_longer (t ∷ ts) u us = rw (same_text_refl t) (prefix_longer ts u us)

to_prefix : (ts us : Tokens) → ProperPrefix ts us → proper_prefix ts us ≡ true
to_prefix ts us p = rw p.longer (prefix_longer ts p.token p.others)

-- whether a move goes into its own child
into_test : (k : Kind) (from path : Tokens) → (k ≡ Kind.move → ProperPrefix from path → ⊥) → (is_move k && proper_prefix from path) ≡ false
unfolding is_move
into_test Kind.add from path h = refl
into_test Kind.remove from path h = refl
into_test Kind.replace from path h = refl
into_test Kind.copy from path h = refl
into_test Kind.test from path h = refl
into_test Kind.move from path h = go (proper_prefix from path) refl
  where
    go : (b : Bool) → proper_prefix from path ≡ b → proper_prefix from path ≡ false
    go true q = absurd (h refl (prefix_to from path q))
    go false q = q

is_move_lem : (k : Kind) → is_move k ≡ true → k ≡ Kind.move
unfolding is_move
is_move_lem Kind.add h = absurd (true≢false (sym h))
is_move_lem Kind.remove h = absurd (true≢false (sym h))
is_move_lem Kind.replace h = absurd (true≢false (sym h))
is_move_lem Kind.move h = refl
is_move_lem Kind.copy h = absurd (true≢false (sym h))
is_move_lem Kind.test h = absurd (true≢false (sym h))

not_into : (k : Kind) (from path : Tokens) → (is_move k && proper_prefix from path) ≡ false → k ≡ Kind.move → ProperPrefix from path → ⊥
unfolding is_move
not_into k from path h e p = true≢false (sym (rw (e, to_prefix from path p)) ∙ h)

-- An element

operation_to : (v : Value.Value) (o : Operation) → operation v ≡ ok o → IsOperation v o
unfolding operation with_pointers
operation_to v o h =
    let (m, a, h1) = both_ok (operation_members v) _ o h in
    let (path, b, h2) = both_ok (tokens m.path) _ o h1 in
    let (from, c, h3) = both_ok (tokens m.from) _ o h2 in
    let (_, d, h4) = both_ok (require 14 (not (is_move m.kind && proper_prefix from path))) _ o h3 in
    let outside = not-true _ (required 14 (not (is_move m.kind && proper_prefix from path)) d) in
    subst (IsOperation v) (ok_same h4)
    (record {
      members = m;
      has-members = members-to v m a;
      path = b;
      from = c;
      not_into = not_into m.kind from path outside;
      kind = refl;
      value = refl;
    })

to_operation : {v : Value.Value} {o : Operation} → IsOperation v o → operation v ≡ ok o
unfolding operation with_pointers require ◌>>=◌
to_operation {v} {o} h =
    let same : record { kind = h.members.kind; path = o.path; from = o.from; value = h.members.value } ≡ o =
    λ i. record { kind = h.kind i; path = o.path; from = o.from; value = h.value i } in
    rw (to-members h.has-members, h.path, h.from, into_test h.members.kind o.from o.path h.not_into) (ap ok same)

-- Refusals

cases : {A C : Type 0} {No : ℕ → Type 0} (o : Outcome A) → Out (Flat No) o → ((a : A) → o ≡ ok a → C) → ((n : ℕ) → No n → o ≡ refused n 0 → C) → C
cases o (fine a) f g = f a refl
cases o (bad (flat {n} q)) f g = g n q refl

out_if : {A : Type 0} {No : ℕ → Type 0} (b : Bool) {x y : Outcome A} → Out (Flat No) x → Out (Flat No) y → Out (Flat No) (if b then x else y)
out_if true p q = p
out_if false p q = q

abbrev Eight : ℕ → Type 0
Eight n = n ≡ 8

abbrev Ten : ℕ → Type 0
Ten n = n ≡ 10

member-out : (name : Text) (v : Value.Value) → Out (Flat Eight) (member name v)
unfolding member
member-out name v = out_if (Value.has name v.kids) (fine _) (bad (flat refl))

string-out : (name : Text) (v : Value.Value) → Out (Flat Eight) (string_member name v)
unfolding string_member string_of
string-out name v = out_then (member name v) _ (member-out name v) (λ n k q. q) λ x e. out_if (is_string x.label) (fine _) (bad (flat refl))

kind_out : (t : Text) → Out (Flat Eight) (kind_named t)
unfolding kind_named
kind_out t =
    out_if (same_text t (ascii "add")) (fine _)
    (out_if (same_text t (ascii "remove")) (fine _)
    (out_if (same_text t (ascii "replace")) (fine _)
    (out_if (same_text t (ascii "move")) (fine _)
    (out_if (same_text t (ascii "copy")) (fine _) (out_if (same_text t (ascii "test")) (fine _) (bad (flat refl)))))))

members-out : (v : Value.Value) → Out (Flat Eight) (operation_members v)
unfolding operation_members members_for value_for from_for require
members-out v =
    out_then (require 8 (is_object v.label)) _ (out_if (is_object v.label) (fine tt) (bad (flat refl))) (λ n k q. q) λ _ _.
    out_then (string_member (ascii "op") v) _ (string-out (ascii "op") v) (λ n k q. q) λ op _.
    out_then (kind_named op) _ (kind_out op) (λ n k q. q) λ kind _.
    out_then (string_member (ascii "path") v) _ (string-out (ascii "path") v) (λ n k q. q) λ path _.
    out_then (value_for kind v) _ (out_if (uses_value kind) (member-out (ascii "value") v) (fine _)) (λ n k q. q) λ x _.
    out_then (from_for kind v) _ (out_if (uses_from kind) (string-out (ascii "from") v) (fine [])) (λ n k q. q) λ from _.
    fine _

unescape_out : (escaped : Bool) (t : Text) → Out (Flat Ten) (unescape escaped t)
unfolding unescape tilde
unescape_out false [] = fine []
unescape_out true [] = bad (flat refl)
unescape_out false (c ∷ t) =
    out_if (eqb c 0x7E) (unescape_out true t) (out_then (unescape false t) _ (unescape_out false t) (λ n k q. q) λ u _. fine (c ∷ u))
unescape_out true (c ∷ t) =
    out_then (tilde c) _ (out_if (eqb c 0x30) (fine 0x7E) (out_if (eqb c 0x31) (fine 0x2F) (bad (flat refl)))) (λ n k q. q) λ d _.
    out_then (unescape false t) _ (unescape_out false t) (λ n k q. q) λ u _. fine (d ∷ u)

unescape_all_out : (ts : List Text) → Out (Flat Ten) (unescape_all ts)
unfolding unescape_all
unescape_all_out [] = fine []
unescape_all_out (t ∷ ts) =
    out_then (unescape false t) _ (unescape_out false t) (λ n k q. q) λ u _.
    out_then (unescape_all ts) _ (unescape_all_out ts) (λ n k q. q) λ us _. fine (u ∷ us)

tokens_out : (t : Text) → Out (Flat Ten) (tokens t)
unfolding tokens
tokens_out [] = fine []
tokens_out (c ∷ t) = out_if (eqb c 0x2F) (unescape_all_out (segments t)) (bad (flat refl))

-- An element that is no operation

with-members : (v : Value.Value) (m : OperationMembers) → operation_members v ≡ ok m → operation v ≡ with_pointers m
unfolding operation ◌>>=◌
with-members v m e = rw e

pointers_out : (v : Value.Value) (m : OperationMembers) → HasMembers v m → Out (Flat (Wrong v)) (with_pointers m)
unfolding with_pointers require ◌>>=◌
pointers_out v m h =
    cases (tokens m.path) (tokens_out m.path)
    (λ path p.
    cases (tokens m.from) (tokens_out m.from) (λ from f. rw (p, f) (go path from p f (is_move m.kind && proper_prefix from path) refl))
    (λ n ten f. rw (p, f) (bad (flat (subst (Wrong v) (sym ten) (Shape.no_from m h λ ts g. refused≢ok (sym f ∙ g)))))))
    (λ n ten p. rw p (bad (flat (subst (Wrong v) (sym ten) (Shape.no_path m h λ ts g. refused≢ok (sym p ∙ g))))))
  where
    go : (path from : Tokens) → tokens m.path ≡ ok path → tokens m.from ≡ ok from → (b : Bool) → (is_move m.kind && proper_prefix from path) ≡ b →
        Out {A = Operation} (Flat (Wrong v)) (require 14 (not b) >>= λ _. ok (record { kind = m.kind; path = path; from = from; value = m.value }))
    go path from p f false q = fine _
    go path from p f true q =
        let (a, b) = both_true (is_move m.kind) (proper_prefix from path) q in
        bad (flat (Shape.into_child m path from h p f (is_move_lem m.kind a) (prefix_to from path b)))

operation_out : (v : Value.Value) → Out (Flat (Wrong v)) (operation v)
unfolding operation ◌>>=◌
operation_out v =
    cases (operation_members v) (members-out v) (λ m e. rw (with-members v m e) (pointers_out v m (members-to v m e)))
    (λ n eight e. rw e (bad (flat (subst (Wrong v) (sym eight) (Shape.no-members λ m h. refused≢ok (sym e ∙ to-members h))))))

wrong_is : (v : Value.Value) (n : ℕ) → Wrong v n → operation v ≡ refused n 0
unfolding operation with_pointers require is_move ◌>>=◌
wrong_is v n (Shape.no-members none_so) =
    cases (operation_members v) (members-out v) (λ m e. absurd (none_so m (members-to v m e))) (λ k eight e. rw (e, eight))
wrong_is v n (Shape.no_path m h none_so) =
    with-members v m (to-members h) ∙ cases (tokens m.path) (tokens_out m.path) (λ ts e. absurd (none_so ts e)) (λ k ten e. rw (e, ten))
wrong_is v n (Shape.no_from m h none_so) =
    with-members v m (to-members h) ∙
    cases (tokens m.path) (tokens_out m.path)
    (λ path p. cases (tokens m.from) (tokens_out m.from) (λ ts e. absurd (none_so ts e)) (λ k ten e. rw (p, e, ten)))
    (λ k ten e. rw (e, ten))
wrong_is v n (Shape.into_child m path from h p f e x) = with-members v m (to-members h) ∙ rw (p, f, e, to_prefix from path x)

-- The elements

one_more : (op : ℕ) (e : Value.Entry) (kids rest : Members) (o : Operation) → operation (element_of e kids) ≡ ok o →
    operations op (tree e kids rest) ≡ on_finish (operations (op + 1) rest) λ os. finished (o ∷ os)
unfolding operations at_op on_finish
one_more op e kids rest o h = rw h

one_wrong : (op : ℕ) (e : Value.Entry) (kids rest : Members) (n p : ℕ) → operation (element_of e kids) ≡ refused n p →
    operations op (tree e kids rest) ≡ stopped (stop n op p 0)
unfolding operations at_op on_finish no_pointer
one_wrong op e kids rest n p h = rw h

finished_same : {A : Type 0} {a b : A} → finished a ≡ finished b → a ≡ b
finished_same h = cc

-- the elements after one that is an operation, by what comes of all
rest_finished : (r : Run (List Operation)) (o : Operation) {os : List Operation} → (on_finish r λ os. finished (o ∷ os)) ≡ finished os →
    (others : List Operation) × (r ≡ finished others) × (o ∷ others ≡ os)
unfolding on_finish
rest_finished (finished others) o h = (others, refl, finished_same h)
rest_finished (stopped s) o h = absurd (finished≢stopped (sym h))

rest_stopped : (r : Run (List Operation)) (o : Operation) {s : Stop} → (on_finish r λ os. finished (o ∷ os)) ≡ stopped s → r ≡ stopped s
unfolding on_finish
rest_stopped (finished others) o h = absurd (finished≢stopped h)
rest_stopped (stopped s) o h = h

elements-to : (op : ℕ) (f : Members) (os : List Operation) → operations op f ≡ finished os → AreOperations f os
unfolding operations
elements-to op none os h = subst (AreOperations none) (finished_same h) no_element
elements-to op (tree e kids rest) os h =
    cases (operation (element_of e kids)) (operation_out (element_of e kids))
    (λ o q.
    let (others, r, same) = rest_finished (operations (op + 1) rest) o (sym (one_more op e kids rest o q) ∙ h) in
    subst (AreOperations (tree e kids rest)) same (element (operation_to (element_of e kids) o q) (elements-to (op + 1) rest others r)))
    (λ n w q. absurd (finished≢stopped (sym h ∙ one_wrong op e kids rest n 0 q)))

to-elements : (op : ℕ) {f : Members} {os : List Operation} → AreOperations f os → operations op f ≡ finished os
unfolding operations on_finish
to-elements op no_element = refl
to-elements op (element {e} {kids} {rest} {o} i a) = one_more op e kids rest o (to_operation i) ∙ rw (to-elements (op + 1) a)

-- where a shape stops: with no place and no pointer
abbrev Flatly : (ℕ → ℕ → Type 0) → Stop → Type 0
Flatly No s = No s.number s.op × (s.place ≡ 0) × (s.pointer ≡ 0)

flatly : {A : Type 0} (No : ℕ → ℕ → Type 0) {n k : ℕ} {s : Stop} → ◌≡◌ {A = Run A} (stopped (stop n k 0 0)) (stopped s) → No n k → Flatly No s
flatly No h w = subst (Flatly No) (stopped_same h) (w, refl, refl)

wrong_to : (op : ℕ) (f : Members) (s : Stop) → operations op f ≡ stopped s → Flatly (FirstWrong op f) s
unfolding operations
wrong_to op none s h = absurd (finished≢stopped h)
wrong_to op (tree e kids rest) s h =
    cases (operation (element_of e kids)) (operation_out (element_of e kids))
    (λ o q.
    let (w, place, pointer) = wrong_to (op + 1) rest s (rest_stopped (operations (op + 1) rest) o (sym (one_more op e kids rest o q) ∙ h)) in
    (later o (operation_to (element_of e kids) o q) w, place, pointer))
    (λ m w q. flatly (FirstWrong op (tree e kids rest)) (sym (one_wrong op e kids rest m 0 q) ∙ h) (here w))

to_wrong : {op n k : ℕ} {f : Members} → FirstWrong op f n k → operations op f ≡ stopped (stop n k 0 0)
unfolding on_finish
to_wrong (here {op} {n} {e} {kids} {rest} w) = one_wrong op e kids rest n 0 (wrong_is (element_of e kids) n w)
to_wrong (later {op} {e = e} {kids} {rest} o i w) = one_more op e kids rest o (to_operation i) ∙ rw (to_wrong w)

-- The patch

array-to : (l : Label) → is_array l ≡ true → l ≡ Label.array
unfolding is_array tag
array-to Label.null_literal h = absurd (true≢false (sym h))
array-to Label.true_literal h = absurd (true≢false (sym h))
array-to Label.false_literal h = absurd (true≢false (sym h))
array-to Label.array h = refl
array-to Label.object h = absurd (true≢false (sym h))
array-to (Label.number s) h = absurd (true≢false (sym h))
array-to (Label.string s) h = absurd (true≢false (sym h))

to-array : {l : Label} → l ≡ Label.array → is_array l ≡ true
unfolding is_array tag
to-array e = rw e

no-array : (l : Label) → (l ≡ Label.array → ⊥) → is_array l ≡ false
no-array l n = go (is_array l) refl
  where
    go : (b : Bool) → is_array l ≡ b → is_array l ≡ false
    go true h = absurd (n (array-to l h))
    go false h = h

-- what a patch comes to, by the two tests on the whole of it
data Whole (v : Value.Value) (r : Run (List Operation)) : Type 0 where
  other : (v.label ≡ Label.array → ⊥) → r ≡ stopped (stop 8 0 0 0) → Whole v r
  large : v.label ≡ Label.array → 256 < count v.kids → r ≡ stopped (stop 9 0 0 0) → Whole v r
  listed : v.label ≡ Label.array → count v.kids ≤ 256 → r ≡ operations 1 v.kids → Whole v r

whole : (v : Value.Value) → Whole v (shape v)
unfolding shape
whole v = go (is_array v.label) refl (leb (count v.kids) 256) refl
  where
    go : (a : Bool) → is_array v.label ≡ a → (b : Bool) → leb (count v.kids) 256 ≡ b →
        Whole v (if a then (if b then operations 1 v.kids else stopped (stop 9 0 0 0)) else stopped (stop 8 0 0 0))
    go true p true q = listed (array-to v.label p) (leb-true (count v.kids) 256 q) refl
    go true p false q = large (array-to v.label p) (leb-false (count v.kids) 256 q) refl
    go false p b q = other (λ e. true≢false (sym (to-array e) ∙ p)) refl

right_to : (v : Value.Value) (os : List Operation) → shape v ≡ finished os → IsPatch v os
right_to v os h = go (whole v)
  where
    go : Whole v (shape v) → IsPatch v os
    go (other n e) = absurd (finished≢stopped (sym h ∙ e))
    go (large l c e) = absurd (finished≢stopped (sym h ∙ e))
    go (listed l c e) = record { array = l; few = c; elements = elements-to 1 v.kids os (sym e ∙ h) }

to_right : (v : Value.Value) (os : List Operation) → IsPatch v os → shape v ≡ finished os
unfolding shape
to_right v os p = rw (to-array p.array, le-leb (count v.kids) 256 p.few) (to-elements 1 p.elements)

misshapen_to : (v : Value.Value) (s : Stop) → shape v ≡ stopped s → Flatly (NoPatch v) s
misshapen_to v s h = go (whole v)
  where
    go : Whole v (shape v) → Flatly (NoPatch v) s
    go (other a e) = flatly (NoPatch v) (sym e ∙ h) (Shape.not-array a)
    go (large l c e) = flatly (NoPatch v) (sym e ∙ h) (Shape.too_many l c)
    go (listed l c e) = let (w, place, pointer) = wrong_to 1 v.kids s (sym e ∙ h) in (Shape.wrong_element l c w, place, pointer)

to_misshapen : (v : Value.Value) (n op : ℕ) → NoPatch v n op → shape v ≡ stopped (stop n op 0 0)
unfolding shape
to_misshapen v n op (Shape.not-array a) = rw (no-array v.label a)
to_misshapen v n op (Shape.too_many l c) = rw (to-array l, lt-leb (count v.kids) 256 c)
to_misshapen v n op (Shape.wrong_element l c w) = rw (to-array l, le-leb (count v.kids) 256 c) (to_wrong w)

to_stopped : (v : Value.Value) (s : Stop) → Flatly (NoPatch v) s → shape v ≡ stopped s
to_stopped v s (w, place, pointer) =
    to_misshapen v s.number s.op w ∙ ap₂ (λ p q. stopped (stop s.number s.op p q)) (sym place) (sym pointer)

pub shaped_so : ShapeStatement
shaped_so = record { right = λ v os. (right_to v os, to_right v os); wrong = λ v s. (misshapen_to v s, to_stopped v s) }
