-- The operations of a patch that is read, and the documents that they lead to.
use Rattle.std.specs.Prelude.{if◌then◌else◌}
use mathlib.Core.Path.{◌≡◌, refl, ap, sym, subst}
use mathlib.Core.Bool.{Bool, true, false, ◌&&◌, not}
use mathlib.Core.List.{List, [], ◌∷◌, ◌++◌}
use Prim.Native.Nat.{ℕ, ◌+◌, ◌<◌, ◌≤◌}
use native.Mathlib.Omega.{arith}
use lib.Dec.{leb}
use borrow.Author.Tests.{ltb-true, leb-true}
use Rattle.spec.specs.Outcome.{Outcome, ok, refused, ◌>>=◌, require}
use Rattle.spec.specs.Bytes.{Text, ascii}
use Rattle.spec.specs.Limits.{max_depth, max_nodes}
use Rattle.spec.specs.Forest.{none, tree, count}
use Rattle.spec.specs.Value as Value
use Rattle.spec.specs.Value.{Label, Entry, Members, leaf, value_of, tag, is_array, is_object, is_string, content, has, find, depth, nodes}
use Rattle.spec.specs.Pointer.{Tokens, tokens, child}
use Rattle.spec.specs.Operation.{Kind, Operation, perform, not_too_deep, not_too_large, limited}
use Rattle.spec.specs.Patch.{member, string_of, string_member, kind_named, uses_value, uses_from, is_move, OperationMembers, value_for, from_for, members_for}
use Rattle.spec.specs.Patch.{operation_members, proper_prefix, with_pointers, operation, Stop, stop, Run, finished, stopped, no_pointer, at_op}
use Rattle.spec.specs.Patch.{on_finish, operations}
use Rattle.spec.specs.Patch.{shape, which_pointer, run}
use Rattle.spec.proofs.OutcomeLaws.{refused≢ok, both_ok}
use Rattle.spec.proofs.RunTheorem.{stopped_same}
use Rattle.spec.specs.Proper as Proper
use Rattle.spec.specs.Proper.{Proper, Readable, Allows, ScalarValue, ScalarValues, ProperItems}
use Rattle.claims.specs.Pointers.{escape_character, escape_token, pointer_of}
use Rattle.claims.proofs.CharacterScalar.{if_ok}
use Rattle.claims.proofs.OperationsTheorem.{proper_nth}
use Rattle.claims.proofs.PointersTheorem.{Escaped, tilde-escaped, slash_escaped, plain, escaped, pointers}
use Rattle.claims.proofs.ProperOperations.{AllCharacters, no_tokens, token, ProperOperation, perform_proper}

-- Tokens of a text of characters are of characters.

characters-append : (s t : Text) → ScalarValues (s ++ t) → ScalarValues s × ScalarValues t
characters-append [] t h = (Proper.nothing, h)
characters-append (c ∷ s) t (Proper.another q h) = let r = characters-append s t h in (Proper.another q r.0, r.1)

escaped-character : {c : ℕ} {w : Text} → Escaped c w → ScalarValues w → ScalarValue c
escaped-character tilde-escaped h = Proper.below_surrogates (omega arith)
escaped-character slash_escaped h = Proper.below_surrogates (omega arith)
escaped-character (plain q r) (Proper.another s h) = s

token-characters : (t : Text) → ScalarValues (escape_token t) → ScalarValues t
unfolding escape_token
token-characters [] h = Proper.nothing
token-characters (c ∷ t) h =
    let q = characters-append (escape_character c) (escape_token t) h in
    Proper.another (escaped-character (escaped c) q.0) (token-characters t q.1)

without-first : {c : ℕ} {t : Text} → ScalarValues (c ∷ t) → ScalarValues t
without-first (Proper.another s h) = h

pointer_characters : (ts : Tokens) → ScalarValues (pointer_of ts) → AllCharacters ts
unfolding pointer_of
pointer_characters [] h = no_tokens
pointer_characters (t ∷ ts) h =
    let q = characters-append (escape_token t) (pointer_of ts) (without-first h) in
    token (token-characters t q.0) (pointer_characters ts q.1)

tokens-characters : (p : Text) (ts : Tokens) → ScalarValues p → tokens p ≡ ok ts → AllCharacters ts
tokens-characters p ts s h = pointer_characters ts (rw (pointers.written_so p ts h) s)

-- The members of an operation

member-proper : (name : Text) (v w : Value.Value) → Proper v → member name v ≡ ok w → Proper w
unfolding member child
member-proper name v w p h =
    if_ok (has name v.kids) h
    (λ t i.
    let same : value_of (child (find name v.kids) v) ≡ w = cc in
    subst Proper same (proper_nth _ _ (find name v.kids) v.kids p.items (ltb-true (find name v.kids) (count v.kids) t)))
    (λ _ i. absurd (refused≢ok i))

string-characters : {l : Label} {kids : Members} (cs : Text) → Allows l kids → string_of l ≡ ok cs → ScalarValues cs
unfolding string_of is_string tag content
string-characters cs Proper.null_literal h = absurd (refused≢ok h)
string-characters cs Proper.true_literal h = absurd (refused≢ok h)
string-characters cs Proper.false_literal h = absurd (refused≢ok h)
string-characters cs (Proper.number n) h = absurd (refused≢ok h)
string-characters cs (Proper.string {cs = ds} c) h = let same : ds ≡ cs = cc in rw (← same) c
string-characters cs Proper.array h = absurd (refused≢ok h)
string-characters cs Proper.object h = absurd (refused≢ok h)

string_member_lem : (name : Text) (v : Value.Value) (cs : Text) → Proper v → string_member name v ≡ ok cs → ScalarValues cs
unfolding string_member
string_member_lem name v cs p h =
    let (m, e, i) = both_ok (member name v) _ cs h in
    string-characters cs (member-proper name v m p e).allows i

value_member_lem : (kind : Kind) (v x : Value.Value) → Proper v → value_for kind v ≡ ok x → Proper x
unfolding value_for
value_member_lem kind v x p h =
    if_ok (uses_value kind) h (λ _ i. member-proper (ascii "value") v x p i)
    (λ _ i. let same : leaf Label.null_literal ≡ x = cc in subst Proper same (record { allows = Proper.null_literal; items = Proper.empty }))

from_member : (kind : Kind) (v : Value.Value) (cs : Text) → Proper v → from_for kind v ≡ ok cs → ScalarValues cs
unfolding from_for
from_member kind v cs p h =
    if_ok (uses_from kind) h (λ _ i. string_member_lem (ascii "from") v cs p i) (λ _ i. let same : [] ≡ cs = cc in subst ScalarValues same Proper.nothing)

record ProperMembers (m : OperationMembers) : Type 0 where
  path_characters : ScalarValues m.path
  from-characters : ScalarValues m.from
  value-proper : Proper m.value

members-proper : (kind : Kind) (v : Value.Value) (m : OperationMembers) → Proper v → members_for kind v ≡ ok m → ProperMembers m
unfolding members_for
members-proper kind v m p h =
    let (path, e, i) = both_ok (string_member (ascii "path") v) _ m h in
    let (x, f, j) = both_ok (value_for kind v) _ m i in
    let (from, g, k) = both_ok (from_for kind v) _ m j in
    let same : record { kind = kind; path = path; from = from; value = x } ≡ m = cc in
    subst ProperMembers same
    (record {
      path_characters = string_member_lem (ascii "path") v path p e;
      from-characters = from_member kind v from p g;
      value-proper = value_member_lem kind v x p f;
    })

pub operation_proper : (v : Value.Value) (o : Operation) → Proper v → operation v ≡ ok o → ProperOperation o
unfolding operation operation_members with_pointers
operation_proper v o p h =
    let (m, e, i) = both_ok (operation_members v) _ o h in
    let (_, _, e1) = both_ok (require 8 (is_object v.label)) _ m e in
    let (op, _, e2) = both_ok (string_member (ascii "op") v) _ m e1 in
    let (kind, _, e3) = both_ok (kind_named op) _ m e2 in
    let q = members-proper kind v m p e3 in
    let (path, f, j) = both_ok (tokens m.path) _ o i in
    let (from, g, k) = both_ok (tokens m.from) _ o j in
    let (_, _, l) = both_ok (require 14 (not (is_move m.kind && proper_prefix from path))) _ o k in
    let same : record { kind = m.kind; path = path; from = from; value = m.value } ≡ o = cc in
    subst ProperOperation same
    (record {
      path_characters = tokens-characters m.path path q.path_characters f;
      from-characters = tokens-characters m.from from q.from-characters g;
      value-proper = q.value-proper;
    })

-- All operations of a patch

pub data AllProper : List Operation → Type 0 where
  nothing : AllProper []
  first : {o : Operation} {os : List Operation} → ProperOperation o → AllProper os → AllProper (o ∷ os)

pub stopped≢finished : {A : Type 0} {s : Stop} {a : A} → stopped s ≡ finished a → ⊥
stopped≢finished h = let z : ◌≡◌ {A = ℕ} 0 1 = cc in omega arith

if_finishes : {A C : Type 0} (test : Bool) {x y : Run A} {a : A} → (if test then x else y) ≡ finished a → (x ≡ finished a → C) → (y ≡ finished a → C) → C
if_finishes true h f g = f h
if_finishes false h f g = g h

-- a run that finishes: each of its steps did
finishes : {A B : Type 0} (r : Run A) (next : A → Run B) (b : B) → on_finish r next ≡ finished b → (a : A) × (r ≡ finished a) × (next a ≡ finished b)
unfolding on_finish
finishes (finished a) next b h = (a, refl, h)
finishes (stopped s) next b h = absurd (stopped≢finished h)

at_op_lem : {A : Type 0} (op : ℕ) (which : ℕ → ℕ) (o : Outcome A) (a : A) → at_op op which o ≡ finished a → o ≡ ok a
unfolding at_op
at_op_lem op which (ok b) a h = let same : b ≡ a = cc in ap ok same
at_op_lem op which (refused n p) a h = cc

pub proper_first : {object : Bool} {e : Entry} {kids rest : Members} → ProperItems object (tree e kids rest)
    → Proper (record { label = e.label; kids = kids }) × ProperItems object rest
proper_first (Proper.element n a i p) = (record { allows = a; items = i }, p)
proper_first (Proper.member n h a i p) = (record { allows = a; items = i }, p)

operations_proper : (object : Bool) (op : ℕ) (f : Members) (os : List Operation) → ProperItems object f → operations op f ≡ finished os → AllProper os
unfolding operations
operations_proper object op none os p h = let same : [] ≡ os = cc in subst AllProper same nothing
operations_proper object op (tree e kids rest) os p h =
    let (o, i, j) = finishes _ _ os h in
    let (others, k, l) = finishes _ _ os j in
    let same : o ∷ others ≡ os = cc in
    let here = proper_first p in
    let one = operation_proper (record { label = e.label; kids = kids }) o here.0 (at_op_lem op _ _ o i) in
    subst AllProper same (first one (operations_proper object (op + 1) rest others here.1 k))

pub shape_proper : (v : Value.Value) (os : List Operation) → Proper v → shape v ≡ finished os → AllProper os
unfolding shape
shape_proper v os p h =
    if_finishes (is_array v.label) h
    (λ i. if_finishes (leb (count v.kids) 256) i (operations_proper _ 1 v.kids os p.items) (λ j. absurd (stopped≢finished j)))
    (λ i. absurd (stopped≢finished i))

-- Runs

limited_readable : (o : Operation) (v w : Value.Value) → ProperOperation o → Proper v → limited o v ≡ ok w → Readable w
unfolding limited not_too_deep not_too_large
limited_readable o v w q p h =
    let (x, e, i) = both_ok (perform o v >>= not_too_deep) _ w h in
    let (y, f, j) = both_ok (perform o v) _ x e in
    if_ok (leb (depth y) max_depth) j
    (λ deep k.
    if_ok (leb (nodes x) max_nodes) i
    (λ large l.
    let same : y ≡ x = cc in
    let same' : x ≡ w = cc in
    subst Readable same'
    (record { proper = subst Proper same (perform_proper o v y q p f); shallow = leb-true _ _ (rw same at deep); few = leb-true _ _ large }))
    (λ _ l. absurd (refused≢ok l)))
    (λ _ k. absurd (refused≢ok k))

pub run_readable : (op : ℕ) (os : List Operation) (v w : Value.Value) → AllProper os → Readable v → run limited op os v ≡ finished w → Readable w
unfolding run
run_readable op [] v w a r h = let same : v ≡ w = cc in subst Readable same r
run_readable op (o ∷ os) v w (first q a) r h =
    let (u, i, j) = finishes _ _ w h in
    run_readable (op + 1) os u w a (limited_readable o v u q r.proper (at_op_lem op _ _ u i)) j

-- A run that stops names an operation, or a refusal of the whole patch by its number.

stops : {A B C : Type 0} (r : Run A) (next : A → Run B) {s : Stop} → on_finish r next ≡ stopped s → (r ≡ stopped s → C) →
    ((a : A) → r ≡ finished a → next a ≡ stopped s → C) → C
unfolding on_finish
stops (finished a) next h f g = g a refl h
stops (stopped t) next h f g = f (cc)

stops_at : {A : Type 0} (op : ℕ) (which : ℕ → ℕ) (o : Outcome A) {s : Stop} → at_op op which o ≡ stopped s → s.op ≡ op
unfolding at_op
stops_at op which (ok a) h = absurd (stopped≢finished (sym h))
stops_at op which (refused m p) h = sym (ap Stop.op (stopped_same h))

run_stops_from : (op : ℕ) (os : List Operation) (v : Value.Value) (s : Stop) → run limited op os v ≡ stopped s → op ≤ s.op
unfolding run
run_stops_from op [] v s h = absurd (stopped≢finished (sym h))
run_stops_from op (o ∷ os) v s h =
    stops (at_op op (which_pointer o v) (limited o v)) _ h (λ i. let same = stops_at op (which_pointer o v) (limited o v) i in omega arith)
    (λ w _ i. omega (arith, run_stops_from (op + 1) os w s i))

operations-stop-from : (op : ℕ) (f : Members) (s : Stop) → operations op f ≡ stopped s → op ≤ s.op
unfolding operations
operations-stop-from op none s h = absurd (stopped≢finished (sym h))
operations-stop-from op (tree e kids rest) s h =
    stops _ _ h (λ i. let same = stops_at op no_pointer (operation (record { label = e.label; kids = kids })) i in omega arith)
    (λ o _ i. stops _ _ i (λ j. omega (arith, operations-stop-from (op + 1) rest s j)) (λ os _ j. absurd (stopped≢finished (sym j))))

shape_stops : (v : Value.Value) (s : Stop) → shape v ≡ stopped s → 0 < s.number + s.op
unfolding shape
shape_stops v s h = go (is_array v.label) (leb (count v.kids) 256) h
  where
    go : (array few : Bool) → (if array then (if few then operations 1 v.kids else stopped (stop 9 0 0 0)) else stopped (stop 8 0 0 0)) ≡ stopped s →
        0 < s.number + s.op
    go true true h = omega (arith, operations-stop-from 1 v.kids s h)
    go true false h = let number : 9 ≡ s.number = ap Stop.number (stopped_same h) in omega arith
    go false few h = let number : 8 ≡ s.number = ap Stop.number (stopped_same h) in omega arith

pub patch_stops : (p d : Value.Value) (s : Stop) → on_finish (shape p) (λ os. run limited 1 os d) ≡ stopped s → 0 < s.number + s.op
patch_stops p d s h =
    stops (shape p) (λ os. run limited 1 os d) h (shape_stops p s) (λ os _ i. omega (arith, run_stops_from 1 os d s i))

pub patch_finishes : (p d v : Value.Value) → on_finish (shape p) (λ os. run limited 1 os d) ≡ finished v →
    (os : List Operation) × (shape p ≡ finished os) × (run limited 1 os d ≡ finished v)
patch_finishes p d v h = finishes (shape p) (λ os. run limited 1 os d) v h
