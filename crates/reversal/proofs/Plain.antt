-- The operations of an undo: add, remove and replace, with the members that each uses, at tokens of characters and with proper values.
use mathlib.Core.Path.{◌≡◌, refl}
use mathlib.Core.Bool.{◌&&◌}
use mathlib.Core.List.{List, [], ◌∷◌, ◌++◌}
use Rattle.spec.specs.Outcome.{Outcome, ok, refused}
use Rattle.spec.specs.Bytes.{Text}
use Rattle.spec.specs.Value as Value
use Rattle.spec.specs.Value.{Label, Members, leaf}
use Rattle.spec.specs.Pointer.{Tokens, walk, is_dash}
use Rattle.spec.specs.Operation.{Kind, Operation, remove_at_path, limited}
use Rattle.spec.specs.Patch.{proper_prefix}
use Rattle.spec.specs.Proper as Proper
use Rattle.spec.specs.Proper.{Proper, ScalarValues}
use Rattle.claims.specs.Operations.{adding, removing, replacing}
use Rattle.claims.proofs.ProperOperations.{AllCharacters, no_tokens, token, ProperOperation, walk_proper, perform_proper}
use Rattle.claims.proofs.ProperPatch.{AllProper, nothing, first}
use Rattle.reversal.specs.Undo.{result_or, value_at, remaining, element_token, parent_tokens, last_token, mended, is_replace, undo_moved, undo_move, undo_of}
use Rattle.reversal.specs.Undo.{undo_run}
use Rattle.reversal.proofs.IndexToken.{by_test, index_characters}
use Rattle.reversal.proofs.Mended.{mended_cases}
use Rattle.reversal.proofs.LikeOperations.{removed_proper}
use Rattle.reversal.proofs.EqualDocuments.{limited_performs}

pub data Plain : Operation → Type 0 where
  add : {path : Tokens} {x : Value.Value} → AllCharacters path → Proper x → Plain (adding path x)
  remove : {path : Tokens} → AllCharacters path → Plain (removing path)
  replace : {path : Tokens} {x : Value.Value} → AllCharacters path → Proper x → Plain (replacing path x)

pub data AllPlain : List Operation → Type 0 where
  none : AllPlain []
  more : {o : Operation} {os : List Operation} → Plain o → AllPlain os → AllPlain (o ∷ os)

plain_append : {os ps : List Operation} → AllPlain os → AllPlain ps → AllPlain (os ++ ps)
plain_append none q = q
plain_append (more p ps) q = more p (plain_append ps q)

null_proper : Proper (leaf Label.null_literal)
null_proper = record { allows = Proper.null_literal; items = Proper.empty }

plain_proper : {o : Operation} → Plain o → ProperOperation o
plain_proper (add a p) = record { path_characters = a; from-characters = no_tokens; value-proper = p }
plain_proper (remove a) = record { path_characters = a; from-characters = no_tokens; value-proper = null_proper }
plain_proper (replace a p) = record { path_characters = a; from-characters = no_tokens; value-proper = p }

pub all_plain_proper : {os : List Operation} → AllPlain os → AllProper os
all_plain_proper none = nothing
all_plain_proper (more p ps) = first (plain_proper p) (all_plain_proper ps)

-- values

result_proper : (v : Value.Value) (o : Outcome Value.Value) → Proper v → ((w : Value.Value) → o ≡ ok w → Proper w) → Proper (result_or v o)
unfolding result_or
result_proper v (ok w) p f = f w refl
result_proper v (refused number place) p f = p

value-proper : (path : Tokens) (v : Value.Value) → Proper v → Proper (value_at path v)
unfolding value_at
value-proper path v p = result_proper _ (walk path v) null_proper (λ w h. walk_proper path v w p h)

remaining_proper : (path : Tokens) (v : Value.Value) → AllCharacters path → Proper v → Proper (remaining path v)
unfolding remaining
remaining_proper path v a p = result_proper v (remove_at_path path v) p (λ w h. removed_proper path v w a p h)

after_proper : (o : Operation) (v : Value.Value) → ProperOperation o → Proper v → Proper (result_or v (limited o v))
after_proper o v q p = result_proper v (limited o v) p (λ w h. perform_proper o v w q p (limited_performs o v w h).0)

-- tokens

characters_last : (hs : Tokens) (l : Text) → AllCharacters hs → ScalarValues l → AllCharacters (hs ++ (l ∷ []))
characters_last [] l no_tokens s = token s no_tokens
characters_last (h ∷ hs) l (token a as') s = token a (characters_last hs l as' s)

parent_characters : (t : Text) (ts : Tokens) → ScalarValues t → AllCharacters ts → AllCharacters (parent_tokens t ts) × ScalarValues (last_token t ts)
unfolding parent_tokens last_token
parent_characters t [] s a = (no_tokens, s)
parent_characters t (u ∷ ts) s (token s' a) = let q = parent_characters u ts s' a in (token s q.0, q.1)

element_characters : (t : Text) (f : Members) → ScalarValues t → ScalarValues (element_token t f)
unfolding element_token
element_characters t f s = by_test (is_dash t) (λ q. rw q (index_characters _)) λ q. rw q s

-- the undo

mended_plain : (path : Tokens) (v : Value.Value) → AllCharacters path → Proper v → Plain (mended path v)
unfolding mended
mended_plain [] v no_tokens p = replace no_tokens p
mended_plain (t ∷ ts) v (token s a) p =
    let (hs, l) = parent_characters t ts s a in
    let parent = value_at (parent_tokens t ts) v in
    mended_cases (parent_tokens t ts) (last_token t ts) parent Plain
    (λ _. remove (characters_last _ _ hs (element_characters _ _ l)))
    (λ _ _. replace (characters_last _ _ hs l) (value-proper (last_token t ts ∷ []) parent (value-proper (parent_tokens t ts) v p)))
    (λ _ _. remove (characters_last _ _ hs l))

moved_plain : (m : Operation) (from path : Tokens) (v : Value.Value) → Plain m → AllCharacters from → AllCharacters path → Proper v →
    AllPlain (undo_moved m from path v)
unfolding undo_moved
moved_plain m from path v q a b p =
    by_test (proper_prefix path from && is_replace m.kind) (λ t. rw t (more (replace b (value-proper path v p)) none))
    λ t. rw t (more q (more (add a (value-proper from v p)) none))

move_plain : (from path : Tokens) (v : Value.Value) → AllCharacters from → AllCharacters path → Proper v → AllPlain (undo_move from path v)
unfolding undo_move
move_plain [] path v a b p = none
move_plain (t ∷ ts) path v a b p = moved_plain _ (t ∷ ts) path v (mended_plain path _ b (remaining_proper (t ∷ ts) v a p)) a b p

undo_plain : (o : Operation) (v : Value.Value) → ProperOperation o → Proper v → AllPlain (undo_of o v)
unfolding undo_of
undo_plain o v q p = go o.kind
  where
    go : (k : Kind) → AllPlain (undo_of (record { kind = k; path = o.path; from = o.from; value = o.value }) v)
    go Kind.add = more (mended_plain o.path v q.path_characters p) none
    go Kind.remove = more (add q.path_characters (value-proper o.path v p)) none
    go Kind.replace = more (replace q.path_characters (value-proper o.path v p)) none
    go Kind.move = move_plain o.from o.path v q.from-characters q.path_characters p
    go Kind.copy = more (mended_plain o.path v q.path_characters p) none
    go Kind.test = none

pub run_plain : (os : List Operation) (v : Value.Value) → AllProper os → Proper v → AllPlain (undo_run os v)
unfolding undo_run
run_plain [] v nothing p = none
run_plain (o ∷ os) v (first q a) p = plain_append (run_plain os _ a (after_proper o v q p)) (undo_plain o v q p)

pub one_plain : (o : Operation) (v : Value.Value) → ProperOperation o → Proper v → AllProper (undo_of o v)
one_plain o v q p = all_plain_proper (undo_plain o v q p)
