-- Laws of what takes back a value that is put in at a location.
use Rattle.std.specs.Prelude.{Result, Ok, Err}
use Prim.Native.Nat.{ℕ}
use native.Mathlib.Omega.{arith}
use mathlib.Core.Path.{◌≡◌, refl, ap, sym, subst, ◌∙◌}
use mathlib.Core.Bool.{Bool, true, false}
use mathlib.Core.List.{[], ◌∷◌}
use lib.Dec.{ltb}
use Rattle.spec.specs.declared.refusal.Fault.{Fault}
use Rattle.spec.specs.Bytes.{Bytes, Text}
use Rattle.spec.specs.Worth.{decimal}
use Rattle.spec.specs.Value as Value
use Rattle.spec.specs.Value.{depth, is_array, is_object, has, find, value_of}
use Rattle.spec.specs.Pointer.{Tokens, is_dash, is_index}
use Rattle.spec.proofs.OutcomeLaws.{refused≢ok}
use Rattle.claims.specs.Pointers.{pointer_of}
use Rattle.claims.proofs.PointersTheorem.{pointers}
use Rattle.text.specs.Decode.{decode}
use Rattle.tape.specs.Layout.{document_row}
use Rattle.tape.specs.declared.fields.Spelling.{Spelling}
use Rattle.tape.specs.Lent.{Texts, Table}
use Rattle.table.specs.Meaning.{part_of, meant}
use Rattle.walk.specs.Names.{Short}
use Rattle.walk.specs.Path.{PathIs, WalkIs}
use Rattle.pointer.specs.Tokens.{FirstOf}
use Rattle.pointer.specs.declared.answers.First.{First}
use Rattle.pointer.proofs.WalkLaws.{first_root, first_at, first_malformed}
use Rattle.pointer.specs.Index.{index_at, index_of, index_limit}
use Rattle.pointer.specs.declared.answers.Index.{Index}
use Rattle.changes.specs.Document.{Document}
use Rattle.changes.proofs.TokenLaws.{some_token}
use Rattle.changes.proofs.DocumentLaws.{the_value, no_value}
use Rattle.reversal.specs.Undo.{value_at, mended}
use Rattle.reversal.proofs.IndexToken.{by_test}
use Rattle.undo_log.specs.Log.{Noted, target_text, ValueHeld, undo_add, undo_replace, NoteIs}
use Rattle.undo.specs.Mend.{Present, Addable, NoteRemovedIs, NoteReplacedIs, MendIs, MendBelowIs}
use Rattle.undo_log.specs.declared.log.Log.{Log}
use Rattle.undo_log.specs.declared.note.Action.TheVariants as Action
use Rattle.undo_log.specs.declared.note.Target.TheVariants as Target
use Rattle.undo.proofs.PathLaws.{value-walked, depth_walked}

-- ---- a pointer of the patch is written as it stands
pub target_at : {T : Texts} {path : Spelling} {ts : Tokens} → PathIs T path ts → target_text T (Target.At path) ≡ pointer_of ts
unfolding target_text
target_at {T} {path} {ts} p = sym (pointers.written_so (decode (part_of T path)) ts p.is)

-- ---- the value at a location, as it stands
module _ {w : Table} {path : Spelling} (s : Result ℕ Fault) (is : WalkIs w document_row path s) where
  pub walked-value : {used row : ℕ} {v : Value.Value} {ts : Tokens} → s ≡ Ok row → Document w used v → Short w.texts → PathIs w.texts path ts
      → ValueHeld w row (value_at ts v)
  walked-value {v = v} {ts} e d short p =
      the_value s is d short p e λ c kids f node inside.
      let at : meant w.texts c kids ≡ value_at ts v = sym (value-walked ts v (meant w.texts c kids) f) in
      record {
        c = c;
        kids = kids;
        held = node;
        means = at;
        shallow = omega (arith, ap depth at, depth_walked ts v (meant w.texts c kids) f, d.shallow);
      }

  module _ {log r : Log} {before after : Bytes} (row : ℕ) (e : s ≡ Ok row) where
    pub removed_noted : NoteIs w log (Action.Add row) (Target.At path) before after r → NoteRemovedIs w log path before after r
    removed_noted note used v d short ts p there os noted =
        note os _ noted (undo_add ts (target_at p) (walked-value e d short p))

    pub replaced-noted : NoteIs w log (Action.Replace row) (Target.At path) before after r → NoteReplacedIs w log path before after r
    replaced-noted note used v d short ts p there os noted =
        note os _ noted (undo_replace ts (target_at p) (walked-value e d short p))

  -- a value that is there is found
  pub not_lost : {C : Type 0} {used : ℕ} {v : Value.Value} {ts : Tokens} {f : Fault} → s ≡ Err f → Document w used v → Short w.texts
      → PathIs w.texts path ts → Present ts v → C
  not_lost e d short p there = absurd (refused≢ok (sym (no_value s is d short p e) ∙ there.is))

-- ---- a token is `-`
unfoldable dash_index : Index → Bool
dash_index Index.Dash = true
dash_index (Index.At n) = false
dash_index Index.Beyond = false
dash_index Index.Not = false

no_dash : (n : ℕ) → dash_index (index_at n) ≡ false
unfolding dash_index index_at
no_dash n = by_test (ltb n index_limit) (λ q. rw q) λ q. rw q

dash_index_lem : (t : Text) → dash_index (index_of t) ≡ is_dash t
unfolding index_of dash_index
dash_index_lem t =
    by_test (is_dash t) (λ q. rw q) λ q.
    by_test (is_index t) (λ p. rw (q, p) (no_dash (decimal 0 t))) λ p. rw (q, p)

module _ (t : Text) {i : Index} (is : i ≡ index_of t) where
  pub told_dash : i ≡ Index.Dash → true ≡ is_dash t
  unfolding dash_index
  told_dash e = sym (ap dash_index e) ∙ ap dash_index is ∙ dash_index_lem t

  pub told_other : (i ≡ Index.Dash → ⊥) → false ≡ is_dash t
  unfolding dash_index
  told_other e = sym (go i e) ∙ ap dash_index is ∙ dash_index_lem t
    where
      go : (j : Index) → (j ≡ Index.Dash → ⊥) → dash_index j ≡ false
      go Index.Dash f = absurd (f refl)
      go (Index.At n) f = refl
      go Index.Beyond f = refl
      go Index.Not f = refl

-- ---- the root
pub root_noted : {w : Table} {path : Spelling} {log r : Log} {before after : Bytes} (f : First) → FirstOf (part_of w.texts path) f → f ≡ First.Root
    → NoteIs w log (Action.Replace document_row) (Target.At path) before after r → MendIs w log path before after r
unfolding mended
root_noted {w} {path} f first e note used v d short ts p there os noted =
    let none : ts ≡ [] = first_root (part_of w.texts path) f first ts e p.is in
    let whole : ValueHeld w document_row v =
    record { c = d.c; kids = d.kids; held = d.held; means = d.means; shallow = d.shallow } in
    rw none (note os _ noted (undo_replace [] (target_at p ∙ ap pointer_of none) whole))

pub below_noted : {w : Table} {path : Spelling} {log r : Log} {before after : Bytes} (f : First) → FirstOf (part_of w.texts path) f → (at : ℕ)
    → f ≡ First.At at → MendBelowIs w log path before after r → MendIs w log path before after r
below_noted {w} {path} {log} {r} {before} {after} f first at e below used v d short ts p there os noted =
    some_token (part_of w.texts path) at ts (first_at (part_of w.texts path) f first at ts e p.is) λ t us some.
    subst (λ l. Noted r after (mended l v ∷ os)) (sym some) (below used v d short t us (subst (PathIs w.texts path) some p)
    (subst (λ l. Addable l v) some there) os noted)

pub malformed_noted : {w : Table} {path : Spelling} {log : Log} {before : Bytes} (f : First) → FirstOf (part_of w.texts path) f → f ≡ First.Malformed
    → MendIs w log path before before log
malformed_noted {w} {path} f first e used v d short ts p there os noted =
    absurd (first_malformed (part_of w.texts path) f first ts e p.is)
