-- Laws of a move between two children of one node, by the definitions: at the node itself, and at each node above it.
use Rattle.std.specs.Prelude.{if◌then◌else◌}
use Prim.Native.Nat.{ℕ, suc, ◌<◌, ◌≤◌}
use mathlib.Core.Path.{◌≡◌, refl, ap, sym, ◌∙◌}
use mathlib.Core.Bool.{Bool, true, false}
use mathlib.Core.List.{[], ◌∷◌}
use borrow.Author.Tests.{eq-eqb}
use Rattle.spec.specs.Outcome.{ok, ◌>>=◌}
use Rattle.spec.specs.Bytes.{Text}
use Rattle.spec.specs.Forest.{Forest, Tree, count, nth, insert_at, remove_at}
use Rattle.spec.specs.Value.{Label}
use Rattle.spec.specs.Pointer as PlainPointer
use Rattle.spec.specs.Pointer.{Tokens, farther, is_dash, element_below}
use Rattle.spec.proofs.OutcomeLaws.{refused≢ok, both_ok}
use Rattle.spec.proofs.ForestLaws.{nth-replace_at, replace_at-twice}
use Rattle.spec.proofs.ChildLaws.{child_there, child_at-put}
use Rattle.claims.proofs.RemoveAddLaws.{count-remove_at}
use Rattle.origin.specs.Value as Value
use Rattle.origin.specs.Value.{named, leaf, value_of, forget}
use Rattle.origin.specs.Pointer.{child_at, child, walk}
use Rattle.origin.specs.Operation.{put, with_kids, at_parent, insert_element, insert_child, remove_child, add_at, remove_at_path, move_to}
use Rattle.origin.proofs.ForgetLaws.{forget-put}
use Rattle.origin.proofs.OperationLaws.{walk_on, there}
use Rattle.tape.specs.Layout.{no_text, array_kind, object_kind}
use Rattle.tape.specs.declared.fields.Name.{Name}
use Rattle.tape.specs.declared.fields.Cell.{Cell}
use Rattle.tape.specs.Lent.{Texts}
use Rattle.tape.proofs.Cells.{blank}
use Rattle.tape.proofs.Map.{count_map}
use Rattle.text.specs.Decode.{text_from, text_of}
use Rattle.table.specs.Meaning.{spelled, name_text}
use Rattle.table.proofs.MeaningLaws.{is_array_label}
use Rattle.walk.specs.Bearing.{bearing, borne_members, borne}
use Rattle.walk.proofs.Children.{child-borne}
use Rattle.changes.proofs.BorneLaws.{members-borne, removed_borne, inserted_borne}

-- ---- at a node above: both pointers begin with one token
module _ (t : Text) (v : Value.Value) (k : ℕ) (h : child_at t v ≡ ok k) where
  put-named : (x : Value.Value) → child_at t (put k x v) ≡ ok k
  put-named x = ap (PlainPointer.child_at t) (forget-put k x v) ∙ child_at-put k (forget x) (forget v) (child_there t (forget v) k h) t ∙ h

  child-put : (x : Value.Value) → child k (put k x v) ≡ named (child k v).root.name x
  unfolding child put
  child-put x = nth-replace_at (named [] (leaf 0 Label.null_literal)) (named (child k v).root.name x) k v.kids (there t v k h)

  put-put : (x y : Value.Value) → put k y (put k x v) ≡ put k y v
  unfolding put
  put-put x y =
      let low : k < count v.kids = there t v k h in
      rw (child-put x, replace_at-twice)

  module _ (a b : Text) (ts us : Tokens) (y : Value.Value) where
    up_by : (x left : Value.Value) → walk (a ∷ ts) (value_of (child k v)) ≡ ok x → remove_at_path (a ∷ ts) (value_of (child k v)) ≡ ok left
        → add_at (b ∷ us) x left ≡ ok y → move_to (t ∷ a ∷ ts) (t ∷ b ∷ us) v ≡ ok (put k y v)
    unfolding move_to remove_at_path add_at at_parent ◌>>=◌ farther
    up_by x left walked removed added =
        let one : walk (t ∷ a ∷ ts) v ≡ ok x = walk_on t (a ∷ ts) v k h ∙ ap farther walked in
        let two : remove_at_path (t ∷ a ∷ ts) v ≡ ok (put k left v) = rw (h, removed) in
        let three : add_at (t ∷ b ∷ us) x (put k left v) ≡ ok (put k y v) = rw (put-named left, child-put left, added) (ap ok (put-put left y)) in
        rw (one, two, three)

    pub moved_up : move_to (a ∷ ts) (b ∷ us) (value_of (child k v)) ≡ ok y → move_to (t ∷ a ∷ ts) (t ∷ b ∷ us) v ≡ ok (put k y v)
    unfolding move_to
    moved_up e =
        let (x, walked, e₁) = both_ok (walk (a ∷ ts) (value_of (child k v))) _ y e in
        let (left, removed, added) = both_ok (remove_at_path (a ∷ ts) (value_of (child k v))) _ y e₁ in
        up_by x left walked removed added

-- ---- at the parent, which is an array
-- a name that has no text
no_text_lem : (T : Texts) (name : Name) → name.text.form ≡ no_text → name_text T name ≡ []
unfolding spelled text_of text_from
no_text_lem T name e = rw e

module _ (T : Texts) (c : Cell) (kids : Forest Cell) (fits : c.kind ≤ object_kind) (array : c.kind ≡ array_kind) where
  element_at_lem : (u : Text) (j : ℕ) → child_at u (borne T c kids) ≡ ok j → element_below (count kids) u ≡ ok j
  unfolding PlainPointer.child_at
  element_at_lem u j h =
      let e = rw (is_array_label T c.kind c.value fits, eq-eqb c.kind array_kind array, members-borne T kids, count_map) at h in e

  -- an index of an element that is there
  placed_at : (n : ℕ) (u : Text) (j m : ℕ) → element_below n u ≡ ok j → (if is_dash u then ok m else element_below n u) ≡ ok j
  unfolding element_below
  placed_at n u j m h = go (is_dash u) refl
    where
      go : (dash : Bool) → is_dash u ≡ dash → (if is_dash u then ok m else element_below n u) ≡ ok j
      go true e = absurd (refused≢ok (rw e at h))
      go false e = ap (λ b. if b then ok m else element_below n u) e ∙ h

  module _ (t u : Text) (i j : ℕ) (ith : child_at t (borne T c kids) ≡ ok i) (jth : child_at u (borne T c kids) ≡ ok j) (low : i < count kids)
      (nameless : (nth blank i kids).root.name.text.form ≡ no_text) where
    abbrev moving : Tree Cell
    moving = nth blank i kids

    pub moved_here : move_to (t ∷ []) (u ∷ []) (borne T c kids) ≡ ok (borne T c (insert_at j moving (remove_at i kids)))
    unfolding move_to walk remove_at_path add_at at_parent remove_child insert_child insert_element ◌>>=◌ farther
    moved_here =
        let v = borne T c kids in
        let x = borne T moving.root moving.kids in
        let left = remove_at i kids in
        let one : walk (t ∷ []) v ≡ ok x = rw ith (ap (λ b. ok (value_of b)) (child-borne T i c kids)) in
        let two : remove_at_path (t ∷ []) v ≡ ok (borne T c left) = rw ith (ap ok (removed_borne T i c kids)) in
        let many : suc (count (borne_members T left)) ≡ count kids = ap suc (count_map (bearing T) left) ∙ count-remove_at i kids low in
        let place : (if is_dash u then ok (count (borne_members T left)) else element_below (suc (count (borne_members T left))) u) ≡ ok j =
        rw many (placed_at (count kids) u j (count (borne_members T left)) (element_at_lem u j jth)) in
        let three : add_at (u ∷ []) x (borne T c left) ≡ ok (borne T c (insert_at j moving left)) =
        rw (is_array_label T c.kind c.value fits, eq-eqb c.kind array_kind array, place)
        (ap (λ n. ok (with_kids (borne T c left) (insert_at j (named n x) (borne_members T left)))) (sym (no_text_lem T moving.root.name nameless))
        ∙ ap ok (inserted_borne T j c left moving.root moving.kids moving.root.name)) in
        rw (one, two, three)
