-- Laws of the parent of a location where a value is put in, and of its last token.
use Rattle.std.specs.Prelude.{Result, Ok, Err}
use Prim.Native.Nat.{ℕ, ◌%◌, ◌≤◌, ◌<◌}
use native.Mathlib.Omega.{arith}
use mathlib.Core.Path.{◌≡◌, ap, sym, subst, ◌∙◌}
use mathlib.Core.Bool.{Bool, true, false, true≢false}
use mathlib.Core.List.{[], ◌∷◌, ◌++◌, append_assoc}
use lib.ListN.{length, take, drop, get_or, length-drop, length-take}
use lib.Seq.{take-take}
use lib.Dec.{eqb}
use Rattle.spec.specs.Outcome.{Outcome, ok, refused}
use Rattle.spec.specs.Fault.{number_of}
use Rattle.spec.specs.declared.refusal.Refusal.{Refusal}
use Rattle.spec.specs.declared.refusal.Fault.{Fault}
use Rattle.spec.specs.Bytes.{Bytes, Text}
use Rattle.spec.specs.Forest.{count, nth}
use Rattle.spec.specs.Value as Value
use Rattle.spec.specs.Value.{depth, is_array, is_object, has, find, value_of}
use Rattle.spec.specs.Pointer.{Tokens, tokens, walk, child_at, child, member_named, is_dash, farther}
use Rattle.spec.specs.Operation.{add_at}
use Rattle.spec.proofs.OutcomeLaws.{refused≢ok}
use Rattle.spec.proofs.PlaceLaws.{walk_on}
use Rattle.claims.specs.Pointers.{pointer_of}
use Rattle.claims.proofs.PointersTheorem.{pointers}
use Rattle.text.specs.Decode.{decode, text_of}
use Rattle.tape.specs.Layout.{document_row, array_kind, object_kind, values}
use Rattle.tape.specs.Fields.{kind_of}
use Rattle.tape.specs.declared.fields.Spelling.{Spelling}
use Rattle.tape.specs.declared.fields.Name.{Name}
use Rattle.tape.specs.Rows.{ArityIs, child_row}
use Rattle.tape.specs.Lent.{Texts, Table}
use Rattle.tape.proofs.Cells.{blank, formed_fit}
use Rattle.tape.proofs.Map.{count_map}
use Rattle.tape.proofs.Rows.{kind_here}
use Rattle.tape.proofs.Held.{held_node}
use Rattle.table.specs.Meaning.{source_text, part_of, spelled, name_text, meant, entry_of}
use Rattle.table.proofs.MeaningLaws.{is_array_label, is_object_label}
use Rattle.walk.specs.Names.{Short, NamesToken, TokenNameIs}
use Rattle.walk.specs.Step.{Stepped, stepped, missed, StepIs}
use Rattle.walk.specs.Path.{PathIs, WalkIs}
use Rattle.walk.proofs.Children.{child-meant, child_held}
use Rattle.pointer.specs.Tokens.{TokenAt, token_bytes}
use Rattle.pointer.specs.declared.answers.Token.{Token}
use Rattle.pointer.proofs.WalkLaws.{first-token}
use Rattle.changes.specs.Document.{Document}
use Rattle.reversal.specs.Undo.{value_at, index_token, element_token, parent_tokens, last_token, mended_in}
use Rattle.reversal.proofs.IndexToken.{by_test}
use Rattle.reversal.proofs.LikeChildren.{object-child, named_there, named_nowhere}
use Rattle.reversal.proofs.Mended.{value-here, mended_element, mended_old, mended_new, inserted_by}
use Rattle.undo_log.specs.Log.{target_text, ValueHeld, Undoes, undo_remove, undo_replace}
use Rattle.undo.specs.Mend.{Cuts, CutIs, shortened, Present, Addable, Site}
use Rattle.undo.specs.declared.cuts.Cut.{Cut}
use Rattle.undo_log.specs.declared.note.Action.TheVariants as Action
use Rattle.undo_log.specs.declared.note.Target.TheVariants as Target
use Rattle.undo.proofs.PathLaws.{parent_last, pointer_then, index_escape, parent_there, value-walked, depth_walked}
use Rattle.undo.proofs.MendLaws.{target_at, walked-value}

-- ---- the first bytes of a pointer
source_short : (T : Texts) (source : ℕ) → Short T → length (source_text T source) < values
unfolding source_text
source_short T source short = by_test (eqb source 0) (λ q. rw q short.document) λ q. rw q short.patch

pub part-shortened : (T : Texts) (path : Spelling) (n : ℕ) → Short T → n ≤ length (part_of T path) → part_of T (shortened path n) ≡ take n (part_of T path)
unfolding part_of
part-shortened T path n short h =
    let all = drop path.start (source_text T path.source) in
    let within = source_short T path.source short in
    let few : length all ≤ length (source_text T path.source) = omega (arith, length-drop path.start (source_text T path.source)) in
    let inside : n ≤ path.length = omega (arith, length-take path.length all) in
    let small : n < values = omega (arith, length-take path.length all) in
    let same : n % values ≡ n = omega arith in
    ap (λ k. take k all) same ∙ sym (take-take n path.length all inside)

-- ---- a location by its parent
module _ {w : Table} {used : ℕ} {v : Value.Value} (d : Document w used v) (short : Short w.texts) {path : Spelling} {t : Text} {ts : Tokens}
    (path_is : PathIs w.texts path (t ∷ ts)) (pointer : Bytes) (pointer_is : pointer ≡ part_of w.texts path) {cut : Cut} (cuts : CutIs pointer cut) where
  cuts_is : Cuts (part_of w.texts path) t ts cut
  cuts_is = subst (λ s. Cuts s t ts cut) pointer_is (cuts t ts (ap (λ s. tokens (decode s)) pointer_is ∙ path_is.is))

  -- the pointer of the parent
  pub parent_path : (parent : Spelling) → parent ≡ shortened path cut.end → PathIs w.texts parent (parent_tokens t ts)
  parent_path parent parent_is =
      let is = cuts_is in
      let same = part-shortened w.texts path cut.end short (omega (arith, is.order, is.inside)) in
      record { is = ap (λ s. tokens (decode s)) (ap (part_of w.texts) parent_is ∙ same) ∙ ap tokens is.parent ∙ pointers.read_back (parent_tokens t ts) }

  -- the name of the last token
  last_named : {tok : Token} {name : Name} → TokenAt pointer cut.next tok → TokenNameIs w.texts path cut.next tok name
      → NamesToken w.texts name (last_token t ts)
  last_named {tok} {name} at named =
      let is = cuts_is in
      let here = subst (λ s. TokenAt s cut.next tok) pointer_is at in
      let first = first-token (part_of w.texts path) cut.next tok (last_token t ts ∷ []) here is.last in
      let same : text_of 3 (token_bytes (part_of w.texts path) cut.next tok) ≡ last_token t ts = one first.is in
      let n = named.names short is.inside in
      record { token = n.token; says = n.says ∙ same }
    where
      one : {a b : Text} {cs : Tokens} → a ∷ [] ≡ b ∷ cs → b ≡ a
      one e = cc

  -- all that is known there
  pub site_there : {tok : Token} {name : Name} {s : Result ℕ Fault} {row : ℕ} (parent : Spelling) → parent ≡ shortened path cut.end → WalkIs w document_row parent s
      → s ≡ Ok row
      → TokenAt pointer cut.next tok → TokenNameIs w.texts path cut.next tok name → Addable (t ∷ ts) v
      → Site w path cut.next row name t ts (value_at (parent_tokens t ts) v)
  unfolding add_at
  site_there {s = s} parent parent_is walked e at named there =
      let p = parent_there there.new t ts v there.result there.is in
      let same = value-walked (parent_tokens t ts) v p.value p.there in
      record {
        short = short;
        whole = path_is;
        up_to_last = cuts_is.up_to_last;
        inside = cuts_is.inside;
        named = last_named at named;
        parent = walked-value s walked e d short (parent_path parent parent_is);
        new = there.new;
        result = p.result;
        addable = rw same p.added;
      }

  pub parent_present : Addable (t ∷ ts) v → Present (parent_tokens t ts) v
  unfolding add_at
  parent_present there =
      let p = parent_there there.new t ts v there.result there.is in
      record { value = p.value; is = p.there }

-- ---- in an array
module _ {w : Table} {path : Spelling} {next row : ℕ} {name : Name} {t : Text} {ts : Tokens} {p : Value.Value} (z : Site w path next row name t ts p) where
  whole_target : target_text w.texts (Target.At path) ≡ pointer_of (parent_tokens t ts ++ (last_token t ts ∷ []))
  whole_target = target_at z.whole ∙ ap pointer_of (sym (parent_last t ts))

  index_target : (n : ℕ) → target_text w.texts (Target.Appended (shortened path next) n) ≡ pointer_of (parent_tokens t ts ++ (index_token n ∷ []))
  unfolding target_text
  index_target n =
      ap (λ s. decode s ++ index_token n) (part-shortened w.texts path next z.short z.inside)
      ∙ ap (λ l. l ++ index_token n) z.up_to_last
      ∙ append_assoc (pointer_of (parent_tokens t ts)) (47 ∷ []) (index_token n)
      ∙ ap (λ x. pointer_of (parent_tokens t ts) ++ (47 ∷ x)) (sym (index_escape n))
      ∙ sym (pointer_then (parent_tokens t ts) (index_token n))

  pub element_count : {n : ℕ} → ArityIs w.nodes row n → n ≡ count p.kids
  element_count {n} is =
      is.held z.parent.c z.parent.kids (record { rest = z.parent.held.rest; held = z.parent.held.held })
      ∙ sym (count_map (entry_of w.texts) z.parent.kids) ∙ ap (λ u. count u.kids) z.parent.means

  -- whether the last token is `-`
  pub dash_told : (s : Bytes) → s ≡ part_of w.texts name.text → {r : Bool} → r ≡ is_dash (text_of 3 s) → (b : Bool) → r ≡ b → is_dash (last_token t ts) ≡ b
  unfolding spelled
  dash_told s part_is told b e =
      ap is_dash (sym z.named.says ∙ ap (λ f. text_of f (part_of w.texts name.text)) z.named.token.form ∙ ap (text_of 3) (sym part_is))
      ∙ sym told ∙ e

  module _ (array : is_array p.label ≡ true) where
    pub dash_undoes : (front : Spelling) → front ≡ shortened path next → {n : ℕ} → ArityIs w.nodes row n → is_dash (last_token t ts) ≡ true
        → Undoes w (Target.Appended front n) Action.Remove (mended_in (parent_tokens t ts) (last_token t ts) p)
    unfolding element_token
    dash_undoes front front-is {n} is dash =
        rw (front-is, mended_element (parent_tokens t ts) (last_token t ts) p array, dash, ← element_count is)
        (undo_remove (parent_tokens t ts ++ (index_token n ∷ [])) (index_target n))

    pub index_undoes : is_dash (last_token t ts) ≡ false → Undoes w (Target.At path) Action.Remove (mended_in (parent_tokens t ts) (last_token t ts) p)
    unfolding element_token
    index_undoes dash =
        rw (mended_element (parent_tokens t ts) (last_token t ts) p array, dash) (undo_remove (parent_tokens t ts ++ (last_token t ts ∷ [])) whole_target)

  -- ---- in an object
  module _ (other : is_array p.label ≡ false) where
    an-object : is_object p.label ≡ true
    an-object =
        inserted_by z.new (last_token t ts) p z.result z.addable (λ a i. absurd (true≢false (sym a ∙ other))) λ a o i. o

    member-child : child_at (last_token t ts) p ≡ member_named (last_token t ts) p.kids
    member-child = object-child (last_token t ts) p other an-object

    -- the outcome of the step, said of the last token and the parent
    step_is : {q : Outcome ℕ} → child_at (name_text w.texts name) (meant w.texts z.parent.c z.parent.kids) ≡ q → child_at (last_token t ts) p ≡ q
    step_is e = sym (ap (λ n. child_at n p) z.named.says) ∙ sym (ap (child_at (name_text w.texts name)) z.parent.means) ∙ e

    old_there : (k : ℕ) → child_at (last_token t ts) p ≡ ok k → has (last_token t ts) p.kids ≡ true
    old_there k e =
        by_test (has (last_token t ts) p.kids) (λ h. h) λ h.
        absurd (refused≢ok (sym (named_nowhere (last_token t ts) p.kids h) ∙ sym member-child ∙ e))

    new_there : (number : ℕ) → child_at (last_token t ts) p ≡ refused number 0 → has (last_token t ts) p.kids ≡ false
    new_there number e =
        by_test (has (last_token t ts) p.kids)
        (λ h. absurd (refused≢ok (sym e ∙ member-child ∙ named_there (last_token t ts) p.kids h))) λ h. h

    child-value : (k at : ℕ) → child_at (last_token t ts) p ≡ ok k → k < count z.parent.kids → at ≡ child_row row k z.parent.kids
        → ValueHeld w at (value_at (last_token t ts ∷ []) p)
    unfolding walk farther
    child-value k at e l place =
        let here : value_at (last_token t ts ∷ []) p ≡ value_of (child k p) = value-here (last_token t ts) p k e in
        let means : meant w.texts (nth blank k z.parent.kids).root (nth blank k z.parent.kids).kids ≡ value_of (child k p) =
        ap value_of (sym (child-meant w.texts k z.parent.c z.parent.kids)) ∙ ap (λ u. value_of (child k u)) z.parent.means in
        let deep = depth_walked (last_token t ts ∷ []) p (value_of (child k p)) (walk_on (last_token t ts) [] p k e) in
        record {
          c = (nth blank k z.parent.kids).root;
          kids = (nth blank k z.parent.kids).kids;
          held = rw place (child_held z.parent.held k l);
          means = means ∙ sym here;
          shallow = omega (arith, ap depth here, deep, z.parent.shallow);
        }

    pub old_undoes : {r : Result ℕ Refusal} (child-row : ℕ) → StepIs w row name r → r ≡ Ok child-row
        → Undoes w (Target.At path) (Action.Replace child-row) (mended_in (parent_tokens t ts) (last_token t ts) p)
    old_undoes {r} child-row is e = go (is.held z.named.token z.parent.c z.parent.kids z.parent.held) e
      where
        go : {q : Result ℕ Refusal} → Stepped row z.parent.kids (child_at (name_text w.texts name) (meant w.texts z.parent.c z.parent.kids)) q
            → q ≡ Ok child-row → Undoes w (Target.At path) (Action.Replace child-row) (mended_in (parent_tokens t ts) (last_token t ts) p)
        go (stepped k at f l place) g =
            let same : at ≡ child-row = cc in
            let there = step_is f in
            rw (mended_old (parent_tokens t ts) (last_token t ts) p other (old_there k there), ← same)
            (undo_replace (parent_tokens t ts ++ (last_token t ts ∷ [])) whole_target (child-value k at there l place))
        go (missed n f) g = absurd (let y : ◌≡◌ {A = ℕ} 0 1 = cc in omega arith)

    pub new_undoes : {r : Result ℕ Refusal} (f : Refusal) → StepIs w row name r → r ≡ Err f
        → Undoes w (Target.At path) Action.Remove (mended_in (parent_tokens t ts) (last_token t ts) p)
    new_undoes {r} f is e = go (is.held z.named.token z.parent.c z.parent.kids z.parent.held) e
      where
        go : {q : Result ℕ Refusal} → Stepped row z.parent.kids (child_at (name_text w.texts name) (meant w.texts z.parent.c z.parent.kids)) q
            → q ≡ Err f → Undoes w (Target.At path) Action.Remove (mended_in (parent_tokens t ts) (last_token t ts) p)
        go (stepped k at f l place) g = absurd (let y : ◌≡◌ {A = ℕ} 0 1 = cc in omega arith)
        go (missed x none) g =
            rw (mended_new (parent_tokens t ts) (last_token t ts) p other (new_there (number_of x) (step_is none)))
            (undo_remove (parent_tokens t ts ++ (last_token t ts ∷ [])) whole_target)

-- ---- an array or not, by the kind in the row
module _ {w : Table} {row : ℕ} {p : Value.Value} (h : ValueHeld w row p) (k : ℕ) (kind : k ≡ kind_of (get_or w.nodes row [])) where
  cell_kind : k ≡ h.c.kind
  cell_kind = kind ∙ kind_here (held_node h.held.held)

  pub row-array : is_array p.label ≡ eqb k array_kind
  row-array =
      sym (ap (λ u. is_array u.label) h.means)
      ∙ is_array_label w.texts h.c.kind h.c.value (formed_fit h.held.held.formed).kind ∙ ap (λ n. eqb n array_kind) (sym cell_kind)

  pub row-object : is_object p.label ≡ eqb k object_kind
  row-object =
      sym (ap (λ u. is_object u.label) h.means)
      ∙ is_object_label w.texts h.c.kind h.c.value (formed_fit h.held.held.formed).kind ∙ ap (λ n. eqb n object_kind) (sym cell_kind)
