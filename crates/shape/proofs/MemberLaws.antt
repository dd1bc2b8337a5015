-- Laws of a search for a member: the child that it finds, and the string that this is.
use Prim.Native.Nat.{ℕ, zero, suc, ◌+◌, ◌≤◌, ◌<◌}
use Rattle.std.specs.Prelude.{Option, Some, None}
use native.Mathlib.Omega.{arith}
use mathlib.Core.Path.{◌≡◌, refl, sym, ap, ◌∙◌, subst}
use mathlib.Core.Bool.{Bool, true, false}
use mathlib.Core.List.{List, []}
use lib.Dec.{eqb}
use lib.ListN.{length, get_or, get_or-eq_default}
use borrow.Author.Tests.{lt-ltb, le-ltb, eq-eqb, ne_eqb, eqb-true, eqb-false}
use Rattle.spec.specs.Outcome.{Outcome, ok, refused, ◌>>=◌}
use Rattle.spec.specs.Refusal.{wrong_shape}
use Rattle.spec.specs.Bytes.{Bytes, Text}
use Rattle.spec.specs.Forest.{Forest, count, size, from, nth}
use Rattle.spec.specs.Value as Value
use Rattle.spec.specs.Value.{Label, leaf, named, find, is_string, tag, content}
use Rattle.spec.specs.Pointer.{child}
use Rattle.spec.specs.Patch.{member, string_member, string_of}
use Rattle.text.specs.Decode.{decode, text_of, text_from}
use Rattle.tape.specs.Fields.{Row, kind_of, value_of}
use Rattle.tape.specs.declared.fields.Spelling.{Spelling}
use Rattle.tape.specs.declared.fields.Cell.{Cell}
use Rattle.tape.specs.Rows.{end_of, child_row}
use Rattle.tape.specs.Map.{map_forest, map_tree}
use Rattle.tape.proofs.Cells.{formed_fit, blank}
use Rattle.tape.proofs.Rows.{kind_here, cell_here, end_here}
use Rattle.tape.proofs.Forests.{size_kth}
use Rattle.tape.proofs.Held.{held_node, held_kids, held_child}
use Rattle.tape.proofs.Map.{count_map, size-map, map-nth}
use Rattle.table.specs.Meaning.{part_of, spelled, label_of, entry_of, members, meant}
use Rattle.table.specs.Sound.{NodeHeld, RowsHeld}
use Rattle.table.specs.Find as Find
use Rattle.table.specs.Find.{Found, FindAsciiIs}
use Rattle.table.proofs.AllLaws.{all_first, all_kids, all_nth}
use Rattle.table.proofs.MeaningLaws.{is_string_label}
use Rattle.table.proofs.Search.{finds_ascii}
use Rattle.shape.specs.Members.{Sought, found, missing, MemberIs, text_outcome, TextIs, string_in, string_at, StringIs}
use Rattle.tape.specs.Lent.{Texts, Table}

-- ---- a member
module _ {w : Table} {row : ℕ} {c : Cell} {kids : Forest Cell} (n : NodeHeld w row c kids) where
  -- where the members stand
  pub members-asked : (end : ℕ) → end ≡ end_of w.nodes row → RowsHeld w (row + 1) end kids
  members-asked end e = record { held = held_kids n.held; ends = sym (e ∙ end_here (held_node n.held)); sound = n.sound }

  blank_means : map_tree (entry_of w.texts) blank ≡ named [] (leaf Label.null_literal)
  unfolding spelled text_of text_from label_of map_forest
  blank_means = refl

  child_means : (k : ℕ) → child k (meant w.texts c kids) ≡ map_tree (entry_of w.texts) (nth blank k kids)
  unfolding child
  child_means k = ap (λ t. nth t k (members w.texts kids)) (sym blank_means) ∙ sym (map-nth (entry_of w.texts) blank k kids)

  module _ (k : ℕ) (l : k < count kids) where
    held-member : NodeHeld w (child_row row k kids) (nth blank k kids).root (nth blank k kids).kids
    held-member =
        let sound = all_nth blank k l n.sound in
        record { rest = from (suc k) kids; held = held_child n.held blank k l; label = (all_first sound).label; sound = all_kids sound }

    member-there : (name : Text) → find name (members w.texts kids) ≡ k
        → member name (meant w.texts c kids) ≡ ok (meant w.texts (nth blank k kids).root (nth blank k kids).kids)
    unfolding member
    member-there name is = rw (is, count_map (entry_of w.texts) kids, lt-ltb k (count kids) l) (ap (λ t. ok (Value.value_of t)) (child_means k))

  member-missing : (name : Text) → find name (members w.texts kids) ≡ count kids → member name (meant w.texts c kids) ≡ refused wrong_shape 0
  unfolding member
  member-missing name is = rw (is, count_map (entry_of w.texts) kids, le-ltb (count kids) (count kids) (omega arith))

  -- what the search answers is the member
  member-sought : {name : Text} {r : Option ℕ} → Found w.texts (row + 1) kids name r → Sought w row name (meant w.texts c kids) r
  unfolding child_row
  member-sought {name} (Find.found k at is l place) =
      let all : size (members w.texts kids) ≡ size kids = size-map (entry_of w.texts) kids in
      found {at = at} {below = (nth blank k kids).kids} (omega (arith, place)) (omega (arith, place, all, size_kth blank k kids l))
      (subst (λ a. NodeHeld w a (nth blank k kids).root (nth blank k kids).kids) (sym place) (held-member k l))
      (member-there k l name is)
  member-sought {name} (Find.missing is) = missing (member-missing name is)

-- each way out of `member`
module _ {w : Table} {row : ℕ} {name : Text} where
  pub member_is : {r : Option ℕ} {end : ℕ} → end ≡ end_of w.nodes row → FindAsciiIs w (row + 1) end name r → MemberIs w row name r
  member_is {r} {end} e is =
      record {
        rows = subst (λ n. FindAsciiIs w (row + 1) n name r) e is;
        held = λ c kids n. member-sought n (is.held kids (members-asked n end e));
      }

  pub member-out : length w.nodes ≤ row → MemberIs w row name None
  member-out h = member_is refl (finds_ascii _ refl refl (Find.sought_over (omega arith)))

-- ---- a string
-- a text between quotation marks, read where it stands
form_decodes : (form : ℕ) (s : Bytes) → 1 ≤ form → form ≤ 2 → text_of form s ≡ decode s
unfolding text_of text_from decode
form_decodes zero s low high = absurd (omega arith)
form_decodes (suc zero) s low high = refl
form_decodes (suc (suc zero)) s low high = refl
form_decodes (suc (suc (suc form))) s low high = absurd (omega arith)

module _ (T : Texts) (kind : ℕ) (value : Spelling) where
  string-label : kind ≡ 4 → string_of (label_of T kind value) ≡ ok (spelled T value)
  unfolding string_of label_of is_string tag content
  string-label e = rw e

  other_label : kind ≤ 6 → (kind ≡ 4 → ⊥) → string_of (label_of T kind value) ≡ refused wrong_shape 0
  unfolding string_of
  other_label h d = rw (is_string_label T kind value h, ne_eqb kind 4 d)

module _ (name : Text) (v : Value.Value) where
  string_of_lem : (m : Value.Value) → member name v ≡ ok m → string_member name v ≡ string_of m.label
  unfolding string_member ◌>>=◌
  string_of_lem m e = rw e

  string-none : member name v ≡ refused wrong_shape 0 → string_member name v ≡ refused wrong_shape 0
  unfolding string_member ◌>>=◌
  string-none e = rw e

-- no text
text_not : {T : Texts} {t : Outcome Text} → t ≡ refused wrong_shape 0 → TextIs T t None
unfolding text_outcome
text_not e = record { text = sym e; decoded = sym e }

-- what an answer of the search tells, once it is known
module _ {w : Table} {row : ℕ} {name : Text} {v : Value.Value} where
  pub sought_missing : {r : Option ℕ} → r ≡ None → Sought w row name v r → member name v ≡ refused wrong_shape 0
  sought_missing is (found l s n e) = absurd (let z : ◌≡◌ {A = ℕ} 0 1 = cc in omega arith)
  sought_missing is (missing e) = e

  pub sought_at : {r : Option ℕ} (at : ℕ) → r ≡ Some at → Sought w row name v r
      → (e : Cell) × (below : Forest Cell) × (row < at) × (at + size below ≤ row + size v.kids)
      × (NodeHeld w at e below) × (member name v ≡ ok (meant w.texts e below))
  sought_at at is (found {at = b} {e} {below} l s n m) =
      let same : b ≡ at = cc in
      (e, below, rw same at l, rw same at s, subst (λ a. NodeHeld w a e below) same n, m)
  sought_at at is (missing m) = absurd (let z : ◌≡◌ {A = ℕ} 0 1 = cc in omega arith)

-- ---- the text of a row
module _ (node : Row) where
  string_in_lem : kind_of node ≡ 4 → string_in node ≡ Some (value_of node)
  unfolding string_in
  string_in_lem e = rw (eq-eqb (kind_of node) 4 e)

  none_in : (kind_of node ≡ 4 → ⊥) → string_in node ≡ None
  unfolding string_in
  none_in d = rw (ne_eqb (kind_of node) 4 d)

-- of a node that the table holds
module _ {w : Table} {at : ℕ} {e : Cell} {below : Forest Cell} (n : NodeHeld w at e below) where
  node_text : {t : Outcome Text} → t ≡ string_of (label_of w.texts e.kind e.value) → TextIs w.texts t (string_in (get_or w.nodes at []))
  unfolding text_outcome spelled
  node_text {t} is = go (eqb e.kind 4) refl
    where
      go : (b : Bool) → eqb e.kind 4 ≡ b → TextIs w.texts t (string_in (get_or w.nodes at []))
      go true f =
          let node = held_node n.held in
          let k : e.kind ≡ 4 = eqb-true e.kind 4 f in
          let bounds = n.label.string.form k in
          let text : t ≡ ok (spelled w.texts e.value) = is ∙ string-label w.texts e.kind e.value k in
          let there : string_in (get_or w.nodes at []) ≡ Some e.value =
          string_in_lem _ (kind_here node ∙ k) ∙ ap (λ (d : Cell). Some d.value) (cell_here node []) in
          subst (TextIs w.texts t) (sym there)
          (record { text = sym text; decoded = sym (text ∙ ap ok (form_decodes _ (part_of w.texts e.value) bounds.0 bounds.1)) })
      go false f =
          let node = held_node n.held in
          let d = eqb-false e.kind 4 f in
          subst (TextIs w.texts t) (sym (none_in _ (λ k. d (sym (kind_here node) ∙ k))))
          (text_not (is ∙ other_label w.texts e.kind e.value (formed_fit n.held.formed).kind d))

-- each way out of `string_in`
module _ (nodes : List Row) {m : Option ℕ} where
  pub in_none : m ≡ None → None ≡ string_at nodes m
  unfolding string_at
  in_none e = sym (ap (string_at nodes) e)

  module _ (at : ℕ) (there : m ≡ Some at) where
    in_row : string_at nodes m ≡ string_in (get_or nodes at [])
    unfolding string_at
    in_row = ap (string_at nodes) there

    pub in_out : length nodes ≤ at → None ≡ string_at nodes m
    unfolding string_in
    in_out h = sym (in_row ∙ ap string_in (get_or-eq_default nodes [] h))

    pub in_other : (kind_of (get_or nodes at []) ≡ 4 → ⊥) → None ≡ string_at nodes m
    in_other k = sym (in_row ∙ none_in _ k)

    pub in-string : {s : Spelling} → kind_of (get_or nodes at []) ≡ 4 → s ≡ value_of (get_or nodes at []) → Some s ≡ string_at nodes m
    in-string k e = ap Some e ∙ sym (in_row ∙ string_in_lem _ k)

sought_text : {w : Table} {row : ℕ} {name : Text} {v : Value.Value} {m : Option ℕ} → Sought w row name v m
    → TextIs w.texts (string_member name v) (string_at w.nodes m)
unfolding string_at
sought_text {name = name} {v} (found l s n is) = node_text n (string_of_lem name v _ is)
sought_text {name = name} {v} (missing e) = text_not (string-none name v e)

-- the string of the member that was found
pub string-is : {w : Table} {row : ℕ} {name : Text} {m : Option ℕ} → MemberIs w row name m → {r : Option Spelling} → r ≡ string_at w.nodes m
    → StringIs w row name r
string-is {w} {name = name} {m} is e =
    record {
      at = m;
      member = is;
      rows = e;
      held = λ c kids n. subst (TextIs w.texts (string_member name (meant w.texts c kids))) (sym e) (sought_text (is.held c kids n));
    }
