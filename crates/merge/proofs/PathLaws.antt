-- Laws of search paths: those that lead to the members of the patch's objects.
use Rattle.std.specs.Prelude.{if◌then◌else◌}
use Prim.Native.Nat.{ℕ, zero, suc, ◌+◌, ◌-◌, ◌≤◌, ◌<◌, max, min}
use native.Mathlib.Omega.{arith}
use native.Mathlib.Nat.{add-zero}
use mathlib.Core.Path.{◌≡◌, refl, sym, ap, ◌∙◌, subst}
use mathlib.Core.Bool.{Bool, true, false}
use mathlib.Core.List.{List, []}
use lib.ListN.{length, drop, get_or}
use lib.Dec.{leb}
use borrow.Author.Tests.{eqb-true}
use Rattle.spec.specs.Bytes.{Text}
use Rattle.spec.specs.Forest.{Forest, none, tree, size, count, before, from, ◌⧺◌}
use Rattle.spec.specs.Value.{Label, Entry, Members, tag, is_container, is_object, same_text, find, has, depths, levels}
use Rattle.spec.proofs.TextLaws.{same_text_true}
use Rattle.spec.proofs.NameLaws.{has_cons}
use Rattle.lexer.specs.Hash.{hash}
use Rattle.tape.specs.Layout.{patch_row, scratch_row, object_kind}
use Rattle.tape.specs.Fields.{no_node, kind_of, name_of}
use Rattle.tape.specs.declared.fields.Name.{Name}
use Rattle.tape.specs.declared.fields.Cell.{Cell}
use Rattle.tape.specs.Cell.{Held}
use Rattle.tape.specs.Rows.{end_of}
use Rattle.tape.specs.Map.{map_forest}
use Rattle.tape.specs.Lent.{Texts, Table}
use Rattle.tape.proofs.Map.{size-map}
use Rattle.tape.proofs.Forests.{size_⧺}
use Rattle.tape.proofs.Cells.{formed_fit}
use Rattle.tape.proofs.Held.{held_node, held_next}
use Rattle.tape.proofs.Rows.{cell_here, kind_here, end_here}
use Rattle.table.specs.Meaning.{name_text, entry_of, members, short_hash, Hashed}
use Rattle.table.specs.All.{all_tree}
use Rattle.merging.proofs.PartLaws.{⧺_none, ⧺_assoc}
use Rattle.table.proofs.MeaningLaws.{is_object_label, is_container_label}
use Rattle.table.specs.Sound.{Sound, CellFits, NodeHeld}
use Rattle.table.specs.Find.{same_name}
use Rattle.table.proofs.Search.{named_hashed}
use Rattle.index.specs.Slots.{room, parents, slots, bucket_slot}
use Rattle.index.specs.Ways.{Kept, MeetsName, NoneNamed, Entered}
use Rattle.reader.specs.Filled.{Reached}
use Rattle.equality.proofs.PartnerLaws.{name_loaded}
use Rattle.equality.proofs.SiblingLaws.{Siblings, siblings_all, siblings_none, siblings_first, siblings_next, siblings-value, siblings_name, siblings_hashed}
use Rattle.merge.specs.Marks.{PathsKept}
use Rattle.merge.specs.Paths.{Ways, ways_none, ways_tree, EnteredIs}

-- ---- paths stay
-- those to rows below a limit
pub ways_below : {xs ys : List ℕ} {object at : ℕ} {all : Members} (limit : ℕ) → Ways xs object at all → Kept limit xs ys → patch_row ≤ at
    → at + size all ≤ patch_row + limit → Ways ys object at all
unfolding size
ways_below limit ways_none k low few = ways_none
ways_below {at = at} limit (ways_tree {kids = kids} {rest = rest} r below w) k low few =
    let place : at - patch_row < limit = omega arith in
    let in-kids : at + 1 + size kids ≤ patch_row + limit = omega arith in
    let next : patch_row ≤ at + 1 + size kids = omega arith in
    let in_rest : at + 1 + size kids + size rest ≤ patch_row + limit = omega arith in
    ways_tree {kids = kids} (k _ _ _ place r) (λ o. ways_below limit (below o) k (omega arith) in-kids) (ways_below limit w k next in_rest)

pub ways_kept : {xs ys : List ℕ} {object at : ℕ} {all : Members} → Ways xs object at all → PathsKept xs ys → patch_row ≤ at → at + size all ≤ scratch_row
    → Ways ys object at all
unfolding size
ways_kept ways_none k low few = ways_none
ways_kept {at = at} (ways_tree {e = e} {kids = kids} {rest = rest} r below w) k low few =
    let place : at - patch_row < room = omega arith in
    let in-kids : at + 1 + size kids ≤ scratch_row = omega arith in
    let next : patch_row ≤ at + 1 + size kids = omega arith in
    let in_rest : at + 1 + size kids + size rest ≤ scratch_row = omega arith in
    ways_tree {kids = kids} (k _ _ _ (omega arith) place r) (λ o. ways_kept (below o) k (omega arith) in-kids) (ways_kept w k next in_rest)

-- those of the first member, of the members below it, and of the others
module _ {xs : List ℕ} {object at : ℕ} {e : Entry} {kids rest : Members} where
  pub ways_first : Ways xs object at (tree e kids rest) → Reached xs patch_row object at e.name
  ways_first (ways_tree r below w) = r

  pub ways_kids : Ways xs object at (tree e kids rest) → is_object e.label ≡ true → Ways xs at (at + 1) kids
  ways_kids (ways_tree r below w) = below

  pub ways_rest : Ways xs object at (tree e kids rest) → Ways xs object (at + 1 + size kids) rest
  ways_rest (ways_tree r below w) = w

-- those of a member that is an object
pub ways-member : {xs : List ℕ} {object : ℕ} (T : Texts) {row : ℕ} (k : ℕ) (f : Forest Cell) {c : Cell} {below after : Forest Cell} (at : ℕ)
    → Ways xs object row (members T f) → from k f ≡ tree c below after → at ≡ row + size (before k f) → is_object (entry_of T c).label ≡ true
    → Ways xs at (at + 1) (members T below)
unfolding from before size map_forest
ways-member T zero none at w is place o = absurd (let z : ◌≡◌ {A = ℕ} 0 1 = cc in omega arith)
ways-member T (suc k) none at w is place o = absurd (let z : ◌≡◌ {A = ℕ} 0 1 = cc in omega arith)
ways-member {xs} T {row} zero (tree d ds rest) {c} {below} at w is place o =
    let cell : d ≡ c = cc in
    let under : ds ≡ below = cc in
    let here : row ≡ at = omega arith in
    let object : is_object (entry_of T d).label ≡ true = ap (λ (x : Cell). is_object (entry_of T x).label) cell ∙ o in
    subst (λ n. Ways xs n (n + 1) (members T below)) here (subst (λ f. Ways xs row (row + 1) (members T f)) under (ways_kids w object))
ways-member {xs} {object} T {row} (suc k) (tree d ds rest) at w is place o =
    let many : size (members T ds) ≡ size ds = size-map (entry_of T) ds in
    ways-member T {row = row + 1 + size ds} k rest at (subst (λ n. Ways xs object (row + 1 + n) (members T rest)) many (ways_rest w)) is (omega arith) o

-- one more behind those so far
pub ways_more : {xs : List ℕ} {object at end : ℕ} {all : Members} (e : Entry) (kids : Members) → Ways xs object at all → at + size all ≡ end
    → Reached xs patch_row object end e.name → (is_object e.label ≡ true → Ways xs end (end + 1) kids) → Ways xs object at (all ⧺ tree e kids none)
unfolding ◌⧺◌ size
ways_more {xs} {object} {at} {end} e kids ways_none is r below =
    let same : end ≡ at = omega arith in
    ways_tree (subst (λ n. Reached xs patch_row object n e.name) same r) (subst (λ n. is_object e.label ≡ true → Ways xs n (n + 1) kids) same below)
    ways_none
ways_more {at = at} {end} e kids (ways_tree {kids = ds} {rest = rest} g under w) is r below =
    let next : at + 1 + size ds + size rest ≡ end = omega arith in
    ways_tree g under (ways_more e kids w next r below)

-- ---- where no row on a name's search path has the name, no member has it
module _ (w : Table) (xs : List ℕ) (object : ℕ) (name : Name) (hashed : Hashed w.texts name)
    (others : NoneNamed xs w patch_row room (bucket_slot object name.hash) name) where
  other : {at : ℕ} {c : Cell} {kids rest : Forest Cell} (text : Text) → name_text w.texts name ≡ text → Held w.nodes at (tree c kids rest)
      → CellFits w.texts c → patch_row ≤ at → at < scratch_row → Reached xs patch_row object at text
      → same_text (name_text w.texts c.name) text ≡ false
  other {at} {c} text is h fits low few r =
      let T : Texts = w.texts in
      let place : patch_row + (at - patch_row) ≡ at = omega arith in
      let same : name_of (get_or w.nodes (patch_row + (at - patch_row)) no_node) ≡ c.name =
      ap (λ n. name_of (get_or w.nodes n no_node)) place ∙ ap (λ c. c.name) (cell_here (held_node h) no_node) in
      let hash_is : name.hash ≡ short_hash (hash text) = hashed.is ∙ ap (λ t. short_hash (hash t)) is in
      let met : MeetsName xs w.texts (bucket_slot object name.hash) name (at - patch_row) = rw (hash_is, is) r in
      let differs : false ≡ same_name w.texts c.name name =
      subst (λ n. false ≡ same_name w.texts n name) same (others (at - patch_row) (omega arith) met) in
      let by-text : same_name w.texts c.name name ≡ same_text (name_text w.texts c.name) (name_text w.texts name) =
      named_hashed w.texts c.name name.hash (name_text w.texts name) fits.name.hashed hashed.is in
      ap (same_text (name_text w.texts c.name)) (sym is) ∙ sym (differs ∙ by-text)

  pub absent : {at : ℕ} (cells : Forest Cell) → Ways xs object at (members w.texts cells) → Held w.nodes at cells → Sound w.texts cells → patch_row ≤ at
      → at + size cells ≤ scratch_row → has (name_text w.texts name) (members w.texts cells) ≡ false
  unfolding map_forest size find count
  absent none ways h sound low few = refl
  absent {at} (tree c below more) ways h (all_tree fits deeper sound) low few =
      let many : size (members w.texts below) ≡ size below = size-map (entry_of w.texts) below in
      let rest : Ways xs object (at + 1 + size below) (members w.texts more) =
      subst (λ n. Ways xs object (at + 1 + n) (members w.texts more)) many (ways_rest ways) in
      has_cons (name_text w.texts name) (entry_of w.texts c) (members w.texts below) (members w.texts more)
      ∙ go (same_text (name_text w.texts c.name) (name_text w.texts name)) refl
      (absent {at = at + 1 + size below} more rest (held_next h) sound (omega arith) (omega arith))
    where
      go : (b : Bool) → same_text (name_text w.texts c.name) (name_text w.texts name) ≡ b
          → has (name_text w.texts name) (members w.texts more) ≡ false
          → (if b then true else has (name_text w.texts name) (members w.texts more)) ≡ false
      go true q i =
          let reached = subst (Reached xs patch_row object at) (same_text_true (name_text w.texts c.name) (name_text w.texts name) q) (ways_first ways) in
          sym q ∙ other (name_text w.texts name) refl h fits low (omega arith) reached
      go false q i = i

-- ---- the loop that enters the members of an object
pub record LeftEntered (w : Table) (object end levels : ℕ) (kids : Forest Cell) (ys : List ℕ) (row : ℕ) : Type 0 where
  pub all : Members
  pub left : Forest Cell
  pub whole : all ⧺ members w.texts left ≡ members w.texts kids
  pub siblings : Siblings w row end left
  pub done : Ways ys object (object + 1) all
  pub place : object + 1 + size all ≡ row
  pub shallow : depths (members w.texts left) < levels

pub record Entering (w : Table) (object end levels : ℕ) (xs ys : List ℕ) (row : ℕ) : Type 0 where
  pub kept : Kept (object + 1 - patch_row) xs ys
  pub behind : drop parents ys ≡ drop parents xs
  pub above : object < row
  pub held : (c : Cell) (kids : Forest Cell) → NodeHeld w object c kids → c.kind ≡ object_kind → object + size kids < scratch_row
      → depths (members w.texts kids) < levels → LeftEntered w object end levels kids ys row

kept_self : {limit : ℕ} {xs : List ℕ} → Kept limit xs xs
kept_self slot q t h m = m

kept_then : {limit : ℕ} {xs ys zs : List ℕ} → Kept limit xs ys → Kept limit ys zs → Kept limit xs zs
kept_then a b slot q t h m = b slot q t h (a slot q t h m)

kept_below : {limit : ℕ} {xs ys : List ℕ} (low : ℕ) → low ≤ limit → Kept limit xs ys → Kept low xs ys
kept_below low l k slot q t h m = k slot q t (omega arith) m

-- no object, or one that nests too many containers
pub entered_none : {w : Table} {object levels : ℕ} {xs : List ℕ} → ((c : Cell) (kids : Forest Cell) → NodeHeld w object c kids → c.kind ≡ object_kind
    → depths (members w.texts kids) < levels → ⊥) → EnteredIs w object levels xs xs
entered_none never = record { kept = kept_self; behind = refl; same_length = refl; held = λ c kids h o i d. absurd (never c kids h o d) }

pub entered_other : {w : Table} {object levels : ℕ} {xs : List ℕ} {kind : ℕ} → kind ≡ kind_of (get_or w.nodes object []) → (kind ≡ object_kind → ⊥)
    → EnteredIs w object levels xs xs
entered_other is never = entered_none λ c kids h o d. never (is ∙ kind_here (held_node h.held) ∙ o)

pub entered_flat : {w : Table} {object levels : ℕ} {xs : List ℕ} → levels ≡ 0 → EnteredIs w object levels xs xs
entered_flat z = entered_none λ c kids h o d. omega arith

pub entering_none : {w : Table} {object levels : ℕ} {xs : List ℕ} (end : ℕ) → end ≡ end_of w.nodes object → Entering w object end levels xs xs (object + 1)
unfolding ◌⧺◌ size
entering_none {w} {object} end e =
    record {
      kept = kept_self;
      behind = refl;
      above = omega arith;
      held = λ c kids h o i d.
          record {
            all = none;
            left = kids;
            whole = refl;
            siblings = siblings_all end e h;
            done = ways_none;
            place = add-zero (object + 1);
            shallow = d;
          };
    }

-- an object nests one container more than its members
object-depth : (l : Label) (below others most : ℕ) → max (levels l below) others < most → leb 5 (tag l) ≡ true → below < most - 1
unfolding levels is_container
object-depth l below others most h c = omega (arith, rw c at h)

module _ {w : Table} {object end levels-left : ℕ} {xs ys : List ℕ} {row : ℕ} (n : Entering w object end levels-left xs ys row) where
  -- no member stands in the scratch rows
  pub entering_done : min end scratch_row ≤ row → end ≡ end_of w.nodes object → length ys ≡ length xs → EnteredIs w object levels-left xs ys
  unfolding map_forest
  entering_done over ends long =
      record {
        kept = n.kept;
        behind = n.behind;
        same_length = long;
        held = λ c kids h o i d.
            let l = n.held c kids h o i d in
            let passed : end ≤ row = omega (arith, over, ends, end_here (held_node h.held), i) in
            let no_more : members w.texts l.left ≡ none = ap (members w.texts) (siblings_none l.siblings passed) in
            let is_all : l.all ≡ members w.texts kids = sym (⧺_none l.all) ∙ ap (λ f. l.all ⧺ f) (sym no_more) ∙ l.whole in
            subst (Ways ys object (object + 1)) is_all l.done;
      }

  module _ (low : patch_row ≤ object) (more : row < end) (near : row < scratch_row) (long : slots ≤ length ys) {name : Name} {zs ws : List ℕ} {b : Bool}
      (loaded : name ≡ name_of (get_or w.nodes row no_node)) (entered : Entered w ys patch_row object row name zs b)
      (deeper : EnteredIs w row (levels-left - 1) zs ws) where
    named : name ≡ name_of (get_or w.nodes row [])
    named = loaded ∙ name_loaded w.nodes row

    reached : Hashed w.texts name → (text : Text) → name_text w.texts name ≡ text → Reached ws patch_row object row text
    reached hashed text is =
        let hash_is : name.hash ≡ short_hash (hash text) = hashed.is ∙ ap (λ t. short_hash (hash t)) is in
        let met : MeetsName zs w.texts (bucket_slot object name.hash) name (row - patch_row) =
        entered.found (omega arith) (omega (arith, n.above)) (omega arith) long in
        let here : Reached zs patch_row object row text = rw (hash_is, is) at met in
        deeper.kept _ _ _ (omega (arith, n.above)) here

    turn : {kids : Forest Cell} (next : ℕ) → next ≡ end_of w.nodes row → LeftEntered w object end levels-left kids ys row → object + size kids < scratch_row
        → LeftEntered w object end levels-left kids ws next
    unfolding map_forest size depths levels is_container ◌⧺◌
    turn {kids} next is l i =
        siblings_first l.siblings more λ c ks rest e s.
        let T : Texts = w.texts in
        let entry : Entry = entry_of T c in
        let node = siblings-value s in
        let after : next ≡ row + 1 + size ks = is ∙ end_here (held_node s.left.held) in
        let fit = formed_fit s.left.held.formed in
        let whole : l.all ⧺ tree entry (members T ks) (members T rest) ≡ members T kids = ap (λ f. l.all ⧺ members T f) (sym e) ∙ l.whole in
        let many : size l.all + suc (size (members T ks) + size (members T rest)) ≡ size kids =
        sym (size_⧺ l.all (tree entry (members T ks) (members T rest))) ∙ ap size whole ∙ size-map (entry_of T) kids in
        let below-size : size (members T ks) ≡ size ks = size-map (entry_of T) ks in
        let deep : max (levels entry.label (depths (members T ks))) (depths (members T rest)) < levels-left =
        subst (λ f. depths (members T f) < levels-left) e l.shallow in
        let is-named : name_text T name ≡ entry.name = ap (name_text T) (named ∙ siblings_name s) in
        let hashed : Hashed T name = subst (Hashed T) (sym named) (siblings_hashed s) in
        let so_far : Ways ws object (object + 1) l.all =
        ways_below (row + 1 - patch_row) (ways_below (row - patch_row) l.done entered.kept (omega arith) (omega (arith, l.place)))
        deeper.kept (omega arith) (omega (arith, l.place)) in
        let under : is_object entry.label ≡ true → Ways ws row (row + 1) (members T ks) = λ object-label.
        let kind : c.kind ≡ object_kind = eqb-true c.kind object_kind (sym (is_object_label T c.kind c.value fit.kind) ∙ object-label) in
        let container : leb 5 (tag entry.label) ≡ true =
        is_container_label T c.kind c.value fit.kind ∙ ap (leb 5) kind in
        deeper.held c ks node kind (omega arith) (object-depth entry.label (depths (members T ks)) (depths (members T rest)) levels-left deep container) in
        record {
          all = l.all ⧺ tree entry (members T ks) none;
          left = rest;
          whole = ⧺_assoc l.all (tree entry (members T ks) none) (members T rest) ∙ whole;
          siblings = siblings_next s next is;
          done = ways_more entry (members T ks) so_far l.place (reached hashed entry.name is-named) under;
          place = omega (arith, l.place, size_⧺ l.all (tree entry (members T ks) none), after);
          shallow = omega arith;
        }

    pub entering_next : (next : ℕ) → next ≡ end_of w.nodes row → end ≡ end_of w.nodes object → Entering w object end levels-left xs ws next
    entering_next next is ends =
        record {
          kept = kept_then n.kept (kept_then (kept_below (object + 1 - patch_row) (omega (arith, n.above)) entered.kept)
              (kept_below (object + 1 - patch_row) (omega (arith, n.above)) deeper.kept));
          behind = deeper.behind ∙ entered.behind ∙ n.behind;
          above = omega (arith, n.above);
          held = λ c kids h o i d. turn next is (n.held c kids h o i d) i;
        }
