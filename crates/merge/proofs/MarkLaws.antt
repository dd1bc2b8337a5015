-- Laws of notes: which change, and which members have none.
use Rattle.std.specs.Prelude.{if◌then◌else◌}
use Prim.Native.Nat.{ℕ, zero, suc, ◌+◌, ◌-◌, ◌%◌, ◌≤◌, ◌<◌, min}
use native.Mathlib.Omega.{arith}
use native.Mathlib.Decide.{ℕ_discrete}
use mathlib.Core.Path.{◌≡◌, refl, sym, ap, ◌∙◌, subst}
use mathlib.Core.Bool.{Bool, true, false, true≢false}
use mathlib.Core.List.{List, []}
use lib.Dec.{eqb}
use lib.ListN.{length, get_or, length-set}
use lib.Seq.{get_or-take}
use borrow.Author.Tests.{ne_eqb}
use Rattle.spec.specs.Bytes.{Text}
use Rattle.spec.specs.Forest.{Forest, none, tree, size, before, from}
use Rattle.spec.specs.Value.{Entry, Members, is_object, same_text, has}
use Rattle.spec.proofs.TextLaws.{same_text_refl, same_text-apart}
use Rattle.spec.specs.Distinct as Repeats
use Rattle.spec.specs.Distinct.{NoRepeats}
use Rattle.spec.proofs.NameLaws.{has_cons, absent_parts}
use Rattle.tape.specs.Layout.{patch_row, scratch_row}
use Rattle.tape.specs.Fields.{Row, span_of}
use Rattle.tape.specs.declared.fields.Cell.{Cell}
use Rattle.tape.specs.Cell.{Node}
use Rattle.tape.specs.Rows.{end_of}
use Rattle.tape.specs.Map.{map_forest}
use Rattle.tape.specs.Lent.{Texts}
use Rattle.tape.proofs.Rows.{end_here}
use Rattle.tape.proofs.Held.{Remaining, remaining_all, remaining_next, remaining_none, remaining-first, held_node}
use Rattle.table.specs.Meaning.{name_text, entry_of, members}
use Rattle.index.specs.Slots.{room, parents, slots, parent_slot, slot_at, slot_set}
use Rattle.index.specs.Bits.{Stream, bit_of}
use Rattle.index.specs.Ways.{Meets, here, there}
use Rattle.index.specs.Members.{Among, first, later, Child, Parents}
use Rattle.index.proofs.SlotLaws.{slot_put, slot_other}
use Rattle.merge.specs.Building.{Framed}
use Rattle.merge.specs.Marks.{note_of, PathsKept, Changed, Marks, marks_none, marks_tree, NotedIs}

-- ---- search paths lead through the slots before the notes
bit_small : (q : Stream) → bit_of q < 2
unfolding bit_of
bit_small q = omega arith

meets_noted : (xs : List ℕ) (s v t : ℕ) → parents ≤ s → t < room → (slot : ℕ) (q : Stream) → slot < parents → Meets xs t slot q
    → Meets (slot_set xs s v) t slot q
meets_noted xs s v t h few slot q low (here l) =
    here (record { is = slot_other xs s slot v (λ e. omega arith) ∙ l.is; above = l.above; below = l.below })
meets_noted xs s v t h few slot q low (there x l m) =
    there x (record { is = slot_other xs s slot v (λ e. omega arith) ∙ l.is; above = l.above; below = l.below })
    (meets_noted xs s v t h few _ _ (omega (arith, l.below, bit_small q)) m)

pub paths_noted : (xs : List ℕ) (s v : ℕ) → parents ≤ s → PathsKept xs (slot_set xs s v)
paths_noted xs s v h slot q t low few m = meets_noted xs s v t h few slot q low m

pub paths_then : {xs ys zs : List ℕ} → PathsKept xs ys → PathsKept ys zs → PathsKept xs zs
paths_then a b slot q t low few m = b slot q t low few (a slot q t low few m)

-- ---- changes, one after another
module _ {nodes : List Row} {start end : ℕ} where
  pub changed_self : {xs : List ℕ} → Changed nodes start end xs xs
  changed_self = record { paths = λ slot q t l f m. m; notes = λ r h. ((λ _. refl), (λ _. refl)); right = λ p. p; same_length = refl }

  pub changed_then : {xs ys zs : List ℕ} → Changed nodes start end xs ys → Changed nodes start end ys zs → Changed nodes start end xs zs
  changed_then a b =
      record {
        paths = paths_then a.paths b.paths;
        notes = λ r h. ((λ l. (b.notes r h).0 l ∙ (a.notes r h).0 l), (λ l. (b.notes r h).1 l ∙ (a.notes r h).1 l));
        right = λ p. b.right (a.right p);
        same_length = b.same_length ∙ a.same_length;
      }

pub changed_wider : {nodes : List Row} {start end : ℕ} {xs ys : List ℕ} (start' end' : ℕ) → start' ≤ start → end ≤ end' → Changed nodes start end xs ys
    → Changed nodes start' end' xs ys
changed_wider start' end' l m c =
    record {
      paths = c.paths;
      notes = λ r h. ((λ k. (c.notes r h).0 (omega arith)), (λ k. (c.notes r h).1 (omega arith)));
      right = c.right;
      same_length = c.same_length;
    }

-- ---- a note is put
module _ (xs : List ℕ) (row v : ℕ) where
  pub note_put : slots ≤ length xs → row < patch_row + room → v < 65_536 → note_of (slot_set xs (parent_slot (row - patch_row)) v) row ≡ v
  note_put long near small = slot_put xs (parent_slot (row - patch_row)) v (omega arith) small

  pub note_other : (r : ℕ) → patch_row ≤ r → patch_row ≤ row → (r ≡ row → ⊥) → note_of (slot_set xs (parent_slot (row - patch_row)) v) r ≡ note_of xs r
  note_other r h k n = slot_other xs (parent_slot (row - patch_row)) (parent_slot (r - patch_row)) v (λ e. n (omega arith))

module _ {nodes : List Row} {start end : ℕ} (xs : List ℕ) (row v : ℕ) (low : patch_row ≤ row) (in-front : start < row) (inside : row < end)
    (near : row < patch_row + room) (small : v < 65_536) (long : slots ≤ length xs) (told : (o : ℕ) → v ≡ suc o → Child nodes (patch_row + o) row) where
  put_right : Parents patch_row nodes xs → Parents patch_row nodes (slot_set xs (parent_slot (row - patch_row)) v)
  put_right p = record { child = λ r o h is. go r o h is (ℕ_discrete r (row - patch_row)) }
    where
      go : (r o : ℕ) → r < room → slot_at (slot_set xs (parent_slot (row - patch_row)) v) (parent_slot r) ≡ suc o → Dec (r ≡ row - patch_row)
          → Child nodes (patch_row + o) (patch_row + r)
      go r o h is (yes e) =
          let same_row : row ≡ patch_row + r = omega arith in
          let here : v ≡ suc o =
          sym (note_put xs row v long near small) ∙ ap (λ n. slot_at (slot_set xs (parent_slot (row - patch_row)) v) (parent_slot n)) (sym e) ∙ is in
          subst (Child nodes (patch_row + o)) same_row (told o here)
      go r o h is (no n) = p.child r o h (sym (slot_other xs (parent_slot (row - patch_row)) (parent_slot r) v (λ e. n (omega arith))) ∙ is)

  -- whatever it says, if the parent that it notes is the right one
  pub changed_put : Changed nodes start end xs (slot_set xs (parent_slot (row - patch_row)) v)
  unfolding slot_set
  changed_put =
      record {
        paths = paths_noted xs (parent_slot (row - patch_row)) v (omega arith);
        notes = λ r h. ((λ l. note_other xs row v r h low (λ e. omega arith)), (λ l. note_other xs row v r h low (λ e. omega arith)));
        right = put_right;
        same_length = length-set xs (parent_slot (row - patch_row)) (v % 65_536);
      }

-- ---- of the table the rows before the scratch rows are the same
module _ {nodes nodes' : List Row} (f : Framed scratch_row nodes nodes') where
  pub row_kept : (row : ℕ) → row < scratch_row → get_or nodes' row [] ≡ get_or nodes row []
  row_kept row h = sym (get_or-take scratch_row nodes' row [] h) ∙ ap (λ xs. get_or xs row []) f.before ∙ get_or-take scratch_row nodes row [] h

  among_low : {end row start : ℕ} → Among nodes end row start → start ≤ row
  among_low (first h) = omega arith
  among_low (later h a) = omega (arith, among_low a)

  among_kept : {end row start : ℕ} → row < scratch_row → Among nodes end row start → Among nodes' end row start
  among_kept low (first h) = first h
  among_kept {end} {row} {start} low (later h a) =
      let below = among_low a in
      later h (subst (λ r. Among nodes' end row (start + 1 + span_of r)) (sym (row_kept start (omega arith))) (among_kept low a))

  child-kept : {parent row : ℕ} → Child nodes parent row → Child nodes' parent row
  child-kept {parent} {row} k =
      let below = among_low k.among in
      record {
        low = k.low;
        among = subst (λ r. Among nodes' (parent + 1 + span_of r) row (parent + 1))
            (sym (row_kept parent (omega (arith, k.low)))) (among_kept k.low k.among);
      }

  pub parents-kept : {xs : List ℕ} → Parents patch_row nodes xs → Parents patch_row nodes' xs
  parents-kept p = record { child = λ r o h is. child-kept (p.child r o h is) }

-- ---- names that are not repeated
module _ {e : Entry} {kids rest : Members} where
  pub alone_first : NoRepeats true (tree e kids rest) → has e.name rest ≡ false
  alone_first (Repeats.member alone below behind) = alone

  pub alone_kids : NoRepeats true (tree e kids rest) → NoRepeats (is_object e.label) kids
  alone_kids (Repeats.member alone below behind) = below

  pub alone_rest : NoRepeats true (tree e kids rest) → NoRepeats true rest
  alone_rest (Repeats.member alone below behind) = behind

-- ---- members that are met
-- a member's name is among the names
pub has-from : (T : Texts) (k : ℕ) (f : Forest Cell) {c : Cell} {below after : Forest Cell} → from k f ≡ tree c below after
    → has (name_text T c.name) (members T f) ≡ true
unfolding from map_forest
has-from T zero none is = absurd (let z : ◌≡◌ {A = ℕ} 0 1 = cc in omega arith)
has-from T (suc k) none is = absurd (let z : ◌≡◌ {A = ℕ} 0 1 = cc in omega arith)
has-from T zero (tree d ds rest) {c} is =
    let cell : d ≡ c = cc in
    let name : name_text T d.name ≡ name_text T c.name = ap (λ (x : Cell). name_text T x.name) cell in
    has_cons (name_text T c.name) (entry_of T d) (members T ds) (members T rest) ∙ rw (name, same_text_refl (name_text T c.name))
has-from T (suc k) (tree d ds rest) {c} is =
    has_cons (name_text T c.name) (entry_of T d) (members T ds) (members T rest)
    ∙ go (same_text (name_text T d.name) (name_text T c.name)) (has-from T k rest is)
  where
    go : (b : Bool) → has (name_text T c.name) (members T rest) ≡ true → (if b then true else has (name_text T c.name) (members T rest)) ≡ true
    go true h = refl
    go false h = h

module _ {T : Texts} where
  -- the notes of the members are the same
  pub marks_kept : {xs ys : List ℕ} {met : Text → Bool} {row : ℕ} {f : Forest Cell} → ((r : ℕ) → row ≤ r → note_of ys r ≡ note_of xs r)
      → Marks T xs met row f → Marks T ys met row f
  marks_kept same marks_none = marks_none
  marks_kept {row = row} same (marks_tree e m) =
      marks_tree (ap (λ n. eqb n 0) (same row (omega arith)) ∙ e) (marks_kept (λ r h. same r (omega arith)) m)

  -- those inside one member changed
  pub marks_inside : {nodes : List Row} {xs ys : List ℕ} {met : Text → Bool} {row : ℕ} {f : Forest Cell} (k : ℕ) {c : Cell} {below after : Forest Cell}
      (at : ℕ) → from k f ≡ tree c below after → at ≡ row + size (before k f) → patch_row ≤ row → Changed nodes at (at + 1 + size below) xs ys
      → Marks T xs met row f → Marks T ys met row f
  unfolding from before size
  marks_inside k at is place low c marks_none = marks_none
  marks_inside {row = row} zero {below = below} at is place low c (marks_tree {kids = kids} e m) =
      let same : kids ≡ below = cc in
      let many = ap size same in
      marks_tree {kids = kids} (ap (λ n. eqb n 0) ((c.notes row low).0 (omega arith)) ∙ e) (marks_kept (λ r h. (c.notes r (omega arith)).1 (omega arith)) m)
  marks_inside {row = row} (suc k) at is place low c (marks_tree {kids = kids} {rest = rest} e m) =
      let next : at ≡ row + 1 + size kids + size (before k rest) = omega arith in
      let low-next : patch_row ≤ row + 1 + size kids = omega arith in
      marks_tree {kids = kids} (ap (λ n. eqb n 0) ((c.notes row low).0 (omega arith)) ∙ e) (marks_inside k at is next low-next c m)

  -- another test that says the same of these members
  pub marks_as : {xs : List ℕ} {met met' : Text → Bool} {row : ℕ} {f : Forest Cell}
      → ((n : Text) → met n ≡ met' n) → Marks T xs met row f → Marks T xs met' row f
  marks_as same marks_none = marks_none
  marks_as same (marks_tree {c = c} e m) = marks_tree (e ∙ same (name_text T c.name)) (marks_as same m)

  -- one more name, which no member has
  pub marks_absent : {xs : List ℕ} {met : Text → Bool} {row : ℕ} {f : Forest Cell} (text : Text) → has text (members T f) ≡ false
      → Marks T xs met row f → Marks T xs (λ n. if same_text text n then true else met n) row f
  unfolding map_forest
  marks_absent text absent marks_none = marks_none
  marks_absent text absent (marks_tree {c = c} {kids} {rest} e m) =
      let (apart, behind) = absent_parts text (entry_of T c) (members T kids) (members T rest) absent in
      let other : same_text text (name_text T c.name) ≡ false = same_text-apart text (name_text T c.name) (λ q. apart (sym q)) in
      marks_tree {c = c} {kids = kids} (e ∙ rw other) (marks_absent text behind m)

  -- one more name, which one member has: its note is gone
  pub marks_met : {xs : List ℕ} {met : Text → Bool} {row : ℕ} {f : Forest Cell} (k : ℕ) {c : Cell} {below after : Forest Cell} (at : ℕ)
      → from k f ≡ tree c below after → at ≡ row + size (before k f) → patch_row ≤ row → at < patch_row + room → slots ≤ length xs
      → NoRepeats true (members T f) → Marks T xs met row f
      → Marks T (slot_set xs (parent_slot (at - patch_row)) 0) (λ n. if same_text (name_text T c.name) n then true else met n) row f
  unfolding from before size map_forest
  marks_met zero at is place low near long distinct marks_none = absurd (let z : ◌≡◌ {A = ℕ} 0 1 = cc in omega arith)
  marks_met (suc k) at is place low near long distinct marks_none = absurd (let z : ◌≡◌ {A = ℕ} 0 1 = cc in omega arith)
  marks_met {xs} {met} {row} zero {c} at is place low near long distinct (marks_tree {c = d} {kids} {rest} e m) =
      let here : at ≡ row = omega arith in
      let cell : d ≡ c = cc in
      let name : name_text T d.name ≡ name_text T c.name = ap (λ (x : Cell). name_text T x.name) cell in
      let put : note_of (slot_set xs (parent_slot (at - patch_row)) 0) row ≡ 0 = ap (λ r. note_of (slot_set xs (parent_slot (at - patch_row)) 0) r) (sym here)
      ∙ note_put xs at 0 long near (omega arith) in
      let absent : has (name_text T c.name) (members T rest) ≡ false = ap (λ n. has n (members T rest)) (sym name) ∙ alone_first distinct in
      let met-now : same_text (name_text T c.name) (name_text T d.name) ≡ true = rw name (same_text_refl (name_text T c.name)) in
      marks_tree {c = d} {kids = kids} (ap (λ n. eqb n 0) put ∙ rw met-now)
      (marks_absent (name_text T c.name) absent (marks_kept (λ r h. note_other xs at 0 r (omega arith) (omega arith) (λ q. omega arith)) m))
  marks_met {xs} {met} {row} (suc k) {c} at is place low near long distinct (marks_tree {c = d} {kids} {rest} e m) =
      let other : note_of (slot_set xs (parent_slot (at - patch_row)) 0) row ≡ note_of xs row = note_other xs at 0 row low (omega arith) (λ q. omega arith) in
      let apart : same_text (name_text T c.name) (name_text T d.name) ≡ false =
      same_text-apart (name_text T c.name) (name_text T d.name)
      (λ q. true≢false (sym (has-from T k rest is) ∙ ap (λ n. has n (members T rest)) q ∙ alone_first distinct)) in
      let next : at ≡ row + 1 + size kids + size (before k rest) = omega arith in
      let low-next : patch_row ≤ row + 1 + size kids = omega arith in
      marks_tree {c = d} {kids = kids} (ap (λ n. eqb n 0) other ∙ e ∙ rw apart)
      (marks_met {row = row + 1 + size kids} k at is next low-next near long (alone_rest distinct) m)

-- ---- the loop that notes the members of an object
pub record LeftNoted (T : Texts) (nodes : List Row) (patch end : ℕ) (kids : Forest Cell) (ys : List ℕ) (row : ℕ) : Type 0 where
  pub left : Forest Cell
  pub remaining : Remaining nodes row end left
  pub whole : (zs : List ℕ) → ((r : ℕ) → patch < r → r < row → note_of zs r ≡ note_of ys r) → Marks T zs (λ n. false) row left
      → Marks T zs (λ n. false) (patch + 1) kids

pub record Noting (nodes : List Row) (patch end : ℕ) (xs ys : List ℕ) (row : ℕ) : Type 0 where
  pub changed : Changed nodes patch end xs ys
  pub above : patch < row
  pub onward : row < end → (r : ℕ) → Among nodes (patch + 1 + span_of (get_or nodes patch [])) r row
      → Among nodes (patch + 1 + span_of (get_or nodes patch [])) r (patch + 1)
  pub held : (T : Texts) (c : Cell) (kids : Forest Cell) → Node nodes patch c kids → patch + size kids < scratch_row
      → LeftNoted T nodes patch end kids ys row

pub noting_none : {nodes : List Row} {patch : ℕ} (end : ℕ) {xs : List ℕ} → end ≡ end_of nodes patch → Noting nodes patch end xs xs (patch + 1)
noting_none end e =
    record {
      changed = changed_self;
      above = omega arith;
      onward = λ l r a. a;
      held = λ T c kids node low. record { left = kids; remaining = remaining_all end e node.held; whole = λ zs same m. m };
    }

module _ {nodes : List Row} {patch end : ℕ} (ends : end ≡ end_of nodes patch) {xs ys : List ℕ} {row : ℕ} (n : Noting nodes patch end xs ys row)
    (low : patch_row ≤ patch) (long : slots ≤ length ys) where
  -- a member is noted
  pub noting_next : row < end → row < scratch_row → (zs : List ℕ) → zs ≡ slot_set ys (parent_slot (row - patch_row)) (patch - patch_row + 1) → (next : ℕ)
      → next ≡ end_of nodes row → Noting nodes patch end xs zs next
  noting_next more near zs put next is =
      let v : ℕ = patch - patch_row + 1 in
      let inside : row < patch + 1 + span_of (get_or nodes patch []) = omega arith in
      let child : Child nodes patch row = record { low = near; among = n.onward more row (first inside) } in
      let at_parent_lem : (o : ℕ) → v ≡ suc o → Child nodes (patch_row + o) row = λ o e.
      let same : patch ≡ patch_row + o = omega arith in subst (λ p. Child nodes p row) same child in
      let noted : Changed nodes patch end ys (slot_set ys (parent_slot (row - patch_row)) v) =
      changed_put ys row v (omega (arith, n.above)) n.above more (omega arith) (omega arith) long at_parent_lem in
      let goes : next ≤ row + 1 + span_of (get_or nodes row []) = omega arith in
      record {
        changed = changed_then n.changed (subst (Changed nodes patch end ys) (sym put) noted);
        above = omega (arith, n.above);
        onward = λ l r a.
            let exact : next ≡ row + 1 + span_of (get_or nodes row []) = omega arith in
            n.onward more r (later inside (subst (Among nodes (patch + 1 + span_of (get_or nodes patch [])) r) exact a));
        held = λ T c kids node few.
            let l = n.held T c kids node few in
            remaining-first l.remaining more λ d ds rest e left.
            record {
              left = rest;
              remaining = remaining_next next is left;
              whole = λ ws same m.
                  let after : next ≡ row + 1 + size ds = is ∙ end_here (held_node left.held) in
                  let here : note_of ws row ≡ v =
                  same row n.above (omega arith) ∙ ap (λ s. note_of s row) put ∙ note_put ys row v long (omega arith) (omega arith) in
                  let first-noted : eqb (note_of ws row) 0 ≡ false = ap (λ k. eqb k 0) here ∙ ne_eqb v 0 (λ z. omega arith) in
                  l.whole ws
                  (λ r h k. same r h (omega arith) ∙ ap (λ s. note_of s r) put
                  ∙ note_other ys row v r (omega arith) (omega (arith, n.above)) (λ q. omega arith))
                  (subst (Marks T ws (λ n. false) row) (sym e)
                  (marks_tree {c = d} {kids = ds} first-noted (subst (λ a. Marks T ws (λ n. false) a rest) after m)));
            };
      }

  -- the loop ends: no member stands in the scratch rows
  pub noting_done : min end scratch_row ≤ row → NotedIs nodes patch xs ys
  noting_done over =
      record {
        changed = subst (λ e. Changed nodes patch e xs ys) ends n.changed;
        held = λ T c kids node few.
            let l = n.held T c kids node few in
            let passed : end ≤ row = omega (arith, over, ends, end_here node, few) in
            l.whole ys (λ r h k. refl) (subst (Marks T ys (λ n. false) row) (sym (remaining_none l.remaining passed)) marks_none);
      }
