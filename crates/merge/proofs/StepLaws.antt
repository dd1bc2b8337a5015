-- What `keep` answers, and what becomes of the notes.
use Rattle.std.specs.Prelude.{if◌then◌else◌, Option, Some, None}
use Prim.Native.Nat.{ℕ, ◌+◌, ◌-◌, ◌≤◌, ◌<◌}
use native.Mathlib.Omega.{arith}
use mathlib.Core.Path.{◌≡◌, refl, sym, ap, ◌∙◌, subst}
use mathlib.Core.Bool.{Bool, true, false}
use mathlib.Core.List.{List, []}
use lib.Dec.{eqb}
use lib.ListN.{length, get_or}
use Rattle.spec.specs.Bytes.{Text}
use Rattle.spec.specs.Forest.{Forest, tree, size, before, from}
use Rattle.spec.specs.Value.{same_text}
use Rattle.tape.specs.Layout.{patch_row, scratch_row}
use Rattle.tape.specs.Fields.{no_node, kind_of, name_of}
use Rattle.tape.specs.declared.fields.Name.{Name}
use Rattle.tape.specs.declared.fields.Cell.{Cell}
use Rattle.tape.specs.Rows.{end_of}
use Rattle.tape.specs.Lent.{Table}
use Rattle.tape.proofs.Held.{held_node}
use Rattle.tape.proofs.Rows.{cell_here, kind_here, end_here}
use Rattle.table.specs.Meaning.{name_text, Hashed}
use Rattle.table.specs.Sound.{NodeHeld, NameFits}
use Rattle.index.specs.Slots.{parents, slots, parent_slot, slot_set}
use Rattle.index.proofs.SlotLaws.{slot_dropped}
use Rattle.equality.proofs.SiblingLaws.{Siblings, siblings_all, siblings_from}
use Rattle.merge.specs.Marks.{note_of, Changed, Marks}
use Rattle.merge.specs.Partner.{PatchObject, Named, named_at, named_none, PartnerIs}
use Rattle.merge.specs.Steps.{step_for, Reaches, Keeps, keeps_own, keeps_other, KeepIs}
use Rattle.merge.specs.declared.steps.Step.{Step}
use Rattle.merge.specs.declared.steps.Step.TheVariants.{Nothing, Copy, Merge}
use Rattle.merge.proofs.MarkLaws.{changed_then, changed_put, marks_kept, marks_met}

-- ---- a member of an object of the patch
module _ {w : Table} {patch : ℕ} {p : Cell} {kids : Forest Cell} {xs : List ℕ}
    (o : PatchObject w patch p kids xs) (k : ℕ) {c : Cell} {below after : Forest Cell}
    (row : ℕ) (is : from k kids ≡ tree c below after) (place : row ≡ patch + 1 + size (before k kids)) where
  pub member-siblings : Siblings w row (end_of w.nodes patch) (tree c below after)
  member-siblings =
      let s = siblings_from k (siblings_all (end_of w.nodes patch) refl o.held) in
      subst (Siblings w row (end_of w.nodes patch)) is (subst (λ n. Siblings w n (end_of w.nodes patch) (from k kids)) (sym place) s)

  pub member-inside : (patch < row) × (row + size below ≤ patch + size kids)
  unfolding size
  member-inside = let s = member-siblings.left.ends in let e = end_here (held_node o.held.held) in (omega arith, omega arith)

-- which rows a step names
pub reaches_for : (row kind found : ℕ) → patch_row ≤ found → found < scratch_row → Reaches row (step_for kind found)
unfolding step_for
reaches_for row kind found low near = go (eqb kind 0) (eqb kind 6)
  where
    go : (a b : Bool) → Reaches row (if a then Nothing else if b then Merge found else Copy found)
    go true b = tt
    go false true = (low, near)
    go false false = omega arith

-- ---- a search for the name changes no note
module _ {w : Table} {patch : ℕ} {name : Name} {xs ys : List ℕ} {m : Option ℕ} (partner : PartnerIs w patch name xs ys m) where
  note_same : (r : ℕ) → note_of ys r ≡ note_of xs r
  note_same r = slot_dropped xs ys parents (r - patch_row) partner.behind

  pub searched_changed : (start end : ℕ) → Changed w.nodes start end xs ys
  searched_changed start end =
      record {
        paths = partner.paths;
        notes = λ r h. ((λ _. note_same r), (λ _. note_same r));
        right = λ p. record { child = λ r o few is. p.child r o few (sym (slot_dropped xs ys parents r partner.behind) ∙ is) };
        same_length = partner.same_length;
      }

  -- ---- each way out of `keep`
  module _ {row : ℕ} (loaded : name ≡ name_of (get_or w.nodes row no_node)) where
    name_is : {d : Cell} {below : Forest Cell} → NodeHeld w row d below → name ≡ d.name
    name_is h = loaded ∙ ap (λ (e : Cell). e.name) (cell_here (held_node h.held) no_node)

    named : {c : Cell} {kids : Forest Cell} → PatchObject w patch c kids xs → {d : Cell} {below : Forest Cell} → NodeHeld w row d below
        → NameFits w.texts d.name → Named w.texts patch kids (name_text w.texts d.name) m
    named {c} {kids} o h fits =
        let e = name_is h in
        subst (λ n. Named w.texts patch kids (name_text w.texts n) m) e
        (partner.held c kids o (subst (Hashed w.texts) (sym e) fits.hashed))

    pub keep_missing : m ≡ None → KeepIs w patch row xs ys (Copy row)
    keep_missing e =
        record {
          reaches = omega arith;
          same_length = partner.same_length;
          held = λ c kids o d below h fits met marks.
              (searched_changed patch (end_of w.nodes patch), go (named o h fits) e (marks_kept (λ r _. note_same r) marks));
        }
      where
        go : {kids : Forest Cell} {text : Text} {q : Option ℕ} {met : Text → Bool} → Named w.texts patch kids text q → q ≡ None
            → Marks w.texts ys met (patch + 1) kids → Keeps w patch row kids text met ys (Copy row)
        go (named_at k c below after found is place name) e marks = absurd (let z : ◌≡◌ {A = ℕ} 0 1 = cc in omega arith)
        go (named_none nothing) e marks = keeps_own nothing marks

    -- no member stands outside the patch's rows
    pub keep_outside : (found : ℕ) → m ≡ Some found → (patch_row ≤ found → found < scratch_row → ⊥) → patch_row ≤ patch → KeepIs w patch row xs ys Nothing
    keep_outside found e out low =
        record {
          reaches = tt;
          same_length = partner.same_length;
          held = λ c kids o d below h fits met marks. absurd (go o (named o h fits) e);
        }
      where
        go : {c : Cell} {kids : Forest Cell} {text : Text} {q : Option ℕ} → PatchObject w patch c kids xs → Named w.texts patch kids text q → q ≡ Some found → ⊥
        go o (named_at k c below after there is place name) e =
            let same : there ≡ found = cc in
            let inside = member-inside o k there is place in
            out (omega (arith, inside)) (omega (arith, inside, o.inside))
        go o (named_none nothing) e = let z : ◌≡◌ {A = ℕ} 0 1 = cc in omega arith

    module _ (found : ℕ) (e : m ≡ Some found) (low : patch_row ≤ found) (near : found < scratch_row) {zs : List ℕ}
        (put : zs ≡ slot_set ys (parent_slot (found - patch_row)) 0) (long : slots ≤ length ys) (same : length zs ≡ length ys) where
      pub keep_found : {r : Step} → r ≡ step_for (kind_of (get_or w.nodes found [])) found → KeepIs w patch row xs zs r
      keep_found {r} step =
          record {
            reaches = subst (Reaches row) (sym step) (reaches_for row (kind_of (get_or w.nodes found [])) found low near);
            same_length = same ∙ partner.same_length;
            held = λ c kids o d below h fits met marks. go o (named o h fits) e (marks_kept (λ r _. note_same r) marks);
          }
        where
          go : {c : Cell} {kids : Forest Cell} {text : Text} {q : Option ℕ} {met : Text → Bool}
              → PatchObject w patch c kids xs → Named w.texts patch kids text q
              → q ≡ Some found → Marks w.texts ys met (patch + 1) kids
              → Changed w.nodes patch (end_of w.nodes patch) xs zs × Keeps w patch row kids text met zs r
          go o (named_none nothing) e marks = absurd (let z : ◌≡◌ {A = ℕ} 0 1 = cc in omega arith)
          go {kids = kids} {text} {met = met} o (named_at k c below after there is place name) e marks =
              let to : there ≡ found = cc in
              let here : found ≡ patch + 1 + size (before k kids) = sym to ∙ place in
              let s = member-siblings o k found is here in
              let inside = member-inside o k found is here in
              let kind : kind_of (get_or w.nodes found []) ≡ c.kind = kind_here (held_node s.left.held) in
              let changed : Changed w.nodes patch (end_of w.nodes patch) ys (slot_set ys (parent_slot (found - patch_row)) 0) =
              changed_put ys found 0 low inside.0 (omega (arith, inside, end_here (held_node o.held.held)))
              (omega arith) (omega arith) long (λ n z. absurd (omega arith)) in
              let met-now =
              marks_met k {c = c} {below = below} {after = after} found is here (omega (arith, o.behind)) (omega arith) long o.distinct marks in (
                changed_then (searched_changed patch (end_of w.nodes patch)) (subst (Changed w.nodes patch (end_of w.nodes patch) ys) (sym put) changed),
                subst (Keeps w patch row kids text met zs) (ap (λ n. step_for n found) (sym kind) ∙ sym step)
                    (keeps_other k c below after found is here name
                    (subst (λ t. Marks w.texts zs (λ n. if same_text t n then true else met n) (patch + 1) kids) name
                    (subst (λ vs. Marks w.texts vs (λ n. if same_text (name_text w.texts c.name) n then true else met n) (patch + 1) kids)
                    (sym put) met-now))),
              )
