-- What `partner` answers, and what becomes of the index.
use Rattle.std.specs.Prelude.{if◌then◌else◌, Option, Some, None}
use Prim.Native.Nat.{ℕ, zero, suc, ◌+◌}
use native.Mathlib.Omega.{arith}
use mathlib.Core.Path.{◌≡◌, refl, sym, ap, ◌∙◌, subst}
use mathlib.Core.Bool.{Bool, true, false}
use mathlib.Core.List.{List}
use lib.ListN.{length}
use borrow.Author.Tests.{le-ltb}
use Rattle.spec.specs.Bytes.{Text}
use Rattle.spec.specs.Forest.{Forest, none, tree, size, count, from, nth, ◌⧺◌}
use Rattle.spec.specs.Value.{same_text, find}
use Rattle.spec.proofs.TextLaws.{same_text_true}
use Rattle.merging.proofs.MemberLaws.{absent}
use Rattle.tape.specs.Layout.{patch_row, scratch_row}
use Rattle.tape.specs.declared.fields.Name.{Name}
use Rattle.tape.specs.declared.fields.Cell.{Cell}
use Rattle.tape.specs.Rows.{end_of}
use Rattle.tape.specs.Lent.{Texts, Table}
use Rattle.tape.specs.Map.{map_forest}
use Rattle.tape.proofs.Forests.{from-nth, size-cut}
use Rattle.tape.proofs.Cells.{blank}
use Rattle.tape.proofs.Held.{held_kids, held_node}
use Rattle.tape.proofs.Rows.{end_here}
use Rattle.tape.proofs.Map.{count_map}
use Rattle.table.specs.Meaning.{name_text, entry_of, members, Hashed}
use Rattle.table.specs.Find as Find
use Rattle.table.specs.Find.{same_name, Found, FindIs}
use Rattle.table.proofs.Search.{named_hashed}
use Rattle.index.specs.Ways.{Entered}
use Rattle.index.specs.Members.{LookupIs}
use Rattle.equality.specs.Compare as Compare
use Rattle.equality.specs.Compare.{Hints, SoughtIs}
use Rattle.equality.proofs.PartnerLaws.{sought_hinted}
use Rattle.equality.proofs.SiblingLaws.{children_all, children_child, siblings_asked, siblings_all, siblings_name, siblings_hashed}
use Rattle.merge.specs.Marks.{PathsKept}
use Rattle.merge.specs.Partner.{PatchObject, Named, named_at, named_none, PartnerIs}
use Rattle.merge.proofs.PathLaws as PathLaws

-- the member at the position where a name is found has the name
found-named : (T : Texts) (text : Text) (kids : Forest Cell) (k : ℕ) {c : Cell} {below after : Forest Cell} → from k kids ≡ tree c below after
    → find text (members T kids) ≡ k → name_text T c.name ≡ text
unfolding from find map_forest
found-named T text none zero cut is = absurd (let z : ◌≡◌ {A = ℕ} 0 1 = cc in omega arith)
found-named T text none (suc k) cut is = absurd (let z : ◌≡◌ {A = ℕ} 0 1 = cc in omega arith)
found-named T text (tree d ds rest) zero {c} cut is =
    let cell : d ≡ c = cc in
    ap (λ (x : Cell). name_text T x.name) (sym cell) ∙ go (same_text (name_text T d.name) text) refl is
  where
    go : (b : Bool) → same_text (name_text T d.name) text ≡ b → (if b then 0 else suc (find text (members T rest))) ≡ 0 → name_text T d.name ≡ text
    go true q e = same_text_true _ _ q
    go false q e = absurd (omega arith)
found-named T text (tree d ds rest) (suc k) cut is = go (same_text (name_text T d.name) text) is (found-named T text rest k cut)
  where
    go : {A : Type 0} (b : Bool) → (if b then 0 else suc (find text (members T rest))) ≡ suc k → (find text (members T rest) ≡ k → A) → A
    go true e then-it = absurd (omega arith)
    go false e then-it = then-it (omega arith)

-- what a search tells
searched_named : {T : Texts} {patch : ℕ} {kids : Forest Cell} {text : Text} {r : Option ℕ} → Found T (patch + 1) kids text r → Named T patch kids text r
unfolding ◌⧺◌
searched_named {T} {patch} {kids} {text} (Find.found k row is few place) =
    let cut : from k kids ≡ tree (nth blank k kids).root (nth blank k kids).kids (from (suc k) kids) = from-nth blank k kids few in
    named_at k (nth blank k kids).root (nth blank k kids).kids (from (suc k) kids) row cut place (found-named T text kids k cut is)
searched_named {T} {patch} {kids} {text} (Find.missing is) =
    named_none (absent text (members T kids) (le-ltb (find text (members T kids)) (count (members T kids)) (omega (arith, is, count_map (entry_of T) kids))))

-- ---- a row behind all others is entered: no path to a row is lost
module _ {w : Table} {patch : ℕ} {name : Name} {xs ys : List ℕ} {b : Bool} (entered : Entered w xs patch_row patch scratch_row name ys b) where
  pub queried_paths : PathsKept xs ys
  queried_paths slot q t low few m = entered.kept slot q t (omega arith) m

  -- no row on the path has the name
  pub partner_absent : b ≡ false → length ys ≡ length xs → PartnerIs w patch name xs ys None
  partner_absent e long =
      record {
        paths = queried_paths;
        behind = entered.behind;
        same_length = long;
        held = λ c kids o hashed.
            named_none (absent (name_text w.texts name) (members w.texts kids)
            (PathLaws.absent w xs patch name hashed (entered.others e) kids o.ways (held_kids o.held.held) o.held.sound
            (omega (arith, o.behind)) (omega (arith, o.inside))));
      }

  -- the index finds the member, or the members are searched
  module _ (long : length ys ≡ length xs) where
    pub partner_by : {r : Option ℕ}
        → ((c : Cell) (kids : Forest Cell) → PatchObject w patch c kids xs → Hashed w.texts name → Named w.texts patch kids (name_text w.texts name) r)
        → PartnerIs w patch name xs ys r
    partner_by held = record { paths = queried_paths; behind = entered.behind; same_length = long; held = held }

    pub partner_searched : {end : ℕ} {r : Option ℕ} → end ≡ end_of w.nodes patch → FindIs w (patch + 1) end name r → PartnerIs w patch name xs ys r
    partner_searched {end} ends f = partner_by λ c kids o hashed.
        searched_named (f.held kids (siblings_asked (siblings_all end ends o.held)) hashed)

-- ---- the index finds the member
pub partner_hinted : {w : Table} {patch : ℕ} {name : Name} {xs : List ℕ} {r : Option ℕ} (row : ℕ) → LookupIs w xs patch_row patch name r → r ≡ Some row
    → PartnerIs w patch name xs xs (Some row)
partner_hinted {w} {patch} {name} {xs} row looked e =
    record {
      paths = λ slot q t low few m. m;
      behind = refl;
      same_length = refl;
      held = λ c kids o hashed.
          go o hashed (sought_hinted {end = end_of w.nodes patch} (record { right = λ _. o.hints }) (omega arith) row looked e) refl;
    }
  where
    go : {c : Cell} {kids : Forest Cell} {r : Option ℕ} → PatchObject w patch c kids xs → Hashed w.texts name
        → SoughtIs w patch (end_of w.nodes patch) name r → r ≡ Some row → Named w.texts patch kids (name_text w.texts name) (Some row)
    go {kids = kids} o hashed (Compare.searched f) q =
        subst (Named w.texts patch kids (name_text w.texts name)) q
        (searched_named (f.held kids (siblings_asked (siblings_all (end_of w.nodes patch) refl o.held)) hashed))
    go {kids = kids} o hashed (Compare.hinted {pair} child same) q =
        let to : pair ≡ row = cc in
        children_child (children_all (end_of w.nodes patch) refl o.held) child λ k p ps after is s.
        named_at k p ps after row is
        (omega (arith, s.left.ends, end_here (held_node o.held.held), size-cut k kids, ap size is))
        (ap (name_text w.texts) (sym (siblings_name s))
        ∙ same_text_true _ _ (sym (named_hashed w.texts _ _ _ (siblings_hashed s) hashed.is) ∙ same))
