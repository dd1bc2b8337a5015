-- Laws of an object's members: whether a name is among them, by the index and by a search.
use Rattle.std.specs.Prelude.{if◌then◌else◌, Option, Some, None, is_some, Result, Ok, Err}
use Prim.Native.Nat.{ℕ, suc, ◌+◌, ◌-◌, ◌≤◌, ◌<◌}
use Prim.Native.Char.{code}
use native.Mathlib.Omega.{arith}
use mathlib.Core.Path.{◌≡◌, refl, sym, ap, ap₂, ◌∙◌, subst}
use mathlib.Core.Bool.{Bool, true, false, true≢false}
use mathlib.Core.List.{List, []}
use lib.Dec.{eqb}
use lib.ListN.{length, get_or}
use borrow.Author.Tests.{eq-eqb, ne_eqb, lt-ltb, le-ltb}
use Rattle.spec.specs.Outcome.{ok, refused, ◌>>=◌}
use Rattle.spec.specs.Refusal.{repeated_name}
use Rattle.spec.specs.Fault.{number_of}
use Rattle.spec.specs.declared.refusal.Refusal.TheVariants as Refusal
use Rattle.spec.specs.declared.refusal.Fault.{Fault}
use Rattle.spec.specs.Bytes.{Bytes, Text, byte, byte_in}
use Rattle.spec.specs.Strings.{string}
use Rattle.spec.specs.Forest.{Forest, none, tree, Tree, single, size, count, ◌⧺◌}
use Rattle.spec.specs.Value.{Members, Entry, same_text, find, has}
use Rattle.spec.specs.Read.{blanks, fresh, name_for, closing_bracket}
use Rattle.spec.proofs.OutcomeLaws.{>>=_assoc}
use Rattle.spec.proofs.TextLaws.{same_text_true}
use Rattle.lexer.specs.Hash.{hash}
use Rattle.lexer.specs.declared.cursor.Cursor.{Cursor}
use Rattle.lexer.proofs.NameLaws.{NameRead}
use Rattle.tape.specs.Fields.{Row, no_node, name_of}
use Rattle.tape.specs.declared.fields.Name.{Name}
use Rattle.tape.specs.declared.fields.Cell.{Cell}
use Rattle.tape.specs.Cell.{Held}
use Rattle.tape.specs.Map.{map_forest}
use Rattle.tape.specs.Lent.{Table}
use Rattle.tape.proofs.Map.{count_map, size-map}
use Rattle.tape.proofs.Held.{held_node, held_next}
use Rattle.tape.proofs.Rows.{cell_here}
use Rattle.table.specs.Meaning.{source_text, name_text, entry_of, members, short_hash, Hashed}
use Rattle.table.specs.All.{all_tree}
use Rattle.table.specs.Find as Find
use Rattle.table.specs.Find.{same_name, Found, FindIs}
use Rattle.table.specs.Sound.{RowsHeld, Sound, CellFits}
use Rattle.table.proofs.Search.{named_hashed}
use Rattle.index.specs.Slots.{bucket_slot}
use Rattle.index.specs.Ways.{MeetsName, NoneNamed, Entered}
use Rattle.reader.specs.Work.{Work}
use Rattle.reader.specs.Words.{nameless, Titles, past_separator}
use Rattle.reader.specs.Filled.{Noted, Filled, Reached, Marked, marked_none, marked_tree}
use Rattle.reader.specs.Names.{Lent, after_colon, Holding, Leading, LeadsNext, RepeatedIs, NameIs, name_read, name_refused, NamedIs}
use Rattle.reader.specs.Items.{closed, after_comma, next_name, begun, next_item, ItemIs, item_begins, item_closed, item_refused, NextItemIs}
use Rattle.reader.specs.declared.containers.Container.{Container}
use Rattle.reader.specs.declared.words.Named.{Named}
use Rattle.reader.specs.declared.items.Item.TheVariants.{Begins, Closed}
use Rattle.reader.proofs.WordLaws.{no_titles}
use Rattle.reader.proofs.FilledLaws.{noted_none, noted_entered, twice, one_text, filled_held, filled-size}

-- ---- by the index
pub marked_stays : {xs ys : List ℕ} {base low row at : ℕ} {all : Members} → Marked xs base row at all → Noted base low xs ys → base ≤ at
    → at + size all ≤ low → Marked ys base row at all
unfolding size
marked_stays marked_none w b l = marked_none
marked_stays (marked_tree r m) w b l = marked_tree (w.kept _ _ _ (omega arith) r) (marked_stays m w (omega arith) (omega arith))

pub marked_more : {xs : List ℕ} {base row at end : ℕ} {all : Members} → Marked xs base row at all → at + size all ≡ end → (t : Tree Entry)
    → Reached xs base row end t.root.name → Marked xs base row at (all ⧺ single t)
unfolding ◌⧺◌ size
marked_more {xs} {base} {row} {at} {end} marked_none e t r =
    let same : end ≡ at = omega arith in marked_tree (subst (λ n. Reached xs base row n t.root.name) same r) marked_none
marked_more (marked_tree g m) e t r = marked_tree g (marked_more m (omega arith) t r)

-- the text alone, with these nodes
abbrev pub table_with : Bytes → List Row → Table
table_with s nodes = record { texts = twice s; nodes = nodes }

-- where no row on a name's search path has the name, no member has it
module _ {s : Bytes} (nodes : List Row) {xs : List ℕ} (base limit : ℕ) {name : Name} {text : Text} (row : ℕ) (is : name_text (twice s) name ≡ text)
    (hashed : Hashed (twice s) name) (others : NoneNamed xs (table_with s nodes) base limit (bucket_slot row name.hash) name) where
  hash_is : name.hash ≡ short_hash (hash text)
  hash_is = hashed.is ∙ ap (λ t. short_hash (hash t)) is

  other : {at : ℕ} {c : Cell} {kids rest : Forest Cell} → Held nodes at (tree c kids rest) → CellFits (twice s) c → base ≤ at → at < base + limit
      → Reached xs base row at text → same_text (name_text (twice s) c.name) text ≡ false
  other {at} {c} h fits b l r =
      let place : base + (at - base) ≡ at = omega arith in
      let same : name_of (get_or nodes (base + (at - base)) no_node) ≡ c.name =
      ap (λ n. name_of (get_or nodes n no_node)) place ∙ ap (λ c. c.name) (cell_here (held_node h) no_node) in
      let met : MeetsName xs (twice s) (bucket_slot row name.hash) name (at - base) = rw (hash_is, is) r in
      let differs : false ≡ same_name (twice s) c.name name = subst (λ n. false ≡ same_name (twice s) n name) same (others (at - base) (omega arith) met) in
      let by-text : same_name (twice s) c.name name ≡ same_text (name_text (twice s) c.name) (name_text (twice s) name) =
      named_hashed (twice s) c.name name.hash (name_text (twice s) name) fits.name.hashed hashed.is in
      ap (same_text (name_text (twice s) c.name)) (sym is) ∙ sym (differs ∙ by-text)

  absent : {at : ℕ} {all : Members} → Marked xs base row at all → (cells : Forest Cell) → Held nodes at cells → Sound (twice s) cells
      → members (twice s) cells ≡ all → base ≤ at → at + size cells ≤ base + limit → count all ≤ find text all
  unfolding find count map_forest size
  absent marked_none cells h sound e b l = omega arith
  absent (marked_tree r m) none h sound e b l = absurd (let z : ◌≡◌ {A = ℕ} 0 1 = cc in omega arith)
  absent {at} (marked_tree {e = e} {kids = kids} {rest = rest} r m) (tree c below more) h (all_tree fits deeper sound) same b l =
      let entry : entry_of (twice s) c ≡ e = cc in
      let under : members (twice s) below ≡ kids = cc in
      let behind : members (twice s) more ≡ rest = cc in
      let many : size below ≡ size kids = sym (size-map (entry_of (twice s)) below) ∙ ap size under in
      let next : Held nodes (at + 1 + size kids) more = subst (λ n. Held nodes (at + 1 + n) more) many (held_next h) in
      go (same_text e.name text) refl (ap (λ e. e.name) entry) (absent m more next sound behind (omega arith) (omega arith))
    where
      go : (b : Bool) → same_text e.name text ≡ b → name_text (twice s) c.name ≡ e.name → count rest ≤ find text rest
          → suc (count rest) ≤ (if b then 0 else suc (find text rest))
      go true q n i =
          let reached : Reached xs base row at text = subst (Reached xs base row at) (same_text_true e.name text q) r in
          absurd (true≢false (sym q ∙ ap (λ t. same_text t text) (sym n) ∙ other h fits b (omega arith) reached))
      go false q n i = omega arith

-- ---- by a search among the rows
module _ {source : ℕ} {s : Bytes} {start end : ℕ} {all : Members} {nodes : List Row} {text : Text} {name : Name} (long : end ≤ length nodes)
    (f : Filled source s start end all nodes) (titles : Titles source s text name) where
  one : source_text (twice s) source ≡ s
  one = one_text s source

  asked : RowsHeld (table_with s nodes) start end f.cells
  asked = record { held = filled_held long f; ends = f.ends; sound = f.sound (twice s) one }

  hashed : Hashed (twice s) name
  hashed = (titles.fits (twice s) one).hashed

  many : count all ≡ count f.cells
  many = ap count (sym (f.meant (twice s) one)) ∙ count_map (entry_of (twice s)) f.cells

  place : find (name_text (twice s) name) (members (twice s) f.cells) ≡ find text all
  place = ap₂ find (titles.says (twice s) one) (f.meant (twice s) one)

  -- what the search found, said of the members
  pub search_found : (row : ℕ) → FindIs (table_with s nodes) start end name (Some row) → has text all ≡ true
  search_found row r = go (Some row) (r.held f.cells asked hashed) refl
    where
      go : (m : Option ℕ) → Found (twice s) start f.cells (name_text (twice s) name) m → m ≡ Some row → has text all ≡ true
      go m (Find.found k row' e l h) q = lt-ltb (find text all) (count all) (omega (arith, e, l, place, many))
      go m (Find.missing e) q = absurd (let z : ◌≡◌ {A = ℕ} 0 1 = cc in omega arith)

  pub search_missing : FindIs (table_with s nodes) start end name None → has text all ≡ false
  search_missing r = go None (r.held f.cells asked hashed) refl
    where
      go : (m : Option ℕ) → Found (twice s) start f.cells (name_text (twice s) name) m → m ≡ None → has text all ≡ false
      go m (Find.found k row e l h) q = absurd (let z : ◌≡◌ {A = ℕ} 0 1 = cc in omega arith)
      go m (Find.missing e) q = le-ltb (find text all) (count all) (omega (arith, e, place, many))

-- ---- each way out of `repeated`
module _ {s : Bytes} (k : Container) {w : Work} {ys : List ℕ} {name : Name} {r : Bool} (lent : Lent s w)
    (entered : Entered (table_with s w.nodes) w.index k.source.base k.row k.end name ys r) where
  reached : (text : Text) → Titles k.source.number s text name → LeadsNext k ys text
  reached text titles l =
      let one = one_text s k.source.number in
      let is : name_text (twice s) name ≡ text = titles.says (twice s) one in
      let hash-here : name.hash ≡ short_hash (hash text) = (titles.fits (twice s) one).hashed.is ∙ ap (λ t. short_hash (hash t)) is in
      let met : MeetsName ys (twice s) (bucket_slot k.row name.hash) name (k.end - k.source.base) =
      entered.found (omega (arith, k.source.low)) (omega (arith, k.from_base, k.grows)) (omega arith) lent.index_long in
      rw (hash-here, is) at met

  made : {b : Bool}
      → ((all : Members) (text : Text) → Holding s k w.nodes all → Leading k w.index all → Titles k.source.number s text name → b ≡ has text all)
      → RepeatedIs s k w ys name b
  made is = record { is = is; reached = reached; noted = noted_entered entered }

  pub repeated_new : r ≡ false → RepeatedIs s k w ys name false
  repeated_new e =
      made λ all text f m t.
      let one = one_text s k.source.number in
      let held = filled_held (omega (arith, lent.nodes_long, k.fits, k.source.low)) f in
      let few =
      absent w.nodes k.source.base (k.end - k.source.base) k.row (t.says (twice s) one) (t.fits (twice s) one).hashed (entered.others e) m
      f.cells held (f.sound (twice s) one) (f.meant (twice s) one) (omega (arith, k.from_base)) (omega (arith, f.ends, k.from_base)) in
      sym (le-ltb (find text all) (count all) few)

  long_rows : k.end ≤ length w.nodes
  long_rows = omega (arith, lent.nodes_long, k.fits, k.source.low)

  -- by the search
  pub repeated_sought : (found : Option ℕ) {b : Bool} → FindIs (table_with s w.nodes) (k.row + 1) k.end name found → is_some found ≡ b
      → RepeatedIs s k w ys name b
  repeated_sought (Some at) found e = made λ all text f m t. sym e ∙ sym (search_found long_rows f t at found)
  repeated_sought None missing e = made λ all text f m t. sym e ∙ sym (search_missing long_rows f t missing)

-- ---- a member's name by its steps
module _ (s : Bytes) (all : Members) (at : ℕ) where
  name_no-string : (n place : ℕ) → string s at ≡ refused n place → name_for true s all at ≡ refused n place
  unfolding name_for ◌>>=◌
  name_no-string n place e = rw e

  module _ (text : Text) (next : ℕ) (reads : string s at ≡ ok (text, next)) where
    name_repeated : has text all ≡ true → name_for true s all at ≡ refused repeated_name (next - 1)
    unfolding name_for fresh ◌>>=◌
    name_repeated h = rw (reads, h)

    name_new : has text all ≡ false → name_for true s all at ≡ (after_colon s next >>= λ p. ok (text, p))
    unfolding name_for fresh after_colon past_separator ◌>>=◌
    name_new h =
        rw (reads, h)
        (sym (>>=_assoc (byte_in s (blanks s next) (code ":") (code ":")) (λ _. ok (blanks s (blanks s next + 1))) (λ p. ok (text, p))))

-- ---- each way out of `member_name`
module _ (s : Bytes) (k : Container) (w : Work) (object : k.object ≡ true) (at : ℕ) where
  pub member-no-string : (x : Fault) → string s at ≡ refused (number_of x.refusal) x.place → NamedIs s k w w.index (λ all. name_for true s all at) (Err x)
  member-no-string x e = record { answer = λ all f m. name_refused x (name_no-string s all at _ _ e); noted = noted_none }

  module _ {next h : ℕ} {plain : Bool} (read : NameRead s at next h plain) (name : Name) (titles : Titles k.source.number s read.text name) {ys : List ℕ} where
    pub member-repeated : {b : Bool} → RepeatedIs s k w ys name b → b ≡ true
        → NamedIs s k w ys (λ all. name_for true s all at) (Err (record { refusal = Refusal.RepeatedName; place = next - 1 }))
    unfolding number_of
    member-repeated r e =
        record {
          answer = λ all f m.
              name_refused _ (name_repeated s all at read.text next read.reads (sym (r.is all read.text f (m object) titles) ∙ e));
          noted = r.noted;
        }

    module _ {b : Bool} (r : RepeatedIs s k w ys name b) (e : b ≡ false) where
      new : (all : Members) → Holding s k w.nodes all → (k.object ≡ true → Leading k w.index all)
          → name_for true s all at ≡ (after_colon s next >>= λ p. ok (read.text, p))
      new all f m = name_new s all at read.text next read.reads (sym (r.is all read.text f (m object) titles) ∙ e)

      pub member-no_colon : (x : Fault) → after_colon s next ≡ refused (number_of x.refusal) x.place
          → NamedIs s k w ys (λ all. name_for true s all at) (Err x)
      unfolding ◌>>=◌
      member-no_colon x h = record { answer = λ all f m. name_refused x (new all f m ∙ rw h); noted = r.noted }

      pub member-read : (first : Cursor) → after_colon s next ≡ ok first.at
          → NamedIs s k w ys (λ all. name_for true s all at) (Ok (record { next = first; name = name }))
      unfolding ◌>>=◌
      member-read first colon =
          record {
            answer = λ all f m. name_read read.text _ (new all f m ∙ rw colon) titles (λ _. r.reached read.text titles);
            noted = r.noted;
          }

-- ---- each way out of `item_name`
pub item_named : {s : Bytes} {k : Container} {w : Work} {ys : List ℕ} (at : ℕ) {r : Result Named Fault} → k.object ≡ true
    → NamedIs s k w ys (λ all. name_for true s all at) r → NamedIs s k w ys (λ all. name_for k.object s all at) r
item_named {s} {k} {w} {ys} at {r} e h = subst (λ b. NamedIs s k w ys (λ all. name_for b s all at) r) (sym e) h

pub item_nameless : {s : Bytes} {k : Container} {w : Work} (at : Cursor) {name : Name} → k.object ≡ false → name ≡ nameless
    → NamedIs s k w w.index (λ all. name_for k.object s all at.at) (Ok (record { next = at; name = name }))
unfolding name_for
item_nameless {s} {k} {w} at e is =
    record {
      answer = λ all f m. rw is (name_read [] (record { next = at; name = nameless }) (rw e) (no_titles k.source.number s) (λ t. absurd (true≢false (sym t ∙ e))));
      noted = noted_none;
    }

-- ---- each way out of `next_name`
module _ (s : Bytes) (k : Container) (w : Work) (at : ℕ) (first : Bool) (first_is : first ≡ eqb k.end (k.row + 1)) where
  -- the code knows the first item by the rows
  counted : (all : Members) → Holding s k w.nodes all → eqb (count all) 0 ≡ first
  unfolding count size
  counted none f = sym (first_is ∙ eq-eqb k.end (k.row + 1) (omega (arith, filled-size f)))
  counted (tree e kids rest) f =
      ne_eqb (suc (count rest)) 0 (λ z. omega arith) ∙ sym (first_is ∙ ne_eqb k.end (k.row + 1) (λ q. omega (arith, filled-size f)))

  by_comma : (all : Members) → Holding s k w.nodes all → next_name k.object s all at ≡ (after_comma s first at >>= name_for k.object s all)
  unfolding next_name
  by_comma all f = rw (counted all f)

  pub next_no_comma : (x : Fault) → after_comma s first at ≡ refused (number_of x.refusal) x.place
      → NamedIs s k w w.index (λ all. next_name k.object s all at) (Err x)
  unfolding ◌>>=◌
  next_no_comma x h = record { answer = λ all f m. name_refused x (by_comma all f ∙ rw h); noted = noted_none }

  pub next_named : {ys : List ℕ} {p : ℕ} {r : Result Named Fault} → after_comma s first at ≡ ok p → NamedIs s k w ys (λ all. name_for k.object s all p) r
      → NamedIs s k w ys (λ all. next_name k.object s all at) r
  unfolding ◌>>=◌
  next_named comma h = record { answer = λ all f m. rw (by_comma all f, comma) (h.answer all f m); noted = h.noted }

-- ---- each way out of `next_item`
module _ (s : Bytes) (k : Container) (w : Work) (at place : ℕ) (place_is : place ≡ blanks s at) where
  pub item_close : (next : Cursor) → next.at ≡ place + 1 → byte s place ≡ closing_bracket k.object → NextItemIs s k w w.index at (Ok (Closed next))
  unfolding next_item
  item_close next next_is e =
      record {
        answer = λ all f m.
            item_closed next (rw (← place_is, eq-eqb (byte s place) (closing_bracket k.object) e) (ap (λ n. ok (closed n)) (sym next_is)));
        noted = noted_none;
      }

  module _ (another : byte s place ≡ closing_bracket k.object → ⊥) where
    by_name : (all : Members) → next_item k.object s all at ≡ (next_name k.object s all place >>= begun)
    unfolding next_item
    by_name all = rw (← place_is, ne_eqb (byte s place) (closing_bracket k.object) another)

    -- behind its name
    pub item_next : {ys : List ℕ} (n : Named) → NamedIs s k w ys (λ all. next_name k.object s all place) (Ok n) → NextItemIs s k w ys at (Ok (Begins n))
    unfolding begun ◌>>=◌
    item_next {ys} n h = record { answer = λ all f m. go all (Ok n) (h.answer all f m) refl; noted = h.noted }
      where
        go : (all : Members) (r : Result Named Fault) → NameIs s k ys (next_name k.object s all place) r → r ≡ Ok n
            → ItemIs s k ys (next_item k.object s all at) (Ok (Begins n))
        go all r (name_read text n' q t l) e =
            let same : n' ≡ n = cc in rw (← same) (item_begins text n' (by_name all ∙ rw q) t l)
        go all r (name_refused x q) e = absurd (let z : ◌≡◌ {A = ℕ} 0 1 = cc in omega arith)

    -- or without one
    pub item_unnamed : {ys : List ℕ} (x : Fault) → NamedIs s k w ys (λ all. next_name k.object s all place) (Err x) → NextItemIs s k w ys at (Err x)
    unfolding begun ◌>>=◌
    item_unnamed {ys} x h = record { answer = λ all f m. go all (Err x) (h.answer all f m) refl; noted = h.noted }
      where
        go : (all : Members) (r : Result Named Fault) → NameIs s k ys (next_name k.object s all place) r → r ≡ Err x
            → ItemIs s k ys (next_item k.object s all at) (Err x)
        go all r (name_read text n q t l) e = absurd (let z : ◌≡◌ {A = ℕ} 0 1 = cc in omega arith)
        go all r (name_refused x' q) e =
            let same : x' ≡ x = cc in rw (← same) (item_refused x' (by_name all ∙ rw q))
