-- Laws of reading a value: each way out of `scalar_value`, and the loop over a container's items in `value`.
use Prim.Native.Nat.{ℕ, zero, suc, ◌+◌, ◌-◌, ◌≤◌, ◌<◌, ◌%◌}
use native.Mathlib.Omega.{arith}
use native.Mathlib.Decide.{ℕ_discrete}
use mathlib.Core.Path.{◌≡◌, refl, sym, ap, ◌∙◌, subst}
use mathlib.Core.Bool.{Bool, true}
use mathlib.Core.List.{List}
use lib.Dec.{eqb}
use lib.ListN.{length, set}
use Rattle.std.specs.Prelude.{Some, Result, Ok, Err}
use Rattle.spec.specs.Outcome.{Outcome, ok, refused, ◌>>=◌}
use Rattle.spec.specs.Fault.{number_of, outcome, outcome_by}
use Rattle.spec.specs.declared.refusal.Fault.{Fault}
use Rattle.spec.proofs.FaultLaws.{answer_ok, answer_refused}
use Rattle.spec.specs.Limits.{max_nodes}
use Rattle.spec.specs.Bytes.{Bytes, Text, byte}
use Rattle.spec.specs.Forest.{none, single, size, ◌⧺◌}
use Rattle.spec.specs.Value as Value
use Rattle.spec.specs.Value.{Members, leaf, named}
use Rattle.spec.specs.Read.{room_for, container_label, contents, value}
use Rattle.lexer.specs.declared.cursor.Cursor.{Cursor}
use Rattle.tape.specs.Layout.{values, array_kind, object_kind, scratch_row}
use Rattle.tape.specs.Fields.{Row, row_with}
use Rattle.tape.specs.declared.fields.Name.{Name}
use Rattle.tape.specs.Lent.{Texts}
use Rattle.table.specs.Meaning.{label_of}
use Rattle.reader.specs.Begins.{beginning, kind_at, container_room, scalar_of}
use Rattle.reader.specs.Work.{Work}
use Rattle.reader.specs.Words.{no_spelling, Titles, ScalarIs, scalar_read, scalar_refused}
use Rattle.reader.specs.Filled.{Between, SameBeyond, Noted, Filled, Marked, marked_none}
use Rattle.reader.specs.Names.{Lent, LeadsNext}
use Rattle.reader.specs.Items.{Next, closed, begins, next_item, ItemIs, item_begins, item_closed, item_refused, NextItemIs}
use Rattle.reader.specs.Taken.{scalar_cell, container_cell, Ahead, Taken, taken, refusal, ScalarTaken, ValueTaken}
use Rattle.reader.specs.declared.containers.Source.{Source}
use Rattle.reader.specs.declared.containers.Container.{Container}
use Rattle.reader.specs.declared.words.Spelled.{Spelled}
use Rattle.reader.specs.declared.items.Item.{Item}
use Rattle.reader.specs.declared.words.Named.{Named}
use Rattle.reader.specs.declared.values.Value as Declared
use Rattle.reader.proofs.ValueLaws.{whole, room_given, container_given, kind_here, value-none, value-inside, value-kind, value-scalar, value-container}
use Rattle.reader.proofs.ItemLaws.{rest, after, contents_rest, rest_step}
use Rattle.reader.proofs.PastLaws.{scalar_ok_past, item_ok_past}
use Rattle.reader.proofs.WordLaws.{textless_labels}
use Rattle.reader.proofs.RowLaws.{unchanged, change_then, change_wider, change_set}
use Rattle.reader.proofs.FilledLaws.{beyond_none, beyond_then, noted_none, noted_then, noted_below, filled_none, filled-kept, filled_join}
use Rattle.reader.proofs.FilledLaws.{filled_tree, filled-size}
use Rattle.reader.proofs.MemberLaws.{marked_stays, marked_more}

-- ---- the kind of a value that begins
pub kind_told : (s : Bytes) (at kind : ℕ) {r : Result ℕ Fault} → outcome r ≡ kind_at s at → r ≡ Ok kind → beginning (byte s at) ≡ Some kind
kind_told s at kind e t = kind_here s at kind (answer_ok _ kind e t)

-- ---- a container begins, and may begin
pub record Begun (s : Bytes) (at levels base row kind : ℕ) : Type 0 where
  pub kind_is : beginning (byte s at) ≡ Some kind
  pub container : array_kind ≤ kind
  pub from_base : base ≤ row
  pub passes : container_room levels (row - base) at ≡ ok at

pub begun : (s : Bytes) (at levels base row kind : ℕ) {r : Result (Unit {0}) Fault} → beginning (byte s at) ≡ Some kind → array_kind ≤ kind → base ≤ row
    → outcome_by (λ _. at) r ≡ container_room levels (row - base) at → r ≡ Ok tt → Begun s at levels base row kind
begun s at levels base row kind k l m e t =
    record { kind_is = k; container = l; from_base = m; passes = answer_ok (λ _. at) tt e t }

module _ {s : Bytes} {at levels base row kind : ℕ} (b : Begun s at levels base row kind) where
  pub begun_starts : at < length s
  begun_starts = value-inside s at kind b.kind_is

  pub begun_fits : row < base + max_nodes
  begun_fits = omega (arith, (container_given levels (row - base) at at b.passes).1, b.from_base)

  pub begun_levels : levels ≡ suc (levels - 1)
  begun_levels = (container_given levels (row - base) at at b.passes).0

-- ---- a container was opened: it begins before the place `start`
pub record Opened (s : Bytes) (start levels base row kind : ℕ) : Type 0 where
  pub at : ℕ
  pub here : start ≡ at + 1
  pub begun : Begun s at levels base row kind

pub opened : {s : Bytes} {at levels base row kind start : ℕ} → Begun s at levels base row kind → start ≡ at + 1 → Opened s start levels base row kind
opened {at = at} b e = record { at = at; here = e; begun = b }

opened_begun : {s : Bytes} {at levels base row kind start : ℕ} → start ≡ at + 1 → Opened s start levels base row kind → Begun s at levels base row kind
opened_begun {s} {at} {levels} {base} {row} {kind} e o =
    let same : o.at ≡ at = omega (arith, o.here) in subst (λ n. Begun s n levels base row kind) same o.begun

-- ---- the loop over a container's items
module _ (source : Source) (s : Bytes) (start levels kind row : ℕ) where
  abbrev object : Bool
  object = eqb kind object_kind

  -- the container's items by the definition, from the place after its opening bracket on; and what is left of them behind those so far, with this much fuel
  abbrev pub all_items : Outcome (Members × ℕ)
  all_items = contents (value (levels - 1) s) object s (row - source.base + 1) start

  abbrev left : ℕ → Members → ℕ → Outcome (Members × ℕ)
  left fuel so_far next = rest (value (levels - 1) s) object s (row - source.base + 1) fuel so_far next

  abbrev behind : ℕ → Members → Next → Outcome (Members × ℕ)
  behind fuel so_far = after (value (levels - 1) s) object s (row - source.base + 1) fuel so_far

  -- the items so far are in the rows behind the container's own, up to the row `end`, and the next one is looked for at `next`
  pub record Filling (w w' : Work) (next end : ℕ) : Type 0 where
    pub opened : Opened s start levels source.base row kind
    pub so_far : Members
    pub fuel : ℕ
    pub enough : length s < suc fuel + next
    pub same : all_items ≡ left (suc fuel) so_far next
    pub filled : Filled source.number s (row + 1) end so_far w'.nodes
    pub marked : object ≡ true → Marked w'.index source.base row (row + 1) so_far
    pub changed : Between (row + 1) end w.nodes w'.nodes
    pub noted : Noted source.base (row + 1) w.index w'.index
    pub forward : start ≤ next
    pub within : next ≤ length s
    pub room : end ≤ source.base + max_nodes
    pub nodes-length : length w'.nodes ≡ length w.nodes
    pub index_length : length w'.index ≡ length w.index

  pub filling_none : (w : Work) → Opened s start levels source.base row kind → Filling w w start (row + 1)
  filling_none w o = go (length s) refl
    where
      go : (n : ℕ) → length s ≡ n → Filling w w start (row + 1)
      go zero e = absurd (omega (arith, begun_starts o.begun))
      go (suc fuel) e =
          record {
            opened = o;
            so_far = none;
            fuel = fuel;
            enough = omega (arith, o.here);
            same = contents_rest (value (levels - 1) s) object s (row - source.base + 1) start ∙ ap (λ n. left n none start) e;
            filled = filled_none (row + 1) w.nodes;
            marked = λ _. marked_none;
            changed = unchanged (row + 1) (row + 1) w.nodes;
            noted = noted_none;
            forward = omega arith;
            within = omega (arith, o.here, begun_starts o.begun);
            room = omega (arith, begun_fits o.begun);
            nodes-length = refl;
            index_length = refl;
          }

-- a turn of the loop over a container's items: the next item is asked for, and the index leads to it
pub record Turn (s : Bytes) (start levels kind : ℕ) (k : Container) (w w' : Work) (ys : List ℕ) (next : ℕ) (i : Result Item Fault) : Type 0 where
  pub object : k.object ≡ eqb kind object_kind
  pub filling : Filling k.source s start levels kind k.row w w' next k.end
  pub told : NextItemIs s k w' ys next i
  pub same_length : length ys ≡ length w'.index

-- ---- what a turn comes to
module _ {s : Bytes} {start levels kind : ℕ} {k : Container} {w w' : Work} {ys : List ℕ} {next : ℕ} {i : Result Item Fault} where
  pub turn : NextItemIs s k w' ys next i → length ys ≡ length w'.index → k.object ≡ eqb kind object_kind
      → Filling k.source s start levels kind k.row w w' next k.end → Turn s start levels kind k w w' ys next i
  turn told e o g = record { object = o; filling = g; told = told; same_length = e }

  module _ (t : Turn s start levels kind k w w' ys next i) where
    abbrev is_object_lem : Bool
    is_object_lem = eqb kind object_kind

    abbrev items : Outcome (Members × ℕ)
    items = all_items k.source s start levels kind k.row

    abbrev remaining : ℕ → Members → ℕ → Outcome (Members × ℕ)
    remaining = left k.source s start levels kind k.row

    abbrev g : Filling k.source s start levels kind k.row w w' next k.end
    g = t.filling

    abbrev item_of : Outcome Next
    item_of = next_item is_object_lem s g.so_far next

    -- one step of the definition
    step : (o : Outcome Next) → item_of ≡ o → items ≡ (o >>= behind k.source s start levels kind k.row g.fuel g.so_far)
    step o e =
        g.same ∙ rest_step (value (levels - 1) s) is_object_lem s (k.row - k.source.base + 1) g.fuel g.so_far next
        ∙ ap (λ o. o >>= behind k.source s start levels kind k.row g.fuel g.so_far) e

    -- how many values have begun before the next
    from_base : k.source.base ≤ k.row
    from_base = g.opened.begun.from_base

    nodes-before : k.row - k.source.base + 1 + size g.so_far ≡ k.end - k.source.base
    nodes-before = omega (arith, filled-size g.filled, from_base)

    item-is : ItemIs s k ys item_of i
    item-is =
        subst (λ b. ItemIs s k ys (next_item b s g.so_far next) i) t.object (t.told.answer g.so_far g.filled (λ e. g.marked (sym t.object ∙ e)))

    -- the index after that
    pub noted_so_far : Noted k.source.base (k.row + 1) w.index ys
    noted_so_far = noted_then g.noted (noted_below (k.row + 1) (omega (arith, g.filled.ends)) t.told.noted)

    pub turn_unread : (x : Fault) → i ≡ Err x → items ≡ refused (number_of x.refusal) x.place
    unfolding ◌>>=◌
    turn_unread x e = go i item-is e
      where
        go : (i : Result Item Fault) → ItemIs s k ys item_of i
            → i ≡ Err x → items ≡ refused (number_of x.refusal) x.place
        go i (item_begins text n q w l) e = absurd (let z : ◌≡◌ {A = ℕ} 0 1 = cc in omega arith)
        go i (item_closed after q) e = absurd (let z : ◌≡◌ {A = ℕ} 0 1 = cc in omega arith)
        go i (item_refused x' q) e = let same : x' ≡ x = cc in step _ q ∙ ap (λ x. refused (number_of x.refusal) x.place) same

    pub turn_closed : (last : Cursor) → i ≡ Ok (Item.Closed last) → (items ≡ ok (g.so_far, last.at)) × (next < last.at) × (last.at ≤ length s)
    unfolding after ◌>>=◌
    turn_closed last e = go i item-is e
      where
        go : (i : Result Item Fault) → ItemIs s k ys item_of i
            → i ≡ Ok (Item.Closed last) → (items ≡ ok (g.so_far, last.at)) × (next < last.at) × (last.at ≤ length s)
        go i (item_begins text n q w l) e = absurd (let z : ◌≡◌ {A = ℕ} 0 1 = cc in omega arith)
        go i (item_closed last' q) e =
            let a : last' ≡ last = cc in
            let o : item_of ≡ ok (closed last.at) = q ∙ ap (λ c. ok (closed c.at)) a in
            let p = item_ok_past is_object_lem s g.so_far next (closed last.at) g.within o in
            (step _ o, p.0, p.1)
        go i (item_refused x q) e = absurd (let z : ◌≡◌ {A = ℕ} 0 1 = cc in omega arith)

    -- an item's value is read from here, under this name
    record Entered (n : Named) : Type 0 where
      pub text : Text
      pub here : item_of ≡ ok (begins text n.next.at)
      pub titles : Titles k.source.number s text n.name
      pub reached : is_object_lem ≡ true → LeadsNext k ys text

    entered : (n : Named) → i ≡ Ok (Item.Begins n) → Entered n
    entered n e = go i item-is e
      where
        go : (i : Result Item Fault) → ItemIs s k ys item_of i
            → i ≡ Ok (Item.Begins n) → Entered n
        go i (item_begins text n' q w l) e =
            let same : n' ≡ n = cc in
            record { text = text; here = q ∙ ap (λ m. ok (begins text m.next.at)) same; titles = rw same at w; reached = λ e. l (t.object ∙ e) }
        go i (item_closed last q) e = absurd (let z : ◌≡◌ {A = ℕ} 0 1 = cc in omega arith)
        go i (item_refused x q) e = absurd (let z : ◌≡◌ {A = ℕ} 0 1 = cc in omega arith)

    pub turn_begins : (n : Named) → i ≡ Ok (Item.Begins n) → (next ≤ n.next.at) × (n.next.at ≤ length s)
    turn_begins n e = let m = entered n e in item_ok_past is_object_lem s g.so_far next (begins m.text n.next.at) g.within m.here

    -- after the next item was asked for
    abbrev asked : Work
    asked = record { nodes = w'.nodes; index = ys }

    module _ {w3 : Work} {r : Result Declared.Value Fault} (item : Named) (is : i ≡ Ok (Item.Begins item))
        (told : ValueTaken k.source s item.next.at (levels - 1) item.name k.end asked w3 r) where
      abbrev first : ℕ
      first = item.next.at

      -- by the definition, after the item's name
      by_value : (text : Text) (o : Outcome (Value.Value × ℕ)) → item_of ≡ ok (begins text first) → value (levels - 1) s first (k.end - k.source.base) ≡ o
          → items ≡ (o >>= λ (v, p). remaining g.fuel (g.so_far ⧺ single (named text v)) p)
      unfolding after ◌>>=◌
      by_value text o q e =
          step _ q
          ∙ ap (λ n. value (levels - 1) s first n >>= λ (v, p). remaining g.fuel (g.so_far ⧺ single (named text v)) p) nodes-before
          ∙ ap (λ o. o >>= λ (v, p). remaining g.fuel (g.so_far ⧺ single (named text v)) p) e

      pub turn_next : (read : Declared.Value) → r ≡ Ok read → length w3.nodes ≡ length w'.nodes → length w3.index ≡ length ys
          → (next < read.next.at) × Filling k.source s start levels kind k.row w w3 read.next.at read.end
      unfolding ◌>>=◌
      turn_next read e same_nodes same_index = go r (told n.text n.titles) e
        where
          n : Entered item
          n = entered item is

          from_next : (next ≤ first) × (first ≤ length s)
          from_next = turn_begins item is

          -- another item behind those so far
          more : (v : Value.Value) (fuel : ℕ) → g.fuel ≡ fuel → value (levels - 1) s first (k.end - k.source.base) ≡ ok (v, read.next.at)
              → Ahead s first read.next.at k.end read.end (k.source.base + max_nodes) → Filled k.source.number s k.end read.end (single (named n.text v)) w3.nodes
              → Between k.end read.end w'.nodes w3.nodes → Noted k.source.base (k.end + 1) ys w3.index
              → Filling k.source s start levels kind k.row w w3 read.next.at read.end
          more v zero some o ahead f c m = absurd (omega (arith, g.enough, from_next))
          more v (suc fuel) some o ahead f c m =
              let whole : value (levels - 1) s first (k.end - k.source.base) ≡ ok (v, read.next.at) = o in
              record {
                opened = g.opened;
                so_far = g.so_far ⧺ single (named n.text v);
                fuel = fuel;
                enough = omega (arith, g.enough, from_next);
                same =
                    by_value n.text (ok (v, read.next.at)) n.here whole
                    ∙ ap (λ left. remaining left (g.so_far ⧺ single (named n.text v)) read.next.at) some;
                filled = filled_join (filled-kept c g.filled) f;
                marked = λ e.
                    let so_far = marked_stays (g.marked e) t.told.noted (omega (arith, from_base)) (omega (arith, filled-size g.filled)) in
                    let still = marked_stays so_far m (omega (arith, from_base)) (omega (arith, filled-size g.filled)) in
                    let below : k.end - k.source.base < k.end + 1 - k.source.base = omega (arith, g.filled.ends, from_base) in
                    let reached = n.reached e (omega (arith, ahead.grows, ahead.room)) in
                    marked_more still (filled-size g.filled) (named n.text v) (m.kept _ _ _ below reached);
                changed =
                    change_then (change_wider (k.row + 1) read.end (omega arith) (omega (arith, ahead.grows)) g.changed)
                    (change_wider (k.row + 1) read.end (omega (arith, g.filled.ends)) (omega arith) c);
                noted = noted_then noted_so_far (noted_below (k.row + 1) (omega (arith, g.filled.ends)) m);
                forward = omega (arith, g.forward, from_next, ahead.past);
                within = ahead.inside;
                room = ahead.room;
                nodes-length = same_nodes ∙ g.nodes-length;
                index_length = same_index ∙ t.same_length ∙ g.index_length;
              }

          go : (r : Result Declared.Value Fault) → Taken k.source.number s first n.text k.source.base k.end (k.source.base + max_nodes) asked w3 (value (levels - 1) s first (k.end - k.source.base)) r
              → r ≡ Ok read → (next < read.next.at) × Filling k.source s start levels kind k.row w w3 read.next.at read.end
          go r (refusal x q c b) e = absurd (let z : ◌≡◌ {A = ℕ} 0 1 = cc in omega arith)
          go r (taken v read' q ahead f c m) e =
              let same : read' ≡ read = cc in
              let ahead' : Ahead s first read.next.at k.end read.end (k.source.base + max_nodes) = rw same at ahead in
              (omega (arith, from_next, ahead'.past), more v g.fuel refl (q ∙ ap (λ c. ok (v, c.next.at)) same) ahead' (rw same at f) (rw same at c) m)

      pub turn_refused : (x : Fault) → r ≡ Err x
          → (items ≡ refused (number_of x.refusal) x.place) × Between (k.row + 1) (k.source.base + max_nodes) w.nodes w3.nodes × SameBeyond w.index w3.index
      unfolding ◌>>=◌
      turn_refused x e = go r (told n.text n.titles) e
        where
          n : Entered item
          n = entered item is

          go : (r : Result Declared.Value Fault) → Taken k.source.number s first n.text k.source.base k.end (k.source.base + max_nodes) asked w3 (value (levels - 1) s first (k.end - k.source.base)) r
              → r ≡ Err x
              → (items ≡ refused (number_of x.refusal) x.place) × Between (k.row + 1) (k.source.base + max_nodes) w.nodes w3.nodes × SameBeyond w.index w3.index
          go r (taken v read q ahead f c m) e = absurd (let z : ◌≡◌ {A = ℕ} 0 1 = cc in omega arith)
          go r (refusal x' q c b) e =
              let same : x' ≡ x = cc in (
                by_value n.text (refused (number_of x'.refusal) x'.place) n.here q ∙ ap (λ x. refused (number_of x.refusal) x.place) same,
                change_then (change_wider (k.row + 1) (k.source.base + max_nodes) (omega arith) g.room g.changed)
                    (change_wider (k.row + 1) (k.source.base + max_nodes) (omega (arith, g.filled.ends)) (omega arith) c),
                beyond_then noted_so_far.beyond b,
              )

-- what was lent is still long enough
module _ {source : Source} {s : Bytes} {start levels kind row : ℕ} {w w' : Work} {next end : ℕ} (l : Lent s w) where
  pub lent_filling : Filling source s start levels kind row w w' next end → Lent s w'
  lent_filling g =
      record {
        short = l.short;
        nodes_long = omega (arith, l.nodes_long, g.nodes-length);
        index_long = omega (arith, l.index_long, g.index_length);
      }

pub lent_turn : {s : Bytes} {start levels kind : ℕ} {k : Container} {w w' : Work} {ys : List ℕ} {next : ℕ} {i : Result Item Fault} → Lent s w
    → Turn s start levels kind k w w' ys next i → Lent s (record { nodes = w'.nodes; index = ys })
lent_turn l t =
    record {
      short = l.short;
      nodes_long = omega (arith, l.nodes_long, t.filling.nodes-length);
      index_long = omega (arith, l.index_long, t.filling.index_length, t.same_length);
    }

-- ---- each way out of `container`
-- a container's label is its kind
container_says : (T : Texts) (kind : ℕ) → array_kind ≤ kind → kind ≤ object_kind → label_of T kind no_spelling ≡ container_label (eqb kind object_kind)
unfolding label_of container_label
container_says T kind l m = go (ℕ_discrete kind array_kind)
  where
    go : Dec (kind ≡ array_kind) → label_of T kind no_spelling ≡ container_label (eqb kind object_kind)
    go (yes e) = rw e
    go (no n) = let e : kind ≡ object_kind = omega arith in rw e

-- refused at its first byte
pub value-way_refused : (source : Source) {s : Bytes} {at row : ℕ} {name : Name} {w : Work} (levels : ℕ) (x : Fault)
    → value levels s at (row - source.base) ≡ refused (number_of x.refusal) x.place → ValueTaken source s at levels name row w w (Err x)
value-way_refused source {row = row} {w = w} levels x e text titles = refusal x e (unchanged row (source.base + max_nodes) w.nodes) beyond_none

-- where no value begins
pub value-way_none : (source : Source) {s : Bytes} {at row : ℕ} {name : Name} {w : Work} (levels : ℕ) (x : Fault) {r : Result ℕ Fault}
    → outcome r ≡ kind_at s at → r ≡ Err x → ValueTaken source s at levels name row w w (Err x)
value-way_none source {s = s} {at} {row} levels x e t = value-way_refused source levels x (value-none s at levels (row - source.base) _ _ (answer_refused _ x e t))

-- where a container may not begin
pub value-way_full : (source : Source) {s : Bytes} {at row : ℕ} {name : Name} {w : Work} (levels kind : ℕ) (x : Fault) {r : Result (Unit {0}) Fault}
    → beginning (byte s at) ≡ Some kind → array_kind ≤ kind → outcome_by (λ _. at) r ≡ container_room levels (row - source.base) at → r ≡ Err x
    → ValueTaken source s at levels name row w w (Err x)
unfolding ◌>>=◌
value-way_full source {s = s} {at} {row} levels kind x k l e t =
    value-way_refused source levels x (value-container s at kind k l levels (row - source.base) ∙ rw (answer_refused (λ _. at) x e t))

-- ---- each way out of `scalar_value`
-- there is room for it
room-here : (base row at : ℕ) {r : Result (Unit {0}) Fault} → outcome_by (λ _. at) r ≡ room_for (row - base) at → r ≡ Ok tt
    → room_for (row - base) at ≡ ok at
room-here base row at e t = answer_ok (λ _. at) tt e t

pub scalar_fits : (base row at : ℕ) {r : Result (Unit {0}) Fault} → outcome_by (λ _. at) r ≡ room_for (row - base) at → base ≤ row → r ≡ Ok tt
    → row < base + max_nodes
scalar_fits base row at e l t = omega (arith, room_given (row - base) at at (room-here base row at e t))

module _ (source : Source) (s : Bytes) (at row kind : ℕ) (k : beginning (byte s at) ≡ Some kind) (scalar : kind < array_kind) {r : Result (Unit {0}) Fault}
    (told-room : outcome_by (λ _. at) r ≡ room_for (row - source.base) at) where
  pub scalar_no_room : {name : Name} {nodes : List Row} (x : Fault) → r ≡ Err x → ScalarTaken source s at name row nodes nodes (Err x)
  unfolding ◌>>=◌
  scalar_no_room x t levels xs =
      value-way_refused source levels x (value-scalar s at kind k levels (row - source.base) scalar ∙ rw (answer_refused (λ _. at) x told-room t))

  -- the definition reads a scalar
  by_scalar : r ≡ Ok tt → (levels : ℕ) → value levels s at (row - source.base) ≡ scalar_of kind s at
  unfolding ◌>>=◌
  by_scalar passes levels = value-scalar s at kind k levels (row - source.base) scalar ∙ rw (room-here source.base row at told-room passes)

  module _ (l : source.base ≤ row) (passes : r ≡ Ok tt) {w : Result Spelled Fault} (told : ScalarIs source.number s kind (scalar_of kind s at) w) where
    pub scalar_taken : {name : Name} {nodes nodes' : List Row} (read : Spelled) → w ≡ Ok read → scratch_row ≤ length nodes
        → nodes' ≡ set nodes row (row_with (scalar_cell kind read.spelling name) (0 % values))
        → ScalarTaken source s at name row nodes nodes' (Ok (record { next = read.next; end = row + 1 }))
    scalar_taken {name} {nodes} {nodes'} read e long stored levels xs text titles = go w told e
      where
        go : (w : Result Spelled Fault) → ScalarIs source.number s kind (scalar_of kind s at) w → w ≡ Ok read
            → Taken source.number s at text source.base row (source.base + max_nodes) (record { nodes = nodes; index = xs }) (record { nodes = nodes'; index = xs })
            (value levels s at (row - source.base)) (Ok (record { next = read.next; end = row + 1 }))
        go w (scalar_refused x q) e = absurd (let z : ◌≡◌ {A = ℕ} 0 1 = cc in omega arith)
        go w (scalar_read label read' q labels) e =
            let same : read' ≡ read = cc in
            let o : scalar_of kind s at ≡ ok (leaf label, read.next.at) = q ∙ ap (λ m. ok (leaf label, m.next.at)) same in
            let p = scalar_ok_past kind s at (leaf label) read.next.at (value-inside s at kind k) o in
            taken (leaf label) _ (by_scalar passes levels ∙ o) (record { past = p.0; inside = p.1; grows = omega arith; room = omega (arith, scalar_fits source.base row at told-room l passes) })
            (filled_tree kind read.spelling name 0 label text (rw same at labels) titles (omega arith) (λ h. refl)
            (omega (arith, scalar_fits source.base row at told-room l passes, source.low)) long (omega arith)
            stored (filled_none (row + 1) nodes))
            (rw stored (change_set row (row + 1) nodes row _ (omega arith) (omega arith)))
            noted_none

    pub scalar-refusal : {name : Name} {nodes : List Row} (x : Fault) → w ≡ Err x → ScalarTaken source s at name row nodes nodes (Err x)
    scalar-refusal {nodes = nodes} x e levels xs text titles = go w told e
      where
        go : (w : Result Spelled Fault) → ScalarIs source.number s kind (scalar_of kind s at) w → w ≡ Err x
            → Taken source.number s at text source.base row (source.base + max_nodes) (record { nodes = nodes; index = xs }) (record { nodes = nodes; index = xs })
            (value levels s at (row - source.base)) (Err x)
        go w (scalar_read label read q l) e = absurd (let z : ◌≡◌ {A = ℕ} 0 1 = cc in omega arith)
        go w (scalar_refused x' q) e =
            let same : x' ≡ x = cc in
            refusal x (by_scalar passes levels ∙ q ∙ ap (λ x. refused (number_of x.refusal) x.place) same) (unchanged row (source.base + max_nodes) nodes) beyond_none

-- ---- a container's items
module _ (source : Source) {s : Bytes} {levels row kind start : ℕ} (at : ℕ) (here : start ≡ at + 1) (o : Opened s start levels source.base row kind) where
  by_items : (r : Outcome (Members × ℕ)) → all_items source s start levels kind row ≡ r
      → value levels s at (row - source.base) ≡ (r >>= whole (eqb kind object_kind))
  unfolding ◌>>=◌
  by_items r e =
      let b = opened_begun here o in
      value-container s at kind b.kind_is b.container levels (row - source.base)
      ∙ ap (λ r. r >>= λ _. contents (value (levels - 1) s) (eqb kind object_kind) s (row - source.base + 1) (at + 1) >>= whole (eqb kind object_kind)) b.passes
      ∙ ap (λ p. contents (value (levels - 1) s) (eqb kind object_kind) s (row - source.base + 1) p >>= whole (eqb kind object_kind)) (sym here)
      ∙ ap (λ o. o >>= whole (eqb kind object_kind)) e

  -- a refusal among them
  items_refused : {name : Name} {w w' : Work} (x : Fault) (end : ℕ) → end ≤ source.base + max_nodes
      → all_items source s start levels kind row ≡ refused (number_of x.refusal) x.place → Between (row + 1) end w.nodes w'.nodes
      → SameBeyond w.index w'.index → ValueTaken source s at levels name row w w' (Err x)
  unfolding ◌>>=◌
  items_refused x end room e c m text titles =
      refusal x (by_items (refused (number_of x.refusal) x.place) e) (change_wider row (source.base + max_nodes) (omega arith) room c) m

-- there is a level left
pub turn_levels : {s : Bytes} {start levels kind : ℕ} {k : Container} {w w' : Work} {ys : List ℕ} {next : ℕ} {i : Result Item Fault}
    → Turn s start levels kind k w w' ys next i → levels ≡ suc (levels - 1)
turn_levels t = begun_levels t.filling.opened.begun

module _ {s : Bytes} {levels kind : ℕ} {k : Container} {name : Name} {w w' : Work} {ys : List ℕ} {next start : ℕ} {i : Result Item Fault} (at : ℕ)
    (here : start ≡ at + 1) (t : Turn s start levels kind k w w' ys next i) where
  -- no next item
  pub value-way_unread : (x : Fault) → i ≡ Err x → ValueTaken k.source s at levels name k.row w (record { nodes = w'.nodes; index = ys }) (Err x)
  value-way_unread x e = items_refused k.source at here t.filling.opened x k.end t.filling.room (turn_unread t x e) t.filling.changed (noted_so_far t).beyond

  -- an item's value is refused, and the refusal handed on
  pub value-way_handed : {w3 : Work} {r : Result Declared.Value Fault} (item : Named) → i ≡ Ok (Item.Begins item)
      → ValueTaken k.source s item.next.at (levels - 1) item.name k.end (record { nodes = w'.nodes; index = ys }) w3 r → (x : Fault)
      → r ≡ Err x → ValueTaken k.source s at levels name k.row w w3 (Err x)
  value-way_handed item is read x e =
      let c = turn_refused t item is read x e in items_refused k.source at here t.filling.opened x (k.source.base + max_nodes) (omega arith) c.0 c.1 c.2

  -- its closing bracket, and its own k.row stored
  pub value-way_closed : {nodes : List Row} (last : Cursor) → i ≡ Ok (Item.Closed last)
      → scratch_row ≤ length w.nodes → nodes ≡ set w'.nodes k.row (row_with (container_cell kind name) ((k.end - k.row - 1) % values))
      → ValueTaken k.source s at levels name k.row w (record { nodes = nodes; index = ys }) (Ok (record { next = last; end = k.end }))
  unfolding whole ◌>>=◌
  value-way_closed last is long stored text titles =
      let z = turn_closed t last is in
      let o = t.filling.opened in
      let b = opened_begun here o in
      let m : kind ≤ object_kind = value-kind s at kind b.kind_is in
      let label = container_label (eqb kind object_kind) in
      let least = b.container in
      let labels = textless_labels k.source.number s kind label (λ h. omega (arith, least)) (λ h. omega (arith, least)) (λ T. container_says T kind least m) in
      let f = t.filling.filled in
      let long' : scratch_row ≤ length w'.nodes = omega (arith, t.filling.nodes-length) in
      taken (record { label = label; kids = t.filling.so_far }) _ (by_items k.source at here o (ok (t.filling.so_far, last.at)) z.0)
      (record { past = omega (arith, z.1, t.filling.forward); inside = z.2; grows = k.grows; room = k.fits })
      (filled_tree kind no_spelling name (k.end - k.row - 1) label text labels titles m (λ h. absurd (omega (arith, least)))
      (omega (arith, k.fits, k.source.low)) long' refl
      stored f)
      (change_then (change_wider k.row k.end (omega arith) (omega arith) t.filling.changed)
      (rw stored (change_set k.row k.end w'.nodes k.row _ (omega arith) k.grows)))
      (noted_so_far t)
