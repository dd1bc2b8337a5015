-- Laws of search paths: a row that is entered where a path ends is met on it, and every path to a row before it stays.
use Prim.Native.Nat.{ℕ, ◌+◌, ◌-◌, ◌*◌, ◌/◌, ◌%◌, ◌<◌, ◌≤◌}
use native.Mathlib.Omega.{arith}
use mathlib.Core.Path.{◌≡◌, refl, sym, ap, ◌∙◌, subst}
use mathlib.Core.Bool.{Bool, true, false, ◌||◌, true≢false}
use mathlib.Core.List.{List}
use lib.ListN.{get_or}
use Rattle.std.specs.Prelude.{Option, Some, None, ◌⊎◌}
use Rattle.std.proofs.Common.{inl, inr}
use borrow.Author.Tests.{lt-ltb, le-ltb}
use Rattle.tape.specs.Layout.{scratch_row}
use Rattle.tape.specs.Fields.{Row, no_node, name_of}
use Rattle.tape.specs.declared.fields.Name.{Name}
use Rattle.tape.specs.Lent.{Texts, Table}
use Rattle.table.specs.Meaning.{name_text}
use Rattle.table.specs.Find.{same_name}
use Rattle.table.proofs.Search.{other-named}
use Rattle.index.specs.Slots.{room, branches, parents, bucket_slot, branch_slot, slot_at, slot_set}
use Rattle.index.specs.Bits.{hash_bits, Stream, refill, bit_of, rest_of, stream_of}
use Rattle.index.specs.Ways.{owner_of, Leads, Meets, here, there, Way, begun, further, bits_of, MeetsName, Descended}
use Rattle.index.specs.Ways.{DescendedByHash, Entered, EnteredByHash}
use Rattle.index.specs.declared.bits.Bits.{Bits}
use Rattle.index.specs.declared.ways.Ending.{Ending}
use Rattle.index.proofs.SlotLaws.{slot_put, slot_other, slot_behind}
use Rattle.index.proofs.BitLaws.{stream_start, stream_bit, stream_rest, filled_still}

-- ---- slots and their owners
bit_small : (q : Stream) → bit_of q < 2
unfolding bit_of
bit_small q = omega arith

owner_branch : (x b : ℕ) → b < 2 → owner_of (branch_slot x b) ≡ x
unfolding owner_of
owner_branch x b h = rw (le-ltb (branches + 2 * x + b) branches (omega arith)) (omega arith)

owner_start : (s : ℕ) → s < room → owner_of s ≡ 0
unfolding owner_of
owner_start s h = rw (lt-ltb s branches h)

-- ---- the first row on a path
record First (xs : List ℕ) (t slot : ℕ) : Type 0 where
  pub row : ℕ
  pub leads : Leads xs slot row
  pub low : row ≤ t

meets_first : {xs : List ℕ} {t slot : ℕ} {q : Stream} → Meets xs t slot q → First xs t slot
meets_first {t = t} (here l) = record { row = t; leads = l; low = omega arith }
meets_first {t = t} (there {q = q} x l m) =
    let f = meets_first m in
    record { row = x; leads = l; low = omega (arith, f.low, f.leads.above, owner_branch x (bit_of q) (bit_small q)) }

-- ---- a number is put where a path ends
module _ {xs : List ℕ} {s limit : ℕ} (v : ℕ) (ends : (x : ℕ) → x < limit → Leads xs s x → ⊥) where
  leads_kept : {slot x : ℕ} → x < limit → Leads xs slot x → Leads (slot_set xs s v) slot x
  leads_kept {slot} {x} h l =
      record {
        is = slot_other xs s slot v (λ e. ends x h (subst (λ n. Leads xs n x) (sym e) l)) ∙ l.is;
        above = l.above;
        below = l.below;
      }

  pub meets_kept : {t : ℕ} {slot : ℕ} {q : Stream} → t < limit → Meets xs t slot q → Meets (slot_set xs s v) t slot q
  meets_kept h (here l) = here (leads_kept h l)
  meets_kept h (there {q = q} x l m) =
      let f = meets_first m in
      there x (leads_kept (omega (arith, f.low, f.leads.above, owner_branch x (bit_of q) (bit_small q))) l) (meets_kept h m)

  way_kept : {start : ℕ} {bits : Stream} {slot : ℕ} {q : Stream} → owner_of slot < limit → Way xs start bits slot q → Way (slot_set xs s v) start bits slot q
  way_kept h begun = begun
  way_kept h (further {q = q} x w l) =
      let low : x < limit = omega (arith, owner_branch x (bit_of q) (bit_small q)) in
      further x (way_kept (omega (arith, l.above)) w) (leads_kept low l)

-- a path goes on
way_then : {xs : List ℕ} {start t : ℕ} {bits : Stream} {slot : ℕ} {q : Stream} → Way xs start bits slot q → Meets xs t slot q → Meets xs t start bits
way_then begun m = m
way_then (further x w l) m = way_then w (there x l m)

-- ---- the loop of `descend`
module _ (w : Table) (xs : List ℕ) (base limit start : ℕ) (name : Name) where
  abbrev Differs : ℕ → Type 0
  Differs t = false ≡ same_name w.texts (name_of (get_or w.nodes (base + t) no_node)) name

  abbrev stream : Bits → Stream
  stream bits = stream_of w.texts name bits

  -- the path has led to the slot `at`, which is a branch of the row `last`; where no row so far has the name, those that have it are further on
  pub record Descending (at last : ℕ) (same : Bool) (bits : Bits) : Type 0 where
    pub way : Way xs start (bits_of w.texts name) at (stream bits)
    pub owner : owner_of at ≡ last
    pub low : last < limit
    pub inside : at < parents
    pub ahead : same ≡ false → (t : ℕ) → t < limit → MeetsName xs w.texts start name t → (Meets xs t at (stream bits) → Differs t) → Differs t

  pub descending_start : (bits : Bits) → bits.left ≡ hash_bits name.hash → bits.next ≡ 0 → start < room → 0 < limit → Descending start 0 false bits
  descending_start bits l n h z =
      let same : stream bits ≡ bits_of w.texts name = stream_start w.texts name bits l n in
      record {
        way = subst (λ q. Way xs start (bits_of w.texts name) start q) (sym same) begun;
        owner = owner_start start h;
        low = z;
        inside = omega arith;
        ahead = λ _ t k meets further. further (subst (λ q. Meets xs t start q) (sym same) meets);
      }

  module _ {at last : ℕ} {same : Bool} {bits : Bits} (d : Descending at last same bits) (row : ℕ) (is : row ≡ slot_at xs at) where
    -- the path ends
    ended : ((x : ℕ) → x < limit → Leads xs at x → ⊥) → Descended w xs base limit start name (record { slot = at; same = same })
    ended ends =
        record {
          bits = stream bits;
          way = d.way;
          owner = omega (arith, d.owner, d.low);
          ends = ends;
          inside = d.inside;
          others = λ f t h m. d.ahead f t h m (λ further. let r = meets_first further in absurd (ends r.row (omega (arith, r.low)) r.leads));
        }

    pub descended_end : (row ≤ last) ⊎ ((last < row) × (limit ≤ row)) → Descended w xs base limit start name (record { slot = at; same = same })
    descended_end (inl h) = ended (λ x k l. omega (arith, l.is, l.above, d.owner))
    descended_end (inr h) = ended (λ x k l. omega (arith, l.is, h.1))

    -- it leads on
    module _ (up : last < row) (few : row < limit) (small : limit ≤ room) where
      leads : Leads xs at row
      leads = record { is = sym is; above = omega (arith, d.owner); below = omega arith }

      pub descending_next : {r same' : Bool} {other : Name} (filled bits' : Bits) {at' : ℕ} → other ≡ name_of (get_or w.nodes (base + row) no_node)
          → r ≡ same_name w.texts other name → same' ≡ same || r → stream filled ≡ refill (stream bits)
          → at' ≡ branch_slot row (filled.left % 2) → bits'.left ≡ filled.left / 2 → bits'.next ≡ filled.next → Descending at' row same' bits'
      descending_next {r} {same'} {other} filled bits' {at'} named said both fills goes l n =
          let q = stream bits in
          let bit : filled.left % 2 ≡ bit_of q = stream_bit w.texts name q filled fills in
          let rest : stream bits' ≡ rest_of q = stream_rest w.texts name q filled bits' fills l n in
          let slot : at' ≡ branch_slot row (bit_of q) = goes ∙ ap (branch_slot row) bit in
          let low = bit_small q in
          let led : Way xs start (bits_of w.texts name) (branch_slot row (bit_of q)) (stream bits') =
          subst (λ p. Way xs start (bits_of w.texts name) (branch_slot row (bit_of q)) p) (sym rest) (further row d.way leads) in
          record {
            way = subst (λ s. Way xs start (bits_of w.texts name) s (stream bits')) (sym slot) led;
            owner = ap owner_of slot ∙ owner_branch row (bit_of q) low;
            low = few;
            inside = omega (arith, slot, low);
            ahead = λ f t h m next.
                d.ahead (first_false same r (sym both ∙ f)) t h m (λ further. met t (second_false same r (sym both ∙ f)) next slot rest further);
          }
        where
          first_false : (a b : Bool) → a || b ≡ false → a ≡ false
          first_false true b e = e
          first_false false b e = refl

          second_false : (a b : Bool) → a || b ≡ false → b ≡ false
          second_false true b e = absurd (true≢false e)
          second_false false b e = e

          -- a row that is met from here on is this one, or it is met further on
          met : (t : ℕ) → r ≡ false → (Meets xs t at' (stream bits') → Differs t) → at' ≡ branch_slot row (bit_of (stream bits))
              → stream bits' ≡ rest_of (stream bits) → Meets xs t at (stream bits) → Differs t
          met t f next slot rest (here l) =
              let same_row : row ≡ t = is ∙ l.is in
              let differs : false ≡ same_name w.texts other name = sym f ∙ said in
              subst Differs same_row (subst (λ m. false ≡ same_name w.texts m name) named differs)
          met t f next slot rest (there x l m) =
              let same_row : x ≡ row = sym l.is ∙ sym is in
              let q = stream bits in
              let on : Meets xs t (branch_slot row (bit_of q)) (rest_of q) =
              subst (λ n. Meets xs t (branch_slot n (bit_of q)) (rest_of q)) same_row m in
              let on-by : Meets xs t (branch_slot row (bit_of q)) (stream bits') = subst (λ p. Meets xs t (branch_slot row (bit_of q)) p) (sym rest) on in
              next (subst (λ s. Meets xs t s (stream bits')) (sym slot) on-by)

-- ---- a member is entered
module _ (w : Table) (xs : List ℕ) (base object row : ℕ) (name : Name) where
  -- where nothing is done, since the numbers do not fit
  pub not_entered : ((base ≤ scratch_row) × (base < row) × (row < base + room) → ⊥) → Entered w xs base object row name xs true
  not_entered out =
      record {
        kept = λ slot q t h m. m;
        found = λ a b c l. absurd (out (a, b, c));
        others = λ e. absurd (true≢false e);
        behind = refl;
      }

  -- the row is put where the path of the name ends
  put_there : (r : Ending) → Descended w xs base (row - base) (bucket_slot object name.hash) name r
      → Entered w xs base object row name (slot_set xs r.slot (row - base)) r.same
  put_there r d =
      let new = row - base in
      let s = r.slot in
      record {
        kept = λ slot q t h m. meets_kept new d.ends h m;
        found = λ a b c l.
            let put : slot_at (slot_set xs s new) s ≡ new = slot_put xs s new (omega (arith, d.inside)) (omega arith) in
            way_then (way_kept new d.ends d.owner d.way) (here (record { is = put; above = d.owner; below = omega arith }));
        others = d.others;
        behind = slot_behind xs s new parents d.inside;
      }

  pub entered : {start h : ℕ} {ys : List ℕ} (r : Ending) → h ≡ name.hash → start ≡ bucket_slot object h
      → Descended w xs base (row - base) start name r → ys ≡ slot_set xs r.slot (row - base) → Entered w xs base object row name ys r.same
  entered r h-is start_is d e =
      rw e (put_there r (subst (λ s. Descended w xs base (row - base) s name r) (start_is ∙ ap (bucket_slot object) h-is) d))

-- ---- by the hash alone
-- a table with these nodes
abbrev table_with : List Row → Texts → Table
table_with nodes T = record { texts = T; nodes = nodes }

-- the path so far, whatever the two texts are
pub record Passing (nodes : List Row) (xs : List ℕ) (base limit start : ℕ) (name : Name) (at last left : ℕ) : Type 0 where
  pub so_far : (T : Texts) → Descending (table_with nodes T) xs base limit start name at last false (record { left = left; next = 0 })

module _ {nodes : List Row} {xs : List ℕ} {base limit start : ℕ} {name : Name} where
  pub passing_start : {left : ℕ} → left ≡ hash_bits name.hash → start < room → 0 < limit → Passing nodes xs base limit start name start 0 left
  passing_start e h z =
      record { so_far = λ T. descending_start (table_with nodes T) xs base limit start name (record { left = _; next = 0 }) e refl h z }

  module _ {at last left : ℕ} (p : Passing nodes xs base limit start name at last left) (row : ℕ) (is : row ≡ slot_at xs at) where
    pub passed_end : (row ≤ last) ⊎ ((last < row) × (limit ≤ row)) → DescendedByHash nodes xs base limit start name (Some at)
    passed_end h =
        record {
          ends = λ slot e T.
              let same : at ≡ slot = cc in
              subst (λ s. Descended (table_with nodes T) xs base limit start name (record { slot = s; same = false })) same
              (descended_end (table_with nodes T) xs base limit start name (p.so_far T) row is h);
        }

    pub passing_next : {other : Name} {at' left' : ℕ} → last < row → row < limit → limit ≤ room → other ≡ name_of (get_or nodes (base + row) no_node)
        → (other.hash ≡ name.hash → ⊥) → 1 < left → at' ≡ branch_slot row (left % 2) → left' ≡ left / 2
        → Passing nodes xs base limit start name at' row left'
    passing_next {other} up few small named differs some goes l =
        let bits : Bits = record { left = left; next = 0 } in
        record {
          so_far = λ T.
              descending_next (table_with nodes T) xs base limit start name (p.so_far T) row is up few small bits (record { left = _; next = 0 }) named
              (other-named T other name.hash (name_text T name) differs) refl (filled_still T name bits some) goes l refl;
        }

-- the path was not followed to its end
pub no_slot : {nodes : List Row} {xs : List ℕ} {base limit start : ℕ} {name : Name} → DescendedByHash nodes xs base limit start name None
no_slot = record { ends = λ slot e. absurd (let z : ◌≡◌ {A = ℕ} 0 1 = cc in omega arith) }

-- ---- each way out of `enter_by_hash`
module _ {nodes : List Row} {xs : List ℕ} {base object row : ℕ} {name : Name} where
  pub not_by_hash : EnteredByHash nodes xs base object row name xs false
  not_by_hash = record { entered = λ e. absurd (true≢false (sym e)); not_entered = λ _. refl }

  pub entered_by_hash : {ys : List ℕ} {start h slot : ℕ} {found : Option ℕ} → h ≡ name.hash → start ≡ bucket_slot object h
      → DescendedByHash nodes xs base (row - base) start name found → found ≡ Some slot → ys ≡ slot_set xs slot (row - base)
      → EnteredByHash nodes xs base object row name ys true
  entered_by_hash {slot = slot} h-is start_is d e put =
      record {
        entered = λ _ T. entered (table_with nodes T) xs base object row name (record { slot = slot; same = false }) h-is start_is (d.ends slot e T) put;
        not_entered = λ e. absurd (true≢false e);
      }

-- where the hash does not tell, the member is entered as others are
pub entered_after : {w : Table} {xs ys zs : List ℕ} {base object row : ℕ} {name : Name} {tried r : Bool}
    → EnteredByHash w.nodes xs base object row name ys tried → tried ≡ false → Entered w ys base object row name zs r
    → Entered w xs base object row name zs r
entered_after {w} {zs = zs} {base} {object} {row} {name} {r = r} f e behind =
    subst (λ vs. Entered w vs base object row name zs r) (f.not_entered e) behind
