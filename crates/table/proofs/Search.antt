-- Laws of a search for a name: what has been passed has other names.
use Rattle.std.specs.Prelude.{Option, Some, None, if◌then◌else◌}
use Prim.Native.Nat.{ℕ, zero, suc, ◌+◌, ◌<◌, ◌≤◌}
use native.Mathlib.Nat.{add-zero}
use native.Mathlib.Omega.{arith}
use native.Mathlib.Decide.{dec_lt}
use mathlib.Core.Path.{◌≡◌, refl, ap, sym, ◌∙◌, subst}
use mathlib.Core.Bool.{Bool, true, false, ◌&&◌}
use lib.Dec.{eqb, ltb}
use borrow.Author.Tests.{eq-eqb, ne_eqb, eqb-false, ltb-true, lt-ltb, le-ltb}
use mathlib.Core.List.{List, []}
use lib.ListN.{length, get_or}
use Rattle.spec.specs.Bytes.{Text}
use Rattle.spec.specs.Forest.{Forest, tree, count, size, before, from, nth, ◌⧺◌}
use Rattle.spec.specs.Value.{same_text}
use Rattle.spec.proofs.TextLaws.{same_text_true}
use Rattle.lexer.specs.Hash.{hash}
use Rattle.tape.specs.Layout.{array_kind}
use Rattle.tape.specs.Fields.{Row, kind_of, span_of, name_of}
use Rattle.tape.specs.declared.fields.Name.{Name}
use Rattle.tape.specs.declared.fields.Cell.{Cell}
use Rattle.tape.specs.Cell.{Held}
use Rattle.tape.specs.Lent.{Texts, Table}
use Rattle.tape.specs.Map.{position}
use Rattle.tape.proofs.Forests.{count-from, from-nth, size-cut, size-before_suc, before_all, count_le_size}
use Rattle.tape.proofs.Cells.{formed_fit, blank}
use Rattle.tape.proofs.Held.{held_from, held_node}
use Rattle.tape.proofs.Rows.{inside_here, kind_here, span_here, cell_here}
use Rattle.tape.proofs.Map.{find-map, position-found, position_next, position_none}
use Rattle.table.specs.Meaning.{name_text, entry_of, short_hash, Hashed}
use Rattle.table.specs.Find.{is_named, same_name, row_behind, limit_of, AllQuiet, Sought, sought_here, sought_next, sought_over, Found, found, missing}
use Rattle.table.specs.Find.{Between, FindIs, FindAsciiIs}
use Rattle.table.proofs.AllLaws.{all_first, all_from}
use Rattle.table.specs.Sound.{RowsHeld}

-- ---- names compared
module _ (T : Texts) (own : Name) (h : ℕ) (name : Text) where
  -- names whose hashes differ are not the same
  pub other-named : (own.hash ≡ h → ⊥) → false ≡ is_named T own h name
  unfolding is_named
  other-named differ = rw (ne_eqb own.hash h differ)

  pub hash-named : {r : Bool} → own.hash ≡ h → r ≡ same_text (name_text T own) name → r ≡ is_named T own h name
  unfolding is_named
  hash-named e f = rw (eq-eqb own.hash h e) f

  -- where the hash is that of the text, the text alone tells
  pub named_hashed : Hashed T own → h ≡ short_hash (hash name) → is_named T own h name ≡ same_text (name_text T own) name
  unfolding is_named
  named_hashed hashed is = go (eqb own.hash h) refl (same_text (name_text T own) name) refl
    where
      go : (b : Bool) → eqb own.hash h ≡ b → (r : Bool) → same_text (name_text T own) name ≡ r
          → (eqb own.hash h && same_text (name_text T own) name) ≡ same_text (name_text T own) name
      go true e r f = rw e
      go false e true f = absurd (eqb-false own.hash h e (hashed.is ∙ ap (λ t. short_hash (hash t)) (same_text_true _ _ f) ∙ sym is))
      go false e false f = rw (e, f)

-- the test of the search
abbrev named : Texts → Text → Cell → Bool
named T name c = same_text (name_text T c.name) name

-- k trees are passed, none of which has the name, and the next one, or the end, is in a row
pub record Seeking (T : Texts) (start : ℕ) (f : Forest Cell) (name : Text) (row : ℕ) : Type 0 where
  pub k : ℕ
  pub few : k ≤ count f
  pub place : row ≡ start + size (before k f)
  pub passed : position (named T name) f ≡ k + position (named T name) (from k f)

pub seeking_all : {T : Texts} {start : ℕ} {f : Forest Cell} {name : Text} → Seeking T start f name start
unfolding before from size
seeking_all = record { k = 0; few = omega arith; place = omega arith; passed = omega arith }

-- no tree is left in the row `end`
at_end : {T : Texts} {start : ℕ} {f : Forest Cell} {name : Text} {row : ℕ} (s : Seeking T start f name row) → start + size f ≤ row → count f ≤ s.k
at_end {f = f} s h = go (dec_lt s.k (count f))
  where
    go : Dec (s.k < count f) → count f ≤ s.k
    go (yes l) = absurd (omega (arith, s.place, size-cut s.k f, count-from s.k f s.few, count_le_size (from s.k f)))
    go (no l) = omega arith

module _ {w : Table} {start end : ℕ} {f : Forest Cell} {name : Text} {row : ℕ} (a : RowsHeld w start end f) (s : Seeking w.texts start f name row) where
  pub seek_none : end ≤ row → Found w.texts start f name None
  seek_none h =
      let all = at_end s (omega (arith, a.ends)) in
      let e : s.k ≡ count f = omega (arith, s.few) in
      missing (find-map (entry_of w.texts) name f ∙ position_none (named w.texts name) s.k f all s.passed ∙ e)

  module _ (h : row < end) where
    there : s.k < count f
    there = go (dec_lt s.k (count f))
      where
        go : Dec (s.k < count f) → s.k < count f
        go (yes l) = l
        go (no l) = absurd (omega (arith, s.place, a.ends, ap size (before_all s.k f (omega arith))))

    here : Held w.nodes row (tree (nth blank s.k f).root (nth blank s.k f).kids (from (suc s.k) f))
    unfolding ◌⧺◌
    here = rw s.place (rw (from-nth blank s.k f there) at (held_from s.k a.held))

    -- the row is in the columns
    pub seek_inside : row < length w.nodes
    seek_inside = inside_here (held_node here)

    name_here : name_of (get_or w.nodes row []) ≡ (nth blank s.k f).root.name
    name_here = ap (λ (c : Cell). c.name) (cell_here (held_node here) [])

    -- the name in the row has the hash of its text
    pub seek_hashed : Hashed w.texts (name_of (get_or w.nodes row []))
    unfolding ◌⧺◌
    seek_hashed = rw (name_here) (all_first (rw (from-nth blank s.k f there) at (all_from s.k a.sound))).name.hashed

    test_here : (r : Bool) → r ≡ same_text (name_text w.texts (name_of (get_or w.nodes row []))) name → named w.texts name (nth blank s.k f).root ≡ r
    test_here r t = sym (t ∙ ap (λ n. same_text (name_text w.texts n) name) (name_here))

    pub seek_found : true ≡ same_text (name_text w.texts (name_of (get_or w.nodes row []))) name → Found w.texts start f name (Some row)
    seek_found t =
        found s.k row (find-map (entry_of w.texts) name f ∙ position-found (named w.texts name) blank s.k f there (test_here true t) s.passed)
        there s.place

    pub seek_next : (next : ℕ) → next ≡ row + 1 + span_of (get_or w.nodes row []) → false ≡ same_text (name_text w.texts (name_of (get_or w.nodes row [])))
        name
        → Seeking w.texts start f name next
    seek_next next n t =
        record {
          k = suc s.k;
          few = there;
          place = n ∙ omega (arith, span_here (held_node here), s.place, size-before_suc blank s.k f there);
          passed = position_next (named w.texts name) blank s.k f there (test_here false t) s.passed;
        }

    -- a scalar's row tells of no children
    pub seek_scalar : kind_of (get_or w.nodes row []) < array_kind → span_of (get_or w.nodes row []) ≡ 0
    unfolding size
    seek_scalar scalar =
        let n = held_node here in
        span_here n ∙ ap size ((formed_fit n.held.formed).scalar (omega (arith, kind_here n)))

  -- no tree is left where a search ends
  pub seek_over : (stop : ℕ) → stop ≡ limit_of w.nodes end → stop ≤ row → Found w.texts start f name None
  seek_over stop e l = go (dec_lt row end)
    where
      go : Dec (row < end) → Found w.texts start f name None
      go (yes h) = absurd (omega (arith, seek_inside h))
      go (no h) = seek_none (omega arith)

-- ---- whatever the records hold
module _ (nodes : List Row) (row : ℕ) where
  abbrev here_row : Row
  here_row = get_or nodes row []

  -- the row behind, where a scalar has no children
  pub row_behind_lem : (kind_of here_row < array_kind → span_of here_row ≡ 0) → row_behind nodes row ≡ row + 1 + span_of here_row
  unfolding row_behind
  row_behind_lem none = go (ltb (kind_of here_row) array_kind) refl
    where
      go : (b : Bool) → ltb (kind_of here_row) array_kind ≡ b → row + 1 + (if ltb (kind_of here_row) array_kind then 0 else span_of here_row)
          ≡ row + 1 + span_of here_row
      go true e = rw (e, none (ltb-true (kind_of here_row) array_kind e))
      go false e = rw e

  pub behind_scalar : kind_of here_row < array_kind → row + 1 ≡ row_behind nodes row
  unfolding row_behind
  behind_scalar h = rw (lt-ltb (kind_of here_row) array_kind h, add-zero (row + 1))

  pub behind_container : array_kind ≤ kind_of here_row → row + 1 + span_of here_row ≡ row_behind nodes row
  unfolding row_behind
  behind_container h = rw (le-ltb (kind_of here_row) array_kind h)

  pub behind_later : row < row_behind nodes row
  unfolding row_behind
  behind_later = omega arith

-- what a search from `row` on finds, one from `start` on finds: all names that are passed between are others
abbrev pub Passed : List Row → ℕ → (Name → Bool) → ℕ → ℕ → Type 0
Passed nodes stop test start row = (r : Option ℕ) → Sought nodes stop test row r → Sought nodes stop test start r

module _ {nodes : List Row} {stop : ℕ} {test : Name → Bool} {start row : ℕ} (so_far : Passed nodes stop test start row) where
  pub pass : (next : ℕ) {own : Name} → row < stop → false ≡ test own → own ≡ name_of (get_or nodes row [])
      → next ≡ row_behind nodes row → Passed nodes stop test start next
  pass next l t e f r s = so_far r (sought_next l (t ∙ ap test e) (subst (λ n. Sought nodes stop test n r) f s))

  pub meet : {own : Name} → row < stop → true ≡ test own → own ≡ name_of (get_or nodes row []) → Sought nodes stop test start (Some row)
  meet l t e = so_far (Some row) (sought_here l (t ∙ ap test e))

  pub over : stop ≤ row → Sought nodes stop test start None
  over l = so_far None (sought_over l)

-- quiet rows are passed
module _ (T : Texts) (name : Name) {nodes : List Row} {stop start : ℕ} where
  pub pass_quiet : {row : ℕ} (n : ℕ) → row + n ≤ stop → AllQuiet nodes name.hash row n → Passed nodes stop (λ m. same_name T m name) start row
      → Passed nodes stop (λ m. same_name T m name) start (row + n)
  pass_quiet {row} zero l q so_far = subst (Passed nodes stop (λ m. same_name T m name) start) (sym (add-zero row)) so_far
  pass_quiet {row} (suc n) l q so_far =
      let before = pass_quiet n (omega arith) (λ i o. q i (omega arith)) so_far in
      let quiet = q n (omega arith) in
      pass before (row + suc n) (omega arith) (other-named T _ _ _ quiet.other) refl
      (omega (arith, row_behind_lem nodes (row + n) (λ h. quiet.leaf), quiet.leaf))

-- the row is one of those that were asked for
sought_between : {nodes : List Row} {stop : ℕ} {test : Name → Bool} (start end : ℕ)
    {row : ℕ} {r : Option ℕ} → Sought nodes stop test row r → stop ≡ limit_of nodes end → start ≤ row
    → Between start end nodes r
sought_between start end (sought_here l t) e h = (h, omega arith, omega arith)
sought_between {nodes} start end (sought_next {row} l t s) e h = sought_between start end s e (omega (arith, behind_later nodes row))
sought_between start end (sought_over l) e h = tt

-- where the records hold a forest, it is the row of the first tree that has the name
module _ {w : Table} {start end stop : ℕ} {f : Forest Cell} {name : Text} {test : Name → Bool} (a : RowsHeld w start end f)
    (stops : stop ≡ limit_of w.nodes end)
    (same : (n : Name) → Hashed w.texts n → test n ≡ same_text (name_text w.texts n) name) where
  sought_found : {row : ℕ} {r : Option ℕ} → Sought w.nodes stop test row r → Seeking w.texts start f name row → Found w.texts start f name r
  sought_found (sought_here l t) s = seek_found a s (omega arith) (t ∙ same _ (seek_hashed a s (omega arith)))
  sought_found (sought_next {row} l t rest) s =
      sought_found rest (seek_next a s (omega arith) _ (row_behind_lem w.nodes row (seek_scalar a s (omega arith)))
      (t ∙ same _ (seek_hashed a s (omega arith))))
  sought_found (sought_over l) s = seek_over a s stop stops l

pub finds : {w : Table} {start end : ℕ} {name : Name} {r : Option ℕ} (stop : ℕ) → stop ≡ limit_of w.nodes end → Sought w.nodes stop
    (λ n. same_name w.texts n name) start r → FindIs w start end name r
finds {w} {start} {end} {name} {r} stop e s =
    record {
      rows = subst (λ n. Sought w.nodes n (λ n. same_name w.texts n name) start r) e s;
      place = sought_between start end s e (omega arith);
      held = λ f a h. sought_found a e (λ n g. named_hashed w.texts n _ _ g h.is) s seeking_all;
    }

pub finds_ascii : {w : Table} {start end h : ℕ} {name : Text} {r : Option ℕ} (stop : ℕ) → stop ≡ limit_of w.nodes end → h ≡ short_hash (hash name)
    → Sought w.nodes stop (λ n. is_named w.texts n h name) start r → FindAsciiIs w start end name r
finds_ascii {w} {start} {end} {h} {name} {r} stop e g s =
    record {
      rows = subst (λ n. Sought w.nodes n (λ n. is_named w.texts n (short_hash (hash name)) name) start r) e
          (subst (λ k. Sought w.nodes stop (λ n. is_named w.texts n k name) start r) g s);
      place = sought_between start end s e (omega arith);
      held = λ f a. sought_found a e (λ n i. named_hashed w.texts n _ _ i g) s seeking_all;
    }
