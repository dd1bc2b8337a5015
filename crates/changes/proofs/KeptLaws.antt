-- Laws of what a change keeps: a forest stands in its rows as long as they are the same, whatever becomes of the others.
use Rattle.std.specs.Prelude.{Result, Ok, Err}
use Prim.Native.Nat.{ℕ, ◌+◌, ◌-◌, ◌≤◌, ◌<◌}
use native.Mathlib.Omega.{arith}
use native.Mathlib.Decide.{dec_lt}
use mathlib.Core.Path.{◌≡◌, ap, sym, ◌∙◌}
use mathlib.Core.List.{List, ◌∷◌, ◌++◌, append_assoc}
use lib.ListN.{length, take, drop, set, length-drop, take-append-drop}
use lib.Seq.{take-take, take_at, drop-drop, drop-set-lt}
use Rattle.spec.specs.Limits.{max_nodes}
use Rattle.spec.specs.declared.refusal.Fault.{Fault}
use Rattle.spec.specs.Forest.{Forest, none, tree, size}
use Rattle.tape.specs.Layout.{patch_row, rows}
use Rattle.tape.specs.Columns.{used_after, spliced}
use Rattle.tape.specs.Fields.{Row}
use Rattle.tape.specs.Tape.{tape, Holds}
use Rattle.tape.specs.declared.fields.Cell.{Cell}
use Rattle.tape.specs.Cell.{row_of, Formed, Held}
use Rattle.tape.specs.Lent.{Table}
use Rattle.tape.proofs.Columns.{drop-spliced, spliced_not_used, spliced_no_room, spliced_no_source}
use Rattle.tape.proofs.Cells.{formed_fit, formed_kids, formed_single}
use Rattle.tape.proofs.Tape.{length-tape, tape_tree, tape-single}
use Rattle.changes.specs.Site.{Offered, table}
use Rattle.changes.specs.Rows.{SameBehind, Frame, framed, unchanged}

-- ---- a tree without those behind it
pub formed_alone : {c : Cell} {kids rest : Forest Cell} → Formed (tree c kids rest) → Formed (tree c kids none)
formed_alone {c} {kids} o = formed_single (record { root = c; kids = kids }) (formed_fit o) (formed_kids o)

holds_alone : {A W : Type 0} {w : A → Forest A → W} {xs : List W} {at : ℕ} {a : A} {kids rest : Forest A} {after : List W}
    → Holds w xs at (tree a kids rest) after → Holds w xs at (tree a kids none) (tape w rest ++ after)
holds_alone {w = w} {a = a} {kids} {rest} {after} h =
    record {
      is =
          h.is
          ∙ rw (tape_tree w a kids rest, tape-single w (record { root = a; kids = kids })) (append_assoc (w a kids ∷ tape w kids) (tape w rest) after);
    }

pub held_alone : {nodes : List Row} {row : ℕ} {c : Cell} {kids rest : Forest Cell} → Held nodes row (tree c kids rest) → Held nodes row (tree c kids none)
held_alone {rest = rest} h = record { after = tape row_of rest ++ h.after; rows = holds_alone h.rows; formed = formed_alone h.formed }

-- ---- a forest in rows that are the same
-- two lists with the same n rows from a row on
pub record SameRows (xs ys : List Row) (row n : ℕ) : Type 0 where
  pub is : take n (drop row ys) ≡ take n (drop row xs)

pub held_same : {nodes nodes' : List Row} {row : ℕ} {f : Forest Cell} → SameRows nodes nodes' row (size f) → Held nodes row f → Held nodes' row f
held_same {nodes} {nodes'} {row} {f} same h =
    let there : take (size f) (drop row nodes') ≡ tape row_of f =
    same.is ∙ rw h.rows.is (take_at (tape row_of f) h.after (size f) (length-tape row_of f)) in
    record {
      after = drop (row + size f) nodes';
      rows = record { is = sym (take-append-drop (size f) (drop row nodes')) ∙ rw (there, drop-drop) };
      formed = h.formed;
    }

-- some of the first rows
pub same_first : {xs ys : List Row} {n m : ℕ} → take m ys ≡ take m xs → n ≤ m → SameRows xs ys 0 n
same_first {xs} {ys} {n} {m} e h = record { is = sym (take-take n m ys h) ∙ ap (take n) e ∙ take-take n m xs h }

-- ---- the rows behind the document's
module _ {xs : List Row} where
  pub behind_set : {ys : List Row} (row : ℕ) (x : Row) → row < patch_row → SameBehind xs ys → SameBehind xs (set ys row x)
  behind_set {ys} row x h b = record { is = drop-set-lt patch_row ys row x h ∙ b.is }

  -- where the numbers do not fit the list, a splice changes nothing
  pub behind_spliced : (used at removed source n : ℕ) → used ≤ patch_row → used_after used removed n ≤ patch_row
      → SameBehind xs (spliced xs used at removed source n)
  behind_spliced used at removed source n few few-then =
      go (dec_lt used (at + removed)) (dec_lt source used) (dec_lt source (used_after used removed n)) (dec_lt (length xs) (source + n))
    where
      go : Dec (used < at + removed) → Dec (source < used) → Dec (source < used_after used removed n) → Dec (length xs < source + n)
          → SameBehind xs (spliced xs used at removed source n)
      go (yes h) b c d = record { is = ap (drop patch_row) (spliced_not_used xs used at removed source n h) }
      go (no a) (yes h) c d = record { is = ap (drop patch_row) (spliced_no_room xs used at removed source n (omega arith)) }
      go (no a) (no b) (yes h) d = record { is = ap (drop patch_row) (spliced_no_room xs used at removed source n (omega arith)) }
      go (no a) (no b) (no c) (yes h) = record { is = ap (drop patch_row) (spliced_no_source xs used at removed source n h) }
      go (no a) (no b) (no c) (no d) =
          record {
            is =
                drop-spliced xs used at removed source n (omega arith) (record { before = omega arith; after = omega arith; there = omega arith }) patch_row
                few-then;
          }

  module _ {ys : List Row} (b : SameBehind xs ys) where
    pub behind_long : rows ≤ length xs → rows ≤ length ys
    behind_long h = omega (arith, simp length-drop at (ap length b.is))

    same_behind : {row n : ℕ} → patch_row ≤ row → SameRows xs ys row n
    same_behind {row} {n} h =
        let place : patch_row + (row - patch_row) ≡ row = omega arith in
        record { is = rw (← place, ← drop-drop (row - patch_row) patch_row ys, ← drop-drop (row - patch_row) patch_row xs, b.is) }

-- what is offered there is still offered
pub offered_behind : {w : Table} {nodes' : List Row} {source : ℕ} {c : Cell} {kids : Forest Cell} → SameBehind w.nodes nodes' → Offered w source c kids
    → Offered (table w.texts nodes') source c kids
offered_behind same o =
    record {
      behind = o.behind;
      held =
          record {
            rest = o.held.rest;
            held = held_same (same_behind same o.behind) o.held.held;
            label = o.held.label;
            sound = o.held.sound;
          };
    }

-- ---- what a frame says of each answer
module _ {nodes nodes' : List Row} where
  pub frame_done : {r : Result ℕ Fault} {now : ℕ} → r ≡ Ok now → Frame nodes nodes' r → (now ≤ max_nodes) × SameBehind nodes nodes'
  frame_done {now = now} e (framed {now = n} few same) = let i : n ≡ now = cc in (omega arith, same)
  frame_done e (unchanged f) = absurd (let z : ◌≡◌ {A = ℕ} 0 1 = cc in omega arith)

  pub frame_refused : {r : Result ℕ Fault} {e : Fault} → r ≡ Err e → Frame nodes nodes' r → nodes' ≡ nodes
  frame_refused e (framed few same) = absurd (let z : ◌≡◌ {A = ℕ} 0 1 = cc in omega arith)
  frame_refused e (unchanged f) = f

  -- the rows behind the document's are the same in any case
  pub frame_behind : {r : Result ℕ Fault} → Frame nodes nodes' r → SameBehind nodes nodes'
  frame_behind (framed few same) = same
  frame_behind (unchanged e) = record { is = ap (drop patch_row) e }
