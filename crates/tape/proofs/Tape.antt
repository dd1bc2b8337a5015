-- Laws of a forest's words, and of a column that holds them.
use Prim.Native.Nat.{ℕ, zero, suc, ◌+◌, ◌-◌, ◌≤◌, ◌<◌}
use native.Mathlib.Numerals.{add-one}
use native.Mathlib.Omega.{arith}
use mathlib.Core.Path.{◌≡◌, refl, sym, ap, ◌∙◌, subst}
use mathlib.Core.List.{List, [], ◌∷◌, ◌++◌, append_assoc, append-nil}
use lib.ListN.{length, take, drop, get_or, length-append, length-drop}
use lib.Seq.{drop-drop, drop_at, take_at}
use Rattle.spec.specs.Forest.{Forest, none, tree, Tree, single, count, size, before, from, nth, ◌⧺◌}
use Rattle.tape.specs.Columns.{moved}
use Rattle.tape.specs.Tape.{tape, words, Holds}
use Rattle.tape.specs.Rows.{child_row}
use Rattle.tape.proofs.Columns.{words-moved}
use Rattle.tape.proofs.Forests.{before-from, from-nth, size_none, first_tree}

-- ---- a forest's words
module _ {A W : Type 0} (w : A → Forest A → W) where
  pub length-tape : (f : Forest A) → length (tape w f) ≡ size f
  unfolding tape size
  length-tape none = refl
  length-tape (tree a kids rest) = rw (length-append, length-tape kids, length-tape rest)

  pub tape_⧺ : (f g : Forest A) → tape w (f ⧺ g) ≡ tape w f ++ tape w g
  unfolding tape ◌⧺◌
  tape_⧺ none g = refl
  tape_⧺ (tree a kids rest) g = rw (append_assoc, tape_⧺ rest g)

  pub tape_tree : (a : A) (kids rest : Forest A) → tape w (tree a kids rest) ≡ (w a kids ∷ tape w kids) ++ tape w rest
  unfolding tape
  tape_tree a kids rest = refl

  pub tape-single : (t : Tree A) → tape w (single t) ≡ words w t
  unfolding tape
  tape-single t = rw append-nil

  pub tape-cut : (k : ℕ) (f : Forest A) → tape w f ≡ tape w (before k f) ++ tape w (from k f)
  tape-cut k f = ap (tape w) (sym (before-from k f)) ∙ tape_⧺ (before k f) (from k f)

-- ---- what stands in a row
pub record Front {W : Type 0} (z : W) (xs : List W) (at : ℕ) (x : W) (l : List W) : Type 0 where
  pub inside : at < length xs
  pub here : get_or xs at z ≡ x
  pub next : drop (at + 1) xs ≡ l

front : {W : Type 0} (z : W) (xs : List W) (at : ℕ) (x : W) (l : List W) → drop at xs ≡ x ∷ l
    → (at < length xs) × (get_or xs at z ≡ x) × (drop (suc at) xs ≡ l)
front z [] zero x l h = absurd (let e : ◌≡◌ {A = ℕ} 0 1 = cc in omega arith)
front z [] (suc i) x l h = absurd (let e : ◌≡◌ {A = ℕ} 0 1 = cc in omega arith)
front z (y ∷ ys) zero x l h = (omega arith, (cc), (cc))
front z (y ∷ ys) (suc i) x l h = let r = front z ys i x l h in (omega (arith, r.0), r.1, r.2)

pub front_at : {W : Type 0} (z : W) (xs : List W) (at : ℕ) (x : W) (l : List W) → drop at xs ≡ x ∷ l → Front z xs at x l
front_at z xs at x l h = let r = front z xs at x l h in record { inside = r.0; here = r.1; next = rw add-one r.2 }

-- ---- a column that holds a forest
module _ {A W : Type 0} {w : A → Forest A → W} {xs : List W} {at : ℕ} where
  -- what stands behind the forest
  pub holds_after : {f : Forest A} {after : List W} → Holds w xs at f after → drop (at + size f) xs ≡ after
  holds_after {f} {after} h = rw (← drop-drop, h.is) (drop_at (tape w f) after (size f) (length-tape w f))

  pub holds_size : {f : Forest A} {after : List W} → Holds w xs at f after → size f ≤ length xs - at
  holds_size {f} {after} h = omega (arith, length-tape w f, simp (length-append, length-drop) at (ap length h.is))

  -- the trees from the k-th on
  pub holds_from : {f : Forest A} {after : List W} (k : ℕ) → Holds w xs at f after → Holds w xs (at + size (before k f)) (from k f) after
  holds_from {f} {after} k h =
      record {
        is =
            let cut : drop at xs ≡ tape w (before k f) ++ (tape w (from k f) ++ after) =
            h.is ∙ rw (tape-cut w k f) (append_assoc (tape w (before k f)) (tape w (from k f)) after) in
            rw (← drop-drop, cut) (drop_at (tape w (before k f)) (tape w (from k f) ++ after) (size (before k f)) (length-tape w (before k f)));
      }

module _ {A W : Type 0} {w : A → Forest A → W} {xs : List W} {at : ℕ} {a : A} {kids rest : Forest A} {after : List W}
    (h : Holds w xs at (tree a kids rest) after) where
  pub holds_front : (z : W) → Front z xs at (w a kids) (tape w kids ++ (tape w rest ++ after))
  unfolding tape
  holds_front z = front_at z xs at (w a kids) (tape w kids ++ (tape w rest ++ after)) (rw (append_assoc (tape w kids) (tape w rest) after) at h.is)

  -- the children, and the trees behind the first one
  pub holds_kids : Holds w xs (at + 1) kids (tape w rest ++ after)
  holds_kids = record { is = (holds_front (w a kids)).next }

  pub holds_next : Holds w xs (at + 1 + size kids) rest after
  holds_next = record { is = holds_after holds_kids }

  -- the k-th child, with the trees behind it
  pub holds_child : (t : Tree A) (k : ℕ) → k < count kids
      → Holds w xs (child_row at k kids) (tree (nth t k kids).root (nth t k kids).kids (from (suc k) kids)) (tape w rest ++ after)
  unfolding child_row ◌⧺◌
  holds_child t k l = rw (from-nth t k kids l) at (holds_from k holds_kids)

-- one tree's words, as they are copied
pub holds_words : {A W : Type 0} {w : A → Forest A → W} {xs : List W} {at : ℕ} {a : A} {kids rest : Forest A} {after : List W} (n : ℕ)
    → n ≡ suc (size kids)
    → Holds w xs at (tree a kids rest) after → take n (drop at xs) ≡ w a kids ∷ tape w kids
unfolding tape
holds_words {w = w} {a = a} {kids} {rest} {after} n e h =
    rw (e, h.is, append_assoc (tape w kids) (tape w rest) after, take_at (tape w kids) (tape w rest ++ after) (size kids) (length-tape w kids))

-- one tree copied to another row
pub holds_moved : {A W : Type 0} {w : A → Forest A → W} {xs : List W} {start : ℕ} {a : A} {kids rest : Forest A} {after : List W} (to n : ℕ)
    → n ≡ suc (size kids)
    → to + n ≤ length xs → start + n ≤ length xs → Holds w xs start (tree a kids rest) after
    → Holds w (moved xs to start n) to (tree a kids none) (drop (to + n) xs)
holds_moved {w = w} {xs} {start} {a} {kids} to n e target there h =
    record { is = words-moved xs to start n target there ∙ rw (holds_words n e h, tape-single w (record { root = a; kids = kids })) }

-- ---- a loop over a node's children, `while row < end`
-- The trees that are left stand from a row on, up to the row `end`.
pub record Left {A W : Type 0} (w : A → Forest A → W) (xs : List W) (row end : ℕ) (rest : Forest A) (after : List W) : Type 0 where
  pub held : Holds w xs row rest after
  pub ends : row + size rest ≡ end

module _ {A W : Type 0} {w : A → Forest A → W} {xs : List W} where
  -- before the first turn all children are left
  pub left_all : {at : ℕ} {a : A} {kids rest : Forest A} {after : List W} → Holds w xs at (tree a kids rest) after
      → Left w xs (at + 1) (at + 1 + size kids) kids (tape w rest ++ after)
  left_all h = record { held = holds_kids h; ends = refl }

  -- a turn passes the first of them
  pub left_next : {row end : ℕ} {a : A} {kids rest : Forest A} {after : List W} → Left w xs row end (tree a kids rest) after
      → Left w xs (row + 1 + size kids) end rest after
  unfolding size
  left_next l = record { held = holds_next l.held; ends = omega (arith, l.ends) }

  -- where the loop ends none is left, and where it goes on there is a first
  pub left_none : {row end : ℕ} {f : Forest A} {after : List W} → Left w xs row end f after → end ≤ row → f ≡ none
  left_none {f = f} l h = size_none f (omega (arith, l.ends))

  pub left_first : {C : Type 0} {row end : ℕ} {f : Forest A} {after : List W} → Left w xs row end f after → row < end
      → ((a : A) (kids rest : Forest A) → f ≡ tree a kids rest → Left w xs row end (tree a kids rest) after → C) → C
  left_first {row = row} {end} {f} {after} l h then-it =
      first_tree f (omega (arith, l.ends)) (λ a kids rest e. then-it a kids rest e (subst (λ g. Left w xs row end g after) e l))
