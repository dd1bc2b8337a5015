-- Laws of rows that get another origin: the loop's, and of the trees that they hold.
use Prim.Native.Nat.{ℕ, zero, suc, ◌+◌, ◌-◌, ◌≤◌, ◌<◌}
use native.Mathlib.Omega.{arith}
use native.Mathlib.Decide.{dec_lt}
use mathlib.Core.Path.{◌≡◌, refl, ap, ap₂, sym, ◌∙◌}
use mathlib.Core.List.{List, [], ◌∷◌, ◌++◌}
use lib.ListN.{length, take, drop, get_or, set, length-append, length-take, length-drop, take-append-drop}
use lib.Seq.{drop_at, length-take-le}
use Rattle.spec.specs.Forest.{Forest, none, tree}
use Rattle.tape.specs.Fields.{Row}
use Rattle.tape.specs.Tape.{tape}
use Rattle.tape.specs.declared.fields.Cell.{Cell}
use Rattle.tape.specs.Cell.{row_of, Fit, Formed, formed_none, formed_tree}
use Rattle.tape.specs.Map.{map_forest}
use Rattle.tape.specs.Lent.{Texts}
use Rattle.tape.proofs.Map.{size-map}
use Rattle.table.specs.All.{all_none, all_tree}
use Rattle.table.specs.Sound.{Sound}
use Rattle.origin.specs.Value.{forget, painted, forget_entry, painted_entry}
use Rattle.origin.proofs.ForgetLaws.{map-map}
use Rattle.walk.specs.Bearing.{bearing, borne}
use Rattle.operations.specs.Stamp.{with_origin, stamped_rows, stamped}

-- ---- the loop
none_stamped : (n k : ℕ) → stamped_rows k (take n []) ++ drop n [] ≡ []
unfolding stamped_rows
none_stamped zero k = refl
none_stamped (suc n) k = refl

-- a row more
stamped_suc : (xs : List Row) (row n k : ℕ) → row < length xs
    → stamped (set xs row (with_origin (get_or xs row []) k)) (suc row) n k ≡ stamped xs row (suc n) k
unfolding stamped stamped_rows
stamped_suc [] row n k h = absurd (omega arith)
stamped_suc (x ∷ xs) zero n k h = refl
stamped_suc (x ∷ xs) (suc row) n k h = ap (λ (l : List Row). x ∷ l) (stamped_suc xs row n k (omega arith))

pub stamp_next : (xs : List Row) (row left k : ℕ) → row < length xs → 0 < left
    → stamped (set xs row (with_origin (get_or xs row []) k)) (row + 1) (left - 1) k ≡ stamped xs row left k
stamp_next xs row zero k h l = absurd (omega arith)
stamp_next xs row (suc n) k h l =
    let next : row + 1 ≡ suc row = omega arith in
    let less : suc n - 1 ≡ n = omega arith in
    rw (next, less) (stamped_suc xs row n k h)

-- no row is left, in the table and of those that were asked for
stamp_out : (xs : List Row) (row n k : ℕ) → length xs ≤ row → stamped xs row n k ≡ xs
unfolding stamped stamped_rows
stamp_out [] zero n k h = none_stamped n k
stamp_out [] (suc row) n k h = none_stamped n k
stamp_out (x ∷ xs) zero n k h = absurd (omega arith)
stamp_out (x ∷ xs) (suc row) n k h = ap (λ (l : List Row). x ∷ l) (stamp_out xs row n k (omega arith))

stamp_none : (xs : List Row) (row n k : ℕ) → n ≤ 0 → stamped xs row n k ≡ xs
unfolding stamped stamped_rows
stamp_none xs row zero k h = take-append-drop row xs
stamp_none xs row (suc n) k h = absurd (omega arith)

pub stamp_over : (xs : List Row) (row left k : ℕ) → (row < length xs → left ≤ 0) → stamped xs row left k ≡ xs
stamp_over xs row left k h = go (dec_lt row (length xs))
  where
    go : Dec (row < length xs) → stamped xs row left k ≡ xs
    go (yes l) = stamp_none xs row left k (h l)
    go (no l) = stamp_out xs row left k (omega arith)

-- ---- the other rows
pub stamped-before : (xs : List Row) (row n k : ℕ) → take row (stamped xs row n k) ≡ take row xs
unfolding stamped
stamped-before xs zero n k = refl
stamped-before [] (suc row) n k = rw (none_stamped n k)
stamped-before (x ∷ xs) (suc row) n k = ap (λ (l : List Row). x ∷ l) (stamped-before xs row n k)

length-rows : (k : ℕ) (xs : List Row) → length (stamped_rows k xs) ≡ length xs
unfolding stamped_rows
length-rows k [] = refl
length-rows k (x ∷ xs) = ap suc (length-rows k xs)

pub length-stamped : (xs : List Row) (row n k : ℕ) → length (stamped xs row n k) ≡ length xs
unfolding stamped
length-stamped xs row n k =
    omega (
      arith,
      length-append (take row xs) (stamped_rows k (take n (drop row xs)) ++ drop n (drop row xs)),
      length-append (stamped_rows k (take n (drop row xs))) (drop n (drop row xs)),
      length-rows k (take n (drop row xs)),
      length-take n (drop row xs),
      length-drop n (drop row xs),
      length-take row xs,
      length-drop row xs,
    )

pub stamped-from : (xs : List Row) (row n k : ℕ) → row ≤ length xs
    → drop row (stamped xs row n k) ≡ stamped_rows k (take n (drop row xs)) ++ drop n (drop row xs)
unfolding stamped
stamped-from xs row n k h = drop_at (take row xs) _ row (length-take-le row xs h)

-- ---- a tree
abbrev pub stamp_cell : ℕ → Cell → Cell
stamp_cell k c = record { kind = c.kind; value = c.value; name = c.name; origin = k }

rows_append : (k : ℕ) (xs ys : List Row) → stamped_rows k (xs ++ ys) ≡ stamped_rows k xs ++ stamped_rows k ys
unfolding stamped_rows
rows_append k [] ys = refl
rows_append k (x ∷ xs) ys = ap (λ (l : List Row). with_origin x k ∷ l) (rows_append k xs ys)

row_stamped : (k : ℕ) (c : Cell) (kids : Forest Cell) → with_origin (row_of c kids) k ≡ row_of (stamp_cell k c) (map_forest (stamp_cell k) kids)
unfolding row_of
row_stamped k c kids = rw (size-map (stamp_cell k) kids)

pub tape-stamped : (k : ℕ) (f : Forest Cell) → stamped_rows k (tape row_of f) ≡ tape row_of (map_forest (stamp_cell k) f)
unfolding tape map_forest stamped_rows
tape-stamped k none = refl
tape-stamped k (tree c kids rest) =
    ap₂ {C = List Row} (λ r rs. r ∷ rs) (row_stamped k c kids)
    (rows_append k (tape row_of kids) (tape row_of rest) ∙ ap₂ {C = List Row} (λ xs ys. xs ++ ys) (tape-stamped k kids) (tape-stamped k rest))

fit_stamped : (k : ℕ) {c : Cell} {kids : Forest Cell} → Fit c kids → Fit (stamp_cell k c) (map_forest (stamp_cell k) kids)
unfolding map_forest
fit_stamped k {c} {kids} fit =
    record {
      kind = fit.kind;
      small = omega (arith, size-map (stamp_cell k) kids, fit.small);
      scalar = λ h. ap (map_forest (stamp_cell k)) (fit.scalar h);
      value = fit.value;
      name = fit.name;
    }

pub formed_stamped : (k : ℕ) {f : Forest Cell} → Formed f → Formed (map_forest (stamp_cell k) f)
unfolding map_forest
formed_stamped k formed_none = formed_none
formed_stamped k (formed_tree fit kids rest) = formed_tree (fit_stamped k fit) (formed_stamped k kids) (formed_stamped k rest)

pub sound_stamped : (k : ℕ) {T : Texts} {f : Forest Cell} → Sound T f → Sound T (map_forest (stamp_cell k) f)
unfolding map_forest
sound_stamped k all_none = all_none
sound_stamped k (all_tree h kids rest) =
    all_tree (record { name = h.name; label = h.label }) (sound_stamped k kids) (sound_stamped k rest)

-- all nodes of it bear the origin
pub borne-stamped : (T : Texts) (k : ℕ) (c : Cell) (kids : Forest Cell)
    → borne T (stamp_cell k c) (map_forest (stamp_cell k) kids) ≡ painted k (forget (borne T c kids))
borne-stamped T k c kids =
    let cells = map-map (bearing T) (stamp_cell k) kids in
    let entries = ap (map_forest (painted_entry k)) (map-map forget_entry (bearing T) kids) ∙ map-map (painted_entry k) (λ d. forget_entry (bearing T d))
    kids in
    ap (λ f. record { label = (borne T c kids).label; origin = k; kids = f }) (cells ∙ sym entries)
