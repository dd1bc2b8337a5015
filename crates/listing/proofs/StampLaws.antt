-- Laws of the stamps before the run: the loop over the patch's elements, and the two texts that the table holds then.
use Prim.Native.Nat.{ℕ, zero, suc, ◌+◌, ◌-◌, ◌%◌, ◌≤◌, ◌<◌}
use native.Mathlib.Omega.{arith}
use mathlib.Core.Path.{◌≡◌, refl, ap, sym, ◌∙◌, subst}
use mathlib.Core.List.{List, [], ◌∷◌, ◌++◌, append_assoc}
use lib.ListN.{length, take, drop, get_or, length-append, take-append-drop}
use lib.Seq.{length-take-le, take_at, drop_at, take-append-le, take-take}
use Rattle.spec.specs.Limits.{max_depth}
use Rattle.spec.specs.Forest.{Forest, none, tree, size}
use Rattle.spec.specs.Value as Plain
use Rattle.spec.specs.Value.{depth}
use Rattle.spec.specs.Patch.{shape}
use Rattle.tape.specs.Layout.{document_row, patch_row, scratch_row, rows, values}
use Rattle.tape.specs.Fields.{Row}
use Rattle.tape.specs.Tape.{tape, Holds}
use Rattle.tape.specs.Map.{map_forest}
use Rattle.tape.specs.declared.fields.Cell.{Cell}
use Rattle.tape.specs.Cell.{row_of, Fit, Formed, formed_tree, Held}
use Rattle.tape.specs.Lent.{Texts}
use Rattle.tape.specs.Rows.{end_of}
use Rattle.tape.proofs.Cells.{formed_fit, formed_kids, formed_rest}
use Rattle.tape.proofs.Forests.{size_none, first_tree}
use Rattle.tape.proofs.Map.{size-map}
use Rattle.tape.proofs.Rows.{inside_here, row_here, end_here}
use Rattle.tape.proofs.Held.{held_node}
use Rattle.tape.proofs.Tape.{length-tape, tape_tree, tape-single, holds_words, holds_kids}
use Rattle.table.specs.Meaning.{meant, label_of}
use Rattle.origin.specs.Value.{forget, painted}
use Rattle.origin.proofs.ForgetLaws.{forget-painted}
use Rattle.walk.specs.Bearing.{borne}
use Rattle.walk.proofs.Children.{forget-borne}
use Rattle.changes.specs.Site.{table}
use Rattle.changes.specs.Document.{Document, Bearing}
use Rattle.changes.proofs.KeptLaws.{formed_alone, same_first, held_alone, held_same}
use Rattle.operations.specs.Stamp.{stamped_rows, stamped}
use Rattle.operations.proofs.StampLaws.{stamped-from, length-stamped, tape-stamped, formed_stamped, sound_stamped, borne-stamped}
use Rattle.operations.proofs.RunLaws.{shape-operations}
use Rattle.json_patch.specs.Stages.{PatchHeld}
use Rattle.listing.specs.Stamps.{numbered_cell, numbered, StampElementsIs, PatchNumbered, TextsStamped}
use Rattle.listing.proofs.NumberLaws.{size-numbered, members-numbered, formed_numbered, sound_numbered, values-numbered}

-- ---- a tree's rows, and those behind it
tape-first : (c : Cell) (kids rest : Forest Cell) (after : List Row)
    → tape row_of (tree c kids rest) ++ after ≡ tape row_of (tree c kids none) ++ (tape row_of rest ++ after)
tape-first c kids rest after =
    ap (λ (l : List Row). l ++ after)
    (tape_tree row_of c kids rest ∙ ap (λ (l : List Row). l ++ tape row_of rest) (sym (tape-single row_of (record { root = c; kids = kids }))))
    ∙ append_assoc (tape row_of (tree c kids none)) (tape row_of rest) after

stamped-part : (front xs ys : List Row) (row n k : ℕ) → length front ≡ row → length xs ≡ n
    → stamped (front ++ (xs ++ ys)) row n k ≡ front ++ (stamped_rows k xs ++ ys)
unfolding stamped
stamped-part front xs ys row n k e f = rw (take_at front (xs ++ ys) row e, drop_at front (xs ++ ys) row e, take_at xs ys n f, drop_at xs ys n f)

-- ---- the loop over the elements: `op` of the trees bear their numbers, and the others are left
pub record Numbering (nodes : List Row) (f : Forest Cell) (before after : List Row) (end row op : ℕ) : Type 0 where
  pub front : List Row
  pub left : Forest Cell
  pub is : nodes ≡ front ++ (tape row_of left ++ after)
  pub place : length front ≡ row
  pub formed : Formed left
  pub ends : row + size left ≡ end
  pub whole : front ++ (tape row_of (numbered (op + 1) left) ++ after) ≡ before ++ (tape row_of (numbered 1 f) ++ after)

abbrev pub NumberingAny : List Row → ℕ → ℕ → List Row → ℕ → ℕ → Type 0
NumberingAny nodes₀ start end nodes row op =
    (f : Forest Cell) (after : List Row) → Holds row_of nodes₀ start f after → Formed f → start + size f ≡ end → start ≤ length nodes₀ → end ≤ scratch_row
    → Numbering nodes f (take start nodes₀) after end row op

pub numbering_all : (nodes : List Row) (start end : ℕ) → NumberingAny nodes start end nodes start 0
numbering_all nodes start end f after holds formed ends long few =
    record {
      front = take start nodes;
      left = f;
      is = sym (take-append-drop start nodes) ∙ ap (λ (l : List Row). take start nodes ++ l) holds.is;
      place = length-take-le start nodes long;
      formed = formed;
      ends = ends;
      whole = refl;
    }

module _ {nodes : List Row} {f : Forest Cell} {before after : List Row} {end row op : ℕ} (g : Numbering nodes f before after end row op) where
  pub numbering_none : end ≤ row → nodes ≡ before ++ (tape row_of (numbered 1 f) ++ after)
  unfolding tape numbered
  numbering_none h =
      let none_left : g.left ≡ none = size_none g.left (omega (arith, g.ends)) in
      g.is ∙ ap (λ l. g.front ++ (tape row_of l ++ after)) none_left
      ∙ sym (ap (λ l. g.front ++ (tape row_of (numbered (op + 1) l) ++ after)) none_left) ∙ g.whole

  pub numbering_inside : {C : Type 0} → row < end → length nodes ≤ row → C
  numbering_inside more h =
      let whole = ap length g.is in
      absurd
      (omega (
        arith,
        whole,
        length-append g.front (tape row_of g.left ++ after),
        length-append (tape row_of g.left) after,
        length-tape row_of g.left,
        g.place,
        g.ends,
      ))

  module _ (more : row < end) (low : op ≤ row) (few : end ≤ scratch_row) {nodes' : List Row} {k : ℕ} (next : ℕ) (at : next ≡ end_of nodes row)
      (number : k ≡ (op + 1) % values) (is : nodes' ≡ stamped nodes row (next - row) k) where
    first-stamped : (c : Cell) (kids rest : Forest Cell) → g.left ≡ tree c kids rest → Numbering nodes' f before after end next (op + 1)
    unfolding size numbered map_forest
    first-stamped c kids rest e =
        let left_is : nodes ≡ g.front ++ (tape row_of (tree c kids rest) ++ after) = g.is ∙ ap (λ l. g.front ++ (tape row_of l ++ after)) e in
        let held : Held nodes row (tree c kids rest) =
        record {
          after = after;
          rows = record { is = ap (drop row) left_is ∙ drop_at g.front (tape row_of (tree c kids rest) ++ after) row g.place };
          formed = subst Formed e g.formed;
        } in
        let n : end_of nodes row ≡ row + 1 + size kids = end_here (held_node held) in
        let numbered-so : k ≡ op + 1 = omega arith in
        let count : next - row ≡ suc (size kids) = omega (arith, n, at) in
        let tree-size : size (tree c kids rest) ≡ suc (size kids + size rest) = refl in
        let left-size : size g.left ≡ suc (size kids + size rest) = ap size e ∙ tree-size in
        let one = tape row_of (tree c kids none) in
        let stamped-one = tape row_of (tree (numbered_cell (op + 1) c) (map_forest (numbered_cell (op + 1)) kids) none) in
        let long : length one ≡ next - row = length-tape row_of (tree c kids none) ∙ tree_alone c kids ∙ sym count in
        let stamps : stamped_rows k one ≡ stamped-one = ap (λ m. stamped_rows m one) numbered-so ∙ tape-stamped (op + 1) (tree c kids none) in
        record {
          front = g.front ++ stamped-one;
          left = rest;
          is =
              is ∙ ap (λ l. stamped l row (next - row) k) (left_is ∙ ap (λ l. g.front ++ l) (tape-first c kids rest after))
              ∙ stamped-part g.front one (tape row_of rest ++ after) row (next - row) k g.place long
              ∙ ap (λ l. g.front ++ (l ++ (tape row_of rest ++ after))) stamps ∙ sym (append_assoc g.front stamped-one (tape row_of rest ++ after));
          place =
              omega (
                arith,
                length-append g.front stamped-one,
                length-tape row_of (tree (numbered_cell (op + 1) c) (map_forest (numbered_cell (op + 1)) kids) none),
                tree_alone (numbered_cell (op + 1) c) (map_forest (numbered_cell (op + 1)) kids),
                size-map (numbered_cell (op + 1)) kids,
                g.place,
                n,
                at,
              );
          formed = formed_rest held.formed;
          ends = omega (arith, g.ends, left-size, n, at);
          whole =
              append_assoc g.front stamped-one (tape row_of (numbered (op + 1 + 1) rest) ++ after)
              ∙ ap (λ l. g.front ++ l)
              (sym
              (tape-first (numbered_cell (op + 1) c) (map_forest (numbered_cell (op + 1)) kids) (numbered (op + 1 + 1) rest) after))
              ∙ sym (ap (λ l. g.front ++ (tape row_of (numbered (op + 1) l) ++ after)) e) ∙ g.whole;
        }
      where
        tree_alone : (a : Cell) (below : Forest Cell) → size (tree a below none) ≡ suc (size below)
        tree_alone a below = omega arith

    pub numbering_next : Numbering nodes' f before after end next (op + 1)
    numbering_next = first_tree g.left (omega (arith, g.ends)) first-stamped

-- ---- the two texts
-- the row before the last of those in front
drop_row : (n : ℕ) (xs ys : List Row) → n < length xs → drop n (take (suc n) xs ++ ys) ≡ get_or xs n [] ∷ ys
drop_row n [] ys h = absurd (omega arith)
drop_row zero (x ∷ xs) ys h = refl
drop_row (suc n) (x ∷ xs) ys h = drop_row n xs ys (omega arith)

pub drop-stamped : (xs : List Row) (n m k : ℕ) → n ≤ m → drop m (stamped xs 0 n k) ≡ drop m xs
unfolding stamped stamped_rows
drop-stamped xs zero m k h = refl
drop-stamped xs (suc n) zero k h = absurd (omega arith)
drop-stamped [] (suc n) (suc m) k h = refl
drop-stamped (x ∷ xs) (suc n) (suc m) k h = drop-stamped xs n m k (omega arith)

-- the document, with its rows as they were, and stamped
module _ {T : Texts} {xs ys : List Row} {used : ℕ} {v : Plain.Value} (d : Document (table T xs) used v) where
  pub document_same : take patch_row ys ≡ take patch_row xs → rows ≤ length ys → Document (table T ys) used v
  unfolding size
  document_same same long =
      let inside : size (tree d.c d.kids none) ≤ patch_row = omega (arith, d.ends, d.few) in
      record {
        c = d.c;
        kids = d.kids;
        held =
            record {
              rest = none;
              held = held_same (same_first same inside) (held_alone d.held.held);
              label = d.held.label;
              sound = d.held.sound;
            };
        means = d.means;
        ends = d.ends;
        few = d.few;
        shallow = d.shallow;
        long = long;
      }

  pub document-stamped : ys ≡ stamped xs 0 used 0 → Bearing (table T ys) used (painted 0 v)
  unfolding map_forest size
  document-stamped is =
      let words : take used (drop 0 xs) ≡ tape row_of (tree d.c d.kids none) =
      holds_words used d.ends d.held.held.rows ∙ sym (tape-single row_of (record { root = d.c; kids = d.kids })) in
      let bears : borne T (numbered_cell 0 d.c) (map_forest (numbered_cell 0) d.kids) ≡ painted 0 v =
      borne-stamped T 0 d.c d.kids ∙ ap (painted 0) (forget-borne T d.c d.kids ∙ d.means) in
      record {
        document =
            record {
              c = numbered_cell 0 d.c;
              kids = map_forest (numbered_cell 0) d.kids;
              held =
                  record {
                    rest = none;
                    held =
                        record {
                          after = drop used (drop 0 xs);
                          rows =
                              record {
                                is =
                                    ap (drop 0) is ∙ stamped-from xs 0 used 0 (omega arith)
                                    ∙ ap (λ l. stamped_rows 0 l ++ drop used (drop 0 xs)) words
                                    ∙ ap (λ l. l ++ drop used (drop 0 xs)) (tape-stamped 0 (tree d.c d.kids none));
                              };
                          formed = formed_stamped 0 (formed_alone d.held.held.formed);
                        };
                    label = d.held.label;
                    sound = sound_stamped 0 d.held.sound;
                  };
              means = sym (forget-borne T (numbered_cell 0 d.c) (map_forest (numbered_cell 0) d.kids)) ∙ ap forget bears;
              ends = omega (arith, d.ends, size-map (numbered_cell 0) d.kids);
              few = d.few;
              shallow = subst (λ u. depth u ≤ max_depth) (sym (forget-painted 0 v)) d.shallow;
              long = omega (arith, d.long, ap length is, length-stamped xs 0 used 0);
            };
        bears = bears;
      }

-- the patch, with its elements numbered
fit_numbered : (k : ℕ) {c : Cell} {kids : Forest Cell} → Fit c kids → Fit c (numbered k kids)
unfolding numbered
fit_numbered k {c} {kids} fit =
    record {
      kind = fit.kind;
      small = omega (arith, size-numbered k kids, fit.small);
      scalar = λ h. ap (numbered k) (fit.scalar h);
      value = fit.value;
      name = fit.name;
    }

module _ {T : Texts} {xs : List Row} {p : Plain.Value} (h : PatchHeld (table T xs) p) where
  abbrev behind : List Row
  behind = tape row_of h.held.rest ++ h.held.held.after

  -- what the loop leaves
  abbrev Elements : List Row → Type 0
  Elements ys = ys ≡ take (patch_row + 1) xs ++ (tape row_of (numbered 1 h.kids) ++ behind)

  elements-stamped : {ys : List Row} (end : ℕ) → end ≡ end_of xs patch_row → StampElementsIs xs ys (patch_row + 1) end → Elements ys
  elements-stamped end e is =
      let node = held_node h.held.held in
      let ends = e ∙ end_here node in
      is h.kids behind (holds_kids h.held.held.rows) (formed_kids h.held.held.formed) (sym ends)
      (let i = inside_here node in omega arith) (omega (arith, ends, h.inside))

  elements-before : {ys : List Row} → Elements ys → take patch_row ys ≡ take patch_row xs
  elements-before is =
      let i = inside_here (held_node h.held.held) in
      let long = length-take-le (patch_row + 1) xs (omega (arith, i)) in
      ap (take patch_row) is ∙ take-append-le patch_row (take (patch_row + 1) xs) (tape row_of (numbered 1 h.kids) ++ behind) (omega (arith, long))
      ∙ take-take patch_row (patch_row + 1) xs (omega arith)

  patch-numbered : {ys zs : List Row} → Elements ys → drop patch_row zs ≡ drop patch_row ys → PatchNumbered (table T zs) p
  unfolding tape row_of
  patch-numbered {zs = zs} is same =
      let formed = h.held.held.formed in
      let node = held_node h.held.held in
      let row_same : row_of h.c h.kids ≡ row_of h.c (numbered 1 h.kids) = rw (size-numbered 1 h.kids) in
      let rest_is = tape row_of (numbered 1 h.kids) ++ behind in
      let rows_are : drop patch_row zs ≡ row_of h.c (numbered 1 h.kids) ∷ rest_is =
      same ∙ ap (drop patch_row) is ∙ drop_row patch_row xs rest_is (inside_here node) ∙ ap (λ r. r ∷ rest_is) (row_here node [] ∙ row_same) in
      record {
        patch =
            record {
              c = h.c;
              kids = numbered 1 h.kids;
              held =
                  record {
                    rest = h.held.rest;
                    held =
                        record {
                          after = h.held.held.after;
                          rows =
                              record {
                                is =
                                    rows_are
                                    ∙ ap (λ l. row_of h.c (numbered 1 h.kids) ∷ l)
                                    (sym (append_assoc (tape row_of (numbered 1 h.kids)) (tape row_of h.held.rest) h.held.held.after));
                              };
                          formed = formed_tree (fit_numbered 1 (formed_fit formed)) (formed_numbered 1 (formed_kids formed)) (formed_rest formed);
                        };
                    label = h.held.label;
                    sound = sound_numbered 1 h.held.sound;
                  };
              means = ap (λ f. record { label = label_of T h.c.kind h.c.value; kids = f }) (members-numbered T 1 h.kids) ∙ h.means;
              inside = omega (arith, h.inside, size-numbered 1 h.kids);
              proper = h.proper;
            };
        numbers = λ os shaped. values-numbered T 1 h.kids os (shape-operations (meant T h.c h.kids) os (ap shape h.means ∙ shaped));
      }

-- both
pub texts_stamped : {T : Texts} {xs ys zs : List Row} {used : ℕ} {v p : Plain.Value} (end : ℕ) → end ≡ end_of xs patch_row
    → StampElementsIs xs ys (patch_row + 1) end → length ys ≡ length xs → zs ≡ stamped ys document_row used 0
    → Document (table T xs) used v → PatchHeld (table T xs) p → TextsStamped (table T zs) used v p
texts_stamped {ys = ys} {used = used} end e elements same is d h =
    let rows_are = elements-stamped h end e elements in
    let long : rows ≤ length ys = omega (arith, d.long) in
    let kept = document_same d (elements-before h rows_are) long in
    record {
      document = document-stamped kept is;
      patch = patch-numbered h rows_are (ap (drop patch_row) is ∙ drop-stamped ys used patch_row 0 (omega (arith, d.few)));
    }
