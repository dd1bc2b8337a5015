-- Laws of a value of the document that is set aside: copied to the scratch rows.
use Prim.Native.Nat.{ℕ, suc, ◌+◌, ◌≤◌, ◌<◌}
use native.Mathlib.Omega.{arith}
use mathlib.Core.Path.{◌≡◌, refl, ap, sym, ◌∙◌}
use mathlib.Core.List.{List, [], ◌++◌}
use lib.ListN.{length, take, drop, get_or}
use Rattle.spec.specs.Forest.{Forest, none, tree, size}
use Rattle.spec.specs.Value as Value
use Rattle.origin.specs.Value as Origin
use Rattle.tape.specs.Layout.{scratch_row}
use Rattle.tape.specs.Fields.{Row, span_of}
use Rattle.tape.specs.Columns.{moved}
use Rattle.tape.specs.declared.fields.Cell.{Cell}
use Rattle.tape.specs.Cell.{row_of}
use Rattle.tape.specs.Tape.{tape}
use Rattle.tape.specs.Map.{map_forest}
use Rattle.tape.specs.Lent.{Texts, Table}
use Rattle.tape.proofs.Columns.{scratched_moved}
use Rattle.tape.proofs.Tape.{tape-single, holds_words, holds_moved}
use Rattle.tape.proofs.Rows.{span_here, inside_here}
use Rattle.tape.proofs.Held.{held_node}
use Rattle.table.specs.Sound.{NodeHeld}
use Rattle.changes.specs.Site.{Offered, table}
use Rattle.changes.specs.Document.{Document, Bearing}
use Rattle.changes.proofs.KeptLaws.{formed_alone, same_first, held_alone, held_same}
use Rattle.operations.specs.Stamp.{stamped_rows, stamped, StampAsideIs}
use Rattle.operations.specs.Perform.{SetAsideIs}
use Rattle.operations.proofs.StampLaws.{stamp_cell, stamped-before, stamped-from, length-stamped, tape-stamped, formed_stamped, sound_stamped}

-- the document stands as it stood, and the value is offered in the scratch rows
module _ {w : Table} {nodes' : List Row} {used row : ℕ} {v : Value.Value} {c : Cell} {kids : Forest Cell} (d : Document w used v)
    (node : NodeHeld w row c kids) (inside : row + size kids < used) (is : SetAsideIs w.nodes nodes' row) where
  pub rows_aside : nodes' ≡ moved w.nodes scratch_row row (suc (size kids))
  rows_aside =
      let count : span_of (get_or w.nodes row []) + 1 ≡ suc (size kids) = omega (arith, span_here (held_node node.held)) in
      is ∙ ap (moved w.nodes scratch_row row) count

  pub target : scratch_row + suc (size kids) ≤ length w.nodes
  target = omega (arith, d.few, d.long)

  pub there : row + suc (size kids) ≤ length w.nodes
  there = omega (arith, d.few, d.long)

  pub aside_offered : Offered (table w.texts nodes') scratch_row c kids
  aside_offered =
      record {
        behind = omega arith;
        held =
            record {
              rest = none;
              held =
                  record {
                    after = drop (scratch_row + suc (size kids)) w.nodes;
                    rows = rw rows_aside (holds_moved scratch_row (suc (size kids)) refl target there node.held.rows);
                    formed = formed_alone node.held.formed;
                  };
              label = node.label;
              sound = node.sound;
            };
      }

  unfoldable pub aside_document : Document (table w.texts nodes') used v
  unfolding size
  aside_document =
      let scratched = scratched_moved row (suc (size kids)) rows_aside (omega (arith, d.few)) d.long there in
      let in_rows : size (tree d.c d.kids none) ≤ scratch_row = omega (arith, d.ends, d.few) in
      record {
        c = d.c;
        kids = d.kids;
        held =
            record {
              rest = none;
              held = held_same (same_first scratched.before in_rows) (held_alone d.held.held);
              label = d.held.label;
              sound = d.held.sound;
            };
        means = d.means;
        ends = d.ends;
        few = d.few;
        shallow = d.shallow;
        long = omega (arith, d.long, scratched.same_length);
      }

-- with its origins
module _ {w : Table} {nodes' : List Row} {used row : ℕ} {v : Origin.Value} {c : Cell} {kids : Forest Cell} (b : Bearing w used v)
    (node : NodeHeld w row c kids) (inside : row + size kids < used) (is : SetAsideIs w.nodes nodes' row) where
  pub aside_bearing : Bearing (table w.texts nodes') used v
  unfolding aside_document
  aside_bearing = record { document = aside_document b.document node inside is; bears = b.bears }

-- ---- and stamped: the document stands as it stood, and all nodes of the value bear the origin
module _ {T : Texts} {xs ys : List Row} {c : Cell} {kids : Forest Cell} (k : ℕ) (offered : Offered (table T xs) scratch_row c kids)
    (is : StampAsideIs xs ys k) where
  rows-stamped : ys ≡ stamped xs scratch_row (suc (size kids)) k
  rows-stamped =
      let count : span_of (get_or xs scratch_row []) + 1 ≡ suc (size kids) = omega (arith, span_here (held_node offered.held.held)) in
      is ∙ ap (λ n. stamped xs scratch_row n k) count

  scratch_there : scratch_row ≤ length xs
  scratch_there = let inside = inside_here (held_node offered.held.held) in omega arith

  pub stamped_offered : Offered (table T ys) scratch_row (stamp_cell k c) (map_forest (stamp_cell k) kids)
  unfolding map_forest
  stamped_offered =
      let words : take (suc (size kids)) (drop scratch_row xs) ≡ tape row_of (tree c kids none) =
      holds_words (suc (size kids)) refl offered.held.held.rows ∙ sym (tape-single row_of (record { root = c; kids = kids })) in
      record {
        behind = omega arith;
        held =
            record {
              rest = none;
              held =
                  record {
                    after = drop (suc (size kids)) (drop scratch_row xs);
                    rows =
                        record {
                          is =
                              ap (drop scratch_row) rows-stamped ∙ stamped-from xs scratch_row (suc (size kids)) k scratch_there
                              ∙ ap (λ l. stamped_rows k l ++ drop (suc (size kids)) (drop scratch_row xs)) words
                              ∙ ap (λ l. l ++ drop (suc (size kids)) (drop scratch_row xs)) (tape-stamped k (tree c kids none));
                        };
                    formed = formed_stamped k (formed_alone offered.held.held.formed);
                  };
              label = offered.held.label;
              sound = sound_stamped k offered.held.sound;
            };
      }

  module _ {used : ℕ} {v : Origin.Value} (b : Bearing (table T xs) used v) where
    pub stamped-bearing : Bearing (table T ys) used v
    unfolding size
    stamped-bearing =
        let d = b.document in
        let same : take scratch_row ys ≡ take scratch_row xs = ap (take scratch_row) rows-stamped ∙ stamped-before xs scratch_row (suc (size kids)) k in
        let in_rows : size (tree d.c d.kids none) ≤ scratch_row = omega (arith, d.ends, d.few) in
        record {
          document =
              record {
                c = d.c;
                kids = d.kids;
                held =
                    record {
                      rest = none;
                      held = held_same (same_first same in_rows) (held_alone d.held.held);
                      label = d.held.label;
                      sound = d.held.sound;
                    };
                means = d.means;
                ends = d.ends;
                few = d.few;
                shallow = d.shallow;
                long = omega (arith, d.long, ap length rows-stamped ∙ length-stamped xs scratch_row (suc (size kids)) k);
              };
          bears = b.bears;
        }
