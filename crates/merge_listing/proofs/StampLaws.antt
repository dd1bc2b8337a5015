-- Laws of the stamps before the merge: the two texts that the table holds then.
use Prim.Native.Nat.{ℕ, suc, ◌-◌, ◌≤◌}
use native.Mathlib.Omega.{arith}
use mathlib.Core.Path.{◌≡◌, refl, ap, sym, ◌∙◌, subst}
use mathlib.Core.List.{List, ◌++◌}
use lib.ListN.{length, take, drop}
use Rattle.spec.specs.Forest.{Forest, none, tree, size}
use Rattle.spec.specs.Value as Plain
use Rattle.spec.specs.Proper.{Proper}
use Rattle.tape.specs.Layout.{document_row, patch_row, rows}
use Rattle.tape.specs.Fields.{Row}
use Rattle.tape.specs.Tape.{tape}
use Rattle.tape.specs.Map.{map_forest}
use Rattle.tape.specs.declared.fields.Cell.{Cell}
use Rattle.tape.specs.Cell.{row_of}
use Rattle.tape.specs.Lent.{Texts, Table}
use Rattle.tape.specs.Rows.{end_of}
use Rattle.tape.proofs.Map.{size-map}
use Rattle.tape.proofs.Rows.{inside_here, end_here}
use Rattle.tape.proofs.Held.{held_node}
use Rattle.tape.proofs.Tape.{tape-single, holds_words}
use Rattle.table.specs.All.{all_none, all_tree}
use Rattle.table.specs.Meaning.{entry_of, label_of}
use Rattle.origin.specs.Value.{painted}
use Rattle.origin.specs.MergePatch.{merge_origin}
use Rattle.origin.proofs.ForgetLaws.{map-map, forget-painted}
use Rattle.changes.specs.Site.{table}
use Rattle.changes.specs.Document.{Document}
use Rattle.changes.proofs.KeptLaws.{formed_alone}
use Rattle.operations.specs.Stamp.{stamped_rows, stamped}
use Rattle.operations.proofs.StampLaws.{stamp_cell, stamped-from, stamped-before, length-stamped, tape-stamped, formed_stamped, sound_stamped}
use Rattle.json_patch.specs.Stages.{PatchHeld}
use Rattle.listing.proofs.StampLaws.{drop-stamped, document_same, document-stamped}
use Rattle.merge.specs.Bearing.{as_they_are, BearsMerge}
use Rattle.merge.specs.Trees.{Both, BothBearing}

-- every node that is stamped bears the origin
bears_stamped : (f : Forest Cell) → BearsMerge as_they_are (map_forest (stamp_cell merge_origin) f)
unfolding map_forest
bears_stamped none = all_none
bears_stamped (tree c kids rest) = all_tree refl (bears_stamped kids) (bears_stamped rest)

-- ---- the patch
record PatchStamped (w : Table) (p : Plain.Value) : Type 0 where
  patch : PatchHeld w p
  bears : BearsMerge as_they_are (tree patch.c patch.kids none)

module _ {T : Texts} {xs : List Row} {p : Plain.Value} (h : PatchHeld (table T xs) p) where
  abbrev patch_cells : Forest Cell
  patch_cells = map_forest (stamp_cell merge_origin) h.kids

  patch-stamped : (end : ℕ) → end ≡ end_of xs patch_row → {ys zs : List Row} → ys ≡ stamped xs patch_row (end - patch_row) merge_origin
      → drop patch_row zs ≡ drop patch_row ys → PatchStamped (table T zs) p
  unfolding map_forest
  patch-stamped end e {ys} {zs} is same =
      let node = held_node h.held.held in
      let n : ℕ = end - patch_row in
      let count : n ≡ suc (size h.kids) = omega (arith, e, end_here node) in
      let words : take n (drop patch_row xs) ≡ tape row_of (tree h.c h.kids none) =
      holds_words n count h.held.held.rows ∙ sym (tape-single row_of (record { root = h.c; kids = h.kids })) in
      let behind : List Row = drop n (drop patch_row xs) in
      let i = inside_here node in
      record {
        patch =
            record {
              c = stamp_cell merge_origin h.c;
              kids = patch_cells;
              held =
                  record {
                    rest = none;
                    held =
                        record {
                          after = behind;
                          rows =
                              record {
                                is =
                                    same ∙ ap (drop patch_row) is ∙ stamped-from xs patch_row n merge_origin (omega (arith, i))
                                    ∙ ap (λ l. stamped_rows merge_origin l ++ behind) words
                                    ∙ ap (λ l. l ++ behind) (tape-stamped merge_origin (tree h.c h.kids none));
                              };
                          formed = formed_stamped merge_origin (formed_alone h.held.held.formed);
                        };
                    label = h.held.label;
                    sound = sound_stamped merge_origin h.held.sound;
                  };
              means =
                  ap (λ f. record { label = label_of T h.c.kind h.c.value; kids = f })
                  (map-map (entry_of T) (stamp_cell merge_origin) h.kids) ∙ h.means;
              inside = omega (arith, h.inside, size-map (stamp_cell merge_origin) h.kids);
              proper = h.proper;
            };
        bears = bears_stamped (tree h.c h.kids none);
      }

-- ---- both
pub both-stamped : {T : Texts} {xs ys zs : List Row} {used : ℕ} {v p : Plain.Value} (end : ℕ) → end ≡ end_of xs patch_row
    → ys ≡ stamped xs patch_row (end - patch_row) merge_origin → zs ≡ stamped ys document_row used 0
    → (both : Both (table T xs) v p) → both.used ≡ used → BothBearing (table T zs) (painted 0 v) p
both-stamped {T} {xs} {ys} {zs} {used} {v} {p} end e patch-is is both u =
    let d : Document (table T xs) used v = subst (λ n. Document (table T xs) n v) u both.document in
    let front : take patch_row ys ≡ take patch_row xs = ap (take patch_row) patch-is ∙ stamped-before xs patch_row (end - patch_row) merge_origin in
    let long : rows ≤ length ys = omega (arith, d.long, ap length patch-is, length-stamped xs patch_row (end - patch_row) merge_origin) in
    let stamps = document-stamped (document_same d front long) is in
    let behind : drop patch_row zs ≡ drop patch_row ys = ap (drop patch_row) is ∙ drop-stamped ys used patch_row 0 (omega (arith, d.few)) in
    let patch = patch-stamped both.patch end e patch-is behind in
    record {
      both =
          record {
            used = used;
            document = stamps.document;
            document_proper = subst Proper (sym (forget-painted 0 v)) both.document_proper;
            patch = patch.patch;
            shallow = both.shallow;
          };
      document = stamps.bears;
      patch = patch.bears;
    }
