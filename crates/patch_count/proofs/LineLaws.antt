-- Laws of the line: its pieces, and that there is room for it.
use Prim.Native.Nat.{ℕ, ◌-◌, ◌*◌, ◌≤◌}
use native.Mathlib.Omega.{arith}
use mathlib.Core.Path.{◌≡◌, refl, sym, ap, ◌∙◌}
use mathlib.Core.List.{List, ◌++◌, append_assoc}
use lib.ListN.{length, length-append}
use lib.Seq.{length-take-le, take-append_seam}
use borrow.Author.Tests.{le-ltb}
use Rattle.spec.specs.Limits.{max_operations}
use Rattle.spec.specs.Bytes.{Bytes, ascii}
use Rattle.writer.specs.Writing.{Placed}
use Rattle.writer.proofs.PlacedLaws.{placed_as, placed_whole, placed-length, placed-inside}
use Rattle.report.specs.Line.{in_decimal, newline}
use Rattle.report.proofs.DecimalLaws.{in_decimal_short}
use Rattle.inspect.specs.Counts.{counts_in}
use Rattle.inspection.specs.Inspection.{total}
use Rattle.inspection.specs.Tally.{File, results, fields_of, line, tally, max_names}
use Rattle.patch_count.specs.Line.{field_bytes, others, line_bytes, printed}
use Rattle.patch_count.specs.Pieces.{whole_line}
use Rattle.patch_count.specs.Sums.{tally_in, Sums, LineIs}
use Rattle.patch_count.specs.declared.tally.Tally.{Tally}
use Rattle.patch_count.proofs.SumLaws.{sums_refused, sums_patches_few, sums_few}

module _ (t : Tally) where
  -- one word and one number behind another
  abbrev nested : Bytes
  nested =
      ascii "patches " ++ (in_decimal t.patches ++
      (ascii " refused " ++ (in_decimal t.refused ++
      (ascii " add " ++ (in_decimal t.counts.adds ++
      (ascii " remove " ++ (in_decimal t.counts.removes ++
      (ascii " replace " ++ (in_decimal t.counts.replaces ++
      (ascii " move " ++ (in_decimal t.counts.moves ++
      (ascii " copy " ++ (in_decimal t.counts.copies ++
      (ascii " test " ++ (in_decimal t.counts.tests ++
      (ascii " ops " ++ (in_decimal (total (counts_in t.counts)) ++
      (ascii " over " ++ (in_decimal (t.patches - t.refused) ++
      newline)))))))))))))))))))

  line-nested : line_bytes (fields_of (tally_in t)) ≡ nested
  unfolding line_bytes others field_bytes fields_of ascii
  line-nested = refl

  pieces_nested : whole_line t (total (counts_in t.counts)) (t.patches - t.refused) ≡ nested
  pieces_nested = simp append_assoc

  line_pieces : line_bytes (fields_of (tally_in t)) ≡ whole_line t (total (counts_in t.counts)) (t.patches - t.refused)
  line_pieces = line-nested ∙ sym pieces_nested

  line_short : Sums t → length (whole_line t (total (counts_in t.counts)) (t.patches - t.refused)) ≤ 159
  unfolding ascii total
  line_short s =
      let few : t.patches ≤ max_names = sums_patches_few s in
      let some : t.refused ≤ t.patches = sums_refused s in
      let all : total (counts_in t.counts) ≤ max_operations * max_names = sums_few s in
      let P = in_decimal_short 8 t.patches (omega arith) in
      let R = in_decimal_short 8 t.refused (omega arith) in
      let A = in_decimal_short 8 t.counts.adds (omega arith) in
      let B = in_decimal_short 8 t.counts.removes (omega arith) in
      let C = in_decimal_short 8 t.counts.replaces (omega arith) in
      let D = in_decimal_short 8 t.counts.moves (omega arith) in
      let E = in_decimal_short 8 t.counts.copies (omega arith) in
      let F = in_decimal_short 8 t.counts.tests (omega arith) in
      let N = in_decimal_short 8 (total (counts_in t.counts)) (omega arith) in
      let Q = in_decimal_short 8 (t.patches - t.refused) (omega arith) in
      simp length-append (omega arith)

  -- the line of the files, where the sums are theirs
  printed_is : (files : List File) → tally_in t ≡ tally (results files) → length files ≤ max_names → printed files ≡ line_bytes (fields_of (tally_in t))
  unfolding printed line
  printed_is files is few = rw (le-ltb max_names (length files) few, is)

  pub line_is : Sums t → {ops over n : ℕ} {before after : Bytes} → ops ≡ total (counts_in t.counts) → over ≡ t.patches - t.refused
      → length before ≡ 159 → Placed (whole_line t ops over) 0 before after n → LineIs t after n
  line_is s {ops} {over} {n} {before} {after} o q long placed =
      let whole : Placed (whole_line t (total (counts_in t.counts)) (t.patches - t.refused)) 0 before after n =
      placed_as (ap (λ k. whole_line t k (t.patches - t.refused)) (sym o) ∙ ap (whole_line t ops) (sym q)) placed in
      let room = placed_whole whole (omega (arith, line_short s)) in
      let inside : n ≤ length after = omega (arith, placed-length whole, placed-inside whole) in
      record {
        counts = (inside, sym (length-take-le n after inside));
        is = λ files is few.
            rw (room.0, room.1) (take-append_seam (whole_line t (total (counts_in t.counts)) (t.patches - t.refused)) _)
            ∙ sym line_pieces
            ∙ sym (printed_is files is few);
      }
