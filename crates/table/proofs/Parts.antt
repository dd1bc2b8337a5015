-- The part that a spelling names, as the code cuts it out; it may run past the end of its text.
use Prim.Native.Nat.{ℕ, ◌+◌, ◌-◌, ◌<◌, min}
use mathlib.Core.Path.{◌≡◌, sym, ◌∙◌}
use mathlib.Core.List.{[]}
use native.Mathlib.Omega.{arith}
use native.Mathlib.Decide.{dec_lt}
use lib.ListN.{length, take, drop, length-drop, drop_of_length-le}
use lib.Seq.{take-nil, take_all}
use Rattle.spec.specs.Bytes.{Bytes}
use Rattle.tape.specs.declared.fields.Spelling.{Spelling}
use Rattle.table.specs.Meaning.{source_text, part_of}
use Rattle.tape.specs.Lent.{Texts}

-- a cut from a place to another, both of them no further than where the text ends
cut : (s : Bytes) (start count : ℕ) → take (min (min start (length s) + count) (length s) - min start (length s)) (drop (min start (length s)) s)
    ≡ take count (drop start s)
cut s start count = go (dec_lt start (length s)) (dec_lt (start + count) (length s))
  where
    first : ℕ
    first = min start (length s)

    go : Dec (start < length s) → Dec (start + count < length s) → take (min (first + count) (length s) - first) (drop first s) ≡ take count (drop start s)
    go (yes l) (yes m) =
        let f : first ≡ start = omega arith in
        let n : min (start + count) (length s) - start ≡ count = omega arith in
        rw (f, n)
    go (yes l) (no m) =
        let f : first ≡ start = omega arith in
        rw f (take_all (min (start + count) (length s) - start) (drop start s) (omega (arith, length-drop start s))
        ∙ sym (take_all count (drop start s) (omega (arith, length-drop start s))))
    go (no l) d =
        let f : drop first s ≡ [] = drop_of_length-le s (omega arith) in
        let g : drop start s ≡ [] = drop_of_length-le s (omega arith) in
        rw (f, g) (take-nil (min (first + count) (length s) - first) ∙ sym (take-nil count))

module _ (T : Texts) (w : Spelling) (first end start count : ℕ) (s : Bytes) where
  pub part_cut : s ≡ source_text T w.source → start ≡ w.start → count ≡ w.length → first ≡ min start (length s) → end ≡ min (first + count) (length s)
      → take (end - first) (drop first s) ≡ part_of T w
  unfolding part_of
  part_cut text begins many f e = rw (e, f, cut s start count, text, begins, many)
