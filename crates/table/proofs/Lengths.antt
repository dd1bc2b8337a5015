-- A text has no more characters than its part has bytes, so that a longer text is another one.
use Rattle.std.specs.Prelude.{if◌then◌else◌}
use Prim.Native.Nat.{ℕ, zero, suc, ◌≤◌, ◌<◌}
use Prim.Native.Char.{code}
use native.Mathlib.Omega.{arith}
use mathlib.Core.Path.{◌≡◌, refl, sym, ap}
use mathlib.Core.Bool.{Bool, true, false, ◌&&◌}
use mathlib.Core.List.{[], ◌∷◌}
use lib.Dec.{eqb}
use lib.ListN.{length, drop, length-take}
use Rattle.spec.specs.Outcome.{Outcome, ok, refused}
use Rattle.spec.specs.Bytes.{Bytes, Text}
use Rattle.spec.specs.Value.{same_text}
use Rattle.spec.proofs.TextLaws.{same_text_true}
use Rattle.text.specs.Decode.{character_in, before, decode_loop, decode_from, unescape_token, text_from, text_of}
use Rattle.tape.specs.declared.fields.Spelling.{Spelling}
use Rattle.table.specs.Meaning.{source_text, part_of, spelled}
use Rattle.tape.specs.Lent.{Texts}

before_short : (o : Outcome (ℕ × ℕ)) (rest : ℕ → Text) (n : ℕ) → ((at : ℕ) → length (rest at) ≤ n) → length (before o rest) ≤ suc n
unfolding before
before_short (ok read) rest n h = omega (arith, h read.1)
before_short (refused number place) rest n h = omega arith

decode_short : (fuel : ℕ) (s : Bytes) (at : ℕ) → length (decode_loop fuel s at) ≤ fuel
unfolding decode_loop
decode_short zero s at = omega arith
decode_short (suc fuel) s at = before_short (character_in s at) (decode_loop fuel s) fuel (decode_short fuel s)

-- a token's `~0` and `~1` are one character each
unescape_short : (t : Text) → length (unescape_token t) ≤ length t
unfolding unescape_token
unescape_short [] = omega arith
unescape_short (c ∷ []) = omega arith
unescape_short (c ∷ d ∷ s) = go (eqb c (code "~") && eqb d (code "0")) (eqb c (code "~") && eqb d (code "1")) (unescape_short s) (unescape_short (d ∷ s))
  where
    go : (zero one : Bool) → length (unescape_token s) ≤ length s → length (unescape_token (d ∷ s)) ≤ length (d ∷ s)
        → length (if zero then code "~" ∷ unescape_token s else if one then code "/" ∷ unescape_token s else c ∷ unescape_token (d ∷ s)) ≤ length (c ∷ d ∷ s)
    go true one h i = omega arith
    go false true h i = omega arith
    go false false h i = omega arith

text_short : (form : ℕ) (s : Bytes) → length (text_of form s) ≤ length s
unfolding text_of text_from decode_from
text_short form s = go (eqb form 1) (eqb form 2) (eqb form 3) (decode_loop (length s) s 0) (decode_short (length s) s 0)
  where
    go : (one two three : Bool) (t : Text) → length t ≤ length s → length (if one then t else if two then t else if three then unescape_token t else [])
        ≤ length s
    go true two three t h = h
    go false true three t h = h
    go false false true t h = omega (arith, unescape_short t)
    go false false false t h = omega arith

-- what a spelling says has at most as many characters as the spelling has bytes
spelled_short : (T : Texts) (w : Spelling) → length (spelled T w) ≤ w.length
unfolding spelled part_of
spelled_short T w = omega (arith, text_short w.form (part_of T w), length-take w.length (drop w.start (source_text T w.source)))

pub too_short : (T : Texts) (w : Spelling) (t : Text) → w.length < length t → false ≡ same_text (spelled T w) t
too_short T w t h = go (same_text (spelled T w) t) refl
  where
    go : (r : Bool) → same_text (spelled T w) t ≡ r → false ≡ same_text (spelled T w) t
    go true e = absurd (omega (arith, spelled_short T w, ap length (same_text_true _ _ e)))
    go false e = sym e
