-- The name that is made of a token spells the token's bytes where they stand.
use Rattle.std.specs.Prelude.{if◌then◌else◌}
use Prim.Native.Nat.{ℕ, zero, suc, ◌+◌, ◌-◌, ◌%◌, ◌<◌, ◌≤◌}
use native.Mathlib.Omega.{arith}
use mathlib.Core.Path.{◌≡◌, refl, ap, sym, ◌∙◌}
use mathlib.Core.Bool.{Bool, true, false}
use mathlib.Core.List.{List, [], ◌∷◌}
use lib.Dec.{eqb}
use borrow.Author.Tests.{lt-ltb, le-ltb}
use lib.ListN.{length, take, drop, length-take, length-drop}
use lib.Seq.{drop-drop}
use Rattle.spec.specs.Bytes.{Bytes}
use Rattle.spec.proofs.ListLaws.{drop-take}
use Rattle.lexer.specs.Hash.{hash}
use Rattle.lexer.specs.Names.{part}
use Rattle.text.specs.Decode.{text_of}
use Rattle.tape.specs.Layout.{values, sources, in_document, in_patch}
use Rattle.tape.specs.Lent.{Texts}
use Rattle.tape.specs.declared.fields.Spelling.{Spelling}
use Rattle.tape.specs.declared.fields.Name.{Name}
use Rattle.table.specs.Meaning.{source_text, part_of, spelled, name_text, short_hash}
use Rattle.pointer.specs.Tokens.{token_bytes, end_of}
use Rattle.pointer.specs.declared.answers.Token.{Token}
use Rattle.walk.specs.Names.{NamesToken, Short, no_name, source_of, token_name, name_at, TokenNameIs}

-- ---- bytes of a text found again by their number
prefix : {A : Type 0} (m n : ℕ) (l : List A) → take (length (take m (take n l))) l ≡ take m (take n l)
prefix zero n l = refl
prefix (suc m) zero l = refl
prefix (suc m) (suc n) [] = refl
prefix (suc m) (suc n) (x ∷ l) = ap (◌∷◌ x) (prefix m n l)

source_short : (T : Texts) (source : ℕ) → Short T → length (source_text T source) < values
unfolding source_text
source_short T source short = go (eqb source 0)
  where
    go : (b : Bool) → length (if b then T.document else T.patch) < values
    go true = short.document
    go false = short.patch

-- a source that fits a node's tags names the same text
pub source_told : (s : Spelling) → source_of s < sources
unfolding source_of
source_told s = go (eqb s.source in_document)
  where
    go : (b : Bool) → (if b then in_document else in_patch) < sources
    go true = omega arith
    go false = omega arith

same_source : (T : Texts) (s : Spelling) → source_text T (source_of s) ≡ source_text T s.source
unfolding source_text source_of
same_source T s = go (eqb s.source in_document) refl
  where
    go : (b : Bool) → eqb s.source in_document ≡ b
        → (if eqb (if b then in_document else in_patch) 0 then T.document else T.patch) ≡ (if eqb s.source 0 then T.document else T.patch)
    go true e = rw e
    go false e = rw e

module _ (T : Texts) (path : Spelling) (at : ℕ) (t : Token) where
  abbrev bytes : Bytes
  bytes = token_bytes (part_of T path) at t

  -- the token's bytes stand in the text that the path names
  stand : take (length bytes) (drop (path.start + at) (source_text T path.source)) ≡ bytes
  unfolding token_bytes part_of part
  stand =
      let source = drop path.start (source_text T path.source) in
      rw (← drop-drop, drop-take at path.length source) (prefix (end_of t - at) (path.length - at) (drop at source))

  module _ (short : Short T) (start< : path.start < values) where
    few : length bytes < values
    unfolding token_bytes part_of part
    few = let l = source_short T path.source short in simp (length-take, length-drop) (omega arith)

    module _ (inside : at ≤ length (part_of T path)) where
      begins : path.start + at < values
      unfolding part_of
      begins =
          let l = simp (length-take, length-drop) at inside in
          omega (arith, source_short T path.source short, start<)

      -- the name says the token
      says_token : name_text T (name_at path at bytes) ≡ text_of 3 bytes
      unfolding spelled part_of
      says_token =
          let start : (path.start + at) % values ≡ path.start + at = omega (arith, begins) in
          let count : length bytes % values ≡ length bytes = omega (arith, few) in
          ap (text_of 3)
          (ap (λ n. take n (drop ((path.start + at) % values) (source_text T (source_of path)))) count
          ∙ ap (λ n. take (length bytes) (drop n (source_text T (source_of path)))) start
          ∙ ap (λ s. take (length bytes) (drop (path.start + at) s)) (same_source T path)
          ∙ stand)

      named : NamesToken T (name_at path at bytes) (text_of 3 bytes)
      named =
          record {
            token =
                record {
                  form = refl;
                  told = record { form = omega arith; source = source_told path };
                  hashed = record { is = ap (λ s. short_hash (hash s)) (sym says_token) };
                };
            says = says_token;
          }

-- what `token_name` makes
module _ (T : Texts) (path : Spelling) (at : ℕ) (t : Token) (pointer : Bytes) (pointer_is : pointer ≡ part_of T path) where
  pub token-named : (source start n h : ℕ) → path.start < values → at ≤ length pointer → source ≡ source_of path → start ≡ (path.start + at) % values
      → n ≡ length (token_bytes pointer at t) % values → h ≡ short_hash (hash (text_of 3 (token_bytes pointer at t)))
      → TokenNameIs T path at t (record { text = record { form = 3; source = source; start = start; length = n }; hash = h })
  unfolding token_name
  token-named source start n h start< inside e f g k =
      let made : record { text = record { form = 3; source = source; start = start; length = n }; hash = h } ≡ name_at path at (token_bytes pointer at t) =
      λ i. record { text = record { form = 3; source = e i; start = f i; length = g i }; hash = k i } in
      let is = made ∙ ap (λ p. name_at path at (token_bytes p at t)) pointer_is in
      record {
        is = rw (le-ltb (length (part_of T path)) at (omega (arith, ap length pointer_is))) is;
        names = λ short inside. rw is (named T path at t short start< inside);
      }

  -- behind the end of a pointer no token begins
  pub no_token : (r : Name) → length pointer < at → r ≡ no_name → TokenNameIs T path at t r
  unfolding token_name
  no_token r h e =
      record {
        is = rw (lt-ltb (length (part_of T path)) at (omega (arith, ap length pointer_is))) e;
        names = λ short inside. absurd (omega (arith, ap length pointer_is));
      }
