-- Laws of a pointer's tokens, one after another.
use Rattle.std.specs.Prelude.{if◌then◌else◌}
use Prim.Native.Nat.{ℕ, ◌≤◌}
use Prim.Native.Char.{code}
use mathlib.Core.Path.{◌≡◌, refl, ap, sym, ◌∙◌, subst}
use mathlib.Core.Bool.{Bool, true, false}
use mathlib.Core.List.{List, [], ◌∷◌}
use lib.Dec.{eqb}
use lib.ListN.{length}
use Rattle.spec.specs.Outcome.{ok}
use Rattle.spec.specs.Bytes.{Bytes, Text}
use Rattle.spec.specs.Pointer.{Tokens, prepend, segments, unescape_all}
use Rattle.text.specs.Decode.{text_of, decode_from}
use Rattle.tape.specs.declared.fields.Spelling.{Spelling}
use Rattle.tape.specs.declared.fields.Name.{Name}
use Rattle.tape.specs.Lent.{Texts}
use Rattle.table.specs.Meaning.{part_of, name_text}
use Rattle.pointer.specs.Tokens.{tokens_from, token_bytes, TokenAt}
use Rattle.pointer.specs.declared.answers.Token.{Token}
use Rattle.pointer.proofs.WalkLaws.{unescaped, last_token_lem, next_token}
use Rattle.walk.specs.Names.{Short, TokenNameIs}
use Rattle.walk.specs.Path.{TokensFrom}

-- ---- there is a token at every place
segments_some : (t : Text) → (a : Text) × (as' : List Text) × (segments t ≡ a ∷ as')
unfolding segments prepend
segments_some [] = ([], [], refl)
segments_some (c ∷ t) = go (eqb c (code "/")) (segments_some t)
  where
    go : (b : Bool) → (a : Text) × (as' : List Text) × (segments t ≡ a ∷ as')
        → (a : Text) × (as' : List Text) × ((if b then [] ∷ segments t else prepend c (segments t)) ≡ a ∷ as')
    go true (a, l, e) = ([], segments t, refl)
    go false (a, l, e) = (c ∷ a, l, ap (prepend c) e)

pub some_token : {C : Type 0} (s : Bytes) (at : ℕ) (ts : Tokens) → tokens_from s at ≡ ok ts → ((t : Text) (us : Tokens) → ts ≡ t ∷ us → C) → C
unfolding tokens_from
some_token s at ts h then-it =
    let (a, l, e) = segments_some (decode_from s at) in
    let u = unescaped a l ts (ap unescape_all (sym e) ∙ h) in
    then-it _ u.rest u.is

-- ---- a token that was read, with its name
pub record TokenRead (T : Texts) (path : Spelling) (at : ℕ) (t : Token) (name : Name) : Type 0 where
  pub is : TokenAt (part_of T path) at t
  pub named : TokenNameIs T path at t name

pub token-read : {T : Texts} {path : Spelling} {at : ℕ} {t : Token} {name : Name} (pointer : Bytes) → pointer ≡ part_of T path → TokenAt pointer at t
    → TokenNameIs T path at t name → TokenRead T path at t name
token-read {at = at} {t} pointer e is named = record { is = subst (λ s. TokenAt s at t) e is; named = named }

module _ {T : Texts} {path : Spelling} {at : ℕ} {name : Name} {t : Token} (read : TokenRead T path at t name) (short : Short T)
    (inside : at ≤ length (part_of T path)) {u : Text} {us : Tokens} (from : TokensFrom T path at (u ∷ us)) where
  -- the last token
  pub one_left : (end : ℕ) → t ≡ Token.Last end → (us ≡ []) × (u ≡ name_text T name)
  one_left end e =
      let one : u ∷ us ≡ text_of 3 (token_bytes (part_of T path) at t) ∷ [] = last_token_lem (part_of T path) at t read.is end (u ∷ us) e from.is in
      let n = (read.named.names short inside).says in
      ((cc), (cc))

  -- others behind it
  pub more_left : {C : Type 0} (end next : ℕ) → t ≡ Token.Next end next
      → ((v : Text) (vs : Tokens) → us ≡ v ∷ vs → u ≡ name_text T name → TokensFrom T path next (v ∷ vs) → C) → C
  more_left end next e then-it =
      let f = next_token (part_of T path) at t read.is end next (u ∷ us) e from.is in
      let n = (read.named.names short inside).says in
      let rest : us ≡ f.rest = cc f.is in
      let first : u ≡ name_text T name = cc f.is in
      some_token (part_of T path) next f.rest f.from λ v vs g. then-it v vs (rest ∙ g) first (record { is = f.from ∙ ap ok g })
