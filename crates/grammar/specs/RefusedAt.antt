-- Where a text is refused, and by which number: SPECIFICATION 3, in the grammar's productions. Proved in proofs/RefusedAt.
use Rattle.std.specs.Prelude.{ℕ, suc, ◌+◌, ◌<◌, ◌≤◌, ◌≡◌, ◌↔◌, [], ◌∷◌, ◌++◌, length, take, nat_abs}
use Prim.Native.Char.{code}
use Rattle.spec.specs.Outcome.{ok, refused}
use Rattle.spec.specs.Refusal.{not_json, repeated_name, too_deep, too_many_nodes, number_over_limit}
use Rattle.spec.specs.Limits.{max_depth, max_nodes, max_number, max_exponent}
use Rattle.spec.specs.Bytes.{Bytes, Text}
use Rattle.spec.specs.Worth.{exponent}
use Rattle.spec.specs.Forest.{size}
use Rattle.spec.specs.Value as Value
use Rattle.spec.specs.Value.{Members}
use Rattle.spec.specs.Read.{read}
use Rattle.grammar.specs.Grammar.{ws, begin_array, begin_object, name_separator, value_separator, number, *char, string, quotation_mark, value, elements}
use Rattle.grammar.specs.Grammar.{members, JSON-text}
use Rattle.grammar.specs.Limits.{Named}
use Rattle.grammar.specs.Theorems.{Begins, LongestBeginning}

-- a text that is read, or that is refused only because it ends too soon
pub data Unrefused (w : Bytes) : Type 0 where
  read_whole : {v : Value.Value} → read w ≡ ok v → Unrefused w
  cut_short : read w ≡ refused not_json (length w) → Unrefused w

-- SPECIFICATION 3.2: "The reader goes from left to right and refuses at the first byte that causes a refusal." Nothing is refused before that
-- byte, and whatever follows it, the refusal is the same.
pub record FirstCause (s : Bytes) (number p : ℕ) : Type 0 where
  pub before : (n : ℕ) → n ≤ p → Unrefused (take n s)
  pub after : (rest : Bytes) → p < length s → read (take (suc p) s ++ rest) ≡ refused number p

abbrev pub LeftToRight : Type 0
LeftToRight = (s : Bytes) (number p : ℕ) → read s ≡ refused number p → FirstCause s number p

-- A number is given at a place exactly where it is said to be and nothing is refused before. `Unrefused` speaks only of the text before that place. So
-- with `Exactness` the five below leave `read` no choice, as long as it refuses by no other number: by induction on the length of the text.
abbrev pub GivenAt : ℕ → (Bytes → ℕ → Type 0) → Type 0
GivenAt number said = (s : Bytes) (p : ℕ) → (read s ≡ refused number p) ↔ (Unrefused (take p s) × said s p)

-- SPECIFICATION 3.3: "The place is the length of the longest prefix of the input that also begins some valid text."
pub record NotJSON (s : Bytes) (p : ℕ) : Type 0 where
  pub longest : LongestBeginning s p
  pub no_text : (v : Value.Value) → ¬ JSON-text s v

abbrev pub Given3 : Type 0
Given3 = GivenAt not_json NotJSON

-- The bytes before a value of some JSON text, with the number of containers that are open around it and of values that begin before it. An
-- open container has its opening bracket, the values before this one with their separators, and in an object this one's name.
pub data BeforeValue : Bytes → ℕ → ℕ → Type 0 where
  outermost : {w : Bytes} → ws w → BeforeValue w 0 0
  first_element : {w b : Bytes} {levels values : ℕ} → BeforeValue w levels values → begin_array b → BeforeValue (w ++ b) (levels + 1) (values + 1)
  next_element : {w b es c : Bytes} {f : Members} {levels values : ℕ} → BeforeValue w levels values → begin_array b → elements es f →
      value_separator c → BeforeValue (w ++ (b ++ (es ++ c))) (levels + 1) (values + 1 + size f)
  first_member : {w b n d : Bytes} {name : Text} {levels values : ℕ} → BeforeValue w levels values → begin_object b → string n name →
      name_separator d → BeforeValue (w ++ (b ++ (n ++ d))) (levels + 1) (values + 1)
  next-member : {w b ms c n d : Bytes} {f : Members} {name : Text} {levels values : ℕ} → BeforeValue w levels values → begin_object b →
      members ms f → value_separator c → string n name → name_separator d →
      BeforeValue (w ++ (b ++ (ms ++ (c ++ (n ++ d))))) (levels + 1) (values + 1 + size f)

-- the byte at the place p of s is b, and w are the bytes before it
pub record ByteAt (s : Bytes) (p : ℕ) (w : Bytes) (b : ℕ) : Type 0 where
  pub after : Bytes
  pub text : s ≡ w ++ (b ∷ after)
  pub place : p ≡ length w

-- SPECIFICATION 3.4: "The place is the closing quote of the second name. Names are compared after unescaping."
pub data SecondName (s : Bytes) (p : ℕ) : Type 0 where
  closing_quote : {w b ms c cs : Bytes} {f : Members} {name : Text} {levels values : ℕ} → BeforeValue w levels values → begin_object b →
      members ms f → value_separator c → *char cs name → Named name f →
      ByteAt s p (w ++ (b ++ (ms ++ (c ++ (quotation_mark ∷ cs))))) quotation_mark → SecondName s p

abbrev pub Given4 : Type 0
Given4 = GivenAt repeated_name SecondName

-- an opening bracket
pub data Opening : ℕ → Type 0 where
  of_array : Opening (code "[")
  of-object : Opening (code "{")

-- SPECIFICATION 3.5: "The place of a 5 is the bracket that opens level 33."
pub data OpensLevel33 (s : Bytes) (p : ℕ) : Type 0 where
  bracket : {w : Bytes} {b values : ℕ} → BeforeValue w max_depth values → Opening b → ByteAt s p w b → OpensLevel33 s p

abbrev pub Given5 : Type 0
Given5 = GivenAt too_deep OpensLevel33

-- SPECIFICATION 3.5: "The place of a 6 is the first byte of value 2,049." The blanks before a bracket are not bytes of a value. The byte is no
-- bracket that opens level 33: on one byte "the order is 3, 5, 6, 7", SPECIFICATION 3.2.
pub data BeginsValue2049 (s : Bytes) (p : ℕ) : Type 0 where
  first_byte : {w more : Bytes} {b levels : ℕ} {v : Value.Value} → BeforeValue w levels max_nodes → value (b ∷ more) v → ¬ ws (b ∷ []) →
      (levels ≡ max_depth → ¬ Opening b) → ByteAt s p w b → BeginsValue2049 s p

abbrev pub Given6 : Type 0
Given6 = GivenAt too_many_nodes BeginsValue2049

-- a byte after the bytes n of a number, with which the number has 129 bytes, or its exponent passes 9,999
pub data PassesLimit (n : Bytes) (b : ℕ) : Type 0 where
  byte_129 : (more : Bytes) → number (n ++ (b ∷ more)) → length n ≡ max_number → PassesLimit n b
  exponent-digit : number n → nat_abs (exponent n) ≤ max_exponent → number (n ++ (b ∷ [])) → max_exponent < nat_abs (exponent (n ++ (b ∷ []))) →
      PassesLimit n b

-- SPECIFICATION 3.6: "The place is byte 129 of a number, or the exponent digit with which the exponent passes 9,999."
pub data NumberOverLimit (s : Bytes) (p : ℕ) : Type 0 where
  passing_byte : {w n : Bytes} {b levels values : ℕ} → BeforeValue w levels values → PassesLimit n b → ByteAt s p (w ++ n) b →
      NumberOverLimit s p

abbrev pub Given7 : Type 0
Given7 = GivenAt number_over_limit NumberOverLimit

-- On one byte "the order is 3, 5, 6, 7", SPECIFICATION 3.2: where a number other than 3 is given, that byte and those before it begin some JSON
-- text.
abbrev pub After3 : Type 0
After3 = (s : Bytes) (number p : ℕ) → read s ≡ refused number p → ¬ (number ≡ not_json) → Begins (take (suc p) s)
