-- The elements of a patch text, "each with its own bytes": SPECIFICATION 9.2.
use Rattle.std.specs.Prelude.{◌≡◌, List, [], ◌∷◌, ◌++◌, Bool, true, ◌&&◌, length}
use Prim.Native.Char.{code}
use Rattle.spec.specs.Outcome.{ok}
use Rattle.spec.specs.Limits.{max_depth}
use Rattle.spec.specs.Bytes.{Bytes}
use Rattle.spec.specs.Value as Value
use Rattle.spec.specs.Read.{is_blank, value}

unfoldable pub all_blank : Bytes → Bool
all_blank [] = true
all_blank (b ∷ w) = is_blank b && all_blank w

-- elements with commas between them, then the closing bracket, and blanks anywhere between and after
pub data Listed : Bytes → List Bytes → Type 0 where
  last : (e w w' : Bytes) → all_blank w ≡ true → all_blank w' ≡ true → Listed (e ++ (w ++ (code "]" ∷ w'))) (e ∷ [])
  more : (e w w' rest : Bytes) (others : List Bytes) → all_blank w ≡ true → all_blank w' ≡ true → Listed rest others →
      Listed (e ++ (w ++ (code "," ∷ (w' ++ rest)))) (e ∷ others)

-- an array's text by its elements' texts
pub data Layout : Bytes → List Bytes → Type 0 where
  empty : (w w' w'' : Bytes) → all_blank w ≡ true → all_blank w' ≡ true → all_blank w'' ≡ true →
      Layout (w ++ (code "[" ∷ (w' ++ (code "]" ∷ w'')))) []
  filled : (w w' rest : Bytes) (all : List Bytes) → all_blank w ≡ true → all_blank w' ≡ true → Listed rest all →
      Layout (w ++ (code "[" ∷ (w' ++ rest))) all

-- a text that is one value from its first byte to its last
abbrev pub Alone : Bytes → Value.Value → Type 0
Alone e v = value max_depth e 0 0 ≡ ok (v, length e)

-- two lists whose entries belong together one by one
pub data Each {A B : Type 0} (R : A → B → Type 0) : List A → List B → Type 0 where
  nothing : Each R [] []
  one : {x : A} {y : B} {xs : List A} {ys : List B} → R x y → Each R xs ys → Each R (x ∷ xs) (y ∷ ys)

-- the elements of a patch text: it is laid out in them, and each is a value. (No well-formed patch has two such lists: Demand3, `elements-unique`.)
pub record ElementsOf (text : Bytes) (elements : List Bytes) : Type 0 where
  pub values : List Value.Value
  pub layout : Layout text elements
  pub alone : Each Alone elements values
