-- JSON Pointer, RFC 6901: a pointer's tokens, and the value that they lead to.
use Rattle.std.specs.Prelude.{ℕ, suc, List, [], ◌∷◌, Bool, true, false, ◌&&◌, ltb, eqb, if◌then◌else◌}
use Prim.Native.Char.{code}
use Rattle.spec.specs.Outcome.{Outcome, ok, refused, ◌>>=◌}
use Rattle.spec.specs.Refusal.{malformed_pointer, location_missing, no_index}
use Rattle.spec.specs.Bytes.{Text, ascii, within}
use Rattle.spec.specs.Numbers.{is_digit}
use Rattle.spec.specs.Worth.{decimal}
use Rattle.spec.specs.Forest.{Tree, count, nth}
use Rattle.spec.specs.Value as Value
use Rattle.spec.specs.Value.{Label, Members, Entry, is_array, is_object, same_text, find, has, leaf, named, value_of}

-- a pointer by its tokens, each unescaped
abbrev pub Tokens : Type 0
Tokens = List Text

-- a character before the first of some texts
unfoldable pub prepend : ℕ → List Text → List Text
prepend c [] = (c ∷ []) ∷ []
prepend c (t ∷ ts) = (c ∷ t) ∷ ts

-- The tokens as they are written after a `/`: the texts between the slashes, one more than there are slashes.
unfoldable pub segments : Text → List Text
segments [] = [] ∷ []
segments (c ∷ s) = if eqb c (code "/") then [] ∷ segments s else prepend c (segments s)

-- what the character after a `~` stands for: `~1` means `/`, `~0` means `~`, and `~` before anything else is malformed: SPECIFICATION 5.2
unfoldable pub tilde : ℕ → Outcome ℕ
tilde c =
    if eqb c (code "0") then ok (code "~") else
    if eqb c (code "1") then ok (code "/") else refused malformed_pointer 0

-- a token unescaped, from the left to the right; `escaped` says that a `~` stands before
unfoldable pub unescape : Bool → Text → Outcome Text
unescape false [] = ok []
unescape true [] = refused malformed_pointer 0
unescape false (c ∷ s) =
    if eqb c (code "~") then unescape true s else do
      t ← unescape false s
      ok (c ∷ t)
unescape true (c ∷ s) = do
  d ← tilde c
  t ← unescape false s
  ok (d ∷ t)

unfoldable pub unescape_all : List Text → Outcome Tokens
unescape_all [] = ok []
unescape_all (t ∷ ts) = do
  u ← unescape false t
  us ← unescape_all ts
  ok (u ∷ us)

-- SPECIFICATION 5.1: a pointer is empty or begins with `/`; each `/` begins a token, which may be empty. Otherwise 10.
unfoldable pub tokens : Text → Outcome Tokens
tokens [] = ok []
tokens (c ∷ s) = if eqb c (code "/") then unescape_all (segments s) else refused malformed_pointer 0

unfoldable pub all_digits : Text → Bool
all_digits [] = true
all_digits (c ∷ s) = is_digit c && all_digits s

-- `0`, or "a nonzero digit with any digits after it": SPECIFICATION 6.1
unfoldable pub is_index : Text → Bool
is_index [] = false
is_index (c ∷ []) = is_digit c
is_index (c ∷ d ∷ s) = within (code "1") (code "9") c && (is_digit d && all_digits s)

unfoldable pub is_dash : Text → Bool
is_dash t = same_text t (ascii "-")

-- the index of one of n elements, SPECIFICATION 6.1: on an array `-` is 11; a token that is not `0`, and not a nonzero digit with any digits
-- after it, is 12; an index not below the length, however long, is 11
unfoldable pub element_below : ℕ → Text → Outcome ℕ
element_below n t =
    if is_dash t then refused location_missing 0 else
    if is_index t then (if ltb (decimal 0 t) n then ok (decimal 0 t) else refused location_missing 0) else refused no_index 0

-- on an object: the member so named, otherwise 11
unfoldable pub member_named : Text → Members → Outcome ℕ
member_named name f = if has name f then ok (find name f) else refused location_missing 0

-- the position of the child that a token names; on a scalar 11
unfoldable pub child_at : Text → Value.Value → Outcome ℕ
child_at t v =
    if is_array v.label then element_below (count v.kids) t else
    if is_object v.label then member_named t v.kids else refused location_missing 0

-- the child at a position, under its name
unfoldable pub child : ℕ → Value.Value → Tree Entry
child k v = nth (named [] (leaf Label.null_literal)) k v.kids

-- T-01: "place is the count of tokens walked before the one that failed". This is an outcome with one more token walked before it.
unfoldable pub farther : {A : Type 0} → Outcome A → Outcome A
farther (ok a) = ok a
farther (refused number walked) = refused number (suc walked)

-- SPECIFICATION 6.1: "A pointer is walked token by token from the root."
unfoldable pub walk : Tokens → Value.Value → Outcome Value.Value
walk [] v = ok v
walk (t ∷ ts) v = do
  k ← child_at t v
  farther (walk ts (value_of (child k v)))
