-- A value by its first byte: where it is refused, a scalar, or a container.
use Rattle.std.specs.Prelude.{if◌then◌else◌, Option, Some, None}
use Prim.Native.Nat.{ℕ, zero, suc, ◌+◌, ◌-◌, ◌<◌, ◌≤◌}
use Prim.Native.Char.{code}
use mathlib.Core.Path.{◌≡◌, refl, ap, ap₂}
use mathlib.Core.Bool.{Bool, true, false, ◌||◌}
use native.Mathlib.Omega.{arith}
use native.Mathlib.Decide.{dec_lt}
use lib.ListN.{length}
use lib.Dec.{ltb, eqb}
use borrow.Author.Tests.{ne_eqb, ltb-true}
use Rattle.spec.specs.Outcome.{Outcome, ok, refused, ◌>>=◌}
use Rattle.spec.specs.Refusal.{not_json, too_many_nodes}
use Rattle.spec.specs.Limits.{max_nodes}
use Rattle.spec.specs.Bytes.{Bytes, byte, within}
use Rattle.spec.specs.Numbers.{is_digit}
use Rattle.spec.specs.Value as Value
use Rattle.spec.specs.Value.{Members}
use Rattle.spec.specs.Read.{room_for, scalar, contents, container, container_label, value}
use Rattle.lexer.proofs.ByteLaws.{byte_past}
use Rattle.tape.specs.Layout.{array_kind, object_kind}
use Rattle.reader.specs.Begins.{beginning, kind_or_refused, kind_at, container_room, scalar_of}

-- the definition's tests at the first byte of a value, by the kind that begins with it
data Begins (s : Bytes) (at : ℕ) : Option ℕ → Type 0 where
  an-array : eqb (byte s at) (code "[") ≡ true → Begins s at (Some array_kind)
  an-object : eqb (byte s at) (code "[") ≡ false → eqb (byte s at) (code "{") ≡ true → Begins s at (Some object_kind)
  a_scalar : {kind : ℕ} → eqb (byte s at) (code "[") ≡ false → eqb (byte s at) (code "{") ≡ false → kind < array_kind
      → ((nodes : ℕ) → scalar s at nodes ≡ (room_for nodes at >>= λ _. scalar_of kind s at)) → Begins s at (Some kind)
  no_value : eqb (byte s at) (code "[") ≡ false → eqb (byte s at) (code "{") ≡ false
      → ((nodes : ℕ) → scalar s at nodes ≡ refused not_json at) → Begins s at None

begins : (s : Bytes) (at : ℕ) → Begins s at (beginning (byte s at))
unfolding beginning scalar scalar_of
begins s at = array (eqb b (code "[")) refl
  where
    b : ℕ
    b = byte s at

    word : (t : Bool) → eqb b (code "[") ≡ false → eqb b (code "{") ≡ false → eqb b (code "\"") ≡ false
        → (is_digit b || eqb b (code "-")) ≡ false → eqb b (code "n") ≡ false → eqb b (code "t") ≡ t
        → Begins s at (beginning b)
    word true e f g h i j = rw (e, f, g, h, i, j) (a_scalar {kind = 1} e f (omega arith) (λ nodes. rw (g, h, i, j)))
    word false e f g h i j = last (eqb b (code "f")) refl
      where
        last : (t : Bool) → eqb b (code "f") ≡ t → Begins s at (beginning b)
        last true k = rw (e, f, g, h, i, j, k) (a_scalar {kind = 2} e f (omega arith) (λ nodes. rw (g, h, i, j, k)))
        last false k = rw (e, f, g, h, i, j, k) (no_value e f (λ nodes. rw (g, h, i, j, k)))

    text : (t : Bool) → eqb b (code "[") ≡ false → eqb b (code "{") ≡ false → eqb b (code "\"") ≡ t → Begins s at (beginning b)
    text true e f g = rw (e, f, g) (a_scalar {kind = 4} e f (omega arith) (λ nodes. rw g))
    text false e f g = digit (is_digit b || eqb b (code "-")) refl
      where
        null : (t : Bool) → (is_digit b || eqb b (code "-")) ≡ false → eqb b (code "n") ≡ t → Begins s at (beginning b)
        null true h i = rw (e, f, g, h, i) (a_scalar {kind = 0} e f (omega arith) (λ nodes. rw (g, h, i)))
        null false h i = word (eqb b (code "t")) e f g h i refl

        digit : (t : Bool) → (is_digit b || eqb b (code "-")) ≡ t → Begins s at (beginning b)
        digit true h = rw (e, f, g, h) (a_scalar {kind = 3} e f (omega arith) (λ nodes. rw (g, h)))
        digit false h = null (eqb b (code "n")) h refl

    array : (t : Bool) → eqb b (code "[") ≡ t → Begins s at (beginning b)
    array true e = rw e (an-array e)
    array false e = object (eqb b (code "{")) refl
      where
        object : (t : Bool) → eqb b (code "{") ≡ t → Begins s at (beginning b)
        object true f = rw (e, f) (an-object e f)
        object false f = text (eqb b (code "\"")) e f refl

-- ---- room for a value
pub room_given : (nodes at p : ℕ) → room_for nodes at ≡ ok p → nodes < max_nodes
unfolding room_for
room_given nodes at p e = go (ltb nodes max_nodes) refl e
  where
    go : (t : Bool) → ltb nodes max_nodes ≡ t → (if t then ok at else refused too_many_nodes at) ≡ ok p → nodes < max_nodes
    go true e f = ltb-true nodes max_nodes e
    go false e f = absurd (let z : ◌≡◌ {A = ℕ} 0 1 = cc in omega arith)

-- and, for a container, a level
pub container_given : (levels nodes at p : ℕ) → container_room levels nodes at ≡ ok p → (levels ≡ suc (levels - 1)) × (nodes < max_nodes)
unfolding container_room
container_given zero nodes at p e = absurd (let z : ◌≡◌ {A = ℕ} 0 1 = cc in omega arith)
container_given (suc left) nodes at p e = (omega arith, room_given nodes at p (rw (ne_eqb (suc left) 0 (λ z. omega arith)) at e))

-- ---- the three ways
-- a container's label joined to what was read in it
unfoldable pub whole : Bool → Members × ℕ → Outcome (Value.Value × ℕ)
whole object (kids, next) = ok (record { label = container_label object; kids = kids }, next)

module _ (s : Bytes) (at : ℕ) where
  pub kind_here : (kind : ℕ) → kind_at s at ≡ ok kind → beginning (byte s at) ≡ Some kind
  unfolding kind_at kind_or_refused
  kind_here kind e = go (beginning (byte s at)) e
    where
      go : (k : Option ℕ) → kind_or_refused k at ≡ ok kind → k ≡ Some kind
      go (Some kind') e = cc
      go None e = absurd (let z : ◌≡◌ {A = ℕ} 0 1 = cc in omega arith)

  pub value-none : (levels nodes number place : ℕ) → kind_at s at ≡ refused number place → value levels s at nodes ≡ refused number place
  unfolding value kind_at kind_or_refused
  value-none levels nodes number place e = go levels (beginning (byte s at)) (begins s at) e
    where
      go : (levels : ℕ) (k : Option ℕ) → Begins s at k → kind_or_refused k at ≡ refused number place → value levels s at nodes ≡ refused number place
      go levels k (an-array t) e = absurd (let z : ◌≡◌ {A = ℕ} 0 1 = cc in omega arith)
      go levels k (an-object t u) e = absurd (let z : ◌≡◌ {A = ℕ} 0 1 = cc in omega arith)
      go levels k (a_scalar t u l q) e = absurd (let z : ◌≡◌ {A = ℕ} 0 1 = cc in omega arith)
      go zero k (no_value t u q) e =
          let a : not_json ≡ number = cc in let b : at ≡ place = cc in rw (t, u, q nodes) (ap₂ refused a b)
      go (suc l) k (no_value t u q) e =
          let a : not_json ≡ number = cc in let b : at ≡ place = cc in rw (t, u, q nodes) (ap₂ refused a b)

  module _ (kind : ℕ) (is : beginning (byte s at) ≡ Some kind) where
    -- it begins within the text
    pub value-inside : at < length s
    unfolding beginning is_digit within
    value-inside = go (dec_lt at (length s))
      where
        go : Dec (at < length s) → at < length s
        go (yes h) = h
        go (no h) =
            let none : beginning (byte s at) ≡ None = ap beginning (byte_past s at (omega arith)) in
            absurd (let z : ◌≡◌ {A = ℕ} 0 1 = cc in omega arith)

    pub value-kind : kind ≤ object_kind
    value-kind = go (beginning (byte s at)) (begins s at) is
      where
        go : (k : Option ℕ) → Begins s at k → k ≡ Some kind → kind ≤ object_kind
        go k (an-array t) e = let same : array_kind ≡ kind = cc in omega arith
        go k (an-object t u) e = let same : object_kind ≡ kind = cc in omega arith
        go k (a_scalar {kind = kind'} t u l q) e = let same : kind' ≡ kind = cc in omega arith
        go k (no_value t u q) e = absurd (let z : ◌≡◌ {A = ℕ} 0 1 = cc in omega arith)

    pub value-scalar : (levels nodes : ℕ) → kind < array_kind → value levels s at nodes ≡ (room_for nodes at >>= λ _. scalar_of kind s at)
    unfolding value
    value-scalar levels nodes h = go levels (beginning (byte s at)) (begins s at) is
      where
        go : (levels : ℕ) (k : Option ℕ) → Begins s at k → k ≡ Some kind → value levels s at nodes ≡ (room_for nodes at >>= λ _. scalar_of kind s at)
        go levels k (an-array t) e = let same : array_kind ≡ kind = cc in absurd (omega arith)
        go levels k (an-object t u) e = let same : object_kind ≡ kind = cc in absurd (omega arith)
        go zero k (a_scalar {kind = kind'} t u l q) e = let same : kind' ≡ kind = cc in rw (t, u, ← same) (q nodes)
        go (suc left) k (a_scalar {kind = kind'} t u l q) e = let same : kind' ≡ kind = cc in rw (t, u, ← same) (q nodes)
        go levels k (no_value t u q) e = absurd (let z : ◌≡◌ {A = ℕ} 0 1 = cc in omega arith)

    module _ (container-here : array_kind ≤ kind) where
      -- by the container's refusals, and then its items
      abbrev pub object : Bool
      object = eqb kind object_kind

      pub value-container : (levels nodes : ℕ) → value levels s at nodes
          ≡ (container_room levels nodes at >>= λ _. contents (value (levels - 1) s) object s (nodes + 1) (at + 1) >>= whole object)
      unfolding value container whole container_room ◌>>=◌
      value-container levels nodes = go levels (beginning (byte s at)) (begins s at) is
        where
          go : (levels : ℕ) (k : Option ℕ) → Begins s at k → k ≡ Some kind → value levels s at nodes
              ≡ (container_room levels nodes at >>= λ _. contents (value (levels - 1) s) object s (nodes + 1) (at + 1) >>= whole object)
          go zero k (an-array t) e = rw t
          go zero k (an-object t u) e = rw (t, u)
          go (suc left) k (an-array t) e =
              let same : array_kind ≡ kind = cc in
              let less : suc left - 1 ≡ left = omega arith in
              rw (t, ← same, less, ne_eqb (suc left) 0 (λ z. omega arith))
          go (suc left) k (an-object t u) e =
              let same : object_kind ≡ kind = cc in
              let less : suc left - 1 ≡ left = omega arith in
              rw (t, u, ← same, less, ne_eqb (suc left) 0 (λ z. omega arith))
          go levels k (a_scalar {kind = kind'} t u l q) e = let same : kind' ≡ kind = cc in absurd (omega arith)
          go levels k (no_value t u q) e = absurd (let z : ◌≡◌ {A = ℕ} 0 1 = cc in omega arith)
