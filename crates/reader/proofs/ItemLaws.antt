-- A container's items one by one: the definition's loop, from the place after the opening bracket or after a value on.
use Rattle.std.specs.Prelude.{if◌then◌else◌}
use Prim.Native.Nat.{ℕ, suc, ◌+◌}
use Prim.Native.Char.{code}
use mathlib.Core.Path.{◌≡◌, refl, sym, ap}
use mathlib.Core.Bool.{Bool, true, false}
use native.Mathlib.Omega.{arith}
use lib.ListN.{length}
use lib.Dec.{eqb}
use borrow.Author.Tests.{ne_eqb}
use Rattle.spec.specs.Outcome.{Outcome, ok, refused, ◌>>=◌}
use Rattle.spec.specs.Refusal.{not_json}
use Rattle.spec.specs.Bytes.{Bytes, Text, byte, byte_in, within}
use Rattle.spec.specs.Forest.{none, Tree, size, count, single, ◌⧺◌}
use Rattle.spec.specs.Value as Value
use Rattle.spec.specs.Value.{Members, named, Entry}
use Rattle.spec.specs.Read.{blanks, name_for, closing_bracket, items, contents}
use Rattle.spec.proofs.OutcomeLaws.{>>=_assoc}
use Rattle.lexer.proofs.Tests.{within_bounds, between-within}
use Rattle.tape.proofs.Forests.{count_⧺}
use Rattle.reader.specs.Words.{past_separator}
use Rattle.reader.specs.Items.{Next, closed, begins, after_comma, next_name, begun, next_item}

-- ---- the byte that separates
pub separator_here : (s : Bytes) (at mark : ℕ) → byte s at ≡ mark → ok (blanks s (at + 1)) ≡ past_separator s mark at
unfolding past_separator byte_in ◌>>=◌
separator_here s at mark e = rw (e, between-within mark mark mark (omega arith) (omega arith))

pub separator_missing : (s : Bytes) (at mark : ℕ) → (byte s at ≡ mark → ⊥) → refused not_json at ≡ past_separator s mark at
unfolding past_separator byte_in ◌>>=◌
separator_missing s at mark n = go (within mark mark (byte s at)) refl
  where
    go : (t : Bool) → within mark mark (byte s at) ≡ t
        → refused not_json at ≡ ((if t then ok (byte s at) else refused not_json at) >>= λ _. ok (blanks s (at + 1)))
    go true e = let h = within_bounds mark mark (byte s at) e in absurd (n (omega arith))
    go false e = refl

-- ---- the definition's loop
not_first : (f : Members) (t : Tree Entry) → eqb (count (f ⧺ single t)) 0 ≡ false
unfolding count
not_first f t = ne_eqb (count (f ⧺ single t)) 0 (λ e. omega (arith, count_⧺ f (single t)))

module _ (value : ℕ → ℕ → Outcome (Value.Value × ℕ)) (object : Bool) (s : Bytes) (nodes : ℕ) where
  -- the items from there on; the fuel is that of the definition
  unfoldable pub rest : ℕ → Members → ℕ → Outcome (Members × ℕ)
  rest fuel so_far at =
      let place = blanks s at in
      if eqb (byte s place) (closing_bracket object) then ok (so_far, place + 1) else
      (after_comma s (eqb (count so_far) 0) place >>= items fuel value object s nodes so_far)

  pub contents_rest : (at : ℕ) → contents value object s nodes at ≡ rest (length s) none at
  unfolding contents rest after_comma past_separator count ◌>>=◌
  contents_rest at = refl

  -- after an item's name: its value, and the items behind it
  unfoldable pub after : ℕ → Members → Next → Outcome (Members × ℕ)
  after fuel so_far (closed at) = ok (so_far, at)
  after fuel so_far (begins name at) = value at (nodes + size so_far) >>= λ (v, next). rest fuel (so_far ⧺ single (named name v)) next

  -- what the definition does behind an item's value
  abbrev behind : ℕ → Members → Text → Value.Value × ℕ → Outcome (Members × ℕ)
  behind fuel so_far name (v, next) =
      let end = blanks s next in
      let all = so_far ⧺ single (named name v) in
      if eqb (byte s end) (closing_bracket object) then ok (all, end + 1) else
      (byte_in s end (code ",") (code ",") >>= λ _. items fuel value object s nodes all (blanks s (end + 1)))

  behind_rest : (fuel : ℕ) (so_far : Members) (name : Text) (v : Value.Value) (next : ℕ)
      → behind fuel so_far name (v, next) ≡ rest fuel (so_far ⧺ single (named name v)) next
  unfolding rest after_comma past_separator ◌>>=◌
  behind_rest fuel so_far name v next =
      let all = so_far ⧺ single (named name v) in
      let end = blanks s next in
      rw (not_first so_far (named name v))
      (ap (λ o. if eqb (byte s end) (closing_bracket object) then ok (all, end + 1) else o)
      (sym (>>=_assoc (byte_in s end (code ",") (code ",")) (λ _. ok (blanks s (end + 1))) (items fuel value object s nodes all))))

  pub rest_step : (fuel : ℕ) (so_far : Members) (at : ℕ) → rest (suc fuel) so_far at ≡ (next_item object s so_far at >>= after fuel so_far)
  unfolding rest after next_item next_name items begun ◌>>=◌
  rest_step fuel so_far at = go (eqb (byte s (blanks s at)) (closing_bracket object)) (after_comma s (eqb (count so_far) 0) (blanks s at))
    where
      valued : (name : Text) (o : Outcome (Value.Value × ℕ))
          → (o >>= behind fuel so_far name) ≡ (o >>= λ (v, next). rest fuel (so_far ⧺ single (named name v)) next)
      valued name (ok (v, next)) = behind_rest fuel so_far name v next
      valued name (refused number place) = refl

      titled : (o : Outcome (Text × ℕ))
          → (o >>= λ (name, place). value place (nodes + size so_far) >>= behind fuel so_far name) ≡ ((o >>= begun) >>= after fuel so_far)
      titled (ok (name, place)) = valued name (value place (nodes + size so_far))
      titled (refused number place) = refl

      go : (close : Bool) (comma : Outcome ℕ) → (if close then ok (so_far, blanks s at + 1) else (comma >>= items (suc fuel) value object s nodes so_far))
          ≡ ((if close then ok (closed (blanks s at + 1)) else ((comma >>= name_for object s so_far) >>= begun)) >>= after fuel so_far)
      go true comma = refl
      go false (refused number place) = refl
      go false (ok first) = titled (name_for object s so_far first)
