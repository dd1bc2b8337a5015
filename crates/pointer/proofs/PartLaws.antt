-- The bytes of a part between two places, at the ends of the part and past them.
use mathlib.Core.Path.{◌≡◌, sym, ap, ◌∙◌}
use mathlib.Core.List.{[]}
use Prim.Native.Nat.{ℕ, ◌-◌, ◌<◌, ◌≤◌}
use native.Mathlib.Omega.{arith}
use lib.ListN.{length, take, drop, length-drop, drop_of_length-le}
use lib.Seq.{take-nil, take_all}
use Rattle.spec.specs.Bytes.{Bytes}
use Rattle.lexer.specs.Names.{part}

module _ (s : Bytes) (from to : ℕ) where
  pub part_backwards : to ≤ from → [] ≡ part s from to
  unfolding part
  part_backwards h = let none : to - from ≡ 0 = omega arith in rw none

  pub part_outside : length s ≤ from → [] ≡ part s from to
  unfolding part
  part_outside h = sym (ap (take (to - from)) (drop_of_length-le s h) ∙ take-nil (to - from))

  pub part_beyond : length s < to → take (length s - from) (drop from s) ≡ part s from to
  unfolding part
  part_beyond h =
      let l = length-drop from s in
      take_all (length s - from) (drop from s) (omega arith) ∙ sym (take_all (to - from) (drop from s) (omega arith))
