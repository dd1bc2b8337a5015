-- The list of origins: as many as there are values.
use mathlib.Core.Path.{◌≡◌, refl, ap, sym, ◌∙◌}
use Prim.Native.Nat.{suc}
use native.Mathlib.Omega.{arith}
use lib.ListN.{length, length-append}
use Rattle.spec.specs.Forest.{none, tree, size}
use Rattle.spec.specs.Value as Plain
use Rattle.tape.proofs.Map.{size-map}
use Rattle.origin.specs.Value as Value
use Rattle.origin.specs.Value.{Members, forget_entry, nodes, origins_of, origins}

pub length-origins_of : (f : Members) → length (origins_of f) ≡ size f
unfolding origins_of size
length-origins_of none = refl
length-origins_of (tree e kids rest) = simp length-append (omega (arith, length-origins_of kids, length-origins_of rest))

pub length-origins : (v : Value.Value) → length (origins v) ≡ nodes v
unfolding origins Plain.nodes
length-origins v = ap suc (length-origins_of v.kids ∙ sym (size-map forget_entry v.kids))
