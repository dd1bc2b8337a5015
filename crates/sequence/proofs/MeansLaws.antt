-- What the elements of a patch mean, by their bytes.
use mathlib.Core.Path.{◌≡◌, refl, ap, ap₂, sym, ◌∙◌}
use mathlib.Core.List.{List, [], ◌∷◌, ◌++◌}
use Prim.Native.Nat.{suc}
use lib.ListN.{length}
use Rattle.spec.specs.Outcome.{ok}
use Rattle.spec.specs.Bytes.{Bytes}
use Rattle.spec.specs.Value as Value
use Rattle.spec.specs.Operation.{Operation}
use Rattle.spec.specs.Patch.{operation}
use Rattle.spec.specs.Elements.{Alone, Each, nothing, one, ElementsOf}
use Rattle.spec.specs.Region.{WellFormed}
use Rattle.spec.proofs.OutcomeLaws.{first_ok}
use Rattle.spec.proofs.RegionTheorem.{Meaning, no_element, element, elements-meaning}

-- each of these texts is a value, and that value is the operation
pub data Means : List Bytes → List Operation → Type 0 where
  nothing_means : Means [] []
  means : {e : Bytes} {v : Value.Value} {o : Operation} {es : List Bytes} {os : List Operation} → Alone e v → operation v ≡ ok o → Means es os →
      Means (e ∷ es) (o ∷ os)

together : {es : List Bytes} {vs : List Value.Value} {os : List Operation} → Each Alone es vs → Meaning vs os → Means es os
together nothing no_element = nothing_means
together (one a n) (element m k) = means a m (together n k)

-- the elements of a well-formed patch mean its operations
pub elements-mean : {P : Bytes} {es : List Bytes} {os : List Operation} → WellFormed P os → ElementsOf P es → Means es os
elements-mean w e = together e.alone (elements-meaning w e)

pub means_length : {es : List Bytes} {os : List Operation} → Means es os → length es ≡ length os
means_length nothing_means = refl
means_length (means a m k) = ap suc (means_length k)

-- What comes after the elements of a first patch means what comes after its operations.
pub record After (es' : List Bytes) (xs zs : List Operation) : Type 0 where
  pub ys : List Operation
  pub order : zs ≡ xs ++ ys
  pub rest : Means es' ys

pub means_after : {es es' : List Bytes} {xs zs : List Operation} → Means es xs → Means (es ++ es') zs → After es' xs zs
means_after {zs = zs} nothing_means k = record { ys = zs; order = refl; rest = k }
means_after (means {v = v} {o = o} a m k) (means {v = v'} {o = o'} b n l) =
    let value : v ≡ v' = first_ok (sym a ∙ b) in
    let same : o' ≡ o = cc in
    let r = means_after k l in
    record { ys = r.ys; order = ap₂ ◌∷◌ same r.order; rest = r.rest }
