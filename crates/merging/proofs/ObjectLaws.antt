-- Two values of which the second is an object: the merge by its members.
use mathlib.Core.Path.{◌≡◌, ◌∙◌}
use mathlib.Core.Bool.{true, false}
use Rattle.spec.specs.Forest.{none}
use Rattle.spec.specs.Value as Value
use Rattle.spec.specs.Value.{Label, Entry, Members, leaf, is_object, same_text, has}
use Rattle.spec.specs.Distinct as Repeats
use Rattle.spec.specs.Distinct.{NoRepeats}
use Rattle.merging.specs.MergePatch.{as_object, merge_members, merge_patch}
use Rattle.merging.specs.Parts.{merged_members}
use Rattle.merging.proofs.MemberLaws.{Single, no_member, one-member, absent}
use Rattle.merging.proofs.PartLaws.{parts}
use Rattle.merging.proofs.MergeTheorem.{label_kept, depth-as_object}

pub single_distinct : {f : Members} → NoRepeats true f → Single f
single_distinct Repeats.empty = no_member
single_distinct (Repeats.member {e} {kids} {rest} h k r) = one-member (absent e.name rest h) (single_distinct r)

module _ (t p : Value.Value) where
  pub merge-object : is_object p.label ≡ true → Single p.kids → Single (as_object t).kids
      → merge_patch t p ≡ record { label = Label.object; kids = merged_members (as_object t).kids p.kids }
  unfolding merge_patch
  merge-object o s u =
      let label : (merge_members p.kids (as_object t)).label ≡ Label.object = label_kept p.kids (as_object t) ∙ (depth-as_object t).0 in
      let kids = parts p.kids (as_object t) s u in
      rw o (λ i. record { label = label i; kids = kids i })

  pub merge_other : is_object p.label ≡ false → merge_patch t p ≡ p
  unfolding merge_patch
  merge_other o = rw o

-- a target taken as an object
module _ (t : Value.Value) where
  pub as_object_lem : is_object t.label ≡ true → (as_object t).kids ≡ t.kids
  unfolding as_object
  as_object_lem o = rw o

  pub as_empty : is_object t.label ≡ false → (as_object t).kids ≡ none
  unfolding as_object
  as_empty o = rw o
