-- `one` meets its contract, kind by kind.
use mathlib.Core.Path.{◌≡◌, refl}
use Rattle.shape.specs.Kinds.{kind_outcome, spec_kind}
use Rattle.shape.specs.declared.kinds.Kind.TheVariants as Kind
use Rattle.inspection.specs.Inspection.{one_of}
use Rattle.inspect.specs.Counts.{one_for}
use Rattle.inspect.proofs.AnswerLaws.{one_as}
use Rattle.inspect.proofs.counts.one.Goals as goal

pub returns-in-Some-Add : goal.returns-in-Some-Add
unfolding kind_outcome spec_kind one_for one_of
returns-in-Some-Add c =
    let which : c.in-Some-Add.field-0 ≡ Kind.Add = rw c.in-Some-Add.is at c.in-Some-Add.field-0-is in
    one_as (rw (c.in-Some-Add.is, which) refl)

pub returns-in-Some-Remove : goal.returns-in-Some-Remove
unfolding kind_outcome spec_kind one_for one_of
returns-in-Some-Remove c =
    let which : c.in-Some-Remove.field-0 ≡ Kind.Remove = rw c.in-Some-Remove.is at c.in-Some-Remove.field-0-is in
    one_as (rw (c.in-Some-Remove.is, which) refl)

pub returns-in-Some-Replace : goal.returns-in-Some-Replace
unfolding kind_outcome spec_kind one_for one_of
returns-in-Some-Replace c =
    let which : c.in-Some-Replace.field-0 ≡ Kind.Replace = rw c.in-Some-Replace.is at c.in-Some-Replace.field-0-is in
    one_as (rw (c.in-Some-Replace.is, which) refl)

pub returns-in-Some-Move : goal.returns-in-Some-Move
unfolding kind_outcome spec_kind one_for one_of
returns-in-Some-Move c =
    let which : c.in-Some-Move.field-0 ≡ Kind.Move = rw c.in-Some-Move.is at c.in-Some-Move.field-0-is in
    one_as (rw (c.in-Some-Move.is, which) refl)

pub returns-in-Some-Copy : goal.returns-in-Some-Copy
unfolding kind_outcome spec_kind one_for one_of
returns-in-Some-Copy c =
    let which : c.in-Some-Copy.field-0 ≡ Kind.Copy = rw c.in-Some-Copy.is at c.in-Some-Copy.field-0-is in
    one_as (rw (c.in-Some-Copy.is, which) refl)

pub returns-in-Some-Test : goal.returns-in-Some-Test
unfolding kind_outcome spec_kind one_for one_of
returns-in-Some-Test c =
    let which : c.in-Some-Test.field-0 ≡ Kind.Test = rw c.in-Some-Test.is at c.in-Some-Test.field-0-is in
    one_as (rw (c.in-Some-Test.is, which) refl)

pub returns-in-None : goal.returns-in-None
unfolding kind_outcome spec_kind one_for
returns-in-None c = one_as (rw c.in-None.is refl)
