-- `any_kind` meets its contract, name by name.
use mathlib.Core.Path.{sym, ◌∙◌}
use Rattle.spec.specs.Bytes.{ascii}
use Rattle.shape.specs.Kinds.{spec_kind, kind_outcome}
use Rattle.shape.proofs.KindLaws.{add_named, remove_named, replace_named, move_named, copy_named, test_named, none_named}
use Rattle.shape.proofs.kinds.any_kind.Goals as goal

pub returns-then-spells : goal.returns-then-spells
unfolding ascii kind_outcome spec_kind
returns-then-spells c = add_named _ (sym c.spells.ensures ∙ c.if-spells.true)

pub returns-then-spells-2 : goal.returns-then-spells-2
unfolding ascii kind_outcome spec_kind
returns-then-spells-2 c =
    remove_named _ (sym c.spells.ensures ∙ c.if-spells.false) (sym c.spells-2.ensures ∙ c.if-spells-2.true)

pub returns-then-spells-3 : goal.returns-then-spells-3
unfolding ascii kind_outcome spec_kind
returns-then-spells-3 c =
    replace_named _ (sym c.spells.ensures ∙ c.if-spells.false) (sym c.spells-2.ensures ∙ c.if-spells-2.false) (sym c.spells-3.ensures ∙ c.if-spells-3.true)

pub returns-then-spells-4 : goal.returns-then-spells-4
unfolding ascii kind_outcome spec_kind
returns-then-spells-4 c =
    move_named _
    (sym c.spells.ensures ∙ c.if-spells.false) (sym c.spells-2.ensures ∙ c.if-spells-2.false) (sym c.spells-3.ensures ∙ c.if-spells-3.false)
    (sym c.spells-4.ensures ∙ c.if-spells-4.true)

pub returns-then-spells-5 : goal.returns-then-spells-5
unfolding ascii kind_outcome spec_kind
returns-then-spells-5 c =
    copy_named _
    (sym c.spells.ensures ∙ c.if-spells.false) (sym c.spells-2.ensures ∙ c.if-spells-2.false) (sym c.spells-3.ensures ∙ c.if-spells-3.false)
    (sym c.spells-4.ensures ∙ c.if-spells-4.false) (sym c.spells-5.ensures ∙ c.if-spells-5.true)

pub returns-then-spells-6 : goal.returns-then-spells-6
unfolding ascii kind_outcome spec_kind
returns-then-spells-6 c =
    test_named _
    (sym c.spells.ensures ∙ c.if-spells.false) (sym c.spells-2.ensures ∙ c.if-spells-2.false) (sym c.spells-3.ensures ∙ c.if-spells-3.false)
    (sym c.spells-4.ensures ∙ c.if-spells-4.false) (sym c.spells-5.ensures ∙ c.if-spells-5.false) (sym c.spells-6.ensures ∙ c.if-spells-6.true)

pub returns : goal.returns
unfolding ascii kind_outcome spec_kind
returns c =
    none_named _
    (sym c.spells.ensures ∙ c.if-spells.false) (sym c.spells-2.ensures ∙ c.if-spells-2.false) (sym c.spells-3.ensures ∙ c.if-spells-3.false)
    (sym c.spells-4.ensures ∙ c.if-spells-4.false) (sym c.spells-5.ensures ∙ c.if-spells-5.false) (sym c.spells-6.ensures ∙ c.if-spells-6.false)
