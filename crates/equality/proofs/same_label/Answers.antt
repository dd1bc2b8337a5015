-- `same_label` meets its contract, by the kinds and then by the texts.
use Rattle.equality.proofs.LabelLaws.{labels_differ, labels_other, labels-number, labels-string}
use Rattle.equality.proofs.same_label.Goals as goal

pub returns-then-kind-kind_in : goal.returns-then-kind-kind_in
returns-then-kind-kind_in c = labels_differ _ _ c.kind_in-kind.ensures c.kind_in.ensures c.if-kind-kind_in.true

pub returns-then-kind-eq-STRING : goal.returns-then-kind-eq-STRING
returns-then-kind-eq-STRING c = labels-string _ _ c.kind_in-kind.ensures c.kind_in.ensures
    c.if-kind-kind_in.false
    _ _ c.value_of.ensures c.value_of-then-kind-eq-STRING.ensures c.if-kind-eq-STRING.true _ c.same_spelling.ensures

pub returns-then-kind-eq-NUMBER : goal.returns-then-kind-eq-NUMBER
returns-then-kind-eq-NUMBER c = labels-number _ _ c.kind_in-kind.ensures
    c.kind_in.ensures
    c.if-kind-kind_in.false
    _ _ c.value_of-then-kind-eq-NUMBER.ensures c.value_of-then-kind-eq-NUMBER-2.ensures
    c.if-kind-eq-NUMBER.true _ _ c.part-s.ensures c.part-t.ensures _
    c.same_number.ensures

pub returns : goal.returns
returns c = labels_other _ _ c.kind_in-kind.ensures c.kind_in.ensures c.if-kind-kind_in.false
    c.if-kind-eq-NUMBER.false c.if-kind-eq-STRING.false
