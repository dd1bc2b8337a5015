-- Laws of the bytes before a value: one more item in an open container, and what JSON text they begin.
use Prim.Native.Nat.{ℕ, ◌+◌}
use Prim.Native.Char.{code}
use mathlib.Core.Path.{◌≡◌, refl, ap, subst, sym, ◌∙◌}
use mathlib.Core.Bool.{Bool}
use mathlib.Core.List.{[], ◌∷◌, ◌++◌, append_assoc, append-nil}
use native.Mathlib.Omega.{arith}
use Rattle.spec.specs.Bytes.{Bytes, Text}
use Rattle.spec.specs.Forest as Forest
use Rattle.spec.specs.Forest.{size, single, ◌⧺◌}
use Rattle.spec.specs.Value as Value
use Rattle.spec.specs.Value.{Label, Members, named}
use Rattle.grammar.specs.Grammar.{ws, structural, begin_array, begin_object, value_separator, value, object, members, member, array, elements, JSON-text}
use Rattle.grammar.specs.Theorems.{Begins}
use Rattle.grammar.specs.RefusedAt.{BeforeValue, outermost, first_element, next_element, first_member, next-member}
use Rattle.grammar.proofs.Containers.{opening_bracket}
use Rattle.grammar.proofs.ReadSound.{NamePart, nameless, under, Between, pair, last_between}

-- one more at the end of elements, and of members
elements-snoc : {es c w : Bytes} {f : Members} {v : Value.Value} → elements es f → value_separator c → value w v →
    elements (es ++ (c ++ w)) (f ⧺ single (named [] v))
unfolding ◌⧺◌
elements-snoc (elements.last_element d) c v = elements.more-elements d c (elements.last_element v)
elements-snoc (elements.more-elements d c' rest) c v = rw (append_assoc, append_assoc) (elements.more-elements d c' (elements-snoc rest c v))

members-snoc : {ms c w : Bytes} {name : Text} {f : Members} {v : Value.Value} → members ms f → value_separator c → member w name v →
    members (ms ++ (c ++ w)) (f ⧺ single (named name v))
unfolding ◌⧺◌
members-snoc (members.last-member d) c m = members.more-members d c (members.last-member m)
members-snoc (members.more-members d c' rest) c m = rw (append_assoc, append_assoc) (members.more-members d c' (members-snoc rest c m))

snoc : {is_object : Bool} (is : Bytes) {c n w : Bytes} {name : Text} (f : Members) {v : Value.Value} → Between is_object is f → value_separator c →
    NamePart is_object n name → value w v → Between is_object (is ++ (c ++ (n ++ w))) (f ⧺ single (named name v))
snoc is f b c nameless d = elements-snoc b c d
snoc is f b c (under q h) d = members-snoc b c (pair q h d)

-- The bytes before an item of an open container, with the numbers of levels and values before that container, and the items before this one.
pub data BeforeItem (is_object : Bool) : Bytes → ℕ → ℕ → Members → Type 0 where
  first_item : {w b : Bytes} {levels values : ℕ} → BeforeValue w levels values → structural (opening_bracket is_object) b →
      BeforeItem is_object (w ++ b) levels values Forest.none
  next_item_lem : {w b : Bytes} (is : Bytes) {c : Bytes} {levels values : ℕ} (f : Members) → BeforeValue w levels values →
      structural (opening_bracket is_object) b → Between is_object is f → value_separator c →
      BeforeItem is_object (w ++ (b ++ (is ++ c))) levels values f

-- the same bytes in another grouping, and the same number of values
again : {w w' : Bytes} {levels values values' : ℕ} → w ≡ w' → values ≡ values' → BeforeValue w levels values → BeforeValue w' levels values'
again e same h = rw (← e, ← same) h

regrouped : {is_object : Bool} {w w' : Bytes} {levels values : ℕ} {f : Members} → w ≡ w' → BeforeItem is_object w levels values f →
    BeforeItem is_object w' levels values f
regrouped e h = rw (← e) h

-- an item's value, after its name
pub item-value : {is_object : Bool} {w n : Bytes} {levels values : ℕ} {f : Members} {name : Text} → BeforeItem is_object w levels values f →
    NamePart is_object n name → BeforeValue (w ++ n) (levels + 1) (values + 1 + size f)
unfolding size
item-value (first_item {w} {b} h o) nameless = again (sym (append-nil _)) (omega arith) (first_element h o)
item-value (first_item {w} {b} h o) (under q c) = again (sym (append_assoc w b _)) (omega arith) (first_member h o q c)
item-value (next_item_lem is f h o i c) nameless = again (sym (append-nil _)) refl (next_element h o i c)
item-value (next_item_lem {w} {b} is {c = c'} f h o i c) (under q d) = again (simp append_assoc) refl (next-member h o i c q d)

-- the item after that one
pub item_next : {is_object : Bool} {w n x c : Bytes} {levels values : ℕ} {f : Members} {name : Text} {v : Value.Value} →
    BeforeItem is_object w levels values f → NamePart is_object n name → value x v → value_separator c →
    BeforeItem is_object (w ++ ((n ++ x) ++ c)) levels values (f ⧺ single (named name v))
unfolding ◌⧺◌
item_next {n = n} {x = x} {c = c} (first_item {w} {b} h o) p d q =
    regrouped (sym (append_assoc w b ((n ++ x) ++ c))) (next_item_lem (n ++ x) _ h o (last_between p d) q)
item_next {n = n} {x = x} {c = c'} (next_item_lem {w} {b} is {c} f h o i q) p d q' =
    let texts : w ++ (b ++ ((is ++ (c ++ (n ++ x))) ++ c')) ≡ (w ++ (b ++ (is ++ c))) ++ ((n ++ x) ++ c') = simp append_assoc in
    regrouped texts (next_item_lem (is ++ (c ++ (n ++ x))) _ h o (snoc is f i q p d) q')

-- What the bytes before a value, and a value after them, begin.

pub shorter : {w' : Bytes} → Begins w' → (w more : Bytes) → w' ≡ w ++ more → Begins w
shorter b w more e =
    record {
      rest = more ++ b.rest;
      meaning = b.meaning;
      derived = subst (λ t. JSON-text t b.meaning) (ap (λ t. t ++ b.rest) e ∙ append_assoc w more b.rest) b.derived;
    }

-- the container that the value is in, closed after it
in_array : {b es : Bytes} {f : Members} → begin_array b → elements es f →
    value (b ++ (es ++ (code "]" ∷ []))) (record { label = Label.array; kids = f })
in_array o i = value.of_array (array.with-elements o i (structural.around ws.none ws.none))

in-object : {b ms : Bytes} {f : Members} → begin_object b → members ms f →
    value (b ++ (ms ++ (code "}" ∷ []))) (record { label = Label.object; kids = f })
in-object o i = value.of-object (object.with-members o i (structural.around ws.none ws.none))

pub complete : {w x : Bytes} {levels values : ℕ} {v : Value.Value} → BeforeValue w levels values → value x v → Begins (w ++ x)
complete {w} {x} {v = v} (outermost h) d =
    record { rest = []; meaning = v; derived = subst (λ t. JSON-text t v) (sym (append_assoc w x [])) (JSON-text.text h d ws.none) }
complete {x = x} (first_element {w} {b} h o) d =
    shorter (complete h (in_array o (elements.last_element d))) ((w ++ b) ++ x) (code "]" ∷ []) (simp append_assoc)
complete {x = x} (next_element {w} {b} {es} {c} h o i q) d =
    shorter (complete h (in_array o (elements-snoc i q d))) ((w ++ (b ++ (es ++ c))) ++ x) (code "]" ∷ []) (simp append_assoc)
complete {x = x} (first_member {w} {b} {n} {d = c} h o q p) d =
    shorter (complete h (in-object o (members.last-member (member.pair q p d)))) ((w ++ (b ++ (n ++ c))) ++ x) (code "}" ∷ []) (simp append_assoc)
complete {x = x} (next-member {w} {b} {ms} {c} {n} {d = c'} h o i q r p) d =
    shorter (complete h (in-object o (members-snoc i q (member.pair r p d)))) ((w ++ (b ++ (ms ++ (c ++ (n ++ c'))))) ++ x) (code "}" ∷ [])
    (simp append_assoc)
