-- A joined text within the limits is well formed: it is JSON text by the grammar, and its value is within the limits since both patches' are.
use mathlib.Core.Path.{◌≡◌, refl, ap, sym, subst, ◌∙◌}
use mathlib.Core.Bool.{true}
use mathlib.Core.List.{List, [], ◌∷◌, ◌++◌, append_assoc, append-nil}
use Prim.Native.Nat.{ℕ, suc, ◌+◌, ◌≤◌}
use Prim.Native.Char.{code}
use native.Mathlib.Omega.{arith}
use lib.ListN.{length, length-append}
use lib.Dec.{eqb}
use borrow.Author.Tests.{eqb-true, le-leb}
use Rattle.spec.specs.Limits.{max_nodes, max_operations}
use Rattle.spec.specs.Bytes.{Bytes}
use Rattle.spec.specs.Forest as Forest
use Rattle.spec.specs.Forest.{size, count}
use Rattle.spec.specs.Value as Value
use Rattle.spec.specs.Value.{Label, Members, tag, is_array, is_container, levels, depths, depth, nodes}
use Rattle.spec.specs.Read.{is_blank}
use Rattle.spec.specs.Operation.{Operation}
use Rattle.spec.specs.Patch.{finished, at_op, on_finish, operations, shape}
use Rattle.spec.specs.Elements as Layouts
use Rattle.spec.specs.Elements.{Alone, Each, nothing, one, ElementsOf, Listed, Layout, all_blank}
use Rattle.spec.specs.Region.{WellFormed}
use Rattle.spec.proofs.TextLaws.{both_true}
use Rattle.spec.proofs.ElementsThere.{elements}
use Rattle.spec.proofs.RegionTheorem.{Meaning, no_element, element, elements-read, elements-meaning, shaped}
use Rattle.grammar.specs.Limits as Limits
use Rattle.grammar.specs.Grammar as Grammar
use Rattle.grammar.specs.Grammar.{ws, structural, node, JSON-text}
use Rattle.grammar.specs.Limits.{Fits, Everywhere}
use Rattle.grammar.proofs.Tests.{either}
use Rattle.grammar.proofs.Places.{whole}
use Rattle.grammar.proofs.Sound.{Sound, found}
use Rattle.grammar.proofs.StringsSound.{end, Means}
use Rattle.grammar.proofs.ReadSound.{value-sound}
use Rattle.grammar.proofs.Theorems.{completeness, exactness}
use Rattle.sequence.specs.Sequence.{WithinLimits}

-- an array's elements
unfoldable forest_of : List Value.Value → Members
forest_of [] = Forest.none
forest_of (v ∷ vs) = node [] v (forest_of vs)

abbrev array_of : List Value.Value → Value.Value
array_of vs = record { label = Label.array; kids = forest_of vs }

-- The grammar.

blanks_derived : (w : Bytes) → all_blank w ≡ true → ws w
unfolding all_blank is_blank
blanks_derived [] h = ws.none
blanks_derived (b ∷ w) h =
    let (here, others) = both_true (is_blank b) (all_blank w) h in
    let rest = blanks_derived w others in
    either (eqb b 0x20) _ here (λ e. rw (eqb-true b 0x20 e) (ws.space rest)) λ i.
    either (eqb b 0x09) _ i (λ e. rw (eqb-true b 0x09 e) (ws.tab rest)) λ j.
    either (eqb b 0x0A) _ j (λ e. rw (eqb-true b 0x0A e) (ws.line_feed rest)) λ k.
    rw (eqb-true b 0x0D k) (ws.carriage_return rest)

around : (c : ℕ) (w w' : Bytes) → all_blank w ≡ true → all_blank w' ≡ true → structural c (w ++ (c ∷ w'))
around c w w' h i = structural.around (blanks_derived w h) (blanks_derived w' i)

-- a text that is a value alone is one by the grammar
alone_derived : {e : Bytes} {v : Value.Value} → Alone e v → Grammar.value e v
alone_derived {e} {v} a =
    let r = found (subst (Sound e end 0 (Means Grammar.value)) a (value-sound 32 e 0 0)) in
    subst (λ w. Grammar.value w v) (sym (whole r.from)) r.derived

record Derived (x : Bytes) (vs : List Value.Value) : Type 0 where
  text : Bytes
  ending : Bytes
  all : Grammar.elements text (forest_of vs)
  closed : Grammar.end_array ending
  is : x ≡ text ++ ending

regroup : (e w : Bytes) (c : ℕ) (w' t f : Bytes) → e ++ (w ++ (c ∷ (w' ++ (t ++ f)))) ≡ (e ++ ((w ++ (c ∷ w')) ++ t)) ++ f
regroup e w c w' t f = simp append_assoc

listed_derived : {x : Bytes} {es : List Bytes} {vs : List Value.Value} → Listed x es → Each Alone es vs → Derived x vs
unfolding forest_of
listed_derived (Layouts.last e w w' h i) (one a nothing) =
    record { text = e; ending = w ++ (code "]" ∷ w'); all = Grammar.last_element (alone_derived a); closed = around (code "]") w w' h i; is = refl }
listed_derived (Layouts.more e w w' rest others h i l) (one a n) =
    let r = listed_derived l n in
    record {
      text = e ++ ((w ++ (code "," ∷ w')) ++ r.text);
      ending = r.ending;
      all = Grammar.more-elements (alone_derived a) (around (code ",") w w' h i) r.all;
      closed = r.closed;
      is = ap (λ x. e ++ (w ++ (code "," ∷ (w' ++ x)))) r.is ∙ regroup e w (code ",") w' r.text r.ending;
    }

bracketed : (w : Bytes) (c : ℕ) (w' t f : Bytes) → ((w ++ (c ∷ w')) ++ (t ++ f)) ++ [] ≡ w ++ (c ∷ (w' ++ (t ++ f)))
bracketed w c w' t f = simp (append_assoc, append-nil)

layout_derived : {s : Bytes} {es : List Bytes} {vs : List Value.Value} → Layout s es → Each Alone es vs → JSON-text s (array_of vs)
unfolding forest_of all_blank
layout_derived (Layouts.empty w w' w'' h i j) nothing =
    let a = Grammar.of_array (Grammar.no-elements (around (code "[") w w' h i) (around (code "]") [] w'' refl j)) in
    subst (λ x. JSON-text x (array_of [])) (bracketed w (code "[") w' (code "]" ∷ []) w'') (JSON-text.text ws.none a ws.none)
layout_derived {vs = vs} (Layouts.filled w w' rest all h i l) n =
    let r = listed_derived l n in
    let a = Grammar.of_array (Grammar.with-elements (around (code "[") w w' h i) r.all r.closed) in
    let same = bracketed w (code "[") w' r.text r.ending ∙ ap (λ x. w ++ (code "[" ∷ (w' ++ x))) (sym r.is) in
    subst (λ x. JSON-text x (array_of vs)) same (JSON-text.text ws.none a ws.none)

-- The limits.

-- values that fit below an array, with this many nodes in all
data Fit : List Value.Value → ℕ → Type 0 where
  no_value : Fit [] 0
  value : {v : Value.Value} {vs : List Value.Value} {n : ℕ} → depth v ≤ 31 → Fits v.label v.kids → Everywhere v.kids → Fit vs n →
      Fit (v ∷ vs) (suc (size v.kids + n))

elements-fit : (f : Members) → depths f ≤ 31 → Everywhere f → Fit (elements f) (size f)
unfolding elements depths depth size nodes
elements-fit Forest.none h Everywhere.none_left = no_value
elements-fit (Forest.tree e kids rest) h (Everywhere.one_more fits below others) =
    value {v = record { label = e.label; kids = kids }} (omega arith) fits below (elements-fit rest (omega arith) others)

append_fit : {us vs : List Value.Value} {m n : ℕ} → Fit us m → Fit vs n → Fit (us ++ vs) (m + n)
append_fit {n = n} no_value k = let none : n ≡ 0 + n = omega arith in subst (Fit _) none k
append_fit {us} {vs} {n = n} (value {v} {n = m} d f b h) k =
    let sum : suc (size v.kids + (m + n)) ≡ suc (size v.kids + m) + n = omega arith in
    subst (Fit (us ++ vs)) sum (value d f b (append_fit h k))

record Whole (vs : List Value.Value) (n : ℕ) : Type 0 where
  shallow : depths (forest_of vs) ≤ 31
  total : size (forest_of vs) ≡ n
  below : Everywhere (forest_of vs)

forest_fits : {vs : List Value.Value} {n : ℕ} → Fit vs n → Whole vs n
unfolding forest_of depths depth size nodes
forest_fits no_value = record { shallow = omega arith; total = refl; below = Everywhere.none_left }
forest_fits (value {v} d f b h) =
    let r = forest_fits h in
    let s = r.shallow in
    let t = r.total in
    record { shallow = omega arith; total = omega arith; below = Everywhere.one_more f b r.below }

array-within : {vs : List Value.Value} {n : ℕ} → Fit vs n → suc n ≤ max_nodes → Limits.WithinLimits (array_of vs)
unfolding depth levels is_container tag nodes
array-within h few =
    let r = forest_fits h in
    let s = r.shallow in
    let t = r.total in
    record { shallow = omega arith; few = omega arith; fits = tt; below = r.below }

-- Operations.

forest_shaped : {vs : List Value.Value} {os : List Operation} (op : ℕ) → Meaning vs os → operations op (forest_of vs) ≡ finished os
unfolding forest_of operations at_op on_finish
forest_shaped op no_element = refl
forest_shaped op (element m k) = rw (m, forest_shaped (op + 1) k)

forest_count : {vs : List Value.Value} {os : List Operation} → Meaning vs os → count (forest_of vs) ≡ length os
unfolding forest_of count
forest_count no_element = refl
forest_count (element m k) = ap suc (forest_count k)

array-shaped : {vs : List Value.Value} {os : List Operation} → Meaning vs os → length os ≤ max_operations → shape (array_of vs) ≡ finished os
unfolding shape is_array tag
array-shaped {vs} {os} m h = rw (forest_count m, le-leb (length os) 256 h, forest_shaped 1 m)

append_meaning : {us vs : List Value.Value} {xs ys : List Operation} → Meaning us xs → Meaning vs ys → Meaning (us ++ vs) (xs ++ ys)
append_meaning no_element k = k
append_meaning (element m l) k = element m (append_meaning l k)

append_each : {es fs : List Bytes} {us vs : List Value.Value} → Each Alone es us → Each Alone fs vs → Each Alone (es ++ fs) (us ++ vs)
append_each nothing k = k
append_each (one a l) k = one a (append_each l k)

-- Put together.

array-depths : (v : Value.Value) → is_array v.label ≡ true → depth v ≤ 32 → depths v.kids ≤ 31
unfolding is_array depth levels is_container
array-depths v a h = let d : suc (depths v.kids) ≤ 32 = rw (eqb-true (tag v.label) 5 a) at h in omega arith

-- the elements of a well-formed patch fit
patch_fits : {P : Bytes} {os : List Operation} {es : List Bytes} (w : WellFormed P os) (e : ElementsOf P es) → Fit e.values (size w.patch.kids)
patch_fits {P} {os} w e =
    let within = ((exactness P w.patch).0 w.reads).1 in
    let array = (shaped w.patch os w.shaped).array in
    rw (elements-read w e) (elements-fit w.patch.kids (array-depths w.patch array within.shallow) within.below)

pub joined_formed : (first second joined : Bytes) (xs ys : List Operation) → WithinLimits first second joined xs ys → WellFormed joined (xs ++ ys)
unfolding nodes
joined_formed first second joined xs ys c =
    let a = c.join.first-elements in
    let b = c.join.second-elements in
    let derived = layout_derived c.join.joined-elements.layout (append_each a.alone b.alone) in
    let within = array-within (append_fit (patch_fits c.first_formed a) (patch_fits c.second_formed b)) (omega (arith, c.few)) in
    let meaning = append_meaning (elements-meaning c.first_formed a) (elements-meaning c.second_formed b) in
    record {
      fits = omega (arith, c.bytes);
      patch = array_of (a.values ++ b.values);
      reads = completeness joined (array_of (a.values ++ b.values)) derived within;
      shaped = array-shaped meaning (omega (arith, c.operations, length-append xs ys));
    }
