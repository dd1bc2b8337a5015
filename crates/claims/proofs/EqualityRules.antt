-- The rules of RFC 6902's equality, one by one, against the tests of `equal`.
use Rattle.std.specs.Prelude.{if◌then◌else◌}
use mathlib.Core.Path.{◌≡◌, refl, ap, sym, subst, ◌∙◌}
use mathlib.Core.Bool.{Bool, true, false, true≢false}
use Prim.Native.Nat.{ℕ}
use native.Mathlib.Omega.{arith}
use lib.Dec.{eqb}
use Rattle.spec.specs.Bytes.{Text}
use Rattle.spec.specs.Worth.{worth}
use Rattle.spec.specs.Forest.{count}
use Rattle.spec.specs.Value.{Label, Entry, Members, tag, is_number, is_object, content, has}
use Rattle.spec.specs.Equality.{same_worth}
use Rattle.spec.specs.Proper.{NumberText}
use Rattle.spec.specs.Proper as Proper
use Rattle.spec.specs.Proper.{Allows, ProperItems}
use Rattle.spec.specs.Distinct as Repeats
use Rattle.claims.specs.Equality.{EqualLabels, strings, numbers, falses, trues, nulls, arrays, objects, Has, here, there, EqualItems, no-elements}
use Rattle.spec.specs.Distinct.{NoRepeats}
use Rattle.claims.specs.Equality.{elements, no-members, members}
use Rattle.claims.proofs.LabelLaws.{SameLabels, is_object_same, same_refl, same_worth_true, same_worth_refl}
use Rattle.claims.proofs.NumbersTheorem as Numbers
use Rattle.spec.proofs.NameLaws.{Found, first, later, found_name, found_absent}
use Rattle.claims.proofs.Matching.{Matches, no_more, next, by_name, none_left}

-- Labels

-- a label by its tag and its text
label_of : ℕ → Text → Label
label_of n t =
    if eqb n 0 then Label.null_literal else
    if eqb n 1 then Label.true_literal else
    if eqb n 2 then Label.false_literal else
    if eqb n 3 then Label.number t else
    if eqb n 4 then Label.string t else
    if eqb n 5 then Label.array else Label.object

label_again : (l : Label) → l ≡ label_of (tag l) (content l)
unfolding label_of tag content
label_again Label.null_literal = refl
label_again Label.true_literal = refl
label_again Label.false_literal = refl
label_again (Label.number t) = refl
label_again (Label.string t) = refl
label_again Label.array = refl
label_again Label.object = refl

numeral : {l : Label} {kids : Members} → Allows l kids → tag l ≡ 3 → NumberText (content l)
unfolding tag content
numeral Proper.null_literal h = absurd (omega arith)
numeral Proper.true_literal h = absurd (omega arith)
numeral Proper.false_literal h = absurd (omega arith)
numeral (Proper.number n) h = n
numeral (Proper.string c) h = absurd (omega arith)
numeral Proper.array h = absurd (omega arith)
numeral Proper.object h = absurd (omega arith)

pub same_labels : {l m : Label} → EqualLabels l m → SameLabels l m
unfolding tag is_number content
same_labels strings = same_refl _
same_labels falses = same_refl _
same_labels trues = same_refl _
same_labels nulls = same_refl _
same_labels arrays = same_refl _
same_labels objects = same_refl _
same_labels (numbers {s} {t} {x} {y} v w h) =
    let same = same_worth_true (worth s) (worth t) (((Numbers.numbers).by_value s t x y v w).1 h) in
    record { tags = refl; worths = λ _. same; contents = λ n. absurd (true≢false n) }

pub equal_labels : {l m : Label} {kids below : Members} → Allows l kids → Allows m below → SameLabels l m → EqualLabels l m
unfolding tag is_number content label_of
equal_labels {m = m} a b s = go a (label_again m ∙ ap (λ n. label_of n (content m)) (sym s.tags)) s
  where
    go : {l : Label} {kids : Members} → Allows l kids → m ≡ label_of (tag l) (content m) → SameLabels l m → EqualLabels l m
    go Proper.null_literal e s = rw e nulls
    go Proper.true_literal e s = rw e trues
    go Proper.false_literal e s = rw e falses
    go (Proper.number {t} n) e s =
        let v = (Numbers.numbers).valued t n in
        let w = (Numbers.numbers).valued (content m) (numeral b (sym s.tags)) in
        let same : same_worth (worth t) (worth (content m)) ≡ true = rw (← s.worths refl) (same_worth_refl (worth t)) in
        subst (EqualLabels (Label.number t)) (sym e) (numbers v.1 w.1 (((Numbers.numbers).by_value t (content m) _ _ v.1 w.1).0 same))
    go (Proper.string {cs} c) e s =
        let same : m ≡ Label.string cs = e ∙ ap Label.string (sym (s.contents refl)) in
        subst (EqualLabels (Label.string cs)) (sym same) strings
    go Proper.array e s = rw e arrays
    go Proper.object e s = rw e objects

-- Items

found-has : {n : Text} {p : Entry} {below g : Members} → Found n p below g → Has p below g
found-has (first q) = here
found-has (later a f) = there (found-has f)

-- where no name is repeated, a member is the one that its name finds
has-found : {p : Entry} {below g : Members} → Has p below g → NoRepeats true g → Found p.name p below g
has-found here r = first refl
has-found {p} (there {e} {kids} {rest} h) (Repeats.member a k r) =
    let found = has-found h r in
    later (λ q. found_absent found (subst (λ n. has n rest ≡ false) q a)) found

has_repeats : {p : Entry} {below g : Members} → Has p below g → NoRepeats true g → NoRepeats (is_object p.label) below
has_repeats here (Repeats.member a k r) = k
has_repeats (there h) (Repeats.member a k r) = has_repeats h r

record Inside (p : Entry) (below : Members) : Type 0 where
  allows : Allows p.label below
  items : ProperItems (is_object p.label) below

has-inside : {p : Entry} {below g : Members} → Has p below g → ProperItems true g → Inside p below
has-inside here (Proper.member n h a k p) = record { allows = a; items = k }
has-inside (there i) (Proper.member n h a k p) = has-inside i p

pub matches_rules : {object : Bool} {f g : Members} → ProperItems object f → ProperItems object g → Matches object f g → (object ≡ false → count f ≡ count g) →
    EqualItems object f g
unfolding count
matches_rules {object = true} Proper.empty q no_more c = no-members
matches_rules {object = false} {g = g} Proper.empty q no_more c = rw (none_left g (c refl)) no-elements
matches_rules (Proper.element n a k p) (Proper.element n' a' k' p') (next s c' i o) c =
    let counts = c refl in
    elements (equal_labels a a' s) c' (matches_rules k (rw (← is_object_same s) at k') i (λ _. c')) (matches_rules p p' o (λ _. omega arith))
matches_rules (Proper.element n a k p) Proper.empty m c = elim m [ ]
matches_rules (Proper.member n h a k p) q (by_name f s c' i o) c =
    let x = has-inside (found-has f) q in
    members (found-has f) (sym (found_name f)) (equal_labels a x.allows s) c' (matches_rules k (rw (← is_object_same s) at x.items) i (λ _. c'))
    (matches_rules p q o (λ h. absurd (true≢false h)))

pub rules_match : {object : Bool} {f g : Members} → EqualItems object f g → NoRepeats object g → Matches object f g
rules_match no-elements r = no_more
rules_match (elements l c i o) (Repeats.element k r) =
    let s = same_labels l in
    next s c (rules_match i (rw (← is_object_same s) at k)) (rules_match o r)
rules_match no-members r = no_more
rules_match (members h n l c i o) r =
    let s = same_labels l in
    by_name (rw (← n) at (has-found h r)) s c (rules_match i (rw (← is_object_same s) at (has_repeats h r))) (rules_match o r)
