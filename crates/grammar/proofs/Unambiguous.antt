-- Two derivations from one place of a text, each up to where it ends, have one meaning and one end.
use Prim.Native.Nat.{ℕ, ◌+◌}
use Prim.Native.Char.{code}
use mathlib.Core.Path.{◌≡◌, refl, ap, ap₂, subst, sym, ◌∙◌}
use mathlib.Core.Bool.{Bool, true, false}
use mathlib.Core.List.{[], ◌++◌}
use native.Mathlib.Omega.{arith}
use lib.ListN.{length}
use Rattle.spec.specs.Outcome.{Outcome, ok}
use Rattle.spec.specs.Bytes.{Bytes, Text, byte}
use Rattle.spec.specs.Strings as Strings
use Rattle.spec.specs.Forest as Forest
use Rattle.spec.specs.Value as Value
use Rattle.spec.specs.Value.{Label, Members, leaf, depth, levels, nodes}
use Rattle.spec.specs.Read as Read
use Rattle.spec.specs.Read.{blanks, container_label, closing_bracket}
use Rattle.grammar.specs.Grammar.{%x, ws, structural, e, number, string, node, value, object, members, member, array, elements, JSON-text}
use Rattle.grammar.specs.Grammar.{value_separator}
use Rattle.grammar.specs.Limits.{Fits, Everywhere}
use Rattle.grammar.proofs.Containers.{opening_bracket, container_of, comma_no_closing}
use Rattle.grammar.proofs.Places.{From, from_whole, split}
use Rattle.grammar.proofs.Complete.{Reads, reads, reads_it}
use Rattle.grammar.proofs.StringsComplete.{string-reads}
use Rattle.grammar.proofs.NumbersComplete.{Stops, number-begins}
use Rattle.grammar.proofs.Structural.{blanks_stay, blanks_skip, nothing_stops, ws-stops, Marked, opening_marked, closing_marked, comma_marked}
use Rattle.grammar.proofs.Structural.{colon_marked}
use Rattle.grammar.proofs.ReadComplete.{Asked, ValueRead, string-plain, number-plain, null_read, true_read, false_read, string-read, value-reads}
use Rattle.grammar.proofs.NumbersUnambiguous.{number_same}

-- Values: the reader has one outcome, so that two values of which one is within every limit are the same.

record Same (s : Bytes) (next next' : ℕ) {A : Type 0} (a a' : A) : Type 0 where
  meaning : a ≡ a'
  place : blanks s next ≡ blanks s next'

flip : {s : Bytes} {next next' : ℕ} {A : Type 0} {a a' : A} → Same s next next' a a' → Same s next' next a' a
flip r = record { meaning = sym r.meaning; place = sym r.place }

one_result : {X : Type 0} {asked : Type 0} {x y : X} {o : Outcome X} → o ≡ ok y → Reads x asked o → x ≡ y
one_result {x = x} {y = y} e reads = let same : x ≡ y = cc in same
one_result e (Reads.exceeds h n) = absurd (let z : ◌≡◌ {A = ℕ} 0 1 = cc in omega arith)

by_reader : {s : Bytes} {at next at' next' : ℕ} {v v' : Value.Value} → Asked 0 0 v → ValueRead s 0 0 at next v → ValueRead s 0 0 at' next' v' →
    blanks s at ≡ blanks s at' → Same s next next' v v'
by_reader {s} {v = v} {v' = v'} a r r' e =
    let same = one_result (ap (λ p. Read.value 0 s p 0) (sym e) ∙ reads_it r.outcome a) r'.outcome in
    record { meaning = sym (ap (λ x. x.0) same); place = sym r.after ∙ sym (ap (λ x. blanks s x.1) same) ∙ r'.after }

-- The grammar's productions of containers, arrays (false) and objects (true) alike.

data Between : Bool → Bytes → Members → Type 0 where
  of-elements : {w : Bytes} {f : Members} → elements w f → Between false w f
  of_members : {w : Bytes} {f : Members} → members w f → Between true w f

data Brackets (is_object : Bool) : Bytes → Members → Type 0 where
  empty : {b e : Bytes} → structural (opening_bracket is_object) b → structural (closing_bracket is_object) e → Brackets is_object (b ++ e) Forest.none
  filled : {b w e : Bytes} {f : Members} → structural (opening_bracket is_object) b → Between is_object w f → structural (closing_bracket is_object) e →
      Brackets is_object (b ++ (w ++ e)) f

array-brackets : {w : Bytes} {f : Members} → array w f → Brackets false w f
unfolding closing_bracket
array-brackets (array.no-elements b e) = empty b e
array-brackets (array.with-elements b d e) = filled b (of-elements d) e

object-brackets : {w : Bytes} {f : Members} → object w f → Brackets true w f
unfolding closing_bracket
object-brackets (object.no-members b e) = empty b e
object-brackets (object.with-members b d e) = filled b (of_members d) e

data Item : Bool → Bytes → Text → Value.Value → Type 0 where
  element : {w : Bytes} {v : Value.Value} → value w v → Item false w [] v
  pair : {w : Bytes} {name : Text} {v : Value.Value} → member w name v → Item true w name v

data Listed (is_object : Bool) : Bytes → Members → Type 0 where
  last : {w : Bytes} {name : Text} {v : Value.Value} → Item is_object w name v → Listed is_object w (node name v Forest.none)
  more_items : {w c rest : Bytes} {name : Text} {v : Value.Value} {f : Members} → Item is_object w name v → value_separator c →
      Between is_object rest f → Listed is_object (w ++ (c ++ rest)) (node name v f)

listed : {is_object : Bool} {w : Bytes} {f : Members} → Between is_object w f → Listed is_object w f
listed (of-elements (elements.last_element d)) = last (element d)
listed (of-elements (elements.more-elements d c r)) = more_items (element d) c (of-elements r)
listed (of_members (members.last-member d)) = last (pair d)
listed (of_members (members.more-members d c r)) = more_items (pair d) c (of_members r)

-- a value is within every limit, or is a number or a container
record Easy (w : Bytes) (v : Value.Value) : Type 0 where
  asked : Asked 0 0 v
  read_so : (s : Bytes) (at next : ℕ) → From s at w next → ValueRead s 0 0 at next v

data Shape : Bytes → Value.Value → Type 0 where
  easy : {w : Bytes} {v : Value.Value} → Easy w v → Shape w v
  is_number : {w : Bytes} → number w → Shape w (leaf (Label.number w))
  is_container_lem : {w : Bytes} {f : Members} (is_object : Bool) → Brackets is_object w f → Shape w (container_of is_object f)

easy_asked : (l : Label) → levels l 0 ≡ 0 → Fits l Forest.none → Asked 0 0 (leaf l)
unfolding depth Value.depths nodes Forest.size
easy_asked l e h = record { shallow = omega arith; few = omega arith; fits = h; below = Everywhere.none_left }

shape : {w : Bytes} {v : Value.Value} → value w v → Shape w v
unfolding levels Value.is_container Value.tag container_label
shape value.false_literal = easy (record { asked = easy_asked Label.false_literal refl tt; read_so = λ s at next f. false_read 0 0 f })
shape value.null_literal = easy (record { asked = easy_asked Label.null_literal refl tt; read_so = λ s at next f. null_read 0 0 f })
shape value.true_literal = easy (record { asked = easy_asked Label.true_literal refl tt; read_so = λ s at next f. true_read 0 0 f })
shape (value.of-string {cs = cs} d) = easy (record { asked = easy_asked (Label.string cs) refl tt; read_so = λ s at next f. string-read 0 0 d f })
shape (value.of_number d) = is_number d
shape (value.of_array d) = is_container_lem false (array-brackets d)
shape (value.of-object d) = is_container_lem true (object-brackets d)

-- bytes between two places, after which no number goes on
record Placed (s : Bytes) (at : ℕ) (w : Bytes) (next : ℕ) : Type 0 where
  from : From s at w next
  stops : Stops (byte s next)

-- what is shown of one derivation against any other from the same place
abbrev SameValue : Bytes → Value.Value → Type 0
SameValue w v =
    (s : Bytes) (at next at' next' : ℕ) (w' : Bytes)
    (v' : Value.Value) → blanks s at ≡ blanks s at' → Placed s at w next → value w' v' → Placed s at' w' next' → Same s next next' v v'

abbrev SameContainer : Bool → Bytes → Members → Type 0
SameContainer is_object w f =
    (s : Bytes) (at next at' next' : ℕ) (w' : Bytes)
    (f' : Members) → blanks s at ≡ blanks s at' → From s at w next → Brackets is_object w' f' → From s at' w' next' → Same s next next' f f'

abbrev SameItem : Bool → Bytes → Text → Value.Value → Type 0
SameItem is_object w name v =
    (s : Bytes) (at next at' next' : ℕ) (w' : Bytes) (name' : Text)
    (v' : Value.Value) → blanks s at ≡ blanks s at' → Placed s at w next → Item is_object w' name' v' → Placed s at' w' next' →
    Same s next next' {A = Text × Value.Value} (name, v) (name', v')

abbrev SameItems : Bool → Bytes → Members → Type 0
SameItems is_object w f =
    (s : Bytes) (at next at' next' : ℕ) (w' : Bytes) (f' : Members) → blanks s at ≡ blanks s at' → Placed s at w next → byte s
    (blanks s next) ≡ closing_bracket is_object →
    Between is_object w' f' → Placed s at' w' next' → byte s (blanks s next') ≡ closing_bracket is_object → Same s next next' f f'

easy_same : {w : Bytes} {v : Value.Value} → value w v → Asked 0 0 v → SameValue w v
easy_same d a s at next at' next' w' v' e p d' p' =
    by_reader a (value-reads d s at next p.from p.stops 0 0) (value-reads d' s at' next' p'.from p'.stops 0 0) e

bracket_mark : {is_object : Bool} {s w : Bytes} {f : Members} {at next : ℕ} → Brackets is_object w f → From s at w next →
    byte s (blanks s at) ≡ opening_bracket is_object
bracket_mark {is_object} (empty {b} {e} hb he) f = (opening_marked is_object hb (split b e f).0).mark
bracket_mark {is_object} (filled {b} {w} {e} hb d he) f = (opening_marked is_object hb (split b (w ++ e) f).0).mark

no-number-bracket : (is_object : Bool) {b : ℕ} → %x 0x2D 0x39 b → b ≡ opening_bracket is_object → ⊥
no-number-bracket false r e = omega arith
no-number-bracket true r e = omega arith

number_at : {s w : Bytes} {at next : ℕ} → number w → From s at w next → (blanks s at ≡ at) × %x 0x2D 0x39 (byte s (blanks s at))
number_at {s} {at = at} d f =
    let b = number-begins d f in
    let stay = blanks_stay s at (number-plain b).no_blank in
    (stay, rw stay b.range)

number-same_value : {w : Bytes} → number w → SameValue w (leaf (Label.number w))
number-same_value {w} d s at next at' next' w' v' e p d' p' = go (shape d') p'
  where
    go : {w' : Bytes} {v' : Value.Value} → Shape w' v' → Placed s at' w' next' → Same s next next' (leaf (Label.number w)) v'
    go (easy h) p' =
        flip (by_reader h.asked (h.read_so s at' next' p'.from) (value-reads (value.of_number d) s at next p.from p.stops 0 0) (sym e))
    go (is_number d') p' =
        let (stay, _) = number_at d p.from in
        let (stay', _) = number_at d' p'.from in
        let same_start : at' ≡ at = sym stay' ∙ sym e ∙ stay in
        let (bytes_same, End-same) = number_same d d' p.from (rw same_start at p'.from) p.stops p'.stops in
        record { meaning = ap (λ t. leaf (Label.number t)) bytes_same; place = ap (blanks s) End-same }
    go (is_container_lem is_object d') p' = absurd (no-number-bracket is_object (number_at d p.from).1 (ap (byte s) e ∙ bracket_mark d' p'.from))

one_bracket : (is_object isObject' : Bool) → opening_bracket is_object ≡ opening_bracket isObject' → is_object ≡ isObject'
one_bracket false false e = refl
one_bracket false true e = absurd (omega arith)
one_bracket true false e = absurd (omega arith)
one_bracket true true e = refl

container-same_value : (is_object : Bool) (w : Bytes) (f : Members) → value w (container_of is_object f) → Brackets is_object w f →
    SameContainer is_object w f → SameValue w (container_of is_object f)
container-same_value is_object w f d b ih s at next at' next' w' v' e p d' p' = go (shape d') p'
  where
    go : {w' : Bytes} {v' : Value.Value} → Shape w' v' → Placed s at' w' next' → Same s next next' (container_of is_object f) v'
    go (easy h) p' = flip (by_reader h.asked (h.read_so s at' next' p'.from) (value-reads d s at next p.from p.stops 0 0) (sym e))
    go (is_number d') p' = absurd (no-number-bracket is_object (number_at d' p'.from).1 (ap (byte s) (sym e) ∙ bracket_mark b p.from))
    go (is_container_lem {w = w'} {f = f'} isObject' b') p' =
        let same : isObject' ≡ is_object =
        one_bracket isObject' is_object (sym (bracket_mark b' p'.from) ∙ ap (byte s) (sym e) ∙ bracket_mark b p.from) in
        let r = ih s at next at' next' w' f' e p.from (subst (λ o. Brackets o w' f') same b') p'.from in
        record { meaning = ap₂ container_of (sym same) r.meaning; place = r.place }

-- the same character with the blanks around it
marked_same : {s : Bytes} {c at next at' next' : ℕ} → blanks s at ≡ blanks s at' → Marked s at c next → Marked s at' c next' →
    blanks s next ≡ blanks s next'
marked_same {s} e m m' = sym m.after ∙ ap (λ p. blanks s (p + 1)) e ∙ m'.after

-- the values of a container begin with no closing bracket
item_begins : {is_object : Bool} {s w : Bytes} {name : Text} {v : Value.Value} {at next : ℕ} → Item is_object w name v → Placed s at w next →
    byte s (blanks s at) ≡ closing_bracket is_object → ⊥
unfolding closing_bracket
item_begins {s = s} {at = at} {next = next} (element d) p e = (value-reads d s at next p.from p.stops 0 0).no_bracket e
item_begins {s = s} {at = at} (pair (member.pair {n} {c} {w} q h d)) p e =
    let (quote, plain) = string-plain q (split n (c ++ w) p.from).0 in
    let same : byte s at ≡ code "}" = sym (ap (byte s) (blanks_stay s at plain.no_blank)) ∙ e in
    omega arith

items_begin : {is_object : Bool} {s w : Bytes} {f : Members} {at next : ℕ} → Between is_object w f → Placed s at w next →
    byte s (blanks s at) ≡ closing_bracket is_object → ⊥
items_begin {is_object} {s} {at = at} {next = next} d p e = go (listed d) p
  where
    go : {w : Bytes} {f : Members} → Listed is_object w f → Placed s at w next → ⊥
    go (last i) p = item_begins i p e
    go (more_items {w} {c} {rest} i h r) p =
        let (g, j) = split w (c ++ rest) p.from in
        let (k, _) = split c rest j in
        item_begins i (record { from = g; stops = (comma_marked h k).stops }) e

-- a container by the places of its brackets
data Bracketed (is_object : Bool) (s : Bytes) (at next : ℕ) : Members → Type 0 where
  nothing_in : {mid : ℕ} → Marked s at (opening_bracket is_object) mid → Marked s mid (closing_bracket is_object) next →
      Bracketed is_object s at next Forest.none
  items_in : {w : Bytes} {f : Members} {mid stop : ℕ} → Marked s at (opening_bracket is_object) mid → Between is_object w f → Placed s mid w stop →
      Marked s stop (closing_bracket is_object) next → Bracketed is_object s at next f

bracketed : {is_object : Bool} {s w : Bytes} {f : Members} {at next : ℕ} → Brackets is_object w f → From s at w next → Bracketed is_object s at next f
bracketed {is_object} (empty {b} {e} hb he) from =
    let (g, h) = split b e from in
    nothing_in (opening_marked is_object hb g) (closing_marked is_object he h)
bracketed {is_object} (filled {b} {w} {e} hb d he) from =
    let (g, h) = split b (w ++ e) from in
    let (i, j) = split w e h in
    let m = closing_marked is_object he j in
    items_in (opening_marked is_object hb g) d (record { from = i; stops = m.stops }) m

-- an empty container against another, and one that is not empty
empty_same : (is_object : Bool) {s : Bytes} {at mid next at' next' : ℕ} {f' : Members} → blanks s at ≡ blanks s at' →
    Marked s at (opening_bracket is_object) mid → Marked s mid (closing_bracket is_object) next →
    Bracketed is_object s at' next' f' → Same s next next' {A = Members} Forest.none f'
empty_same is_object e m n (nothing_in m' n') = record { meaning = refl; place = marked_same (marked_same e m m') n n' }
empty_same is_object {s} e m n (items_in m' d' p' n') = absurd (items_begin d' p' (ap (byte s) (sym (marked_same e m m')) ∙ n.mark))

filled_same : (is_object : Bool) {s : Bytes} {at mid stop next at' next' : ℕ} (w : Bytes) (f : Members) {f' : Members} → SameItems is_object w f →
    blanks s at ≡ blanks s at' →
    Marked s at (opening_bracket is_object) mid → Between is_object w f → Placed s mid w stop → Marked s stop (closing_bracket is_object) next →
    Bracketed is_object s at' next' f' → Same s next next' {A = Members} f f'
filled_same is_object {s} w f ih e m d p n (nothing_in m' n') = absurd (items_begin d p (ap (byte s) (marked_same e m m') ∙ n'.mark))
filled_same is_object {s} w f ih e m d p n (items_in {w = w'} {f = f'} {mid = mid'} {stop = stop'} m' d' p' n') =
    let r = ih s _ _ mid' stop' w' f' (marked_same e m m') p n.mark d' p' n'.mark in
    record { meaning = r.meaning; place = marked_same r.place n n' }

-- the values of a container: one item against a list, by the places of its parts
data Parted (is_object : Bool) (s : Bytes) (at next : ℕ) : Members → Type 0 where
  last_at : {w : Bytes} {name : Text} {v : Value.Value} → Item is_object w name v → Placed s at w next →
      Parted is_object s at next (node name v Forest.none)
  more_at : {w rest : Bytes} {name : Text} {v : Value.Value} {f : Members} {mid after : ℕ} → Item is_object w name v → Placed s at w mid →
      Marked s mid (code ",") after →
      Between is_object rest f → Placed s after rest next → Parted is_object s at next (node name v f)

parted : {is_object : Bool} {s w : Bytes} {f : Members} {at next : ℕ} → Between is_object w f → Placed s at w next → Parted is_object s at next f
parted {is_object} {s} {at = at} {next = next} d p = go (listed d) p
  where
    go : {w : Bytes} {f : Members} → Listed is_object w f → Placed s at w next → Parted is_object s at next f
    go (last i) p = last_at i p
    go (more_items {w} {c} {rest} i h r) p =
        let (g, j) = split w (c ++ rest) p.from in
        let (k, l) = split c rest j in
        let m = comma_marked h k in
        more_at i (record { from = g; stops = m.stops }) m r (record { from = l; stops = p.stops })

last_same : (is_object : Bool) {s : Bytes} {at next at' next' : ℕ} (w : Bytes) (name : Text) (v : Value.Value) {f' : Members} →
    SameItem is_object w name v → blanks s at ≡ blanks s at' → Placed s at w next →
    byte s (blanks s next) ≡ closing_bracket is_object → Parted is_object s at' next' f' → Same s next next' {A = Members} (node name v Forest.none) f'
last_same is_object {s} w name v ih e p mark (last_at {w = w'} {name = name'} {v = v'} i' p') =
    let r = ih s _ _ _ _ w' name' v' e p i' p' in
    record { meaning = ap (λ x. node x.0 x.1 Forest.none) r.meaning; place = r.place }
last_same is_object {s} w name v ih e p mark (more_at {w = w'} {name = name'} {v = v'} i' p' m' d' q') =
    let r = ih s _ _ _ _ w' name' v' e p i' p' in
    absurd (comma_no_closing is_object (sym m'.mark ∙ ap (byte s) (sym r.place) ∙ mark))

more_same : (is_object : Bool) {s : Bytes} {at mid after next at' next' : ℕ} (w rest : Bytes) (name : Text) (v : Value.Value) (f : Members) {f' : Members} →
    SameItem is_object w name v → SameItems is_object rest f →
    blanks s at ≡ blanks s at' → Placed s at w mid → Marked s mid (code ",") after → Placed s after rest next →
    byte s (blanks s next) ≡ closing_bracket is_object →
    Parted is_object s at' next' f' → byte s (blanks s next') ≡ closing_bracket is_object → Same s next next' {A = Members} (node name v f) f'
more_same is_object {s} w rest name v f ih ih' e p m q mark (last_at {w = w'} {name = name'} {v = v'} i' p') mark' =
    let r = ih s _ _ _ _ w' name' v' e p i' p' in
    absurd (comma_no_closing is_object (sym m.mark ∙ ap (byte s) r.place ∙ mark'))
more_same is_object {s} w rest name v f ih ih' e p m q mark (more_at {w = w'} {rest = rest'} {name = name'} {v = v'} {f = f'} i' p' m' d' q') mark' =
    let r = ih s _ _ _ _ w' name' v' e p i' p' in
    let o = ih' s _ _ _ _ rest' f' (marked_same r.place m m') q mark d' q' mark' in
    record { meaning = ap₂ (λ x f. node x.0 x.1 f) r.meaning o.meaning; place = o.place }

element_same : (w : Bytes) (v : Value.Value) → SameValue w v → SameItem false w [] v
element_same w v ih s at next at' next' w' name' v' e p i' p' = go i' p'
  where
    go : {w' : Bytes} {name' : Text} {v' : Value.Value} → Item false w' name' v' → Placed s at' w' next' →
        Same s next next' {A = Text × Value.Value} ([], v) (name', v')
    go (element {w = w'} {v = v'} d') p' =
        let r = ih s at next at' next' w' v' e p d' p' in
        record { meaning = ap (λ v. ([], v)) r.meaning; place = r.place }

pair_same : {n c : Bytes} (w : Bytes) {name : Text} (v : Value.Value) → string n name → structural (code ":") c → SameValue w v →
    SameItem true (n ++ (c ++ w)) name v
pair_same {n} {c} w {name} v q h ih s at next at' next' w' name' v' e p i' p' = go i' p'
  where
    go : {w' : Bytes} {name' : Text} {v' : Value.Value} → Item true w' name' v' → Placed s at' w' next' →
        Same s next next' {A = Text × Value.Value} (name, v) (name', v')
    go (pair (member.pair {n = n'} {c = c'} {w = w'} {name = name'} {v = v'} q' h' d')) p' =
        let (fn, f) = split n (c ++ w) p.from in
        let (fc, fw) = split c w f in
        let (fn', f') = split n' (c' ++ w') p'.from in
        let (fc', fw') = split c' w' f' in
        let stay = blanks_stay s at (string-plain q fn).1.no_blank in
        let stay' = blanks_stay s at' (string-plain q' fn').1.no_blank in
        let start : at ≡ at' = sym stay ∙ e ∙ stay' in
        let same_name = one-string (sym (string-reads q fn) ∙ ap (Strings.string s) start ∙ string-reads q' fn') in
        let r =
        ih s _ next _ next' w' v' (marked_same (ap (blanks s) same_name.1) (colon_marked h fc) (colon_marked h' fc'))
        (record { from = fw; stops = p.stops }) d' (record { from = fw'; stops = p'.stops }) in
        record { meaning = ap₂ (λ n v. (n, v)) same_name.0 r.meaning; place = r.place }
      where
        one-string : {a a' : Text} {x x' : ℕ} → ◌≡◌ {A = Outcome (Text × ℕ)} (ok (a, x)) (ok (a', x')) → (a ≡ a') × (x ≡ x')
        one-string {a} {a'} {x} {x'} e = let same : ◌≡◌ {A = Text × ℕ} (a, x) (a', x') = cc in (ap (λ y. y.0) same, ap (λ y. y.1) same)

-- The induction on the first derivation.
value_same : {w : Bytes} {v : Value.Value} → value w v → SameValue w v
unfolding levels Value.is_container Value.tag container_label closing_bracket
value_same d =
    elim d as
    (λ w v _. SameValue w v) (λ w f _. SameContainer true w f) (λ w f _. SameItems true w f) (λ w name v _. SameItem true w name v)
    (λ w f _. SameContainer false w f) (λ w f _. SameItems false w f) [
      | value.false_literal ↦ easy_same value.false_literal (easy_asked Label.false_literal refl tt)
      | value.null_literal ↦ easy_same value.null_literal (easy_asked Label.null_literal refl tt)
      | value.true_literal ↦ easy_same value.true_literal (easy_asked Label.true_literal refl tt)
      | value.of-object {w} {f} (d → ih) ↦ container-same_value true w f (value.of-object d) (object-brackets d) ih
      | value.of_array {w} {f} (d → ih) ↦ container-same_value false w f (value.of_array d) (array-brackets d) ih
      | value.of_number d ↦ number-same_value d
      | value.of-string {cs = cs} d ↦ easy_same (value.of-string d) (easy_asked (Label.string cs) refl tt)
      | object.no-members {b} {e} hb he ↦ no_items true hb he
      | object.with-members {w = w} {f = f} hb (d → ih) he ↦ some_items true w f hb (of_members d) he ih
      | members.last-member {w} {name} {v} (_ → ih) ↦ last_item true w name v ih
      | members.more-members {w = w} {ws = ws} {name = name} {v = v} {f = f} (_ → ih) hc (_ → ih') ↦ more_items_same true w ws name v f ih hc ih'
      | member.pair {w = w} {v = v} q h (_ → ih) ↦ pair_same w v q h ih
      | array.no-elements {b} {e} hb he ↦ no_items false hb he
      | array.with-elements {w = w} {f = f} hb (d → ih) he ↦ some_items false w f hb (of-elements d) he ih
      | elements.last_element {w} {v} (_ → ih) ↦ last_item false w [] v (element_same w v ih)
      | elements.more-elements {w = w} {ws = ws} {v = v} {f = f} (_ → ih) hc (_ → ih') ↦ more_items_same false w ws [] v f
          (element_same w v ih) hc ih'
    ]
  where
    no_items : (is_object : Bool) {b e : Bytes} → structural (opening_bracket is_object) b → structural (closing_bracket is_object) e →
        SameContainer is_object (b ++ e) Forest.none
    no_items is_object {b} {e} hb he s at next at' next' w' f' same from d' from' =
        let (g, h) = split b e from in
        empty_same is_object same (opening_marked is_object hb g) (closing_marked is_object he h) (bracketed d' from')

    some_items : (is_object : Bool) {b e : Bytes} (w : Bytes) (f : Members) → structural (opening_bracket is_object) b → Between is_object w f →
        structural (closing_bracket is_object) e → SameItems is_object w f →
        SameContainer is_object (b ++ (w ++ e)) f
    some_items is_object {b} {e} w f hb d he ih s at next at' next' w' f' same from d' from' =
        let (g, h) = split b (w ++ e) from in
        let (i, j) = split w e h in
        let m = closing_marked is_object he j in
        filled_same is_object w f ih same (opening_marked is_object hb g) d (record { from = i; stops = m.stops }) m (bracketed d' from')

    last_item : (is_object : Bool) (w : Bytes) (name : Text) (v : Value.Value) → SameItem is_object w name v →
        SameItems is_object w (node name v Forest.none)
    last_item is_object w name v ih s at next at' next' w' f' same p mark d' p' mark' = last_same is_object w name v ih same p mark (parted d' p')

    more_items_same : (is_object : Bool) (w : Bytes) {c : Bytes} (rest : Bytes) (name : Text) (v : Value.Value) (f : Members) →
        SameItem is_object w name v → value_separator c → SameItems is_object rest f →
        SameItems is_object (w ++ (c ++ rest)) (node name v f)
    more_items_same is_object w {c} rest name v f ih hc ih' s at next at' next' w' f' same p mark d' p' mark' =
        let (g, h) = split w (c ++ rest) p.from in
        let (i, j) = split c rest h in
        let m = comma_marked hc i in
        more_same is_object w rest name v f ih ih' same (record { from = g; stops = m.stops }) m (record { from = j; stops = p.stops }) mark
        (parted d' p') mark'

-- two derivations of one text
text_same : {t t' : Bytes} {v v' : Value.Value} (s : Bytes) → JSON-text t v → From s 0 t (length s) → JSON-text t' v' → From s 0 t' (length s) →
    v ≡ v'
text_same s (JSON-text.text {before = b} {w = w} {after = a} hb d ha) f (JSON-text.text {before = b'} {w = w'} {after = a'} {v = v'} hb' d' ha') f' =
    let (g, h) = split b (w ++ a) f in
    let (i, j) = split w a h in
    let (g', h') = split b' (w' ++ a') f' in
    let (i', j') = split w' a' h' in
    let stop = nothing_stops s {at = length s} (omega arith) in
    (value_same d s _ _ _ _ w' v' (sym (blanks_skip hb g) ∙ blanks_skip hb' g') (record { from = i; stops = ws-stops ha j stop }) d'
    (record { from = i'; stops = ws-stops ha' j' stop })).meaning

pub one_meaning : {s : Bytes} {v v' : Value.Value} → JSON-text s v → JSON-text s v' → v ≡ v'
one_meaning {s} d d' = text_same s d (from_whole s) d' (from_whole s)
