-- The elements of a text that is read as an array: where each begins and ends, that the text is laid out in them, and that each is alone the
-- value that it is in the array.
use Rattle.std.specs.Prelude.{if◌then◌else◌}
use mathlib.Core.Path.{◌≡◌, refl, ap, ap₂, subst, sym, ◌∙◌}
use mathlib.Core.Bool.{Bool, true, false, ◌||◌, true≢false}
use mathlib.Core.List.{List, [], ◌∷◌, ◌++◌, append_assoc, append-nil}
use Prim.Native.Nat.{ℕ, zero, suc, ◌+◌, ◌-◌, ◌<◌, ◌≤◌}
use Prim.Native.Char.{code}
use native.Mathlib.Nat.{zero-add}
use native.Mathlib.Decide.{dec_lt}
use native.Mathlib.Numerals.{add-one}
use native.Mathlib.Omega.{arith}
use lib.ListN.{take-append-drop, length, take, drop, length-take, length-drop}
use lib.Seq.{drop-length, drop-cons, get_or-take, get_or-drop, take-take, drop-drop}
use lib.Dec.{eqb, leb}
use borrow.Author.Tests.{eqb-true, leb-true}
use Rattle.spec.specs.Outcome.{Outcome, ok, refused, ◌>>=◌}
use Rattle.spec.specs.Bytes.{Bytes, byte, byte_in, within}
use Rattle.spec.specs.Numbers.{is_digit}
use Rattle.spec.specs.Limits.{max_depth}
use Rattle.spec.specs.Forest.{none, tree, single, size, ◌⧺◌}
use Rattle.spec.specs.Value as Value
use Rattle.spec.specs.Value.{Label, Members, named, tag, is_array, is_container, depth, levels}
use Rattle.spec.specs.Read.{is_blank, blanks_from, blanks, room_for, name_for, container_label, closing_bracket, items, contents, container, scalar, value}
use Rattle.spec.specs.Read.{read}
use Rattle.spec.specs.Elements.{Alone, Each, nothing, one, all_blank, Listed, last, more, Layout, empty, filled}
use Rattle.spec.proofs.ListLaws.{drop-take}
use Rattle.spec.proofs.OutcomeLaws.{refused≢ok, both_ok, first_ok, second_ok}
use Rattle.spec.proofs.TextLaws.{both_true}
use Rattle.spec.proofs.ReadLaws.{scalar-depth}
use Rattle.spec.proofs.Tracking.{landed, got, past_end, nothing_ends, Cut, Tracks, place, pair}
use Rattle.spec.proofs.ReadersTrack.{passed, blanks_tracks, items_tracks, value-tracks}

-- the bytes from one place up to another
unfoldable pub part : Bytes → ℕ → ℕ → Bytes
part s from to = take (to - from) (drop from s)

-- the place after the value that begins at a place
unfoldable pub place_after : Bytes → ℕ → ℕ
place_after s at = elim (value max_depth s at 0) [ ok read ↦ read.1 | refused number place ↦ at ]

-- the elements from the one that begins at a place on: its bytes, and after a comma those of the others
unfoldable pub slices_from : ℕ → Bytes → ℕ → List Bytes
slices_from zero s at = []
slices_from (suc fuel) s at =
    let next = place_after s at in
    let others = slices_from fuel s (blanks s (blanks s next + 1)) in
    part s at next ∷ (if eqb (byte s (blanks s next)) (code ",") then others else [])

-- the elements of a text that is an array
unfoldable pub slices : Bytes → List Bytes
slices s =
    let first = blanks s (blanks s 0 + 1) in
    if eqb (byte s first) (code "]") then [] else slices_from (length s) s first

-- the elements as they are read
unfoldable pub elements : Members → List Value.Value
elements none = []
elements (tree e kids rest) = record { label = e.label; kids = kids } ∷ elements rest

-- a text that is laid out in texts, and their values
pub record Laid (s : Bytes) (es : List Bytes) (vs : List Value.Value) : Type 0 where
  pub layout : Layout s es
  pub alone : Each Alone es vs

-- the part of a text is cut out of it
part_length : (s : Bytes) (at next : ℕ) → next ≤ length s → length (part s at next) ≡ next - at
unfolding part
part_length s at next m = omega (arith, length-take (next - at) (drop at s), length-drop at s)

part_cut : (s : Bytes) (at next : ℕ) → at ≤ next → next ≤ length s → Cut s (part s at next) at (next - at)
unfolding part byte
part_cut s at next l m =
    record {
      inside = λ p h. get_or-take (next - at) (drop at s) p 0 h ∙ get_or-drop at s p 0;
      ends = rw (past_end (part s at next) {at = next - at} (omega (arith, part_length s at next m))) nothing_ends;
      whole = omega (arith, length-take (next - at) (drop at s), length-drop at s);
      part = λ p q h. ap (take (q - p)) (drop-take p (next - at) (drop at s))
          ∙ take-take (q - p) (next - at - p) (drop p (drop at s)) (omega arith) ∙ ap (take (q - p)) (drop-drop p at s);
    }

-- a text is cut out of itself, and the empty one out of every text
whole_cut : (s : Bytes) → Cut s s 0 (length s)
unfolding byte
whole_cut s =
    record { inside = λ p h. rw zero-add; ends = rw (past_end s {at = length s} (omega arith)) nothing_ends; whole = omega arith; part = λ p q h. rw zero-add }

empty_cut : (s : Bytes) → Cut s [] 0 0
unfolding byte
empty_cut s =
    record { inside = λ p h. absurd (omega arith); ends = nothing_ends; whole = omega arith; part = λ p q h. let none : q - p ≡ 0 = omega arith in rw none }

-- A reader takes only bytes from its place on.
grows : {A : Type 0} {low next : ℕ} {o o' : Outcome (A × ℕ)} {a : A} → Tracks true 0 1 pair low o o' → o ≡ ok (a, next) → low ≤ next
grows {next = next} {a = a} f h =
    let r = f.track (a, next) h in
    let r-from = r.from in
    let same_place = landed r in
    omega arith

pub blanks_grow : (s : Bytes) (at : ℕ) → at ≤ blanks s at
blanks_grow s at =
    let r = (blanks_tracks true (empty_cut s) (record { is = sym (zero-add at) })).track (blanks s at) refl in
    let r-from = r.from in
    let r-is = r.is in
    omega arith

pub value_grows : (left : ℕ) (s : Bytes) (at nodes : ℕ) {v : Value.Value} {next : ℕ} → value left s at nodes ≡ ok (v, next) → at < next
value_grows left s at nodes h =
    grows (value-tracks true (empty_cut s) left left (λ h. omega arith) nodes nodes at at (λ h. omega arith) (record { is = sym (zero-add at) })) h

pub items_grow : (fuel : ℕ) (s : Bytes) (nodes : ℕ) (so_far : Members) (at : ℕ) {kids : Members} {next : ℕ} →
    items fuel (value 31 s) false s nodes so_far at ≡ ok (kids, next) → at < next
items_grow fuel s nodes so_far at h =
    grows
    (items_tracks true (empty_cut s) false (value 31 s) (value 31 []) (value-tracks true (empty_cut s) 31 31 (λ h. omega arith)) nodes nodes
    (λ h. omega arith) fuel 0 so_far (record { is = sym (zero-add at) }) (omega arith))
    h

-- a value that is read at a place is the value that its own bytes alone are
value-alone : (left : ℕ) (s : Bytes) (at nodes : ℕ) {v : Value.Value} {next : ℕ} → left ≤ 32
    → next ≤ length s → value left s at nodes ≡ ok (v, next) → Alone (part s at next) v
value-alone left s at nodes {v} {next} l m h =
    let grown = value_grows left s at nodes h in
    let cut = part_cut s at next (omega arith) m in
    let r = (value-tracks true cut left 32 (λ h. l) nodes 0 at 0 (λ h. omega arith) (record { is = omega arith })).track (v, next) h in
    let same_place = landed r in
    let end : r.q ≡ length (part s at next) = omega (arith, part_length s at next m) in
    r.gives (omega arith) ∙ ap₂ (λ v place. ok (v, place)) (sym (got r)) end

-- and the place after it is the same, however many values are before it
pub value-place : (left : ℕ) (s : Bytes) (at nodes : ℕ) {v : Value.Value} {next : ℕ}
    → left ≤ 32 → next ≤ length s → value left s at nodes ≡ ok (v, next) → place_after s at ≡ next
unfolding place_after
value-place left s at nodes {v} {next} l m h =
    let r = (value-tracks true (whole_cut s) left 32 (λ h. l) nodes 0 at at (λ h. omega arith) (record { is = sym (zero-add at) })).track (v, next) h in
    let same_place = landed r in
    rw (r.gives (omega arith), place_after) (omega arith)

elements-append : (f : Members) (name : Bytes) (v : Value.Value) → elements (f ⧺ single (named name v)) ≡ elements f ++ (v ∷ [])
unfolding elements ◌⧺◌
elements-append none name v = refl
elements-append (tree e kids rest) name v = ap (λ vs. record { label = e.label; kids = kids } ∷ vs) (elements-append rest name v)

-- a byte and what follows it
taken : (s : Bytes) (at b : ℕ) → byte s at ≡ b → at < length s → drop at s ≡ b ∷ drop (at + 1) s
unfolding byte
taken s at b e l = rw (← e, add-one, drop-cons s at 0)

part_taken : (s : Bytes) (at next : ℕ) → at ≤ next → drop at s ≡ part s at next ++ drop next s
unfolding part
part_taken s at next l =
    let place : at + (next - at) ≡ next = omega arith in
    sym (take-append-drop (next - at) (drop at s)) ∙ ap (λ x. part s at next ++ x) (drop-drop (next - at) at s ∙ ap (λ x. drop x s) place)

-- the blanks from a place on, and what follows them
record Skipped (s : Bytes) (at next : ℕ) : Type 0 where
  skipped : Bytes
  blank : all_blank skipped ≡ true
  around : drop at s ≡ skipped ++ drop next s

blanks_skipped : (fuel : ℕ) (s : Bytes) (at : ℕ) → Skipped s at (blanks_from fuel s at)
unfolding blanks_from all_blank is_blank
blanks_skipped zero s at = record { skipped = []; blank = refl; around = refl }
blanks_skipped (suc fuel) s at = go (is_blank (byte s at)) refl (dec_lt at (length s)) (blanks_skipped fuel s (at + 1))
  where
    go : (c : Bool) → is_blank (byte s at) ≡ c → Dec (at < length s)
        → Skipped s (at + 1) (blanks_from fuel s (at + 1)) → Skipped s at (if c then blanks_from fuel s (at + 1) else at)
    go true e (yes l) r =
        record { skipped = byte s at ∷ r.skipped; blank = rw (e, r.blank); around = taken s at (byte s at) refl l ∙ ap (λ x. byte s at ∷ x) r.around }
    go true e (no l) r = absurd (true≢false (sym e ∙ ap is_blank (past_end s (omega arith))))
    go false e d r = record { skipped = []; blank = refl; around = refl }

-- the elements from a place on
record Found (fuel : ℕ) (s : Bytes) (at : ℕ) (so_far kids : Members) : Type 0 where
  others : List Value.Value
  all : elements kids ≡ elements so_far ++ others
  each : Each Alone (slices_from fuel s at) others
  laid : Listed (drop at s) (slices_from fuel s at)

skip : (s : Bytes) (at : ℕ) → Skipped s at (blanks s at)
unfolding blanks
skip s at = blanks_skipped (length s) s at

pub slices_last : (fuel : ℕ) (s : Bytes) (at : ℕ) {next : ℕ} → place_after s at ≡ next
    → byte s (blanks s next) ≡ code "]" → slices_from (suc fuel) s at ≡ part s at next ∷ []
unfolding slices_from
slices_last fuel s at e f = rw (e, f)

pub slices_more : (fuel : ℕ) (s : Bytes) (at : ℕ) {next : ℕ} → place_after s at ≡ next → byte s (blanks s next) ≡ code "," →
    slices_from (suc fuel) s at ≡ part s at next ∷ slices_from fuel s (blanks s (blanks s next + 1))
unfolding slices_from
slices_more fuel s at e f = rw (e, f)

pub comma : (s : Bytes) (at b : ℕ) → byte_in s at (code ",") (code ",") ≡ ok b → byte s at ≡ code ","
unfolding byte_in within
comma s at b h =
    let (low, high) = both_true (leb (code ",") (byte s at)) (leb (byte s at) (code ",")) (passed at (byte s at) _ h).0 in
    let l = leb-true (code ",") (byte s at) low in
    let m = leb-true (byte s at) (code ",") high in
    omega arith

items-found : (fuel : ℕ) (s : Bytes) (nodes : ℕ) (so_far : Members) (at : ℕ) {kids : Members} {next : ℕ} → next ≤ length s → all_blank (drop next s) ≡ true →
    items fuel (value 31 s) false s nodes so_far at ≡ ok (kids, next) → Found fuel s at so_far kids
unfolding items name_for closing_bracket ◌>>=◌
items-found zero s nodes so_far at l t h = absurd (refused≢ok h)
items-found (suc fuel) s nodes so_far at {kids} {next} l t h =
    let (read-v, e, i) = both_ok (value 31 s at (nodes + size so_far)) _ _ h in
    go read-v.0 read-v.1 e (eqb (byte s (blanks s read-v.1)) (code "]")) refl i
    (items-found fuel s nodes (so_far ⧺ single (named [] read-v.0)) (blanks s (blanks s read-v.1 + 1)) l t)
  where
    go : (v : Value.Value) (mid : ℕ) → value 31 s at (nodes + size so_far) ≡ ok (v, mid) → (c : Bool) → eqb (byte s (blanks s mid)) (code "]") ≡ c →
        (if c then ok (so_far ⧺ single (named [] v), blanks s mid + 1) else
        (byte_in s (blanks s mid) (code ",") (code ",")
        >>= λ _. items fuel (value 31 s) false s nodes (so_far ⧺ single (named [] v)) (blanks s (blanks s mid + 1)))) ≡ ok
        (kids, next) →
        (items fuel (value 31 s) false s nodes (so_far ⧺ single (named [] v)) (blanks s (blanks s mid + 1)) ≡ ok (kids, next) →
        Found fuel s (blanks s (blanks s mid + 1)) (so_far ⧺ single (named [] v)) kids) →
        Found (suc fuel) s at so_far kids
    go v mid e true closed i ih =
        let same_place = second_ok i in
        let same-kids = first_ok i in
        let grown = value_grows 31 s at (nodes + size so_far) e in
        let skipped = blanks_grow s mid in
        let bracket = eqb-true (byte s (blanks s mid)) (code "]") closed in
        let found = slices_last fuel s at (value-place 31 s at (nodes + size so_far) (omega arith) (omega arith) e) bracket in
        record {
          others = v ∷ [];
          all = rw (← same-kids) (elements-append so_far [] v);
          each = rw found (one (value-alone 31 s at (nodes + size so_far) (omega arith) (omega arith) e) nothing);
          laid = rw (found, part_taken s at mid (omega arith), (skip s mid).around, taken s (blanks s mid) (code "]") bracket (omega arith), same_place)
              (last (part s at mid) (skip s mid).skipped (drop next s) (skip s mid).blank t);
        }
    go v mid e false open' i ih =
        let (b, f, j) = both_ok (byte_in s (blanks s mid) (code ",") (code ",")) _ _ i in
        let rest = ih j in
        let grown = value_grows 31 s at (nodes + size so_far) e in
        let skipped = blanks_grow s mid in
        let skipped-again = blanks_grow s (blanks s mid + 1) in
        let rest-grown = items_grow fuel s nodes (so_far ⧺ single (named [] v)) (blanks s (blanks s mid + 1)) j in
        let separated = comma s (blanks s mid) b f in
        let found = slices_more fuel s at (value-place 31 s at (nodes + size so_far) (omega arith) (omega arith) e) separated in
        record {
          others = v ∷ rest.others;
          all = rest.all ∙ ap (λ vs. vs ++ rest.others) (elements-append so_far [] v) ∙ append_assoc (elements so_far) (v ∷ []) rest.others;
          each = rw found (one (value-alone 31 s at (nodes + size so_far) (omega arith) (omega arith) e) rest.each);
          laid = rw (
            found,
            part_taken s at mid (omega arith),
            (skip s mid).around,
            taken s (blanks s mid) (code ",") separated (omega arith),
            (skip s (blanks s mid + 1)).around,
          )
              (more (part s at mid) (skip s mid).skipped (skip s (blanks s mid + 1)).skipped
              (drop (blanks s (blanks s mid + 1)) s) _ (skip s mid).blank (skip s (blanks s mid + 1)).blank rest.laid);
        }

not-object : (l : Label) → container_label true ≡ l → is_array l ≡ true → ⊥
unfolding is_array tag container_label
not-object l e a = true≢false (sym a ∙ ap is_array (sym e))

container-contents : (value : ℕ → ℕ → Outcome (Value.Value × ℕ)) (object : Bool) (s : Bytes) (at nodes : ℕ) (v : Value.Value) (next : ℕ) →
    container value object s at nodes ≡ ok (v, next) → (container_label object ≡ v.label) × (contents value object s (nodes + 1) (at + 1) ≡ ok (v.kids, next))
unfolding container
container-contents value object s at nodes v next h =
    let (_, _, i) = both_ok (room_for nodes at) _ _ h in
    let (kids-next, e, j) = both_ok (contents value object s (nodes + 1) (at + 1)) _ _ i in
    (ap (λ w. w.label) (first_ok j), e ∙ ap₂ (λ k n. ok (k, n)) (ap (λ w. w.kids) (first_ok j)) (second_ok j))

-- an array has a level, and so is no scalar
array-depth : (v : Value.Value) → is_array v.label ≡ true → 0 < depth v
unfolding is_array depth levels is_container
array-depth v a = rw (eqb-true (tag v.label) 5 a) (omega arith)

-- an array is read as its bracket and its elements
array-contents : (left : ℕ) (s : Bytes) (at nodes : ℕ) (v : Value.Value) (next : ℕ) → value (suc left) s at nodes ≡ ok (v, next) → is_array v.label ≡ true →
    (byte s at ≡ code "[") × (contents (value left s) false s (nodes + 1) (at + 1) ≡ ok (v.kids, next))
unfolding value
array-contents left s at nodes v next h a = go (eqb (byte s at) (code "[")) refl (eqb (byte s at) (code "{")) h
  where
    inside : (object : Bool) → container (value left s) object s at nodes ≡ ok (v, next) →
        (container_label object ≡ v.label) × (contents (value left s) object s (nodes + 1) (at + 1) ≡ ok (v.kids, next))
    inside object h = container-contents (value left s) object s at nodes v next h

    go : (b : Bool) → eqb (byte s at) (code "[") ≡ b → (c : Bool) →
        (if b then container (value left s) false s at nodes else if c then container (value left s) true s at nodes else scalar s at nodes) ≡ ok (v, next) →
        (byte s at ≡ code "[") × (contents (value left s) false s (nodes + 1) (at + 1) ≡ ok (v.kids, next))
    go true e c h = (eqb-true (byte s at) (code "[") e, (inside false h).1)
    go false e true h = absurd (not-object v.label (inside true h).0 a)
    go false e false h = absurd (omega (arith, array-depth v a, scalar-depth s at nodes v next h))

-- a text that is an array
pub record ArrayRead (s : Bytes) (v : Value.Value) : Type 0 where
  pub next : ℕ
  pub bracket : byte s (blanks s 0) ≡ code "["
  pub kids : contents (value 31 s) false s (0 + 1) (blanks s 0 + 1) ≡ ok (v.kids, next)
  pub end : blanks s next ≡ length s

pub array-read : (s : Bytes) (v : Value.Value) → read s ≡ ok v → is_array v.label ≡ true → ArrayRead s v
unfolding read
array-read s v h a =
    let (read-v, e, i) = both_ok (value 32 s (blanks s 0) 0) _ _ h in
    go read-v.0 read-v.1 e (eqb (blanks s read-v.1) (length s)) refl i
  where
    go : (w : Value.Value) (next : ℕ) → value 32 s (blanks s 0) 0 ≡ ok (w, next) → (c : Bool)
        → eqb (blanks s next) (length s) ≡ c → (if c then ok w else refused 3 (blanks s next)) ≡ ok v → ArrayRead s v
    go w next e true ended i =
        let same : w ≡ v = cc in
        let (bracket, kids) = array-contents 31 s (blanks s 0) 0 v next (e ∙ ap (λ x. ok (x, next)) same) a in
        record { next = next; bracket = bracket; kids = kids; end = eqb-true (blanks s next) (length s) ended }
    go w next e false ended i = absurd (refused≢ok i)

pub slices_none : (s : Bytes) → byte s (blanks s (blanks s 0 + 1)) ≡ code "]" → slices s ≡ []
unfolding slices
slices_none s e = rw e

pub slices_some : (s : Bytes) → eqb (byte s (blanks s (blanks s 0 + 1))) (code "]") ≡ false → slices s ≡ slices_from (length s) s (blanks s (blanks s 0 + 1))
unfolding slices
slices_some s e = rw e

slices_found : (s : Bytes) (v : Value.Value) (next : ℕ)
    → contents (value 31 s) false s (0 + 1) (blanks s 0 + 1) ≡ ok (v.kids, next) → byte s (blanks s 0) ≡ code "[" →
    next ≤ length s → all_blank (drop next s) ≡ true → Laid s (slices s) (elements v.kids)
unfolding contents closing_bracket elements
slices_found s v next h bracket l t = go (eqb (byte s first) (code "]")) refl h
  where
    first : ℕ
    first = blanks s (blanks s 0 + 1)

    w : Bytes
    w = (skip s 0).skipped

    w' : Bytes
    w' = (skip s (blanks s 0 + 1)).skipped

    opened : blanks s 0 < length s → s ≡ w ++ (code "[" ∷ (w' ++ drop first s))
    opened m = (skip s 0).around ∙ ap (λ x. w ++ x) (taken s (blanks s 0) (code "[") bracket m ∙ ap (λ x. code "[" ∷ x) (skip s (blanks s 0 + 1)).around)

    go : (c : Bool) → eqb (byte s first) (code "]") ≡ c
        → (if c then ok (none, first + 1) else items (length s) (value 31 s) false s (0 + 1) none first) ≡ ok (v.kids, next)
        → Laid s (slices s) (elements v.kids)
    go true closed i =
        let grown = blanks_grow s (blanks s 0 + 1) in
        let same_place = second_ok i in
        let bracket' = eqb-true (byte s first) (code "]") closed in
        let whole = opened (omega arith)
        ∙ ap (λ x. w ++ (code "[" ∷ (w' ++ x))) (taken s first (code "]") bracket' (omega arith) ∙ ap (λ x. code "]" ∷ drop x s) same_place) in
        record {
          alone = rw (slices_none s bracket', ← first_ok i) nothing;
          layout = rw (slices_none s bracket')
              (subst (λ x. Layout x []) (sym whole) (empty w w' (drop next s) (skip s 0).blank (skip s (blanks s 0 + 1)).blank t));
        }
    go false filled' i =
        let found = items-found (length s) s (0 + 1) none first l t i in
        let grown = blanks_grow s (blanks s 0 + 1) in
        let items-grown = items_grow (length s) s (0 + 1) none first i in
        record {
          alone = rw (slices_some s filled', found.all) found.each;
          layout = rw (slices_some s filled')
              (subst (λ x. Layout x (slices_from (length s) s first)) (sym (opened (omega arith)))
              (filled w w' (drop first s) _ (skip s 0).blank (skip s (blanks s 0 + 1)).blank found.laid));
        }

-- The elements of a text that is an array are laid out in it, and each is alone the value that it is in the array.
pub slices_read : {s : Bytes} {v : Value.Value} → read s ≡ ok v → is_array v.label ≡ true → Laid s (slices s) (elements v.kids)
slices_read {s} {v} h a =
    let r = array-read s v h a in
    let gap = skip s r.next in
    let grown = blanks_grow s r.next in
    let end = r.end in
    let tail : drop r.next s ≡ gap.skipped = gap.around ∙ ap (λ x. gap.skipped ++ drop x s) end
    ∙ ap (λ x. gap.skipped ++ x) (drop-length s) ∙ append-nil _ in
    slices_found s v r.next r.kids r.bracket (omega arith) (rw tail gap.blank)

-- no value begins with a blank
module _ (left : ℕ) (s : Bytes) (at nodes : ℕ) where
  space_refused : byte s at ≡ 32 → value (suc left) s at nodes ≡ refused 3 at
  unfolding value scalar is_digit within
  space_refused e = rw (e, value)

  tab_refused : byte s at ≡ 9 → value (suc left) s at nodes ≡ refused 3 at
  unfolding value scalar is_digit within
  tab_refused e = rw (e, value)

  line_refused : byte s at ≡ 10 → value (suc left) s at nodes ≡ refused 3 at
  unfolding value scalar is_digit within
  line_refused e = rw (e, value)

  return_refused : byte s at ≡ 13 → value (suc left) s at nodes ≡ refused 3 at
  unfolding value scalar is_digit within
  return_refused e = rw (e, value)

  pub bracket_refused : byte s at ≡ code "]" → value (suc left) s at nodes ≡ refused 3 at
  unfolding value scalar is_digit within
  bracket_refused e = rw (e, value)

  pub blank_refused : is_blank (byte s at) ≡ true → value (suc left) s at nodes ≡ refused 3 at
  unfolding is_blank
  blank_refused h = go (eqb (byte s at) 32) refl (eqb (byte s at) 9) refl (eqb (byte s at) 10) refl (eqb (byte s at) 13) refl h
    where
      go : (a : Bool) → eqb (byte s at) 32 ≡ a → (b : Bool) → eqb (byte s at) 9 ≡ b
          → (c : Bool) → eqb (byte s at) 10 ≡ c → (d : Bool) → eqb (byte s at) 13 ≡ d →
          (a || (b || (c || d))) ≡ true → value (suc left) s at nodes ≡ refused 3 at
      go true e b f c g d i h = space_refused (eqb-true _ _ e)
      go false e true f c g d i h = tab_refused (eqb-true _ _ f)
      go false e false f true g d i h = line_refused (eqb-true _ _ g)
      go false e false f false g true i h = return_refused (eqb-true _ _ i)
      go false e false f false g false i h = absurd (true≢false (sym h))
