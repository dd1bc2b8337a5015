-- Origins are listed in the order of the values' first written bytes: specs/Order.
use Rattle.std.specs.Prelude.{if◌then◌else◌}
use mathlib.Core.Path.{◌≡◌, refl, ap, sym, subst, ◌∙◌}
use mathlib.Core.Bool.{Bool, true, false, not}
use mathlib.Core.List.{List, [], ◌∷◌, ◌++◌, map, append_assoc, append-nil}
use Prim.Native.Nat.{ℕ, ◌+◌, ◌≤◌, ◌<◌}
use native.Mathlib.Omega.{arith}
use lib.ListN.{length, length-append}
use lib.Dec.{leb, ltb, eqb}
use borrow.Author.Tests.{le-ltb}
use Rattle.spec.specs.Refusal.{done}
use Rattle.spec.specs.Limits.{max_bytes}
use Rattle.spec.specs.Bytes.{Bytes, ascii}
use Rattle.spec.specs.Forest.{none, tree}
use Rattle.spec.specs.Value as Plain
use Rattle.spec.specs.Value.{Label, is_object}
use Rattle.spec.specs.Write.{opening, closing, write_name, comma, write_items, write}
use Rattle.spec.specs.Read.{read}
use Rattle.spec.specs.Operation as PlainOperation
use Rattle.spec.specs.Operation.{Operation}
use Rattle.spec.specs.Patch as PlainPatch
use Rattle.spec.specs.Patch.{Run, finished, stopped, on_finish}
use Rattle.spec.specs.Answer.{Answer, Lent, success, refusal, work_suffices}
use Rattle.spec.specs.Region.{Accepted, WellFormed}
use Rattle.spec.specs.Proper.{Allows, ProperItems, Proper, Readable}
use Rattle.claims.proofs.Rest.{Rest, rest_more}
use Rattle.claims.proofs.ProperPatch.{proper_first, stopped≢finished}
use Rattle.claims.proofs.RoundTripTheorem.{round_trip}
use Rattle.tape.specs.Map.{map_forest}
use Rattle.origin.specs.Value as Value
use Rattle.origin.specs.Value.{Entry, Members, forget_members, forget, painted, origins_of, origins}
use Rattle.origin.specs.Operation.{limited}
use Rattle.origin.specs.Patch.{run}
use Rattle.origin.specs.Answer.{listed, unlisted, Lending, fitting, answer_of, applied, on_patch, on_document, answer}
use Rattle.origin.specs.Forgetting.{forgotten_run, listing}
use Rattle.origin.specs.Order.{values_of, values, InOrder, no_more, next, Traced, OrderStatement}
use Rattle.origin.proofs.ForgetLaws.{forget-painted}
use Rattle.origin.proofs.RunLaws.{forget-run}
use Rattle.origin.proofs.AnswerLaws.{answer_lists}

-- ---- the origins of the values
map_++ : {A B : Type 0} (f : A → B) (xs ys : List A) → map f (xs ++ ys) ≡ map f xs ++ map f ys
map_++ f [] ys = refl
map_++ f (x ∷ xs) ys = ap (λ zs. f x ∷ zs) (map_++ f xs ys)

of_members : (f : Members) → origins_of f ≡ map (λ x. x.origin) (values_of f)
unfolding origins_of values_of
of_members none = refl
of_members (tree e kids rest) =
    ap (λ xs. e.origin ∷ xs) (rw (of_members kids, of_members rest) (sym (map_++ (λ x. x.origin) (values_of kids) (values_of rest))))

-- ---- order
through : {a b c : ℕ} → a ≤ b → b ≤ c → a ≤ c
through l m = omega arith

module _ {s : Bytes} where
  order_++ : {a b c : ℕ} {xs ys : List Value.Value} → InOrder s a xs b → InOrder s b ys c → InOrder s a (xs ++ ys) c
  order_++ (no_more l) (no_more m) = no_more (through l m)
  order_++ (no_more l) (next m stands more) = next (through l m) stands more
  order_++ (next l stands more) q = next l stands (order_++ more q)

  order_wider : {a b c : ℕ} {xs : List Value.Value} → InOrder s a xs b → b ≤ c → InOrder s a xs c
  order_wider (no_more l) m = no_more (through l m)
  order_wider (next l stands more) m = next l stands (order_wider more m)

-- only a container has values in it, and then its opening bracket is before them
bracket : (l : Label) (e : Plain.Entry) (kids rest : Plain.Members) → Allows l (tree e kids rest) → 0 < length (opening l)
unfolding opening ascii
bracket Label.array e kids rest Allows.array = omega arith
bracket Label.object e kids rest Allows.object = omega arith
bracket Label.null_literal e kids rest m = elim m [ ]
bracket Label.true_literal e kids rest m = elim m [ ]
bracket Label.false_literal e kids rest m = elim m [ ]
bracket (Label.number _) e kids rest m = elim m [ ]
bracket (Label.string _) e kids rest m = elim m [ ]

-- the values in one whose text begins at a place
inner_ordered : {s : Bytes} (l : Label) (p end : ℕ) (kids : Members) → Allows l (forget_members kids) → p + length (opening l) + 1 ≤ end →
    (p + 1 ≤ p + length (opening l) → InOrder s (p + 1) (values_of kids) end) → InOrder s (p + 1) (values_of kids) end
unfolding values_of map_forest
inner_ordered l p end none allows low more = no_more {start = p + 1} {end = end} (omega arith)
inner_ordered l p end (tree e kids rest) allows low more =
    let some = bracket l (Value.forget_entry e) (forget_members kids) (forget_members rest) allows in
    more (omega arith)

-- the parts of a text, grouped
whole_first : (c n o k z r after : Bytes) → (c ++ n ++ o ++ k ++ z ++ r) ++ after ≡ c ++ (n ++ ((o ++ k ++ z) ++ (r ++ after)))
whole_first c n o k z r after = simp append_assoc

value-first : (o k z after : Bytes) → (o ++ k ++ z) ++ after ≡ o ++ (k ++ (z ++ after))
value-first o k z after = simp append_assoc

whole_length : (c n o k z r : Bytes) → length (c ++ n ++ o ++ k ++ z ++ r) ≡ length c + length n + length o + length k + length z + length r
whole_length c n o k z r = simp length-append

comma_short : (first : Bool) → length (comma first) ≤ 1
unfolding comma ascii
comma_short true = omega arith
comma_short false = omega arith

-- the values of a container, from the next one on, whose text with its comma and name begins at a place
items_ordered : (s : Bytes) (object first : Bool) (f : Members) (at start : ℕ) (after : Bytes) →
    Rest s at (write_items object first (forget_members f) ++ after) → ProperItems object (forget_members f) → start ≤ at + length (comma first) →
    InOrder s start (values_of f) (at + length (write_items object first (forget_members f)) + 1)
unfolding write_items write values_of map_forest comma ascii
items_ordered s object first none at start after r p low =
    no_more {start = start} {end = at + 0 + 1} (omega (arith, comma_short first))
items_ordered s object first (tree e kids rest) at start after r p low =
    let c = comma first in
    let n = write_name object e.name in
    let o = opening e.label in
    let k = write_items (is_object e.label) true (forget_members kids) in
    let z = closing e.label in
    let b = write_items object false (forget_members rest) in
    let (here, later) = proper_first p in
    let place = at + length c + length n in
    let value : Rest s place ((o ++ k ++ z) ++ (b ++ after)) = rest_more n (rest_more c (subst (Rest s at) (whole_first c n o k z b after) r)) in
    let inside : Rest s (place + length o) (k ++ (z ++ (b ++ after))) = rest_more o (subst (Rest s place) (value-first o k z (b ++ after)) value) in
    let behind : Rest s (place + length o + length k + length z) (b ++ after) = rest_more z (rest_more k inside) in
    let inner : InOrder s (place + 1) (values_of kids) (place + length o + length k + 1) =
    inner_ordered e.label place (place + length o + length k + 1) kids here.allows (omega arith)
    (λ some. items_ordered s (is_object e.label) true kids (place + length o) (place + 1) (z ++ (b ++ after)) inside here.items (omega arith)) in
    let others : InOrder s (place + length o + length k + 1) (values_of rest) (place + length o + length k + length z + length b + 1) =
    items_ordered s object false rest (place + length o + length k + length z) (place + length o + length k + 1) after behind later (omega arith) in
    let end : place + length o + length k + length z + length b + 1 ≡ at + length (c ++ n ++ o ++ k ++ z ++ b) + 1 =
    omega (arith, whole_length c n o k z b) in
    let starts : start ≤ place = omega arith in
    subst (InOrder s start (values_of (tree e kids rest))) end
    (next starts (record { after = b ++ after; is = value.is }) (order_++ inner others))

value-length : (o k z : Bytes) → length (o ++ k ++ z) ≡ length o + length k + length z
value-length o k z = simp length-append

value-ordered : (v : Value.Value) → Proper (forget v) → InOrder (write (forget v)) 0 (values v) (length (write (forget v)) + 1)
unfolding values write comma
value-ordered v p =
    let o = opening v.label in
    let k = write_items (is_object v.label) true (forget_members v.kids) in
    let z = closing v.label in
    let inside : Rest (o ++ k ++ z) (0 + length o) (k ++ z) = rest_more o (record { is = append_assoc o k z }) in
    let inner : InOrder (o ++ k ++ z) (0 + 1) (values_of v.kids) (0 + length o + length k + 1) =
    inner_ordered v.label 0 (0 + length o + length k + 1) v.kids p.allows (omega arith)
    (λ some. items_ordered (o ++ k ++ z) (is_object v.label) true v.kids (0 + length o) (0 + 1) z inside p.items (omega arith)) in
    let end : 0 + length o + length k + 1 ≤ length (o ++ k ++ z) + 1 = omega (arith, value-length o k z) in
    next {start = 0} {at = 0} (omega arith) (record { after = []; is = sym (append-nil (o ++ k ++ z)) }) (order_wider inner end)

-- ---- the call
-- a success with a list is a success of the plain call
listing-success : (list : ℕ) (os os' : List ℕ) (a : Answer) (text : Bytes) → listing list os' a ≡ listed (success text) os → a ≡ success text
unfolding listing
listing-success list os os' a text h = go (eqb a.number done) (leb (length os') list) h
  where
    go : (b c : Bool) → (if b then (if c then listed a os' else unlisted (refusal 16 0 0 0)) else unlisted a) ≡ listed (success text) os → a ≡ success text
    go true true h = ap (λ r. r.answer) h
    go true false h = absurd (let z : ◌≡◌ {A = ℕ} 16 0 = ap (λ r. r.answer.number) h in omega arith)
    go false c h = ap (λ r. r.answer) h

fitting-success : (room list : ℕ) (v : Value.Value) (text : Bytes) (os : List ℕ) → fitting room list v ≡ listed (success text) os →
    (text ≡ write (forget v)) × (os ≡ origins v)
unfolding fitting
fitting-success room list v text os h = go (leb (length (write (forget v))) room) (leb (length (origins v)) list) h
  where
    no : {A : Type 0} → unlisted (refusal 16 0 0 0) ≡ listed (success text) os → A
    no h = absurd (let z : ◌≡◌ {A = ℕ} 16 0 = ap (λ r. r.answer.number) h in omega arith)

    go : (b c : Bool) →
        (if b then (if c then listed (success (write (forget v))) (origins v) else unlisted (refusal 16 0 0 0)) else unlisted (refusal 16 0 0 0)) ≡
        listed (success text) os → (text ≡ write (forget v)) × (os ≡ origins v)
    go true true h = (sym (ap (λ r. r.answer.written) h), sym (ap (λ r. r.origins) h))
    go true false h = no h
    go false c h = no h

-- the run of a patch text on a document text, with enough work area
reads_as : (document patch : Bytes) (lent : Lending Lent) (d : Plain.Value) (os : List Operation) → work_suffices lent.call ≡ true → Accepted document d →
    WellFormed patch os → answer document patch lent ≡ answer_of lent.call.output lent.list (run limited 1 os (painted 0 d))
unfolding answer on_document on_patch applied on_finish
reads_as document patch lent d os work accepted formed =
    rw (work, le-ltb max_bytes _ accepted.fits, le-ltb max_bytes _ formed.fits, accepted.reads, formed.reads, formed.shaped)

work_there : (document patch text : Bytes) (lent : Lending Lent) (os : List ℕ) → answer document patch lent ≡ listed (success text) os →
    work_suffices lent.call ≡ true
unfolding answer
work_there document patch text lent os h = go (work_suffices lent.call) refl h
  where
    go : (b : Bool) → work_suffices lent.call ≡ b →
        (if not b then unlisted (refusal 1 0 0 0) else
        if ltb max_bytes (length document) then unlisted (refusal 2 1 0 0) else
        if ltb max_bytes (length patch) then unlisted (refusal 2 2 0 0) else on_document lent.call.output lent.list (read document) patch) ≡
        listed (success text) os → work_suffices lent.call ≡ true
    go true q h = q
    go false q h = absurd (let z : ◌≡◌ {A = ℕ} 1 0 = ap (λ r. r.answer.number) h in omega arith)

answer_traced : (document patch text : Bytes) (lent : Lending Lent) (os : List ℕ) → answer document patch lent ≡ listed (success text) os → Traced text os
unfolding answer_of forgotten_run
answer_traced document patch text lent os h =
    let lists = answer_lists document patch lent in
    let plain = listing-success lent.list os lists.origins _ text (sym lists.is ∙ h) in
    let p = round_trip.written document patch text lent.call plain in
    let d = p.before in
    let good : Readable p.after =
    round_trip.run_readable patch p.operations d p.after p.formed (round_trip.readable document d p.accepted.reads) p.runs in
    let here : answer_of lent.call.output lent.list (run limited 1 p.operations (painted 0 d)) ≡ listed (success text) os =
    sym (reads_as document patch lent d p.operations (work_there document patch text lent os h) p.accepted p.formed) ∙ h in
    let same : forgotten_run (run limited 1 p.operations (painted 0 d)) ≡ finished p.after =
    forget-run 1 p.operations (painted 0 d) ∙ ap (PlainPatch.run PlainOperation.limited 1 p.operations) (forget-painted 0 d) ∙ p.runs in
    go (run limited 1 p.operations (painted 0 d)) here p.after good same
  where
    go : (r : Run Value.Value) → answer_of lent.call.output lent.list r ≡ listed (success text) os → (w : Plain.Value) → Readable w →
        forgotten_run r ≡ finished w → Traced text os
    go (finished v) h w good same =
        let (is, list) = fitting-success lent.call.output lent.list v text os h in
        let value : w ≡ forget v = cc in
        record {
          value = v;
          written = is;
          listed = list;
          ordered = subst (λ t. InOrder t 0 (values v) (length t + 1)) (sym is) (value-ordered v (subst Proper value good.proper));
        }
    go (stopped s) h w good same = absurd (stopped≢finished same)

pub order : OrderStatement
unfolding origins values
order =
    record {
      of_values = λ v. ap (λ xs. v.origin ∷ xs) (of_members v.kids);
      ordered = value-ordered;
      traced = answer_traced;
    }
