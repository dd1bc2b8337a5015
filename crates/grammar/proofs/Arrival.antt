-- The reader comes to every place where a value may begin, unless it refuses something before. Two texts begin with the same bytes: c, in
-- which nothing is refused but by 3, and s. What the reader finds within the limits in c it finds in s.
use Rattle.std.specs.Prelude.{if◌then◌else◌}
use Prim.Native.Nat.{ℕ, zero, suc, ◌+◌, ◌<◌, ◌≤◌}
use Prim.Native.Char.{code}
use mathlib.Core.Path.{◌≡◌, refl, ap, subst, sym, ◌∙◌}
use mathlib.Core.Bool.{Bool, true, false}
use mathlib.Core.List.{[], ◌++◌}
use native.Mathlib.Omega.{arith}
use lib.ListN.{length}
use lib.Dec.{eqb, ltb}
use borrow.Author.Tests.{ne_eqb, ltb-true}
use Rattle.spec.specs.Outcome.{Outcome, ok, refused, ◌>>=◌}
use Rattle.spec.specs.Refusal.{not_json, too_deep, too_many_nodes}
use Rattle.spec.specs.Limits.{max_depth, max_nodes}
use Rattle.spec.specs.Bytes.{Bytes, Text, byte, byte_in}
use Rattle.spec.specs.Forest as Forest
use Rattle.spec.specs.Forest.{size, single, ◌⧺◌}
use Rattle.spec.specs.Value as Value
use Rattle.spec.specs.Value.{Members, named}
use Rattle.spec.specs.Read as Read
use Rattle.spec.specs.Read.{blanks, room_for, name_for, closing_bracket, items, contents, container, read}
use Rattle.spec.proofs.OutcomeLaws.{refused≢ok, >>=_assoc}
use Rattle.grammar.specs.Grammar.{structural, begin_object, string, name_separator, value_separator, value, members, member, elements}
use Rattle.grammar.specs.RefusedAt.{BeforeValue, outermost, first_element, next_element, first_member, next-member}
use Rattle.grammar.proofs.Places.{From, split, first, inside}
use Rattle.grammar.proofs.Containers.{opening_bracket, comma_no_closing}
use Rattle.grammar.proofs.Members.{⧺_assoc}
use Rattle.grammar.proofs.Complete.{Reads, reads, exceeds, reads_it}
use Rattle.grammar.proofs.Structural.{blanks_stay, blanks_skip, Marked, opening_marked, comma_marked, colon_marked}
use Rattle.grammar.proofs.NumbersComplete.{Stops}
use Rattle.grammar.proofs.StringsComplete.{byte_in_reads}
use Rattle.grammar.proofs.ReadComplete.{ItemRead, string-plain, room_reads, value-deep, value-container, in_blanks, element_read, member-read}
use Rattle.grammar.proofs.ReadComplete.{name_reads, value-reads}
use Rattle.grammar.proofs.Within.{Yields, yielded, Bounded, value-within, New, name_for_new}

-- a container that does not close at once
contents-items : (reader : ℕ → ℕ → Outcome (Value.Value × ℕ)) (is_object : Bool) (t : Bytes) (values at mid : ℕ) → blanks t at ≡ blanks t mid →
    (byte t (blanks t mid) ≡ closing_bracket is_object → ⊥) →
    contents reader is_object t values at ≡ items (length t) reader is_object t values Forest.none (blanks t mid)
unfolding contents
contents-items reader is_object t values at mid after goes = rw (after, ne_eqb (byte t (blanks t mid)) (closing_bracket is_object) goes)

-- a value of a container, and the comma after it
past_comma : {X : Type 0} (is_object : Bool) (t : Bytes) (end next mid : ℕ) (closed : Outcome X) (g : ℕ → Outcome X) → blanks t end ≡ blanks t next →
    Marked t next (code ",") mid →
    (if eqb (byte t (blanks t end)) (closing_bracket is_object)
    then closed else (byte_in t (blanks t end) (code ",") (code ",") >>= λ _. g (blanks t (blanks t end + 1)))) ≡ g
    (blanks t mid)
unfolding ◌>>=◌
past_comma is_object t end next mid closed g after m =
    rw (
      after,
      m.mark,
      ne_eqb (code ",") (closing_bracket is_object) (comma_no_closing is_object),
      byte_in_reads t (blanks t next) (code ",") (code ",") m.mark (omega arith) (omega arith),
      m.after,
    )

module _ (c s : Bytes) (never : (number q : ℕ) → read c ≡ refused number q → number ≡ not_json) where
  -- the reader comes to the one outcome on c, and to the other on s, and goes on from there
  pub record Comes {X : Type 0} (o o' : Outcome X) : Type 0 where
    pub next : X → Outcome Value.Value
    pub next' : X → Outcome Value.Value
    pub cut : read c ≡ o >>= next
    pub full : read s ≡ o' >>= next'

  -- a step that is derived: on c it is read, so it is within the limits, so on s it is read too
  both : {X Y : Type 0} {A : Type 0} {x x' : X} {o o' : Outcome X} (g g' : X → Outcome Y) → Reads x A o → Reads x' A o' → (o ≡ ok x → A) →
      Comes (o >>= g) (o' >>= g') → Comes (g x) (g' x')
  unfolding ◌>>=◌
  both g g' reads r asked k =
      record { next = k.next; next' = k.next'; cut = k.cut; full = k.full ∙ ap (λ o. (o >>= g') >>= k.next') (reads_it r (asked refl)) }
  both g g' (exceeds h n) r asked k = absurd (h (never _ _ k.cut))

  -- the first of two steps
  pub first_step : {X Y : Type 0} {o o' : Outcome X} (g g' : X → Outcome Y) → Comes (o >>= g) (o' >>= g') → Comes o o'
  first_step {o = o} {o' = o'} g g' k =
      record {
        next = λ x. g x >>= k.next;
        next' = λ x. g' x >>= k.next';
        cut = k.cut ∙ >>=_assoc o g k.next;
        full = k.full ∙ >>=_assoc o' g' k.next';
      }

  pub same : {X : Type 0} {o o' p p' : Outcome X} → o ≡ p → o' ≡ p' → Comes o o' → Comes p p'
  same e e' k = rw (← e, ← e') k

  -- a value, at a place after the same bytes
  abbrev pub Arrived : ℕ → ℕ → ℕ → Type 0
  Arrived at left values = Comes (Read.value left c (blanks c at) values) (Read.value left s (blanks s at) values)

  -- an item of an open container
  pub record Items (is_object : Bool) (at left values : ℕ) (so_far : Members) : Type 0 where
    pub fuel : ℕ
    pub fuel' : ℕ
    pub enough : length c < fuel + at
    pub enough' : length s < fuel' + at
    pub comes : Comes (items fuel (Read.value left c) is_object c (values + 1) so_far (blanks c at))
        (items fuel' (Read.value left s) is_object s (values + 1) so_far (blanks s at))

  -- the same bytes in both
  abbrev pub On : Bytes → ℕ → ℕ → Type 0
  On w at next = From c at w next × From s at w next

  pub split_on : {at next : ℕ} (w w' : Bytes) → On (w ++ w') at next → On w at (at + length w) × On w' (at + length w) next
  split_on w w' f = let (a, b) = split w w' f.0 in let (a', b') = split w w' f.1 in ((a, a'), (b, b'))

  -- Into a container

  pub room_there : {X : Type 0} (values at at' : ℕ) {o o' : Outcome X} → Comes (room_for values at >>= λ _. o) (room_for values at' >>= λ _. o') → Comes o o'
  unfolding room_for
  room_there values at at' {o} {o'} k =
      both (λ _. o) (λ _. o') (room_reads values at (λ l. l)) (room_reads values at' (λ l. l)) (few (ltb values max_nodes) refl) k
    where
      few : (b : Bool) → ltb values max_nodes ≡ b → (if b then ok at else refused too_many_nodes at) ≡ ok at → values < max_nodes
      few true h e = ltb-true values max_nodes h
      few false h e = absurd (refused≢ok e)

  -- no bracket that closes the container stands after the blanks
  abbrev pub Open : Bool → ℕ → Type 0
  Open is_object at = (byte c (blanks c at) ≡ closing_bracket is_object → ⊥) × (byte s (blanks s at) ≡ closing_bracket is_object → ⊥)

  -- in a container, after its items so far
  pub record Inside (is_object : Bool) (at levels values : ℕ) (so_far : Members) : Type 0 where
    pub left : ℕ
    pub sum : left + (levels + 1) ≡ max_depth
    pub items : Items is_object at left values so_far

  enter : (is_object : Bool) {b : Bytes} {at mid levels values : ℕ} (left : ℕ) → left + levels ≡ max_depth → structural (opening_bracket is_object) b →
      On b at mid → Open is_object mid → Arrived at left values → Inside is_object mid levels values Forest.none
  unfolding ◌>>=◌ container
  enter is_object {at = at} {values = values} zero sum o f goes k =
      let m = opening_marked is_object o f.0 in
      let deep : too_deep ≡ not_json = never too_deep (blanks c at) (k.cut ∙ ap (λ o. o >>= k.next) (value-deep is_object c (blanks c at) values m.mark)) in
      absurd (omega arith)
  enter is_object {at = at} {mid = mid} {values = values} (suc left) sum o f goes k =
      let m = opening_marked is_object o f.0 in
      let m' = opening_marked is_object o f.1 in
      let inner = room_there values _ _
      (same (value-container is_object left c (blanks c at) values m.mark) (value-container is_object left s (blanks s at) values m'.mark) k) in
      let grows = m.grows in
      record {
        left = left;
        sum = omega arith;
        items = record {
          fuel = length c;
          fuel' = length s;
          enough = omega arith;
          enough' = omega arith;
          comes = same (contents-items _ is_object c (values + 1) _ mid m.after goes.0)
              (contents-items _ is_object s (values + 1) _ mid m'.after goes.1) (first_step _ _ inner);
        };
      }

  -- Past an item and the comma after it

  pass : {is_object : Bool} {at next mid left values : ℕ} {so_far : Members} {name : Text} {v : Value.Value} →
      ItemRead is_object c left (values + 1) so_far at next name v → ItemRead is_object s left (values + 1) so_far at next name v → at ≤ next →
      Marked c next (code ",") mid → Marked s next (code ",") mid → Items is_object at left values so_far →
      Items is_object mid left values (so_far ⧺ single (named name v))
  unfolding items
  pass {is_object} {at} {next} {mid} {left} {values} {so_far} {name} {v} r r' l m m' i = go i.fuel i.fuel' i.enough i.enough' i.comes
    where
      go : (fuel fuel' : ℕ) → length c < fuel + at → length s < fuel' + at →
          Comes (items fuel (Read.value left c) is_object c (values + 1) so_far (blanks c at))
          (items fuel' (Read.value left s) is_object s (values + 1) so_far (blanks s at)) →
          Items is_object mid left values (so_far ⧺ single (named name v))
      go zero fuel' e e' k = absurd (omega (arith, in_blanks c next m.mark (omega arith)))
      go (suc fuel) zero e e' k = absurd (omega (arith, in_blanks s next m'.mark (omega arith)))
      go (suc fuel) (suc fuel') e e' k =
          let grows = m.grows in
          let named_so = both _ _ r.named_so r'.named_so
          (λ e. yielded (subst (Yields (New is_object so_far)) e (name_for_new is_object c so_far (blanks c at)))) k in
          let valued = both _ _ r.valued r'.valued
          (λ e. yielded (subst (Yields (Bounded left (values + 1 + size so_far))) e (value-within left c r.mid (values + 1 + size so_far)))) named_so in
          let all = so_far ⧺ single (named name v) in
          record {
            fuel = fuel;
            fuel' = fuel';
            enough = omega arith;
            enough' = omega arith;
            comes = same
                (past_comma is_object c r.end next mid (ok (all, blanks c r.end + 1))
                (items fuel (Read.value left c) is_object c (values + 1) all) r.after m)
                (past_comma is_object s r'.end next mid (ok (all, blanks s r'.end + 1))
                (items fuel' (Read.value left s) is_object s (values + 1) all) r'.after m')
                valued;
          }

  pass_element : {w : Bytes} {at next mid left values : ℕ} {so_far : Members} {v : Value.Value} → value w v → On w at next →
      Marked c next (code ",") mid → Marked s next (code ",") mid → Items false at left values so_far →
      Items false mid left values (so_far ⧺ single (named [] v))
  pass_element d f m m' i =
      let far = f.0.far in
      pass (element_read _ (value-reads d c _ _ f.0 m.stops _)) (element_read _ (value-reads d s _ _ f.1 m'.stops _)) (omega arith) m m' i

  pass-member : {w : Bytes} {at next mid left values : ℕ} {so_far : Members} {name : Text} {v : Value.Value} → member w name v → On w at next →
      Marked c next (code ",") mid → Marked s next (code ",") mid → Items true at left values so_far →
      Items true mid left values (so_far ⧺ single (named name v))
  pass-member (member.pair {n} {c = colon} {w} q h d) f m m' i =
      let far = f.0.far in
      let (name, g) = split_on n (colon ++ w) f in
      let (sep, val) = split_on colon w g in
      pass (member-read _ q name.0 (colon_marked h sep.0) (value-reads d c _ _ val.0 m.stops _))
      (member-read _ q name.1 (colon_marked h sep.1) (value-reads d s _ _ val.1 m'.stops _)) (omega arith) m m' i

  -- the elements, or members, before one
  elements-pass : {es : Bytes} {at next mid left values : ℕ} {so_far f : Members} → elements es f → On es at next → Marked c next (code ",") mid →
      Marked s next (code ",") mid → Items false at left values so_far → Items false mid left values (so_far ⧺ f)
  unfolding ◌⧺◌
  elements-pass (elements.last_element d) f m m' i = pass_element d f m m' i
  elements-pass {mid = mid} {left = left} {values = values} {so_far = so_far}
      (elements.more-elements {w} {c = comma} {ws} {v = v} {f = others} d q rest) f m m' i =
      let (g, h) = split_on w (comma ++ ws) f in
      let (p, j) = split_on comma ws h in
      subst (Items false mid left values) (⧺_assoc so_far (single (named [] v)) others)
      (elements-pass rest j m m' (pass_element d g (comma_marked q p.0) (comma_marked q p.1) i))

  members-pass : {ms : Bytes} {at next mid left values : ℕ} {so_far f : Members} → members ms f → On ms at next → Marked c next (code ",") mid →
      Marked s next (code ",") mid → Items true at left values so_far → Items true mid left values (so_far ⧺ f)
  unfolding ◌⧺◌
  members-pass (members.last-member d) f m m' i = pass-member d f m m' i
  members-pass {mid = mid} {left = left} {values = values} {so_far = so_far}
      (members.more-members {w} {c = comma} {ws} {name = name} {v = v} {f = others} d q rest) f m m' i =
      let (g, h) = split_on w (comma ++ ws) f in
      let (p, j) = split_on comma ws h in
      subst (Items true mid left values) (⧺_assoc so_far (single (named name v)) others)
      (members-pass rest j m m' (pass-member d g (comma_marked q p.0) (comma_marked q p.1) i))

  -- To the next value in a container

  -- the fuel does not run out in the text
  record Running (is_object : Bool) (at left values : ℕ) (so_far : Members) : Type 0 where
    fuel : ℕ
    fuel' : ℕ
    comes : Comes (items (suc fuel) (Read.value left c) is_object c (values + 1) so_far (blanks c at))
        (items (suc fuel') (Read.value left s) is_object s (values + 1) so_far (blanks s at))

  running : {is_object : Bool} {at left values : ℕ} {so_far : Members} → (at ≤ length c) × (at ≤ length s) → Items is_object at left values so_far →
      Running is_object at left values so_far
  running {is_object} {at} {left} {values} {so_far} l i = go i.fuel i.fuel' i.enough i.enough' i.comes
    where
      go : (fuel fuel' : ℕ) → length c < fuel + at → length s < fuel' + at →
          Comes (items fuel (Read.value left c) is_object c (values + 1) so_far (blanks c at))
          (items fuel' (Read.value left s) is_object s (values + 1) so_far (blanks s at)) →
          Running is_object at left values so_far
      go zero fuel' e e' k = absurd (omega arith)
      go (suc fuel) zero e e' k = absurd (omega arith)
      go (suc fuel) (suc fuel') e e' k = record { fuel = fuel; fuel' = fuel'; comes = k }

  to_element : {at left values : ℕ} {so_far : Members} → (at ≤ length c) × (at ≤ length s) → Items false at left values so_far →
      Arrived at left (values + 1 + size so_far)
  unfolding items name_for ◌>>=◌
  to_element l i = first_step _ _ (running l i).comes

  pub to_name : {at left values : ℕ} {so_far : Members} → (at ≤ length c) × (at ≤ length s) → Items true at left values so_far →
      Comes (name_for true c so_far (blanks c at)) (name_for true s so_far (blanks s at))
  unfolding items
  to_name l i = first_step _ _ (running l i).comes

  name_inside : {n : Bytes} {at next : ℕ} {name : Text} → string n name → On n at next → (at ≤ length c) × (at ≤ length s)
  name_inside (string.quoted d) f = let (_, _, l) = first f.0 in let (_, _, l') = first f.1 in (omega arith, omega arith)

  past_name : {n d : Bytes} {at p q left values : ℕ} {so_far : Members} {name : Text} → string n name → name_separator d → On n at p → On d p q →
      Items true at left values so_far → Arrived q left (values + 1 + size so_far)
  unfolding items
  past_name {at = at} {so_far = so_far} r h f g i =
      first_step _ _ (both _ _ (name_reads so_far r f.0 (colon_marked h g.0)) (name_reads so_far r f.1 (colon_marked h g.1))
      (λ e. yielded (subst (Yields (New true so_far)) e (name_for_new true c so_far (blanks c at)))) (running (name_inside r f) i).comes)

  -- The bytes before a value are passed.

  -- no closing bracket stands after the blanks
  pub record GoesOn (at : ℕ) : Type 0 where
    pub array : Open false at
    pub object : Open true at

  pub record Arrival (at levels values : ℕ) : Type 0 where
    pub left : ℕ
    pub sum : left + levels ≡ max_depth
    pub arrived : Arrived at left values

  at_first : Arrived 0 max_depth 0
  unfolding read
  at_first = record { next = _; next' = _; cut = refl; full = refl }

  within_both : {w : Bytes} {at : ℕ} → On w 0 at → (at ≤ length c) × (at ≤ length s)
  within_both f = (inside f.0 (omega arith), inside f.1 (omega arith))

  -- an opening bracket closes nothing
  brackets_differ : (is_object isObject' : Bool) → opening_bracket is_object ≡ closing_bracket isObject' → ⊥
  unfolding closing_bracket
  brackets_differ false false e = omega arith
  brackets_differ false true e = omega arith
  brackets_differ true false e = omega arith
  brackets_differ true true e = omega arith

  pub opening_goes_on : (is_object : Bool) {b : Bytes} {at mid : ℕ} → structural (opening_bracket is_object) b → On b at mid → GoesOn at
  opening_goes_on is_object o f =
      let m = (opening_marked is_object o f.0).mark in
      let m' = (opening_marked is_object o f.1).mark in
      record {
        array = (λ e. brackets_differ is_object false (sym m ∙ e), λ e. brackets_differ is_object false (sym m' ∙ e));
        object = (λ e. brackets_differ is_object true (sym m ∙ e), λ e. brackets_differ is_object true (sym m' ∙ e));
      }

  -- nor does what an element or a member begins with
  at_quote : (t : Bytes) {n : Bytes} {at next : ℕ} {name : Text} → string n name → From t at n next → byte t (blanks t at) ≡ code "}" → ⊥
  at_quote t {at = at} q f e =
      let (quote, plain) = string-plain q f in
      let there : byte t (blanks t at) ≡ 0x22 = ap (byte t) (blanks_stay t at plain.no_blank) ∙ quote in
      omega arith

  name_open : {n : Bytes} {at next : ℕ} {name : Text} → string n name → On n at next → Open true at
  unfolding closing_bracket
  name_open q f = (at_quote c q f.0, at_quote s q f.1)

  value-open : {w : Bytes} {at next : ℕ} {v : Value.Value} → value w v → On w at next → Stops (byte c next) → Stops (byte s next) → Open false at
  unfolding closing_bracket
  value-open d f stop stop' = ((value-reads d c _ _ f.0 stop 0 0).no_bracket, (value-reads d s _ _ f.1 stop' 0 0).no_bracket)

  elements-open : {es : Bytes} {at next mid : ℕ} {f : Members} → elements es f → On es at next → Marked c next (code ",") mid →
      Marked s next (code ",") mid → Open false at
  elements-open (elements.last_element d) f m m' = value-open d f m.stops m'.stops
  elements-open (elements.more-elements {w} {c = comma} {ws} d q rest) f m m' =
      let (g, h) = split_on w (comma ++ ws) f in
      let (p, _) = split_on comma ws h in
      value-open d g (comma_marked q p.0).stops (comma_marked q p.1).stops

  member-open : {w : Bytes} {at next : ℕ} {name : Text} {v : Value.Value} → member w name v → On w at next → Open true at
  member-open (member.pair {n} {c = colon} {w} q h d) f = name_open q (split_on n (colon ++ w) f).0

  members-open : {ms : Bytes} {at next : ℕ} {f : Members} → members ms f → On ms at next → Open true at
  members-open (members.last-member d) f = member-open d f
  members-open (members.more-members {w} {c = comma} {ws} d q rest) f = member-open d (split_on w (comma ++ ws) f).0

  -- an object's members before one
  pub in-object : {b ms d : Bytes} {f : Members} {at mid next end levels values : ℕ}
      → begin_object b → members ms f → value_separator d → On b at mid → On ms mid next →
      On d next end → Arrival at levels values → Inside true end levels values f
  unfolding ◌⧺◌
  in-object o listed q opens between separator r =
      let i = enter true r.left r.sum o opens (members-open listed between) r.arrived in
      record { left = i.left; sum = i.sum; items = members-pass listed between (comma_marked q separator.0) (comma_marked q separator.1) i.items }

  pub arrive : {w : Bytes} {levels values : ℕ} (at : ℕ) → BeforeValue w levels values → On w 0 at → GoesOn at → Arrival at levels values
  unfolding size ◌⧺◌
  arrive at (outermost h) f g =
      record {
        left = max_depth;
        sum = refl;
        arrived = same (ap (λ p. Read.value max_depth c p 0) (blanks_skip h f.0)) (ap (λ p. Read.value max_depth s p 0) (blanks_skip h f.1)) at_first;
      }
  arrive at (first_element {w} {b} {levels = levels} {values = values} h o) f g =
      let (before, opens) = split_on w b f in
      let r = arrive _ h before (opening_goes_on false o opens) in
      let i = enter false r.left r.sum o opens g.array r.arrived in
      let none : values + 1 + 0 ≡ values + 1 = omega arith in
      subst (Arrival at (levels + 1)) none (record { left = i.left; sum = i.sum; arrived = to_element (within_both f) i.items })
  arrive at (next_element {w} {b} {es} {c = comma} h o listed q) f g =
      let (before, rest) = split_on w (b ++ (es ++ comma)) f in
      let (opens, rest') = split_on b (es ++ comma) rest in
      let (between, separator) = split_on es comma rest' in
      let m = comma_marked q separator.0 in
      let m' = comma_marked q separator.1 in
      let r = arrive _ h before (opening_goes_on false o opens) in
      let i = enter false r.left r.sum o opens (elements-open listed between m m') r.arrived in
      record { left = i.left; sum = i.sum; arrived = to_element (within_both f) (elements-pass listed between m m' i.items) }
  arrive at (first_member {w} {b} {n} {d} {levels = levels} {values = values} h o q p) f g =
      let (before, rest) = split_on w (b ++ (n ++ d)) f in
      let (opens, rest') = split_on b (n ++ d) rest in
      let (name, separator) = split_on n d rest' in
      let r = arrive _ h before (opening_goes_on true o opens) in
      let i = enter true r.left r.sum o opens (name_open q name) r.arrived in
      let none : values + 1 + 0 ≡ values + 1 = omega arith in
      subst (Arrival at (levels + 1)) none (record { left = i.left; sum = i.sum; arrived = past_name q p name separator i.items })
  arrive at (next-member {w} {b} {ms} {c = comma} {n} {d} h o listed q r p) f g =
      let (before, rest) = split_on w (b ++ (ms ++ (comma ++ (n ++ d)))) f in
      let (opens, rest') = split_on b (ms ++ (comma ++ (n ++ d))) rest in
      let (between, rest'') = split_on ms (comma ++ (n ++ d)) rest' in
      let (separator, rest₃) = split_on comma (n ++ d) rest'' in
      let (name, colon) = split_on n d rest₃ in
      let i = in-object o listed q opens between separator (arrive _ h before (opening_goes_on true o opens)) in
      record { left = i.left; sum = i.sum; arrived = past_name r p name colon i.items }
