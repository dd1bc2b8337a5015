-- Laws of a walk along a pointer, token by token.
use Prim.Native.Nat.{ℕ, suc, ◌+◌, ◌-◌, ◌<◌, ◌≤◌}
use native.Mathlib.Omega.{arith}
use mathlib.Core.Path.{◌≡◌, refl, ap, sym, ◌∙◌, subst}
use mathlib.Core.Bool.{true, false, true≢false}
use mathlib.Core.List.{[], ◌∷◌}
use lib.ListN.{length}
use Rattle.std.specs.Prelude.{Result, Ok, Err}
use Rattle.spec.specs.Outcome.{Outcome, ok, refused, ◌>>=◌}
use Rattle.spec.specs.Fault.{number_of}
use Rattle.spec.specs.declared.refusal.Refusal.{Refusal}
use Rattle.spec.specs.declared.refusal.Fault.{Fault}
use Rattle.spec.specs.Bytes.{Bytes, Text}
use Rattle.spec.specs.Forest.{Forest, size, nth}
use Rattle.spec.specs.Pointer as Plain
use Rattle.spec.specs.Pointer.{Tokens, tokens, farther}
use Rattle.text.specs.Decode.{decode, text_of}
use Rattle.tape.specs.declared.fields.Spelling.{Spelling}
use Rattle.tape.specs.declared.fields.Name.{Name}
use Rattle.tape.specs.declared.fields.Cell.{Cell}
use Rattle.tape.proofs.Cells.{blank}
use Rattle.tape.specs.Rows.{child_row}
use Rattle.table.specs.Meaning.{part_of, name_text, meant}
use Rattle.origin.specs.Value as Value
use Rattle.origin.specs.Value.{value_of}
use Rattle.origin.specs.Pointer.{child_at, child, walk}
use Rattle.origin.specs.Forgetting.{forgotten}
use Rattle.origin.proofs.ForgetLaws.{forget-walk}
use Rattle.walk.specs.Bearing.{borne}
use Rattle.pointer.specs.Tokens.{accepted, tokens_from, token_bytes, FirstOf, TokenAt}
use Rattle.pointer.specs.declared.answers.First.{First}
use Rattle.pointer.specs.declared.answers.Token.{Token}
use Rattle.pointer.proofs.AcceptLaws.{accepted_ok}
use Rattle.pointer.proofs.WalkLaws as WalkLaws
use Rattle.pointer.proofs.WalkLaws.{Unfolds, first-token, next_order, tokens_behind, behind_last, behind_next}
use Rattle.walk.specs.Names.{Short, NamesToken, token_name, TokenNameIs}
use Rattle.table.specs.Sound.{NodeHeld, ForHeld}
use Rattle.walk.specs.Step.{Stepped, stepped, missed, StepRows, StepIs}
use Rattle.walk.specs.Path.{farther_by, reached_behind, PathIs, PathRows, TokensFrom, Walked, WalkedBearing, reached, lost, WalkFromIs, WalkIs}
use Rattle.walk.specs.Path.{WalkRows, walk_lost, walk_last, walk_next, path_root, path_below, is_pointer}
use Rattle.walk.proofs.Children.{forget-borne, child-borne, child_at-borne, child_held, child-inside}
use Rattle.tape.specs.Lent.{Table}

-- ---- behind tokens that were walked
pub farther_none : {A : Type 0} (o : Outcome A) → farther_by 0 o ≡ o
unfolding farther_by
farther_none (ok a) = refl
farther_none (refused number walked) = let e : 0 + walked ≡ walked = omega arith in ap (refused number) e

-- behind one token more
pub farther_more : {A : Type 0} (n : ℕ) (o : Outcome A) → farther_by n (farther o) ≡ farther_by (n + 1) o
unfolding farther_by farther
farther_more n (ok a) = refl
farther_more n (refused number walked) = let e : n + suc walked ≡ n + 1 + walked = omega arith in ap (refused number) e

reached_none : (r : Result ℕ Fault) → reached_behind 0 r ≡ r
unfolding reached_behind
reached_none (Ok row) = refl
reached_none (Err x) = let e : 0 + x.place ≡ x.place = omega arith in ap (λ (p : ℕ). Err (record { refusal = x.refusal; place = p })) e

reached_more : (n : ℕ) (r : Result ℕ Fault) → reached_behind n (reached_behind 1 r) ≡ reached_behind (n + 1) r
unfolding reached_behind
reached_more n (Ok row) = refl
reached_more n (Err x) =
    let e : n + (1 + x.place) ≡ n + 1 + x.place = omega arith in ap (λ (p : ℕ). Err (record { refusal = x.refusal; place = p })) e

-- ---- the first step, once it is known where it leads
module _ (t : Text) (ts : Tokens) (v : Value.Value) where
  pub walk_on : (k : ℕ) → child_at t v ≡ ok k → walk (t ∷ ts) v ≡ farther (walk ts (value_of (child k v)))
  unfolding walk ◌>>=◌
  walk_on k h = rw h

  pub walk_off : (n p : ℕ) → child_at t v ≡ refused n p → walk (t ∷ ts) v ≡ refused n p
  unfolding walk ◌>>=◌
  walk_off n p h = rw h

-- ---- the origins forgotten
forget_walked : {w : Table} {row span : ℕ} {o : Outcome Value.Value} {r : Result ℕ Fault} → WalkedBearing w row span o r → Walked w row span (forgotten o) r
unfolding forgotten
forget_walked {w} (reached {c = c} {kids} e n low high) = reached (ap forgotten e ∙ ap ok (forget-borne w.texts c kids)) n low high
forget_walked (lost e) = lost (ap forgotten e)

pub plain_walked : {w : Table} {row span : ℕ} (ts : Tokens) (c : Cell) (kids : Forest Cell) {r : Result ℕ Fault}
    → WalkedBearing w row span (walk ts (borne w.texts c kids)) r → Walked w row span (Plain.walk ts (meant w.texts c kids)) r
plain_walked {w} {row} {span} ts c kids {r} h =
    subst (λ o. Walked w row span o r) (forget-walk ts (borne w.texts c kids) ∙ ap (Plain.walk ts) (forget-borne w.texts c kids)) (forget_walked h)

-- a walk's contract, by what it says with origins
module _ {w : Table} {row : ℕ} {path : Spelling} {at : ℕ} {r : Result ℕ Fault} where
  pub walk-from_is : WalkRows w path at row r
      → ((ts : Tokens) → Short w.texts → at ≤ length (part_of w.texts path) → TokensFrom w.texts path at ts
      → ForHeld w row (λ c kids. WalkedBearing w row (size kids) (walk ts (borne w.texts c kids)) r)) → WalkFromIs w row path at r
  walk-from_is rows all =
      record { rows = rows; held = λ ts short i from c kids n. plain_walked ts c kids (all ts short i from c kids n); bearing = all }

-- ---- a walk on its way: the node in a row, from which the tokens that are left lead to the same value as all did from the first node, once the
-- tokens walked so far are counted
pub record Underway (w : Table) (start span : ℕ) (left : Outcome Tokens) (walked row : ℕ) (o : Outcome Value.Value) : Type 0 where
  pub c : Cell
  pub kids : Forest Cell
  pub ts : Tokens
  pub tokens : left ≡ ok ts
  pub held : NodeHeld w row c kids
  pub same : o ≡ farther_by walked (walk ts (borne w.texts c kids))
  pub low : start ≤ row
  pub high : row + size kids ≤ start + span

pub underway_all : {w : Table} {start : ℕ} {path : Spelling} {at : ℕ} {c : Cell} {kids : Forest Cell} {ts : Tokens} → TokensFrom w.texts path at ts
    → NodeHeld w start c kids → Underway w start (size kids) (tokens_from (part_of w.texts path) at) 0 start (walk ts (borne w.texts c kids))
underway_all {c = c} {kids} {ts} t n =
    record { c = c; kids = kids; ts = ts; tokens = t.is; held = n; same = sym (farther_none _); low = omega arith; high = omega arith }

module _ {w : Table} {start span : ℕ} {walked row : ℕ} {o : Outcome Value.Value} where
  -- no token is left
  pub underway_done : {left : Outcome Tokens} → left ≡ ok [] → Underway w start span left walked row o → WalkedBearing w start span o (Ok row)
  unfolding walk farther_by
  underway_done e u =
      let same : ok [] ≡ ok u.ts = sym e ∙ u.tokens in
      let none : u.ts ≡ [] = cc in
      reached (u.same ∙ ap (λ ts. farther_by walked (walk ts (borne w.texts u.c u.kids))) none) u.held u.low u.high

  -- one token more
  module _ {s : Bytes} {at : ℕ} {t : Token} {name : Name} (is : TokenAt s at t) (named : NamesToken w.texts name (text_of 3 (token_bytes s at t)))
      (u : Underway w start span (tokens_from s at) walked row o) where
    first : Unfolds (text_of 3 (token_bytes s at t)) (tokens_behind s t) u.ts
    first = first-token s at t u.ts is u.tokens

    -- where the first of the tokens that are left leads
    outcome : o ≡ farther_by walked (walk (name_text w.texts name ∷ first.rest) (borne w.texts u.c u.kids))
    outcome =
        u.same
        ∙ ap (λ ts. farther_by walked (walk ts (borne w.texts u.c u.kids))) (first.is ∙ ap (λ n. n ∷ first.rest) (sym named.says))

    -- the step to a child
    abbrev Step : Result ℕ Refusal → Type 0
    Step r = Stepped row u.kids (Plain.child_at (name_text w.texts name) (meant w.texts u.c u.kids)) r

    named-child : {p : Outcome ℕ} → Plain.child_at (name_text w.texts name) (meant w.texts u.c u.kids) ≡ p
        → child_at (name_text w.texts name) (borne w.texts u.c u.kids) ≡ p
    named-child e = child_at-borne w.texts (name_text w.texts name) u.c u.kids e

    step_lost : {r : Result ℕ Refusal} → Step r → (x : Refusal) → r ≡ Err x
        → WalkedBearing w start span o (Err (record { refusal = x; place = walked }))
    unfolding farther_by
    step_lost (stepped k at' e l p) x f = absurd (let z : ◌≡◌ {A = ℕ} 0 1 = cc in omega arith)
    step_lost (missed y e) x f =
        let same : y ≡ x = cc in
        let here : walked + 0 ≡ walked = omega arith in
        lost
        (outcome ∙ ap (farther_by walked) (walk_off (name_text w.texts name) first.rest (borne w.texts u.c u.kids) (number_of y) 0 (named-child e))
        ∙ ap (λ z. refused (number_of z) (walked + 0)) same ∙ ap (refused (number_of x)) here)

    step_next : {r : Result ℕ Refusal} → Step r → (child : ℕ) → r ≡ Ok child → Underway w start span (tokens_behind s t) (walked + 1) child o
    step_next (stepped k at' e l p) child f =
        let same : at' ≡ child = cc in
        let place : child ≡ child_row row k u.kids = sym same ∙ p in
        let inside = child-inside row k u.kids l in
        record {
          c = (nth blank k u.kids).root;
          kids = (nth blank k u.kids).kids;
          ts = first.rest;
          tokens = first.from;
          held = rw place (child_held u.held k l);
          same =
              outcome ∙ ap (farther_by walked) (walk_on (name_text w.texts name) first.rest (borne w.texts u.c u.kids) k (named-child e))
              ∙ farther_more walked _ ∙ ap (λ b. farther_by (walked + 1) (walk first.rest (value_of b))) (child-borne w.texts k u.c u.kids);
          low = omega (arith, u.low, inside.0);
          high = omega (arith, u.high, inside.1);
        }
    step_next (missed n e) child f = absurd (let z : ◌≡◌ {A = ℕ} 0 1 = cc in omega arith)

    module _ (r : Result ℕ Refusal) (step_is : StepIs w row name r) where
      pub underway_lost : (x : Refusal) → r ≡ Err x → WalkedBearing w start span o (Err (record { refusal = x; place = walked }))
      underway_lost x e = step_lost (step_is.held named.token u.c u.kids u.held) x e

      pub underway_next : (child : ℕ) → r ≡ Ok child → Underway w start span (tokens_behind s t) (walked + 1) child o
      underway_next child e = step_next (step_is.held named.token u.c u.kids u.held) child e

-- ---- the loop: its state, of whatever node the table holds in the row where it began
pub record Walking (w : Table) (start : ℕ) (path : Spelling) (first at row walked : ℕ) : Type 0 where
  pub so_far : (r : Result ℕ Fault) → WalkRows w path at row r → WalkRows w path first start (reached_behind walked r)
  -- each token walked took at least a slash
  pub counted : walked ≤ at
  pub inside : first ≤ length (part_of w.texts path) → at ≤ length (part_of w.texts path)
  pub on : (ts : Tokens) → Short w.texts → first ≤ length (part_of w.texts path) → TokensFrom w.texts path first ts
      → ForHeld w start λ c kids.
      Underway w start (size kids) (tokens_from (part_of w.texts path) at) walked row (walk ts (borne w.texts c kids))

pub walking_all : (w : Table) (start : ℕ) (path : Spelling) (first : ℕ) → Walking w start path first first start 0
walking_all w start path first =
    record {
      so_far = λ r s. subst (WalkRows w path first start) (sym (reached_none r)) s;
      counted = omega arith;
      inside = λ h. h;
      on = λ ts short i from c kids n. underway_all from n;
    }

module _ {w : Table} {start : ℕ} {path : Spelling} {first at row walked : ℕ} {name : Name} {t : Token} (g : Walking w start path first at row walked)
    (pointer : Bytes) (pointer_is : pointer ≡ part_of w.texts path) (is : TokenAt pointer at t)
    (named : TokenNameIs w.texts path at t name) (r : Result ℕ Refusal) (step_is : StepIs w row name r) where
  token_is : TokenAt (part_of w.texts path) at t
  token_is = subst (λ s. TokenAt s at t) pointer_is is

  -- the step, by the token's name
  named_step : StepRows w row (token_name w.texts path at t) r
  named_step = subst (λ n. StepRows w row n r) named.is step_is.rows

  pub walking_lost : (x : Refusal) → r ≡ Err x → WalkFromIs w start path first (Err (record { refusal = x; place = walked }))
  unfolding reached_behind
  walking_lost x e =
      let here : walked + 0 ≡ walked = omega arith in
      walk-from_is
      (subst (λ (n : ℕ). WalkRows w path first start (Err (record { refusal = x; place = n }))) here
      (g.so_far (Err (record { refusal = x; place = 0 })) (walk_lost t token_is (rw e at named_step))))
      (λ ts short i from c kids n. underway_lost token_is (named.names short (g.inside i)) (g.on ts short i from c kids n) r step_is x e)

  module _ (child : ℕ) (e : r ≡ Ok child) where
    onward : (ts : Tokens) → Short w.texts → first ≤ length (part_of w.texts path) → TokensFrom w.texts path first ts
        → ForHeld w start λ c kids.
        Underway w start (size kids) (tokens_behind (part_of w.texts path) t) (walked + 1) child (walk ts (borne w.texts c kids))
    onward ts short i from c kids n =
        underway_next token_is (named.names short (g.inside i)) (g.on ts short i from c kids n) r step_is child e

    stepped_to : {u : Token} → t ≡ u → StepRows w row (token_name w.texts path at u) (Ok child)
    stepped_to {u} f =
        subst (λ v. StepRows w row (token_name w.texts path at v) (Ok child)) f
        (subst (StepRows w row (token_name w.texts path at t)) e named_step)

    pub walking_done : (end : ℕ) → t ≡ Token.Last end → WalkFromIs w start path first (Ok child)
    unfolding reached_behind
    walking_done end f =
        walk-from_is (g.so_far (Ok child) (walk_last end (subst (λ u. TokenAt (part_of w.texts path) at u) f token_is) (stepped_to f)))
        (λ ts short i from c kids n. underway_done (behind_last (part_of w.texts path) t end f) (onward ts short i from c kids n))

    pub walking_next : (end next : ℕ) → t ≡ Token.Next end next → Walking w start path first next child (walked + 1)
    walking_next end next f =
        record {
          so_far = λ q s.
              subst (WalkRows w path first start) (reached_more walked q)
              (g.so_far (reached_behind 1 q) (walk_next end next (subst (λ u. TokenAt (part_of w.texts path) at u) f token_is) (stepped_to f) s));
          counted = let o = next_order (part_of w.texts path) at t token_is end next f in omega (arith, g.counted, o.0, o.1);
          inside = λ h. (next_order (part_of w.texts path) at t token_is end next f).2;
          on = λ ts short i from c kids n. rw (behind_next (part_of w.texts path) t end next f) at (onward ts short i from c kids n);
        }

    -- the count is not too large: it is at most a place of the pointer
    pub walking_count : (end next : ℕ) → t ≡ Token.Next end next → walked + 1 ≤ next
    walking_count end next f = let o = next_order pointer at t is end next f in omega (arith, g.counted, o.0, o.1)

    -- a token leaves less of the pointer
    pub walking_less : (end next : ℕ) → t ≡ Token.Next end next → length pointer - next < length pointer - at
    walking_less end next f = let o = next_order pointer at t is end next f in omega (arith, o.0, o.1, o.2)

-- ---- all tokens
pub first_of : {f : First} (pointer : Bytes) {s : Bytes} → pointer ≡ s → FirstOf pointer f → FirstOf s f
first_of {f} pointer e is = subst (λ s. FirstOf s f) e is

module _ {w : Table} {start : ℕ} {path : Spelling} (pointer : Bytes) (pointer_is : pointer ≡ part_of w.texts path) where
  -- a text without tokens is no pointer
  pub walk_malformed : accepted (tokens (decode pointer)) ≡ false → {x : Fault} → x ≡ record { refusal = Refusal.MalformedPointer; place = 0 }
      → WalkIs w start path (Err x)
  unfolding accepted
  walk_malformed h is =
      let no : is_pointer w.texts path ≡ false = rw (← pointer_is) h in
      record {
        malformed = λ e. ap Err is;
        rows = λ e. absurd (true≢false (sym e ∙ no));
        held = λ ts short p c kids n. absurd (true≢false (sym (ap accepted p.is) ∙ no));
        bearing = λ ts short p c kids n. absurd (true≢false (sym (ap accepted p.is) ∙ no));
      }

  module _ (well : accepted (tokens (decode pointer)) ≡ true) (f : First) (is : FirstOf pointer f) where
    walk_is : {r : Result ℕ Fault} → PathRows w start path r → ((ts : Tokens) → Short w.texts → PathIs w.texts path ts
        → ForHeld w start (λ c kids. WalkedBearing w start (size kids) (walk ts (borne w.texts c kids)) r)) → WalkIs w start path r
    walk_is rows all =
        let well_pointer : is_pointer w.texts path ≡ true = rw (← pointer_is) well in
        record {
          malformed = λ no. absurd (true≢false (sym well_pointer ∙ no));
          rows = λ pointer. rows;
          held = λ ts short p c kids n. plain_walked ts c kids (all ts short p c kids n);
          bearing = all;
        }

    pub walk_root : f ≡ First.Root → WalkIs w start path (Ok start)
    unfolding walk
    walk_root e =
        let first_is = first_of pointer pointer_is is in
        walk_is (path_root (subst (FirstOf (part_of w.texts path)) e first_is))
        (λ ts short p c kids n.
        let none : ts ≡ [] = WalkLaws.first_root (part_of w.texts path) f first_is ts e p.is in
        reached (ap (λ us. walk us (borne w.texts c kids)) none) n (omega arith) (omega arith))

    pub walk_at : (at : ℕ) → f ≡ First.At at → {r : Result ℕ Fault} → WalkFromIs w start path at r → WalkIs w start path r
    walk_at at e {r} g =
        let first_is = first_of pointer pointer_is is in
        walk_is (path_below (subst (FirstOf (part_of w.texts path)) e first_is) g.rows)
        (λ ts short p.
        let inside = WalkLaws.first-inside (part_of w.texts path) f first_is at e in
        let from = WalkLaws.first_at (part_of w.texts path) f first_is at ts e p.is in
        g.bearing ts short inside (record { is = from }))

    -- a pointer begins with a slash, or is empty
    pub walk_never : f ≡ First.Malformed → {r : Result ℕ Fault} → WalkIs w start path r
    walk_never e =
        let some = accepted_ok (tokens (decode pointer)) well in
        absurd (WalkLaws.first_malformed pointer f is some.0 e some.1)
