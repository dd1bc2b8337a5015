-- Where scalars, names and items end: past their place, and within the text.
use Prim.Native.Nat.{ℕ, ◌+◌, ◌-◌, ◌≤◌, ◌<◌}
use Prim.Native.Char.{code}
use mathlib.Core.Path.{◌≡◌}
use mathlib.Core.Bool.{Bool, true, false}
use mathlib.Core.List.{[]}
use native.Mathlib.Omega.{arith}
use lib.ListN.{length}
use lib.Dec.{eqb}
use borrow.Author.Tests.{eqb-true}
use Rattle.spec.specs.Outcome.{ok, ◌>>=◌}
use Rattle.spec.specs.Bytes.{Bytes, Text, ascii, byte, byte_in}
use Rattle.spec.specs.Strings.{string}
use Rattle.spec.specs.Numbers.{number}
use Rattle.spec.specs.Forest.{count}
use Rattle.spec.specs.Value as Value
use Rattle.spec.specs.Value.{Label, Members}
use Rattle.spec.specs.Read.{blanks, word_at, literal_value, number_value, string_value, fresh, name_for, closing_bracket}
use Rattle.lexer.proofs.Always.{Always, gives, result, either, next, weaken}
use Rattle.lexer.proofs.AnswerLaws.{byte_taken}
use Rattle.lexer.proofs.ByteLaws.{here}
use Rattle.lexer.proofs.BlankLaws.{blanks_past, blanks-within}
use Rattle.lexer.proofs.StringLaws.{string-ok_closed}
use Rattle.lexer.proofs.NumberLaws.{number-ok_past}
use Rattle.tape.specs.Layout.{string_kind, number_kind, null_kind, true_kind}
use Rattle.reader.specs.Begins.{scalar_of}
use Rattle.reader.specs.Words.{past_separator}
use Rattle.reader.specs.Items.{Next, closed, begins, after_comma, next_name, begun, next_item}

-- ---- scalars
abbrev Past : Bytes → ℕ → Value.Value × ℕ → Type 0
Past s at v = (at < v.1) × (v.1 ≤ length s)

literal_past : (s : Bytes) (at : ℕ) (label : Label) (word : Bytes) → at < length s
    → ((p : ℕ) → p ≤ length s → Always (λ n. (p ≤ n) × (n ≤ length s)) (word_at word s p)) → Always (Past s at) (literal_value label word s at)
unfolding literal_value
literal_past s at label word h w =
    next (word_at word s (at + 1)) λ n e.
    let k : (at + 1 ≤ n) × (n ≤ length s) = result (rw e at (w (at + 1) (omega arith))) in gives _ (omega arith)

three_past : (s : Bytes) (a b c : ℕ) → 1 ≤ a → 1 ≤ b → 1 ≤ c → (p : ℕ) → p ≤ length s
    → Always (λ n. (p ≤ n) × (n ≤ length s))
    (byte_in s p a a >>= λ _. byte_in s (p + 1) b b >>= λ _. byte_in s (p + 1 + 1) c c >>= λ _. ok (p + 1 + 1 + 1))
three_past s a b c l m n p h =
    next _ λ x e. next _ λ y f. next _ λ z g. let k = byte_taken s (p + 1 + 1) c c z n g in gives _ (omega arith)

scalar_past : (kind : ℕ) (s : Bytes) (at : ℕ) → at < length s → Always (Past s at) (scalar_of kind s at)
unfolding scalar_of string_value number_value ascii word_at
scalar_past kind s at h =
    either (eqb kind string_kind) (λ _. next (string s at) λ t e. let k = string-ok_closed s at t e in gives _ (omega arith)) (λ _.
    either (eqb kind number_kind) (λ _. next (number s at) λ n e. let k = number-ok_past s at n e in gives _ (omega arith)) (λ _.
    either (eqb kind null_kind) (λ _.
    let rest = three_past s (code "u") (code "l") (code "l") (omega arith) (omega arith) (omega arith) in
    literal_past s at Label.null_literal (ascii "ull") h rest) (λ _.
    either (eqb kind true_kind) (λ _.
    let rest = three_past s (code "r") (code "u") (code "e") (omega arith) (omega arith) (omega arith) in
    literal_past s at Label.true_literal (ascii "rue") h rest) (λ _.
    literal_past s at Label.false_literal (ascii "alse") h (λ p q.
    next _ λ x e.
    let k = byte_taken s p (code "a") (code "a") x (omega arith) e in
    weaken (λ n l. omega arith) (three_past s (code "l") (code "s") (code "e") (omega arith) (omega arith) (omega arith) (p + 1) (omega arith)))))))

pub scalar_ok_past : (kind : ℕ) (s : Bytes) (at : ℕ) (v : Value.Value) (next : ℕ) → at < length s → scalar_of kind s at ≡ ok (v, next)
    → (at < next) × (next ≤ length s)
scalar_ok_past kind s at v next h e = result (rw e at (scalar_past kind s at h))

-- ---- items
abbrev pub Beyond : Bytes → ℕ → Next → Type 0
Beyond s at (closed next) = (at < next) × (next ≤ length s)
Beyond s at (begins name first) = (at ≤ first) × (first ≤ length s)

-- blanks behind a byte that is not 0
blanks_behind : (s : Bytes) (at : ℕ) → at < length s → (at < blanks s (at + 1)) × (blanks s (at + 1) ≤ length s)
blanks_behind s at h = (omega (arith, blanks_past s (at + 1)), blanks-within s (at + 1) (omega arith))

colon_past : (s : Bytes) (at : ℕ) (name : Text)
    → Always (λ (t : Text × ℕ). (at < t.1) × (t.1 ≤ length s))
    (byte_in s (blanks s at) (code ":") (code ":") >>= λ _. ok (name, blanks s (blanks s at + 1)))
colon_past s at name =
    next _ λ b e.
    let k = byte_taken s (blanks s at) (code ":") (code ":") b (omega arith) e in
    let l = blanks_past s at in
    let m = blanks_behind s (blanks s at) k.here in
    gives _ (omega arith)

name_past : (object : Bool) (s : Bytes) (so_far : Members) (at : ℕ) → at ≤ length s → Always (λ t. (at ≤ t.1) × (t.1 ≤ length s)) (name_for object s so_far at)
unfolding name_for
name_past false s so_far at h = gives ([], at) (omega arith)
name_past true s so_far at h =
    next (string s at) λ t e.
    let k = string-ok_closed s at t e in
    next (fresh t.0 so_far (t.1 - 1)) λ _ f.
    weaken (λ v l. omega (arith, k.past)) (colon_past s t.1 t.0)

comma_past : (s : Bytes) (first : Bool) (at : ℕ) → at ≤ length s → Always (λ n. (at ≤ n) × (n ≤ length s)) (after_comma s first at)
unfolding after_comma past_separator
comma_past s first at h =
    either first (λ _. gives at (omega arith)) (λ _.
    next _ λ b e. let k = byte_taken s at (code ",") (code ",") b (omega arith) e in let m = blanks_behind s at k.here in gives _ (omega arith))

pub bracket_here : (object : Bool) (s : Bytes) (at : ℕ) → byte s at ≡ closing_bracket object → at < length s
unfolding closing_bracket
bracket_here false s at e = here s at (code "]") e (omega arith)
bracket_here true s at e = here s at (code "}") e (omega arith)

next_name_past : (object : Bool) (s : Bytes) (so_far : Members) (at : ℕ) → at ≤ length s
    → Always (λ t. (at ≤ t.1) × (t.1 ≤ length s)) (next_name object s so_far at)
unfolding next_name
next_name_past object s so_far at h =
    next (after_comma s (eqb (count so_far) 0) at) λ first e.
    let n : (at ≤ first) × (first ≤ length s) = result (rw e at (comma_past s (eqb (count so_far) 0) at h)) in
    weaken (λ t k. omega arith) (name_past object s so_far first n.1)

item_past : (object : Bool) (s : Bytes) (so_far : Members) (at : ℕ) → at ≤ length s → Always (Beyond s at) (next_item object s so_far at)
unfolding next_item begun
item_past object s so_far at h =
    let place = blanks s at in
    let l = blanks_past s at in
    let m = blanks-within s at h in
    either (eqb (byte s place) (closing_bracket object)) (λ e.
    let k = bracket_here object s place (eqb-true _ _ e) in
    gives (closed (place + 1)) (omega arith)) (λ _.
    next (next_name object s so_far place) λ t e.
    let k : (place ≤ t.1) × (t.1 ≤ length s) = result (rw e at (next_name_past object s so_far place m)) in
    gives (begins t.0 t.1) (omega arith))

pub item_ok_past : (object : Bool) (s : Bytes) (so_far : Members) (at : ℕ) (n : Next) → at ≤ length s → next_item object s so_far at ≡ ok n → Beyond s at n
item_ok_past object s so_far at n h e = result (rw e at (item_past object s so_far at h))
