-- Laws of answers: the two kinds of them, and what the definitions of the stages come to.
use Prim.Native.Nat.{ℕ, ◌≤◌, ◌<◌}
use Rattle.std.specs.Prelude.{Result, Ok, Err, IsErrAnd, MatchResult}
use Rattle.std.proofs.lemmas.Result.{err_from_is_err_and}
use mathlib.Core.Path.{◌≡◌, refl, subst, sym, ap, ap₂, ◌∙◌}
use native.Mathlib.Omega.{arith}
use mathlib.Core.Bool.{true, false}
use mathlib.Core.List.{◌++◌}
use lib.ListN.{length, drop}
use borrow.Author.Tests.{le-leb, lt-leb, le-ltb, lt-ltb}
use Rattle.spec.specs.Refusal.{work_too_short, input_too_long, output_too_short}
use Rattle.spec.specs.Limits.{max_bytes, work_nodes, work_entries}
use Rattle.spec.specs.Bytes.{Bytes}
use Rattle.spec.specs.Patch.{stop}
use Rattle.spec.specs.Answer as Spec
use Rattle.spec.specs.Answer.{Lent, work_suffices, fitting, on_document, answer_in, answer}
use Rattle.spec.specs.Read.{read}
use Rattle.json_patch.specs.Call.{Answered, SuccessIs, RefusalIs, FailureIs}
use Rattle.json_patch.specs.Stages.{as_answer}
use Rattle.json_patch.specs.declared.answer.Answer.{Answer}

-- ---- a refusal leaves the output as it was; a success has the text in front
pub answered-refusal : {number text op place : ℕ} {out : Bytes} {r : Answer} → RefusalIs number text op place r → Answered (Spec.refusal number text op place)
    out out r
answered-refusal (n, t, o, p, q, l) = record { number = n; text = t; op = o; place = p; pointer = q; written = l; output = refl }

pub answered-failure : {number op place pointer : ℕ} {out : Bytes} {r : Answer} → FailureIs number op place pointer r
    → Answered (Spec.failure (stop number op place pointer)) out out r
answered-failure (n, t, o, p, q, l) = record { number = n; text = t; op = o; place = p; pointer = q; written = l; output = refl }

pub answered-success : {t before after : Bytes} {r : Answer} → SuccessIs (length t) r → after ≡ t ++ drop (length t) before → Answered (Spec.success t)
    before after r
answered-success (n, t, o, p, q, l) whole = record { number = n; text = t; op = o; place = p; pointer = q; written = l; output = whole }

-- a success is the answer of its length
pub success_is : {n : ℕ} {r : Answer} → SuccessIs n r → r ≡ as_answer (Ok n)
unfolding as_answer
success_is {n} {r} (a, b, c, d, e, f) =
    ap₂ (λ x y. record { number = x; text = y; op = r.op; place = r.place; pointer = r.pointer; length = r.length }) a b
    ∙ ap₂ (λ x y. record { number = 0; text = 0; op = x; place = y; pointer = r.pointer; length = r.length }) c d
    ∙ ap₂ (λ x y. record { number = 0; text = 0; op = 0; place = 0; pointer = x; length = y }) e f

-- what the exit of a `?` answers is the refusal that it was given, as the call's
pub answered-handed : {a : Spec.Answer} {before after : Bytes} {P : Answer → Type 0} (done : Result ℕ Answer) → IsErrAnd done P
    → ((r : Answer) → P r → Answered a before after r) → Answered a before after (as_answer done)
unfolding as_answer
answered-handed {a} {before} {after} done is h =
    let p = err_from_is_err_and done is in subst (λ o. Answered a before after (as_answer o)) (sym p.1) (h p.0 p.2)

-- what `map_err` was given, by what it answered
pub mapped_ok : {A E F : Type 0} (P : E → F → Type 0) (r : Result A E) {q : Result A F} {a : A} → MatchResult r (λ x. q ≡ Ok x) (λ e. IsErrAnd q (P e))
    → q ≡ Ok a → r ≡ Ok a
mapped_ok P (Ok x) {a = a} is t = let same : x ≡ a = cc in ap Ok same
mapped_ok P (Err e) {q} is t = let p = err_from_is_err_and q is in absurd (let z : ◌≡◌ {A = ℕ} 0 1 = cc in omega arith)

pub mapped_err : {A E F : Type 0} (P : E → F → Type 0) (r : Result A E) {q : Result A F} {f : F} → MatchResult r (λ x. q ≡ Ok x) (λ e. IsErrAnd q (P e))
    → q ≡ Err f → (e : E) × (r ≡ Err e) × P e f
mapped_err P (Ok x) is t = absurd (let z : ◌≡◌ {A = ℕ} 0 1 = cc in omega arith)
mapped_err P (Err e) {q} {f} is t =
    let p = err_from_is_err_and q is in
    let same : p.0 ≡ f = cc in
    (e, refl, subst (P e) same p.2)

-- an answer by another name
pub answered_as : {a b : Spec.Answer} {before after : Bytes} {r : Answer} → a ≡ b → Answered b before after r → Answered a before after r
answered_as {before = before} {after} {r} e h = subst (λ a. Answered a before after r) (sym e) h

-- ---- the room for the text
module _ (room : ℕ) (t : Bytes) where
  pub fitting_short : room < length t → fitting room t ≡ Spec.refusal output_too_short 0 0 0
  unfolding fitting
  fitting_short h = rw (lt-leb (length t) room h)

  pub fitting_whole : length t ≤ room → fitting room t ≡ Spec.success t
  unfolding fitting
  fitting_whole h = rw (le-leb (length t) room h)

-- ---- the checks before a byte is read
module _ (lent : Lent) where
  pub work_suffices_lem : work_nodes ≤ lent.nodes → work_entries ≤ lent.index → work_suffices lent ≡ true
  unfolding work_suffices
  work_suffices_lem h i = rw (le-leb work_nodes lent.nodes h, le-leb work_entries lent.index i)

  pub nodes_short : lent.nodes < work_nodes → work_suffices lent ≡ false
  unfolding work_suffices
  nodes_short h = rw (lt-leb work_nodes lent.nodes h)

  pub index_short : work_nodes ≤ lent.nodes → lent.index < work_entries → work_suffices lent ≡ false
  unfolding work_suffices
  index_short h i = rw (le-leb work_nodes lent.nodes h, lt-leb work_entries lent.index i)

module _ (D P : Bytes) (lent : Lent) where
  pub answer_work_short : work_suffices lent ≡ false → answer D P lent ≡ Spec.refusal work_too_short 0 0 0
  unfolding answer answer_in
  answer_work_short e = rw e

  module _ (enough : work_suffices lent ≡ true) where
    pub answer-document_long : max_bytes < length D → answer D P lent ≡ Spec.refusal input_too_long 1 0 0
    unfolding answer answer_in
    answer-document_long h = rw (enough, lt-ltb max_bytes (length D) h)

    pub answer-patch_long : length D ≤ max_bytes → max_bytes < length P → answer D P lent ≡ Spec.refusal input_too_long 2 0 0
    unfolding answer answer_in
    answer-patch_long h i = rw (enough, le-ltb max_bytes (length D) h, lt-ltb max_bytes (length P) i)

    pub answer-read : length D ≤ max_bytes → length P ≤ max_bytes → answer D P lent ≡ on_document lent.output (read D) P
    unfolding answer answer_in
    answer-read h i = rw (enough, le-ltb max_bytes (length D) h, le-ltb max_bytes (length P) i)

-- the answer depends only on whether the work area suffices, and on the room for the text
pub answer_same : (D P : Bytes) (lent lent' : Lent) → work_suffices lent ≡ work_suffices lent' → lent.output ≡ lent'.output → answer D P lent ≡ answer D P lent'
unfolding answer
answer_same D P lent lent' e o = rw (e, o)
