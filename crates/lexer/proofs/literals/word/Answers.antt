use Rattle.std.proofs.Common.{arith, drop-cons, drop_of_length-le}
use Rattle.std.proofs.lemmas.List.Elements.{All-get_or}
use Prim.Native.Nat.{ℕ, suc, ◌+◌, ◌≤◌, ◌<◌}
use mathlib.Core.Path.{◌≡◌, refl, ap, ◌∙◌}
use lib.ListN.{length, drop, get_or}
use Rattle.spec.specs.Outcome.{ok, ◌>>=◌}
use Rattle.spec.specs.Bytes.{Bytes, byte_in}
use Rattle.spec.specs.Read.{word_at}
use Rattle.spec.specs.Fault.{outcome_by}
use Rattle.spec.proofs.FaultLaws.{step_ok, step_err}
use Rattle.lexer.proofs.AnswerLaws.{byte_known}
use Rattle.lexer.proofs.literals.word.Goals as goal

-- what is left of a word is its next byte, and the rest of it behind that
left : (word s : Bytes) (i at : ℕ) → i < length word →
    word_at (drop i word) s at ≡ (byte_in s at (get_or word i 0) (get_or word i 0) >>= λ _. word_at (drop (i + 1) word) s (at + 1))
unfolding word_at
left word s i at h =
    let next : suc i ≡ i + 1 = omega arith in
    ap (λ rest. word_at rest s at) (drop-cons word i 0 h)
    ∙ ap (λ n. byte_in s at (get_or word i 0) (get_or word i 0) >>= λ _. word_at (drop n word) s (at + 1)) next

pub returns-in_err-byte_in : goal.returns-in_err-byte_in
returns-in_err-byte_in c =
    step_err _ _ _ _ c.byte_in.ensures c.in_err-byte_in.was c.from_residual.ensures.1
    ∙ rw (left c.args.word.now c.args.s.now c.loop-b.b-index c.loop-b.next (omega arith)) at c.loop-b.invariant

pub overflow_add-next : goal.overflow_add-next
overflow_add-next c =
    let nonzero = All-get_or (λ b. 1 ≤ b) c.args.word.now c.loop-b.b-index 0 (omega arith) c.requires in
    omega (arith, byte_known _ _ _ _ _ nonzero c.byte_in.ensures c.in_ok-byte_in.was)

pub loop-b-preserved : goal.loop-b-preserved
loop-b-preserved c =
    step_ok (λ n. n) (λ _. word_at (drop (c.loop-b.b-index + 1) c.args.word.now) c.args.s.now (c.loop-b.next + 1))
    c.byte_in.ensures c.in_ok-byte_in.was refl
    ∙ rw (left c.args.word.now c.args.s.now c.loop-b.b-index c.loop-b.next (omega arith)) at c.loop-b.invariant

pub returns : goal.returns
unfolding word_at outcome_by
returns c = rw (drop_of_length-le c.args.word.now {i = c.loop-b.b-index} (omega arith)) at c.loop-b.invariant
