-- `verdict` meets its contract: each test of the log is that of the undo. Assumes nothing.
use native.Mathlib.Omega.{arith}
use Rattle.spec.specs.Fault.{number_of}
use borrow.Author.Tests.{not-true, not-false}
use Rattle.undo_log.proofs.LogLaws.{verdict_many, verdict-deep, verdict-nodes, verdict_long, verdict-done}
use Rattle.undo_log.proofs.log.verdict.Goals as goal

pub returns-then-log-gt-MAX_OPERATIONS : goal.returns-then-log-gt-MAX_OPERATIONS
unfolding number_of
returns-then-log-gt-MAX_OPERATIONS c work os n = verdict_many n c.if-log-gt-MAX_OPERATIONS.true

pub returns-then-not-log : goal.returns-then-not-log
unfolding number_of
returns-then-not-log c work os n = verdict-deep n (omega (arith, c.if-log-gt-MAX_OPERATIONS.false)) (not-true _ c.if-not-log.true)

pub returns-then-log-gt-MAX_NODES : goal.returns-then-log-gt-MAX_NODES
unfolding number_of
returns-then-log-gt-MAX_NODES c work os n =
    verdict-nodes n (omega (arith, c.if-log-gt-MAX_OPERATIONS.false)) (not-false _ c.if-not-log.false)
    c.if-log-gt-MAX_NODES.true

pub returns-then-log-gt-MAX_BYTES : goal.returns-then-log-gt-MAX_BYTES
unfolding number_of
returns-then-log-gt-MAX_BYTES c work os n = verdict_long n (omega (arith, c.if-log-gt-MAX_OPERATIONS.false))
    (not-false _ c.if-not-log.false) (omega (arith, c.if-log-gt-MAX_NODES.false)) c.if-log-gt-MAX_BYTES.true

pub returns : goal.returns
returns c work os n = verdict-done n (omega (arith, c.if-log-gt-MAX_OPERATIONS.false))
    (not-false _ c.if-not-log.false) (omega (arith, c.if-log-gt-MAX_NODES.false)) (omega (arith, c.if-log-gt-MAX_BYTES.false))
