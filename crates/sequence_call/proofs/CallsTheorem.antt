-- Patches in a row of the calls, from the theorem on the definition and the call's contract.
use Prim.Native.Nat.{ℕ}
use Rattle.spec.specs.Bytes.{Bytes}
use Rattle.spec.specs.Patch.{Stop}
use Rattle.spec.specs.Answer as Spec
use Rattle.sequence.specs.Sequence as Sequence
use Rattle.sequence.specs.Sequence.{later, OpLess}
use Rattle.sequence.proofs.SequenceTheorem.{sequence}
use Rattle.sequence_call.specs.Calls.{Called, Promises, Writes, Refuses, Agree, same_text, same_refusal, CallsStatement}

writes : (t : Bytes) {call : Called} → Promises (Spec.success t) call → Writes t call
writes t p = record { answers = (p.number, p.text, p.op, p.place, p.pointer, p.written); laid = p.output }

refuses : (s : Stop) {call : Called} → Promises (Spec.failure s) call → Refuses s call
refuses s p = record { answers = (p.number, p.text, p.op, p.place, p.pointer, p.written); unchanged = p.output }

agree : {n : ℕ} {a b : Spec.Answer} {c d : Called} → OpLess n a b → Promises a c → Promises b d → Agree n c d
agree (Sequence.same_text t) p q = same_text t (writes t p) (writes t q)
agree {n} (Sequence.same_refusal s l) p q = same_refusal s l (refuses s p) (refuses (later n s) q)

pub calls : CallsStatement
calls =
    record {
      two = λ document first text second joined lent-first lent-second lent-joined c on-text on-document p q.
          agree (sequence.two document first text second joined lent-first lent-second lent-joined c) p q;
      any-number = λ document patches joined n a lent c last on-document p q. agree (sequence.any-number document patches joined n a lent c) p q;
    }
