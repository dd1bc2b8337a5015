-- Nobody else's shelf decides, of the calls: from the theorem on the definition and the call's contract.
use mathlib.Core.Path.{◌≡◌, refl, sym, subst, ◌∙◌}
use mathlib.Core.List.{◌++◌}
use lib.ListN.{length, drop}
use Rattle.spec.specs.Limits.{work_nodes, work_entries}
use Rattle.spec.specs.Bytes.{Bytes}
use Rattle.spec.specs.Write.{write}
use Rattle.spec.specs.Pointer.{Tokens}
use Rattle.spec.specs.Patch.{Stop}
use Rattle.spec.specs.Answer as Spec
use Rattle.spec.specs.Answer.{work_suffices}
use Rattle.tape.specs.Fields.{no_node}
use Rattle.json_patch.specs.Call.{Memory, lent_of, Answered, wiped}
use Rattle.json_patch.specs.Region.{Refuses, Writes}
use Rattle.json_patch.specs.declared.answer.Answer.{Answer}
use Rattle.region.specs.Answer.{answer_within}
use Rattle.isolation.specs.Isolation.{Call, Situation, SameFields}
use Rattle.isolation.proofs.IsolationTheorem as Definition
use Rattle.isolation.proofs.IsolationTheorem.{Ended, ended, isolation}
use Rattle.isolation_call.specs.Calls.{Called, Calls, SameAnswer, End, both_refused, both-written}
use Rattle.isolation_call.specs.Calls.{IsolatedCallsStatement, CallsMetStatement}

-- an answer of the definitions, as the call gives it
module _ {a : Spec.Answer} {before after : Bytes} {r : Answer} (is : Answered a before after r) where
  refuses : {s : Stop} → a ≡ Spec.failure s → Refuses s before after r
  refuses e =
      let n = subst (λ b. Answered b before after r) e is in
      record { answers = (n.number, n.text, n.op, n.place, n.pointer, n.written); unchanged = n.output }

  writes : {text : Bytes} → a ≡ Spec.success text → Writes text before after r
  writes e =
      let n = subst (λ b. Answered b before after r) e is in
      record { answers = (n.number, n.text, n.op, n.place, n.pointer, n.written); laid = n.output }

-- what the definition says of a call, from what the call answered
abbrev of_definition : {document patch region : Bytes} {tokens : Tokens} (c : Called document patch region tokens) →
    Call document patch region tokens (lent_of c.lent)
of_definition c =
    let number = c.applies.answered.number in
    record {
      before = c.before;
      accepted = c.accepted;
      held = c.held;
      exists = c.exists;
      small = λ e. c.small (number ∙ e);
      work = λ e. c.work (number ∙ e);
      output = λ e. c.output (number ∙ e);
    }

same_answer : {a b : Spec.Answer} {before after before' after' : Bytes} {r s : Answer} →
    SameFields a b → Answered a before after r → Answered b before' after' s → SameAnswer r s
same_answer f p q =
    record {
      number = p.number ∙ f.number ∙ sym q.number;
      text = p.text ∙ f.text ∙ sym q.text;
      op = p.op ∙ f.op ∙ sym q.op;
      place = p.place ∙ f.place ∙ sym q.place;
      pointer = p.pointer ∙ f.pointer ∙ sym q.pointer;
    }

module _ {D E patch region : Bytes} (c : Calls D E patch region) where
  abbrev situation : Situation D E patch region (lent_of c.first.lent) (lent_of c.second.lent)
  situation = record { passes = c.passes; first = of_definition c.first; second = of_definition c.second; alike = c.alike }

  end : Ended situation → End c
  end (Definition.both_refused s l one other) =
      both_refused s l (refuses c.first.applies.answered one) (refuses c.second.applies.answered other)
  end (Definition.both-written r) =
      both-written (write r.held)
      (record {
        after = r.after;
        writes = writes c.first.applies.answered r.writes;
        held = r.held;
        exists = r.exists;
        region-written = refl;
        outside = r.outside;
      })
      (record {
        after = r.after';
        writes = writes c.second.applies.answered r.writes';
        held = r.held';
        exists = r.exists';
        region-written = sym r.alike;
        outside = r.outside';
      })

pub isolated_calls : IsolatedCallsStatement
isolated_calls D E patch region c =
    let same = (isolation.isolated D E patch region (lent_of c.first.lent) (lent_of c.second.lent) (situation c)).same in
    record { same = same_answer same c.first.applies.answered c.second.applies.answered; end = end c (ended (situation c)) }

-- what the contract says of a call that is lent this memory
called : {document patch region : Bytes} {tokens : Tokens} (m : Memory) → Call document patch region tokens (lent_of m) → Called document patch region tokens
called {document} {patch} {region} m c =
    let a = answer_within document patch region (lent_of m) in
    record {
      before = c.before;
      accepted = c.accepted;
      held = c.held;
      exists = c.exists;
      lent = m;
      left =
          record {
            output = a.written ++ drop (length a.written) m.output;
            nodes = wiped (work_suffices (lent_of m)) work_nodes no_node m.nodes;
            index = wiped (work_suffices (lent_of m)) work_entries 0 m.index;
          };
      answer =
          record { number = a.number; text = a.text; op = a.op; place = a.place; pointer = a.pointer; length = length a.written };
      applies =
          record {
            answered =
                record { number = refl; text = refl; op = refl; place = refl; pointer = refl; written = refl; output = refl };
            nodes-after = refl;
            index_after = refl;
          };
      small = c.small;
      work = c.work;
      output = c.output;
    }

pub calls_met : CallsMetStatement
unfolding called
calls_met D E patch region m m' c =
    record { passes = c.passes; first = called m c.first; second = called m' c.second; alike = c.alike }
