-- Nobody else's shelf decides: specs/Isolation.
use mathlib.Core.Path.{◌≡◌, refl, ap, sym, subst, ◌∙◌}
use mathlib.Core.Bool.{true}
use mathlib.Core.Option.{Option, none, some}
use Prim.Native.Nat.{ℕ, ◌≤◌}
use native.Mathlib.Omega.{arith}
use Rattle.spec.specs.Bytes.{Bytes}
use Rattle.spec.specs.Value as Value
use Rattle.spec.specs.Write.{write}
use Rattle.spec.specs.Operation.{limited}
use Rattle.spec.specs.Patch.{Stop, Run, finished, stopped, run}
use Rattle.spec.specs.Answer.{Answer, Lent, answer, answer_of, success, failure}
use Rattle.spec.specs.Region.{bare_run, all_inside, first_too_large, Enough}
use Rattle.spec.proofs.ShapeTheorem.{shaped_so}
use Rattle.spec.proofs.LimitTheorem.{large_at, limited-run}
use Rattle.spec.proofs.RegionTheorem.{called, work_enough, fits}
use Rattle.spec.proofs.PlaceLaws.{plant}
use Rattle.spec.specs.Proper.{Readable}
use Rattle.claims.proofs.RoundTripTheorem.{round_trip}
use Rattle.region.specs.Answer.{answer_within}
use Rattle.region.specs.Claims.{Passes}
use Rattle.region.proofs.ClaimTheorems.{shaped_within, all_inside_lem, passes_plain}
use Rattle.isolation.specs.Isolation.{Call, Situation, SameFields, Results, Isolated, IsolationStatement}
use Rattle.isolation.proofs.SharedRun.{Holding, Alike, stop_alike, finish_alike, alike}
use Rattle.isolation.proofs.PlaceLaws.{changed_inside}
use Rattle.isolation.proofs.PartLaws.{readable_part}

-- a maker's operations are strictly inside its region
inside : {region patch : Bytes} (p : Passes region patch) → all_inside p.tokens p.operations ≡ true
inside p =
    let w = p.well_formed_lem in
    let is-patch = (shaped_so.right w.patch p.operations).0 w.shaped in
    all_inside_lem p.tokens w.patch p.operations
    ((shaped_within.right p.tokens w.patch p.operations).1 (record { patch = is-patch; rule = p.rule }))

-- One call: what it answers is what the bare run comes to.
module _ {D patch region : Bytes} {lent : Lent} (p : Passes region patch) (c : Call D patch region p.tokens lent) where
  plain : answer_within D patch region lent ≡ answer D patch lent
  plain = passes_plain D patch region lent p

  enough : Enough D patch lent
  enough = record { work = λ e. c.work (ap (λ a. a.number) plain ∙ e); output = λ e. c.output (ap (λ a. a.number) plain ∙ e) }

  by_run : answer_within D patch region lent ≡ answer_of lent.output (run limited 1 p.operations c.before)
  by_run = plain ∙ called lent (work_enough enough) c.accepted p.well_formed_lem

  limits : (large : Option ℕ) → first_too_large 1 p.operations c.before ≡ large →
      answer_within D patch region lent ≡ answer_of lent.output (large_at large (bare_run p.operations c.before))
  limits large e = by_run ∙ ap (answer_of lent.output) (rw e at (limited-run 1 p.operations c.before))

  -- 6 is not met, so no limit is
  bare_run_lem : answer_within D patch region lent ≡ answer_of lent.output (bare_run p.operations c.before)
  unfolding large_at answer_of
  bare_run_lem = go (first_too_large 1 p.operations c.before) refl
    where
      go : (large : Option ℕ) → first_too_large 1 p.operations c.before ≡ large →
          answer_within D patch region lent ≡ answer_of lent.output (bare_run p.operations c.before)
      go none e = limits none e
      go (some op) e = absurd (c.small (ap (λ a. a.number) (limits (some op) e)))

  stops : (s : Stop) → bare_run p.operations c.before ≡ stopped s → answer_within D patch region lent ≡ failure s
  unfolding answer_of
  stops s h = bare_run_lem ∙ ap (answer_of lent.output) h

  writes : (v : Value.Value) → bare_run p.operations c.before ≡ finished v → answer_within D patch region lent ≡ success (write v)
  unfolding answer_of
  writes v h =
      let is = bare_run_lem ∙ ap (answer_of lent.output) h in
      is ∙ fits lent.output (write v) (λ short. c.output (ap (λ a. a.number) is ∙ short))

  readable : Readable c.before
  readable = round_trip.readable D c.before c.accepted.reads

  holding : Holding p.tokens c.held c.before
  holding = record { there = c.exists; shallow = readable.shallow }

-- an answer that is a refusal is no success
refused_not_written : {s : Stop} {text : Bytes} {A : Type 0} → 1 ≤ s.op → failure s ≡ success text → A
refused_not_written {s} l h = let op : s.op ≡ 0 = ap (λ a. a.op) h in absurd (omega arith)

same_fields : {a b : Answer} (x y : Answer) → a ≡ x → b ≡ y → SameFields x y → SameFields a b
same_fields x y e f s =
    record {
      number = ap (λ a. a.number) e ∙ s.number ∙ sym (ap (λ a. a.number) f);
      text = ap (λ a. a.text) e ∙ s.text ∙ sym (ap (λ a. a.text) f);
      op = ap (λ a. a.op) e ∙ s.op ∙ sym (ap (λ a. a.op) f);
      place = ap (λ a. a.place) e ∙ s.place ∙ sym (ap (λ a. a.place) f);
      pointer = ap (λ a. a.pointer) e ∙ s.pointer ∙ sym (ap (λ a. a.pointer) f);
    }

-- how both calls end: refused alike, or each writes its result
pub data Ended {D E patch region : Bytes} {lent lent' : Lent} (c : Situation D E patch region lent lent') : Type 0 where
  both_refused : (s : Stop) → 1 ≤ s.op → answer_within D patch region lent ≡ failure s → answer_within E patch region lent' ≡ failure s → Ended c
  both-written : Results c.passes.tokens c.first.before c.second.before (answer_within D patch region lent) (answer_within E patch region lent') →
      Ended c

module _ {D E patch region : Bytes} {lent lent' : Lent} (c : Situation D E patch region lent lent') where
  -- values that are written with equal bytes are one value
  one_value : c.first.held ≡ c.second.held
  one_value =
      let p = c.passes in
      round_trip.one_text c.first.held c.second.held
      (readable_part p.tokens c.first.before c.first.held (readable p c.first) c.first.exists)
      (readable_part p.tokens c.second.before c.second.held (readable p c.second) c.second.exists)
      c.alike

  runs_alike : Alike c.passes.tokens c.first.before c.second.before 1
      (bare_run c.passes.operations c.first.before) (bare_run c.passes.operations c.second.before)
  runs_alike =
      let p = c.passes in
      alike p.tokens p.operations (inside p) 1 c.first.held c.first.before c.second.before (holding p c.first)
      (subst (λ h. Holding p.tokens h c.second.before) (sym one_value) (holding p c.second))

  pub ended : Ended c
  ended = go _ _ refl refl runs_alike
    where
      go : (r s : Run Value.Value) → bare_run c.passes.operations c.first.before ≡ r → bare_run c.passes.operations c.second.before ≡ s →
          Alike c.passes.tokens c.first.before c.second.before 1 r s → Ended c
      go r s e f (stop_alike t l) = both_refused t l (stops c.passes c.first t e) (stops c.passes c.second t f)
      go r s e f (finish_alike x there there') =
          let p = c.passes in
          let v = plant p.tokens x c.first.before in
          let w = plant p.tokens x c.second.before in
          both-written
          (record {
            after = v;
            after' = w;
            writes = writes p c.first v e;
            writes' = writes p c.second w f;
            held = x;
            held' = x;
            exists = there;
            exists' = there';
            alike = refl;
            outside = changed_inside p.tokens c.first.before c.first.held c.first.exists x;
            outside' = changed_inside p.tokens c.second.before c.second.held c.second.exists x;
          })

  -- NOBODY ELSE'S SHELF DECIDES
  isolated : Isolated c
  isolated = go ended
    where
      go : Ended c → Isolated c
      go (both_refused s l one other) =
          record {
            same = same_fields (failure s) (failure s) one other (record { number = refl; text = refl; op = refl; place = refl; pointer = refl });
            results = λ text h. refused_not_written l (sym one ∙ h);
          }
      go (both-written r) =
          record {
            same =
                same_fields (success (write r.after)) (success (write r.after')) r.writes r.writes'
                (record { number = refl; text = refl; op = refl; place = refl; pointer = refl });
            results = λ text h. r;
          }

pub isolation : IsolationStatement
isolation = record { isolated = λ D E patch region lent lent' c. isolated c }
