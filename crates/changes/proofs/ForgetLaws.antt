-- The origins of a document forgotten: what a change answers with them, it answers without.
use Rattle.std.specs.Prelude.{Result}
use Prim.Native.Nat.{ℕ}
use native.Mathlib.Omega.{arith}
use mathlib.Core.Path.{◌≡◌, refl, ap, sym, ◌∙◌, subst}
use mathlib.Core.List.{List}
use lib.Dec.{leb}
use Rattle.spec.specs.Outcome.{Outcome, ok, refused, ◌>>=◌}
use Rattle.spec.specs.Limits.{max_depth, max_nodes}
use Rattle.spec.specs.declared.refusal.Fault.{Fault}
use Rattle.spec.specs.Value as Plain
use Rattle.spec.specs.Pointer.{Tokens}
use Rattle.spec.specs.Operation as PlainOperation
use Rattle.tape.specs.Fields.{Row}
use Rattle.tape.specs.declared.fields.Spelling.{Spelling}
use Rattle.tape.specs.Lent.{Texts, Table}
use Rattle.origin.specs.Value as Value
use Rattle.origin.specs.Value.{forget}
use Rattle.origin.specs.Operation.{not_too_deep, not_too_large}
use Rattle.origin.specs.Forgetting.{forgotten}
use Rattle.origin.proofs.ForgetLaws.{forgotten_if, forgotten_then, forget-add_at, forget-remove_at_path, forget-replace_at_path}
use Rattle.walk.specs.Bearing.{borne}
use Rattle.walk.specs.Names.{Short}
use Rattle.walk.specs.Path.{PathIs}
use Rattle.walk.proofs.Children.{forget-borne}
use Rattle.changes.specs.Rows.{Frame}
use Rattle.changes.specs.Document.{Document, judged, Results, results, refusal, AtLocation, MakesAt, adds_at, removes_at, replaces_at, ChangeAtIs}
use Rattle.changes.specs.Document.{Bearing, judged_bearing, ResultsBearing, AtLocationBearing}
use Rattle.changes.specs.Document.{MakesBearing, adds_bearing, removes_bearing, replaces_bearing}
use Rattle.changes.specs.declared.answers.Change.{Change}

-- a document's nodes bear some origins
pub document-bearing : {w : Table} {used : ℕ} {v : Plain.Value} (d : Document w used v) → Bearing w used (borne w.texts d.c d.kids)
document-bearing {w} d =
    let same = forget-borne w.texts d.c d.kids in
    record {
      document =
          record {
            c = d.c;
            kids = d.kids;
            held = d.held;
            means = sym same;
            ends = d.ends;
            few = d.few;
            shallow = omega (arith, ap Plain.depth (same ∙ d.means), d.shallow);
            long = d.long;
          };
      bears = refl;
    }

-- ---- the limits
bearing-deep : (v : Value.Value) → forgotten (not_too_deep v) ≡ PlainOperation.not_too_deep (forget v)
unfolding not_too_deep PlainOperation.not_too_deep forgotten
bearing-deep v = forgotten_if (leb (Plain.depth (forget v)) max_depth) (ok v) (refused 5 0) refl refl

bearing_large : (v : Value.Value) → forgotten (not_too_large v) ≡ PlainOperation.not_too_large (forget v)
unfolding not_too_large PlainOperation.not_too_large forgotten
bearing_large v = forgotten_if (leb (Plain.nodes (forget v)) max_nodes) (ok v) (refused 6 0) refl refl

pub forget-judged : (o : Outcome Value.Value) → forgotten (judged_bearing o) ≡ judged (forgotten o)
forget-judged o =
    forgotten_then (o >>= not_too_deep) not_too_large PlainOperation.not_too_large bearing_large
    ∙ ap (λ r. r >>= PlainOperation.not_too_large) (forgotten_then o not_too_deep PlainOperation.not_too_deep bearing-deep)

-- ---- what becomes of the document
pub plain_results : {T : Texts} {nodes' : List Row} {o : Outcome Value.Value} {r : Result ℕ Fault} → ResultsBearing T nodes' o r → Results T nodes' (forgotten o) r
unfolding forgotten
plain_results (results e b) = results (ap forgotten e) b.document
plain_results (refusal e) = refusal (ap forgotten e)

-- a change at a location
pub bearing_makes : {C : Type 0} {w : Table} {change : Change} {f : AtLocation} → MakesAt w change f
    → ((g : AtLocationBearing) → MakesBearing w change g → ((ts : Tokens) (v : Value.Value) → forgotten (g ts v) ≡ f ts (forget v)) → C) → C
bearing_makes {w = w} (adds_at source x kids offered) then-it =
    then-it _ (adds_bearing source x kids offered)
    (λ ts v. forget-add_at ts (borne w.texts x kids) v ∙ ap (λ y. PlainOperation.add_at ts y (forget v)) (forget-borne w.texts x kids))
bearing_makes removes_at then-it = then-it _ removes_bearing forget-remove_at_path
bearing_makes {w = w} (replaces_at source x kids offered) then-it =
    then-it _ (replaces_bearing source x kids offered)
    (λ ts v. forget-replace_at_path ts (borne w.texts x kids) v ∙ ap (λ y. PlainOperation.replace_at_path ts y (forget v)) (forget-borne w.texts x kids))

-- the contract, by what it says with origins
pub change_at_is : {w : Table} {nodes' : List Row} {used : ℕ} {path : Spelling} {change : Change} {r : Result ℕ Fault} → Frame w.nodes nodes' r
    → ((v : Value.Value) → Bearing w used v → Short w.texts → (ts : Tokens) → PathIs w.texts path ts
    → (f : AtLocationBearing) → MakesBearing w change f → ResultsBearing w.texts nodes' (judged_bearing (f ts v)) r) → ChangeAtIs w nodes' used path change r
change_at_is {w} {nodes'} {r = r} frame all =
    record {
      frame = frame;
      held = λ v d short ts p f makes.
          bearing_makes makes λ g made same.
          let b = borne w.texts d.c d.kids in
          let plain : forgotten (judged_bearing (g ts b)) ≡ judged (f ts v) =
          forget-judged (g ts b) ∙ ap judged (same ts b ∙ ap (f ts) (forget-borne w.texts d.c d.kids ∙ d.means)) in
          subst (λ o. Results w.texts nodes' o r) plain (plain_results (all b (document-bearing d) short ts p g made));
      bearing = all;
    }
