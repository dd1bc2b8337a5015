-- Laws of a value that is moved within its array, or set aside and added at another location.
use Rattle.std.specs.Prelude.{Result, Ok, Err}
use Prim.Native.Nat.{ℕ}
use native.Mathlib.Omega.{arith}
use mathlib.Core.Path.{◌≡◌, sym, ap, ◌∙◌, subst}
use mathlib.Core.Bool.{Bool, true, false, true≢false}
use mathlib.Core.List.{List, [], ◌∷◌}
use Rattle.spec.specs.Outcome.{Outcome, ◌>>=◌}
use Rattle.spec.specs.declared.refusal.Fault.{Fault}
use Rattle.spec.specs.Bytes.{Bytes}
use Rattle.spec.specs.Value as Plain
use Rattle.spec.specs.Operation as PlainOperation
use Rattle.origin.specs.Value as Value
use Rattle.origin.specs.Operation.{add_at, remove_at_path, move_to, copy_to}
use Rattle.tape.specs.Layout.{document_row, scratch_row}
use Rattle.tape.specs.Fields.{Row}
use Rattle.tape.specs.declared.fields.Spelling.{Spelling}
use Rattle.tape.specs.Lent.{Table}
use Rattle.table.specs.Meaning.{part_of, meant}
use Rattle.pointer.specs.Tokens.{FirstOf}
use Rattle.pointer.specs.declared.answers.First.{First}
use Rattle.pointer.proofs.WalkLaws.{first_root, first_at, first_malformed}
use Rattle.walk.specs.Bearing.{borne}
use Rattle.walk.specs.Path.{WalkIs}
use Rattle.walk.proofs.PathLaws.{first_of}
use Rattle.changes.specs.Site.{table}
use Rattle.changes.specs.Document.{Document, judged, ResultsBy, Results, results, refusal, adds_at, removes_at, ChangeAtIs}
use Rattle.changes.specs.Document.{Bearing, judged_bearing, ResultsBearing, adds_bearing, removes_bearing}
use Rattle.changes.specs.declared.answers.Change.TheVariants.{Add, Remove}
use Rattle.changes.proofs.KeptLaws.{offered_behind, frame_behind}
use Rattle.changes.proofs.TokenLaws.{some_token}
use Rattle.changes.proofs.DocumentLaws.{bearing_fits, the_bearing, no_bearing}
use Rattle.shift.specs.Shift.{ShiftIs, shifted, kept}
use Rattle.operations.specs.Answers.{PerformsBy, told_at, performs}
use Rattle.operations.specs.Stamp.{StampAsideIs}
use Rattle.operations.specs.Perform.{SetAsideIs, CopyIs, MoveAsideIs, MoveBelowIs, MoveIs}
use Rattle.operations.specs.declared.answers.Pointer.TheVariants as Pointer
use Rattle.operations.specs.declared.answers.Failure.{Failure}
use Rattle.operations.proofs.AnswerLaws.{told_ok, told_err, bearing_there, bearing_lost, path_performs, from_performs}
use Rattle.operations.proofs.PatchLaws.{patch_same, patch_then, patch_framed, patch_aside, patch-stamped}
use Rattle.operations.proofs.RemovalLaws.{document_removed, bearing_removed}
use Rattle.operations.proofs.AsideLaws.{aside_offered, aside_bearing, stamped_offered, stamped-bearing}
use Rattle.operations.proofs.StampLaws.{stamp_cell, borne-stamped}

-- an outcome that is the same gives the same results
pub same_results : {A : Type 0} {Is : ℕ → A → Type 0} {o p : Outcome A} {r : Result ℕ Fault} → o ≡ p → ResultsBy Is p r → ResultsBy Is o r
same_results e (results f d) = results (e ∙ f) d
same_results e (refusal f) = refusal (e ∙ f)

-- ---- a value copied
module _ {w : Table} {used : ℕ} {from path : Spelling} (s : Result ℕ Fault) (is : WalkIs w document_row from s)
    {place : Result ℕ Failure} (tells : place ≡ told_at Pointer.From s) (origin : ℕ) where
  pub copy_done : {aside stamps nodes' : List Row} {q : Result ℕ Fault} {r : Result ℕ Failure} (row : ℕ) → place ≡ Ok row → SetAsideIs w.nodes aside row
      → StampAsideIs aside stamps origin → ChangeAtIs (table w.texts stamps) nodes' used path (Add scratch_row) q → r ≡ told_at Pointer.Path q
      → CopyIs w nodes' used from path origin r
  unfolding copy_to ◌>>=◌
  copy_done row e aside stamps changed told =
      record {
        patch = patch_then (patch_then (patch_aside row aside) (patch-stamped _ origin stamps)) (patch_framed changed.frame);
        bearing = λ v b short gs from_is ts path_is.
            the_bearing s is b short from_is (told_ok _ s tells e) λ c kids found node inside.
            let d = aside_bearing b node inside aside in
            let offered = aside_offered b.document node inside aside in
            let there = adds_bearing scratch_row (stamp_cell origin c) _ (stamped_offered origin offered stamps) in
            path_performs (λ n. bearing_there gs v n found) told
            (same_results (rw found (ap (λ x. judged_bearing (add_at ts x v)) (sym (borne-stamped w.texts origin c kids))))
            (changed.bearing v (stamped-bearing origin offered stamps d) short ts path_is _ there));
      }

  pub copy_refused : (x : Failure) → place ≡ Err x → CopyIs w w.nodes used from path origin (Err x)
  unfolding copy_to ◌>>=◌
  copy_refused x e =
      let (f, lost, is-failure) = told_err _ s tells e in
      record {
        patch = patch_same;
        bearing = λ v b short gs from_is ts path_is.
            let none = no_bearing s is b short from_is lost in
            from_performs f is-failure (λ n. bearing_lost gs v n none) (rw none);
      }

-- ---- a value moved
-- where the value is set aside: removed, and added in what is left
module _ {w : Table} {left-nodes : List Row} {used : ℕ} {from path : Spelling} (q : Result ℕ Fault) (is : ChangeAtIs w left-nodes used from Remove q) where
  pub aside_refused : {f : Fault} → q ≡ Err f → MoveAsideIs w left-nodes used from path q
  unfolding ◌>>=◌
  aside_refused e =
      record {
        patch = patch_framed is.frame;
        held = λ v d short g gs from_is ts path_is x kids offered.
            plain (document_removed d (g ∷ gs)) (PlainOperation.add_at ts (meant w.texts x kids))
            (is.held v d short (g ∷ gs) from_is PlainOperation.remove_at_path removes_at) e;
        bearing = λ v b short g gs from_is ts path_is x kids offered.
            bears (bearing_removed b (g ∷ gs)) (add_at ts (borne w.texts x kids)) (is.bearing v b short (g ∷ gs) from_is remove_at_path removes_bearing) e;
      }
    where
      plain : {r : Result ℕ Fault} {x : Fault} {o : Outcome Plain.Value} → judged o ≡ o → (then-it : Plain.Value → Outcome Plain.Value)
          → Results w.texts left-nodes (judged o) r → r ≡ Err x → Results w.texts left-nodes (judged (o >>= then-it)) r
      plain same then-it (results f d') h = absurd (let z : ◌≡◌ {A = ℕ} 0 1 = cc in omega arith)
      plain same then-it (refusal {e} f) h = refusal {e = e} (rw (sym same ∙ f))

      bears : {r : Result ℕ Fault} {x : Fault} {o : Outcome Value.Value} → judged_bearing o ≡ o → (then-it : Value.Value → Outcome Value.Value)
          → ResultsBearing w.texts left-nodes (judged_bearing o) r → r ≡ Err x
          → ResultsBearing w.texts left-nodes (judged_bearing (o >>= then-it)) r
      bears same then-it (results f d') h = absurd (let z : ◌≡◌ {A = ℕ} 0 1 = cc in omega arith)
      bears same then-it (refusal {e} f) h = refusal {e = e} (rw (sym same ∙ f))

  pub aside_done : {nodes' : List Row} {r : Result ℕ Fault} (left : ℕ) → q ≡ Ok left → ChangeAtIs (table w.texts left-nodes) nodes' left path (Add scratch_row) r
      → MoveAsideIs w nodes' used from path r
  unfolding ◌>>=◌
  aside_done {nodes'} {r} left e changed =
      record {
        patch = patch_then (patch_framed is.frame) (patch_framed changed.frame);
        held = λ v d short g gs from_is ts path_is x kids offered.
            plain (document_removed d (g ∷ gs)) (PlainOperation.add_at ts (meant w.texts x kids))
            (λ u then-it. changed.held u then-it short ts path_is _ (adds_at scratch_row x kids (offered_behind (frame_behind is.frame) offered)))
            (is.held v d short (g ∷ gs) from_is PlainOperation.remove_at_path removes_at) e;
        bearing = λ v b short g gs from_is ts path_is x kids offered.
            bears (bearing_removed b (g ∷ gs)) (add_at ts (borne w.texts x kids))
            (λ u then-it. changed.bearing u then-it short ts path_is _ (adds_bearing scratch_row x kids (offered_behind (frame_behind is.frame) offered)))
            (is.bearing v b short (g ∷ gs) from_is remove_at_path removes_bearing) e;
      }
    where
      plain : {p : Result ℕ Fault} {o : Outcome Plain.Value} → judged o ≡ o → (add : Plain.Value → Outcome Plain.Value)
          → ((u : Plain.Value) → Document (table w.texts left-nodes) left u → Results w.texts nodes' (judged (add u)) r)
          → Results w.texts left-nodes (judged o) p → p ≡ Ok left → Results w.texts nodes' (judged (o >>= add)) r
      plain same add added (results {used = now} {v = u} f d') h =
          let left-same : now ≡ left = cc in
          same_results (rw (sym same ∙ f)) (added u (subst (λ n. Document (table w.texts left-nodes) n u) left-same d'))
      plain same add added (refusal f) h = absurd (let z : ◌≡◌ {A = ℕ} 0 1 = cc in omega arith)

      bears : {p : Result ℕ Fault} {o : Outcome Value.Value} → judged_bearing o ≡ o → (add : Value.Value → Outcome Value.Value)
          → ((u : Value.Value) → Bearing (table w.texts left-nodes) left u → ResultsBearing w.texts nodes' (judged_bearing (add u)) r)
          → ResultsBearing w.texts left-nodes (judged_bearing o) p → p ≡ Ok left → ResultsBearing w.texts nodes' (judged_bearing (o >>= add)) r
      bears same add added (results {used = now} {v = u} f d') h =
          let left-same : now ≡ left = cc in
          same_results (rw (sym same ∙ f)) (added u (subst (λ n. Bearing (table w.texts left-nodes) n u) left-same d'))
      bears same add added (refusal f) h = absurd (let z : ◌≡◌ {A = ℕ} 0 1 = cc in omega arith)

-- from another location than the root
module _ {w : Table} {used : ℕ} {from path : Spelling} (s : Result ℕ Fault) (is : WalkIs w document_row from s)
    {place : Result ℕ Failure} (tells : place ≡ told_at Pointer.From s) where
  pub value-moved : {aside nodes' : List Row} {q : Result ℕ Fault} {r : Result ℕ Failure} (row : ℕ) → place ≡ Ok row → SetAsideIs w.nodes aside row
      → MoveAsideIs (table w.texts aside) nodes' used from path q → r ≡ told_at Pointer.Path q → MoveBelowIs w nodes' used from path r
  unfolding move_to ◌>>=◌
  value-moved row e aside moves told =
      record {
        patch = patch_then (patch_aside row aside) moves.patch;
        bearing = λ v b short g gs from_is ts path_is.
            the_bearing s is b short from_is (told_ok _ s tells e) λ c kids found node inside.
            path_performs (λ n. bearing_there (g ∷ gs) v n found) told
            (same_results (rw found)
            (moves.bearing v (aside_bearing b node inside aside) short g gs from_is ts path_is c kids (aside_offered b.document node inside aside)));
      }

  pub value-lost : (x : Failure) → place ≡ Err x → MoveBelowIs w w.nodes used from path (Err x)
  unfolding move_to ◌>>=◌
  value-lost x e =
      let (f, lost, is-failure) = told_err _ s tells e in
      record {
        patch = patch_same;
        bearing = λ v b short g gs from_is ts path_is.
            let none = no_bearing s is b short from_is lost in
            from_performs f is-failure (λ n. bearing_lost (g ∷ gs) v n none) (rw none);
      }

-- within one array, where that is done and where not
done_performs : {A : Type 0} {Is : ℕ → A → Type 0} {o : Outcome A} {pointer : ℕ → ℕ} {used : ℕ} → ResultsBy Is o (Ok used)
    → PerformsBy Is o pointer (Ok used)
done_performs (results e d) = performs e d

pub shift_done : {w : Table} {nodes' : List Row} {used : ℕ} {from path : Spelling} {r : Bool} → r ≡ true → ShiftIs w nodes' used from path r
    → MoveBelowIs w nodes' used from path (Ok used)
shift_done e (shifted moves) =
    record { patch = moves.patch; bearing = λ v b short g gs from_is ts path_is. done_performs (moves.bearing v b short g gs from_is ts path_is) }
shift_done e (kept is) = absurd (true≢false (sym e))

pub shift_kept : {w : Table} {nodes' : List Row} {used : ℕ} {from path : Spelling} {r : Bool} → r ≡ false → ShiftIs w nodes' used from path r
    → nodes' ≡ w.nodes
shift_kept e (shifted moves) = absurd (true≢false e)
shift_kept e (kept is) = is

-- what holds of the table as it then is holds of it as it was
pub below_kept : {w : Table} {kept-nodes nodes' : List Row} {used : ℕ} {from path : Spelling} {r : Result ℕ Failure} → kept-nodes ≡ w.nodes
    → MoveBelowIs (table w.texts kept-nodes) nodes' used from path r → MoveBelowIs w nodes' used from path r
below_kept {w} {nodes' = nodes'} {used} {from} {path} {r} e is =
    subst (λ n. MoveBelowIs (table w.texts n) nodes' used from path r) e is

-- from any location
module _ {w : Table} {used : ℕ} {from path : Spelling} (pointer : Bytes) (pointer_is : pointer ≡ part_of w.texts from) (f : First) (is : FirstOf pointer f)
  where
    pub move_root : f ≡ First.Root → MoveIs w w.nodes used from path (Ok used)
    unfolding move_to
    move_root e =
        record {
          patch = patch_same;
          bearing = λ v d short gs from_is ts path_is.
              let none_is : gs ≡ [] = first_root (part_of w.texts from) f (first_of pointer pointer_is is) gs e from_is.is in
              performs {v = v} (rw none_is (bearing_fits d)) d;
        }

    pub move_malformed : {r : Result ℕ Failure} → f ≡ First.Malformed → MoveIs w w.nodes used from path r
    move_malformed e =
        record {
          patch = patch_same;
          bearing = λ v d short gs from_is ts path_is. absurd (first_malformed (part_of w.texts from) f (first_of pointer pointer_is is) gs e from_is.is);
        }

    pub move_at : {nodes' : List Row} {r : Result ℕ Failure} (at : ℕ) → f ≡ First.At at → MoveBelowIs w nodes' used from path r → MoveIs w nodes' used from path r
    move_at at e moves =
        record {
          patch = moves.patch;
          bearing = λ v d short gs from_is ts path_is.
              let there = first_at (part_of w.texts from) f (first_of pointer pointer_is is) at gs e from_is.is in
              some_token (part_of w.texts from) at gs there λ h hs some.
              rw some (moves.bearing v d short h hs (rw some at from_is) ts path_is);
        }
