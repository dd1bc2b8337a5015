-- Laws of a move with its undo noted, each for one way out of a function.
use Rattle.std.specs.Prelude.{Option, Some, None, Result, Ok, Err}
use Prim.Native.Nat.{ℕ, ◌+◌, ◌<◌}
use native.Mathlib.Omega.{arith}
use mathlib.Core.Path.{◌≡◌, ap, sym, subst, ◌∙◌}
use mathlib.Core.Bool.{Bool, true, false, ◌&&◌}
use mathlib.Core.List.{List, [], ◌∷◌, ◌++◌}
use Rattle.spec.specs.Outcome.{Outcome, ok, ◌>>=◌}
use Rattle.spec.specs.declared.refusal.Fault.{Fault}
use Rattle.spec.specs.Bytes.{Bytes, Text, ascii}
use Rattle.spec.specs.Forest.{Forest, size}
use Rattle.spec.specs.Value as Value
use Rattle.spec.specs.Value.{depth, is_object}
use Rattle.spec.specs.Pointer.{Tokens, tokens, walk}
use Rattle.spec.specs.Operation as Operation
use Rattle.spec.specs.Operation.{Operation, add_at, remove_at_path, move_to, not_too_deep, not_too_large, limited}
use Rattle.spec.specs.Patch.{proper_prefix, uses_from, which_pointer}
use Rattle.spec.proofs.OutcomeLaws.{refused≢ok, both_ok}
use Rattle.spec.proofs.TextLaws.{both_true}
use Rattle.claims.specs.Operations.{adding, replacing}
use Rattle.text.specs.Decode.{decode}
use Rattle.tape.specs.Layout.{document_row, scratch_row}
use Rattle.tape.specs.Fields.{Row}
use Rattle.tape.specs.declared.fields.Spelling.{Spelling}
use Rattle.tape.specs.declared.fields.Cell.{Cell}
use Rattle.tape.specs.Lent.{Texts, Table}
use Rattle.table.specs.Meaning.{part_of, meant}
use Rattle.table.specs.Sound.{NodeHeld}
use Rattle.origin.specs.Value as Origin
use Rattle.origin.specs.Value.{forget}
use Rattle.origin.specs.Pointer as Origins
use Rattle.origin.specs.Operation as OriginOperation
use Rattle.walk.specs.Bearing.{borne}
use Rattle.pointer.specs.Tokens.{FirstOf}
use Rattle.pointer.specs.Prefix.{PrefixOf}
use Rattle.pointer.specs.declared.answers.First.{First}
use Rattle.pointer.proofs.WalkLaws.{first_root, first_at, first_malformed}
use Rattle.walk.specs.Names.{Short}
use Rattle.walk.specs.Path.{PathIs, WalkIs}
use Rattle.shape.specs.Members.{StringIs}
use Rattle.changes.specs.Site.{table}
use Rattle.changes.specs.Document.{Document, judged, Results, results, refusal, removes_at, ChangeAtIs, Bearing, judged_bearing, ResultsBearing}
use Rattle.changes.specs.declared.answers.Change.TheVariants.{Add, Remove}
use Rattle.changes.proofs.TokenLaws.{some_token}
use Rattle.changes.proofs.DocumentLaws.{the_value, no_value, the_bearing}
use Rattle.operations.specs.Answers.{from_or_path, told_at}
use Rattle.operations.specs.declared.answers.Pointer.TheVariants as Pointer
use Rattle.operations.specs.declared.answers.Failure.{Failure}
use Rattle.operations.specs.Perform.{SetAsideIs, MoveAsideIs, Listed, OperationFor, PerformIs}
use Rattle.operations.proofs.AnswerLaws.{which_from, from_there, bearing_there, same_performs, path_performs}
use Rattle.operations.proofs.BearingLaws.{move_with}
use Rattle.operations.proofs.PatchLaws.{patch_then, patch_aside}
use Rattle.operations.proofs.RemovalLaws.{document_removed}
use Rattle.operations.proofs.AsideLaws.{aside_offered, aside_document, aside_bearing}
use Rattle.operations.proofs.TransferLaws.{same_results, aside_refused, aside_done}
use Rattle.operations.proofs.ToldLaws.{told}
use Rattle.operations.proofs.PerformLaws.{move_is, spelled_not, source}
use Rattle.reversal.specs.Undo.{result_or, value_at, remaining, mended, is_replace, undo_moved, undo_move, undo_of}
use Rattle.undo_log.specs.Log.{Noted, ValueHeld, undo_add, NoteIs}
use Rattle.undo.specs.Mend.{NoteReplacedIs, MendIs}
use Rattle.undo.specs.Step.{rows_of, StepsTo, StepsBearing, PlainIs, InObjectIs, HoldsIs, MoveApartIs, MoveFromIs, MoveBelowIs, MoveStepIs}
use Rattle.undo_log.specs.declared.log.Log.{Log}
use Rattle.undo.specs.declared.logged.Logged.{Logged}
use Rattle.undo_log.specs.declared.note.Action.TheVariants as Action
use Rattle.undo_log.specs.declared.note.Target.TheVariants as Target
use Rattle.undo.proofs.PathLaws.{value-walked, depth_walked}
use Rattle.undo.proofs.MendLaws.{target_at}
use Rattle.undo.proofs.AncestorLaws.{removes_there, prefix_there, holder_replaced}

-- ---- what is judged and accepted was a result
pub judged_result : (o : Outcome Value.Value) (v : Value.Value) → judged o ≡ ok v → (u : Value.Value) × (o ≡ ok u)
judged_result o v h =
    let (y, e, i) = both_ok (o >>= not_too_deep) not_too_large v h in
    let (u, f, j) = both_ok o not_too_deep y e in
    (u, f)

-- the parts of a move that succeeds
record Moves (g : Text) (gs ts : Tokens) (v : Value.Value) : Type 0 where
  pub value : Value.Value
  pub there : walk (g ∷ gs) v ≡ ok value
  pub left : Value.Value
  pub removed : remove_at_path (g ∷ gs) v ≡ ok left
  pub result : Value.Value
  pub added : add_at ts value left ≡ ok result

moves : (g : Text) (gs ts : Tokens) (v w : Value.Value) → judged (move_to (g ∷ gs) ts v) ≡ ok w → Moves g gs ts v
unfolding move_to
moves g gs ts v w h =
    let (u, e) = judged_result (move_to (g ∷ gs) ts v) w h in
    let (x, f, i) = both_ok (walk (g ∷ gs) v) _ u e in
    let (left, f', j) = both_ok (remove_at_path (g ∷ gs) v) _ u i in
    record { value = x; there = f; left = left; removed = f'; result = u; added = j }

-- ---- whether the value that is replaced at `path` holds `from`
module _ (w : Table) (path from : Spelling) (to : Bytes) (to_is : to ≡ part_of w.texts path) (source : Bytes) (source_is : source ≡ part_of w.texts from)
    {b : Bool} (prefix : PrefixOf (tokens (decode to)) (tokens (decode source)) b) where
  prefix_told : {ts us : Tokens} → PathIs w.texts path ts → PathIs w.texts from us → b ≡ proper_prefix ts us
  prefix_told {ts} {us} p q =
      prefix.right ts us (ap (λ s. tokens (decode s)) to_is ∙ p.is) (ap (λ s. tokens (decode s)) source_is ∙ q.is)

  pub holds_not : b ≡ false → HoldsIs w path from false
  holds_not e used v d short ts p g gs q left removed = rw (sym (prefix_told p q) ∙ e)

  module _ (e : b ≡ true) (f : First) (first : FirstOf to f) where
    first_here : FirstOf (part_of w.texts path) f
    first_here = subst (λ s. FirstOf s f) to_is first

    pub holds_root : f ≡ First.Root → HoldsIs w path from true
    unfolding mended is_replace
    holds_root at-root used v d short ts p g gs q left removed =
        let none : ts ≡ [] = first_root (part_of w.texts path) f first_here ts at-root p.is in
        rw (sym (prefix_told p q) ∙ e, none)

    pub holds_at : (at : ℕ) → f ≡ First.At at → {r : Bool} → InObjectIs w path r → HoldsIs w path from r
    holds_at at below {r} in-object used v d short ts p g gs q left removed =
        some_token (part_of w.texts path) at ts (first_at (part_of w.texts path) f first_here at ts below p.is) λ t us some.
        let path_is = subst (PathIs w.texts path) some p in
        let is-prefix : proper_prefix (t ∷ us) (g ∷ gs) ≡ true = sym (prefix_told path_is q) ∙ e in
        let replaced = holder_replaced t us g gs v left is-prefix removed in
        rw (some, is-prefix, replaced.is) (in-object used v d short t us path_is replaced.parent replaced.there)

    pub holds_malformed : f ≡ First.Malformed → {r : Bool} → HoldsIs w path from r
    holds_malformed bad used v d short ts p g gs q left removed =
        absurd (first_malformed (part_of w.texts path) f first_here ts bad p.is)

-- ---- a move in two steps
no_result : {T : Texts} {o : Outcome Value.Value} {nodes' : List Row} {r : Result ℕ Fault} {x : Fault} {C : Type 0} → Results T nodes' o r
    → r ≡ Err x
    → (v : Value.Value) → o ≡ ok v → C
no_result (results f d') h v e = absurd (let z : ◌≡◌ {A = ℕ} 0 1 = cc in omega arith)
no_result (refusal f) h v e = absurd (refused≢ok (sym f ∙ e))

module _ {w : Table} {aside left-nodes : List Row} {used row : ℕ} {from : Spelling} (is : SetAsideIs w.nodes aside row) (q : Result ℕ Fault)
    (removed : ChangeAtIs (table w.texts aside) left-nodes used from Remove q) where
  left_document : (left : ℕ) → q ≡ Ok left → {v : Value.Value} → Document w used v → Short w.texts → {g : Text} {gs : Tokens}
      → PathIs w.texts from (g ∷ gs) → {c : Cell} {kids : Forest Cell} → NodeHeld w row c kids → row + size kids < used → (u : Value.Value)
      → remove_at_path (g ∷ gs) v ≡ ok u → Document (table w.texts left-nodes) left u
  left_document left e {v} d short {g} {gs} from_is node inside u there =
      let aside-d = aside_document d node inside is in
      go (removed.held v aside-d short (g ∷ gs) from_is remove_at_path removes_at) e (document_removed aside-d (g ∷ gs) ∙ there)
    where
      go : {o : Outcome Value.Value} {r : Result ℕ Fault} → Results w.texts left-nodes o r → r ≡ Ok left → o ≡ ok u
          → Document (table w.texts left-nodes) left u
      go (results {used = n} {v = x} f d') h k =
          let same : n ≡ left = cc in
          let value : x ≡ u = cc in
          subst (λ m. Document (table w.texts left-nodes) m u) same (subst (λ y. Document (table w.texts left-nodes) n y) value d')
      go (refusal f) h k = absurd (let z : ◌≡◌ {A = ℕ} 0 1 = cc in omega arith)

module _ {w : Table} {aside left-nodes : List Row} {used row : ℕ} {from path : Spelling} (is : SetAsideIs w.nodes aside row) (q : Result ℕ Fault)
    (removed : ChangeAtIs (table w.texts aside) left-nodes used from Remove q) where
  apart-results : {nodes' : List Row} {r : Result ℕ Fault} → MoveAsideIs (table w.texts aside) nodes' used from path r → {v : Value.Value} → Document w used v
      → Short w.texts → {g : Text} {gs : Tokens} → PathIs w.texts from (g ∷ gs) → {ts : Tokens} → PathIs w.texts path ts → {c : Cell}
      → {kids : Forest Cell} → NodeHeld w row c kids → row + size kids < used → walk (g ∷ gs) v ≡ ok (meant w.texts c kids)
      → Results w.texts nodes' (judged (move_to (g ∷ gs) ts v)) r
  unfolding move_to ◌>>=◌
  apart-results moved {v} d short {g} {gs} from_is {ts} path_is {c} {kids} node inside found =
      same_results (rw found)
      (moved.held v (aside_document d node inside is) short g gs from_is ts path_is c kids (aside_offered d node inside is))

  -- with origins
  apart-bearing : {nodes' : List Row} {r : Result ℕ Fault} → MoveAsideIs (table w.texts aside) nodes' used from path r → {v : Origin.Value} → Bearing w used v
      → Short w.texts → {g : Text} {gs : Tokens} → PathIs w.texts from (g ∷ gs) → {ts : Tokens} → PathIs w.texts path ts → {c : Cell}
      → {kids : Forest Cell} → NodeHeld w row c kids → row + size kids < used → Origins.walk (g ∷ gs) v ≡ ok (borne w.texts c kids)
      → ResultsBearing w.texts nodes' (judged_bearing (OriginOperation.move_to (g ∷ gs) ts v)) r
  unfolding OriginOperation.move_to ◌>>=◌
  apart-bearing moved {v} b short {g} {gs} from_is {ts} path_is {c} {kids} node inside found =
      same_results (rw found)
      (moved.bearing v (aside_bearing b node inside is) short g gs from_is ts path_is c kids (aside_offered b.document node inside is))

  pub apart_refused : {f : Fault} → q ≡ Err f → {work : Bytes} {log : Log} → (r : Result Logged Failure) → rows_of r ≡ told_at Pointer.Path q
      → MoveApartIs w left-nodes work work used from path row log r
  apart_refused e r same =
      record {
        patch = patch_then (patch_aside row is) (aside_refused {path = path} q removed e).patch;
        held = λ v d short g gs from_is ts path_is c kids node inside found left rem os noted.
            let result = apart-results (aside_refused q removed e) d short from_is path_is node inside found in
            record {
              results = path_performs (λ n. from_there (g ∷ gs) v n found) same result;
              noted = λ v' h logged m. no_result result e v' h;
            };
        bearing = λ v b short g gs from_is ts path_is c kids node inside found.
            path_performs (λ n. bearing_there (g ∷ gs) v n found) same
            (apart-bearing (aside_refused q removed e) b short from_is path_is node inside found);
      }

  pub apart-done : (left : ℕ) → q ≡ Ok left → {work work' : Bytes} {log mended-log : Log}
      → MendIs (table w.texts left-nodes) log path work work' mended-log
      → {nodes' : List Row} (p : Result ℕ Fault) → ChangeAtIs (table w.texts left-nodes) nodes' left path (Add scratch_row) p → (r : Result Logged Failure)
      → rows_of r ≡ told_at Pointer.Path p → ((logged : Logged) → r ≡ Ok logged → logged.log ≡ mended-log) → MoveApartIs w nodes' work work' used from path row log r
  apart-done left e {work' = work'} mend p added r same same_log =
      let whole = aside_done q removed left e added in
      record {
        patch = patch_then (patch_aside row is) whole.patch;
        held = λ v d short g gs from_is ts path_is c kids node inside found u rem os noted.
            record {
              results = path_performs (λ n. from_there (g ∷ gs) v n found) same (apart-results whole d short from_is path_is node inside found);
              noted = λ v' h logged answered.
                  let m = moves g gs ts v v' h in
                  let left_is : m.left ≡ u = one (sym m.removed ∙ rem) in
                  subst (λ l. Noted l work' (mended ts u ∷ os)) (sym (same_log logged answered))
                  (mend left u (left_document is q removed left e d short from_is node inside u rem) short ts path_is
                  (record { new = m.value; result = m.result; is = ap (add_at ts m.value) (sym left_is) ∙ m.added }) os noted);
            };
        bearing = λ v b short g gs from_is ts path_is c kids node inside found.
            path_performs (λ n. bearing_there (g ∷ gs) v n found) same (apart-bearing whole b short from_is path_is node inside found);
      }
    where
      one : {a b : Value.Value} → ok a ≡ ok b → a ≡ b
      one f = cc

-- ---- what the undo of a move is
module _ (o : Operation) (kind : o.kind ≡ Operation.move) {g : Text} {gs : Tokens} (from : o.from ≡ g ∷ gs) (v left : Value.Value)
    (removed : remove_at_path (g ∷ gs) v ≡ ok left) where
  undo_over : (proper_prefix o.path (g ∷ gs) && is_replace (mended o.path left).kind) ≡ true
      → undo_of o v ≡ replacing o.path (value_at o.path v) ∷ []
  unfolding undo_of undo_move undo_moved remaining result_or
  undo_over e = rw (kind, from, removed, e)

  undo_apart : (proper_prefix o.path (g ∷ gs) && is_replace (mended o.path left).kind) ≡ false
      → undo_of o v ≡ mended o.path left ∷ adding (g ∷ gs) (value_at (g ∷ gs) v) ∷ []
  unfolding undo_of undo_move undo_moved remaining result_or
  undo_apart e = rw (kind, from, removed, e)

steps_as : {T : Texts} {nodes' : List Row} {o p : Outcome Value.Value} {pointer which : ℕ → ℕ} {us vs : List Operation} {work' : Bytes} {r : Result Logged Failure} → o ≡ p
    → ((n : ℕ) → pointer n ≡ which n) → us ≡ vs → StepsTo T nodes' p which vs work' r → StepsTo T nodes' o pointer us work' r
steps_as {work' = work'} {r} e g f s =
    record { results = same_performs e g s.results; noted = λ v h logged m. subst (Noted logged.log work') (sym f) (s.noted v (sym e ∙ h) logged m) }

-- an operation as it is, by what it answers
pub plain_is : {w : Table} {nodes' : List Row} {used row op : ℕ} {log : Log} {q : Result ℕ Failure} → PerformIs w nodes' used row op q
    → (r : Result Logged Failure) → rows_of r ≡ q → ((logged : Logged) → r ≡ Ok logged → logged.log ≡ log) → PlainIs w nodes' used row op log r
plain_is {w} {nodes'} {used} {row} {op} is r e same = record { performs = subst (PerformIs w nodes' used row op) (sym e) is; same = same }

-- so a move, in whatever form it is asked for
plain_bearing : {w : Table} {nodes' : List Row} {used row op : ℕ} {log : Log} {r : Result Logged Failure} → PlainIs w nodes' used row op log r → {v : Origin.Value}
    → Bearing w used v → Short w.texts → {o : Operation} (l : Listed w row o) → StepsBearing w nodes' op l v r
plain_bearing p {v} b short {o} l = p.performs.bearing v b short o l tt

plain_moves : {w : Table} {nodes' : List Row} {used row op : ℕ} {path : Spelling} {log : Log} {r : Result Logged Failure} → PlainIs w nodes' used row op log r
    → OperationFor (λ k. k ≡ op) w nodes' used row path Operation.move (rows_of r)
plain_moves {w} {nodes'} {r = r} p =
    record {
      patch = p.performs.patch;
      bearing = λ k same v b short o l moves. subst (λ m. StepsBearing w nodes' m l v r) (sym same) (plain_bearing p b short l);
    }

-- with what is noted before it
pub plain_steps : {w : Table} {nodes' : List Row} {used row op : ℕ} {log : Log} {r : Result Logged Failure} → PlainIs w nodes' used row op log r → {v : Value.Value}
    → Document w used v → Short w.texts → {o : Operation} → Listed w row o → {us : List Operation} {work : Bytes}
    → ((u : Value.Value) → limited o v ≡ ok u → Noted log work us) → StepsTo w.texts nodes' (limited o v) (which_pointer o v) us work r
plain_steps p {v} d short {o} l {us} {work} noted =
    record {
      results = p.performs.held v d short o l;
      noted = λ u h logged m. subst (λ k. Noted k work us) (sym (p.same logged m)) (noted u h);
    }

move_limited : (o : Operation) (v : Value.Value) → o.kind ≡ Operation.move → {gs : Tokens} → o.from ≡ gs → limited o v ≡ judged (move_to gs o.path v)
move_limited o v kind from = move_is o v kind ∙ ap (λ g. judged (move_to g o.path v)) from

move_pointer : (o : Operation) (v : Value.Value) → o.kind ≡ Operation.move → {gs : Tokens} → o.from ≡ gs → (n : ℕ) → which_pointer o v n ≡ from_or_path gs v n
unfolding uses_from
move_pointer o v kind from n = which_from o v (ap uses_from kind) n ∙ ap (λ g. from_or_path g v n) from

module _ {w : Table} {used row at : ℕ} {from path : Spelling} {b : Bool} (holds : HoldsIs w path from b) where
  pub from_over : b ≡ true → {log replaced : Log} {work work' : Bytes} → NoteReplacedIs w log path work work' replaced → {nodes' : List Row} {r : Result Logged Failure}
      → {op : ℕ} → PlainIs w nodes' used row op replaced r → MoveFromIs w nodes' work work' used row op from path at log r
  from_over e {log} {replaced} {work} {work'} note plain =
      record {
        patch = plain.performs.patch;
        held = λ v d short o l kind g gs from_is from-path path_is c kids node inside found os noted.
            let (left, removed) = removes_there g gs v _ found in
            let over = sym (holds used v d short o.path path_is g gs from-path left removed) ∙ e in
            let prefix = (both_true (proper_prefix o.path (g ∷ gs)) _ over).0 in
            let there = prefix_there o.path (g ∷ gs) v _ prefix found in
            plain_steps plain d short l λ u h.
            subst (λ us. Noted replaced work' (us ++ os)) (sym (undo_over o kind from_is v left removed over))
            (note used v d short o.path path_is there os noted);
        bearing = λ v b short o l kind g gs from_is from-path path_is c kids node inside found. plain_bearing plain b short l;
      }

  pub from-apart : b ≡ false → {log added : Log} {work work₁ work' : Bytes} → NoteIs w log (Action.Add at) (Target.At from) work work₁ added
      → {nodes' : List Row} {r : Result Logged Failure} → MoveApartIs w nodes' work₁ work' used from path at added r
      → {op : ℕ} → MoveFromIs w nodes' work work' used row op from path at log r
  from-apart e note apart {op} =
      record {
        patch = apart.patch;
        held = λ v d short o l kind g gs from_is from-path path_is c kids node inside found os noted.
            let (left, removed) = removes_there g gs v _ found in
            let not-over = sym (holds used v d short o.path path_is g gs from-path left removed) ∙ e in
            let means : meant w.texts c kids ≡ value_at (g ∷ gs) v = sym (value-walked (g ∷ gs) v _ found) in
            let value : ValueHeld w at (value_at (g ∷ gs) v) =
            record {
              c = c;
              kids = kids;
              held = node;
              means = means;
              shallow = omega (arith, ap depth means, depth_walked (g ∷ gs) v _ found, d.shallow);
            } in
            steps_as (move_limited o v kind from_is) (move_pointer o v kind from_is) (ap (λ us. us ++ os) (undo_apart o kind from_is v left removed not-over))
            (apart.held v d short g gs from-path o.path path_is c kids node inside found left removed _
            (note os _ noted (undo_add (g ∷ gs) (target_at from-path) value)));
        bearing = λ v b short o l kind g gs from_is from-path path_is c kids node inside found.
            same_performs
            (move_with op o _ v kind ∙ ap (λ ts. judged_bearing (OriginOperation.move_to ts o.path v)) from_is) (move_pointer o (forget v) kind from_is)
            (apart.bearing v b short g gs from-path o.path path_is c kids node inside found);
      }

-- ---- by what the walk to `from` leads to
module _ {w : Table} {used row : ℕ} {from path : Spelling} (s : Result ℕ Fault) (is : WalkIs w document_row from s) {nodes' : List Row} {log : Log} {r : Result Logged Failure} where
  pub below_lost : {f : Fault} → s ≡ Err f → {work : Bytes} → {op : ℕ} → PlainIs w nodes' used row op log r
      → MoveBelowIs w nodes' work work used row op from path log r
  below_lost e plain =
      record {
        patch = plain.performs.patch;
        held = λ v d short o l kind g gs from_is from-path path_is os noted.
            plain_steps plain d short l λ u h.
            let m = moves g gs o.path v u (sym (move_limited o v kind from_is) ∙ h) in
            absurd (refused≢ok (sym (no_value s is d short from-path e) ∙ m.there));
        bearing = λ v b short o l kind g gs from_is from-path path_is. plain_bearing plain b short l;
      }

  pub below_found : (at : ℕ) → s ≡ Ok at → {work work' : Bytes} {op : ℕ} → MoveFromIs w nodes' work work' used row op from path at log r
      → MoveBelowIs w nodes' work work' used row op from path log r
  below_found at e moved =
      record {
        patch = moved.patch;
        held = λ v d short o l kind g gs from_is from-path path_is os noted.
            the_value s is d short from-path e λ c kids found node inside.
            moved.held v d short o l kind g gs from_is from-path path_is c kids node inside found os noted;
        bearing = λ v b short o l kind g gs from_is from-path path_is.
            the_bearing s is b short from-path e λ c kids found node inside.
            moved.bearing v b short o l kind g gs from_is from-path path_is c kids node inside found;
      }

-- ---- by how `from` begins
first_in : (pointer : Bytes) {s : Bytes} → pointer ≡ s → {f : First} → FirstOf pointer f → FirstOf s f
first_in pointer e {f} first = subst (λ t. FirstOf t f) e first

move_source : {w : Table} {row : ℕ} {s : Option Spelling} → StringIs w row (ascii "from") s → (from : Spelling) → s ≡ Some from → {o : Operation}
    → Listed w row o → o.kind ≡ Operation.move → PathIs w.texts from o.from
unfolding uses_from
move_source is from e l kind = source is from e l (ap uses_from kind)

module _ {w : Table} {used row : ℕ} {path : Spelling} {s : Option Spelling} (is : StringIs w row (ascii "from") s) {nodes' : List Row} {log : Log} {r : Result Logged Failure} where
  pub from_missing : s ≡ None → {work : Bytes} {op : ℕ} → PlainIs w nodes' used row op log r → MoveStepIs w nodes' work work used row op path log r
  unfolding uses_from
  from_missing e plain =
      record {
        performs = plain_moves plain;
        held = λ v d short o l kind path_is os noted.
            absurd (spelled_not (is.held l.c l.kids l.held) ((told _ o l.is).from_there (ap uses_from kind)) e);
      }

  module _ (from : Spelling) (e : s ≡ Some from) (pointer : Bytes) (pointer_is : pointer ≡ part_of w.texts from) (f : First)
      (first : FirstOf pointer f) where
    pub step_root : f ≡ First.Root → {work : Bytes} {op : ℕ} → PlainIs w nodes' used row op log r → MoveStepIs w nodes' work work used row op path log r
    unfolding undo_of undo_move
    step_root at-root {work} plain =
        record {
          performs = plain_moves plain;
          held = λ v d short o l kind path_is os noted.
              let none : o.from ≡ [] = first_root (part_of w.texts from) f (first_in pointer pointer_is first) o.from at-root
              (move_source is from e l kind).is in
              plain_steps plain d short l λ u h. rw (kind, none) noted;
        }

    pub step_at : (at : ℕ) → f ≡ First.At at → {work work' : Bytes} {op : ℕ} → MoveBelowIs w nodes' work work' used row op from path log r
        → MoveStepIs w nodes' work work' used row op path log r
    step_at at below {op = op} moved =
        record {
          performs = record {
            patch = moved.patch;
            bearing = λ k same v b short o l m.
                below_root l m.0 λ g gs some path_is.
                subst (λ n. StepsBearing w nodes' n l v r) (sym same) (moved.bearing v b short o l m.0 g gs some path_is m.1);
          };
          held = λ v d short o l kind path_is os noted.
              below_root l kind λ g gs some p. moved.held v d short o l kind g gs some p path_is os noted;
        }
      where
        below_root : {C : Type 0} {o : Operation} → Listed w row o → o.kind ≡ Operation.move
            → ((g : Text) (gs : Tokens) → o.from ≡ g ∷ gs → PathIs w.texts from (g ∷ gs) → C) → C
        below_root {C} {o} l kind then-it =
            let p = move_source is from e l kind in
            some_token (part_of w.texts from) at o.from
            (first_at (part_of w.texts from) f (first_in pointer pointer_is first) at o.from below p.is) λ g gs some.
            then-it g gs some (subst (PathIs w.texts from) some p)

    pub step_malformed : f ≡ First.Malformed → {work : Bytes} {op : ℕ} → PlainIs w nodes' used row op log r
        → MoveStepIs w nodes' work work used row op path log r
    step_malformed bad plain =
        record {
          performs = plain_moves plain;
          held = λ v d short o l kind path_is os noted.
              absurd (first_malformed (part_of w.texts from) f (first_in pointer pointer_is first) o.from bad (move_source is from e l kind).is);
        }
