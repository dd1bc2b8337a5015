-- Laws of a change at the parent of a location: down to the child that a token names, and up again with the change made there.
use Rattle.std.specs.Prelude.{Result, Ok, Err}
use Prim.Native.Nat.{ℕ, suc, ◌+◌, ◌-◌, ◌≤◌, ◌<◌}
use native.Mathlib.Omega.{arith}
use native.Mathlib.Decide.{dec_lt}
use mathlib.Core.Path.{◌≡◌, refl, ap, sym, ◌∙◌, subst}
use mathlib.Core.List.{List, [], ◌∷◌, ◌++◌}
use lib.ListN.{length, get_or}
use Rattle.spec.specs.Outcome.{Outcome, ok, refused, ◌>>=◌}
use Rattle.spec.specs.Refusal.{location_missing}
use Rattle.spec.specs.Fault.{number_of}
use Rattle.spec.specs.declared.refusal.Refusal.{Refusal}
use Rattle.spec.specs.declared.refusal.Fault.{Fault}
use Rattle.spec.specs.Limits.{max_depth, max_nodes}
use Rattle.spec.specs.Bytes.{Text}
use Rattle.spec.specs.Forest.{Forest, Tree, count, size, before, from, nth, replace_at}
use Rattle.spec.specs.Value as Plain
use Rattle.spec.specs.Pointer as PlainPointer
use Rattle.spec.specs.Pointer.{Tokens, farther}
use Rattle.origin.specs.Value as Value
use Rattle.origin.specs.Value.{value_of, nodes}
use Rattle.origin.specs.Pointer.{child_at, child}
use Rattle.origin.specs.Operation.{put, at_parent, remove_child, replace_child}
use Rattle.spec.proofs.ChildLaws.{depth-child}
use Rattle.tape.specs.Layout.{array_kind, object_kind, values, rows}
use Rattle.tape.specs.Fields.{Row, span_of, row_with}
use Rattle.tape.specs.Tape.{tape}
use Rattle.tape.specs.declared.fields.Spelling.{Spelling}
use Rattle.tape.specs.declared.fields.Name.{Name}
use Rattle.tape.specs.declared.fields.Cell.{Cell}
use Rattle.tape.specs.Cell.{row_of, Fit, formed_tree, deep}
use Rattle.tape.specs.Rows.{child_row}
use Rattle.tape.specs.Lent.{Table}
use Rattle.tape.proofs.Forests.{size-replace_at}
use Rattle.tape.proofs.Cells.{blank, span_row, formed_kids, formed_rest, formed_child, formed_replace_at, container_fit, fit_container}
use Rattle.tape.proofs.Depth.{level-container}
use Rattle.tape.proofs.Changes.{laid_length, laid_child, laid_tree, laid_put, child_front, laid_word, laid_span_child}
use Rattle.table.specs.Meaning.{part_of, name_text, meant}
use Rattle.table.specs.Sound.{CellFits}
use Rattle.table.proofs.MeaningLaws.{depth-meant}
use Rattle.table.proofs.AllLaws.{all_first, all_kids, all_single, all_replace_at}
use Rattle.pointer.specs.declared.answers.Token.{Token}
use Rattle.pointer.proofs.WalkLaws.{next_order}
use Rattle.walk.specs.Bearing.{borne}
use Rattle.walk.specs.Path.{farther_by}
use Rattle.walk.specs.Step.{StepIs}
use Rattle.walk.proofs.Children.{forget-borne, child-meant, child-borne, child_at-borne, sound_child}
use Rattle.walk.proofs.StepLaws.{child-scalar}
use Rattle.changes.specs.Limited.{limited_to}
use Rattle.changes.specs.Site.{Surroundings, Standing, Site}
use Rattle.changes.specs.Rows.{SameBehind, framed, unchanged, walked_to, told_at, resized}
use Rattle.changes.specs.Change.{ByToken, ChangeAnswers, done, refusal, SiteOf, Makes, adds, removes, replaces, ChangeChildIs, Alters, AlterIs}
use Rattle.changes.specs.declared.parent.Parent.{Parent}
use Rattle.changes.specs.declared.answers.Change.{Change}
use Rattle.changes.proofs.LimitLaws.{limited-put}
use Rattle.changes.proofs.KeptLaws.{formed_alone, behind_set, behind_long, frame_done, frame_refused}
use Rattle.changes.proofs.SiteLaws.{site_fit, site_inside}
use Rattle.changes.proofs.BorneLaws.{nodes-borne, put-borne, name_fits}
use Rattle.changes.proofs.ChangeLaws.{same_answers, answers_refused, insert_scalar, told_ok, told_err, no_child, the_child}
use Rattle.changes.proofs.TokenLaws.{TokenRead, one_left, more_left}

-- ---- a scalar has no children
module _ (w : Table) (c : Cell) (kids : Forest Cell) (fit : Fit c kids) (scalar : c.kind < array_kind) where
  no-array : c.kind ≡ array_kind → ⊥
  no-array e = omega arith

  no-object : c.kind ≡ object_kind → ⊥
  no-object e = omega arith

  scalar-child : (t : Text) → child_at t (borne w.texts c kids) ≡ refused location_missing 0
  unfolding number_of
  scalar-child t = child_at-borne w.texts t c kids (child-scalar w.texts c kids fit.kind t no-array no-object)

  scalar_change : {change : Change} {f : ByToken} → Makes w change f → (t : Text) → f t (borne w.texts c kids) ≡ refused location_missing 0
  unfolding remove_child replace_child ◌>>=◌
  scalar_change (adds source x below offered) t = insert_scalar w.texts c kids fit.kind (borne w.texts x below) t no-array no-object
  scalar_change removes t = rw (scalar-child t)
  scalar_change (replaces source x below offered) t = rw (scalar-child t)

  scalar_alters : {change : Change} {f : ByToken} → Makes w change f → (t : Text) (ts : Tokens)
      → at_parent f t ts (borne w.texts c kids) ≡ refused location_missing 0
  unfolding at_parent ◌>>=◌
  scalar_alters makes t [] = scalar_change makes t
  scalar_alters makes t (u ∷ ts) = rw (scalar-child t)

-- a node that nests no container is one
alter_scalar : {w : Table} {used row : ℕ} (z : Site w used row 0) {nodes' : List Row} {path : Spelling} {at walked place : ℕ} {change : Change}
    → place ≡ walked → Alters walked z nodes' path at change (Err (record { refusal = Refusal.LocationMissing; place = place }))
unfolding number_of
alter_scalar {w} z {place = place} e f t ts makes short inside from =
    answers_refused (record { refusal = Refusal.LocationMissing; place = place }) (scalar_alters w z.c z.kids (site_fit z) (go (dec_lt z.c.kind array_kind)) makes t ts) e
  where
    go : Dec (z.c.kind < array_kind) → z.c.kind < array_kind
    go (yes l) = l
    go (no l) =
        absurd (omega (
          arith,
          z.shallow,
          depth-meant w.texts z.c z.kids (site_fit z).kind (formed_kids z.standing.formed),
          level-container z.c (deep z.kids) (omega arith),
        ))

-- ---- the last token
module _ {w : Table} {p : Parent} {path : Spelling} {at : ℕ} {name : Name} {t : Token} {change : Change} (read : TokenRead w.texts path at t name) where
  pub alter_last : {nodes' : List Row} {r : Result ℕ Fault} (end : ℕ) → t ≡ Token.Last end → ChangeChildIs w nodes' p name change r
      → AlterIs w nodes' p path at change r
  unfolding at_parent
  alter_last end e changed =
      record {
        frame = changed.frame;
        held = λ z f u us makes short inside from.
            let o = one_left read short inside from end e in
            let v = borne w.texts z.c z.kids in
            let only : at_parent f u us v ≡ f (name_text w.texts name) v = rw (o.0, o.1) in
            same_answers (ap (farther_by (walked_to p)) only) (changed.held f makes z (read.named.names short inside).token);
      }

  -- ---- a token that names no child
  pub alter_refused : {end next : ℕ} (s : Result ℕ Refusal) → StepIs w p.row name s → t ≡ Token.Next end next → {told : Result ℕ Fault}
      → told ≡ told_at (walked_to p) s → (f : Fault) → told ≡ Err f → AlterIs w w.nodes p path at change (Err f)
  unfolding at_parent ◌>>=◌
  alter_refused {end} {next} s is e tells f g =
      let found = told_err _ s tells g in
      record {
        frame = unchanged refl;
        held = λ z change u us makes short inside from.
            more_left read short inside from end next e λ v vs more first later.
            answers_refused f (rw (more, first, no_child s is z (read.named.names short inside).token found.0)) found.1;
      }

-- ---- down to a child
module _ {w : Table} {used row levels : ℕ} (z : Site w used row levels) (t : Text) (k below : ℕ) (one_less : levels ≡ suc below)
    (named : child_at t (borne w.texts z.c z.kids) ≡ ok k) (kth : k < count z.kids) (inner : ℕ) (place : inner ≡ child_row row k z.kids) where
  abbrev b : Tree Cell
  b = nth blank k z.kids

  abbrev v : Value.Value
  v = borne w.texts z.c z.kids

  -- the changed child in its place
  abbrev put_back : Outcome Value.Value → Outcome Value.Value
  put_back o = o >>= λ u. ok (put k u v)

  abbrev around_child : Surroundings
  around_child =
      record {
        rest = from (suc k) z.kids;
        front = (z.around.front ++ (row_of z.c z.kids ∷ [])) ++ tape row_of (before k z.kids);
        back = tape row_of z.around.rest ++ z.around.back;
      }

  value-child : value_of (child k v) ≡ borne w.texts b.root b.kids
  value-child = ap value_of (child-borne w.texts k z.c z.kids)

  -- and without origins
  abbrev plain : Plain.Value
  plain = meant w.texts z.c z.kids

  plain_named : PlainPointer.child_at t plain ≡ ok k
  plain_named = ap (PlainPointer.child_at t) (sym (forget-borne w.texts z.c z.kids)) ∙ named

  plain_child : Plain.value_of (PlainPointer.child k plain) ≡ meant w.texts b.root b.kids
  plain_child = ap Plain.value_of (child-meant w.texts k z.c z.kids)

  pub child_site : Site w used inner below
  child_site =
      let front = child_front row_of z.around.front (row_of z.c z.kids) k z.kids ∙ ap (λ n. child_row n k z.kids) (sym z.standing.place) in
      record {
        around = around_child;
        c = b.root;
        kids = b.kids;
        room = max_nodes + suc (size b.kids) - used;
        standing =
            record {
              laid = laid_child blank k kth z.standing.laid;
              place = place ∙ sym front;
              formed = formed_child blank k kth (formed_kids z.standing.formed);
              label = (all_first (sound_child k kth z.standing.sound)).label;
              sound = all_kids (sound_child k kth z.standing.sound);
            };
        few = z.few;
        fits = omega (arith, z.few);
        shallow = omega (arith, depth-child t plain k plain_named, ap Plain.depth plain_child, z.shallow);
        long = z.long;
      }

  pub site-value : borne w.texts child_site.c child_site.kids ≡ value_of (child k v)
  unfolding child_site
  site-value = sym value-child

  -- ---- and up again
  -- what the definitions say of the child, put in its place
  pub child_outcome : (f : ByToken) (u : Text) (us : Tokens)
      → at_parent f t (u ∷ us) v ≡ put_back (farther (at_parent f u us (borne w.texts b.root b.kids)))
  unfolding at_parent ◌>>=◌
  child_outcome f u us = rw named (ap (λ x. put_back (farther (at_parent f u us x))) value-child)

  -- behind the tokens that lead to the parent, and to the child
  pub farther_back : (n : ℕ) (o : Outcome Value.Value) → farther_by n (put_back (farther o)) ≡ put_back (farther_by (n + 1) o)
  unfolding farther_by farther ◌>>=◌
  farther_back n (ok x) = refl
  farther_back n (refused number walked) = let e : n + suc walked ≡ n + 1 + walked = omega arith in ap (refused number) e

  limits : (o : Outcome Value.Value) → limited_to levels z.room (put_back o) ≡ put_back (limited_to below child_site.room o)
  unfolding child_site
  limits o =
      let shallow : Value.depth v ≤ levels = omega (arith, ap Plain.depth (forget-borne w.texts z.c z.kids), z.shallow) in
      limited-put t v k named levels below z.room child_site.room used shallow one_less
      (z.fits ∙ ap (◌+◌ max_nodes) (sym (nodes-borne w.texts z.c z.kids)))
      (child_site.fits ∙ ap (◌+◌ max_nodes) (sym (ap nodes value-child ∙ nodes-borne w.texts b.root b.kids))) o

  container : array_kind ≤ z.c.kind
  container = container_fit (site_fit z) (omega arith)

  module _ {nodes' : List Row} {now : ℕ} {changed : Forest Cell} (few : now ≤ max_nodes) (same : SameBehind w.nodes nodes')
      (stands : Standing w.texts nodes' now inner around_child b.root changed) where
    abbrev new : Tree Cell
    new = record { root = b.root; kids = changed }

    -- the numbers of rows
    now_rows : now + size b.kids ≡ used + size changed
    unfolding size
    now_rows =
        let after = laid_length stands.laid in
        let first = laid_length (laid_child blank k kth z.standing.laid) in
        omega (arith, behind_long same z.long, z.few, z.long)

    span_changed : span_of (get_or nodes' row []) + now - used ≡ size (replace_at k new z.kids)
    span_changed =
        let here : get_or nodes' row [] ≡ row_of z.c z.kids =
        rw z.standing.place (laid_word z.around.front (row_of z.c z.kids) [] (laid_put new k z.kids stands.laid)) in
        let old : span_of (get_or nodes' row []) ≡ size z.kids = ap span_of here ∙ span_row z.c z.kids in
        omega (arith, now_rows, size-replace_at blank k z.kids kth new, site_inside z)

    small : size (replace_at k new z.kids) < values
    small = omega (arith, now_rows, size-replace_at blank k z.kids kth new, site_inside z)

    up_standing : Standing w.texts (resized nodes' row used now) now row z.around z.c (replace_at k new z.kids)
    up_standing =
        let cell : CellFits w.texts b.root = record { name = name_fits k kth z.standing.sound; label = stands.label } in
        record {
          laid = laid_span_child z.kids k new row _ z.standing.place span_changed (omega (arith, span_changed, small)) stands.laid;
          place = z.standing.place;
          formed =
              formed_tree (fit_container (replace_at k new z.kids) (site_fit z) container small)
              (formed_replace_at k (formed_kids z.standing.formed) new (formed_alone stands.formed))
              (formed_rest z.standing.formed);
          label = z.standing.label;
          sound = all_replace_at k z.standing.sound new (all_single new cell stands.sound);
        }

  -- each way in which the change of the child ends
  module _ {nodes' : List Row} {o : Outcome Value.Value} where
    up_done : {now : ℕ} → now ≤ max_nodes → SameBehind w.nodes nodes' → ChangeAnswers child_site nodes' o (Ok now)
        → ChangeAnswers z (resized nodes' row used now) (put_back o) (Ok now)
    unfolding child_site ◌>>=◌
    up_done few same (done {kids = changed} e stands) =
        let then-value = borne w.texts z.c (replace_at k (record { root = b.root; kids = changed }) z.kids) in
        let passed : limited_to levels z.room (put_back o) ≡ ok then-value =
        limits o ∙ ap put_back e ∙ ap ok (put-borne w.texts k z.c z.kids b.root changed) in
        done passed (up_standing few same stands)

    up_refused : {f : Fault} → ChangeAnswers child_site nodes' o (Err f) → ChangeAnswers z nodes' (put_back o) (Err f)
    unfolding child_site ◌>>=◌
    up_refused (refusal e) = refusal (limits o ∙ ap put_back e)

  -- a child that was changed within its own rows: nothing around it changes
  module _ {nodes' : List Row} (long : rows ≤ length nodes') where
    module _ {changed : Forest Cell} (stands : Standing w.texts nodes' used inner around_child b.root changed) where
      abbrev kept : Tree Cell
      kept = record { root = b.root; kids = changed }

      same_size : size (replace_at k kept z.kids) ≡ size z.kids
      unfolding size
      same_size =
          let after = laid_length stands.laid in
          let first = laid_length (laid_child blank k kth z.standing.laid) in
          omega (arith, size-replace_at blank k z.kids kth kept, z.few, z.long)

      same_standing : Standing w.texts nodes' used row z.around z.c (replace_at k kept z.kids)
      unfolding row_of
      same_standing =
          let cell : CellFits w.texts b.root = record { name = name_fits k kth z.standing.sound; label = stands.label } in
          record {
            laid = laid_tree z.c (row_of z.c z.kids) (laid_put kept k z.kids stands.laid) (ap (row_with z.c) (sym same_size));
            place = z.standing.place;
            formed =
                formed_tree (fit_container (replace_at k kept z.kids) (site_fit z) container (omega (arith, same_size, (site_fit z).small)))
                (formed_replace_at k (formed_kids z.standing.formed) kept (formed_alone stands.formed))
                (formed_rest z.standing.formed);
            label = z.standing.label;
            sound = all_replace_at k z.standing.sound kept (all_single kept cell stands.sound);
          }

    pub up_same : {y : Value.Value} → ChangeAnswers child_site nodes' (ok y) (Ok used) → ChangeAnswers z nodes' (ok (put k y v)) (Ok used)
    unfolding child_site ◌>>=◌
    up_same {y} (done {kids = changed} e stands) =
        let then-value = borne w.texts z.c (replace_at k (record { root = b.root; kids = changed }) z.kids) in
        let passed : limited_to levels z.room (ok (put k y v)) ≡ ok then-value =
        limits (ok y) ∙ ap put_back e ∙ ap ok (put-borne w.texts k z.c z.kids b.root changed) in
        done passed (same_standing stands)

-- ---- through a child
-- a token names the k-th child, which stands in the row `inner`
abbrev ChildOf : (w : Table) (p : Parent) → Name → ℕ → SiteOf w p → ℕ → Type 0
ChildOf w p name inner z k =
    (child_at (name_text w.texts name) (borne w.texts z.c z.kids) ≡ ok k) × (k < count z.kids) × (inner ≡ child_row p.row k z.kids)

abbrev down : (w : Table) (p : Parent) (name : Name) (inner below : ℕ) → p.below ≡ below → (z : SiteOf w p) (k : ℕ) → ChildOf w p name inner z k
    → Site w p.used inner below
down w p name inner below one_less z k n = child_site z (name_text w.texts name) k below (ap suc one_less) n.0 n.1 inner n.2

module _ {w : Table} (p : Parent) {path : Spelling} {at : ℕ} {name : Name} {end next : ℕ} {t : Token} (change : Change)
    (read : TokenRead w.texts path at t name) (e : t ≡ Token.Next end next) (below : ℕ) (one_less : p.below ≡ below) (s : Result ℕ Refusal)
    (is : StepIs w p.row name s) {told : Result ℕ Fault} (tells : told ≡ told_at (walked_to p) s) (inner : ℕ) (there : told ≡ Ok inner) where
  -- what is done with the child's answer
  through : {nodes' ended : List Row} {r : Result ℕ Fault} (z : SiteOf w p)
      → ((y : Site w p.used inner below) → Alters (walked_to p + 1) y nodes' path next change r)
      → ((k : ℕ) (n : ChildOf w p name inner z k) (o : Outcome Value.Value) → ChangeAnswers (down w p name inner below one_less z k n) nodes' o r
      → ChangeAnswers z ended (o >>= λ x. ok (put k x (borne w.texts z.c z.kids))) r)
      → Alters (walked_to p) z ended path at change r
  unfolding child_site
  through {nodes'} {ended} {r} z alters up f u us makes short inside from =
      more_left read short inside from end next e λ v vs more first later.
      the_child s is z (read.named.names short inside).token (told_ok _ s tells there) λ k named kth place.
      let n : ChildOf w p name inner z k = (named, kth, place) in
      let o = at_parent f v vs (borne w.texts (nth blank k z.kids).root (nth blank k z.kids).kids) in
      let within = (next_order (part_of w.texts path) at t read.is end next e).2 in
      let y = down w p name inner below one_less z k n in
      let answer : ChangeAnswers y nodes' (farther_by (walked_to p + 1) o) r = alters y f v vs makes short within later in
      let same : at_parent f u us (borne w.texts z.c z.kids) ≡ farther o >>= λ x. ok (put k x (borne w.texts z.c z.kids)) =
      rw (more, first) (child_outcome z (name_text w.texts name) k below (ap suc one_less) named kth inner place f v vs) in
      let behind = farther_back z (name_text w.texts name) k below (ap suc one_less) named kth inner place (walked_to p) o in
      same_answers (ap (farther_by (walked_to p)) same ∙ behind) (up k n (farther_by (walked_to p + 1) o) answer)

  back_refused : {nodes' : List Row} {f : Fault} (z : SiteOf w p) (k : ℕ) (n : ChildOf w p name inner z k) (o : Outcome Value.Value)
      → ChangeAnswers (down w p name inner below one_less z k n) nodes' o (Err f)
      → ChangeAnswers z nodes' (o >>= λ x. ok (put k x (borne w.texts z.c z.kids))) (Err f)
  back_refused z k n o answer = up_refused z (name_text w.texts name) k below (ap suc one_less) n.0 n.1 inner n.2 answer

  -- a child that nests no container has no children
  pub alter_flat : below ≡ 0 → (place : ℕ) → place ≡ walked_to p
      → AlterIs w w.nodes p path at change (Err (record { refusal = Refusal.LocationMissing; place = place + 1 }))
  alter_flat none place walked =
      record {
        frame = unchanged refl;
        held = λ z. through z (flat below none) (back_refused z);
      }
    where
      missing : Result ℕ Fault
      missing = Err (record { refusal = Refusal.LocationMissing; place = place + 1 })

      Flat : ℕ → Type 0
      Flat n = (y : Site w p.used inner n) → Alters (walked_to p + 1) y w.nodes path next change missing

      flat : (n : ℕ) → n ≡ 0 → Flat n
      flat n none = subst Flat (sym none) λ y. alter_scalar y (ap (λ m. m + 1) walked)

  -- a child outside the rows in use is no site
  pub alter_outside : (f : Fault) → p.used ≤ inner → AlterIs w w.nodes p path at change (Err f)
  alter_outside f out =
      record {
        frame = unchanged refl;
        held = λ z. through z (λ y g u us makes short inside from. absurd (omega (arith, site_inside y))) (back_refused z);
      }

  module _ (lower : ℕ) (lower-is : below ≡ suc lower) {low : (p.used ≤ max_nodes) × (inner < p.used) × (lower < max_depth)}
      {nodes' : List Row} (r : Result ℕ Fault)
      (alters : AlterIs w nodes' (record { used = p.used; row = inner; below = lower; low = low }) path next change r) where
    at_child : {q : Result ℕ Fault} → r ≡ q → (y : Site w p.used inner below) → Alters (walked_to p + 1) y nodes' path next change q
    at_child {q} g =
        let one_more : max_depth - 1 - lower ≡ walked_to p + 1 = omega (arith, p.low) in
        subst (λ m. (y : Site w p.used inner m) → Alters (walked_to p + 1) y nodes' path next change q) (sym lower-is)
        λ y.
        subst (λ n. Alters n y nodes' path next change q) one_more
        (subst (λ a. Alters (max_depth - 1 - lower) y nodes' path next change a) g (alters.held y))

    pub alter_done : (now : ℕ) → r ≡ Ok now → {ended : List Row} → ended ≡ resized nodes' p.row p.used now
        → AlterIs w ended p path at change (Ok now)
    alter_done now g is-ended =
        let kept = frame_done g alters.frame in
        record {
          frame = rw is-ended (framed kept.0 (behind_set p.row _ (omega (arith, p.low.0, p.low.1)) kept.1));
          held = λ z.
              through z (at_child g) λ k n o answer.
              rw is-ended (up_done z (name_text w.texts name) k below (ap suc one_less) n.0 n.1 inner n.2 kept.0 kept.1 answer);
        }

    pub alter_not : (f : Fault) → r ≡ Err f → AlterIs w nodes' p path at change (Err f)
    alter_not f g = record { frame = unchanged (frame_refused g alters.frame); held = λ z. through z (at_child g) (back_refused z) }
