-- Laws of the document in the table, and of the value at a location of it.
use Rattle.std.specs.Prelude.{Result, Ok, Err}
use Prim.Native.Nat.{ℕ, suc, ◌+◌, ◌≤◌, ◌<◌}
use native.Mathlib.Omega.{arith}
use mathlib.Core.Path.{◌≡◌, refl, ap, sym, ◌∙◌, subst}
use mathlib.Core.List.{List, [], append-nil}
use lib.ListN.{length}
use Rattle.spec.specs.Outcome.{Outcome, ok, refused}
use Rattle.spec.specs.Fault.{number_of}
use Rattle.spec.specs.declared.refusal.Fault.{Fault}
use Rattle.spec.specs.Limits.{max_depth, max_nodes}
use Rattle.spec.specs.Forest.{Forest, none, tree, size}
use Rattle.spec.specs.Value as Value
use Rattle.spec.specs.Value.{depth, nodes}
use Rattle.spec.specs.Pointer.{Tokens, walk}
use Rattle.tape.specs.Layout.{document_row, rows}
use Rattle.tape.specs.Fields.{Row}
use Rattle.tape.specs.Tape.{Holds, Laid}
use Rattle.tape.specs.declared.fields.Spelling.{Spelling}
use Rattle.tape.specs.declared.fields.Cell.{Cell}
use Rattle.tape.specs.Cell.{row_of}
use Rattle.tape.specs.Lent.{Texts, Table}
use Rattle.tape.proofs.Tape.{tape-single, holds_words}
use Rattle.tape.proofs.Changes.{laid_length}
use Rattle.tape.proofs.Held.{held_laid}
use Rattle.table.specs.Meaning.{meant}
use Rattle.table.specs.Sound.{NodeHeld}
use Rattle.table.proofs.MeaningLaws.{nodes-meant}
use Rattle.walk.specs.Names.{Short}
use Rattle.origin.specs.Value as Origin
use Rattle.origin.specs.Value.{forget}
use Rattle.origin.specs.Pointer as Origins
use Rattle.walk.specs.Bearing.{borne}
use Rattle.walk.specs.Path.{PathIs, WalkedBy, Walked, WalkedBearing, reached, lost, WalkIs}
use Rattle.walk.proofs.Children.{forget-borne}
use Rattle.changes.specs.Site.{Surroundings, Standing, Site, table}
use Rattle.changes.specs.Rows.{Frame}
use Rattle.changes.specs.Change.{ChangeAnswers, done, refusal}
use Rattle.changes.specs.Document as Document
use Rattle.changes.specs.Document.{Document, judged, Bearing, judged_bearing, ResultsBearing, results}
use Rattle.changes.proofs.LimitLaws as LimitLaws
use Rattle.changes.proofs.LimitLaws.{limited_whole, limited_same, judged_fits}
use Rattle.changes.proofs.KeptLaws.{formed_alone, behind_long, frame_done}

-- ---- a document is a node with nothing around it
abbrev pub nothing_around : Surroundings
nothing_around = record { rest = none; front = []; back = [] }

-- the first rows are those of the tree that the table holds from the first row on
pub whole_laid : {xs after : List Row} {c : Cell} {kids rest : Forest Cell} (used : ℕ) → used ≡ suc (size kids)
    → Holds row_of xs document_row (tree c kids rest) after → Laid row_of xs used [] (tree c kids none) []
whole_laid {c = c} {kids} used e h = record { is = holds_words used e h ∙ rw (tape-single row_of (record { root = c; kids = kids }), append-nil) }

unfoldable pub document_site : {w : Table} {used : ℕ} {v : Value.Value} → Document w used v → Site w used document_row max_depth
document_site {used = used} d =
    record {
      around = nothing_around;
      c = d.c;
      kids = d.kids;
      room = max_nodes;
      standing =
          record {
            laid = whole_laid used d.ends d.held.held.rows;
            place = refl;
            formed = formed_alone d.held.held.formed;
            label = d.held.label;
            sound = d.held.sound;
          };
      few = d.few;
      fits = omega (arith, d.ends);
      shallow = omega (arith, ap depth d.means, d.shallow);
      long = d.long;
    }

-- and a node with nothing around it is a document, with its origins
pub standing_document : {T : Texts} {nodes' : List Row} {used : ℕ} {c : Cell} {kids : Forest Cell} → Standing T nodes' used document_row nothing_around c kids
    → used ≤ max_nodes → Origin.depth (borne T c kids) ≤ max_depth → rows ≤ length nodes' → Bearing (table T nodes') used (borne T c kids)
unfolding size
standing_document {T} {c = c} {kids} s few shallow long =
    record {
      document =
          record {
            c = c;
            kids = kids;
            held = record { rest = none; held = held_laid document_row refl s.laid s.formed; label = s.label; sound = s.sound };
            means = sym (forget-borne T c kids);
            ends = omega (arith, laid_length s.laid);
            few = few;
            shallow = shallow;
            long = long;
          };
      bears = refl;
    }

-- what is answered of that node is what becomes of the document
pub document-answers : {w : Table} {nodes' : List Row} {used : ℕ} {v : Value.Value} (d : Document w used v) {o : Outcome Origin.Value} {r : Result ℕ Fault}
    → Frame w.nodes nodes' r → ChangeAnswers (document_site d) nodes' o r → ResultsBearing w.texts nodes' (judged_bearing o) r
unfolding document_site
document-answers {w} d {o} frame (done {kids = kids} e stands) =
    let within = limited_same max_depth max_nodes o (borne w.texts d.c kids) e in
    let kept = frame_done refl frame in
    results (sym (limited_whole o) ∙ e) (standing_document stands kept.0 within.1 (behind_long kept.1 d.long))
document-answers d {o} frame (refusal e) = Document.refusal (sym (limited_whole o) ∙ e)

-- ---- a document is within the limits
module _ {w : Table} {used : ℕ} {v : Value.Value} (d : Document w used v) where
  pub few_nodes : nodes v ≤ max_nodes
  few_nodes = omega (arith, ap nodes d.means, nodes-meant w.texts d.c d.kids, d.ends, d.few)

  pub document_fits : judged (ok v) ≡ ok v
  document_fits = judged_fits v d.shallow few_nodes

pub bearing_fits : {w : Table} {used : ℕ} {v : Origin.Value} → Bearing w used v → judged_bearing (ok v) ≡ ok v
bearing_fits {v = v} b = LimitLaws.bearing_fits v b.document.shallow (few_nodes b.document)

-- ---- the value at a location of the document
module _ {A : Type 0} {means : Texts → Cell → Forest Cell → A} {w : Table} {start span : ℕ} {o : Outcome A} where
  walked_to : {C : Type 0} {q : Result ℕ Fault} (row : ℕ) → WalkedBy means w start span o q → q ≡ Ok row
      → ((c : Cell) (kids : Forest Cell) → o ≡ ok (means w.texts c kids) → NodeHeld w row c kids → row + size kids ≤ start + span → C) → C
  walked_to row (reached {at} {c} {kids} f node low high) g then-it =
      let same : at ≡ row = cc in
      then-it c kids f (rw same at node) (omega arith)
  walked_to row (lost f) g then-it = absurd (let z : ◌≡◌ {A = ℕ} 0 1 = cc in omega arith)

  walked_off : {e : Fault} {q : Result ℕ Fault} → WalkedBy means w start span o q → q ≡ Err e → o ≡ refused (number_of e.refusal) e.place
  walked_off (reached f node low high) g = absurd (let z : ◌≡◌ {A = ℕ} 0 1 = cc in omega arith)
  walked_off {e} (lost {e = d} f) g = let same : d ≡ e = cc in f ∙ ap (λ (x : Fault). refused (number_of x.refusal) x.place) same

module _ {w : Table} {used : ℕ} {path : Spelling} {ts : Tokens} (s : Result ℕ Fault) (is : WalkIs w document_row path s) where
  module _ {v : Value.Value} (d : Document w used v) (short : Short w.texts) (path_is : PathIs w.texts path ts) where
    walked : Walked w document_row (size d.kids) (walk ts v) s
    walked = subst (λ u. Walked w document_row (size d.kids) (walk ts u) s) d.means (is.held ts short path_is d.c d.kids d.held)

    pub the_value : {C : Type 0} {row : ℕ} → s ≡ Ok row
        → ((c : Cell) (kids : Forest Cell) → walk ts v ≡ ok (meant w.texts c kids) → NodeHeld w row c kids → row + size kids < used → C) → C
    the_value {C} {row} e then-it = walked_to row walked e λ c kids f node inside. then-it c kids f node (omega (arith, d.ends))

    pub no_value : {e : Fault} → s ≡ Err e → walk ts v ≡ refused (number_of e.refusal) e.place
    no_value e = walked_off walked e

  -- and with its origins
  module _ {v : Origin.Value} (b : Bearing w used v) (short : Short w.texts) (path_is : PathIs w.texts path ts) where
    abbrev d : Document w used (forget v)
    d = b.document

    walked_bearing : WalkedBearing w document_row (size d.kids) (Origins.walk ts v) s
    walked_bearing =
        subst (λ u. WalkedBearing w document_row (size d.kids) (Origins.walk ts u) s) b.bears (is.bearing ts short path_is d.c d.kids d.held)

    pub the_bearing : {C : Type 0} {row : ℕ} → s ≡ Ok row
        → ((c : Cell) (kids : Forest Cell) → Origins.walk ts v ≡ ok (borne w.texts c kids) → NodeHeld w row c kids → row + size kids < used → C) → C
    the_bearing {C} {row} e then-it = walked_to row walked_bearing e λ c kids f node inside. then-it c kids f node (omega (arith, d.ends))

    pub no_bearing : {e : Fault} → s ≡ Err e → Origins.walk ts v ≡ refused (number_of e.refusal) e.place
    no_bearing e = walked_off walked_bearing e
