-- Laws of the two texts in the table: what a text that is read gives, and that the document stays while the patch is read.
use Rattle.std.specs.Prelude.{Result, Ok, Err}
use Prim.Native.Nat.{ℕ, ◌+◌, ◌≤◌}
use native.Mathlib.Omega.{arith}
use mathlib.Core.Path.{◌≡◌, sym, ap, ap₂, ◌∙◌}
use mathlib.Core.List.{List}
use lib.ListN.{length}
use borrow.Author.Tests.{le-ltb}
use Rattle.spec.specs.Outcome.{Outcome, ok, refused, ◌>>=◌}
use Rattle.spec.specs.Fault.{number_of}
use Rattle.spec.specs.declared.refusal.Fault.{Fault}
use Rattle.spec.specs.Limits.{max_bytes, max_depth, max_nodes}
use Rattle.spec.specs.Bytes.{Bytes}
use Rattle.spec.specs.Forest.{none, tree, size}
use Rattle.spec.specs.Value as Value
use Rattle.spec.specs.Value.{depth}
use Rattle.spec.specs.Read.{read}
use Rattle.spec.specs.Proper.{Proper}
use Rattle.tape.specs.Layout.{document_row, patch_row, rows}
use Rattle.tape.specs.Fields.{Row}
use Rattle.tape.specs.Lent.{Texts, Table}
use Rattle.table.specs.Sound.{NodeHeld}
use Rattle.table.proofs.AllLaws.{all_first, all_kids}
use Rattle.index.specs.Slots.{slots}
use Rattle.reader.specs.Work.{Work}
use Rattle.reader.specs.Filled.{Between}
use Rattle.reader.specs.Texts.{refusal_before, reading, Rooted, TextRead, text_read, text_refused}
use Rattle.reader.specs.declared.values.Value as Read
use Rattle.changes.specs.Site.{table}
use Rattle.changes.specs.Document.{Document}
use Rattle.changes.proofs.KeptLaws.{same_first, held_alone, held_same}
use Rattle.json_patch.specs.Stages.{PatchHeld}

-- ---- where the text is not too long and the work area is long enough, nothing is refused before the definition's reading
nothing_before : (w : Work) (s : Bytes) → rows ≤ length w.nodes → slots ≤ length w.index → length s ≤ max_bytes → refusal_before w s ≡ ok tt
unfolding refusal_before
nothing_before w s h i j = rw (le-ltb (length w.nodes) rows h, le-ltb (length w.index) slots i, le-ltb max_bytes (length s) j)

pub read_into : (w : Work) (s : Bytes) → rows ≤ length w.nodes → slots ≤ length w.index → length s ≤ max_bytes → read s ≡ reading w s
unfolding reading ◌>>=◌
read_into w s h i j = sym (ap (λ o. o >>= λ _. read s) (nothing_before w s h i j))

-- ---- what is answered of a text: its value, with its tree in the table, or its refusal
module _ {T : Texts} {s : Bytes} {base : ℕ} {nodes nodes' : List Row} {o : Outcome Value.Value} where
  pub text-value : {C : Type 0} {told : Result Read.Value Fault} {r : Read.Value} → TextRead T s base nodes nodes' o told → told ≡ Ok r
      → ((v : Value.Value) → o ≡ ok v → r.end ≤ base + max_nodes → Rooted (table T nodes') base r.end v → Between base r.end nodes nodes' → C) → C
  text-value {r = r} (text_read v n is last short rooted changed) t then-it =
      let same : n.end ≡ r.end = cc in then-it v is (rw same at short) (rw same at rooted) (rw same at changed)
  text-value (text_refused e is changed) t then-it = absurd (let z : ◌≡◌ {A = ℕ} 0 1 = cc in omega arith)

  pub text_refusal : {told : Result Read.Value Fault} {e : Fault} → TextRead T s base nodes nodes' o told → told ≡ Err e
      → o ≡ refused (number_of e.refusal) e.place
  text_refusal (text_read v n is last short rooted changed) t = absurd (let z : ◌≡◌ {A = ℕ} 0 1 = cc in omega arith)
  text_refusal (text_refused f is changed) t = is ∙ ap₂ refused (cc) (cc)

-- ---- the tree of a text that is read, as a node
module _ {w : Table} {base end : ℕ} {v : Value.Value} (r : Rooted w base end v) where
  pub rooted_node : NodeHeld w base r.root r.kids
  rooted_node = record { rest = none; held = r.held; label = (all_first r.sound).label; sound = all_kids r.sound }

-- the patch
pub patch_held : {w : Table} {end : ℕ} {p : Value.Value} → Rooted w patch_row end p → end ≤ patch_row + max_nodes → Proper p → PatchHeld w p
patch_held r short proper =
    record { c = r.root; kids = r.kids; held = rooted_node r; means = r.means; inside = omega (arith, r.ends); proper = proper }

-- the document
pub document_held : {w : Table} {end : ℕ} {v : Value.Value} → Rooted w document_row end v → end ≤ document_row + max_nodes → depth v ≤ max_depth
    → rows ≤ length w.nodes → Document w end v
document_held r short shallow long =
    record {
      c = r.root;
      kids = r.kids;
      held = rooted_node r;
      means = r.means;
      ends = omega (arith, r.ends);
      few = omega arith;
      shallow = shallow;
      long = long;
    }

-- the document, while the patch is read into the rows behind it
pub document-kept : {w : Table} {nodes' : List Row} {end used : ℕ} {v : Value.Value} → Between patch_row end w.nodes nodes' → rows ≤ length nodes'
    → Document w used v → Document (table w.texts nodes') used v
unfolding size
document-kept changed long d =
    let inside : size (tree d.c d.kids none) ≤ patch_row = omega (arith, d.ends, d.few) in
    record {
      c = d.c;
      kids = d.kids;
      held =
          record {
            rest = none;
            held = held_same (same_first changed.before inside) (held_alone d.held.held);
            label = d.held.label;
            sound = d.held.sound;
          };
      means = d.means;
      ends = d.ends;
      few = d.few;
      shallow = d.shallow;
      long = long;
    }
