-- Laws of the two texts read, for any call that reads them: what is read by the definitions, and what the table holds then.
use Rattle.std.specs.Prelude.{Result, Ok, Err}
use Prim.Native.Nat.{ℕ, ◌≤◌, ◌<◌}
use native.Mathlib.Omega.{arith}
use mathlib.Core.Path.{◌≡◌, subst, ◌∙◌}
use mathlib.Core.List.{List}
use lib.ListN.{length}
use Rattle.spec.specs.Outcome.{ok, refused}
use Rattle.spec.specs.Fault.{number_of}
use Rattle.spec.specs.declared.refusal.Fault.{Fault}
use Rattle.spec.specs.Refusal.{input_too_long}
use Rattle.spec.specs.Limits.{max_bytes, work_nodes, work_entries}
use Rattle.spec.specs.Value as Value
use Rattle.spec.specs.Read.{read}
use Rattle.spec.proofs.ReadLaws.{read-depth}
use Rattle.claims.proofs.ReadProper.{read_proper}
use Rattle.tape.specs.Fields.{Row}
use Rattle.tape.specs.Lent.{Texts}
use Rattle.walk.specs.Names.{Short}
use Rattle.reader.specs.Work.{Work}
use Rattle.reader.specs.Texts as Texts
use Rattle.reader.specs.Texts.{reading, DocumentIs}
use Rattle.reader.specs.declared.values.Value as Read
use Rattle.changes.specs.Site.{table}
use Rattle.changes.specs.Document.{Document}
use Rattle.json_patch.specs.Stages.{PatchHeld}
use Rattle.json_patch.specs.Reads.{too_long, LengthsAre, document_long, patch_long, both_short, TextsRead, document_unread, patch_unread, texts_read}
use Rattle.json_patch.specs.declared.texts.Unread.{Unread}
use Rattle.json_patch.proofs.TextLaws.{read_into, text-value, text_refusal, patch_held, document_held, document-kept}

-- what holds where both are read
abbrev pub BothRead : Texts → Work → ℕ → Type 0 → Type 0
BothRead T w used C =
    (v p : Value.Value) → read T.document ≡ ok v → read T.patch ≡ ok p → Document (table T w.nodes) used v → PatchHeld (table T w.nodes) p
    → Short T → C

module _ {T : Texts} {w w' : Work} {told : Result Read.Value Fault} (long : work_nodes ≤ length w.nodes) (longer : work_entries ≤ length w.index)
    (short : length T.document ≤ max_bytes) (small : length T.patch ≤ max_bytes) (reads : DocumentIs T w w' told) where
  document_as_read : read T.document ≡ reading w T.document
  document_as_read = read_into w T.document long longer short

  pub document_refused : {e : Fault} → told ≡ Err e → read T.document ≡ refused (number_of e.refusal) e.place
  document_refused t = document_as_read ∙ text_refusal reads.text t

  -- the document is read: then the patch
  module _ {first : Read.Value} (t : told ≡ Ok first) (same : length w'.nodes ≡ length w.nodes)
      (same_index : length w'.index ≡ length w.index)
      {w'' : Work} {told-patch : Result Read.Value Fault} (reads-patch : Texts.PatchIs T w' w'' told-patch) where
    patch_as_read : read T.patch ≡ reading w' T.patch
    patch_as_read = read_into w' T.patch (omega arith) (omega arith) small

    pub patch_refused : {C : Type 0} {e : Fault} → told-patch ≡ Err e
        → ((v : Value.Value) → read T.document ≡ ok v → read T.patch ≡ refused (number_of e.refusal) e.place → C) → C
    patch_refused e then-it =
        text-value reads.text t λ v reads_as few rooted changed.
        then-it v (document_as_read ∙ reads_as) (patch_as_read ∙ text_refusal reads-patch.text e)

    pub both_read : {C : Type 0} {second : Read.Value} → told-patch ≡ Ok second → length w''.nodes ≡ length w'.nodes
        → BothRead T w'' first.end C → C
    both_read e kept then-it =
        text-value reads.text t λ v reads_as few rooted changed.
        text-value reads-patch.text e λ p patch-as few_nodes rooted-patch changed-patch.
        let d = document_held rooted few (read-depth T.document v (document_as_read ∙ reads_as)) (omega arith) in
        let proper = (read_proper T.patch p (patch_as_read ∙ patch-as)).0 in
        then-it v p (document_as_read ∙ reads_as) (patch_as_read ∙ patch-as) (document-kept changed-patch (omega arith) d)
        (patch_held rooted-patch few_nodes proper) (record { document = omega arith; patch = omega arith })

-- ---- by what `check_lengths` and `read_texts` answer
module _ {T : Texts} (P : ℕ → ℕ → ℕ → Type 0) where
  -- a text that is too long: P of the refusal's number, of the text and of the place
  pub long_by : {s : Result (Unit {0}) Unread} {u : Unread} → LengthsAre T s → s ≡ Err u → (max_bytes < length T.document → P input_too_long 1 0)
      → (length T.document ≤ max_bytes → max_bytes < length T.patch → P input_too_long 2 0) → P (number_of u.fault.refusal) u.text u.fault.place
  unfolding number_of
  long_by {u = u} (document_long h) t first second = let same : too_long 1 ≡ u = cc in rw (← same) (first h)
  long_by {u = u} (patch_long h i) t first second = let same : too_long 2 ≡ u = cc in rw (← same) (second h i)
  long_by (both_short h i) t first second = absurd (let z : ◌≡◌ {A = ℕ} 0 1 = cc in omega arith)

  -- a text that is refused
  pub unread_by : {nodes : List Row} {s : Result ℕ Unread} {u : Unread} → TextsRead T nodes s → s ≡ Err u
      → ((n place : ℕ) → read T.document ≡ refused n place → P n 1 place)
      → ((n place : ℕ) (v : Value.Value) → read T.document ≡ ok v → read T.patch ≡ refused n place → P n 2 place)
      → P (number_of u.fault.refusal) u.text u.fault.place
  unread_by {u = u} (document_unread e h) t first second =
      let same : ◌≡◌ {A = Unread} (record { text = 1; fault = e }) u = cc in rw (← same) (first _ _ h)
  unread_by {u = u} (patch_unread e v h i) t first second =
      let same : ◌≡◌ {A = Unread} (record { text = 2; fault = e }) u = cc in rw (← same) (second _ _ v h i)
  unread_by (texts_read used v p h i d held short) t first second = absurd (let z : ◌≡◌ {A = ℕ} 0 1 = cc in omega arith)

pub lengths_short : {T : Texts} {s : Result (Unit {0}) Unread} {u : Unit {0}} → LengthsAre T s → s ≡ Ok u
    → (length T.document ≤ max_bytes) × (length T.patch ≤ max_bytes)
lengths_short (document_long h) t = absurd (let z : ◌≡◌ {A = ℕ} 0 1 = cc in omega arith)
lengths_short (patch_long h i) t = absurd (let z : ◌≡◌ {A = ℕ} 0 1 = cc in omega arith)
lengths_short (both_short h i) t = (h, i)

pub read_by : {T : Texts} {nodes : List Row} {s : Result ℕ Unread} {used : ℕ} → TextsRead T nodes s → s ≡ Ok used → {C : Type 0}
    → ((v p : Value.Value) → read T.document ≡ ok v → read T.patch ≡ ok p → Document (table T nodes) used v → PatchHeld (table T nodes) p
    → Short T → C)
    → C
read_by (document_unread e h) t then-it = absurd (let z : ◌≡◌ {A = ℕ} 0 1 = cc in omega arith)
read_by (patch_unread e v h i) t then-it = absurd (let z : ◌≡◌ {A = ℕ} 0 1 = cc in omega arith)
read_by {T} {nodes} {used = used} (texts_read n v p h i d held short) t then-it =
    let same : n ≡ used = cc in then-it v p h i (subst (λ m. Document (table T nodes) m v) same d) held short
