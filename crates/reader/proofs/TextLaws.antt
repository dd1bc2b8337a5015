-- Laws of reading a whole text.
use Rattle.std.specs.Prelude.{if◌then◌else◌, Result, Ok, Err}
use Prim.Native.Nat.{ℕ, ◌+◌, ◌-◌, ◌≤◌}
use native.Mathlib.Omega.{arith}
use mathlib.Core.Path.{◌≡◌, refl, sym, ap, ap₂, ◌∙◌}
use mathlib.Core.Bool.{Bool, true, false, true≢false}
use mathlib.Core.List.{List, []}
use lib.Dec.{ltb}
use lib.ListN.{length}
use borrow.Author.Tests.{eq-eqb, ne_eqb, ltb-false}
use Rattle.spec.specs.Outcome.{Outcome, ok, refused, is_refused, ◌>>=◌}
use Rattle.spec.specs.Refusal.{not_json, work_too_short, input_too_long}
use Rattle.spec.specs.Fault.{number_of, outcome}
use Rattle.spec.specs.declared.refusal.Refusal.TheVariants as Refusal
use Rattle.spec.specs.declared.refusal.Fault.{Fault}
use Rattle.spec.proofs.FaultLaws.{answer_ok, answer_refused}
use Rattle.spec.specs.Limits.{max_bytes, max_depth, max_nodes}
use Rattle.spec.specs.Bytes.{Bytes}
use Rattle.spec.specs.Forest.{Forest, none, tree, single, size}
use Rattle.spec.specs.Value as Value
use Rattle.spec.specs.Value.{named}
use Rattle.spec.specs.Read.{blanks, value, read}
use Rattle.lexer.specs.declared.cursor.Cursor.{Cursor}
use Rattle.tape.specs.Layout.{scratch_row, rows}
use Rattle.tape.specs.Fields.{Row}
use Rattle.tape.specs.declared.fields.Cell.{Cell}
use Rattle.tape.specs.declared.fields.Name.{Name}
use Rattle.tape.specs.Cell.{Held}
use Rattle.tape.specs.Map.{map_forest}
use Rattle.tape.specs.Lent.{Texts}
use Rattle.table.specs.Meaning.{source_text, entry_of, members}
use Rattle.table.specs.Sound.{Sound}
use Rattle.index.specs.Slots.{slots}
use Rattle.reader.specs.Work.{Work}
use Rattle.reader.specs.Words.{nameless}
use Rattle.reader.specs.Filled.{Filled}
use Rattle.reader.specs.Names.{Lent}
use Rattle.reader.specs.Taken.{Taken, taken, refusal, ValueTaken}
use Rattle.reader.specs.Texts.{reading, refusal_before, Rooted, text_read, text_refused, ReadIs, TextIs}
use Rattle.reader.specs.declared.containers.Source.{Source}
use Rattle.reader.specs.declared.values.Value as Declared
use Rattle.reader.proofs.WordLaws.{no_titles}
use Rattle.reader.proofs.RowLaws.{unchanged, change_wider}
use Rattle.reader.proofs.FilledLaws.{beyond_none, filled_held}

-- ---- a forest that means one value is one tree
module _ {T : Texts} {base end : ℕ} {v : Value.Value} {nodes : List Row} where
  rooted : (cells : Forest Cell) → base + size cells ≡ end → Held nodes base cells → members T cells ≡ single (named [] v) → Sound T cells
      → Rooted (record { texts = T; nodes = nodes }) base end v
  unfolding map_forest size
  rooted none e h n sound = absurd (let z : ◌≡◌ {A = ℕ} 0 1 = cc in omega arith)
  rooted (tree c kids (tree d others rest)) e h n sound = absurd (let z : ◌≡◌ {A = ℕ} 0 1 = cc in omega arith)
  rooted (tree c kids none) e h n sound =
      let entry : entry_of T c ≡ record { name = []; label = v.label } = cc in
      let below : members T kids ≡ v.kids = cc in
      record {
        root = c;
        kids = kids;
        ends = omega arith;
        held = h;
        means = ap₂ (λ l f. record { label = l; kids = f }) (ap (λ e. e.label) entry) below;
        nameless = ap (λ e. e.name) entry;
        sound = sound;
      }

filled_rooted : {source : ℕ} {s : Bytes} {T : Texts} {base end : ℕ} {v : Value.Value} {nodes : List Row} → source_text T source ≡ s → end ≤ length nodes
    → Filled source s base end (single (named [] v)) nodes → Rooted (record { texts = T; nodes = nodes }) base end v
filled_rooted {T = T} e long f = rooted f.cells f.ends (filled_held long f) (f.meant T e) (f.sound T e)

-- ---- the definition's steps
module _ (s : Bytes) where
  read_refused : (n place : ℕ) → value max_depth s (blanks s 0) 0 ≡ refused n place → read s ≡ refused n place
  unfolding read ◌>>=◌
  read_refused n place e = rw e

  module _ (v : Value.Value) (next : ℕ) (reads : value max_depth s (blanks s 0) 0 ≡ ok (v, next)) where
    read_whole : blanks s next ≡ length s → read s ≡ ok v
    unfolding read ◌>>=◌
    read_whole e = rw (reads, eq-eqb (blanks s next) (length s) e)

    read_more : (blanks s next ≡ length s → ⊥) → read s ≡ refused not_json (blanks s next)
    unfolding read ◌>>=◌
    read_more n = rw (reads, ne_eqb (blanks s next) (length s) n)

-- ---- each way out of `read`
module _ (source : Source) {s : Bytes} (first : ℕ) {name : Name} {w w' : Work} {r : Result Declared.Value Fault} (first_is : first ≡ blanks s 0) (name_is : name ≡ nameless)
    (told : ValueTaken source s first max_depth name source.base w w' r) where
  same : value max_depth s first (source.base - source.base) ≡ value max_depth s (blanks s 0) 0
  same = let z : source.base - source.base ≡ 0 = omega arith in rw (first_is, z)

  root : Taken source.number s first [] source.base source.base (source.base + max_nodes) w w' (value max_depth s first (source.base - source.base)) r
  root = told [] (rw name_is (no_titles source.number s))

  pub text_unread : (x : Fault) → r ≡ Err x → ReadIs source s w w' (Err x)
  text_unread x e = go r root e
    where
      go : (r : Result Declared.Value Fault) → Taken source.number s first [] source.base source.base (source.base + max_nodes) w w' (value max_depth s first (source.base - source.base)) r → r ≡ Err x
          → ReadIs source s w w' (Err x)
      go r (taken v read q a f c m) e = absurd (let z : ◌≡◌ {A = ℕ} 0 1 = cc in omega arith)
      go r (refusal x' q c b) e =
          let is : x' ≡ x = cc in
          let refuses : value max_depth s (blanks s 0) 0 ≡ refused (number_of x.refusal) x.place =
          sym same ∙ q ∙ ap (λ x. refused (number_of x.refusal) x.place) is in
          record { text = λ T t. text_refused x (read_refused s _ _ refuses) c; beyond = b }

  module _ (read : Declared.Value) (last : ℕ) (is : r ≡ Ok read) (last-is : last ≡ blanks s read.next.at) where
    pub text_more : (last ≡ length s → ⊥) → ReadIs source s w w' (Err (record { refusal = Refusal.NotJson; place = last }))
    unfolding number_of
    text_more n = go r root is
      where
        go : (r : Result Declared.Value Fault) → Taken source.number s first [] source.base source.base (source.base + max_nodes) w w' (value max_depth s first (source.base - source.base)) r → r ≡ Ok read
            → ReadIs source s w w' (Err (record { refusal = Refusal.NotJson; place = last }))
        go r (taken v read' q a f c m) e =
            let x : read' ≡ read = cc in
            let reads : value max_depth s (blanks s 0) 0 ≡ ok (v, read.next.at) = sym same ∙ q ∙ ap (λ c. ok (v, c.next.at)) x in
            record {
              text = λ T t.
                  text_refused _ (read_more s v read.next.at reads (λ k. n (last-is ∙ k)) ∙ ap (refused not_json) (sym last-is))
                  (change_wider source.base (source.base + max_nodes) (omega arith) a.room c);
              beyond = m.beyond;
            }
        go r (refusal x q c b) e = absurd (let z : ◌≡◌ {A = ℕ} 0 1 = cc in omega arith)

    pub text_whole : (cursor : Cursor) → cursor.at ≡ last → last ≡ length s → scratch_row ≤ length w'.nodes
        → ReadIs source s w w' (Ok (record { next = cursor; end = read.end }))
    text_whole cursor at_last whole long = go r root is
      where
        go : (r : Result Declared.Value Fault) → Taken source.number s first [] source.base source.base (source.base + max_nodes) w w' (value max_depth s first (source.base - source.base)) r → r ≡ Ok read
            → ReadIs source s w w' (Ok (record { next = cursor; end = read.end }))
        go r (taken v read' q a f c m) e =
            let x : read' ≡ read = cc in
            let l : read.end ≤ source.base + max_nodes = rw x at a.room in
            let reads : value max_depth s (blanks s 0) 0 ≡ ok (v, read.next.at) = sym same ∙ q ∙ ap (λ c. ok (v, c.next.at)) x in
            record {
              text = λ T t.
                  text_read v _ (read_whole s v read.next.at reads (sym last-is ∙ whole)) (at_last ∙ whole) l
                  (filled_rooted t (omega (arith, l, long, source.low)) (rw x at f)) (rw x at c);
              beyond = m.beyond;
            }
        go r (refusal x q c b) e = absurd (let z : ◌≡◌ {A = ℕ} 0 1 = cc in omega arith)

-- ---- the refusals before
module _ (s : Bytes) (w : Work) {n : Result (Unit {0}) Fault} (is : outcome n ≡ refusal_before w s) where
  pub early_refused : {T : Texts} {base : ℕ} (x : Fault) → n ≡ Err x → TextIs T s base w w (reading w s) (Err x)
  unfolding reading ◌>>=◌
  early_refused {base = base} x e =
      record {
        text = text_refused x (rw (answer_refused _ x is e)) (unchanged base (base + max_nodes) w.nodes);
        beyond = beyond_none;
        unread = λ _. refl;
      }

  module _ (passes : n ≡ Ok tt) where
    none-before : refusal_before w s ≡ ok tt
    none-before = answer_ok _ tt is passes

    early : (ltb (length w.nodes) rows ≡ false) × (ltb (length w.index) slots ≡ false) × (ltb max_bytes (length s) ≡ false)
    unfolding refusal_before
    early =
        go (ltb (length w.nodes) rows) refl (ltb (length w.index) slots) refl (ltb max_bytes (length s)) refl none-before
      where
        go : (a : Bool) → ltb (length w.nodes) rows ≡ a → (b : Bool) → ltb (length w.index) slots ≡ b → (c : Bool) → ltb max_bytes (length s) ≡ c
            → ◌≡◌ {A = Outcome (Unit {0})}
            (if a then refused work_too_short 0 else if b then refused work_too_short 0 else if c then refused input_too_long 0 else ok tt) (ok tt)
            → (ltb (length w.nodes) rows ≡ false) × (ltb (length w.index) slots ≡ false) × (ltb max_bytes (length s) ≡ false)
        go true p b q c r e = absurd (let z : ◌≡◌ {A = ℕ} 0 1 = cc in omega arith)
        go false p true q c r e = absurd (let z : ◌≡◌ {A = ℕ} 0 1 = cc in omega arith)
        go false p false q true r e = absurd (let z : ◌≡◌ {A = ℕ} 0 1 = cc in omega arith)
        go false p false q false r e = (p, q, r)

    pub lent : Lent s w
    lent =
        let a = ltb-false (length w.nodes) rows early.0 in
        let b = ltb-false (length w.index) slots early.1 in
        let c = ltb-false max_bytes (length s) early.2 in
        record { short = omega arith; nodes_long = omega arith; index_long = omega arith }

    reading-read : reading w s ≡ read s
    unfolding reading ◌>>=◌
    reading-read = rw none-before

    pub text_is : (source : Source) {T : Texts} {w' : Work} {r : Result Declared.Value Fault} → source_text T source.number ≡ s → ReadIs source s w w' r
        → TextIs T s source.base w w' (reading w s) r
    unfolding is_refused
    text_is source {T} e i =
        record { text = rw reading-read (i.text T e); beyond = i.beyond; unread = λ some. absurd (true≢false (sym some ∙ ap is_refused none-before)) }
