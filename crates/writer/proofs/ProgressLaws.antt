-- A loop over a container's values: the text so far and those that are left are the text of all.
use Prim.Native.Nat.{ℕ, ◌+◌, ◌-◌, ◌≤◌, ◌<◌}
use native.Mathlib.Omega.{arith}
use mathlib.Core.Path.{◌≡◌, refl, ap, subst, ◌∙◌}
use mathlib.Core.Bool.{Bool, true, false}
use mathlib.Core.List.{[], ◌++◌, append_assoc, append-nil}
use lib.ListN.{get_or}
use Rattle.spec.specs.Bytes.{Bytes}
use Rattle.spec.specs.Forest.{Forest, tree}
use Rattle.spec.specs.Write.{write_items, write}
use Rattle.tape.specs.Layout.{array_kind}
use Rattle.tape.specs.Fields.{name_of}
use Rattle.tape.specs.declared.fields.Cell.{Cell}
use Rattle.tape.specs.Cell.{deep}
use Rattle.tape.specs.Rows.{end_of}
use Rattle.tape.proofs.Depth.{level-container}
use Rattle.tape.proofs.Rows.{cell_here}
use Rattle.tape.proofs.Held.{held_node, Remaining, remaining_all, remaining_next, remaining_none, remaining-first}
use Rattle.table.specs.Meaning.{members, meant}
use Rattle.table.specs.Sound.{Sound, NodeHeld}
use Rattle.table.proofs.AllLaws.{all_first, all_kids, all_rest}
use Rattle.writer.specs.Pieces.{prefix_bytes}
use Rattle.writer.specs.Writing.{Writable, ForWritable}
use Rattle.writer.proofs.PieceLaws.{items_tree, items_none}
use Rattle.tape.specs.Lent.{Table}

-- `R text` is what the code knows of the text so far: that it is laid down, or how long it is
pub record Progress (W : Table) (object : Bool) (levels : ℕ) (kids : Forest Cell) (row end : ℕ) (first : Bool) (R : Bytes → Type 0) : Type 0 where
  pub text : Bytes
  pub so_far : R text
  pub left : Forest Cell
  pub remaining : Remaining W.nodes row end left
  pub sound : Sound W.texts left
  pub nested : deep left ≤ levels
  pub whole : write_items object true (members W.texts kids) ≡ text ++ write_items object first (members W.texts left)

module _ {W : Table} where
  -- before the first turn
  pub progress_all : {at levels : ℕ} {c : Cell} {kids : Forest Cell} {R : Bytes → Type 0} (object : Bool) (end : ℕ) → end ≡ end_of W.nodes at
      → array_kind ≤ c.kind
      → Writable W at levels c kids → R [] → Progress W object (levels - 1) kids (at + 1) end true R
  progress_all {c = c} {kids} object end e h w r =
      record {
        text = [];
        so_far = r;
        left = kids;
        remaining = remaining_all end e w.node.held;
        sound = w.node.sound;
        nested = omega (arith, w.nested, level-container c (deep kids) h);
        whole = refl;
      }

  module _ {object : Bool} {levels : ℕ} {kids : Forest Cell} {row end : ℕ} {first : Bool} {R : Bytes → Type 0}
      (p : Progress W object levels kids row end first R) where
    -- a turn: what the code does to the text, given the value in the row
    pub progress_next : {R' : Bytes → Type 0} → row < end → (next : ℕ) → ForWritable W row levels (λ v. next ≡ end_of W.nodes row)
        → ((c : Cell) (ks : Forest Cell) → Writable W row levels c ks → (text : Bytes) → R text
        → R' (text ++ prefix_bytes W.texts object first (name_of (get_or W.nodes row [])) ++ write (meant W.texts c ks)))
        → Progress W object levels kids next end false R'
    unfolding deep
    progress_next more next n step =
        remaining-first p.remaining more λ c ks rest e r.
        let s : Sound W.texts (tree c ks rest) = subst (Sound W.texts) e p.sound in
        let d : deep (tree c ks rest) ≤ levels = subst (λ f. deep f ≤ levels) e p.nested in
        let node : NodeHeld W row c ks = record { rest = rest; held = r.held; label = (all_first s).label; sound = all_kids s } in
        let w : Writable W row levels c ks = record { node = node; nested = omega arith } in
        let name : name_of (get_or W.nodes row []) ≡ c.name = ap (λ (d : Cell). d.name) (cell_here (held_node r.held) []) in
        let before : Bytes = prefix_bytes W.texts object first c.name in
        let value : Bytes = write (meant W.texts c ks) in
        record {
          text = p.text ++ before ++ value;
          so_far = rw name at (step c ks w p.text p.so_far);
          left = rest;
          remaining = remaining_next next (n c ks w) r;
          sound = all_rest s;
          nested = omega arith;
          whole =
              p.whole
              ∙ ap (λ f. p.text ++ write_items object first (members W.texts f)) e
              ∙ ap (◌++◌ p.text) (items_tree W.texts object first c ks rest (all_first s).name.verbatim)
              ∙ simp append_assoc;
        }

    -- after the last
    pub progress_none : end ≤ row → R (write_items object true (members W.texts kids))
    progress_none h =
        let all : write_items object true (members W.texts kids) ≡ p.text =
        p.whole ∙ ap (λ f. p.text ++ write_items object first (members W.texts f)) (remaining_none p.remaining h)
        ∙ ap (◌++◌ p.text) (items_none W.texts object first) ∙ append-nil p.text in
        rw all p.so_far
