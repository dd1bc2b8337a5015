-- The changes of a value's children are those of the cells that mean them.
use Prim.Native.Nat.{ℕ, suc, ◌<◌, ◌≤◌}
use native.Mathlib.Omega.{arith}
use mathlib.Core.Path.{◌≡◌, refl, ap, sym, ◌∙◌}
use mathlib.Core.List.{[]}
use Rattle.spec.specs.Forest.{Forest, count, size, nth, insert_at, remove_at, replace_at}
use Rattle.spec.specs.Value as Plain
use Rattle.origin.specs.Value.{named, forget_members, depth, nodes}
use Rattle.origin.specs.Operation.{put, with_kids}
use Rattle.origin.proofs.ForgetLaws.{map-map}
use Rattle.origin.specs.Value.{forget_entry}
use Rattle.lexer.specs.Hash.{hash_from, hash}
use Rattle.text.specs.Decode.{text_from, text_of}
use Rattle.tape.specs.declared.fields.Name.{Name}
use Rattle.tape.specs.declared.fields.Cell.{Cell}
use Rattle.tape.specs.Cell.{Told, Formed, level, deep}
use Rattle.tape.specs.Lent.{Texts}
use Rattle.tape.proofs.Cells.{blank}
use Rattle.tape.proofs.Map.{map-insert_at, map-remove_at, map-replace_at}
use Rattle.table.specs.Meaning.{spelled, name_text, short_hash, members}
use Rattle.table.specs.Sound.{NameFits, Sound}
use Rattle.table.proofs.MeaningLaws.{depth-meant, nodes-meant}
use Rattle.table.proofs.AllLaws.{all_first}
use Rattle.walk.proofs.Children.{forget-borne, child-borne, sound_child}
use Rattle.walk.specs.Bearing.{bearing, borne_members, borne}
use Rattle.walk.specs.Names.{IsToken, no_name}
use Rattle.changes.specs.Cut.{renamed}

-- ---- no name
pub no_name_lem : (T : Texts) → name_text T no_name ≡ []
unfolding spelled text_of text_from
no_name_lem T = refl

pub no_name_fits : (T : Texts) → NameFits T no_name
unfolding hash hash_from short_hash
no_name_fits T =
    record { hashed = record { is = sym (ap (λ t. short_hash (hash t)) (no_name_lem T)) }; verbatim = record { is = λ plain. absurd (omega arith) } }

pub no_name-told : Told no_name.text
no_name-told = record { form = omega arith; source = omega arith }

-- a token is decoded again when it is written
pub token_fits : {T : Texts} {name : Name} → IsToken T name → NameFits T name
token_fits t = record { hashed = t.hashed; verbatim = record { is = λ plain. absurd (omega (arith, t.form)) } }

-- ---- what does not look at origins
pub members-borne : (T : Texts) (kids : Forest Cell) → forget_members (borne_members T kids) ≡ members T kids
members-borne T kids = map-map forget_entry (bearing T) kids

pub nodes-borne : (T : Texts) (c : Cell) (kids : Forest Cell) → nodes (borne T c kids) ≡ suc (size kids)
nodes-borne T c kids = ap Plain.nodes (forget-borne T c kids) ∙ nodes-meant T c kids

pub depth-borne : (T : Texts) (c : Cell) (kids : Forest Cell) → c.kind ≤ 6 → Formed kids → depth (borne T c kids) ≡ level c (deep kids)
depth-borne T c kids fits formed = ap Plain.depth (forget-borne T c kids) ∙ depth-meant T c kids fits formed

-- ---- the three changes
module _ (T : Texts) (k : ℕ) (c : Cell) (kids : Forest Cell) where
  pub removed_borne : with_kids (borne T c kids) (remove_at k (borne_members T kids)) ≡ borne T c (remove_at k kids)
  removed_borne = ap (with_kids (borne T c kids)) (sym (map-remove_at (bearing T) k kids))

  module _ (x : Cell) (below : Forest Cell) where
    pub inserted_borne : (name : Name) → with_kids (borne T c kids) (insert_at k (named (name_text T name) (borne T x below)) (borne_members T kids))
        ≡ borne T c (insert_at k (renamed name x below) kids)
    inserted_borne name = ap (with_kids (borne T c kids)) (sym (map-insert_at (bearing T) k (renamed name x below) kids))

    -- the k-th child's name is kept
    pub put-borne : put k (borne T x below) (borne T c kids) ≡ borne T c (replace_at k (renamed (nth blank k kids).root.name x below) kids)
    unfolding put
    put-borne =
        ap (λ t. with_kids (borne T c kids) (replace_at k (named t.root.name (borne T x below)) (borne_members T kids))) (child-borne T k c kids)
        ∙ ap (with_kids (borne T c kids)) (sym (map-replace_at (bearing T) k (renamed (nth blank k kids).root.name x below) kids))

pub name_fits : {T : Texts} {kids : Forest Cell} (k : ℕ) → k < count kids → Sound T kids → NameFits T (nth blank k kids).root.name
name_fits k l sound = (all_first (sound_child k l sound)).name
