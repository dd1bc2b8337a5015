-- What the comparison of two values in the table answers.
use Rattle.std.specs.Prelude.{ℕ, ◌+◌, ◌≤◌, ◌<◌, ◌≡◌, Bool, true, false, List, [], get_or, Option, Some}
use Rattle.spec.specs.Forest.{Forest}
use Rattle.spec.specs.Value.{Label, depth}
use Rattle.spec.specs.Equality.{same_label, equal}
use Rattle.spec.specs.Distinct.{Distinct}
use Rattle.tape.specs.Layout.{object_kind}
use Rattle.tape.specs.Fields.{Row, kind_of, value_of, name_of}
use Rattle.tape.specs.declared.fields.Name.{Name}
use Rattle.tape.specs.declared.fields.Cell.{Cell}
use Rattle.table.specs.Meaning.{label_of, meant}
use Rattle.table.specs.Sound.{NumberFits, NodeHeld}
use Rattle.table.specs.Find.{same_name, FindIs}
use Rattle.index.specs.Members.{Child, Parents}
use Rattle.tape.specs.Lent.{Texts, Table}
use Rattle.equality.specs.declared.Pair.{Pair}

-- ---- two labels by their rows
-- a row of one of the seven kinds; where it is a number's, the number is within the limits
pub record Labelled (T : Texts) (row : Row) : Type 0 where
  pub kind : kind_of row ≤ object_kind
  pub fits : NumberFits T (kind_of row) (value_of row)

abbrev pub row_label : Texts → Row → Label
row_label T row = label_of T (kind_of row) (value_of row)

abbrev pub SameLabelIs : Texts → Row → Row → Bool → Type 0
SameLabelIs T a b r = Labelled T a → Labelled T b → r ≡ same_label (row_label T a) (row_label T b)

-- ---- the child that is compared with the one in a row
-- each parent that the index notes for a node of the tree in the row `top` is its parent; 0 stands for no tree
pub record Hints (nodes : List Row) (index : List ℕ) (top : ℕ) : Type 0 where
  pub right : 0 < top → Parents top nodes index

-- a member of a name among the children of the node in the row `other`: the first by a search, or a child that has the name
pub data SoughtIs (w : Table) (other end : ℕ) (name : Name) : Option ℕ → Type 0 where
  searched : {r : Option ℕ} → FindIs w (other + 1) end name r → SoughtIs w other end name r
  hinted : {pair : ℕ} → Child w.nodes other pair → same_name w.texts (name_of (get_or w.nodes pair [])) name ≡ true → SoughtIs w other end name (Some pair)

-- in an array the one in the row `next`; in an object that one, where it has the same name, otherwise the one that is sought
pub data PartnerIs (w : Table) (other end row next : ℕ) : Bool → Option ℕ → Type 0 where
  element : PartnerIs w other end row next false (Some next)
  in_step : same_name w.texts (name_of (get_or w.nodes row [])) (name_of (get_or w.nodes next [])) ≡ true → PartnerIs w other end row next true (Some next)
  sought : {r : Option ℕ} → SoughtIs w other end (name_of (get_or w.nodes row [])) r → PartnerIs w other end row next true r

abbrev pub PartnerOf : Table → Pair → ℕ → ℕ → Option ℕ → Type 0
PartnerOf w pair row next r = PartnerIs w pair.other pair.end row next pair.object r

-- ---- two values
-- whether the values that the table holds in two rows are equal, if the first nests at most `levels` containers and no object of the second has two
-- members of one name; otherwise the answer is free
abbrev pub EqualIs : Table → ℕ → ℕ → ℕ → Bool → Type 0
EqualIs w at other levels r =
    (c : Cell) (kids : Forest Cell) (e : Cell) (below : Forest Cell)
    → NodeHeld w at c kids → NodeHeld w other e below
    → depth (meant w.texts c kids) ≤ levels → Distinct (meant w.texts e below)
    → r ≡ equal (meant w.texts c kids) (meant w.texts e below)
