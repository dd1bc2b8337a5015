-- What a call is lent: the two texts, and the list of nodes.
use Rattle.std.specs.Prelude.{ℕ, List, [], get_or}
use Rattle.std.specs.Borrow.{Bor}
use denote.Triple.Both.{Both}
use Rattle.spec.specs.Bytes.{Bytes}
use Rattle.tape.specs.Fields.{Row}

pub record Texts : Type 0 where
  pub document : Bytes
  pub patch : Bytes

-- the texts, and the nodes whose spellings name parts of them
pub record Table : Type 0 where
  pub texts : Texts
  pub nodes : List Row

-- ---- a parameter `texts: Texts`
abbrev LentTexts : Type 0
LentTexts = Both (List (Bor Bytes)) (List (Bor Bytes))

abbrev pub text_at : List (Bor Bytes) → ℕ → Bytes
text_at texts n = (get_or texts n (record { ref_ptr = (0, 0); now = [] })).now

-- the two texts of an array of two references
abbrev pub both : List (Bor Bytes) → Texts
both texts = record { document = text_at texts 0; patch = text_at texts 1 }

abbrev pub table_of : List (Bor Bytes) → List Row → Table
table_of texts nodes = record { texts = both texts; nodes = nodes }

-- as they were lent, and with the nodes as they were lent or as they are given back
abbrev pub lent : LentTexts → Texts
lent texts = both texts.entry

abbrev pub before : LentTexts → List Row → Table
before texts nodes = table_of texts.entry nodes

abbrev pub after : LentTexts → List Row → Table
after texts nodes = table_of texts.entry nodes
