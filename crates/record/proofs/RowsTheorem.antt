-- specs/Rows, proved: records and rows of eight fields are the same, and so is what is done to them.
use Prim.Native.Nat.{ℕ, zero, suc, ◌<◌}
use native.Mathlib.Omega.{arith}
use native.Mathlib.Decide.{dec_lt}
use mathlib.Core.Path.{◌≡◌, refl, sym, ◌∙◌, ap}
use mathlib.Core.List.{List, [], ◌∷◌}
use lib.ListN.{length, set, get_or-map}
use lib.Seq.{set_out}
use Rattle.tape.specs.Fields.{Row, no_node}
use Rattle.tape.specs.Columns.{wiped}
use Rattle.tape.proofs.Columns.{filled_in, filled_out, replaced-one}
use Rattle.record.specs.declared.Node.{Node}
use Rattle.record.specs.Records.{no_record, fields_of, record_of, rows_of}
use Rattle.record.specs.Rows.{SameFields, SameOnRows}

row_back : (row : Row) → length row ≡ 8 → fields_of (record_of row) ≡ row
row_back [] l = absurd (omega (arith, l))
row_back (a ∷ []) l = absurd (omega (arith, l))
row_back (a ∷ b ∷ []) l = absurd (omega (arith, l))
row_back (a ∷ b ∷ c ∷ []) l = absurd (omega (arith, l))
row_back (a ∷ b ∷ c ∷ d ∷ []) l = absurd (omega (arith, l))
row_back (a ∷ b ∷ c ∷ d ∷ e ∷ []) l = absurd (omega (arith, l))
row_back (a ∷ b ∷ c ∷ d ∷ e ∷ f ∷ []) l = absurd (omega (arith, l))
row_back (a ∷ b ∷ c ∷ d ∷ e ∷ f ∷ g ∷ []) l = absurd (omega (arith, l))
row_back (a ∷ b ∷ c ∷ d ∷ e ∷ f ∷ g ∷ h ∷ []) l = refl
row_back (a ∷ b ∷ c ∷ d ∷ e ∷ f ∷ g ∷ h ∷ k ∷ more) l = absurd (omega (arith, l))

pub same_fields : SameFields
same_fields = record { record_back = λ node. refl; row_back = row_back }

stored : (nodes : List Node) (row : ℕ) (node : Node) → rows_of (set nodes row node) ≡ set (rows_of nodes) row (fields_of node)
unfolding rows_of
stored [] row node = refl
stored (n ∷ nodes) zero node = refl
stored (n ∷ nodes) (suc row) node = ap (λ (rows : List Row). fields_of n ∷ rows) (stored nodes row node)

-- one row wiped
wiped-one : (rows : List Row) (row : ℕ) → set rows row no_node ≡ wiped rows row 1
wiped-one rows row = go (dec_lt row (length rows))
  where
    go : Dec (row < length rows) → set rows row no_node ≡ wiped rows row 1
    go (yes there) = replaced-one rows row no_node there ∙ sym (filled_in rows no_node row 1 (omega arith))
    go (no behind) = set_out rows row no_node (omega arith) ∙ sym (filled_out rows no_node row 1 (omega arith))

pub same_on_rows : (nodes : List Node) (row : ℕ) → SameOnRows nodes row
unfolding rows_of
same_on_rows nodes row =
    record {
      read = sym (get_or-map fields_of nodes row no_record);
      store = stored nodes row;
      clear = stored nodes row no_record;
      clear_one = stored nodes row no_record ∙ wiped-one (rows_of nodes) row;
    }
