-- What reading a line comes to, by the tests on the line.
use Rattle.std.specs.Prelude.{Option, Some, None, Ok, Err}
use Rattle.std.specs.Option.{ok_or}
use Rattle.std.proofs.Common.{◌≡◌, ℕ, ◌+◌, ◌%◌, ◌<◌, ◌≤◌, true, false, ◌&&◌, eqb, leb, length, sym, refl, ◌∙◌, arith, eq-eqb, ne_eqb, le-leb, eqb-true, leb-true}
use mathlib.Core.Bool.{and-false, or-true}
use borrow.Author.Tests.{lt-leb}
use Rattle.spec.specs.Bytes.{Bytes}
use Rattle.lexer.proofs.Tests.{and_both}
use Rattle.intel_hex.specs.Record.{total, max_text}
use Rattle.intel_hex.specs.Reading.{count, address_of, type_of, line_length, is_data, is_end, is_record, has_sum}
use Rattle.intel_hex.specs.Reading.{is_next, bytes_of, by_type, read_line}
use Rattle.intel_hex.specs.Steps.{FieldsAre, RecordIs, FormIs, stepped, Onward, StepIs}
use Rattle.intel_hex.specs.declared.lines.Record.{Record}
use Rattle.intel_hex.specs.declared.lines.Form.{Form}
use Rattle.intel_hex.specs.declared.refusal.HexRefusal.TheVariants as HexRefusal
use Rattle.intel_hex.proofs.LineLaws.{line-within, not_so}

-- an error that stands for what is missing
pub missing : {T E : Type 0} (o : Option T) {e e' : E} → Err e ≡ ok_or o e' → (e ≡ e') × (o ≡ None)
missing None h = (cc, refl)
missing (Some x) h = cc

-- ---- by type, count and address

module _ {t : Bytes} {r : Record} (f : FieldsAre t r) where
  pub data_is : FormIs r (Some Form.Data) → (is_data t ≡ true) × (is_end t ≡ false)
  unfolding is_data is_end
  data_is d = (
    rw (eq-eqb (type_of t) 0 (sym f.kind_is ∙ d.0), le-leb 1 (count t) (omega (arith, f.count_is, d.1))),
    rw (ne_eqb (type_of t) 1 (λ e. omega (arith, f.kind_is, d.0))),
  )

  pub end_is : FormIs r (Some Form.End) → is_end t ≡ true
  unfolding is_end
  end_is d = rw (
    eq-eqb (type_of t) 1 (sym f.kind_is ∙ d.0),
    eq-eqb (count t) 0 (sym f.count_is ∙ d.1),
    eq-eqb (address_of t) 0 (sym f.address_is ∙ d.2),
  )

  pub neither : FormIs r None → (is_data t ≡ false) × (is_end t ≡ false)
  unfolding is_data is_end
  neither d = (
    not_so (eqb (type_of t) 0 && leb 1 (count t)) (λ e. let b = and_both (eqb (type_of t) 0) (leb 1 (count t)) e in
        omega (arith, d.0 (f.kind_is ∙ eqb-true (type_of t) 0 b.0), leb-true 1 (count t) b.1, f.count_is)),
    not_so (eqb (type_of t) 1 && (eqb (count t) 0 && eqb (address_of t) 0)) (λ e. let b = and_both (eqb (type_of t) 1)
        (eqb (count t) 0 && eqb (address_of t) 0) e in let g = and_both (eqb (count t) 0) (eqb (address_of t) 0) b.1 in
        d.1 (f.kind_is ∙ eqb-true (type_of t) 1 b.0) (f.count_is ∙ eqb-true (count t) 0 g.0) (f.address_is ∙ eqb-true (address_of t) 0 g.1)),
  )

-- ---- a line

module _ (t : Bytes) (line next : ℕ) where
  no_record : is_record t ≡ false → StepIs t line next (Err record { refusal = HexRefusal.NotARecord; line = line })
  unfolding read_line stepped Onward
  no_record e = record { gives = λ behind. rw e; onward = tt }

  pub bad_line : RecordIs t None → StepIs t line next (Err record { refusal = HexRefusal.NotARecord; line = line })
  unfolding RecordIs is_record
  bad_line e = no_record (rw e)

  module _ {r : Record} (f : FieldsAre t r) where
    pub bad_form : FormIs r None → StepIs t line next (Err record { refusal = HexRefusal.NotARecord; line = line })
    unfolding is_record
    bad_form d = let n = neither f d in no_record (rw (n.0, n.1, and-false))

    is_one : (form : Form) → FormIs r (Some form) → is_record t ≡ true
    unfolding is_record
    is_one Form.Data d = rw (f.line, (data_is f d).0)
    is_one Form.End d = rw (f.line, end_is f d, or-true)

    pub bad_sum : (form : Form) → FormIs r (Some form) → (r.sum ≡ 0 → ⊥) → StepIs t line next (Err record { refusal = HexRefusal.WrongSum; line = line })
    unfolding read_line has_sum stepped Onward
    bad_sum form d n =
        record {
          gives = λ behind. rw (is_one form d, ne_eqb (total (bytes_of t) % 256) 0 (λ e. n (f.sum_is ∙ e)));
          onward = tt;
        }

    module _ (z : r.sum ≡ 0) where
      summed : has_sum t ≡ true
      unfolding has_sum
      summed = eq-eqb (total (bytes_of t) % 256) 0 (sym f.sum_is ∙ z)

      pub end_behind : FormIs r (Some Form.End) → r.width < length t →
          StepIs t line next (Err record { refusal = HexRefusal.WrongEnd; line = line + 1 })
      unfolding read_line by_type stepped Onward
      end_behind d h =
          record {
            gives = λ behind. rw (is_one Form.End d, summed, end_is f d, lt-leb (length t) (line_length t) (omega (arith, f.width_is)));
            onward = tt;
          }

      pub end_last : FormIs r (Some Form.End) → length t ≤ r.width → StepIs t line next (Ok None)
      unfolding read_line by_type stepped Onward
      end_last d h =
          record {
            gives = λ behind. rw (is_one Form.End d, summed, end_is f d, le-leb (length t) (line_length t) (omega (arith, f.width_is)));
            onward = tt;
          }

      module _ (d : FormIs r (Some Form.Data)) where
        bad_next : is_next t next ≡ false → StepIs t line next (Err record { refusal = HexRefusal.WrongAddress; line = line })
        unfolding read_line by_type stepped Onward
        bad_next e = record { gives = λ behind. rw (is_one Form.Data d, summed, (data_is f d).1, e); onward = tt }

        pub other_address : (r.address ≡ next → ⊥) → StepIs t line next (Err record { refusal = HexRefusal.WrongAddress; line = line })
        unfolding is_next
        other_address n = bad_next (rw (ne_eqb (address_of t) next (λ e. n (f.address_is ∙ e))))

        pub past_end : max_text < next + r.count → StepIs t line next (Err record { refusal = HexRefusal.WrongAddress; line = line })
        unfolding is_next
        past_end h = bad_next (rw (lt-leb (next + count t) max_text (omega (arith, f.count_is)), and-false))

        pub more : r.address ≡ next → next + r.count ≤ max_text → StepIs t line next (Ok (Some r))
        unfolding read_line by_type is_next stepped Onward
        more a h =
            let lies = line-within t f.line in
            record {
              gives = λ behind. rw (
                is_one Form.Data d,
                summed,
                (data_is f d).1,
                eq-eqb (address_of t) next (sym f.address_is ∙ a),
                le-leb (next + count t) max_text (omega (arith, f.count_is)),
              );
              onward = (f.count_is, f.width_is, omega (arith, f.width_is), omega (arith, f.width_is), h);
            }
