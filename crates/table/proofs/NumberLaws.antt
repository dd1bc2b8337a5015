-- Which nodes fit: a number that the definitions' reader takes, and whatever is no number.
use Prim.Native.Nat.{ℕ, ◌-◌}
use mathlib.Core.Path.{◌≡◌, ap, ◌∙◌}
use lib.ListN.{take, drop}
use Rattle.spec.specs.Outcome.{ok}
use Rattle.spec.specs.Bytes.{Bytes}
use Rattle.spec.specs.Numbers.{number}
use Rattle.decimal.specs.Normal.{within_limits}
use Rattle.decimal.proofs.Accepted.{number-within_limits}
use Rattle.tape.specs.Layout.{number_kind}
use Rattle.tape.specs.declared.fields.Spelling.{Spelling}
use Rattle.table.specs.Meaning.{part_of}
use Rattle.table.specs.Sound.{NumberFits}
use Rattle.tape.specs.Lent.{Texts}

module _ {T : Texts} {kind : ℕ} {value : Spelling} where
  pub number_fits : (s : Bytes) (start end : ℕ) → number s start ≡ ok end → part_of T value ≡ take (end - start) (drop start s)
      → NumberFits T kind value
  number_fits s start end e p = record { is = λ k. ap within_limits p ∙ number-within_limits s start end e }

  pub other_fits : (kind ≡ number_kind → ⊥) → NumberFits T kind value
  other_fits h = record { is = λ k. absurd (h k) }
