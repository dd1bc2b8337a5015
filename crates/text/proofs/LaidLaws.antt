-- A text laid down piece by piece: what is laid down from a place on, and what is left.
use mathlib.Core.Path.{◌≡◌, refl, ap, sym, ◌∙◌}
use mathlib.Core.List.{[], ◌++◌, append-nil, append_assoc}
use Prim.Native.Nat.{ℕ, ◌+◌}
use native.Mathlib.Omega.{arith}
use lib.ListN.{length, length-append}
use lib.Seq.{sets, length-sets}
use Rattle.spec.specs.Bytes.{Bytes}
use Rattle.text.specs.Written.{Stored}
use Rattle.text.proofs.StoreLaws.{stores_on}

pub record Laid (start : ℕ) (whole rest before out : Bytes) (end : ℕ) : Type 0 where
  pub so_far : Bytes
  pub whole_is : whole ≡ so_far ++ rest
  pub end_is : end ≡ start + length so_far
  pub out_is : out ≡ sets before start so_far

pub laid_starts : (start : ℕ) (whole out : Bytes) → Laid start whole whole out out start
laid_starts start whole out = record { so_far = []; whole_is = refl; end_is = omega arith; out_is = refl }

module _ {start : ℕ} {whole rest before out : Bytes} {end : ℕ} (l : Laid start whole rest before out end) where
  pub laid_length : length out ≡ length before
  laid_length = ap length l.out_is ∙ length-sets before start l.so_far

  pub laid_bound : end + length rest ≡ start + length whole
  laid_bound = omega (arith, l.end_is, ap length l.whole_is, length-append l.so_far rest)

  pub laid_on : (bytes : Bytes) {left out' : Bytes} {next : ℕ} → rest ≡ bytes ++ left → Stored bytes end out out' next →
      Laid start whole left before out' next
  laid_on bytes {left} e r =
      record {
        so_far = l.so_far ++ bytes;
        whole_is = l.whole_is ∙ ap (λ t. l.so_far ++ t) e ∙ sym (append_assoc l.so_far bytes left);
        end_is = omega (arith, r.next_is, l.end_is, length-append l.so_far bytes);
        out_is = stores_on before start l.so_far bytes l.out_is r.after_is l.end_is;
      }

  pub laid_ends : rest ≡ [] → Stored whole start before out end
  laid_ends e =
      let all : whole ≡ l.so_far = l.whole_is ∙ ap (λ t. l.so_far ++ t) e ∙ append-nil l.so_far in
      record { next_is = l.end_is ∙ ap (λ t. start + length t) (sym all); after_is = l.out_is ∙ ap (sets before start) (sym all) }

pub stored_length : {bytes : Bytes} {at : ℕ} {before after : Bytes} {next : ℕ} → Stored bytes at before after next → length after ≡ length before
stored_length {bytes} {at} {before} r = ap length r.after_is ∙ length-sets before at bytes
