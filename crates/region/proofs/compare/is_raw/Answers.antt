-- `is_raw` meets its contract: no byte of the region is escaped.
use Prim.Native.Nat.{ℕ, ◌<◌}
use native.Mathlib.Omega.{arith}
use mathlib.Core.Path.{◌≡◌, subst}
use mathlib.Core.Bool.{true}
use lib.ListN.{length}
use borrow.Author.Tests.{not-true}
use Rattle.std.proofs.Common.{MatchBool, rules}
use Rattle.std.specs.List.{HoldsAt, AllWithin}
use Rattle.std.proofs.lemmas.Iterator.{cases_from_any, YieldsList-from_slice}
use Rattle.lexer.specs.Names.{stands_for_itself}
use Rattle.spec.specs.Bytes.{byte}
use Rattle.region.proofs.compare.is_raw.Goals as goal

abbrev Plain : ℕ → Type 0
Plain x = x < 0x80 → stands_for_itself x ≡ true

pub returns : goal.returns
unfolding byte
returns c e =
    let xs = c.args.region.now in
    let cases = cases_from_any _ _ _ (λ (x : ℕ). Unit {0}) Plain c.any.ensures.ran (YieldsList-from_slice xs cc) (λ x q k. tt) (λ x q k. search rules) in
    let each : AllWithin Plain xs 0 (length xs) = subst (λ r. MatchBool r ((k : ℕ) × (k < length xs) × HoldsAt (λ (x : ℕ). Unit {0}) xs k) (AllWithin Plain xs 0 (length xs))) (not-true _ e) cases in
    record { each = λ i h. each i 0 (omega arith) h }
