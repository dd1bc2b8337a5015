-- What an answer of the code says of the definition that it is held to, and of the text.
use Rattle.std.specs.Prelude.{if◌then◌else◌, Result, Ok, Err}
use Prim.Native.Nat.{ℕ, ◌≤◌, ◌<◌}
use mathlib.Core.Path.{◌≡◌, refl, sym, ◌∙◌, ap}
use mathlib.Core.Bool.{Bool, true, false}
use native.Mathlib.Omega.{arith}
use lib.ListN.{length}
use Rattle.spec.specs.Outcome.{Outcome, ok, refused, ◌>>=◌}
use Rattle.spec.specs.Refusal.{not_json}
use Rattle.spec.specs.Fault.{number_of, outcome}
use Rattle.spec.specs.declared.refusal.Fault.{Fault}
use Rattle.spec.proofs.FaultLaws.{answer_ok, answer_refused, step_ok, step_err}
use Rattle.spec.specs.Bytes.{Bytes, byte, within, byte_in}
use Rattle.spec.specs.Strings.{hex_value, hex_in}
use Rattle.lexer.specs.declared.cursor.Cursor.{Cursor}
use Rattle.lexer.specs.declared.characters.Character.{Character}
use Rattle.lexer.specs.Answers.{character_outcome, scan_outcome}
use Rattle.lexer.proofs.Tests.{within_bounds, below_within, above_within}
use Rattle.lexer.proofs.ByteLaws.{inside}

-- each answer, said of the definition
pub scalar_ok : (c : Character) {r : Result Character Fault} {d : Outcome (ℕ × ℕ)} → character_outcome r ≡ d → r ≡ Ok c →
    d ≡ ok (c.code, c.next.at)
scalar_ok c e t = answer_ok _ c e t

pub character_refused : (x : Fault) {r : Result Character Fault} {d : Outcome (ℕ × ℕ)} → character_outcome r ≡ d → r ≡ Err x →
    d ≡ refused (number_of x.refusal) x.place
character_refused x e t = answer_refused _ x e t

pub to_ok : (next : Cursor) {r : Result Cursor Fault} {d : Outcome ℕ} → scan_outcome r ≡ d → r ≡ Ok next → d ≡ ok next.at
to_ok next e t = answer_ok _ next e t

pub scan_refused : (x : Fault) {r : Result Cursor Fault} {d : Outcome ℕ} → scan_outcome r ≡ d → r ≡ Err x →
    d ≡ refused (number_of x.refusal) x.place
scan_refused x e t = answer_refused _ x e t

pub ruleset steps = (step_ok, step_err)

-- the answer is a result, so the test was passed
pub passed : (t : Bool) (x n k p : ℕ) → (if t then ok x else refused k p) ≡ ok n → (t ≡ true) × (x ≡ n)
passed true x n k p e = (refl, cc)
passed false x n k p e = let z : ◌≡◌ {A = ℕ} 0 1 = cc in absurd (omega arith)

-- a number that was read lies between its bounds, and its byte within the text
pub record Taken (s : Bytes) (at low high n : ℕ) : Type 0 where
  pub least : low ≤ n
  pub most : n ≤ high
  pub here : at < length s

pub byte_taken : (s : Bytes) (at low high n : ℕ) → 1 ≤ low → byte_in s at low high ≡ ok n → Taken s at low high n
unfolding byte_in
byte_taken s at low high n h e =
    let p = passed (within low high (byte s at)) (byte s at) n not_json at e in
    let w = within_bounds low high (byte s at) p.0 in
    record {
      least = omega arith;
      most = omega arith;
      here = inside (within low high) (below_within low high 0 h) s at p.0;
    }

pub byte-within : (s : Bytes) (at low high n : ℕ) → byte_in s at low high ≡ ok n → within low high (byte s at) ≡ true
unfolding byte_in
byte-within s at low high n e = (passed (within low high (byte s at)) (byte s at) n not_json at e).0

pub byte_is : (s : Bytes) (at low high n : ℕ) → byte_in s at low high ≡ ok n → byte s at ≡ n
unfolding byte_in
byte_is s at low high n e = (passed (within low high (byte s at)) (byte s at) n not_json at e).1

hex_zero : hex_value 0 ≡ 16
unfolding hex_value within
hex_zero = refl

pub hex_taken : (s : Bytes) (at low high n : ℕ) → high ≤ 15 → hex_in s at low high ≡ ok n → Taken s at low high n
unfolding hex_in
hex_taken s at low high n h e =
    let p = passed (within low high (hex_value (byte s at))) (hex_value (byte s at)) n not_json at e in
    let w = within_bounds low high (hex_value (byte s at)) p.0 in
    record {
      least = omega arith;
      most = omega arith;
      here = inside (λ b. within low high (hex_value b)) (rw hex_zero (above_within low high 16 (omega arith))) s at p.0;
    }

-- the same of what the code answered
pub byte_known : (s : Bytes) (at low high n : ℕ) {r : Result ℕ Fault} → 1 ≤ low → outcome r ≡ byte_in s at low high → r ≡ Ok n →
    Taken s at low high n
byte_known s at low high n h e t = byte_taken s at low high n h (answer_ok _ n e t)

pub hex_known : (s : Bytes) (at low high n : ℕ) {r : Result ℕ Fault} → high ≤ 15 → outcome r ≡ hex_in s at low high → r ≡ Ok n →
    Taken s at low high n
hex_known s at low high n h e t = hex_taken s at low high n h (answer_ok _ n e t)
