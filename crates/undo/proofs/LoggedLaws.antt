-- Laws of what is answered with a log.
use Rattle.std.specs.Prelude.{Result, Ok, Err}
use Prim.Native.Nat.{ℕ}
use native.Mathlib.Omega.{arith}
use mathlib.Core.Path.{◌≡◌, ap, sym, ◌∙◌}
use Rattle.undo_log.specs.declared.log.Log.{Log}
use Rattle.undo.specs.declared.logged.Logged.{Logged}

module _ {E : Type 0} where
  -- the log of what is answered, and none of a refusal
  pub one_log : {x : Logged} {log : Log} → x.log ≡ log → (logged : Logged) → ◌≡◌ {A = Result Logged E} (Ok x) (Ok logged) → logged.log ≡ log
  one_log {x} is logged e = let same : x ≡ logged = cc in sym (ap (λ (l : Logged). l.log) same) ∙ is

  pub no_log : {x : E} {log : Log} → (logged : Logged) → ◌≡◌ {A = Result Logged E} (Err x) (Ok logged) → logged.log ≡ log
  no_log logged e = absurd (let z : ◌≡◌ {A = ℕ} 0 1 = cc in omega arith)

  pub nothing_logged : {C : Type 0} {x : E} {logged : Logged} → ◌≡◌ {A = Result Logged E} (Err x) (Ok logged) → C
  nothing_logged e = absurd (let z : ◌≡◌ {A = ℕ} 0 1 = cc in omega arith)
