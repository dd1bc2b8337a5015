-- Where the parts of a case stand, in a file of n bytes; and that a case ends behind its beginning.
use Rattle.std.specs.Prelude.{ℕ, ◌≤◌, ◌<◌, Option, IfSome}
use Rattle.cases.specs.declared.words.Part.{Part}
use Rattle.cases.specs.declared.words.Taken.{Taken}
use Rattle.cases.specs.declared.numbers.Three.{Three}
use Rattle.cases.specs.declared.reading.Case.{Case}

-- the place of a byte, `at` or behind it
abbrev pub Met : ℕ → ℕ → ℕ → Type 0
Met n at i = (at ≤ i) × (i < n)

-- a place behind `at`, at most the file's end
abbrev pub Behind : ℕ → ℕ → ℕ → Type 0
Behind n at next = (at < next) × (next ≤ n)

-- the same, or `at` itself
abbrev pub Onward : ℕ → ℕ → ℕ → Type 0
Onward n at next = (at ≤ next) × (at ≤ n → next ≤ n)

pub record Lies (n : ℕ) (p : Part) : Type 0 where
  pub starts : p.start ≤ p.end
  pub ends : p.end ≤ n

-- a part of the file, and a place behind it
abbrev pub PartIs : ℕ → ℕ → Taken Part → Type 0
PartIs n at t = Lies n t.value × Behind n at t.next

-- the place behind a number, and behind some of them
abbrev pub Numbered : ℕ → ℕ → Taken ℕ → Type 0
Numbered n at t = Behind n at t.next

abbrev pub Counted : ℕ → ℕ → Taken ℕ → Type 0
Counted n at t = Onward n at t.next

abbrev pub Measured : ℕ → ℕ → Taken (Three ℕ) → Type 0
Measured n at t = Onward n at t.next

abbrev pub TextIs : ℕ → ℕ → Taken Part → Type 0
TextIs n at t = (at ≤ n → Lies n t.value) × Onward n at t.next

pub record AllLie (n : ℕ) (texts : Three Part) : Type 0 where
  pub first : Lies n texts.first
  pub second : Lies n texts.second
  pub third : Lies n texts.third

abbrev pub TextsAre : ℕ → ℕ → Taken (Three Part) → Type 0
TextsAre n at t = (at ≤ n → AllLie n t.value) × Onward n at t.next

pub record Stands (n at : ℕ) (c : Case) : Type 0 where
  pub name : Lies n c.name
  pub texts : AllLie n c.texts
  pub next : Behind n at c.next

-- what holds of what is there
abbrev pub If : {A : Type 0} → (ℕ → ℕ → A → Type 0) → ℕ → ℕ → Option A → Type 0
If P n at o = IfSome o (P n at)
